-- "while over 253 bytes, labels leave from the left, each with its dot, as long as a dot remains"
use Rattle.std.specs.Prelude.{ℕ, List, [], ◌∷◌, cond, length, leb}
use Rattle.text.specs.Lists.{join}
use Rattle.domain.specs.Names.{labels, most_name}

-- the labels that stay
unfoldable pub shorter_labels : List (List ℕ) → List (List ℕ)
shorter_labels [] = []
shorter_labels (x ∷ []) = x ∷ []
shorter_labels (x ∷ y ∷ r) = cond (leb (length (join (x ∷ y ∷ r))) most_name) (x ∷ y ∷ r) (shorter_labels (y ∷ r))

-- the name that they make
unfoldable pub shortened : List ℕ → List ℕ
shortened s = join (shorter_labels (labels s))
