-- Lists: equality, a test of every element, splitting and joining.
use Rattle.std.specs.Prelude.{ℕ, ◌-◌, List, [], ◌∷◌, ◌++◌, map, Bool, true, false, cond, ◌&&◌, ◌||◌, length, drop, eqb}
use Rattle.text.specs.Bytes.{lower}

-- whether two lists are the same
unfoldable pub same : List ℕ → List ℕ → Bool
same [] [] = true
same [] (y ∷ ys) = false
same (x ∷ xs) [] = false
same (x ∷ xs) (y ∷ ys) = eqb x y && same xs ys

-- whether a word is a given one in either case of its letters; the given one is in lower case
unfoldable pub same_word : List ℕ → List ℕ → Bool
same_word w word = same (map lower w) word

-- whether a byte stands in a list
unfoldable pub contains : List ℕ → ℕ → Bool
contains [] b = false
contains (x ∷ xs) b = eqb b x || contains xs b

-- whether a test holds of every element
unfoldable pub all : {A : Type 0} → (A → Bool) → List A → Bool
all p [] = true
all p (x ∷ xs) = p x && all p xs

-- the right-most n; all where there are no more
unfoldable pub rightmost : {A : Type 0} → ℕ → List A → List A
rightmost n xs = drop (length xs - n) xs

-- b before the first part
unfoldable pub grow : ℕ → List (List ℕ) → List (List ℕ)
grow b [] = (b ∷ []) ∷ []
grow b (x ∷ xs) = (b ∷ x) ∷ xs

-- the parts between the delimiters; empty parts stay
unfoldable pub split : (ℕ → Bool) → List ℕ → List (List ℕ)
split delimiter [] = [] ∷ []
split delimiter (b ∷ s) = cond (delimiter b) ([] ∷ split delimiter s) (grow b (split delimiter s))

-- each part with a separator before it
unfoldable pub separator_before : ℕ → List (List ℕ) → List ℕ
separator_before separator [] = []
separator_before separator (x ∷ xs) = separator ∷ x ++ separator_before separator xs

-- the parts joined by a separator
unfoldable pub join_by : ℕ → List (List ℕ) → List ℕ
join_by separator [] = []
join_by separator (x ∷ xs) = x ++ separator_before separator xs

-- the parts joined by dots
abbrev pub join : List (List ℕ) → List ℕ
join xs = join_by 46 xs
