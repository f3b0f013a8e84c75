-- Quoting and unquoting, on lists. W-202: "A value that isn't dot-atom-text is quoted, with a backslash before quotes and backslashes only." What stands
-- between the quotes, and dot-atom-text as it is, is the value's part of the line. Taking the backslashes out of a part gives the value
-- (`unescaped_escaped`, proofs/Laws/Quoting.antt).
use Rattle.std.specs.Prelude.{ℕ, List, [], ◌∷◌, ◌++◌, Bool, cond, ◌||◌, eqb}

-- DQUOTE
abbrev pub quote : ℕ
quote = 34

abbrev pub backslash : ℕ
backslash = 92

unfoldable pub is_marked : ℕ → Bool
is_marked b = eqb b quote || eqb b backslash

-- "with a backslash before quotes and backslashes only"
unfoldable pub escaped_byte : ℕ → List ℕ
escaped_byte b = cond (is_marked b) (backslash ∷ b ∷ []) (b ∷ [])

unfoldable pub escaped : List ℕ → List ℕ
escaped [] = []
escaped (b ∷ v) = escaped_byte b ++ escaped v

-- DQUOTE, the value with its backslashes, DQUOTE
abbrev pub quoted : List ℕ → List ℕ
quoted v = quote ∷ (escaped v ++ (quote ∷ []))

-- "a second call takes out its backslashes": the byte after a backslash stands for itself; defined for every list, so that a last backslash stays
unfoldable pub unescaped : List ℕ → List ℕ
unescaped [] = []
unescaped (b ∷ []) = b ∷ []
unescaped (b ∷ c ∷ s) = cond (eqb b backslash) (c ∷ unescaped s) (b ∷ unescaped (c ∷ s))
