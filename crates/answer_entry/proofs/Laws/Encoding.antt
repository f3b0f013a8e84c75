-- The bytes of an entry: their number, written piece after piece, and when what is written is what the layout says. From the definitions of
-- Encoding and the laws on writing of `text`.
use Prim.Native.Nat.{ℕ, ◌+◌, ◌/◌, ◌%◌, ◌≤◌}
use mathlib.Core.Path.{◌≡◌, subst}
use mathlib.Core.List.{List, [], ◌∷◌, ◌++◌}
use native.Mathlib.Omega.{arith}
use lib.ListN.{length, length-append}
use Rattle.text.specs.Writing.{Wrote}
use Rattle.text.proofs.Laws.Writing.{wrote_then}
use Rattle.answer_table.specs.Layout.{Two, two, lifetime_bytes, Lifetime, seconds, body, header_size}
use Rattle.answer_table.specs.declared.Layout.TheVariants.{New}
use Rattle.answer_entry.specs.Encoding.{two_bytes, four_bytes, entry_bytes, low_bytes, head_bytes, written_bytes}

-- two bytes tell their number
pub two_bytes_lem : (n : ℕ) → Two (two_bytes n) n
unfolding two_bytes
two_bytes_lem n = subst (λ (m : ℕ). Two (n % 256 ∷ n / 256 ∷ []) m) (omega arith) two

-- and four bytes theirs
pub four_bytes_lem : (n : ℕ) → Lifetime New (four_bytes n) n
unfolding four_bytes
four_bytes_lem n = subst (λ (m : ℕ). Lifetime New (n % 256 ∷ n / 256 % 256 ∷ n / 65536 % 256 ∷ n / 16777216 ∷ []) m) (omega arith) (seconds two two)

module _ (kind status lifetime : ℕ) (name items : List ℕ) where
  length_body : length (body (two_bytes kind) status (four_bytes lifetime) name items) ≡ 8 + (length name + length items)
  unfolding body two_bytes four_bytes
  length_body = simp length-append (omega arith)

  pub length_entry : length (entry_bytes kind status lifetime name items) ≡ header_size New + (length name + length items)
  unfolding entry_bytes two_bytes lifetime_bytes
  length_entry = omega (arith, length_body)

  -- what is written is the entry's bytes where no number is too large for its room
  pub written_is : kind ≤ 65535 → length name ≤ 255 → length (entry_bytes kind status lifetime name items) ≤ 65537
      → written_bytes kind status lifetime name items ≡ entry_bytes kind status lifetime name items
  unfolding written_bytes head_bytes low_bytes entry_bytes body two_bytes four_bytes
  written_is h k l =
      let b = length (body (two_bytes kind) status (four_bytes lifetime) name items) in
      let m : 8 + length name % 256 + length items % 65536 ≡ b = omega (arith, length_body) in
      let n : length name % 256 ≡ length name = omega arith in
      let o : kind / 256 % 256 ≡ kind / 256 = omega arith in
      let p : b / 256 % 256 ≡ b / 256 = omega (arith, length_body, length_entry) in
      rw (m, n, o, p)

module _ (out : List ℕ) (at : ℕ) (o₁ : List ℕ) (n₁ : ℕ) (o₂ : List ℕ) (n₂ : ℕ) where
  module _ (o₃ : List ℕ) (n₃ : ℕ) (kind status lifetime : ℕ) (name : List ℕ) where
    pub head_written : (o₄ : List ℕ) (n₄ : ℕ) (o₅ : List ℕ) (n₅ : ℕ) → Wrote (low_bytes kind) out at o₁ n₁ → Wrote (status ∷ []) o₁ n₁ o₂ n₂
        → Wrote (four_bytes lifetime) o₂ n₂ o₃ n₃ → Wrote (length name % 256 ∷ []) o₃ n₃ o₄ n₄ → Wrote name o₄ n₄ o₅ n₅
        → Wrote (head_bytes kind status lifetime name) out at o₅ n₅
    unfolding head_bytes
    head_written o₄ n₄ o₅ n₅ u v t w x =
        let k = low_bytes kind in
        let s = status ∷ [] in
        let f = four_bytes lifetime in
        let m = length name % 256 ∷ [] in
        wrote_then out at (k ++ s ++ f ++ m) name o₄ o₅ n₄ n₅
        (wrote_then out at (k ++ s ++ f) m o₃ o₄ n₃ n₄
        (wrote_then out at (k ++ s) f o₂ o₃ n₂ n₃ (wrote_then out at k s o₁ o₂ n₁ n₂ u v) t) w)
        x

    pub entry_written : (items : List ℕ) → Wrote (low_bytes (8 + length name % 256 + length items % 65536)) out at o₁ n₁
        → Wrote (head_bytes kind status lifetime name) o₁ n₁ o₂ n₂ → Wrote items o₂ n₂ o₃ n₃ → Wrote (written_bytes kind status lifetime name items) out at o₃ n₃
    unfolding written_bytes
    entry_written items u v w =
        let l = low_bytes (8 + length name % 256 + length items % 65536) in
        wrote_then out at (l ++ head_bytes kind status lifetime name) items o₂ o₃ n₂ n₃
        (wrote_then out at l (head_bytes kind status lifetime name) o₁ o₂ n₁ n₂ u v) w
