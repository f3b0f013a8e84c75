-- The numbers and octets of each case of an answer: one rule for each way out of the functions that write them. From the definitions of specs/.
use Rattle.std.proofs.Common.{Result, Ok, Err}
use Prim.Native.Nat.{ℕ, ◌+◌, ◌-◌, ◌≤◌, ◌<◌, ◌^◌}
use mathlib.Core.Path.{◌≡◌, refl, sym, ap, ◌∙◌}
use mathlib.Core.List.{List, [], ◌∷◌, ◌++◌}
use native.Mathlib.Omega.{arith}
use lib.ListN.{length}
use Rattle.text.specs.Writing.{overwritten}
use Rattle.text.specs.Bytes.{at}
use Rattle.text.proofs.Laws.Writing.{over_fits}
use Rattle.answer_table.specs.Numbers.{reported}
use Rattle.answer_table.specs.declared.TableError.{TableError}
use Rattle.answer_table.specs.declared.TableError.TheVariants.{TooLong, Malformed, Repeated}
use Rattle.answer_entry.specs.Numbers.{outcome_of}
use Rattle.answer_entry.specs.declared.AppendError.{AppendError}
use Rattle.old_layout.specs.Numbers.{outcome_of as addedOutcome}
use Rattle.address.specs.declared.Address.{Address}
use Rattle.address.specs.declared.Address.TheVariants.{IPv4, IPv6}
use Rattle.address.specs.Octets.{octets_of, octets}
use Rattle.records.specs.declared.Term.{Term}
use Rattle.talavorn.specs.declared.numbers.Shape.{Shape}
use Rattle.talavorn.specs.Numbers.{table_numbers, appended_numbers, added_numbers, shape, network_shape, shape_of, Inside, network_of, term_row}

-- `put_octets`
module _ (a : Address) (b d xs : List ℕ) where
  pub octets_four : (v : ℕ) → a ≡ IPv4 v → xs ≡ octets_of 4 v → d ≡ overwritten xs b → (4 ≡ length (octets a)) × (d ≡ overwritten (octets a) b)
  unfolding octets octets_of
  octets_four v e p w = (rw e, w ∙ rw (e, p))

  pub octets_sixteen : (h l : ℕ) → a ≡ IPv6 h l → xs ≡ octets_of 8 h ++ octets_of 8 l → d ≡ overwritten xs b
      → (16 ≡ length (octets a)) × (d ≡ overwritten (octets a) b)
  unfolding octets octets_of
  octets_sixteen h l e p w = (rw e, w ∙ rw (e, p))

-- `put_network`
pub network_written : (t : Term) (sign from to : ℕ) (a : Address) (n : ℕ) → t ≡ Term.Network sign from to a n → (b d : List ℕ) (r : ℕ)
    → (r ≡ length (octets a)) × (d ≡ overwritten (octets a) b) → d ≡ overwritten (network_of t) b
unfolding network_of
network_written t sign from to a n e b d r h = h.1 ∙ rw e

pub nothing_written : (b : List ℕ) → b ≡ overwritten [] b
nothing_written b = sym (over_fits [] b (omega arith))

pub no_network : (t : Term) → ((sign from to : ℕ) (a : Address) (n : ℕ) → t ≡ Term.Network sign from to a n → ⊥) → (b : List ℕ) → b ≡ overwritten (network_of t) b
unfolding network_of
no_network (Term.Network sign from to a n) h b = absurd (h sign from to a n refl)
no_network (Term.All sign) h b = nothing_written b
no_network (Term.Include sign from to) h b = nothing_written b
no_network (Term.A sign from to n m) h b = nothing_written b
no_network (Term.Mx sign from to n m) h b = nothing_written b
no_network (Term.Ptr sign from to) h b = nothing_written b
no_network (Term.Exists sign from to) h b = nothing_written b
no_network (Term.Redirect from to) h b = nothing_written b
no_network (Term.Explanation from to) h b = nothing_written b
no_network (Term.Unknown name to) h b = nothing_written b

-- `network`
module _ (sign from to n : ℕ) (a : Address) (x : Shape) where
  pub network_four : (v : ℕ) → a ≡ IPv4 v → x ≡ shape 6 sign from to n 0 → x ≡ network_shape sign from to a n
  unfolding network_shape
  network_four v e h = h ∙ rw e

  pub network_six : (high low : ℕ) → a ≡ IPv6 high low → x ≡ shape 7 sign from to 0 n → x ≡ network_shape sign from to a n
  unfolding network_shape
  network_six high low e h = h ∙ rw e

-- `shape_of`
pub shape_by : (size : ℕ) (t u : Term) (x : Shape) → t ≡ u → x ≡ shape_of size u → x ≡ shape_of size t
shape_by size t u x e h = h ∙ rw e

pub name_room : (size : ℕ) (t : Term) (name to : ℕ) → t ≡ Term.Unknown name to → Inside size t → size < 2 ^ 64 → name + 1 < 2 ^ 64
unfolding shape_of
name_room size t name to e h l = let k : Inside size (Term.Unknown name to) = rw e at h in omega (arith, k.0, k.1)

-- `put_term`
module _ (at next : ℕ) (t : Term) (x : Shape) (e : x ≡ shape_of (next - at) t) (h : (at ≤ next) × Inside (next - at) t) (l : next < 2 ^ 64) where
  pub from_room : at + x.from < 2 ^ 64
  from_room = let p : x.from ≡ (shape_of (next - at) t).from = ap (λ (s : Shape). s.from) e in omega (arith, h.0, h.1.0, h.1.1)

  pub to_room : at + x.to < 2 ^ 64
  to_room = let p : x.to ≡ (shape_of (next - at) t).to = ap (λ (s : Shape). s.to) e in omega (arith, h.0, h.1.1)

pub row_by : (at next : ℕ) (x y : Shape) → x ≡ y → term_row at next x ≡ term_row at next y
row_by at next x y e = rw e

-- `put_appended` and `talavorn_add_lifetimes`: the numbers of a table's refusal, as `put_table` hands them out
table_refused : (e : TableError) (r place size : ℕ) → (r ∷ place ∷ []) ≡ table_numbers (reported (Err e))
    → (r ∷ size ∷ place ∷ []) ≡ appended_numbers size (outcome_of (Err (AppendError.Table e)))
unfolding table_numbers appended_numbers
table_refused TooLong r place size h = ap (λ (l : List ℕ). at l 0 ∷ size ∷ at l 1 ∷ []) h
table_refused (Malformed p) r place size h = ap (λ (l : List ℕ). at l 0 ∷ size ∷ at l 1 ∷ []) h
table_refused (Repeated p) r place size h = ap (λ (l : List ℕ). at l 0 ∷ size ∷ at l 1 ∷ []) h

pub appended_refused : (x : AppendError) (e : TableError) → x ≡ AppendError.Table e → (r place : ℕ)
    → (r ∷ place ∷ []) ≡ table_numbers (reported (Err e)) → (size : ℕ) → (r ∷ size ∷ place ∷ []) ≡ appended_numbers size (outcome_of (Err x))
appended_refused x e q r place h size = rw q (table_refused e r place size h)

pub appended_row : (x : Result ℕ AppendError) (e : AppendError) → x ≡ Err e → (r size place : ℕ)
    → ((n : ℕ) → (r ∷ n ∷ place ∷ []) ≡ appended_numbers n (outcome_of (Err e))) → (r ∷ size ∷ place ∷ []) ≡ appended_numbers size (outcome_of x)
appended_row x e q r size place h = rw q (h size)

pub added_row : (x : Result ℕ TableError) → table_numbers (reported x) ≡ added_numbers (addedOutcome x)
unfolding table_numbers added_numbers
added_row (Ok n) = refl
added_row (Err TooLong) = refl
added_row (Err (Malformed p)) = refl
added_row (Err (Repeated p)) = refl
