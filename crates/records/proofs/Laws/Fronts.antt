-- The ways out of `read_ip4`, which reads octets and looks for no slash. Octets and dots hold none, so they end at the first slash or before it; where
-- they end before it, the part up to the slash is no network, and what follows them is no length. From the laws of Runs, Reading, and networks' Fronts
-- and Lengths.
use Rattle.std.proofs.Common.{None, Option, Some}
use Prim.Native.Nat.{ℕ, suc, ◌+◌, ◌-◌, ◌≤◌, ◌<◌}
use mathlib.Core.Path.{◌≡◌, refl, sym, ap, subst, ◌∙◌}
use mathlib.Core.Logic.{⊎_elim}
use mathlib.Core.List.{List}
use mathlib.Core.Bool.{true, false}
use native.Mathlib.Omega.{arith}
use lib.ListN.{length, drop}
use lib.Seq.{drop-cons, get_or-drop}
use lib.Dec.{eqb}
use borrow.Author.Tests.{eqb-true, not-false}
use Rattle.address.specs.declared.Address.TheVariants.{IPv4}
use Rattle.text.specs.Bytes.{at, part, is_not_slash}
use Rattle.text.specs.Runs.{is_in, run_end}
use Rattle.text.specs.declared.bytes.Class.TheVariants.{NotSlash}
use Rattle.text.proofs.Laws.Tests.{true_false}
use Rattle.text.proofs.Laws.Orders.{le_or_lt}
use Rattle.text.proofs.Laws.Classes.{past_end}
use Rattle.text.proofs.Laws.Spans.{rest_part, span_part}
use Rattle.text.proofs.Laws.Runs.{run_end_from, run_end_inside, run_end_stops, run_within}
use Rattle.networks.specs.Reader.{front, read_ip4, read_length4, front_at}
use Rattle.networks.specs.declared.Front.{Front}
use Rattle.networks.proofs.Laws.Fronts.{Stops, stops_end, stops_slash, Cut, whole, short, cut_none, cut_end, front_cut}
use Rattle.networks.proofs.Laws.Lengths.{length4_other}
use Rattle.records.specs.Reader.{network_term, ip4_of}
use Rattle.records.proofs.Laws.Networks.{slash_stops}
use Rattle.records.proofs.Laws.Reading.{after_colon, no_network, no_length, network_found}
use Rattle.address.specs.declared.Address.{Address}
use Rattle.records.specs.declared.Term.{Term}

-- the first slash from a place on, or the end
abbrev slash_at : List ℕ → ℕ → ℕ
slash_at w from = run_end (is_in NotSlash) w from

slash_is : (b : ℕ) → is_in NotSlash b ≡ false → b ≡ 47
unfolding is_in is_not_slash
slash_is b h = eqb-true b 47 (not-false (eqb b 47) h)

module _ (w : List ℕ) (from : ℕ) where
  stops_at_slash : Stops (at w (slash_at w from))
  stops_at_slash = ⊎_elim
      (λ (h : length w ≤ slash_at w from). rw (← (past_end w (slash_at w from) h)) stops_end)
      (λ (h : slash_at w from < length w). rw (slash_is (at w (slash_at w from)) (run_end_stops (is_in NotSlash) w from h)) stops_slash)
      (le_or_lt (length w) (slash_at w from))

  -- no slash stands before it
  no_slash : (end : ℕ) → from ≤ end → end < slash_at w from → is_in NotSlash (at w end) ≡ true
  unfolding run_end
  no_slash end h l =
      let e : from + (end - from) ≡ end = omega arith in
      rw (get_or-drop from w (end - from) 0, e) at (run_within (is_in NotSlash) (drop from w) (end - from) (omega arith))

  module _ (inside : from ≤ length w) where
    slash_within : slash_at w from ≤ length w
    slash_within = run_end_inside (is_in NotSlash) w from inside

    cut_at_slash : Cut from (slash_at w from) (read_ip4 (part w from (slash_at w from))) (front_at w from)
    cut_at_slash = front_cut (span_part w from (slash_at w from) (run_end_from (is_in NotSlash) w from) slash_within) stops_at_slash

    no_length_before : (end : ℕ) → from ≤ end → end < slash_at w from → read_length4 (part w end (length w)) ≡ None
    no_length_before end h l =
        rw (rest_part w end, drop-cons w end 0 (omega (arith, slash_within)))
        (length4_other (at w end) (drop (suc end) w) (λ e. true_false _ (no_slash end h l) (ap (is_in NotSlash) e ∙ slash_stops)))

    term_at_slash : (sign : ℕ) {v end : ℕ} {x : Option Address} → Cut from (slash_at w from) x (Some (front v end))
        → network_term sign from end (Some (IPv4 v)) (read_length4 (part w end (length w)))
        ≡ network_term sign from (slash_at w from) x (read_length4 (part w (slash_at w from) (length w)))
    term_at_slash sign (whole e) = rw e
    term_at_slash sign (short h l) =
        sym (no_length sign from _ _ _ _ refl (no_length_before _ h l)) ∙ no_network sign from _ _ _ refl

-- after a colon, with what the code has read from there on
module _ (w : List ℕ) (k b : ℕ) (p : b ≡ at w k) (colon : b ≡ 58) (r : Option Front) (q : r ≡ front_at w (k + 1)) where
  cut : {x : Option Front} → r ≡ x → Cut (k + 1) (slash_at w (k + 1)) (read_ip4 (part w (k + 1) (slash_at w (k + 1)))) x
  cut e = subst (Cut (k + 1) (slash_at w (k + 1)) (read_ip4 (part w (k + 1) (slash_at w (k + 1))))) (sym q ∙ e) (cut_at_slash w (k + 1) (after_colon w k b p colon))

  up_to_slash : (sign : ℕ) (x : Option Term)
      → x ≡ network_term sign (k + 1) (slash_at w (k + 1)) (read_ip4 (part w (k + 1) (slash_at w (k + 1)))) (read_length4 (part w (slash_at w (k + 1)) (length w)))
      → x ≡ ip4_of sign k w
  up_to_slash sign x e = network_found read_ip4 read_length4 sign k w b p colon (slash_at w (k + 1)) refl _ refl _ refl x e

  pub front_none : r ≡ None → (sign : ℕ) → None ≡ ip4_of sign k w
  front_none e sign = up_to_slash sign None (no_network sign (k + 1) _ _ _ (sym (cut_none (cut e))))

  module _ (t : Front) (e : r ≡ Some t) where
    pub front_inside : t.end ≤ length w
    front_inside = omega (arith, cut_end {v = t.value} {end = t.end} (cut e), slash_within w (k + 1) (after_colon w k b p colon))

    pub front_found : (n : Option ℕ) → n ≡ read_length4 (part w t.end (length w)) → (sign : ℕ) (x : Option Term)
        → x ≡ network_term sign (k + 1) t.end (Some (IPv4 t.value)) n → x ≡ ip4_of sign k w
    front_found n h sign x f =
        up_to_slash sign x (f ∙ ap (network_term sign (k + 1) t.end (Some (IPv4 t.value))) h
        ∙ term_at_slash w (k + 1) (after_colon w k b p colon) sign {v = t.value} {end = t.end} (cut e))
