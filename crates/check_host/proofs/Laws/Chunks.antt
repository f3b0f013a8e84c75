-- What is held, chunk after chunk: the ways of the loop of `read_input`. From the definitions of Keeping of `check_input`.
use Prim.Native.Nat.{ℕ, ◌≤◌}
use mathlib.Core.Path.{◌≡◌, refl, sym, ap, ◌∙◌}
use mathlib.Core.List.{List, [], ◌∷◌, ◌++◌}
use native.Mathlib.Omega.{arith}
use lib.ListN.{length, take, drop, length-append, length-drop}
use lib.Seq.{take_at, sets, length-sets}
use Rattle.text.specs.Bytes.{part}
use Rattle.text.proofs.Laws.Writing.{over_fits}
use Rattle.check_input.specs.Keeping.{kept, Held, holding}
use Rattle.check_host.specs.Reading.{HoldsChunks}

pub record Holding (held₀ held : List ℕ) (n : ℕ) : Type 0 where
  pub same_size : length held ≡ length held₀
  pub small : n ≤ 66698
  pub holds : HoldsChunks held n

pub holding_start : (held : List ℕ) → Holding held held 0
unfolding holding
holding_start held = record { same_size = refl; small = omega arith; holds = record { chunks = []; front = refl } }

one_more_lem : (cs : List (List ℕ)) (h c : List ℕ) → holding h (cs ++ (c ∷ [])) ≡ kept (holding h cs ++ c)
unfolding holding
one_more_lem [] h c = refl
one_more_lem (b ∷ cs) h c = one_more_lem cs (kept (h ++ b)) c

module _ (held₀ held : List ℕ) (n : ℕ) (w : Holding held₀ held n) where
  pub holding_on : 132234 ≤ length held₀ → (chunk : List ℕ) (got : ℕ) (held' : List ℕ) (r : ℕ) → Held held n (part chunk 0 got) held' r → Holding held₀ held' r
  holding_on h chunk got held' r e =
      let c = part chunk 0 got in
      let k = kept (take n held ++ c) in
      let l : length (sets held n c) ≡ length held₀ = length-sets held n c ∙ w.same_size in
      let f : held' ≡ k ++ drop (length k) (sets held n c) = e.buffer ∙ over_fits k (sets held n c) (omega (arith, e.size, e.small)) in
      record {
        same_size = ap length f ∙ rw (length-append, length-drop) (omega (arith, l, e.size, e.small));
        small = e.small;
        holds = record {
          chunks = w.holds.chunks ++ (c ∷ []);
          front = ap (take r) f ∙ take_at k (drop (length k) (sets held n c)) r (sym e.size) ∙ rw w.holds.front (sym (one_more_lem w.holds.chunks [] c));
        };
      }
