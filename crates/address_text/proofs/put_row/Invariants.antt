-- `address_text::put_row` meets its contract. From the laws of Rows.
use Prim.Native.Nat.{ℕ, suc, ◌^◌}
use mathlib.Core.Path.{◌≡◌}
use mathlib.Core.List.{List}
use lib.ListN.{length}
use Rattle.address_text.specs.Rows.{Gives, Below}
use Rattle.address_text.proofs.Laws.Rows.{Joined}
use Rattle.address_text.proofs.put_row.Given as goal

abbrev pub invariant-loop-i : goal.invariant-loop-i
invariant-loop-i g l =
    record {
      joined : (f : ℕ) (xs : List ℕ) → l.n ≡ length xs → Gives (goal.F-post g l.number) xs → Below (l.base ^ suc f) xs
          → Joined f l.base l.separator xs l.fn.out.out.now l.fn.out.at l.i l.out.out.now l.out.at;
      same : l.out.out.ghost_name ≡ l.fn.out.out.ghost_name;
    }
