-- Whether any item of an address answer matches the client, item after item.
use Rattle.std.proofs.Common.{Option, Some}
use Prim.Native.Nat.{ℕ}
use mathlib.Core.Path.{◌≡◌}
use mathlib.Core.List.{List, [], ◌∷◌}
use mathlib.Core.Bool.{Bool, true, false, not, ◌||◌}
use lib.Dec.{eqb}
use borrow.Author.Tests.{eq-eqb, ne_eqb}
use Rattle.address.specs.declared.Address.{Address}
use Rattle.address.specs.Octets.{from_octets}
use Rattle.address.specs.Matching.{matches_at}
use Rattle.answer_table.specs.Reader.{items_of}
use Rattle.rules.specs.Tables.{reply_by}
use Rattle.rules.specs.Mechanisms.{item_matches, any_matches, width, includes_client}

-- one item
pub item_is : (client : Address) (n : ℕ) (o : Option Address) (a : Address) → o ≡ Some a → (r : Bool) → r ≡ matches_at client a n → r ≡ item_matches client n o
unfolding item_matches
item_is client n o a e r m = rw e m

-- before the items left nothing has matched
module _ (client : Address) (n : ℕ) (s left : List (List ℕ)) (inv : any_matches client n left ≡ any_matches client n s) where
  pub any_end : left ≡ [] → false ≡ any_matches client n s
  unfolding any_matches
  any_end e = rw e at inv

  module _ (d : List ℕ) (ds : List (List ℕ)) (e : left ≡ d ∷ ds) (o : Option Address) (f : o ≡ from_octets d) (r : Bool) (m : r ≡ item_matches client n o) where
    step : (r || any_matches client n ds) ≡ any_matches client n s
    unfolding any_matches
    step = rw (m, f) (rw e at inv)

    pub any_found : r ≡ true → true ≡ any_matches client n s
    any_found h = rw h at step

    pub any_next : r ≡ false → any_matches client n ds ≡ any_matches client n s
    any_next h = rw h at step

-- includes_client
module _ (client : Address) (status : ℕ) (s : List ℕ) where
  pub includes_failed : status ≡ 2 → not (eqb status 2) ≡ includes_client client (reply_by status (items_of s))
  unfolding reply_by includes_client
  includes_failed h = rw (eq-eqb status 2 h)

  pub includes_items : (status ≡ 2 → ⊥) → (w : ℕ) → w ≡ width client → (r : Bool) → r ≡ any_matches client w (items_of s) → r ≡ includes_client client (reply_by status (items_of s))
  unfolding reply_by includes_client
  includes_items h w k r e = rw (ne_eqb status 2 h, ← k) e
