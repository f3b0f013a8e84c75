-- `text::fields::after_fields` meets its contract. From the laws of Fields.
use Prim.Native.Nat.{◌-◌, ◌≤◌}
use mathlib.Core.Path.{◌≡◌}
use lib.ListN.{length}
use Rattle.text.specs.Fields.{after_fields}
use Rattle.text.proofs.fields.after_fields.Given as goal

abbrev pub invariant-loop : goal.invariant-loop
invariant-loop l = (length l.rest ≤ length l.s) × (after_fields l.separator (l.k - l.counter) l.rest ≡ after_fields l.separator l.k l.s)
