-- `publishing::offences::Seen::after` meets its contract. From the laws of Walking.
use Rattle.std.proofs.Common.{◌≡◌, ◌||◌}
use Rattle.publishing.proofs.Laws.Walking.{or_holds, or_rest}
use Rattle.publishing.proofs.Laws.Walking.{after_is}
use Rattle.publishing.proofs.offences.Seen.after.Goals.{then-self, else-self, then-self-2, else-self-2, then-self-3, else-self-3}
use Rattle.publishing.proofs.offences.Seen.after.Goals as goal

pub returns : goal.returns
returns c =
    let x = c.args.self in
    let f = c.args.facts in
    let p : c.if-self.result ≡ (x.all || f.all) = elim c.if-self.branch [ then-self w ↦ or_holds _ _ _ w.if-self.true w.result-is | else-self w ↦ or_rest _ _ _ w.if-self.false w.result-is ] in
    let q : c.if-self-2.result ≡ (x.redirect || f.redirect) =
    elim c.if-self-2.branch [ then-self-2 w ↦ or_holds _ _ _ w.if-self-2.true w.result-is | else-self-2 w ↦ or_rest _ _ _ w.if-self-2.false w.result-is ] in
    let r : c.if-self-3.result ≡ (x.modifier || f.modifier) =
    elim c.if-self-3.branch [ then-self-3 w ↦ or_holds _ _ _ w.if-self-3.true w.result-is | else-self-3 w ↦ or_rest _ _ _ w.if-self-3.false w.result-is ] in
    after_is x f _ _ _ _ p q r c.count_after.ensures
