-- `networks::ip4::read_octet` meets its contract. The loop's invariant: v is the value of the digits passed, and the digits from i on are the rest of
-- the run. From the laws of Octets and Digits.
use Rattle.std.proofs.Common.{arith}
use mathlib.Core.Path.{◌≡◌}
use Rattle.text.proofs.Laws.Digits.{digit_least}
use Rattle.networks.proofs.Laws.Octets.{end_at, passed_start, passed_next, octet_over, end_here, end_out, octet_first, octet_empty, octet_zero, octet_one, octet_more}
use Rattle.networks.proofs.ip4.read_octet.Goals.{else-loop-i-test, then-loop-i-test+else-is_within, then-i-at-gt1+else-s-at-eq48, else-i-at-gt1}
use Rattle.networks.proofs.ip4.read_octet.Goals as goal

pub loop-i-init : goal.loop-i-init
loop-i-init c = search passed_start

pub overflow_sub-v : goal.overflow_sub-v
overflow_sub-v c = search digit_least

pub overflow_cast-v : goal.overflow_cast-v
overflow_cast-v c = omega (arith, c.type_inv.s c.loop-i.i)

pub overflow_add-v : goal.overflow_add-v
overflow_add-v c = omega (arith, c.type_inv.s c.loop-i.i)

pub returns-then-v-gt255 : goal.returns-then-v-gt255
returns-then-v-gt255 c = search octet_over

pub loop-i-preserved : goal.loop-i-preserved
loop-i-preserved c = search passed_next

pub returns-then-i-at : goal.returns-then-i-at
returns-then-i-at c =
    let e : c.loop-i.i ≡ end_at c.args.s.now c.args.at = elim c.loop-i-test.branch [ else-loop-i-test w ↦ search end_out | then-loop-i-test+else-is_within w ↦ search end_here ] in
    search octet_empty

pub bounds-s-at : goal.bounds-s-at
bounds-s-at c =
    let e : c.loop-i.i ≡ end_at c.args.s.now c.args.at = elim c.loop-i-test.branch [ else-loop-i-test w ↦ search end_out | then-loop-i-test+else-is_within w ↦ search end_here ] in
    search octet_first

pub returns-then-s-at-eq48 : goal.returns-then-s-at-eq48
returns-then-s-at-eq48 c =
    let e : c.loop-i.i ≡ end_at c.args.s.now c.args.at = elim c.loop-i-test.branch [ else-loop-i-test w ↦ search end_out | then-loop-i-test+else-is_within w ↦ search end_here ] in
    search octet_zero

pub returns : goal.returns
returns c =
    let e : c.loop-i.i ≡ end_at c.args.s.now c.args.at = elim c.loop-i-test.branch [ else-loop-i-test w ↦ search end_out | then-loop-i-test+else-is_within w ↦ search end_here ] in
    elim c.if-i-at-gt1.branch [ then-i-at-gt1+else-s-at-eq48 w ↦ search octet_more | else-i-at-gt1 w ↦ search octet_one ]
