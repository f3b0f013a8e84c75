-- `macros::scan` meets its contract. From the laws of Reading.
use Rattle.std.proofs.Common.{rules}
use Rattle.macros.proofs.Laws.Reading.{scan_start, scan_run, run_room, scan_literal, scan_escape, scan_expand, escape_room, brace_room, expand_room, scan_bad, scan_out}
use Rattle.macros.proofs.scan.Goals as goal

pub loop-at-init : goal.loop-at-init
loop-at-init c = search scan_start

pub loop-at-smaller-then-at-plain : goal.loop-at-smaller-then-at-plain
loop-at-smaller-then-at-plain c = search (rules, run_room)

pub loop-at-preserved-then-at-plain : goal.loop-at-preserved-then-at-plain
loop-at-preserved-then-at-plain c = search scan_run

pub loop-at-preserved-in-Literal : goal.loop-at-preserved-in-Literal
loop-at-preserved-in-Literal c = scan_literal _ _ _ _ _ c.loop-at.invariant _ c.in-Some.ensures _ c.loop-at-test.true c.in-Literal.is

pub overflow_add-at-in-Escape : goal.overflow_add-at-in-Escape
overflow_add-at-in-Escape c = search (escape_room _ _ _ _ _ c.loop-at.invariant _ c.in-Some.ensures _ c.in-Escape.is)

pub loop-at-preserved-in-Escape : goal.loop-at-preserved-in-Escape
loop-at-preserved-in-Escape c = scan_escape _ _ _ _ _ c.loop-at.invariant _ c.in-Some.ensures _ c.in-Escape.is

pub overflow_add-at-in-Expand : goal.overflow_add-at-in-Expand
overflow_add-at-in-Expand c = search (brace_room _ _ _ _ _ c.loop-at.invariant _ c.in-Some.ensures _ c.in-Expand.is)

pub overflow_add-at-in-Expand-2 : goal.overflow_add-at-in-Expand-2
overflow_add-at-in-Expand-2 c = search (expand_room _ _ _ _ _ c.loop-at.invariant _ c.in-Some.ensures _ c.in-Expand.is)

pub loop-at-preserved : goal.loop-at-preserved
loop-at-preserved c = scan_expand _ _ _ _ _ c.loop-at.invariant _ c.in-Some.ensures _ c.in-Expand.is _ c.to_lower.ensures

pub returns-in_default : goal.returns-in_default
returns-in_default c = search scan_bad

pub returns : goal.returns
returns c = search scan_out
