-- `macros::emit::put_text` meets its contract. From the laws of Emitting.
use Rattle.std.proofs.Common.{arith, rules}
use lib.ListN.{length-take, length-drop}
use Rattle.macros.proofs.Laws.Emitting.{walk_start, walk_literal, walk_escape, walk_expand, walk_end, rest_room, literal_inside, escape_inside, expand_inside}
use Rattle.macros.proofs.emit.put_text.Goals as goal

pub loop-found-init : goal.loop-found-init
loop-found-init c = search walk_start

pub slice_bounds-rest-count : goal.slice_bounds-rest-count
slice_bounds-rest-count c = literal_inside _ _ _ c.in-Some.ensures _ c.in-Literal.is

pub slice_bounds-rest-start : goal.slice_bounds-rest-start
slice_bounds-rest-start c = let h = literal_inside _ _ _ c.in-Some.ensures _ c.in-Literal.is in search rules

pub loop-found-smaller-in-Literal : goal.loop-found-smaller-in-Literal
loop-found-smaller-in-Literal c = let h = literal_inside _ _ _ c.in-Some.ensures _ c.in-Literal.is in simp (length-take, length-drop) (omega arith)

pub loop-found-preserved-in-Literal : goal.loop-found-preserved-in-Literal
loop-found-preserved-in-Literal c = record { walked = walk_literal _ _ _ _ _ _ _ _ c.loop-found.invariant.walked _ c.in-Some.ensures _ c.in-Literal.is _ _ c.put.ensures.wrote; same = cc }

pub slice_bounds-rest-count-in-Escape : goal.slice_bounds-rest-count-in-Escape
slice_bounds-rest-count-in-Escape c = escape_inside _ _ _ c.in-Some.ensures _ c.in-Escape.is

pub slice_bounds-rest-start-in-Escape : goal.slice_bounds-rest-start-in-Escape
slice_bounds-rest-start-in-Escape c = let h = escape_inside _ _ _ c.in-Some.ensures _ c.in-Escape.is in search rules

pub loop-found-smaller-in-Escape : goal.loop-found-smaller-in-Escape
loop-found-smaller-in-Escape c = let h = escape_inside _ _ _ c.in-Some.ensures _ c.in-Escape.is in simp (length-take, length-drop) (omega arith)

pub loop-found-preserved-in-Escape : goal.loop-found-preserved-in-Escape
loop-found-preserved-in-Escape c = record { walked = walk_escape _ _ _ _ _ _ _ _ c.loop-found.invariant.walked _ c.in-Some.ensures _ c.in-Escape.is _ _ c.put_escape.ensures.wrote; same = cc }

pub overflow_add-rest : goal.overflow_add-rest
overflow_add-rest c = let h = rest_room _ _ _ _ _ _ _ _ c.loop-found.invariant.walked _ c.in-Some.ensures _ c.in-Expand.is in search rules

pub slice_bounds-rest-count-in-Expand : goal.slice_bounds-rest-count-in-Expand
slice_bounds-rest-count-in-Expand c = expand_inside _ _ _ c.in-Some.ensures _ c.in-Expand.is

pub slice_bounds-rest-start-in-Expand : goal.slice_bounds-rest-start-in-Expand
slice_bounds-rest-start-in-Expand c = let h = expand_inside _ _ _ c.in-Some.ensures _ c.in-Expand.is in search rules

pub loop-found-smaller : goal.loop-found-smaller
loop-found-smaller c = let h = expand_inside _ _ _ c.in-Some.ensures _ c.in-Expand.is in simp (length-take, length-drop) (omega arith)

pub loop-found-preserved : goal.loop-found-preserved
loop-found-preserved c = record { walked = walk_expand _ _ _ _ _ _ _ _ c.loop-found.invariant.walked _ c.in-Some.ensures _ c.in-Expand.is _ _ c.put_macro.ensures.wrote; same = cc }

pub returns : goal.returns
returns c = search walk_end
