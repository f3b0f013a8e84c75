-- `check_table_in` meets its contract: what the check of its entries answers is what the productions say. From the rules of the table.
use Rattle.std.proofs.Common.{is_some, length, ltb, ◌≡◌}
use Rattle.answer_table.proofs.Laws.Covering.{covered_start, marks_made, marks_unmade}
use Rattle.answer_table.proofs.Laws.Rules.{check_right, check_long}
use Rattle.answer_table.proofs.check_table_in.Goals.{then-table-gt-SMALL, else-table-gt-SMALL}
use Rattle.answer_table.proofs.check_table_in.Goals as goal

pub returns-then-table-gt-MOST_BYTES : goal.returns-then-table-gt-MOST_BYTES
returns-then-table-gt-MOST_BYTES c = search (check_long, check_right)

pub check_entries-requires : goal.check_entries-requires
check_entries-requires c =
    let large : is_some c.if-table-gt-SMALL.marks ≡ ltb 512 (length c.args.table.now) =
    elim c.if-table-gt-SMALL.branch [
      | then-table-gt-SMALL w ↦ marks_made _ _ _ w.marks-is w.if-table-gt-SMALL.true
      | else-table-gt-SMALL w ↦ marks_unmade _ _ w.marks-is w.if-table-gt-SMALL.false
    ] in
    (c.if-table-gt-MOST_BYTES.false, covered_start c.args.layout c.args.table.now _ large)

pub returns : goal.returns
returns c = search check_right
