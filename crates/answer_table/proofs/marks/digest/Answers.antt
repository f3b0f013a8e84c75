-- `marks::digest` meets its contract. From the rules of Marks.
use Prim.Native.Nat.{◌*◌, ◌+◌, ◌%◌}
use mathlib.Core.Path.{sym, ◌∙◌}
use Rattle.std.proofs.Common.{rules}
use Rattle.std.proofs.lemmas.Iterator.{YieldsList-from_slice}
use Rattle.std.proofs.lemmas.Iterator.Consumers.{fold_from_yields_List}
use Rattle.answer_table.proofs.Laws.Marks.{digest_fold}
use Rattle.answer_table.proofs.marks.digest.Goals as goal

pub returns : goal.returns
returns c =
    fold_from_yields_List _ (λ h b. (h * 1664525 % 4294967296 + b) % 4294967296) _ _ c.fold.ensures.ran (YieldsList-from_slice c.args.name.now cc)
    (λ a x b q k. search rules)
    ∙ sym (digest_fold c.args.kind c.args.name.now)
