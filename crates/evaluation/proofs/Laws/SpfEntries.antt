-- SPF entries are ignored: over accepted tables with the same other entries the first call has the same answer but for where the exp argument stands, and
-- both calls give the same together. From `spf_ignored` of `rules`, answer_table's laws of looking up, and what both calls give (Together, Unasked).
use Rattle.std.proofs.Common.{None}
use Prim.Native.Nat.{ℕ}
use mathlib.Core.Path.{sym, ap, ◌∙◌}
use mathlib.Core.List.{List}
use Rattle.answer_table.specs.Layout.{Entry}
use Rattle.answer_table.specs.Answers.{Encoded}
use Rattle.answer_table.proofs.Laws.Among.{found_same}
use Rattle.rules.specs.Tables.{answer_of, table_of}
use Rattle.rules.proofs.Laws.Ignored.{SameOthers, spf_ignored, spf_verdict}
use Rattle.evaluation.specs.First.{mail_in}
use Rattle.evaluation.specs.Together.{one_gave}
use Rattle.evaluation.specs.SpfEntries.{SameButSpf, SpfIgnored}
use Rattle.evaluation.proofs.Laws.Together.{together, evaluated_same}
use Rattle.evaluation.proofs.Laws.Unasked.{same_but_place}

-- what the entries have for every question but SPF's
same_others : {t u : List ℕ} {es fs : List Entry} → Encoded t es → Encoded u fs → SameButSpf es fs → SameOthers (table_of es) (table_of fs)
unfolding table_of
same_others {es = es} {fs = fs} p q h k d n = ap answer_of (found_same k d es fs p.once q.once (λ e i. h e (λ j. n (sym i ∙ j))))

pub spf_entries_ignored : SpfIgnored
spf_entries_ignored a t u es fs l p m q same h g x y =
    let s = same_others p q same in (
      same_but_place a l p m q (spf_ignored (table_of es) (table_of fs) s (mail_in a) a.domain None) h g x y,
      λ name text room v w bv bw.
          together _ h x name text room v bv
          ∙ ap one_gave (evaluated_same a text l p m q (sym (spf_verdict (table_of es) (table_of fs) s (mail_in a) a.domain None))
          (sym (spf_ignored (table_of es) (table_of fs) s (mail_in a) a.domain None)))
          ∙ sym (together _ g y name text room w bw),
    )
