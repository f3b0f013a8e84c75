-- `domain::count_labels` meets its contract. From the laws of Labels.
use Rattle.std.proofs.Common.{◌≡◌, ◌∙◌, ap, ◌+◌, ℕ, rules}
use Rattle.std.specs.List.{count_by}
use Rattle.text.specs.Bytes.{is_dot}
use Rattle.domain.proofs.Laws.Labels.{count_dots}
use Rattle.domain.proofs.count_labels.Goals as goal

pub returns : goal.returns
returns c =
    let n : c.count.result ≡ count_by is_dot c.args.s.now = search rules in
    ap (λ (k : ℕ). k + 1) n ∙ count_dots c.args.s.now
