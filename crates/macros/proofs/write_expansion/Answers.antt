-- `macros::write_expansion` meets its contract. From the laws of Expanding.
use Rattle.std.proofs.Common.{rules}
use Rattle.macros.proofs.Laws.Expanding.{all_said}
use Rattle.macros.proofs.write_expansion.Goals as goal

pub returns : goal.returns
returns c =
    all_said _ c.requires _ c.as_client-client.ensures.value _ c.sender_domain-domain.ensures _ _ _ _ _ _ _ _ _ _ _ _ _ _ _ _ c.new-w.ensures.at (simp c.new-w.ensures.out)
    c.put_local.ensures.wrote c.put.ensures.wrote c.put_all.ensures.wrote c.put_dotted.ensures.wrote c.put_family.ensures.wrote c.put_readable.ensures.wrote c.put_decimal.ensures.wrote
    _ (search rules) _ _ _ _ _ _ _ c.part.ensures c.part-2.ensures c.part-3.ensures c.part-4.ensures c.part-5.ensures c.part-6.ensures c.receiver_name.ensures _ _ _ _ _
    c.write_fitting.ensures
