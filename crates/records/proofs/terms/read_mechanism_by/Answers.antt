-- `records::terms::read_mechanism_by` meets its contract. From the laws of Reading.
use Rattle.std.proofs.Common.{◌∙◌}
use Rattle.records.specs.declared.Term.{Term}
use Rattle.records.specs.Reader.{mechanism_by, all_of}
use Rattle.records.proofs.Laws.Reading.{by_kind, with_none, with_absent, with_from, ptr_none, ptr_from, with_no_hosts, with_some_hosts}
use Rattle.records.proofs.Laws.Steps.{some_if}
use Rattle.records.proofs.terms.read_mechanism_by.Goals as goal

pub returns-in-All : goal.returns-in-All
unfolding mechanism_by all_of
returns-in-All c = by_kind _ _ _ _ _ _ c.in-All.is (c.then_some.ensures ∙ some_if _ _)

pub returns-in-Ip4 : goal.returns-in-Ip4
unfolding mechanism_by
returns-in-Ip4 c = by_kind _ _ _ _ _ _ c.in-Ip4.is c.read_ip4.ensures

pub returns-in-Ip6 : goal.returns-in-Ip6
unfolding mechanism_by
returns-in-Ip6 c = by_kind _ _ _ _ _ _ c.in-Ip6.is c.read_ip6.ensures

pub returns-in_err-read_spec-in-Include : goal.returns-in_err-read_spec-in-Include
unfolding mechanism_by
returns-in_err-read_spec-in-Include c = by_kind _ _ _ _ _ _ c.in-Include.is (c.from_residual.ensures ∙ with_none _ _ _ c.read_spec.ensures (Term.Include c.args.sign) c.in_err-read_spec-in-Include.was)

pub returns-in_err-from-in-Include : goal.returns-in_err-from-in-Include
unfolding mechanism_by
returns-in_err-from-in-Include c =
    by_kind _ _ _ _ _ _ c.in-Include.is
    (c.from_residual-in_err-from-in-Include.ensures ∙ with_absent _ _ _ c.read_spec.ensures (Term.Include c.args.sign) _ c.in_ok-read_spec-in-Include.was c.in_err-from-in-Include.was)

pub returns-in_ok-from-in-Include : goal.returns-in_ok-from-in-Include
unfolding mechanism_by
returns-in_ok-from-in-Include c =
    by_kind _ _ _ _ _ _ c.in-Include.is (with_from _ _ _ c.read_spec.ensures (Term.Include c.args.sign) _ c.in_ok-read_spec-in-Include.was _ c.in_ok-from-in-Include.was)

pub returns-in_err-read_spec-in-Exists : goal.returns-in_err-read_spec-in-Exists
unfolding mechanism_by
returns-in_err-read_spec-in-Exists c = by_kind _ _ _ _ _ _ c.in-Exists.is (c.from_residual-in_err-read_spec-in-Exists.ensures ∙ with_none _ _ _ c.read_spec-in-Exists.ensures (Term.Exists c.args.sign) c.in_err-read_spec-in-Exists.was)

pub returns-in_err-from-in-Exists : goal.returns-in_err-from-in-Exists
unfolding mechanism_by
returns-in_err-from-in-Exists c =
    by_kind _ _ _ _ _ _ c.in-Exists.is
    (c.from_residual-in_err-from-in-Exists.ensures ∙ with_absent _ _ _ c.read_spec-in-Exists.ensures (Term.Exists c.args.sign) _ c.in_ok-read_spec-in-Exists.was c.in_err-from-in-Exists.was)

pub returns-in_ok-from-in-Exists : goal.returns-in_ok-from-in-Exists
unfolding mechanism_by
returns-in_ok-from-in-Exists c =
    by_kind _ _ _ _ _ _ c.in-Exists.is (with_from _ _ _ c.read_spec-in-Exists.ensures (Term.Exists c.args.sign) _ c.in_ok-read_spec-in-Exists.was _ c.in_ok-from-in-Exists.was)

pub returns-in_err-domain-in-A : goal.returns-in_err-domain-in-A
unfolding mechanism_by
returns-in_err-domain-in-A c =
    by_kind _ _ _ _ _ _ c.in-A.is (c.from_residual-in_err-domain-in-A.ensures ∙ with_no_hosts _ _ _ c.read_hosts.ensures (Term.A c.args.sign) c.in_err-domain-in-A.was)

pub returns-in_ok-domain-in-A : goal.returns-in_ok-domain-in-A
unfolding mechanism_by
returns-in_ok-domain-in-A c = by_kind _ _ _ _ _ _ c.in-A.is (with_some_hosts _ _ _ c.read_hosts.ensures (Term.A c.args.sign) _ c.in_ok-domain-in-A.was)

pub returns-in_err-domain-in-Mx : goal.returns-in_err-domain-in-Mx
unfolding mechanism_by
returns-in_err-domain-in-Mx c =
    by_kind _ _ _ _ _ _ c.in-Mx.is (c.from_residual-in_err-domain-in-Mx.ensures ∙ with_no_hosts _ _ _ c.read_hosts-in-Mx.ensures (Term.Mx c.args.sign) c.in_err-domain-in-Mx.was)

pub returns-in_ok-domain-in-Mx : goal.returns-in_ok-domain-in-Mx
unfolding mechanism_by
returns-in_ok-domain-in-Mx c = by_kind _ _ _ _ _ _ c.in-Mx.is (with_some_hosts _ _ _ c.read_hosts-in-Mx.ensures (Term.Mx c.args.sign) _ c.in_ok-domain-in-Mx.was)

pub returns-in_err-read_spec-in-Ptr : goal.returns-in_err-read_spec-in-Ptr
unfolding mechanism_by
returns-in_err-read_spec-in-Ptr c =
    by_kind _ _ _ _ _ _ c.in-Ptr.is (c.from_residual-in_err-read_spec-in-Ptr.ensures ∙ ptr_none _ _ _ c.read_spec-in-Ptr.ensures c.args.sign c.in_err-read_spec-in-Ptr.was)

pub returns-in_ok-read_spec-in-Ptr : goal.returns-in_ok-read_spec-in-Ptr
unfolding mechanism_by
returns-in_ok-read_spec-in-Ptr c =
    by_kind _ _ _ _ _ _ c.in-Ptr.is (ptr_from _ _ _ c.read_spec-in-Ptr.ensures c.args.sign _ c.in_ok-read_spec-in-Ptr.was _ c.unwrap_or-from.ensures)
