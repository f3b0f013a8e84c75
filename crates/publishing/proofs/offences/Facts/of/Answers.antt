-- `publishing::offences::Facts::of` meets its contract. From the laws of Kinds.
use Rattle.publishing.specs.Finding.{facts_of}
use Rattle.publishing.proofs.Laws.Kinds.{plain}
use Rattle.publishing.proofs.offences.Facts.of.Goals as goal

pub returns-in-All : goal.returns-in-All
unfolding facts_of
returns-in-All c = rw (plain c.default-modifier.result c.default-modifier.ensures, c.in-All.is)

pub returns-in-Include : goal.returns-in-Include
unfolding facts_of
returns-in-Include c = rw (plain c.default-modifier.result c.default-modifier.ensures, c.in-Include.is)

pub returns-in-A : goal.returns-in-A
unfolding facts_of
returns-in-A c = rw (plain c.default-modifier.result c.default-modifier.ensures, c.in-A.is, c.short_hosts.ensures)

pub returns-in-Mx : goal.returns-in-Mx
unfolding facts_of
returns-in-Mx c = rw (plain c.default-modifier.result c.default-modifier.ensures, c.in-Mx.is, c.short_hosts-in-Mx.ensures)

pub returns-in-Ptr : goal.returns-in-Ptr
unfolding facts_of
returns-in-Ptr c = rw (plain c.default-modifier.result c.default-modifier.ensures, c.in-Ptr.is)

pub returns-in-Network : goal.returns-in-Network
unfolding facts_of
returns-in-Network c = rw (plain c.default-modifier.result c.default-modifier.ensures, c.in-Network.is, c.short_network.ensures)

pub returns-in-Exists : goal.returns-in-Exists
unfolding facts_of
returns-in-Exists c = rw (plain c.default-modifier.result c.default-modifier.ensures, c.in-Exists.is)

pub returns-in-Redirect : goal.returns-in-Redirect
unfolding facts_of
returns-in-Redirect c = rw (plain c.default-modifier.result c.default-modifier.ensures, c.in-Redirect.is)

pub returns-in-Explanation : goal.returns-in-Explanation
unfolding facts_of
returns-in-Explanation c = rw (plain c.default-modifier.result c.default-modifier.ensures, c.in-Explanation.is)

pub returns-in-Unknown : goal.returns-in-Unknown
unfolding facts_of
returns-in-Unknown c = rw (plain c.default-modifier.result c.default-modifier.ensures, c.in-Unknown.is)
