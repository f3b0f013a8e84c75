-- `record_listing::said_columns` meets its contract. From the laws of Columns, by the case of the term.
use Rattle.record_listing.proofs.Laws.Columns.{all_said, include_said, a_said, mx_said, ptr_said, ip4_said, ip6_said, exists_said, redirect_said, exp_said, unknown_said}
use Rattle.record_listing.proofs.said_columns.Goals as goal

pub returns-in-All : goal.returns-in-All
returns-in-All c = search all_said

pub returns-in-Include : goal.returns-in-Include
returns-in-Include c = search include_said

pub returns-in-A : goal.returns-in-A
returns-in-A c = search a_said

pub returns-in-Mx : goal.returns-in-Mx
returns-in-Mx c = search mx_said

pub returns-in-Ptr : goal.returns-in-Ptr
returns-in-Ptr c = search ptr_said

pub returns-in-IPv4 : goal.returns-in-IPv4
returns-in-IPv4 c = search ip4_said

pub returns-in-IPv6 : goal.returns-in-IPv6
returns-in-IPv6 c = search ip6_said

pub returns-in-Exists : goal.returns-in-Exists
returns-in-Exists c = search exists_said

pub returns-in-Redirect : goal.returns-in-Redirect
returns-in-Redirect c = search redirect_said

pub returns-in-Explanation : goal.returns-in-Explanation
returns-in-Explanation c = search exp_said

pub returns-in-Unknown : goal.returns-in-Unknown
returns-in-Unknown c = search unknown_said
