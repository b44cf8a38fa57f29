use Rattle.std.proofs.Common.{rules}
use Rattle.primary_core.proofs.state.PrimaryCore.may_submit.Goals as goal

pub returns-in_err-may_accept : goal.returns-in_err-may_accept
returns-in_err-may_accept c = search rules

pub returns-in-Some : goal.returns-in-Some
returns-in-Some c = search rules

pub returns-then-not-can_begin : goal.returns-then-not-can_begin
returns-then-not-can_begin c = search rules

pub returns-then-places-ge-MOST_ITEMS : goal.returns-then-places-ge-MOST_ITEMS
returns-then-places-ge-MOST_ITEMS c = search rules

pub returns : goal.returns
returns c = search rules
