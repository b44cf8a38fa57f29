use Rattle.std.proofs.Common.{rules}
use Rattle.primary_core.proofs.state.PrimaryCore.next_block.Goals as goal

pub returns-then-places-ge-MOST_ITEMS : goal.returns-then-places-ge-MOST_ITEMS
returns-then-places-ge-MOST_ITEMS c = search rules

pub returns : goal.returns
returns c = search rules
