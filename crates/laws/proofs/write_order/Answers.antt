-- A consistent secondary never took a SYNC_UUID, or adopted the tuple that ended a resync: either way a set is behind its disk.
use Rattle.laws.proofs.Theorems.WriteOrder.{joined_write_order, every_write_order}
use Rattle.laws.proofs.write_order.Goals as goal

pub returns-clause-joined : goal.returns-clause-joined
returns-clause-joined c = joined_write_order

pub returns-clause-pair : goal.returns-clause-pair
returns-clause-pair c = every_write_order
