use Rattle.std.proofs.Common.{rules}
use Rattle.volume.proofs.session.Session.start.Goals as goal

pub start-requires-send-F : goal.start-requires-send-F
start-requires-send-F g c κs within = search rules

pub start-requires-send-G : goal.start-requires-send-G
start-requires-send-G g c κs within = search rules
