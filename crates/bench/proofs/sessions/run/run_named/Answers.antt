use Rattle.std.proofs.Common.{rules}
use Rattle.bench.proofs.sessions.run.run_named.Goals as goal

pub measured_linked-report-requires-send-F : goal.measured_linked-report-requires-send-F
measured_linked-report-requires-send-F g c κs within = search rules

pub measured_linked-report-requires-send-G : goal.measured_linked-report-requires-send-G
measured_linked-report-requires-send-G g c κs within = search rules
