use Rattle.std.proofs.Common.{rules}
use Rattle.bench.proofs.sessions.run.run_named_over.Goals as goal

pub measured_over-report-requires-send-F : goal.measured_over-report-requires-send-F
measured_over-report-requires-send-F g c κs within = search rules

pub measured_over-report-requires-send-G : goal.measured_over-report-requires-send-G
measured_over-report-requires-send-G g c κs within = search rules
