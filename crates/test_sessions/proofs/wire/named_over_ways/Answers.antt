use Rattle.std.proofs.Common.{rules}
use Rattle.test_sessions.proofs.wire.named_over_ways.Goals as goal

pub carry_out_over-answers-requires-send-F : goal.carry_out_over-answers-requires-send-F
carry_out_over-answers-requires-send-F g c κs within = search rules

pub carry_out_over-answers-requires-send-G : goal.carry_out_over-answers-requires-send-G
carry_out_over-answers-requires-send-G g c κs within = search rules
