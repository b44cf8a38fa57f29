use Rattle.nbd.proofs.Answering.{message_is_answered}
use Rattle.nbd.proofs.laws.one_answer.Goals as goal

pub returns : goal.returns
returns c of e m is = message_is_answered of e m is
