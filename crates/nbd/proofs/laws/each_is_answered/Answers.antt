use Rattle.nbd.proofs.Answering.{messages_are_answered}
use Rattle.nbd.proofs.laws.each_is_answered.Goals as goal

pub returns : goal.returns
returns c of e messages each = messages_are_answered of e messages each
