use Rattle.std.proofs.Common.{length, ◌∙◌, ap, rules}
use Rattle.std.proofs.lemmas.List.{length-replicate}
use Rattle.transferlog.proofs.log.TransferLog.new.Goals as goal

pub invariant_of-result : goal.invariant_of-result
invariant_of-result c = record {
  next = search rules;
  few_accepted = search rules;
  kept = search rules;
  numbered = search rules;
  alone = search rules;
  few = search rules;
  some = search rules;
  room_for_released = search rules;
  room_for_completed = search rules;
  acknowledged_through = search rules;
  begun = search rules;
  sized = ap length c.new.ensures ∙ length-replicate c.args.blocks 0;
  noted = search rules;
  reported = search rules;
  apart = search rules;
}

pub returns-clause-empty : goal.returns-clause-empty
returns-clause-empty c = search rules
