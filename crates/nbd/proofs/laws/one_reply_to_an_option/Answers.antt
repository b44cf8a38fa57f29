use Rattle.nbd.proofs.Negotiating.{option_is_answered}
use Rattle.nbd.proofs.laws.one_reply_to_an_option.Goals as goal

pub returns : goal.returns
returns c of e no_zeroes o fits = option_is_answered of e no_zeroes o fits
