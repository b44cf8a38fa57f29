use Rattle.std.proofs.Common.{rules}
use Rattle.packets.proofs.decoder.Decoder.stop.Goals as goal

pub returns : goal.returns
returns c = search rules
