use Rattle.std.proofs.Common.{sym}
use Rattle.bitmap.proofs.Bits.{length-bits}
use Rattle.bitmap.proofs.marks.Bitmap.len.Goals as goal

pub returns : goal.returns
returns c = rw (← c.self.view_is) (sym (length-bits 0 c.self.inside.blocks c.self.inside.words.items))
