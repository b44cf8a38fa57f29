use Rattle.std.proofs.Common.{rules}
use Rattle.bitmap.proofs.marks.Bitmap.count_in.Goals as goal

pub returns : goal.returns
returns c = search rules
