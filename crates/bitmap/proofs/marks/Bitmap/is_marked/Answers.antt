use Rattle.std.proofs.Common.{sym, ◌≡◌, ◌<◌, ◌/◌, ◌%◌, nat_lt, false, length, arith}
use Rattle.std.proofs.lemmas.Bool.{le-ltb}
use Rattle.std.proofs.lemmas.List.{get_or_read}
use Rattle.std.proofs.lemmas.Nat.Bits.{shr_and_one}
use Rattle.bitmap.proofs.Bits.{length-bits, marked-bits}
use Rattle.bitmap.proofs.Lists.{marked-past}
use Rattle.bitmap.specs.Fields.{marks_of}
use Rattle.bitmap.proofs.marks.Bitmap.is_marked.Goals as goal

pub returns-then-block-self : goal.returns-then-block-self
returns-then-block-self c =
    let within : c.args.block.0 / 64 < length c.self.inside.words.items = omega (arith, c.self.invariant.enough_words) in
    let word = get_or_read c.self.inside.words.items _ _ within c.index.ensures 0 in
    rw (← c.self.view_is, shr_and_one c.index.result.now (c.args.block.0 % 64), word)
    (sym (marked-bits c.self.inside.blocks c.self.inside.words.items c.args.block.0 (omega arith)))

pub returns-else-block-self : goal.returns-else-block-self
returns-else-block-self c =
    let short : nat_lt c.args.block.0 c.self.inside.blocks ≡ false = le-ltb c.args.block.0 c.self.inside.blocks (omega arith) in
    rw (← c.self.view_is, short) (sym
    (marked-past (marks_of c.self.inside.blocks c.self.inside.words.items) c.args.block.0
    (omega (arith, length-bits 0 c.self.inside.blocks c.self.inside.words.items))))
