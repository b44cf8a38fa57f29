use Rattle.std.proofs.Common.{ℕ, ◌≡◌, ◌-◌, ◌%◌, length, ap, arith}
use Rattle.std.specs.Prelude.{replicate}
use Rattle.bitmap.proofs.Bits.{shifted}
use Rattle.bitmap.proofs.AllMarked.{part-bits, whole-bits}
use Rattle.bitmap.proofs.full.fill_words.Goals as goal

pub returns-then-rest-gt0 : goal.returns-then-rest-gt0
returns-then-rest-gt0 c =
    let ones : c.fill.new.self ≡ replicate (length c.args.words.now) 18446744073709551615 = c.fill.ensures.after (λ y e. e) in
    rw ones (part-bits (length c.args.words.now) c.args.blocks _ c.requires (omega arith) (ap (λ (n : ℕ). n - 1) (shifted (c.args.blocks % 64) (omega arith))))

pub returns-else-rest-gt0 : goal.returns-else-rest-gt0
returns-else-rest-gt0 c =
    let ones : c.fill.new.self ≡ replicate (length c.args.words.now) 18446744073709551615 = c.fill.ensures.after (λ y e. e) in
    rw ones (whole-bits (length c.args.words.now) c.args.blocks c.requires (omega arith))
