use Rattle.std.proofs.Common.{◌≡◌, ◌%◌, length, refl, arith}
use Rattle.std.specs.Prelude.{replicate}
use Rattle.bitmap.proofs.AllMarked.{part-counts, whole-counts}
use Rattle.bitmap.proofs.full.fill_counts.Goals as goal

pub returns-then-rest-gt0 : goal.returns-then-rest-gt0
returns-then-rest-gt0 c =
    let all : c.fill.new.self ≡ replicate (length c.args.counts.now) 1024 = c.fill.ensures.after (λ y e. e) in
    rw all (part-counts (length c.args.counts.now) c.args.blocks (c.args.blocks % 1024) c.requires (omega arith) refl)

pub returns-else-rest-gt0 : goal.returns-else-rest-gt0
returns-else-rest-gt0 c =
    let all : c.fill.new.self ≡ replicate (length c.args.counts.now) 1024 = c.fill.ensures.after (λ y e. e) in
    rw all (whole-counts (length c.args.counts.now) c.args.blocks c.requires (omega arith))
