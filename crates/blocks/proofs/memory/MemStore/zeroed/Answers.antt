-- One block of zeros after another is a disk of zeros.
use Rattle.std.proofs.Common.{◌≡◌, ◌+◌, ◌*◌, ◌/◌, ◌++◌, ◌∙◌, ap, arith, replicate}
use Rattle.std.proofs.lemmas.List.{length-replicate, replicate-append-replicate}
use Rattle.blocks.specs.Contents.{cut, blocks_of}
use Rattle.blocks.proofs.Cutting.{cut-zeros}
use Rattle.blocks.proofs.memory.MemStore.zeroed.Goals as goal

pub loop-block-preserved : goal.loop-block-preserved
loop-block-preserved c =
    let made = 4096 * c.loop-block._block in
    let next : made + 4096 ≡ 4096 * (c.loop-block._block + 1) = omega arith in
    c.in_ok-extend_from_slice.ensures.items ∙ ap (λ l. l ++ replicate 4096 0) c.loop-block.invariant
    ∙ replicate-append-replicate made 4096 0 ∙ ap (λ n. replicate n 0) next

pub returns-clause-zeros : goal.returns-clause-zeros
returns-clause-zeros c =
    let all : c.loop-block._block ≡ c.args.blocks = omega (arith, c.loop-block.auto._block-end, c.loop-block-test.false) in
    let zeros = c.loop-block.invariant ∙ ap (λ n. replicate (4096 * n) 0) all in
    let size : (4096 * c.args.blocks) / 4096 ≡ c.args.blocks = omega arith in
    ap (blocks_of 4096) zeros ∙ (ap (λ n. cut 4096 (n / 4096) (replicate (4096 * c.args.blocks) 0)) (length-replicate (4096 * c.args.blocks) 0)
    ∙ (ap (λ n. cut 4096 n (replicate (4096 * c.args.blocks) 0)) size ∙ cut-zeros 4096 c.args.blocks))
