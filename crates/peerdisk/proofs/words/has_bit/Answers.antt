use Rattle.std.proofs.Common.{ℕ, ◌≡◌, ◌∙◌, ◌+◌, ◌-◌, ◌/◌, ◌%◌, ◌≤◌, ◌==◌, true, false, List, sym, ap, arith}
use Rattle.std.specs.Prelude.{slice_index}
use Rattle.std.specs.Int.{bit_at}
use Rattle.std.proofs.lemmas.Bool.Decides.{nat_tests}
use Rattle.std.proofs.lemmas.Nat.Bits.{shr_and_one}
use Rattle.peerdisk.specs.Stamped.{bit_of}
use Rattle.peerdisk.proofs.Flags.{any-found, any-more}
use Rattle.peerdisk.proofs.words.has_bit.Goals as goal

-- the block at its distance from the first one
at_offset : (words : List ℕ) (first block : ℕ) → first ≤ block → bit_of words (first + (block - first)) ≡ bit_of words block
at_offset words first block from = let same : first + (block - first) ≡ block = omega arith in ap (bit_of words) same

pub returns-then-words-block-eq1 : goal.returns-then-words-block-eq1
returns-then-words-block-eq1 c =
    let words = c.args.words.now in
    let first = c.args.range.first.0 in
    let block = c.loop-block.block in
    let one : bit_at (slice_index words (block / 64)) (block % 64) ≡ 1 = sym (shr_and_one (slice_index words (block / 64)) (block % 64))
    ∙ c.if-words-block-eq1.true in
    let here : bit_of words block ≡ true = ap (λ bit. bit == 1) one in
    sym (any-found (λ offset. bit_of words (first + offset)) c.args.range.count (block - first) (omega (arith, c.loop-block.auto.block))
    (at_offset words first block c.loop-block.auto.block ∙ here))

pub loop-block-preserved : goal.loop-block-preserved
loop-block-preserved c =
    let words = c.args.words.now in
    let first = c.args.range.first.0 in
    let block = c.loop-block.block in
    let bit = shr_and_one (slice_index words (block / 64)) (block % 64) in
    let other = c.if-words-block-eq1.false in
    let here : bit_of words block ≡ false = grind (arith, nat_tests) in
    any-more (λ offset. bit_of words (first + offset)) (block - first) (block + 1 - first) (omega (arith, c.loop-block.auto.block)) c.loop-block.invariant
    (at_offset words first block c.loop-block.auto.block ∙ here)
