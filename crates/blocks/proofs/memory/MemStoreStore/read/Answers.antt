-- A block of the device is that part of the buffer.
use Rattle.std.proofs.Common.{ℕ, ◌≡◌, ◌<◌, ◌*◌, ◌/◌, ◌∙◌, sym, ap, arith, length, take, drop, slice_get, Some, List}
use Rattle.blocks.specs.Contents.{blocks_of}
use Rattle.blocks.proofs.Cutting.{length-blocks_of, slice_get-cut}
use Rattle.blocks.proofs.memory.MemStoreStore.read.Goals as goal

pub overflow_mul-block : goal.overflow_mul-block
overflow_mul-block c =
    let size = length-blocks_of c.self.inside.bytes.items in
    let device : length (blocks_of 4096 c.self.inside.bytes.items) ≡ length c.args.self.now = ap length c.self.view_is in
    let bytes : length c.deref.result.now ≡ length c.self.inside.bytes.items = ap length c.deref.ensures.value in
    omega arith

pub get-requires : goal.get-requires
get-requires c =
    let size = length-blocks_of c.self.inside.bytes.items in
    let device : length (blocks_of 4096 c.self.inside.bytes.items) ≡ length c.args.self.now = ap length c.self.view_is in
    let bytes : length c.deref.result.now ≡ length c.self.inside.bytes.items = ap length c.deref.ensures.value in
    omega arith

pub returns-clause-read : goal.returns-clause-read
returns-clause-read c =
    let bytes = c.self.inside.bytes.items in
    let size = length-blocks_of bytes in
    let device : length (blocks_of 4096 bytes) ≡ length c.args.self.now = ap length c.self.view_is in
    let below : c.args.block.0 < length bytes / 4096 = omega arith in
    let place : 4096 * c.args.block.0 ≡ c.args.block.0 * 4096 = omega arith in
    let part : take 4096 (drop (4096 * c.args.block.0) bytes) ≡ c.get.new.buffer =
    ap (λ n. take 4096 (drop n bytes)) place ∙ (ap (λ (l : List ℕ). take 4096 (drop (c.args.block.0 * 4096) l)) (sym c.deref.ensures.value)
    ∙ (ap (λ n. take n (drop (c.args.block.0 * 4096) c.deref.result.now)) (sym c.requires.whole) ∙ sym c.get.ensures)) in
    ap (λ (l : List (List ℕ)). slice_get l c.args.block.0) (sym c.self.view_is)
    ∙ (slice_get-cut 4096 (length bytes / 4096) c.args.block.0 bytes below ∙ ap Some part)
