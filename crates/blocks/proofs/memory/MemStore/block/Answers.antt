-- A block of the device is that part of the buffer.
use Rattle.std.proofs.Common.{ℕ, ◌≡◌, ◌+◌, ◌-◌, ◌<◌, ◌*◌, ◌/◌, ◌∙◌, sym, ap, arith, length, take, drop, slice_get, Some, List}
use Rattle.blocks.specs.Contents.{blocks_of}
use Rattle.blocks.proofs.Cutting.{length-blocks_of, slice_get-cut}
use Rattle.blocks.proofs.memory.MemStore.block.Goals as goal

pub overflow_mul-at : goal.overflow_mul-at
overflow_mul-at c =
    let size = length-blocks_of c.self.inside.bytes.items in
    let device : length (blocks_of 4096 c.self.inside.bytes.items) ≡ length c.args.self.now = ap length c.self.view_is in
    let bytes : length c.as_slice-bytes.result.now ≡ length c.self.inside.bytes.items = ap length c.as_slice-bytes.ensures.value in
    omega arith

pub overflow_add-result : goal.overflow_add-result
overflow_add-result c =
    let size = length-blocks_of c.self.inside.bytes.items in
    let device : length (blocks_of 4096 c.self.inside.bytes.items) ≡ length c.args.self.now = ap length c.self.view_is in
    let bytes : length c.as_slice-bytes.result.now ≡ length c.self.inside.bytes.items = ap length c.as_slice-bytes.ensures.value in
    omega arith

pub slice_bounds-result-end : goal.slice_bounds-result-end
slice_bounds-result-end c =
    let size = length-blocks_of c.self.inside.bytes.items in
    let device : length (blocks_of 4096 c.self.inside.bytes.items) ≡ length c.args.self.now = ap length c.self.view_is in
    let bytes : length c.as_slice-bytes.result.now ≡ length c.self.inside.bytes.items = ap length c.as_slice-bytes.ensures.value in
    omega arith

pub returns : goal.returns
returns c =
    let bytes = c.self.inside.bytes.items in
    let size = length-blocks_of bytes in
    let device : length (blocks_of 4096 bytes) ≡ length c.args.self.now = ap length c.self.view_is in
    let below : c.args.block.0 < length bytes / 4096 = omega arith in
    let place : 4096 * c.args.block.0 ≡ c.args.block.0 * 4096 = omega arith in
    let count : c.args.block.0 * 4096 + 4096 - c.args.block.0 * 4096 ≡ 4096 = omega arith in
    let part : take 4096 (drop (4096 * c.args.block.0) bytes) ≡ take (c.args.block.0 * 4096 + 4096 - c.args.block.0 * 4096)
    (drop (c.args.block.0 * 4096) c.as_slice-bytes.result.now) =
    ap (λ n. take 4096 (drop n bytes)) place ∙ (ap (λ (l : List ℕ). take 4096 (drop (c.args.block.0 * 4096) l)) (sym c.as_slice-bytes.ensures.value)
    ∙ ap (λ n. take n (drop (c.args.block.0 * 4096) c.as_slice-bytes.result.now)) (sym count)) in
    ap (λ (l : List (List ℕ)). slice_get l c.args.block.0) (sym c.self.view_is)
    ∙ (slice_get-cut 4096 (length bytes / 4096) c.args.block.0 bytes below ∙ ap Some part)
