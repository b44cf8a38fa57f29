-- A write of whole blocks is a write of part of the buffer.
use Rattle.std.proofs.Common.{ℕ, ◌≡◌, ◌≤◌, ◌+◌, ◌*◌, ◌/◌, ◌∙◌, ap, arith, length, take, drop, ◌++◌, List}
use Rattle.std.proofs.lemmas.List.{with_items_is}
use Rattle.blocks.specs.Contents.{blocks_of, overwritten}
use Rattle.blocks.proofs.Cutting.{length-blocks_of, blocks_of-written}
use Rattle.blocks.proofs.memory.MemStore.overwrite.Goals as goal

pub overflow_mul-first : goal.overflow_mul-first
overflow_mul-first c =
    let size = length-blocks_of c.self.inside.bytes.items in
    let device : length (blocks_of 4096 c.self.inside.bytes.items) ≡ length c.args.self.now = ap length c.self.view_is in
    let bytes : length c.deref_mut.result.now ≡ length c.self.inside.bytes.items = ap length c.deref_mut.ensures.value in
    omega arith

pub put-requires : goal.put-requires
put-requires c =
    let size = length-blocks_of c.self.inside.bytes.items in
    let device : length (blocks_of 4096 c.self.inside.bytes.items) ≡ length c.args.self.now = ap length c.self.view_is in
    let bytes : length c.deref_mut.result.now ≡ length c.self.inside.bytes.items = ap length c.deref_mut.ensures.value in
    omega arith

pub returns : goal.returns
returns c =
    let old : List ℕ = c.self.inside.bytes.items in
    let size = length-blocks_of old in
    let device : length (blocks_of 4096 old) ≡ length c.args.self.now = ap length c.self.view_is in
    let at : ℕ = c.args.first.0 * 4096 in
    let new : List ℕ = c.args.bytes.now in
    let put : c.put.new.buffer ≡ take at old ++ new ++ drop (at + length new) old =
    c.put.ensures ∙ ap (λ (l : List ℕ). take at l ++ new ++ drop (at + length new) l) c.deref_mut.ensures.value in
    let old_len : length c.deref_mut.result.now ≡ length old = ap length c.deref_mut.ensures.value in
    let inside : at + length new ≤ length old = omega arith in
    let items = with_items_is c.self.inside.bytes c.put.new.buffer (omega arith) in
    let count : ℕ = length new / 4096 in
    ap (blocks_of 4096) (items ∙ put)
    ∙ (blocks_of-written c.args.first.0 count old new c.self.invariant.whole (omega arith) (omega arith)
    ∙ ap (λ (d : List (List ℕ)). overwritten d c.args.first.0 (blocks_of 4096 new)) c.self.view_is)
