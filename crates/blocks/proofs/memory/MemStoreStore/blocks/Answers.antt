-- The number of whole blocks of the buffer is that of the device.
use Rattle.std.proofs.Common.{ℕ, ◌/◌, ◌∙◌, sym, ap, length}
use Rattle.blocks.proofs.Cutting.{length-blocks_of}
use Rattle.blocks.proofs.memory.MemStoreStore.blocks.Goals as goal

pub returns : goal.returns
returns c =
    ap (λ (n : ℕ). n / 4096) (ap length c.as_slice.ensures.value) ∙ (sym (length-blocks_of c.self.inside.bytes.items) ∙ ap length c.self.view_is)
