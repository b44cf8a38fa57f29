use Rattle.std.proofs.Common.{◌∙◌, ◌/◌, ap, sym}
use Rattle.secondary_core.proofs.Counted.{blocks-length}
use Rattle.secondary_core.proofs.item.whole_blocks.Goals as goal

pub returns-clause-blocks : goal.returns-clause-blocks
returns-clause-blocks c = ap (λ n. n / 4096) c.len.ensures.value ∙ sym (blocks-length c.args.contents.now)
