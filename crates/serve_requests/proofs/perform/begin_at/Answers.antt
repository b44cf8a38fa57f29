use Rattle.std.proofs.Common.{sym, ◌∙◌}
use Rattle.told.specs.Log.{WasTold}
use Rattle.serve_requests.proofs.Telling.{begun-part, begun-whole}
use Rattle.serve_requests.proofs.perform.begin_at.Goals as goal

pub returns-then-are_whole-clause-begun : goal.returns-then-are_whole-clause-begun
returns-then-are_whole-clause-begun g c = begun-whole (WasTold c.begin_blocks.new.me.log) c.args.piece c.block-block.result c.from-from.result
    c.into_bytes-bytes.result c.begin_blocks.result c.block-block.ensures c.from-from.ensures c.into_bytes-bytes.ensures
    (sym c.are_whole.ensures ∙ c.if-are_whole.true) c.begin_blocks.ensures.range c.begin_blocks.ensures.contents c.begin_blocks.ensures.told

pub returns-clause-begun : goal.returns-clause-begun
returns-clause-begun g c = begun-part (WasTold c.begin_within.new.me.log) c.args.piece c.block-block.result c.from-from.result
    c.into_bytes-bytes.result c.begin_within.result c.block-block.ensures c.from-from.ensures c.into_bytes-bytes.ensures
    (sym c.are_whole.ensures ∙ c.if-are_whole.false) c.begin_within.ensures.block c.begin_within.ensures.laid c.begin_within.ensures.told
