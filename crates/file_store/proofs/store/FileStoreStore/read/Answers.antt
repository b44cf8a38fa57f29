use Rattle.std.proofs.Common.{length, ◌∙◌}
use Rattle.std.proofs.lemmas.Result.{on_ok_weaker}
use Rattle.file_store.proofs.Replays.{one-read}
use Rattle.file_store.proofs.store.FileStoreStore.read.Goals as goal

pub returns-clause-read : goal.returns-clause-read
returns-clause-read g c = on_ok_weaker c.read_blocks.result
    (λ read faithful. one-read _ c.args.block.0 (length c.args.buffer.now) c.read_blocks.new.buffer c.requires.whole
    (c.read_blocks.auto.buffer ∙ c.requires.whole) (read faithful))
    c.read_blocks.ensures.read
