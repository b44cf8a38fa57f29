use Rattle.std.proofs.Common.{ℕ, ◌/◌, ◌∙◌, sym, subst}
use Rattle.blocks.specs.Contents.{AreRead}
use Rattle.file_store.specs.Stores.{disk_of, faithful_of}
use Rattle.file_store.proofs.Replays.{if-ok, read-held}
use Rattle.file_store.proofs.store.FileStoreStore.read_blocks.Goals as goal

pub returns-clause-read : goal.returns-clause-read
returns-clause-read g c =
    let disk = disk_of g.X.OpeningContents.held c.args.self.now in
    let given = if-ok c.read.result (sym c.is_err.ensures.value ∙ c.if-is_err.false) c.read.ensures.given in
    rw c.read.ensures.path (rw given (λ held. subst (λ (n : ℕ). AreRead disk c.args.first.0 c.read.new.buffer (n / 4096)) c.read.auto.buffer
    (read-held disk c.args.first.0 c.read.new.buffer (faithful_of g.X.OpeningContents.held c.args.self.now) held)))
