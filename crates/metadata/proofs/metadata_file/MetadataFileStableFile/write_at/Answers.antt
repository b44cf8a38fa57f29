use Rattle.metadata.proofs.Replays.{Written-overlaid}
use Rattle.metadata.proofs.metadata_file.MetadataFileStableFile.write_at.Goals as goal

pub returns-in-Ok-clause-written : goal.returns-in-Ok-clause-written
returns-in-Ok-clause-written g c = rw c.note.ensures (Written-overlaid _ c.args.at c.args.bytes.now)
