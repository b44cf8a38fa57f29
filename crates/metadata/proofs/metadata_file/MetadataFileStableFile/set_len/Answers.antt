use Rattle.metadata.proofs.Replays.{Resized-padded}
use Rattle.metadata.proofs.metadata_file.MetadataFileStableFile.set_len.Goals as goal

pub returns-in-Ok-clause-resized : goal.returns-in-Ok-clause-resized
returns-in-Ok-clause-resized g c = rw c.note.ensures (Resized-padded _ c.args.len)
