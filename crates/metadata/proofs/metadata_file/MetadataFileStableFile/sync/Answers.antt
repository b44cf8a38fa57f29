use Rattle.std.proofs.Common.{ℕ, List, subst, sym}
use Rattle.metadata.specs.Events.{replay, may_leave_of}
use Rattle.metadata.proofs.Replays.{seen-may-stay}
use Rattle.metadata.proofs.metadata_file.MetadataFileStableFile.sync.Goals as goal

pub returns-in-Ok-clause-crash : goal.returns-in-Ok-clause-crash
returns-in-Ok-clause-crash g c = rw c.note.ensures λ f is.
    let events = c.args.self.now.calls.events in
    subst (λ (l : List ℕ). may_leave_of (replay g.X.OpeningBytes.bytes events) l) (sym is) (seen-may-stay g.X.OpeningBytes.bytes events)
