use Rattle.std.proofs.Common.{ℕ, List, take, drop, sym, ◌∙◌, ap, subst, arith}
use Rattle.std.specs.Prelude.{IsTrue, ◌&&◌}
use Rattle.metadata.specs.Events.{Event, replay, agrees}
use Rattle.metadata.proofs.Replays.{read-agrees}
use Rattle.metadata.proofs.metadata_file.MetadataFileStableFile.read_at.Goals as goal

pub returns-in-Ok-clause-within : goal.returns-in-Ok-clause-within
returns-in-Ok-clause-within g c faithful =
    let opening : List ℕ = g.X.OpeningBytes.bytes in
    let old = replay opening c.args.self.now.calls.events in
    let bytes : List ℕ = c.read_exact_at.new.buffer in
    let noted : IsTrue (old.faithful && agrees old.seen c.args.at bytes) = subst (λ (events : List Event). IsTrue (replay opening events).faithful) c.note.ensures faithful in
    omega (arith, (read-agrees old.faithful old.seen c.args.at bytes noted).0, c.read_exact_at.auto.buffer)

pub returns-in-Ok-clause-read : goal.returns-in-Ok-clause-read
returns-in-Ok-clause-read g c faithful =
    let opening : List ℕ = g.X.OpeningBytes.bytes in
    let old = replay opening c.args.self.now.calls.events in
    let bytes : List ℕ = c.read_exact_at.new.buffer in
    let noted : IsTrue (old.faithful && agrees old.seen c.args.at bytes) = subst (λ (events : List Event). IsTrue (replay opening events).faithful) c.note.ensures faithful in
    sym (ap (λ n. take n (drop c.args.at old.seen)) (sym c.read_exact_at.auto.buffer) ∙ (read-agrees old.faithful old.seen c.args.at bytes noted).1)
