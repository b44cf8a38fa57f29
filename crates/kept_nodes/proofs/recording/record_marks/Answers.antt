use Rattle.std.proofs.Common.{ℕ, sym, ap, subst}
use Rattle.kept_nodes.specs.Recorded.{HasMarks}
use Rattle.kept_nodes.proofs.Losing.{left-same}
use Rattle.kept_nodes.proofs.Writing.{comes-both, comes-fewer, keeps-both, keeps-fewer, marks-both, marks-known, marks-left, marks-same}
use Rattle.metadata.specs.Says.{extents_of}
use Rattle.metadata.specs.State.{MetadataState}
use Rattle.metadata.specs.Steps.{SameMarks}
use Rattle.kept_nodes.proofs.recording.record_marks.Goals as goal

pub returns-in_err-sync-clause-keeps : goal.returns-in_err-sync-clause-keeps
returns-in_err-sync-clause-keeps g c =
    let breaks = c.in_err-sync.ensures.breaks in
    (keeps-both g.F.StableFile.seen g.F.StableFile.may_leave g.F.StableFile.faithful c.args.marks.now c.args.metadata.now c.record_extents.new.metadata
    c.sync.new.self
    c.record_extents.ensures.keeps (keeps-fewer g.F.StableFile.seen g.F.StableFile.may_leave g.F.StableFile.faithful c.args.marks.now
    c.record_extents.new.metadata
    c.sync.new.self (ap (λ (m : MetadataState g.row.F.Denot). m.header) breaks) (ap (λ (m : MetadataState g.row.F.Denot). m.entries) breaks)
    c.sync.ensures.falls
    (left-same g.F.StableFile.seen g.F.StableFile.may_leave g.F.StableFile.faithful g.F.StableFile.moment g.F.StableFile.left_since
    g.met.F.StableFile.counts_now
    c.record_extents.new.metadata c.sync.new.self (λ broken. (c.sync.ensures.refused broken).1) c.sync.ensures.seen c.sync.ensures.any_moment))).known

pub returns-in_err-leave_extents-clause-keeps : goal.returns-in_err-leave_extents-clause-keeps
returns-in_err-leave_extents-clause-keeps g c = λ still stand block is known.
    let extents : ℕ = extents_of c.args.metadata.now.header.blocks in
    let written = c.in_ok-record_extents.ensures.written (c.sync.ensures.falls (c.leave_extents.ensures.falls still)) in
    marks-known g.F.StableFile.seen g.F.StableFile.may_leave g.F.StableFile.faithful c.args.marks.now extents c.leave_extents.new.metadata
    (ap extents_of (sym c.requires.blocks))
    (marks-left g.F.StableFile.seen g.F.StableFile.may_leave g.F.StableFile.faithful c.args.marks.now extents c.sync.new.self c.leave_extents.new.metadata
    c.in_ok-sync.ensures.durable (subst (HasMarks extents c.args.marks.now) (sym c.sync.ensures.seen) written) (c.leave_extents.ensures.comes still)) block is

pub returns-clause-keeps : goal.returns-clause-keeps
returns-clause-keeps g c = λ still stand block is known.
    let left = c.sync-2.ensures.falls still in
    let extents : ℕ = extents_of c.args.metadata.now.header.blocks in
    let written = c.in_ok-record_extents.ensures.written (c.sync.ensures.falls (c.leave_extents.ensures.falls left)) in
    let fewer = left-same g.F.StableFile.seen g.F.StableFile.may_leave g.F.StableFile.faithful g.F.StableFile.moment g.F.StableFile.left_since
    g.met.F.StableFile.counts_now c.leave_extents.new.metadata c.sync-2.new.self (λ broken. (c.sync-2.ensures.refused broken).1) c.sync-2.ensures.seen
    c.sync-2.ensures.any_moment in
    let comes = comes-both g.F.StableFile.seen g.F.StableFile.may_leave g.F.StableFile.faithful SameMarks c.sync.new.self c.leave_extents.new.metadata
    c.sync-2.new.self
    marks-both (c.leave_extents.ensures.comes left)
    (comes-fewer g.F.StableFile.seen g.F.StableFile.may_leave g.F.StableFile.faithful SameMarks c.leave_extents.new.metadata c.sync-2.new.self marks-same
    fewer) in
    marks-known g.F.StableFile.seen g.F.StableFile.may_leave g.F.StableFile.faithful c.args.marks.now extents c.sync-2.new.self (ap extents_of (sym
    c.requires.blocks))
    (marks-left g.F.StableFile.seen g.F.StableFile.may_leave g.F.StableFile.faithful c.args.marks.now extents c.sync.new.self c.sync-2.new.self
    c.in_ok-sync.ensures.durable (subst (HasMarks extents c.args.marks.now) (sym c.sync.ensures.seen) written) comes) block is
