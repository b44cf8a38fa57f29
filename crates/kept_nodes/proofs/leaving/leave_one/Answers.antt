use Rattle.std.proofs.Common.{◌≡◌, false, length, sym, ◌∙◌, ap, arith}
use Rattle.std.specs.Prelude.{IsTrue}
use Rattle.kept_nodes.specs.Asked.{MarksStand}
use Rattle.kept_nodes.specs.Leaving.{StillCovers}
use Rattle.kept_nodes.proofs.Losing.{marks-enter, marks-fewer}
use Rattle.kept_nodes.proofs.StillCovering.{leave-covers, still-both, still-covers}
use Rattle.metadata.specs.Says.{extents_of}
use Rattle.metadata.specs.State.{MetadataState}
use Rattle.kept_nodes.proofs.leaving.leave_one.Goals.{After-leave}
use Rattle.kept_nodes.proofs.leaving.leave_one.Goals as goal

whole : (g : _) (c : After-leave g) → c.can_leave.new.metadata.is_broken ≡ false
whole g c = c.in_ok-can_leave.ensures.whole ∙ c.requires.whole

-- the marks that the file has stand after they were read
stand : (g : _) (c : After-leave g) → MarksStand g.F.StableFile.seen g.F.StableFile.may_leave c.args.metadata.now
    → MarksStand g.F.StableFile.seen g.F.StableFile.may_leave c.can_leave.new.metadata
stand g c = marks-fewer g.F.StableFile.seen g.F.StableFile.may_leave g.F.StableFile.faithful c.args.metadata.now c.can_leave.new.metadata
    c.can_leave.ensures.seen c.can_leave.ensures.left

covers : (g : _) (c : After-leave g)
    → (IsTrue (g.F.StableFile.faithful c.leave.new.self.file) → MarksStand g.F.StableFile.seen g.F.StableFile.may_leave c.args.metadata.now)
    → StillCovers g.F.StableFile.seen g.F.StableFile.may_leave g.F.StableFile.faithful c.args.node.now c.args.metadata.now c.leave.new.self
covers g c stands =
    let memory = c.can_leave.ensures.memory in
    let size : length c.can_leave.new.metadata.entries ≡ length c.args.metadata.now.entries = ap (λ (m : MetadataState g.row.F.Denot). length m.entries) memory in
    let sized : length c.can_leave.new.metadata.entries ≡ extents_of c.can_leave.new.metadata.header.blocks = size
    ∙ (sym c.extents.ensures.count ∙ (c.extents.ensures.of_blocks ∙ sym (ap (λ (m : MetadataState g.row.F.Denot). extents_of m.header.blocks) memory))) in
    still-both g.F.StableFile.seen g.F.StableFile.may_leave g.F.StableFile.faithful c.args.node.now c.args.metadata.now c.can_leave.new.metadata c.leave.new.self
    (still-covers g.F.StableFile.seen g.F.StableFile.may_leave g.F.StableFile.faithful c.args.node.now c.args.metadata.now c.can_leave.new.metadata
    c.can_leave.ensures.keeps)
    (leave-covers g.F.StableFile.seen g.F.StableFile.may_leave g.F.StableFile.faithful g.F.StableFile.moment g.F.StableFile.left_since g.met.F.StableFile.counts_now
    c.leave.result c.args.extent.0 c.args.node.now c.can_leave.new.metadata c.leave.new.self (whole g c) sized
    (omega (arith, size, c.extents.ensures.count, c.extents.ensures.few)) c.leave.ensures.breaks c.leave.ensures.memory c.leave.ensures.falls
    (c.leave.ensures.entry (whole g c)) c.leave.ensures.says (c.leave.ensures.any_moment (whole g c)) (λ still. stand g c (stands still))
    (λ still. c.in_ok-can_leave.ensures.marked c.if-not-branch.false (c.leave.ensures.falls still)))

pub returns-in_err-leave-clause-covers : goal.returns-in_err-leave-clause-covers
returns-in_err-leave-clause-covers g c = covers g (goal.at.returns-in_err-leave-clause-covers g c).After-leave

pub returns-clause-covers : goal.returns-clause-covers
returns-clause-covers g c = covers g (goal.at.returns-clause-covers g c).After-leave

pub returns-clause-marks : goal.returns-clause-marks
returns-clause-marks g c = λ still stands. marks-enter g.F.StableFile.seen g.F.StableFile.may_leave g.F.StableFile.faithful g.F.StableFile.moment
    g.F.StableFile.left_since g.met.F.StableFile.counts_now c.args.extent.0 c.can_leave.new.metadata c.leave.new.self (c.in_ok-leave.ensures.says still)
    (c.leave.ensures.any_moment (whole g (goal.at.returns-clause-marks g c).After-leave) still) (stand g (goal.at.returns-clause-marks g c).After-leave stands)
