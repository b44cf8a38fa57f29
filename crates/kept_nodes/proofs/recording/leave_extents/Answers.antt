use Rattle.std.proofs.Common.{◌≡◌, inl, inr, false, sym, ◌∙◌, subst, arith}
use Rattle.std.proofs.lemmas.Bool.{cases_eq}
use Rattle.metadata.specs.Says.{entered_in}
use Rattle.metadata.specs.Steps.{SameMarks}
use Rattle.kept_nodes.proofs.Writing.{comes-both, marks-both}
use Rattle.kept_nodes.proofs.recording.leave_extents.Goals as goal

pub returns-in_err-leave_one-clause-comes : goal.returns-in_err-leave_one-clause-comes
returns-in_err-leave_one-clause-comes g c = λ still. comes-both g.F.StableFile.seen g.F.StableFile.may_leave g.F.StableFile.faithful SameMarks
    c.args.metadata.now
    c.loop-number.metadata c.leave_one.new.metadata marks-both (c.loop-number.invariant.comes (c.leave_one.ensures.falls still)) (c.leave_one.ensures.comes
    still)

pub loop-number-preserved : goal.loop-number-preserved
loop-number-preserved g c =
    let inv = c.loop-number.invariant in
    let step = c.leave_one.ensures in
    let done = c.in_ok-leave_one.ensures in
    record {
      comes = λ still. comes-both g.F.StableFile.seen g.F.StableFile.may_leave g.F.StableFile.faithful SameMarks c.args.metadata.now c.loop-number.metadata
          c.leave_one.new.metadata marks-both (inv.comes (step.falls still)) (step.comes still);
      marks = λ still b. (done.step still).marks b ∙ inv.marks (step.falls still) b;
      left = λ still x below. elim (cases_eq x c.loop-number.number) [
        | inl here ↦ subst (λ n. entered_in (g.F.StableFile.seen c.leave_one.new.metadata.file) n ≡ false) (sym here) (done.left still)
        | inr other ↦ (done.step still).others x (omega (arith, below, c.extents-number-end.ensures.few)) other
            ∙ inv.left (step.falls still) x (omega (arith, below, other))
      ];
      size = step.size ∙ inv.size;
      identifiers = step.identifiers ∙ inv.identifiers;
      header = step.header ∙ inv.header;
      falls = λ still. inv.falls (step.falls still);
    }
