use Rattle.std.proofs.Common.{inl, inr, ◌∙◌}
use Rattle.std.proofs.lemmas.Bool.{cases_Bool}
use Rattle.metadata.specs.State.{is_entered}
use Rattle.kept_nodes.proofs.Losing.{left-same, read-loses}
use Rattle.kept_nodes.proofs.StillCovering.{still-both, still-covers}
use Rattle.kept_nodes.proofs.leaving.leave.Goals as goal

pub returns-in_err-sync-clause-covers : goal.returns-in_err-sync-clause-covers
returns-in_err-sync-clause-covers g c =
    still-covers g.F.StableFile.seen g.F.StableFile.may_leave g.F.StableFile.faithful c.args.node.now c.args.metadata.now c.sync.new.self
    (read-loses g.F.StableFile.seen g.F.StableFile.may_leave g.F.StableFile.faithful c.sync.result _ c.args.metadata.now c.sync.new.self c.sync.ensures.refused
    c.sync.ensures.breaks c.sync.ensures.memory c.sync.ensures.falls
    (left-same g.F.StableFile.seen g.F.StableFile.may_leave g.F.StableFile.faithful g.F.StableFile.moment g.F.StableFile.left_since g.met.F.StableFile.counts_now
    c.args.metadata.now c.sync.new.self (λ broken. (c.sync.ensures.refused broken).1) c.sync.ensures.seen c.sync.ensures.any_moment))

pub returns-in_err-leave_one-clause-covers : goal.returns-in_err-leave_one-clause-covers
returns-in_err-leave_one-clause-covers g c = still-both g.F.StableFile.seen g.F.StableFile.may_leave g.F.StableFile.faithful c.args.node.now
    c.args.metadata.now c.loop-number.metadata c.leave_one.new.metadata c.loop-number.invariant.covers
    (c.leave_one.ensures.covers (λ still. c.loop-number.invariant.marks (c.leave_one.ensures.falls still)))

pub loop-number-preserved : goal.loop-number-preserved
loop-number-preserved g c =
    let inv = c.loop-number.invariant in
    let step = c.leave_one.ensures in
    record {
      covers = still-both g.F.StableFile.seen g.F.StableFile.may_leave g.F.StableFile.faithful c.args.node.now c.args.metadata.now c.loop-number.metadata
          c.leave_one.new.metadata inv.covers (step.covers (λ still. inv.marks (step.falls still)));
      header = step.header ∙ inv.header;
      identifiers = step.identifiers ∙ inv.identifiers;
      began = inv.began;
      whole = c.in_ok-leave_one.ensures.whole;
      marks = λ still. c.in_ok-leave_one.ensures.marks still (inv.marks (step.falls still));
      only_prepared = λ x entered left. elim (cases_Bool (is_entered c.loop-number.metadata.entries x)) [
        | inl was ↦ λ none. step.only_prepared x was left (inv.none_prepared x none)
        | inr gone ↦ inv.only_prepared x entered gone
      ];
      none_enters = λ x entered. inv.none_enters x (step.none_enters x entered);
      none_prepared = λ x none. step.none_prepared x (inv.none_prepared x none);
    }
