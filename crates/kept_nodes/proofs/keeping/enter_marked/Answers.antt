use Rattle.std.proofs.Common.{◌<◌, inl, inr, sym, ◌∙◌, ap, subst, arith}
use Rattle.std.proofs.lemmas.Bool.{cases_eq}
use Rattle.metadata.specs.Says.{extents_of}
use Rattle.metadata.specs.State.{MetadataState}
use Rattle.metadata.specs.declared.header.Header.{Header}
use Rattle.model.specs.Contents.{extent_of}
use Rattle.kept_nodes.proofs.Losing.{entries-synced, inside, left-same, loses-both, marked-within, marks-synced, read-loses}
use Rattle.kept_nodes.proofs.keeping.enter_marked.Goals as goal

pub returns-in_err-sync-clause-keeps : goal.returns-in_err-sync-clause-keeps
returns-in_err-sync-clause-keeps g c =
    read-loses g.F.StableFile.seen g.F.StableFile.may_leave g.F.StableFile.faithful c.sync.result _ c.args.metadata.now c.sync.new.self c.sync.ensures.refused
    c.sync.ensures.breaks c.sync.ensures.memory c.sync.ensures.falls
    (left-same g.F.StableFile.seen g.F.StableFile.may_leave g.F.StableFile.faithful g.F.StableFile.moment g.F.StableFile.left_since g.met.F.StableFile.counts_now
    c.args.metadata.now c.sync.new.self (λ broken. (c.sync.ensures.refused broken).1) c.sync.ensures.seen c.sync.ensures.any_moment)

pub loop-number-init : goal.loop-number-init
loop-number-init g c =
    let memory = c.in_ok-sync.ensures.memory in
    record {
      keeps = read-loses g.F.StableFile.seen g.F.StableFile.may_leave g.F.StableFile.faithful c.sync.result _ c.args.metadata.now c.sync.new.self c.sync.ensures.refused
          c.sync.ensures.breaks c.sync.ensures.memory c.sync.ensures.falls
          (left-same g.F.StableFile.seen g.F.StableFile.may_leave g.F.StableFile.faithful g.F.StableFile.moment g.F.StableFile.left_since g.met.F.StableFile.counts_now
          c.args.metadata.now c.sync.new.self (λ broken. (c.sync.ensures.refused broken).1) c.sync.ensures.seen c.sync.ensures.any_moment);
      identifiers = ap (λ (m : MetadataState g.row.F.Denot). m.identifiers) memory;
      whole = ap (λ (m : MetadataState g.row.F.Denot). m.is_broken) memory ∙ (sym c.is_broken.ensures.broken ∙ c.if-is_broken.false);
      size = sym c.extents-number-end.ensures.count;
      stand = λ still. entries-synced g.F.StableFile.seen g.F.StableFile.may_leave g.F.StableFile.faithful c.args.metadata.now c.sync.new.self
          (c.is_broken.ensures.stands c.if-is_broken.false (c.sync.ensures.falls still)) c.sync.ensures.seen
          (ap (λ (m : MetadataState g.row.F.Denot). m.entries) memory) c.in_ok-sync.ensures.durable;
      marks = λ still. marks-synced g.F.StableFile.seen g.F.StableFile.may_leave g.F.StableFile.faithful c.sync.new.self c.in_ok-sync.ensures.durable;
      known = λ still block low is. absurd (omega (arith, low));
    }

pub returns-in_err-enter_if_missing-clause-keeps : goal.returns-in_err-enter_if_missing-clause-keeps
returns-in_err-enter_if_missing-clause-keeps g c = loses-both g.F.StableFile.seen g.F.StableFile.may_leave g.F.StableFile.faithful c.args.metadata.now
    c.loop-number.metadata c.enter_if_missing.new.metadata c.loop-number.invariant.keeps c.enter_if_missing.ensures.keeps

pub loop-number-preserved : goal.loop-number-preserved
loop-number-preserved g c =
    let inv = c.loop-number.invariant in
    let step = c.enter_if_missing.ensures in
    let done = c.in_ok-enter_if_missing.ensures in
    record {
      keeps = loses-both g.F.StableFile.seen g.F.StableFile.may_leave g.F.StableFile.faithful c.args.metadata.now c.loop-number.metadata
          c.enter_if_missing.new.metadata inv.keeps step.keeps;
      identifiers = step.identifiers ∙ inv.identifiers;
      whole = done.whole ∙ inv.whole;
      size = step.size ∙ inv.size;
      stand = λ still. step.keeps.entries still (inv.stand (step.keeps.falls still));
      marks = λ still. done.marks still (inv.marks (step.keeps.falls still));
      known = λ still block low is.
          let before = step.keeps.falls still in
          elim (cases_eq (extent_of block) c.loop-number.number) [
            | inl here ↦ done.known still (inv.marks before) (inv.stand before) block here is
            | inr other ↦ step.keeps.known still (inv.stand before) block
                (subst (λ n. block < n) (c.requires.blocks ∙ sym (ap (λ (h : Header). h.blocks) inv.keeps.header)) (marked-within c.args.marks.now block is))
                (inv.known before block (omega (arith, low, other)) is)
          ];
    }

pub returns-clause-known : goal.returns-clause-known
returns-clause-known g c = λ still block is.
    let header = ap (λ (m : MetadataState g.row.F.Denot). m.header.blocks) c.in_ok-sync.ensures.memory in
    let within = inside c.extents-number-end.result c.args.metadata.now.header.blocks block (c.extents-number-end.ensures.of_blocks ∙ ap extents_of header)
    (subst (λ n. block < n) c.requires.blocks (marked-within c.args.marks.now block is)) in
    c.loop-number.invariant.known still block (omega (arith, within, c.loop-number-test.false)) is
