use Rattle.std.proofs.Common.{ℕ, List, sym, ◌∙◌, ap, subst, arith, length}
use Rattle.kept_nodes.specs.Leaving.{HasDevice}
use Rattle.kept_nodes.proofs.Losing.{left-same, loses-both, read-loses}
use Rattle.metadata.specs.declared.header.Header.{Header}
use Rattle.kept_nodes.proofs.preparing.prepare.Goals.{then-count-most+in_ok-prepare_one+then-branch, else-count-most}
use Rattle.kept_nodes.proofs.preparing.prepare.Goals.{else-count-most-via-then-count-most+in_ok-prepare_one+else-branch, else-count-most-via-else-count-most}
use Rattle.kept_nodes.proofs.preparing.prepare.Goals as goal

pub prepare_one-requires-clause-device : goal.prepare_one-requires-clause-device
prepare_one-requires-clause-device g c = subst (λ (blocks : ℕ). HasDevice c.args.node.now blocks)
    (sym (ap (λ (header : Header). header.blocks) c.loop-number.invariant.keeps.header)) c.requires.device

pub prepare_one-requires-clause-inside : goal.prepare_one-requires-clause-inside
prepare_one-requires-clause-inside g c =
    omega (arith, c.loop-number-test.true, c.loop-number.invariant.size, ap (λ (l : List ℕ). length l) c.loop-number.invariant.entries)

pub returns-in_err-prepare_one-clause-keeps : goal.returns-in_err-prepare_one-clause-keeps
returns-in_err-prepare_one-clause-keeps g c = loses-both g.F.StableFile.seen g.F.StableFile.may_leave g.F.StableFile.faithful c.args.metadata.now
    c.loop-number.metadata c.prepare_one.new.metadata c.loop-number.invariant.keeps c.prepare_one.ensures.keeps

pub loop-number-preserved : goal.loop-number-preserved
loop-number-preserved g c =
    let inv = c.loop-number.invariant in
    elim c.if-count-most.branch [
      | then-count-most+in_ok-prepare_one+then-branch w ↦ rw w.metadata-is (record {
        keeps = loses-both g.F.StableFile.seen g.F.StableFile.may_leave g.F.StableFile.faithful c.args.metadata.now c.loop-number.metadata
            w.prepare_one.new.metadata inv.keeps w.prepare_one.ensures.keeps;
        entries = w.prepare_one.ensures.entries ∙ inv.entries;
        identifiers = w.prepare_one.ensures.identifiers ∙ inv.identifiers;
        size = inv.size;
      })
      | else-count-most w ↦ rw w.metadata-is (elim w.else-count-most.branch [
        | else-count-most-via-then-count-most+in_ok-prepare_one+else-branch v ↦ rw v.metadata-is (record {
          keeps = loses-both g.F.StableFile.seen g.F.StableFile.may_leave g.F.StableFile.faithful c.args.metadata.now c.loop-number.metadata
              v.prepare_one.new.metadata inv.keeps v.prepare_one.ensures.keeps;
          entries = v.prepare_one.ensures.entries ∙ inv.entries;
          identifiers = v.prepare_one.ensures.identifiers ∙ inv.identifiers;
          size = inv.size;
        })
        | else-count-most-via-else-count-most v ↦ rw v.metadata-is (record {
          keeps = inv.keeps;
          entries = inv.entries;
          identifiers = inv.identifiers;
          size = inv.size;
        })
      ])
    ]

pub returns-in_err-sync-clause-keeps : goal.returns-in_err-sync-clause-keeps
returns-in_err-sync-clause-keeps g c = loses-both g.F.StableFile.seen g.F.StableFile.may_leave g.F.StableFile.faithful c.args.metadata.now
    c.loop-number.metadata c.sync.new.self c.loop-number.invariant.keeps
    (read-loses g.F.StableFile.seen g.F.StableFile.may_leave g.F.StableFile.faithful c.sync.result _ c.loop-number.metadata c.sync.new.self c.sync.ensures.refused
    c.sync.ensures.breaks c.sync.ensures.memory c.sync.ensures.falls
    (left-same g.F.StableFile.seen g.F.StableFile.may_leave g.F.StableFile.faithful g.F.StableFile.moment g.F.StableFile.left_since g.met.F.StableFile.counts_now
    c.loop-number.metadata c.sync.new.self (λ broken. (c.sync.ensures.refused broken).1) c.sync.ensures.seen c.sync.ensures.any_moment))

pub returns-in_ok-sync-clause-keeps : goal.returns-in_ok-sync-clause-keeps
returns-in_ok-sync-clause-keeps g c = loses-both g.F.StableFile.seen g.F.StableFile.may_leave g.F.StableFile.faithful c.args.metadata.now
    c.loop-number.metadata c.sync.new.self c.loop-number.invariant.keeps
    (read-loses g.F.StableFile.seen g.F.StableFile.may_leave g.F.StableFile.faithful c.sync.result _ c.loop-number.metadata c.sync.new.self c.sync.ensures.refused
    c.sync.ensures.breaks c.sync.ensures.memory c.sync.ensures.falls
    (left-same g.F.StableFile.seen g.F.StableFile.may_leave g.F.StableFile.faithful g.F.StableFile.moment g.F.StableFile.left_since g.met.F.StableFile.counts_now
    c.loop-number.metadata c.sync.new.self (λ broken. (c.sync.ensures.refused broken).1) c.sync.ensures.seen c.sync.ensures.any_moment))
