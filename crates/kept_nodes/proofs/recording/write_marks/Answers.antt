use Rattle.std.proofs.Common.{ℕ, ◌+◌, ◌*◌, ◌-◌, ◌≤◌, refl, ◌∙◌, ap, arith}
use Rattle.kept_nodes.specs.Recorded.{OnlyMarksOf}
use Rattle.kept_nodes.proofs.Writing.{comes-run, comes-same, entered-loses, from-more, of-both, of-range, of-same, unmarked-keeps}
use Rattle.kept_nodes.proofs.Writing.{memory-both, memory-more, memory-still}
use Rattle.metadata.specs.State.{MetadataState}
use Rattle.metadata.specs.declared.header.Header.{Header}
use Rattle.kept_nodes.proofs.recording.write_marks.Goals as goal

pub loop-from-init : goal.loop-from-init
loop-from-init g c = record {
  after = omega arith;
  before = omega (arith, c.requires.inside, c.is_broken.ensures.sized, ap (λ (h : Header). h.blocks) c.header.ensures, c.min-end.ensures);
  memory = refl;
  falls = λ still. still;
  comes = λ still. comes-same g.F.StableFile.seen g.F.StableFile.may_leave g.F.StableFile.faithful (OnlyMarksOf c.args.extent.0)
      c.args.metadata.now c.args.metadata.now refl (of-same c.args.extent.0);
  others = λ still. of-same c.args.extent.0 (g.F.StableFile.seen c.args.metadata.now.file);
  written = λ still block low high. absurd (omega (arith, low, high));
}

pub loop-from-preserved : goal.loop-from-preserved
loop-from-preserved g c =
    let inv = c.loop-from.invariant in
    let extent : ℕ = c.args.extent.0 in
    let from : ℕ = c.loop-from.from in
    let to : ℕ = c.end_of_run-to.result in
    let low : extent * 1024 ≤ from = omega arith in
    let order : from ≤ to = omega arith in
    let high : to ≤ (extent + 1) * 1024 = omega (arith, c.min-end.ensures) in
    let run = c.write_run.ensures in
    let done = c.in_ok-write_run.ensures in
    record {
      after = omega arith;
      before = omega arith;
      memory = memory-more g.F.StableFile.seen g.F.StableFile.may_leave g.F.StableFile.faithful c.args.metadata.now c.loop-from.metadata
          c.write_run.new.metadata done.memory done.whole inv.memory;
      falls = λ still. inv.falls (run.falls still);
      comes = λ still. comes-run g.F.StableFile.seen g.F.StableFile.may_leave g.F.StableFile.faithful extent from to c.args.metadata.now c.loop-from.metadata
          c.write_run.new.metadata low order high (inv.comes (run.falls still)) (run.comes still);
      others = λ still. of-both extent (g.F.StableFile.seen c.args.metadata.now.file) (g.F.StableFile.seen c.loop-from.metadata.file)
          (g.F.StableFile.seen c.write_run.new.metadata.file) (inv.others (run.falls still))
          (of-range extent from (to - from) _ _ low (omega (arith, order, high)) (done.others still));
      written = λ still. from-more (extent * 1024) from to c.args.marks.now (g.F.StableFile.seen c.loop-from.metadata.file)
          (g.F.StableFile.seen c.write_run.new.metadata.file) order (done.others still) (λ block within. done.written still block within ∙ c.is_marked.ensures)
          c.end_of_run-to.ensures.alike (inv.written (run.falls still));
    }

pub returns-in_err-write_run-clause-keeps : goal.returns-in_err-write_run-clause-keeps
returns-in_err-write_run-clause-keeps g c = λ is.
    let inv = c.loop-from.invariant in
    let run = c.write_run.ensures in
    entered-loses g.F.StableFile.seen g.F.StableFile.may_leave g.F.StableFile.faithful c.args.extent.0 c.args.metadata.now c.write_run.new.metadata
    c.is_broken.ensures.sized c.is_broken.ensures.few c.requires.inside is
    (memory-both g.F.StableFile.seen g.F.StableFile.may_leave g.F.StableFile.faithful c.args.metadata.now c.loop-from.metadata c.write_run.new.metadata
    run.memory inv.memory) (λ still. inv.falls (run.falls still)) (λ was. c.in_err-write_run.ensures.fault)
    (λ still. comes-run g.F.StableFile.seen g.F.StableFile.may_leave g.F.StableFile.faithful c.args.extent.0 c.loop-from.from c.end_of_run-to.result
    c.args.metadata.now c.loop-from.metadata c.write_run.new.metadata (omega arith) (omega arith) (omega (arith, c.min-end.ensures))
    (inv.comes (run.falls still)) (run.comes still))

pub returns-in_err-write_run-clause-spares : goal.returns-in_err-write_run-clause-spares
returns-in_err-write_run-clause-spares g c = λ none.
    let inv = c.loop-from.invariant in
    let run = c.write_run.ensures in
    unmarked-keeps g.F.StableFile.seen g.F.StableFile.may_leave g.F.StableFile.faithful c.args.extent.0 c.args.marks.now c.args.metadata.now
    c.write_run.new.metadata c.is_broken.ensures.sized c.is_broken.ensures.few c.requires.blocks none
    (memory-both g.F.StableFile.seen g.F.StableFile.may_leave g.F.StableFile.faithful c.args.metadata.now c.loop-from.metadata c.write_run.new.metadata
    run.memory inv.memory) (λ still. inv.falls (run.falls still))
    (λ still. comes-run g.F.StableFile.seen g.F.StableFile.may_leave g.F.StableFile.faithful c.args.extent.0 c.loop-from.from c.end_of_run-to.result
    c.args.metadata.now c.loop-from.metadata c.write_run.new.metadata (omega arith) (omega arith) (omega (arith, c.min-end.ensures))
    (inv.comes (run.falls still)) (run.comes still))

pub returns-clause-keeps : goal.returns-clause-keeps
returns-clause-keeps g c = λ is.
    let inv = c.loop-from.invariant in
    entered-loses g.F.StableFile.seen g.F.StableFile.may_leave g.F.StableFile.faithful c.args.extent.0 c.args.metadata.now c.loop-from.metadata
    c.is_broken.ensures.sized c.is_broken.ensures.few c.requires.inside is
    (memory-still g.F.StableFile.seen g.F.StableFile.may_leave g.F.StableFile.faithful c.args.metadata.now c.loop-from.metadata inv.memory) inv.falls
    (λ was. ap (λ (m : MetadataState g.row.F.Denot). m.is_broken) inv.memory ∙ was) inv.comes

pub returns-clause-spares : goal.returns-clause-spares
returns-clause-spares g c = λ none.
    let inv = c.loop-from.invariant in
    unmarked-keeps g.F.StableFile.seen g.F.StableFile.may_leave g.F.StableFile.faithful c.args.extent.0 c.args.marks.now c.args.metadata.now
    c.loop-from.metadata c.is_broken.ensures.sized c.is_broken.ensures.few c.requires.blocks none
    (memory-still g.F.StableFile.seen g.F.StableFile.may_leave g.F.StableFile.faithful c.args.metadata.now c.loop-from.metadata inv.memory) inv.falls inv.comes
