use Rattle.std.proofs.Common.{◌≡◌, ◌<◌, true, inl, sym, ◌∙◌, ap, subst, arith, length}
use Rattle.metadata.specs.Says.{entered_in}
use Rattle.metadata.specs.State.{MetadataState}
use Rattle.kept_nodes.proofs.Losing.{loses-both, none-marked, on-ok-both}
use Rattle.kept_nodes.proofs.keeping.enter_if_missing.Goals.{then-count_in-eq0-via-then-count_in-eq0, then-count_in-eq0-via-else-count_in-eq0+then-is_entered}
use Rattle.kept_nodes.proofs.keeping.enter_if_missing.Goals as goal

pub returns-then-count_in-eq0-clause-known : goal.returns-then-count_in-eq0-clause-known
returns-then-count_in-eq0-clause-known g c = λ still stand entries block in_extent is. elim c.then-count_in-eq0.branch [
  | then-count_in-eq0-via-then-count_in-eq0 w ↦
      absurd (none-marked c.args.marks.now c.args.extent.0 block (sym c.count_in.ensures ∙ w.if-count_in-eq0.true) in_extent is)
  | then-count_in-eq0-via-else-count_in-eq0+then-is_entered w ↦ inl (λ f left. subst (λ x. entered_in f x ≡ true) (sym in_extent)
      (entries c.args.extent.0 c.requires.inside (sym w.is_entered.ensures ∙ w.if-is_entered.true) f left))
]

pub returns-clause-keeps : goal.returns-clause-keeps
returns-clause-keeps g c = loses-both g.F.StableFile.seen g.F.StableFile.may_leave g.F.StableFile.faithful c.args.metadata.now c.has_marks.new.metadata
    c.enter.new.metadata c.has_marks.ensures.keeps c.enter.ensures.keeps

pub returns-clause-known : goal.returns-clause-known
returns-clause-known g c = on-ok-both c.enter.result c.enter.ensures.entered (λ entered still stand entries block in_extent is.
    let lost = loses-both g.F.StableFile.seen g.F.StableFile.may_leave g.F.StableFile.faithful c.args.metadata.now c.has_marks.new.metadata
    c.enter.new.metadata c.has_marks.ensures.keeps c.enter.ensures.keeps in
    let within : c.args.extent.0 < length c.enter.new.metadata.entries = omega (
      arith,
      c.enter.ensures.size,
      ap (λ (m : MetadataState g.row.F.Denot). length m.entries) c.has_marks.ensures.memory,
      c.requires.inside,
    ) in
    inl (λ f left. subst (λ x. entered_in f x ≡ true) (sym in_extent) (lost.entries still entries c.args.extent.0 within entered f left)))
