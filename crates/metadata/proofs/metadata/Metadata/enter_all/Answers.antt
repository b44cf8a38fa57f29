use Rattle.std.proofs.Common.{ℕ, ◌≡◌, ◌≤◌, List, length, replicate, sym, ◌∙◌, ap, subst, arith}
use Rattle.std.proofs.lemmas.List.{length-replicate}
use Rattle.metadata.specs.Calls.{Follows, Leaves}
use Rattle.metadata.specs.Says.{entered_in}
use Rattle.metadata.specs.Steps.{MayEnter, EntersMissing}
use Rattle.metadata.specs.State.{MetadataState}
use Rattle.metadata.proofs.Moments.{no_write}
use Rattle.metadata.proofs.Kept.{extents-few}
use Rattle.metadata.proofs.Entered.{all-entered, all-kept}
use Rattle.metadata.proofs.metadata.Metadata.enter_all.Goals as goal

pub returns-in_err-sync-clause-any_moment : goal.returns-in_err-sync-clause-any_moment
returns-in_err-sync-clause-any_moment g c = rw (← c.self.view_is) λ whole faithful.
    let kept = c.self.invariant.kept whole (sym c.write_missing.ensures.still_faithful ∙ (sym c.sync.ensures.still_faithful ∙ faithful)) in
    let room : (d : List ℕ) → g.F.StableFile.may_leave c.self.inside.file d → 2101248 ≤ length d = λ d may. omega (arith, (kept.left d may).opens.size) in
    let run = subst (λ (l : List ℕ). Leaves g.F.StableFile.moment g.F.StableFile.left_since g.F.StableFile.may_leave (MayEnter l) c.self.inside.file c.write_missing.new.file)
    c.deref.ensures.value (c.write_missing.ensures.any_moment room) in
    let crash = subst (λ (l : List ℕ). Follows (MayEnter l) (g.F.StableFile.may_leave c.self.inside.file) (g.F.StableFile.may_leave c.write_missing.new.file))
    c.deref.ensures.value (c.in_ok-write_missing.ensures.crash room) in
    no_write g.F.StableFile.moment g.F.StableFile.left_since g.F.StableFile.may_leave (MayEnter c.self.inside.entries.items) c.self.inside.file c.write_missing.new.file c.sync.new.self
    run c.sync.ensures.crash crash c.sync.ensures.time

pub returns-clause-any_moment : goal.returns-clause-any_moment
returns-clause-any_moment g c = rw (← c.self.view_is) λ whole faithful.
    let kept = c.self.invariant.kept whole (sym c.write_missing.ensures.still_faithful ∙ (sym c.sync.ensures.still_faithful ∙ faithful)) in
    let room : (d : List ℕ) → g.F.StableFile.may_leave c.self.inside.file d → 2101248 ≤ length d = λ d may. omega (arith, (kept.left d may).opens.size) in
    let run = subst (λ (l : List ℕ). Leaves g.F.StableFile.moment g.F.StableFile.left_since g.F.StableFile.may_leave (MayEnter l) c.self.inside.file c.write_missing.new.file)
    c.deref.ensures.value (c.write_missing.ensures.any_moment room) in
    let crash = subst (λ (l : List ℕ). Follows (MayEnter l) (g.F.StableFile.may_leave c.self.inside.file) (g.F.StableFile.may_leave c.write_missing.new.file))
    c.deref.ensures.value (c.in_ok-write_missing.ensures.crash room) in
    no_write g.F.StableFile.moment g.F.StableFile.left_since g.F.StableFile.may_leave (MayEnter c.self.inside.entries.items) c.self.inside.file c.write_missing.new.file c.sync.new.self
    run c.sync.ensures.crash crash c.sync.ensures.time

pub returns-clause-durable : goal.returns-clause-durable
returns-clause-durable g c faithful f may x low =
    let entries = c.self.inside.entries.items in
    let kept = c.self.invariant.kept c.if-self.false (sym c.write_missing.ensures.still_faithful ∙ (sym c.sync.ensures.still_faithful ∙ faithful)) in
    let room : 2101248 ≤ length (g.F.StableFile.seen c.self.inside.file) = omega (arith, kept.says.opens.size) in
    let enters = subst (λ (l : List ℕ). EntersMissing l (length l) (g.F.StableFile.seen c.self.inside.file) (g.F.StableFile.seen c.write_missing.new.file))
    c.deref.ensures.value (c.in_ok-write_missing.ensures.written room) in
    let count = ap (λ (s : MetadataState g.row.F.Denot). length s.entries) c.self.view_is in
    ap (λ (l : List ℕ). entered_in l x) (c.in_ok-sync.ensures.durable f may)
    ∙ all-entered entries _ _ (extents-few c.self.inside.header entries c.self.invariant.sized c.self.invariant.few) kept.exactly enters x (omega (arith, count, low))

pub invariant_of-self-2 : goal.invariant_of-self-2
invariant_of-self-2 g c =
    let entries = c.self.inside.entries.items in
    let few = extents-few c.self.inside.header entries c.self.invariant.sized c.self.invariant.few in
    let size : c.self.inside.entries.len ≡ length entries = sym c.deref.ensures.len ∙ ap length c.deref.ensures.value in
    let ones : c.fill.new.self.items ≡ replicate (length entries) 1 = c.fill.ensures.items (λ y is. is) ∙ ap (λ n. replicate n 1) size in
    record {
      sized = ap length ones ∙ length-replicate {A = ℕ} (length entries) 1 ∙ c.self.invariant.sized;
      few = c.self.invariant.few;
      slot = c.self.invariant.slot;
      kept = λ whole faithful.
          let kept = c.self.invariant.kept c.if-self.false (sym c.write_missing.ensures.still_faithful ∙ (sym c.sync.ensures.still_faithful ∙ faithful)) in
          let room : 2101248 ≤ length (g.F.StableFile.seen c.self.inside.file) = omega (arith, kept.says.opens.size) in
          let enters = subst (λ (l : List ℕ). EntersMissing l (length l) (g.F.StableFile.seen c.self.inside.file) (g.F.StableFile.seen c.write_missing.new.file))
          c.deref.ensures.value (c.in_ok-write_missing.ensures.written room) in
          let synced = subst (λ (l : List ℕ). EntersMissing entries (length entries) (g.F.StableFile.seen c.self.inside.file) l) (sym c.sync.ensures.seen) enters in
          all-kept _ _ _ _ c.self.inside.header c.self.inside.identifiers c.self.inside.selected entries c.fill.new.self.items few ones kept synced
          (λ f may. c.in_ok-sync.ensures.durable f may ∙ sym c.sync.ensures.seen);
    }
