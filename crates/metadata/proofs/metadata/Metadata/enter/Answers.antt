use Rattle.std.proofs.Common.{ℕ, ◌≡◌, ◌<◌, ◌+◌, ◌==◌, true, not, List, length, [], ◌∷◌, sym, ◌∙◌, ap, subst, arith, get_or, inl, inr, length-set}
use Rattle.std.proofs.lemmas.Grind.{get_or_default_zero}
use Rattle.std.proofs.lemmas.Bool.{cases_Bool, eqb-true}
use Rattle.metadata.specs.Calls.{Written, Only}
use Rattle.metadata.specs.Steps.{OnlyEntry}
use Rattle.metadata.specs.State.{MetadataState, is_entered}
use Rattle.metadata.proofs.Moments.{one_write, write_and_sync}
use Rattle.metadata.proofs.Places.{byte-here}
use Rattle.metadata.proofs.Kept.{torn-entry, entered-kept, extent-low, extents-few}
use Rattle.metadata.proofs.metadata.Metadata.enter.Goals as goal

entered-in-memory : (entries : List ℕ) (x found : ℕ) → x < length entries → found ≡ get_or entries x found → (found ≡ 0 → ⊥) → is_entered entries x ≡ true
entered-in-memory entries x found inside is some =
    let at : found ≡ get_or entries x 0 = is ∙ get_or_default_zero entries x found inside in
    elim (cases_Bool (get_or entries x 0 == 0)) [
      | inl none ↦ absurd (some (at ∙ eqb-true (get_or entries x 0) 0 none))
      | inr one ↦ ap not one
    ]

pub returns-then-index-ne0-clause-entered : goal.returns-then-index-ne0-clause-entered
returns-then-index-ne0-clause-entered g c = rw (← c.self.view_is) λ faithful.
    let kept = c.self.invariant.kept c.if-self.false faithful in
    let count = ap (λ (s : MetadataState g.row.F.Denot). length s.entries) c.self.view_is in
    let inside : c.args.extent.0 < length c.self.inside.entries.items = omega (arith, count, c.requires.inside) in
    kept.says.entered c.args.extent.0 inside (entered-in-memory c.self.inside.entries.items c.args.extent.0 c.index.result.now inside c.index.ensures c.if-index-ne0.true)

pub returns-then-index-ne0-clause-durable : goal.returns-then-index-ne0-clause-durable
returns-then-index-ne0-clause-durable g c = rw (← c.self.view_is) λ faithful f may.
    let kept = c.self.invariant.kept c.if-self.false faithful in
    let count = ap (λ (s : MetadataState g.row.F.Denot). length s.entries) c.self.view_is in
    let inside : c.args.extent.0 < length c.self.inside.entries.items = omega (arith, count, c.requires.inside) in
    (kept.left f may).entered c.args.extent.0 inside (entered-in-memory c.self.inside.entries.items c.args.extent.0 c.index.result.now inside c.index.ensures c.if-index-ne0.true)

pub returns-in_err-write_at-clause-any_moment : goal.returns-in_err-write_at-clause-any_moment
returns-in_err-write_at-clause-any_moment g c = rw (← c.self.view_is) λ whole faithful.
    let extent = c.args.extent.0 in
    let kept = c.self.invariant.kept whole (sym c.write_at.ensures.still_faithful ∙ faithful) in
    let count = ap (λ (s : MetadataState g.row.F.Denot). length s.entries) c.self.view_is in
    let low = extent-low c.self.inside.header extent _ c.self.invariant.sized c.self.invariant.few (omega (arith, count, c.requires.inside)) in
    one_write g.F.StableFile.moment g.F.StableFile.left_since g.F.StableFile.may_leave (OnlyEntry extent) (4096 + extent) 1 c.self.inside.file c.write_at.new.self
    (g.met.F.StableFile.only_now c.self.inside.file)
    (λ d f may torn. torn-entry c.self.inside.header c.self.inside.identifiers extent d f low (kept.left d may).opens torn)
    c.write_at.ensures.crash c.write_at.ensures.time

pub returns-in_err-sync-clause-any_moment : goal.returns-in_err-sync-clause-any_moment
returns-in_err-sync-clause-any_moment g c = rw (← c.self.view_is) λ whole faithful.
    let extent = c.args.extent.0 in
    let kept = c.self.invariant.kept whole (sym c.write_at.ensures.still_faithful ∙ (sym c.sync.ensures.still_faithful ∙ faithful)) in
    let count = ap (λ (s : MetadataState g.row.F.Denot). length s.entries) c.self.view_is in
    let low = extent-low c.self.inside.header extent _ c.self.invariant.sized c.self.invariant.few (omega (arith, count, c.requires.inside)) in
    write_and_sync g.F.StableFile.moment g.F.StableFile.left_since g.F.StableFile.may_leave (OnlyEntry extent) (4096 + extent) 1 c.self.inside.file c.write_at.new.self c.sync.new.self
    (g.met.F.StableFile.only_now c.self.inside.file)
    (λ d f may torn. torn-entry c.self.inside.header c.self.inside.identifiers extent d f low (kept.left d may).opens torn)
    c.write_at.ensures.crash c.write_at.ensures.time c.sync.ensures.crash c.sync.ensures.time

pub returns-clause-any_moment : goal.returns-clause-any_moment
returns-clause-any_moment g c = rw (← c.self.view_is) λ whole faithful.
    let extent = c.args.extent.0 in
    let kept = c.self.invariant.kept whole (sym c.write_at.ensures.still_faithful ∙ (sym c.sync.ensures.still_faithful ∙ faithful)) in
    let count = ap (λ (s : MetadataState g.row.F.Denot). length s.entries) c.self.view_is in
    let low = extent-low c.self.inside.header extent _ c.self.invariant.sized c.self.invariant.few (omega (arith, count, c.requires.inside)) in
    write_and_sync g.F.StableFile.moment g.F.StableFile.left_since g.F.StableFile.may_leave (OnlyEntry extent) (4096 + extent) 1 c.self.inside.file c.write_at.new.self c.sync.new.self
    (g.met.F.StableFile.only_now c.self.inside.file)
    (λ d f may torn. torn-entry c.self.inside.header c.self.inside.identifiers extent d f low (kept.left d may).opens torn)
    c.write_at.ensures.crash c.write_at.ensures.time c.sync.ensures.crash c.sync.ensures.time

pub returns-clause-says : goal.returns-clause-says
returns-clause-says g c = rw (← c.self.view_is) λ faithful.
    let extent = c.args.extent.0 in
    let kept = c.self.invariant.kept c.if-self.false (sym c.write_at.ensures.still_faithful ∙ (sym c.sync.ensures.still_faithful ∙ faithful)) in
    let count = ap (λ (s : MetadataState g.row.F.Denot). length s.entries) c.self.view_is in
    let low = extent-low c.self.inside.header extent _ c.self.invariant.sized c.self.invariant.few (omega (arith, count, c.requires.inside)) in
    subst (λ (file : List ℕ). OnlyEntry extent (g.F.StableFile.seen c.self.inside.file) file) (sym c.sync.ensures.seen)
    (torn-entry c.self.inside.header c.self.inside.identifiers extent _ _ low kept.says.opens c.in_ok-write_at.ensures.written.elsewhere)

pub returns-clause-durable : goal.returns-clause-durable
returns-clause-durable g c faithful f may =
    let extent = c.args.extent.0 in
    let byte = byte-here (4096 + extent) 1 _ c.in_ok-write_at.ensures.written.here in
    ap (λ n. not (n == 0)) (ap (λ (l : List ℕ). get_or l (4096 + extent) 0) (c.in_ok-sync.ensures.durable f may) ∙ byte)

pub invariant_of-self-2 : goal.invariant_of-self-2
invariant_of-self-2 g c =
    let extent = c.args.extent.0 in
    let entries = c.self.inside.entries.items in
    let count = ap (λ (s : MetadataState g.row.F.Denot). length s.entries) c.self.view_is in
    let inside : extent < length entries = omega (arith, count, c.requires.inside) in
    let few = extents-few c.self.inside.header entries c.self.invariant.sized c.self.invariant.few in
    record {
      sized = length-set entries extent 1 ∙ c.self.invariant.sized;
      few = c.self.invariant.few;
      slot = c.self.invariant.slot;
      kept = λ whole faithful.
          let kept = c.self.invariant.kept c.if-self.false (sym c.write_at.ensures.still_faithful ∙ (sym c.sync.ensures.still_faithful ∙ faithful)) in
          let written : Written (4096 + extent) (1 ∷ []) (g.F.StableFile.seen c.self.inside.file) (g.F.StableFile.seen c.sync.new.self)
          = subst (λ (file : List ℕ). Written (4096 + extent) (1 ∷ []) (g.F.StableFile.seen c.self.inside.file) file) (sym c.sync.ensures.seen) c.in_ok-write_at.ensures.written in
          let only : Only (g.F.StableFile.seen c.sync.new.self) (g.F.StableFile.may_leave c.sync.new.self)
          = λ f may. c.in_ok-sync.ensures.durable f may ∙ sym c.sync.ensures.seen in
          entered-kept _ _ _ _ c.self.inside.header c.self.inside.identifiers c.self.inside.selected extent 1 entries inside few kept written only;
    }
