use Rattle.std.proofs.Common.{ℕ, ◌≡◌, ◌<◌, ◌-◌, ◌^◌, List, sym, ◌∙◌, ap, subst, Ok, slice_index, arith}
use Rattle.metadata.specs.Words.{bytes_of, sealed, sum_of}
use Rattle.metadata.specs.Judged.{slot_judged}
use Rattle.metadata.specs.Steps.{OnlySlot, OnlyIdentifiers}
use Rattle.metadata.proofs.Moments.{wider}
use Rattle.metadata.proofs.Kept.{extents-few}
use Rattle.metadata.proofs.Sealed.{slot-found}
use Rattle.metadata.proofs.Saved.{only-identifiers, replaced-identifiers, has-other, replaced-kept}
use Rattle.metadata.proofs.metadata.Metadata.save.Goals as goal

pub returns-in_err-replace_slot-clause-any_moment : goal.returns-in_err-replace_slot-clause-any_moment
returns-in_err-replace_slot-clause-any_moment g c = rw (← c.self.view_is) λ whole faithful.
    let v = c.args.identifiers.now in
    let bytes : List ℕ = c.seal.new.buffer in
    let words = c.slot_words.ensures in
    let found : slot_judged bytes ≡ Ok v
    = ap slot_judged (c.seal.ensures.sealed ∙ ap sealed words)
    ∙ slot-found v (subst (λ (l : List ℕ). (k : ℕ) → slice_index l k < 2 ^ 64) words c.seal.ensures.words_fit)
    (subst (λ (l : List ℕ). sum_of (bytes_of l) < 2 ^ 64) words c.seal.ensures.sum_fits) in
    let kept = c.self.invariant.kept whole (sym c.replace_slot.ensures.still_faithful ∙ faithful) in
    let ready = λ (d : List ℕ) (may : g.F.StableFile.may_leave c.self.inside.file d).
    has-other c.self.inside.header c.self.inside.identifiers c.self.inside.selected c.self.inside.entries.items d c.self.invariant.slot (kept.left d may) in
    wider g.F.StableFile.moment g.F.StableFile.left_since g.F.StableFile.may_leave (OnlySlot bytes) (OnlyIdentifiers v) c.self.inside.file c.replace_slot.new.file
    (λ d f may only. only-identifiers v bytes d f found only) (c.replace_slot.ensures.any_moment ready)

pub returns-clause-any_moment : goal.returns-clause-any_moment
returns-clause-any_moment g c = rw (← c.self.view_is) λ whole faithful.
    let v = c.args.identifiers.now in
    let bytes : List ℕ = c.seal.new.buffer in
    let words = c.slot_words.ensures in
    let found : slot_judged bytes ≡ Ok v
    = ap slot_judged (c.seal.ensures.sealed ∙ ap sealed words)
    ∙ slot-found v (subst (λ (l : List ℕ). (k : ℕ) → slice_index l k < 2 ^ 64) words c.seal.ensures.words_fit)
    (subst (λ (l : List ℕ). sum_of (bytes_of l) < 2 ^ 64) words c.seal.ensures.sum_fits) in
    let kept = c.self.invariant.kept whole (sym c.replace_slot.ensures.still_faithful ∙ faithful) in
    let ready = λ (d : List ℕ) (may : g.F.StableFile.may_leave c.self.inside.file d).
    has-other c.self.inside.header c.self.inside.identifiers c.self.inside.selected c.self.inside.entries.items d c.self.invariant.slot (kept.left d may) in
    wider g.F.StableFile.moment g.F.StableFile.left_since g.F.StableFile.may_leave (OnlySlot bytes) (OnlyIdentifiers v) c.self.inside.file c.replace_slot.new.file
    (λ d f may only. only-identifiers v bytes d f found only) (c.replace_slot.ensures.any_moment ready)

pub returns-clause-says : goal.returns-clause-says
returns-clause-says g c = rw (← c.self.view_is) λ faithful.
    let v = c.args.identifiers.now in
    let bytes : List ℕ = c.seal.new.buffer in
    let words = c.slot_words.ensures in
    let found : slot_judged bytes ≡ Ok v
    = ap slot_judged (c.seal.ensures.sealed ∙ ap sealed words)
    ∙ slot-found v (subst (λ (l : List ℕ). (k : ℕ) → slice_index l k < 2 ^ 64) words c.seal.ensures.words_fit)
    (subst (λ (l : List ℕ). sum_of (bytes_of l) < 2 ^ 64) words c.seal.ensures.sum_fits) in
    let kept = c.self.invariant.kept c.if-self.false (sym c.replace_slot.ensures.still_faithful ∙ faithful) in
    let was = has-other c.self.inside.header c.self.inside.identifiers c.self.inside.selected c.self.inside.entries.items _ c.self.invariant.slot kept.says in
    replaced-identifiers v (1 - c.self.inside.selected) bytes _ _ found (c.in_ok-replace_slot.ensures.replaced was)

pub returns-clause-saved : goal.returns-clause-saved
returns-clause-saved g c faithful =
    let v = c.args.identifiers.now in
    let bytes : List ℕ = c.seal.new.buffer in
    let words = c.slot_words.ensures in
    let found : slot_judged bytes ≡ Ok v
    = ap slot_judged (c.seal.ensures.sealed ∙ ap sealed words)
    ∙ slot-found v (subst (λ (l : List ℕ). (k : ℕ) → slice_index l k < 2 ^ 64) words c.seal.ensures.words_fit)
    (subst (λ (l : List ℕ). sum_of (bytes_of l) < 2 ^ 64) words c.seal.ensures.sum_fits) in
    let kept = c.self.invariant.kept c.if-self.false (sym c.replace_slot.ensures.still_faithful ∙ faithful) in
    let was = has-other c.self.inside.header c.self.inside.identifiers c.self.inside.selected c.self.inside.entries.items _ c.self.invariant.slot kept.says in
    ap slot_judged (c.in_ok-replace_slot.ensures.replaced was).saved ∙ found

pub invariant_of-self-2 : goal.invariant_of-self-2
invariant_of-self-2 g c =
    let v = c.args.identifiers.now in
    let bytes : List ℕ = c.seal.new.buffer in
    let words = c.slot_words.ensures in
    let found : slot_judged bytes ≡ Ok v
    = ap slot_judged (c.seal.ensures.sealed ∙ ap sealed words)
    ∙ slot-found v (subst (λ (l : List ℕ). (k : ℕ) → slice_index l k < 2 ^ 64) words c.seal.ensures.words_fit)
    (subst (λ (l : List ℕ). sum_of (bytes_of l) < 2 ^ 64) words c.seal.ensures.sum_fits) in
    record {
      sized = c.self.invariant.sized;
      few = c.self.invariant.few;
      slot = omega arith;
      kept = λ whole faithful.
          let kept = c.self.invariant.kept c.if-self.false (sym c.replace_slot.ensures.still_faithful ∙ faithful) in
          let was = has-other c.self.inside.header c.self.inside.identifiers c.self.inside.selected c.self.inside.entries.items _ c.self.invariant.slot kept.says in
          replaced-kept _ _ _ _ c.self.inside.header c.self.inside.identifiers v c.self.inside.selected (1 - c.self.inside.selected) bytes c.self.inside.entries.items
          (extents-few c.self.inside.header c.self.inside.entries.items c.self.invariant.sized c.self.invariant.few) found kept (c.in_ok-replace_slot.ensures.replaced was) c.in_ok-replace_slot.ensures.durable;
    }
