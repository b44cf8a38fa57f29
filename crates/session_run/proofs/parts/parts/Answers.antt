use Rattle.std.proofs.Common.{rules, ℕ, zero, suc, ◌≡◌, Bool, false, List, replicate, slice_get, refl, sym, ◌∙◌, ap, arith}
use Rattle.std.specs.Prelude.{unwrap_or}
use Rattle.std.proofs.lemmas.Bool.Decides.{Decides-eqb}
use Rattle.std.proofs.lemmas.Slice.Eq.{slice_eq-Decides}
use Rattle.blocks.specs.Contents.{blocks_of}
use Rattle.settlement.proofs.Openings.{first-honest}
use Rattle.session_run.proofs.parts.parts.Goals.{then-eq, else-eq}
use Rattle.session_run.proofs.parts.parts.Goals as goal

pub returns-clause-disks : goal.returns-clause-disks
returns-clause-disks c = search rules

-- no block of a new bitmap is marked
none_marked : (blocks block : ℕ) → unwrap_or (slice_get (replicate blocks false) block) false ≡ false
none_marked zero block = refl
none_marked (suc blocks) zero = refl
none_marked (suc blocks) (suc block) = none_marked blocks block

pub returns-clause-opens : goal.returns-clause-opens
returns-clause-opens c =
    let held = returns-clause-disks c in
    let clean : (block : ℕ) → unwrap_or (slice_get c.in_ok-unmarked.field-0 block) false ≡ false
    = λ block. ap (λ (l : List Bool). unwrap_or (slice_get l block) false) c.in_ok-unmarked.ensures.made ∙ none_marked _ block in
    record {
      settings = search rules;
      peer_settings = search rules;
      local = ap (λ (l : List (List ℕ)). slice_get l) held.0;
      peer = ap (λ (l : List (List ℕ)). slice_get l) held.1;
      own = search rules;
      same = search rules;
      other = search rules;
      marks = clean;
    }

pub returns-clause-honest : goal.returns-clause-honest
returns-clause-honest c =
    let held = returns-clause-disks c in
    let one : c.new-first.result.current ≡ 1 = c.new-first.ensures.current in
    first-honest _ _ _ _ _ (omega (arith, one)) c.new-first.ensures.bitmap (λ is. elim c.if-eq.branch [
      | then-eq w ↦ held.0 ∙ ap (blocks_of 4096) ((slice_eq-Decides Decides-eqb _ _ c.eq.result c.eq.ensures).0 w.if-eq.true) ∙ sym held.1
      | else-eq w ↦
          let zero : c.if-eq.parts.current ≡ 0 = ap (λ t. t.current) w.parts-is ∙ c.new-unknown.ensures.current in absurd (omega (arith, zero, one, is))
    ])
