-- What the first session starts from over images that get metadata.
use Rattle.std.proofs.Common.{ℕ, zero, suc, ◌≡◌, ◌<◌, Bool, true, false, List, [], ◌∷◌}
use Rattle.std.proofs.Common.{slice_get, arith, refl}
use Rattle.bitmap.specs.Marks.{count, marked}
use Rattle.blocks.specs.declared.tuple.Tuple.{Tuple}
use Rattle.model.specs.Headline.{Cover, IsHonest}
use Rattle.program_values.specs.declared.serve_options.FirstStart.{FirstStart}
use Rattle.program_values.specs.declared.serve_options.FirstStart.TheVariants.{AssumeEqual, Compare, Copy}
use Rattle.settlement.proofs.Openings.{first-honest}

-- The identifiers of a first session are honest: after a comparison the marks cover what differs, before a copy the peer's disk is
-- unknown, and disks that are taken as alike are.
pub marked-honest : (how : FirstStart) (own peer : Tuple) (marks : ℕ → Bool) (local other : List (List ℕ)) → 0 < own.current
    → ((how ≡ Compare → ⊥) → own.bitmap ≡ 0) → (how ≡ Copy → peer.current ≡ 0) → (how ≡ Compare → Cover marks (slice_get local) (slice_get other))
    → (how ≡ AssumeEqual → local ≡ other) → IsHonest own peer marks (slice_get local) (slice_get other)
marked-honest Compare own peer marks local other some bitmap copied cover alike = record {
  own_data = some;
  same_current = λ is. cover refl;
  from_bitmap = λ above is. cover refl;
}
marked-honest Copy own peer marks local other some bitmap copied cover alike =
    first-honest own peer marks local other some (bitmap (λ is. absurd (cc))) (λ is. absurd (let zero = copied refl in omega (arith, zero, is, some)))
marked-honest AssumeEqual own peer marks local other some bitmap copied cover alike =
    first-honest own peer marks local other some (bitmap (λ is. absurd (cc))) (λ is. alike refl)

-- a block is marked, so some are
pub some-marked : (marks : List Bool) (block : ℕ) → marked marks block ≡ true → 0 < count marks
some-marked [] block is = absurd (cc)
some-marked (true ∷ marks) block is = omega arith
some-marked (false ∷ marks) zero is = absurd (cc)
some-marked (false ∷ marks) (suc block) is = omega (arith, some-marked marks block is)
