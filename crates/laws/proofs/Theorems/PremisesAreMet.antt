-- `premises_are_met`: the worked histories meet the premises. What computes is computed, and the rest is by cases.
use Rattle.std.proofs.Common.{ℕ, ◌≡◌, inl, inr, true, false, List, [], ◌∷◌, ◌++◌, map, Some, None, refl, sym, ◌∙◌, ap, arith, nat_lt, ◌==◌}
use Rattle.std.specs.Prelude.{if◌then◌else◌, is_some}
use Rattle.std.proofs.lemmas.Bool.{cases_Bool, both_ways, eqb-true, and_from}
use Rattle.blocks.specs.SettingsRange.{IsInRange, standard}
use Rattle.model.specs.Contents.{filled, IsDisk}
use Rattle.model.specs.Pair.{same_block}
use Rattle.model.specs.Headline.{Cover}
use Rattle.model.specs.Rows.{connect}
use Rattle.model.specs.Theorems.{marks_at}
use Rattle.model.specs.WriteRows.{one_write}
use Rattle.laws.specs.Examples.{new_pair, left_behind, OpeningsAreMet, OneWriteIsMet, CoverIsMet, ReflectionIsMet, RestIsMet, OrderIsMet, WholeEpochIsMet}
use Rattle.laws.specs.Examples.{RefusedFramesAreMet, ReleasesAreMet}
use Rattle.laws.proofs.Theorems.PairIsJoined.{every_run_is_joined}

ranges : IsInRange standard
ranges = record {
  blocks = (omega arith, omega arith);
  max_epoch = (omega arith, omega arith);
  slots = (omega arith, omega arith);
  backlog = (omega arith, omega arith);
  link = (omega arith, omega arith);
  pending = (omega arith, omega arith);
}

-- a disk that is filled with one byte
filled-disk : (blocks : ℕ) (bytes : List ℕ) → IsDisk blocks (filled blocks bytes)
filled-disk blocks bytes block = elim (nat_lt block blocks) as (λ b. is_some (if b then Some bytes else None) ≡ b) [ true ↦ refl | false ↦ refl ]

-- it does not differ from itself
filled-same : (block : ℕ) → same_block (filled 8 (0 ∷ []) block) (filled 8 (0 ∷ []) block) ≡ true
filled-same block = elim (nat_lt block 8) as (λ b. same_block (if b then Some (0 ∷ []) else None) (if b then Some (0 ∷ []) else None) ≡ true)
    [ true ↦ refl | false ↦ refl ]

equal-disks : Cover (marks_at new_pair) (filled 8 (0 ∷ [])) (filled 8 (0 ∷ []))
equal-disks block differs = absurd (both_ways (same_block (filled 8 (0 ∷ []) block) (filled 8 (0 ∷ []) block)) differs (filled-same block))

-- one block holds something else
ahead-disk : IsDisk 8 left_behind.local
ahead-disk block = elim (cases_Bool (block == 2)) [
  | inl two ↦ ap (λ b. is_some (if b then Some (170 ∷ []) else filled 8 (0 ∷ []) block)) two ∙ sym (ap (λ n. nat_lt n 8) (eqb-true block 2 two))
  | inr other ↦ ap (λ b. is_some (if b then Some (170 ∷ []) else filled 8 (0 ∷ []) block)) other ∙ filled-disk 8 (0 ∷ []) block
]

marked-ahead : Cover (marks_at left_behind) left_behind.local (filled 8 (0 ∷ []))
marked-ahead block differs = elim (cases_Bool (block == 2)) [
  | inl two ↦ and_from (nat_lt block 8) (block == 2) (ap (λ n. nat_lt n 8) (eqb-true block 2 two)) two
  | inr other ↦ absurd (both_ways (same_block (left_behind.local block) (filled 8 (0 ∷ []) block)) differs (
      ap (λ b. same_block (if b then Some (170 ∷ []) else filled 8 (0 ∷ []) block) (filled 8 (0 ∷ []) block)) other ∙ filled-same block))
]

pub openings_are_met : OpeningsAreMet
openings_are_met = record {
  equal = record {
    ranges = record { here = ranges; there = ranges };
    local = filled-disk 8 (0 ∷ []);
    peer = filled-disk 8 (0 ∷ []);
    identifiers = record { own_data = omega arith; same_current = λ same. equal-disks; from_bitmap = λ some same. equal-disks };
  };
  marked = record {
    ranges = record { here = ranges; there = ranges };
    local = ahead-disk;
    peer = filled-disk 8 (0 ∷ []);
    identifiers = record { own_data = omega arith; same_current = λ same. marked-ahead; from_bitmap = λ some same. marked-ahead };
  };
  differing = refl;
}

pub one_write_is_met : OneWriteIsMet
one_write_is_met = record {
  joined = (every_run_is_joined new_pair (map (λ event. (event, false)) (connect 5 7 ++ one_write))).joined;
  completed = refl;
  taken = refl;
  applied = refl;
}

pub cover_is_met : CoverIsMet
cover_is_met = record {
  grounded = (refl, inl refl);
  standing = refl;
  differs = refl;
  unmarked = refl;
  unreleased = refl;
  active = refl;
  lost = refl;
  still = refl;
  marked = refl;
}

pub reflection_is_met : ReflectionIsMet
reflection_is_met = record { written = refl; touched = refl; sure = refl; untouched = refl }

pub rest_is_met : RestIsMet
rest_is_met = record { rest = refl; numbers = refl }

pub order_is_met : OrderIsMet
order_is_met = record {
  unharmed = record { faithful = refl; local = refl; opening = λ same. refl };
  consistent = refl;
  adopted = refl;
  earlier = refl;
  later = refl;
  completed = refl;
  before = refl;
  copied = refl;
  written = refl;
  whole_to = refl;
}

pub whole_epoch_is_met : WholeEpochIsMet
whole_epoch_is_met = record {
  unharmed = record { faithful = refl; local = refl; opening = λ same. refl };
  consistent = refl;
  write = refl;
  connection = refl;
  epoch = refl;
  whole_to = refl;
  before = refl;
  written = refl;
}

pub refused_frames_are_met : RefusedFramesAreMet
refused_frames_are_met = record {
  hello = refl;
  by_hello = refl;
  hello_before = refl;
  hello_seen = refl;
  primary = refl;
  frame = refl;
  first = refl;
  unmarked = refl;
  marks = refl;
  identifiers = refl;
  uncompleted = refl;
  completed = refl;
  secondary = refl;
  frame_too = refl;
  first_too = refl;
  before_too = refl;
  closed_too = refl;
  stays = refl;
}

pub releases_are_met : ReleasesAreMet
releases_are_met = record { earlier = refl; later = refl; shared = refl; shared_too = refl; first = refl; waits = refl; second = refl; both = refl }
