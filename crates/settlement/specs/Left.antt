-- What two nodes leave when they are brought together at rest, as an opening of the next session.
use Rattle.std.specs.Prelude.{◌≡◌, true, IsTrue}
use Rattle.blocks.specs.declared.tuple.Tuple.{Tuple}
use Rattle.settlement.specs.Next.{identifiers_of}
use Rattle.model.specs.Headline.{IsGrounded}
use Rattle.model.specs.Primary.{PrimaryHistory, local_map}
use Rattle.model.specs.Secondary.{SecondaryHistory, secondary_map}
use Rattle.model.specs.Settlement.{is_at_rest}
use Rattle.model.specs.Theorems.{Opening, IsSoundOpening, JoinedRuns}

-- Both disks as they are, the primary's identifiers and its marks; and the identifiers that the peer's disk is given.
abbrev pub left_by : PrimaryHistory → SecondaryHistory → Tuple → Opening
left_by p s peer = record {
  settings = p.settings;
  peer_settings = s.settings;
  local = local_map p;
  peer = secondary_map s;
  own = p.tuple;
  peer_tuple = peer;
  marks = p.marks;
}

-- After a grounded history this opening is sound whatever identifiers the peer's disk is given: the marks cover every
-- block on which the disks differ.
abbrev pub JoinedRunsLeaveAnOpening : Type 0
JoinedRunsLeaveAnOpening =
    JoinedRuns IsSoundOpening (λ p s. IsGrounded p s → is_at_rest p s ≡ true → (peer : Tuple) → IsSoundOpening (left_by p s peer))

-- after any faithful history it is sound with the identifiers that the next session gives the peer's disk
abbrev pub JoinedRunsLeaveASoundOpening : Type 0
JoinedRunsLeaveASoundOpening =
    JoinedRuns IsSoundOpening (λ p s. IsTrue p.faithful → is_at_rest p s ≡ true → IsSoundOpening (left_by p s (identifiers_of s.consistent s.tuple p.tuple)))

-- Where both nodes have the same current identifier, the primary has no bitmap identifier: a premise of the order of writes.
abbrev pub IsUnparted : Opening → Type 0
IsUnparted o = o.own.current ≡ o.peer_tuple.current → o.own.bitmap ≡ 0

-- if it was so at the opening, it is so of what is left
abbrev pub JoinedRunsLeaveNoPart : Type 0
JoinedRunsLeaveNoPart =
    JoinedRuns IsSoundOpening (λ p s. (p.opening_tuple.current ≡ s.opening_tuple.current → p.opening_tuple.bitmap ≡ 0) → is_at_rest p s ≡ true
    → IsUnparted (left_by p s (identifiers_of s.consistent s.tuple p.tuple)))
