-- What is left when the nodes stop at any moment, and what the next session may open with. Nothing is proved here.
use Rattle.std.specs.Prelude.{ℕ, ◌≡◌, ◌<◌, nat_lt, Bool, true, false, ◌&&◌, List, [], ◌∷◌, map, Option, Some, None, if◌then◌else◌, IsTrue}
use Rattle.std.specs.List.{AllByRecursion}
use Rattle.blocks.specs.declared.tuple.Tuple.{Tuple}
use Rattle.model.specs.Contents.{BlockMap, IsDisk}
use Rattle.model.specs.Headline.{Cover, IsGrounded, IsJoined, is_covered}
use Rattle.model.specs.LocalRuns.{PrimaryEvent, primary_run, SecondaryEvent, secondary_run, ClosesToo, FailsToApply}
use Rattle.model.specs.Pair.{same_block}
use Rattle.model.specs.Primary.{PrimaryHistory, local_map}
use Rattle.model.specs.Secondary.{SecondaryHistory, secondary_map}
pub use Rattle.model.specs.Stopped.{stopped_tuple}
use Rattle.model.specs.Theorems.{Opening, IsSoundOpening, primary_at, secondary_at}

-- the identifiers of a disk of which nothing is known
abbrev pub unknown : Tuple
unknown = record { current = 0; bitmap = 0; first_historical = 0; second_historical = 0 }

-- these marks, on the primary's device
abbrev pub known_at : PrimaryHistory → (ℕ → Bool) → ℕ → Bool
known_at p marks block = nat_lt block p.settings.blocks && marks block

-- What a stop may leave. The marks have every block that is marked or under an unreleased write, and may have more. A block
-- that they have may hold anything on either disk. Every other one is on the local disk as the history has it, and on the
-- peer's, if its items under way make no difference there: `after` is the secondary with these done.
pub record MayBeLeft (p : PrimaryHistory) (s after : SecondaryHistory) (marks : ℕ → Bool) (local peer : BlockMap) : Type 0 where
  pub local_disk : IsDisk p.settings.blocks local
  pub peer_disk : IsDisk s.settings.blocks peer
  pub covered : (block : ℕ) → block < p.settings.blocks → is_covered p block ≡ true → marks block ≡ true
  pub here : (block : ℕ) → known_at p marks block ≡ false → local block ≡ local_map p block
  pub there : (block : ℕ) → known_at p marks block ≡ false → same_block (secondary_map s block) (secondary_map after block) ≡ true
      → peer block ≡ secondary_map s block

-- What a stop of the secondary is: its end closes, or an item that its disk has under way fails, with these of its blocks on the
-- disk.
abbrev pub stop_event : Option (ℕ × List ℕ) → SecondaryEvent
stop_event None = ClosesToo
stop_event (Some item) = FailsToApply item.0 item.1

-- Any number of these keep it joined to a primary, so they lead to one that `after` may be.
abbrev pub StopsStayJoined : Type 0
StopsStayJoined = (p : PrimaryHistory) (s : SecondaryHistory) (steps : List (Option (ℕ × List ℕ))) → IsJoined p s
    → IsJoined p (secondary_run (map stop_event steps) s)

-- the opening of the next session, in the same roles
abbrev pub left_at : PrimaryHistory → SecondaryHistory → (ℕ → Bool) → BlockMap → BlockMap → Tuple → Tuple → Opening
left_at p s marks local peer own other = record {
  settings = p.settings;
  peer_settings = s.settings;
  local = local;
  peer = peer;
  own = own;
  peer_tuple = other;
  marks = marks;
}

-- and with the roles changed
abbrev pub promoted_at : PrimaryHistory → SecondaryHistory → (ℕ → Bool) → BlockMap → BlockMap → Tuple → Tuple → Opening
promoted_at p s marks local peer own other = record {
  settings = s.settings;
  peer_settings = p.settings;
  local = peer;
  peer = local;
  own = own;
  peer_tuple = other;
  marks = marks;
}

-- Two nodes that ran by themselves from an opening and are joined, and the secondary also with its items under way done.
pub record Stopped (o : Opening) : Type 0 where
  pub here : List PrimaryEvent
  pub there : List SecondaryEvent
  pub done : List SecondaryEvent
  pub joined : IsJoined (primary_run here (primary_at o)) (secondary_run there (secondary_at o))
  pub joined_done : IsJoined (primary_run here (primary_at o)) (secondary_run done (secondary_at o))

-- the primary as it stopped
abbrev pub primary_of : (o : Opening) → Stopped o → PrimaryHistory
primary_of o w = primary_run w.here (primary_at o)

-- the secondary as it stopped
abbrev pub secondary_of : (o : Opening) → Stopped o → SecondaryHistory
secondary_of o w = secondary_run w.there (secondary_at o)

-- the secondary with its items under way done
abbrev pub done_of : (o : Opening) → Stopped o → SecondaryHistory
done_of o w = secondary_run w.done (secondary_at o)

-- A stop at any moment leaves a sound opening: with the identifiers of a close, and the peer's own ones or none, if each block that
-- a resync copied was as the local disk had it. (A resync that copied other bytes clears the mark of a block in which the disks
-- differ, so nothing that a stop leaves would name it.) After a grounded history, which has that premise, the marks cover every
-- difference, and the opening is sound with any identifiers.
abbrev pub StopsLeaveASoundOpening : Type 0
StopsLeaveASoundOpening =
    (o : Opening) (w : Stopped o) (marks : ℕ → Bool) (local peer : BlockMap) → IsSoundOpening o
    → MayBeLeft (primary_of o w) (secondary_of o w) (done_of o w) marks local peer
    → (IsTrue (primary_of o w).faithful → (known : Bool) → IsSoundOpening (left_at (primary_of o w) (secondary_of o w) marks local peer (stopped_tuple (primary_of o w))
    (if known then (secondary_of o w).tuple else unknown)))
    × (IsGrounded (primary_of o w) (secondary_of o w) → Cover (known_at (primary_of o w) marks) local peer
    × ((own other : Tuple) → 0 < own.current → IsSoundOpening (left_at (primary_of o w) (secondary_of o w) marks local peer own other)))

-- where both nodes have the same current identifier, the primary has no bitmap identifier: a premise of the order of writes
abbrev pub IsUnparted : Opening → Type 0
IsUnparted o = o.own.current ≡ o.peer_tuple.current → o.own.bitmap ≡ 0

-- If it was so at the opening, it is so of what a stop leaves, whose peer keeps its identifiers only if it is consistent.
abbrev pub StopsLeaveNoPart : Type 0
StopsLeaveNoPart =
    (o : Opening) (w : Stopped o) (marks : ℕ → Bool) (local peer : BlockMap) (known : Bool) → IsSoundOpening o → IsUnparted o
    → (known ≡ true → (secondary_of o w).consistent ≡ true)
    → IsUnparted (left_at (primary_of o w) (secondary_of o w) marks local peer (stopped_tuple (primary_of o w))
    (if known then (secondary_of o w).tuple else unknown))

-- Sessions one after another.

-- A session of the first opening stops, and leaves the second one. `known` says whether that one has the peer's own identifiers, and
-- not those of an unknown disk.
pub record IsLeftBy (o next : Opening) : Type 0 where
  pub stopped : Stopped o
  pub marks : ℕ → Bool
  pub local : BlockMap
  pub peer : BlockMap
  pub known : Bool
  pub consistent : known ≡ true → (secondary_of o stopped).consistent ≡ true
  -- each block that a resync copied was as the local disk had it
  pub faithful : IsTrue (primary_of o stopped).faithful
  pub left : MayBeLeft (primary_of o stopped) (secondary_of o stopped) (done_of o stopped) marks local peer
  pub opens : next ≡ left_at (primary_of o stopped) (secondary_of o stopped) marks local peer (stopped_tuple (primary_of o stopped))
      (if known then (secondary_of o stopped).tuple else unknown)

-- each opening is left by a session of the one before
abbrev pub IsChain : Opening → List Opening → Type 0
IsChain o [] = Unit {0}
IsChain o (next ∷ rest) = IsLeftBy o next × IsChain next rest

-- However often and whenever the nodes stop, each session has a sound opening, so each has the theorems of a session.
abbrev pub ChainsStaySound : Type 0
ChainsStaySound =
    (o : Opening) (rest : List Opening) → IsSoundOpening o → IsUnparted o → IsChain o rest
    → AllByRecursion (λ next. IsSoundOpening next × IsUnparted next) rest

-- The secondary goes on as the primary, with the marks that the old primary's metadata has: a sound opening after a grounded
-- history, whatever the identifiers.
abbrev pub PromotionsAreSound : Type 0
PromotionsAreSound =
    (o : Opening) (w : Stopped o) (marks : ℕ → Bool) (local peer : BlockMap) (own other : Tuple) → IsSoundOpening o
    → (primary_of o w).settings.blocks ≡ (secondary_of o w).settings.blocks
    → MayBeLeft (primary_of o w) (secondary_of o w) (done_of o w) marks local peer
    → IsGrounded (primary_of o w) (secondary_of o w) → 0 < own.current
    → IsSoundOpening (promoted_at (primary_of o w) (secondary_of o w) marks local peer own other)
