-- The disks of both nodes as clauses see them, and where they differ.
use Rattle.std.specs.Prelude.{ℕ, ◌≡◌, Bool, true, not, ◌&&◌, List, length, filter, slice_get, IsTrue}
use Rattle.bitmap.specs.Marks.{marked}
use Rattle.blocks.specs.Ranges.{below}
use Rattle.file_store.specs.Events.{first_blocks}
use Rattle.model.specs.Pair.{same_block}

-- What each disk holds, block by block; whether each of its reads so far gave that; and how many of its calls have failed.
pub record DisksState : Type 0 where
  pub local : List (List ℕ)
  pub peer : List (List ℕ)
  pub local_faithful : Bool
  pub peer_faithful : Bool
  pub local_faults : ℕ
  pub peer_faults : ℕ

-- Disks of so many blocks over images that held this: they hold it, and have read nothing else yet.
pub record IsOpened (blocks : ℕ) (ours theirs : ℕ → List ℕ) (disks : DisksState) : Type 0 where
  pub local : disks.local ≡ first_blocks blocks ours
  pub peer : disks.peer ≡ first_blocks blocks theirs
  pub faithful : (disks.local_faithful ≡ true) × (disks.peer_faithful ≡ true)

-- each read of both disks so far gave what they hold
abbrev pub AreFaithful : DisksState → Type 0
AreFaithful disks = IsTrue disks.local_faithful × IsTrue disks.peer_faithful

-- reads left the disks as they were, and made no disk faithful that was not
pub record WereRead (old new : DisksState) : Type 0 where
  pub local : new.local ≡ old.local
  pub peer : new.peer ≡ old.peer
  pub local_falls : IsTrue new.local_faithful → IsTrue old.local_faithful
  pub peer_falls : IsTrue new.peer_faithful → IsTrue old.peer_faithful

-- of the first so many blocks, on how many the disks differ without a mark
abbrev pub unmarked_between : List Bool → List (List ℕ) → List (List ℕ) → ℕ → ℕ
unmarked_between marks local peer blocks =
    length (filter (λ block. not (same_block (slice_get local block) (slice_get peer block)) && not (marked marks block)) (below blocks))
