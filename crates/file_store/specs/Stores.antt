-- What clauses see of a disk over a file.
use Rattle.std.specs.Prelude.{ℕ, ◌≡◌, Bool, List, []}
use Rattle.file_store.specs.Events.{replay}
use Rattle.file_store.specs.declared.store.FileStore.{FileStore}
use Rattle.file_store.specs.declared.opening.OpeningContents.{Ghosts}

module _ {F X : Type 0} {g : Ghosts X} where
  -- how many blocks it has
  abbrev pub count_of : FileStore F X g → ℕ
  count_of s = s.blocks

  -- whether the file may have kept a part of a block of a write that failed
  abbrev pub torn_of : FileStore F X g → Bool
  torn_of s = s.is_torn

  -- it is over the image at this path, and nothing has happened
  pub record IsFresh (at : List ℕ) (s : FileStore F X g) : Type 0 where
    pub path : s.file.path ≡ at
    pub none : s.file.events ≡ []

  -- what it was told to hold, block by block, where each image held this when it was opened
  abbrev pub disk_of : (List ℕ → ℕ → List ℕ) → FileStore F X g → List (List ℕ)
  disk_of held s = (replay s.blocks (held s.file.path) s.file.events).disk

  -- whether each read so far gave that
  abbrev pub faithful_of : (List ℕ → ℕ → List ℕ) → FileStore F X g → Bool
  faithful_of held s = (replay s.blocks (held s.file.path) s.file.events).faithful

  -- they are of one image and one size, with as many faults
  pub record IsSameBut (old new : FileStore F X g) : Type 0 where
    pub blocks : new.blocks ≡ old.blocks
    pub path : new.file.path ≡ old.file.path
    pub faults : new.faults.count ≡ old.faults.count
