-- The disks of a secondary follow one another: each connection opens on what the one before it left.
use Rattle.std.proofs.Common.{ℕ, zero, suc, ◌≡◌, List, [], ◌∷◌, ◌++◌, Some, slice_get, refl, ◌∙◌}
use Rattle.model.specs.Contents.{BlockMap}
use Rattle.model.specs.Primary.{last_of, change_last}
use Rattle.model.specs.Secondary.{SecondaryConnection, map_of}

-- each connection's disk is, where it opened, what the one before it left
abbrev pub AreChained : BlockMap → List SecondaryConnection → Type 0
AreChained disk [] = Unit {0}
AreChained disk (d ∷ ds) = ((block : ℕ) → d.base block ≡ disk block) × AreChained (map_of d) ds

-- the disk after a list of connections
abbrev pub disk_after : BlockMap → List SecondaryConnection → BlockMap
disk_after disk [] = disk
disk_after disk (d ∷ ds) = disk_after (map_of d) ds

-- a connection that opens on that disk
pub chained-append : (disk : BlockMap) (ds : List SecondaryConnection) (d : SecondaryConnection) → AreChained disk ds
    → ((block : ℕ) → d.base block ≡ disk_after disk ds block)
    → AreChained disk (ds ++ d ∷ [])
chained-append disk [] d all new = (new, tt)
chained-append disk (e ∷ es) d all new = (all.0, chained-append (map_of e) es d all.1 new)

-- a change of the last connection that leaves its opening disk
pub chained-change : (f : SecondaryConnection → SecondaryConnection) → ((d : SecondaryConnection) (block : ℕ) → (f d).base block ≡ d.base block)
    → (disk : BlockMap) (ds : List SecondaryConnection)
    → AreChained disk ds → AreChained disk (change_last f ds)
chained-change f same disk [] all = tt
chained-change f same disk (d ∷ []) all = (λ block. same d block ∙ all.0 block, tt)
chained-change f same disk (d ∷ e ∷ ds) all = (all.0, chained-change f same (map_of d) (e ∷ ds) all.1)

-- a connection opens on what the one before it left
pub chained-next : (disk : BlockMap) (ds : List SecondaryConnection) (k : ℕ) (d e : SecondaryConnection) → AreChained disk ds → slice_get ds k ≡ Some d
    → slice_get ds (suc k) ≡ Some e
    → (block : ℕ) → e.base block ≡ map_of d block
chained-next disk [] k d e all at next block = absurd (cc)
chained-next disk (x ∷ []) k d e all at next block = absurd (cc)
chained-next disk (x ∷ y ∷ ds) zero d e all at next block =
    let one : x ≡ d = cc in
    let two : y ≡ e = cc in
    rw (← one, ← two) (all.1.0 block)
chained-next disk (x ∷ y ∷ ds) (suc k) d e all at next block = chained-next (map_of x) (y ∷ ds) k d e all.1 at next block

-- the first one opens on the opening disk
pub chained-first : (disk : BlockMap) (ds : List SecondaryConnection) (d : SecondaryConnection) → AreChained disk ds → slice_get ds 0 ≡ Some d → (block : ℕ)
    → d.base block ≡ disk block
chained-first disk [] d all at block = absurd (cc)
chained-first disk (x ∷ ds) d all at block = let one : x ≡ d = cc in rw (← one) (all.0 block)

-- the disk after all connections is that of the last one
pub last-disk : (d : SecondaryConnection) (ds : List SecondaryConnection) (block : ℕ) → map_of (last_of d ds) block ≡ disk_after (map_of d) ds block
last-disk d [] block = refl
last-disk d (e ∷ ds) block = last-disk e ds block
