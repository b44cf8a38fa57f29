-- The marks of the quick-sync bitmap (DRBD User's Guide, "The quick-sync bitmap"): every step that sets or clears one.
-- A mark says that the peer's block may differ.
use Rattle.std.specs.Prelude.{ℕ, ◌==◌, Bool, ◌&&◌, ◌||◌, not, nat_lt}
use Rattle.std.specs.List.{list_any}
use Rattle.model.specs.Contents.{Write, covers}
use Rattle.model.specs.Primary.{Accepted, PrimaryHistory, is_on_disk, is_alone, is_released, unreleased}

-- The bitmap: for each block whether the disks may differ there (DRBD User's Guide, "Quick sync bitmap").
abbrev pub Marks : Type 0
Marks = ℕ → Bool

-- marks the range of a write that was accepted without a connection, or that the local disk failed
abbrev pub marking : Write → Marks → Marks
marking write marks block = marks block || covers write block

-- marks, as the primary closes, the blocks of all writes that are unreleased before it
abbrev pub marking_unreleased : PrimaryHistory → Marks
marking_unreleased h block = h.marks block || list_any (λ accepted. covers accepted.write block) (unreleased h)

-- marks every block of the device, as a full resync starts
abbrev pub marking_all : ℕ → Marks
marking_all blocks block = nat_lt block blocks

-- clears the block of an RS_WRITE_ACK
abbrev pub clearing : ℕ → Marks → Marks
clearing resynced marks block = marks block && not (block == resynced)

-- A step released the write, and it clears marks: it was in the transfer log before, its connection is open, and it is
-- on the local disk. (That such a write clears its marks is this project's rule. A failed write and one without a
-- connection clear nothing.)
abbrev pub is_releasing : PrimaryHistory → PrimaryHistory → Accepted → Bool
is_releasing before h accepted =
    (list_any (λ was. was.write.number == accepted.write.number) (unreleased before) && is_released h accepted)
    && (is_on_disk accepted.outcome && not (is_alone h accepted))

-- an unreleased write with a higher number covers the block
abbrev pub is_under_later : PrimaryHistory → ℕ → ℕ → Bool
is_under_later h number block = list_any (λ later. nat_lt number later.write.number && covers later.write block) (unreleased h)

-- a write that the step released covers the block, and no later write that is still in the transfer log does
abbrev pub is_cleared : PrimaryHistory → PrimaryHistory → ℕ → Bool
is_cleared before h block =
    list_any (λ accepted. (is_releasing before h accepted && covers accepted.write block) && not (is_under_later h accepted.write.number block)) h.writes

-- clears the blocks of the writes that a step released
abbrev pub releasing : PrimaryHistory → PrimaryHistory → PrimaryHistory
releasing before h = record h { marks = λ block. h.marks block && not (is_cleared before h block) }
