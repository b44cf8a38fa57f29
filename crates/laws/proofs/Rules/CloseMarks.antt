-- What a close marks: what it keeps of the marks, and what they are then.
use Rattle.std.proofs.Common.{ℕ, ◌≡◌, Bool, false, ◌||◌, ap}
use Rattle.std.specs.List.{list_any}
use Rattle.std.proofs.lemmas.Bool.{or_parts}
use Rattle.model.specs.Contents.{covers}
use Rattle.model.specs.Marks.{marking_unreleased}
use Rattle.model.specs.Primary.{Accepted, PrimaryHistory, unreleased}

-- the write has the block
abbrev pub has_block : ℕ → Accepted → Bool
has_block block accepted = covers accepted.write block

-- a block that a close leaves unmarked was unmarked, and no unreleased write has it
pub close-parts : (h : PrimaryHistory) (block : ℕ) → marking_unreleased h block ≡ false
    → (h.marks block ≡ false) × (list_any (has_block block) (unreleased h) ≡ false)
close-parts h block unmarked = or_parts (h.marks block) (list_any (has_block block) (unreleased h)) unmarked

-- what a close leaves unmarked was unmarked
pub close-keeps : (h : PrimaryHistory) (block : ℕ) → marking_unreleased h block ≡ false → h.marks block ≡ false
close-keeps h block unmarked = (or_parts (h.marks block) _ unmarked).0

-- the same marks and the same unreleased writes leave the same marks
pub close-same : (h later : PrimaryHistory) (block : ℕ) → later.marks block ≡ h.marks block → unreleased later ≡ unreleased h
    → marking_unreleased later block ≡ marking_unreleased h block
close-same h later block marks same = λ i. marks i || list_any (has_block block) (same i)

-- beside what was marked it marks a block that an unreleased write has
pub close-marks : (h : PrimaryHistory) (block : ℕ) (reached : Bool) → reached ≡ list_any (has_block block) (unreleased h)
    → (h.marks block || reached) ≡ marking_unreleased h block
close-marks h block reached is = ap (λ b. h.marks block || b) is
