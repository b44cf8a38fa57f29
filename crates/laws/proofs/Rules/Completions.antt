-- When a write is completed: what holds of one that is to be completed now, and that such a one is.
use Rattle.std.proofs.Common.{◌≡◌, Bool, true, ◌&&◌, ◌||◌}
use Rattle.std.proofs.lemmas.Bool.{and_parts, and_from}
use Rattle.model.specs.Primary.{Accepted, PrimaryHistory, is_answered, is_alone, is_on_disk, completes}

-- its local write is done, and it is answered or without a connection
pub completes-parts : (h : PrimaryHistory) (a : Accepted) → completes h a ≡ true
    → (is_on_disk a.outcome ≡ true) × ((is_answered h a || is_alone h a) ≡ true)
completes-parts h a done = and_parts (is_on_disk a.outcome) (is_answered h a || is_alone h a) done

-- the other way
pub completes-by : (h : PrimaryHistory) (a : Accepted) → is_on_disk a.outcome ≡ true → (is_answered h a || is_alone h a) ≡ true → completes h a ≡ true
completes-by h a disk returned = and_from (is_on_disk a.outcome) (is_answered h a || is_alone h a) disk returned

-- whatever asks the same says when it is
pub completes-with : (h : PrimaryHistory) (a : Accepted) (disk answered alone : Bool) → disk ≡ is_on_disk a.outcome → answered ≡ is_answered h a
    → alone ≡ is_alone h a → (disk && (answered || alone)) ≡ completes h a
completes-with h a disk answered alone is_disk is_told is_unlinked = λ i. is_disk i && (is_told i || is_unlinked i)

-- a write that is answered alike, and without a connection alike, completes alike
pub completes-same : (h later : PrimaryHistory) (a : Accepted) → is_answered later a ≡ is_answered h a → is_alone later a ≡ is_alone h a
    → completes later a ≡ completes h a
completes-same h later a answered alone = λ i. is_on_disk a.outcome && (answered i || alone i)
