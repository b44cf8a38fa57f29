-- What a caller reads of its own: a read gives the bytes of a completed write, in each block that no write of a later number covers.
use Rattle.std.proofs.Common.{ℕ, suc, ◌≡◌, ◌<◌, ◌≤◌, ◌+◌, ◌-◌, ◌==◌, Bool, true, false, List, length, Option, Some, slice_get, refl, sym, ◌∙◌, ap, arith}
use Rattle.std.proofs.lemmas.Bool.{eq-eqb}
use Rattle.blocks.specs.Contents.{blocks_of}
use Rattle.model.specs.Contents.{IsRead, Write, covers}
use Rattle.model.specs.Primary.{Accepted, Completion, LocalOutcome, Waiting, OnDisk, Failed, PrimaryHistory, is_completed, is_on_disk, local_layer, local_map, offset_reached}
use Rattle.model.specs.Settlement.{Receipt}
use Rattle.primary_protocol.specs.Steps.{IsReached}
use Rattle.primary_protocol.specs.Transitions.{whole_blocks}
use Rattle.primary_protocol.proofs.Common.Reached.{reached-ordered}
use Rattle.laws.proofs.Blocks.Overlays.{overlay-last, under-inside, under-outside}
use Rattle.laws.proofs.Lists.Picks.{any-pick}
use Rattle.told.specs.Stands.{IsEntry, IsWritten}

whole-there : (outcome : LocalOutcome) (offset : ℕ) → is_on_disk outcome ≡ true → offset_reached outcome offset ≡ true
whole-there Waiting offset is = absurd (cc)
whole-there OnDisk offset is = refl
whole-there (Failed offsets) offset is = absurd (cc)

-- The disk holds the bytes of a write whose receipt was given, in a block that no later write covers.
pub own-bytes : (h : PrimaryHistory) → IsReached h → (receipt : Receipt) (first : ℕ) (bytes : List ℕ) → IsWritten h receipt.number first bytes → IsEntry h receipt
    → (block : ℕ) → covers (record { number = receipt.number; first = first; contents = whole_blocks bytes }) block ≡ true
    → ((i : ℕ) (later : Accepted) → receipt.number ≤ i → slice_get h.writes i ≡ Some later → covers later.write block ≡ false)
    → local_map h block ≡ slice_get (whole_blocks bytes) (block - first)
own-bytes h reached receipt first bytes is entry block inside none =
    let a : Accepted = is.2 in
    let next : receipt.number ≡ suc is.0 = is.1 in
    let number : a.write.number ≡ receipt.number = ap (λ (w : Write). w.number) is.4 in
    let named : entry.1.write.number ≡ receipt.number = ap (λ (r : Receipt). r.number) entry.3 in
    let completed : is_completed h a.write.number ≡ true = any-pick (λ (e : Completion). e.write.number == a.write.number) h.journal entry.0 entry.1 entry.2
    (eq-eqb entry.1.write.number a.write.number (named ∙ sym number)) in
    let disk : is_on_disk a.outcome ≡ true = (reached-ordered h reached).ordered.0.tracked.on_disk is.0 a is.3 completed in
    overlay-last local_layer h.opening_map h.writes block is.0 a (slice_get a.write.contents (block - a.write.first)) is.3
    (λ v. under-inside (local_layer a) block v (ap (λ (w : Write). covers w block) is.4 ∙ inside) (whole-there a.outcome (block - a.write.first) disk))
    (λ i later after at v. under-outside (local_layer later) block v (none i later (omega (arith, next)) at))
    ∙ ap (λ (w : Write). slice_get w.contents (block - w.first)) is.4

-- So a read gives them.
pub reads-own : (h : PrimaryHistory) → IsReached h → (receipt : Receipt) (first : ℕ) (bytes : List ℕ) → IsWritten h receipt.number first bytes → IsEntry h receipt
    → (from count : ℕ) (found : List ℕ) → IsRead (local_map h) from count found → (offset : ℕ) → offset < count
    → covers (record { number = receipt.number; first = first; contents = whole_blocks bytes }) (from + offset) ≡ true
    → ((i : ℕ) (later : Accepted) → receipt.number ≤ i → slice_get h.writes i ≡ Some later → covers later.write (from + offset) ≡ false)
    → slice_get (blocks_of 4096 found) offset ≡ slice_get (whole_blocks bytes) (from + offset - first)
reads-own h reached receipt first bytes is entry from count found read offset within inside none =
    read.each offset within ∙ own-bytes h reached receipt first bytes is entry (from + offset) inside none
