-- Which ranges of its disk a node reads.
use Rattle.std.proofs.Common.{ℕ, ◌≡◌, true, false, length, Result, Ok, Err, sym, ◌∙◌, ap, subst}
use Rattle.std.specs.Prelude.{OnOk}
use Rattle.std.proofs.lemmas.Bool.{false_from_ne_true}
use Rattle.blocks.specs.Ranges.{IsRange}
use Rattle.blocks.specs.declared.settings.Settings.{Settings}
use Rattle.model.specs.Contents.{is_range}
use Rattle.primary_core.proofs.Submission.{range-tests, tests-range}
use Rattle.primary_protocol.proofs.Node.Disk.{disk-size}
use Rattle.primary.specs.State.{PrimaryView, IsNode, node}

-- a disk has the blocks of the device
device-size : (v : PrimaryView) (blocks : ℕ) → IsNode v → blocks ≡ length v.disk → blocks ≡ v.core.settings.blocks
device-size v blocks was size = size
    ∙ (disk-size (node v) was.had.history was.had.has ∙ ap (λ (s : Settings). s.blocks) (sym was.had.has.leaves.core.rest.settings))

-- What is no range of the disk is none of the device.
pub not-range : (v w : PrimaryView) (blocks first count : ℕ) → IsNode v → v ≡ w → blocks ≡ length v.disk → (IsRange blocks first count → ⊥)
    → is_range w.core.settings first count ≡ false
not-range v w blocks first count was is size none =
    subst (λ (x : PrimaryView). is_range x.core.settings first count ≡ false) is
    (false_from_ne_true (is_range v.core.settings first count)
    (λ fits. none (subst (λ n. IsRange n first count) (sym (device-size v blocks was size)) (range-tests v.core.settings first count fits))))

-- a range of the disk is one of the device
pub one-range : (v w : PrimaryView) (blocks first count : ℕ) → IsNode v → v ≡ w → blocks ≡ length v.disk → IsRange blocks first count
    → is_range w.core.settings first count ≡ true
one-range v w blocks first count was is size fits =
    subst (λ (x : PrimaryView). is_range x.core.settings first count ≡ true) is
    (tests-range v.core.settings first count (subst (λ n. IsRange n first count) (device-size v blocks was size) fits))

-- what holds anyway holds of a result that is no error
pub always : {T E : Type 0} (P : Type 0) (r : Result T E) → P → OnOk r P
always P (Ok x) p = p
always P (Err e) p = tt
