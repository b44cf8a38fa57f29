-- The write of a number.
use Rattle.std.proofs.Common.{ℕ, ◌≡◌, Bool, true, false, List, [], ◌∷◌, refl, Some}
use Rattle.std.specs.Prelude.{if◌then◌else◌}
use Rattle.transferlog.specs.Writes.{LogWrite}
use Rattle.transferlog.specs.Ring.{Each, has_number, write_at}
use Rattle.transferlog.proofs.Moves.{number_is}

-- what is found has the number, and is as each is
pub found-is : (P : LogWrite → Type 0) (number : ℕ) (ws : List LogWrite) (w : LogWrite) → Each P ws → write_at number ws ≡ Some w → P w × (w.number ≡ number)
found-is P number [] w each is = absurd (cc)
found-is P number (v ∷ ws) w each is = go (has_number number v) refl (found-is P number ws w each.1) is
  where
    go : (b : Bool) → has_number number v ≡ b → (write_at number ws ≡ Some w → P w × (w.number ≡ number)) → (if b then Some v else write_at number ws) ≡ Some w
        → P w × (w.number ≡ number)
    go true has rest is = let same : v ≡ w = cc in rw (← same) (each.0, number_is v.number number has)
    go false has rest is = rest is
