-- The first write of a log is the first one from number 0 on.
use Rattle.std.proofs.Common.{◌≡◌, Bool, List, [], ◌∷◌, cond, Option, Some, slice_get, refl, ap}
use Rattle.std.specs.Prelude.{find, nat_le}
use Rattle.std.proofs.Math.Dec.{leb-zero}
use Rattle.transferlog.specs.Writes.{LogWrite}

pub find-first : (writes : List LogWrite) → find (λ (w : LogWrite). nat_le 0 w.number) writes ≡ slice_get writes 0
find-first [] = refl
find-first (w ∷ writes) = ap (λ (b : Bool). cond b (Some w) (find (λ (w : LogWrite). nat_le 0 w.number) writes)) (leb-zero w.number)
