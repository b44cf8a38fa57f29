-- What a write of marks says.
use Rattle.std.proofs.Common.{ℕ, ◌≡◌, ◌+◌, ◌-◌, ◌<◌, ◌≤◌, ◌==◌, not, List, length, take, replicate, sym, ◌∙◌, ap, arith, slice_index, length-take, get_or-take}
use Rattle.std.proofs.lemmas.List.{get_or-replicate, length-replicate}
use Rattle.metadata.specs.Calls.{Holds}
use Rattle.metadata.specs.Says.{marked_in}
use Rattle.metadata.specs.Steps.{IsIn}

-- a part of a list of one number has it everywhere
pub part-length : (m n b : ℕ) → n ≤ m → length (take n (replicate m b)) ≡ n
part-length m n b few = omega (arith, length-take n (replicate m b), length-replicate {A = ℕ} m b, few)

pub part-each : (m n b : ℕ) → n ≤ m → (i : ℕ) → i < n → slice_index (take n (replicate m b)) i ≡ b
part-each m n b few i low = get_or-take n (replicate m b) i 0 low ∙ get_or-replicate m i b 0 (omega arith)

-- blocks whose marks were written with one number
pub mark-written : (file : List ℕ) (first n m b : ℕ) → n ≤ m → Holds file (2101248 + first) (take n (replicate m b))
    → (block : ℕ) → IsIn first n block → marked_in file block ≡ not (b == 0)
mark-written file first n m b few holds block inside =
    let i : ℕ = block - first in
    let low : i < n = omega (arith, inside.from, inside.below) in
    let place : 2101248 + first + i ≡ 2101248 + block = omega (arith, inside.from) in
    ap (λ x. not (x == 0)) (ap (slice_index file) (sym place)
    ∙ holds.each i (omega (arith, part-length m n b few)) ∙ part-each m n b few i low)
