-- Eight bytes are the front and then as much of the piece as is missing.
use Rattle.std.proofs.Common.{◌≡◌, ℕ, ◌+◌, ◌-◌, ◌≤◌, List, ◌++◌, length, take, ap, sym, ◌∙◌, arith}
use Rattle.std.proofs.Math.Seq.{take-append-add}
use Rattle.packets.proofs.decoder.first_bytes.Goals as goal

filled : (n : ℕ) (xs ys : List ℕ) → length xs ≤ n → xs ++ take (n - length xs) ys ≡ take n (xs ++ ys)
filled n xs ys h =
    let e : n ≡ length xs + (n - length xs) = omega arith in
    sym (ap (λ (k : ℕ). take k (xs ++ ys)) e ∙ take-append-add xs ys (n - length xs))

pub returns : goal.returns
returns c = cc (filled 8 c.args.front.now c.args.piece.now (omega arith))
