-- What a reader cuts off a row as one frame.
use Rattle.std.proofs.Common.{◌≡◌, ℕ, ◌≤◌, List, ◌++◌, length, take, drop, refl, sym, ap, ◌∙◌, arith}
use Rattle.std.proofs.lemmas.List.{drop_at, take_at}
use Rattle.packets.specs.declared.packet.Packet.{Packet}
use Rattle.packets.specs.Reading.{header_at}
use Rattle.packets.specs.Spelling.{IsSpellable, Spells}
use Rattle.packets.specs.Cutting.{cut_after, IsCut}
use Rattle.packets.proofs.Frames.{spelled_reads}
use Rattle.packets.proofs.Rows.{header_front}

-- a spelling is cut off as one
pub spelled_cut : (p : Packet) (frame : List ℕ) → IsSpellable p → Spells p frame → IsCut frame
spelled_cut p frame rules s =
    let r = spelled_reads frame p rules s in
    record { headed = omega (arith, r.1); whole = r.1 ∙ ap cut_after (sym r.0) }

-- what is cut off does not depend on what follows the header
pub cut_front : (xs ys : List ℕ) → 8 ≤ length xs → cut_after (header_at (xs ++ ys)) ≡ cut_after (header_at xs)
cut_front xs ys long = ap cut_after (header_front xs ys long)

-- two cuts of one row are one
pub same_cut : (f g x y : List ℕ) → IsCut f → IsCut g → f ++ x ≡ g ++ y → (f ≡ g) × (x ≡ y)
same_cut f g x y a b e =
    let n = length f in
    let other : length g ≡ n = b.whole ∙ sym (cut_front g y b.headed) ∙ ap (λ (row : List ℕ). cut_after (header_at row)) (sym e) ∙ cut_front f x a.headed
    ∙ sym a.whole in
    (sym (take_at f x n refl) ∙ ap (take n) e ∙ take_at g y n other, sym (drop_at f x n refl) ∙ ap (drop n) e ∙ drop_at g y n other)
