-- Pieces that pass the end of a row, one after another.
use Rattle.std.proofs.Common.{◌≡◌, ◌+◌, ◌-◌, ◌≤◌, ℕ, List, [], ◌∷◌, ◌++◌, Option, take, drop, length, refl, sym, ap, ◌∙◌, subst, append_assoc, append-nil}
use Rattle.std.proofs.Common.{arith, rules}
use Rattle.std.proofs.KnownBytes.{Appends-trans, Consumes-trans}
use Rattle.std.proofs.lemmas.Grind.{flat_map-append}
use Rattle.std.proofs.lemmas.List.{length-append, length-drop, take_rest}
use Rattle.std.proofs.lemmas.List.Elements.{All-append}
use Rattle.std.specs.Io.KnownBytes.{Appends, Consumes}
use Rattle.thread_link.proofs.Carrying.{two_takes}
use Rattle.thread_link.specs.Pieces.{EndState, PieceState}
use Rattle.pumps.specs.Carried.{bytes_of, PassPieces, PopsBytes, IsCarriedOut, IsFirstPiece, PushesBytes, IsCarriedIn}

pub bytes_of-append : (xs ys : List PieceState) → bytes_of (xs ++ ys) ≡ bytes_of xs ++ bytes_of ys
bytes_of-append xs ys = flat_map-append (λ (piece : PieceState). piece.bytes) xs ys

pub pass_none : (e : EndState) → PassPieces e e []
pass_none e = ap (λ (x : List PieceState). record e { pieces = x }) (sym (append-nil e.pieces))

pub pass_then : (a b c : EndState) (xs ys : List PieceState) → PassPieces a b xs → PassPieces b c ys → PassPieces a c (xs ++ ys)
pass_then a b c xs ys first second =
    second ∙ ap (λ (s : EndState). record s { pieces = s.pieces ++ ys }) first
    ∙ ap (λ (x : List PieceState). record a { pieces = x }) (append_assoc a.pieces xs ys)

pub pop_none : (e : EndState) → PopsBytes e e []
pop_none e = record { popped = []; passed = pass_none e; bytes_popped = refl }

pub pop_then : (a b c : EndState) (xs ys : List ℕ) → PopsBytes a b xs → PopsBytes b c ys → PopsBytes a c (xs ++ ys)
pop_then a b c xs ys first second = record {
  popped = first.popped ++ second.popped;
  passed = pass_then a b c first.popped second.popped first.passed second.passed;
  bytes_popped = bytes_of-append first.popped second.popped ∙ ap (λ x. x ++ bytes_of second.popped) first.bytes_popped ∙ ap (λ y. xs ++ y) second.bytes_popped;
}

-- one more piece is popped
pub pop_piece : (a b c : EndState) (xs : List ℕ) (piece : PieceState) → PopsBytes a b xs → PassPieces b c (piece ∷ []) → PopsBytes a c (xs ++ piece.bytes)
pop_piece a b c xs piece first second =
    pop_then a b c xs piece.bytes first (record { popped = piece ∷ []; passed = second; bytes_popped = append-nil piece.bytes })

pub push_none : (e : EndState) → PushesBytes e e []
push_none e = record { pushed = []; passed = pass_none e; first_pieces = search rules; bytes_pushed = refl }

pub push_then : (a b c : EndState) (xs ys : List ℕ) → PushesBytes a b xs → PushesBytes b c ys → PushesBytes a c (xs ++ ys)
push_then a b c xs ys first second = record {
  pushed = first.pushed ++ second.pushed;
  passed = pass_then a b c first.pushed second.pushed first.passed second.passed;
  first_pieces = All-append IsFirstPiece first.pushed second.pushed first.first_pieces second.first_pieces;
  bytes_pushed = bytes_of-append first.pushed second.pushed ∙ ap (λ x. x ++ bytes_of second.pushed) first.bytes_pushed ∙ ap (λ y. xs ++ y) second.bytes_pushed;
}

-- the bytes after the first m, as a slice of a program has them
abbrev pub rest_after : List ℕ → ℕ → List ℕ
rest_after bytes m = take (length bytes - m) (drop m bytes)

pub within_rest : (bytes : List ℕ) (m n : ℕ) → m ≤ length bytes → n ≤ length (rest_after bytes m) → m + n ≤ length bytes
within_rest bytes m n within more = omega (arith, ap length (take_rest bytes m), length-drop m bytes)

two_fronts : (bytes : List ℕ) (m n : ℕ) → take m bytes ++ take n (rest_after bytes m) ≡ take (m + n) bytes
two_fronts bytes m n = ap (λ (x : List ℕ). take m bytes ++ take n x) (take_rest bytes m) ∙ two_takes bytes m n

-- the front of the rest is pushed after the front
pub push_more : (a b c : EndState) (bytes : List ℕ) (m n : ℕ) → PushesBytes a b (take m bytes) → PushesBytes b c (take n (rest_after bytes m))
    → PushesBytes a c (take (m + n) bytes)
push_more a b c bytes m n first second = subst (PushesBytes a c) (two_fronts bytes m n) (push_then a b c _ _ first second)

-- the front of the rest is written after the front
pub append_more : (a b c : Option (List ℕ)) (bytes : List ℕ) (m n : ℕ) → Appends a b (take m bytes) → Appends b c (take n (rest_after bytes m))
    → Appends a c (take (m + n) bytes)
append_more a b c bytes m n first second = subst (Appends a c) (two_fronts bytes m n) (Appends-trans a b c _ _ first second)

-- all that was popped is written, and then more is popped and its front written
pub carried_out : (a b c : EndState) (u v w : Option (List ℕ)) (bytes written rest : List ℕ) → IsCarriedOut a b u v [] → PopsBytes b c bytes
    → Appends v w written
    → written ++ rest ≡ bytes → length bytes ≤ 196640 → IsCarriedOut a c u w rest
carried_out a b c u v w bytes written rest before popped appended cut few = record {
  written = before.written ++ written;
  popped = subst (PopsBytes a c) (ap (λ (x : List ℕ). x ++ bytes) (append-nil before.written) ∙ ap (λ (x : List ℕ). before.written ++ x) (sym cut)
      ∙ sym (append_assoc before.written written rest))
      (pop_then a b c _ bytes before.popped popped);
  appended = Appends-trans u v w before.written written before.appended appended;
  few = omega (arith, ap length cut, length-append written rest);
}

-- all that was read is pushed, and then more is read and its front pushed
pub carried_in : (a b c : EndState) (u v w : Option (List ℕ)) (bytes pushed rest : List ℕ) → IsCarriedIn a b u v [] → Consumes v w bytes
    → PushesBytes b c pushed
    → pushed ++ rest ≡ bytes → length bytes ≤ 196640 → IsCarriedIn a c u w rest
carried_in a b c u v w bytes pushed rest before consumed pushes cut few = record {
  pushed_bytes = before.pushed_bytes ++ pushed;
  pushed = push_then a b c before.pushed_bytes pushed before.pushed pushes;
  consumed = subst (Consumes u w)
      (ap (λ (x : List ℕ). x ++ bytes) (append-nil before.pushed_bytes) ∙ ap (λ (x : List ℕ). before.pushed_bytes ++ x) (sym cut)
      ∙ sym (append_assoc before.pushed_bytes pushed rest))
      (Consumes-trans u v w _ bytes before.consumed consumed);
  few = omega (arith, ap length cut, length-append pushed rest);
}
