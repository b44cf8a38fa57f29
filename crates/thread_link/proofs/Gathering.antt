-- The bytes of a frame as they come.
use Rattle.std.proofs.Common.{◌≡◌, ℕ, ◌+◌, ◌<◌, ◌≤◌, Bool, true, true≢false, List, [], ◌++◌, length, take, sym, ap, ◌∙◌, inl, inr, append_assoc, arith}
use Rattle.std.proofs.lemmas.Bool.{cases_lt}
use Rattle.std.proofs.lemmas.List.{length-append, take_all}
use Rattle.std.proofs.Math.Seq.{take-append-add}
use Rattle.packets.specs.Cutting.{IsCut}
use Rattle.thread_link.specs.Carried.{BeginsNoCut, whole_length}
use Rattle.thread_link.specs.Inward.{GatheredState, IsGathered}
use Rattle.thread_link.proofs.Carrying.{whole_short, whole_long}

empty_length : (items : List ℕ) → items ≡ [] → length items ≡ 0
empty_length items e = ap length e

empty_whole : (items : List ℕ) → items ≡ [] → 8 ≡ whole_length items
empty_whole items e = sym (whole_short items (omega (arith, empty_length items e)))

-- a buffer with no bytes
pub gathered_none : (items : List ℕ) (spare : ℕ) (is_ready : Bool) → items ≡ [] → (is_ready ≡ true → 131104 ≤ spare) → IsGathered items spare is_ready 8
gathered_none items spare is_ready e room = record {
  noted = empty_whole items e;
  within = omega (arith, empty_length items e);
  most = omega arith;
  room = λ r. omega (arith, room r);
  empty = λ _. e;
}

-- the bytes are dropped
pub gathered_cleared : (old items : List ℕ) (before spare : ℕ) (is_ready : Bool) (whole : ℕ) → IsGathered old before is_ready whole → items ≡ []
    → length old + before ≤ spare
    → IsGathered items spare is_ready 8
gathered_cleared old items before spare is_ready whole g e more = gathered_none items spare is_ready e (λ r. omega (arith, g.room r, more))

-- bytes more came
pub gathered_more : (old new added : List ℕ) (before spare : ℕ) (is_ready : Bool) (whole next : ℕ) → is_ready ≡ true → IsGathered old before is_ready whole
    → new ≡ old ++ added
    → spare + length added ≡ before → next ≡ whole_length new → length new ≤ next → next ≤ 131104 → IsGathered new spare is_ready next
gathered_more old new added before spare is_ready whole next r g e room noted within most = record {
  noted = noted;
  within = within;
  most = most;
  room = λ _. omega (arith, g.room r, room, ap length e, length-append old added);
  empty = λ n. absurd (true≢false (sym r ∙ n));
}

-- what is as long as its frame has a header
long_of : (items : List ℕ) → length items ≡ whole_length items → 8 ≤ length items
long_of items same = elim (cases_lt (length items) 8) [
  | inl short ↦ omega (arith, same, whole_short items short)
  | inr long ↦ long
]

-- as long as a frame is
pub gathered_cut : (items : List ℕ) (spare : ℕ) (is_ready : Bool) (whole : ℕ) → IsGathered items spare is_ready whole → whole ≤ length items → IsCut items
gathered_cut items spare is_ready whole g full =
    let noted = g.noted in
    let within = g.within in
    let same : length items ≡ whole_length items = omega (arith, noted, within, full) in
    let long : 8 ≤ length items = long_of items same in
    record { headed = long; whole = same ∙ whole_long items long }

-- less than a frame is
pub gathered_part : (items : List ℕ) (spare : ℕ) (is_ready : Bool) (whole : ℕ) → IsGathered items spare is_ready whole → length items < whole
    → BeginsNoCut items
gathered_part items spare is_ready whole g less long = omega (arith, g.noted, less, whole_long items long)

-- ---- bytes in two parts

-- all bytes of the first part were put, and then some of the second
pub put_both : (old middle new : GatheredState) (first second : List ℕ) (m n : ℕ) → length first ≡ m
    → middle ≡ record old { bytes = old.bytes ++ take m first } → new ≡ record middle { bytes = middle.bytes ++ take n second }
    → new ≡ record old { bytes = old.bytes ++ take (m + n) (first ++ second) }
put_both old middle new first second m n all a b =
    let whole : take m first ≡ first = take_all m first (omega (arith, all)) in
    let added : first ++ take n second ≡ take (m + n) (first ++ second) =
    sym (take-append-add first second n) ∙ ap (λ (k : ℕ). take (k + n) (first ++ second)) all in
    b ∙ ap (λ (s : GatheredState). record s { bytes = s.bytes ++ take n second }) a
    ∙ ap (λ (x : List ℕ). record old { bytes = x })
    (append_assoc old.bytes (take m first) (take n second) ∙ ap (λ (x : List ℕ). old.bytes ++ (x ++ take n second)) whole
    ∙ ap (λ (x : List ℕ). old.bytes ++ x) added)
