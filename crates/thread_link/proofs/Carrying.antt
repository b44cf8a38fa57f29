-- The bytes of each connection, among pieces of several.
use Rattle.std.proofs.Common.{◌≡◌, ◌≢◌, ℕ, ◌+◌, ◌<◌, ◌≤◌, Bool, true, false, cond, List, [], ◌∷◌, ◌++◌, length, take, drop, refl, sym, ap, ◌∙◌, append_assoc}
use Rattle.std.proofs.Common.{inl, inr, Result, Ok, Err, arith}
use Rattle.std.specs.Prelude.{◌==◌, nat_lt}
use Rattle.std.specs.List.{AllByRecursion}
use Rattle.std.proofs.lemmas.Bool.Decides.{nat_tests}
use Rattle.std.proofs.lemmas.Grind.{flat_map-append}
use Rattle.std.proofs.lemmas.List.{append-nil, length-append, take-append-drop, take-take, drop-take}
use Rattle.std.proofs.lemmas.List.Concat.{flat_map-cons}
use Rattle.packets.specs.Reading.{header_at}
use Rattle.packets.specs.Cutting.{cut_after, IsCut}
use Rattle.blocks.specs.declared.refusal.Refusal.{Refusal}
use Rattle.packets.specs.declared.header.Header.{Header}
use Rattle.packets.proofs.Cuts.{cut_front, same_cut}
use Rattle.packets.proofs.Rows.{header_most}
use Rattle.std.proofs.lemmas.Bool.{cases_lt}
use Rattle.link.specs.Past.{Past}
use Rattle.thread_link.specs.Pieces.{PieceState, bytes_if, bytes_on}
use Rattle.thread_link.specs.Carried.{joined, BeginsNoCut, past_on, IsRising, whole_length}

-- ---- lists

pub all_append : {X : Type 0} (P : X → Type 0) (xs ys : List X) → AllByRecursion P xs → AllByRecursion P ys → AllByRecursion P (xs ++ ys)
all_append P [] ys a b = b
all_append P (x ∷ xs) ys a b = (a.0, all_append P xs ys a.1 b)

pub all_map : {X : Type 0} (P Q : X → Type 0) (xs : List X) → ((x : X) → P x → Q x) → AllByRecursion P xs → AllByRecursion Q xs
all_map P Q [] f a = tt
all_map P Q (x ∷ xs) f a = (f x a.0, all_map P Q xs f a.1)

-- two parts of a list, one after the other
pub two_takes : {X : Type 0} (xs : List X) (m n : ℕ) → take m xs ++ take n (drop m xs) ≡ take (m + n) xs
two_takes {X = X} xs m n =
    let less : m ≤ m + n = omega arith in
    ap (λ (x : List X). x ++ take n (drop m xs)) (sym (take-take m (m + n) xs less))
    ∙ ap (λ (x : List X). take m (take (m + n) xs) ++ x) (sym (drop-take m n xs))
    ∙ take-append-drop m (take (m + n) xs)

-- ---- tests

pub same_number : (a b : ℕ) → a ≡ b → (a == b) ≡ true
same_number a b e = grind (arith, nat_tests)

pub other_number : (a b : ℕ) → a ≢ b → (a == b) ≡ false
other_number a b e = grind (arith, nat_tests)

pub below : (a b : ℕ) → a < b → nat_lt a b ≡ true
below a b h = grind (arith, nat_tests)

pub not_below : (a b : ℕ) → b ≤ a → nat_lt a b ≡ false
not_below a b h = grind (arith, nat_tests)

-- ---- bytes of a connection

pub bytes_append : (n : ℕ) (xs ys : List PieceState) → bytes_on n (xs ++ ys) ≡ bytes_on n xs ++ bytes_on n ys
unfolding bytes_on
bytes_append n xs ys = flat_map-append (bytes_if n) xs ys

pub bytes_first : (n : ℕ) (p : PieceState) (ps : List PieceState) → bytes_on n (p ∷ ps) ≡ bytes_if n p ++ bytes_on n ps
unfolding bytes_on
bytes_first n p ps = flat_map-cons (bytes_if n) p ps

pub no_bytes : (n : ℕ) → bytes_on n [] ≡ []
unfolding bytes_on
no_bytes n = refl

pub bytes_one : (n : ℕ) (p : PieceState) → bytes_on n (p ∷ []) ≡ bytes_if n p
bytes_one n p = bytes_first n p [] ∙ ap (λ (x : List ℕ). bytes_if n p ++ x) (no_bytes n) ∙ append-nil (bytes_if n p)

pub own_bytes : (n : ℕ) (p : PieceState) → p.number ≡ n → bytes_if n p ≡ p.bytes
own_bytes n p e = ap (λ (b : Bool). cond b p.bytes []) (same_number p.number n e)

pub other_bytes : (n : ℕ) (p : PieceState) → p.number ≢ n → bytes_if n p ≡ []
other_bytes n p e = ap (λ (b : Bool). cond b p.bytes []) (other_number p.number n e)

-- pieces of other connections
pub bytes_none : (n : ℕ) (ps : List PieceState) → AllByRecursion (λ p. p.number ≢ n) ps → bytes_on n ps ≡ []
bytes_none n [] h = no_bytes n
bytes_none n (p ∷ ps) h = bytes_first n p ps ∙ ap (λ (x : List ℕ). x ++ bytes_on n ps) (other_bytes n p h.0) ∙ bytes_none n ps h.1

-- pieces of connections up to one before
pub bytes_above : (m n : ℕ) (ps : List PieceState) → m < n → AllByRecursion (λ p. p.number ≤ m) ps → bytes_on n ps ≡ []
bytes_above m n ps lt h =
    bytes_none n ps (all_map (λ p. p.number ≤ m) (λ p. p.number ≢ n) ps (λ p le e. omega (arith, le, lt, e)) h)

-- ---- frames

pub joined_first : (f : List ℕ) (fs : List (List ℕ)) → joined (f ∷ fs) ≡ f ++ joined fs
unfolding joined
joined_first f fs = flat_map-cons (λ frame. frame) f fs

pub joined_none : joined [] ≡ []
unfolding joined
joined_none = refl

pub joined_more : (fs : List (List ℕ)) (f : List ℕ) → joined (fs ++ f ∷ []) ≡ joined fs ++ f
unfolding joined
joined_more fs f = flat_map-append (λ frame. frame) fs (f ∷ []) ∙ ap (λ (x : List ℕ). joined fs ++ x) (flat_map-cons (λ frame. frame) f [] ∙ append-nil f)

-- ---- how long a frame is

pub whole_short : (bytes : List ℕ) → length bytes < 8 → whole_length bytes ≡ 8
unfolding whole_length
whole_short bytes short = ap (λ (b : Bool). cond b 8 (cut_after (header_at bytes))) (below (length bytes) 8 short)

pub whole_long : (bytes : List ℕ) → 8 ≤ length bytes → whole_length bytes ≡ cut_after (header_at bytes)
unfolding whole_length
whole_long bytes long = ap (λ (b : Bool). cond b 8 (cut_after (header_at bytes))) (not_below (length bytes) 8 long)

-- what follows the header does not change it
pub whole_front : (xs ys : List ℕ) → 8 ≤ length xs → whole_length (xs ++ ys) ≡ whole_length xs
whole_front xs ys long =
    let longer : 8 ≤ length (xs ++ ys) = omega (arith, length-append xs ys, long) in
    whole_long (xs ++ ys) longer ∙ cut_front xs ys long ∙ sym (whole_long xs long)

most_of : (r : Result Header Refusal) (bytes : List ℕ) → header_at bytes ≡ r → cut_after r ≤ 131104
most_of (Ok h) bytes e = omega (arith, header_most bytes h e)
most_of (Err fault) bytes e = omega arith

-- less than a cut is shorter than the longest frame
pub part_most : (bytes : List ℕ) → BeginsNoCut bytes → length bytes < 131104
part_most bytes part = elim (cases_lt (length bytes) 8) [
  | inl short ↦ omega (arith, short)
  | inr long ↦ omega (arith, part long, most_of (header_at bytes) bytes refl)
]

-- a cut is no longer than the longest frame
pub cut_most : (frame : List ℕ) → IsCut frame → length frame ≤ 131104
cut_most frame cut =
    let whole = cut.whole in
    omega (arith, whole, most_of (header_at frame) frame refl)

-- no bytes begin with no cut
pub nothing_begun : BeginsNoCut []
nothing_begun long = absurd (omega (arith, long))

-- what begins with a cut is no front of one
no_part : (frame more front : List ℕ) → IsCut frame → BeginsNoCut front → frame ++ more ≡ front → ⊥
no_part frame more front cut part e =
    let len : length frame + length more ≡ length front = sym (length-append frame more) ∙ ap length e in
    let headed = cut.headed in
    let whole = cut.whole in
    let long : 8 ≤ length front = omega (arith, len, headed) in
    let same : cut_after (header_at front) ≡ cut_after (header_at frame) = ap (λ (row : List ℕ). cut_after (header_at row)) (sym e)
    ∙ cut_front frame more headed in
    let less = part long in
    omega (arith, len, whole, same, less)

-- whole frames at the front of other whole frames and less than one are the first of these
pub frames_begin : (taken sent : List (List ℕ)) (more front : List ℕ) → AllByRecursion IsCut taken → AllByRecursion IsCut sent → BeginsNoCut front
    → joined taken ++ more ≡ joined sent ++ front → (rest : List (List ℕ)) × (taken ++ rest ≡ sent)
frames_begin [] sent more front a b part e = (sent, refl)
frames_begin (t ∷ taken) [] more front a b part e =
    let split : t ++ (joined taken ++ more) ≡ front =
    sym (append_assoc t (joined taken) more) ∙ ap (λ (x : List ℕ). x ++ more) (sym (joined_first t taken)) ∙ e ∙ ap (λ (x : List ℕ). x ++ front) joined_none in
    absurd (no_part t (joined taken ++ more) front a.0 part split)
frames_begin (t ∷ taken) (s ∷ sent) more front a b part e =
    let split : t ++ (joined taken ++ more) ≡ s ++ (joined sent ++ front) =
    sym (append_assoc t (joined taken) more) ∙ ap (λ (x : List ℕ). x ++ more) (sym (joined_first t taken)) ∙ e
    ∙ ap (λ (x : List ℕ). x ++ front) (joined_first s sent) ∙ append_assoc s (joined sent) front in
    let same = same_cut t s (joined taken ++ more) (joined sent ++ front) a.0 b.0 split in
    let rest = frames_begin taken sent more front a.1 b.1 part same.1 in
    (rest.0, ap (λ (x : List ℕ). x ∷ (taken ++ rest.0)) same.0 ∙ ap (λ (l : List (List ℕ)). s ∷ l) rest.1)

-- ---- connections

abbrev over : ℕ → List (List ℕ) → Past
over n frames = record { number = n; frames = frames }

pub rising_more : (past : List Past) (n m : ℕ) (frames : List (List ℕ)) → IsRising past n → n < m → IsRising (past ++ over n frames ∷ []) m
rising_more [] n m frames r lt = (lt, tt, tt)
rising_more (before ∷ past) n m frames r lt = (
  omega (arith, r.0, lt),
  all_append (λ (after : Past). before.number < after.number) past (over n frames ∷ []) r.1 (r.0, tt),
  rising_more past n m frames r.2 lt,
)

pub past_same : (past : List Past) (n : ℕ) (frames : List (List ℕ)) → IsRising past n → past_on n (past ++ over n frames ∷ []) ≡ frames
past_same [] n frames r = ap (λ (b : Bool). cond b frames []) (same_number n n refl)
past_same (before ∷ past) n frames r =
    let other : before.number ≢ n = λ e. omega (arith, r.0, e) in
    ap (λ (b : Bool). cond b before.frames (past_on n (past ++ over n frames ∷ []))) (other_number before.number n other) ∙ past_same past n frames r.2

pub past_other : (past : List Past) (n m : ℕ) (frames : List (List ℕ)) → m ≢ n → past_on m (past ++ over n frames ∷ []) ≡ past_on m past
past_other [] n m frames apart = ap (λ (b : Bool). cond b frames []) (other_number n m (λ e. apart (sym e)))
past_other (before ∷ past) n m frames apart = ap (λ (rest : List (List ℕ)). cond (before.number == m) before.frames rest) (past_other past n m frames apart)

-- a number that is none of those before
pub past_none : (past : List Past) (n : ℕ) → AllByRecursion (λ before. before.number < n) past → past_on n past ≡ []
past_none [] n h = refl
past_none (before ∷ past) n h =
    ap (λ (b : Bool). cond b before.frames (past_on n past)) (other_number before.number n (λ e. omega (arith, h.0, e))) ∙ past_none past n h.1
