-- What a creation leaves.
use Rattle.std.proofs.Common.{ℕ, ◌≡◌, ◌+◌, ◌-◌, ◌<◌, ◌≤◌, inl, inr, List, [], length, take, drop, slice_index, sym, ◌∙◌, ap, subst, arith, length-take}
use Rattle.std.proofs.Common.{length-drop, get_or-take, get_or-drop}
use Rattle.std.proofs.lemmas.List.{ext_get_or, get_or_past}
use Rattle.std.proofs.lemmas.Bool.{cases_lt}
use Rattle.metadata.specs.Calls.{Torn, Written, Resized, Cut}
use Rattle.metadata.specs.State.{IsLaidOut, MagicLast}
use Rattle.metadata.proofs.Places.{within-torn, part-same}
use Rattle.metadata.proofs.SlotLemmas.{slot-written}

-- a file that begins with a zero has no header
pub zero-first : (len : ℕ) (top slot d c : List ℕ) → 0 < slice_index top 0 → slice_index c 0 ≡ 0 → MagicLast len top slot d c
zero-first len top slot d c begins zero same =
    let first = sym (get_or-take 8 c 0 0 (omega arith)) ∙ ap (λ (l : List ℕ). slice_index l 0) same ∙ get_or-take 8 top 0 0 (omega arith) in
    absurd (omega (arith, first, zero, begins))

-- a new length of an empty file, cut short or not
pub cut-zero : (len : ℕ) (d c : List ℕ) → d ≡ [] → Cut len d c → slice_index c 0 ≡ 0
cut-zero len d c empty cut = elim (cases_lt 0 (length c)) [
  | inl some ↦ cut.same 0 some ∙ ap (λ (l : List ℕ). slice_index l 0) empty
  | inr none ↦ get_or_past c 0 0 none
]

-- a file of zeros, for the most part
pub record IsBlank (len : ℕ) (file : List ℕ) : Type 0 where
  pub size : length file ≡ len
  pub zeros : (i : ℕ) → slice_index file i ≡ 0

pub blank : (len : ℕ) (old new : List ℕ) → old ≡ [] → Resized len old new → IsBlank len new
blank len old new empty resized = record {
  size = resized.size;
  zeros = λ i. elim (cases_lt i len) [
    | inl low ↦ resized.same i low ∙ ap (λ (l : List ℕ). slice_index l i) empty
    | inr high ↦ get_or_past new i 0 (omega (arith, resized.size))
  ];
}

-- the write of the slot leaves the first byte
pub slot-zero : (len : ℕ) (e c : List ℕ) → 2101248 ≤ len → IsBlank len e → Torn 1024 128 e c → (slice_index c 0 ≡ 0) × (length c ≡ len)
slot-zero len e c room is torn =
    let within = within-torn 1024 128 e c (omega (arith, is.size)) torn in
    (within.below 0 (omega arith) ∙ is.zeros 0, within.size ∙ is.size)

-- and so does that of the rest of the header
pub rest-zero : (len : ℕ) (e c : List ℕ) → 2101248 ≤ len → slice_index e 0 ≡ 0 → length e ≡ len → Torn 8 40 e c → slice_index c 0 ≡ 0
rest-zero len e c room zero size torn = (within-torn 8 40 e c (omega (arith, size)) torn).below 0 (omega arith) ∙ zero

-- all is there but the first word
pub record IsReady (len : ℕ) (top slot file : List ℕ) : Type 0 where
  pub size : length file ≡ len
  pub rest : (i : ℕ) → 8 ≤ i → i < 48 → slice_index file i ≡ slice_index top i
  pub selector : slice_index file 512 ≡ 0
  pub slot_is : take 128 (drop 1024 file) ≡ slot
  pub zeros : (i : ℕ) → 4096 ≤ i → slice_index file i ≡ 0

pub ready : (len : ℕ) (top slot z m e : List ℕ) → 2101248 ≤ len → length top ≡ 48 → length slot ≡ 128 → IsBlank len z → Written 1024 slot z m → Written 8 (drop 8 top) m e → IsReady len top slot e
ready len top slot z m e room long size is first second =
    let rest_size : length (drop 8 top) ≡ 40 = omega (arith, length-drop 8 top, long) in
    let one = within-torn 1024 128 z m (omega (arith, is.size)) (subst (λ n. Torn 1024 n z m) size first.elsewhere) in
    let two = within-torn 8 40 m e (omega (arith, one.size, is.size)) (subst (λ n. Torn 8 n m e) rest_size second.elsewhere) in
    record {
      size = two.size ∙ one.size ∙ is.size;
      rest = λ i low high.
          let place : 8 + (i - 8) ≡ i = omega arith in
          ap (slice_index e) (sym place) ∙ second.here.each (i - 8) (omega (arith, rest_size)) ∙ get_or-drop 8 top (i - 8) 0 ∙ ap (slice_index top) place;
      selector = two.above 512 (omega arith) ∙ one.below 512 (omega arith) ∙ is.zeros 512;
      slot_is = part-same 1024 128 m e two.size (λ i from below. two.above i (omega arith)) ∙ slot-written 1024 slot m size first.here;
      zeros = λ i high. two.above i (omega arith) ∙ one.above i (omega arith) ∙ is.zeros i;
    }

-- a file that is ready and begins as the header does is laid out
pub laid : (len : ℕ) (top slot e c : List ℕ) → 2101248 ≤ len → length top ≡ 48 → IsReady len top slot e → Torn 0 8 e c → take 8 c ≡ take 8 top → IsLaidOut len top slot c
laid len top slot e c room long is torn magic =
    let within = within-torn 0 8 e c (omega (arith, is.size)) torn in
    record {
      size = within.size ∙ is.size;
      top_is = ext_get_or 0 (take 48 c) top (omega (arith, length-take 48 c, within.size, is.size, long))
          (λ i low.
          let short : i < 48 = omega (arith, length-take 48 c) in
          get_or-take 48 c i 0 short ∙ elim (cases_lt i 8) [
            | inl first ↦ sym (get_or-take 8 c i 0 first) ∙ ap (λ (l : List ℕ). slice_index l i) magic ∙ get_or-take 8 top i 0 first
            | inr after ↦ within.above i (omega arith) ∙ is.rest i after short
          ]);
      selector = within.above 512 (omega arith) ∙ is.selector;
      slot_is = part-same 1024 128 e c within.size (λ i from below. within.above i (omega arith)) ∙ is.slot_is;
      zeros = λ i high. within.above i (omega arith) ∙ is.zeros i high;
    }

-- the first word was written
pub magic-written : (top e c : List ℕ) → length top ≡ 48 → Written 0 (take 8 top) e c → take 8 c ≡ take 8 top
magic-written top e c long written =
    let size : length (take 8 top) ≡ 8 = omega (arith, length-take 8 top, long) in
    ext_get_or 0 (take 8 c) (take 8 top) (omega (arith, length-take 8 c, written.here.within, size))
    (λ i low.
    let short : i < 8 = omega (arith, length-take 8 c) in
    let place : 0 + i ≡ i = omega arith in
    get_or-take 8 c i 0 short ∙ ap (slice_index c) (sym place) ∙ written.here.each i (omega (arith, size)))
