-- What the two writes of a new slot leave, whole or torn.
use Rattle.std.proofs.Common.{ℕ, ◌≡◌, ◌⊎◌, ◌+◌, ◌<◌, ◌≤◌, ◌==◌, inl, inr, Bool, true, false, not, List, [], ◌∷◌, length, take, drop, slice_index, refl, sym}
use Rattle.std.proofs.Common.{◌∙◌, ap, subst, arith, length-take, length-drop, get_or-take, get_or-drop}
use Rattle.std.specs.Prelude.{if◌then◌else◌}
use Rattle.std.proofs.lemmas.List.{ext_get_or}
use Rattle.std.proofs.lemmas.Bool.{cases_lt, cases_Bool}
use Rattle.metadata.specs.Calls.{Torn, Holds, Written}
use Rattle.metadata.specs.Says.{selected_in, slot_at, slot_bytes}
use Rattle.metadata.specs.Steps.{SameBehind, OnlySlot, HasOther, IsReplaced}
use Rattle.metadata.proofs.Places.{Within, within-torn, part-same, first-same, slot-low, byte-here}

-- a slot begins behind the selector
slot-high : (n : ℕ) → 1024 ≤ slot_at n
slot-high n = elim (n == 0) as (λ b. 1024 ≤ (if b then 1024 else 1536)) [ true ↦ omega arith | false ↦ omega arith ]

-- the slots lie apart
slots-apart : (n other : ℕ) → n + other ≡ 1 → (slot_at n + 128 ≤ slot_at other) ⊎ (slot_at other + 128 ≤ slot_at n)
slots-apart n other one = elim (cases_lt n 1) [
  | inl first ↦
      let is : n ≡ 0 = omega arith in
      let is' : other ≡ 1 = omega arith in
      inl (subst (λ k. slot_at k + 128 ≤ slot_at other) (sym is) (subst (λ k. 1024 + 128 ≤ slot_at k) (sym is') (omega arith)))
  | inr second ↦
      let is : n ≡ 1 = omega arith in
      let is' : other ≡ 0 = omega arith in
      inr (subst (λ k. slot_at other + 128 ≤ slot_at k) (sym is) (subst (λ k. slot_at k + 128 ≤ 1536) (sym is') (omega arith)))
]

-- nothing behind the slots has changed, nor the header
behind : (at n : ℕ) (old new : List ℕ) → 512 ≤ at → at + n ≤ 4096 → Within at n old new → SameBehind old new
behind at n old new low high within = record {
  size = within.size;
  header = first-same 48 old new within.size (λ i less. within.below i (omega arith));
  entries = λ x few. ap (λ b. not (b == 0)) (within.above (4096 + x) (omega arith));
  marks = λ b. ap (λ v. not (v == 0)) (within.above (2101248 + b) (omega arith));
}

behind-trans : (a b c : List ℕ) → SameBehind a b → SameBehind b c → SameBehind a c
behind-trans a b c s t = record {
  size = t.size ∙ s.size;
  header = t.header ∙ s.header;
  entries = λ x few. t.entries x few ∙ s.entries x few;
  marks = λ x. t.marks x ∙ s.marks x;
}

-- the write of the slot that does not count
pub record Staged (n : ℕ) (old new : List ℕ) : Type 0 where
  pub behind : SameBehind old new
  pub selected : selected_in new ≡ selected_in old
  pub kept : slot_bytes n new ≡ slot_bytes n old

pub staged : (other : ℕ) (d c : List ℕ) → HasOther other d → Torn (slot_at other) 128 d c → Staged (selected_in d) d c
staged other d c has torn =
    let n : ℕ = selected_in d in
    let low = slot-low other in
    let within = within-torn (slot_at other) 128 d c (omega (arith, has.size, low)) torn in
    record {
      behind = behind (slot_at other) 128 d c (omega (arith, slot-high other)) low within;
      selected = ap (λ v. if v == 0 then 0 else 1) (within.below 512 (omega (arith, slot-high other)));
      kept = part-same (slot_at n) 128 d c within.size (λ i from below. elim (slots-apart n other has.selected) [
        | inl before ↦ within.below i (omega arith)
        | inr after ↦ within.above i (omega arith)
      ]);
    }

-- it changes nothing that counts
pub torn-slot : (other : ℕ) (slot d c : List ℕ) → HasOther other d → Torn (slot_at other) 128 d c → OnlySlot slot d c
torn-slot other slot d c has torn =
    let s = staged other d c has torn in
    record { behind = s.behind; either = inl (ap (λ n. slot_bytes n c) s.selected ∙ s.kept) }

-- the slot that was written
pub slot-written : (at : ℕ) (slot file : List ℕ) → length slot ≡ 128 → Holds file at slot → take 128 (drop at file) ≡ slot
slot-written at slot file size holds =
    ext_get_or 0 (take 128 (drop at file)) slot
    (omega (arith, length-take 128 (drop at file), length-drop at file, holds.within, size))
    (λ i low.
    let short : i < 128 = omega (arith, length-take 128 (drop at file)) in
    get_or-take 128 (drop at file) i 0 short ∙ get_or-drop at file i 0 ∙ holds.each i (omega arith))

-- the slot that the selector names is one of the two
either-selected : (n other : ℕ) (file : List ℕ) → n + other ≡ 1 → (selected_in file ≡ n) ⊎ (selected_in file ≡ other)
either-selected n other file one = elim (cases_Bool (slice_index file 512 == 0)) [
  | inl zero ↦ (let is : selected_in file ≡ 0 = ap (λ (b : Bool). if b then 0 else 1) zero in elim (cases_lt n 1) [ inl low ↦ inl (omega (arith, is)) | inr high ↦ inr (omega (arith, is)) ])
  | inr one_is ↦ (let is : selected_in file ≡ 1 = ap (λ (b : Bool). if b then 0 else 1) one_is in elim (cases_lt n 1) [ inl low ↦ inr (omega (arith, is)) | inr high ↦ inl (omega (arith, is)) ])
]

-- the write of the selector
pub selector : (other : ℕ) (slot d e c : List ℕ) → HasOther other d → Staged (selected_in d) d e → slot_bytes other e ≡ slot → Torn 512 1 e c → OnlySlot slot d c
selector other slot d e c has s new torn =
    let within = within-torn 512 1 e c (omega (arith, has.size, s.behind.size)) torn in
    let part = λ (k : ℕ). part-same (slot_at k) 128 e c within.size (λ i from below. within.above i (omega (arith, slot-high k))) in
    record {
      behind = behind-trans d e c s.behind (behind 512 1 e c (omega arith) (omega arith) within);
      either = elim (either-selected (selected_in d) other c has.selected) [
        | inl old ↦ inl (ap (λ n. slot_bytes n c) old ∙ part (selected_in d) ∙ s.kept)
        | inr new_one ↦ inr (ap (λ n. slot_bytes n c) new_one ∙ part other ∙ new)
      ];
    }

-- both writes, whole
pub replaced : (other : ℕ) (slot old mid new : List ℕ) → length slot ≡ 128 → other ≤ 1 → HasOther other old → Written (slot_at other) slot old mid
    → Written 512 (other ∷ []) mid new → IsReplaced other slot old new
replaced other slot old mid new size few has first second =
    let s = staged other old mid has (subst (λ n. Torn (slot_at other) n old mid) size first.elsewhere) in
    let within = within-torn 512 1 mid new (omega (arith, has.size, s.behind.size)) second.elsewhere in
    let byte : slice_index new 512 ≡ other = byte-here 512 other new second.here in
    let chosen : selected_in new ≡ other = ap (λ v. if v == 0 then 0 else 1) byte ∙ bit other few in
    record {
      behind = behind-trans old mid new s.behind (behind 512 1 mid new (omega arith) (omega arith) within);
      selected = chosen;
      saved = ap (λ n. slot_bytes n new) chosen
          ∙ part-same (slot_at other) 128 mid new within.size (λ i from below. within.above i (omega (arith, slot-high other)))
          ∙ slot-written (slot_at other) slot mid size first.here;
    }
  where
    bit : (n : ℕ) → n ≤ 1 → (if n == 0 then 0 else 1) ≡ n
    bit n low = elim (cases_lt n 1) [
      | inl first ↦ (let is : n ≡ 0 = omega arith in subst (λ k. (if k == 0 then 0 else 1) ≡ k) (sym is) refl)
      | inr second ↦ (let is : n ≡ 1 = omega arith in subst (λ k. (if k == 0 then 0 else 1) ≡ k) (sym is) refl)
    ]
