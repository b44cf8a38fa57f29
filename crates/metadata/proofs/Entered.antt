-- What a write over extents that are not entered leaves.
use Rattle.std.proofs.Common.{ℕ, ◌≡◌, ◌+◌, ◌-◌, ◌<◌, ◌≤◌, ◌==◌, inl, inr, true, not, List, length, take, replicate, slice_index, refl, sym, ◌∙◌, ap, subst}
use Rattle.std.proofs.Common.{arith}
use Rattle.std.proofs.lemmas.Bool.{cases_lt, cases_Bool, both_ways}
use Rattle.std.proofs.lemmas.List.{get_or-replicate, length-replicate}
use Rattle.metadata.specs.declared.header.Header.{Header}
use Rattle.metadata.specs.declared.identifiers.Identifiers.{Identifiers}
use Rattle.metadata.specs.Calls.{Torn, Written, Follows, Only}
use Rattle.metadata.specs.Says.{entered_in}
use Rattle.metadata.specs.Steps.{SameFront, MayEnter, EntersMissing}
use Rattle.metadata.specs.State.{Says, IsKept, is_entered, IsMissing}
use Rattle.metadata.proofs.Kept.{opens-same}
use Rattle.metadata.proofs.Marks.{part-length, part-each}
use Rattle.metadata.proofs.Places.{Within, within-torn, front-same}

front-none : (file : List ℕ) → SameFront file file
front-none file = record { size = refl; header = refl; selected = refl; saved = refl }

front-then : (a b c : List ℕ) → SameFront a b → SameFront b c → SameFront a c
front-then a b c one two = record {
  size = two.size ∙ one.size;
  header = two.header ∙ one.header;
  selected = two.selected ∙ one.selected;
  saved = two.saved ∙ one.saved;
}

-- before the first write
pub may-none : (memory file : List ℕ) → MayEnter memory file file
may-none memory file = record { front = front-none file; entries = λ x low is. refl; marks = λ b. refl }

pub enters-none : (memory file : List ℕ) → EntersMissing memory 0 file file
enters-none memory file = record {
  more = record { front = front-none file; entries = λ x low is. is; marks = λ b. refl };
  missing = λ x low is. absurd (omega arith);
}

-- one write after another
pub may-then : (memory a b c : List ℕ) → MayEnter memory a b → MayEnter memory b c → MayEnter memory a c
may-then memory a b c one two = record {
  front = front-then a b c one.front two.front;
  entries = λ x low is. two.entries x low is ∙ one.entries x low is;
  marks = λ b. two.marks b ∙ one.marks b;
}

-- the write of a run, torn
pub torn-run : (memory d c : List ℕ) (from first count : ℕ) → 2101248 ≤ length d → length memory ≤ 2097152 → IsMissing memory from first count
    → Torn (4096 + first) count d c → MayEnter memory d c
torn-run memory d c from first count room few run torn = record {
  front = front-same d c within.size (λ i low. within.below i (omega arith));
  entries = λ x low is. elim (cases_lt x first) [
    | inl below ↦ ap (λ n. not (n == 0)) (within.below (4096 + x) (omega arith))
    | inr from ↦ elim (cases_lt x (first + count)) [
      | inl in_run ↦ absurd (both_ways (is_entered memory x) (run.missing x from in_run) is)
      | inr above ↦ ap (λ n. not (n == 0)) (within.above (4096 + x) (omega arith))
    ]
  ];
  marks = λ b. ap (λ n. not (n == 0)) (within.above (2101248 + b) (omega (arith, few, run.inside)));
}
  where
    within : Within (4096 + first) count d c
    within = within-torn (4096 + first) count d c (omega (arith, room, few, run.inside)) torn

-- what a crash may leave after the write of one run more
pub run-follows : (may may' may'' : List ℕ → Type 0) (memory : List ℕ) (from first count : ℕ) → ((d : List ℕ) → may d → 2101248 ≤ length d) → length memory ≤ 2097152
    → IsMissing memory from first count → Follows (MayEnter memory) may may' → Follows (Torn (4096 + first) (length {A = ℕ} (take count (replicate 4096 1)))) may' may''
    → Follows (MayEnter memory) may may''
run-follows may may' may'' memory from first count room few run before torn c left =
    let mid = torn c left in
    let old = before mid.0 mid.1 in
    let size : 2101248 ≤ length mid.0 = omega (arith, room old.0 old.1, old.2.front.size) in
    let last : Torn (4096 + first) count mid.0 c = subst (λ n. Torn (4096 + first) n mid.0 c) (part-length 4096 count 1 run.few) mid.2 in
    (old.0, old.1, may-then memory old.0 mid.0 c old.2 (torn-run memory mid.0 c from first count size few run last))

-- the write of a run
pub enters-run : (memory a d c : List ℕ) (from first count : ℕ) → 2101248 ≤ length a → length memory ≤ 2097152 → IsMissing memory from first count
    → EntersMissing memory from a d → Written (4096 + first) (take count (replicate 4096 1)) d c → EntersMissing memory (first + count) a c
enters-run memory a d c from first count room few run before written = record {
  more = record {
    front = front-then a d c before.more.front (front-same d c within.size (λ i low. within.below i (omega arith)));
    entries = λ x low is. stays x (before.more.entries x low is);
    marks = λ b. ap (λ n. not (n == 0)) (within.above (2101248 + b) (omega (arith, few, run.inside))) ∙ before.more.marks b;
  };
  missing = λ x low is_not. elim (cases_lt x from) [
    | inl earlier ↦ stays x (before.missing x earlier is_not)
    | inr from ↦ elim (cases_lt x first) [
      | inl skipped ↦ absurd (both_ways (is_entered memory x) is_not (run.skipped x from skipped))
      | inr in_run ↦ here x in_run low
    ]
  ];
}
  where
    within : Within (4096 + first) count d c
    within = within-torn (4096 + first) count d c (omega (arith, room, few, run.inside, before.more.front.size))
        (subst (λ n. Torn (4096 + first) n d c) (part-length 4096 count 1 run.few) written.elsewhere)

    here : (x : ℕ) → first ≤ x → x < first + count → entered_in c x ≡ true
    here x from below =
        let i : ℕ = x - first in
        let low : i < count = omega arith in
        let place : 4096 + first + i ≡ 4096 + x = omega arith in
        ap (λ n. not (n == 0)) (ap (slice_index c) (sym place)
        ∙ written.here.each i (omega (arith, part-length 4096 count 1 run.few)) ∙ part-each 4096 count 1 run.few i low)

    stays : (x : ℕ) → entered_in d x ≡ true → entered_in c x ≡ true
    stays x is = elim (cases_lt x first) [
      | inl below ↦ ap (λ n. not (n == 0)) (within.below (4096 + x) (omega arith)) ∙ is
      | inr from ↦ elim (cases_lt x (first + count)) [
        | inl in_run ↦ here x from in_run
        | inr above ↦ ap (λ n. not (n == 0)) (within.above (4096 + x) (omega arith)) ∙ is
      ]
    ]

-- every extent is entered, once the missing ones are
pub all-entered : (memory old new : List ℕ) → length memory ≤ 2097152 → ((x : ℕ) → x < length memory → entered_in old x ≡ is_entered memory x)
    → EntersMissing memory (length memory) old new → (x : ℕ) → x < length memory → entered_in new x ≡ true
all-entered memory old new few exactly enters x low = elim (cases_Bool (is_entered memory x)) [
  | inl is ↦ enters.more.entries x (omega arith) (exactly x low ∙ is)
  | inr is_not ↦ enters.missing x low is_not
]

-- a file in which the missing extents were entered is kept, once it is all on the disk
pub all-kept : (seen seen' : List ℕ) (may may' : List ℕ → Type 0) (h : Header) (v : Identifiers) (slot : ℕ) (memory entries : List ℕ) → length memory ≤ 2097152
    → entries ≡ replicate (length memory) 1 → IsKept seen may h v slot memory → EntersMissing memory (length memory) seen seen' → Only seen' may' → IsKept seen' may' h v slot entries
all-kept seen seen' may may' h v slot memory entries few ones kept enters only = record {
  says = says;
  exactly = λ x low. entered x low ∙ sym (ap (λ n. not (n == 0)) (ap (λ (l : List ℕ). slice_index l x) ones ∙ get_or-replicate (length memory) x 1 0 (omega (arith, low, size))));
  left = λ c left. subst (λ (l : List ℕ). Says h v slot entries l) (sym (only c left)) says;
}
  where
    size : length entries ≡ length memory
    size = ap length ones ∙ length-replicate {A = ℕ} (length memory) 1

    entered : (x : ℕ) → x < length entries → entered_in seen' x ≡ true
    entered x low = all-entered memory seen seen' few kept.exactly enters x (omega (arith, low, size))

    says : Says h v slot entries seen'
    says = record {
      opens = opens-same h v seen seen' enters.more.front kept.says.opens;
      selected = enters.more.front.selected ∙ kept.says.selected;
      entered = λ x low is. entered x low;
    }
