-- As many receipts as completed writes, each of another write, are those of all of them.
use Rattle.std.proofs.Common.{ℕ, zero, suc, ◌≡◌, ◌+◌, ◌⊎◌, inl, inr, Bool, true, false, ◌&&◌, ◌==◌, cond, List, [], ◌∷◌, length, map, Option, Some, None}
use Rattle.std.proofs.Common.{slice_get, refl, sym, ◌∙◌, ap, subst, arith}
use Rattle.std.specs.List.{count_by}
use Rattle.std.proofs.lemmas.Bool.{eq-eqb}
use Rattle.std.proofs.lemmas.List.Sums.{sum_by-cons}
use Rattle.blocks.specs.Positions.{StreamPosition}
use Rattle.laws.proofs.Lists.Elements.{same-at}
use Rattle.laws.proofs.Lists.Once.{Once}
use Rattle.laws.proofs.Lists.Picks.{any-pick}
use Rattle.model.specs.Primary.{Alone, Completion, CompletionKind, Linked, PrimaryHistory}
use Rattle.model.specs.Settlement.{Receipt, receipt_of, same_home, same_kind, same_receipt}
use Rattle.primary.specs.Receipts.{is_entry_of, is_found}
use Rattle.primary.proofs.Confirming.{journal-has}
use Rattle.primary_protocol.specs.Core.{Completed, Failed, Fate, JournalEntry, Open, PrimaryState}
use Rattle.primary_protocol.specs.Leaves.{Leaves}
use Rattle.primary_protocol.specs.Steps.{IsReached}
use Rattle.primary_protocol.specs.Transitions.{entry_at}
use Rattle.primary_protocol.proofs.Common.Reached.{reached-ordered}
use Rattle.settlement.specs.Settled.{AreAll, AreEntries, is_completed}

-- Lists of numbers.

abbrev IsIn : ℕ → List ℕ → Type 0
IsIn n [] = ⊥
IsIn n (x ∷ xs) = (n ≡ x) ⊎ IsIn n xs

-- no number stands twice
abbrev Differ : List ℕ → Type 0
Differ [] = Unit {0}
Differ (x ∷ xs) = (IsIn x xs → ⊥) × Differ xs

abbrev without : (x : ℕ) (ys : List ℕ) → IsIn x ys → List ℕ
without x [] there = []
without x (y ∷ ys) (inl is) = ys
without x (y ∷ ys) (inr there) = y ∷ without x ys there

length-without : (x : ℕ) (ys : List ℕ) (there : IsIn x ys) → suc (length (without x ys there)) ≡ length ys
length-without x [] there = absurd there
length-without x (y ∷ ys) (inl is) = refl
length-without x (y ∷ ys) (inr there) = ap suc (length-without x ys there)

in-without : (x n : ℕ) (ys : List ℕ) (there : IsIn x ys) → IsIn n ys → (n ≡ x) ⊎ IsIn n (without x ys there)
in-without x n [] there inside = absurd there
in-without x n (y ∷ ys) (inl is) (inl same) = inl (same ∙ sym is)
in-without x n (y ∷ ys) (inl is) (inr inside) = inr inside
in-without x n (y ∷ ys) (inr there) (inl same) = inr (inl same)
in-without x n (y ∷ ys) (inr there) (inr inside) = elim (in-without x n ys there inside) [ inl same ↦ inl same | inr left ↦ inr (inr left) ]

-- different numbers of a list, as many as it has, are all of it
all-there : (xs ys : List ℕ) → Differ xs → ((n : ℕ) → IsIn n xs → IsIn n ys) → length ys ≡ length xs → (n : ℕ) → IsIn n ys → IsIn n xs
all-there [] [] differ within same n there = there
all-there [] (y ∷ ys) differ within same n there = absurd (omega (arith, same))
all-there (x ∷ xs) ys differ within same n there =
    let at = within x (inl refl) in
    let fewer : length (without x ys at) ≡ length xs = (let l = length-without x ys at in omega (arith, l, same)) in
    elim (in-without x n ys at there) [
      | inl is ↦ inl is
      | inr left ↦ inr (all-there xs (without x ys at) differ.1 (λ m inside. elim (in-without x m ys at (within m (inr inside))) [
        | inl is ↦ absurd (differ.0 (subst (λ k. IsIn k xs) is inside))
        | inr stays ↦ stays
      ]) fewer n left)
    ]

-- The numbers of the completed writes.

abbrev done_from : ℕ → List JournalEntry → List ℕ
done_from k [] = []
done_from k (entry ∷ entries) = cond (is_completed entry) (suc k ∷ done_from (suc k) entries) (done_from (suc k) entries)

-- one more entry counts if its write was completed
count-next : (k : ℕ) (rest : List ℕ) (count : ℕ) → length rest ≡ count → (b : Bool) → length (cond b (suc k ∷ rest) rest) ≡ cond b 1 0 + count
count-next k rest count is true = omega (arith, is)
count-next k rest count is false = omega (arith, is)

length-done : (k : ℕ) (entries : List JournalEntry) → length (done_from k entries) ≡ count_by is_completed entries
length-done k [] = refl
length-done k (entry ∷ entries) =
    count-next k (done_from (suc k) entries) (count_by is_completed entries) (length-done (suc k) entries) (is_completed entry)
    ∙ sym (sum_by-cons (λ (e : JournalEntry). cond (is_completed e) 1 0) entry entries)

later-in : (n k : ℕ) (rest : List ℕ) → IsIn n rest → (b : Bool) → IsIn n (cond b (suc k ∷ rest) rest)
later-in n k rest there true = inr there
later-in n k rest there false = there

done-there : (k n : ℕ) (entries : List JournalEntry) (entry : JournalEntry) → slice_get entries n ≡ Some entry → is_completed entry ≡ true
    → IsIn (suc (k + n)) (done_from k entries)
done-there k n [] entry at done = absurd (cc)
done-there k zero (first ∷ entries) entry at done =
    let same : first ≡ entry = cc in
    let first_done : is_completed first ≡ true = ap is_completed same ∙ done in
    let number : suc (k + 0) ≡ suc k = omega arith in
    subst (λ (b : Bool). IsIn (suc (k + 0)) (cond b (suc k ∷ done_from (suc k) entries) (done_from (suc k) entries))) (sym first_done) (inl number)
done-there k (suc n) (first ∷ entries) entry at done =
    let number : suc (suc k + n) ≡ suc (k + suc n) = omega arith in
    later-in (suc (k + suc n)) k (done_from (suc k) entries)
    (subst (λ m. IsIn m (done_from (suc k) entries)) number (done-there (suc k) n entries entry at done)) (is_completed first)

-- The numbers of receipts.

abbrev numbers_of : List Receipt → List ℕ
numbers_of receipts = map (λ (r : Receipt). r.number) receipts

receipt-there : (n : ℕ) (receipts : List Receipt) → IsIn n (numbers_of receipts)
    → (i : ℕ) × (receipt : Receipt) × (slice_get receipts i ≡ Some receipt) × (receipt.number ≡ n)
receipt-there n [] there = absurd there
receipt-there n (first ∷ receipts) (inl is) = (0, first, refl, sym is)
receipt-there n (first ∷ receipts) (inr there) = let later = receipt-there n receipts there in (suc later.0, later.1, later.2, later.3)

receipts-differ : (receipts : List Receipt) → Once (λ (r : Receipt). r.number) receipts → Differ (numbers_of receipts)
receipts-differ [] once = tt
receipts-differ (first ∷ receipts) once = (
  λ there.
      let other = receipt-there first.number receipts there in
      let wrong : 0 ≡ suc other.0 = once 0 (suc other.0) first other.1 refl other.2 (sym other.3) in omega (arith, wrong),
  receipts-differ receipts (λ m n a b ata atb same. let index : suc m ≡ suc n = once (suc m) (suc n) a b ata atb same in omega (arith, index)),
)

within-numbers : (P : ℕ → Type 0) (receipts : List Receipt) → ((i : ℕ) (receipt : Receipt) → slice_get receipts i ≡ Some receipt → P receipt.number)
    → (n : ℕ) → IsIn n (numbers_of receipts) → P n
within-numbers P receipts each n there = let found = receipt-there n receipts there in subst P found.3 (each found.0 found.1 found.2)

-- A receipt is the same as itself.

home-itself : (home : Option StreamPosition) → same_home home home ≡ true
home-itself None = refl
home-itself (Some at) = λ i. eq-eqb at.index at.index refl i && eq-eqb at.place at.place refl i

kind-itself : (kind : CompletionKind) → same_kind kind kind ≡ true
kind-itself Linked = refl
kind-itself Alone = refl

itself : (r : Receipt) → same_receipt r r ≡ true
itself r = λ i. (eq-eqb r.number r.number refl i && eq-eqb r.first r.first refl i)
    && (eq-eqb r.count r.count refl i && (kind-itself r.kind i && home-itself r.home i))

-- a receipt that is found has the number of a completed write
found-done : (s : PrimaryState) (r : Receipt) → is_found r s ≡ true → IsIn r.number (done_from 0 s.entries)
found-done s r found = by-number r.number refl
  where
    by : Option JournalEntry → Bool
    by v = elim v as (λ _. Bool) [ None ↦ false | Some entry ↦ is_entry_of entry r ]

    is-done : (entry : JournalEntry) (fate : Fate) → entry.fate ≡ fate → is_entry_of entry r ≡ true → is_completed entry ≡ true
    is-done entry Open is of = absurd (let wrong : false ≡ true = sym (ap (λ (f : Fate). is_entry_of (record entry { fate = f }) r) is) ∙ of in cc (wrong))
    is-done entry Failed is of = absurd (let wrong : false ≡ true = sym (ap (λ (f : Fate). is_entry_of (record entry { fate = f }) r) is) ∙ of in cc (wrong))
    is-done entry (Completed linked home) is of = ap (λ (f : Fate). is_completed (record entry { fate = f })) is

    by-entry : (n : ℕ) (v : Option JournalEntry) → slice_get s.entries n ≡ v → by v ≡ true → IsIn (suc n) (done_from 0 s.entries)
    by-entry n None at of = absurd (let wrong : false ≡ true = of in cc (wrong))
    by-entry n (Some entry) at of =
        let number : suc (0 + n) ≡ suc n = omega arith in
        subst (λ m. IsIn m (done_from 0 s.entries)) number (done-there 0 n s.entries entry at (is-done entry entry.fate refl of))

    by-number : (m : ℕ) → r.number ≡ m → IsIn r.number (done_from 0 s.entries)
    by-number zero is = absurd (let wrong : false ≡ true = sym (ap (λ (m : ℕ). by (entry_at m s)) is) ∙ found in cc (wrong))
    by-number (suc n) is = subst (λ m. IsIn m (done_from 0 s.entries)) (sym is)
        (by-entry n (slice_get s.entries n) refl (sym (ap (λ (m : ℕ). by (entry_at m s)) is) ∙ found))

-- As many receipts as completed writes, each that of an entry of the journal and none given twice: each entry of the journal has its own.
pub every-one : (s : PrimaryState) (p : PrimaryHistory) → IsReached p → Leaves s p → (receipts : List Receipt) → AreEntries p receipts
    → count_by is_completed s.entries ≡ length receipts → AreAll p receipts
every-one s p reached left receipts are count n entry at =
    receipt-there entry.write.number receipts (all-there (numbers_of receipts) (done_from 0 s.entries) (receipts-differ receipts numbers)
    (within-numbers (λ m. IsIn m (done_from 0 s.entries)) receipts found)
    (length-done 0 s.entries ∙ count ∙ sym (many receipts)) entry.write.number (journal-done n entry at))
  where
    many : (list : List Receipt) → length (numbers_of list) ≡ length list
    many [] = refl
    many (r ∷ list) = ap suc (many list)

    -- an entry of the journal is of a completed write
    journal-done : (m : ℕ) (e : Completion) → slice_get p.journal m ≡ Some e → IsIn e.write.number (done_from 0 s.entries)
    journal-done m e there = found-done s (receipt_of e) (sym (journal-has s p reached left (receipt_of e))
        ∙ any-pick (λ (x : Completion). same_receipt (receipt_of x) (receipt_of e)) p.journal m e there (itself (receipt_of e)))

    found : (i : ℕ) (r : Receipt) → slice_get receipts i ≡ Some r → IsIn r.number (done_from 0 s.entries)
    found i r there =
        let of = are.each i r there in
        subst (λ (x : Receipt). IsIn x.number (done_from 0 s.entries)) (sym of.3) (journal-done of.0 of.1 of.2)

    -- two receipts of one number are of one entry
    numbers : Once (λ (r : Receipt). r.number) receipts
    numbers i j a b ata atb same =
        let one = are.each i a ata in
        let other = are.each j b atb in
        let place : one.0 ≡ other.0 = (reached-ordered p reached).ordered.0.numbers.1 one.0 other.0 one.1 other.1 one.2 other.2
        (ap (λ (r : Receipt). r.number) (sym one.3) ∙ same ∙ ap (λ (r : Receipt). r.number) other.3) in
        let entry_is : one.1 ≡ other.1 = same-at p.journal other.0 one.1 other.1
        (subst (λ (k : ℕ). slice_get p.journal k ≡ Some one.1) place one.2) other.2 in
        let is : a ≡ b = one.3 ∙ (ap receipt_of entry_is ∙ sym other.3) in
        are.once i j b (ata ∙ ap (λ (r : Receipt). Some r) is) atb
