-- What a settlement of two joined nodes says: it takes no receipt but one of the journal, and none twice.
use Rattle.std.proofs.Common.{ℕ, zero, suc, ◌≡◌, ◌-◌, ◌≤◌, inl, inr, Bool, true, false, not, ◌&&◌, ◌||◌, List, [], ◌∷◌, length, take, Option, Some, None}
use Rattle.std.proofs.Common.{slice_get, Result, Ok, Err, refl, sym, ◌∙◌, ap, subst, arith, max, ◌==◌}
use Rattle.std.specs.List.{list_any}
use Rattle.std.specs.Prelude.{is_none}
use Rattle.std.proofs.lemmas.Bool.{cases_Bool, both_ways, and_parts, or_parts, not-false, eqb-true, eq-eqb, and_from}
use Rattle.blocks.specs.Positions.{StreamPosition}
use Rattle.blocks.specs.declared.refusal.Refusal.{Refusal}
use Rattle.blocks.specs.declared.refusal.Refusal.TheVariants.{ReadFault, StrangeReceipt, NotDrained}
use Rattle.model.specs.Stream.{StreamItem, below, IsBeginning}
use Rattle.model.specs.Refusals.{first_refusal}
use Rattle.model.specs.Primary.{CompletionKind, Linked, Alone, Completion, PrimaryHistory, no_primary_connection, primary_connection, primary_connection_at}
use Rattle.model.specs.Primary.{items_sent, local_map, next_local, PrimaryConnection}
use Rattle.model.specs.Secondary.{SecondaryHistory, secondary_connection, secondary_connection_at, items_taken, secondary_map, is_drained}
use Rattle.model.specs.Pair.{same_block}
use Rattle.model.specs.Headline.{IsJoined, TakesABeginning, HoldsEarlierEpochs, KeepsPromises, Headline, is_marked}
use Rattle.model.specs.Settlement.{Receipt, receipt_of, same_kind, same_home, same_receipt, has_strange, is_at_rest, Settlement, settlement, settle_tests}
use Rattle.model.specs.Settlement.{settle}
use Rattle.model.specs.Theorems.{Settles, SettlesAnyhow}
use Rattle.laws.proofs.Lists.Beginnings.{length-begins}
use Rattle.laws.proofs.Lists.Last.{last-at}
use Rattle.laws.proofs.Lists.Once.{Once}
use Rattle.laws.proofs.Lists.Picks.{pick-any, none-passes}
use Rattle.laws.proofs.Lists.Tests.{test-passed}
use Rattle.laws.proofs.Joining.Ends.{primary-connection-there}
use Rattle.laws.proofs.Joining.Taking.{takes_a_beginning}

-- Receipts that are the same.

kinds-same : (a b : CompletionKind) → same_kind a b ≡ true → a ≡ b
kinds-same Linked Linked same = refl
kinds-same Alone Alone same = refl
kinds-same Linked Alone same = absurd (cc)
kinds-same Alone Linked same = absurd (cc)

homes-same : (a b : Option StreamPosition) → same_home a b ≡ true → a ≡ b
homes-same None None same = refl
homes-same None (Some b) same = absurd (cc)
homes-same (Some a) None same = absurd (cc)
homes-same (Some a) (Some b) same =
    let parts = and_parts (a.index == b.index) (a.place == b.place) same in
    ap (λ (n : ℕ). let pair : StreamPosition = record { index = n; place = a.place } in Some pair) (eqb-true a.index b.index parts.0)
    ∙ ap (λ (n : ℕ). let pair : StreamPosition = record { index = b.index; place = n } in Some pair) (eqb-true a.place b.place parts.1)

pub receipts-same : (a b : Receipt) → same_receipt a b ≡ true → a ≡ b
receipts-same a b same =
    let parts = and_parts ((a.number == b.number) && (a.first == b.first)) ((a.count == b.count) && (same_kind a.kind b.kind && same_home a.home b.home))
    same in
    let front = and_parts (a.number == b.number) (a.first == b.first) parts.0 in
    let back = and_parts (a.count == b.count) (same_kind a.kind b.kind && same_home a.home b.home) parts.1 in
    let last = and_parts (same_kind a.kind b.kind) (same_home a.home b.home) back.1 in
    ap (λ n. record a { number = n }) (eqb-true a.number b.number front.0)
    ∙ (ap (λ n. record a { number = b.number; first = n }) (eqb-true a.first b.first front.1)
    ∙ (ap (λ n. record a { number = b.number; first = b.first; count = n }) (eqb-true a.count b.count back.0)
    ∙ (ap (λ k. record a { number = b.number; first = b.first; count = b.count; kind = k }) (kinds-same a.kind b.kind last.0)
    ∙ ap (λ h. record b { home = h }) (homes-same a.home b.home last.1))))

kind-itself : (a : CompletionKind) → same_kind a a ≡ true
kind-itself Linked = refl
kind-itself Alone = refl

home-itself : (a : Option StreamPosition) → same_home a a ≡ true
home-itself None = refl
home-itself (Some a) = and_from (a.index == a.index) (a.place == a.place) (eq-eqb a.index a.index refl) (eq-eqb a.place a.place refl)

receipt-itself : (a : Receipt) → same_receipt a a ≡ true
receipt-itself a = and_from _ _ (and_from _ _ (eq-eqb a.number a.number refl) (eq-eqb a.first a.first refl))
    (and_from _ _ (eq-eqb a.count a.count refl) (and_from _ _ (kind-itself a.kind) (home-itself a.home)))

-- Where no receipt is strange, each is that of an entry, and none was given before.

pub known : (journal : List Completion) (earlier receipts : List Receipt) → has_strange journal earlier receipts ≡ false → (i : ℕ) (receipt : Receipt)
    → slice_get receipts i ≡ Some receipt
    → (list_any (λ entry. same_receipt (receipt_of entry) receipt) journal ≡ true) × (list_any (same_receipt receipt) earlier ≡ false)
known journal earlier [] none i receipt at = absurd (cc)
known journal earlier (first ∷ receipts) none zero receipt at =
    let parts = or_parts (not (list_any (λ entry. same_receipt (receipt_of entry) first) journal) || list_any (same_receipt first) earlier)
    (has_strange journal (first ∷ earlier) receipts) none in
    let here = or_parts (not (list_any (λ entry. same_receipt (receipt_of entry) first) journal)) (list_any (same_receipt first) earlier) parts.0 in
    let is : first ≡ receipt = cc in
    subst (λ (r : Receipt). (list_any (λ entry. same_receipt (receipt_of entry) r) journal ≡ true) × (list_any (same_receipt r) earlier ≡ false)) is
    (not-false (list_any (λ entry. same_receipt (receipt_of entry) first) journal) here.0, here.1)
known journal earlier (first ∷ receipts) none (suc i) receipt at =
    let parts = or_parts (not (list_any (λ entry. same_receipt (receipt_of entry) first) journal) || list_any (same_receipt first) earlier)
    (has_strange journal (first ∷ earlier) receipts) none in
    let later = known journal (first ∷ earlier) receipts parts.1 i receipt at in
    (later.0, (or_parts (same_receipt receipt first) (list_any (same_receipt receipt) earlier) later.1).1)

-- a receipt that follows is not the first one
not-first : (journal : List Completion) (earlier receipts : List Receipt) (first receipt : Receipt) → has_strange journal earlier (first ∷ receipts) ≡ false
    → (n : ℕ) → slice_get receipts n ≡ Some receipt → first ≡ receipt → ⊥
not-first journal earlier receipts first receipt none n at is =
    let rest = (or_parts (not (list_any (λ entry. same_receipt (receipt_of entry) first) journal) || list_any (same_receipt first) earlier)
    (has_strange journal (first ∷ earlier) receipts) none).1 in
    let new = (or_parts (same_receipt receipt first) (list_any (same_receipt receipt) earlier)
    (known journal (first ∷ earlier) receipts rest n receipt at).1).0 in
    both_ways (same_receipt receipt first) new (subst (λ (r : Receipt). same_receipt receipt r ≡ true) (sym is) (receipt-itself receipt))

pub given-once : (journal : List Completion) (earlier receipts : List Receipt) → has_strange journal earlier receipts ≡ false → (i j : ℕ) (receipt : Receipt)
    → slice_get receipts i ≡ Some receipt → slice_get receipts j ≡ Some receipt → i ≡ j
given-once journal earlier [] none i j receipt at too = absurd (cc)
given-once journal earlier (first ∷ receipts) none zero zero receipt at too = refl
given-once journal earlier (first ∷ receipts) none zero (suc j) receipt at too = let is : first ≡ receipt =
    cc in absurd (not-first journal earlier receipts first receipt none j too is)
given-once journal earlier (first ∷ receipts) none (suc i) zero receipt at too = let is : first ≡ receipt =
    cc in absurd (not-first journal earlier receipts first receipt none i at is)
given-once journal earlier (first ∷ receipts) none (suc i) (suc j) receipt at too =
    let rest = (or_parts (not (list_any (λ entry. same_receipt (receipt_of entry) first) journal) || list_any (same_receipt first) earlier)
    (has_strange journal (first ∷ earlier) receipts) none).1 in
    ap suc (given-once journal (first ∷ earlier) receipts rest i j receipt at too)

-- No more is taken than was sent.

at-most : (n : ℕ) (xs : List StreamItem) → length (take n xs) ≤ n
at-most zero xs = omega arith
at-most (suc n) [] = omega arith
at-most (suc n) (x ∷ xs) = let rest = at-most n xs in omega arith

-- the last connection by its number
last-primary-connection : (p : PrimaryHistory) → primary_connection_at p (length p.connections) ≡ primary_connection p
last-primary-connection p = elim (last-at (no_primary_connection p.tuple) p.connections) [
  | inl none ↦ go p.connections none
  | inr last ↦ ap (primary_connection_at p) (counted p.connections (length p.connections - 1) (primary_connection p) last refl)
      ∙ primary-connection-there p (length p.connections - 1) (primary_connection p) last
]
  where
    go : (cs : List PrimaryConnection) → cs ≡ []
        → primary_connection_at (record p { connections = cs }) (length cs) ≡ primary_connection (record p { connections = cs })
    go [] is = refl
    go (c ∷ cs) is = absurd (cc)

    counted : (cs : List PrimaryConnection) (k : ℕ) (c : PrimaryConnection) → slice_get cs k ≡ Some c → k ≡ length cs - 1 → length cs ≡ suc k
    counted [] k c at is = absurd (cc)
    counted (x ∷ cs) k c at is = omega arith

no-more-taken : (p : PrimaryHistory) (s : SecondaryHistory) → IsJoined p s
    → length (items_taken (secondary_connection_at s (length p.connections))) ≤ items_sent (primary_connection p)
no-more-taken p s joined =
    let taken = subst (λ (c : PrimaryConnection). IsBeginning (items_taken (secondary_connection_at s (length p.connections))) (take (items_sent c) c.stream))
    (last-primary-connection p)
    (takes_a_beginning p s joined (length p.connections)) in
    let fewer = length-begins (items_taken (secondary_connection_at s (length p.connections)))
    (take (items_sent (primary_connection p)) (primary_connection p).stream) taken in
    let most = at-most (items_sent (primary_connection p)) (primary_connection p).stream in
    omega arith

-- the block differs and is marked
no-difference : (p : PrimaryHistory) (s : SecondaryHistory)
    → ((block : ℕ) → same_block (local_map p block) (secondary_map s block) ≡ false → is_marked p block ≡ true)
    → (block : ℕ) → not (same_block (local_map p block) (secondary_map s block)) && not (is_marked p block) ≡ false
no-difference p s marks block = elim (cases_Bool (same_block (local_map p block) (secondary_map s block))) [
  | inl same ↦ ap (λ b. not b && not (is_marked p block)) same
  | inr differs ↦ ap (λ b. not b && not (is_marked p block)) differs ∙ ap not (marks block differs)
]

-- Where a settlement is not refused, its tests passed, and its numbers are those of both histories.
record IsSettled (p : PrimaryHistory) (s : SecondaryHistory) (receipts : List Receipt) (numbers : Settlement) : Type 0 where
  closed : (primary_connection p).closed ≡ true
  strange : has_strange p.journal [] receipts ≡ false
  exact : numbers ≡ settlement p s receipts

settled : (p : PrimaryHistory) (s : SecondaryHistory) (receipts : List Receipt) (faulty : Bool) (numbers : Settlement) → settle p s receipts faulty ≡ Ok numbers
    → IsSettled p s receipts numbers
settled p s receipts faulty numbers is = go (first_refusal (settle_tests p s receipts faulty)) refl is
  where
    passed : first_refusal (settle_tests p s receipts faulty) ≡ None → numbers ≡ settlement p s receipts → IsSettled p s receipts numbers
    passed none exact =
        let rest = test-passed (not (is_at_rest p s)) NotDrained ((has_strange p.journal [] receipts, StrangeReceipt) ∷ (faulty, ReadFault) ∷ []) none in
        let strange = test-passed (has_strange p.journal [] receipts) StrangeReceipt ((faulty, ReadFault) ∷ []) rest.1 in
        let at_rest = and_parts ((primary_connection p).closed && (secondary_connection s).closed) (is_drained s && is_none (next_local p))
        (not-false (is_at_rest p s) rest.0) in
        record { closed = (and_parts (primary_connection p).closed (secondary_connection s).closed at_rest.0).0; strange = strange.0; exact = exact }

    go : (v : Option Refusal) → first_refusal (settle_tests p s receipts faulty) ≡ v
        → elim v as (λ _. Result Settlement Refusal) [ Some refusal ↦ Err refusal | None ↦ Ok (settlement p s receipts) ] ≡ Ok numbers
        → IsSettled p s receipts numbers
    go (Some refusal) none e = absurd (cc)
    go None none e = let same : settlement p s receipts ≡ numbers = cc in passed none (sym same)

-- What a settlement that is not refused says of two nodes that are joined, whatever their identifiers say.
pub settles-anyhow : (p : PrimaryHistory) (s : SecondaryHistory) → IsJoined p s → TakesABeginning p s → HoldsEarlierEpochs s → KeepsPromises p s
    → Once (λ (entry : Completion). entry.write.number) p.journal
    → (receipts : List Receipt) (faulty : Bool) (numbers : Settlement) → settle p s receipts faulty ≡ Ok numbers → SettlesAnyhow p s receipts numbers
settles-anyhow p s joined beginning epochs promises once receipts faulty numbers is =
    let done = settled p s receipts faulty numbers is in
    record {
      beginning = beginning;
      epochs = epochs;
      promises = promises;
      exact = done.exact;
      taken = subst (λ (n : Settlement). n.taken ≤ n.sent) (sym done.exact) (no-more-taken p s joined);
      confirmed = λ i receipt at.
          let given = known p.journal [] receipts done.strange i receipt at in
          let entry = pick-any (λ entry. same_receipt (receipt_of entry) receipt) p.journal given.0 in
          (entry.0, entry.1, entry.2, sym (receipts-same (receipt_of entry.1) receipt entry.3));
      once = given-once p.journal [] receipts done.strange;
      distinct = once;
    }

-- The same where their marks have the differences at rest.
pub settles : (p : PrimaryHistory) (s : SecondaryHistory) → IsJoined p s → Headline p s → Once (λ (entry : Completion). entry.write.number) p.journal
    → (receipts : List Receipt) (faulty : Bool) (numbers : Settlement) → settle p s receipts faulty ≡ Ok numbers → Settles p s receipts numbers
settles p s joined headline once receipts faulty numbers is =
    let done = settled p s receipts faulty numbers is in
    let anyhow = settles-anyhow p s joined headline.beginning headline.epochs headline.promises once receipts faulty numbers is in
    record {
      headline = headline;
      exact = anyhow.exact;
      taken = anyhow.taken;
      unmarked = λ grounded. ap (λ (n : Settlement). n.unmarked) done.exact
          ∙ none-passes (λ block. not (same_block (local_map p block) (secondary_map s block)) && not (is_marked p block))
          (below (max p.settings.blocks s.settings.blocks))
          (no-difference p s (headline.marks grounded (ap (λ b. not b && (primary_connection p).begun) done.closed)));
      confirmed = anyhow.confirmed;
      once = anyhow.once;
      distinct = anyhow.distinct;
    }
