-- Receipts are held against the journal by their numbers.
use Rattle.std.proofs.Common.{ℕ, zero, suc, ◌≡◌, ◌+◌, ◌-◌, ◌<◌, ◌≤◌, inl, inr, Bool, true, false, not, ◌&&◌, ◌||◌, List, [], ◌∷◌, length, get_or, drop}
use Rattle.std.proofs.Common.{replicate}
use Rattle.std.proofs.Common.{Option, Some, None, slice_get, slice_set, refl, sym, ◌∙◌, ap, subst, arith, ◌==◌}
use Rattle.std.specs.Prelude.{find, is_some, option_map, unwrap_or}
use Rattle.std.specs.List.{list_any, AllByRecursion}
use Rattle.std.proofs.lemmas.Bool.{both_ways, and_parts, eqb-true, eq-eqb, false_from_ne_true, cases_lt}
use Rattle.std.proofs.lemmas.List.{drop_more, length-set}
use Rattle.std.proofs.Math.ListN.{drop_of_length-le}
use Rattle.std.proofs.lemmas.Option.{slice_get_within, slice_get_past}
use Rattle.blocks.specs.Positions.{StreamPosition}
use Rattle.model.specs.Contents.{Write}
use Rattle.model.specs.Primary.{CompletionKind, Linked, Alone, Accepted, Completion, PrimaryHistory, is_failed, is_completed}
use Rattle.model.specs.Settlement.{Receipt, receipt_of, same_kind, same_home, same_receipt, has_strange}
use Rattle.laws.proofs.Lists.Elements.{same-at}
use Rattle.laws.proofs.Lists.Once.{Once}
use Rattle.laws.proofs.Lists.Picks.{pick-any, any-pick, pick-found}
use Rattle.laws.proofs.Primary.Journal.{journal-run, JournalIsAccepted}
use Rattle.primary_protocol.specs.Core.{Fate, Open, Failed, Completed, JournalEntry, PrimaryState}
use Rattle.primary_protocol.specs.Leaves.{Leaves, entry_of, fate_in, is_linked}
use Rattle.primary_protocol.specs.Steps.{IsReached}
use Rattle.primary_protocol.specs.Transitions.{entry_at}
use Rattle.primary_protocol.proofs.Common.Reached.{reached-ordered}
use Rattle.primary_protocol.proofs.Common.Numbers.{any-some, get-map}
use Rattle.primary_protocol.proofs.Receipts.Journal.{IsNumbered, failed-open, entry-is, write-is}
use Rattle.primary_core.specs.Entries.{is_unconfirmed}
use Rattle.primary.specs.Receipts.{is_entry_of, is_found, kind_of}
use Rattle.primary.proofs.ReceiptTaken.{kind-back}

-- two truth values that follow from each other are the same
same-truth : (a b : Bool) → (a ≡ true → b ≡ true) → (b ≡ true → a ≡ true) → a ≡ b
same-truth true b there back = sym (there refl)
same-truth false true there back = back refl
same-truth false false there back = refl

-- The journal has a receipt where the entry of its number is a completed one and says the same.

abbrev in_journal : PrimaryHistory → Receipt → Bool
in_journal h receipt = list_any (λ (entry : Completion). same_receipt (receipt_of entry) receipt) h.journal

-- what receipts that are the same agree in
number-of : (a b : Receipt) → same_receipt a b ≡ true → a.number ≡ b.number
number-of a b same =
    let parts = and_parts ((a.number == b.number) && (a.first == b.first)) ((a.count == b.count) && (same_kind a.kind b.kind && same_home a.home b.home))
    same in
    eqb-true a.number b.number (and_parts (a.number == b.number) (a.first == b.first) parts.0).0

-- an entry that has the number, by its parts
shuffled : (n f c x : Bool) → n ≡ true → ((n && f) && (c && x)) ≡ ((f && c) && x)
shuffled true true true x is = refl
shuffled true true false x is = refl
shuffled true false c x is = refl
shuffled false f c x is = absurd (cc)

module _ (s : PrimaryState) (h : PrimaryHistory) (reached : IsReached h) (left : Leaves s h) where
  known : IsNumbered h
  known =
      let k = (reached-ordered h reached).ordered.0 in
      record {
        numbered = k.tracked.homes.numbered;
        on_disk = k.tracked.on_disk;
        journal = subst JournalIsAccepted reached.is (journal-run reached.settings reached.disk reached.tuple reached.marks reached.events);
      }

  once : Once (λ (entry : Completion). entry.write.number) h.journal
  once = (reached-ordered h reached).ordered.0.numbers.1

  -- a receipt of the journal is of an accepted write
  record Home (receipt : Receipt) : Type 0 where
    place : ℕ
    entry : Completion
    at : slice_get h.journal place ≡ Some entry
    same : same_receipt (receipt_of entry) receipt ≡ true
    index : ℕ
    accepted : Accepted
    there : slice_get h.writes index ≡ Some accepted
    number : receipt.number ≡ suc index

  home-of : (receipt : Receipt) → in_journal h receipt ≡ true → Home receipt
  home-of receipt listed =
      let found = pick-any (λ (entry : Completion). same_receipt (receipt_of entry) receipt) h.journal listed in
      let of = known.journal found.0 found.1 found.2 in
      let numbered = known.numbered of.0 of.1 of.2 in
      let number = number-of (receipt_of found.1) receipt found.3 in
      record {
        place = found.0;
        entry = found.1;
        at = found.2;
        same = found.3;
        index = of.0;
        accepted = of.1;
        there = of.2;
        number = sym number ∙ (ap (λ (w : Write). w.number) of.3 ∙ numbered);
      }

  -- where no write has the number
  none-there : (receipt : Receipt) → ((index : ℕ) (accepted : Accepted) → slice_get h.writes index ≡ Some accepted → receipt.number ≡ suc index → ⊥)
      → entry_at receipt.number s ≡ None → in_journal h receipt ≡ is_found receipt s
  none-there receipt none nothing =
      false_from_ne_true (in_journal h receipt) (λ listed. let home = home-of receipt listed in none home.index home.accepted home.there home.number)
      ∙ sym (ap (λ (v : Option JournalEntry). elim v as (λ _. Bool) [ None ↦ false | Some entry ↦ is_entry_of entry receipt ]) nothing)

  -- where one has
  module _ (receipt : Receipt) (n : ℕ) (a : Accepted) (number : receipt.number ≡ suc n) (at : slice_get h.writes n ≡ Some a) where
    own : a.write.number ≡ receipt.number
    own = known.numbered n a at ∙ sym number

    test : Completion → Bool
    test entry = entry.write.number == a.write.number

    -- the journal has it then
    completed : in_journal h receipt ≡ true → list_any (λ (entry : Completion). entry.write.number == a.write.number) h.journal ≡ true
    completed listed =
        let home = home-of receipt listed in
        any-pick (λ (entry : Completion). entry.write.number == a.write.number) h.journal home.place home.entry home.at
        (eq-eqb home.entry.write.number a.write.number (number-of (receipt_of home.entry) receipt home.same ∙ sym own))

    by-fate : (failed : Bool) → is_failed a.outcome ≡ failed → (found : Option Completion)
        → find (λ (entry : Completion). entry.write.number == a.write.number) h.journal ≡ found
        → in_journal h receipt ≡ is_entry_of
        (record {
          first = a.write.first;
          count = length a.write.contents;
          fate = elim failed as (λ _. Fate) [ true ↦ Failed | false ↦ fate_in found ];
          taken = (entry_of h a).taken;
        }) receipt
    by-fate true fails found is = false_from_ne_true (in_journal h receipt)
        (λ listed. both_ways (is_completed h a.write.number) (failed-open h known n a at fails) (completed listed))
    by-fate false works None is = false_from_ne_true (in_journal h receipt) (λ listed.
        let some : true ≡ false = sym (completed listed)
        ∙ (any-some (λ (entry : Completion). entry.write.number == a.write.number) h.journal ∙ ap is_some is) in absurd (cc))
    by-fate false works (Some c) is =
        let place = pick-found (λ (entry : Completion). entry.write.number == a.write.number) h.journal c is in
        let write : c.write ≡ a.write = write-is h known n a at s left.rest.entries c is in
        let numbers : (c.write.number == receipt.number) ≡ true = eq-eqb c.write.number receipt.number (ap (λ (w : Write). w.number) write ∙ own) in
        let journal : in_journal h receipt ≡ same_receipt (receipt_of c) receipt = same-truth (in_journal h receipt) (same_receipt (receipt_of c) receipt)
        (λ listed.
        let home = home-of receipt listed in
        let one : home.place ≡ place.0 = once home.place place.0 home.entry c home.at place.1 (number-of (receipt_of home.entry) receipt home.same
        ∙ sym (ap (λ (w : Write). w.number) write ∙ own)) in
        let it : home.entry ≡ c = same-at h.journal place.0 home.entry c (subst (λ (k : ℕ). slice_get h.journal k ≡ Some home.entry) one home.at) place.1 in
        subst (λ (x : Completion). same_receipt (receipt_of x) receipt ≡ true) it home.same)
        (λ same. any-pick (λ (entry : Completion). same_receipt (receipt_of entry) receipt) h.journal place.0 c place.1 same) in
        journal
        ∙ (shuffled (c.write.number == receipt.number) (c.write.first == receipt.first) (length c.write.contents == receipt.count)
        (same_kind c.kind receipt.kind && same_home c.home receipt.home) numbers
        ∙ λ i. (((write i).first == receipt.first) && (length (write i).contents == receipt.count))
        && (same_kind (sym (kind-back c.kind) i) receipt.kind && same_home c.home receipt.home))

    is-there : in_journal h receipt ≡ is_found receipt s
    is-there =
        by-fate (is_failed a.outcome) refl (find (λ (entry : Completion). entry.write.number == a.write.number) h.journal) refl
        ∙ sym (ap (λ (v : Option JournalEntry). elim v as (λ _. Bool) [ None ↦ false | Some entry ↦ is_entry_of entry receipt ])
        (ap (λ (m : ℕ). entry_at m s) number
        ∙ entry-is h known n a at s left.rest.entries))

  pub journal-has : (receipt : Receipt) → in_journal h receipt ≡ is_found receipt s
  journal-has receipt = by-number receipt.number refl
    where
      by-number : (m : ℕ) → receipt.number ≡ m → in_journal h receipt ≡ is_found receipt s
      by-number zero is = none-there receipt (λ index accepted at number. absurd (omega (arith, is, number))) (ap (λ (m : ℕ). entry_at m s) is)
      by-number (suc n) is = by-place (slice_get h.writes n) refl
        where
          by-place : (v : Option Accepted) → slice_get h.writes n ≡ v → in_journal h receipt ≡ is_found receipt s
          by-place (Some a) at = is-there receipt n a is at
          by-place None none = none-there receipt (λ index accepted at number.
              let same : index ≡ n = omega (arith, is, number) in
              let wrong : Some accepted ≡ None = sym at ∙ (ap (slice_get h.writes) same ∙ none) in absurd (cc))
              (ap (λ (m : ℕ). entry_at m s) is
              ∙ (ap (λ (l : List JournalEntry). slice_get l n) left.rest.entries.entries
              ∙ (get-map (entry_of h) h.writes n ∙ ap (option_map (entry_of h)) none)))

-- Two receipts of one entry are the same.

kinds : (k a b : CompletionKind) → same_kind k a ≡ true → same_kind k b ≡ true → same_kind a b ≡ true
kinds Linked Linked Linked one two = refl
kinds Alone Alone Alone one two = refl
kinds Linked Linked Alone one two = absurd (cc)
kinds Linked Alone b one two = absurd (cc)
kinds Alone Alone Linked one two = absurd (cc)
kinds Alone Linked b one two = absurd (cc)

homes : (k a b : Option StreamPosition) → same_home k a ≡ true → same_home k b ≡ true → same_home a b ≡ true
homes None None None one two = refl
homes (Some k) (Some a) (Some b) one two =
    let first = and_parts (k.index == a.index) (k.place == a.place) one in
    let second = and_parts (k.index == b.index) (k.place == b.place) two in
    let x = eq-eqb a.index b.index (sym (eqb-true k.index a.index first.0) ∙ eqb-true k.index b.index second.0) in
    let y = eq-eqb a.place b.place (sym (eqb-true k.place a.place first.1) ∙ eqb-true k.place b.place second.1) in
    λ i. x i && y i
homes None None (Some b) one two = absurd (cc)
homes None (Some a) b one two = absurd (cc)
homes (Some k) None b one two = absurd (cc)
homes (Some k) (Some a) None one two = absurd (cc)

equal-too : (k a b : ℕ) → (k == a) ≡ true → (k == b) ≡ true → (a == b) ≡ true
equal-too k a b one two = eq-eqb a b (sym (eqb-true k a one) ∙ eqb-true k b two)

same-of : (entry : JournalEntry) (a b : Receipt) → is_entry_of entry a ≡ true → is_entry_of entry b ≡ true → a.number ≡ b.number → same_receipt a b ≡ true
same-of entry a b one two number = go entry.fate one two
  where
    by : Fate → Receipt → Bool
    by fate r = is_entry_of (record entry { fate = fate }) r

    go : (fate : Fate) → is_entry_of (record entry { fate = fate }) a ≡ true → is_entry_of (record entry { fate = fate }) b ≡ true → same_receipt a b ≡ true
    go Open one two = absurd (cc)
    go Failed one two = absurd (cc)
    go (Completed linked home) one two =
        let p = and_parts ((entry.first == a.first) && (entry.count == a.count)) (same_kind (kind_of linked) a.kind && same_home home a.home) one in
        let q = and_parts ((entry.first == b.first) && (entry.count == b.count)) (same_kind (kind_of linked) b.kind && same_home home b.home) two in
        let pf = and_parts (entry.first == a.first) (entry.count == a.count) p.0 in
        let qf = and_parts (entry.first == b.first) (entry.count == b.count) q.0 in
        let pk = and_parts (same_kind (kind_of linked) a.kind) (same_home home a.home) p.1 in
        let qk = and_parts (same_kind (kind_of linked) b.kind) (same_home home b.home) q.1 in
        λ i. (eq-eqb a.number b.number number i && equal-too entry.first a.first b.first pf.0 qf.0 i)
        && (equal-too entry.count a.count b.count pf.1 qf.1 i && (kinds (kind_of linked) a.kind b.kind pk.0 qk.0 i && homes home a.home b.home pk.1 qk.1 i))

same-found : (s : PrimaryState) (a b : Receipt) → is_found a s ≡ true → is_found b s ≡ true → a.number ≡ b.number → same_receipt a b ≡ true
same-found s a b one two number = go (entry_at a.number s) refl
  where
    by : Option JournalEntry → Receipt → Bool
    by v r = elim v as (λ _. Bool) [ None ↦ false | Some entry ↦ is_entry_of entry r ]

    go : (v : Option JournalEntry) → entry_at a.number s ≡ v → same_receipt a b ≡ true
    go None is = let wrong : false ≡ true = sym (ap (λ (w : Option JournalEntry). by w a) is) ∙ one in absurd (cc)
    go (Some entry) is = same-of entry a b (sym (ap (λ (w : Option JournalEntry). by w a) is)
        ∙ one) (sym (ap (λ (m : ℕ). by (entry_at m s) b) (sym number) ∙ ap (λ (w : Option JournalEntry). by w b) is) ∙ two) number

-- The flags.

-- which entries are confirmed once one more is
unconfirmed-set : (n k : ℕ) (flags : List Bool) → k < length flags → is_unconfirmed n (slice_set flags k true) ≡ (is_unconfirmed n flags && not (suc k == n))
unconfirmed-set zero k flags within = refl
unconfirmed-set (suc n) k flags within = go n k flags within ∙ λ i. is_unconfirmed (suc n) flags && not (sym (same k n) i)
  where
    same : (a b : ℕ) → (suc a == suc b) ≡ (a == b)
    same a b = same-truth (suc a == suc b) (a == b) (λ is. eq-eqb a b (let e = eqb-true (suc a) (suc b) is in omega arith))
        (λ is. eq-eqb (suc a) (suc b) (ap suc (eqb-true a b is)))

    plain : (b : Bool) → b ≡ (b && true)
    plain true = refl
    plain false = refl

    none : (b : Bool) → false ≡ (b && false)
    none true = refl
    none false = refl

    go : (n k : ℕ) (flags : List Bool) → k < length flags
        → not (unwrap_or (slice_get (slice_set flags k true) n) true) ≡ (not (unwrap_or (slice_get flags n) true) && not (k == n))
    go n k [] within = absurd (omega arith)
    go zero zero (x ∷ flags) within = none (not x)
    go (suc n) zero (x ∷ flags) within = plain (not (unwrap_or (slice_get flags n) true))
        ∙ λ i. not (unwrap_or (slice_get flags n) true) && not (sym (false_from_ne_true (0 == suc n) (λ is. let e = eqb-true 0 (suc n) is in omega arith)) i)
    go zero (suc k) (x ∷ flags) within = plain (not x)
        ∙ λ i. not x && not (sym (false_from_ne_true (suc k == 0) (λ is. let e = eqb-true (suc k) 0 is in omega arith)) i)
    go (suc n) (suc k) (x ∷ flags) within = go n k flags (omega arith) ∙ λ i. not (unwrap_or (slice_get flags n) true) && not (sym (same k n) i)

-- none is confirmed at first
unconfirmed-first : (n count : ℕ) → n < count → is_unconfirmed (suc n) (replicate count false) ≡ true
unconfirmed-first n zero less = absurd (omega arith)
unconfirmed-first zero (suc count) less = refl
unconfirmed-first (suc n) (suc count) less = unconfirmed-first n count (omega arith)

-- Receipts are gone through. What was given before is confirmed, and all the rest is not.
pub record IsConfirming (s : PrimaryState) (receipts : List Receipt) (i : ℕ) (flags : List Bool) : Type 0 where
  pub earlier : List Receipt
  pub strange : (h : PrimaryHistory) → ((r : Receipt) → list_any (λ (entry : Completion). same_receipt (receipt_of entry) r) h.journal ≡ is_found r s)
      → has_strange h.journal [] receipts ≡ has_strange h.journal earlier (drop i receipts)
  pub size : length flags ≡ length s.entries
  pub flagged : (n : ℕ) → is_unconfirmed n flags ≡
      (is_unconfirmed n (replicate (length s.entries) false) && not (list_any (λ (e : Receipt). e.number == n) earlier))
  pub each : AllByRecursion (λ (e : Receipt). is_found e s ≡ true) earlier

-- none was gone through
pub confirming-first : (s : PrimaryState) (receipts : List Receipt) (flags : List Bool) → flags ≡ replicate (length s.entries) false
    → length flags ≡ length s.entries → IsConfirming s receipts 0 flags
confirming-first s receipts flags is size = record {
  earlier = [];
  strange = λ h same. refl;
  size = size;
  flagged = λ n. ap (is_unconfirmed n) is ∙ plain (is_unconfirmed n (replicate (length s.entries) false));
  each = tt;
}
  where
    plain : (b : Bool) → b ≡ (b && true)
    plain true = refl
    plain false = refl

-- a receipt that is found has an entry
entry-there : (s : PrimaryState) (r : Receipt) → is_found r s ≡ true → is_unconfirmed r.number (replicate (length s.entries) false) ≡ true
entry-there s r found = go r.number refl
  where
    by : Option JournalEntry → Bool
    by v = elim v as (λ _. Bool) [ None ↦ false | Some entry ↦ is_entry_of entry r ]

    go : (m : ℕ) → r.number ≡ m → is_unconfirmed m (replicate (length s.entries) false) ≡ true
    go zero is = let wrong : false ≡ true = sym (ap (λ (m : ℕ). by (entry_at m s)) is) ∙ found in absurd (cc)
    go (suc n) is = by-place (slice_get s.entries n) refl
      where
        by-place : (v : Option JournalEntry) → slice_get s.entries n ≡ v → is_unconfirmed (suc n) (replicate (length s.entries) false) ≡ true
        by-place None none = let wrong : false ≡ true = sym (ap (λ (m : ℕ). by (entry_at m s)) is ∙ ap by none) ∙ found in absurd (cc)
        by-place (Some entry) at = unconfirmed-first n (length s.entries) (slice_get_within s.entries n entry at)

-- one that was given before has the number of one that was
given-numbers : (s : PrimaryState) (r : Receipt) (earlier : List Receipt) → is_found r s ≡ true → AllByRecursion (λ (e : Receipt). is_found e s ≡ true) earlier
    → list_any (same_receipt r) earlier ≡ list_any (λ (e : Receipt). e.number == r.number) earlier
given-numbers s r [] found all = refl
given-numbers s r (e ∷ earlier) found all = λ i. same-truth (same_receipt r e) (e.number == r.number)
    (λ same. eq-eqb e.number r.number (sym (number-of r e same))) (λ same. same-found s r e found all.0 (sym (eqb-true e.number r.number same))) i
    || given-numbers s r earlier found all.1 i

module _ (s : PrimaryState) (receipts : List Receipt) (i : ℕ) (flags : List Bool) (was : IsConfirming s receipts i flags) (r : Receipt)
    (within : i < length receipts) (item : r ≡ get_or receipts i r) where
  -- whether it is strange, by what the calls said of it
  strange-by : (h : PrimaryHistory) → ((r : Receipt) → list_any (λ (entry : Completion). same_receipt (receipt_of entry) r) h.journal ≡ is_found r s)
      → has_strange h.journal [] receipts ≡ ((not (is_found r s) || list_any (same_receipt r) was.earlier) || has_strange h.journal (r ∷ was.earlier)
      (drop (i + 1) receipts))
  strange-by h same = was.strange h same
      ∙ (ap (has_strange h.journal was.earlier) (drop_more receipts i r within ∙ ap (λ x. x ∷ drop (i + 1) receipts) (sym item))
      ∙ λ k. (not (same r k) || list_any (same_receipt r) was.earlier) || has_strange h.journal (r ∷ was.earlier) (drop (i + 1) receipts))

  given-flag : is_found r s ≡ true → is_unconfirmed r.number flags ≡ not (list_any (same_receipt r) was.earlier)
  given-flag found = was.flagged r.number ∙ λ k. entry-there s r found k && not (sym (given-numbers s r was.earlier found was.each) k)

  -- it is not found
  pub strange-missing : (h : PrimaryHistory) → IsReached h → Leaves s h → is_found r s ≡ false → false ≡ not (has_strange h.journal [] receipts)
  strange-missing h reached left missing = sym (ap not (strange-by h (journal-has s h reached left)
      ∙ ap (λ b. (not b || list_any (same_receipt r) was.earlier) || has_strange h.journal (r ∷ was.earlier) (drop (i + 1) receipts)) missing))

  -- it was given before
  pub strange-given : (h : PrimaryHistory) → IsReached h → Leaves s h → is_found r s ≡ true → is_unconfirmed r.number flags ≡ false
      → false ≡ not (has_strange h.journal [] receipts)
  strange-given h reached left found given = sym (ap not (strange-by h (journal-has s h reached left)
      ∙ (ap (λ b. (not b || list_any (same_receipt r) was.earlier) || has_strange h.journal (r ∷ was.earlier) (drop (i + 1) receipts)) found
      ∙ ap (λ b. b || has_strange h.journal (r ∷ was.earlier) (drop (i + 1) receipts)) (turned (list_any (same_receipt r) was.earlier) (sym (given-flag found)
      ∙ given)))))
    where
      turned : (b : Bool) → not b ≡ false → b ≡ true
      turned true is = refl
      turned false is = absurd (cc)

  -- it is confirmed now
  pub confirming-next : is_found r s ≡ true → is_unconfirmed r.number flags ≡ true → IsConfirming s receipts (i + 1) (slice_set flags (r.number - 1) true)
  confirming-next found fresh = record {
    earlier = r ∷ was.earlier;
    strange = λ h same. strange-by h same
        ∙ (ap (λ b. (not b || list_any (same_receipt r) was.earlier) || has_strange h.journal (r ∷ was.earlier) (drop (i + 1) receipts)) found
        ∙ ap (λ b. b || has_strange h.journal (r ∷ was.earlier) (drop (i + 1) receipts)) (turned (list_any (same_receipt r) was.earlier) (sym (given-flag found)
        ∙ fresh)));
    size = length-set flags (r.number - 1) true ∙ was.size;
    flagged = λ n. set n r.number refl fresh;
    each = (found, was.each);
  }
    where
      turned : (b : Bool) → not b ≡ true → b ≡ false
      turned true is = absurd (cc)
      turned false is = refl

      move : (base any hit : Bool) → ((base && not any) && not hit) ≡ (base && not (hit || any))
      move true true true = refl
      move true true false = refl
      move true false true = refl
      move true false false = refl
      move false any hit = refl

      short : (m : ℕ) → is_unconfirmed (suc m) flags ≡ true → m < length flags
      short m some = elim (cases_lt m (length flags)) [
        | inl less ↦ less
        | inr past ↦ let wrong : false ≡ true = sym (ap (λ (v : Option Bool). not (unwrap_or v true)) (slice_get_past flags m past)) ∙ some in absurd (cc)
      ]

      set : (n m : ℕ) → r.number ≡ m → is_unconfirmed m flags ≡ true
          → is_unconfirmed n (slice_set flags (r.number - 1) true) ≡
          (is_unconfirmed n (replicate (length s.entries) false) && not ((r.number == n) || list_any (λ (e : Receipt). e.number == n) was.earlier))
      set n zero is some = absurd (cc)
      set n (suc m) is some =
          let index : r.number - 1 ≡ m = omega (arith, is) in
          ap (λ (k : ℕ). is_unconfirmed n (slice_set flags k true)) index
          ∙ (unconfirmed-set n m flags (short m some)
          ∙ (ap (λ b. b && not (suc m == n)) (was.flagged n)
          ∙ (move (is_unconfirmed n (replicate (length s.entries) false)) (list_any (λ (e : Receipt). e.number == n) was.earlier) (suc m == n)
          ∙ ap (λ (k : ℕ). is_unconfirmed n (replicate (length s.entries) false) && not ((k == n) || list_any (λ (e : Receipt). e.number == n) was.earlier))
          (sym is))))

-- all were gone through, and none was strange
pub confirming-all : (s : PrimaryState) (receipts : List Receipt) (i : ℕ) (flags : List Bool) → IsConfirming s receipts i flags → length receipts ≤ i
    → (h : PrimaryHistory) → IsReached h → Leaves s h → true ≡ not (has_strange h.journal [] receipts)
confirming-all s receipts i flags was all h reached left =
    sym (ap not (was.strange h (journal-has s h reached left) ∙ ap (has_strange h.journal was.earlier) (drop_of_length-le receipts all)))
