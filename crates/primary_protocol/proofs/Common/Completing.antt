-- What a step completes goes into the journal, and into the entries.
use Rattle.std.proofs.Common.{ℕ, zero, suc, ◌≡◌, ◌+◌, ◌<◌, ◌⊎◌, inl, inr, Bool, true, false, cond, not, ◌&&◌, ◌||◌, List, [], ◌∷◌, map, Option, Some, None}
use Rattle.std.proofs.Common.{slice_get, refl, sym, ◌∙◌, ap, subst, arith, ◌==◌}
use Rattle.std.specs.Prelude.{find, is_some, if◌then◌else◌}
use Rattle.std.specs.List.{list_any}
use Rattle.std.proofs.lemmas.Bool.{both_ways, and_parts, or_parts, eqb-true, eq-eqb, false_from_ne_true}
use Rattle.std.proofs.lemmas.List.Folds.{list_any-append}
use Rattle.blocks.specs.Positions.{StreamPosition}
use Rattle.model.specs.Primary.{Accepted, Completion, PrimaryHistory, is_answered, completes, is_failed, is_completed, is_open, Linked, Alone}
use Rattle.model.specs.PrimarySteps.{newly_completed, completion_of, with_completions}
use Rattle.transferlog.specs.Writes.{completed_of}
use Rattle.transferlog.specs.declared.report.Completed as report
use Rattle.laws.proofs.Lists.Elements.{same-at}
use Rattle.laws.proofs.Lists.Picks.{pick-any, any-pick, pick-filtered, filtered-pick, pick-image, pick-found}
use Rattle.primary_protocol.specs.Core.{Fate, Failed, Completed, JournalEntry, with_entry, entering}
use Rattle.primary_protocol.specs.Leaves.{is_linked, fate_in, fate_of, entry_of, logged_of, IsQuiet}
use Rattle.primary_protocol.proofs.Common.Filters.{map-at, any-map, find-append, find-map}
use Rattle.primary_protocol.proofs.Common.Numbers.{AreNumberedFrom, with-entry-map, any-some}
use Rattle.primary_protocol.proofs.Common.WriteStates.{completes-not-failed}

-- Entries.

-- an entry after these were completed
abbrev pub entered : List report.Completed → ℕ → JournalEntry → JournalEntry
entered [] number e = e
entered (c ∷ cs) number e = entered cs number (if c.number == number then record e { fate = Completed c.linked c.home } else e)

pub entering-map : (cs : List report.Completed) (f : Accepted → JournalEntry) (xs : List Accepted) → AreNumberedFrom 1 xs
    → ((i : ℕ) (c : report.Completed) → slice_get cs i ≡ Some c → 0 < c.number)
    → entering cs (map f xs) ≡ map (λ a. entered cs a.write.number (f a)) xs
entering-map [] f xs numbered some = refl
entering-map (c ∷ cs) f xs numbered some = ap (entering cs) (first c.number refl) ∙ entering-map cs f' xs numbered (λ i d at. some (suc i) d at)
  where
    upd : JournalEntry → JournalEntry
    upd e = record e { fate = Completed c.linked c.home }

    f' : Accepted → JournalEntry
    f' a = if c.number == a.write.number then record (f a) { fate = Completed c.linked c.home } else f a

    first : (m : ℕ) → c.number ≡ m → with_entry c.number (λ entry. record entry { fate = Completed c.linked c.home }) (map f xs) ≡ map
        (λ a. if c.number == a.write.number then record (f a) { fate = Completed c.linked c.home } else f a) xs
    first zero is = absurd (let low = some 0 c refl in omega arith)
    first (suc k) is =
        ap (λ m. with_entry m (λ entry. record entry { fate = Completed c.linked c.home }) (map f xs)) is
        ∙ with-entry-map f (λ a. if c.number == a.write.number then record (f a) { fate = Completed c.linked c.home }
        else f a) (λ entry. record entry { fate = Completed c.linked c.home }) 1 k xs numbered
        (λ a same. sym (ap (λ b. if b then record (f a) { fate = Completed c.linked c.home } else f a) (eq-eqb c.number a.write.number (omega arith))))
        (λ a other. sym (ap (λ b. if b then record (f a) { fate = Completed c.linked c.home }
        else f a) (false_from_ne_true (c.number == a.write.number)
        (λ e. both_ways (a.write.number == (1 + k)) other (let n = eqb-true c.number a.write.number e in eq-eqb a.write.number (1 + k) (omega arith))))))

pub entered-none : (cs : List report.Completed) (number : ℕ) (e : JournalEntry) → list_any (λ (c : report.Completed). c.number == number) cs ≡ false
    → entered cs number e ≡ e
entered-none [] number e none = refl
entered-none (c ∷ cs) number e none =
    let parts = or_parts (c.number == number) (list_any (λ (c : report.Completed). c.number == number) cs) none in
    ap (λ b. entered cs number (if b then record e { fate = Completed c.linked c.home } else e)) parts.0 ∙ entered-none cs number e parts.1

pub entered-some : (cs : List report.Completed) (number : ℕ) (e : JournalEntry) (linked : Bool) (home : Option StreamPosition)
    → ((i : ℕ) (c : report.Completed) → slice_get cs i ≡ Some c → (c.number == number) ≡ true → (c.linked ≡ linked) × (c.home ≡ home))
    → (e.fate ≡ Completed linked home) ⊎ (list_any (λ (c : report.Completed). c.number == number) cs ≡ true)
    → entered cs number e ≡ record e { fate = Completed linked home }
entered-some [] number e linked home all (inl was) = λ i. record e { fate = was i }
entered-some [] number e linked home all (inr none) = absurd (cc)
entered-some (c ∷ cs) number e linked home all either = go (λ f so. entered-some cs number f linked home (λ i d at. all (suc i) d at) so)
    (c.number == number) refl either
  where
    go : ((f : JournalEntry) → (f.fate ≡ Completed linked home) ⊎ (list_any (λ (c : report.Completed). c.number == number) cs ≡ true)
        → entered cs number f ≡ record f { fate = Completed linked home })
        → (b : Bool) → (c.number == number) ≡ b → (e.fate ≡ Completed linked home) ⊎ ((b || list_any (λ (c : report.Completed). c.number == number) cs) ≡ true)
        → entered cs number (if b then record e { fate = Completed c.linked c.home } else e) ≡ record e { fate = Completed linked home }
    go rest true is either = let same = all 0 c refl is in rest (record e { fate = Completed c.linked c.home }) (inl (λ i. Completed (same.0 i) (same.1 i)))
    go rest false is (inl was) = rest e (inl was)
    go rest false is (inr more) = rest e (inr more)

-- What is known of a history before the journal is written: writes are numbered by their places, and what the journal has is to
-- be completed.
pub record MayComplete (h : PrimaryHistory) : Type 0 where
  pub numbered : (i : ℕ) (a : Accepted) → slice_get h.writes i ≡ Some a → a.write.number ≡ suc i
  pub done : (i : ℕ) (a : Accepted) → slice_get h.writes i ≡ Some a → is_completed h a.write.number ≡ true → completes h a ≡ true

module _ (h : PrimaryHistory) (may : MayComplete h) where
  -- a write that is completed now
  abbrev passes : Accepted → Bool
  passes a = is_open h a && completes h a

  one-number : (i j : ℕ) (a b : Accepted) → slice_get h.writes i ≡ Some a → slice_get h.writes j ≡ Some b → a.write.number ≡ b.write.number → a ≡ b
  one-number i j a b ata atb same =
      let na = may.numbered i a ata in
      let nb = may.numbered j b atb in
      let index : i ≡ j = omega arith in
      same-at h.writes j a b (subst (λ n. slice_get h.writes n ≡ Some a) index ata) atb

  -- what is completed now, by its number
  pub any-newly : (i : ℕ) (a : Accepted) → slice_get h.writes i ≡ Some a
      → list_any (λ (b : Accepted). b.write.number == a.write.number) (newly_completed h) ≡ passes a
  any-newly i a at = go (passes a) refl
    where
      go : (b : Bool) → passes a ≡ b → list_any (λ (b : Accepted). b.write.number == a.write.number) (newly_completed h) ≡ b
      go true is =
          let there = filtered-pick passes h.writes i a at is in
          any-pick (λ (b : Accepted). b.write.number == a.write.number) (newly_completed h) there.0 a there.1 (eq-eqb a.write.number a.write.number refl)
      go false is = false_from_ne_true (list_any (λ (b : Accepted). b.write.number == a.write.number) (newly_completed h)) (λ some.
          let b = pick-any (λ (b : Accepted). b.write.number == a.write.number) (newly_completed h) some in
          let there = pick-filtered passes h.writes b.0 b.1 b.2 in
          let same = one-number there.0 i b.1 a there.1 at (eqb-true b.1.write.number a.write.number b.3) in
          both_ways (passes a) is (subst (λ (x : Accepted). passes x ≡ true) same there.2))

  abbrev after : PrimaryHistory
  after = with_completions h

  -- the journal then
  pub journal-is : (i : ℕ) (a : Accepted) → slice_get h.writes i ≡ Some a → is_completed after a.write.number ≡ (is_completed h a.write.number || passes a)
  journal-is i a at =
      let has : Completion → Bool = λ entry. entry.write.number == a.write.number in
      list_any-append has h.journal (map (completion_of h) (newly_completed h))
      ∙ ap (λ b. list_any has h.journal || b) (any-map has (completion_of h) (newly_completed h) ∙ any-newly i a at)

  -- the journal then has each write that is to be completed, and no other
  pub quiet-completed : IsQuiet after
  quiet-completed i a at = journal-is i a at ∙ go (is_completed h a.write.number) (completes h a) refl refl
    where
      go : (was now : Bool) → is_completed h a.write.number ≡ was → completes h a ≡ now → (was || ((not was && not (is_failed a.outcome)) && now)) ≡ now
      go true true is done = refl
      go true false is done = absurd (both_ways (completes h a) done (may.done i a at is))
      go false true is done = ap (λ b. not b && true) (completes-not-failed h a done)
      go false false is done = elim (not (is_failed a.outcome)) as (λ b. (b && false) ≡ false) [ true ↦ refl | false ↦ refl ]

  -- a write's entry then
  abbrev reports : List report.Completed
  reports = map (λ a. completed_of (logged_of h a)) (newly_completed h)

  pub any-report : (i : ℕ) (a : Accepted) → slice_get h.writes i ≡ Some a → list_any (λ (c : report.Completed). c.number == a.write.number) reports ≡ passes a
  any-report i a at = any-map (λ (c : report.Completed). c.number == a.write.number) (λ b. completed_of (logged_of h b)) (newly_completed h) ∙ any-newly i a at

  -- a report of the number of a write is of that write
  report-of : (i : ℕ) (a : Accepted) → slice_get h.writes i ≡ Some a → (n : ℕ) (c : report.Completed) → slice_get reports n ≡ Some c
      → (c.number == a.write.number) ≡ true → c ≡ completed_of (logged_of h a)
  report-of i a at n c there same =
      let of = pick-image (λ b. completed_of (logged_of h b)) (newly_completed h) n c there in
      let stood = pick-filtered passes h.writes n of.0 of.1 in
      let number : of.0.write.number ≡ a.write.number = ap (λ (x : report.Completed). x.number) of.2 ∙ eqb-true c.number a.write.number same in
      sym of.2 ∙ ap (λ (x : Accepted). completed_of (logged_of h x)) (one-number stood.0 i of.0 a stood.1 at number)

  -- what the journal has of a write then
  abbrev has : Accepted → Completion → Bool
  has a entry = entry.write.number == a.write.number

  found-new : (i : ℕ) (a : Accepted) → slice_get h.writes i ≡ Some a → (b : Bool) → passes a ≡ b
      → find (has a) (map (completion_of h) (newly_completed h)) ≡ cond b (Some (completion_of h a)) None
  found-new i a at true is =
      let found = find-map (has a) (completion_of h) (newly_completed h) in
      found ∙ go (find (λ (x : Accepted). x.write.number == a.write.number) (newly_completed h)) refl
    where
      go : (v : Option Accepted) → find (λ (x : Accepted). x.write.number == a.write.number) (newly_completed h) ≡ v
          → elim v as (λ _. Option Completion) [ None ↦ None | Some x ↦ Some (completion_of h x) ] ≡ Some (completion_of h a)
      go None none = absurd (both_ways (list_any (λ (x : Accepted). x.write.number == a.write.number) (newly_completed h))
          (any-some (λ (x : Accepted). x.write.number == a.write.number) (newly_completed h) ∙ ap is_some none) (any-newly i a at ∙ is))
      go (Some x) found =
          let there = pick-found (λ (x : Accepted). x.write.number == a.write.number) (newly_completed h) x found in
          let stood = pick-filtered passes h.writes there.0 x there.1 in
          ap (λ (y : Accepted). Some (completion_of h y)) (one-number stood.0 i x a stood.1 at (eqb-true x.write.number a.write.number there.2))
  found-new i a at false is =
      let found = find-map (has a) (completion_of h) (newly_completed h) in
      found ∙ go (find (λ (x : Accepted). x.write.number == a.write.number) (newly_completed h)) refl
    where
      go : (v : Option Accepted) → find (λ (x : Accepted). x.write.number == a.write.number) (newly_completed h) ≡ v
          → elim v as (λ _. Option Completion) [ None ↦ None | Some x ↦ Some (completion_of h x) ] ≡ None
      go None none = refl
      go (Some x) found = absurd (both_ways (list_any (λ (x : Accepted). x.write.number == a.write.number) (newly_completed h)) (any-newly i a at
          ∙ is) (any-some (λ (x : Accepted). x.write.number == a.write.number) (newly_completed h) ∙ ap is_some found))

  -- completed over the link where it is answered
  kind-is : (b : Bool) → is_linked (if b then Linked else Alone) ≡ b
  kind-is true = refl
  kind-is false = refl

  entry-completed : (i : ℕ) (a : Accepted) → slice_get h.writes i ≡ Some a → entered reports a.write.number (entry_of h a) ≡ entry_of after a
  entry-completed i a at = go (passes a) refl
    where
      found-is : find (has a) after.journal ≡ elim (find (has a) h.journal) as
          (λ _. Option Completion) [ None ↦ find (has a) (map (completion_of h) (newly_completed h)) | Some x ↦ Some x ]
      found-is = find-append (has a) h.journal (map (completion_of h) (newly_completed h))

      go : (b : Bool) → passes a ≡ b → entered reports a.write.number (entry_of h a) ≡ entry_of after a
      go true is =
          let parts = and_parts (is_open h a) (completes h a) is in
          let unfailed = completes-not-failed h a parts.1 in
          let open_parts = and_parts (not (is_completed h a.write.number)) (not (is_failed a.outcome)) parts.0 in
          let fate : fate_of after a ≡ Completed (is_answered h a) a.home = fates (find (has a) h.journal) refl unfailed open_parts.0 in
          entered-some reports a.write.number (entry_of h a) (is_answered h a) a.home
          (λ n c there same. let of = report-of i a at n c there same in (ap (λ (x : report.Completed). x.linked) of, ap (λ (x : report.Completed). x.home) of))
          (inr (any-report i a at ∙ is))
          ∙ λ j. record (entry_of h a) { fate = sym fate j }
        where
          fates : (v : Option Completion) → find (has a) h.journal ≡ v → is_failed a.outcome ≡ false → not (is_completed h a.write.number) ≡ true
              → fate_of after a ≡ Completed (is_answered h a) a.home
          fates (Some x) found unfailed fresh =
              absurd (both_ways (not (is_completed h a.write.number)) (ap not (any-some (has a) h.journal ∙ ap is_some found)) fresh)
          fates None none unfailed fresh =
              let new : find (has a) after.journal ≡ Some (completion_of h a) = found-is
              ∙ (ap (λ (v : Option Completion). elim v as
              (λ _. Option Completion) [ None ↦ find (has a) (map (completion_of h) (newly_completed h)) | Some x ↦ Some x ]) none
              ∙ found-new i a at true is) in
              (λ j. elim (unfailed j) as (λ _. Fate) [ true ↦ Failed | false ↦ fate_in (new j) ]) ∙ λ j. Completed (kind-is (is_answered h a) j) a.home
      go false is =
          entered-none reports a.write.number (entry_of h a) (any-report i a at ∙ is)
          ∙ λ j. record (entry_of h a) { fate = elim (is_failed a.outcome) as (λ _. Fate) [ true ↦ Failed | false ↦ fate_in (same j) ] }
        where
          same : find (has a) h.journal ≡ find (has a) after.journal
          same = sym (found-is ∙ (ap (λ (w : Option Completion). elim (find (has a) h.journal) as (λ _. Option Completion) [ None ↦ w | Some x ↦ Some x ])
              (found-new i a at false is) ∙ go2 (find (has a) h.journal)))
            where
              go2 : (v : Option Completion) → elim v as (λ _. Option Completion) [ None ↦ None | Some x ↦ Some x ] ≡ v
              go2 None = refl
              go2 (Some x) = refl

  -- the entries then
  pub entries-completed : entering reports (map (entry_of h) h.writes) ≡ map (entry_of after) h.writes
  entries-completed =
      entering-map reports (entry_of h) h.writes (λ i a at. may.numbered i a at ∙ omega arith) some
      ∙ map-at (λ a. entered reports a.write.number (entry_of h a)) (entry_of after) h.writes entry-completed
    where
      some : (n : ℕ) (c : report.Completed) → slice_get reports n ≡ Some c → 0 < c.number
      some n c there =
          let of = pick-image (λ b. completed_of (logged_of h b)) (newly_completed h) n c there in
          let stood = pick-filtered passes h.writes n of.0 of.1 in
          let number : of.0.write.number ≡ c.number = ap (λ (x : report.Completed). x.number) of.2 in
          let index = may.numbered stood.0 of.0 stood.1 in
          omega arith
