-- A write more among the entries and in the journal's eyes.
use Rattle.std.proofs.Common.{ℕ, suc, ◌≡◌, ◌+◌, ◌<◌, ◌≤◌, inl, inr, true, false, List, [], ◌∷◌, ◌++◌, length, map, Option, Some, None, slice_get, refl, sym}
use Rattle.std.proofs.Common.{◌∙◌, ap, subst, arith, ◌==◌}
use Rattle.std.specs.Prelude.{find, is_some}
use Rattle.std.specs.List.{list_any}
use Rattle.std.proofs.lemmas.Bool.{both_ways, eqb-true, false_from_ne_true}
use Rattle.std.proofs.lemmas.List.{map-append}
use Rattle.std.proofs.lemmas.Option.{slice_get_within}
use Rattle.blocks.specs.Positions.{StreamPosition}
use Rattle.blocks.specs.declared.settings.Settings.{Settings}
use Rattle.model.specs.Contents.{Write}
use Rattle.model.specs.Stream.{WriteItem}
use Rattle.model.specs.Primary.{Waiting, Accepted, Completion, PrimaryConnection, PrimaryHistory, is_failed, is_completed, is_open, open_writes, completes}
use Rattle.model.specs.PrimarySteps.{submission}
use Rattle.laws.proofs.Lists.Elements.{get-more}
use Rattle.laws.proofs.Lists.Picks.{pick-any, pick-filtered, pick-image}
use Rattle.laws.proofs.Primary.Homes.{HasHomes}
use Rattle.overlap.specs.Holdings.{Holding}
use Rattle.primary_protocol.specs.Core.{Fate, Failed, Open, JournalEntry, PrimaryState}
use Rattle.primary_protocol.specs.Leaves.{fate_in, entry_of, holding_write, IsQuiet, Leaves}
use Rattle.primary_protocol.proofs.Common.Numbers.{any-some}

-- What a submission's tests say of its range.
pub record HasRange (settings : Settings) (first count : ℕ) : Type 0 where
  pub some : 0 < count
  pub inside : first + count ≤ settings.blocks

-- A write that is accepted, by its home.
abbrev pub accepted_at : PrimaryHistory → ℕ → List (List ℕ) → Option StreamPosition → Accepted
accepted_at h first contents home = record { write = submission h first contents; journal_length = length h.journal; home = home; outcome = Waiting }

-- The entries with one more, which is open and of which no receipt was taken.
pub entries-more : (s : PrimaryState) (h h1 : PrimaryHistory) (first : ℕ) (contents : List (List ℕ)) (home : Option StreamPosition) → Leaves s h
    → is_completed h (suc (length h.writes)) ≡ false
    → h1.writes ≡ h.writes ++ accepted_at h first contents home ∷ [] → h1.journal ≡ h.journal → h1.receipts ≡ h.receipts
    → s.entries ++ record { first = first; count = length contents; fate = Open; taken = false } ∷ [] ≡ map (entry_of h1) h1.writes
entries-more s h h1 first contents home left fresh writes journal receipts =
    (λ i. left.rest.entries.entries i ++ sym new_is i ∷ [])
    ∙ (sym (map-append (entry_of h) h.writes (accepted_at h first contents home ∷ []))
    ∙ λ i. map (entry_as (sym journal i) (sym receipts i)) (sym writes i))
  where
    entry_as : List Completion → List ℕ → Accepted → JournalEntry
    entry_as journal receipts accepted = record {
      first = accepted.write.first;
      count = length accepted.write.contents;
      fate = elim (is_failed accepted.outcome) as
          (λ _. Fate) [ true ↦ Failed | false ↦ fate_in (find (λ (entry : Completion). entry.write.number == accepted.write.number) journal) ];
      taken = list_any (λ number. number == accepted.write.number) receipts;
    }

    untaken : list_any (λ number. number == suc (length h.writes)) h.receipts ≡ false
    untaken = false_from_ne_true (list_any (λ number. number == suc (length h.writes)) h.receipts) (λ some.
        let got = pick-any (λ number. number == suc (length h.writes)) h.receipts some in
        let few = left.rest.entries.receipts got.0 got.1 got.2 in
        let same = eqb-true got.1 (suc (length h.writes)) got.3 in
        omega arith)

    none : find (λ (entry : Completion). entry.write.number == suc (length h.writes)) h.journal ≡ None
    none = go (find (λ (entry : Completion). entry.write.number == suc (length h.writes)) h.journal) refl
      where
        go : (v : Option Completion) → find (λ (entry : Completion). entry.write.number == suc (length h.writes)) h.journal ≡ v → v ≡ None
        go None is = refl
        go (Some c) is = absurd (both_ways (is_completed h (suc (length h.writes))) fresh
            (any-some (λ (entry : Completion). entry.write.number == suc (length h.writes)) h.journal ∙ ap is_some is))

    new_is : entry_of h (accepted_at h first contents home) ≡ record { first = first; count = length contents; fate = Open; taken = false }
    new_is = λ i. record { first = first; count = length contents; fate = fate_in (none i); taken = untaken i }

-- Where something was accepted, the journal has nothing new.
pub done-more : (h h1 : PrimaryHistory) (first : ℕ) (contents : List (List ℕ)) (home : Option StreamPosition) → IsQuiet h
    → is_completed h (suc (length h.writes)) ≡ false → h1.writes ≡ h.writes ++ accepted_at h first contents home ∷ [] → h1.journal ≡ h.journal
    → ((i : ℕ) (a : Accepted) → slice_get h.writes i ≡ Some a → completes h1 a ≡ completes h a) → IsQuiet h1
done-more h h1 first contents home quiet fresh writes journal same i a at =
    elim (get-more h.writes (accepted_at h first contents home) i a (subst (λ (ws : List Accepted). slice_get ws i ≡ Some a) writes at)) [
      | inl old ↦ ap (list_any (λ (entry : Completion). entry.write.number == a.write.number)) journal ∙ (quiet i a old ∙ sym (same i a old))
      | inr new ↦
          ap (λ (x : Accepted). is_completed h1 x.write.number) new.1
          ∙ (ap (list_any (λ (entry : Completion). entry.write.number == suc (length h.writes))) journal ∙ (fresh ∙ sym (ap (completes h1) new.1)))
    ]

-- what an open write holds has the number of an accepted one
pub open-lower : (h : PrimaryHistory) → HasHomes h → (i : ℕ) (x : Holding) → slice_get (map holding_write (open_writes h)) i ≡ Some x
    → x.number ≤ length h.writes
open-lower h homes i x at =
    let of = pick-image holding_write (open_writes h) i x at in
    let stood = pick-filtered (is_open h) h.writes i of.0 of.1 in
    let number : of.0.write.number ≡ x.number = ap (λ (y : Holding). y.number) of.2 in
    let index = homes.numbered stood.0 of.0 stood.1 in
    let within = slice_get_within h.writes stood.0 of.0 stood.1 in
    omega arith

-- a write in a stream has the number of an accepted one
pub numbers-early : (h : PrimaryHistory) → HasHomes h → (k : ℕ) (c : PrimaryConnection) → slice_get h.connections k ≡ Some c → (place : ℕ) (w : Write)
    → slice_get c.stream place ≡ Some (WriteItem w) → w.number ≤ length h.writes
numbers-early h homes k c there place w at =
    let found = homes.homed k place c w there at in
    let number = homes.numbered found.0 found.1 found.2 in
    let equal : found.1.write.number ≡ w.number = ap (λ (x : Write). x.number) found.3 in
    let within = slice_get_within h.writes found.0 found.1 found.2 in
    omega arith
