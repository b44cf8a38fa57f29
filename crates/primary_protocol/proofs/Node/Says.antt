-- What is read off a primary's state is what its history says.
use Rattle.std.proofs.Common.{ℕ, ◌≡◌, ◌+◌, inl, inr, Bool, true, false, cond, not, ◌&&◌, List, [], ◌∷◌, length, map, filter, Option, Some, None, slice_get}
use Rattle.std.proofs.Common.{refl, sym, ◌∙◌, ap, arith}
use Rattle.std.specs.Prelude.{find, option_map, unwrap_or, if◌then◌else◌}
use Rattle.std.proofs.lemmas.Bool.{both_ways, cases_lt, lt-ltb, le-ltb}
use Rattle.std.proofs.lemmas.List.{length-map}
use Rattle.std.proofs.lemmas.Option.{slice_get_past}
use Rattle.blocks.specs.Ranges.{below}
use Rattle.bitmap.specs.Marks as bits
use Rattle.model.specs.Headline.{is_marked}
use Rattle.model.specs.Primary.{Accepted, PrimaryHistory, first_unreleased, is_waiting, is_failed, is_open, is_released, unreleased, next_local, marked_blocks}
use Rattle.model.specs.Status.{incomplete}
use Rattle.transferlog.specs.Writes as log
use Rattle.transferlog.specs.Writes.{LogWrite}
use Rattle.primary_protocol.specs.Core.{PrimaryState}
use Rattle.primary_protocol.specs.Leaves.{logged_of, marks_in, Leaves}
use Rattle.primary_protocol.specs.Steps.{IsReached}
use Rattle.primary_protocol.proofs.Common.Filters.{filter-at, filter-map, filter-twice, find-map, find-at}
use Rattle.primary_protocol.proofs.Common.Reached.{reached-ordered}
use Rattle.primary_protocol.proofs.Common.Marks.{length-marks, marked-in}
use Rattle.primary_protocol.proofs.Common.Releasing.{released-not-open}
use Rattle.primary_protocol.proofs.Common.WriteStates.{waiting-seen, open-seen}
use Rattle.laws.proofs.Rules.Releases.{held-waiting}

-- a search finds the same behind a filter that lets through what it looks for
find-kept : {X : Type 0} (p q : X → Bool) (xs : List X) → ((x : X) → p x ≡ true → q x ≡ true) → find p (filter q xs) ≡ find p xs
find-kept {X} p q [] kept = refl
find-kept {X} p q (x ∷ xs) kept = go (find-kept p q xs kept) (p x) (q x) refl refl
  where
    go : find p (filter q xs) ≡ find p xs → (b c : Bool) → p x ≡ b → q x ≡ c → find p (cond c (x ∷ filter q xs) (filter q xs)) ≡ cond b (Some x) (find p xs)
    go rest b true is so = ap (λ (d : Bool). cond d (Some x) (find p (filter q xs))) is ∙ ap (λ (r : Option X). cond b (Some x) r) rest
    go rest true false is so = absurd (both_ways (q x) so (kept x is))
    go rest false false is so = rest

-- The lowest write that the local disk has to do.
pub says-next : (s : PrimaryState) (h : PrimaryHistory) → Leaves s h → option_map (λ (w : LogWrite). w.number) (find log.is_waiting s.log.writes) ≡ next_local h
says-next s h left =
    ap (λ (l : List LogWrite). option_map (λ (w : LogWrite). w.number) (find log.is_waiting l)) left.rest.log.writes
    ∙ (ap (option_map (λ (w : LogWrite). w.number)) (find-map log.is_waiting (logged_of h) (unreleased h))
    ∙ (twice (find (λ (a : Accepted). log.is_waiting (logged_of h a)) (unreleased h))
    ∙ ap (option_map (λ (a : Accepted). a.write.number)) (find-at (λ (a : Accepted). log.is_waiting (logged_of h a)) (λ (a : Accepted). is_waiting a.outcome)
    (unreleased h) (λ i a at. waiting-seen h a)
    ∙ find-kept (λ (a : Accepted). is_waiting a.outcome) (λ (a : Accepted). not (is_released h a)) h.writes
    (λ a waits. ap not (held-waiting h a waits)))))
  where
    twice : (v : Option Accepted) → option_map (λ (w : LogWrite). w.number) (option_map (logged_of h) v) ≡ option_map (λ (a : Accepted). a.write.number) v
    twice None = refl
    twice (Some a) = refl

-- The first write that is not released.
pub says-unreleased : (s : PrimaryState) (h : PrimaryHistory) → Leaves s h → option_map (λ (w : LogWrite). w.number) (slice_get s.log.writes 0) ≡ first_unreleased h
says-unreleased s h left = ap (λ (l : List LogWrite). option_map (λ (w : LogWrite). w.number) (slice_get l 0)) left.rest.log.writes ∙ first h.writes
  where
    kept : List Accepted → List Accepted
    kept = filter (λ (a : Accepted). not (is_released h a))

    found : List Accepted → Option Accepted
    found = find (λ (a : Accepted). not (is_released h a))

    Same : List Accepted → Option Accepted → Type 0
    Same writes v = option_map (λ (w : LogWrite). w.number) (slice_get (map (logged_of h) writes) 0) ≡ option_map (λ (a : Accepted). a.write.number) v

    first : (writes : List Accepted) → Same (kept writes) (found writes)
    first [] = refl
    first (a ∷ writes) = go (first writes) (not (is_released h a))
      where
        go : Same (kept writes) (found writes) → (b : Bool) → Same (cond b (a ∷ kept writes) (kept writes)) (cond b (Some a) (found writes))
        go rest true = refl
        go rest false = rest

-- How many writes are open.
pub says-incomplete : (s : PrimaryState) (h : PrimaryHistory) → IsReached h → Leaves s h → length (filter log.is_open s.log.writes) ≡ incomplete h
says-incomplete s h reached left =
    ap (λ (l : List LogWrite). length (filter log.is_open l)) left.rest.log.writes
    ∙ (ap length (filter-map log.is_open (logged_of h) (unreleased h))
    ∙ (length-map (filter (λ (a : Accepted). log.is_open (logged_of h a)) (unreleased h)) (logged_of h)
    ∙ ap length (filter-twice (λ (a : Accepted). log.is_open (logged_of h a)) (λ (a : Accepted). not (is_released h a)) h.writes
    ∙ filter-at (λ (a : Accepted). not (is_released h a) && log.is_open (logged_of h a)) (is_open h) h.writes same)))
  where
    same : (i : ℕ) (a : Accepted) → slice_get h.writes i ≡ Some a → (not (is_released h a) && log.is_open (logged_of h a)) ≡ is_open h a
    same i a at = let known = reached-ordered h reached in kept (is_released h a) refl
        ∙ (open-seen h a ∙ ap (λ b. not b && not (is_failed a.outcome)) (sym (left.rest.quiet i a at)))
      where
        kept : (b : Bool) → is_released h a ≡ b → (not b && log.is_open (logged_of h a)) ≡ log.is_open (logged_of h a)
        kept false is = refl
        kept true is = let known = reached-ordered h reached in sym
            (released-not-open h s.log known.ordered.1.1.0.0 known.ordered.1.0 left.rest.log.protocol left.stream.on i a at is)

-- How many blocks are marked, and whether one is.

count-map : (marks : ℕ → Bool) (blocks : List ℕ) → bits.count (map marks blocks) ≡ length (filter marks blocks)
count-map marks [] = refl
count-map marks (block ∷ blocks) =
    elim (marks block) as (λ b. (if b then 1 else 0) + bits.count (map marks blocks) ≡ length (cond b (block ∷ filter marks blocks) (filter marks blocks))) [
      | true ↦ let rest = count-map marks blocks in omega arith
      | false ↦ let rest = count-map marks blocks in omega arith
    ]

pub says-marks : (s : PrimaryState) (h : PrimaryHistory) → Leaves s h → bits.count s.marks ≡ length (marked_blocks h)
says-marks s h left = ap bits.count left.rest.marks ∙ count-map h.marks (below h.settings.blocks)

-- one mark for each block of the device
pub says-size : (s : PrimaryState) (h : PrimaryHistory) → Leaves s h → length s.marks ≡ h.settings.blocks
says-size s h left = ap (λ (l : List Bool). length l) left.rest.marks ∙ length-marks h.settings.blocks h.marks

pub says-marked : (s : PrimaryState) (h : PrimaryHistory) (block : ℕ) → Leaves s h → bits.marked s.marks block ≡ is_marked h block
says-marked s h block left = ap (λ (l : List Bool). bits.marked l block) left.rest.marks ∙ elim (cases_lt block h.settings.blocks) [
  | inl within ↦ marked-in h.settings.blocks h.marks block within ∙ ap (λ b. b && h.marks block) (sym (lt-ltb block h.settings.blocks within))
  | inr past ↦
      let size = length-marks h.settings.blocks h.marks in
      ap (λ (v : Option Bool). unwrap_or v false) (slice_get_past (marks_in h.settings.blocks h.marks) block (omega arith))
      ∙ ap (λ b. b && h.marks block) (sym (le-ltb block h.settings.blocks past))
]
