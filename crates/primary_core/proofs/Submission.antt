-- What a submission's tests and its effect come to.
use Rattle.std.proofs.Common.{ℕ, zero, suc, ◌≡◌, ◌+◌, ◌-◌, ◌*◌, ◌/◌, ◌%◌, ◌≤◌, ◌==◌, nat_lt, nat_le, Bool, true, false, not, ◌&&◌, ◌||◌, List, [], ◌∷◌}
use Rattle.std.proofs.Common.{length, refl, sym, ◌∙◌, ap, arith, Option, Some, None}
use Rattle.std.specs.Prelude.{◌↔◌, Result, Ok, Err, IsOk, IfOk, IfErr, if◌then◌else◌, is_some, option_map}
use Rattle.std.specs.List.{AllByRecursion}
use Rattle.std.proofs.lemmas.Bool.{lt-ltb, le-leb, ltb-true, leb-true, eqb-true}
use Rattle.blocks.specs.declared.settings.Settings.{Settings}
use Rattle.blocks.specs.declared.range.Range.{Range}
use Rattle.blocks.specs.declared.refusal.Refusal.{Refusal}
use Rattle.blocks.specs.declared.refusal.Refusal.TheVariants.{BadRange}
use Rattle.blocks.specs.Ranges.{IsRange, ranges_meet}
use Rattle.blocks.specs.Contents.{blocks_of, cut}
use Rattle.model.specs.Contents.{is_range, extent_of}
use Rattle.model.specs.Refusals.{Test, first_refusal}
use Rattle.overlap.specs.Holdings.{Holding, holding, holding_too, without, is_held, meets, conflict}
use Rattle.activitylog.specs.Activity.{Active, ActivityState, writes_of, begun, staying, other_than, without_oldest_idle, is_active, has_idle, can_begin}
use Rattle.transferlog.proofs.Numbers.{same_number, lower_number}
use Rattle.primary_protocol.specs.Core.{PrimaryState, EndState, is_established}
use Rattle.primary_protocol.specs.Core as core
use Rattle.primary_protocol.specs.Transitions.{whole_blocks}
use Rattle.primary_core.specs.Kept.{IsWriter, IsCounted}
use Rattle.primary_core.specs.State.{end_of, held_with, way_at, way_in, way_of}
use Rattle.primary_core.specs.Submit.{IsWhole, range_tests}
use Rattle.primary_core.specs.declared.connection.Connection.{Connection}
use Rattle.resync.specs.declared.under_way.UnderWay.{UnderWay}

-- The block under way.

held-way : (r way : UnderWay) (held : List Holding) → Some (way_of r) ≡ Some (way_of way) → held_with (Some way) held ≡ holding 0 r.block.0 1 ∷ held
held-way r way held same =
    let ways : way_of r ≡ way_of way = cc in
    ap (λ (v : core.UnderWay). holding 0 v.block 1 ∷ held) (sym ways)

pub held-under : (r : UnderWay) (connection : Option Connection) (held : List Holding) → Some (way_of r) ≡ way_in (option_map end_of connection)
    → held_with (way_at connection) held ≡ holding 0 r.block.0 1 ∷ held
held-under r None held same = absurd (cc)
held-under r (Some c) held same = go c.resync.under_way same
  where
    go : (way : Option UnderWay) → Some (way_of r) ≡ option_map way_of way → held_with way held ≡ holding 0 r.block.0 1 ∷ held
    go None same = absurd (cc)
    go (Some way) same = held-way r way held same

-- The number of the next write holds nothing.

pub held-none : (accepted : ℕ) (held : List Holding) → AllByRecursion (IsWriter accepted) held → is_held (accepted + 1) held ≡ false
held-none accepted [] all = refl
held-none accepted (h ∷ held) all = rw (lower_number h.number (accepted + 1) (omega (arith, all.0.known))) (held-none accepted held all.1)

or-parts : (a b : Bool) → (a || b) ≡ false → (a ≡ false) × (b ≡ false)
or-parts true b is = absurd (cc)
or-parts false b is = (refl, is)

without-none : (number : ℕ) (held : List Holding) → is_held number held ≡ false → without number held ≡ held
without-none number [] none = refl
without-none number (h ∷ held) none =
    let parts = or-parts (h.number == number) (is_held number held) none in
    rw parts.0 (ap (λ more. h ∷ more) (without-none number held parts.1))

-- what is held for a while leaves all as it was
pub without-new : (number first count : ℕ) (held : List Holding) → is_held number held ≡ false
    → without number (holding_too (holding number first count) held) ≡ held
without-new number first count [] none = rw (same_number number number refl) refl
without-new number first count (h ∷ held) none = go (nat_lt number h.number) (without-new number first count held)
  where
    parts : (h.number == number ≡ false) × (is_held number held ≡ false)
    parts = or-parts (h.number == number) (is_held number held) none

    go : (b : Bool) → (is_held number held ≡ false → without number (holding_too (holding number first count) held) ≡ held)
        → without number (if b then holding number first count ∷ h ∷ held else h ∷ holding_too (holding number first count) held) ≡ h ∷ held
    go true rest = rw (same_number number number refl) (without-none number (h ∷ held) none)
    go false rest = rw parts.0 (ap (λ more. h ∷ more) (rest parts.1))

-- Extents.

pub writes-few : (accepted extent : ℕ) (active : List Active) → AllByRecursion (IsCounted accepted) active → writes_of extent active ≤ accepted
writes-few accepted extent [] all = omega arith
writes-few accepted extent (a ∷ active) all = go (extent == a.extent) (writes-few accepted extent active all.1)
  where
    go : (b : Bool) → writes_of extent active ≤ accepted → (if b then a.writes else writes_of extent active) ≤ accepted
    go true rest = all.0
    go false rest = rest

counted-other : (accepted extent : ℕ) (active : List Active) → AllByRecursion (IsCounted accepted) active
    → AllByRecursion (IsCounted accepted) (other_than extent active)
counted-other accepted extent [] all = tt
counted-other accepted extent (a ∷ active) all = go (extent == a.extent) (counted-other accepted extent active all.1)
  where
    go : (b : Bool) → AllByRecursion (IsCounted accepted) (other_than extent active)
        → AllByRecursion (IsCounted accepted) (if b then active else a ∷ other_than extent active)
    go true rest = all.1
    go false rest = (all.0, rest)

counted-idle : (accepted : ℕ) (active : List Active) → AllByRecursion (IsCounted accepted) active
    → AllByRecursion (IsCounted accepted) (without_oldest_idle active)
counted-idle accepted [] all = tt
counted-idle accepted (a ∷ active) all = go (has_idle active) (a.writes == 0) (counted-idle accepted active all.1)
  where
    go : (b idle : Bool) → AllByRecursion (IsCounted accepted) (without_oldest_idle active)
        → AllByRecursion (IsCounted accepted) (if b then a ∷ without_oldest_idle active else if idle then active else a ∷ active)
    go true idle rest = (all.0, rest)
    go false true rest = all.1
    go false false rest = all

counted-staying : (accepted extent : ℕ) (s : ActivityState) → AllByRecursion (IsCounted accepted) s.active
    → AllByRecursion (IsCounted accepted) (staying extent s)
counted-staying accepted extent s all = go (is_active extent s.active) (nat_lt (length s.active) s.slots)
  where
    go : (b free : Bool) → AllByRecursion (IsCounted accepted) (if b then other_than extent s.active else if free then s.active
        else without_oldest_idle s.active)
    go true free = counted-other accepted extent s.active all
    go false true = all
    go false false = counted-idle accepted s.active all

counted-later : (accepted : ℕ) (active : List Active) → AllByRecursion (IsCounted accepted) active → AllByRecursion (IsCounted (accepted + 1)) active
counted-later accepted [] all = tt
counted-later accepted (a ∷ active) all = (omega (arith, all.0), counted-later accepted active all.1)

-- the next write begins in an extent
pub counted-begun : (accepted extent : ℕ) (s : ActivityState) → AllByRecursion (IsCounted accepted) s.active
    → AllByRecursion (IsCounted (accepted + 1)) (begun extent s).active
counted-begun accepted extent s all =
    let few = writes-few accepted extent s.active all in
    (omega arith, counted-later accepted (staying extent s) (counted-staying accepted extent s all))

-- The tests of a range that may be submitted.
pub record Passes (first count : ℕ) (s : PrimaryState) : Type 0 where
  pub journal : nat_le 1048576 s.log.accepted ≡ false
  pub log : nat_le s.settings.backlog (length s.log.writes) ≡ false
  pub apart : is_some (conflict first count s.held) ≡ false
  pub active : not (can_begin (extent_of first) s.activity) ≡ false
  pub places : (is_established s && nat_le 4294967288 s.log.epochs.places) ≡ false

-- none of the tests holds
abbrev AllFail : List Test → Type 0
AllFail [] = Unit {0}
AllFail (test ∷ tests) = (test.0 ≡ false) × AllFail tests

all-fail : (tests : List Test) → first_refusal tests ≡ None → AllFail tests
all-fail [] none = tt
all-fail ((true, refusal) ∷ tests) none = absurd (cc)
all-fail ((false, refusal) ∷ tests) none = (refl, all-fail tests none)

pub passes-all : (first count : ℕ) (v w : PrimaryState) → v ≡ w → first_refusal (range_tests first count w) ≡ None → Passes first count v
passes-all first count v w same none =
    let fail = all-fail (range_tests first count v) (ap (λ (s : PrimaryState). first_refusal (range_tests first count s)) same ∙ none) in
    record { journal = fail.1.0; log = fail.1.1.0; apart = fail.1.1.1.0; active = fail.1.1.1.1.0; places = fail.1.1.1.1.1.0 }

pub conflict-block : (first count block : ℕ) (held : List Holding) → ranges_meet block 1 first count ≡ true
    → Some 0 ≡ conflict first count (holding 0 block 1 ∷ held)
conflict-block first count block held meets = rw meets refl

-- Ranges.

pub tests-range : (settings : Settings) (first count : ℕ) → IsRange settings.blocks first count → is_range settings first count ≡ true
tests-range settings first count is =
    rw (
      lt-ltb 0 count is.some,
      le-leb count 32 is.few,
      le-leb (first + count) settings.blocks is.inside,
      same_number (extent_of first) (extent_of (first + count - 1)) is.one_extent,
    ) refl

and-parts : (a b : Bool) → (a && b) ≡ true → (a ≡ true) × (b ≡ true)
and-parts true b is = (refl, is)
and-parts false b is = absurd (cc)

pub range-tests : (settings : Settings) (first count : ℕ) → is_range settings first count ≡ true → IsRange settings.blocks first count
range-tests settings first count is =
    let whole = and-parts ((nat_lt 0 count && nat_le count 32) && nat_le (first + count) settings.blocks) _ is in
    let inside = and-parts (nat_lt 0 count && nat_le count 32) _ whole.0 in
    let size = and-parts (nat_lt 0 count) _ inside.0 in
    record {
      some = ltb-true 0 count size.0;
      few = leb-true count 32 size.1;
      inside = leb-true (first + count) settings.blocks inside.1;
      one_extent = eqb-true (extent_of first) (extent_of (first + count - 1)) whole.1;
    }

-- Whole blocks.

length-cut : (size n : ℕ) (bytes : List ℕ) → length (cut size n bytes) ≡ n
length-cut size zero bytes = refl
length-cut size (suc n) bytes = ap suc (length-cut size n _)

pub whole-some : (bytes : List ℕ) → length bytes % 4096 ≡ 0 → whole_blocks bytes ≡ blocks_of 4096 bytes
whole-some bytes whole = rw (same_number (4096 * (length bytes / 4096)) (length bytes) (omega (arith, whole))) refl

pub length-whole : (bytes : List ℕ) → length bytes % 4096 ≡ 0 → length (whole_blocks bytes) ≡ length bytes / 4096
length-whole bytes whole = ap length (whole-some bytes whole) ∙ length-cut 4096 (length bytes / 4096) bytes

-- What the range's own test says of bytes of whole blocks.

pub is-whole : (settings : Settings) (first n : ℕ) (bytes : List ℕ) (res : Result Range Refusal) → length bytes % 4096 ≡ 0 → n ≡ length bytes / 4096
    → (IsOk res ↔ IsRange settings.blocks first n)
    → IfOk res (λ r. (r.first.0 ≡ first) × (r.count ≡ n)) → IfOk res (λ r. IsWhole settings r.first.0 r.count bytes × (r.first.0 ≡ first))
is-whole settings first n bytes (Ok r) whole is accepted range =
    let long = length-whole bytes whole in
    let count : length (whole_blocks bytes) ≡ n = long ∙ sym is in (
      record {
        range = rw (range.0, count) (tests-range settings first n (accepted.0 refl));
        counted = count ∙ sym range.1;
        long = omega (arith, whole, is, range.1);
      },
      range.0,
    )
is-whole settings first n bytes (Err e) whole is accepted range = tt

false-of : (b : Bool) → (b ≡ true → ⊥) → b ≡ false
false-of true not-so = absurd (not-so refl)
false-of false not-so = refl

pub is-refused : (settings : Settings) (first n : ℕ) (bytes : List ℕ) (res : Result Range Refusal) → length bytes % 4096 ≡ 0 → n ≡ length bytes / 4096
    → (IsOk res ↔ IsRange settings.blocks first n)
    → IfErr res (λ e. e ≡ BadRange) → IfErr res (λ e. (e ≡ BadRange) × (is_range settings first (length (whole_blocks bytes)) ≡ false))
is-refused settings first n bytes (Ok r) whole is accepted refused = tt
is-refused settings first n bytes (Err e) whole is accepted refused =
    let count : length (whole_blocks bytes) ≡ n = length-whole bytes whole ∙ sym is in
    (refused, rw count (false-of (is_range settings first n) (λ so. let no = accepted.1 (range-tests settings first n so) in cc)))
