-- Which item is taken: what holds of one that is, that such a one is, and the tests by what they ask.
use Rattle.std.proofs.Common.{ℕ, zero, suc, ◌≡◌, ◌+◌, ◌<◌, Bool, true, false, not, ◌&&◌, ◌||◌, List, [], ◌∷◌, length, Some, slice_get, Ok, Err}
use Rattle.std.proofs.Common.{refl, sym, ◌∙◌, ap, subst, arith, ◌==◌, nat_lt, max}
use Rattle.std.specs.List.{list_any}
use Rattle.std.proofs.lemmas.Bool.{and_from, and_parts, both_ways, eqb-true, eq-eqb, lt-ltb, ltb-true, false_from_ne_true, not-true, not_from_false}
use Rattle.std.proofs.lemmas.Bool.Decides.{nat_tests}
use Rattle.blocks.specs.declared.tuple.Tuple.{Tuple}
use Rattle.blocks.specs.declared.settings.Settings.{Settings}
use Rattle.blocks.specs.declared.refusal.Refusal.{Refusal}
use Rattle.blocks.specs.declared.refusal.Refusal.TheVariants.{BadCommand, BadField}
use Rattle.blocks.specs.declared.outcome.What.{What}
use Rattle.blocks.specs.declared.outcome.What.TheVariants as what
use Rattle.blocks.specs.declared.command.Command.TheVariants as command
use Rattle.model.specs.Contents.{Write, is_range}
use Rattle.model.specs.Stream.{StreamItem, WriteItem, ResyncItem, number_of, epoch_of, last_epoch, items_of_epoch, placed_from, placed, items_meet}
use Rattle.model.specs.Frames.{Packet, DataFrame, RsDataReplyFrame, BarrierFrame, UuidsFrame, SyncUuidFrame}
use Rattle.model.specs.Secondary.{SecondaryConnection, SecondaryHistory, items_taken, is_in_resync}
use Rattle.model.specs.SecondarySteps.{Checked, is_above, is_apart, checked_if, adopting, receiving, has_place, checking_item}
use Rattle.laws.proofs.Lists.Fronts.{all-at, all-get}
use Rattle.laws.proofs.Lists.Picks.{any-filtered, pick-any, pick-filtered}
use Rattle.laws.proofs.Streams.Places.{placed-at}
use Rattle.std.specs.Prelude.{if◌then◌else◌}

-- Numbers that rise.

-- the number is above those of all items
abbrev pub IsAbove : ℕ → List StreamItem → Type 0
IsAbove number items = (k : ℕ) (x : StreamItem) → slice_get items k ≡ Some x → number_of x < number

above-has : (number : ℕ) (items : List StreamItem) → is_above number items ≡ true → IsAbove number items
above-has number items above k x at = ltb-true (number_of x) number (all-at (λ item. nat_lt (number_of item) number) items k x above at)

above-by : (number : ℕ) (items : List StreamItem) → IsAbove number items → is_above number items ≡ true
above-by number items all = all-get (λ item. nat_lt (number_of item) number) items (λ k x at. lt-ltb (number_of x) number (all k x at))

-- it is tested by the highest of them, where there is one
pub above-highest : (highest : List StreamItem → ℕ) → highest [] ≡ 0
    → ((x : StreamItem) (items : List StreamItem) → highest (x ∷ items) ≡ max (number_of x) (highest items))
    → (number : ℕ) (items : List StreamItem) → is_above number items ≡ ((length items == 0) || nat_lt (highest items) number)
above-highest highest none more number [] = refl
above-highest highest none more number (x ∷ items) = go x items
    ∙ ap (λ b. b || nat_lt (highest (x ∷ items)) number) (sym (some-not-none (length items)))
  where
    some-not-none : (n : ℕ) → (suc n == 0) ≡ false
    some-not-none n = grind (arith, nat_tests)

    max-below : (a b n : ℕ) → nat_lt (max a b) n ≡ (nat_lt a n && nat_lt b n)
    max-below a b n = grind (arith)

    alone : (a n : ℕ) → (nat_lt a n && true) ≡ nat_lt (max a 0) n
    alone a n = grind (arith)

    go : (y : StreamItem) (ys : List StreamItem) → (nat_lt (number_of y) number && is_above number ys) ≡ nat_lt (highest (y ∷ ys)) number
    go y [] = alone (number_of y) number ∙ ap (λ m. nat_lt m number) (ap (max (number_of y)) (sym none) ∙ sym (more y []))
    go y (z ∷ ys) = ap (λ b. nat_lt (number_of y) number && b) (go z ys)
        ∙ (sym (max-below (number_of y) (highest (z ∷ ys)) number) ∙ ap (λ m. nat_lt m number) (sym (more y (z ∷ ys))))

-- Items of one epoch.

-- no item of the last epoch shares a block with it
abbrev pub IsApartFrom : StreamItem → List StreamItem → Type 0
IsApartFrom item items = (place : ℕ) (a : StreamItem) → epoch_of items place ≡ last_epoch items → slice_get items place ≡ Some a → items_meet a item ≡ false

-- the test, by what it asks
pub apart-is : (item : StreamItem) (items : List StreamItem)
    → is_apart item items ≡ not (list_any (λ (entry : ℕ × StreamItem). items_meet entry.1 item) (items_of_epoch items (last_epoch items)))
apart-is item items = refl

apart-has : (item : StreamItem) (items : List StreamItem) → is_apart item items ≡ true → IsApartFrom item items
apart-has item items tested place a epoch at =
    let none : list_any (λ (entry : ℕ × StreamItem). items_meet entry.1 item) (items_of_epoch items (last_epoch items)) ≡ false =
    not-true (list_any (λ (entry : ℕ × StreamItem). items_meet entry.1 item) (items_of_epoch items (last_epoch items))) tested in
    let here : 0 + place ≡ place = omega arith in
    false_from_ne_true (items_meet a item)
    (λ met. both_ways (list_any (λ (entry : ℕ × StreamItem). items_meet entry.1 item) (items_of_epoch items (last_epoch items))) none
    (any-filtered (λ (entry : ℕ × StreamItem). items_meet entry.1 item) (λ entry. epoch_of items entry.0 == last_epoch items) (placed items) place (place, a)
    (placed-at 0 items place a at ∙ ap (λ (n : ℕ). Some (n, a)) here) (eq-eqb (epoch_of items place) (last_epoch items) epoch) met))

-- what stands among the placed items is the item there, with its place
get-placed : (start : ℕ) (items : List StreamItem) (n : ℕ) (entry : ℕ × StreamItem) → slice_get (placed_from start items) n ≡ Some entry
    → (item : StreamItem) × (slice_get items n ≡ Some item) × (entry ≡ (start + n, item))
get-placed start [] n entry at = absurd (cc)
get-placed start (x ∷ items) zero entry at =
    let same : (start, x) ≡ entry = cc in
    (x, refl, sym same ∙ ap (λ (m : ℕ). (m, x)) (omega arith))
get-placed start (x ∷ items) (suc n) entry at =
    let rest = get-placed (suc start) items n entry at in
    (rest.0, rest.1, rest.2 ∙ ap (λ (m : ℕ). (m, rest.0)) (omega arith))

apart-by : (item : StreamItem) (items : List StreamItem) → IsApartFrom item items → is_apart item items ≡ true
apart-by item items apart = not_from_false _ (false_from_ne_true _ (λ meets.
    let met = pick-any (λ (entry : ℕ × StreamItem). items_meet entry.1 item) (items_of_epoch items (last_epoch items)) meets in
    let found = pick-filtered (λ (e : ℕ × StreamItem). epoch_of items e.0 == last_epoch items) (placed items) met.0 met.1 met.2 in
    let there = get-placed 0 items found.0 met.1 found.1 in
    let index : 0 + found.0 ≡ found.0 = omega arith in
    let is : met.1 ≡ (found.0, there.0) = there.2 ∙ ap (λ (m : ℕ). (m, there.0)) index in
    both_ways (items_meet there.0 item) (apart found.0 there.0
    (subst (λ (e : ℕ × StreamItem). epoch_of items e.0 ≡ last_epoch items) is (eqb-true (epoch_of items met.1.0) (last_epoch items) found.2)) there.1)
    (subst (λ (e : ℕ × StreamItem). items_meet e.1 item ≡ true) is met.3)))

-- What holds of an item that is taken.

-- the place is the next one, it is a place, and the range lies in the device
pub record IsPlaced (settings : Settings) (at place first count : ℕ) : Type 0 where
  pub next : at ≡ place
  pub room : place < 4294967295
  pub range : is_range settings first count ≡ true

-- a write: its number is above the others, and its blocks are apart
pub record WriteMay (settings : Settings) (write : Write) (at place : ℕ) (items : List StreamItem) : Type 0 where
  pub here : IsPlaced settings at place write.first (length write.contents)
  pub above : IsAbove write.number items
  pub apart : IsApartFrom (WriteItem write) items

-- a block of a resync, while one runs
pub record BlockMay (settings : Settings) (block : ℕ) (contents : List ℕ) (at place : ℕ) (c : SecondaryConnection) : Type 0 where
  pub here : IsPlaced settings at place block 1
  pub resync : is_in_resync c ≡ true
  pub apart : IsApartFrom (ResyncItem block contents) (items_taken c)

-- The tests of an item with blocks, by what they ask.
abbrev pub placed_by : ℕ → ℕ → Settings → ℕ → ℕ → Bool → Bool → Bool
placed_by at place settings first count other apart = (((at == place) && has_place place) && is_range settings first count) && (other && apart)

-- what is asked after the range matters only where that holds
pub placed-alike : (at place : ℕ) (settings : Settings) (first count : ℕ) (other apart others aparts : Bool) → other ≡ others
    → (is_range settings first count ≡ true → apart ≡ aparts)
    → placed_by at place settings first count other apart ≡ placed_by at place settings first count others aparts
placed-alike at place settings first count other apart others aparts same alike =
    go ((at == place) && has_place place) (is_range settings first count) other others same alike
  where
    go : (front range x y : Bool) → x ≡ y → (range ≡ true → apart ≡ aparts) → ((front && range) && (x && apart)) ≡ ((front && range) && (y && aparts))
    go true true x y is alike = λ i. is i && alike refl i
    go true false x y is alike = refl
    go false range x y is alike = refl

placed-has : (at place : ℕ) (settings : Settings) (first count : ℕ) (other apart : Bool) → placed_by at place settings first count other apart ≡ true
    → IsPlaced settings at place first count × ((other ≡ true) × (apart ≡ true))
placed-has at place settings first count other apart good =
    let all = and_parts (((at == place) && has_place place) && is_range settings first count) (other && apart) good in
    let front = and_parts ((at == place) && has_place place) (is_range settings first count) all.0 in
    let two = and_parts (at == place) (has_place place) front.0 in
    (record { next = eqb-true at place two.0; room = ltb-true place 4294967295 two.1; range = front.1 }, and_parts other apart all.1)

placed-from : (at place : ℕ) (settings : Settings) (first count : ℕ) (other apart : Bool) → IsPlaced settings at place first count → other ≡ true
    → apart ≡ true → placed_by at place settings first count other apart ≡ true
placed-from at place settings first count other apart here others aparts =
    and_from _ _ (and_from _ _ (and_from _ _ (eq-eqb at place here.next) (lt-ltb place 4294967295 here.room)) here.range) (and_from _ _ others aparts)

pub write-may : (settings : Settings) (write : Write) (at place : ℕ) (items : List StreamItem)
    → placed_by at place settings write.first (length write.contents) (is_above write.number items) (is_apart (WriteItem write) items) ≡ true
    → WriteMay settings write at place items
write-may settings write at place items good =
    let parts = placed-has at place settings write.first (length write.contents) (is_above write.number items) (is_apart (WriteItem write) items) good in
    record { here = parts.0; above = above-has write.number items parts.1.0; apart = apart-has (WriteItem write) items parts.1.1 }

block-may : (settings : Settings) (block : ℕ) (contents : List ℕ) (at place : ℕ) (c : SecondaryConnection)
    → placed_by at place settings block 1 (is_in_resync c) (is_apart (ResyncItem block contents) (items_taken c)) ≡ true
    → BlockMay settings block contents at place c
block-may settings block contents at place c good =
    let parts = placed-has at place settings block 1 (is_in_resync c) (is_apart (ResyncItem block contents) (items_taken c)) good in
    record { here = parts.0; resync = parts.1.0; apart = apart-has (ResyncItem block contents) (items_taken c) parts.1.1 }

-- The tests of the others.

-- the end of an epoch
abbrev pub barrier_by : ℕ → ℕ → ℕ → Bool
barrier_by number place last = has_place place && (number == last)

-- the begin of a resync
abbrev pub start_by : ℕ → ℕ → Bool
start_by word place = (has_place place && (place == 0)) && nat_lt 0 word

-- it stands first
pub start-first : (word place : ℕ) → start_by word place ≡ true → (place == 0) ≡ true
start-first word place good = (and_parts (has_place place) (place == 0) (and_parts (has_place place && (place == 0)) (nat_lt 0 word) good).0).1

-- the end of a resync
abbrev pub end_by : ℕ → Bool → Bool
end_by place resync = has_place place && resync

-- What holds of each item that is taken, and of each refusal, holds of what is checked.
pub item-checked : (P : Checked → Type 0) (packet : Packet) (place : ℕ) (c : SecondaryConnection) (h : SecondaryHistory)
    → ((write : Write) (at : ℕ) → packet ≡ DataFrame write at → WriteMay h.settings write at place (items_taken c)
    → P (Ok (what.Frame command.Data (Some place), receiving place (WriteItem write) h)))
    → ((block : ℕ) (contents : List ℕ) (at : ℕ) → packet ≡ RsDataReplyFrame block contents at → BlockMay h.settings block contents at place c
    → P (Ok (what.Frame command.RsDataReply (Some place), h)))
    → ((number : ℕ) → packet ≡ BarrierFrame number → P (Ok (what.Frame command.Barrier (Some place), h)))
    → ((word : ℕ) → packet ≡ SyncUuidFrame word
    → P (Ok (what.Frame command.SyncUuid (Some place), adopting (record h.tuple { current = word }) false h)))
    → ((tuple : Tuple) → packet ≡ UuidsFrame tuple → P (Ok (what.Frame command.Uuids (Some place), adopting tuple true h)))
    → ((refusal : Refusal) → P (Err refusal)) → P (checking_item packet place c h)
item-checked P packet place c h writes blocks barriers starts ends refused = go packet refl
  where
    by : (good : Bool) (name : What) (later : SecondaryHistory) → (good ≡ true → P (Ok (name, later))) → P (checked_if good name later)
    by true name later taken = taken refl
    by false name later taken = refused BadField

    go : (p : Packet) → packet ≡ p → P (checking_item p place c h)
    go (DataFrame write at) is = by _ _ _ (λ good. writes write at is (write-may h.settings write at place (items_taken c) good))
    go (RsDataReplyFrame block contents at) is = by _ _ _ (λ good. blocks block contents at is (block-may h.settings block contents at place c good))
    go (BarrierFrame number) is = by _ _ _ (λ good. barriers number is)
    go (SyncUuidFrame word) is = by _ _ _ (λ good. starts word is)
    go (UuidsFrame tuple) is = by _ _ _ (λ good. ends tuple is)
    go p is = refused BadCommand

-- what is tested alike is taken alike
pub checked-alike : {A : Type 0} (R : A → Checked → Type 0) (taken : A) (refused : Refusal → A) (a b : Bool) → a ≡ b → (name : What) (h : SecondaryHistory)
    → (b ≡ true → R taken (Ok (name, h))) → ((refusal : Refusal) → R (refused refusal) (Err refusal))
    → R (if a then taken else refused BadField) (checked_if b name h)
checked-alike R taken refused true true same name h good bad = good refl
checked-alike R taken refused false false same name h good bad = bad BadField
checked-alike R taken refused true false same name h good bad = absurd (cc)
checked-alike R taken refused false true same name h good bad = absurd (cc)

-- Which items are taken.

-- whatever is said of what is taken holds where the test does
taken-if : (P : Checked → Type 0) (good : Bool) (name : What) (h : SecondaryHistory) → good ≡ true → ((done : What × SecondaryHistory) → P (Ok done))
    → P (checked_if good name h)
taken-if P true name h is taken = taken (name, h)
taken-if P false name h is taken = absurd (cc)

module _ (P : Checked → Type 0) (place : ℕ) (c : SecondaryConnection) (h : SecondaryHistory) (taken : (done : What × SecondaryHistory) → P (Ok done)) where
  pub takes-write : (write : Write) (at : ℕ) → WriteMay h.settings write at place (items_taken c) → P (checking_item (DataFrame write at) place c h)
  takes-write write at may = taken-if P _ _ _ (placed-from at place h.settings write.first (length write.contents) _ _ may.here
      (above-by write.number (items_taken c) may.above) (apart-by (WriteItem write) (items_taken c) may.apart)) taken

  pub takes-block : (block : ℕ) (contents : List ℕ) (at : ℕ) → BlockMay h.settings block contents at place c
      → P (checking_item (RsDataReplyFrame block contents at) place c h)
  takes-block block contents at may = taken-if P _ _ _ (placed-from at place h.settings block 1 _ _ may.here may.resync
      (apart-by (ResyncItem block contents) (items_taken c) may.apart)) taken

  pub takes-barrier : (number : ℕ) → place < 4294967295 → number ≡ last_epoch (items_taken c) → P (checking_item (BarrierFrame number) place c h)
  takes-barrier number room last =
      taken-if P _ _ _ (and_from _ _ (lt-ltb place 4294967295 room) (eq-eqb number (last_epoch (items_taken c)) last)) taken

  pub takes-start : (word : ℕ) → place < 4294967295 → place ≡ 0 → 0 < word → P (checking_item (SyncUuidFrame word) place c h)
  takes-start word room first some =
      taken-if P _ _ _ (and_from _ _ (and_from _ _ (lt-ltb place 4294967295 room) (eq-eqb place 0 first)) (lt-ltb 0 word some)) taken

  pub takes-end : (tuple : Tuple) → place < 4294967295 → is_in_resync c ≡ true → P (checking_item (UuidsFrame tuple) place c h)
  takes-end tuple room resync = taken-if P _ _ _ (and_from _ _ (lt-ltb place 4294967295 room) resync) taken

-- What holds of each item that is taken, and of the two refusals, holds of what is checked.
pub item-has : (P : Checked → Type 0) → ((done : What × SecondaryHistory) → P (Ok done)) → P (Err BadField) → P (Err BadCommand) → (packet : Packet) (place : ℕ)
    (c : SecondaryConnection) (h : SecondaryHistory) → P (checking_item packet place c h)
item-has P taken field command packet place c h = go packet
  where
    by : (good : Bool) (name : What) (later : SecondaryHistory) → P (checked_if good name later)
    by true name later = taken (name, later)
    by false name later = field

    go : (p : Packet) → P (checking_item p place c h)
    go (DataFrame write at) = by _ _ _
    go (RsDataReplyFrame block contents at) = by _ _ _
    go (BarrierFrame number) = by _ _ _
    go (SyncUuidFrame word) = by _ _ _
    go (UuidsFrame tuple) = by _ _ _
    go p = command
