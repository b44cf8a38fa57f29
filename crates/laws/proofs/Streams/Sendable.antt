-- What may stand in a primary's stream beside being lawful: ranges of the device, the order of a resync, and so few items that
-- each has a place.
use Rattle.std.proofs.Common.{ℕ, ◌≡◌, ◌+◌, ◌≤◌, ◌<◌, inl, inr, Bool, true, false, cond, not, ◌&&◌, ◌||◌, List, [], ◌∷◌, ◌++◌, length, take, Some, slice_get}
use Rattle.std.proofs.Common.{refl, sym, ◌∙◌, ap, subst, arith, ◌==◌, length-append}
use Rattle.std.specs.List.{list_any}
use Rattle.std.proofs.lemmas.Bool.{cases_lt, or_left, both_ways}
use Rattle.std.proofs.lemmas.List.Folds.{list_any-append}
use Rattle.std.proofs.lemmas.List.{take-append-le}
use Rattle.std.proofs.Math.Seq.{take-append_seam}
use Rattle.std.proofs.lemmas.Option.{slice_get_within}
use Rattle.blocks.specs.declared.settings.Settings.{Settings}
use Rattle.blocks.specs.declared.tuple.Tuple.{Tuple}
use Rattle.model.specs.Contents.{is_range}
use Rattle.model.specs.Stream.{StreamItem, WriteItem, ResyncItem, BarrierItem, SyncUuidItem, UuidsItem, is_barrier, is_write, barriers_in, last_epoch}
use Rattle.model.specs.Stream.{items_of_epoch}
use Rattle.model.specs.Primary.{is_resync, is_sync_start, is_sync_end, in_resync}
use Rattle.laws.proofs.Lists.Elements.{get-more}
use Rattle.laws.proofs.Streams.Places.{barriers-append}
use Rattle.laws.proofs.Streams.Lawful.{epoch-items-grow, barrier-empties}

-- What is asked of an item by what stands before it: its blocks are a range of the device; SYNC_UUID comes first and its word
-- is not zero; resync blocks and closing UUIDS come in a resync.
abbrev pub MayStand : Settings → List StreamItem → StreamItem → Type 0
MayStand settings front (WriteItem write) = is_range settings write.first (length write.contents) ≡ true
MayStand settings front (ResyncItem block contents) = (is_range settings block 1 ≡ true) × (in_resync front ≡ true)
MayStand settings front (BarrierItem epoch) = Unit {0}
MayStand settings front (SyncUuidItem word) = (front ≡ []) × (0 < word)
MayStand settings front (UuidsItem tuple) = in_resync front ≡ true

-- a write or a block of a resync
abbrev pub is_work : ℕ × StreamItem → Bool
is_work entry = is_write entry.1 || is_resync entry.1

-- the last epoch has a write or a block of a resync, so a barrier may follow
abbrev pub is_busy : List StreamItem → Bool
is_busy items = list_any is_work (items_of_epoch items (last_epoch items))

-- one where it holds, and none where not
abbrev pub one_if : Bool → ℕ
one_if true = 1
one_if false = 0

-- A stream in which each item may stand, where a barrier and the end of a resync still have places, and each epoch that ended
-- has a write or a block of a resync.
pub record IsSendable (settings : Settings) (items : List StreamItem) : Type 0 where
  pub stands : (place : ℕ) (item : StreamItem) → slice_get items place ≡ Some item → MayStand settings (take place items) item
  pub short : length items + one_if (is_busy items) + one_if (in_resync items) ≤ 4294967290
  pub filled : (epoch : ℕ) → 0 < epoch → epoch ≤ barriers_in items → list_any is_work (items_of_epoch items epoch) ≡ true

-- what an epoch has, it has as the stream grows
work-grows : (items : List StreamItem) (item : StreamItem) (epoch : ℕ) → list_any is_work (items_of_epoch items epoch) ≡ true
    → list_any is_work (items_of_epoch (items ++ item ∷ []) epoch) ≡ true
work-grows items item epoch some =
    ap (list_any is_work) (epoch-items-grow items item epoch)
    ∙ (list_any-append is_work (items_of_epoch items epoch) (cond (last_epoch items == epoch) ((length items, item) ∷ []) [])
    ∙ or_left (list_any is_work (items_of_epoch items epoch)) (list_any is_work (cond (last_epoch items == epoch) ((length items, item) ∷ []) [])) some)

-- an item goes to its end that may stand there, and there is room
sendable-append : (settings : Settings) (items : List StreamItem) (item : StreamItem) → IsSendable settings items → MayStand settings items item
    → (is_barrier item ≡ true → is_busy items ≡ true)
    → length items + 1 + one_if (is_busy (items ++ item ∷ [])) + one_if (in_resync (items ++ item ∷ [])) ≤ 4294967290 → IsSendable settings (items ++ item ∷ [])
sendable-append settings items item s may ends room = record {
  stands = λ place x at. elim (get-more items item place x at) [
    | inl old ↦ subst (λ (l : List StreamItem). MayStand settings l x)
        (sym (take-append-le place items (item ∷ []) (let n = slice_get_within items place x old in omega arith))) (s.stands place x old)
    | inr new ↦
        let front : take place (items ++ item ∷ []) ≡ items = ap (λ n. take n (items ++ item ∷ [])) new.0 ∙ take-append_seam items (item ∷ []) in
        subst (λ (l : List StreamItem). MayStand settings l x) (sym front) (subst (MayStand settings items) (sym new.1) may)
  ];
  short = let long : length (items ++ item ∷ []) ≡ length items + 1 = length-append items (item ∷ []) in omega arith;
  filled = λ epoch low within. work-grows items item epoch (elim (cases_lt (barriers_in items) epoch) [
    | inr old ↦ s.filled epoch low old
    | inl new ↦
        let parts = barriers-append items (item ∷ []) in
        last epoch (is_barrier item) refl (omega arith) new
  ]);
}
  where
    one : (b : Bool) → is_barrier item ≡ b → barriers_in (item ∷ []) ≡ one_if b
    one true is = ap (λ b. length (cond b (item ∷ []) [])) is
    one false is = ap (λ b. length (cond b (item ∷ []) [])) is

    last : (epoch : ℕ) (b : Bool) → is_barrier item ≡ b → epoch ≤ barriers_in items + barriers_in (item ∷ []) → barriers_in items < epoch
        → list_any is_work (items_of_epoch items epoch) ≡ true
    last epoch false is within new = absurd (let none = one false is in omega arith)
    last epoch true is within new =
        let single = one true is in
        let same : epoch ≡ last_epoch items = omega arith in
        ap (λ n. list_any is_work (items_of_epoch items n)) same ∙ ends is

at-most-one : (b : Bool) → one_if b ≤ 1
at-most-one true = omega arith
at-most-one false = omega arith

-- a write or a resync block, where there are so few items
pub sendable-work : (settings : Settings) (items : List StreamItem) (item : StreamItem) → IsSendable settings items → MayStand settings items item
    → is_barrier item ≡ false
    → length items < 4294967288 → IsSendable settings (items ++ item ∷ [])
sendable-work settings items item s may plain few =
    let a = at-most-one (is_busy (items ++ item ∷ [])) in
    let b = at-most-one (in_resync (items ++ item ∷ [])) in
    sendable-append settings items item s may (λ ends. absurd (both_ways (is_barrier item) plain ends)) (omega arith)

-- an item that neither begins nor ends a resync leaves it
resync-stays : (items : List StreamItem) (item : StreamItem) → is_sync_start item ≡ false → is_sync_end item ≡ false
    → in_resync (items ++ item ∷ []) ≡ in_resync items
resync-stays items item start end = go (list_any is_sync_start items) (list_any is_sync_end items) (list_any-append is_sync_start items (item ∷ []))
    (list_any-append is_sync_end items (item ∷ []))
  where
    go : (a b : Bool) → list_any is_sync_start (items ++ item ∷ []) ≡ (a || (is_sync_start item || false))
        → list_any is_sync_end (items ++ item ∷ []) ≡ (b || (is_sync_end item || false))
        → in_resync (items ++ item ∷ []) ≡ (a && not b)
    go true true one two = rw (one, two) refl
    go true false one two = rw (one, two, end) refl
    go false b one two = rw (one, start) refl

-- a barrier, behind a busy epoch
pub sendable-barrier : (settings : Settings) (items : List StreamItem) → IsSendable settings items → is_busy items ≡ true
    → IsSendable settings (items ++ BarrierItem (last_epoch items) ∷ [])
sendable-barrier settings items s busy =
    let item : StreamItem = BarrierItem (last_epoch items) in
    let idle : is_busy (items ++ item ∷ []) ≡ false = ap (list_any is_work) (barrier-empties items (last_epoch items)) in
    let same : in_resync (items ++ item ∷ []) ≡ in_resync items = resync-stays items item refl refl in
    let short = s.short in
    let one : one_if (is_busy items) ≡ 1 = ap one_if busy in
    let two : one_if (is_busy (items ++ item ∷ [])) ≡ 0 = ap one_if idle in
    let three : one_if (in_resync (items ++ item ∷ [])) ≡ one_if (in_resync items) = ap one_if same in
    sendable-append settings items item s tt (λ _. busy) (omega arith)

-- the end of a resync leaves the last epoch as busy as it was
busy-stays : (items : List StreamItem) (tuple : Tuple) → is_busy (items ++ UuidsItem tuple ∷ []) ≡ is_busy items
busy-stays items tuple =
    let item : StreamItem = UuidsItem tuple in
    let grown = barriers-append items (item ∷ []) in
    let same : last_epoch (items ++ item ∷ []) ≡ last_epoch items = omega arith in
    let rest : (b : Bool) → list_any is_work (cond b ((length items, item) ∷ []) []) ≡ false =
    λ b. elim b as (λ t. list_any is_work (cond t ((length items, item) ∷ []) []) ≡ false) [ true ↦ refl | false ↦ refl ] in
    ap (λ n. list_any is_work (items_of_epoch (items ++ item ∷ []) n)) same
    ∙ (ap (list_any is_work) (epoch-items-grow items item (last_epoch items))
    ∙ (list_any-append is_work (items_of_epoch items (last_epoch items)) (cond (last_epoch items == last_epoch items) ((length items, item) ∷ []) [])
    ∙ (ap (λ b. is_busy items || b) (rest (last_epoch items == last_epoch items)) ∙ plain (is_busy items))))
  where
    plain : (b : Bool) → (b || false) ≡ b
    plain true = refl
    plain false = refl

-- the end of a resync, where one runs
pub sendable-end : (settings : Settings) (items : List StreamItem) (tuple : Tuple) → IsSendable settings items → in_resync items ≡ true
    → IsSendable settings (items ++ UuidsItem tuple ∷ [])
sendable-end settings items tuple s running =
    let item : StreamItem = UuidsItem tuple in
    let over : in_resync (items ++ item ∷ []) ≡ false = ended (list_any is_sync_start (items ++ item ∷ [])) (list_any is_sync_end items)
    (list_any-append is_sync_end items (item ∷ [])) in
    let short = s.short in
    let one : one_if (in_resync items) ≡ 1 = ap one_if running in
    let two : one_if (in_resync (items ++ item ∷ [])) ≡ 0 = ap one_if over in
    let three : one_if (is_busy (items ++ item ∷ [])) ≡ one_if (is_busy items) = ap one_if (busy-stays items tuple) in
    sendable-append settings items item s running (λ ends. absurd (cc)) (omega arith)
  where
    ended : (a b : Bool) → list_any is_sync_end (items ++ UuidsItem tuple ∷ []) ≡ (b || (true || false))
        → (a && not (list_any is_sync_end (items ++ UuidsItem tuple ∷ []))) ≡ false
    ended true true is = ap not is
    ended true false is = ap not is
    ended false b is = refl

-- nothing
pub sendable-empty : (settings : Settings) → IsSendable settings []
sendable-empty settings = record { stands = λ place item at. absurd (cc); short = omega arith; filled = λ epoch low within. absurd (omega arith) }

-- the start of a resync
pub sendable-start : (settings : Settings) (word : ℕ) → 0 < word → IsSendable settings (SyncUuidItem word ∷ [])
sendable-start settings word fresh = sendable-work settings [] (SyncUuidItem word) (sendable-empty settings) (refl, fresh) refl (omega arith)
