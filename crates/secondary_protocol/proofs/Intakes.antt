-- What is kept of a stream, with one item more.
use Rattle.std.proofs.Common.{ℕ, suc, ◌≡◌, ◌<◌, ◌+◌, Bool, true, false, cond, not, ◌&&◌, ◌||◌, List, [], ◌∷◌, ◌++◌, length, filter, refl, sym, ◌∙◌, ap, arith}
use Rattle.std.proofs.Common.{◌==◌, max, zero, slice_get, map, Some, inl, inr, subst, ◌≤◌}
use Rattle.std.specs.List.{list_any}
use Rattle.std.proofs.lemmas.Bool.{both_ways, eq-eqb}
use Rattle.std.proofs.lemmas.Bool.Decides.{nat_tests}
use Rattle.std.proofs.lemmas.List.{map-append, length-append, append-nil}
use Rattle.std.proofs.lemmas.List.Elements.{filter-append}
use Rattle.std.proofs.lemmas.List.Folds.{list_any-append}
use Rattle.std.proofs.Math.Nat.{max-zero}
use Rattle.blocks.specs.declared.tuple.Tuple.{Tuple}
use Rattle.model.specs.Contents.{Write}
use Rattle.model.specs.Stream.{StreamItem, WriteItem, ResyncItem, BarrierItem, SyncUuidItem, UuidsItem, is_write, is_barrier, number_of, first_of, contents_of}
use Rattle.model.specs.Stream.{below}
use Rattle.model.specs.Stream.{last_epoch, items_of_epoch, items_meet, barriers_in}
use Rattle.model.specs.Primary.{in_resync, is_sync_start, is_sync_end}
use Rattle.laws.specs.Reflections.{touches}
use Rattle.laws.proofs.Blocks.Ranges.{touches-nothing}
use Rattle.laws.proofs.Streams.Places.{barriers-append}
use Rattle.laws.proofs.Streams.Lawful.{epoch-items-grow, epoch-empty}
use Rattle.laws.proofs.Lists.Elements.{get-more}
use Rattle.peerdisk.specs.Blocks.{flags, has, is_set, none_of, adding}
use Rattle.laws.proofs.Lists.Picks.{below-has}
use Rattle.secondary_protocol.proofs.Apart.{blocks-meet}
use Rattle.secondary_protocol.specs.Core.{is_apart, nothing_taken, Intake, and_item}
use Rattle.secondary_protocol.specs.Leaves.{highest_in, intake_of}
use Rattle.laws.proofs.Rules.TakenItems.{IsAbove}

-- Numbers.

max-assoc : (a b c : ℕ) → max a (max b c) ≡ max (max a b) c
max-assoc a b c = omega arith

some-not-none : (n : ℕ) → (suc n == 0) ≡ false
some-not-none n = grind (arith, nat_tests)

same-number : (n : ℕ) → (n == n) ≡ true
same-number n = eq-eqb n n refl

-- the highest number with one item more
highest-more : (items : List StreamItem) (item : StreamItem) → highest_in (items ++ item ∷ []) ≡ max (highest_in items) (number_of item)
highest-more [] item = omega arith
highest-more (x ∷ items) item = ap (max (number_of x)) (highest-more items item) ∙ max-assoc (number_of x) (highest_in items) (number_of item)

-- The last epoch.

-- an item more of the last epoch, where it is no barrier
last-more : (items : List StreamItem) (item : StreamItem) → is_barrier item ≡ false → last_epoch (items ++ item ∷ []) ≡ last_epoch items
last-more items item plain =
    let one : barriers_in (item ∷ []) ≡ 0 = ap (λ b. length {A = StreamItem} (cond b (item ∷ []) [])) plain in
    let all = barriers-append items (item ∷ []) in
    omega arith

last-barrier : (items : List StreamItem) (epoch : ℕ) → last_epoch (items ++ BarrierItem epoch ∷ []) ≡ suc (last_epoch items)
last-barrier items epoch = let all = barriers-append items (BarrierItem epoch ∷ []) in omega arith

-- the items of the last epoch, with one more
items-more : (items : List StreamItem) (item : StreamItem) → is_barrier item ≡ false
    → items_of_epoch (items ++ item ∷ []) (last_epoch (items ++ item ∷ [])) ≡ items_of_epoch items (last_epoch items) ++ (length items, item) ∷ []
items-more items item plain =
    ap (items_of_epoch (items ++ item ∷ [])) (last-more items item plain)
    ∙ (epoch-items-grow items item (last_epoch items)
    ∙ ap (λ b. items_of_epoch items (last_epoch items) ++ cond b ((length items, item) ∷ []) []) (same-number (last_epoch items)))

items-barrier : (items : List StreamItem) (epoch : ℕ) → items_of_epoch (items ++ BarrierItem epoch ∷ []) (last_epoch (items ++ BarrierItem epoch ∷ [])) ≡ []
items-barrier items epoch =
    let other : (last_epoch items == suc (last_epoch items)) ≡ false = grind (arith, nat_tests) in
    ap (items_of_epoch (items ++ BarrierItem epoch ∷ [])) (last-barrier items epoch)
    ∙ (epoch-items-grow items (BarrierItem epoch) (suc (last_epoch items))
    ∙ (ap (λ b. items_of_epoch items (suc (last_epoch items)) ++ cond b ((length items, BarrierItem epoch) ∷ []) []) other
    ∙ (append-nil (items_of_epoch items (suc (last_epoch items))) ∙ epoch-empty items (suc (last_epoch items)) (omega arith))))

-- how many writes some items have
abbrev writes_among : List (ℕ × StreamItem) → ℕ
writes_among entries = length (filter (λ entry. is_write entry.1) entries)

-- an equation for each field
intake-is : (a b : Intake) → a.places ≡ b.places → a.highest ≡ b.highest → a.barriers ≡ b.barriers → a.writes ≡ b.writes → a.blocks ≡ b.blocks
    → a.resync ≡ b.resync → a ≡ b
intake-is a b places highest barriers writes blocks resync =
    λ i. record { places = places i; highest = highest i; barriers = barriers i; writes = writes i; blocks = blocks i; resync = resync i }

-- One item more.

-- which blocks the items of the last epoch have
abbrev last-has : List StreamItem → ℕ → Bool
last-has items block = list_any (λ entry. touches entry.1 block) (items_of_epoch items (last_epoch items))

-- the flags of two tests that agree
flags-same : (size : ℕ) (f g : ℕ → Bool) → ((block : ℕ) → block < size → f block ≡ g block) → flags size f ≡ flags size g
flags-same zero f g same = refl
flags-same (suc n) f g same =
    map-append f (below n) (n ∷ []) ∙ ((λ i. flags-same n f g (λ block less. same block (omega arith)) i ++ same n (omega arith) i ∷ [])
    ∙ sym (map-append g (below n) (n ∷ [])))

-- so many flags
flags-length : (size : ℕ) (f : ℕ → Bool) → length (flags size f) ≡ size
flags-length zero f = refl
flags-length (suc n) f = ap length (map-append f (below n) (n ∷ []))
    ∙ (length-append (flags n f) (f n ∷ []) ∙ (ap (λ k. k + 1) (flags-length n f) ∙ omega arith))

-- the flag of a block
pub flags-has : (size : ℕ) (f : ℕ → Bool) (block : ℕ) → block < size → has (flags size f) block ≡ f block
flags-has size f block less =
    let there = below-has size block less in
    ap is_set (get-map f (below size) there.0 block there.1 (index-is size there.0 block there.1))
  where
    index-is : (size n block : ℕ) → slice_get (below size) n ≡ Some block → n ≡ block
    index-is zero n block at = absurd (cc)
    index-is (suc size) n block at = elim (get-more (below size) size n block at) [
      | inl old ↦ index-is size n block old
      | inr new ↦ new.0 ∙ (below-length size ∙ sym new.1)
    ]
      where
        below-length : (n : ℕ) → length (below n) ≡ n
        below-length zero = refl
        below-length (suc n) = length-append (below n) (n ∷ []) ∙ (ap (λ k. k + 1) (below-length n) ∙ omega arith)

    get-map : (f : ℕ → Bool) (xs : List ℕ) (n block : ℕ) → slice_get xs n ≡ Some block → n ≡ block → slice_get (map f xs) block ≡ Some (f block)
    get-map f xs n block at same = subst (λ (k : ℕ). slice_get (map f xs) k ≡ Some (f block)) same (go xs n at)
      where
        go : (xs : List ℕ) (n : ℕ) → slice_get xs n ≡ Some block → slice_get (map f xs) n ≡ Some (f block)
        go [] n at = absurd (cc)
        go (x ∷ xs) zero at = let is : x ≡ block = cc in ap (λ (k : ℕ). Some (f k)) is
        go (x ∷ xs) (suc n) at = go xs n at

-- the blocks of the last epoch's items, with one more
blocks-more : (size : ℕ) (items : List StreamItem) (item : StreamItem) → is_barrier item ≡ false
    → (intake_of size (items ++ item ∷ [])).blocks ≡ adding (first_of item) (length (contents_of item)) (intake_of size items).blocks
blocks-more size items item plain =
    flags-same size (last-has (items ++ item ∷ [])) (λ block. has (flags size (last-has items)) block || touches item block) (λ block less.
    ap (list_any (λ (entry : ℕ × StreamItem). touches entry.1 block)) (items-more items item plain)
    ∙ (list_any-append (λ (entry : ℕ × StreamItem). touches entry.1 block) (items_of_epoch items (last_epoch items)) ((length items, item) ∷ [])
    ∙ (ap (λ b. last-has items block || b) (or-none (touches item block))
    ∙ ap (λ b. b || touches item block) (sym (flags-has size (last-has items) block less)))))
    ∙ ap (λ n. flags n (λ block. has (flags size (last-has items)) block || touches item block)) (sym (flags-length size (last-has items)))
  where
    or-none : (b : Bool) → (b || false) ≡ b
    or-none true = refl
    or-none false = refl

-- and without one that touches nothing
blocks-same : (size : ℕ) (items : List StreamItem) (item : StreamItem) → is_barrier item ≡ false → ((block : ℕ) → touches item block ≡ false)
    → (intake_of size (items ++ item ∷ [])).blocks ≡ (intake_of size items).blocks
blocks-same size items item plain none = flags-same size (last-has (items ++ item ∷ [])) (last-has items) (λ block less.
    ap (list_any (λ (entry : ℕ × StreamItem). touches entry.1 block)) (items-more items item plain)
    ∙ (list_any-append (λ (entry : ℕ × StreamItem). touches entry.1 block) (items_of_epoch items (last_epoch items)) ((length items, item) ∷ [])
    ∙ (ap (λ b. last-has items block || (b || false)) (none block) ∙ or-none (last-has items block))))
  where
    or-none : (b : Bool) → (b || (false || false)) ≡ b
    or-none true = refl
    or-none false = refl

-- the writes of the last epoch
writes-more : (items : List StreamItem) (item : StreamItem) → is_barrier item ≡ false
    → (intake_of 0 (items ++ item ∷ [])).writes ≡ (intake_of 0 items).writes + writes_among ((length items, item) ∷ [])
writes-more items item plain =
    ap writes_among (items-more items item plain)
    ∙ (ap length (filter-append (λ (entry : ℕ × StreamItem). is_write entry.1) (items_of_epoch items (last_epoch items)) ((length items, item) ∷ []))
    ∙ length-append (filter (λ (entry : ℕ × StreamItem). is_write entry.1) (items_of_epoch items (last_epoch items)))
    (filter (λ (entry : ℕ × StreamItem). is_write entry.1) ((length items, item) ∷ [])))

barriers-more : (items : List StreamItem) (item : StreamItem) → is_barrier item ≡ false → barriers_in (items ++ item ∷ []) ≡ barriers_in items
barriers-more items item plain =
    let one : barriers_in (item ∷ []) ≡ 0 = ap (λ b. length {A = StreamItem} (cond b (item ∷ []) [])) plain in
    let all = barriers-append items (item ∷ []) in
    omega arith

places-more : (items : List StreamItem) (item : StreamItem) → length (items ++ item ∷ []) ≡ suc (length items)
places-more items item = length-append items (item ∷ []) ∙ omega arith

-- an item that neither begins nor ends a resync
resync-same : (items : List StreamItem) (item : StreamItem) → is_sync_start item ≡ false → is_sync_end item ≡ false
    → in_resync (items ++ item ∷ []) ≡ in_resync items
resync-same items item start end =
    let one = list_any-append is_sync_start items (item ∷ []) in
    let two = list_any-append is_sync_end items (item ∷ []) in
    rw (one, two, start, end) (same (list_any is_sync_start items) (list_any is_sync_end items))
  where
    same : (a b : Bool) → ((a || false) && not (b || false)) ≡ (a && not b)
    same true true = refl
    same true false = refl
    same false b = refl

-- a write, whose number is above those before
pub intake-write : (size : ℕ) (items : List StreamItem) (write : Write) → IsAbove write.number items
    → intake_of size (items ++ WriteItem write ∷ []) ≡ and_item (WriteItem write) (intake_of size items)
intake-write size items write above = intake-is _ _ (places-more items (WriteItem write)) (highest-more items (WriteItem write)
    ∙ top items above) (barriers-more items (WriteItem write) refl)
    (writes-more items (WriteItem write) refl ∙ omega arith) (blocks-more size items (WriteItem write) refl) (resync-same items (WriteItem write) refl refl)
  where
    top : (items : List StreamItem) → IsAbove write.number items → max (highest_in items) write.number ≡ write.number
    top [] all = omega arith
    top (x ∷ items) all = let first = all 0 x refl in let rest = top items (λ k y at. all (suc k) y at) in omega arith

-- a block of a resync
pub intake-resync : (size : ℕ) (items : List StreamItem) (block : ℕ) (contents : List ℕ)
    → intake_of size (items ++ ResyncItem block contents ∷ []) ≡ and_item (ResyncItem block contents) (intake_of size items)
intake-resync size items block contents = intake-is _ _ (places-more items (ResyncItem block contents)) (highest-more items (ResyncItem block contents)
    ∙ max-zero (highest_in items)) (barriers-more items (ResyncItem block contents) refl)
    (writes-more items (ResyncItem block contents) refl ∙ omega arith) (blocks-more size items (ResyncItem block contents) refl)
    (resync-same items (ResyncItem block contents) refl refl)

-- the end of an epoch
pub intake-barrier : (size : ℕ) (items : List StreamItem) (epoch : ℕ)
    → intake_of size (items ++ BarrierItem epoch ∷ []) ≡ and_item (BarrierItem epoch) (intake_of size items)
intake-barrier size items epoch = intake-is _ _ (places-more items (BarrierItem epoch)) (highest-more items (BarrierItem epoch)
    ∙ max-zero (highest_in items)) (let all = barriers-append items (BarrierItem epoch ∷ []) in omega arith)
    (ap writes_among (items-barrier items epoch))
    (flags-same size (last-has (items ++ BarrierItem epoch ∷ [])) (λ block. false)
    (λ block less. ap (list_any (λ (entry : ℕ × StreamItem). touches entry.1 block)) (items-barrier items epoch))
    ∙ ap none_of (sym (flags-length size (last-has items)))) (resync-same items (BarrierItem epoch) refl refl)

-- the first item of a resync, at the first place
pub intake-start : (size : ℕ) (items : List StreamItem) (word : ℕ) → (length items == 0) ≡ true
    → intake_of size (items ++ SyncUuidItem word ∷ []) ≡ and_item (SyncUuidItem word) (intake_of size items)
intake-start size [] word none = intake-is _ _ refl refl refl refl (blocks-same size [] (SyncUuidItem word) refl (touches-nothing 0)) refl
intake-start size (x ∷ items) word none = absurd (both_ways (suc (length items) == 0) (some-not-none (length items)) none)

-- the end of a resync
pub intake-end : (size : ℕ) (items : List StreamItem) (tuple : Tuple)
    → intake_of size (items ++ UuidsItem tuple ∷ []) ≡ and_item (UuidsItem tuple) (intake_of size items)
intake-end size items tuple = intake-is _ _ (places-more items (UuidsItem tuple)) (highest-more items (UuidsItem tuple)
    ∙ max-zero (highest_in items)) (barriers-more items (UuidsItem tuple) refl)
    (writes-more items (UuidsItem tuple) refl ∙ omega arith) (blocks-same size items (UuidsItem tuple) refl (touches-nothing 0)) over
  where
    over : in_resync (items ++ UuidsItem tuple ∷ []) ≡ false
    over =
        let two = list_any-append is_sync_end items (UuidsItem tuple ∷ []) in
        rw two (ended (list_any is_sync_start (items ++ UuidsItem tuple ∷ [])) (list_any is_sync_end items))
      where
        ended : (a b : Bool) → (a && not (b || true)) ≡ false
        ended true true = refl
        ended true false = refl
        ended false b = refl

-- An item of the device is apart from those of the last epoch exactly where none of its blocks is one of theirs.
pub apart-by-blocks : (size : ℕ) (items : List StreamItem) (item : StreamItem) → first_of item + length (contents_of item) ≤ size
    → not (list_any (λ (entry : ℕ × StreamItem). items_meet entry.1 item) (items_of_epoch items (last_epoch items))) ≡
    is_apart (first_of item) (length (contents_of item)) (intake_of size items)
apart-by-blocks size items item inside = blocks-meet items item
    ∙ ap not (any-below (length (contents_of item)) (λ offset less. sym (flags-has size (last-has items) (first_of item + offset) (omega arith))))
  where
    any-below : {p q : ℕ → Bool} (n : ℕ) → ((offset : ℕ) → offset < n → p offset ≡ q offset) → list_any p (below n) ≡ list_any q (below n)
    any-below zero same = refl
    any-below {p} {q} (suc n) same =
        list_any-append p (below n) (n ∷ []) ∙ ((λ i. any-below n (λ offset less. same offset (omega arith)) i || (same n (omega arith) i || false))
        ∙ sym (list_any-append q (below n) (n ∷ [])))

-- what is kept where nothing was taken
pub intake-none : (size : ℕ) → nothing_taken size ≡ intake_of size []
intake-none size = intake-is _ _ refl refl refl refl (flags-same size (λ block. false) (last-has []) (λ block less. refl)) refl
