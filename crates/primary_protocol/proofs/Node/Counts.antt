-- How many epochs of a stream are open, and how many of its writes are not answered, as a primary's state tells it.
use Rattle.std.proofs.Common.{ℕ, zero, suc, ◌≡◌, ◌+◌, ◌-◌, ◌<◌, inl, inr, Bool, true, false, cond, not, ◌&&◌, ◌||◌, List, [], ◌∷◌, length, map, filter, Some}
use Rattle.std.proofs.Common.{slice_get, refl, sym, ◌∙◌, ap, subst, arith, nat_lt, nat_le, ◌==◌, length-append}
use Rattle.std.specs.Prelude.{if◌then◌else◌}
use Rattle.std.specs.List.{list_any}
use Rattle.std.proofs.lemmas.Bool.{cases_lt, and_parts, lt-ltb, le-ltb, le-leb, lt-leb}
use Rattle.std.proofs.lemmas.List.{map-append}
use Rattle.std.proofs.lemmas.List.Elements.{filter-append}
use Rattle.std.proofs.Math.Bool.{and-true}
use Rattle.blocks.specs.Ranges.{below}
use Rattle.blocks.specs.declared.settings.Settings.{Settings}
use Rattle.epochs.specs.Epochs.{unacknowledged}
use Rattle.model.specs.Stream.{StreamItem, WriteItem, ResyncItem, BarrierItem, SyncUuidItem, UuidsItem, barriers_in, has_blocks, is_write, last_epoch}
use Rattle.model.specs.Stream.{items_of_epoch}
use Rattle.model.specs.Stream.{placed, epoch_of}
use Rattle.model.specs.Primary.{PrimaryHistory, barrier_acknowledged, is_resync, primary_connection, is_established}
use Rattle.model.specs.Status.{open_epochs}
use Rattle.laws.proofs.Rules.EpochEnds.{takes-writes}
use Rattle.laws.proofs.Lists.Each.{each-get}
use Rattle.laws.proofs.Lists.Picks.{pick-filtered}
use Rattle.laws.proofs.Primary.Ends.{established-parts}
use Rattle.laws.proofs.Primary.Homes.{open-at}
use Rattle.laws.proofs.Primary.Sendable.{HasFitEnds, primary_fit}
use Rattle.laws.proofs.Streams.Places.{placed-back}
use Rattle.laws.proofs.Streams.Sendable.{IsSendable, is_work}
use Rattle.primary_protocol.specs.Core.{PrimaryState}
use Rattle.primary_protocol.specs.Leaves.{Leaves, LeavesEpochs}
use Rattle.primary_protocol.specs.Steps.{IsReached}
use Rattle.primary_protocol.proofs.Common.Epochs.{sizes-many}
use Rattle.primary_protocol.proofs.Common.Filters.{any-at}

-- The stream that stands can be sent.
pub sendable : (h : PrimaryHistory) → IsReached h → is_established (primary_connection h) ≡ true
    → (settings : Settings) × IsSendable settings (primary_connection h).stream
sendable h reached standing =
    let fit = subst (HasFitEnds reached.settings) reached.is
    (primary_fit reached.settings reached.disk reached.tuple reached.marks reached.events (takes-writes reached.settings reached.ranges)) in (
      reached.settings,
      (each-get _ h.connections (length h.connections - 1) (primary_connection h) fit.ends
          (open-at h (established-parts (primary_connection h) standing).0)).stream,
    )

-- Lists.

-- a filter lets something through where something passes
some-filtered : {X : Type 0} (p : X → Bool) (xs : List X) → nat_lt 0 (length (filter p xs)) ≡ list_any p xs
some-filtered p [] = le-ltb 0 0 (omega arith)
some-filtered {X} p (x ∷ xs) = elim (p x) as (λ b. nat_lt 0 (length {A = X} (cond b (x ∷ filter p xs) (filter p xs))) ≡ (b || list_any p xs)) [
  | true ↦ lt-ltb 0 (suc (length (filter p xs))) (omega arith)
  | false ↦ some-filtered p xs
]

any-either : {X : Type 0} (p q : X → Bool) (xs : List X) → list_any (λ x. p x || q x) xs ≡ (list_any p xs || list_any q xs)
any-either p q [] = refl
any-either p q (x ∷ xs) = ap (λ b. (p x || q x) || b) (any-either p q xs) ∙ move (p x) (q x) (list_any p xs) (list_any q xs)
  where
    move : (a b c d : Bool) → ((a || b) || (c || d)) ≡ ((a || c) || (b || d))
    move true b c d = refl
    move false true true d = refl
    move false true false d = refl
    move false false c d = refl

-- Epochs.

-- the items of an epoch that have blocks are its work
work-same : (settings : Settings) (items : List StreamItem) (epoch : ℕ) → IsSendable settings items
    → list_any (λ (entry : ℕ × StreamItem). has_blocks entry.1) (items_of_epoch items epoch) ≡ list_any is_work (items_of_epoch items epoch)
work-same settings items epoch s = any-at (λ (entry : ℕ × StreamItem). has_blocks entry.1) is_work (items_of_epoch items epoch) (λ i entry at.
    let there = pick-filtered (λ (entry : ℕ × StreamItem). epoch_of items entry.0 == epoch) (placed items) i entry at in
    let stood = placed-back 0 items there.0 entry there.1 in
    same there.0 entry.1 stood.1)
  where
    same : (place : ℕ) (item : StreamItem) → slice_get items place ≡ Some item → has_blocks item ≡ (is_write item || is_resync item)
    same place (WriteItem write) at =
        let parts = and_parts ((nat_lt 0 (length write.contents) && nat_le (length write.contents) 32)
        && nat_le (write.first + length write.contents) settings.blocks) _ (s.stands place (WriteItem write) at) in
        let sized = and_parts (nat_lt 0 (length write.contents) && nat_le (length write.contents) 32)
        (nat_le (write.first + length write.contents) settings.blocks) parts.0 in
        (and_parts (nat_lt 0 (length write.contents)) (nat_le (length write.contents) 32) sized.0).0
    same place (ResyncItem block contents) at = lt-ltb 0 1 (omega arith)
    same place (BarrierItem epoch) at = le-ltb 0 0 (omega arith)
    same place (SyncUuidItem word) at = le-ltb 0 0 (omega arith)
    same place (UuidsItem tuple) at = le-ltb 0 0 (omega arith)

-- of the first epochs those behind the acknowledged ones are open
count-open : (p : ℕ → Bool) (acked n : ℕ) → ((k : ℕ) → k < n → p (suc k) ≡ not (nat_le (suc k) acked)) → length (filter p (map suc (below n))) ≡ n - acked
count-open p acked zero same = omega arith
count-open p acked (suc n) same =
    ap (λ (l : List ℕ). length (filter p l)) (map-append suc (below n) (n ∷ []))
    ∙ (ap length (filter-append p (map suc (below n)) (suc n ∷ []))
    ∙ (length-append (filter p (map suc (below n))) (filter p (suc n ∷ []))
    ∙ last (count-open p acked n (λ k less. same k (omega arith)))))
  where
    last : length (filter p (map suc (below n))) ≡ n - acked → length (filter p (map suc (below n))) + length (filter p (suc n ∷ [])) ≡ suc n - acked
    last before = elim (cases_lt acked (suc n)) [
      | inl behind ↦
          let passes : p (suc n) ≡ true = same n (omega arith) ∙ ap not (lt-leb (suc n) acked behind) in
          let one : length (filter p (suc n ∷ [])) ≡ 1 = ap (λ b. length (cond b (suc n ∷ []) [])) passes in
          omega arith
      | inr within ↦
          let fails : p (suc n) ≡ false = same n (omega arith) ∙ ap not (le-leb (suc n) acked within) in
          let none : length (filter p (suc n ∷ [])) ≡ 0 = ap (λ b. length (cond b (suc n ∷ []) [])) fails in
          omega arith
    ]

-- How many epochs with an item are not acknowledged.
pub says-epochs : (s : PrimaryState) (h : PrimaryHistory) → IsReached h → Leaves s h → unacknowledged s.log.epochs ≡ open_epochs h
says-epochs s h reached left = go (is_established (primary_connection h)) refl
  where
    p : ℕ → Bool
    p epoch = list_any (λ (entry : ℕ × StreamItem). has_blocks entry.1) (items_of_epoch (primary_connection h).stream epoch)
        && not (barrier_acknowledged (primary_connection h) epoch)

    one_if : Bool → ℕ
    one_if b = if b then 1 else 0

    go : (b : Bool) → is_established (primary_connection h) ≡ b
        → unacknowledged s.log.epochs ≡ (if b then length (filter p (map suc (below (last_epoch (primary_connection h).stream))))
        else 0)
    go false is = ap unacknowledged (left.stream.off is) ∙ ap (λ b. 0 + (if b || false then 1 else 0)) (le-ltb 0 0 (omega arith))
    go true is =
        let e = left.stream.on is in
        let send = (sendable h reached is).1 in
        let many = sizes-many s.log (primary_connection h) e in
        let front : length (filter p (map suc (below b))) ≡ b - e.acked = count-open p e.acked b (λ k less.
        (λ i. (work-same (sendable h reached is).0 (primary_connection h).stream (suc k) send ∙ send.filled (suc k) (omega arith) (omega arith)) i
        && not (e.acknowledged (suc k) (omega arith) i))) in
        let last : p (suc b) ≡ (nat_lt 0 s.log.epochs.size || s.log.epochs.resync) = λ i. ends e send i in
        sym (ap (λ (l : List ℕ). length (filter p l)) (map-append suc (below b) (b ∷ []))
        ∙ (ap length (filter-append p (map suc (below b)) (suc b ∷ []))
        ∙ (length-append (filter p (map suc (below b))) (filter p (suc b ∷ []))
        ∙ (ap (λ n. n + length (filter p (suc b ∷ []))) (front ∙ omega arith)
        ∙ ap (λ n. length s.log.epochs.sizes + n) (single (p (suc b)) ∙ ap one_if last)))))
      where
        b : ℕ
        b = barriers_in (primary_connection h).stream

        single : (passes : Bool) → length (cond passes (suc (barriers_in (primary_connection h).stream) ∷ []) []) ≡ one_if passes
        single true = refl
        single false = refl

        ends : (e : LeavesEpochs s.log (primary_connection h)) → IsSendable (sendable h reached is).0 (primary_connection h).stream
            → p (suc (barriers_in (primary_connection h).stream)) ≡ (nat_lt 0 s.log.epochs.size || s.log.epochs.resync)
        ends e send =
            let within = e.within in
            let open_still : barrier_acknowledged (primary_connection h) (suc b) ≡ false = e.acknowledged (suc b) (omega arith)
            ∙ lt-leb (suc b) e.acked (omega arith) in
            (λ i. list_any (λ (entry : ℕ × StreamItem). has_blocks entry.1) (items_of_epoch (primary_connection h).stream (suc b)) && not (open_still i))
            ∙ (and-true (list_any (λ (entry : ℕ × StreamItem). has_blocks entry.1) (items_of_epoch (primary_connection h).stream (suc b)))
            ∙ (work-same (sendable h reached is).0 (primary_connection h).stream (suc b) send
            ∙ (any-either (λ (entry : ℕ × StreamItem). is_write entry.1) (λ (entry : ℕ × StreamItem). is_resync entry.1)
            (items_of_epoch (primary_connection h).stream (suc b))
            ∙ (λ i. (sym (some-filtered (λ (entry : ℕ × StreamItem). is_write entry.1) (items_of_epoch (primary_connection h).stream (suc b)))
            ∙ ap (nat_lt 0) (sym e.size)) i
            || sym e.resync i))))
