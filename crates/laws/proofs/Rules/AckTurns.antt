-- Which acknowledgement of an epoch is in turn: what holds where one is, and that such a one is.
use Rattle.std.proofs.Common.{ℕ, zero, suc, ◌≡◌, ◌+◌, ◌<◌, ◌⊎◌, inl, inr, Bool, true, false, cond, not, ◌&&◌, List, [], ◌∷◌, take, Option, Some, None}
use Rattle.std.proofs.Common.{slice_get, refl, sym, ◌∙◌, ap, subst, arith, ◌==◌}
use Rattle.std.specs.Prelude.{find}
use Rattle.std.specs.List.{list_all}
use Rattle.std.proofs.lemmas.Bool.{cases_Bool, and_parts, and_from, not-true, not-false, eqb-true, eq-eqb}
use Rattle.blocks.specs.declared.settings.Protocol.{Protocol}
use Rattle.blocks.specs.declared.settings.Protocol.TheVariants as protocol
use Rattle.model.specs.Contents.{Write}
use Rattle.model.specs.Stream.{StreamItem, WriteItem, ResyncItem, BarrierItem, SyncUuidItem, UuidsItem, epoch_of, epoch_size, items_of_epoch, placed}
use Rattle.model.specs.Primary.{PrimaryConnection, PrimaryHistory, primary_connection, items_sent, was_resynced, barrier_acknowledged, is_answered_by}
use Rattle.model.specs.Acknowledgements.{is_acknowledged, is_unacknowledged, oldest_barrier, is_barrier_of, is_in_turn}
use Rattle.laws.proofs.Lists.Fronts.{get-front, front-get, find-first, all-get, all-at}
use Rattle.laws.proofs.Lists.Picks.{found-passes, pick-filtered, filtered-pick}
use Rattle.laws.proofs.Streams.Places.{placed-at, placed-back}
use Rattle.laws.proofs.Rules.Answered.{answered-has, answered-or}

-- Its epoch's barrier was sent and is not acknowledged, each barrier before it is, the size is that of the epoch, and of each item of the
-- epoch the acknowledgement was taken that the protocol asks for.
pub record IsTurn (h : PrimaryHistory) (number size : ℕ) : Type 0 where
  pub place : ℕ
  pub sent : place < items_sent (primary_connection h)
  pub there : slice_get (primary_connection h).stream place ≡ Some (BarrierItem number)
  pub first : barrier_acknowledged (primary_connection h) number ≡ false
  pub before : (j epoch : ℕ) → j < place → slice_get (primary_connection h).stream j ≡ Some (BarrierItem epoch)
      → barrier_acknowledged (primary_connection h) epoch ≡ true
  pub sized : size ≡ epoch_size (primary_connection h).stream number
  pub blocks : (at block : ℕ) (contents : List ℕ) → slice_get (primary_connection h).stream at ≡ Some (ResyncItem block contents)
      → epoch_of (primary_connection h).stream at ≡ number → was_resynced (primary_connection h) at (ResyncItem block contents) ≡ true
  pub writes : (at : ℕ) (write : Write) → slice_get (primary_connection h).stream at ≡ Some (WriteItem write)
      → epoch_of (primary_connection h).stream at ≡ number
      → (h.settings.protocol ≡ protocol.A) ⊎ (is_answered_by h.settings.protocol (primary_connection h) at (WriteItem write) ≡ true)

-- an item of an epoch, at its place
listed : (c : PrimaryConnection) (place : ℕ) (item : StreamItem) (epoch : ℕ) → slice_get c.stream place ≡ Some item → epoch_of c.stream place ≡ epoch
    → (n : ℕ) × (slice_get (items_of_epoch c.stream epoch) n ≡ Some (place, item))
listed c place item epoch at is =
    let index : 0 + place ≡ place = omega arith in
    filtered-pick (λ (x : ℕ × StreamItem). epoch_of c.stream x.0 == epoch) (placed c.stream) place (place, item)
    (placed-at 0 c.stream place item at ∙ ap (λ m. Some (m, item)) index) (eq-eqb (epoch_of c.stream place) epoch is)

unlisted : (c : PrimaryConnection) (n : ℕ) (entry : ℕ × StreamItem) (epoch : ℕ) → slice_get (items_of_epoch c.stream epoch) n ≡ Some entry
    → (slice_get c.stream entry.0 ≡ Some entry.1) × (epoch_of c.stream entry.0 ≡ epoch)
unlisted c n entry epoch at =
    let stood = pick-filtered (λ (x : ℕ × StreamItem). epoch_of c.stream x.0 == epoch) (placed c.stream) n entry at in
    let was = placed-back 0 c.stream stood.0 entry stood.1 in
    let index : stood.0 ≡ entry.0 = let p = was.0 in omega arith in
    (subst (λ m. slice_get c.stream m ≡ Some entry.1) index was.1, eqb-true (epoch_of c.stream entry.0) epoch stood.2)

-- what a search finds stands there, and nothing before it passes
found-first : {X : Type 0} (p : X → Bool) (xs : List X) (x : X) → find p xs ≡ Some x
    → (n : ℕ) × (slice_get xs n ≡ Some x) × ((j : ℕ) (y : X) → j < n → slice_get xs j ≡ Some y → p y ≡ false)
found-first p [] x is = absurd (cc)
found-first p (z ∷ xs) x is = elim (cases_Bool (p z)) [
  | inl passes ↦
      let found : Some z ≡ Some x = ap (λ b. cond b (Some z) (find p xs)) (sym passes) ∙ is in
      (0, found, λ j y less at. absurd (omega arith))
  | inr fails ↦
      let rest = found-first p xs x (ap (λ b. cond b (Some z) (find p xs)) (sym fails) ∙ is) in
      (suc rest.0, rest.1, λ j y less at. before z xs rest.0 fails rest.2 j y less at)
]
  where
    before : (z : _) (xs : List _) (n : ℕ) → p z ≡ false → ((j : ℕ) (y : _) → j < n → slice_get xs j ≡ Some y → p y ≡ false) → (j : ℕ) (y : _) → j < suc n
        → slice_get (z ∷ xs) j ≡ Some y → p y ≡ false
    before z xs n fails rest zero y less at = let same : z ≡ y = cc in ap p (sym same) ∙ fails
    before z xs n fails rest (suc j) y less at = rest j y (omega arith) at

-- what holds where it is in turn
pub turn-has : (h : PrimaryHistory) (number size : ℕ) → is_in_turn h number size ≡ true → IsTurn h number size
turn-has h number size turn = go (oldest_barrier (primary_connection h)) refl firsts.0
  where
    parts : ((is_barrier_of number (oldest_barrier (primary_connection h)) && (size == epoch_size (primary_connection h).stream number)) ≡ true)
        × (list_all (is_acknowledged h.settings.protocol (primary_connection h)) (items_of_epoch (primary_connection h).stream number) ≡ true)
    parts = and_parts (is_barrier_of number (oldest_barrier (primary_connection h)) && (size == epoch_size (primary_connection h).stream number))
        (list_all (is_acknowledged h.settings.protocol (primary_connection h)) (items_of_epoch (primary_connection h).stream number)) turn

    firsts : (is_barrier_of number (oldest_barrier (primary_connection h)) ≡ true) × ((size == epoch_size (primary_connection h).stream number) ≡ true)
    firsts = and_parts (is_barrier_of number (oldest_barrier (primary_connection h))) (size == epoch_size (primary_connection h).stream number) parts.0

    answered : (place : ℕ) (item : StreamItem) → slice_get (primary_connection h).stream place ≡ Some item
        → epoch_of (primary_connection h).stream place ≡ number
        → is_acknowledged h.settings.protocol (primary_connection h) (place, item) ≡ true
    answered place item at is =
        let in_list = listed (primary_connection h) place item number at is in
        all-at (is_acknowledged h.settings.protocol (primary_connection h)) (items_of_epoch (primary_connection h).stream number) in_list.0 (
          place,
          item,
        ) parts.1 in_list.1

    asked : (p : Protocol) (place : ℕ) (write : Write) → is_acknowledged p (primary_connection h) (place, WriteItem write) ≡ true
        → (p ≡ protocol.A) ⊎ (is_answered_by p (primary_connection h) place (WriteItem write) ≡ true)
    asked p place write is = answered-or p (primary_connection h) place (WriteItem write)
        (λ of. subst (λ (q : Protocol). is_acknowledged q (primary_connection h) (place, WriteItem write) ≡ true) of is)
        (λ of. subst (λ (q : Protocol). is_acknowledged q (primary_connection h) (place, WriteItem write) ≡ true) of is)

    go : (v : Option StreamItem) → oldest_barrier (primary_connection h) ≡ v → is_barrier_of number v ≡ true → IsTurn h number size
    go None found is = absurd (cc)
    go (Some (WriteItem write)) found is = absurd (cc)
    go (Some (ResyncItem block contents)) found is = absurd (cc)
    go (Some (SyncUuidItem word)) found is = absurd (cc)
    go (Some (UuidsItem tuple)) found is = absurd (cc)
    go (Some (BarrierItem epoch)) found is =
        let c : PrimaryConnection = primary_connection h in
        let same : epoch ≡ number = sym (eqb-true number epoch is) in
        let first = found-first (is_unacknowledged c) (take (items_sent c) c.stream) (BarrierItem epoch) found in
        let there = get-front (items_sent c) c.stream first.0 (BarrierItem epoch) first.1 in
        let sent = there.0 in
        record {
          place = first.0;
          sent = there.0;
          there = there.1 ∙ ap (λ n. Some (BarrierItem n)) same;
          first = ap (barrier_acknowledged c) (sym same)
              ∙ not-true (barrier_acknowledged c epoch) (found-passes (is_unacknowledged c) (take (items_sent c) c.stream) (BarrierItem epoch) found);
          before = λ j e less at. not-false (barrier_acknowledged c e)
              (first.2 j (BarrierItem e) less (front-get (items_sent c) c.stream j (BarrierItem e) (omega arith) at));
          sized = eqb-true size (epoch_size c.stream number) firsts.1;
          blocks = λ place block contents at epoch_is. answered place (ResyncItem block contents) at epoch_is;
          writes = λ place write at epoch_is. asked h.settings.protocol place write (answered place (WriteItem write) at epoch_is);
        }

-- such a one is in turn
pub turn-by : (h : PrimaryHistory) (number size : ℕ) → IsTurn h number size → is_in_turn h number size ≡ true
turn-by h number size t =
    and_from _ _ (and_from _ _ (ap (is_barrier_of number) oldest
    ∙ eq-eqb number number refl) (eq-eqb size (epoch_size (primary_connection h).stream number) t.sized))
    (all-get (is_acknowledged h.settings.protocol (primary_connection h)) (items_of_epoch (primary_connection h).stream number)
    (λ n entry at. let stood = unlisted (primary_connection h) n entry number at in answered entry.0 entry.1 stood.0 stood.1))
  where
    earlier : (j : ℕ) (y : StreamItem) → j < t.place → slice_get (primary_connection h).stream j ≡ Some y → is_unacknowledged (primary_connection h) y ≡ false
    earlier j (BarrierItem epoch) less at = ap not (t.before j epoch less at)
    earlier j (WriteItem write) less at = refl
    earlier j (ResyncItem block contents) less at = refl
    earlier j (SyncUuidItem word) less at = refl
    earlier j (UuidsItem tuple) less at = refl

    oldest : oldest_barrier (primary_connection h) ≡ Some (BarrierItem number)
    oldest = find-first (is_unacknowledged (primary_connection h)) (take (items_sent (primary_connection h)) (primary_connection h).stream) t.place
        (BarrierItem number)
        (front-get (items_sent (primary_connection h)) (primary_connection h).stream t.place (BarrierItem number) t.sent t.there) (ap not t.first)
        (λ j y less at. earlier j y less (get-front (items_sent (primary_connection h)) (primary_connection h).stream j y at).1)

    asked : (p : Protocol) (place : ℕ) (write : Write) → is_answered_by p (primary_connection h) place (WriteItem write) ≡ true
        → is_acknowledged p (primary_connection h) (place, WriteItem write) ≡ true
    asked p place write is = answered-has (λ q. is_acknowledged q (primary_connection h) (place, WriteItem write) ≡ true) (primary_connection h) place
        (WriteItem write)
        (λ sent. refl) (λ received. received) (λ written. written) p is

    answered : (place : ℕ) (item : StreamItem) → slice_get (primary_connection h).stream place ≡ Some item
        → epoch_of (primary_connection h).stream place ≡ number
        → is_acknowledged h.settings.protocol (primary_connection h) (place, item) ≡ true
    answered place (BarrierItem epoch) at is = refl
    answered place (SyncUuidItem word) at is = refl
    answered place (UuidsItem tuple) at is = refl
    answered place (ResyncItem block contents) at is = t.blocks place block contents at is
    answered place (WriteItem write) at is = elim (t.writes place write at is) [
      | inl none ↦ ap (λ (p : Protocol). is_acknowledged p (primary_connection h) (place, WriteItem write)) none
      | inr answer ↦ asked h.settings.protocol place write answer
    ]
