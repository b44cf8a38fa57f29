-- The log's epochs as the stream goes on.
use Rattle.std.proofs.Common.{ℕ, zero, suc, ◌≡◌, ◌+◌, ◌-◌, ◌<◌, ◌≤◌, ◌⊎◌, inl, inr, Bool, true, false, ◌||◌, List, [], ◌∷◌, ◌++◌, length, map, filter, take}
use Rattle.std.proofs.Common.{Some, slice_get, refl, sym, ◌∙◌, ap, subst, arith, nat_le, ◌==◌}
use Rattle.std.specs.Prelude.{if◌then◌else◌}
use Rattle.std.specs.List.{list_any}
use Rattle.std.proofs.lemmas.Bool.{cases_lt, eqb-true, eq-eqb, le-leb, lt-leb}
use Rattle.std.proofs.lemmas.List.{length-append, length-map, map-append, take-append-le}
use Rattle.std.proofs.lemmas.List.Elements.{filter-append}
use Rattle.std.proofs.lemmas.List.Folds.{list_any-append}
use Rattle.std.proofs.lemmas.Option.{slice_get_within}
use Rattle.blocks.specs.declared.settings.Protocol.{Protocol}
use Rattle.model.specs.Contents.{Write}
use Rattle.model.specs.Stream.{StreamItem, WriteItem, is_write, is_barrier, barriers_in, epoch_of, last_epoch, epoch_size, items_of_epoch}
use Rattle.model.specs.Primary.{PrimaryConnection, is_resync, barrier_acknowledged, is_answered_by}
use Rattle.transferlog.specs.Log.{LogState}
use Rattle.epochs.specs.Epochs.{EpochsState, uncounted, with_write, with_resync, ending}
use Rattle.laws.proofs.Lists.Elements.{get-more}
use Rattle.laws.proofs.Streams.Lawful.{epoch-bound, epoch-end, epoch-items-grow, size-grow}
use Rattle.laws.proofs.Streams.Places.{barriers-append, epoch-grows}
use Rattle.primary_protocol.specs.Leaves.{numbers_after, total, LeavesEpochs}
use Rattle.primary_protocol.proofs.Common.Filters.{map-at}
use Rattle.primary_protocol.proofs.Common.Connections.{SeesSame, answered-same, confirmed-same}

-- Numbers.

pub numbers-end : (n k : ℕ) → numbers_after n (suc k) ≡ numbers_after n k ++ suc (n + k) ∷ []
numbers-end n zero = ap (λ m. suc m ∷ []) (omega arith)
numbers-end n (suc k) = ap (λ l. suc n ∷ l) (numbers-end (suc n) k ∙ ap (λ m. numbers_after (suc n) k ++ suc m ∷ []) (omega arith))

pub length-numbers : (n k : ℕ) → length (numbers_after n k) ≡ k
length-numbers n zero = refl
length-numbers n (suc k) = let rest = length-numbers (suc n) k in omega arith

pub numbers-bound : (n k i m : ℕ) → slice_get (numbers_after n k) i ≡ Some m → m ≤ n + k
numbers-bound n zero i m at = absurd (cc)
numbers-bound n (suc k) zero m at = let is : suc n ≡ m = cc in omega arith
numbers-bound n (suc k) (suc i) m at = let rest = numbers-bound (suc n) k i m at in omega arith

pub total-more : (xs : List ℕ) (x : ℕ) → total (xs ++ x ∷ []) ≡ total xs + x
total-more [] x = omega arith
total-more (y ∷ xs) x = let rest = total-more xs x in omega arith

pub total-front : (k : ℕ) (xs : List ℕ) → total (take k xs) ≤ total xs
total-front zero xs = omega arith
total-front (suc k) [] = omega arith
total-front (suc k) (x ∷ xs) = let rest = total-front k xs in omega arith

take-past : (k : ℕ) (xs : List ℕ) → length xs ≤ k → take k xs ≡ xs
take-past zero [] past = refl
take-past zero (x ∷ xs) past = absurd (omega arith)
take-past (suc k) [] past = refl
take-past (suc k) (x ∷ xs) past = ap (λ l. x ∷ l) (take-past k xs (omega arith))

-- Streams.

-- an item that is no barrier leaves the number of barriers
pub barriers-more : (items : List StreamItem) (item : StreamItem) → is_barrier item ≡ false → barriers_in (items ++ item ∷ []) ≡ barriers_in items
barriers-more items item plain =
    let split = barriers-append items (item ∷ []) in
    let none : barriers_in (item ∷ []) ≡ 0 = ap (λ b. length (if b then item ∷ [] else [])) plain in
    omega arith

-- an item that is no write leaves the sizes of the epochs
pub size-more : (items : List StreamItem) (item : StreamItem) (epoch : ℕ) → is_write item ≡ false
    → epoch_size (items ++ item ∷ []) epoch ≡ epoch_size items epoch
size-more items item epoch plain = elim (size-grow items item epoch) [ inl same ↦ same | inr grew ↦ absurd (let write : is_write item ≡ true = grew.0 in cc) ]

-- whether the last epoch has a block of a resync, with one item more that is no barrier
pub resync-more : (items : List StreamItem) (item : StreamItem) → is_barrier item ≡ false
    → list_any (λ (entry : ℕ × StreamItem). is_resync entry.1) (items_of_epoch (items ++ item ∷ []) (last_epoch (items ++ item ∷ [])))
    ≡ (list_any (λ (entry : ℕ × StreamItem). is_resync entry.1) (items_of_epoch items (last_epoch items)) || is_resync item)
resync-more items item plain =
    let last : last_epoch (items ++ item ∷ []) ≡ last_epoch items = ap suc (barriers-more items item plain) in
    ap (λ n. list_any (λ (entry : ℕ × StreamItem). is_resync entry.1) (items_of_epoch (items ++ item ∷ []) n)) last
    ∙ (ap (list_any (λ (entry : ℕ × StreamItem). is_resync entry.1)) (epoch-items-grow items item (last_epoch items)
    ∙ ap (λ b. items_of_epoch items (last_epoch items) ++ (if b then (length items, item) ∷ [] else []))
    (eq-eqb (last_epoch items) (last_epoch items) refl))
    ∙ (list_any-append (λ (entry : ℕ × StreamItem). is_resync entry.1) (items_of_epoch items (last_epoch items)) ((length items, item) ∷ [])
    ∙ ap (λ b. list_any (λ (entry : ℕ × StreamItem). is_resync entry.1) (items_of_epoch items (last_epoch items)) || b) (go (is_resync item))))
  where
    go : (b : Bool) → (b || false) ≡ b
    go true = refl
    go false = refl

module _ (l l' : LogState) (c d : PrimaryConnection) (item : StreamItem) (e : LeavesEpochs l c) (same : SeesSame c d)
    (stream : d.stream ≡ c.stream ++ item ∷ [])
    (protocol : l'.protocol ≡ l.protocol) (confirmed : l'.acknowledged_through ≡ l.acknowledged_through) where
  -- an old item stands where it stood
  old : (place : ℕ) (write : Write) → slice_get d.stream place ≡ Some (WriteItem write)
      → (slice_get c.stream place ≡ Some (WriteItem write)) ⊎ ((place ≡ length c.stream) × (item ≡ WriteItem write))
  old place write at = elim (get-more c.stream item place (WriteItem write)
      (subst (λ (s : List StreamItem). slice_get s place ≡ Some (WriteItem write)) stream at))
      [ inl was ↦ inl was | inr new ↦ inr (new.0, sym new.1) ]

  longer : length d.stream ≡ length c.stream + 1
  longer = ap length stream ∙ length-append c.stream (item ∷ [])

  epoch-old : (place : ℕ) (write : Write) → slice_get c.stream place ≡ Some (WriteItem write) → epoch_of d.stream place ≡ epoch_of c.stream place
  epoch-old place write at = let within = slice_get_within c.stream place (WriteItem write) at in ap (λ (s : List StreamItem). epoch_of s place) stream
      ∙ epoch-grows c.stream (item ∷ []) place (omega arith)

  epoch-new : epoch_of d.stream (length c.stream) ≡ last_epoch c.stream
  epoch-new = ap (λ (s : List StreamItem). epoch_of s (length c.stream)) stream ∙ epoch-end c.stream (item ∷ [])

  length-sizes : length l.epochs.sizes ≡ barriers_in c.stream - e.acked
  length-sizes = ap length e.sizes
      ∙ (length-map (numbers_after e.acked (barriers_in c.stream - e.acked)) (epoch_size c.stream) ∙ length-numbers e.acked (barriers_in c.stream - e.acked))

  acknowledged' : (epoch : ℕ) → 0 < epoch → barrier_acknowledged d epoch ≡ nat_le epoch e.acked
  acknowledged' epoch some = confirmed-same c d epoch same ∙ e.acknowledged epoch some

  sizes-same : is_write item ≡ false
      → map (epoch_size c.stream) (numbers_after e.acked (barriers_in c.stream - e.acked)) ≡ map (epoch_size d.stream)
      (numbers_after e.acked (barriers_in c.stream - e.acked))
  sizes-same plain = map-at (epoch_size c.stream) (epoch_size d.stream) (numbers_after e.acked (barriers_in c.stream - e.acked))
      (λ i n at. sym (ap (λ (s : List StreamItem). epoch_size s n) stream ∙ size-more c.stream item n plain))

  answered' : (asked : Protocol) → asked ≡ l.protocol → (place : ℕ) (write : Write) → slice_get d.stream place ≡ Some (WriteItem write)
      → epoch_of d.stream place ≤ e.acked → is_answered_by asked d place (WriteItem write) ≡ true
  answered' asked is place write at upto = elim (old place write at) [
    | inl was ↦
        let epoch = epoch-old place write was in
        answered-same asked c d place (WriteItem write) same
        ∙ (ap (λ (p : Protocol). is_answered_by p c place (WriteItem write)) is ∙ e.answered place write was (omega arith))
    | inr new ↦ absurd (
        let place_is : place ≡ length c.stream = new.0 in
        let epoch : epoch_of d.stream place ≡ last_epoch c.stream = ap (epoch_of d.stream) place_is ∙ epoch-new in
        let within = e.within in
        omega arith)
  ]

  -- An item that is no write, no block of a resync and no barrier.
  pub epochs-plain : is_write item ≡ false → is_resync item ≡ false → is_barrier item ≡ false → l'.accepted ≡ l.accepted → l'.epochs ≡ (uncounted l.epochs).1
      → LeavesEpochs l' d
  epochs-plain no_write no_block no_barrier accepted epochs = record {
    acked = e.acked;
    acknowledged = acknowledged';
    within = let b = barriers in let w = e.within in omega arith;
    places = ap (λ (x : EpochsState). x.places) epochs ∙ (let p = e.places in let n = longer in omega arith);
    ended = ap (λ (x : EpochsState). x.ended) epochs ∙ (e.ended ∙ sym barriers);
    sizes = ap (λ (x : EpochsState). x.sizes) epochs
        ∙ (e.sizes ∙ (sizes-same no_write ∙ ap (λ n. map (epoch_size d.stream) (numbers_after e.acked (n - e.acked))) (sym barriers)));
    size = ap (λ (x : EpochsState). x.size) epochs
        ∙ (e.size ∙ (sym (ap (λ (s : List StreamItem). epoch_size s (last_epoch c.stream)) stream ∙ size-more c.stream item (last_epoch c.stream) no_write)
        ∙ ap (epoch_size d.stream) (ap suc (sym barriers))));
    resync = ap (λ (x : EpochsState). x.resync) epochs
        ∙ (e.resync ∙ sym (ap (λ (s : List StreamItem). list_any (λ (entry : ℕ × StreamItem). is_resync entry.1) (items_of_epoch s (last_epoch s))) stream
        ∙ (resync-more c.stream item no_barrier
        ∙ go (list_any (λ (entry : ℕ × StreamItem). is_resync entry.1) (items_of_epoch c.stream (last_epoch c.stream))))));
    upto = λ k place write few at. elim (old place write at) [
      | inl was ↦
          (λ i. nat_le write.number (confirmed i + total (take k (epochs i).sizes)))
          ∙ (e.upto k place write (subst (λ (x : EpochsState). k ≤ length x.sizes) epochs few) was
          ∙ ap (λ n. nat_le n (e.acked + k)) (sym (epoch-old place write was)))
      | inr new ↦ absurd (let write_is : is_write item ≡ true = ap is_write new.1 in cc)
    ];
    newest = (λ i. confirmed i + total (epochs i).sizes + (epochs i).size) ∙ (e.newest ∙ sym accepted);
    first = λ some. ap (λ (x : EpochsState). x.first) epochs
        ∙ (e.first (subst (λ (x : EpochsState). 0 < x.size) epochs some) ∙ sym (λ i. suc (confirmed i + total (epochs i).sizes)));
    answered = answered' l'.protocol protocol;
  }
    where
      barriers : barriers_in d.stream ≡ barriers_in c.stream
      barriers = ap barriers_in stream ∙ barriers-more c.stream item no_barrier

      go : (b : Bool) → (b || is_resync item) ≡ b
      go true = refl
      go false = no_block

  -- A barrier ends the last epoch. No write of the stream has a number above the last accepted one.
  pub epochs-barrier : (is_barrier item ≡ true) → is_write item ≡ false → items_of_epoch d.stream (last_epoch d.stream) ≡ [] → l'.accepted ≡ l.accepted
      → l'.epochs ≡ ending l.epochs
      → ((place : ℕ) (write : Write) → slice_get c.stream place ≡ Some (WriteItem write) → write.number ≤ l.accepted) → LeavesEpochs l' d
  epochs-barrier barrier no_write empty accepted epochs few = record {
    acked = e.acked;
    acknowledged = acknowledged';
    within = let b = barriers in let w = e.within in omega arith;
    places = ap (λ (x : EpochsState). x.places) epochs ∙ (let p = e.places in let n = longer in omega arith);
    ended = ap (λ (x : EpochsState). x.ended) epochs ∙ (let p = e.ended in let b = barriers in omega arith);
    sizes =
        ap (λ (x : EpochsState). x.sizes) epochs
        ∙ ((λ i. (e.sizes ∙ sizes-same no_write) i ++ (e.size ∙ last_size) i ∷ [])
        ∙ (sym (map-append (epoch_size d.stream) (numbers_after e.acked (barriers_in c.stream - e.acked)) (suc (barriers_in c.stream) ∷ []))
        ∙ ap (map (epoch_size d.stream)) numbers));
    size = ap (λ (x : EpochsState). x.size) epochs
        ∙ sym (ap (λ (xs : List (ℕ × StreamItem)). length (filter (λ (entry : ℕ × StreamItem). is_write entry.1) xs)) empty);
    resync = ap (λ (x : EpochsState). x.resync) epochs ∙ sym (ap (list_any (λ (entry : ℕ × StreamItem). is_resync entry.1)) empty);
    upto = λ k place write within at. elim (old place write at) [
      | inl was ↦ (λ i. nat_le write.number (confirmed i + total (take k (epochs i).sizes)))
          ∙ (upto_old k place write (subst (λ (x : EpochsState). k ≤ length x.sizes) epochs within) was
          ∙ ap (λ n. nat_le n (e.acked + k)) (sym (epoch-old place write was)))
      | inr new ↦ absurd (let write_is : is_write item ≡ true = ap is_write new.1 in cc)
    ];
    newest = (λ i. confirmed i + total (epochs i).sizes + (epochs i).size)
        ∙ (let all = total-more l.epochs.sizes l.epochs.size in let n = e.newest in let a = accepted in omega arith);
    first = λ some. absurd (let none : 0 < 0 = subst (λ (x : EpochsState). 0 < x.size) epochs some in omega arith);
    answered = answered' l'.protocol protocol;
  }
    where
      barriers : barriers_in d.stream ≡ suc (barriers_in c.stream)
      barriers =
          let split = barriers-append c.stream (item ∷ []) in
          let one : barriers_in (item ∷ []) ≡ 1 = ap (λ b. length (if b then item ∷ [] else [])) barrier in
          let whole : barriers_in d.stream ≡ barriers_in (c.stream ++ item ∷ []) = ap barriers_in stream in
          omega arith

      last_size : epoch_size c.stream (last_epoch c.stream) ≡ epoch_size d.stream (suc (barriers_in c.stream))
      last_size = sym (ap (λ (s : List StreamItem). epoch_size s (last_epoch c.stream)) stream ∙ size-more c.stream item (last_epoch c.stream) no_write)

      numbers : numbers_after e.acked (barriers_in c.stream - e.acked) ++ suc (barriers_in c.stream) ∷ [] ≡ numbers_after e.acked
          (barriers_in d.stream - e.acked)
      numbers =
          let w = e.within in
          let count : barriers_in d.stream - e.acked ≡ suc (barriers_in c.stream - e.acked) = let b = barriers in omega arith in
          let last : e.acked + (barriers_in c.stream - e.acked) ≡ barriers_in c.stream = omega arith in
          ap (λ n. numbers_after e.acked (barriers_in c.stream - e.acked) ++ suc n ∷ []) (sym last)
          ∙ (sym (numbers-end e.acked (barriers_in c.stream - e.acked)) ∙ ap (numbers_after e.acked) (sym count))

      upto_old : (k place : ℕ) (write : Write) → k ≤ length (l.epochs.sizes ++ l.epochs.size ∷ []) → slice_get c.stream place ≡ Some (WriteItem write)
          → nat_le write.number (l.acknowledged_through + total (take k (l.epochs.sizes ++ l.epochs.size ∷ []))) ≡ nat_le (epoch_of c.stream place) (e.acked + k)
      upto_old k place write within at = elim (cases_lt (length l.epochs.sizes) k) [
        | inl past ↦
            let size = length-append l.epochs.sizes (l.epochs.size ∷ []) in
            let all : take k (l.epochs.sizes ++ l.epochs.size ∷ []) ≡ l.epochs.sizes ++ l.epochs.size ∷ [] = take-past k (l.epochs.sizes ++ l.epochs.size ∷ [])
            (omega arith) in
            let sums : total (take k (l.epochs.sizes ++ l.epochs.size ∷ [])) ≡ total l.epochs.sizes + l.epochs.size = ap total all
            ∙ total-more l.epochs.sizes l.epochs.size in
            let n = e.newest in
            let number = few place write at in
            let bound = epoch-bound c.stream place in
            let s = length-sizes in
            let w = e.within in
            le-leb write.number (l.acknowledged_through + total (take k (l.epochs.sizes ++ l.epochs.size ∷ []))) (omega arith)
            ∙ sym (le-leb (epoch_of c.stream place) (e.acked + k) (omega arith))
        | inr front ↦ ap (λ xs. nat_le write.number (l.acknowledged_through + total xs)) (take-append-le k l.epochs.sizes (l.epochs.size ∷ []) (omega arith))
            ∙ e.upto k place write (omega arith) at
      ]

  -- A block of a resync.
  pub epochs-resync : is_write item ≡ false → is_resync item ≡ true → is_barrier item ≡ false → l'.accepted ≡ l.accepted → l'.epochs ≡ with_resync l.epochs
      → LeavesEpochs l' d
  epochs-resync no_write block no_barrier accepted epochs = record {
    acked = e.acked;
    acknowledged = acknowledged';
    within = let b = barriers in let w = e.within in omega arith;
    places = ap (λ (x : EpochsState). x.places) epochs ∙ (let p = e.places in let n = longer in omega arith);
    ended = ap (λ (x : EpochsState). x.ended) epochs ∙ (e.ended ∙ sym barriers);
    sizes = ap (λ (x : EpochsState). x.sizes) epochs
        ∙ (e.sizes ∙ (sizes-same no_write ∙ ap (λ n. map (epoch_size d.stream) (numbers_after e.acked (n - e.acked))) (sym barriers)));
    size = ap (λ (x : EpochsState). x.size) epochs
        ∙ (e.size ∙ (sym (ap (λ (s : List StreamItem). epoch_size s (last_epoch c.stream)) stream ∙ size-more c.stream item (last_epoch c.stream) no_write)
        ∙ ap (epoch_size d.stream) (ap suc (sym barriers))));
    resync = ap (λ (x : EpochsState). x.resync) epochs
        ∙ sym (ap (λ (s : List StreamItem). list_any (λ (entry : ℕ × StreamItem). is_resync entry.1) (items_of_epoch s (last_epoch s))) stream
        ∙ (resync-more c.stream item no_barrier
        ∙ go (list_any (λ (entry : ℕ × StreamItem). is_resync entry.1) (items_of_epoch c.stream (last_epoch c.stream)))));
    upto = λ k place write few at. elim (old place write at) [
      | inl was ↦
          (λ i. nat_le write.number (confirmed i + total (take k (epochs i).sizes)))
          ∙ (e.upto k place write (subst (λ (x : EpochsState). k ≤ length x.sizes) epochs few) was
          ∙ ap (λ n. nat_le n (e.acked + k)) (sym (epoch-old place write was)))
      | inr new ↦ absurd (let write_is : is_write item ≡ true = ap is_write new.1 in cc)
    ];
    newest = (λ i. confirmed i + total (epochs i).sizes + (epochs i).size) ∙ (e.newest ∙ sym accepted);
    first = λ some. ap (λ (x : EpochsState). x.first) epochs
        ∙ (e.first (subst (λ (x : EpochsState). 0 < x.size) epochs some) ∙ sym (λ i. suc (confirmed i + total (epochs i).sizes)));
    answered = answered' l'.protocol protocol;
  }
    where
      barriers : barriers_in d.stream ≡ barriers_in c.stream
      barriers = ap barriers_in stream ∙ barriers-more c.stream item no_barrier

      go : (b : Bool) → (b || is_resync item) ≡ true
      go true = refl
      go false = block

  -- A write, with the next number.
  pub epochs-write : (new : Write) → item ≡ WriteItem new → new.number ≡ l.accepted + 1 → l'.accepted ≡ l.accepted + 1
      → l'.epochs ≡ with_write (l.accepted + 1) l.epochs → LeavesEpochs l' d
  epochs-write new item_is number accepted epochs = record {
    acked = e.acked;
    acknowledged = acknowledged';
    within = let b = barriers in let w = e.within in omega arith;
    places = ap (λ (x : EpochsState). x.places) epochs ∙ (let p = e.places in let n = longer in omega arith);
    ended = ap (λ (x : EpochsState). x.ended) epochs ∙ (e.ended ∙ sym barriers);
    sizes = ap (λ (x : EpochsState). x.sizes) epochs
        ∙ (e.sizes ∙ (sizes_ended ∙ ap (λ n. map (epoch_size d.stream) (numbers_after e.acked (n - e.acked))) (sym barriers)));
    size = ap (λ (x : EpochsState). x.size) epochs ∙ ((let s = e.size in let g = size_last in omega arith) ∙ ap (epoch_size d.stream) (ap suc (sym barriers)));
    resync = ap (λ (x : EpochsState). x.resync) epochs
        ∙ (e.resync ∙ sym (ap (λ (s : List StreamItem). list_any (λ (entry : ℕ × StreamItem). is_resync entry.1) (items_of_epoch s (last_epoch s))) stream
        ∙ (resync-more c.stream item no_barrier
        ∙ go (list_any (λ (entry : ℕ × StreamItem). is_resync entry.1) (items_of_epoch c.stream (last_epoch c.stream))))));
    upto = λ k place write few at. elim (old place write at) [
      | inl was ↦
          (λ i. nat_le write.number (confirmed i + total (take k (epochs i).sizes)))
          ∙ (e.upto k place write (subst (λ (x : EpochsState). k ≤ length x.sizes) epochs few) was
          ∙ ap (λ n. nat_le n (e.acked + k)) (sym (epoch-old place write was)))
      | inr added ↦
          let write_is : WriteItem new ≡ WriteItem write = sym item_is ∙ added.1 in
          let same_write : new ≡ write = cc in
          let number_is : write.number ≡ l.accepted + 1 = ap (λ (w : Write). w.number) (sym same_write) ∙ number in
          let within : k ≤ length l.epochs.sizes = subst (λ (x : EpochsState). k ≤ length x.sizes) epochs few in
          let front = total-front k l.epochs.sizes in
          let n = e.newest in
          let s = length-sizes in
          let w = e.within in
          let epoch : epoch_of d.stream place ≡ last_epoch c.stream = ap (epoch_of d.stream) added.0 ∙ epoch-new in
          (λ i. nat_le write.number (confirmed i + total (take k (epochs i).sizes)))
          ∙ (lt-leb write.number (l.acknowledged_through + total (take k l.epochs.sizes)) (omega arith)
          ∙ sym (lt-leb (epoch_of d.stream place) (e.acked + k) (omega arith)))
    ];
    newest = (λ i. confirmed i + total (epochs i).sizes + (epochs i).size) ∙ (let n = e.newest in let a = accepted in omega arith);
    first = λ some. ap (λ (x : EpochsState). x.first) epochs ∙ (first_is (l.epochs.size == 0) refl ∙ sym (λ i. suc (confirmed i + total (epochs i).sizes)));
    answered = answered' l'.protocol protocol;
  }
    where
      no_barrier : is_barrier item ≡ false
      no_barrier = ap is_barrier item_is

      barriers : barriers_in d.stream ≡ barriers_in c.stream
      barriers = ap barriers_in stream ∙ barriers-more c.stream item no_barrier

      go : (b : Bool) → (b || is_resync item) ≡ b
      go true = refl
      go false = ap is_resync item_is

      grown : (epoch : ℕ) → epoch ≤ barriers_in c.stream → epoch_size c.stream epoch ≡ epoch_size d.stream epoch
      grown epoch upto = sym (ap (λ (s : List StreamItem). epoch_size s epoch) stream
          ∙ elim (size-grow c.stream item epoch) [ inl same ↦ same | inr grew ↦ absurd (let is = grew.1 in omega arith) ])

      size_last : epoch_size d.stream (last_epoch c.stream) ≡ suc (epoch_size c.stream (last_epoch c.stream))
      size_last =
          ap (λ (s : List StreamItem). epoch_size s (last_epoch c.stream)) stream
          ∙ (ap length (ap (filter (λ (entry : ℕ × StreamItem). is_write entry.1)) (epoch-items-grow c.stream item (last_epoch c.stream)
          ∙ ap (λ b. items_of_epoch c.stream (last_epoch c.stream) ++ (if b then (length c.stream, item) ∷ [] else []))
          (eq-eqb (last_epoch c.stream) (last_epoch c.stream) refl)))
          ∙ (ap length (filter-append (λ (entry : ℕ × StreamItem). is_write entry.1) (items_of_epoch c.stream (last_epoch c.stream))
          ((length c.stream, item) ∷ []))
          ∙ (length-append (filter (λ (entry : ℕ × StreamItem). is_write entry.1) (items_of_epoch c.stream (last_epoch c.stream)))
          (filter (λ (entry : ℕ × StreamItem). is_write entry.1) ((length c.stream, item) ∷ []))
          ∙ (ap (λ b. epoch_size c.stream (last_epoch c.stream) + length {A = ℕ × StreamItem} (if b then (length c.stream, item) ∷ [] else []))
          (ap is_write item_is)
          ∙ omega arith))))

      sizes_ended : map (epoch_size c.stream) (numbers_after e.acked (barriers_in c.stream - e.acked)) ≡ map (epoch_size d.stream)
          (numbers_after e.acked (barriers_in c.stream - e.acked))
      sizes_ended = map-at (epoch_size c.stream) (epoch_size d.stream) (numbers_after e.acked (barriers_in c.stream - e.acked))
          (λ i n at. let bound = numbers-bound e.acked (barriers_in c.stream - e.acked) i n at in let w = e.within in grown n (omega arith))

      first_is : (b : Bool) → (l.epochs.size == 0) ≡ b → (if b then l.accepted + 1 else l.epochs.first) ≡ suc (l.acknowledged_through + total l.epochs.sizes)
      first_is true is = let none : l.epochs.size ≡ 0 = eqb-true l.epochs.size 0 is in let n = e.newest in omega arith
      first_is false is = e.first (some l.epochs.size is)
        where
          some : (n : ℕ) → (n == 0) ≡ false → 0 < n
          some zero is = absurd (cc)
          some (suc n) is = omega arith

-- The stream stands as it was, and more of it may be answered.
pub epochs-same : (l l' : LogState) (c d : PrimaryConnection) → LeavesEpochs l c → d.stream ≡ c.stream
    → ((epoch : ℕ) → barrier_acknowledged d epoch ≡ barrier_acknowledged c epoch)
    → ((asked : Protocol) (place : ℕ) (item : StreamItem) → is_answered_by asked c place item ≡ true → is_answered_by asked d place item ≡ true)
    → l'.protocol ≡ l.protocol → l'.acknowledged_through ≡ l.acknowledged_through → l'.accepted ≡ l.accepted → l'.epochs ≡ l.epochs → LeavesEpochs l' d
epochs-same l l' c d e stream acknowledged answers protocol confirmed accepted epochs = record {
  acked = e.acked;
  acknowledged = λ epoch some. acknowledged epoch ∙ e.acknowledged epoch some;
  within = subst (λ (s : List StreamItem). e.acked ≤ barriers_in s) (sym stream) e.within;
  places = ap (λ (x : EpochsState). x.places) epochs ∙ (e.places ∙ ap length (sym stream));
  ended = ap (λ (x : EpochsState). x.ended) epochs ∙ (e.ended ∙ ap barriers_in (sym stream));
  sizes = ap (λ (x : EpochsState). x.sizes) epochs
      ∙ (e.sizes ∙ ap (λ (s : List StreamItem). map (epoch_size s) (numbers_after e.acked (barriers_in s - e.acked))) (sym stream));
  size = ap (λ (x : EpochsState). x.size) epochs ∙ (e.size ∙ ap (λ (s : List StreamItem). epoch_size s (last_epoch s)) (sym stream));
  resync = ap (λ (x : EpochsState). x.resync) epochs
      ∙ (e.resync ∙ ap (λ (s : List StreamItem). list_any (λ (entry : ℕ × StreamItem). is_resync entry.1) (items_of_epoch s (last_epoch s))) (sym stream));
  upto = λ k place write few at.
      (λ i. nat_le write.number (confirmed i + total (take k (epochs i).sizes)))
      ∙ (e.upto k place write (subst (λ (x : EpochsState). k ≤ length x.sizes) epochs few)
      (subst (λ (s : List StreamItem). slice_get s place ≡ Some (WriteItem write)) stream at)
      ∙ ap (λ (s : List StreamItem). nat_le (epoch_of s place) (e.acked + k)) (sym stream));
  newest = (λ i. confirmed i + total (epochs i).sizes + (epochs i).size) ∙ (e.newest ∙ sym accepted);
  first = λ some. ap (λ (x : EpochsState). x.first) epochs
      ∙ (e.first (subst (λ (x : EpochsState). 0 < x.size) epochs some) ∙ sym (λ i. suc (confirmed i + total (epochs i).sizes)));
  answered = λ place write at upto. ap (λ (p : Protocol). is_answered_by p d place (WriteItem write)) protocol
      ∙ answers l.protocol place (WriteItem write)
      (e.answered place write (subst (λ (s : List StreamItem). slice_get s place ≡ Some (WriteItem write)) stream at)
      (subst (λ (s : List StreamItem). epoch_of s place ≤ e.acked) stream upto));
}

-- as many sizes are kept as epochs are not acknowledged
pub sizes-many : (l : LogState) (c : PrimaryConnection) (e : LeavesEpochs l c) → e.acked + length l.epochs.sizes ≡ barriers_in c.stream
sizes-many l c e =
    let many : length l.epochs.sizes ≡ barriers_in c.stream - e.acked = ap length e.sizes
    ∙ (length-map (numbers_after e.acked (barriers_in c.stream - e.acked)) (epoch_size c.stream)
    ∙ length-numbers e.acked (barriers_in c.stream - e.acked)) in
    let w = e.within in
    omega arith
