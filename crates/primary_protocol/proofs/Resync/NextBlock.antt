-- The block that a resync copies next goes to the end of the stream.
use Rattle.std.proofs.Common.{ℕ, zero, suc, ◌≡◌, ◌+◌, ◌-◌, ◌<◌, Bool, true, false, not, ◌&&◌, List, [], ◌∷◌, ◌++◌, length, map, filter, Some, None, slice_get}
use Rattle.std.proofs.Common.{refl, sym, ◌∙◌, ap, subst, arith, nat_lt}
use Rattle.std.specs.Prelude.{find, unwrap_or, if◌then◌else◌}
use Rattle.std.specs.List.{list_any}
use Rattle.std.proofs.lemmas.Bool.{both_ways, and_parts, lt-ltb}
use Rattle.std.proofs.lemmas.List.{drop-append-le, length-append}
use Rattle.std.proofs.lemmas.List.Elements.{filter-append}
use Rattle.blocks.specs.Positions.{StreamPosition}
use Rattle.blocks.specs.declared.settings.Settings.{Settings}
use Rattle.blocks.specs.Ranges.{below, is_between}
use Rattle.bitmap.specs.Marks.{marked}
use Rattle.epochs.specs.Epochs.{with_resync}
use Rattle.model.specs.Stream.{StreamItem, ResyncItem, epoch_of, last_epoch, epoch_size, placed, BarrierItem}
use Rattle.model.specs.Primary.{Accepted, PrimaryConnection, PrimaryHistory, primary_connection, last_index, is_established, is_resync, was_resynced, under_way}
use Rattle.model.specs.Primary.{resync_runs, in_resync}
use Rattle.model.specs.Primary.{is_open, open_writes, free_block, local_map}
use Rattle.model.specs.PrimarySteps.{epoch_is_over, appending, given, copying, with_completions}
use Rattle.overlap.specs.Holdings.{Holding, holding, holding_too}
use Rattle.resync.specs.Next.{is_free, next_block}
use Rattle.transferlog.specs.Log as log
use Rattle.laws.proofs.Rules.FreeBlocks.{free-by}
use Rattle.laws.proofs.Primary.LastEpoch.{unsettled-more}
use Rattle.laws.proofs.Rules.EpochEnds as rule
use Rattle.laws.proofs.Rules.EpochEnds.{TakesWrites, HasRoom, GoesOn, not-over}
use Rattle.laws.proofs.Lists.Last.{length-change}
use Rattle.laws.proofs.Lists.Picks.{pick-below, pick-filtered}
use Rattle.laws.proofs.Primary.Ends.{established-parts}
use Rattle.laws.proofs.Primary.Homes.{HasHomes}
use Rattle.laws.proofs.Primary.HomesMoves.{homes-faithful}
use Rattle.laws.proofs.Releases.InOrderMoves.{Ordered, in-order-kept}
use Rattle.laws.proofs.Streams.Lawful.{epoch-end, placed-append}
use Rattle.primary_protocol.specs.Core.{EndState, PrimaryState}
use Rattle.primary_protocol.specs.Leaves.{holding_item, holding_write, held_of, standing, marks_in, LeavesEnd, LeavesEpochs, LeavesStream, Leaves}
use Rattle.primary_protocol.proofs.Common.Connections.{SeesSame, seen-same, released-alike}
use Rattle.primary_protocol.proofs.Common.Epochs.{barriers-more, size-more, epochs-resync}
use Rattle.primary_protocol.proofs.Common.Filters.{filter-at, any-map}
use Rattle.primary_protocol.proofs.Common.Following.{IsDue, runs-more, parted}
use Rattle.primary_protocol.proofs.Common.Reached.{primary-connection-of}
use Rattle.primary_protocol.proofs.Common.Marks.{length-marks, marked-in}
use Rattle.primary_protocol.proofs.Common.EndChanges.{IsUnseen, turned, unseen-due}
use Rattle.std.proofs.Common.{Option}
use Rattle.std.proofs.Common.{is_none}
use Rattle.transferlog.specs.Log.{LogState}

-- What is held.

-- the lowest number comes first
zero-first : (new : Holding) (held : List Holding) → ((i : ℕ) (x : Holding) → slice_get held i ≡ Some x → new.number < x.number)
    → holding_too new held ≡ new ∷ held
zero-first new [] above = refl
zero-first new (x ∷ held) above = ap (λ b. if b then new ∷ x ∷ held else x ∷ holding_too new held) (lt-ltb new.number x.number (above 0 x refl))

-- writes have numbers from 1 on
above-zero : (h : PrimaryHistory) → HasHomes h → (ws : List Accepted) → ((i : ℕ) (a : Accepted) → slice_get ws i ≡ Some a → 0 < a.write.number)
    → (i : ℕ) (x : Holding) → slice_get (map holding_write ws) i ≡ Some x → 0 < x.number
above-zero h homes [] some i x at = absurd (cc)
above-zero h homes (a ∷ ws) some zero x at = let is : holding_write a ≡ x = cc in let one = some 0 a refl in let number : a.write.number ≡ x.number =
    ap (λ (y : Holding). y.number) is in omega arith
above-zero h homes (a ∷ ws) some (suc i) x at = above-zero h homes ws (λ j b there. some (suc j) b there) i x at

-- The block that comes next is the lowest one that no open write has.
pub next-is : (s : PrimaryState) (h : PrimaryHistory) → s.marks ≡ marks_in h.settings.blocks h.marks → s.held ≡ map holding_write (open_writes h)
    → next_block s.marks s.held ≡ free_block h
next-is s h marks held =
    (λ i. next_block (marks i) (held i))
    ∙ (ap (λ n. find (is_free (map holding_write (open_writes h))) (filter (marked (marks_in h.settings.blocks h.marks)) (below n)))
    (length-marks h.settings.blocks h.marks)
    ∙ (ap (find (is_free (map holding_write (open_writes h))))
    (filter-at (marked (marks_in h.settings.blocks h.marks)) h.marks (below h.settings.blocks)
    (λ i block at. marked-in h.settings.blocks h.marks block (pick-below h.settings.blocks i block at)))
    ∙ free-by h (λ block. list_any (λ (x : Holding). is_between x.first x.count block) (map holding_write (open_writes h)))
    (λ block. any-map (λ (x : Holding). is_between x.first x.count block) holding_write (open_writes h))))

-- where a stream stands and nothing is under way, open writes alone hold blocks
pub held-alone : (s : PrimaryState) (h : PrimaryHistory) → s.held ≡ held_of h → under_way (primary_connection h) ≡ []
    → s.held ≡ map holding_write (open_writes h)
held-alone s h held none = held ∙ go (is_established (primary_connection h))
  where
    go : (b : Bool) → map holding_item (if b then under_way (primary_connection h) else []) ++ map holding_write (open_writes h) ≡ map holding_write
        (open_writes h)
    go true = ap (λ (l : List (ℕ × StreamItem)). map holding_item l ++ map holding_write (open_writes h)) none
    go false = refl

-- what is under way, with one block more that is not acknowledged
pub under-way-block : (c d : PrimaryConnection) (item : StreamItem) → SeesSame c d → d.stream ≡ c.stream ++ item ∷ [] → is_resync item ≡ true
    → was_resynced c (length c.stream) item ≡ false → under_way c ≡ [] → under_way d ≡ (length c.stream, item) ∷ []
under-way-block c d item same stream block unasked none =
    ap (λ (s : List StreamItem). filter (waits d) (placed s)) stream
    ∙ (ap (filter (waits d)) (placed-append 0 c.stream (item ∷ []))
    ∙ (filter-append (waits d) (placed c.stream) ((0 + length c.stream, item) ∷ [])
    ∙ ((λ i. filter-at (waits d) (waits c) (placed c.stream) (λ i entry at. ap (λ b. is_resync entry.1 && not b) (rw (same.taken, same.refused) refl)) i
    ++ filter (waits d) ((index i, item) ∷ []))
    ∙ (λ i. none i ++ (if block i && not (acked i) then (length c.stream, item) ∷ [] else [])))))
  where
    waits : PrimaryConnection → ℕ × StreamItem → Bool
    waits e entry = is_resync entry.1 && not (was_resynced e entry.0 entry.1)

    index : 0 + length c.stream ≡ length c.stream
    index = omega arith

    acked : was_resynced d (length c.stream) item ≡ false
    acked = rw (same.taken, same.refused) unasked

-- A block of a resync is appended.

-- an end that has the item to send
abbrev pub carrying : ℕ → List ℕ → ℕ → ℕ → EndState → EndState
carrying block contents place epoch e = record e {
  unsent = e.unsent ++ ResyncItem block contents ∷ [];
  under_way = Some (record { block = block; place = place; epoch = epoch });
}

-- an item is appended
abbrev pub longer : StreamItem → PrimaryConnection → PrimaryConnection
longer item c = record c { stream = c.stream ++ item ∷ [] }

pub carried : (e : EndState) (c : PrimaryConnection) (block : ℕ) (contents : List ℕ) (place epoch : ℕ) → LeavesEnd e c → under_way c ≡ []
    → is_established c ≡ true
    → place ≡ length c.stream → epoch ≡ last_epoch c.stream
    → LeavesEnd (carrying block contents place epoch e) (longer (ResyncItem block contents) c)
carried e c block contents place epoch l none on place_is epoch_is = record {
  is_open = l.is_open;
  plain = l.plain;
  sync = l.sync;
  loss = l.loss;
  hello = l.hello;
  hello_received = l.hello_received;
  hello_sent = l.hello_sent;
  pushed = let more = length-append c.stream (ResyncItem block contents ∷ []) in let within = l.pushed in omega arith;
  unsent = ap (λ (u : List StreamItem). u ++ ResyncItem block contents ∷ []) l.unsent
      ∙ sym (drop-append-le (c.pushed - 3) c.stream (ResyncItem block contents ∷ []) l.pushed);
  resync = l.resync ∙ sym (runs-more c (longer (ResyncItem block contents) c) (ResyncItem block contents) refl refl refl refl);
  under_way = (
    contents,
    under-way-block c (longer (ResyncItem block contents) c) (ResyncItem block contents) (record { closed = refl; pushed = refl; taken = refl; refused = refl })
        refl refl ((l.unasked (length c.stream) (ResyncItem block contents) (omega arith)).2) none
        ∙ ap (λ n. (n, ResyncItem block contents) ∷ []) (sym place_is),
    ap (epoch_of (c.stream ++ ResyncItem block contents ∷ [])) place_is ∙ (epoch-end c.stream (ResyncItem block contents ∷ []) ∙ sym epoch_is),
  );
  unasked = λ at item later. let more = length-append c.stream (ResyncItem block contents ∷ []) in l.unasked at item (omega arith);
  unbegun = λ new. absurd (both_ways c.begun new (established-parts c on).1);
}

-- The last epoch goes on where the item is not acknowledged.
pub goes-on : (h : PrimaryHistory) (block : ℕ) (contents : List ℕ) → is_established (primary_connection h) ≡ true → epoch_is_over h ≡ false
    → was_resynced (primary_connection h) (length (primary_connection h).stream) (ResyncItem block contents) ≡ false
    → epoch_is_over (appending (ResyncItem block contents) h) ≡ false
goes-on h block contents standing on unasked = not-over (appending (ResyncItem block contents) h) (longer (ResyncItem block contents) (primary_connection h))
    (primary-connection-of (longer (ResyncItem block contents)) h (appending (ResyncItem block contents) h) refl
    (established-parts (primary_connection h) standing).0) (record {
      unsettled = unsettled-more h (appending (ResyncItem block contents) h) (primary_connection h) (longer (ResyncItem block contents) (primary_connection h))
          (ResyncItem block contents) refl refl going.unsettled
          (λ number was i a at same. was i a at same) (λ write is. absurd (cc)) (λ place other old. refl) unasked;
      room = subst (HasRoom h.settings) (sym size) going.room;
    })
  where
    going : GoesOn h (primary_connection h)
    going = rule.goes-on h standing on

    last : last_epoch ((primary_connection h).stream ++ ResyncItem block contents ∷ []) ≡ last_epoch (primary_connection h).stream
    last = ap suc (barriers-more (primary_connection h).stream (ResyncItem block contents) refl)

    size : epoch_size ((primary_connection h).stream ++ ResyncItem block contents ∷ [])
        (last_epoch ((primary_connection h).stream ++ ResyncItem block contents ∷ [])) ≡ epoch_size
        (primary_connection h).stream (last_epoch (primary_connection h).stream)
    size = ap (epoch_size ((primary_connection h).stream ++ ResyncItem block contents ∷ [])) last
        ∙ size-more (primary_connection h).stream (ResyncItem block contents) (last_epoch (primary_connection h).stream) refl

stream-faithful : (l : LogState) (g : PrimaryHistory) (faithful : Bool) → LeavesStream l (parted g) → LeavesStream l (parted (record g { faithful = faithful }))
stream-faithful l g faithful = go (epoch_is_over g)
  where
    go : (b : Bool)
        → LeavesStream l (elim b as (λ _. PrimaryHistory) [ true ↦ appending (BarrierItem (last_epoch (primary_connection g).stream)) g | false ↦ g ])
        → LeavesStream l (elim b as (λ _. PrimaryHistory) [
          | true ↦ appending (BarrierItem (last_epoch (primary_connection g).stream)) (record g { faithful = faithful })
          | false ↦ record g { faithful = faithful }
        ])
    go true d = record { max_epoch = d.max_epoch; on = d.on; here = d.here; off = d.off }
    go false d = record { max_epoch = d.max_epoch; on = d.on; here = d.here; off = d.off }

-- nothing else sees whether the history is faithful
due-faithful : (s : PrimaryState) (barrier : Option ℕ) (h : PrimaryHistory) (faithful : Bool) → IsDue s barrier h
    → IsDue s barrier (record h { faithful = faithful })
due-faithful s barrier h faithful d = record {
  homes = homes-faithful h faithful d.homes;
  done = d.done;
  settings = d.settings;
  tuple = d.tuple;
  peer = d.peer;
  connections = d.connections;
  log = record {
    protocol = d.log.protocol;
    backlog = d.log.backlog;
    accepted = d.log.accepted;
    connection = d.log.connection;
    writes = d.log.writes;
    last_writes = d.log.last_writes;
  };
  completed = d.completed;
  barrier_is = d.barrier_is;
  stream = stream-faithful s.log (with_completions h) faithful d.stream;
  entries = d.entries;
  receipts = d.receipts;
  held = d.held;
  marks = d.marks;
  activity = d.activity;
  end = d.end;
}

module _ (settings : Settings) (bound : TakesWrites settings) (s : PrimaryState) (h : PrimaryHistory) (e : EndState) (left : Leaves s h)
    (ordered : Ordered settings h) (end : LeavesEnd e (primary_connection h))
    (runs : resync_runs (primary_connection h) ≡ true) (none : under_way (primary_connection h) ≡ []) (block : ℕ) (free : free_block h ≡ Some block)
    (read : Option (List ℕ)) where
  on : is_established (primary_connection h) ≡ true
  on = (and_parts (is_established (primary_connection h)) (in_resync (primary_connection h).stream) runs).0

  contents : List ℕ
  contents = given read h block

  out : primary_connection (appending (ResyncItem block (given read h block)) h) ≡ longer (ResyncItem block (given read h block))
      (primary_connection h)
  out = primary-connection-of (longer (ResyncItem block (given read h block))) h
      (appending (ResyncItem block (given read h block)) h) refl
      end.is_open

  same : SeesSame (primary_connection h) (longer (ResyncItem block (given read h block)) (primary_connection h))
  same = record { closed = refl; pushed = refl; taken = refl; refused = refl }

  unseen : IsUnseen h (turned (longer (ResyncItem block (given read h block))) h.tuple h.peer h.marks h)
  unseen = record {
    logged = λ i a at. seen-same h (appending (ResyncItem block (given read h block)) h)
        (longer (ResyncItem block (given read h block))) refl refl same a;
    released = λ i a at. released-alike h (appending (ResyncItem block (given read h block)) h)
        (longer (ResyncItem block (given read h block))) refl refl same ordered.1.1.0.0 (ResyncItem block (given read h block) ∷ [])
        refl i a at;
  }

  index : last_index (appending (ResyncItem block (given read h block)) h).connections ≡ last_index h.connections
  index = ap (λ m. m - 1) (length-change (longer (ResyncItem block (given read h block))) h.connections)

  stream : LeavesStream (log.resync_placed s.log).1 (appending (ResyncItem block (given read h block)) h)
  stream = record {
    max_epoch = left.stream.max_epoch;
    on = λ so. subst (λ (d : PrimaryConnection). LeavesEpochs (log.resync_placed s.log).1 d) (sym out)
        (epochs-resync s.log (log.resync_placed s.log).1 (primary_connection h)
        (longer (ResyncItem block (given read h block)) (primary_connection h))
        (ResyncItem block (given read h block)) (left.stream.on on) same refl refl refl refl refl refl refl refl);
    here = λ so i a at behind. let place = left.stream.here on i a at behind in
        (place.0, place.1 ∙ ap (λ m. let at : StreamPosition = record { index = m; place = place.0 } in Some at) (sym index));
    off = λ off. absurd (both_ways (is_established (primary_connection (appending (ResyncItem block (given read h block)) h))) off
        (ap is_established out ∙ on));
  }

  held : holding_too (holding 0 block 1) s.held ≡ held_of (appending (ResyncItem block (given read h block)) h)
  held =
      ap (holding_too (holding 0 block 1)) (held-alone s h left.rest.held none)
      ∙ (zero-first (holding 0 block 1) (map holding_write (open_writes h))
      (above-zero h ordered.1.1.0.0 (open_writes h) (λ i a at. let there = pick-filtered (is_open h) h.writes i a at in let number =
      ordered.1.1.0.0.numbered there.0 a there.1 in omega arith))
      ∙ sym (λ i. map holding_item (if (ap is_established out ∙ on) i then (ap under_way out ∙ ways) i else []) ++ map holding_write (open_writes h)))
    where
      ways : under_way (longer (ResyncItem block (given read h block)) (primary_connection h)) ≡ (
        length (primary_connection h).stream,
        ResyncItem block (given read h block),
      ) ∷ []
      ways = under-way-block (primary_connection h) (longer (ResyncItem block (given read h block)) (primary_connection h))
          (ResyncItem block (given read h block)) same refl refl
          ((end.unasked (length (primary_connection h).stream) (ResyncItem block (given read h block)) (omega arith)).2) none

  -- the block is under way, before what follows
  pub copying-due : IsDue (record s {
    log = (log.resync_placed s.log).1;
    held = holding_too (holding 0 block 1) s.held;
    end = Some (carrying block (given read h block) s.log.epochs.places (suc s.log.epochs.ended) e);
  }) None (copying read block h)
  copying-due = due-faithful _ None _ (is_none read && h.faithful) (
      unseen-due s h left (longer (ResyncItem block (given read h block))) h.tuple h.peer h.marks unseen
      (homes-faithful (copying read block h) h.faithful
      ((in-order-kept settings bound).resyncs h block read tt runs (ap (λ (l : List (ℕ × StreamItem)). nat_lt 0 (length l)) none) free ordered).1.1.0.0)
      (goes-on h block (given read h block) on ordered.1.1.0.1.on
      ((end.unasked (length (primary_connection h).stream) (ResyncItem block (given read h block)) (omega arith)).2))
      end.is_open s.tuple left.rest.tuple s.peer left.rest.peer s.log.connection s.log.acknowledged_through (with_resync s.log.epochs)
      (left.rest.log.connection ∙ sym (λ i. if is_established (out i) then Some (index i) else None)) stream s.marks left.rest.marks
      (holding_too (holding 0 block 1) s.held) held
      (carrying block (given read h block) s.log.epochs.places (suc s.log.epochs.ended) e)
      (carried e (primary_connection h) block (given read h block) s.log.epochs.places (suc s.log.epochs.ended) end none on
      (left.stream.on on).places
      (ap suc (left.stream.on on).ended)))
