-- An item that is neither a write nor a block of a resync goes to the end of a stream that stands.
use Rattle.std.proofs.Common.{ℕ, ◌≡◌, ◌+◌, ◌-◌, Bool, true, false, not, ◌&&◌, List, [], ◌∷◌, ◌++◌, length, map, filter, Option, Some, None, slice_get}
use Rattle.std.proofs.Common.{refl, sym, ◌∙◌, ap, subst, arith}
use Rattle.std.specs.Prelude.{option_map, if◌then◌else◌}
use Rattle.std.proofs.lemmas.Bool.{both_ways}
use Rattle.std.proofs.lemmas.List.{drop-append-le, length-append}
use Rattle.std.proofs.lemmas.List.Elements.{filter-append}
use Rattle.std.proofs.lemmas.Option.{slice_get_within}
use Rattle.model.specs.Stream.{StreamItem, ResyncItem, placed, epoch_of}
use Rattle.model.specs.Primary.{Accepted, PrimaryConnection, PrimaryHistory, no_primary_connection, primary_connection, is_established, is_resync, was_resynced}
use Rattle.model.specs.Primary.{under_way, resync_runs, is_released}
use Rattle.model.specs.Primary.{unreleased, open_writes}
use Rattle.model.specs.PrimarySteps.{appending}
use Rattle.laws.proofs.Rules.Completions.{completes-same}
use Rattle.laws.proofs.Lists.Last.{length-change}
use Rattle.laws.proofs.Lists.Picks.{pick-filtered}
use Rattle.laws.proofs.Primary.Homes.{HasHomes}
use Rattle.laws.proofs.Primary.Ends.{established-parts}
use Rattle.laws.proofs.Primary.LawfulMoves.{last-changed}
use Rattle.laws.proofs.Streams.Lawful.{placed-append}
use Rattle.laws.proofs.Streams.Places.{epoch-grows, placed-back}
use Rattle.primary_protocol.specs.Core.{UnderWay, EndState, PrimaryState}
use Rattle.primary_protocol.specs.Leaves.{logged_of, LeavesActivity, LeavesRest, LeavesEnd, EndLeft, UnderWayLeft, holding_item, holding_write}
use Rattle.primary_protocol.proofs.Common.Filters.{filter-at, map-at}
use Rattle.primary_protocol.proofs.Common.Connections.{SeesSame, seen-same, released-alike, alone-same, answers-same}

-- what is under way, with one item more that is no block of a resync
pub under-way-more : (c d : PrimaryConnection) (item : StreamItem) → SeesSame c d → d.stream ≡ c.stream ++ item ∷ [] → is_resync item ≡ false
    → under_way d ≡ under_way c
under-way-more c d item same stream plain =
    ap (λ (s : List StreamItem). filter (waits d) (placed s)) stream
    ∙ (ap (filter (waits d)) (placed-append 0 c.stream (item ∷ []))
    ∙ (filter-append (waits d) (placed c.stream) ((0 + length c.stream, item) ∷ [])
    ∙ (ap (λ b. filter (waits d) (placed c.stream) ++ (if b && not (was_resynced d (0 + length c.stream) item) then (0 + length c.stream, item) ∷ [] else []))
    plain
    ∙ (none (filter (waits d) (placed c.stream))
    ∙ filter-at (waits d) (waits c) (placed c.stream) (λ i entry at. ap (λ b. is_resync entry.1 && not b) (rw (same.taken, same.refused) refl))))))
  where
    waits : PrimaryConnection → ℕ × StreamItem → Bool
    waits e entry = is_resync entry.1 && not (was_resynced e entry.0 entry.1)

    none : (xs : List (ℕ × StreamItem)) → xs ++ [] ≡ xs
    none [] = refl
    none (x ∷ xs) = ap (λ (l : List (ℕ × StreamItem)). x ∷ l) (none xs)

-- what is under way stands in the stream
pub under-way-at : (c : PrimaryConnection) (place : ℕ) (item : StreamItem) (rest : List (ℕ × StreamItem)) → under_way c ≡ (place, item) ∷ rest
    → slice_get c.stream place ≡ Some item
under-way-at c place item rest is =
    let first : slice_get (under_way c) 0 ≡ Some (place, item) = ap (λ (l : List (ℕ × StreamItem)). slice_get l 0) is in
    let there = pick-filtered (λ (entry : ℕ × StreamItem). is_resync entry.1 && not (was_resynced c entry.0 entry.1)) (placed c.stream) 0 (place, item) first in
    let back = placed-back 0 c.stream there.0 (place, item) there.1 in
    let index : there.0 ≡ place = let p = back.0 in omega arith in
    subst (λ n. slice_get c.stream n ≡ Some item) index back.1

-- the block under way, with one item more
pub way-more : (v : Option UnderWay) (c d : PrimaryConnection) (item : StreamItem) → SeesSame c d → d.stream ≡ c.stream ++ item ∷ [] → is_resync item ≡ false
    → UnderWayLeft v c
    → UnderWayLeft v d
way-more None c d item same stream plain is = under-way-more c d item same stream plain ∙ is
way-more (Some way) c d item same stream plain left =
    let within = slice_get_within c.stream way.place (ResyncItem way.block left.0) (under-way-at c way.place (ResyncItem way.block left.0) [] left.1) in (
      left.0,
      under-way-more c d item same stream plain ∙ left.1,
      ap (λ (s : List StreamItem). epoch_of s way.place) stream
          ∙ (epoch-grows c.stream (item ∷ []) way.place (omega arith) ∙ left.2),
    )

-- an end's stream goes on, which waits to be sent
abbrev pub queued : List StreamItem → Bool → EndState → EndState
queued items resync e = record e { unsent = e.unsent ++ items; resync = resync }

pub end-more : (e : EndState) (c d : PrimaryConnection) (item : StreamItem) → SeesSame c d → d.stream ≡ c.stream ++ item ∷ [] → d.sync ≡ c.sync
    → d.loss ≡ c.loss
    → d.hello ≡ c.hello → d.begun ≡ true → is_resync item ≡ false
    → LeavesEnd e c → LeavesEnd (queued (item ∷ []) (resync_runs d) e) d
end-more e c d item same stream sync loss hello begun plain l = record {
  is_open = same.closed ∙ l.is_open;
  plain = same.refused ∙ l.plain;
  sync = l.sync ∙ sym sync;
  loss = l.loss ∙ sym loss;
  hello = l.hello ∙ sym hello;
  hello_received = rw (same.taken) l.hello_received;
  hello_sent = rw (same.pushed) l.hello_sent;
  pushed = let longer : length d.stream ≡ length c.stream + 1 = ap length stream
      ∙ length-append c.stream (item ∷ []) in let within = l.pushed in let p = same.pushed in omega arith;
  unsent = rw (same.pushed, stream) (ap (λ (u : List StreamItem). u ++ item ∷ []) l.unsent ∙ sym (drop-append-le (c.pushed - 3) c.stream (item ∷ []) l.pushed));
  resync = refl;
  under_way = way-more e.under_way c d item same stream plain l.under_way;
  unasked = λ place other later.
      let longer : length d.stream ≡ length c.stream + 1 = ap length stream ∙ length-append c.stream (item ∷ []) in
      let none = l.unasked place other (omega arith) in
      rw (same.taken, same.refused) none;
  unbegun = λ new epoch. absurd (both_ways d.begun new begun);
}

module _ (t : PrimaryState) (g : PrimaryHistory) (item : StreamItem) (left : LeavesRest t g) (homes : HasHomes g)
    (on : is_established (primary_connection g) ≡ true)
    (plain : is_resync item ≡ false) where
  later : PrimaryHistory
  later = appending item g

  parts : ((primary_connection g).closed ≡ false) × ((primary_connection g).begun ≡ true)
  parts = established-parts (primary_connection g) on

  pub primary-connection-more : primary_connection (appending item g) ≡ record (primary_connection g) { stream = (primary_connection g).stream ++ item ∷ [] }
  primary-connection-more = last-changed g (λ c. record c { stream = c.stream ++ item ∷ [] }) (no_primary_connection g.tuple) parts.0

  same : SeesSame (primary_connection g) (record (primary_connection g) { stream = (primary_connection g).stream ++ item ∷ [] })
  same = record { closed = refl; pushed = refl; taken = refl; refused = refl }

  seen : (a : Accepted) → logged_of (appending item g) a ≡ logged_of g a
  seen = seen-same g (appending item g) (λ c. record c { stream = c.stream ++ item ∷ [] }) refl refl same

  pub unreleased-more : unreleased (appending item g) ≡ unreleased g
  unreleased-more = filter-at (λ a. not (is_released (appending item g) a)) (λ a. not (is_released g a)) g.writes
      (λ i a at. ap not (released-alike g (appending item g) (λ c. record c { stream = c.stream ++ item ∷ [] }) refl refl same homes (item ∷ []) refl i a at))

  ends : (v : Option EndState) → EndLeft v (primary_connection g)
      → EndLeft (option_map (queued (item ∷ []) (resync_runs (primary_connection (appending item g)))) v) (primary_connection (appending item g))
  ends None closed = absurd (both_ways (primary_connection g).closed parts.0 closed)
  ends (Some e) l =
      end-more e (primary_connection g) (primary_connection (appending item g)) item
      (subst (SeesSame (primary_connection g)) (sym primary-connection-more) same)
      (ap (λ (c : PrimaryConnection). c.stream) primary-connection-more) (ap (λ (c : PrimaryConnection). c.sync) primary-connection-more)
      (ap (λ (c : PrimaryConnection). c.loss) primary-connection-more) (ap (λ (c : PrimaryConnection). c.hello) primary-connection-more)
      (ap (λ (c : PrimaryConnection). c.begun) primary-connection-more ∙ parts.1) plain l

  -- The rest of the state is left, with the item waiting to be sent.
  pub rest-more : LeavesRest (record t { end = option_map (queued (item ∷ []) (resync_runs (primary_connection (appending item g)))) t.end }) (appending item g)
  rest-more = record {
    settings = left.settings;
    tuple = left.tuple;
    peer = left.peer;
    connections = left.connections ∙ sym (length-change (λ (c : PrimaryConnection). record c { stream = c.stream ++ item ∷ [] }) g.connections);
    log = record {
      protocol = left.log.protocol;
      backlog = left.log.backlog;
      accepted = left.log.accepted;
      connection = left.log.connection
          ∙ sym (λ i. if is_established (primary-connection-more i)
          then Some (length-change (λ (c : PrimaryConnection). record c { stream = c.stream ++ item ∷ [] }) g.connections i - 1)
          else None);
      writes = left.log.writes ∙ sym (ap (map (logged_of (appending item g))) unreleased-more
          ∙ map-at (logged_of (appending item g)) (logged_of g) (unreleased g) (λ i a at. seen a));
      last_writes = left.log.last_writes;
    };
    entries = record { entries = left.entries.entries; receipts = left.entries.receipts };
    marks = left.marks;
    held = left.held ∙ λ i. map holding_item (if is_established (sym primary-connection-more i) then ways i else []) ++ map holding_write (open_writes g);
    activity = subst (LeavesActivity t.activity g.settings.slots) (sym unreleased-more) left.activity;
    end = ends t.end left.end;
    quiet = λ i a at. left.quiet i a at
        ∙ sym (completes-same g (appending item g) a (answers-same g (appending item g) (λ c. record c { stream = c.stream ++ item ∷ [] }) refl refl same a)
        (alone-same g (appending item g) (λ c. record c { stream = c.stream ++ item ∷ [] }) refl refl same a));
  }
    where
      ways : under_way (primary_connection g) ≡ under_way (primary_connection (appending item g))
      ways = sym (under-way-more (primary_connection g) (primary_connection (appending item g)) item
          (subst (SeesSame (primary_connection g)) (sym primary-connection-more) same)
          (ap (λ (c : PrimaryConnection). c.stream) primary-connection-more) plain)
