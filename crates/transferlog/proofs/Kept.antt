-- What is kept about a log where something happened to one write, or an epoch was acknowledged.
use Rattle.std.proofs.Common.{◌≡◌, ℕ, ◌+◌, ◌<◌, ◌≤◌, ◌==◌, nat_le, Bool, true, false, ◌&&◌, ◌||◌, List, [], ◌∷◌, ◌++◌, length, drop, refl, sym, ◌∙◌, ap, arith}
use Rattle.std.proofs.Common.{Option, Some, None, not}
use Rattle.std.specs.Prelude.{filter, if◌then◌else◌, map, sum, vec_capacity, Result, Ok}
use Rattle.blocks.specs.declared.refusal.Refusal.{Refusal}
use Rattle.std.specs.Option.{option_map}
use Rattle.std.proofs.lemmas.Bool.Decides.{nat_tests}
use Rattle.std.proofs.lemmas.Grind.{common_steps}
use Rattle.blocks.specs.Positions.{StreamPosition}
use Rattle.epochs.specs.Epochs.{EpochsState, is_in_last, ended_if, is_awaited, begins_with, acknowledging, with_write}
use Rattle.transferlog.specs.Writes.{LogWrite, is_released, is_settled, released_of}
use Rattle.transferlog.specs.Ring.{Each, Rises, ReleasedFrom, ReleasedBelow, on, with_change, changed}
use Rattle.transferlog.specs.Log.{LogState, moved, changing, ended_by, closes_any, home_in, with_last_write, accepted_write, accepting, confirming, may_confirm}
use Rattle.transferlog.specs.Log.{lacks_answer, asks_answers}
use Rattle.transferlog.specs.Fields.{IsKept, IsAlone, IsLog}
use Rattle.transferlog.specs.declared.log.TransferLog.TheInside.{Inside}
use Rattle.transferlog.specs.declared.report.Accepted.{Accepted}
use Rattle.transferlog.specs.declared.report.Completed.{Completed}
use Rattle.transferlog.specs.declared.report.Released.{Released}
use Rattle.transferlog.specs.declared.write.Change.{Change}
use Rattle.transferlog.specs.declared.write.Change.TheVariants as change
use Rattle.transferlog.specs.LastWrites.{LastWritesState, IsNotedWrite, forgotten_all, known_at}
use Rattle.transferlog.proofs.InSlots.{number-changed}
use Rattle.transferlog.proofs.Moves.{left_kept, each_filter, each_changed, few_left, number_is, rises_changed}
use Rattle.transferlog.proofs.Noted.{each_noted_still, noted_quiet, noted_released}
use Rattle.transferlog.proofs.Sweep.{few_filtered}

sum-push : (ns : List ℕ) (n : ℕ) → sum (ns ++ n ∷ []) ≡ sum ns + n
sum-push ns n = grind (arith, common_steps)

-- the epochs' writes were accepted after the acknowledged ones
pub record IsBounded (acknowledged_through accepted : ℕ) (e : EpochsState) : Type 0 where
  pub confirmed_writes : acknowledged_through + (sum e.sizes + e.size) ≤ accepted
  pub begun : 0 < e.size → e.first + e.size ≤ accepted + 1

bounded_if : (b : Bool) (acknowledged_through accepted : ℕ) (e : EpochsState) → IsBounded acknowledged_through accepted e → IsBounded acknowledged_through accepted (ended_if b e).1
bounded_if true acknowledged_through accepted e bounded = record {
  confirmed_writes = omega (arith, sum-push e.sizes e.size, bounded.confirmed_writes);
  begun = λ positive. absurd (omega arith);
}
bounded_if false acknowledged_through accepted e bounded = bounded

pub bounded_ended : (b : Bool) (number acknowledged_through accepted : ℕ) (e : EpochsState) → IsBounded acknowledged_through accepted e
    → IsBounded acknowledged_through accepted (ended_by b number e).1
bounded_ended true number acknowledged_through accepted e bounded = bounded_if (is_in_last number e) acknowledged_through accepted e bounded
bounded_ended false number acknowledged_through accepted e bounded = bounded

is_positive : (n : ℕ) → (n == 0) ≡ false → 0 < n
is_positive n is = grind (arith, nat_tests)

not_zero : (n : ℕ) → (n + 1 == 0) ≡ false
not_zero n = grind (arith, nat_tests)

bounded_more : (acknowledged_through accepted : ℕ) (e : EpochsState) → IsBounded acknowledged_through accepted e
    → IsBounded acknowledged_through (accepted + 1) (with_write (accepted + 1) e)
bounded_more acknowledged_through accepted e bounded = record { confirmed_writes = omega (arith, bounded.confirmed_writes); begun = λ positive. go (e.size == 0) refl }
  where
    go : (b : Bool) → (e.size == 0) ≡ b → (if e.size == 0 then accepted + 1 else e.first) + (e.size + 1) ≤ accepted + 1 + 1
    go true none = let zero : e.size ≡ 0 = number_is e.size 0 none in rw none (omega arith)
    go false some = rw some (omega (arith, bounded.begun (is_positive e.size some)))

-- the same, where one more write is accepted
pub bounded_home : (acknowledged_through accepted : ℕ) (connection : Option ℕ) (e : EpochsState) → IsBounded acknowledged_through accepted e
    → IsBounded acknowledged_through (accepted + 1) (home_in connection (accepted + 1) e).1.1
bounded_home acknowledged_through accepted None e bounded =
    record { confirmed_writes = omega (arith, bounded.confirmed_writes); begun = λ positive. omega (arith, bounded.begun positive) }
bounded_home acknowledged_through accepted (Some index) e bounded =
    rw (not_zero accepted) (bounded_if (nat_le e.max_epoch (e.size + 1)) acknowledged_through (accepted + 1) (with_write (accepted + 1) e)
    (bounded_more acknowledged_through accepted e bounded))

-- the writes that the last call released are forgotten
pub record HasForgotten (l m : Inside) : Type 0 where
  pub blocks : m.blocks ≡ l.blocks
  pub numbers : m.last_writes.numbers ≡ l.last_writes.numbers
  pub known : (block : ℕ) → known_at block m.last_writes ≡ forgotten_all l.released.items block (known_at block l.last_writes)

-- the others are noted still
noted_in : (l m : Inside) → IsLog l → HasForgotten l m → Each (IsNotedWrite m.last_writes) l.ring.writes
noted_in l m log gone = each_noted_still l.last_writes m.last_writes l.released.items l.ring.writes gone.numbers gone.known log.apart log.noted

noted_changed : (s : LastWritesState) (what : Change) (w : LogWrite) → IsNotedWrite s w → IsNotedWrite s (changed what w)
noted_changed s (change.Sent answers) w it = it
noted_changed s change.Answered w it = it
noted_changed s change.OnDisk w it = it
noted_changed s change.Failed w it = it
noted_changed s change.Unlinked w it = it

alone_changed : (what : Change) (w : LogWrite) → IsAlone w → IsAlone (changed what w)
alone_changed (change.Sent answers) w alone = alone
alone_changed change.Answered w alone = alone
alone_changed change.OnDisk w alone = alone
alone_changed change.Failed w alone = alone
alone_changed change.Unlinked w alone = refl

-- what is kept about a log is kept where one write was changed, and released if it is
pub log_changed : (l m : Inside) (number : ℕ) (what : Change) → IsLog l → m.ring.next ≡ l.ring.next → m.accepted ≡ l.accepted → m.connection ≡ l.connection
    → m.acknowledged_through ≡ l.acknowledged_through → m.backlog ≡ l.backlog
    → m.ring.writes ≡ filter (λ w. not (is_released l.acknowledged_through w)) (with_change number (changed what) l.ring.writes)
    → vec_capacity m.released ≡ vec_capacity l.released → vec_capacity m.completed ≡ vec_capacity l.completed
    → IsBounded l.acknowledged_through l.accepted m.epochs.state → HasForgotten l m → Rises 0 l.ring.writes
    → m.released.items ≡ map released_of (filter (is_released l.acknowledged_through) (with_change number (changed what) l.ring.writes)) → IsLog m
log_changed l m number what log next accepted connection acknowledged_through backlog writes released completed bounded gone rises releases =
    let few : length m.ring.writes ≤ length l.ring.writes =
    rw writes (few_left (λ w. not (is_released l.acknowledged_through w)) (on number (changed what)) l.ring.writes) in
    let are_noted = noted_released m.last_writes (is_released l.acknowledged_through) (with_change number (changed what) l.ring.writes)
    (rises_changed number 0 (changed what) l.ring.writes (number-changed what) rises)
    (each_changed (IsNotedWrite m.last_writes) number (changed what) l.ring.writes (noted_changed m.last_writes what) (noted_in l m log gone)) in
    record {
      next = next ∙ (log.next ∙ ap (λ n. n + 1) (sym accepted));
      few_accepted = rw accepted log.few_accepted;
      kept = rw (acknowledged_through, writes) (left_kept l.acknowledged_through (with_change number (changed what) l.ring.writes));
      numbered = rw connection log.numbered;
      alone = λ none. rw writes (each_filter IsAlone (λ w. not (is_released l.acknowledged_through w)) (with_change number (changed what) l.ring.writes)
          (each_changed IsAlone number (changed what) l.ring.writes (alone_changed what) (log.alone (sym connection ∙ none))));
      few = omega (arith, few, log.few, backlog);
      some = rw backlog log.some;
      room_for_released = omega (arith, log.room_for_released, backlog, released);
      room_for_completed = omega (arith, log.room_for_completed, backlog, completed);
      acknowledged_through = rw (acknowledged_through, accepted) bounded.confirmed_writes;
      begun = rw accepted bounded.begun;
      sized = ap length gone.numbers ∙ (log.sized ∙ sym gone.blocks);
      noted = rw writes are_noted.writes;
      reported = rw releases are_noted.releases;
      apart = rw (writes, releases) are_noted.apart;
    }

-- what is kept about a log is kept where nothing was released or completed
pub log_quiet : (l m : Inside) → IsLog l → m.ring ≡ l.ring → m.accepted ≡ l.accepted → m.connection ≡ l.connection
    → m.acknowledged_through ≡ l.acknowledged_through → m.backlog ≡ l.backlog
    → vec_capacity m.released ≡ vec_capacity l.released → vec_capacity m.completed ≡ vec_capacity l.completed
    → IsBounded l.acknowledged_through l.accepted m.epochs.state → HasForgotten l m → m.released.items ≡ [] → IsLog m
log_quiet l m log ring accepted connection acknowledged_through backlog released completed bounded gone none =
    let are_noted = noted_quiet l.last_writes m.last_writes l.released.items m.released.items l.ring.writes gone.numbers gone.known log.apart log.noted none in
    record {
      next = rw (ring, accepted) log.next;
      few_accepted = rw accepted log.few_accepted;
      kept = rw (ring, acknowledged_through) log.kept;
      numbered = rw connection log.numbered;
      alone = rw (ring, connection) log.alone;
      few = rw (ring, backlog) log.few;
      some = rw backlog log.some;
      room_for_released = omega (arith, log.room_for_released, backlog, released);
      room_for_completed = omega (arith, log.room_for_completed, backlog, completed);
      acknowledged_through = rw (acknowledged_through, accepted) bounded.confirmed_writes;
      begun = rw accepted bounded.begun;
      sized = ap length gone.numbers ∙ (log.sized ∙ sym gone.blocks);
      noted = rw ring are_noted.writes;
      reported = are_noted.releases;
      apart = rw ring are_noted.apart;
    }

one_kept_alone : (settled linked before after : Bool) → linked ≡ false → (settled && (not linked || before)) ≡ false
    → (settled && (not linked || after)) ≡ false
one_kept_alone false linked before after alone kept = refl
one_kept_alone true true before after alone kept = cc
one_kept_alone true false before after alone kept = cc

-- a write without a connection is kept whatever is acknowledged
pub kept_alone : (before after : ℕ) (ws : List LogWrite) → Each (IsKept before) ws → Each IsAlone ws → Each (IsKept after) ws
kept_alone before after [] kept alone = tt
kept_alone before after (w ∷ ws) kept alone = (
  one_kept_alone (is_settled w) w.linked (nat_le w.number before) (nat_le w.number after) alone.0 kept.0,
  kept_alone before after ws kept.1 alone.1,
)

-- the log after a change, by its parts
pub changed_is : (s : LogState) (number : ℕ) (f : LogWrite → LogWrite) (writes : List LogWrite) (released : List Released) (completed : List Completed)
    (ended : Option ℕ × EpochsState)
    → writes ≡ (moved (on number f) s.acknowledged_through s).writes → released ≡ (moved (on number f) s.acknowledged_through s).released
    → completed ≡ (moved (on number f) s.acknowledged_through s).completed
    → ended ≡ ended_by (closes_any (on number f) s) number s.epochs
    → let result : Option ℕ × LogState = (ended.0, record s { writes = writes; released = released; completed = completed; epochs = ended.1 }) in result ≡
    changing number f s
changed_is s number f writes released completed ended w r c e = rw (w, r, c, e) refl

-- the log after a write was accepted, by its parts
pub accepted_is : (s : LogState) (first count : ℕ) (contents : List ℕ) (home : Option StreamPosition) (barrier place : Option ℕ) (e : EpochsState)
    (last_writes : List ℕ) (writes : List LogWrite)
    (released : List Released) (completed : List Completed)
    → (let answer : Option StreamPosition × (Option ℕ × EpochsState) = (home, (barrier, e)) in answer ≡ home_in s.connection (s.accepted + 1) s.epochs)
    → place ≡ option_map (λ h. h.place) home → last_writes ≡ with_last_write (s.accepted + 1) first count s.last_writes
    → writes ≡ s.writes ++ accepted_write first count contents home s ∷ [] → released ≡ [] → completed ≡ []
    → (let result : Accepted × LogState = (
      record { number = s.accepted + 1; place = place; barrier = barrier },
      record s { accepted = s.accepted + 1; last_writes = last_writes; writes = writes; epochs = e; released = released; completed = completed },
    ) in
    result ≡ accepting first count contents s)
accepted_is s first count contents home barrier place e last_writes writes released completed is p l w r c =
    rw (p, l, w, r, c) (rw (ap (λ a. a.0) is, ap (λ a. a.1.0) is, ap (λ a. a.1.1) is) refl)

-- what is released newly, where one more epoch is acknowledged
newly : (settled linked old new : Bool) → (settled && (not linked || old)) ≡ false → (settled && (not linked || new)) ≡ true → (old ≡ false) × (new ≡ true)
newly false linked old new kept released = cc
newly true false old new kept released = cc
newly true true old new kept released = (kept, released)

number_above : (n c : ℕ) → nat_le n c ≡ false → c < n
number_above n c is = grind (arith, nat_tests)

number_within : (n c : ℕ) → nat_le n c ≡ true → n ≤ c
number_within n c is = grind (arith, nat_tests)

pub newly_from : (c k : ℕ) (ws : List LogWrite) → Each (IsKept c) ws → Each (ReleasedFrom k (c + 1)) ws
newly_from c k [] each = tt
newly_from c k (w ∷ ws) each = (
  λ released. let e = newly (is_settled w) w.linked (nat_le w.number c) (nat_le w.number k) each.0 released in omega (arith, number_above w.number c e.0),
  newly_from c k ws each.1,
)

pub newly_below : (c k : ℕ) (ws : List LogWrite) → Each (IsKept c) ws → Each (ReleasedBelow k (k + 1)) ws
newly_below c k [] each = tt
newly_below c k (w ∷ ws) each = (
  λ released. let e = newly (is_settled w) w.linked (nat_le w.number c) (nat_le w.number k) each.0 released in omega (arith, number_within w.number k e.1),
  newly_below c k ws each.1,
)

sum-first : (size : ℕ) (sizes : List ℕ) → begins_with size sizes ≡ true → sum sizes ≡ size + sum (drop 1 sizes)
sum-first size [] begins = cc
sum-first size (oldest ∷ sizes) begins = let same : size ≡ oldest = grind (arith, nat_tests) in grind (arith, common_steps)

and_left : (a b : Bool) → (a && b) ≡ true → a ≡ true
and_left true b is = refl
and_left false b is = cc

and_right : (a b : Bool) → (a && b) ≡ true → b ≡ true
and_right true b is = is
and_right false b is = cc

-- the epochs' writes were accepted after the acknowledged ones, where one more epoch is
pub bounded_confirmed : (number size acknowledged_through accepted : ℕ) (e : EpochsState) → is_awaited number size e ≡ true → IsBounded acknowledged_through accepted e
    → IsBounded (acknowledged_through + size) accepted (acknowledging number size e).1
bounded_confirmed number size acknowledged_through accepted e awaited bounded =
    let first = sum-first size e.sizes (and_right (number + length e.sizes == e.ended + 1) (begins_with size e.sizes) awaited) in
    rw awaited (record { confirmed_writes = omega (arith, first, bounded.confirmed_writes); begun = bounded.begun })

pub awaited_of : (number size : ℕ) (s : LogState) → may_confirm number size s ≡ true → is_awaited number size s.epochs ≡ true
awaited_of number size s may = and_left (is_awaited number size s.epochs) (not (asks_answers s.protocol && lacks_answer size s)) may

pub log_confirmed : (l m : Inside) (acknowledged_through : ℕ) → IsLog l → m.ring.next ≡ l.ring.next → m.accepted ≡ l.accepted → m.connection ≡ l.connection
    → m.acknowledged_through ≡ acknowledged_through → m.backlog ≡ l.backlog
    → m.ring.writes ≡ filter (λ w. not (is_released acknowledged_through w)) l.ring.writes
    → vec_capacity m.released ≡ vec_capacity l.released → vec_capacity m.completed ≡ vec_capacity l.completed
    → IsBounded acknowledged_through l.accepted m.epochs.state → HasForgotten l m → Rises 0 l.ring.writes
    → m.released.items ≡ map released_of (filter (is_released acknowledged_through) l.ring.writes) → IsLog m
log_confirmed l m acknowledged_through log next accepted connection confirmed_is backlog writes released completed bounded gone rises releases =
    let few : length m.ring.writes ≤ length l.ring.writes = rw writes (few_filtered (λ w. not (is_released acknowledged_through w)) l.ring.writes) in
    let are_noted = noted_released m.last_writes (is_released acknowledged_through) l.ring.writes rises (noted_in l m log gone) in
    record {
      next = next ∙ (log.next ∙ ap (λ n. n + 1) (sym accepted));
      few_accepted = rw accepted log.few_accepted;
      kept = rw (confirmed_is, writes) (left_kept acknowledged_through l.ring.writes);
      numbered = rw connection log.numbered;
      alone = λ none. rw writes (each_filter IsAlone (λ w. not (is_released acknowledged_through w)) l.ring.writes (log.alone (sym connection ∙ none)));
      few = omega (arith, few, log.few, backlog);
      some = rw backlog log.some;
      room_for_released = omega (arith, log.room_for_released, backlog, released);
      room_for_completed = omega (arith, log.room_for_completed, backlog, completed);
      acknowledged_through = rw (confirmed_is, accepted) bounded.confirmed_writes;
      begun = rw accepted bounded.begun;
      sized = ap length gone.numbers ∙ (log.sized ∙ sym gone.blocks);
      noted = rw writes are_noted.writes;
      reported = rw releases are_noted.releases;
      apart = rw (writes, releases) are_noted.apart;
    }

-- the log after an epoch was acknowledged, by its parts
pub confirmed_is : (number size : ℕ) (s : LogState) (acknowledged_through : ℕ) (writes : List LogWrite) (e : EpochsState) (released : List Released)
    (completed : List Completed)
    → acknowledged_through ≡ s.acknowledged_through + size → writes ≡ (confirming number size s).writes → e ≡ (confirming number size s).epochs
    → released ≡ (confirming number size s).released → completed ≡ []
    → (let result : Result (Unit {0}) Refusal × LogState =
    (Ok tt, record s { acknowledged_through = acknowledged_through; writes = writes; epochs = e; released = released; completed = completed }) in
    result ≡ (Ok tt, confirming number size s))
confirmed_is number size s acknowledged_through writes e released completed c w ep r d = rw (c, w, ep, r, d) refl
