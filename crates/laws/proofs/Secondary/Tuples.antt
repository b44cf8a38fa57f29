-- A secondary's tuple is that of its opening until it takes an item, and its hello says so.
use Rattle.std.proofs.Common.{ℕ, ◌≡◌, ◌-◌, ◌<◌, inl, inr, Bool, true, false, List, [], ◌∷◌, ◌++◌, length, take, drop, map, Option, Some, None, slice_get, refl}
use Rattle.std.proofs.Common.{sym, ◌∙◌, ap, subst, arith, nat_lt}
use Rattle.std.specs.Prelude.{filter_map, if◌then◌else◌}
use Rattle.std.specs.List.{cons_option}
use Rattle.std.proofs.lemmas.Bool.{cases_Bool, both_ways, ltb-false}
use Rattle.std.proofs.lemmas.List.{drop-append-le}
use Rattle.std.proofs.lemmas.List.Elements.{filter_map-append}
use Rattle.std.proofs.lemmas.Option.{slice_get_within}
use Rattle.blocks.specs.declared.settings.Settings.{Settings}
use Rattle.blocks.specs.declared.settings.Protocol.{Protocol}
use Rattle.blocks.specs.declared.tuple.Tuple.{Tuple}
use Rattle.model.specs.Contents.{BlockMap}
use Rattle.model.specs.Stream.{StreamItem}
use Rattle.model.specs.Frames.{Received}
use Rattle.model.specs.Primary.{last_of, change_last}
use Rattle.model.specs.Secondary.{SecondaryConnection, SecondaryHistory, secondary_opening, no_secondary_connection, secondary_connection}
use Rattle.model.specs.Secondary.{with_secondary_connection, accepted_of, received_item, items_taken}
use Rattle.model.specs.Secondary.{secondary_map, new_secondary_connection}
use Rattle.model.specs.SecondarySteps.{answering, barrier_answer, barriers_to_answer, opened_secondary, applying, failing, adopting}
use Rattle.model.specs.SecondarySteps.{next_number, applied_with}
use Rattle.model.specs.LocalRuns.{SecondaryEvent, secondary_after, secondary_run}
use Rattle.laws.proofs.Lists.Last.{get-change, get-change-back, last-at, get-last-changed}
use Rattle.laws.proofs.Secondary.Moves.{framed, receipting, pushed_one, closed_end, after-event}
use Rattle.laws.proofs.Lists.Elements.{get-left, get-more, append-empty, append-one}
use Rattle.laws.proofs.Secondary.Good.{taking-more, items-refusing}
use Rattle.laws.proofs.Rules.RefusedFrames.{refused_in, refused_by_too, refused-last-too}

-- While no item was taken, the tuple is the first one, and so is each hello with no item taken before it. An end that
-- refused a frame is closed.
pub record KeepsTuple (tuple : Tuple) (h : SecondaryHistory) : Type 0 where
  pub quiet : ((j : ℕ) (e : SecondaryConnection) → slice_get h.connections j ≡ Some e → items_taken e ≡ []) → h.tuple ≡ tuple
  pub hello : (k : ℕ) (d : SecondaryConnection) → slice_get h.connections k ≡ Some d
      → ((j : ℕ) (e : SecondaryConnection) → j < k → slice_get h.connections j ≡ Some e → items_taken e ≡ []) → d.hello ≡ tuple
  pub refused : (k : ℕ) (d : SecondaryConnection) → slice_get h.connections k ≡ Some d → d.refused ≡ true → d.closed ≡ true

-- A change of a connection that keeps its hello and loses no item.
record KeepsFront (d e : SecondaryConnection) : Type 0 where
  pub hello : e.hello ≡ d.hello
  pub items : items_taken e ≡ [] → items_taken d ≡ []
  pub refused : (d.refused ≡ true → d.closed ≡ true) → e.refused ≡ true → e.closed ≡ true

-- The last connection changes so. The tuple has to be the first one only where no item was taken before and none is now.
tuples-change : (tuple : Tuple) (h later : SecondaryHistory) (f : SecondaryConnection → SecondaryConnection) → KeepsTuple tuple h
    → later.connections ≡ change_last f h.connections
    → KeepsFront (secondary_connection h) (f (secondary_connection h))
    → (((j : ℕ) (e : SecondaryConnection) → slice_get h.connections j ≡ Some e → items_taken e ≡ [])
    → ((j : ℕ) (e : SecondaryConnection) → slice_get later.connections j ≡ Some e → items_taken e ≡ []) → later.tuple ≡ tuple)
    → KeepsTuple tuple later
tuples-change tuple h later f t connections keeps same =
    let none : SecondaryConnection = no_secondary_connection h in
    let before : (j : ℕ) (e : SecondaryConnection) → ((d : SecondaryConnection) → slice_get later.connections j ≡ Some d → items_taken d ≡ [])
    → slice_get h.connections j ≡ Some e
    → items_taken e ≡ []
    = λ j e quiet at. elim (get-change f none h.connections j e at) [
      | inl still ↦ quiet e (rw connections still)
      | inr changed ↦ subst (λ (x : SecondaryConnection). items_taken (f x) ≡ [] → items_taken x ≡ []) (sym changed.1) keeps.items
          (quiet (f e) (rw connections changed.0))
    ] in
    record {
      quiet = λ quiet. same (λ j e at. before j e (quiet j) at) quiet;
      hello = λ k d at quiet. elim (get-change-back f none h.connections k d (rw (← connections) at)) [
        | inl still ↦ t.hello k d still (λ j e less there. before j e (λ x. quiet j x less) there)
        | inr changed ↦ ap (λ (x : SecondaryConnection). x.hello) changed.0
            ∙ (keeps.hello ∙ t.hello k (secondary_connection h) changed.1 (λ j e less there. before j e (λ x. quiet j x less) there))
      ];
      refused = λ k d at was. elim (get-change-back f none h.connections k d (rw (← connections) at)) [
        | inl still ↦ t.refused k d still was
        | inr changed ↦ subst (λ (x : SecondaryConnection). x.closed ≡ true) (sym changed.0)
            (keeps.refused (t.refused k (secondary_connection h) changed.1) (subst (λ (x : SecondaryConnection). x.refused ≡ true) changed.0 was))
      ];
    }

-- and the tuple stays
tuples-with : (tuple : Tuple) (h later : SecondaryHistory) (f : SecondaryConnection → SecondaryConnection) → KeepsTuple tuple h
    → later.connections ≡ change_last f h.connections
    → later.tuple ≡ h.tuple
    → KeepsFront (secondary_connection h) (f (secondary_connection h)) → KeepsTuple tuple later
tuples-with tuple h later f t connections same keeps = tuples-change tuple h later f t connections keeps (λ quiet now. same ∙ t.quiet quiet)

-- Changes of a connection.

front-answering : (d : SecondaryConnection) → KeepsFront d (answering d)
front-answering d = go d.closed
  where
    go : (b : Bool) → KeepsFront d (elim b as
        (λ _. SecondaryConnection) [ true ↦ d | false ↦ record d { due = d.due ++ map (barrier_answer d) (barriers_to_answer d) } ])
    go true = record { hello = refl; items = λ none. none; refused = λ was. was }
    go false = record { hello = refl; items = λ none. none; refused = λ was. was }

front-applying : (asked : Protocol) (place : ℕ) (d : SecondaryConnection) → KeepsFront d (applying asked place d)
front-applying asked place d = go (slice_get (items_taken d) place)
  where
    go : (v : Option StreamItem) → KeepsFront d (applied_with v asked place d)
    go None = record { hello = refl; items = λ none. none; refused = λ was. was }
    go (Some item) = record { hello = refl; items = λ none. none; refused = λ was. was }

front-taking : (frame : Received) (d : SecondaryConnection) → d.refused ≡ false → KeepsFront d (framed frame d)
front-taking frame d accepted =
    let more = taking-more frame d accepted in
    record { hello = refl; items = λ none. append-empty (items_taken d) more.0 (sym more.1 ∙ none); refused = λ was. was }

front-refusing : (frame : Received) (d : SecondaryConnection) → d.refused ≡ false → KeepsFront d (refused_in frame d)
front-refusing frame d accepted = record { hello = refl; items = λ none. sym (items-refusing frame d accepted) ∙ none; refused = λ was r. refl }

-- a frame of an item that is taken behind the hello is not lost
pub taken-item : (frame : Received) (item : StreamItem) (d : SecondaryConnection) → d.refused ≡ false → nat_lt (length d.taken) 3 ≡ false
    → received_item frame ≡ Some item
    → items_taken (framed frame d) ≡ items_taken d ++ item ∷ []
taken-item frame item d accepted late is =
    let old : accepted_of d ≡ drop 3 d.taken = ap (λ b. drop 3 (if b then take (length d.taken - 1) d.taken else d.taken)) accepted in
    let new : accepted_of (framed frame d) ≡ drop 3 d.taken ++ frame ∷ [] =
    ap (λ b. drop 3 (if b then take (length (d.taken ++ frame ∷ []) - 1) (d.taken ++ frame ∷ []) else (d.taken ++ frame ∷ []))) accepted
    ∙ drop-append-le 3 d.taken (frame ∷ []) (ltb-false (length d.taken) 3 late) in
    ap (filter_map received_item) new
    ∙ (filter_map-append received_item (drop 3 d.taken) (frame ∷ [])
    ∙ (ap (λ v. filter_map received_item (drop 3 d.taken) ++ cons_option v []) is
    ∙ ap (λ (l : List Received). filter_map received_item l ++ item ∷ []) (sym old)))

-- Steps.

-- the last connection of an open end is there, and it refused nothing
pub open-there : (h : SecondaryHistory) → (secondary_connection h).closed ≡ false
    → slice_get h.connections (length h.connections - 1) ≡ Some (secondary_connection h)
open-there h standing = elim (last-at (no_secondary_connection h) h.connections) [
  | inl none ↦ absurd (both_ways (secondary_connection h).closed standing
      (ap (λ (l : List SecondaryConnection). (last_of (no_secondary_connection h) l).closed) none))
  | inr at ↦ at
]

plain : (tuple : Tuple) (h : SecondaryHistory) → KeepsTuple tuple h → (secondary_connection h).closed ≡ false → (secondary_connection h).refused ≡ false
plain tuple h t standing = elim (cases_Bool (secondary_connection h).refused) [
  | inl was ↦ absurd (both_ways (secondary_connection h).closed standing
      (t.refused (length h.connections - 1) (secondary_connection h) (open-there h standing) was))
  | inr not_so ↦ not_so
]

then-answering : (tuple : Tuple) (h : SecondaryHistory) → KeepsTuple tuple h → KeepsTuple tuple (with_secondary_connection answering h)
then-answering tuple h t = tuples-with tuple h (with_secondary_connection answering h) answering t refl refl (front-answering (secondary_connection h))

tuples-open : (tuple : Tuple) (unseen : ℕ) (h : SecondaryHistory) → KeepsTuple tuple h → KeepsTuple tuple (opened_secondary unseen h)
tuples-open tuple unseen h t =
    let new : SecondaryConnection = new_secondary_connection (next_number unseen h) (secondary_map h) h.tuple in
    record {
      quiet = λ quiet. t.quiet (λ j e at. quiet j e (get-left h.connections (new ∷ []) j e at));
      hello = λ k d at quiet. elim (get-more h.connections new k d at) [
        | inl old ↦ t.hello k d old (λ j e less there. quiet j e less (get-left h.connections (new ∷ []) j e there))
        | inr added ↦ ap (λ (x : SecondaryConnection). x.hello) added.1
            ∙ t.quiet (λ j e there. quiet j e (let within = slice_get_within h.connections j e there in let end = added.0 in omega arith)
            (get-left h.connections (new ∷ []) j e there))
      ];
      refused = λ k d at was. elim (get-more h.connections new k d at) [
        | inl old ↦ t.refused k d old was
        | inr added ↦ let no : d.refused ≡ false = ap (λ (x : SecondaryConnection). x.refused) added.1 in absurd (both_ways d.refused no was)
      ];
    }

-- a tuple is adopted with an item, so an item was taken from then on
tuples-adopting : (tuple : Tuple) (h : SecondaryHistory) (frame : Received) (item : StreamItem) (adopted : Tuple) (consistent : Bool)
    → received_item frame ≡ Some item → nat_lt (length (secondary_connection h).taken) 3 ≡ false
    → (secondary_connection h).closed ≡ false → KeepsTuple tuple h → KeepsTuple tuple (adopting adopted consistent (with_secondary_connection (framed frame) h))
tuples-adopting tuple h frame item adopted consistent is late standing t =
    let accepted = plain tuple h t standing in
    let last = get-last-changed (framed frame) (no_secondary_connection h) h.connections (secondary_connection h) (open-there h standing) refl in
    tuples-change tuple h (adopting adopted consistent (with_secondary_connection (framed frame) h)) (framed frame) t refl
    (front-taking frame (secondary_connection h) accepted)
    (λ before now. absurd (append-one (items_taken (secondary_connection h)) item (sym (taken-item frame item (secondary_connection h) accepted late is)
    ∙ now (length h.connections - 1) (framed frame (secondary_connection h)) last)))

tuples-after : (tuple : Tuple) (event : SecondaryEvent) (h : SecondaryHistory) → KeepsTuple tuple h → KeepsTuple tuple (secondary_after event h)
tuples-after tuple event h t = after-event (KeepsTuple tuple) h event (record {
  same = t;
  opens = λ unseen was. then-answering tuple (opened_secondary unseen h) (tuples-open tuple unseen h t);
  takes = λ frame standing.
      let accepted = plain tuple h t standing in
      let taken : KeepsTuple tuple (with_secondary_connection (framed frame) h) = tuples-with tuple h (with_secondary_connection (framed frame) h)
      (framed frame) t refl refl
      (front-taking frame (secondary_connection h) accepted) in
      record {
        accepts = then-answering tuple (with_secondary_connection (framed frame) h) taken;
        receipts = λ write at is late.
            let answer : SecondaryConnection → SecondaryConnection = receipting (length (items_taken (secondary_connection h))) write in
            then-answering tuple (with_secondary_connection answer (with_secondary_connection (framed frame) h))
            (tuples-with tuple (with_secondary_connection (framed frame) h) (with_secondary_connection answer (with_secondary_connection (framed frame) h))
            answer taken refl refl
            (record { hello = refl; items = λ none. none; refused = λ was. was }));
        adopts = λ item adopted consistent is late. then-answering tuple (adopting adopted consistent (with_secondary_connection (framed frame) h))
            (tuples-adopting tuple h frame item adopted consistent is late standing t);
        refuses =
            tuples-with tuple h (refused_by_too frame h) (refused_in frame) t
            (refused-last-too frame h) refl (front-refusing frame (secondary_connection h) accepted);
      };
  applies = λ place waiting first. then-answering tuple (with_secondary_connection (applying h.settings.protocol place) h)
      (tuples-with tuple h (with_secondary_connection (applying h.settings.protocol place) h) (applying h.settings.protocol place) t refl refl
      (front-applying h.settings.protocol place (secondary_connection h)));
  fails = λ place offsets waiting first. tuples-with tuple h (with_secondary_connection (failing place offsets) h) (failing place offsets) t refl refl
      (record { hello = refl; items = λ none. none; refused = λ was r. refl });
  pushes = λ standing due. tuples-with tuple h (with_secondary_connection pushed_one h) pushed_one t refl refl
      (record { hello = refl; items = λ none. none; refused = λ was. was });
  closes = λ standing. tuples-with tuple h (with_secondary_connection closed_end h) closed_end t refl refl
      (record { hello = refl; items = λ none. none; refused = λ was r. refl });
})

tuples-run : (tuple : Tuple) (events : List SecondaryEvent) (h : SecondaryHistory) → KeepsTuple tuple h → KeepsTuple tuple (secondary_run events h)
tuples-run tuple [] h t = t
tuples-run tuple (event ∷ events) h t = tuples-run tuple events (secondary_after event h) (tuples-after tuple event h t)

from-opening : (settings : Settings) (disk : BlockMap) (tuple : Tuple) (events : List SecondaryEvent)
    → KeepsTuple tuple (secondary_run events (secondary_opening settings disk tuple))
from-opening settings disk tuple events = tuples-run tuple events (secondary_opening settings disk tuple)
    (record { quiet = λ none. refl; hello = λ j e there none. absurd (cc); refused = λ j e there was. absurd (cc) })

-- A secondary's hello names the tuple of its opening, as long as it took no item on an earlier connection.
pub secondary_hello : (settings : Settings) (disk : BlockMap) (tuple : Tuple) (events : List SecondaryEvent) (k : ℕ) (d : SecondaryConnection)
    → slice_get (secondary_run events (secondary_opening settings disk tuple)).connections k ≡ Some d
    → ((j : ℕ) (e : SecondaryConnection) → j < k → slice_get (secondary_run events (secondary_opening settings disk tuple)).connections j ≡ Some e
    → items_taken e ≡ [])
    → d.hello ≡ tuple
secondary_hello settings disk tuple events = (from-opening settings disk tuple events).hello

-- A secondary's tuple is that of its opening, as long as it took no item at all.
pub secondary_tuple : (settings : Settings) (disk : BlockMap) (tuple : Tuple) (events : List SecondaryEvent)
    → ((j : ℕ) (e : SecondaryConnection) → slice_get (secondary_run events (secondary_opening settings disk tuple)).connections j ≡ Some e → items_taken e ≡ [])
    → (secondary_run events (secondary_opening settings disk tuple)).tuple ≡ tuple
secondary_tuple settings disk tuple events = (from-opening settings disk tuple events).quiet
