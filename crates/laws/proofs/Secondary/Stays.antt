-- A closed end of a secondary stays as it is, but for what is still applied there, over every list of events.
use Rattle.std.proofs.Common.{ℕ, ◌≡◌, inl, inr, Bool, true, false, List, [], ◌∷◌, ◌++◌, length, map, Option, Some, None, slice_get, refl, sym, ◌∙◌, ap, subst}
use Rattle.std.proofs.lemmas.Bool.{both_ways}
use Rattle.blocks.specs.declared.settings.Protocol.{Protocol}
use Rattle.model.specs.Stream.{StreamItem, below, contents_of}
use Rattle.model.specs.Frames.{Packet}
use Rattle.model.specs.Secondary.{SecondaryConnection, SecondaryHistory, no_secondary_connection, secondary_connection, with_secondary_connection, items_taken}
use Rattle.model.specs.SecondarySteps.{answering, barrier_answer, barriers_to_answer, opened_secondary, offsets_at, applied_answer, applying, failing, adopting}
use Rattle.model.specs.SecondarySteps.{applied_with}
use Rattle.model.specs.LocalRuns.{SecondaryEvent, secondary_after, secondary_run}
use Rattle.model.specs.Headline.{StaysClosedToo}
use Rattle.laws.proofs.Lists.Last.{get-change, change-twice}
use Rattle.laws.proofs.Secondary.Moves.{framed, receipting, pushed_one, closed_end, after-event}
use Rattle.laws.proofs.Lists.Elements.{get-left}
use Rattle.laws.proofs.Rules.RefusedFrames.{refused_in, refused_by_too, refused-last-too}

-- where nothing happened
stays-self : (s : SecondaryHistory) → StaysClosedToo s s
stays-self s = record { same = λ k c at closed. (c, at, refl) }

stays-trans : (s t u : SecondaryHistory) → StaysClosedToo s t → StaysClosedToo t u → StaysClosedToo s u
stays-trans s t u first second = record {
  same = λ k c at closed.
      let d = first.same k c at closed in
      let e = second.same k d.0 d.1 (ap (λ (x : SecondaryConnection). x.closed) d.2 ∙ closed) in
      (e.0, e.1, e.2 ∙ ap (λ (x : SecondaryConnection). record x { applied = e.0.applied; gone = e.0.gone }) d.2);
}

-- a closed connection that stayed as it was, but for what is applied and dropped
abbrev pub IsSameClosed : SecondaryConnection → SecondaryConnection → Type 0
IsSameClosed c d = d ≡ record c { applied = d.applied; gone = d.gone }

-- a change of the last connection that leaves it if it is closed
stays-change : (s later : SecondaryHistory) (f : SecondaryConnection → SecondaryConnection) → later.connections ≡ (with_secondary_connection f s).connections
    → ((secondary_connection s).closed ≡ true → IsSameClosed (secondary_connection s) (f (secondary_connection s))) → StaysClosedToo s later
stays-change s later f connections keeps = record {
  same = λ k c at closed. rw connections (elim (get-change f (no_secondary_connection s) s.connections k c at) [
    | inl same ↦ (c, same, refl)
    | inr changed ↦
        let last : IsSameClosed c (f c) = subst (λ (x : SecondaryConnection). x.closed ≡ true → IsSameClosed x (f x)) (sym changed.1) keeps closed in
        (f c, changed.0, last)
  ]);
}

same-answering : (d : SecondaryConnection) → d.closed ≡ true → IsSameClosed d (answering d)
same-answering d closed = go d.closed refl
  where
    go : (b : Bool) → d.closed ≡ b → IsSameClosed d
        (elim b as (λ _. SecondaryConnection) [ true ↦ d | false ↦ record d { due = d.due ++ map (barrier_answer d) (barriers_to_answer d) } ])
    go true is = refl
    go false is = absurd (both_ways d.closed is closed)

same-applying : (asked : Protocol) (place : ℕ) (d : SecondaryConnection) → d.closed ≡ true → IsSameClosed d (applying asked place d)
same-applying asked place d closed = go (slice_get (items_taken d) place)
  where
    go : (v : Option StreamItem) → IsSameClosed d (applied_with v asked place d)
    go None = refl
    go (Some item) = ap (λ b. record d {
      applied = d.applied ++ offsets_at place (below (length (contents_of item)));
      due = elim b as (λ _. List Packet) [ true ↦ d.due | false ↦ d.due ++ applied_answer asked place item ];
    }) closed

-- a failed item closes an end that is closed already
same-failing : (place : ℕ) (offsets : List ℕ) (d : SecondaryConnection) → d.closed ≡ true → IsSameClosed d (failing place offsets d)
same-failing place offsets d closed = ap (λ b. record d { applied = (failing place offsets d).applied; gone = (failing place offsets d).gone; closed = b })
    (sym closed)

-- the answers that follow
stays-answering : (s t : SecondaryHistory) → StaysClosedToo s t → StaysClosedToo s (with_secondary_connection answering t)
stays-answering s t stays = stays-trans s t (with_secondary_connection answering t) stays
    (stays-change t (with_secondary_connection answering t) answering refl (same-answering (secondary_connection t)))

-- a change of an open end
stays-open : (s later : SecondaryHistory) (f : SecondaryConnection → SecondaryConnection) → later.connections ≡ (with_secondary_connection f s).connections
    → (secondary_connection s).closed ≡ false
    → StaysClosedToo s later
stays-open s later f connections standing = stays-change s later f connections (λ closed. absurd (both_ways (secondary_connection s).closed standing closed))

-- one event
stays-after : (event : SecondaryEvent) (s : SecondaryHistory) → StaysClosedToo s (secondary_after event s)
stays-after event s = after-event (StaysClosedToo s) s event (record {
  same = stays-self s;
  opens = λ unseen was. stays-answering s (opened_secondary unseen s) (record { same = λ k c at closed. (c, get-left s.connections _ k c at, refl) });
  takes = λ frame standing. record {
    accepts = stays-answering s _ (stays-open s (with_secondary_connection (framed frame) s) (framed frame) refl standing);
    receipts = λ write at is late. stays-answering s _
        (stays-open s (with_secondary_connection (receipting (length (items_taken (secondary_connection s))) write)
        (with_secondary_connection (framed frame) s))
        (λ c. receipting (length (items_taken (secondary_connection s))) write (framed frame c))
        (change-twice (framed frame) (receipting (length (items_taken (secondary_connection s))) write) s.connections) standing);
    adopts = λ item tuple consistent is late. stays-answering s _
        (stays-open s (adopting tuple consistent (with_secondary_connection (framed frame) s)) (framed frame) refl standing);
    refuses = stays-open s (refused_by_too frame s) (refused_in frame)
        (refused-last-too frame s) standing;
  };
  applies = λ place waiting none. stays-answering s _
      (stays-change s (with_secondary_connection (applying s.settings.protocol place) s) (applying s.settings.protocol place) refl
      (same-applying s.settings.protocol place (secondary_connection s)));
  fails = λ place offsets waiting none. stays-change s (with_secondary_connection (failing place offsets) s) (failing place offsets) refl
      (same-failing place offsets (secondary_connection s));
  pushes = λ standing due. stays-open s (with_secondary_connection pushed_one s) pushed_one refl standing;
  closes = λ standing. stays-open s (with_secondary_connection closed_end s) closed_end refl standing;
})

-- Whatever frames a secondary takes and however its disk fails: a closed end stays as it is, but for what is still applied and
-- dropped there.
pub secondary_stays_closed : (events : List SecondaryEvent) (s : SecondaryHistory) → StaysClosedToo s (secondary_run events s)
secondary_stays_closed [] s = stays-self s
secondary_stays_closed (event ∷ events) s = stays-trans s (secondary_after event s) (secondary_run events (secondary_after event s)) (stays-after event s)
    (secondary_stays_closed events (secondary_after event s))
