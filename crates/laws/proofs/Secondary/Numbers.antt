-- The numbers of a secondary's connections: they rise from 1 on, and go one by one where it never missed a connection.
use Rattle.std.proofs.Common.{ℕ, zero, suc, ◌≡◌, ◌-◌, ◌<◌, ◌⊎◌, inl, inr, true, false, List, [], ◌∷◌, ◌++◌, length, map, Option, Some, None, slice_get, refl}
use Rattle.std.proofs.Common.{sym, ◌∙◌, ap, subst, arith, ◌==◌}
use Rattle.std.specs.Prelude.{find, unwrap_or}
use Rattle.std.proofs.lemmas.Bool.{eqb-true, eq-eqb, ne_eqb, cases_lt}
use Rattle.std.proofs.lemmas.Option.{slice_get_within}
use Rattle.blocks.specs.declared.settings.Protocol.{Protocol}
use Rattle.model.specs.Stream.{StreamItem, below, contents_of}
use Rattle.model.specs.Frames.{Packet}
use Rattle.model.specs.Primary.{last_of, change_last}
use Rattle.model.specs.Secondary.{SecondaryConnection, SecondaryHistory, no_secondary_connection, secondary_connection, secondary_connection_at}
use Rattle.model.specs.Secondary.{with_secondary_connection, items_taken, secondary_map, new_secondary_connection}
use Rattle.model.specs.SecondarySteps.{answering, barrier_answer, barriers_to_answer, next_number, opened_secondary, offsets_at, applied_answer, applying}
use Rattle.model.specs.SecondarySteps.{failing}
use Rattle.model.specs.LocalRuns.{SecondaryEvent, OpensToo, Receives, Applies, FailsToApply, Acknowledges, ClosesToo, secondary_after, secondary_run}
use Rattle.laws.proofs.Lists.Elements.{get-more, same-at}
use Rattle.laws.proofs.Lists.Fronts.{find-first}
use Rattle.laws.proofs.Lists.Last.{get-change-back, last-at}
use Rattle.laws.proofs.Lists.Picks.{pick-found}
use Rattle.laws.proofs.Secondary.Moves.{framed, pushed_one, closed_end, receipting, after-event, after-open, after-receive, after-peer}
use Rattle.laws.proofs.Secondary.Moves.{after-fault, after-push, after-close}
use Rattle.laws.proofs.Rules.RefusedFrames.{refused_end}

-- they rise from 1 on
pub record NumbersRise (ds : List SecondaryConnection) : Type 0 where
  pub some : (j : ℕ) (d : SecondaryConnection) → slice_get ds j ≡ Some d → 0 < d.number
  pub rise : (i j : ℕ) (d e : SecondaryConnection) → i < j → slice_get ds i ≡ Some d → slice_get ds j ≡ Some e → d.number < e.number

-- they are those of all connections up to the last
abbrev pub AreCounted : List SecondaryConnection → Type 0
AreCounted ds = (j : ℕ) (d : SecondaryConnection) → slice_get ds j ≡ Some d → d.number ≡ suc j

-- No change of a connection changes its number.

number-answering : (d : SecondaryConnection) → (answering d).number ≡ d.number
number-answering d = elim d.closed as
    (λ b. (elim b as (λ _. SecondaryConnection) [ true ↦ d | false ↦ record d { due = d.due ++ map (barrier_answer d) (barriers_to_answer d) } ]).number ≡
    d.number)
    [ true ↦ refl | false ↦ refl ]

number-applying : (asked : Protocol) (place : ℕ) (d : SecondaryConnection) → (applying asked place d).number ≡ d.number
number-applying asked place d = go (slice_get (items_taken d) place)
  where
    go : (v : Option StreamItem) → (elim v as (λ _. SecondaryConnection) [
      | None ↦ d
      | Some item ↦ record d {
        applied = d.applied ++ offsets_at place (below (length (contents_of item)));
        due = elim d.closed as (λ _. List Packet) [ true ↦ d.due | false ↦ d.due ++ applied_answer asked place item ];
      }
    ]).number ≡ d.number
    go None = refl
    go (Some item) = refl

-- where a changed connection stood there was one with its number
before : (f : SecondaryConnection → SecondaryConnection) → ((d : SecondaryConnection) → (f d).number ≡ d.number)
    → (none : SecondaryConnection) (ds : List SecondaryConnection) (j : ℕ) (e : SecondaryConnection)
    → slice_get (change_last f ds) j ≡ Some e → (d : SecondaryConnection) × (slice_get ds j ≡ Some d) × (e.number ≡ d.number)
before f same none ds j e at = elim (get-change-back f none ds j e at) [
  | inl kept ↦ (e, kept, refl)
  | inr changed ↦ (last_of none ds, changed.1, ap (λ (x : SecondaryConnection). x.number) changed.0 ∙ same (last_of none ds))
]

rise-with : (f : SecondaryConnection → SecondaryConnection) → ((d : SecondaryConnection) → (f d).number ≡ d.number)
    → (none : SecondaryConnection) (ds : List SecondaryConnection) → NumbersRise ds
    → NumbersRise (change_last f ds)
rise-with f same none ds r = record {
  some = λ j e at. let d = before f same none ds j e at in let s = r.some j d.0 d.1 in let n = d.2 in omega arith;
  rise = λ i j d e less atd ate.
      let x = before f same none ds i d atd in
      let y = before f same none ds j e ate in
      let more = r.rise i j x.0 y.0 less x.1 y.1 in
      let nx = x.2 in
      let ny = y.2 in
      omega arith;
}

counted-with : (f : SecondaryConnection → SecondaryConnection) → ((d : SecondaryConnection) → (f d).number ≡ d.number)
    → (none : SecondaryConnection) (ds : List SecondaryConnection) → AreCounted ds
    → AreCounted (change_last f ds)
counted-with f same none ds c j e at = let d = before f same none ds j e at in d.2 ∙ c j d.0 d.1

-- A new connection has a higher number than all.
at-most-last : (h : SecondaryHistory) → NumbersRise h.connections → (i : ℕ) (d : SecondaryConnection) → slice_get h.connections i ≡ Some d
    → d.number < suc (secondary_connection h).number
at-most-last h r i d at = elim (last-at (no_secondary_connection h) h.connections) [
  | inl none ↦ absurd (let there : slice_get [] i ≡ Some d = subst (λ (l : List SecondaryConnection). slice_get l i ≡ Some d) none at in cc (there))
  | inr last ↦
      let within = slice_get_within h.connections i d at in
      elim (cases_lt i (length h.connections - 1)) [
        | inl less ↦ let more = r.rise i (length h.connections - 1) d (secondary_connection h) less at last in omega arith
        | inr end ↦
            let index : length h.connections - 1 ≡ i = omega arith in
            let same : secondary_connection h ≡ d = same-at h.connections i (secondary_connection h) d
            (subst (λ n. slice_get h.connections n ≡ Some (secondary_connection h)) index last) at in
            let number : (secondary_connection h).number ≡ d.number = ap (λ (x : SecondaryConnection). x.number) same in
            omega arith
      ]
]

rise-opened : (unseen : ℕ) (h : SecondaryHistory) → NumbersRise h.connections → NumbersRise (opened_secondary unseen h).connections
rise-opened unseen h r = record {
  some = λ j e at. elim (get-more h.connections new j e at) [
    | inl old ↦ r.some j e old
    | inr added ↦ let n : e.number ≡ next_number unseen h = ap (λ (x : SecondaryConnection). x.number) added.1 in omega arith
  ];
  rise = λ i j d e less atd ate. elim (get-more h.connections new j e ate) [
    | inl old ↦ elim (get-more h.connections new i d atd) [
      | inl earlier ↦ r.rise i j d e less earlier old
      | inr added ↦ absurd (let end = added.0 in let within = slice_get_within h.connections j e old in omega arith)
    ]
    | inr added ↦
        let n : e.number ≡ next_number unseen h = ap (λ (x : SecondaryConnection). x.number) added.1 in
        elim (get-more h.connections new i d atd) [
          | inl earlier ↦ let low = at-most-last h r i d earlier in omega arith
          | inr also ↦ absurd (let one = added.0 in let two = also.0 in omega arith)
        ]
  ];
}
  where
    new : SecondaryConnection
    new = new_secondary_connection (next_number unseen h) (secondary_map h) h.tuple

-- Every event keeps it, and so does every run.
abbrev Rises : SecondaryHistory → Type 0
Rises h = NumbersRise h.connections

rise-step : (f : SecondaryConnection → SecondaryConnection) → ((d : SecondaryConnection) → (f d).number ≡ d.number) → (h : SecondaryHistory) → Rises h
    → Rises (with_secondary_connection f h)
rise-step f same h r = rise-with f same (no_secondary_connection h) h.connections r

rise-after : (event : SecondaryEvent) (h : SecondaryHistory) → Rises h → Rises (secondary_after event h)
rise-after event h r = after-event Rises h event (record {
  same = r;
  opens = λ unseen was. rise-step answering number-answering (opened_secondary unseen h) (rise-opened unseen h r);
  takes = λ frame standing.
      let taken : Rises (with_secondary_connection (framed frame) h) = rise-step (framed frame) (λ d. refl) h r in
      record {
        accepts = rise-with answering number-answering (no_secondary_connection h) _ taken;
        receipts = λ write at is late. rise-with answering number-answering (no_secondary_connection h) _
            (rise-with (receipting (length (items_taken (secondary_connection h))) write) (λ d. refl) (no_secondary_connection h) _ taken);
        adopts = λ item tuple consistent is late. rise-with answering number-answering (no_secondary_connection h) _ taken;
        refuses = rise-with refused_end (λ d. refl) (no_secondary_connection h) _ taken;
      };
  applies = λ place waiting first. rise-with answering number-answering (no_secondary_connection h) _
      (rise-step (applying h.settings.protocol place) (number-applying h.settings.protocol place) h r);
  fails = λ place offsets waiting first. rise-step (failing place offsets) (λ d. refl) h r;
  pushes = λ standing due. rise-step pushed_one (λ d. refl) h r;
  closes = λ standing. rise-step closed_end (λ d. refl) h r;
})

rise-run : (events : List SecondaryEvent) (h : SecondaryHistory) → Rises h → Rises (secondary_run events h)
rise-run [] h r = r
rise-run (event ∷ events) h r = rise-run events (secondary_after event h) (rise-after event h r)

-- Where no connection stands yet.
pub rise-none : (h : SecondaryHistory) → h.connections ≡ [] → NumbersRise h.connections
rise-none h none = subst NumbersRise (sym none) (record { some = λ j d at. absurd (cc); rise = λ i j d e less atd ate. absurd (cc) })

-- The numbers rise in every run from a history without connections.
pub numbers-rise : (events : List SecondaryEvent) (h : SecondaryHistory) → h.connections ≡ [] → NumbersRise (secondary_run events h).connections
numbers-rise events h none = rise-run events h (rise-none h none)

-- A run that misses no connection of the primary.

-- the event is no opening that comes after connections that were missed
abbrev pub IsSeen : SecondaryEvent → Type 0
IsSeen (OpensToo unseen) = unseen ≡ 0
IsSeen (Receives frame out_of_memory) = Unit {0}
IsSeen (Applies place) = Unit {0}
IsSeen (FailsToApply place offsets) = Unit {0}
IsSeen (Acknowledges room out_of_memory) = Unit {0}
IsSeen ClosesToo = Unit {0}

abbrev Counts : SecondaryHistory → Type 0
Counts h = AreCounted h.connections

counted-step : (f : SecondaryConnection → SecondaryConnection) → ((d : SecondaryConnection) → (f d).number ≡ d.number) → (h : SecondaryHistory) → Counts h
    → Counts (with_secondary_connection f h)
counted-step f same h c = counted-with f same (no_secondary_connection h) h.connections c

-- the last number is the count of connections
last-counted : (h : SecondaryHistory) → Counts h → (secondary_connection h).number ≡ length h.connections
last-counted h c = elim (last-at (no_secondary_connection h) h.connections) [
  | inl none ↦
      let last : (secondary_connection h).number ≡ 0 = ap (λ (l : List SecondaryConnection). (last_of (no_secondary_connection h) l).number) none in
      let size : length h.connections ≡ 0 = ap length none in
      last ∙ sym size
  | inr last ↦ let n = c (length h.connections - 1) (secondary_connection h) last in let within = slice_get_within h.connections (length h.connections - 1)
      (secondary_connection h) last in omega arith
]

pub counted-opened : (h : SecondaryHistory) → AreCounted h.connections → AreCounted (opened_secondary 0 h).connections
counted-opened h c j e at = elim (get-more h.connections new j e at) [
  | inl old ↦ c j e old
  | inr added ↦
      let n : e.number ≡ next_number 0 h = ap (λ (x : SecondaryConnection). x.number) added.1 in
      let last = last-counted h c in
      let end = added.0 in
      omega arith
]
  where
    new : SecondaryConnection
    new = new_secondary_connection (next_number 0 h) (secondary_map h) h.tuple

-- every such event keeps the count
pub counted-after : (event : SecondaryEvent) → IsSeen event → (h : SecondaryHistory) → AreCounted h.connections
    → AreCounted (secondary_after event h).connections
counted-after (OpensToo zero) seen h c = after-open Counts 0 h c (λ was. counted-step answering number-answering (opened_secondary 0 h) (counted-opened h c))
counted-after (OpensToo (suc unseen)) seen h c = absurd (omega arith)
counted-after (Receives frame out_of_memory) seen h c = after-receive Counts h frame out_of_memory c (λ taken is standing.
    let framed_too : Counts (with_secondary_connection (framed taken) h) = counted-step (framed taken) (λ d. refl) h c in
    record {
      accepts = counted-with answering number-answering (no_secondary_connection h) _ framed_too;
      receipts = λ write at frame_is late. counted-with answering number-answering (no_secondary_connection h) _
          (counted-with (receipting (length (items_taken (secondary_connection h))) write) (λ d. refl) (no_secondary_connection h) _ framed_too);
      adopts = λ item tuple consistent brings late. counted-with answering number-answering (no_secondary_connection h) _ framed_too;
      refuses = counted-with refused_end (λ d. refl) (no_secondary_connection h) _ framed_too;
    })
counted-after (Applies place) seen h c =
    after-peer Counts h place c (λ waiting none. counted-with answering number-answering (no_secondary_connection h) _
    (counted-step (applying h.settings.protocol place) (number-applying h.settings.protocol place) h c))
counted-after (FailsToApply place offsets) seen h c =
    after-fault Counts h place offsets c (λ waiting none. counted-step (failing place offsets) (λ d. refl) h c)
counted-after (Acknowledges room out_of_memory) seen h c = after-push Counts h room out_of_memory c (λ standing due. counted-step pushed_one (λ d. refl) h c)
counted-after ClosesToo seen h c = after-close Counts h c (λ standing. counted-step closed_end (λ d. refl) h c)

-- Look-ups by number.

-- a connection is found by its number
pub secondary-connection-there : (s : SecondaryHistory) → NumbersRise s.connections → (j : ℕ) (d : SecondaryConnection) → slice_get s.connections j ≡ Some d
    → secondary_connection_at s d.number ≡ d
secondary-connection-there s r j d at = ap (λ (v : Option SecondaryConnection). unwrap_or v (no_secondary_connection s))
    (find-first (λ (c : SecondaryConnection). c.number == d.number) s.connections j d at (eq-eqb d.number d.number refl) (λ i e less there.
    ne_eqb e.number d.number (λ same. let more = r.rise i j e d less there at in omega arith)))

-- what a look-up finds is a connection of that number, or the end that was never open
pub secondary-connection-cases : (s : SecondaryHistory) (number : ℕ)
    → ((j : ℕ) × (d : SecondaryConnection) × (slice_get s.connections j ≡ Some d) × (d.number ≡ number) × (secondary_connection_at s number ≡ d))
    ⊎ (secondary_connection_at s number ≡ no_secondary_connection s)
secondary-connection-cases s number = go (find (λ (c : SecondaryConnection). c.number == number) s.connections) refl
  where
    go : (v : Option SecondaryConnection) → find (λ (c : SecondaryConnection). c.number == number) s.connections ≡ v
        → ((j : ℕ) × (d : SecondaryConnection) × (slice_get s.connections j ≡ Some d) × (d.number ≡ number) × (secondary_connection_at s number ≡ d))
        ⊎ (secondary_connection_at s number ≡ no_secondary_connection s)
    go None is = inr (ap (λ (v : Option SecondaryConnection). unwrap_or v (no_secondary_connection s)) is)
    go (Some d) is =
        let found = pick-found (λ (c : SecondaryConnection). c.number == number) s.connections d is in
        inl (found.0, d, found.1, eqb-true d.number number found.2, ap (λ (v : Option SecondaryConnection). unwrap_or v (no_secondary_connection s)) is)
