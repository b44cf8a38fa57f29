-- The disk does an item, or fails it.
use Rattle.std.proofs.Common.{ℕ, suc, ◌≡◌, ◌+◌, ◌<◌, ◌≤◌, inl, inr, Bool, true, false, not, ◌&&◌, List, [], ◌∷◌, ◌++◌, length, map, Option, Some}
use Rattle.std.proofs.Common.{None, Result, Ok, Err, slice_get, refl, sym, ◌∙◌, ap, subst, arith, ◌==◌, nat_le}
use Rattle.std.specs.Prelude.{option_map}
use Rattle.std.specs.List.{list_any}
use Rattle.std.proofs.lemmas.Bool.{both_ways, or_cases, or_right, eq-eqb, leb-true, and_from, and_parts, not_from_false}
use Rattle.std.proofs.lemmas.Option.{slice_get_within}
use Rattle.blocks.specs.declared.settings.Protocol.{Protocol}
use Rattle.blocks.specs.declared.refusal.Refusal.{Refusal}
use Rattle.blocks.specs.declared.refusal.Refusal.TheVariants.{UnknownJob, EpochOpen}
use Rattle.blocks.specs.declared.outcome.Reply.{Reply}
use Rattle.blocks.specs.declared.outcome.Reply.TheVariants as reply
use Rattle.blocks.specs.declared.outcome.What.TheVariants as what
use Rattle.model.specs.Stream.{StreamItem, is_in, is_whole, has_blocks, contents_of, epoch_of}
use Rattle.model.specs.Stream.{Part, below}
use Rattle.model.specs.Frames.{Packet}
use Rattle.model.specs.Refusals.{Test, done_with}
use Rattle.model.specs.Secondary.{SecondaryConnection, SecondaryHistory, no_secondary_connection, secondary_connection, items_taken, is_pending, pending}
use Rattle.model.specs.Secondary.{with_secondary_connection}
use Rattle.model.specs.SecondarySteps.{applied_answer, applying, failing, offsets_at}
use Rattle.model.specs.SecondarySteps as step
use Rattle.model.specs.Primary.{last_of}
use Rattle.laws.proofs.Rules.BarrierAnswers.{applied-answers}
use Rattle.laws.proofs.Rules.DiskFaults.{reached, fault-applied, fault-gone, failing-pending, gone-waited}
use Rattle.laws.proofs.Rules.DiskTurns.{none-earlier}
use Rattle.laws.proofs.Secondary.Sound.{pending-before}
use Rattle.laws.proofs.Streams.Parts.{in-append, in-offsets}
use Rattle.secondary_protocol.specs.Core as core
use Rattle.secondary_protocol.specs.Core.{EndState, SecondaryState, applied, follows, owing, answers_of, peer, peer_fault}
use Rattle.secondary_protocol.specs.Leaves.{Leaves, LeavesLast, LeavesEnd, LeavesFailed, EndLeft, FailedLeft, pending_in}
use Rattle.secondary_protocol.specs.Steps.{AppliesAgree, FaultsAgree, Agrees, plainly}
use Rattle.peerdisk.specs.Pending.{Pending, start, without, item_at, epoch_at, after_fault}
use Rattle.secondary_protocol.proofs.Counted.{count-applied, count-failed, fewer-without}
use Rattle.secondary_protocol.proofs.Ends.{end-owes}
use Rattle.secondary_protocol.proofs.Failing.{waiting-failed}
use Rattle.secondary_protocol.proofs.Starting.{MayStart, MayNot, starting}
use Rattle.secondary_protocol.proofs.Steps.Receives.{leaves-follows}
use Rattle.secondary_protocol.proofs.Tested.{secondary-connection-with, length-map}
use Rattle.secondary_protocol.proofs.Waiting.{waiting-applied}

-- an item that was taken is on some connection
pub taken-some : (h : SecondaryHistory) (place : ℕ) (item : StreamItem) → slice_get (items_taken (secondary_connection h)) place ≡ Some item
    → h.connections ≡ [] → ⊥
taken-some h place item at none =
    let empty : slice_get (items_taken (no_secondary_connection h)) place ≡ Some item =
    ap (λ (l : List SecondaryConnection). slice_get (items_taken (last_of (no_secondary_connection h) l)) place)
    (sym none) ∙ at in
    let inside = slice_get_within (items_taken (no_secondary_connection h)) place item empty in omega arith

-- The tests of the disk's steps, where they do not hold, and where one does.
pub tests-pass : (h : SecondaryHistory) (place : ℕ) (ps : List (Pending StreamItem)) → MayStart (secondary_connection h) place ps
    → step.peer_tests h place ≡ (false, UnknownJob) ∷ (false, EpochOpen) ∷ []
tests-pass h place ps may = λ i. (not (may.listed i), UnknownJob) ∷ (may.first i, EpochOpen) ∷ []

refused-alike : (s : SecondaryState) (h : SecondaryHistory) (place : ℕ) (ps : List (Pending StreamItem)) (done : Unit {0}
    → Reply × SecondaryHistory) (got : Result StreamItem Refusal → Result (Unit {0}) Refusal × SecondaryState) → Leaves s h
    → (may_not : MayNot (secondary_connection h) place ps)
    → ((refusal : Refusal) → got (Err refusal) ≡ (Err refusal, s))
    → Agrees plainly (got (start place ps)) (step.tested_secondary h (step.peer_tests h place) done)
refused-alike s h place ps done got left may_not form =
    subst (λ (r : Result StreamItem Refusal). Agrees plainly (got r) (step.tested_secondary h (step.peer_tests h place) done)) (sym may_not.starts)
    (subst (λ (x : Result (Unit {0}) Refusal × SecondaryState). Agrees plainly x (step.tested_secondary h (step.peer_tests h place) done))
    (sym (form may_not.refusal)) (elim may_not.tested [
      | inl none ↦
          let same : step.peer_tests h place ≡ (true, UnknownJob) ∷ (step.has_earlier (secondary_connection h) place, EpochOpen) ∷ [] =
          λ i. (not (none.0 i), UnknownJob) ∷ (step.has_earlier (secondary_connection h) place, EpochOpen) ∷ [] in
          subst (λ (ts : List Test). Agrees plainly (Err may_not.refusal, s) (step.tested_secondary h ts done)) (sym same)
          (record { reply = ap reply.Refused none.1; leaves = left })
      | inr held ↦
          let same : step.peer_tests h place ≡ (false, UnknownJob) ∷ (true, EpochOpen) ∷ [] = λ i. (not (held.0 i), UnknownJob) ∷ (held.1 i, EpochOpen) ∷ [] in
          subst (λ (ts : List Test). Agrees plainly (Err may_not.refusal, s) (step.tested_secondary h ts done)) (sym same)
          (record { reply = ap reply.Refused held.2; leaves = left })
    ]))

-- The disk did an item.

-- what the connection is then, where the item is this
applying-is : (asked : Protocol) (place : ℕ) (d : SecondaryConnection) (item : StreamItem) → slice_get (items_taken d) place ≡ Some item
    → applying asked place d ≡ record d {
      applied = d.applied ++ offsets_at place (below (length (contents_of item)));
      due = elim d.closed [ true ↦ d.due | false ↦ d.due ++ applied_answer asked place item ];
    }
applying-is asked place d item at = ap (λ (v : Option StreamItem). elim v as (λ _. SecondaryConnection) [
  | None ↦ d
  | Some one ↦ record d {
    applied = d.applied ++ offsets_at place (below (length (contents_of one)));
    due = elim d.closed as (λ _. List Packet) [ true ↦ d.due | false ↦ d.due ++ applied_answer asked place one ];
  }
]) at

-- a part more at a taken place names only taken places
named-more : (d : SecondaryConnection) (place : ℕ) (item : StreamItem) (offsets : List ℕ) → slice_get (items_taken d) place ≡ Some item
    → ((other offset : ℕ) → is_in d.applied other offset ≡ true → other < length (items_taken d))
    → (other offset : ℕ) → is_in (d.applied ++ offsets_at place offsets) other offset ≡ true → other < length (items_taken d)
named-more d place item offsets at named other offset inside =
    elim (or_cases (is_in d.applied other offset) (is_in (offsets_at place offsets) other offset)
    (sym (in-append d.applied (offsets_at place offsets) other offset) ∙ inside)) [
      | inl before ↦ named other offset before
      | inr new ↦ subst (λ (k : ℕ). k < length (items_taken d)) (in-offsets place offsets other offset new) (slice_get_within (items_taken d) place item at)
    ]

-- The state after an item was applied, before what follows.
abbrev applied_first : ℕ → SecondaryState → SecondaryState
applied_first place s = record s {
  pending = without place s.pending;
  items_applied = suc s.items_applied;
  end = option_map (owing (answers_of s.settings.protocol place (item_at place s.pending))) s.end;
}

applied-left : (s : SecondaryState) (h : SecondaryHistory) (place : ℕ) → Leaves s h
    → MayStart (secondary_connection h) place (map (pending_in (items_taken (secondary_connection h))) (pending (secondary_connection h)))
    → Leaves (applied_first place s) (with_secondary_connection (applying h.settings.protocol place) h)
applied-left s h place left may = record {
  settings = left.settings;
  tuple = left.tuple;
  consistent = left.consistent;
  last = subst (LeavesLast h.settings.blocks (applied_first place s))
      (sym (secondary-connection-with (applying h.settings.protocol place) h (taken-some h place may.item may.there)
      ∙ applying-is asked place d may.item may.there))
      (by-end s.end refl left.last.end);
}
  where
    d : SecondaryConnection
    d = secondary_connection h

    asked : Protocol
    asked = h.settings.protocol

    after : List Packet → SecondaryConnection
    after due = record (secondary_connection h) {
      applied = (secondary_connection h).applied ++ offsets_at place (below (length (contents_of may.item)));
      due = due;
    }

    item_is : item_at place s.pending ≡ Some may.item
    item_is = ap (item_at place) left.last.pending ∙ may.item_is

    -- one waits less
    shorter : (due : List Packet) → length (pending (after due)) + 1 ≡ length (pending (secondary_connection h))
    shorter due =
        let items : List StreamItem = items_taken (secondary_connection h) in
        let many : length (pending (after due)) ≡ length (without place (map (pending_in items) (pending (secondary_connection h)))) =
        sym (length-map (pending_in items) (pending (after due))) ∙ ap length (waiting-applied (secondary_connection h) items place may.item due may.there) in
        let less = fewer-without items place (pending (secondary_connection h)) may.listed in
        omega (arith, many, less)

    last-of : (due : List Packet) → EndLeft (applied_first place s).end (after due) → FailedLeft s.failed (after due)
        → LeavesLast h.settings.blocks (applied_first place s) (after due)
    last-of due end failed = record {
      number = left.last.number;
      intake = left.last.intake;
      named = named-more (secondary_connection h) place may.item (below (length (contents_of may.item))) may.there left.last.named;
      pending = ap (without place) left.last.pending
          ∙ sym (waiting-applied (secondary_connection h) (items_taken (secondary_connection h)) place may.item due may.there);
      applied = ap suc left.last.applied ∙ sym (count-applied (after due) (secondary_connection h) refl refl (shorter due));
      failed = failed;
      end = end;
    }

    -- what waits after more is applied waited before
    failed-after : (due : List Packet) (v : Option ℕ) → FailedLeft v (secondary_connection h) → FailedLeft v (after due)
    failed-after due None none = none
    failed-after due (Some epoch) was = record {
      place = was.place;
      item = was.item;
      at = was.at;
      has_blocks = was.has_blocks;
      gone = was.gone;
      epoch_is = was.epoch_is;
      later = was.later;
      waiting = λ other one there waits. was.waiting other one there
          (pending-before (secondary_connection h) (after due) (offsets_at place (below (length (contents_of may.item)))) other one refl refl waits);
      closed = was.closed;
    }

    by-end : (v : Option EndState) → s.end ≡ v → EndLeft v (secondary_connection h)
        → LeavesLast h.settings.blocks (applied_first place s)
        (after (elim (secondary_connection h).closed as
        (λ _. List Packet) [ true ↦ (secondary_connection h).due | false ↦ (secondary_connection h).due ++ applied_answer h.settings.protocol place may.item ]))
    by-end None is shut =
        subst (λ (b : Bool). LeavesLast h.settings.blocks (applied_first place s)
        (after (elim b as (λ _. List Packet) [
          | true ↦ (secondary_connection h).due
          | false ↦ (secondary_connection h).due
              ++ applied_answer h.settings.protocol place may.item
        ])))
        (sym shut)
        (last-of (secondary_connection h).due
        (subst (λ (v : Option EndState). EndLeft (option_map (owing (answers_of s.settings.protocol place (item_at place s.pending))) v)
        (after (secondary_connection h).due)) (sym is) shut) (failed-after (secondary_connection h).due s.failed left.last.failed))
    by-end (Some e) is there =
        let packets : List Packet = applied_answer asked place may.item in
        let owes : owing (answers_of s.settings.protocol place (item_at place s.pending)) e ≡ owing packets e =
        λ k. owing (answers_of (left.settings k).protocol place (item_is k)) e in
        let end : LeavesEnd (owing packets e) (after ((secondary_connection h).due ++ packets)) =
        end-owes e (secondary_connection h) packets ((secondary_connection h).applied ++ offsets_at place (below (length (contents_of may.item)))) there
        (applied-answers asked place may.item) in
        subst (λ (b : Bool). LeavesLast h.settings.blocks (applied_first place s)
        (after (elim b as (λ _. List Packet) [
          | true ↦ (secondary_connection h).due
          | false ↦ (secondary_connection h).due
              ++ applied_answer h.settings.protocol place may.item
        ])))
        (sym there.is_open)
        (last-of ((secondary_connection h).due ++ packets)
        (subst (λ (v : Option EndState). EndLeft (option_map (owing (answers_of s.settings.protocol place (item_at place s.pending))) v)
        (after ((secondary_connection h).due ++ packets))) (sym is)
        (subst (λ (x : EndState). LeavesEnd x (after ((secondary_connection h).due ++ packets))) (sym owes) end))
        (failed-after ((secondary_connection h).due ++ packets) s.failed left.last.failed))

-- the disk does an item
pub applies-agree : AppliesAgree
applies-agree place s h left = elim (starting (secondary_connection h) place) [
  | inl may ↦
      let starts : start place s.pending ≡ Ok may.item = ap (start place) left.last.pending ∙ may.starts in
      subst (λ (r : Result StreamItem Refusal). Agrees plainly
      (elim r as (λ _. Result (Unit {0}) Refusal × SecondaryState) [ Err refusal ↦ (Err refusal, s) | Ok item ↦ (Ok tt, applied place s) ])
      (step.peer place h)) (sym starts)
      (subst (λ (ts : List Test). Agrees plainly (Ok tt, applied place s)
      (step.tested_secondary h ts (λ _. step.succeeding_secondary what.Nothing (with_secondary_connection (applying h.settings.protocol place) h))))
      (sym (tests-pass h place (map (pending_in (items_taken (secondary_connection h))) (pending (secondary_connection h))) may)) (record {
        reply = refl;
        leaves = leaves-follows (applied_first place s) (with_secondary_connection (applying h.settings.protocol place) h) (applied-left s h place left may);
      }))
  | inr may_not ↦
      subst (λ (ps : List (Pending StreamItem)). Agrees plainly
      (elim (start place ps) as (λ _. Result (Unit {0}) Refusal × SecondaryState) [ Err refusal ↦ (Err refusal, s) | Ok item ↦ (Ok tt, applied place s) ])
      (step.peer place h)) (sym left.last.pending)
      (refused-alike s h place (map (pending_in (items_taken (secondary_connection h))) (pending (secondary_connection h)))
      (λ _. step.succeeding_secondary what.Nothing (with_secondary_connection (applying h.settings.protocol place) h))
      (λ r. elim r as (λ _. Result (Unit {0}) Refusal × SecondaryState) [ Err refusal ↦ (Err refusal, s) | Ok item ↦ (Ok tt, applied place s) ]) left may_not
      (λ refusal. refl))
]

-- The disk failed an item.

-- what failed before is of the same epoch, and nothing that is gone is of an earlier one
gone-later : (v : Option ℕ) (d : SecondaryConnection) (place : ℕ) (item : StreamItem) → FailedLeft v d → slice_get (items_taken d) place ≡ Some item
    → is_pending d (place, item) ≡ true
    → (other : ℕ) → list_any (λ k. k == other) d.gone ≡ true → epoch_of (items_taken d) place ≤ epoch_of (items_taken d) other
gone-later None d place item none at waits other gone = absurd (both_ways (list_any (λ k. k == other) d.gone) (ap (list_any (λ k. k == other)) none) gone)
gone-later (Some epoch) d place item was at waits other gone = let same = was.waiting place item at waits in let later = was.later other gone in omega arith

failed-left : (s : SecondaryState) (h : SecondaryHistory) (place : ℕ) (offsets : List ℕ) → Leaves s h
    → (may : MayStart (secondary_connection h) place (map (pending_in (items_taken (secondary_connection h))) (pending (secondary_connection h))))
    → LeavesFailed (epoch_of (items_taken (secondary_connection h)) place) (failing place offsets (secondary_connection h))
failed-left s h place offsets left may = record {
  place = place;
  item = may.item;
  at = may.there;
  has_blocks = (and_parts (has_blocks may.item) (not (is_whole d.applied place may.item))
      (and_parts (has_blocks may.item && not (is_whole d.applied place may.item)) (not (list_any (λ k. k == place) d.gone)) may.waits).0).0;
  gone =
      gone-waited d place may.item offsets place may.item may.there may.waits may.there
      ∙ or_right (list_any (λ k. k == place) d.gone) _ (and_from _ _ may.waits (not_from_false _ itself));
  epoch_is = refl;
  later = λ other listed. elim (fault-gone d place offsets other listed) [
    | inl before ↦ gone-later s.failed d place may.item left.last.failed may.there may.waits other before
    | inr no_earlier ↦ no_earlier
  ];
  waiting = λ other one at waits.
      let parts = and_parts (is_pending d (other, one) && not (other == place)) (nat_le (epoch_of items other) (epoch_of items place))
      (sym (failing-pending d place offsets other one at) ∙ waits) in
      let was = (and_parts (is_pending d (other, one)) (not (other == place)) parts.0).0 in
      let not_later : epoch_of items other ≤ epoch_of items place = leb-true (epoch_of items other) (epoch_of items place) parts.1 in
      let not_earlier = none-earlier d place other one may.first at was in
      omega arith;
  closed = refl;
}
  where
    d : SecondaryConnection
    d = secondary_connection h

    items : List StreamItem
    items = items_taken (secondary_connection h)

    never : (a b : Bool) → ((a && not true) && b) ≡ false
    never true b = refl
    never false b = refl

    -- the item itself waits no more
    itself : is_pending (failing place offsets (secondary_connection h)) (place, may.item) ≡ false
    itself = failing-pending (secondary_connection h) place offsets place may.item may.there
        ∙ rw (eq-eqb place place refl) (never (is_pending (secondary_connection h) (place, may.item))
        (nat_le (epoch_of (items_taken (secondary_connection h)) place)
        (epoch_of (items_taken (secondary_connection h)) place)))

-- the disk fails an item
pub faults-agree : FaultsAgree
faults-agree place offsets s h left = elim (starting (secondary_connection h) place) [
  | inl may ↦
      let starts : start place s.pending ≡ Ok may.item = ap (start place) left.last.pending ∙ may.starts in
      let epoch : epoch_at place s.pending ≡ epoch_of (items_taken (secondary_connection h)) place = ap (epoch_at place) left.last.pending ∙ may.epoch_is in
      subst (λ (r : Result StreamItem Refusal). Agrees plainly
      (elim r as (λ _. Result (Unit {0}) Refusal × SecondaryState) [ Err refusal ↦ (Err refusal, s) | Ok item ↦ (Ok tt, core.failing place s) ])
      (step.peer_fault place offsets h)) (sym starts)
      (subst (λ (ts : List Test). Agrees plainly (Ok tt, core.failing place s)
      (step.tested_secondary h ts (λ _. (reply.Ok (done_with what.Nothing), with_secondary_connection (failing place offsets) h))))
      (sym (tests-pass h place (map (pending_in (items_taken (secondary_connection h))) (pending (secondary_connection h))) may)) (record {
        reply = refl;
        leaves = record {
          settings = left.settings;
          tuple = left.tuple;
          consistent = left.consistent;
          last = subst (LeavesLast h.settings.blocks (core.failing place s))
              (sym (secondary-connection-with (failing place offsets) h (taken-some h place may.item may.there))) (record {
                number = left.last.number;
                intake = left.last.intake;
                named = λ other offset inside. named-more (secondary_connection h) place may.item (reached place offsets (secondary_connection h)) may.there
                    left.last.named other offset
                    (sym (ap (λ (part : Part). is_in part other offset) (fault-applied place offsets (secondary_connection h))) ∙ inside);
                applied = left.last.applied ∙ sym (count-failed (secondary_connection h) place may.item offsets may.there may.waits);
                pending = ap (after_fault place) left.last.pending ∙ sym (waiting-failed (secondary_connection h) place offsets may.epoch_is);
                failed = subst (λ (n : ℕ). LeavesFailed n (failing place offsets (secondary_connection h))) (sym epoch)
                    (failed-left s h place offsets left may);
                end = refl;
              });
        };
      }))
  | inr may_not ↦
      subst (λ (ps : List (Pending StreamItem)). Agrees plainly
      (elim (start place ps) as (λ _. Result (Unit {0}) Refusal × SecondaryState)
      [ Err refusal ↦ (Err refusal, s) | Ok item ↦ (Ok tt, core.failing place s) ]) (step.peer_fault place offsets h)) (sym left.last.pending)
      (refused-alike s h place (map (pending_in (items_taken (secondary_connection h))) (pending (secondary_connection h)))
      (λ _. (reply.Ok (done_with what.Nothing), with_secondary_connection (failing place offsets) h))
      (λ r. elim r as (λ _. Result (Unit {0}) Refusal × SecondaryState) [ Err refusal ↦ (Err refusal, s) | Ok item ↦ (Ok tt, core.failing place s) ]) left
      may_not (λ refusal. refl))
]
