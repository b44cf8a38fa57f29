use Rattle.std.proofs.Common.{◌≡◌, ◌+◌, ◌++◌, ◌<◌, ◌≤◌, [], length, List, ℕ, Option, refl, sym, ◌∙◌, ap, subst, arith, append_assoc, length-append, true}
use Rattle.std.specs.Prelude.{filter, map, IsSome}
use Rattle.std.specs.Option.{option_map, option_and_then, option_to_list}
use Rattle.std.proofs.lemmas.List.{length-map, append-nil}
use Rattle.transferlog.specs.Writes.{LogWrite, completed_of, report_of, unlinking}
use Rattle.transferlog.specs.Ring.{RingState, Each, Rises, with_change, write_at}
use Rattle.transferlog.specs.Slots.{ring_of, IsRing}
use Rattle.transferlog.specs.declared.ring.Ring.TheInside.{Inside}
use Rattle.transferlog.specs.declared.report.Completed.{Completed}
use Rattle.transferlog.specs.declared.report.ChangeReport.{ChangeReport}
use Rattle.transferlog.proofs.InSlots.{rises_of}
use Rattle.transferlog.proofs.Sweep.{goes, out_at, gone_next, all_before, all_after, room_left}
use Rattle.transferlog.proofs.Unlinking.{completes, unlinked, unlinked_next, none_unlinked, all_unlinked, completion_at, all_completed, numbers_from}
use Rattle.transferlog.proofs.Unlinking.{numbers_below, each_to}
use Rattle.transferlog.proofs.ring.Ring.unlink_all.Goals as goal

onto_nothing : (xs : List Completed) (ys : List LogWrite) → ys ≡ [] → xs ≡ xs ++ map completed_of ys
onto_nothing xs ys none = rw none (sym (append-nil xs))

from_first : (r : Inside) (s : RingState) → ring_of r ≡ s → IsRing r → Each (λ w. r.first ≤ w.number) s.writes
from_first r s is ring = rw (← is) (numbers_from r.first r.first r.slots.items (omega arith) ring.numbered)

below_end : (r : Inside) (s : RingState) (n : ℕ) → ring_of r ≡ s → IsRing r → r.first + length r.slots.items ≤ n → Each (λ w. w.number < n) s.writes
below_end r s n is ring least = rw (← is) (numbers_below n r.first r.slots.items least ring.numbered)

pub loop-number-init : goal.loop-number-init
loop-number-init c =
    let r = c.self.inside in
    let ws = c.args.self.now.writes in
    let least = from_first r c.args.self.now c.self.view_is c.self.invariant in
    let e = all_before completes r.first ws (each_to (λ (w : LogWrite). r.first ≤ w.number) (λ w. completes w ≡ true
    → r.first ≤ w.number) ws (λ w from goes_now. from) least) in
    record {
      completed = onto_nothing c.args.completed.now.items _ e.0;
      capacity = refl;
      ring = rw (none_unlinked r.first ws least) refl;
    }

completed_now : (k : ℕ) (s left : RingState) (report : Option ChangeReport) (result : Option Completed) → left ≡ record s { writes = map (unlinked k) s.writes }
    → report ≡ option_map (report_of unlinking) (write_at k left.writes) → result ≡ option_and_then (λ (t : ChangeReport). t.completion) report
    → result ≡ out_at completes completed_of k s.writes
completed_now k s left report result left_is turn_is is = is ∙ completion_at k s.writes left.writes report turn_is (ap (λ r. r.writes) left_is)

room : (k n cap : ℕ) (ws : List LogWrite) (items old : List Completed) → Rises 0 ws → IsSome (out_at completes completed_of k ws)
    → items ≡ old ++ map completed_of (filter (goes completes k) ws)
    → length old + length ws ≤ cap → n ≡ length items → n < cap
room k n cap ws items old rises some is fits n_is =
    let lengths = simp (length-append, length-map) at (ap length is) in
    omega (arith, lengths, room_left completes completed_of k ws rises some)

pub note_completed-requires : goal.note_completed-requires
note_completed-requires c =
    λ some.
    let k = c.loop-number.number in
    let ws = c.args.self.now.writes in
    let is = completed_now k c.args.self.now c.loop-number.self c.change-report.result c.completion_in.result c.loop-number.invariant.ring
    c.change-report.ensures.report c.completion_in.ensures in
    let P : Option Completed → Type 0 = λ o. IsSome o in
    room k _ _ ws c.loop-number.completed.items c.args.completed.now.items (rises_of c.self.inside c.args.self.now c.self.view_is c.self.invariant)
    (subst P is some)
    c.loop-number.invariant.completed (omega (arith, c.requires, c.args.completed.now.ok.0, c.loop-number.invariant.capacity))
    (omega (arith, c.loop-number.completed.ok.0))

pub loop-number-preserved : goal.loop-number-preserved
loop-number-preserved c =
    let k = c.loop-number.number in
    let ws = c.args.self.now.writes in
    let inv = c.loop-number.invariant in
    let old = c.args.completed.now.items in
    let rises = rises_of c.self.inside c.args.self.now c.self.view_is c.self.invariant in
    let is = completed_now k c.args.self.now c.loop-number.self c.change-report.result c.completion_in.result inv.ring c.change-report.ensures.report
    c.completion_in.ensures in
    record {
      completed = c.note_completed.ensures.items ∙ (ap (λ xs. xs ++ option_to_list c.completion_in.result) inv.completed
          ∙ (append_assoc old (map completed_of (filter (goes completes k) ws)) (option_to_list c.completion_in.result)
          ∙ ap (λ ys. old ++ ys) (ap (λ (o : Option Completed). map completed_of (filter (goes completes k) ws) ++ option_to_list o) is
          ∙ sym (gone_next completes completed_of k 0 ws rises))));
      capacity = c.note_completed.ensures.capacity ∙ inv.capacity;
      ring = c.change-report.ensures.next ∙ (ap (λ (r : RingState). record r { writes = with_change k unlinking r.writes }) inv.ring
          ∙ ap (λ (vs : List LogWrite). record c.args.self.now { writes = vs }) (unlinked_next k ws));
    }

pub returns-clause-completed : goal.returns-clause-completed
returns-clause-completed c =
    let r = c.self.inside in
    let ws = c.args.self.now.writes in
    let old = c.args.completed.now.items in
    let end : r.first + length r.slots.items ≤ c.loop-number.number = omega (arith, c.len.ensures, r.slots.ok.0) in
    let below = below_end r c.args.self.now c.loop-number.number c.self.view_is c.self.invariant end in
    let e = all_after completes c.loop-number.number ws (each_to (λ (w : LogWrite). w.number < c.loop-number.number) (λ w. completes w ≡ true
    → w.number < c.loop-number.number) ws (λ w less goes_now. less) below) in
    c.loop-number.invariant.completed ∙ (ap (λ xs. old ++ map completed_of xs) e.0 ∙ ap (λ ys. old ++ ys) (all_completed ws))

pub returns-clause-next : goal.returns-clause-next
returns-clause-next c =
    let r = c.self.inside in
    let end : r.first + length r.slots.items ≤ c.loop-number.number = omega (arith, c.len.ensures, r.slots.ok.0) in
    let below = below_end r c.args.self.now c.loop-number.number c.self.view_is c.self.invariant end in
    c.loop-number.invariant.ring ∙ ap (λ (vs : List LogWrite). record c.args.self.now { writes = vs })
    (all_unlinked c.loop-number.number c.args.self.now.writes below)
