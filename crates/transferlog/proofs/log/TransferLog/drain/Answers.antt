use Rattle.std.proofs.Common.{◌≡◌, ◌≤◌, ◌++◌, List, [], length, ◌∙◌, ap, arith, not}
use Rattle.std.specs.Prelude.{filter, map}
use Rattle.transferlog.specs.Writes.{LogWrite, is_released, released_of, unlinking}
use Rattle.transferlog.specs.Ring.{RingState, Rises}
use Rattle.transferlog.specs.Fields.{IsAlone}
use Rattle.transferlog.proofs.Moves.{left_kept, each_filter, few_left}
use Rattle.transferlog.proofs.Noted.{each_noted_still, each_noted_unlinked, noted_released}
use Rattle.transferlog.proofs.Unlinking.{each_alone, few_completed}
use Rattle.transferlog.proofs.log.TransferLog.drain.Goals as goal

-- what is added to a list that was cleared
onto_empty : {X : Type 0} (new cleared added : List X) → new ≡ cleared ++ added → cleared ≡ [] → new ≡ added
onto_empty new cleared added is empty = is ∙ ap (λ front. front ++ added) empty

pub overflow_cast-result : goal.overflow_cast-result
overflow_cast-result c =
    let l = c.self.inside in
    let items = ap length c.unlink_all.ensures.completed in
    let cleared = ap length c.clear.ensures.items in
    let all = few_completed c.clear.new.self.items l.ring.writes c.clear.ensures.items in
    omega (arith, c.len.ensures, c.unlink_all.new.completed.ok.0, items, all, c.self.invariant.few)

pub invariant_of-self : goal.invariant_of-self
invariant_of-self c =
    let l = c.self.inside in
    let inv = c.self.invariant in
    let ws = map unlinking l.ring.writes in
    let is = c.release_rest.ensures.writes ∙ ap (λ (r : RingState). filter (λ w. not (is_released l.acknowledged_through w)) r.writes) c.unlink_all.ensures.next in
    let few : length c.release_rest.new.self.writes ≤ length l.ring.writes = rw is (few_left (λ w. not (is_released l.acknowledged_through w)) unlinking l.ring.writes) in
    let gone = c.forget_all.ensures in
    let unlinked = ap (λ (r : RingState). r.writes) c.unlink_all.ensures.next in
    let rises : Rises 0 ws = rw (← unlinked) c.release_rest.ensures.rises in
    let releases : c.release_rest.new.released.items ≡ map released_of (filter (is_released l.acknowledged_through) ws) =
    onto_empty _ _ _ c.release_rest.ensures.released gone.items
    ∙ ap (λ (ws : List LogWrite). map released_of (filter (is_released l.acknowledged_through) ws)) unlinked in
    let noted = noted_released c.forget_all.new.self (is_released l.acknowledged_through) ws rises (each_noted_unlinked c.forget_all.new.self l.ring.writes
    (each_noted_still l.last_writes c.forget_all.new.self l.released.items l.ring.writes gone.numbers gone.known inv.apart inv.noted)) in
    record {
      next = c.release_rest.ensures.next ∙ (ap (λ (r : RingState). r.next) c.unlink_all.ensures.next ∙ inv.next);
      few_accepted = inv.few_accepted;
      kept = rw is (left_kept l.acknowledged_through ws);
      numbered = tt;
      alone = λ none. rw is (each_filter IsAlone (λ w. not (is_released l.acknowledged_through w)) ws (each_alone l.ring.writes));
      few = omega (arith, few, inv.few);
      some = inv.some;
      room_for_released = omega (arith, c.release_rest.ensures.capacity, c.forget_all.ensures.capacity, inv.room_for_released);
      room_for_completed = omega (arith, c.unlink_all.ensures.capacity, c.clear.ensures.capacity, inv.room_for_completed);
      acknowledged_through = rw c.restart.ensures (omega (arith, inv.acknowledged_through));
      begun = rw c.restart.ensures (λ positive. absurd (omega arith));
      sized = ap length gone.numbers ∙ inv.sized;
      noted = rw is noted.writes;
      reported = rw releases noted.releases;
      apart = rw (is, releases) noted.apart;
    }
