use Rattle.std.proofs.Common.{◌≡◌, ◌+◌, ◌<◌, ◌≤◌, ◌++◌, inl, inr, length-append, subst, List, ℕ, [], ◌∷◌, length, refl, ◌∙◌, ap, arith, rules, Option}
use Rattle.std.specs.Prelude.{is_some}
use Rattle.std.proofs.lemmas.Bool.{cases_lt}
use Rattle.transferlog.specs.Writes.{LogWrite}
use Rattle.transferlog.specs.LastWrites.{IsNotedWrite, IsSmall}
use Rattle.transferlog.specs.Log.{LogValue, accepted_write, home_in, with_last_write}
use Rattle.transferlog.specs.Fields.{IsAlone, IsKept, index_of, log_of}
use Rattle.transferlog.proofs.Kept.{accepted_is, bounded_home}
use Rattle.transferlog.proofs.Noted.{each_apart, each_noted_more, each_noted_same, each_noted_still, each_push, length-with_last_write, noted_new}
use Rattle.transferlog.proofs.log.TransferLog.accept.Goals as goal

pub returns-clause-accepted : goal.returns-clause-accepted
returns-clause-accepted c =
    let l = c.self.inside in
    let s = log_of l in
    let r = c.args.range in
    let writes = ap (λ ring. ring.writes) c.push.ensures ∙ (ap (λ ring. ring.writes ++ c.new.result ∷ []) c.in_ok-reserve.ensures.same
    ∙ ap (λ (w : LogWrite). s.writes ++ w ∷ []) c.new.ensures) in
    let last_writes = c.note.ensures.numbers
    ∙ ap (λ (xs : List ℕ). with_last_write (l.accepted + 1) r.first.0 r.count xs) (c.forget_all.ensures.numbers ∙ c.in_ok-reserve-2.ensures.numbers) in
    rw (← c.self.view_is) (accepted_is s r.first.0 r.count c.args.contents _ _ _ _ _ _ _ _ c.in_ok-home.ensures.home c.place_in-place.ensures last_writes writes
    c.forget_all.ensures.items c.clear.ensures.items)

pub invariant_of-self-2 : goal.invariant_of-self-2
invariant_of-self-2 c =
    let l = c.self.inside in
    let s = log_of l in
    let inv = c.self.invariant in
    let r = c.args.range in
    let reserved = c.in_ok-reserve-2.ensures in
    let forgotten = c.forget_all.ensures in
    let at_home = c.in_ok-home.ensures.home in
    let w = accepted_write r.first.0 r.count c.args.contents c.in_ok-home.home s in
    let writes : c.push.new.self.writes ≡ l.ring.writes ++ w ∷ [] = ap (λ ring. ring.writes) c.push.ensures
    ∙ (ap (λ ring. ring.writes ++ c.new.result ∷ []) c.in_ok-reserve.ensures.same ∙ ap (λ (v : LogWrite). s.writes ++ v ∷ []) c.new.ensures) in
    let long : length c.forget_all.new.self.numbers ≡ length c.args.self.now.state.last_writes =
    ap length (forgotten.numbers ∙ reserved.numbers) ∙ ap (λ (v : LogValue). length v.state.last_writes) c.self.view_is in
    let inside : r.first.0 + r.count ≤ length c.forget_all.new.self.numbers = omega (arith, long, c.requires.inside) in
    let old_noted = each_noted_still c.reserve-2.new.self c.forget_all.new.self l.released.items l.ring.writes forgotten.numbers forgotten.known inv.apart
    (each_noted_same l.last_writes c.reserve-2.new.self l.ring.writes reserved.numbers reserved.known inv.noted) in
    let small : IsSmall r.first.0 r.count = omega (arith, inside, ap length (forgotten.numbers ∙ reserved.numbers), inv.sized) in
    let epochs = ap (λ a. a.1.1) at_home in
    let bounded = bounded_home l.acknowledged_through l.accepted (index_of l.connection) l.epochs.state
    (record { confirmed_writes = inv.acknowledged_through; begun = inv.begun }) in
    let room : length l.ring.writes < l.backlog = elim (cases_lt (length l.ring.writes) l.backlog) [
      | inl less ↦ less
      | inr full ↦
          let IsFull : LogValue → Type 0 = λ v. v.state.backlog ≤ length v.state.writes in
          let no = c.in_ok-may_accept.ensures.full.1 (subst IsFull c.self.view_is full) in absurd (cc)
    ] in
    record {
      next = ap (λ ring. ring.next) c.push.ensures ∙ ap (λ n. n + 1) (ap (λ ring. ring.next) c.in_ok-reserve.ensures.same ∙ inv.next);
      few_accepted = search rules;
      kept = rw writes (each_push (IsKept l.acknowledged_through) l.ring.writes w inv.kept refl);
      numbered = inv.numbered;
      alone = λ none. rw writes (each_push IsAlone l.ring.writes w (inv.alone none) (ap is_some (ap (λ a. a.0) at_home
          ∙ ap (λ (o : Option ℕ). (home_in (index_of o) (l.accepted + 1) l.epochs.state).0) none)));
      few = rw writes (omega (arith, length-append l.ring.writes (w ∷ []), room));
      some = inv.some;
      room_for_released = omega (arith, forgotten.capacity, inv.room_for_released);
      room_for_completed = omega (arith, c.clear.ensures.capacity, inv.room_for_completed);
      acknowledged_through = rw epochs bounded.confirmed_writes;
      begun = rw epochs bounded.begun;
      sized = ap length c.note.ensures.numbers ∙ (length-with_last_write (l.accepted + 1) r.first.0 r.count c.forget_all.new.self.numbers inside
          ∙ (ap length (forgotten.numbers ∙ reserved.numbers) ∙ inv.sized));
      noted = rw writes (each_push (IsNotedWrite c.note.new.self) l.ring.writes w (each_noted_more c.forget_all.new.self c.note.new.self (l.accepted + 1) r.first.0
          r.count l.ring.writes inside c.note.ensures.numbers c.note.ensures.known old_noted)
          (noted_new c.forget_all.new.self c.note.new.self (l.accepted + 1) r.first.0 r.count small c.note.ensures.known));
      reported = rw forgotten.items tt;
      apart = rw forgotten.items (each_apart c.push.new.self.writes);
    }
