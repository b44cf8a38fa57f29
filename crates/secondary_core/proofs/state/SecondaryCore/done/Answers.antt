use Rattle.std.proofs.Common.{◌≡◌, ◌+◌, ap, arith, true, length, option_to_list}
use Rattle.std.proofs.lemmas.Option.{IfSome_then}
use Rattle.peerdisk.specs.Pending.{is_pending}
use Rattle.secondary_core.proofs.Kept.{applied, one_most, room-after}
use Rattle.secondary_core.proofs.Places.{may_start, one_less}
use Rattle.secondary_core.proofs.state.SecondaryCore.done.Goals as goal

pub invariant_of-self : goal.invariant_of-self
invariant_of-self c =
    let s = c.self.inside in
    let was = c.self.invariant in
    let there : is_pending c.args.place s.disk.pending ≡ true = rw (ap (λ s. s.state.pending) c.self.view_is)
    (may_start c.args.place c.args.self.now.state.pending c.requires) in
    let less : length c.done-item.new.self.pending + 1 ≡ length s.disk.pending = rw (c.done-item.ensures.rest) (one_less c.args.place s.disk.pending there) in
    record {
      in_range = was.in_range;
      pending = applied s.settings s.inbox s.disk c.done-item.new.self s.items_applied c.args.place was.pending there c.done-item.ensures.rest;
      served = c.acknowledge.ensures.served s.inbox.barriers (IfSome_then s.connection was.served (λ x served. served.ended));
      place = λ is. let place = was.place is in omega (arith, place, c.done-item.ensures.reach);
      room = λ is. rw (c.acknowledge.ensures.due) (room-after (option_to_list c.answer-answer.result) s.disk.pending c.done-item.new.self.pending s.connection
          (omega (arith, less, one_most c.answer-answer.result)) (was.room is));
    }
