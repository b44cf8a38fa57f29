use Rattle.std.proofs.Common.{◌≡◌, ℕ, length, refl, ◌∙◌, ap, arith, rules, Option, Some, None}
use Rattle.transferlog.specs.Fields.{index_of}
use Rattle.transferlog.specs.Log.{LogValue}
use Rattle.transferlog.proofs.Kept.{kept_alone}
use Rattle.transferlog.proofs.Noted.{noted_quiet}
use Rattle.transferlog.proofs.log.TransferLog.connect.Goals as goal

no_connection : (connection : Option ℕ) → index_of connection ≡ None → connection ≡ None
no_connection None none = refl
no_connection (Some number) none = cc

pub invariant_of-self : goal.invariant_of-self
invariant_of-self c =
    let l = c.self.inside in
    let inv = c.self.invariant in
    let gone = c.forget_all.ensures in
    let closed = no_connection l.connection (ap (λ (v : LogValue). v.state.connection) c.self.view_is ∙ c.requires.closed) in
    let are_noted = noted_quiet l.last_writes c.forget_all.new.self l.released.items c.forget_all.new.released.items l.ring.writes gone.numbers gone.known inv.apart
    inv.noted gone.items in
    record {
      next = inv.next;
      few_accepted = inv.few_accepted;
      kept = kept_alone l.acknowledged_through l.accepted l.ring.writes inv.kept (inv.alone closed);
      numbered = c.requires.counted;
      alone = λ none. cc;
      few = inv.few;
      some = inv.some;
      room_for_released = omega (arith, gone.capacity, inv.room_for_released);
      room_for_completed = omega (arith, c.clear.ensures.capacity, inv.room_for_completed);
      acknowledged_through = rw c.restart.ensures (omega arith);
      begun = rw c.restart.ensures (λ positive. absurd (omega arith));
      sized = ap length gone.numbers ∙ inv.sized;
      noted = are_noted.writes;
      reported = are_noted.releases;
      apart = are_noted.apart;
    }

pub returns : goal.returns
returns c = search rules
