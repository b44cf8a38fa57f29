use Rattle.std.proofs.Common.{◌≡◌, ◌∙◌, ◌<◌, ◌++◌, ◌∷◌, [], sym, length, ap, arith, false, true}
use Rattle.std.proofs.lemmas.Option.{IfSome_then}
use Rattle.peerdisk.specs.Pending.{Pending, is_out_of_memory, put}
use Rattle.peerdisk.proofs.Pendings.{put-room}
use Rattle.model.specs.Stream.{StreamItem}
use Rattle.secondary_core.proofs.Kept.{admitted, same-barriers}
use Rattle.secondary_core.proofs.state.SecondaryCore.admit.Goals as goal

pub invariant_of-self : goal.invariant_of-self
invariant_of-self c =
    let s = c.self.inside in
    let is_ready : s.is_ready ≡ true = ap (λ s. s.is_ready) c.self.view_is ∙ c.requires.may.ready in
    let few : length s.disk.pending < s.settings.pending = omega (
      arith,
      ap (λ s. length s.state.pending) c.self.view_is,
      ap (λ s. s.state.settings.pending) c.self.view_is,
      c.requires.may.few,
    ) in
    let inside = rw (← ap (λ s. s.state.settings.blocks) c.self.view_is) at c.requires.inside in
    let reach = c.self.invariant.place is_ready in
    let fed : is_out_of_memory c.put.result ≡ false = c.put.ensures.room (omega (arith, c.places-place.ensures, reach)) in
    let last : Pending StreamItem = record { place = c.places-place.result; epoch = c.epoch-epoch.result; item = c.args.item } in
    let put_last : c.put.new.self ≡ record { limit = s.disk.limit; pending = s.disk.pending ++ last ∷ []; reach = c.put.new.self.reach } =
    ap (λ p. p.1) (c.put.ensures.put
    ∙ ap (λ out_of_memory. put last.place last.epoch last.item out_of_memory
    (record { limit = s.disk.limit; pending = s.disk.pending; reach = c.put.new.self.reach }))
    fed ∙ sym (put-room s.disk.limit c.put.new.self.reach last s.disk.pending (omega (arith, few, c.self.invariant.pending.limit)))) in
    let barriers : c.item.new.self.barriers ≡ s.inbox.barriers = ap (λ t. t.barriers) c.item.ensures ∙ same-barriers c.args.item s.inbox c.requires.some in
    record {
      in_range = c.self.invariant.in_range;
      pending = admitted s.settings c.args.item s.inbox c.item.new.self s.disk c.put.new.self s.items_applied c.self.invariant.pending few c.requires.some
          inside c.item.ensures (rw (c.places-place.ensures, c.epoch-epoch.ensures) at put_last);
      served = c.acknowledge.ensures.served c.item.new.self.barriers (IfSome_then s.connection c.self.invariant.served (λ x was. was.ended ∙ sym barriers));
      place = λ is. absurd (cc);
      room = λ is. absurd (cc);
    }
