use Rattle.std.proofs.Common.{suc, ◌≡◌, ◌∙◌, ◌∷◌, [], ap, sym, arith, length, true, false, ◌==◌}
use Rattle.std.proofs.lemmas.Bool.Decides.{nat_tests}
use Rattle.std.proofs.lemmas.List.{append-nil, length-append}
use Rattle.peerdisk.proofs.Flags.{length-flags}
use Rattle.secondary_core.proofs.Kept.{taken}
use Rattle.secondary_core.proofs.state.SecondaryCore.barrier.Goals as goal

pub invariant_of-self-2 : goal.invariant_of-self-2
invariant_of-self-2 c =
    let s = c.self.inside in
    let was = c.self.invariant in
    let next = c.barrier.ensures.next c.args.number in
    let served = rw c.in-Some.is at was.served in
    let longer = ap (λ o. length o.sizes) c.ended.ensures ∙ length-append c.in-Some.field-0.outbox.sizes (c.barrier.result ∷ []) in
    record {
      in_range = was.in_range;
      pending = taken s.settings s.inbox c.barrier.new.self s.disk s.items_applied was.pending (ap (λ t. t.places) next)
          (omega (arith, ap (λ t. t.barriers) next)) (ap (λ t. length t.blocks) next ∙ length-flags (length s.inbox.blocks) (λ block. false));
      served = c.acknowledge.ensures.served c.barrier.new.self.barriers
          (omega (arith, served.ended, longer, ap (λ o. o.answered) c.ended.ensures, ap (λ t. t.barriers) next));
      place = λ is. absurd (cc);
      room = λ is. absurd (cc);
    }

pub returns : goal.returns
returns c =
    let s = c.self.inside in
    let place = sym c.has_place.ensures ∙ (let there : c.has_place.result ≡ true = grind (arith, c.if-not-has_place.false) in there) in
    let next : (c.args.number == suc s.inbox.barriers) ≡ true = grind (arith, nat_tests, c.if-number-epoch.false, c.epoch.ensures) in
    rw (
      ← c.self.view_is,
      c.in-Some.is,
      place,
      next,
      c.barrier.ensures.next c.args.number,
      c.acknowledge.ensures.due,
      c.ended.ensures,
      c.barrier.ensures.writes,
      c.places-place.ensures,
      append-nil c.in-Some.field-0.outbox.due,
    )
