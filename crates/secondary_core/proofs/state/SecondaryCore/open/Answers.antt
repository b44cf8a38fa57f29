use Rattle.std.proofs.Common.{◌≡◌, ◌∙◌, false, length, ap, arith}
use Rattle.std.proofs.lemmas.Bool.Decides.{nat_tests}
use Rattle.peerdisk.proofs.Flags.{length-flags}
use Rattle.secondary_protocol.specs.Core.{answers}
use Rattle.secondary_core.proofs.Places.{of-none}
use Rattle.secondary_core.proofs.state.SecondaryCore.open.Goals as goal

pub invariant_of-self : goal.invariant_of-self
invariant_of-self c =
    let s = c.self.inside in
    let was = c.self.invariant in
    let none : length s.disk.pending ≡ 0 = grind (
      arith,
      nat_tests,
      c.is_drained.ensures,
      c.if-not-is_drained.false,
      ap (λ s. s.state.pending) c.self.view_is,
    ) in
    let due = ap (λ e. length e.due) c.new-2.ensures in
    let sizes = ap (λ e. length e.sizes) c.new-2.ensures in
    let answered = ap (λ e. e.answered) c.new-2.ensures in
    let barriers = ap (λ t. t.barriers) c.begin.ensures in
    record {
      in_range = was.in_range;
      pending = record {
        limit = was.pending.limit;
        size = ap (λ t. length t.blocks) c.begin.ensures ∙ length-flags (length s.inbox.blocks) (λ block. false) ∙ was.pending.size;
        few = was.pending.few;
        pending = of-none _ _ none;
        counted = omega (arith, none);
      };
      served = record {
        ended = omega (arith, answered, sizes, barriers);
        answered = ap (λ e. answers s.disk.pending e.answered e.sizes) c.new-2.ensures;
        room = omega (arith, due, sizes, none);
      };
      place = λ is. absurd (cc);
      room = λ is. absurd (cc);
    }
