use Rattle.std.proofs.Common.{◌≡◌, List, ◌∙◌, ap, subst, sym, arith}
use Rattle.std.specs.Prelude.{length}
use Rattle.model.specs.Settlement.{Receipt, unmarked_differences}
use Rattle.model.specs.Theorems.{Settles, SettlesAnyhow}
use Rattle.primary.specs.State.{PrimaryView, node as primary_node}
use Rattle.primary_protocol.specs.Node.{NodeHas as PrimaryHas}
use Rattle.served_images.specs.Sessions.{NodesComeTo, counted}
use Rattle.settlement.specs.Settled.{AreAll, with_unmarked}
use Rattle.served_images.proofs.Working.{given}
use Rattle.served_images.proofs.session_end.settle_and_hand_over.Goals as goal

pub returns-clause-comes : goal.returns-clause-comes
returns-clause-comes g c = given c.args.worked c.in_ok-receipts.receipts
    (λ receipts. NodesComeTo c.args.primary.now c.args.secondary.now receipts c.args.totals c.with_session-totals.result c.in_ok-parts.parts) c.in_ok-receipts.was
    (λ numbered p s hp hs joined.
    let here : PrimaryHas (primary_node c.confirm_all.new.primary) p =
    subst (λ (v : PrimaryView). PrimaryHas (primary_node v) p) (sym c.confirm_all.ensures.same) hp in
    let many : c.len.result ≡ length c.in_ok-receipts.receipts.items = omega (arith, c.len.ensures, c.in_ok-receipts.receipts.ok) in
    let numbers = with_unmarked (unmarked_differences p s) c.in_ok-confirmed.confirmed in
    record {
      numbers = numbers;
      anyhow = subst (λ (l : List Receipt). SettlesAnyhow p s l numbers) c.as_slice.ensures.value
          (c.in_ok-confirmed.ensures.anyhow numbered p s hp hs joined);
      settles = λ honest. subst (λ (l : List Receipt). Settles p s l numbers) c.as_slice.ensures.value
          (c.in_ok-confirmed.ensures.settles numbered p s hp hs joined honest);
      all = subst (AreAll p) c.as_slice.ensures.value (c.in_ok-confirmed.ensures.all p hp);
      completed = c.with_session-totals.ensures.completed ∙ ap (counted c.args.totals.completed) many;
      confirmed = c.with_session-totals.ensures.confirmed;
      marked = c.with_session-totals.ensures.last ∙ c.marks.ensures p here;
      left = c.in_ok-parts.ensures.left p s here hs;
      unparted = λ honest. c.in_ok-parts.ensures.unparted p s here hs joined honest;
      sound = λ honest fine. c.in_ok-parts.ensures.sound p s here hs joined honest fine;
    })
