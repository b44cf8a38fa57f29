use Rattle.std.proofs.Common.{◌≡◌, ◌∙◌, ◌-◌, length, min, arith, sym, ap}
use Rattle.primary_protocol.proofs.Node.Pushed.{pushed-many, says-sent}
use Rattle.primary.specs.State.{PrimaryView, pushed_of, node}
use Rattle.primary.proofs.state.Primary.items_sent.Goals as goal
use Rattle.primary.proofs.state.Primary.items_sent.Goals.{After-saturating_sub, in-Some, in-None}

pub overflow_cast-result : goal.overflow_cast-result
overflow_cast-result g c =
    let pushed : c.match-self.pushed ≡ min (length (pushed_of c.self.inside.outgoing)) 18446744073709551615 = elim c.match-self.branch [
      | in-Some w ↦ w.pushed-is ∙ (w.pushed-pushed.ensures ∙ ap (λ o. min (length (pushed_of o)) 18446744073709551615) (sym w.in-Some.is))
      | in-None w ↦ w.pushed-is ∙ ap (λ o. min (length (pushed_of o)) 18446744073709551615) (sym w.in-None.is)
    ] in
    let many = pushed-many _ c.self.invariant.had.history c.self.invariant.had.has in
    omega (arith, pushed, many.1, c.saturating_sub.ensures)

pub returns : goal.returns
returns g c = λ h has.
    let pushed : c.match-self.pushed ≡ min (length (pushed_of c.self.inside.outgoing)) 18446744073709551615 = elim c.match-self.branch [
      | in-Some w ↦ w.pushed-is ∙ (w.pushed-pushed.ensures ∙ ap (λ o. min (length (pushed_of o)) 18446744073709551615) (sym w.in-Some.is))
      | in-None w ↦ w.pushed-is ∙ ap (λ o. min (length (pushed_of o)) 18446744073709551615) (sym w.in-None.is)
    ] in
    let view : length (pushed_of c.self.inside.outgoing) ≡ length (pushed_of c.args.self.now.outgoing) =
    ap (λ (v : PrimaryView). length (pushed_of v.outgoing)) c.self.view_is in
    let many = pushed-many (node c.args.self.now) h has in
    let sent = says-sent (node c.args.self.now) h has in
    let exact : c.match-self.pushed ≡ length (pushed_of c.args.self.now.outgoing) = omega (arith, pushed, view, many.1) in
    c.saturating_sub.ensures ∙ (ap (λ k. c.match-self.pushed - k) c.from.ensures ∙ (ap (λ n. n - 3) exact ∙ sent))
