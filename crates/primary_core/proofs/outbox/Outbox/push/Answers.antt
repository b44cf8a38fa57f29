use Rattle.std.proofs.Common.{◌≡◌, ◌++◌, ◌∷◌, [], List, length-append, sym, ◌∙◌, ap, arith}
use Rattle.model.specs.Stream.{StreamItem}
use Rattle.primary_core.specs.Outbox.{numbers}
use Rattle.primary_core.proofs.Barriers.{few-numbers, end-barrier, end-other}
use Rattle.primary_core.proofs.outbox.Outbox.push.Goals as goal
use Rattle.primary_core.proofs.outbox.Outbox.push.Goals.{in-Some, in_default}

pub overflow_add-self : goal.overflow_add-self
overflow_add-self c =
    let u = c.self.inside in
    omega (arith, c.self.invariant.counted, few-numbers u.items.items, u.items.ok, u.items.small)

pub invariant_of-self : goal.invariant_of-self
invariant_of-self c =
    let u = c.self.inside in
    let is = c.self.invariant in
    let xs = u.items.items in
    let item = c.args.item in
    let pushed = c.push_back_reserved.new.self.items in
    elim c.match-barrier.branch [
      | in-Some w ↦
          let items : pushed ≡ xs ++ item ∷ [] =
          ◌∙◌ {A = List StreamItem} c.push_back_reserved.ensures.items (ap (λ x. x.items.items ++ item ∷ []) w.self-inside-is) in
          let more : numbers pushed ≡ numbers xs ++ w.in-Some.number ∷ [] =
          ap numbers items ∙ end-barrier xs item w.in-Some.number (sym c.barrier.ensures ∙ w.in-Some.is) in
          rw w.self-inside-is (record {
            counted = rw more (simp length-append (omega (arith, is.counted)));
            runs = λ yes. more ∙ w.run_with-first.ensures (numbers xs) (sym is.counted) is.runs yes;
          })
      | in_default w ↦
          let items : pushed ≡ xs ++ item ∷ [] =
          ◌∙◌ {A = List StreamItem} c.push_back_reserved.ensures.items (ap (λ x. x.items.items ++ item ∷ []) w.self-inside-is) in
          let same : numbers pushed ≡ numbers xs =
          ap numbers items ∙ end-other xs item (sym c.barrier.ensures ∙ w.in_default.is) in
          rw w.self-inside-is (record { counted = rw same is.counted; runs = λ yes. same ∙ is.runs yes })
    ]
