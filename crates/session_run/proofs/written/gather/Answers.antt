use Rattle.std.proofs.Common.{ℕ, ◌≡◌, ◌+◌, ◌*◌, List, [], ◌∷◌, ◌++◌, Some, Result, Vec, Global, length, slice_get, arith, refl, sym, ap, subst, ◌∙◌}
use Rattle.std.proofs.Common.{append_assoc}
use Rattle.std.specs.Prelude.{IfOk}
use Rattle.std.proofs.lemmas.List.{length-append, length_push}
use mathlib.Core.List.{IsPrefix}
use Rattle.blocks.specs.declared.refusal.Refusal.{Refusal}
use Rattle.told.specs.declared.entry.Told.{Told}
use Rattle.session_run.specs.Plan.{AreOfPlan, AreWriters, IsWriter, WrittenState}
use Rattle.told.specs.Log.{SaysAccepted}
use Rattle.session_run.proofs.Plan.{plan-grows, writer-grows}
use Rattle.session_run.proofs.written.gather.Goals as goal

-- the item that comes after those that were yielded
item-at : {X : Type 0} (all yielded left rest : List X) (item : X) → yielded ++ left ≡ all → left ≡ item ∷ rest → slice_get all (length yielded) ≡ Some item
item-at {X} all yielded left rest item done first =
    ap (λ l. slice_get l (length yielded)) (sym (ap (λ l. yielded ++ l) (sym first) ∙ done)) ∙ seam yielded
  where
    seam : (xs : List X) → slice_get (xs ++ item ∷ rest) (length xs) ≡ Some item
    seam [] = refl
    seam (x ∷ xs) = seam xs

-- as many for each writer as before, and those of one more
grown : (writes all more writers next : ℕ) → all ≡ writers * writes → more ≡ writes → next ≡ writers + 1 → all + more ≡ next * writes
grown writes all more writers next before one is = let product : next * writes ≡ (writers + 1) * writes = ap (λ n. n * writes) is in omega (arith, before, one, product)

pub loop-one-preserved : goal.loop-one-preserved
loop-one-preserved g c =
    let all : List WrittenState = c.in_ok-written.written.items in
    let one = c.in-Some.one in
    let number = length c.loop-one.yielded in
    let came = c.into_iter-one-iterator.ensures.into_iter_gives.0 in
    let at : slice_get all number ≡ Some one = ap (λ l. slice_get l number) (sym came)
    ∙ item-at c.into_iter-one-iterator.result.rest.items c.loop-one.yielded c.loop-one.one-iterator.rest.items c.next.new.self.rest.items one
    c.loop-one.invariant.left c.in-Some.ensures.steps.0 in
    let is = (subst (λ (r : Result (Vec WrittenState Global) Refusal). IfOk r (λ written. AreWriters c.args.options.now written.items)) c.in_ok-written.was
    c.requires.writers) number one at in
    let here = subst (IsWriter c.args.options.now number) (sym c.one.view_is) is in
    let seen = subst (λ (l : List Told). IsPrefix l c.args.log.log) c.seen.ensures
    (subst (λ (l : List Told). IsPrefix c.seen.result.log l) (ap (λ l. l.log) c.loop-one.invariant.same) c.knows.ensures.1) in
    record {
      same = c.knows.ensures.0 ∙ c.loop-one.invariant.same;
      left = append_assoc c.loop-one.yielded (one ∷ []) c.next.new.self.rest.items
          ∙ ap (λ l. c.loop-one.yielded ++ l) (sym c.in-Some.ensures.steps.0) ∙ c.loop-one.invariant.left;
      size = ap length c.in_ok-append.ensures.items ∙ length-append c.loop-one.all.items c.one.inside.receipts.items
          ∙ grown c.args.options.now.writes _ _ _ _ c.loop-one.invariant.size here.count (length_push c.loop-one.yielded one);
      plan = subst (AreOfPlan (SaysAccepted c.args.log.log) c.args.options.now) (sym c.in_ok-append.ensures.items)
          (plan-grows (SaysAccepted c.args.log.log) c.args.options.now number c.loop-one.all.items c.one.inside.receipts.items
          c.loop-one.invariant.size here.count c.loop-one.invariant.plan
          (writer-grows c.one.inside.me.log c.args.log.log seen c.args.options.now number c.one.inside.receipts.items here.plan));
    }
