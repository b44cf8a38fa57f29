use Rattle.std.proofs.Common.{ℕ, ◌≡◌, ◌<◌, ◌+◌, List, [], ◌∷◌, ◌++◌, length, slice_get, slice_index_or, Result, Ok, inl, inr, arith, sym, ap, subst, ◌∙◌}
use Rattle.std.proofs.Common.{append_assoc}
use Rattle.std.specs.Prelude.{IfOk}
use Rattle.std.proofs.Math.Seq.{get_or-append_seam}
use Rattle.std.proofs.lemmas.List.{length-append, length_push}
use Rattle.blocks.specs.declared.refusal.Refusal.{Refusal}
use Rattle.laws.proofs.Lists.Elements.{get-more}
use Rattle.program_values.specs.declared.run_options.RunOptions.{RunOptions}
use Rattle.session_run.specs.Plan.{AreWriters, IsWriter, WrittenState}
use Rattle.session_run.proofs.workers.write_all.Goals as goal

-- the item that comes after those that were yielded
item-at : {X : Type 0} (all yielded left rest : List X) (item : X) → yielded ++ left ≡ all → left ≡ item ∷ rest
    → (slice_index_or all (length yielded) item ≡ item) × (length yielded < length all)
item-at all yielded left rest item done first =
    let is : yielded ++ item ∷ rest ≡ all = ap (λ l. yielded ++ l) (sym first) ∙ done in (
      ap (λ l. slice_index_or l (length yielded) item) (sym is) ∙ get_or-append_seam yielded item rest item,
      (let long = sym (ap length is) ∙ length-append yielded (item ∷ rest) in omega (arith, long)),
    )

-- what holds of a writer's result holds of what it has done
gave-ok : (P : Result WrittenState Refusal → Type 0) (all : List (Result WrittenState Refusal)) (writer : ℕ) (item : Result WrittenState Refusal)
    (written : WrittenState) → slice_index_or all writer item ≡ item → item ≡ Ok written → P (slice_index_or all writer item) → P (Ok written)
gave-ok P all writer item written here is holds = subst P is (subst P here holds)

-- the next writer, behind those before it
writers-more : (options : RunOptions) (old new : List WrittenState) (last : WrittenState) (count : ℕ) → new ≡ old ++ last ∷ [] → length old ≡ count
    → AreWriters options old → IsWriter options count last → AreWriters options new
writers-more options old new last count grown size before one writer written at =
    elim (get-more old last writer written (ap (λ (l : List WrittenState). slice_get l writer) (sym grown) ∙ at)) [
      | inl there ↦ before writer written there
      | inr here ↦ subst (IsWriter options writer) (sym here.1) (subst (λ n. IsWriter options n last) (sym (here.0 ∙ size)) one)
    ]

pub loop-written-preserved : goal.loop-written-preserved
loop-written-preserved g c =
    let number = length c.loop-written.yielded in
    let here = item-at c.into_iter-written-iterator.result.rest.items c.loop-written.yielded c.loop-written.written-iterator.rest.items
    c.next.new.self.rest.items c.in-Some.written c.loop-written.invariant.left c.in-Some.ensures.steps.0 in
    let came = c.into_iter-written-iterator.ensures.into_iter_gives.0 in
    let few : number < c.args.options.now.writers = (let a = here.1 in let b = ap length came in
    let l = c.in_ok-results.results.ok.0 in let n = c.in_ok-results.ensures.len in omega (arith, a, b, l, n)) in
    let gave = (c.in_ok-results.ensures.each number c.in-Some.written few).1.met in
    let one = gave-ok (λ r. IfOk r (IsWriter c.args.options.now number)) c.in_ok-results.results.items number c.in-Some.written c.in_ok-written.field-0
    (ap (λ l. slice_index_or l number c.in-Some.written) (sym came) ∙ here.0) c.in_ok-written.was gave in
    record {
      left = append_assoc c.loop-written.yielded (c.in-Some.written ∷ []) c.next.new.self.rest.items
          ∙ ap (λ l. c.loop-written.yielded ++ l) (sym c.in-Some.ensures.steps.0) ∙ c.loop-written.invariant.left;
      size = ap length c.in_ok-push.ensures.items ∙ length_push c.loop-written.all.items c.in_ok-written.field-0
          ∙ ap (λ n. n + 1) c.loop-written.invariant.size ∙ sym (length_push c.loop-written.yielded c.in-Some.written);
      writers = writers-more c.args.options.now c.loop-written.all.items c.push.new.self.items c.in_ok-written.field-0 number c.in_ok-push.ensures.items
          c.loop-written.invariant.size c.loop-written.invariant.writers one;
    }
