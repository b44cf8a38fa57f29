use Rattle.std.proofs.Common.{ℕ, rules, ◌≡◌, ◌+◌, ◌*◌, ◌%◌, List, [], ◌∷◌, ◌++◌, length, replicate, slice_get, inl, inr, sym, subst, ◌∙◌, ap, arith}
use Rattle.model.specs.Settlement.{Receipt}
use Rattle.program_values.specs.declared.run_options.RunOptions.{RunOptions}
use Rattle.laws.proofs.Lists.Elements.{get-more}
use mathlib.Core.List.{IsPrefix}
use Rattle.told.specs.declared.entry.Told.{Told}
use Rattle.told.specs.declared.entry.Told.TheVariants.{Accepted, Given}
use Rattle.told.proofs.Seeing.{prefix-on, stays-told, told-last, told-prefix}
use Rattle.session_run.specs.Plan.{AreOfWriter, IsOfTurn}
use Rattle.told.specs.Log.{SaysAccepted}
use Rattle.session_run.proofs.Plan.{writer-grows}
use Rattle.session_run.proofs.workers.write_turns.Goals as goal

-- the receipt of the next turn is that of the plan
planned-more : (accepts : ℕ → ℕ → List ℕ → Type 0) (options : RunOptions) (writer : ℕ) (old new : List Receipt) (last : Receipt) → new ≡ old ++ last ∷ []
    → AreOfWriter accepts options writer old → IsOfTurn accepts options writer (length old) last → AreOfWriter accepts options writer new
planned-more accepts options writer old new last grown planned one turn receipt is =
    elim (get-more old last turn receipt (ap (λ (l : List Receipt). slice_get l turn) (sym grown) ∙ is)) [
      | inl there ↦ planned turn receipt there
      | inr here ↦ subst (IsOfTurn accepts options writer turn) (sym here.1) (subst (λ n. IsOfTurn accepts options writer n last) (sym here.0) one)
    ]

-- a range of whole blocks with the bytes of one has one block
one-block : (count bytes : ℕ) → count * 4096 ≡ bytes → bytes ≡ 4096 → count ≡ 1
one-block count bytes is long = omega arith

pub loop-turn-preserved : goal.loop-turn-preserved
loop-turn-preserved g c =
    let size = sym c.loop-turn.invariant.count ∙ c.loop-turn.receipts.ok.0 in
    let receipt = c.in_ok-write.field-0 in
    let old = c.loop-turn.me.log in
    let new = c.write.new.me.log in
    let told = c.in_ok-write.ensures.told in
    let between = told.0 in
    let accepts = SaysAccepted new in
    let last = told-prefix between (Given receipt) new told.2 in
    let seen = prefix-on old between new (told-prefix old (Accepted receipt.number c.block.result c.in_ok-bytes.bytes) between told.1) last in
    record {
      count = search rules;
      plan = planned-more accepts c.args.options.now c.args.writer c.loop-turn.receipts.items c.push.new.self.items c.in_ok-write.field-0
          c.in_ok-push.ensures.items (writer-grows old new seen c.args.options.now c.args.writer c.loop-turn.receipts.items c.loop-turn.invariant.plan) (record {
            first = c.in_ok-write.ensures.own.0 ∙ c.block.ensures
                ∙ ap (λ n. (c.args.writer * c.args.options.now.writes + n) % c.args.options.now.blocks) size;
            count = one-block c.in_ok-write.field-0.count _ c.in_ok-write.ensures.own.1 (search rules);
            accepted = subst (λ n. accepts receipt.number receipt.first (replicate 4096 ((c.args.writer + n + 1) % 256))) size
                (subst (λ first. accepts receipt.number first (replicate 4096 ((c.args.writer + c.loop-turn.turn + 1) % 256))) (sym c.in_ok-write.ensures.own.0)
                (subst (accepts receipt.number c.block.result) (c.in_ok-bytes.ensures ∙ ap (replicate 4096) c.byte_of_turn.ensures)
                (stays-told between new (Accepted receipt.number c.block.result c.in_ok-bytes.bytes) last
                (told-last old (Accepted receipt.number c.block.result c.in_ok-bytes.bytes) between told.1))));
          });
    }
