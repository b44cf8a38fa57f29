-- What was read is what the data ask.
use Rattle.std.proofs.Common.{◌≡◌, ◌+◌, ◌-◌, ℕ, Bool, List, Option, length, take, drop, refl, sym, ap, ◌∙◌, subst, arith}
use Rattle.std.specs.Borrow.{Bor}
use Rattle.std.specs.Prelude.{◌&&◌, ◌==◌}
use Rattle.std.proofs.lemmas.List.{take_rest}
use Rattle.nbd.specs.Contexts.{IsAsked, named_in, named_of}
use Rattle.nbd.specs.Options.{queried}
use Rattle.nbd.proofs.Querying.{asked_as, start_listed, start_set, with_name}
use Rattle.nbd.proofs.contexts.queried.Goals.{then-option-eq-OPT_LIST_META_CONTEXT, else-option-eq-OPT_LIST_META_CONTEXT}
use Rattle.nbd.proofs.contexts.queried.Goals as goal

pub returns-in_err-is_allocation : goal.returns-in_err-is_allocation
returns-in_err-is_allocation c =
    let long = c.u32_at-name_length.result in
    let name : List ℕ = take (4 + long - 4) (drop 4 c.args.bytes.now) in
    let start : c.if-option-eq-OPT_LIST_META_CONTEXT.start ≡ ((c.args.option == 9) && (c.u32_at-count.result == 0)) =
    elim c.if-option-eq-OPT_LIST_META_CONTEXT.branch [
      | then-option-eq-OPT_LIST_META_CONTEXT w ↦ start_listed _ _ _ w.if-option-eq-OPT_LIST_META_CONTEXT.true w.start-is
      | else-option-eq-OPT_LIST_META_CONTEXT w ↦ start_set _ _ _ w.if-option-eq-OPT_LIST_META_CONTEXT.false w.start-is
    ] in
    let asked = asked_as c.args.option long c.u32_at-count.result c.args.bytes.now name (take (length c.args.bytes.now - (8 + long)) (drop (8 + long) c.args.bytes.now))
    c.if-option-eq-OPT_LIST_META_CONTEXT.start c.u32_at-name_length.ensures c.u32_at-count.ensures (omega (arith, c.if-bytes-lt8.false))
    (omega (arith, c.if-bytes-name_length.false)) refl (take_rest c.args.bytes.now (8 + long)) start in
    subst (λ (r : Option (Bor (List ℕ) × Bool)). IsAsked r (named_of c.args.option (queried c.args.bytes.now))) (sym c.from_residual.ensures)
    (asked ∙ ap (with_name name) (sym c.named_in.ensures ∙ c.in_err-is_allocation.was))

pub returns : goal.returns
returns c =
    let long = c.u32_at-name_length.result in
    let name : List ℕ = take (4 + long - 4) (drop 4 c.args.bytes.now) in
    let start : c.if-option-eq-OPT_LIST_META_CONTEXT.start ≡ ((c.args.option == 9) && (c.u32_at-count.result == 0)) =
    elim c.if-option-eq-OPT_LIST_META_CONTEXT.branch [
      | then-option-eq-OPT_LIST_META_CONTEXT w ↦ start_listed _ _ _ w.if-option-eq-OPT_LIST_META_CONTEXT.true w.start-is
      | else-option-eq-OPT_LIST_META_CONTEXT w ↦ start_set _ _ _ w.if-option-eq-OPT_LIST_META_CONTEXT.false w.start-is
    ] in
    let asked = asked_as c.args.option long c.u32_at-count.result c.args.bytes.now name (take (length c.args.bytes.now - (8 + long)) (drop (8 + long) c.args.bytes.now))
    c.if-option-eq-OPT_LIST_META_CONTEXT.start c.u32_at-name_length.ensures c.u32_at-count.ensures (omega (arith, c.if-bytes-lt8.false))
    (omega (arith, c.if-bytes-name_length.false)) refl (take_rest c.args.bytes.now (8 + long)) start in
    asked ∙ ap (with_name name) (sym c.named_in.ensures ∙ c.in_ok-is_allocation.was)
