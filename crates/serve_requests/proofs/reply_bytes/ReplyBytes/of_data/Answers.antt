use Rattle.std.proofs.Common.{◌≡◌, ℕ, List, length, replicate, rules, sym, ◌∙◌, subst}
use Rattle.serve_requests.proofs.Spelled.{data-told, known-structured, zeros-told}
use Rattle.serve_requests.proofs.reply_bytes.ReplyBytes.of_data.Goals as goal

pub returns-then-are_zeros-clause-told : goal.returns-then-are_zeros-clause-told
returns-then-are_zeros-clause-told c = zeros-told c.args.request.now _ _ _ c.args.found.items c.of_chunk.result c.of_chunk.ensures.chunk
    (search (rules, known-structured)) (search rules) (search rules) (search rules)
    (subst (λ (l : List ℕ). l ≡ replicate (length l) 0) c.as_slice.ensures.value (c.are_zeros.ensures.0 c.if-are_zeros.true))
    (sym c.args.found.ok.0 ∙ c.requires.whole)

pub returns-clause-told : goal.returns-clause-told
returns-clause-told c = data-told c.args.request.now _ _ c.args.found c.of_chunk-2.result c.of_chunk-2.ensures.chunk
    (search (rules, known-structured)) (search rules) (search rules)
