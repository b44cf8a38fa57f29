use Rattle.std.proofs.Common.{ℕ, ◌≡◌, ◌+◌, ◌*◌, ◌-◌, List, [], ◌∷◌, ◌++◌, length, take, sym, ◌∙◌, ap, arith, get_or}
use Rattle.std.specs.Int.{w64, to_be_bytes}
use Rattle.std.proofs.lemmas.List.{take_more}
use Rattle.std.proofs.lemmas.Slice.{take-put_mid}
use Rattle.metadata.specs.Words.{bytes_of}
use Rattle.metadata.proofs.WordLemmas.{bytes_of-append}
use Rattle.metadata.proofs.codec.put_words.Goals as goal

pub loop-index-preserved : goal.loop-index-preserved
loop-index-preserved c =
    let i : ℕ = c.loop-index.index in
    let words : List ℕ = c.args.words.now in
    let part : c.copy_from_slice.new.self ≡ to_be_bytes w64 (get_or words i 0) = c.copy_from_slice.ensures.after ∙ c.to_be_bytes.ensures in
    let eight = ap length part in
    take-put_mid (8 * i) (8 * i + 8 - 8 * i) c.loop-index.buffer c.copy_from_slice.new.self (8 * (i + 1)) (omega (arith, eight)) (omega arith)
    ∙ ap (λ (l : List ℕ). l ++ c.copy_from_slice.new.self) c.loop-index.invariant
    ∙ ap (λ (l : List ℕ). bytes_of (take i words) ++ l) part
    ∙ sym (ap bytes_of (take_more words i 0 (omega arith)) ∙ bytes_of-append (take i words) (get_or words i 0 ∷ []))
