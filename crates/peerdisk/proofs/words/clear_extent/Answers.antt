use Rattle.std.proofs.Common.{◌≡◌, ◌+◌, ◌-◌, ◌*◌, ◌∙◌, drop, length, arith, length-drop}
use Rattle.std.proofs.lemmas.List.{length-take-le}
use Rattle.peerdisk.proofs.Bits.{cleared, zero-word}
use Rattle.peerdisk.proofs.words.clear_extent.Goals as goal

pub returns : goal.returns
returns c =
    let words = c.args.words.now in
    let from = c.args.extent * 16 in
    let many = from + 16 - from in
    let long : length c.fill.new.self ≡ many = c.fill.ensures.len ∙ length-take-le many (drop from words) (omega (arith, length-drop from words)) in
    cleared from many c.args.extent words c.fill.new.self (omega arith) (omega arith) (omega arith) long
    (λ word. rw (c.fill.ensures.after (λ y e. e)) (zero-word _ word))
