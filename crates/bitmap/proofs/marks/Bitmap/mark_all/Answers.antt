use Rattle.std.proofs.Common.{ℕ, ◌≡◌, ◌∙◌, true, length, sym, ap}
use Rattle.std.specs.Prelude.{replicate}
use Rattle.std.proofs.lemmas.List.{with_items_is}
use Rattle.bitmap.proofs.AllMarked.{full-counted, full-marks}
use Rattle.bitmap.proofs.Bits.{length-bits}
use Rattle.bitmap.proofs.marks.Bitmap.mark_all.Goals as goal

pub invariant_of-self : goal.invariant_of-self
invariant_of-self c =
    let old = c.self.inside in
    let long_words : length c.fill_words.new.words ≡ length old.words.items = c.fill_words.auto.words ∙ ap length c.deref_mut.ensures.value in
    let long_counts : length c.fill_counts.new.counts ≡ length old.counts.items = c.fill_counts.auto.counts ∙ ap length c.deref_mut-2.ensures.value in
    let words = with_items_is old.words c.fill_words.new.words (long_words ∙ sym old.words.ok.0) in
    let counts = with_items_is old.counts c.fill_counts.new.counts (long_counts ∙ sym old.counts.ok.0) in
    rw (words, counts) (full-counted old.blocks c.fill_words.new.words c.fill_counts.new.counts old.words.items old.counts.items old.total old.cursor
    c.self.invariant long_words long_counts c.fill_words.ensures c.fill_counts.ensures)

pub returns : goal.returns
returns c =
    let old = c.self.inside in
    let long_words : length c.fill_words.new.words ≡ length old.words.items = c.fill_words.auto.words ∙ ap length c.deref_mut.ensures.value in
    let words = with_items_is old.words c.fill_words.new.words (long_words ∙ sym old.words.ok.0) in
    let long : old.blocks ≡ length c.args.self.now = rw (← c.self.view_is) (sym (length-bits 0 old.blocks old.words.items)) in
    rw words (full-marks old.blocks c.fill_words.new.words c.fill_words.ensures ∙ ap (λ (n : ℕ). replicate n true) long)
