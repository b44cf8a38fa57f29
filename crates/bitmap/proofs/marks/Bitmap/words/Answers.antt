use Rattle.std.proofs.Common.{ℕ, ◌≡◌, ◌<◌, ◌≤◌, ◌⊎◌, inl, inr, sym, ◌∙◌, List, arith}
use Rattle.std.proofs.lemmas.Bool.{cases_lt}
use Rattle.bitmap.proofs.Bits.{length-bits, marked-bits}
use Rattle.bitmap.proofs.Lists.{marked-past}
use Rattle.bitmap.specs.Marks.{IsWords, bit_of, marked}
use Rattle.bitmap.specs.Fields.{marks_of, AreCounted}
use Rattle.bitmap.proofs.marks.Bitmap.words.Goals as goal

are_words : (n : ℕ) (words counts : List ℕ) (total cursor : ℕ) → AreCounted n words counts total cursor → IsWords words (marks_of n words)
are_words n words counts total cursor is = record {
  enough = omega (arith, is.enough_words, length-bits 0 n words);
  bits = λ b h. go b (cases_lt b n);
}
  where
    go : (b : ℕ) → (b < n) ⊎ (n ≤ b) → bit_of words b ≡ marked (marks_of n words) b
    go b (inl within) = sym (marked-bits n words b within)
    go b (inr past) = is.rest b past ∙ sym (marked-past (marks_of n words) b (omega (arith, length-bits 0 n words)))

pub returns : goal.returns
returns c = rw (← c.self.view_is, c.deref.ensures.value)
    (are_words c.self.inside.blocks c.self.inside.words.items c.self.inside.counts.items c.self.inside.total c.self.inside.cursor c.self.invariant)
