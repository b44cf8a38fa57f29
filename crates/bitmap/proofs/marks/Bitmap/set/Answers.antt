use Rattle.std.proofs.Common.{◌≡◌, ◌<◌, ◌/◌, ◌+◌, ◌-◌, ◌∙◌, Bool, true, false, not, length, sym, ap, arith, refl}
use Rattle.std.proofs.lemmas.List.{get_or_read}
use mathlib.Core.Bool.{beq}
use Rattle.bitmap.specs.Marks.{marked}
use Rattle.bitmap.specs.Fields.{marks_of}
use Rattle.bitmap.proofs.Lists.{set_same, count-le, count_in-le, count-set, count_in-set}
use Rattle.bitmap.proofs.Bits.{length-bits, marks-turned}
use Rattle.bitmap.proofs.Counted.{not-passed, turned-counted}
use Rattle.bitmap.proofs.marks.Bitmap.set.Goals as goal

beq_same : (a b : Bool) → beq a b ≡ true → a ≡ b
beq_same true true is = refl
beq_same true false is = absurd (cc)
beq_same false true is = absurd (cc)
beq_same false false is = refl

beq_other : (a b : Bool) → beq a b ≡ false → a ≡ not b
beq_other true true is = absurd (cc)
beq_other true false is = refl
beq_other false true is = refl
beq_other false false is = absurd (cc)

pub returns-then-is_marked-mark : goal.returns-then-is_marked-mark
returns-then-is_marked-mark c =
    let same : c.args.mark ≡ marked c.args.self.now c.args.block = sym (beq_same c.is_marked.result c.args.mark c.if-is_marked-mark.true)
    ∙ c.is_marked.ensures in
    rw same (sym (set_same c.args.self.now c.args.block))

pub index_mut-requires : goal.index_mut-requires
index_mut-requires c =
    let long = length-bits 0 c.self.inside.blocks c.self.inside.words.items in
    let in_device : c.args.block < length (marks_of c.self.inside.blocks c.self.inside.words.items) = rw c.self.view_is c.requires in
    omega (arith, c.self.invariant.enough_words)

pub index_mut-requires-then-mark : goal.index_mut-requires-then-mark
index_mut-requires-then-mark c =
    let long = length-bits 0 c.self.inside.blocks c.self.inside.words.items in
    let in_device : c.args.block < length (marks_of c.self.inside.blocks c.self.inside.words.items) = rw c.self.view_is c.requires in
    omega (arith, c.self.invariant.enough_counts)

pub index_mut-requires-else-mark : goal.index_mut-requires-else-mark
index_mut-requires-else-mark c =
    let long = length-bits 0 c.self.inside.blocks c.self.inside.words.items in
    let in_device : c.args.block < length (marks_of c.self.inside.blocks c.self.inside.words.items) = rw c.self.view_is c.requires in
    omega (arith, c.self.invariant.enough_counts)

pub overflow_add-index_mut : goal.overflow_add-index_mut
overflow_add-index_mut c =
    let long = length-bits 0 c.self.inside.blocks c.self.inside.words.items in
    let in_device : c.args.block < length (marks_of c.self.inside.blocks c.self.inside.words.items) = rw c.self.view_is c.requires in
    let read = get_or_read c.self.inside.counts.items _ _ (omega (arith, c.self.invariant.enough_counts)) c.index_mut-then-mark.ensures.value 0 in
    omega (arith, c.self.invariant.counted (c.args.block / 1024), count_in-le (marks_of c.self.inside.blocks c.self.inside.words.items) (c.args.block / 1024))

pub overflow_add-self : goal.overflow_add-self
overflow_add-self c =
    let long = length-bits 0 c.self.inside.blocks c.self.inside.words.items in
    omega (arith, c.self.invariant.small, c.self.invariant.totalled, count-le (marks_of c.self.inside.blocks c.self.inside.words.items))

pub overflow_sub-index_mut : goal.overflow_sub-index_mut
overflow_sub-index_mut c =
    let marks = marks_of c.self.inside.blocks c.self.inside.words.items in
    let long = length-bits 0 c.self.inside.blocks c.self.inside.words.items in
    let in_device : c.args.block < length (marks_of c.self.inside.blocks c.self.inside.words.items) = rw c.self.view_is c.requires in
    let read = get_or_read c.self.inside.counts.items _ _ (omega (arith, c.self.invariant.enough_counts)) c.index_mut-else-mark.ensures.value 0 in
    let off = c.if-mark.false in
    let was : marked (marks_of c.self.inside.blocks c.self.inside.words.items) c.args.block ≡ not false = rw c.self.view_is (sym c.is_marked.ensures
    ∙ beq_other c.is_marked.result c.args.mark c.if-is_marked-mark.false ∙ ap not off) in
    omega (
      arith,
      c.self.invariant.counted (c.args.block / 1024),
      count_in-set (marks_of c.self.inside.blocks c.self.inside.words.items) c.args.block false in_device was,
    )

pub overflow_sub-self : goal.overflow_sub-self
overflow_sub-self c =
    let in_device : c.args.block < length (marks_of c.self.inside.blocks c.self.inside.words.items) = rw c.self.view_is c.requires in
    let off = c.if-mark.false in
    let was : marked (marks_of c.self.inside.blocks c.self.inside.words.items) c.args.block ≡ not false = rw c.self.view_is (sym c.is_marked.ensures
    ∙ beq_other c.is_marked.result c.args.mark c.if-is_marked-mark.false ∙ ap not off) in
    omega (arith, c.self.invariant.totalled, count-set (marks_of c.self.inside.blocks c.self.inside.words.items) c.args.block false in_device was)

pub invariant_of-self : goal.invariant_of-self
invariant_of-self c =
    let long = length-bits 0 c.self.inside.blocks c.self.inside.words.items in
    let in_device : c.args.block < length (marks_of c.self.inside.blocks c.self.inside.words.items) = rw c.self.view_is c.requires in
    let word = get_or_read c.self.inside.words.items _ _ (omega (arith, c.self.invariant.enough_words)) c.index_mut.ensures.value 0 in
    let read = get_or_read c.self.inside.counts.items _ _ (omega (arith, c.self.invariant.enough_counts)) c.index_mut-then-mark.ensures.value 0 in
    let on = c.if-mark.true in
    let was : marked (marks_of c.self.inside.blocks c.self.inside.words.items) c.args.block ≡ not true = rw c.self.view_is (sym c.is_marked.ensures
    ∙ beq_other c.is_marked.result c.args.mark c.if-is_marked-mark.false ∙ ap not on) in
    rw word (turned-counted c.self.inside.blocks c.self.inside.words.items c.self.inside.counts.items c.self.inside.total c.self.inside.cursor c.args.block true
    (c.index_mut-then-mark.result.now + 1) (c.self.inside.total + 1) c.min-self-inside.result c.self.invariant (omega arith) was (omega arith) (omega arith) (omega (arith, c.min-self-inside.ensures)) (omega (arith, c.min-self-inside.ensures)))

pub invariant_of-self-else-mark : goal.invariant_of-self-else-mark
invariant_of-self-else-mark c =
    let long = length-bits 0 c.self.inside.blocks c.self.inside.words.items in
    let in_device : c.args.block < length (marks_of c.self.inside.blocks c.self.inside.words.items) = rw c.self.view_is c.requires in
    let word = get_or_read c.self.inside.words.items _ _ (omega (arith, c.self.invariant.enough_words)) c.index_mut.ensures.value 0 in
    let read = get_or_read c.self.inside.counts.items _ _ (omega (arith, c.self.invariant.enough_counts)) c.index_mut-else-mark.ensures.value 0 in
    let off = c.if-mark.false in
    let was : marked (marks_of c.self.inside.blocks c.self.inside.words.items) c.args.block ≡ not false = rw c.self.view_is (sym c.is_marked.ensures
    ∙ beq_other c.is_marked.result c.args.mark c.if-is_marked-mark.false ∙ ap not off) in
    let some_here = count_in-set (marks_of c.self.inside.blocks c.self.inside.words.items) c.args.block false in_device was in
    let some = count-set (marks_of c.self.inside.blocks c.self.inside.words.items) c.args.block false in_device was in
    rw word (turned-counted c.self.inside.blocks c.self.inside.words.items c.self.inside.counts.items c.self.inside.total c.self.inside.cursor c.args.block false
    (c.index_mut-else-mark.result.now - 1) (c.self.inside.total - 1) c.self.inside.cursor c.self.invariant (omega arith) was
    (omega (arith, c.self.invariant.counted (c.args.block / 1024))) (omega (arith, c.self.invariant.totalled)) (omega arith)
    (not-passed c.self.inside.blocks c.self.inside.words.items c.self.inside.counts.items c.self.inside.total c.self.inside.cursor c.args.block
    c.self.invariant (omega arith) was))

pub returns-then-mark : goal.returns-then-mark
returns-then-mark c =
    let long = length-bits 0 c.self.inside.blocks c.self.inside.words.items in
    let in_device : c.args.block < length (marks_of c.self.inside.blocks c.self.inside.words.items) = rw c.self.view_is c.requires in
    let word = get_or_read c.self.inside.words.items _ _ (omega (arith, c.self.invariant.enough_words)) c.index_mut.ensures.value 0 in
    let on = c.if-mark.true in
    let was : marked (marks_of c.self.inside.blocks c.self.inside.words.items) c.args.block ≡ not c.args.mark = rw c.self.view_is (sym c.is_marked.ensures
    ∙ beq_other c.is_marked.result c.args.mark c.if-is_marked-mark.false) in
    rw (word, ← c.self.view_is) (marks-turned c.self.inside.blocks c.self.inside.words.items c.args.block c.args.mark (omega arith)
    (omega (arith, c.self.invariant.enough_words)) was)

pub returns-else-mark : goal.returns-else-mark
returns-else-mark c =
    let long = length-bits 0 c.self.inside.blocks c.self.inside.words.items in
    let in_device : c.args.block < length (marks_of c.self.inside.blocks c.self.inside.words.items) = rw c.self.view_is c.requires in
    let word = get_or_read c.self.inside.words.items _ _ (omega (arith, c.self.invariant.enough_words)) c.index_mut.ensures.value 0 in
    let was : marked (marks_of c.self.inside.blocks c.self.inside.words.items) c.args.block ≡ not c.args.mark = rw c.self.view_is (sym c.is_marked.ensures
    ∙ beq_other c.is_marked.result c.args.mark c.if-is_marked-mark.false) in
    rw (word, ← c.self.view_is) (marks-turned c.self.inside.blocks c.self.inside.words.items c.args.block c.args.mark (omega arith)
    (omega (arith, c.self.invariant.enough_words)) was)
