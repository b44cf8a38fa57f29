use Rattle.std.proofs.Common.{ℕ, ◌≡◌, ◌<◌, ◌/◌, ◌==◌, ◌&&◌, ◌∙◌, not, List, length, sym, ap, arith, vec_len}
use Rattle.std.specs.Prelude.{slice_index}
use Rattle.std.specs.Vec.{with_items}
use Rattle.std.proofs.lemmas.List.{get_or_read, with_items_is}
use Rattle.peerdisk.specs.Stamped.{bit_of}
use Rattle.peerdisk.proofs.Bits.{AreCleared, AreSet}
use Rattle.peerdisk.proofs.Stamps.{added-current, added-older, range-inside}
use Rattle.peerdisk.proofs.last_epoch.LastEpoch.add.Goals as goal
use Rattle.peerdisk.proofs.last_epoch.LastEpoch.add.Goals.{then-index-self, else-index-self}

pub index-requires : goal.index-requires
index-requires c =
    let range = c.args.range in
    let lies = range-inside c.self.invariant c.args.self.now c.self.view_is range.first.0 range.count c.requires range.some range.few range.one_extent in
    omega arith

pub clear_extent-requires : goal.clear_extent-requires
clear_extent-requires c =
    let range = c.args.range in
    let lies = range-inside c.self.invariant c.args.self.now c.self.view_is range.first.0 range.count c.requires range.some range.few range.one_extent in
    omega (arith, ap length c.deref_mut.ensures.value)

pub index_mut-requires : goal.index_mut-requires
index_mut-requires c =
    let range = c.args.range in
    let lies = range-inside c.self.invariant c.args.self.now c.self.view_is range.first.0 range.count c.requires range.some range.few range.one_extent in
    omega (arith, c.self.inside.stamps.ok.0)

pub set_bits-requires-clause-inside : goal.set_bits-requires-clause-inside
set_bits-requires-clause-inside c =
    let old = c.self.inside in
    let range = c.args.range in
    let lies = range-inside c.self.invariant c.args.self.now c.self.view_is range.first.0 range.count c.requires range.some range.few range.one_extent in
    elim c.if-index-self.branch [
      | then-index-self w ↦ let long = rw w.self-inside-is at c.deref_mut-2.ensures.len in omega (arith, old.words.ok.0)
      | else-index-self w ↦ let long = rw w.self-inside-is at c.deref_mut-2.ensures.len in omega (arith, old.words.ok.0)
    ]

pub set_bits-requires-clause-small : goal.set_bits-requires-clause-small
set_bits-requires-clause-small c =
    let range = c.args.range in
    let lies = range-inside c.self.invariant c.args.self.now c.self.view_is range.first.0 range.count c.requires range.some range.few range.one_extent in
    omega arith

pub returns : goal.returns
returns c =
    let old = c.self.inside in
    let range = c.args.range in
    let lies = range-inside c.self.invariant c.args.self.now c.self.view_is range.first.0 range.count c.requires range.some range.few range.one_extent in
    let extent = c.extent-extent.result.0 in
    let within : extent < length old.stamps.items = omega arith in
    let read = get_or_read old.stamps.items extent c.index.result.now within c.index.ensures 0 in
    elim c.if-index-self.branch [
      | then-index-self w ↦
          let cleared : AreCleared extent old.words.items w.clear_extent.new.words = λ block. w.clear_extent.ensures block
          ∙ ap (λ (words : List ℕ). not (block / 1024 == extent) && bit_of words block) w.deref_mut.ensures.value in
          let long : length w.clear_extent.new.words ≡ vec_len old.words = w.clear_extent.auto.words ∙ w.deref_mut.ensures.len in
          let before : c.deref_mut-2.result.now ≡ w.clear_extent.new.words = rw w.self-inside-is at c.deref_mut-2.ensures.value
          ∙ with_items_is old.words w.clear_extent.new.words long in
          let set : AreSet range.first.0 range.count w.clear_extent.new.words c.set_bits.new.words = rw (← before) c.set_bits.ensures in
          let long_set : length c.set_bits.new.words ≡ vec_len old.words = c.set_bits.auto.words ∙ ap length before ∙ long in
          let words = with_items_is (with_items old.words w.clear_extent.new.words) c.set_bits.new.words long_set in
          rw w.self-inside-is (rw (words, ← c.self.view_is) (added-older lies old.epoch extent old.stamps.items old.words.items
          w.clear_extent.new.words c.set_bits.new.words c.extent-extent.ensures within
          (λ same. w.if-index-self.true (read ∙ same)) cleared set))
      | else-index-self w ↦
          let before : c.deref_mut-2.result.now ≡ old.words.items = rw w.self-inside-is at c.deref_mut-2.ensures.value in
          let set : AreSet range.first.0 range.count old.words.items c.set_bits.new.words = rw (← before) c.set_bits.ensures in
          let long_set : length c.set_bits.new.words ≡ vec_len old.words = c.set_bits.auto.words ∙ ap length before ∙ sym old.words.ok.0 in
          let words = with_items_is old.words c.set_bits.new.words long_set in
          let current : slice_index old.stamps.items (range.first.0 / 1024) ≡ old.epoch = sym (ap (slice_index old.stamps.items) c.extent-extent.ensures)
          ∙ sym read ∙ w.if-index-self.false in
          rw w.self-inside-is (rw (words, ← c.self.view_is) (added-current lies old.epoch old.stamps.items old.words.items c.set_bits.new.words current set))
    ]
