use Rattle.std.proofs.Common.{ℕ, ◌≡◌, ◌≢◌, ◌<◌, ◌+◌, ◌/◌, ◌==◌, ◌∙◌, false, List, length, sym, ap, arith}
use Rattle.std.specs.Prelude.{slice_index}
use Rattle.std.specs.List.{list_any}
use Rattle.std.proofs.lemmas.Bool.Decides.{nat_tests}
use Rattle.std.proofs.lemmas.List.{get_or_read}
use Rattle.blocks.specs.Ranges.{below}
use Rattle.peerdisk.specs.Stamped.{bit_of}
use Rattle.peerdisk.proofs.Stamps.{any-current, none-older, range-inside}
use Rattle.peerdisk.proofs.last_epoch.LastEpoch.has_any.Goals as goal

pub index-requires : goal.index-requires
index-requires c =
    let range = c.args.range in
    let lies = range-inside c.self.invariant c.args.self.now c.self.view_is range.first.0 range.count c.requires range.some range.few range.one_extent in
    omega arith

pub has_bit-requires-clause-inside : goal.has_bit-requires-clause-inside
has_bit-requires-clause-inside c =
    let range = c.args.range in
    let lies = range-inside c.self.invariant c.args.self.now c.self.view_is range.first.0 range.count c.requires range.some range.few range.one_extent in
    omega arith

pub has_bit-requires-clause-small : goal.has_bit-requires-clause-small
has_bit-requires-clause-small c =
    let range = c.args.range in
    let lies = range-inside c.self.invariant c.args.self.now c.self.view_is range.first.0 range.count c.requires range.some range.few range.one_extent in
    omega arith

pub returns-then-index-self : goal.returns-then-index-self
returns-then-index-self c =
    let old = c.self.inside in
    let range = c.args.range in
    let lies = range-inside c.self.invariant c.args.self.now c.self.view_is range.first.0 range.count c.requires range.some range.few range.one_extent in
    let within : c.extent-extent.result.0 < length old.stamps.items = omega arith in
    let read = get_or_read old.stamps.items c.extent-extent.result.0 c.index.result.now within c.index.ensures 0 in
    let current : slice_index old.stamps.items (range.first.0 / 1024) ≡ old.epoch = sym (ap (slice_index old.stamps.items) c.extent-extent.ensures)
    ∙ sym read ∙ c.if-index-self.true in
    let words = ap (λ (words : List ℕ). list_any (λ offset. bit_of words (range.first.0 + offset)) (below range.count)) c.deref.ensures.value in
    rw (← c.self.view_is) (c.has_bit.ensures ∙ words
    ∙ sym (any-current lies old.epoch old.stamps.items old.words.items current))

pub returns-else-index-self : goal.returns-else-index-self
returns-else-index-self c =
    let old = c.self.inside in
    let range = c.args.range in
    let lies = range-inside c.self.invariant c.args.self.now c.self.view_is range.first.0 range.count c.requires range.some range.few range.one_extent in
    let within : c.extent-extent.result.0 < length old.stamps.items = omega arith in
    let read = get_or_read old.stamps.items c.extent-extent.result.0 c.index.result.now within c.index.ensures 0 in
    let older : slice_index old.stamps.items (range.first.0 / 1024) ≢ old.epoch = λ same. c.if-index-self.false (read
    ∙ ap (slice_index old.stamps.items) c.extent-extent.ensures ∙ same) in
    let other : (c.index.result.now == old.epoch) ≡ false = grind (arith, nat_tests, c.if-index-self.false) in
    rw (← c.self.view_is) (other ∙ sym (none-older lies old.epoch old.stamps.items old.words.items older))
