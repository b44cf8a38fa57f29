use Rattle.std.proofs.Common.{◌∙◌, None, sym}
use Rattle.std.proofs.lemmas.List.{get_or_read}
use Rattle.peerdisk.proofs.Filled.{filled-taken, held-taken, some-inside}
use Rattle.peerdisk.proofs.slots.take_item.Goals as goal

pub returns-clause-left : goal.returns-clause-left
returns-clause-left g c =
    let slots = c.args.slots.now.items in
    let i = c.args.index in
    let e = c.in-Some.field-0 in
    let is = sym (get_or_read slots i c.index_mut.result.now (some-inside slots i c.requires.taken) c.index_mut.ensures.value None)
    ∙ (sym c.take.ensures.value ∙ c.in-Some.is) in
    rw c.take.ensures.after (filled-taken c.args.items.now c.remove.new.self slots i e c.requires.held is c.remove.ensures.updates)

pub returns-clause-held : goal.returns-clause-held
returns-clause-held g c =
    let slots = c.args.slots.now.items in
    let i = c.args.index in
    let e = c.in-Some.field-0 in
    let is = sym (get_or_read slots i c.index_mut.result.now (some-inside slots i c.requires.taken) c.index_mut.ensures.value None)
    ∙ (sym c.take.ensures.value ∙ c.in-Some.is) in
    rw c.take.ensures.after (held-taken c.args.items.now c.remove.new.self slots i e c.requires.held is c.remove.ensures.updates)
