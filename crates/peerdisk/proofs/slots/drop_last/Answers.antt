use Rattle.std.proofs.Common.{◌≡◌, ◌++◌, ◌∷◌, [], Some, arith, deque_len}
use Rattle.peerdisk.proofs.Filled.{filled-last, held-last, held-take}
use Rattle.peerdisk.proofs.slots.drop_last.Goals as goal

pub returns-in-Some-Some-clause-last : goal.returns-in-Some-Some-clause-last
returns-in-Some-Some-clause-last g c =
    let e = c.in-Some-Some.entry in
    let slots = c.pop_back.new.self.items in
    let popped : c.pop_back.result ≡ Some (Some e) = cc in
    let was : c.args.slots.now.items ≡ slots ++ Some e ∷ [] = rw popped at c.pop_back.ensures.items in
    filled-last c.args.items.now c.remove.new.self c.args.slots.now.items slots e (deque_len c.pop_back.new.self) was (omega (arith, c.pop_back.new.self.ok))
    c.requires.held c.remove.ensures.updates

pub returns-in-Some-Some-clause-held : goal.returns-in-Some-Some-clause-held
returns-in-Some-Some-clause-held g c =
    let e = c.in-Some-Some.entry in
    let slots = c.pop_back.new.self.items in
    let popped : c.pop_back.result ≡ Some (Some e) = cc in
    let was : c.args.slots.now.items ≡ slots ++ Some e ∷ [] = rw popped at c.pop_back.ensures.items in
    held-last c.args.items.now c.remove.new.self slots e (rw was at c.requires.held) c.remove.ensures.updates

pub returns-in_default-clause-held : goal.returns-in_default-clause-held
returns-in_default-clause-held g c = rw c.pop_back.ensures.rest (held-take c.args.items.now _ c.args.slots.now.items c.requires.held)
