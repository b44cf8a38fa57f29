-- Each piece brings a byte at least, and no frame lacks more than the longest one has.
use Rattle.std.proofs.Common.{◌≡◌, ◌<◌, ◌-◌, length, Option, None, subst, arith}
use Rattle.std.specs.Prelude.{IfNone}
use Rattle.thread_link.specs.Inward.{in_hand}
use Rattle.thread_link.proofs.Carrying.{part_most}
use Rattle.thread_link.proofs.inward.RuledInFrameIn.take.Goals as goal

-- what is said of no frame holds where there was none
from_none : {X : Type 0} (found : Option X) (P : Type 0) → found ≡ None → IfNone found P → P
from_none {X = X} found P none holds = subst (λ (o : Option X). IfNone o P) none holds

pub loop-frame-smaller : goal.loop-frame-smaller
loop-frame-smaller g c =
    let old = c.loop-frame.self in
    let new = c.next_piece.new.self in
    let few = part_most (in_hand old) c.loop-frame.invariant.part in
    let more = from_none c.in_ok-frame.field-0 (length (in_hand old) < length (in_hand new)) c.in_default-2.is c.in_ok-frame.ensures.more in
    let less : 132504 - length (in_hand new) < 132504 - length (in_hand old) = omega (arith, few, more) in
    less
