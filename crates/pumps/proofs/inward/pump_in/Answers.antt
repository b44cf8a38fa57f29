-- What the last round read is pushed, all of it or its front.
use Rattle.std.proofs.Common.{take, drop, append-nil, ◌∙◌}
use Rattle.std.proofs.lemmas.List.{take-append-drop, take_all}
use Rattle.pumps.proofs.Carrying.{carried_in}
use Rattle.pumps.proofs.inward.pump_in.Goals as goal

pub returns-then-push_all-bytes-clause-pushed : goal.returns-then-push_all-bytes-clause-pushed
returns-then-push_all-bytes-clause-pushed g c =
    let bytes = c.bytes-bytes.result.now in
    let n = c.push_all.result in (
      drop n bytes,
      carried_in _ _ _ _ _ _ c.read_once.new.buffer (take n bytes) (drop n bytes) c.loop.invariant c.in_default.ensures.read c.push_all.ensures.pushed
          (take-append-drop n bytes ∙ c.bytes-bytes.ensures.value) c.bytes-bytes.ensures.few,
    )

pub loop-preserved : goal.loop-preserved
loop-preserved g c =
    let bytes = c.bytes-bytes.result.now in
    let n = c.push_all.result in
    carried_in _ _ _ _ _ _ c.read_once.new.buffer (take n bytes) _ c.loop.invariant c.in_default.ensures.read c.push_all.ensures.pushed
    (append-nil (take n bytes) ∙ take_all n bytes c.if-push_all-bytes.false ∙ c.bytes-bytes.ensures.value) c.bytes-bytes.ensures.few
