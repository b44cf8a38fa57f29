-- What the last round popped is written, all of it or its front.
use Rattle.std.proofs.Common.{take, drop, append-nil, ◌∙◌}
use Rattle.std.proofs.lemmas.List.{take-append-drop, take_all}
use Rattle.pumps.proofs.Carrying.{carried_out}
use Rattle.pumps.proofs.outward.pump_out.Goals as goal

pub returns-then-write_all-bytes-clause-written : goal.returns-then-write_all-bytes-clause-written
returns-then-write_all-bytes-clause-written g c =
    let bytes = c.bytes-bytes.result.now in
    let n = c.write_all.result in (
      drop n bytes,
      carried_out _ _ _ _ _ _ c.gather.new.buffer (take n bytes) (drop n bytes) c.loop.invariant c.gather.ensures.popped c.write_all.ensures.written
          (take-append-drop n bytes ∙ c.bytes-bytes.ensures.value)
          c.bytes-bytes.ensures.few,
    )

pub loop-preserved : goal.loop-preserved
loop-preserved g c =
    let bytes = c.bytes-bytes.result.now in
    let n = c.write_all.result in
    carried_out _ _ _ _ _ _ c.gather.new.buffer (take n bytes) _ c.loop.invariant c.gather.ensures.popped c.write_all.ensures.written
    (append-nil (take n bytes) ∙ take_all n bytes c.if-write_all-bytes.false ∙ c.bytes-bytes.ensures.value) c.bytes-bytes.ensures.few
