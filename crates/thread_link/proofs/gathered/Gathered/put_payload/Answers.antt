-- What the payload lacks fits the buffer, and does not change the frame's length.
use Rattle.std.proofs.Common.{◌≡◌, ◌≤◌, take, length, true, ap, sym, ◌∙◌, arith}
use Rattle.std.proofs.lemmas.List.{length-append, length-take}
use Rattle.packets.specs.Reading.{header_at}
use Rattle.packets.specs.Cutting.{cut_after}
use Rattle.thread_link.specs.Inward.{GatheredState}
use Rattle.thread_link.specs.Carried.{whole_length}
use Rattle.thread_link.proofs.Carrying.{whole_front, whole_long}
use Rattle.thread_link.proofs.Gathering.{gathered_more}
use Rattle.thread_link.proofs.gathered.Gathered.put_payload.Goals as goal

pub extend_reserved-requires : goal.extend_reserved-requires
extend_reserved-requires c =
    let e = c.self.inside in
    let is_ready : e.is_ready ≡ true = ap (λ (s : GatheredState). s.is_ready) c.self.view_is ∙ c.requires.ready in
    omega (
      arith,
      length-take c.min-taken.result c.args.bytes.now,
      c.min-taken.ensures,
      c.len.ensures.value,
      c.self.invariant.0.room is_ready,
      c.self.invariant.0.most,
    )

pub invariant_of-self : goal.invariant_of-self
invariant_of-self c =
    let e = c.self.inside in
    let added = take c.min-taken.result c.args.bytes.now in
    let is_ready : e.is_ready ≡ true = ap (λ (s : GatheredState). s.is_ready) c.self.view_is ∙ c.requires.ready in
    let long : 8 ≤ length e.buffer.items = omega (arith, ap (λ (s : GatheredState). length s.bytes) c.self.view_is, c.requires.headed) in
    let came = c.extend_reserved.ensures.items in
    let items = c.extend_reserved.new.self.items in
    let same : whole_length items ≡ whole_length e.buffer.items = ap whole_length came ∙ whole_front e.buffer.items added long in (
      gathered_more e.buffer.items items added e.buffer.spare c.extend_reserved.new.self.spare e.is_ready e.whole e.whole is_ready c.self.invariant.0 came
          c.extend_reserved.ensures.spare
          (c.self.invariant.0.noted ∙ sym same)
          (omega (
            arith,
            ap length came,
            length-append e.buffer.items added,
            length-take c.min-taken.result c.args.bytes.now,
            c.min-taken.ensures,
            c.len.ensures.value,
            c.self.invariant.0.within,
          ))
          c.self.invariant.0.most,
      c.self.invariant.1,
    )

pub returns-clause-all : goal.returns-clause-all
returns-clause-all c part =
    let e = c.self.inside in
    let added = take c.min-taken.result c.args.bytes.now in
    let long : 8 ≤ length e.buffer.items = omega (arith, ap (λ (s : GatheredState). length s.bytes) c.self.view_is, c.requires.headed) in
    let came = c.extend_reserved.ensures.items in
    let items = c.extend_reserved.new.self.items in
    let longer : 8 ≤ length items = omega (arith, long, ap length came, length-append e.buffer.items added) in
    let whole : e.whole ≡ cut_after (header_at items) = c.self.invariant.0.noted ∙ sym (ap whole_length came ∙ whole_front e.buffer.items added long)
    ∙ whole_long items longer in
    let less = part longer in
    omega (
      arith,
      whole,
      less,
      ap length came,
      length-append e.buffer.items added,
      length-take c.min-taken.result c.args.bytes.now,
      c.min-taken.ensures,
      c.len.ensures.value,
    )
