-- The bytes are a whole frame where there are as many as it has.
use Rattle.std.proofs.Common.{length, sym, ap, ◌∙◌, subst, arith, refl}
use Rattle.std.proofs.lemmas.Bool.{leb-true}
use Rattle.packets.specs.Cutting.{IsCut}
use Rattle.thread_link.specs.Carried.{BeginsNoCut}
use Rattle.thread_link.specs.Inward.{GatheredState}
use Rattle.thread_link.proofs.Gathering.{gathered_none, gathered_cleared, gathered_cut, gathered_part}
use Rattle.thread_link.proofs.gathered.Gathered.cut.Goals as goal

pub returns-then-len-self : goal.returns-then-len-self
returns-then-len-self g c =
    let e = c.self.inside in (
      refl,
      subst (λ (s : GatheredState). BeginsNoCut s.bytes) c.self.view_is
          (gathered_part e.buffer.items e.buffer.spare e.is_ready e.whole c.self.invariant.0 (omega (arith, c.len.ensures.value, c.if-len-self.true))),
    )

pub invariant_of-self : goal.invariant_of-self
invariant_of-self g c =
    let e = c.self.inside in (
      gathered_cleared e.buffer.items c.clear.new.self.items e.buffer.spare c.clear.new.self.spare e.is_ready e.whole c.self.invariant.0 c.clear.ensures.items
          c.clear.ensures.spare,
      c.self.invariant.1,
    )

pub returns-then-len-le-FIXED_BYTES : goal.returns-then-len-le-FIXED_BYTES
returns-then-len-le-FIXED_BYTES g c =
    let e = c.self.inside in
    let frame = c.inline-frame.ensures ∙ c.as_slice.ensures in
    let cut = gathered_cut e.buffer.items e.buffer.spare e.is_ready e.whole c.self.invariant.0 (omega (arith, c.len.ensures.value, c.if-len-self.false)) in (
      subst IsCut (sym frame) cut,
      frame ∙ ap (λ (s : GatheredState). s.bytes) c.self.view_is,
      c.clear.ensures.items,
      λ _. ap (λ (s : GatheredState). s.is_ready) c.self.view_is,
    )

pub invariant_of-self-2 : goal.invariant_of-self-2
invariant_of-self-2 g c =
    let e = c.self.inside in (
      gathered_none c.frozen-bytes.new.chunk.items c.frozen-bytes.new.chunk.spare _ c.frozen-bytes.ensures.rest
          (λ room. omega (arith, ap length c.frozen-bytes.ensures.rest, c.capacity.ensures, leb-true _ _ room)),
      c.self.invariant.1,
    )

pub returns : goal.returns
returns g c =
    let e = c.self.inside in
    let frame = c.new.ensures ∙ c.frozen-bytes.ensures.bytes in
    let cut = gathered_cut e.buffer.items e.buffer.spare e.is_ready e.whole c.self.invariant.0 (omega (arith, c.len.ensures.value, c.if-len-self.false)) in (
      subst IsCut (sym frame) cut,
      frame ∙ ap (λ (s : GatheredState). s.bytes) c.self.view_is,
      c.frozen-bytes.ensures.rest,
      λ short. absurd (omega (arith, ap length frame, short, c.len-2.ensures.value, c.if-len-le-FIXED_BYTES.false)),
    )
