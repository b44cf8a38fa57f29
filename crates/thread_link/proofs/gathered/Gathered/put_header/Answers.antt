-- With the last byte of the header the frame's length is known.
use Rattle.std.proofs.Common.{◌≡◌, ◌<◌, ℕ, List, take, length, true, ap, sym, ◌∙◌, arith}
use Rattle.std.proofs.lemmas.List.{length-append, length-take}
use Rattle.packets.specs.Reading.{header_at}
use Rattle.packets.specs.Cutting.{cut_after}
use Rattle.thread_link.specs.Inward.{GatheredState}
use Rattle.thread_link.proofs.Carrying.{whole_short, whole_long}
use Rattle.thread_link.proofs.Gathering.{gathered_more}
use Rattle.thread_link.proofs.gathered.Gathered.put_header.Goals as goal

pub invariant_of-self : goal.invariant_of-self
invariant_of-self c =
    let e = c.self.inside in
    let added = take c.min-taken.result c.args.bytes.now in
    let is_ready : e.is_ready ≡ true = ap (λ (s : GatheredState). s.is_ready) c.self.view_is ∙ c.requires.ready in
    let came = c.extend_reserved.ensures.items in
    let items = c.extend_reserved.new.self.items in
    let long : length items ≡ 8 =
    omega (
      arith,
      ap length came,
      length-append e.buffer.items added,
      length-take c.min-taken.result c.args.bytes.now,
      c.min-taken.ensures,
      c.saturating_sub-missing.ensures,
      c.len.ensures.value,
    ) in
    let noted = c.cut_length-self-inside.ensures.cut ∙ ap (λ (x : List ℕ). cut_after (header_at x)) c.as_slice.ensures
    ∙ sym (whole_long items (omega (arith, long))) in (
      gathered_more e.buffer.items items added e.buffer.spare c.extend_reserved.new.self.spare e.is_ready e.whole c.cut_length-self-inside.result is_ready
          c.self.invariant.0 came c.extend_reserved.ensures.spare noted
          (omega (arith, long, c.cut_length-self-inside.ensures.least)) c.cut_length-self-inside.ensures.most,
      c.self.invariant.1,
    )

pub invariant_of-self-else-taken-missing : goal.invariant_of-self-else-taken-missing
invariant_of-self-else-taken-missing c =
    let e = c.self.inside in
    let added = take c.min-taken.result c.args.bytes.now in
    let is_ready : e.is_ready ≡ true = ap (λ (s : GatheredState). s.is_ready) c.self.view_is ∙ c.requires.ready in
    let came = c.extend_reserved.ensures.items in
    let items = c.extend_reserved.new.self.items in
    let before : length e.buffer.items < 8 = omega (arith, c.saturating_sub-missing.ensures, c.len.ensures.value) in
    let short : length items < 8 =
    omega (
      arith,
      ap length came,
      length-append e.buffer.items added,
      length-take c.min-taken.result c.args.bytes.now,
      c.min-taken.ensures,
      c.saturating_sub-missing.ensures,
      c.len.ensures.value,
    ) in
    let noted : e.whole ≡ 8 = c.self.invariant.0.noted ∙ whole_short e.buffer.items before in (
      gathered_more e.buffer.items items added e.buffer.spare c.extend_reserved.new.self.spare e.is_ready e.whole e.whole is_ready c.self.invariant.0 came
          c.extend_reserved.ensures.spare
          (noted ∙ sym (whole_short items short)) (omega (arith, noted, short)) c.self.invariant.0.most,
      c.self.invariant.1,
    )
