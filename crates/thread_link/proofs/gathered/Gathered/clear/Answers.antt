use Rattle.thread_link.proofs.Gathering.{gathered_cleared}
use Rattle.thread_link.proofs.gathered.Gathered.clear.Goals as goal

pub invariant_of-self : goal.invariant_of-self
invariant_of-self c =
    let e = c.self.inside in (
      gathered_cleared e.buffer.items c.clear.new.self.items e.buffer.spare c.clear.new.self.spare e.is_ready e.whole c.self.invariant.0 c.clear.ensures.items
          c.clear.ensures.spare,
      c.self.invariant.1,
    )
