-- The pieces taken begin the pieces pushed, and so do the frames of each connection.
use Rattle.std.proofs.Common.{subst, rules}
use Rattle.thread_link.specs.Outward.{OutwardState, outward_state}
use Rattle.thread_link.specs.Inward.{InwardState, inward_state}
use Rattle.thread_link.specs.Joined.{IsJoined}
use Rattle.thread_link.proofs.Joining.{is_joined}
use Rattle.thread_link.proofs.ends.join_ends.Goals as goal

pub returns-clause-begins : goal.returns-clause-begins
returns-clause-begins g c =
    let o = c.outward.inside in
    let i = c.inward.inside in
    let outward : OutwardState = outward_state o.pieces o.sent.went o.number o.part.went.frames in
    let inward : InwardState = inward_state i.pieces i.taken.went i.number i.front i.rest in
    let begins = c.join_pieces-pushed_pieces.ensures.begins in
    subst (λ (s : OutwardState). IsJoined s c.args.inward) c.outward.view_is
    (subst (λ (s : InwardState). IsJoined outward s) c.inward.view_is
    (is_joined outward inward begins.0 c.outward.invariant c.inward.invariant begins.1))

pub join_pieces-pushed_pieces-requires : goal.join_pieces-pushed_pieces-requires
join_pieces-pushed_pieces-requires g c = search rules
