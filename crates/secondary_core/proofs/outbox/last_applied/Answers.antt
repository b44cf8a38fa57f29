use Rattle.std.proofs.Common.{◌≡◌, ◌∙◌, sym, ap, arith, nat_le, true}
use Rattle.std.proofs.lemmas.Bool.{le-leb}
use Rattle.secondary_core.proofs.Barriers.{applied-first, applied-none}
use Rattle.secondary_core.proofs.outbox.last_applied.Goals as goal

pub returns-in-Some : goal.returns-in-Some
returns-in-Some c epoch some fits = applied-first c.args.disk.now.pending c.in-Some.first epoch (sym c.in-Some.ensures) some
    ∙ ap (nat_le epoch) (sym c.saturating_sub.ensures)

pub returns-in-None : goal.returns-in-None
returns-in-None c epoch some fits = let all : nat_le epoch 4294967295 ≡ true = le-leb epoch 4294967295 (omega arith) in applied-none c.args.disk.now.pending
    epoch (sym c.in-None.ensures) ∙ sym all
