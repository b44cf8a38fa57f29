-- The sessions so far led to this start, whose identifiers are honest if those of the first one were, and the disks were faithful.
use Rattle.std.proofs.Common.{List}
use Rattle.blocks.specs.SettingsRange.{standard}
use Rattle.settlement.specs.Left.{IsUnparted}
use Rattle.served_images.specs.Sessions.{HasCome, IsStart, Rest, StayedFaithful, opening}
use Rattle.settlement.specs.Settled.{WasHonest}
use Rattle.serving.proofs.sessions.run_sessions.Given as goal

abbrev pub invariant-loop : goal.invariant-loop
invariant-loop g l = (first : Rest) × (earlier : List Rest)
    × (IsStart (record standard { protocol = l.fn.service.protocol; blocks = l.fn.service.blocks }) l.fn.how l.fn.disks first
    × HasCome first earlier l.last
    × (WasHonest (opening first) → StayedFaithful earlier l.last → WasHonest (opening l.last) × (IsUnparted (opening first) → IsUnparted (opening l.last))))
