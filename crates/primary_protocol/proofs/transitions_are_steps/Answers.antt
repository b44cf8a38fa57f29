use Rattle.primary_protocol.proofs.Close.Closes.{closes-agree}
use Rattle.primary_protocol.proofs.LocalDisk.Faults.{faults-agree}
use Rattle.primary_protocol.proofs.LocalDisk.Writes.{writes-agree}
use Rattle.primary_protocol.proofs.Connect.Opens.{fresh-is, opens-agree}
use Rattle.primary_protocol.proofs.Receipts.Receipts.{receipts-agree}
use Rattle.primary_protocol.proofs.Resync.Resyncs.{resyncs-agree, resync-faults-agree}
use Rattle.primary_protocol.proofs.Send.Sends.{sends-agree}
use Rattle.primary_protocol.proofs.Submit.Submits.{submits-agree}
use Rattle.primary_protocol.proofs.Acknowledge.Takes.{takes-agree}
use Rattle.primary_protocol.proofs.transitions_are_steps.Goals as goal

pub returns-clause-fresh : goal.returns-clause-fresh
returns-clause-fresh c = fresh-is

pub returns-clause-opens : goal.returns-clause-opens
returns-clause-opens c = opens-agree

pub returns-clause-submits : goal.returns-clause-submits
returns-clause-submits c = submits-agree

pub returns-clause-writes : goal.returns-clause-writes
returns-clause-writes c = writes-agree

pub returns-clause-faults : goal.returns-clause-faults
returns-clause-faults c = faults-agree

pub returns-clause-sends : goal.returns-clause-sends
returns-clause-sends c = sends-agree

pub returns-clause-takes : goal.returns-clause-takes
returns-clause-takes c = takes-agree

pub returns-clause-resyncs : goal.returns-clause-resyncs
returns-clause-resyncs c = resyncs-agree

pub returns-clause-resync_faults : goal.returns-clause-resync_faults
returns-clause-resync_faults c = resync-faults-agree

pub returns-clause-closes : goal.returns-clause-closes
returns-clause-closes c = closes-agree

pub returns-clause-receipts : goal.returns-clause-receipts
returns-clause-receipts c = receipts-agree
