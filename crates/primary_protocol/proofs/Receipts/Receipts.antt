-- A caller takes a receipt.
use Rattle.std.proofs.Common.{ℕ, Bool, true, false, List, [], ◌++◌, ◌∷◌, subst}
use Rattle.std.specs.Prelude.{if◌then◌else◌}
use Rattle.model.specs.Primary.{PrimaryHistory}
use Rattle.model.specs.PrimarySteps.{receipted}
use Rattle.laws.proofs.Rules.Receipts.{receipt-has}
use Rattle.laws.proofs.Primary.Journal.{journal-run, JournalIsAccepted}
use Rattle.primary_protocol.specs.Core.{JournalEntry, PrimaryState}
use Rattle.primary_protocol.specs.Transitions as transition
use Rattle.primary_protocol.specs.Transitions.{completed_entry, entry_at, is_given}
use Rattle.primary_protocol.specs.Leaves.{LeavesEntries, Leaves}
use Rattle.primary_protocol.specs.Steps.{ReceiptsAgree}
use Rattle.primary_protocol.proofs.Common.Reached.{reached-ordered}
use Rattle.laws.proofs.Tracked.Kept.{IsKnown}
use Rattle.primary_protocol.proofs.Receipts.Journal.{TellsEntries, tells}

-- the entries and the receipts are not seen elsewhere
leaves-but : (s : PrimaryState) (h : PrimaryHistory) (entries : List JournalEntry) (receipts : List ℕ) → Leaves s h
    → LeavesEntries (record s { entries = entries }) (record h { receipts = receipts })
    → Leaves (record s { entries = entries }) (record h { receipts = receipts })
leaves-but s h entries receipts left same_receipts = record {
  rest = record {
    settings = left.rest.settings;
    tuple = left.rest.tuple;
    peer = left.rest.peer;
    connections = left.rest.connections;
    log = record {
      protocol = left.rest.log.protocol;
      backlog = left.rest.log.backlog;
      accepted = left.rest.log.accepted;
      connection = left.rest.log.connection;
      writes = left.rest.log.writes;
      last_writes = left.rest.log.last_writes;
    };
    entries = same_receipts;
    marks = left.rest.marks;
    held = left.rest.held;
    activity = left.rest.activity;
    end = left.rest.end;
    quiet = left.rest.quiet;
  };
  stream = record { max_epoch = left.stream.max_epoch; on = left.stream.on; here = left.stream.here; off = left.stream.off };
}

-- a caller takes a receipt
pub receipts-agree : ReceiptsAgree
receipts-agree number s h reached left = record {
  answer = same_receipts.answer;
  leaves = receipt-has (λ r. LeavesEntries (if given then transition.receipted number s else s) r.1
      → Leaves (if given then transition.receipted number s else s) r.1) number h
      (λ refusal. kept given) (taken given) (λ entry. taken given) same_receipts.leaves;
}
  where
    known : IsKnown h
    known = (reached-ordered h reached).ordered.0

    same_receipts : TellsEntries number s h
    same_receipts = tells h (record {
      numbered = known.tracked.homes.numbered;
      on_disk = known.tracked.on_disk;
      journal = subst JournalIsAccepted reached.is (journal-run reached.settings reached.disk reached.tuple reached.marks reached.events);
    }) number s
        left.rest.entries

    given : Bool
    given = is_given (completed_entry (entry_at number s))

    kept : (b : Bool) → LeavesEntries (if b then transition.receipted number s else s) h → Leaves (if b then transition.receipted number s else s) h
    kept true e = leaves-but s h (transition.receipted number s).entries h.receipts left e
    kept false e = leaves-but s h s.entries h.receipts left e

    taken : (b : Bool) → LeavesEntries (if b then transition.receipted number s else s) (receipted number h)
        → Leaves (if b then transition.receipted number s else s) (receipted number h)
    taken true e = leaves-but s h (transition.receipted number s).entries (h.receipts ++ number ∷ []) left e
    taken false e = leaves-but s h s.entries (h.receipts ++ number ∷ []) left e
