-- An open connection as plain values, and its invariant.
use Rattle.std.specs.Prelude.{ℕ, ◌≡◌, ◌+◌, ◌<◌, ◌≤◌, nat_le, Bool, false, ◌&&◌, List, [], ◌++◌, length, Option, None, Some}
use Rattle.model.specs.Frames.{Packet}
use Rattle.model.specs.Stream.{StreamItem}
use Rattle.peerdisk.specs.Pending.{Pending}
use Rattle.secondary_protocol.specs.Core.{EndState, answers}
use Rattle.secondary_core.specs.declared.connection.Connection.{Connection}
use Rattle.secondary_core.specs.Outboxes.{OutboxState, acknowledging}

-- the end of the connection, as plain values
abbrev pub end_of : Connection → EndState
end_of c = record {
  hello = c.handshake.own;
  hello_received = c.handshake.hello_received;
  hello_sent = c.handshake.hello_sent;
  due = c.outbox.due;
  answered = c.outbox.answered;
  sizes = c.outbox.sizes;
}

-- the end is open, and its hello is done: it has taken three frames, and pushed three
abbrev pub is_hello_done : Option EndState → Bool
is_hello_done None = false
is_hello_done (Some e) = nat_le 3 e.hello_received && nat_le 3 e.hello_sent

-- Makes these due, and then the acknowledgement of each ended epoch whose items, and all before them, are applied.
abbrev pub acknowledged : List Packet → List (Pending StreamItem) → Connection → Connection
acknowledged new pending c = record c { outbox = acknowledging pending (record c.outbox { due = c.outbox.due ++ new }) }

-- Each of the `barriers` barriers that were taken is acknowledged or waits for that; none that waits has all items
-- before it applied; and there is room for an acknowledgement of each pending item and each barrier that waits.
pub record IsServed (pending : List (Pending StreamItem)) (barriers : ℕ) (o : OutboxState) : Type 0 where
  pub ended : o.answered + length o.sizes ≡ barriers
  pub answered : answers pending o.answered o.sizes ≡ []
  pub room : length o.due + length o.sizes + length pending ≤ o.answers

-- There is room for what another frame may need: a barrier, and two acknowledgements.
pub record HasRoom (pending : List (Pending StreamItem)) (o : OutboxState) : Type 0 where
  pub answers : length o.due + length o.sizes + length pending + 2 ≤ o.answers
  pub epochs : length o.sizes < o.epochs
