-- A connection as a machine that takes one byte after another.
use Rattle.std.specs.Prelude.{Bool, true, false, ℕ, ◌≡◌, ◌+◌, ◌-◌, ◌<◌, ◌≤◌, ◌==◌, if◌then◌else◌, List, [], ◌∷◌, ◌++◌, length, take, Ok}
use Rattle.nbd.specs.declared.command.NbdCommand.TheVariants.{Write}
use Rattle.nbd.specs.declared.phase.Part.{Part}
use Rattle.nbd.specs.declared.phase.Part.TheVariants as part
use Rattle.nbd.specs.declared.phase.Phase.{Phase}
use Rattle.nbd.specs.declared.phase.Phase.TheVariants as phase
use Rattle.nbd.specs.declared.phase.Refused.{Refused}
use Rattle.nbd.specs.declared.phase.Refused.TheVariants as refused
use Rattle.nbd.specs.Requested.{Requested}
use Rattle.nbd.specs.Exports.{Exported, export_now}
use Rattle.nbd.specs.Judging.{judged}
use Rattle.nbd.specs.Steps.{wanted, Stepped, step, skipped}

-- a connection as contracts see it: its number, the export that it serves and on which terms, what it waits for, and the bytes of that which it has
pub record Machine : Type 0 where
  pub of : ℕ
  pub export : Exported
  pub phase : Phase
  pub held : List ℕ

-- whether a part is one of the handshake
abbrev pub is_of_handshake : Part → Bool
is_of_handshake part.ClientFlags = true
is_of_handshake (part.Option no_zeroes) = true
is_of_handshake (part.OptionData no_zeroes option length) = true
is_of_handshake part.Request = false
is_of_handshake (part.Payload header) = false

-- whether what is refused is an option, and so one of the handshake
abbrev pub is_option : Refused → Bool
is_option (refused.LongOption no_zeroes option) = true
is_option (refused.Write cookie errno) = false

-- whether the client has chosen no export yet
abbrev pub is_negotiating : Phase → Bool
is_negotiating (phase.Gather p) = is_of_handshake p
is_negotiating (phase.Skip left r) = is_option r
is_negotiating phase.Closed = false

-- how many bytes the payload has that a part is
abbrev pub payload_of : Part → ℕ
payload_of (part.Payload header) = header.length
payload_of _ = 0

-- how many bytes the payload has that a connection gathers
abbrev pub payload_bytes : Phase → ℕ
payload_bytes (phase.Gather p) = payload_of p
payload_bytes _ = 0

-- the result of bytes: the connection after them, the bytes that go back, and the requests that are given out
pub record Fed : Type 0 where
  pub machine : Machine
  pub sent : List ℕ
  pub requests : List Requested

-- no result beside the connection
abbrev pub silent : Machine → Fed
silent m = record { machine = m; sent = []; requests = [] }

-- the result of a step, with no bytes held any more, on the terms that it sets
abbrev pub after_step : ℕ → Exported → Stepped → Fed
after_step of e s = record { machine = record { of = of; export = export_now e s.terms; phase = s.phase; held = [] }; sent = s.sent; requests = s.requests }

-- the next byte: the last of its part makes a step, and one that is skipped is counted
abbrev pub with_byte : ℕ → Exported → Phase → List ℕ → ℕ → Fed
with_byte of e (phase.Gather p) held byte =
    if length held + 1 == wanted p then after_step of e (step of e p (held ++ byte ∷ []))
    else silent (record { of = of; export = e; phase = phase.Gather p; held = held ++ byte ∷ [] })
with_byte of e (phase.Skip left refused) held byte =
    if left == 1 then after_step of e (skipped refused)
    else silent (record { of = of; export = e; phase = phase.Skip (left - 1) refused; held = [] })
with_byte of e phase.Closed held byte = silent (record { of = of; export = e; phase = phase.Closed; held = held })

-- one result after another
abbrev pub then_fed : Fed → Fed → Fed
then_fed a b = record { machine = b.machine; sent = a.sent ++ b.sent; requests = a.requests ++ b.requests }

-- the result of bytes, one after another
unfoldable pub fed : Machine → List ℕ → Fed
fed m [] = silent m
fed m (byte ∷ bytes) = let first = with_byte m.of m.export m.phase m.held byte in then_fed first (fed first.machine bytes)

-- what holds of a part: a payload is that of a WRITE that is served
abbrev pub IsDue : Exported → Part → Type 0
IsDue e (part.OptionData no_zeroes option length) = length ≤ 8192
IsDue e (part.Payload h) = judged e h ≡ Ok Write
IsDue e p = Unit {0}

-- what is held is less than what is waited for
abbrev pub Waits : Exported → Phase → List ℕ → Type 0
Waits e (phase.Gather p) held = (length held < wanted p) × IsDue e p
Waits e (phase.Skip left refused) held = (0 < left) × (held ≡ [])
Waits e phase.Closed held = held ≡ []

-- as many bytes as the phase takes at once: at most those that it waits for
abbrev pub IsPortion : Phase → List ℕ → ℕ → Type 0
IsPortion (phase.Gather p) held count = length held + count ≤ wanted p
IsPortion (phase.Skip left refused) held count = count ≤ left
IsPortion phase.Closed held count = Unit {0}

-- the connection has this result: how it goes on, and what was put at the end of both lists
pub record Adds (f : Fed) (m : Machine) (old_bytes new_bytes : List ℕ) (old_requests new_requests : List Requested) : Type 0 where
  pub machine : m ≡ f.machine
  pub sent : new_bytes ≡ old_bytes ++ f.sent
  pub given : new_requests ≡ old_requests ++ f.requests

-- the rest of a result, after these parts of it were put at the end of both lists
pub record Continues (all rest : Fed) (old_bytes new_bytes : List ℕ) (old_requests new_requests : List Requested) : Type 0 where
  pub machine : all.machine ≡ rest.machine
  pub sent : old_bytes ++ all.sent ≡ new_bytes ++ rest.sent
  pub given : old_requests ++ all.requests ≡ new_requests ++ rest.requests

-- a list that still begins as it did
abbrev pub Begins : {A : Type 0} → List A → List A → Type 0
Begins old new = take (length old) new ≡ old
