-- What a client may send: options (NBD protocol, "Handshake"), then requests ("Transmission"); and their results.
use Rattle.std.specs.Prelude.{ℕ, ◌≡◌, ◌+◌, ◌<◌, ◌≤◌, ◌^◌, ◌==◌, nat_lt, ◌⊎◌, Bool, true, false, if◌then◌else◌, List, [], ◌∷◌, ◌++◌, length, take, Result, Ok}
use Rattle.std.specs.Prelude.{Err}
use Rattle.std.specs.List.{flat_map, list_any, AllByRecursion}
use Rattle.blocks.specs.declared.refusal.Refusal.{Refusal}
use Rattle.packets.specs.Numbers.{number_bytes}
use Rattle.nbd.specs.declared.command.NbdCommand.{NbdCommand}
use Rattle.nbd.specs.declared.command.NbdCommand.TheVariants as command
use Rattle.nbd.specs.declared.errno.Errno.{Errno}
use Rattle.nbd.specs.declared.header.RequestHeader.{RequestHeader}
use Rattle.nbd.specs.declared.phase.Part.TheVariants as part
use Rattle.nbd.specs.declared.phase.Phase.TheVariants as phase
use Rattle.nbd.specs.Exports.{Exported, export_now}
use Rattle.nbd.specs.Judging.{judged}
use Rattle.nbd.specs.Machine.{Machine, Fed, silent, after_step, then_fed, fed}
use Rattle.nbd.specs.Options.{context_set, option_magic, option_replied, option_reply, rep_err_too_big}
use Rattle.nbd.specs.Requests.{spelling, FitsFields, header_at}
use Rattle.nbd.specs.Steps.{request_of, payload_length, failure_bytes, after_reply}

-- a request on the wire: its header, and the payload of a WRITE
pub record Message : Type 0 where
  pub header : RequestHeader
  pub payload : List ℕ

-- a WRITE, served or not, has as many bytes of payload as it says, and another request has none
pub record IsMessage (m : Message) : Type 0 where
  pub fields : FitsFields m.header
  pub whole : length m.payload ≡ payload_length m.header

-- its bytes
abbrev pub message_bytes : Message → List ℕ
message_bytes m = spelling m.header ++ m.payload

-- the bytes of messages, one after another
abbrev pub stream_of : List Message → List ℕ
stream_of messages = flat_map message_bytes messages

-- a connection between two requests
abbrev pub at_request : ℕ → Exported → Machine
at_request of e = record { of = of; export = e; phase = phase.Gather part.Request; held = [] }

-- a connection that is closed
abbrev pub closed : ℕ → Exported → Machine
closed of e = record { of = of; export = e; phase = phase.Closed; held = [] }

-- the result of a message that is judged so: a request that is served is given out with its payload, one that is
-- refused has its reply, and one to disconnect ends the connection
abbrev pub answer_as : ℕ → Exported → Message → Result NbdCommand Errno → Fed
answer_as of e m (Ok command.Disconnect) = silent (closed of e)
answer_as of e m (Ok c) = record { machine = at_request of e; sent = []; requests = request_of of e c m.header m.payload ∷ [] }
answer_as of e m (Err errno) = record { machine = at_request of e; sent = failure_bytes e m.header errno; requests = [] }

-- the result of a message
abbrev pub answer : ℕ → Exported → Message → Fed
answer of e m = answer_as of e m (judged e m.header)

-- whether a message ends the connection
abbrev pub is_end : Result NbdCommand Errno → Bool
is_end (Ok command.Disconnect) = true
is_end _ = false

-- the result of messages, one after another, up to one that ends the connection
abbrev pub answers : ℕ → Exported → List Message → Fed
answers of e [] = silent (at_request of e)
answers of e (m ∷ messages) = if is_end (judged e m.header) then silent (closed of e) else then_fed (answer of e m) (answers of e messages)

-- whether one of the messages ends the connection
abbrev pub has_end : Exported → List Message → Bool
has_end e messages = list_any (λ m. is_end (judged e m.header)) messages

-- less than a message whose header was read so; if it is no header, the connection is closed
abbrev pub IsRestWith : Result RequestHeader Refusal → List ℕ → Type 0
IsRestWith (Ok h) rest = length rest < 28 + payload_length h
IsRestWith (Err refusal) rest = Unit {0}

-- bytes that begin with no whole message
abbrev pub IsRest : List ℕ → Type 0
IsRest rest = (length rest < 28) ⊎ ((28 ≤ length rest) × IsRestWith (header_at (take 28 rest)) rest)

-- the bytes of a client are messages and then a rest, and their result is the answers to those messages and nothing
-- else
pub record Parses (of : ℕ) (e : Exported) (bytes : List ℕ) : Type 0 where
  pub messages : List Message
  pub rest : List ℕ
  pub each : AllByRecursion IsMessage messages
  pub whole : bytes ≡ stream_of messages ++ rest
  pub end : (has_end e messages ≡ true) ⊎ IsRest rest
  pub sent : (fed (at_request of e) bytes).sent ≡ (answers of e messages).sent
  pub given : (fed (at_request of e) bytes).requests ≡ (answers of e messages).requests

-- ---- the handshake

-- an option on the wire: its number and its data
pub record ClientOption : Type 0 where
  pub number : ℕ
  pub bytes : List ℕ

-- the numbers of an option fit their fields
pub record FitsOption (o : ClientOption) : Type 0 where
  pub number : o.number < 2 ^ 32
  pub length : length o.bytes < 2 ^ 32

-- its bytes: magic number, option, the length of the data, and the data
unfoldable pub option_bytes : ClientOption → List ℕ
option_bytes o = number_bytes 8 option_magic ++ number_bytes 4 o.number ++ number_bytes 4 (length o.bytes) ++ o.bytes

-- a connection that waits for an option
abbrev pub at_option : ℕ → Exported → Bool → Machine
at_option of e no_zeroes = record { of = of; export = e; phase = phase.Gather (part.Option no_zeroes); held = [] }

-- an option with too many data: EXPORT_NAME closes the connection, since it has no error reply
abbrev pub too_big : ℕ → Exported → Bool → ℕ → Fed
too_big of e no_zeroes option =
    if option == 1 then silent (closed of e)
    else record { machine = at_option of (export_now e (context_set e option false)) no_zeroes; sent = option_reply option rep_err_too_big []; requests = [] }

-- the result of an option
abbrev pub option_answer : ℕ → Exported → Bool → ClientOption → Fed
option_answer of e no_zeroes o =
    if nat_lt 8192 (length o.bytes) then too_big of e no_zeroes o.number
    else after_step of e (after_reply no_zeroes (option_replied e no_zeroes o.number o.bytes))
