-- The result of one step of a connection, once the bytes that it waits for are there.
use Rattle.std.specs.Prelude.{ℕ, ◌≡◌, ◌==◌, Bool, false, ◌&&◌, ◌||◌, nat_lt, if◌then◌else◌, List, [], ◌∷◌, Option, Some, None, Result, Ok, Err}
use Rattle.blocks.specs.declared.refusal.Refusal.{Refusal}
use Rattle.blocks.specs.declared.refusal.Refusal.TheVariants.{NoMemory}
use Rattle.packets.specs.Numbers.{number_in}
use Rattle.nbd.specs.declared.command.NbdCommand.{NbdCommand}
use Rattle.nbd.specs.declared.command.NbdCommand.TheVariants as command
use Rattle.nbd.specs.declared.errno.Errno.{Errno}
use Rattle.nbd.specs.declared.header.RequestHeader.{RequestHeader}
use Rattle.nbd.specs.declared.options.OptionReply.{OptionReply}
use Rattle.nbd.specs.declared.options.Next.{Next}
use Rattle.nbd.specs.declared.options.Next.TheVariants.{Negotiate, Transmit, Close}
use Rattle.nbd.specs.declared.phase.Part.{Part}
use Rattle.nbd.specs.declared.phase.Part.TheVariants as part
use Rattle.nbd.specs.declared.phase.Phase.{Phase}
use Rattle.nbd.specs.declared.phase.Phase.TheVariants as phase
use Rattle.nbd.specs.declared.phase.Refused.{Refused}
use Rattle.nbd.specs.declared.phase.Refused.TheVariants as refused
use Rattle.nbd.specs.declared.reply.Reply.{Reply}
use Rattle.nbd.specs.Requested.{Requested}
use Rattle.nbd.specs.declared.step.Made.{Made}
use Rattle.nbd.specs.declared.step.Made.TheVariants as made
use Rattle.nbd.specs.declared.step.Step.{Step}
use Rattle.nbd.specs.declared.terms.Terms.{Terms}
use Rattle.nbd.specs.Chunks.{chunk_spelling, failed_chunk}
use Rattle.nbd.specs.Exports.{Exported}
use Rattle.nbd.specs.Judging.{judged}
use Rattle.nbd.specs.Options.{option_magic, option_replied, Replied, context_set, option_reply, rep_err_too_big}
use Rattle.nbd.specs.Replies.{reply_spelling}
use Rattle.nbd.specs.Requests.{header_at}

-- how many bytes a part has
abbrev pub wanted : Part → ℕ
wanted part.ClientFlags = 4
wanted (part.Option no_zeroes) = 16
wanted (part.OptionData no_zeroes option length) = length
wanted part.Request = 28
wanted (part.Payload header) = header.length

-- how a connection goes on, the terms that it sets, if it sets any, the bytes that go back, and the requests that are given out
pub record Stepped : Type 0 where
  pub phase : Phase
  pub terms : Option Terms
  pub sent : List ℕ
  pub requests : List Requested

-- the connection goes on so, with no other result
abbrev pub goes_on : Phase → Stepped
goes_on phase = record { phase = phase; terms = None; sent = []; requests = [] }

-- bytes go back
abbrev pub sends : Phase → List ℕ → Stepped
sends phase sent = record { phase = phase; terms = None; sent = sent; requests = [] }

-- the reply to a request that failed
abbrev pub failure : ℕ → Errno → Reply
failure cookie errno = record { cookie = cookie; error = Some errno }

-- whether the reply to a request has to be structured, where these are agreed: that to a READ or a BLOCK_STATUS
abbrev pub is_in_chunks : Exported → RequestHeader → Bool
is_in_chunks e h = e.terms.structured && ((h.kind == 0) || (h.kind == 7))

-- its bytes
abbrev pub failure_bytes : Exported → RequestHeader → Errno → List ℕ
failure_bytes e h errno = if is_in_chunks e h then chunk_spelling (failed_chunk h.cookie errno) else reply_spelling (failure h.cookie errno)

-- ---- the handshake

-- the client's flags: fixed newstyle (1) and no zeros (2), and no other
abbrev pub after_flags : ℕ → Stepped
after_flags flags = if nat_lt flags 4 then goes_on (phase.Gather (part.Option (nat_lt 1 flags))) else goes_on phase.Closed

-- the phase after an option
abbrev pub phase_after : Bool → Next → Phase
phase_after no_zeroes Negotiate = phase.Gather (part.Option no_zeroes)
phase_after no_zeroes Transmit = phase.Gather part.Request
phase_after no_zeroes Close = phase.Closed

-- the step of an option with this reply
abbrev pub after_reply : Bool → Replied → Stepped
after_reply no_zeroes a = record { phase = phase_after no_zeroes a.next; terms = a.terms; sent = a.sent; requests = [] }

-- an option with more data than are kept: they are skipped, but for EXPORT_NAME, which has no reply for this
abbrev pub long_option : Exported → Bool → ℕ → ℕ → Stepped
long_option e no_zeroes option length =
    if option == 1 then goes_on phase.Closed
    else record { phase = phase.Skip length (refused.LongOption no_zeroes option); terms = context_set e option false; sent = []; requests = [] }

-- an option with this header
abbrev pub option_begins : Exported → Bool → ℕ → ℕ → Stepped
option_begins e no_zeroes option length =
    if length == 0 then after_reply no_zeroes (option_replied e no_zeroes option []) else
    if nat_lt 8192 length then long_option e no_zeroes option length else
    goes_on (phase.Gather (part.OptionData no_zeroes option length))

-- the header of an option
abbrev pub after_option : Exported → Bool → List ℕ → Stepped
after_option e no_zeroes bytes =
    if number_in 8 0 bytes == option_magic then option_begins e no_zeroes (number_in 4 8 bytes) (number_in 4 12 bytes) else goes_on phase.Closed

-- ---- requests

-- the request of a header and its payload, over a connection of this number and on these terms
abbrev pub request_with : ℕ → Terms → NbdCommand → RequestHeader → List ℕ → Requested
request_with of terms c h payload = record {
  of = of;
  terms = terms;
  command = c;
  flags = h.flags;
  cookie = h.cookie;
  offset = h.offset;
  length = h.length;
  payload = payload;
  is_divided = false;
}

-- the request that a connection of this number gives out
abbrev pub request_of : ℕ → Exported → NbdCommand → RequestHeader → List ℕ → Requested
request_of of e c h payload = request_with of e.terms c h payload

-- a request is given out
abbrev pub gives : ℕ → Exported → NbdCommand → RequestHeader → List ℕ → Stepped
gives of e c h payload = record { phase = phase.Gather part.Request; terms = None; sent = []; requests = request_of of e c h payload ∷ [] }

-- how many bytes follow a header: only a WRITE, served or not, has a payload
abbrev pub payload_length : RequestHeader → ℕ
payload_length h = if h.kind == 1 then h.length else 0

-- a request that is refused: its reply goes back once its payload is skipped
abbrev pub refuses : Exported → RequestHeader → Errno → Stepped
refuses e h errno =
    if payload_length h == 0 then sends (phase.Gather part.Request) (failure_bytes e h errno)
    else goes_on (phase.Skip (payload_length h) (refused.Write h.cookie errno))

-- a request that was judged so
abbrev pub begins : ℕ → Exported → RequestHeader → Result NbdCommand Errno → Stepped
begins of e h (Ok command.Disconnect) = goes_on phase.Closed
begins of e h (Ok command.Write) = goes_on (phase.Gather (part.Payload h))
begins of e h (Ok c) = gives of e c h []
begins of e h (Err errno) = refuses e h errno

-- the header of a request, or bytes that are none
abbrev pub after_header : ℕ → Exported → Result RequestHeader Refusal → Stepped
after_header of e (Ok h) = begins of e h (judged e h)
after_header of e (Err refusal) = goes_on phase.Closed

-- ---- all

-- the result of a part, once all of its bytes are there
unfoldable pub step : ℕ → Exported → Part → List ℕ → Stepped
step of e part.ClientFlags bytes = after_flags (number_in 4 0 bytes)
step of e (part.Option no_zeroes) bytes = after_option e no_zeroes bytes
step of e (part.OptionData no_zeroes option length) bytes = after_reply no_zeroes (option_replied e no_zeroes option bytes)
step of e part.Request bytes = after_header of e (header_at bytes)
step of e (part.Payload h) bytes = gives of e command.Write h bytes

-- the result of a refusal, once the bytes that it skips are past
unfoldable pub skipped : Refused → Stepped
skipped (refused.LongOption no_zeroes option) = sends (phase.Gather (part.Option no_zeroes)) (option_reply option rep_err_too_big [])
skipped (refused.Write cookie errno) = sends (phase.Gather part.Request) (reply_spelling (failure cookie errno))

-- ---- what the code makes of it

-- an option's answer is this one, unless memory ran out
abbrev pub IsReplied : Result OptionReply Refusal → Replied → Type 0
IsReplied (Ok a) reply = (a.sent.items ≡ reply.sent) × ((a.next ≡ reply.next) × (a.terms ≡ reply.terms))
IsReplied (Err refusal) reply = refusal ≡ NoMemory

-- the bytes that go back
abbrev pub made_bytes : Made → List ℕ
made_bytes made.Nothing = []
made_bytes (made.Bytes bytes) = bytes.items
made_bytes (made.Reply reply) = reply_spelling reply
made_bytes (made.Failure cookie errno) = chunk_spelling (failed_chunk cookie errno)
made_bytes (made.Request request) = []

-- the requests that are given out
abbrev pub made_requests : Made → List Requested
made_requests (made.Request request) = request ∷ []
made_requests _ = []

-- a step, without the place of its bytes
abbrev pub view : Step → Stepped
view s = record { phase = s.phase; terms = s.terms; sent = made_bytes s.made; requests = made_requests s.made }
