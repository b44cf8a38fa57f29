-- The server's answers in the handshake (NBD protocol, "Fixed newstyle negotiation", "Option types", "Option reply
-- types").
use Rattle.std.specs.Prelude.{ℕ, zero, suc, ◌+◌, ◌*◌, ◌==◌, Bool, true, false, ◌||◌, ◌&&◌, nat_le, if◌then◌else◌, List, [], ◌∷◌, ◌++◌, length, drop, replicate, slice_range, bytes_eq, Option}
use Rattle.std.specs.Prelude.{Some, None}
use Rattle.std.specs.List.{list_any}
use Rattle.packets.specs.Numbers.{number_in, number_bytes}
use Rattle.nbd.specs.declared.terms.Terms.{Terms}
use Rattle.nbd.specs.declared.options.Next.{Next}
use Rattle.nbd.specs.declared.options.Next.TheVariants.{Negotiate, Transmit, Close}
use Rattle.nbd.specs.Exports.{Exported}

-- IHAVEOPT, with which each option begins
abbrev pub option_magic : ℕ
option_magic = 0x49484156454F5054

-- NBDMAGIC, IHAVEOPT, and the handshake flags: fixed newstyle (1) and no zeros (2)
unfoldable pub greeting : List ℕ
greeting = number_bytes 8 0x4E42444D41474943 ++ number_bytes 8 option_magic ++ number_bytes 2 3

-- the types of an option's reply
abbrev pub rep_ack : ℕ
rep_ack = 1

abbrev pub rep_server : ℕ
rep_server = 2

abbrev pub rep_info : ℕ
rep_info = 3

abbrev pub rep_err_unsup : ℕ
rep_err_unsup = 0x80000001

abbrev pub rep_err_invalid : ℕ
rep_err_invalid = 0x80000003

abbrev pub rep_err_unknown : ℕ
rep_err_unknown = 0x80000006

abbrev pub rep_err_too_big : ℕ
rep_err_too_big = 0x80000009

-- the reply's magic number, the option, the reply's type, the length of its data, and the data
unfoldable pub option_reply : ℕ → ℕ → List ℕ → List ℕ
option_reply option kind bytes =
    number_bytes 8 0x3E889045565A9 ++ number_bytes 4 option ++ number_bytes 4 kind ++ number_bytes 4 (length bytes) ++ bytes

-- the transmission flags: HAS_FLAGS (1), SEND_FLUSH (4), SEND_FUA (8), SEND_TRIM (32), SEND_WRITE_ZEROES (64), CAN_MULTI_CONN (256) and
-- SEND_FAST_ZERO (2048), and where replies are structured SEND_DF (128)
abbrev pub transmission_flags : Terms → ℕ
transmission_flags t = if t.structured then 2541 else 2413

-- the device's bytes, and the transmission flags
unfoldable pub size_and_flags : Exported → List ℕ
size_and_flags e = number_bytes 8 (4096 * e.blocks) ++ number_bytes 2 (transmission_flags e.terms)

-- NBD_INFO_EXPORT
abbrev pub info_export : Exported → List ℕ
info_export e = number_bytes 2 0 ++ size_and_flags e

-- NBD_INFO_BLOCK_SIZE: the least, the preferred and the most bytes of a request
unfoldable pub info_block_size : List ℕ
info_block_size = number_bytes 2 3 ++ number_bytes 4 1 ++ number_bytes 4 4096 ++ number_bytes 4 33554432

-- base:allocation, the one metadata context, and base:, its kind
abbrev pub allocation_name : List ℕ
allocation_name = 98 ∷ 97 ∷ 115 ∷ 101 ∷ 58 ∷ 97 ∷ 108 ∷ 108 ∷ 111 ∷ 99 ∷ 97 ∷ 116 ∷ 105 ∷ 111 ∷ 110 ∷ []

abbrev pub base_name : List ℕ
base_name = 98 ∷ 97 ∷ 115 ∷ 101 ∷ 58 ∷ []

-- NBD_REP_META_CONTEXT with the context's id, 1, and its name
unfoldable pub meta_reply : ℕ → List ℕ
meta_reply option = option_reply option 4 (number_bytes 4 1 ++ allocation_name)

-- whether a query names the context: by its name, or to a LIST by its kind
abbrev pub names : ℕ → List ℕ → Bool
names option query = bytes_eq query allocation_name || ((option == 9) && bytes_eq query base_name)

-- whether one of the queries does; a LIST without queries asks for all contexts
abbrev pub names_allocation : ℕ → List (List ℕ) → Bool
names_allocation option queries = ((option == 9) && (length queries == 0)) || list_any (names option) queries

-- a string before others, if these are there
abbrev pub with_string : List ℕ → Option (List (List ℕ)) → Option (List (List ℕ))
with_string first None = None
with_string first (Some strings) = Some (first ∷ strings)

-- so many strings, each after its length, and nothing after the last; none if the bytes are not just that
unfoldable pub strings_in : ℕ → List ℕ → Option (List (List ℕ))
strings_in zero bytes = if length bytes == 0 then Some [] else None
strings_in (suc n) bytes =
    if nat_le 4 (length bytes) && nat_le (4 + number_in 4 0 bytes) (length bytes)
    then with_string (slice_range bytes 4 (4 + number_in 4 0 bytes)) (strings_in n (drop (4 + number_in 4 0 bytes) bytes)) else None

-- queries for an export of this name, if they are there
abbrev pub for_name : List ℕ → Option (List (List ℕ)) → Option (List ℕ × List (List ℕ))
for_name name None = None
for_name name (Some queries) = Some (name, queries)

-- the queries of LIST or SET_META_CONTEXT: the length of a name, the name, how many queries follow, and each after its length
unfoldable pub queried : List ℕ → Option (List ℕ × List (List ℕ))
queried bytes =
    let name_length = number_in 4 0 bytes in
    if nat_le 8 (length bytes) && nat_le (name_length + 8) (length bytes)
    then for_name (slice_range bytes 4 (4 + name_length)) (strings_in (number_in 4 (4 + name_length) bytes) (drop (8 + name_length) bytes)) else None

-- whether a name is the export's: the empty name is the default export's
abbrev pub is_named : Exported → List ℕ → Bool
is_named e name = (length name == 0) || bytes_eq name e.name

-- the name that INFO or GO asks for: its length, the name, how many information requests follow, and two bytes for each
unfoldable pub asked_name : List ℕ → Option (List ℕ)
asked_name bytes =
    let name_length = number_in 4 0 bytes in
    if nat_le 6 (length bytes) && (nat_le (name_length + 6) (length bytes)
    && (length bytes == name_length + 6 + 2 * number_in 2 (4 + name_length) bytes))
    then Some (slice_range bytes 4 (4 + name_length)) else None

-- what goes back for an option, how the connection goes on, and the terms that it sets, if it sets any
pub record Replied : Type 0 where
  pub sent : List ℕ
  pub next : Next
  pub terms : Option Terms

-- an option with this reply, and the handshake goes on
abbrev pub replies : ℕ → ℕ → Replied
replies option kind = record { sent = option_reply option kind []; next = Negotiate; terms = None }

-- zeros that a client may do without
abbrev pub zeros : Bool → List ℕ
zeros no_zeroes = if no_zeroes then [] else replicate 124 0

-- EXPORT_NAME has no reply that could say that there is no such export
abbrev pub export_name : Exported → Bool → List ℕ → Replied
export_name e no_zeroes name =
    if is_named e name then record { sent = size_and_flags e ++ zeros no_zeroes; next = Transmit; terms = None }
    else record { sent = []; next = Close; terms = None }

-- LIST has no data
abbrev pub listed : Exported → List ℕ → Replied
listed e bytes =
    if length bytes == 0
    then record { sent = option_reply 3 rep_server (number_bytes 4 (length e.name) ++ e.name) ++ option_reply 3 rep_ack []; next = Negotiate; terms = None }
    else replies 3 rep_err_invalid

-- the export's size and its block sizes, whether or not they were asked for
abbrev pub informed : Exported → ℕ → Next → Replied
informed e option next = record {
  sent = option_reply option rep_info (info_export e) ++ option_reply option rep_info info_block_size ++ option_reply option rep_ack [];
  next = next;
  terms = None;
}

-- INFO or GO for this name
abbrev pub informed_of : Exported → ℕ → Next → Option (List ℕ) → Replied
informed_of e option next None = replies option rep_err_invalid
informed_of e option next (Some name) = if is_named e name then informed e option next else replies option rep_err_unknown

-- STRUCTURED_REPLY has no data
abbrev pub structured : Exported → List ℕ → Replied
structured e bytes =
    if length bytes == 0
    then record { sent = option_reply 8 rep_ack []; next = Negotiate; terms = Some (record { structured = true; allocation = e.terms.allocation }) }
    else replies 8 rep_err_invalid

-- the terms that SET_META_CONTEXT sets; LIST_META_CONTEXT sets none
abbrev pub context_set : Exported → ℕ → Bool → Option Terms
context_set e option allocation = if option == 10 then Some (record { structured = e.terms.structured; allocation = allocation }) else None

-- LIST or SET_META_CONTEXT that is refused: a context that was set before is not, any more
abbrev pub meta_refused : Exported → ℕ → ℕ → Replied
meta_refused e option kind = record { sent = option_reply option kind []; next = Negotiate; terms = context_set e option false }

-- one that is served: the context's reply if it is named, and then an ACK
abbrev pub meta_named : Exported → ℕ → Bool → Replied
meta_named e option named = record {
  sent = (if named then meta_reply option else []) ++ option_reply option rep_ack [];
  next = Negotiate;
  terms = context_set e option named;
}

-- one with these queries for an export of this name
abbrev pub meta_asked : Exported → ℕ → Option (List ℕ × List (List ℕ)) → Replied
meta_asked e option None = meta_refused e option rep_err_invalid
meta_asked e option (Some asked) =
    if is_named e asked.0 then meta_named e option (names_allocation option asked.1) else meta_refused e option rep_err_unknown

-- LIST or SET_META_CONTEXT: only where replies are structured
abbrev pub meta : Exported → ℕ → List ℕ → Replied
meta e option bytes = if e.terms.structured then meta_asked e option (queried bytes) else meta_refused e option rep_err_invalid

-- the server's answer to an option with these data
unfoldable pub option_replied : Exported → Bool → ℕ → List ℕ → Replied
option_replied e no_zeroes option bytes =
    if option == 1 then export_name e no_zeroes bytes else
    if option == 2 then record { sent = option_reply 2 rep_ack []; next = Close; terms = None } else
    if option == 3 then listed e bytes else
    if option == 6 then informed_of e 6 Negotiate (asked_name bytes) else
    if option == 7 then informed_of e 7 Transmit (asked_name bytes) else
    if option == 8 then structured e bytes else
    if option == 9 then meta e 9 bytes else
    if option == 10 then meta e 10 bytes else
    replies option rep_err_unsup
