-- What comes of whole messages.
use Rattle.std.proofs.Common.{◌≡◌, ◌≢◌, ℕ, Bool, true, false, cond, eqb, List, [], ◌∷◌, ◌++◌, length, Some, None, Result, Ok, Err, refl, sym, ap, ◌∙◌, subst}
use Rattle.std.proofs.Common.{arith}
use Rattle.std.specs.Prelude.{◌==◌, ◌&&◌, ◌||◌}
use Rattle.std.specs.List.{AllByRecursion}
use Rattle.std.proofs.lemmas.Bool.{eqb-true, eqb-false}
use Rattle.std.proofs.lemmas.List.Concat.{flat_map-cons}
use Rattle.blocks.specs.declared.refusal.Refusal.{Refusal}
use Rattle.nbd.specs.declared.command.NbdCommand.{NbdCommand}
use Rattle.nbd.specs.declared.command.NbdCommand.TheVariants as command
use Rattle.nbd.specs.declared.errno.Errno.{Errno}
use Rattle.nbd.specs.declared.header.RequestHeader.{RequestHeader}
use Rattle.nbd.specs.declared.phase.Part.TheVariants as part
use Rattle.nbd.specs.declared.phase.Phase.TheVariants as phase
use Rattle.nbd.specs.declared.phase.Refused.TheVariants as refused
use Rattle.nbd.specs.Exports.{Exported}
use Rattle.nbd.specs.Judging.{command_at, judged}
use Rattle.nbd.specs.Machine.{Machine, Fed, silent, after_step, then_fed, fed}
use Rattle.nbd.specs.Messages.{Message, IsMessage, message_bytes, stream_of, at_request, closed, answer_as, answer, is_end, answers}
use Rattle.nbd.specs.Replies.{reply_spelling}
use Rattle.nbd.specs.Requests.{spelling, FitsFields}
use Rattle.nbd.specs.Steps.{payload_length, failure, failure_bytes, begins, after_header, step, skipped, sends, goes_on}
use Rattle.nbd.proofs.Feeding.{then_fed_nothing, fed_whole, fed_skipped, fed_closed, fed_append}
use Rattle.nbd.proofs.Grammar.{header_again, spelling_length}
use Rattle.nbd.proofs.Waiting.{served_as, payload_bounded}

pub none_of : (xs : List ℕ) → length xs ≡ 0 → xs ≡ []
none_of [] h = refl
none_of (x ∷ xs) h = absurd (omega (arith, h))

served_kind : (e : Exported) (h : RequestHeader) (c : NbdCommand) → judged e h ≡ Ok c → command_at h.kind ≡ Some c
unfolding judged
served_kind e h c is = (served_as e (command_at h.kind) h c is).0

write_kind : (h : RequestHeader) → eqb h.kind 1 ≡ true → command_at h.kind ≡ Some command.Write
write_kind h is = ap command_at (eqb-true _ _ is)

-- only a WRITE has a payload
no_payload_as : (h : RequestHeader) (c : NbdCommand) (t : Bool) → eqb h.kind 1 ≡ t → command_at h.kind ≡ Some c → c ≢ command.Write → cond t h.length 0 ≡ 0
no_payload_as h c true is known other =
    let same : Some c ≡ Some command.Write = sym known ∙ write_kind h is in
    let command : c ≡ command.Write = cc in
    absurd (other command)
no_payload_as h c false is known other = refl

pub no_payload : (e : Exported) (h : RequestHeader) (c : NbdCommand) → judged e h ≡ Ok c → c ≢ command.Write → payload_length h ≡ 0
no_payload e h c is other = no_payload_as h c (eqb h.kind 1) refl (served_kind e h c is) other

write_only : (a b c d t f g : Bool)
    → cond a (Some command.Read) (cond b (Some command.Write)
    (cond c (Some command.Disconnect) (cond d (Some command.Flush) (cond t (Some command.Trim) (cond f (Some command.WriteZeroes)
    (cond g (Some command.BlockStatus) None))))))
    ≡ Some command.Write
    → b ≡ true
write_only true b c d t f g is = absurd cc
write_only false true c d t f g is = refl
write_only false false true d t f g is = absurd cc
write_only false false false true t f g is = absurd cc
write_only false false false false true f g is = absurd cc
write_only false false false false false true g is = absurd cc
write_only false false false false false false true is = absurd cc
write_only false false false false false false false is = absurd cc

whole_payload_as : (h : RequestHeader) (t : Bool) → t ≡ true → cond t h.length 0 ≡ h.length
whole_payload_as h true is = refl
whole_payload_as h false is = absurd cc

-- a WRITE that is served has its payload
pub whole_payload : (e : Exported) (h : RequestHeader) → judged e h ≡ Ok command.Write → payload_length h ≡ h.length
whole_payload e h is = whole_payload_as h (eqb h.kind 1)
    (write_only (eqb h.kind 0) (eqb h.kind 1) (eqb h.kind 2) (eqb h.kind 3) (eqb h.kind 4) (eqb h.kind 6) (eqb h.kind 7) (served_kind e h command.Write is))

-- ---- one message

-- what comes of a header that was judged so, and its payload
abbrev finished : ℕ → Exported → Message → Result NbdCommand Errno → Fed
finished of e m r = let first = after_step of e (begins of e m.header r) in then_fed first (fed first.machine m.payload)

-- a message that has no payload, where its header is answered
served_now : (of : ℕ) (e : Exported) (h : RequestHeader) (payload : List ℕ) (c : NbdCommand) → payload ≡ []
    → (finished of e (record { header = h; payload = [] }) (Ok c) ≡ answer_as of e (record { header = h; payload = [] }) (Ok c))
    → finished of e (record { header = h; payload = payload }) (Ok c) ≡ answer_as of e (record { header = h; payload = payload }) (Ok c)
served_now of e h payload c none is =
    subst (λ (x : List ℕ). finished of e (record { header = h; payload = x }) (Ok c) ≡ answer_as of e (record { header = h; payload = x }) (Ok c)) (sym none) is

-- only a WRITE has bytes to skip, and its reply is in one piece on all terms
is_write : (t : Bool) (long : ℕ) → eqb (cond t long 0) 0 ≡ false → t ≡ true
is_write true long is = refl
is_write false long is = absurd cc

in_one_piece : (s : Bool) (kind : ℕ) (chunks piece : List ℕ) → kind ≡ 1 → cond (s && ((kind == 0) || (kind == 7))) chunks piece ≡ piece
in_one_piece true kind chunks piece is = rw is refl
in_one_piece false kind chunks piece is = refl

skipped_failure : (e : Exported) (h : RequestHeader) (errno : Errno) → eqb (payload_length h) 0 ≡ false
    → failure_bytes e h errno ≡ reply_spelling (failure h.cookie errno)
skipped_failure e h errno is = in_one_piece e.terms.structured h.kind _ _ (eqb-true _ _ (is_write (eqb h.kind 1) h.length is))

refused_now : (of : ℕ) (e : Exported) (h : RequestHeader) (errno : Errno) (payload : List ℕ) (t : Bool) → eqb (payload_length h) 0 ≡ t
    → length payload ≡ payload_length h
    → (let first = after_step of e (cond t (sends (phase.Gather part.Request) (failure_bytes e h errno))
    (goes_on (phase.Skip (payload_length h) (refused.Write h.cookie errno)))) in then_fed first (fed first.machine payload))
    ≡ answer_as of e (record { header = h; payload = payload }) (Err errno)
unfolding fed skipped
refused_now of e h errno payload true is whole =
    let none : payload ≡ [] = none_of payload (whole ∙ eqb-true _ _ is) in
    let first = after_step of e (sends (phase.Gather part.Request) (failure_bytes e h errno)) in
    ap (λ (x : List ℕ). then_fed first (fed first.machine x)) none ∙ then_fed_nothing first
refused_now of e h errno payload false is whole =
    let other = eqb-false _ _ is in
    let first = after_step of e (goes_on (phase.Skip (payload_length h) (refused.Write h.cookie errno))) in
    let replied : List ℕ → Fed = λ (sent : List ℕ). record { machine = at_request of e; sent = sent; requests = [] } in
    ap (λ (f : Fed). then_fed first f) (fed_skipped of e (payload_length h) (refused.Write h.cookie errno) payload (omega (arith, whole, other)) whole)
    ∙ ap replied (sym (skipped_failure e h errno is))

finishes : (of : ℕ) (e : Exported) (m : Message) (r : Result NbdCommand Errno) → judged e m.header ≡ r → length m.payload ≡ payload_length m.header
    → finished of e m r ≡ answer_as of e m r
unfolding fed step
finishes of e m (Ok command.Read) is whole =
    served_now of e m.header m.payload command.Read (none_of m.payload (whole ∙ no_payload e m.header command.Read is (λ same. cc))) refl
finishes of e m (Ok command.Write) is whole =
    let long : length m.payload ≡ m.header.length = whole ∙ whole_payload e m.header is in
    let first = after_step of e (goes_on (phase.Gather (part.Payload m.header))) in
    ap (λ (f : Fed). then_fed first f) (fed_whole of e (part.Payload m.header) [] m.payload (omega (arith, long, (payload_bounded e m.header is).0))
    (omega (arith, long)))
finishes of e m (Ok command.Disconnect) is whole = ap (λ (f : Fed). then_fed (silent (closed of e)) f) (fed_closed of e [] m.payload)
finishes of e m (Ok command.Flush) is whole =
    served_now of e m.header m.payload command.Flush (none_of m.payload (whole ∙ no_payload e m.header command.Flush is (λ same. cc))) refl
finishes of e m (Ok command.Trim) is whole =
    served_now of e m.header m.payload command.Trim (none_of m.payload (whole ∙ no_payload e m.header command.Trim is (λ same. cc))) refl
finishes of e m (Ok command.WriteZeroes) is whole =
    served_now of e m.header m.payload command.WriteZeroes (none_of m.payload (whole ∙ no_payload e m.header command.WriteZeroes is (λ same. cc))) refl
finishes of e m (Ok command.BlockStatus) is whole =
    served_now of e m.header m.payload command.BlockStatus (none_of m.payload (whole ∙ no_payload e m.header command.BlockStatus is (λ same. cc))) refl
finishes of e m (Err errno) is whole = refused_now of e m.header errno m.payload (eqb (payload_length m.header) 0) refl whole

-- a header of a request
pub header_turns : (of : ℕ) (e : Exported) (h : RequestHeader) → FitsFields h → fed (at_request of e) (spelling h) ≡ after_step of e (begins of e h (judged e h))
unfolding step
header_turns of e h fits =
    fed_whole of e part.Request [] (spelling h) (omega (arith, spelling_length h)) (omega (arith, spelling_length h))
    ∙ ap (λ (r : Result RequestHeader Refusal). after_step of e (after_header of e r)) (header_again h fits)

pub message_is_answered : (of : ℕ) (e : Exported) (m : Message) → IsMessage m → fed (at_request of e) (message_bytes m) ≡ answer of e m
message_is_answered of e m is =
    fed_append (at_request of e) (spelling m.header) m.payload
    ∙ ap (λ (f : Fed). then_fed f (fed f.machine m.payload)) (header_turns of e m.header is.fields)
    ∙ finishes of e m (judged e m.header) refl is.whole

-- ---- messages, one after another

-- after a message that does not end it the connection is between two requests
goes_on_as : (of : ℕ) (e : Exported) (m : Message) (r : Result NbdCommand Errno) → is_end r ≡ false → (answer_as of e m r).machine ≡ at_request of e
goes_on_as of e m (Ok command.Read) go = refl
goes_on_as of e m (Ok command.Write) go = refl
goes_on_as of e m (Ok command.Disconnect) go = absurd cc
goes_on_as of e m (Ok command.Flush) go = refl
goes_on_as of e m (Ok command.Trim) go = refl
goes_on_as of e m (Ok command.WriteZeroes) go = refl
goes_on_as of e m (Ok command.BlockStatus) go = refl
goes_on_as of e m (Err errno) go = refl

ends_as : (of : ℕ) (e : Exported) (m : Message) (r : Result NbdCommand Errno) → is_end r ≡ true → answer_as of e m r ≡ silent (closed of e)
ends_as of e m (Ok command.Read) end = absurd cc
ends_as of e m (Ok command.Write) end = absurd cc
ends_as of e m (Ok command.Disconnect) end = refl
ends_as of e m (Ok command.Flush) end = absurd cc
ends_as of e m (Ok command.Trim) end = absurd cc
ends_as of e m (Ok command.WriteZeroes) end = absurd cc
ends_as of e m (Ok command.BlockStatus) end = absurd cc
ends_as of e m (Err errno) end = absurd cc

-- a message, and what comes after it
pub one_and_rest : (of : ℕ) (e : Exported) (m : Message) (rest : List ℕ) (t : Bool) → IsMessage m → is_end (judged e m.header) ≡ t
    → fed (at_request of e) (message_bytes m ++ rest) ≡ cond t (silent (closed of e)) (then_fed (answer of e m) (fed (at_request of e) rest))
one_and_rest of e m rest true is end =
    let one : fed (at_request of e) (message_bytes m) ≡ silent (closed of e) = message_is_answered of e m is ∙ ends_as of e m (judged e m.header) end in
    fed_append (at_request of e) (message_bytes m) rest ∙ ap (λ (f : Fed). then_fed f (fed f.machine rest)) one
    ∙ ap (λ (f : Fed). then_fed (silent (closed of e)) f) (fed_closed of e [] rest)
one_and_rest of e m rest false is go =
    fed_append (at_request of e) (message_bytes m) rest ∙ ap (λ (f : Fed). then_fed f (fed f.machine rest)) (message_is_answered of e m is)
    ∙ ap (λ (x : Machine). then_fed (answer of e m) (fed x rest)) (goes_on_as of e m (judged e m.header) go)

pub messages_are_answered : (of : ℕ) (e : Exported) (ms : List Message) → AllByRecursion IsMessage ms → fed (at_request of e) (stream_of ms) ≡ answers of e ms
unfolding fed
messages_are_answered of e [] each = refl
messages_are_answered of e (m ∷ ms) each =
    ap (fed (at_request of e)) (flat_map-cons message_bytes m ms)
    ∙ one_and_rest of e m (stream_of ms) (is_end (judged e m.header)) each.0 refl
    ∙ ap (λ (f : Fed). cond (is_end (judged e m.header)) (silent (closed of e)) (then_fed (answer of e m) f)) (messages_are_answered of e ms each.1)
