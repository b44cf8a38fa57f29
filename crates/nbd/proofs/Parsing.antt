-- A client's bytes are messages and a rest, and nothing comes of the rest.
use Rattle.std.proofs.Common.{◌≡◌, ℕ, zero, suc, ◌+◌, ◌-◌, ◌<◌, ◌≤◌, Bool, true, false, cond, eqb, List, [], ◌∷◌, ◌++◌, length, take, drop, Result, Ok, Err}
use Rattle.std.proofs.Common.{refl, sym, ap, ◌∙◌, subst, append_assoc, arith, inl, inr}
use Rattle.std.specs.Prelude.{◌⊎◌, ◌||◌}
use Rattle.std.proofs.lemmas.Bool.{cases_lt, eqb-true}
use Rattle.std.proofs.lemmas.List.{length-take, length-drop, take-append-drop}
use Rattle.std.proofs.lemmas.List.Concat.{flat_map-cons}
use Rattle.blocks.specs.declared.refusal.Refusal.{Refusal}
use Rattle.packets.proofs.Digits.{IsBytes, IsBytes_take, IsBytes_drop}
use Rattle.nbd.specs.declared.command.NbdCommand.{NbdCommand}
use Rattle.nbd.specs.declared.command.NbdCommand.TheVariants as command
use Rattle.nbd.specs.declared.errno.Errno.{Errno}
use Rattle.nbd.specs.declared.header.RequestHeader.{RequestHeader}
use Rattle.nbd.specs.declared.phase.Part.TheVariants as part
use Rattle.nbd.specs.declared.phase.Phase.TheVariants as phase
use Rattle.nbd.specs.declared.phase.Refused.TheVariants as refused
use Rattle.nbd.specs.Requested.{Requested}
use Rattle.nbd.specs.Exports.{Exported}
use Rattle.nbd.specs.Judging.{judged}
use Rattle.nbd.specs.Machine.{Machine, Fed, silent, after_step, then_fed, fed}
use Rattle.nbd.specs.Messages.{Message, IsMessage, message_bytes, stream_of, at_request, closed, answer, is_end, answers, has_end, IsRestWith, IsRest, Parses}
use Rattle.nbd.specs.Requests.{spelling, Spells, header_at}
use Rattle.nbd.specs.Steps.{payload_length, failure_bytes, begins, after_header, step, sends, goes_on}
use Rattle.nbd.proofs.Answering.{no_payload, whole_payload, one_and_rest}
use Rattle.nbd.proofs.Feeding.{fed_held, fed_whole, fed_skips, fed_closed, fed_append}
use Rattle.nbd.proofs.Grammar.{header_takes}

-- nothing goes back, and nothing is given out
record IsQuiet (f : Fed) : Type 0 where
  sent : f.sent ≡ []
  requests : f.requests ≡ []

quiet_as : (f : Fed) (m : Machine) → f ≡ silent m → IsQuiet f
quiet_as f m is = record { sent = ap (λ (x : Fed). x.sent) is; requests = ap (λ (x : Fed). x.requests) is }

no_less : (n l : ℕ) → l ≡ 0 → n < l → ⊥
no_less n l none less = omega arith

-- ---- a header, and less than its payload

refused_part : (of : ℕ) (e : Exported) (h : RequestHeader) (errno : Errno) (back : List ℕ) (t : Bool) → eqb (payload_length h) 0 ≡ t
    → length back < payload_length h
    → (m : Machine) × ((let first =
    after_step of e (cond t (sends (phase.Gather part.Request) (failure_bytes e h errno))
    (goes_on (phase.Skip (payload_length h) (refused.Write h.cookie errno)))) in then_fed first (fed first.machine back)) ≡ silent m)
refused_part of e h errno back true is less = absurd (no_less (length back) (payload_length h) (eqb-true _ _ is) less)
refused_part of e h errno back false is less =
    let first = after_step of e (goes_on (phase.Skip (payload_length h) (refused.Write h.cookie errno))) in (
      record { of = of; export = e; phase = phase.Skip (payload_length h - length back) (refused.Write h.cookie errno); held = [] },
      ap (λ (f : Fed). then_fed first f) (fed_skips of e (payload_length h) (refused.Write h.cookie errno) back less),
    )

begun : (of : ℕ) (e : Exported) (h : RequestHeader) (back : List ℕ) (r : Result NbdCommand Errno) → judged e h ≡ r → length back < payload_length h
    → (m : Machine) × ((let first = after_step of e (begins of e h r) in then_fed first (fed first.machine back)) ≡ silent m)
begun of e h back (Ok command.Read) is less = absurd (no_less _ _ (no_payload e h command.Read is (λ same. cc)) less)
begun of e h back (Ok command.Write) is less =
    let first = after_step of e (goes_on (phase.Gather (part.Payload h))) in (
      record { of = of; export = e; phase = phase.Gather (part.Payload h); held = back },
      ap (λ (f : Fed). then_fed first f) (fed_held of e (part.Payload h) [] back (omega (arith, less, whole_payload e h is))),
    )
begun of e h back (Ok command.Disconnect) is less = absurd (no_less _ _ (no_payload e h command.Disconnect is (λ same. cc)) less)
begun of e h back (Ok command.Flush) is less = absurd (no_less _ _ (no_payload e h command.Flush is (λ same. cc)) less)
begun of e h back (Ok command.Trim) is less = absurd (no_less _ _ (no_payload e h command.Trim is (λ same. cc)) less)
begun of e h back (Ok command.WriteZeroes) is less = absurd (no_less _ _ (no_payload e h command.WriteZeroes is (λ same. cc)) less)
begun of e h back (Ok command.BlockStatus) is less = absurd (no_less _ _ (no_payload e h command.BlockStatus is (λ same. cc)) less)
begun of e h back (Err errno) is less = refused_part of e h errno back (eqb (payload_length h) 0) refl less

-- what comes of bytes that begin with 28
header_first : (of : ℕ) (e : Exported) (front back : List ℕ) → length front ≡ 28
    → fed (at_request of e) (front ++ back) ≡ (let first = after_step of e (after_header of e (header_at front)) in then_fed first (fed first.machine back))
unfolding step
header_first of e front back long =
    fed_append (at_request of e) front back
    ∙ ap (λ (f : Fed). then_fed f (fed f.machine back)) (fed_whole of e part.Request [] front (omega (arith, long)) (omega (arith, long)))

-- ---- the rest

rest_parsed : (of : ℕ) (e : Exported) (rest : List ℕ) → IsRest rest → IsQuiet (fed (at_request of e) rest) → Parses of e rest
rest_parsed of e rest is quiet = record { messages = []; rest = rest; each = tt; whole = refl; end = inr is; sent = quiet.sent; given = quiet.requests }

-- ---- a message, and what comes after it

answers_more : (of : ℕ) (e : Exported) (m : Message) (ms : List Message) (t : Bool) → is_end (judged e m.header) ≡ t
    → answers of e (m ∷ ms) ≡ cond t (silent (closed of e)) (then_fed (answer of e m) (answers of e ms))
answers_more of e m ms t is = ap (λ (b : Bool). cond b (silent (closed of e)) (then_fed (answer of e m) (answers of e ms))) is

or_first : (a b : Bool) → a ≡ true → a || b ≡ true
or_first true b h = refl
or_first false b h = absurd cc

or_second : (a b : Bool) → b ≡ true → a || b ≡ true
or_second true b h = refl
or_second false b h = h

bytes_more : (m : Message) (ms : List Message) (tail rest : List ℕ) → tail ≡ stream_of ms ++ rest → message_bytes m ++ tail ≡ stream_of (m ∷ ms) ++ rest
bytes_more m ms tail rest is =
    ap (λ (x : List ℕ). message_bytes m ++ x) is ∙ sym (append_assoc (message_bytes m) (stream_of ms) rest)
    ∙ ap (λ (x : List ℕ). x ++ rest) (sym (flat_map-cons message_bytes m ms))

end_more : (e : Exported) (m : Message) (ms : List Message) (rest : List ℕ) → (has_end e ms ≡ true) ⊎ IsRest rest → (has_end e (m ∷ ms) ≡ true) ⊎ IsRest rest
end_more e m ms rest (inl ended) = inl (or_second (is_end (judged e m.header)) (has_end e ms) ended)
end_more e m ms rest (inr is) = inr is

message_parsed : (of : ℕ) (e : Exported) (m : Message) (tail : List ℕ) (t : Bool) → IsMessage m → is_end (judged e m.header) ≡ t → Parses of e tail
    → Parses of e (message_bytes m ++ tail)
message_parsed of e m tail true is end parsed =
    let all : fed (at_request of e) (message_bytes m ++ tail) ≡ answers of e (m ∷ []) = one_and_rest of e m tail true is end
    ∙ sym (answers_more of e m [] true end) in
    record {
      messages = m ∷ [];
      rest = tail;
      each = (is, tt);
      whole = bytes_more m [] tail tail refl;
      end = inl (or_first (is_end (judged e m.header)) false end);
      sent = ap (λ (f : Fed). f.sent) all;
      given = ap (λ (f : Fed). f.requests) all;
    }
message_parsed of e m tail false is go parsed =
    let one = one_and_rest of e m tail false is go in
    let more = answers_more of e m parsed.messages false go in
    record {
      messages = m ∷ parsed.messages;
      rest = parsed.rest;
      each = (is, parsed.each);
      whole = bytes_more m parsed.messages tail parsed.rest parsed.whole;
      end = end_more e m parsed.messages parsed.rest parsed.end;
      sent = ap (λ (f : Fed). f.sent) one ∙ ap (λ (x : List ℕ). (answer of e m).sent ++ x) parsed.sent ∙ sym (ap (λ (f : Fed). f.sent) more);
      given = ap (λ (f : Fed). f.requests) one ∙ ap (λ (x : List Requested). (answer of e m).requests ++ x) parsed.given
          ∙ sym (ap (λ (f : Fed). f.requests) more);
    }

-- ---- all

-- bytes that begin with 28 of which this was read
read_parsed : (n : ℕ) (of : ℕ) (e : Exported) (bytes : List ℕ) (r : Result RequestHeader Refusal)
    → ((tail : List ℕ) → length tail ≤ n → IsBytes tail → Parses of e tail)
    → IsBytes bytes → 28 ≤ length bytes
    → length bytes ≤ suc n → header_at (take 28 bytes) ≡ r → Parses of e bytes
read_parsed n of e bytes (Err refusal) next fits long most read =
    let front = take 28 bytes in
    let back = drop 28 bytes in
    let len : length front ≡ 28 = omega (arith, length-take 28 bytes, long) in
    let same : front ++ back ≡ bytes = take-append-drop 28 bytes in
    let all : fed (at_request of e) bytes ≡ silent (closed of e) =
    ap (fed (at_request of e)) (sym same) ∙ header_first of e front back len
    ∙ ap (λ (x : Result RequestHeader Refusal). let first = after_step of e (after_header of e x) in then_fed first (fed first.machine back)) read
    ∙ ap (λ (f : Fed). then_fed (silent (closed of e)) f) (fed_closed of e [] back) in
    let rest : IsRest bytes = inr (long, subst (λ (x : Result RequestHeader Refusal). IsRestWith x bytes) (sym read) tt) in
    rest_parsed of e bytes rest (quiet_as (fed (at_request of e) bytes) (closed of e) all)
read_parsed n of e bytes (Ok h) next fits long most read =
    let front = take 28 bytes in
    let back = drop 28 bytes in
    let len : length front ≡ 28 = omega (arith, length-take 28 bytes, long) in
    let back_len : length back ≡ length bytes - 28 = length-drop 28 bytes in
    let same : front ++ back ≡ bytes = take-append-drop 28 bytes in
    elim (cases_lt (length back) (payload_length h)) [
      | inl less ↦
          let part = begun of e h back (judged e h) refl less in
          let all : fed (at_request of e) bytes ≡ silent part.0 =
          ap (fed (at_request of e)) (sym same) ∙ header_first of e front back len
          ∙ ap (λ (x : Result RequestHeader Refusal). let first = after_step of e (after_header of e x) in then_fed first (fed first.machine back)) read
          ∙ part.1 in
          let short : length bytes < 28 + payload_length h = omega (arith, less, back_len, long) in
          let rest : IsRest bytes = inr (long, subst (λ (x : Result RequestHeader Refusal). IsRestWith x bytes) (sym read) short) in
          rest_parsed of e bytes rest (quiet_as (fed (at_request of e) bytes) part.0 all)
      | inr enough ↦
          let l = payload_length h in
          let m : Message = record { header = h; payload = take l back } in
          let tail = drop l back in
          let spells : Spells h front = header_takes front h (IsBytes_take 28 bytes fits) len read in
          let is : IsMessage m = record { fields = spells.fields; whole = omega (arith, length-take l back, enough) } in
          let parts : message_bytes m ++ tail ≡ bytes =
          append_assoc (spelling h) (take l back) tail ∙ ap (λ (x : List ℕ). spelling h ++ x) (take-append-drop l back)
          ∙ ap (λ (x : List ℕ). x ++ back) (sym spells.bytes_are) ∙ same in
          let tail_fits : IsBytes tail = IsBytes_drop l back (IsBytes_drop 28 bytes fits) in
          subst (Parses of e) parts (message_parsed of e m tail (is_end (judged e h)) is refl
          (next tail (omega (arith, length-drop l back, back_len, most, long)) tail_fits))
    ]

parsed_within : (n : ℕ) (of : ℕ) (e : Exported) (bytes : List ℕ) → length bytes ≤ n → IsBytes bytes → Parses of e bytes
parsed_within zero of e bytes most fits =
    rest_parsed of e bytes (inl (omega (arith, most)))
    (quiet_as (fed (at_request of e) bytes) (record { of = of; export = e; phase = phase.Gather part.Request; held = bytes })
    (fed_held of e part.Request [] bytes (omega (arith, most))))
parsed_within (suc n) of e bytes most fits =
    elim (cases_lt (length bytes) 28) [
      | inl short ↦
          rest_parsed of e bytes (inl short)
          (quiet_as (fed (at_request of e) bytes) (record { of = of; export = e; phase = phase.Gather part.Request; held = bytes })
          (fed_held of e part.Request [] bytes (omega (arith, short))))
      | inr long ↦ read_parsed n of e bytes (header_at (take 28 bytes)) (parsed_within n of e) fits long most refl
    ]

pub parsed : (of : ℕ) (e : Exported) (bytes : List ℕ) → IsBytes bytes → Parses of e bytes
parsed of e bytes fits = parsed_within (length bytes) of e bytes (omega arith) fits
