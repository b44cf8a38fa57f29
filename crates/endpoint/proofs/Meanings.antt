-- A spelling means one packet.
use Rattle.std.proofs.Common.{◌≡◌, ℕ, zero, suc, ◌+◌, ◌*◌, ◌/◌, min, List, [], ◌∷◌, ◌++◌, length, take, drop, Bool, false, Option, Some, None, Result, Ok, Err}
use Rattle.std.proofs.Common.{refl, sym, ap, ◌∙◌, append_assoc, arith}
use Rattle.std.specs.Prelude.{◌==◌, IfSome}
use Rattle.std.specs.List.{flat_map, AllByRecursion}
use Rattle.std.specs.Option.{option_map}
use Rattle.std.proofs.lemmas.Bool.Decides.{nat_tests}
use Rattle.std.proofs.lemmas.List.{append-nil, length-append, length-drop, take-append-drop}
use Rattle.std.proofs.lemmas.Grind.{flat_map-append}
use Rattle.std.proofs.lemmas.List.Concat.{flat_map-cons}
use Rattle.blocks.specs.Contents.{cut}
use Rattle.packets.specs.declared.packet.Acknowledgement.{Acknowledgement}
use Rattle.packets.specs.declared.packet.Packet.{Packet}
use Rattle.packets.specs.declared.packet.Packet.TheVariants as packet
use Rattle.packets.specs.Spelling.{spelling, IsSpellable, Spells}
use Rattle.packets.proofs.Hellos.{frame_read_spelled}
use Rattle.blocks.specs.declared.refusal.Refusal.{Refusal}
use Rattle.blocks.specs.declared.refusal.Refusal.TheVariants.{NothingThere}
use Rattle.link.specs.Taking.{TakesFirst}
use Rattle.link.specs.Ends.{OutEnd, InEnd, with_sent, with_taken}
use Rattle.model.specs.Frames.{DataFrame, RsDataReplyFrame, BarrierFrame, ProtocolFrame, UuidsFrame, SizesFrame, SyncUuidFrame, RecvAckFrame, WriteAckFrame}
use Rattle.model.specs.Frames.{RsWriteAckFrame, BarrierAckFrame}
use Rattle.model.specs.Frames as frames
use Rattle.endpoint.specs.Meaning.{meaning, packet_read, meant, meant_in, IsSpelled}
use Rattle.endpoint.specs.PacketSender.{outgoing, with_pushed}
use Rattle.endpoint.specs.PacketReceiver.{incoming, with_received, hello_after, received_after, received_from}

-- ---- a meaning is of one packet

-- the bytes of blocks
flat : List (List ℕ) → List ℕ
flat blocks = flat_map (λ block. block) blocks

flat_cut : (size count : ℕ) (bytes : List ℕ) → length bytes ≡ size * count → flat (cut size count bytes) ≡ bytes
unfolding flat
flat_cut size zero [] whole = refl
flat_cut size zero (x ∷ bytes) whole = absurd (omega (arith, whole))
flat_cut size (suc count) bytes whole =
    let spread : size * suc count ≡ size + size * count = omega arith in
    let rest : length (drop size bytes) ≡ size * count = omega (arith, length-drop size bytes, whole, spread) in
    flat_map-cons (λ block. block) (take size bytes) (cut size count (drop size bytes))
    ∙ ap (λ (x : List ℕ). take size bytes ++ x) (flat_cut size count (drop size bytes) rest)
    ∙ take-append-drop size bytes

-- an acknowledgement of the bytes
acknowledgement : frames.Acknowledged → Acknowledgement
acknowledgement ack = record { first = record { 0 = ack.first }; number = ack.number; count = ack.count; place = ack.place }

-- the packet of a meaning
unmeaning : frames.Packet → Packet
unmeaning (DataFrame write place) = packet.Data (record { 0 = write.first }) write.number place (flat write.contents)
unmeaning (RsDataReplyFrame block contents place) = packet.RsDataReply (record { 0 = block }) place contents
unmeaning (BarrierFrame number) = packet.Barrier number
unmeaning (ProtocolFrame protocol) = packet.Protocol protocol
unmeaning (UuidsFrame tuple) = packet.Uuids tuple
unmeaning (SizesFrame blocks) = packet.Sizes blocks
unmeaning (SyncUuidFrame word) = packet.SyncUuid word
unmeaning (RecvAckFrame ack) = packet.RecvAck (acknowledgement ack)
unmeaning (WriteAckFrame ack) = packet.WriteAck (acknowledgement ack)
unmeaning (RsWriteAckFrame ack) = packet.RsWriteAck (acknowledgement ack)
unmeaning (BarrierAckFrame number size) = packet.BarrierAck number size

unmeaning_meaning : (p : Packet) → IsSpellable p → unmeaning (meaning p) ≡ p
unfolding unmeaning acknowledgement
unmeaning_meaning (packet.Protocol protocol) rules = refl
unmeaning_meaning (packet.Sizes blocks) rules = refl
unmeaning_meaning (packet.Uuids tuple) rules = refl
unmeaning_meaning (packet.Data first number place contents) rules =
    ap (λ (c : List ℕ). packet.Data first number place c) (flat_cut 4096 (length contents / 4096) contents (sym rules.4))
unmeaning_meaning (packet.RsDataReply first place contents) rules = refl
unmeaning_meaning (packet.Barrier number) rules = refl
unmeaning_meaning (packet.SyncUuid word) rules = refl
unmeaning_meaning (packet.RecvAck ack) rules = refl
unmeaning_meaning (packet.WriteAck ack) rules = refl
unmeaning_meaning (packet.RsWriteAck ack) rules = refl
unmeaning_meaning (packet.BarrierAck number size) rules = refl

pub meaning_one : (p q : Packet) → IsSpellable p → IsSpellable q → meaning p ≡ meaning q → p ≡ q
meaning_one p q hp hq e = sym (unmeaning_meaning p hp) ∙ ap unmeaning e ∙ unmeaning_meaning q hq

-- ---- frames that are spelled

pub meant_spelled : (frame : List ℕ) (p : Packet) → IsSpellable p → Spells p frame → meant frame ≡ meaning p ∷ []
meant_spelled frame p rules s = ap packet_read (frame_read_spelled frame p rules s)

only_one : (x y : frames.Packet) → x ∷ [] ≡ y ∷ [] → x ≡ y
only_one x y e = cc

-- a frame that went in part is the one that is offered again
pub same_frame : (partly : Option (List ℕ)) (p : Packet) (frame : List ℕ) → IfSome partly IsSpelled
    → IfSome (option_map meant partly) (λ begun. begun ≡ meaning p ∷ [])
    → IsSpellable p → Spells p frame → IfSome partly (λ begun. begun ≡ frame)
same_frame None p frame spelled again rules s = tt
same_frame (Some begun) p frame (q, q_rules, q_spells) again rules s =
    let same : meaning q ≡ meaning p = only_one (meaning q) (meaning p) (sym (meant_spelled begun q q_rules q_spells) ∙ again) in
    q_spells.bytes_are ∙ ap spelling (meaning_one q p q_rules rules same) ∙ sym s.bytes_are

-- what went in part of a packet's frame means that packet
pub part_meant : (partly : Option (List ℕ)) (p : Packet) (frame : List ℕ) → IfSome partly (λ begun. begun ≡ frame) → IsSpellable p → Spells p frame
    → IfSome (option_map meant partly) (λ begun. begun ≡ meaning p ∷ [])
part_meant None p frame is rules s = tt
part_meant (Some begun) p frame is rules s = ap meant is ∙ meant_spelled frame p rules s

meant_more : (sent : List (List ℕ)) (frame : List ℕ) (p : Packet) → IsSpellable p → Spells p frame
    → meant_in (sent ++ frame ∷ []) ≡ meant_in sent ++ meaning p ∷ []
meant_more sent frame p rules s =
    flat_map-append meant sent (frame ∷ [])
    ∙ ap (λ (x : List frames.Packet). meant_in sent ++ x) (flat_map-cons meant frame [] ∙ append-nil (meant frame) ∙ meant_spelled frame p rules s)

longer : (waiting : Option (List (List ℕ))) (frame : List ℕ)
    → option_map length (option_map (λ frames. frames ++ frame ∷ []) waiting) ≡ option_map (λ n. n + 1) (option_map length waiting)
longer None frame = refl
longer (Some frames) frame = ap (λ (n : ℕ). Some n) (length-append frames (frame ∷ []))

-- a frame that an end accepted is a packet pushed
pub pushed_out : (s : OutEnd) (frame : List ℕ) (p : Packet) → IsSpellable p → Spells p frame
    → outgoing (with_sent frame s) ≡ with_pushed (meaning p) (spelling p) (outgoing s)
pushed_out s frame p rules spells = rw (meant_more s.sent frame p rules spells, longer s.waiting frame, spells.bytes_are) refl

-- ---- frames that are taken

-- after three frames the hello expects none
pub hello_least : (n : ℕ) → hello_after (min n 3) ≡ hello_after n
hello_least zero = refl
hello_least (suc zero) = refl
hello_least (suc (suc zero)) = refl
hello_least (suc (suc (suc n))) =
    let m = suc (suc (suc n)) in
    let least : min m 3 ≡ 3 = omega arith in
    let a : (m == 0) ≡ false = grind (arith, nat_tests) in
    let b : (m == 1) ≡ false = grind (arith, nat_tests) in
    let c : (m == 2) ≡ false = grind (arith, nat_tests) in
    rw (least, a, b, c) refl

received_more : (n : ℕ) (taken : List (List ℕ)) (frame : List ℕ)
    → received_from n (taken ++ frame ∷ []) ≡ received_from n taken ++ received_after (n + length taken) frame ∷ []
received_more n [] frame = let none : n + 0 ≡ n = omega arith in rw none refl
received_more n (x ∷ taken) frame =
    let next : n + suc (length taken) ≡ suc n + length taken = omega arith in
    rw next (ap (λ (rest : List frames.Received). received_after n x ∷ rest) (received_more (suc n) taken frame))

-- a frame that an end took is what it is received as
pub taken_in : (s : InEnd) (frame : List ℕ) (ready : Bool)
    → incoming (with_taken frame ready s) ≡ with_received (received_after (length s.taken) frame) (s.taken ++ frame ∷ []) ready (incoming s)
taken_in s frame ready =
    let zeroed : 0 + length s.taken ≡ length s.taken = omega arith in
    let more : received_from 0 (s.taken ++ frame ∷ []) ≡ received_from 0 s.taken ++ received_after (length s.taken) frame ∷ [] =
    received_more 0 s.taken frame ∙ ap (λ (n : ℕ). received_from 0 s.taken ++ received_after n frame ∷ []) zeroed in
    rw more refl

abbrev found : List ℕ → Result (List ℕ) Refusal
found frame = Ok frame

nothing : (frame : List ℕ) → found frame ≡ Err NothingThere → ⊥
nothing frame e = cc

found_is : (x y : List ℕ) → found x ≡ found y → x ≡ y
found_is x y e = cc

some_is : (x y : List (List ℕ)) → Some x ≡ Some y → x ≡ y
some_is x y e = cc

-- the first frame that was to be taken is the last one taken
pub same_row : (taken after_taken : List (List ℕ)) (frame : List ℕ) (before after : Option (List (List ℕ))) → after_taken ≡ taken ++ frame ∷ []
    → TakesFirst before (Ok frame) after
    → IfSome before (λ x. IfSome after (λ y. after_taken ++ y ≡ taken ++ x))
same_row taken after_taken frame None after added first = tt
same_row taken after_taken frame (Some []) after added first = absurd (nothing frame first)
same_row taken after_taken frame (Some (x ∷ rest)) None added first = tt
same_row taken after_taken frame (Some (x ∷ rest)) (Some y) added first =
    let same : frame ≡ x = found_is frame x first.0 in
    let left : y ≡ rest = some_is y rest first.1 in
    rw (added, same, left) (append_assoc taken (x ∷ []) rest)

-- of frames that spell packets there are as many as packets
pub meant_many : (sent : List (List ℕ)) → AllByRecursion IsSpelled sent → length (meant_in sent) ≡ length sent
meant_many [] all = refl
meant_many (frame ∷ sent) ((p, rules, spells), rest) =
    ap length (flat_map-cons meant frame sent ∙ ap (λ (l : List frames.Packet). l ++ meant_in sent) (meant_spelled frame p rules spells))
    ∙ ap suc (meant_many sent rest)
