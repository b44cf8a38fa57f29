-- A spelling is read as its packet, whatever hello goes on; and what the header and the fields say of a fault.
use Rattle.std.proofs.Common.{◌≡◌, ℕ, ◌+◌, Bool, true, false, List, length, drop, Option, Some, None, Result, Ok, Err, refl, sym, ap, ◌∙◌, arith}
use Rattle.std.proofs.lemmas.Bool.Decides.{nat_tests}
use Rattle.std.specs.Prelude.{◌==◌, nat_le, IfOk, IfErr}
use Rattle.blocks.specs.declared.command.Command.{Command}
use Rattle.blocks.specs.declared.refusal.Refusal.{Refusal}
use Rattle.blocks.specs.declared.refusal.Refusal.TheVariants.{BadField}
use Rattle.packets.specs.declared.header.Header.{Header}
use Rattle.packets.specs.declared.packet.Packet.{Packet}
use Rattle.packets.specs.Numbers.{number_in}
use Rattle.packets.specs.Table.{number_of}
use Rattle.packets.specs.Reading.{payload_at}
use Rattle.packets.specs.Headed.{IsHeaded, is_awaited}
use Rattle.packets.specs.Spelling.{payload, IsSpellable, Spells}
use Rattle.packets.specs.Frames.{frame_read, in_hello, is_expected, fault_in_hello, IsFrameFault, Answers}
use Rattle.packets.proofs.Frames.{spelled_reads, header_number}
use Rattle.packets.proofs.Steps.{answers_payload}

pub frame_read_spelled : (frame : List ℕ) (p : Packet) → IsSpellable p → Spells p frame → frame_read frame ≡ Ok p
unfolding frame_read
frame_read_spelled frame p rules s =
    let r = spelled_reads frame p rules s in
    let long : nat_le 8 (length frame) ≡ true = grind (arith, nat_tests, r.1) in
    let whole : (length frame == 8 + length (payload p)) ≡ true = grind (arith, nat_tests, r.1) in
    rw (long, r.0, whole, r.2) refl

pub read_spelled : (hello : Option Command) (frame : List ℕ) (p : Packet) → IsSpellable p → Spells p frame → in_hello hello frame (frame_read frame) ≡ Ok p
read_spelled hello frame p rules s = ap (in_hello hello frame) (frame_read_spelled frame p rules s)

-- a hello expects a frame by its header's command
pub awaited_is : (hello : Option Command) (frame : List ℕ) (h : Header) → IsHeaded h frame → is_expected hello frame ≡ is_awaited hello h.command
awaited_is None frame h headed = refl
awaited_is (Some expected) frame h headed =
    let long : nat_le 4 (length frame) ≡ true = grind (arith, nat_tests, headed.whole) in
    let number : number_of h.command ≡ number_in 2 2 frame = header_number frame h headed.judged in
    rw (long, number) refl

-- a fault that is none of a field is the answer in each hello
pub other_fault : (expected : Bool) (e : Refusal) → (e ≡ BadField → ⊥) → fault_in_hello expected e ≡ e
other_fault true e other = refl
other_fault false BadField other = absurd (other refl)
other_fault false e other = refl

-- a frame is read as its payload, once its header is judged
pub frame_read_headed : (frame : List ℕ) (h : Header) → IsHeaded h frame → frame_read frame ≡ payload_at h.command (drop 8 frame)
unfolding frame_read
frame_read_headed frame h headed =
    let long : nat_le 8 (length frame) ≡ true = grind (arith, nat_tests, headed.whole) in
    let whole : (length frame == 8 + h.len) ≡ true = grind (arith, nat_tests, headed.whole) in
    rw (long, headed.judged, whole) refl

-- the answer that a payload gives
pub answers_headed : (frame : List ℕ) (h : Header) (r : Result Packet Refusal) → IsHeaded h frame → r ≡ payload_at h.command (drop 8 frame) → Answers frame r
answers_headed frame h r headed said = answers_payload frame h r headed.bytes headed.whole headed.judged (sym said)

abbrev refused : Refusal → Result Packet Refusal
refused e = Err e

-- the answer where the fields are refused
pub fields_refused : (hello : Option Command) (frame : List ℕ) (h : Header) (fault answer : Refusal) (awaited : Bool) → IsHeaded h frame
    → refused fault ≡ payload_at h.command (drop 8 frame)
    → awaited ≡ is_awaited hello h.command → answer ≡ fault_in_hello awaited fault → refused answer ≡ in_hello hello frame (frame_read frame)
fields_refused hello frame h fault answer awaited headed said expected is =
    let same : awaited ≡ is_expected hello frame = expected ∙ sym (awaited_is hello frame h headed) in
    ap refused (is ∙ ap (λ (b : Bool). fault_in_hello b fault) same) ∙ ap (in_hello hello frame) (said ∙ sym (frame_read_headed frame h headed))

-- and where the frame is refused before its fields
pub header_refused : (hello : Option Command) (frame : List ℕ) (e : Refusal) → frame_read frame ≡ Err e → (e ≡ BadField → ⊥)
    → refused e ≡ in_hello hello frame (frame_read frame)
header_refused hello frame e read other =
    ap refused (sym (other_fault (is_expected hello frame) e other)) ∙ ap (in_hello hello frame) (sym read)

-- what an answer is, by whether it is a packet
pub answer_found : (frame : List ℕ) (r : Result Packet Refusal) → Answers frame r → IfOk r (λ p. IsSpellable p × Spells p frame)
answer_found frame (Ok p) answer = answer
answer_found frame (Err e) answer = tt

pub answer_fault : (frame : List ℕ) (r : Result Packet Refusal) → Answers frame r → IfErr r (λ e. IsFrameFault frame e)
answer_fault frame (Ok p) answer = tt
answer_fault frame (Err e) answer = answer
