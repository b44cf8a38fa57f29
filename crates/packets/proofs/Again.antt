-- A payload that spells a packet says that packet.
use Rattle.std.proofs.Common.{◌≡◌, ℕ, ◌+◌, ◌-◌, ◌*◌, ◌/◌, ◌%◌, ◌^◌, ◌<◌, ◌≤◌, Bool, true, false, eqb, ltb, ◌&&◌, List, ◌++◌, length, Ok, refl, ap, ◌∙◌, arith}
use Rattle.std.proofs.lemmas.Bool.Decides.{nat_tests}
use Rattle.std.proofs.lemmas.List.{length-append, drop_at}
use Rattle.blocks.specs.declared.block.Block.{Block}
use Rattle.blocks.specs.declared.command.Command.TheVariants as command
use Rattle.blocks.specs.declared.settings.Protocol.TheVariants.{A, B, C}
use Rattle.packets.specs.declared.packet.Acknowledgement.{Acknowledgement}
use Rattle.packets.specs.declared.packet.Packet.{Packet}
use Rattle.packets.specs.declared.packet.Packet.TheVariants as packet
use Rattle.packets.specs.Numbers.{number_in, number_bytes}
use Rattle.packets.specs.Table.{command_of, is_length, is_blocks}
use Rattle.packets.specs.Spelling.{payload, acknowledgement_bytes, NamesWrite, NamesResync, FitsAcknowledgement, IsSpellable, FitsFields}
use Rattle.packets.specs.Reading.{data_at, rs_data_at, barrier_at, acknowledgement_at, names_write, names_resync, payload_at}
use Rattle.packets.proofs.Lengths.{payload_length}
use Rattle.packets.proofs.Widths.{number_bytes_length, number_in_front}
use Rattle.packets.proofs.Digits.{number_again, number_last, number_only}

-- two numbers, one after the other
record AreTwo (u v m n : ℕ) : Type 0 where
  first : number_in u 0 (number_bytes u m ++ number_bytes v n) ≡ m
  second : number_in v u (number_bytes u m ++ number_bytes v n) ≡ n
  long : length (number_bytes u m ++ number_bytes v n) ≡ u + v

two : (u v m n : ℕ) → m < 256 ^ u → n < 256 ^ v → AreTwo u v m n
two u v m n hm hn =
    let len = number_bytes_length u m in
    record {
      first = number_in_front u 0 (number_bytes u m) (number_bytes v n) (omega (arith, len)) ∙ number_only u m hm;
      second = number_last v u n (number_bytes u m) len hn;
      long = length-append (number_bytes u m) (number_bytes v n) ∙ omega (arith, len, number_bytes_length v n);
    }

-- two words of eight bytes, and two more numbers after them
words : ℕ → ℕ → ℕ → ℕ → ℕ → List ℕ
words w a b c d = number_bytes 8 a ++ number_bytes 8 b ++ number_bytes w c ++ number_bytes w d

record AreFour (w a b c d : ℕ) : Type 0 where
  first : number_in 8 0 (words w a b c d) ≡ a
  second : number_in 8 8 (words w a b c d) ≡ b
  third : number_in w 16 (words w a b c d) ≡ c
  fourth : number_in w (16 + w) (words w a b c d) ≡ d
  long : length (words w a b c d) ≡ 16 + (w + w)

four : (w a b c d : ℕ) → a < 2 ^ 64 → b < 2 ^ 64 → c < 256 ^ w → d < 256 ^ w → AreFour w a b c d
unfolding words
four w a b c d ha hb hc hd =
    let ab = number_bytes 8 a ++ number_bytes 8 b in
    let abc = ab ++ number_bytes w c in
    let t = two 8 8 a b ha hb in
    let long : length abc ≡ 16 + w = length-append ab (number_bytes w c) ∙ omega (arith, t.long, number_bytes_length w c) in
    record {
      first = number_in_front 8 0 abc (number_bytes w d) (omega (arith, long)) ∙ number_in_front 8 0 ab (number_bytes w c) (omega (arith, t.long)) ∙ t.first;
      second = number_in_front 8 8 abc (number_bytes w d) (omega (arith, long)) ∙ number_in_front 8 8 ab (number_bytes w c) (omega (arith, t.long)) ∙ t.second;
      third = number_again w 16 c ab (number_bytes w d) t.long hc;
      fourth = number_last w (16 + w) d abc long hd;
      long = length-append abc (number_bytes w d) ∙ omega (arith, long, number_bytes_length w d);
    }

both : (a b : Bool) → a ≡ true → b ≡ true → (a && b) ≡ true
both true b e f = f
both false b e f = absurd cc

blocks_are : (bytes : ℕ) → 0 < bytes → bytes ≤ 131072 → 4096 * (bytes / 4096) ≡ bytes → is_blocks bytes ≡ true
blocks_are bytes some few even =
    let rest : bytes % 4096 ≡ 0 = omega (arith, even) in
    both (ltb 0 bytes && ltb bytes 131073) (eqb (bytes % 4096) 0)
    (both (ltb 0 bytes) (ltb bytes 131073) (grind (arith, nat_tests)) (grind (arith, nat_tests)))
    (grind (arith, nat_tests))

-- the tests of the two first fields of a write
write_tests : (first number : ℕ) → 0 < number → (eqb (8 * first % 8) 0 && ltb 0 number) ≡ true
write_tests first number some =
    let rest : 8 * first % 8 ≡ 0 = omega arith in
    both (eqb (8 * first % 8) 0) (ltb 0 number) (grind (arith, nat_tests)) (grind (arith, nat_tests))

data_again : (first : Block) (number place : ℕ) (contents : List ℕ) → IsSpellable (packet.Data first number place contents) → number < 2 ^ 64 → place < 2 ^ 32
    → data_at (payload (packet.Data first number place contents)) ≡ Ok (packet.Data first number place contents)
unfolding data_at words
data_again first number place contents rules fn fp =
    let front = words 4 (8 * first.0) number place 0 in
    let f = four 4 (8 * first.0) number place 0 rules.0 fn fp (omega arith) in
    let a = number_in_front 8 0 front contents (omega (arith, f.long)) ∙ f.first in
    let b = number_in_front 8 8 front contents (omega (arith, f.long)) ∙ f.second in
    let c = number_in_front 4 16 front contents (omega (arith, f.long)) ∙ f.third in
    let d = number_in_front 4 20 front contents (omega (arith, f.long)) ∙ f.fourth in
    let r = drop_at front contents 24 f.long in
    let t = write_tests first.0 number rules.1 in
    let block : 8 * first.0 / 8 ≡ first.0 = omega arith in
    rw (a, b, c, d, r, t, block) refl

rs_data_again : (first : Block) (place : ℕ) (contents : List ℕ) → 8 * first.0 < 2 ^ 64 → place < 2 ^ 32
    → rs_data_at (payload (packet.RsDataReply first place contents)) ≡ Ok (packet.RsDataReply first place contents)
unfolding rs_data_at words
rs_data_again first place contents rules fp =
    let front = words 4 (8 * first.0) 0 place 0 in
    let f = four 4 (8 * first.0) 0 place 0 rules (omega arith) fp (omega arith) in
    let a = number_in_front 8 0 front contents (omega (arith, f.long)) ∙ f.first in
    let b = number_in_front 8 8 front contents (omega (arith, f.long)) ∙ f.second in
    let c = number_in_front 4 16 front contents (omega (arith, f.long)) ∙ f.third in
    let d = number_in_front 4 20 front contents (omega (arith, f.long)) ∙ f.fourth in
    let r = drop_at front contents 24 f.long in
    let rest : 8 * first.0 % 8 ≡ 0 = omega arith in
    let block : 8 * first.0 / 8 ≡ first.0 = omega arith in
    rw (a, b, c, d, r, rest, block) refl

-- the numbers of an acknowledgement are read again
acknowledgement_again : (ack : Acknowledgement) → 8 * ack.first.0 < 2 ^ 64 → ack.count ≤ 32 → FitsAcknowledgement ack
    → acknowledgement_at (acknowledgement_bytes ack) ≡ ack
unfolding acknowledgement_at words
acknowledgement_again ack sector few fits =
    let f = four 4 (8 * ack.first.0) ack.number (4096 * ack.count) ack.place sector fits.0 (omega arith) fits.1 in
    let block : 8 * ack.first.0 / 8 ≡ ack.first.0 = omega arith in
    let blocks : 4096 * ack.count / 4096 ≡ ack.count = omega arith in
    rw (f.first, f.second, f.third, f.fourth, block, blocks) refl

write_named : (ack : Acknowledgement) → NamesWrite ack → FitsAcknowledgement ack → names_write (acknowledgement_bytes ack) ≡ true
unfolding names_write words
write_named ack names fits =
    let f = four 4 (8 * ack.first.0) ack.number (4096 * ack.count) ack.place names.0 fits.0 (omega (arith, names.3)) fits.1 in
    let t = write_tests ack.first.0 ack.number names.1 in
    let size = blocks_are (4096 * ack.count) (omega (arith, names.2)) (omega (arith, names.3)) (omega arith) in
    rw (f.first, f.second, f.third, t, size) refl

resync_named : (ack : Acknowledgement) → NamesResync ack → FitsAcknowledgement ack → names_resync (acknowledgement_bytes ack) ≡ true
unfolding names_resync words
resync_named ack names fits =
    let f = four 4 (8 * ack.first.0) ack.number (4096 * ack.count) ack.place names.0 fits.0 (omega (arith, names.2)) fits.1 in
    let rest : 8 * ack.first.0 % 8 ≡ 0 = omega arith in
    rw (f.first, f.second, f.third, rest, names.1, names.2) refl

pub payload_again : (p : Packet) → IsSpellable p → FitsFields p → payload_at (command_of p) (payload p) ≡ Ok p
unfolding payload_at barrier_at words
payload_again (packet.Protocol A) rules fields = rw (number_only 4 1 (omega arith)) refl
payload_again (packet.Protocol B) rules fields = rw (number_only 4 2 (omega arith)) refl
payload_again (packet.Protocol C) rules fields = rw (number_only 4 3 (omega arith)) refl
payload_again (packet.Sizes blocks) rules fields = rw (number_only 8 blocks fields) refl
payload_again (packet.Uuids t) rules fields =
    let f = four 8 t.current t.bitmap t.first_historical t.second_historical fields.0 fields.1 fields.2 fields.3 in
    rw (f.first, f.second, f.third, f.fourth) refl
payload_again (packet.Data first number place contents) rules fields = data_again first number place contents rules fields.0 fields.1
payload_again (packet.RsDataReply first place contents) rules fields = rs_data_again first place contents rules.0 fields
payload_again (packet.Barrier number) rules fields =
    let t = two 4 4 number 0 fields (omega arith) in
    rw (t.first, t.second) refl
payload_again (packet.SyncUuid word) rules fields = rw (number_only 8 word fields) refl
payload_again (packet.RecvAck ack) rules fields = rw (write_named ack rules fields, acknowledgement_again ack rules.0 rules.3 fields) refl
payload_again (packet.WriteAck ack) rules fields = rw (write_named ack rules fields, acknowledgement_again ack rules.0 rules.3 fields) refl
payload_again (packet.RsWriteAck ack) rules fields =
    rw (resync_named ack rules fields, acknowledgement_again ack rules.0 (omega (arith, rules.2)) fields) refl
payload_again (packet.BarrierAck number size) rules fields =
    let t = two 4 4 number size fields.0 fields.1 in
    rw (t.first, t.second) refl

-- a packet's payload is as long as its row allows
pub payload_row : (p : Packet) → IsSpellable p → is_length (command_of p) (length (payload p)) ≡ true
payload_row (packet.Protocol protocol) rules = ap (λ (n : ℕ). eqb n 4) (payload_length (packet.Protocol protocol))
payload_row (packet.Sizes blocks) rules = ap (λ (n : ℕ). eqb n 8) (payload_length (packet.Sizes blocks))
payload_row (packet.Uuids t) rules = ap (λ (n : ℕ). eqb n 32) (payload_length (packet.Uuids t))
payload_row (packet.Data first number place contents) rules =
    let len = length contents in
    let rest : 24 + len - 24 ≡ len = omega arith in
    ap (is_length command.Data) (payload_length (packet.Data first number place contents))
    ∙ both (ltb 24 (24 + len)) (is_blocks (24 + len - 24))
    (grind (arith, nat_tests, rules.2))
    (ap is_blocks rest ∙ blocks_are len rules.2 rules.3 rules.4)
payload_row (packet.RsDataReply first place contents) rules =
    ap (λ (n : ℕ). eqb n 4120) (payload_length (packet.RsDataReply first place contents) ∙ ap (λ (n : ℕ). 24 + n) rules.1)
payload_row (packet.Barrier number) rules = ap (λ (n : ℕ). eqb n 8) (payload_length (packet.Barrier number))
payload_row (packet.SyncUuid word) rules = ap (λ (n : ℕ). eqb n 8) (payload_length (packet.SyncUuid word))
payload_row (packet.RecvAck ack) rules = ap (λ (n : ℕ). eqb n 24) (payload_length (packet.RecvAck ack))
payload_row (packet.WriteAck ack) rules = ap (λ (n : ℕ). eqb n 24) (payload_length (packet.WriteAck ack))
payload_row (packet.RsWriteAck ack) rules = ap (λ (n : ℕ). eqb n 24) (payload_length (packet.RsWriteAck ack))
payload_row (packet.BarrierAck number size) rules = ap (λ (n : ℕ). eqb n 8) (payload_length (packet.BarrierAck number size))
