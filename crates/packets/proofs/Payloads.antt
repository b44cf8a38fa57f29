-- What a payload says is spelled so, and what is spelled so is said.
use Rattle.std.proofs.Common.{◌≡◌, ℕ, ◌-◌, ◌*◌, ◌/◌, ◌%◌, ◌<◌, ◌≤◌, Bool, true, false, cond, eqb, ltb, ◌&&◌, ◌⊎◌, List, ◌++◌, length, take, drop, Result, Ok}
use Rattle.std.proofs.Common.{Err, refl, sym, ap, ◌∙◌, subst, arith, inl, inr}
use Rattle.std.proofs.lemmas.Bool.{eqb-true, ltb-true}
use Rattle.std.proofs.lemmas.List.{length-drop, take-append-drop, take_all}
use Rattle.blocks.specs.declared.command.Command.{Command}
use Rattle.blocks.specs.declared.command.Command.TheVariants as command
use Rattle.blocks.specs.declared.refusal.Refusal.{Refusal}
use Rattle.blocks.specs.declared.refusal.Refusal.TheVariants.{BadField}
use Rattle.blocks.specs.declared.settings.Protocol.{Protocol}
use Rattle.blocks.specs.declared.settings.Protocol.TheVariants.{A, B, C}
use Rattle.packets.specs.declared.packet.Acknowledgement.{Acknowledgement}
use Rattle.packets.specs.declared.packet.Packet.{Packet}
use Rattle.packets.specs.declared.packet.Packet.TheVariants as packet
use Rattle.packets.specs.Numbers.{number_in, number_bytes}
use Rattle.packets.specs.Table.{command_of, is_length, is_blocks}
use Rattle.packets.specs.Spelling.{payload, protocol_number, acknowledgement_bytes, NamesWrite, NamesResync, FitsAcknowledgement, IsSpellable, FitsFields}
use Rattle.packets.specs.Reading.{checked, protocol_at, uuids_at, data_at, rs_data_at, barrier_at, acknowledgement_at, names_write, names_resync, payload_at}
use Rattle.packets.proofs.Rows.{passed}
use Rattle.packets.proofs.Digits.{IsBytes, number_fits, number_taken, number_first}

-- a packet that a payload says
pub record Says (c : Command) (bytes : List ℕ) (p : Packet) : Type 0 where
  pub rules : IsSpellable p
  pub fields : FitsFields p
  pub named : command_of p ≡ c
  pub spelled : payload p ≡ bytes

abbrev found : Packet → Result Packet Refusal
found p = Ok p

found_is : (p q : Packet) → found p ≡ found q → p ≡ q
found_is p q e = cc

-- a list as long as it is wide
whole : (n : ℕ) (bytes : List ℕ) → length bytes ≡ n → take n bytes ≡ bytes
whole n bytes len = take_all n bytes (omega (arith, len))

both : (a b : Bool) → (a && b) ≡ true → (a ≡ true) × (b ≡ true)
both true b e = (refl, e)
both false b e = absurd cc

chosen : (b : Bool) (x y z : Result Packet Refusal) → cond b x y ≡ z → ((b ≡ true) × (x ≡ z)) ⊎ ((b ≡ false) × (y ≡ z))
chosen true x y z e = inl (refl, e)
chosen false x y z e = inr (refl, e)

-- the payload of a protocol that has this number
protocol_spelled : (bytes : List ℕ) (protocol : Protocol) (p : Packet) → IsBytes bytes → length bytes ≡ 4 → number_in 4 0 bytes ≡ protocol_number protocol
    → found (packet.Protocol protocol) ≡ found p → Says command.Protocol bytes p
protocol_spelled bytes protocol p h len n e =
    let spelled : number_bytes 4 (protocol_number protocol) ≡ bytes =
    ap (number_bytes 4) (sym n) ∙ number_first 4 bytes h (omega (arith, len)) ∙ whole 4 bytes len in
    subst (Says command.Protocol bytes) (found_is (packet.Protocol protocol) p e) (record { rules = tt; fields = tt; named = refl; spelled = spelled })

protocol_says : (bytes : List ℕ) (p : Packet) → IsBytes bytes → length bytes ≡ 4 → protocol_at (number_in 4 0 bytes) ≡ Ok p → Says command.Protocol bytes p
protocol_says bytes p h len e =
    let n = number_in 4 0 bytes in
    let third : Result Packet Refusal = cond (eqb n 3) (Ok (packet.Protocol C)) (Err BadField) in
    let second : Result Packet Refusal = cond (eqb n 2) (Ok (packet.Protocol B)) third in
    elim (chosen (eqb n 1) (Ok (packet.Protocol A)) second (Ok p) e) [
      | inl a ↦ protocol_spelled bytes A p h len (eqb-true _ _ a.0) a.1
      | inr a ↦ elim (chosen (eqb n 2) (Ok (packet.Protocol B)) third (Ok p) a.1) [
        | inl b ↦ protocol_spelled bytes B p h len (eqb-true _ _ b.0) b.1
        | inr b ↦ let c = passed (eqb n 3) (packet.Protocol C) p BadField b.1 in
            protocol_spelled bytes C p h len (eqb-true _ _ c.0) (ap found c.1)
      ]
    ]

sizes_says : (bytes : List ℕ) → IsBytes bytes → length bytes ≡ 8 → Says command.Sizes bytes (packet.Sizes (number_in 8 0 bytes))
sizes_says bytes h len = record {
  rules = tt;
  fields = number_fits 8 0 bytes h;
  named = refl;
  spelled = number_first 8 bytes h (omega (arith, len)) ∙ whole 8 bytes len;
}

uuids_says : (bytes : List ℕ) → IsBytes bytes → length bytes ≡ 32 → Says command.Uuids bytes (uuids_at bytes)
uuids_says bytes h len =
    let first = number_first 8 bytes h (omega (arith, len)) in
    let second = number_taken 8 8 bytes h (omega (arith, len)) in
    let third = number_taken 8 16 bytes h (omega (arith, len)) in
    let fourth = number_taken 8 24 bytes h (omega (arith, len)) in
    record {
      rules = tt;
      fields = (number_fits 8 0 bytes h, number_fits 8 8 bytes h, number_fits 8 16 bytes h, number_fits 8 24 bytes h);
      named = refl;
      spelled = rw (first, second, third, fourth) (whole 32 bytes len);
    }

barrier_ack_says : (bytes : List ℕ) → IsBytes bytes → length bytes ≡ 8
    → Says command.BarrierAck bytes (packet.BarrierAck (number_in 4 0 bytes) (number_in 4 4 bytes))
barrier_ack_says bytes h len =
    let first = number_first 4 bytes h (omega (arith, len)) in
    let second = number_taken 4 4 bytes h (omega (arith, len)) in
    record {
      rules = tt;
      fields = (number_fits 4 0 bytes h, number_fits 4 4 bytes h);
      named = refl;
      spelled = rw (first, second) (whole 8 bytes len);
    }

barrier_says : (bytes : List ℕ) (p : Packet) → IsBytes bytes → length bytes ≡ 8 → barrier_at bytes ≡ Ok p → Says command.Barrier bytes p
unfolding barrier_at
barrier_says bytes p h len e =
    let number = number_in 4 0 bytes in
    let g = passed (eqb (number_in 4 4 bytes) 0) (packet.Barrier number) p BadField e in
    let none : number_in 4 4 bytes ≡ 0 = eqb-true _ _ g.0 in
    let first = number_first 4 bytes h (omega (arith, len)) in
    let second = number_taken 4 4 bytes h (omega (arith, len)) in
    let spelled : number_bytes 4 number ++ number_bytes 4 0 ≡ bytes =
    ap (λ (n : ℕ). number_bytes 4 number ++ number_bytes 4 n) (sym none) ∙ rw (first, second) (whole 8 bytes len) in
    subst (Says command.Barrier bytes) g.1 (record {
      rules = tt;
      fields = number_fits 4 0 bytes h;
      named = refl;
      spelled = spelled;
    })

-- a size that passed the test of whole blocks
record AreBlocks (bytes : ℕ) : Type 0 where
  some : 0 < bytes
  few : bytes ≤ 131072
  even : 4096 * (bytes / 4096) ≡ bytes

blocks_are : (bytes : ℕ) → is_blocks bytes ≡ true → AreBlocks bytes
blocks_are bytes e =
    let outer = both (ltb 0 bytes && ltb bytes 131073) (eqb (bytes % 4096) 0) e in
    let inner = both (ltb 0 bytes) (ltb bytes 131073) outer.0 in
    let some = ltb-true 0 bytes inner.0 in
    let few = ltb-true bytes 131073 inner.1 in
    let even = eqb-true (bytes % 4096) 0 outer.1 in
    record { some = some; few = omega (arith, few); even = omega (arith, even) }

-- an acknowledgement that bytes say, and that they spell it
record SaysAcknowledgement (Names : Acknowledgement → Type 0) (bytes : List ℕ) : Type 0 where
  names : Names (acknowledgement_at bytes)
  fields : FitsAcknowledgement (acknowledgement_at bytes)
  spelled : acknowledgement_bytes (acknowledgement_at bytes) ≡ bytes

-- bytes whose sector is a block's first and whose size is of whole blocks spell what they say
acknowledgement_spelled : (bytes : List ℕ) → IsBytes bytes → length bytes ≡ 24 → number_in 8 0 bytes % 8 ≡ 0
    → 4096 * (number_in 4 16 bytes / 4096) ≡ number_in 4 16 bytes
    → FitsAcknowledgement (acknowledgement_at bytes) × (acknowledgement_bytes (acknowledgement_at bytes) ≡ bytes)
unfolding acknowledgement_at
acknowledgement_spelled bytes h len even size =
    let sector = number_in 8 0 bytes in
    let back : 8 * (sector / 8) ≡ sector = omega (arith, even) in
    let first = number_first 8 bytes h (omega (arith, len)) in
    let second = number_taken 8 8 bytes h (omega (arith, len)) in
    let third = number_taken 4 16 bytes h (omega (arith, len)) in
    let fourth = number_taken 4 20 bytes h (omega (arith, len)) in
    ((number_fits 8 8 bytes h, number_fits 4 20 bytes h), rw (back, size, first, second, third, fourth) (whole 24 bytes len))

write_said : (bytes : List ℕ) → IsBytes bytes → length bytes ≡ 24 → names_write bytes ≡ true → SaysAcknowledgement NamesWrite bytes
unfolding names_write acknowledgement_at
write_said bytes h len e =
    let sector = number_in 8 0 bytes in
    let number = number_in 8 8 bytes in
    let size = number_in 4 16 bytes in
    let tests = both (eqb (sector % 8) 0 && ltb 0 number) (is_blocks size) e in
    let front = both (eqb (sector % 8) 0) (ltb 0 number) tests.0 in
    let even = eqb-true (sector % 8) 0 front.0 in
    let some = ltb-true 0 number front.1 in
    let blocks = blocks_are size tests.1 in
    let fits = number_fits 8 0 bytes h in
    let s = acknowledgement_spelled bytes h len even blocks.even in
    record {
      names = (omega (arith, even, fits), some, omega (arith, blocks.some, blocks.even), omega (arith, blocks.few));
      fields = s.0;
      spelled = s.1;
    }

resync_said : (bytes : List ℕ) → IsBytes bytes → length bytes ≡ 24 → names_resync bytes ≡ true → SaysAcknowledgement NamesResync bytes
unfolding names_resync acknowledgement_at
resync_said bytes h len e =
    let sector = number_in 8 0 bytes in
    let number = number_in 8 8 bytes in
    let size = number_in 4 16 bytes in
    let tests = both (eqb (sector % 8) 0 && eqb number 0) (eqb size 4096) e in
    let front = both (eqb (sector % 8) 0) (eqb number 0) tests.0 in
    let even = eqb-true (sector % 8) 0 front.0 in
    let none = eqb-true number 0 front.1 in
    let one = eqb-true size 4096 tests.1 in
    let fits = number_fits 8 0 bytes h in
    let s = acknowledgement_spelled bytes h len even (omega (arith, one)) in
    record {
      names = (omega (arith, even, fits), none, omega (arith, one));
      fields = s.0;
      spelled = s.1;
    }

recv_ack_says : (bytes : List ℕ) (p : Packet) → IsBytes bytes → length bytes ≡ 24
    → checked (names_write bytes) (packet.RecvAck (acknowledgement_at bytes)) ≡ Ok p → Says command.RecvAck bytes p
recv_ack_says bytes p h len e =
    let g = passed (names_write bytes) (packet.RecvAck (acknowledgement_at bytes)) p BadField e in
    let s = write_said bytes h len g.0 in
    subst (Says command.RecvAck bytes) g.1 (record { rules = s.names; fields = s.fields; named = refl; spelled = s.spelled })

write_ack_says : (bytes : List ℕ) (p : Packet) → IsBytes bytes → length bytes ≡ 24
    → checked (names_write bytes) (packet.WriteAck (acknowledgement_at bytes)) ≡ Ok p → Says command.WriteAck bytes p
write_ack_says bytes p h len e =
    let g = passed (names_write bytes) (packet.WriteAck (acknowledgement_at bytes)) p BadField e in
    let s = write_said bytes h len g.0 in
    subst (Says command.WriteAck bytes) g.1 (record { rules = s.names; fields = s.fields; named = refl; spelled = s.spelled })

rs_write_ack_says : (bytes : List ℕ) (p : Packet) → IsBytes bytes → length bytes ≡ 24
    → checked (names_resync bytes) (packet.RsWriteAck (acknowledgement_at bytes)) ≡ Ok p → Says command.RsWriteAck bytes p
rs_write_ack_says bytes p h len e =
    let g = passed (names_resync bytes) (packet.RsWriteAck (acknowledgement_at bytes)) p BadField e in
    let s = resync_said bytes h len g.0 in
    subst (Says command.RsWriteAck bytes) g.1 (record { rules = s.names; fields = s.fields; named = refl; spelled = s.spelled })

data_says : (bytes : List ℕ) (p : Packet) → IsBytes bytes → is_length command.Data (length bytes) ≡ true → data_at bytes ≡ Ok p → Says command.Data bytes p
unfolding data_at
data_says bytes p h row e =
    let sector = number_in 8 0 bytes in
    let number = number_in 8 8 bytes in
    let place = number_in 4 16 bytes in
    let flags = number_in 4 20 bytes in
    let contents = drop 24 bytes in
    let made = packet.Data (record { 0 = sector / 8 }) number place contents in
    let g = passed ((eqb (sector % 8) 0 && ltb 0 number) && eqb flags 0) made p BadField e in
    let tests = both (eqb (sector % 8) 0 && ltb 0 number) (eqb flags 0) g.0 in
    let front = both (eqb (sector % 8) 0) (ltb 0 number) tests.0 in
    let even = eqb-true (sector % 8) 0 front.0 in
    let some = ltb-true 0 number front.1 in
    let none = eqb-true flags 0 tests.1 in
    let rows = both (ltb 24 (length bytes)) (is_blocks (length bytes - 24)) row in
    let long = ltb-true 24 (length bytes) rows.0 in
    let blocks = blocks_are (length bytes - 24) rows.1 in
    let len : length contents ≡ length bytes - 24 = length-drop 24 bytes in
    let back : 8 * (sector / 8) ≡ sector = omega (arith, even) in
    let fits = number_fits 8 0 bytes h in
    let first = number_first 8 bytes h (omega (arith, long)) in
    let second = number_taken 8 8 bytes h (omega (arith, long)) in
    let third = number_taken 4 16 bytes h (omega (arith, long)) in
    let fourth = number_taken 4 20 bytes h (omega (arith, long)) in
    let spelled : payload made ≡ bytes = rw back
    (ap (λ (n : ℕ). number_bytes 8 sector ++ number_bytes 8 number ++ number_bytes 4 place ++ number_bytes 4 n ++ contents) (sym none)
    ∙ rw (first, second, third, fourth) (take-append-drop 24 bytes)) in
    subst (Says command.Data bytes) g.1 (record {
      rules = (omega (arith, back, fits), some, omega (arith, len, long), omega (arith, len, blocks.few), rw len blocks.even);
      fields = (number_fits 8 8 bytes h, number_fits 4 16 bytes h);
      named = refl;
      spelled = spelled;
    })

rs_data_says : (bytes : List ℕ) (p : Packet) → IsBytes bytes → length bytes ≡ 4120 → rs_data_at bytes ≡ Ok p → Says command.RsDataReply bytes p
unfolding rs_data_at
rs_data_says bytes p h len e =
    let sector = number_in 8 0 bytes in
    let number = number_in 8 8 bytes in
    let place = number_in 4 16 bytes in
    let flags = number_in 4 20 bytes in
    let contents = drop 24 bytes in
    let made = packet.RsDataReply (record { 0 = sector / 8 }) place contents in
    let g = passed ((eqb (sector % 8) 0 && eqb number 0) && eqb flags 0) made p BadField e in
    let tests = both (eqb (sector % 8) 0 && eqb number 0) (eqb flags 0) g.0 in
    let front = both (eqb (sector % 8) 0) (eqb number 0) tests.0 in
    let even = eqb-true (sector % 8) 0 front.0 in
    let zero = eqb-true number 0 front.1 in
    let none = eqb-true flags 0 tests.1 in
    let back : 8 * (sector / 8) ≡ sector = omega (arith, even) in
    let fits = number_fits 8 0 bytes h in
    let first = number_first 8 bytes h (omega (arith, len)) in
    let second = number_taken 8 8 bytes h (omega (arith, len)) in
    let third = number_taken 4 16 bytes h (omega (arith, len)) in
    let fourth = number_taken 4 20 bytes h (omega (arith, len)) in
    let spelled : payload made ≡ bytes = rw back
    (ap (λ (n : ℕ). number_bytes 8 sector ++ number_bytes 8 n ++ number_bytes 4 place ++ number_bytes 4 0 ++ contents) (sym zero)
    ∙ ap (λ (n : ℕ). number_bytes 8 sector ++ number_bytes 8 number ++ number_bytes 4 place ++ number_bytes 4 n ++ contents) (sym none)
    ∙ rw (first, second, third, fourth) (take-append-drop 24 bytes)) in
    subst (Says command.RsDataReply bytes) g.1 (record {
      rules = (omega (arith, back, fits), omega (arith, len, length-drop 24 bytes));
      fields = number_fits 4 16 bytes h;
      named = refl;
      spelled = spelled;
    })

sync_uuid_says : (bytes : List ℕ) → IsBytes bytes → length bytes ≡ 8 → Says command.SyncUuid bytes (packet.SyncUuid (number_in 8 0 bytes))
sync_uuid_says bytes h len = record {
  rules = tt;
  fields = number_fits 8 0 bytes h;
  named = refl;
  spelled = number_first 8 bytes h (omega (arith, len)) ∙ whole 8 bytes len;
}

pub payload_says : (c : Command) (bytes : List ℕ) (p : Packet) → IsBytes bytes → is_length c (length bytes) ≡ true → payload_at c bytes ≡ Ok p → Says c bytes p
unfolding payload_at
payload_says command.Data bytes p h row e = data_says bytes p h row e
payload_says command.RsDataReply bytes p h row e = rs_data_says bytes p h (eqb-true _ _ row) e
payload_says command.Barrier bytes p h row e = barrier_says bytes p h (eqb-true _ _ row) e
payload_says command.Protocol bytes p h row e = protocol_says bytes p h (eqb-true _ _ row) e
payload_says command.Uuids bytes p h row e = subst (Says command.Uuids bytes) (found_is _ p e) (uuids_says bytes h (eqb-true _ _ row))
payload_says command.Sizes bytes p h row e = subst (Says command.Sizes bytes) (found_is _ p e) (sizes_says bytes h (eqb-true _ _ row))
payload_says command.SyncUuid bytes p h row e = subst (Says command.SyncUuid bytes) (found_is _ p e) (sync_uuid_says bytes h (eqb-true _ _ row))
payload_says command.RecvAck bytes p h row e = recv_ack_says bytes p h (eqb-true _ _ row) e
payload_says command.WriteAck bytes p h row e = write_ack_says bytes p h (eqb-true _ _ row) e
payload_says command.RsWriteAck bytes p h row e = rs_write_ack_says bytes p h (eqb-true _ _ row) e
payload_says command.BarrierAck bytes p h row e = subst (Says command.BarrierAck bytes) (found_is _ p e) (barrier_ack_says bytes h (eqb-true _ _ row))
