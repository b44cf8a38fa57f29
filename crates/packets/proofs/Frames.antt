-- A frame that is read is spelled so, a frame that is spelled is read so, and no spelling begins another.
use Rattle.std.proofs.Common.{◌≡◌, ℕ, ◌+◌, ◌^◌, ◌<◌, ◌≤◌, Bool, true, false, cond, eqb, List, [], ◌++◌, length, take, drop, Option, Some, None, Result, Ok, Err}
use Rattle.std.proofs.Common.{refl, sym, ap, ◌∙◌, subst, arith, inl, inr}
use Rattle.std.specs.Prelude.{◌⊎◌}
use Rattle.std.proofs.lemmas.Bool.{eqb-true}
use Rattle.std.proofs.lemmas.List.{append-nil, length-append, length-drop, take-append-drop, drop_at, take_at}
use Rattle.blocks.specs.declared.command.Command.{Command}
use Rattle.blocks.specs.declared.command.Command.TheVariants as command
use Rattle.blocks.specs.declared.refusal.Refusal.{Refusal}
use Rattle.blocks.specs.declared.refusal.Refusal.TheVariants.{BadMagic, BadLength}
use Rattle.packets.specs.declared.header.Header.{Header}
use Rattle.packets.specs.declared.packet.Packet.{Packet}
use Rattle.packets.specs.declared.packet.Packet.TheVariants as packet
use Rattle.packets.specs.Numbers.{number_in, number_bytes}
use Rattle.packets.specs.Table.{magic, number_of, command_at, command_of, is_length}
use Rattle.packets.specs.Spelling.{payload, spelling, IsSpellable, FitsFields, Spells}
use Rattle.packets.specs.Reading.{row_at, header_at, payload_at}
use Rattle.packets.specs.Frames.{IsNoSpelling, IsFaultAfter, Answers}
use Rattle.packets.proofs.Again.{payload_again, payload_row}
use Rattle.packets.proofs.Digits.{IsBytes, IsBytes_drop, number_taken, number_first, number_again, number_last, number_only}
use Rattle.packets.proofs.Payloads.{payload_says}
use Rattle.packets.proofs.Rows.{passed, passed_on, header_length, header_front, length_most}
use Rattle.packets.proofs.Widths.{number_bytes_length, number_in_front}

-- ---- headers

chosen : (b : Bool) (x y z : Option Command) → cond b x y ≡ z → ((b ≡ true) × (x ≡ z)) ⊎ ((b ≡ false) × (y ≡ z))
chosen true x y z e = inl (refl, e)
chosen false x y z e = inr (refl, e)

row_number : (c d : Command) (number : ℕ) → eqb number (number_of c) ≡ true → Some c ≡ Some d → number_of d ≡ number
row_number c d number e same =
    let n : number ≡ number_of c = eqb-true _ _ e in
    let s : c ≡ d = cc in
    ap number_of (sym s) ∙ sym n

no_row : (c : Command) → None ≡ Some c → ⊥
no_row c e = cc

-- the number of the command that has a number
command_number : (number : ℕ) (c : Command) → command_at number ≡ Some c → number_of c ≡ number
command_number number c e =
    let r10 : Option Command = cond (eqb number 28) (Some command.BarrierAck) None in
    let r9 : Option Command = cond (eqb number 23) (Some command.RsWriteAck) r10 in
    let r8 : Option Command = cond (eqb number 22) (Some command.WriteAck) r9 in
    let r7 : Option Command = cond (eqb number 21) (Some command.RecvAck) r8 in
    let r6 : Option Command = cond (eqb number 15) (Some command.SyncUuid) r7 in
    let r5 : Option Command = cond (eqb number 13) (Some command.Sizes) r6 in
    let r4 : Option Command = cond (eqb number 12) (Some command.Uuids) r5 in
    let r3 : Option Command = cond (eqb number 11) (Some command.Protocol) r4 in
    let r2 : Option Command = cond (eqb number 3) (Some command.Barrier) r3 in
    let r1 : Option Command = cond (eqb number 2) (Some command.RsDataReply) r2 in
    elim (chosen (eqb number 0) (Some command.Data) r1 (Some c) e) [
      | inl x0 ↦ row_number command.Data c number x0.0 x0.1
      | inr x0 ↦ elim (chosen (eqb number 2) (Some command.RsDataReply) r2 (Some c) x0.1) [
        | inl x1 ↦ row_number command.RsDataReply c number x1.0 x1.1
        | inr x1 ↦ elim (chosen (eqb number 3) (Some command.Barrier) r3 (Some c) x1.1) [
          | inl x2 ↦ row_number command.Barrier c number x2.0 x2.1
          | inr x2 ↦ elim (chosen (eqb number 11) (Some command.Protocol) r4 (Some c) x2.1) [
            | inl x3 ↦ row_number command.Protocol c number x3.0 x3.1
            | inr x3 ↦ elim (chosen (eqb number 12) (Some command.Uuids) r5 (Some c) x3.1) [
              | inl x4 ↦ row_number command.Uuids c number x4.0 x4.1
              | inr x4 ↦ elim (chosen (eqb number 13) (Some command.Sizes) r6 (Some c) x4.1) [
                | inl x5 ↦ row_number command.Sizes c number x5.0 x5.1
                | inr x5 ↦ elim (chosen (eqb number 15) (Some command.SyncUuid) r7 (Some c) x5.1) [
                  | inl x6 ↦ row_number command.SyncUuid c number x6.0 x6.1
                  | inr x6 ↦ elim (chosen (eqb number 21) (Some command.RecvAck) r8 (Some c) x6.1) [
                    | inl x7 ↦ row_number command.RecvAck c number x7.0 x7.1
                    | inr x7 ↦ elim (chosen (eqb number 22) (Some command.WriteAck) r9 (Some c) x7.1) [
                      | inl x8 ↦ row_number command.WriteAck c number x8.0 x8.1
                      | inr x8 ↦ elim (chosen (eqb number 23) (Some command.RsWriteAck) r10 (Some c) x8.1) [
                        | inl x9 ↦ row_number command.RsWriteAck c number x9.0 x9.1
                        | inr x9 ↦ elim (chosen (eqb number 28) (Some command.BarrierAck) None (Some c) x9.1) [
                          | inl x10 ↦ row_number command.BarrierAck c number x10.0 x10.1
                          | inr x10 ↦ absurd (no_row c x10.1)
                        ]
                      ]
                    ]
                  ]
                ]
              ]
            ]
          ]
        ]
      ]
    ]

-- the bytes of a header
abbrev pub header_bytes : Command → ℕ → List ℕ
header_bytes c len = number_bytes 2 magic ++ number_bytes 2 (number_of c) ++ number_bytes 4 len

header_bytes_length : (c : Command) (len : ℕ) → length (header_bytes c len) ≡ 8
header_bytes_length c len = simp (length-append, number_bytes_length) (omega arith)

row_is : (o : Option Command) (len : ℕ) (h : Header) → row_at o len ≡ Ok h → (o ≡ Some h.command) × (len ≡ h.len)
row_is None len h e = absurd cc
row_is (Some c) len h e =
    let p = passed (is_length c len) (record { command = c; len = len }) h BadLength e in
    (ap (λ (x : Header). Some x.command) p.1, ap (λ (x : Header). x.len) p.1)

-- the number of the command of a header that is read
pub header_number : (bytes : List ℕ) (h : Header) → header_at bytes ≡ Ok h → number_of h.command ≡ number_in 2 2 bytes
unfolding header_at
header_number bytes h e =
    let p = passed_on (eqb (number_in 2 0 bytes) magic) (row_at (command_at (number_in 2 2 bytes)) (number_in 4 4 bytes)) h BadMagic e in
    let r = row_is (command_at (number_in 2 2 bytes)) (number_in 4 4 bytes) h p.1 in
    command_number (number_in 2 2 bytes) h.command r.0

-- a header that is read is spelled so
header_takes : (bytes : List ℕ) (h : Header) → IsBytes bytes → 8 ≤ length bytes → header_at bytes ≡ Ok h → take 8 bytes ≡ header_bytes h.command h.len
unfolding header_at
header_takes bytes h fits long e =
    let p = passed_on (eqb (number_in 2 0 bytes) magic) (row_at (command_at (number_in 2 2 bytes)) (number_in 4 4 bytes)) h BadMagic e in
    let r = row_is (command_at (number_in 2 2 bytes)) (number_in 4 4 bytes) h p.1 in
    let m : number_in 2 0 bytes ≡ magic = eqb-true _ _ p.0 in
    let n : number_of h.command ≡ number_in 2 2 bytes = command_number (number_in 2 2 bytes) h.command r.0 in
    let first = number_first 2 bytes fits (omega (arith, long)) in
    let second = number_taken 2 2 bytes fits (omega (arith, long)) in
    let third = number_taken 4 4 bytes fits (omega (arith, long)) in
    let read : header_bytes h.command h.len ≡ number_bytes 2 (number_in 2 0 bytes) ++ number_bytes 2 (number_in 2 2 bytes)
    ++ number_bytes 4 (number_in 4 4 bytes) = rw (m, n, r.1) refl in
    sym (read ∙ rw (first, second) third)

number_below : (c : Command) → number_of c < 2 ^ 16
number_below command.Data = omega arith
number_below command.RsDataReply = omega arith
number_below command.Barrier = omega arith
number_below command.Protocol = omega arith
number_below command.Uuids = omega arith
number_below command.Sizes = omega arith
number_below command.SyncUuid = omega arith
number_below command.RecvAck = omega arith
number_below command.WriteAck = omega arith
number_below command.RsWriteAck = omega arith
number_below command.BarrierAck = omega arith

-- the header of a packet
abbrev pub header_of : Packet → Header
header_of p = record { command = command_of p; len = length (payload p) }

known : (p : Packet) → command_at (number_of (command_of p)) ≡ Some (command_of p)
known (packet.Protocol _) = refl
known (packet.Sizes _) = refl
known (packet.Uuids _) = refl
known (packet.Data _ _ _ _) = refl
known (packet.RsDataReply _ _ _) = refl
known (packet.Barrier _) = refl
known (packet.SyncUuid _) = refl
known (packet.RecvAck _) = refl
known (packet.WriteAck _) = refl
known (packet.RsWriteAck _) = refl
known (packet.BarrierAck _ _) = refl

row_again : (c : Command) (len : ℕ) → command_at (number_of c) ≡ Some c → is_length c len ≡ true → len < 2 ^ 32
    → header_at (header_bytes c len) ≡ Ok (record { command = c; len = len })
unfolding header_at
row_again c len named row fits =
    let m = number_bytes 2 magic in
    let n = number_bytes 2 (number_of c) in
    let l = number_bytes 4 len in
    let m_len = number_bytes_length 2 magic in
    let mn_len : length (m ++ n) ≡ 4 = length-append m n ∙ omega (arith, m_len, number_bytes_length 2 (number_of c)) in
    let first : number_in 2 0 (m ++ n ++ l) ≡ magic =
    number_in_front 2 0 (m ++ n) l (omega (arith, mn_len)) ∙ number_in_front 2 0 m n (omega (arith, m_len)) ∙ number_only 2 magic (omega arith) in
    let second : number_in 2 2 (m ++ n ++ l) ≡ number_of c = number_again 2 2 (number_of c) m l m_len (number_below c) in
    let third : number_in 4 4 (m ++ n ++ l) ≡ len = number_last 4 4 len (m ++ n) mn_len fits in
    rw (first, second, third, named, row) refl

-- a header that is spelled is read so
pub header_again : (p : Packet) (more : List ℕ) → IsSpellable p → header_at (spelling p ++ more) ≡ Ok (header_of p)
unfolding spelling
header_again p more rules =
    let len = length (payload p) in
    let bytes = header_bytes (command_of p) len in
    let long = header_bytes_length (command_of p) len in
    let row = payload_row p rules in
    header_front (bytes ++ payload p) more (omega (arith, length-append bytes (payload p), long))
    ∙ header_front bytes (payload p) (omega (arith, long))
    ∙ row_again (command_of p) len (known p) row (omega (arith, length_most (command_of p) len row))

-- ---- frames

pub spelling_length : (p : Packet) → length (spelling p) ≡ 8 + length (payload p)
unfolding spelling
spelling_length p =
    let bytes = header_bytes (command_of p) (length (payload p)) in
    length-append bytes (payload p) ∙ omega (arith, header_bytes_length (command_of p) (length (payload p)))

pub spelling_payload : (p : Packet) → drop 8 (spelling p) ≡ payload p
unfolding spelling
spelling_payload p = drop_at (header_bytes (command_of p) (length (payload p))) (payload p) 8 (header_bytes_length (command_of p) (length (payload p)))

-- a frame that is read is spelled so
pub frame_takes : (frame : List ℕ) (h : Header) (p : Packet) → IsBytes frame → length frame ≡ 8 + h.len → header_at frame ≡ Ok h
    → payload_at h.command (drop 8 frame) ≡ Ok p → IsSpellable p × Spells p frame
unfolding spelling
frame_takes frame h p fits len e f =
    let rest : length (drop 8 frame) ≡ h.len = omega (arith, length-drop 8 frame, len) in
    let row = ap (is_length h.command) rest ∙ header_length frame h e in
    let says = payload_says h.command (drop 8 frame) p (IsBytes_drop 8 frame fits) row f in
    let front = header_takes frame h fits (omega (arith, len)) e in
    let spelled : spelling p ≡ take 8 frame ++ drop 8 frame =
    rw (says.named, says.spelled, rest) (ap (λ (x : List ℕ). x ++ drop 8 frame) (sym front)) in
    (says.rules, record { fields = says.fields; bytes_are = sym (take-append-drop 8 frame) ∙ sym spelled })

abbrev found : Packet → Result Packet Refusal
found p = Ok p

abbrev judged : Header → Result Header Refusal
judged h = Ok h

headers_are : (g h : Header) → judged g ≡ judged h → g ≡ h
headers_are g h e = cc

packets_are : (p q : Packet) → found p ≡ found q → p ≡ q
packets_are p q e = cc

-- what a spelled frame is read as
pub spelled_reads : (frame : List ℕ) (p : Packet) → IsSpellable p → Spells p frame
    → (header_at frame ≡ Ok (header_of p)) × (length frame ≡ 8 + length (payload p)) × (payload_at (command_of p) (drop 8 frame) ≡ Ok p)
spelled_reads frame p rules s =
    let is = s.bytes_are in (
      ap header_at (is ∙ sym (append-nil (spelling p))) ∙ header_again p [] rules,
      ap length is ∙ spelling_length p,
      ap (λ (x : List ℕ). payload_at (command_of p) (drop 8 x)) is ∙ ap (payload_at (command_of p)) (spelling_payload p) ∙ payload_again p rules s.fields,
    )

-- a payload that is refused is no packet's
pub frame_refused : (frame : List ℕ) (h : Header) (e : Refusal) → header_at frame ≡ Ok h → payload_at h.command (drop 8 frame) ≡ Err e → IsNoSpelling frame
frame_refused frame h e read refused p rules s =
    let r = spelled_reads frame p rules s in
    let same = headers_are (header_of p) h (sym r.0 ∙ read) in
    let again : payload_at h.command (drop 8 frame) ≡ Ok p = ap (λ (x : Header). payload_at x.command (drop 8 frame)) (sym same) ∙ r.2 in
    let clash : found p ≡ Err e = sym again ∙ refused in
    cc

-- two packets whose spellings begin the same bytes are one
pub one_packet : (p q : Packet) (x y : List ℕ) → IsSpellable p → FitsFields p → IsSpellable q → FitsFields q → spelling p ++ x ≡ spelling q ++ y
    → (p ≡ q) × (x ≡ y)
one_packet p q x y p_rules p_fields q_rules q_fields e =
    let same = headers_are (header_of p) (header_of q) (sym (header_again p x p_rules) ∙ ap header_at e ∙ header_again q y q_rules) in
    let len : length (payload p) ≡ length (payload q) = ap (λ (h : Header). h.len) same in
    let n = length (spelling p) in
    let other : length (spelling q) ≡ n = omega (arith, spelling_length p, spelling_length q, len) in
    let frames : spelling p ≡ spelling q = sym (take_at (spelling p) x n refl) ∙ ap (take n) e ∙ take_at (spelling q) y n other in
    let rests : x ≡ y = sym (drop_at (spelling p) x n refl) ∙ ap (drop n) e ∙ drop_at (spelling q) y n other in
    let payloads : payload p ≡ payload q = sym (spelling_payload p) ∙ ap (drop 8) frames ∙ spelling_payload q in
    let named : command_of p ≡ command_of q = ap (λ (h : Header). h.command) same in (
      packets_are p q (sym (payload_again p p_rules p_fields) ∙ ap (λ (c : Command). payload_at c (payload p)) named ∙ ap (payload_at (command_of q)) payloads
          ∙ payload_again q q_rules q_fields),
      rests,
    )

-- the one answer to the spelling of a packet
pub answers_only : (frame : List ℕ) (r : Result Packet Refusal) → Answers frame r → (p : Packet) → IsSpellable p → Spells p frame → r ≡ Ok p
answers_only frame (Ok q) answer p rules s =
    let e : spelling q ++ [] ≡ spelling p ++ [] = append-nil (spelling q) ∙ sym answer.1.bytes_are ∙ s.bytes_are ∙ sym (append-nil (spelling p)) in
    ap found (one_packet q p [] [] answer.0 answer.1.fields rules s.fields e).0
answers_only frame (Err e) (inl short) p rules s =
    let r = spelled_reads frame p rules s in
    absurd (omega (arith, short.0, r.1))
answers_only frame (Err e) (inr after) p rules s =
    let r = spelled_reads frame p rules s in
    let fault : IsFaultAfter (Ok (header_of p)) frame e = subst (λ (h : Result Header Refusal). IsFaultAfter h frame e) r.0 after.1 in
    elim fault [ inl length ↦ absurd (length.0 r.1) | inr field ↦ absurd (field.2 p rules s) ]
