-- A decoder's step from one frame to the next.
use Rattle.std.proofs.Common.{◌≡◌, ℕ, zero, suc, ◌+◌, ◌≤◌, Bool, true, false, cond, eqb, List, [], ◌∷◌, ◌++◌, length, take, drop, Option, Some, None, Result}
use Rattle.std.proofs.Common.{Ok, Err, refl, sym, ap, ◌∙◌, subst, append_assoc, arith, inl, inr}
use Rattle.std.specs.Prelude.{IfErr}
use Rattle.std.specs.List.{AllByRecursion}
use Rattle.std.proofs.lemmas.List.{append-nil, length-append, length-drop, take_at, take-append-drop}
use Rattle.std.proofs.lemmas.Grind.{flat_map-append}
use Rattle.std.proofs.lemmas.List.Concat.{flat_map-cons}
use Rattle.blocks.specs.declared.command.Command.{Command}
use Rattle.blocks.specs.declared.command.Command.TheVariants as command
use Rattle.blocks.specs.declared.refusal.Refusal.{Refusal}
use Rattle.blocks.specs.declared.refusal.Refusal.TheVariants.{BadMagic, BadCommand, BadLength, BadField, NoMemory}
use Rattle.blocks.specs.declared.settings.Protocol.TheVariants.{A, B, C}
use Rattle.packets.specs.declared.header.Header.{Header}
use Rattle.packets.specs.declared.packet.Packet.{Packet}
use Rattle.packets.specs.declared.packet.Packet.TheVariants as packet
use Rattle.packets.specs.Numbers.{number_in}
use Rattle.packets.specs.Table.{magic, command_at, is_length}
use Rattle.packets.specs.Spelling.{spelling}
use Rattle.packets.specs.Reading.{row_at, checked, protocol_at, data_at, rs_data_at, barrier_at, header_at, payload_at}
use Rattle.packets.specs.Frames.{IsNoSpelling, IsFaultAfter, IsFrameFault, is_fault, fault_in_hello, Answers}
use Rattle.packets.specs.Stream.{IsWritten, spellings, IsFaultWith, IsFaultAt, Gives}
use Rattle.packets.proofs.Digits.{IsBytes, IsBytes_take}
use Rattle.packets.proofs.Frames.{frame_takes, frame_refused}
use Rattle.packets.proofs.Rows.{header_front, header_length}

-- ---- a payload is refused for a field only

abbrev header_refused : Refusal → Result Header Refusal
header_refused e = Err e

abbrev refused : Refusal → Result Packet Refusal
refused e = Err e

refused_is : (d e : Refusal) → refused d ≡ refused e → e ≡ d
refused_is d e h = cc

checked_refuses : (b : Bool) (p : Packet) (e : Refusal) → checked b p ≡ Err e → e ≡ BadField
checked_refuses true p e h = absurd cc
checked_refuses false p e h = refused_is BadField e h

or_refuses : (b : Bool) (p : Packet) (r : Result Packet Refusal) (e : Refusal) → (r ≡ Err e → e ≡ BadField) → cond b (Ok p) r ≡ Err e → e ≡ BadField
or_refuses true p r e next h = absurd cc
or_refuses false p r e next h = next h

protocol_refuses : (n : ℕ) (e : Refusal) → protocol_at n ≡ Err e → e ≡ BadField
protocol_refuses n e h =
    or_refuses (eqb n 1) (packet.Protocol A) _ e (or_refuses (eqb n 2) (packet.Protocol B) _ e (checked_refuses (eqb n 3) (packet.Protocol C) e)) h

data_refuses : (bytes : List ℕ) (e : Refusal) → data_at bytes ≡ Err e → e ≡ BadField
unfolding data_at
data_refuses bytes e h = checked_refuses _ _ e h

rs_data_refuses : (bytes : List ℕ) (e : Refusal) → rs_data_at bytes ≡ Err e → e ≡ BadField
unfolding rs_data_at
rs_data_refuses bytes e h = checked_refuses _ _ e h

barrier_refuses : (bytes : List ℕ) (e : Refusal) → barrier_at bytes ≡ Err e → e ≡ BadField
unfolding barrier_at
barrier_refuses bytes e h = checked_refuses _ _ e h

pub payload_refuses : (c : Command) (bytes : List ℕ) (e : Refusal) → is_length c (length bytes) ≡ true → payload_at c bytes ≡ Err e → e ≡ BadField
unfolding payload_at
payload_refuses command.Data bytes e row h = data_refuses bytes e h
payload_refuses command.RsDataReply bytes e row h = rs_data_refuses bytes e h
payload_refuses command.Barrier bytes e row h = barrier_refuses bytes e h
payload_refuses command.Protocol bytes e row h = protocol_refuses (number_in 4 0 bytes) e h
payload_refuses command.Uuids bytes e row h = absurd cc
payload_refuses command.Sizes bytes e row h = absurd cc
payload_refuses command.SyncUuid bytes e row h = absurd cc
payload_refuses command.RecvAck bytes e row h = checked_refuses _ _ e h
payload_refuses command.WriteAck bytes e row h = checked_refuses _ _ e h
payload_refuses command.RsWriteAck bytes e row h = checked_refuses _ _ e h
payload_refuses command.BarrierAck bytes e row h = absurd cc

-- the answer to a frame whose header and length are as they have to be
pub answers_payload : (frame : List ℕ) (h : Header) (r : Result Packet Refusal) → IsBytes frame → length frame ≡ 8 + h.len → header_at frame ≡ Ok h
    → payload_at h.command (drop 8 frame) ≡ r → Answers frame r
answers_payload frame h (Ok p) fits long judged said = frame_takes frame h p fits long judged said
answers_payload frame h (Err e) fits long judged said =
    let rest : length (drop 8 frame) ≡ h.len = omega (arith, length-drop 8 frame, long) in
    let row : is_length h.command (length (drop 8 frame)) ≡ true = ap (is_length h.command) rest ∙ header_length frame h judged in
    let fault : IsFaultAfter (Ok h) frame e = inr (long, payload_refuses h.command (drop 8 frame) e row said, frame_refused frame h e judged said) in
    inr (omega (arith, long), subst (λ (x : Result Header Refusal). IsFaultAfter x frame e) (sym judged) fault)

-- ---- what a refusal may be

row_has : (P : Refusal → Type 0) (b : Bool) (h : Header) (e : Refusal) → P BadLength → cond b (Ok h) (Err BadLength) ≡ Err e → P e
row_has P true h e len is = absurd cc
row_has P false h e len is = let same : BadLength ≡ e = cc in subst P same len

length_has : (P : Refusal → Type 0) (o : Option Command) (len : ℕ) (e : Refusal) → P BadCommand → P BadLength → row_at o len ≡ Err e → P e
length_has P None len e command length is = let same : BadCommand ≡ e = cc in subst P same command
length_has P (Some c) len e command length is = row_has P (is_length c len) (record { command = c; len = len }) e length is

magic_has : (P : Refusal → Type 0) (b : Bool) (r : Result Header Refusal) (e : Refusal) → P BadMagic → (r ≡ Err e → P e) → cond b r (Err BadMagic) ≡ Err e → P e
magic_has P true r e first next is = next is
magic_has P false r e first next is = let same : BadMagic ≡ e = cc in subst P same first

-- what holds of the three faults of a header holds of the one that is met
header_has : (P : Refusal → Type 0) (bytes : List ℕ) (e : Refusal) → P BadMagic → P BadCommand → P BadLength → header_at bytes ≡ Err e → P e
unfolding header_at
header_has P bytes e first second third is =
    magic_has P (eqb (number_in 2 0 bytes) magic) (row_at (command_at (number_in 2 2 bytes)) (number_in 4 4 bytes)) e first
    (length_has P (command_at (number_in 2 2 bytes)) (number_in 4 4 bytes) e second third) is

pub header_fault : (bytes : List ℕ) (e : Refusal) → header_at bytes ≡ Err e → is_fault e ≡ true
header_fault bytes e is = header_has (λ (x : Refusal). is_fault x ≡ true) bytes e refl refl refl is

-- it comes before the fields
pub header_no_field : (bytes : List ℕ) (e : Refusal) → header_at bytes ≡ Err e → e ≡ BadField → ⊥
header_no_field bytes e is = header_has (λ (x : Refusal). x ≡ BadField → ⊥) bytes e (λ same. cc) (λ same. cc) (λ same. cc) is

after_known : (r : Result Header Refusal) (frame : List ℕ) (e : Refusal) → ((x : Refusal) → r ≡ Err x → is_fault x ≡ true) → IsFaultAfter r frame e
    → is_fault e ≡ true
after_known (Err fault) frame e known is = ap is_fault is ∙ known fault refl
after_known (Ok h) frame e known (inl length) = ap is_fault length.1
after_known (Ok h) frame e known (inr field) = ap is_fault field.1

-- what stands in a frame's place is a fault of it
pub fault_known : (frame : List ℕ) (e : Refusal) → IsFrameFault frame e → is_fault e ≡ true
fault_known frame e (inl short) = ap is_fault short.1
fault_known frame e (inr after) = after_known (header_at frame) frame e (header_fault frame) after.1

-- and so is what a hello makes of it
pub fault-in-hello : (expected : Bool) (e : Refusal) → is_fault e ≡ true → is_fault (fault_in_hello expected e) ≡ true
fault-in-hello true e is = is
fault-in-hello false BadField is = refl
fault-in-hello false e is = is

-- no frame has a fault of memory
pub answer_known : (frame : List ℕ) (r : Result Packet Refusal) → Answers frame r → IfErr r (λ e. e ≡ NoMemory → ⊥)
answer_known frame (Ok p) answer = tt
answer_known frame (Err e) answer = λ same. let fault : false ≡ true = ap is_fault (sym same) ∙ fault_known frame e answer in cc

-- ---- the frame at the front

-- what two lists of bytes make
pub IsBytes_append : (xs ys : List ℕ) → IsBytes xs → IsBytes ys → IsBytes (xs ++ ys)
IsBytes_append [] ys hx hy i = hy i
IsBytes_append (x ∷ xs) ys hx hy zero = hx 0
IsBytes_append (x ∷ xs) ys hx hy (suc i) = IsBytes_append xs ys (λ k. hx (suc k)) hy i

-- a header's fault stands in a frame's place
pub header_stops : (bytes : List ℕ) (e : Refusal) → 8 ≤ length bytes → header_at bytes ≡ Err e → IsFaultAt bytes e
header_stops bytes e long h = (long, subst (λ (r : Result Header Refusal). IsFaultWith r bytes e) (sym h) refl)

-- a whole frame, and what comes after it
pub record IsWhole (bytes frame after : List ℕ) (h : Header) : Type 0 where
  pub parts : bytes ≡ frame ++ after
  pub fits : IsBytes frame
  pub long : length frame ≡ 8 + h.len
  pub judged : header_at bytes ≡ Ok h

frame_header : (bytes frame after : List ℕ) (h : Header) → IsWhole bytes frame after h → header_at frame ≡ Ok h
frame_header bytes frame after h w =
    sym (header_front frame after (omega (arith, w.long))) ∙ ap header_at (sym w.parts) ∙ w.judged

pub whole_goes : (bytes frame after : List ℕ) (h : Header) (p : Packet) → IsWhole bytes frame after h → payload_at h.command (drop 8 frame) ≡ Ok p
    → IsWritten p × (bytes ≡ spelling p ++ after)
whole_goes bytes frame after h p w said =
    let t = frame_takes frame h p w.fits w.long (frame_header bytes frame after h w) said in
    ((t.0, t.1.fields), w.parts ∙ ap (λ (x : List ℕ). x ++ after) t.1.bytes_are)

pub whole_stops : (bytes frame after : List ℕ) (h : Header) (e : Refusal) → IsWhole bytes frame after h → is_length h.command (length (drop 8 frame)) ≡ true
    → payload_at h.command (drop 8 frame) ≡ Err e → IsFaultAt bytes e
whole_stops bytes frame after h e w row said =
    let none = frame_refused frame h e (frame_header bytes frame after h w) said in
    let len : length bytes ≡ length frame + length after = ap length w.parts ∙ length-append frame after in
    let front : take (8 + h.len) bytes ≡ frame = ap (take (8 + h.len)) w.parts ∙ take_at frame after (8 + h.len) w.long in
    let fault : IsFaultWith (Ok h) bytes e = (
      omega (arith, len, w.long),
      payload_refuses h.command (drop 8 frame) e row said,
      subst IsNoSpelling (sym front) none,
    ) in
    (omega (arith, len, w.long), subst (λ (r : Result Header Refusal). IsFaultWith r bytes e) (sym w.judged) fault)

-- a frame that is what was held and then the front of a piece
pub joined_whole : (front piece end after frame : List ℕ) (n : ℕ) (h : Header) → end ≡ take n piece → after ≡ drop n piece → frame ≡ front ++ end
    → length frame ≡ 8 + h.len
    → header_at (front ++ piece) ≡ Ok h → IsBytes front → IsBytes piece → IsWhole (front ++ piece) frame after h
joined_whole front piece end after frame n h e a f long judged front_fits piece_fits =
    let parts : frame ++ after ≡ front ++ piece =
    ap (λ (x : List ℕ). x ++ after) f ∙ append_assoc front end after
    ∙ ap (λ (x : List ℕ). front ++ x) (ap (λ (x : List ℕ). x ++ after) e ∙ ap (λ (x : List ℕ). take n piece ++ x) a ∙ take-append-drop n piece) in
    let end_fits : IsBytes end = subst IsBytes (sym e) (IsBytes_take n piece piece_fits) in
    record {
      parts = sym parts;
      fits = subst IsBytes (sym f) (IsBytes_append front end front_fits end_fits);
      long = long;
      judged = judged;
    }

-- ---- packets in a list

pub gives_none : (bytes : List ℕ) (old : List Packet) → Gives bytes old old bytes
gives_none bytes old = record { packets = []; added = sym (append-nil old); each = tt; whole = refl }

each_more : (ps : List Packet) (p : Packet) → AllByRecursion IsWritten ps → IsWritten p → AllByRecursion IsWritten (ps ++ p ∷ [])
each_more [] p h w = (w, tt)
each_more (q ∷ ps) p h w = (h.0, each_more ps p h.1 w)

spellings_more : (ps : List Packet) (p : Packet) (left after : List ℕ) → left ≡ spelling p ++ after → spellings ps ++ left ≡ spellings (ps ++ p ∷ []) ++ after
spellings_more ps p left after e =
    let one : spellings (p ∷ []) ≡ spelling p = flat_map-cons spelling p [] ∙ append-nil (spelling p) in
    let all : spellings (ps ++ p ∷ []) ≡ spellings ps ++ spelling p = flat_map-append spelling ps (p ∷ []) ∙ ap (λ (x : List ℕ). spellings ps ++ x) one in
    ap (λ (x : List ℕ). spellings ps ++ x) e ∙ sym (append_assoc (spellings ps) (spelling p) after) ∙ ap (λ (x : List ℕ). x ++ after) (sym all)

pub gives_more : (bytes : List ℕ) (old new : List Packet) (left after : List ℕ) (p : Packet) → Gives bytes old new left → left ≡ spelling p ++ after
    → IsWritten p → Gives bytes old (new ++ p ∷ []) after
gives_more bytes old new left after p g e w = record {
  packets = g.packets ++ p ∷ [];
  added = ap (λ (x : List Packet). x ++ p ∷ []) g.added ∙ append_assoc old g.packets (p ∷ []);
  each = each_more g.packets p g.each w;
  whole = g.whole ∙ spellings_more g.packets p left after e;
}
