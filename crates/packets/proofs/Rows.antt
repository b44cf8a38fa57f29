-- What a header that was judged says of its length.
use Rattle.std.proofs.Common.{◌≡◌, ℕ, ◌+◌, ◌<◌, ◌≤◌, Bool, true, false, cond, eqb, List, Option, Some, None, Result, Ok, Err, refl, sym, ap, subst, ◌∙◌, arith}
use Rattle.std.proofs.Common.{length, ◌++◌, take, drop}
use Rattle.std.proofs.lemmas.Bool.Decides.{nat_tests}
use Rattle.blocks.specs.declared.command.Command.{Command}
use Rattle.blocks.specs.declared.command.Command.TheVariants as command
use Rattle.blocks.specs.declared.refusal.Refusal.{Refusal}
use Rattle.blocks.specs.declared.refusal.Refusal.TheVariants.{BadMagic, BadLength}
use Rattle.packets.specs.declared.header.Header.{Header}
use Rattle.packets.specs.Table.{magic, command_at, is_length}
use Rattle.packets.specs.Reading.{row_at, header_at}
use Rattle.packets.specs.Numbers.{number_in}
use Rattle.std.proofs.lemmas.List.{length-take, take-append-drop}
use Rattle.packets.specs.Stream.{IsPart}
use Rattle.packets.proofs.Widths.{number_in_front}

-- a test that let a value through
pub passed : {A : Type 0} (b : Bool) (x y : A) (d : Refusal) → cond b (Ok x) (Err d) ≡ Ok y → (b ≡ true) × (x ≡ y)
passed true x y d e = (refl, cc)
passed false x y d e = absurd cc

-- a test before another step
pub passed_on : {A : Type 0} (b : Bool) (r : Result A Refusal) (y : A) (d : Refusal) → cond b r (Err d) ≡ Ok y → (b ≡ true) × (r ≡ Ok y)
passed_on true r y d e = (refl, e)
passed_on false r y d e = absurd cc

row_length : (c : Option Command) (len : ℕ) (h : Header) → row_at c len ≡ Ok h → is_length h.command h.len ≡ true
row_length None len h e = absurd cc
row_length (Some c) len h e =
    let p = passed (is_length c len) (record { command = c; len = len }) h BadLength e in
    subst (λ (x : Header). is_length x.command x.len ≡ true) p.1 p.0

pub header_length : (bytes : List ℕ) (h : Header) → header_at bytes ≡ Ok h → is_length h.command h.len ≡ true
unfolding header_at
header_length bytes h e =
    let p = passed_on (eqb (number_in 2 0 bytes) magic) (row_at (command_at (number_in 2 2 bytes)) (number_in 4 4 bytes)) h BadMagic e in
    row_length (command_at (number_in 2 2 bytes)) (number_in 4 4 bytes) h p.1

pub length_most : (c : Command) (len : ℕ) → is_length c len ≡ true → len ≤ 131096
length_most command.Data len e = grind (arith, nat_tests)
length_most command.RsDataReply len e = grind (arith, nat_tests)
length_most command.Barrier len e = grind (arith, nat_tests)
length_most command.Protocol len e = grind (arith, nat_tests)
length_most command.Uuids len e = grind (arith, nat_tests)
length_most command.Sizes len e = grind (arith, nat_tests)
length_most command.SyncUuid len e = grind (arith, nat_tests)
length_most command.RecvAck len e = grind (arith, nat_tests)
length_most command.WriteAck len e = grind (arith, nat_tests)
length_most command.RsWriteAck len e = grind (arith, nat_tests)
length_most command.BarrierAck len e = grind (arith, nat_tests)

pub header_most : (bytes : List ℕ) (h : Header) → header_at bytes ≡ Ok h → h.len ≤ 131096
header_most bytes h e = length_most h.command h.len (header_length bytes h e)

-- what follows the header does not change it
pub header_front : (xs ys : List ℕ) → 8 ≤ length xs → header_at (xs ++ ys) ≡ header_at xs
unfolding header_at
header_front xs ys h =
    rw (number_in_front 2 0 xs ys (omega arith), number_in_front 2 2 xs ys (omega arith), number_in_front 4 4 xs ys (omega arith)) refl

pub header_take : (bytes : List ℕ) → 8 ≤ length bytes → header_at (take 8 bytes) ≡ header_at bytes
header_take bytes h =
    sym (header_front (take 8 bytes) (drop 8 bytes) (omega (arith, length-take 8 bytes))) ∙ ap header_at (take-append-drop 8 bytes)

pub header_first : (bytes first : List ℕ) (r : Result Header Refusal) → 8 ≤ length bytes → first ≡ take 8 bytes → header_at first ≡ r → header_at bytes ≡ r
header_first bytes first r h e g = sym (header_take bytes h) ∙ ap header_at (sym e) ∙ g

abbrev judged : Header → Result Header Refusal
judged h = Ok h

same_header : (g h : Header) → judged g ≡ judged h → g ≡ h
same_header g h e = cc

-- what was held before is no more than the frame that is judged now
pub part_within : (o : Option Header) (front piece : List ℕ) (h : Header) → IsPart o front → header_at (front ++ piece) ≡ Ok h → length front < 8 + h.len
part_within None front piece h part e = omega (arith, part)
part_within (Some g) front piece h part e =
    let same = same_header g h (sym part.1 ∙ sym (header_front front piece part.0) ∙ e) in
    subst (λ (x : Header). length front < 8 + x.len) same part.2

-- a front of a frame is shorter than the longest frame, of 8 + 24 + 32 * 4096 bytes
pub part_bounded : (o : Option Header) (bytes : List ℕ) → IsPart o bytes → length bytes ≤ 131103
part_bounded None bytes part = omega (arith, part)
part_bounded (Some h) bytes part = omega (arith, part.2, header_most bytes h part.1)
