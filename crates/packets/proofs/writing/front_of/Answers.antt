-- The header and the numbers, one field after the other.
use Rattle.std.proofs.Common.{◌≡◌, ℕ, List, ◌++◌, length, ap, ◌∙◌}
use Rattle.packets.specs.Numbers.{number_bytes}
use Rattle.packets.specs.Table.{magic, number_of, command_of}
use Rattle.packets.specs.Spelling.{payload}
use Rattle.packets.specs.Written.{front, numbers}
use Rattle.packets.proofs.writing.front_of.Goals as goal

pub returns-clause-front : goal.returns-clause-front
unfolding front
returns-clause-front c =
    let p = c.args.packet.now in
    let first : c.put_u16.new.out ≡ number_bytes 2 magic = c.put_u16.ensures.written ∙ ap (λ (x : List ℕ). x ++ number_bytes 2 magic) c.new-out.ensures in
    let number : c.command_number.result ≡ number_of (command_of p) = c.command_number.ensures ∙ ap number_of c.command.ensures in
    let second : c.put_u16-2.new.out ≡ number_bytes 2 magic ++ number_bytes 2 (number_of (command_of p)) =
    c.put_u16-2.ensures.written ∙ ap (λ (x : List ℕ). x ++ number_bytes 2 c.command_number.result) first
    ∙ ap (λ (n : ℕ). number_bytes 2 magic ++ number_bytes 2 n) number in
    let header : c.put_u32.new.out ≡ number_bytes 2 magic ++ number_bytes 2 (number_of (command_of p)) ++ number_bytes 4 (length (payload p)) =
    c.put_u32.ensures.written ∙ ap (λ (x : List ℕ). x ++ number_bytes 4 c.payload_len.result) second
    ∙ ap (λ (n : ℕ). number_bytes 2 magic ++ number_bytes 2 (number_of (command_of p)) ++ number_bytes 4 n) c.payload_len.ensures in
    c.put_numbers.ensures.written ∙ ap (λ (x : List ℕ). x ++ numbers p) header
