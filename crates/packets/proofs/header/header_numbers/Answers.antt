-- The numbers are digits of the word that was read.
use Rattle.std.proofs.Common.{ℕ, ◌/◌, ◌%◌, ap, ◌∙◌, arith}
use Rattle.packets.proofs.Words.{word_magic, word_command, word_length}
use Rattle.packets.proofs.header.header_numbers.Goals as goal

pub returns-clause-magic : goal.returns-clause-magic
returns-clause-magic c =
    ap (λ (x : ℕ). x / 281474976710656) c.u64_at-word.ensures ∙ word_magic c.args.bytes.now (λ i. omega (arith, c.type_inv.bytes i))

pub returns-clause-command : goal.returns-clause-command
returns-clause-command c =
    ap (λ (x : ℕ). x / 4294967296 % 65536) c.u64_at-word.ensures ∙ word_command c.args.bytes.now (λ i. omega (arith, c.type_inv.bytes i))

pub returns-clause-len : goal.returns-clause-len
returns-clause-len c =
    ap (λ (x : ℕ). x % 4294967296) c.u64_at-word.ensures ∙ word_length c.args.bytes.now (λ i. omega (arith, c.type_inv.bytes i))
