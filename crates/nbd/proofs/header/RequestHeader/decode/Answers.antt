use Rattle.std.proofs.Common.{◌≡◌, ◌≢◌, List, ℕ, length, Result, Ok, Err, ap, sym, ◌∙◌, arith}
use Rattle.std.specs.Prelude.{IfOk, IfErr}
use Rattle.blocks.specs.declared.refusal.Refusal.{Refusal}
use Rattle.blocks.specs.declared.refusal.Refusal.TheVariants.{BadMagic}
use Rattle.packets.proofs.Digits.{IsBytes}
use Rattle.nbd.specs.declared.header.RequestHeader.{RequestHeader}
use Rattle.packets.specs.Numbers.{number_in}
use Rattle.nbd.specs.Requests.{Spells, header_at, request_magic}
use Rattle.nbd.proofs.Grammar.{header_again, header_takes, header_refused}
use Rattle.nbd.proofs.header.RequestHeader.decode.Goals as goal

found : (bytes : List ℕ) (r : Result RequestHeader Refusal) → IsBytes bytes → length bytes ≡ 28 → header_at bytes ≡ r → IfOk r (λ h. Spells h bytes)
found bytes (Ok h) fits len e = header_takes bytes h fits len e
found bytes (Err refusal) fits len e = tt

refused : (bytes : List ℕ) (r : Result RequestHeader Refusal) → header_at bytes ≡ r → IfErr r (λ e. (e ≡ BadMagic) × (number_in 4 0 bytes ≢ request_magic))
refused bytes (Ok h) e = tt
refused bytes (Err refusal) e = header_refused bytes refusal e

pub returns-clause-found : goal.returns-clause-found
returns-clause-found c = found c.args.bytes.now c.read.result (λ i. omega (arith, c.type_inv.bytes i)) c.requires (sym c.read.ensures)

pub returns-clause-only : goal.returns-clause-only
returns-clause-only c h s = c.read.ensures ∙ ap header_at s.bytes_are ∙ header_again h s.fields

pub returns-clause-refused : goal.returns-clause-refused
returns-clause-refused c = refused c.args.bytes.now c.read.result (sym c.read.ensures)
