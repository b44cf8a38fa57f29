use Rattle.std.proofs.Common.{◌≡◌, List, ℕ, length, Result, Ok, Err, ap, sym, ◌∙◌, arith}
use Rattle.std.specs.Prelude.{IfOk, IfErr}
use Rattle.blocks.specs.declared.refusal.Refusal.{Refusal}
use Rattle.packets.proofs.Digits.{IsBytes}
use Rattle.nbd.specs.declared.reply.Reply.{Reply}
use Rattle.nbd.specs.Replies.{IsReplyFault, SpellsReply, reply_at}
use Rattle.nbd.proofs.Grammar.{reply_again, reply_takes, reply_fault}
use Rattle.nbd.proofs.reply.Reply.decode.Goals as goal

found : (bytes : List ℕ) (r : Result Reply Refusal) → IsBytes bytes → length bytes ≡ 16 → reply_at bytes ≡ r → IfOk r (λ x. SpellsReply x bytes)
found bytes (Ok x) fits len e = reply_takes bytes x fits len e
found bytes (Err refusal) fits len e = tt

faulty : (bytes : List ℕ) (r : Result Reply Refusal) → reply_at bytes ≡ r → IfErr r (λ e. IsReplyFault bytes e)
faulty bytes (Ok x) e = tt
faulty bytes (Err refusal) e = reply_fault bytes refusal e

pub returns-clause-fault : goal.returns-clause-fault
returns-clause-fault c = faulty c.args.bytes.now c.read.result (sym c.read.ensures)

pub returns-clause-found : goal.returns-clause-found
returns-clause-found c = found c.args.bytes.now c.read.result (λ i. omega (arith, c.type_inv.bytes i)) c.requires (sym c.read.ensures)

pub returns-clause-only : goal.returns-clause-only
returns-clause-only c r s = c.read.ensures ∙ ap reply_at s.bytes_are ∙ reply_again r s.cookie
