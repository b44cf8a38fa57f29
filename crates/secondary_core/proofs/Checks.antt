-- Frames that are refused.
use Rattle.std.proofs.Common.{ℕ, zero, suc, ◌≡◌, nat_le, nat_lt, true, false, Option, Some, None, Result, Ok, Err, refl, sym, ap, arith}
use Rattle.std.specs.Prelude.{IsOk, is_some}
use Rattle.std.proofs.lemmas.Bool.Decides.{nat_tests}
use Rattle.std.proofs.lemmas.Grind.{common_steps}
use Rattle.blocks.specs.declared.refusal.Refusal.{Refusal}
use Rattle.blocks.specs.declared.outcome.What.{What}
use Rattle.packets.specs.declared.packet.Packet.{Packet}
use Rattle.handshakes.specs.Handshake.{judged}
use Rattle.model.specs.Frames.{Received}
use Rattle.endpoint.specs.Meaning.{meaning}
use Rattle.secondary_protocol.specs.Core.{EndState, Judged, SecondaryState, judging, judging_hello, may_take, take_at, taking}
use Rattle.secondary_core.specs.Receiving.{judged_at, result_of}

-- What the handshake refuses the step refuses, for the same.
refused-is : (n : ℕ) (p : Packet) (s : SecondaryState) (e : Refusal) → judged n p s.settings ≡ Err e → judging_hello n (meaning p) s ≡ Err e
refused-is zero p s e refused = grind (arith, common_steps)
refused-is (suc zero) p s e refused = grind (arith, common_steps)
refused-is (suc (suc n)) p s e refused = grind (arith, common_steps)

pub not-greeted : (s : SecondaryState) (e : EndState) (p : Packet) (refusal : Refusal) → nat_le 3 e.hello_received ≡ false → judged e.hello_received p s.settings ≡ Err refusal
    → (Err refusal, s) ≡ judged_at (Ok (meaning p)) (Some e) s
not-greeted s e p refusal early refused =
    let less : nat_lt e.hello_received 3 ≡ true = grind (arith, nat_tests, early) in
    let is : judging (Ok (meaning p)) e s ≡ Err refusal = rw less (refused-is e.hello_received p _ refusal refused) in
    ap (λ (j : Judged). result_of j s) (sym is)

-- A refused frame closes the end, and does nothing else.
closes : (j : Judged) (s t : SecondaryState) (refusal : Refusal) → (Err refusal, t) ≡ result_of j s → (Err refusal, record t { end = None }) ≡ taking j s
closes (Ok done) s t refusal same = absurd (let clash : Err refusal ≡ Ok done.0 = ap (λ (p : Result What Refusal × SecondaryState). p.0) same in cc)
closes (Err other) s t refusal same =
    let left : t ≡ s = ap (λ (p : Result What Refusal × SecondaryState). p.1) same in
    let first : Err refusal ≡ Err other = ap (λ (p : Result What Refusal × SecondaryState). p.0) same in
    let one : refusal ≡ other = cc in
    rw (one, left) refl

pub closed : (frame : Received) (o : Option EndState) (s t : SecondaryState) (refusal : Refusal) → is_some o ≡ true → (Err refusal, t) ≡ judged_at frame o s
    → (Err refusal, record t { end = None }) ≡ take_at frame o s
closed frame None s t refusal is_established same = absurd (cc)
closed frame (Some e) s t refusal is_established same = closes (judging frame e s) s t refusal same

-- A frame may be taken at an open end alone.
pub may-open : (s : SecondaryState) → IsOk (may_take s) → is_some s.end ≡ true
may-open s may = by-end s.end refl
  where
    by-end : (o : Option EndState) → s.end ≡ o → is_some s.end ≡ true
    by-end None none = absurd (let never = rw none at may in cc)
    by-end (Some e) some = ap is_some some
