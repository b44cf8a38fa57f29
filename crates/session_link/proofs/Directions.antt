-- The frames of a link's end by the numbers of its connections, as the nodes tell them.
use Rattle.std.proofs.Common.{ℕ, ◌≡◌, ◌==◌, List, [], ◌∷◌, ◌++◌, map, refl, sym, ◌∙◌, ap, subst}
use Rattle.std.specs.Prelude.{if◌then◌else◌}
use Rattle.link.specs.Past.{Past}
use Rattle.endpoint.specs.PacketReceiver.{PacketReceiverState, incoming, taken_before}
use Rattle.endpoint.specs.Joined.{PacketsFollowEverywhere, BeginsPushed, pushed_at, taken_at, sent_at, sent_past, came_at, came_past}
use Rattle.endpoint.specs.PacketSender.{PacketSenderState, outgoing, pushed_before}
use Rattle.thread_link.specs.Carried.{past_on}
use Rattle.thread_link.specs.Inward.{InwardState, taking}
use Rattle.thread_link.specs.Joined.{IsJoined, sent_on, taken_on}
use Rattle.thread_link.specs.Outward.{OutwardState, sending}

sent-past : (number : ℕ) (past : List Past) → sent_past number (map pushed_before past) ≡ past_on number past
sent-past number [] = refl
sent-past number (before ∷ past) = ap (λ (rest : List (List ℕ)). if before.number == number then before.frames else rest) (sent-past number past)

came-past : (number : ℕ) (past : List Past) → came_past number (map taken_before past) ≡ past_on number past
came-past number [] = refl
came-past number (before ∷ past) = ap (λ (rest : List (List ℕ)). if before.number == number then before.frames else rest) (came-past number past)

sent-on : (number : ℕ) (s : OutwardState) → sent_at number (outgoing (sending s)) ≡ sent_on number s
sent-on number s = ap (λ (rest : List (List ℕ)). if s.number == number then s.sent else rest) (sent-past number s.past)

came-on : (number : ℕ) (s : InwardState) → came_at number (incoming (taking s)) ≡ taken_on number s
came-on number s = ap (λ (rest : List (List ℕ)). if s.number == number then s.taken else rest) (came-past number s.past)

-- So where the frames taken begin the frames sent, the packets do, whichever way the ends are told.
pub joins : (o : PacketSenderState) (i : PacketReceiverState) (returned_o : PacketSenderState) (returned_i : PacketReceiverState) (s : OutwardState)
    (t : InwardState)
    → o ≡ outgoing (sending s) → i ≡ incoming (taking t) → returned_o ≡ outgoing (sending s) → returned_i ≡ incoming (taking t)
    → IsJoined s t → PacketsFollowEverywhere returned_o returned_i → (number : ℕ) → BeginsPushed (taken_at number i) (pushed_at number o)
joins o i returned_o returned_i s t o_is i_is returned_o_is returned_i_is joined returned number =
    let both = joined number in
    let everywhere : PacketsFollowEverywhere (outgoing (sending s)) (incoming (taking t)) =
    subst (λ (x : PacketSenderState). PacketsFollowEverywhere x (incoming (taking t))) returned_o_is
    (subst (λ (y : PacketReceiverState). PacketsFollowEverywhere returned_o y) returned_i_is returned) in
    let begins : BeginsPushed (taken_at number (incoming (taking t))) (pushed_at number (outgoing (sending s))) =
    everywhere number (both.0, ap (λ (l : List (List ℕ)). l ++ both.0) (came-on number t) ∙ (both.1 ∙ sym (sent-on number s))) in
    subst (λ (x : PacketSenderState). BeginsPushed (taken_at number i) (pushed_at number x)) (sym o_is)
    (subst (λ (y : PacketReceiverState). BeginsPushed (taken_at number y) (pushed_at number (outgoing (sending s)))) (sym i_is) begins)
