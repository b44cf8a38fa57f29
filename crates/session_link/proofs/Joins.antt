-- Two nodes whose ends are those of one link have joined histories.
use Rattle.std.proofs.Common.{ℕ, ◌≡◌, List, ◌++◌, map, Option, Some, Ok, sym, ◌∙◌, ap, subst}
use Rattle.std.proofs.lemmas.List.{map-append}
use Rattle.std.proofs.lemmas.Option.{same_Some}
use Rattle.model.specs.Frames.{Packet, Received}
use Rattle.model.specs.Headline.{IsJoined}
use Rattle.model.specs.Primary.{PrimaryHistory}
use Rattle.model.specs.Secondary.{SecondaryHistory}
use Rattle.model.specs.Stream.{IsBeginning}
use Rattle.endpoint.specs.PacketReceiver.{PacketReceiverState}
use Rattle.endpoint.specs.Joined.{BeginsPushed, pushed_at, taken_at}
use Rattle.endpoint.specs.PacketSender.{PacketSenderState}
use Rattle.primary.specs.State.{PrimaryView}
use Rattle.secondary.specs.State.{SecondaryView}
use Rattle.session_nodes.specs.Primaries.{PrimaryHas}
use Rattle.session_nodes.specs.Secondaries.{SecondaryHas}

-- as the other end reads them
begins : (taken : List Received) (pushed : List Packet) → BeginsPushed taken pushed → IsBeginning taken (map (λ packet. Ok packet) pushed)
begins taken pushed b =
    let read : Packet → Received = λ packet. Ok packet in
    (map read b.begins.0, ap (λ (l : List Received). l ++ map read b.begins.0) b.each ∙ (sym (map-append read b.front b.begins.0) ∙ ap (map read) b.begins.1))

-- What one end took begins what the other one pushed, as the histories have both.
carried : {there : Option PacketSenderState} {here : Option PacketReceiverState} (number : ℕ) (o one : PacketSenderState) (i two : PacketReceiverState)
    (pushed : List Packet)
    (taken : List Received) → there ≡ Some o → there ≡ Some one → here ≡ Some i → here ≡ Some two → pushed_at number one ≡ pushed → taken_at number two ≡ taken
    → BeginsPushed (taken_at number i) (pushed_at number o) → IsBeginning taken (map (λ packet. Ok packet) pushed)
carried number o one i two pushed taken o_is one_is i_is two_is pushed_is taken_is returned =
    let came : taken_at number i ≡ taken = ap (taken_at number) (same_Some i two (sym i_is ∙ two_is)) ∙ taken_is in
    let went : pushed_at number o ≡ pushed = ap (pushed_at number) (same_Some o one (sym o_is ∙ one_is)) ∙ pushed_is in
    subst (λ (l : List Received). IsBeginning l (map (λ packet. Ok packet) pushed)) came
    (subst (λ (l : List Packet). IsBeginning (taken_at number i) (map (λ packet. Ok packet) l)) went (begins _ _ returned))

pub joined : (v : PrimaryView) (w : SecondaryView) (o : PacketSenderState) (acks : PacketReceiverState) (answers : PacketSenderState) (i : PacketReceiverState)
    → v.outgoing ≡ Some o → v.incoming ≡ Some acks → w.outgoing ≡ Some answers → w.incoming ≡ Some i
    → ((number : ℕ) → BeginsPushed (taken_at number i) (pushed_at number o)) → ((number : ℕ) → BeginsPushed (taken_at number acks) (pushed_at number answers))
    → (p : PrimaryHistory) (s : SecondaryHistory) → PrimaryHas v p → SecondaryHas w s → IsJoined p s
joined v w o acks answers i out_is acks_is answers_is in_is there back p s had held = record {
  out = λ number. carried number o had.over.traffic.out i held.over.traffic.inn _ _ out_is had.over.traffic.out_there in_is held.over.traffic.in_there
      (had.over.traffic.pushed number)
      (held.over.traffic.taken number) (there number);
  back = λ number. carried number answers held.over.traffic.out acks had.over.traffic.inn _ _ answers_is held.over.traffic.out_there acks_is
      had.over.traffic.in_there
      (held.over.traffic.pushed number) (had.over.traffic.taken number) (back number);
}
