-- Both ends of a node before and after a call, whichever node it is: whether they go on with the same connection or begin a new
-- one, and what went past on each connection by its number.
use Rattle.std.proofs.Common.{ℕ, ◌≡◌, ◌<◌, List, [], map, Option, Some, None, Ok, refl, sym, ◌∙◌, ap, arith}
use Rattle.std.specs.Prelude.{Result, Err, OnOk, OnErr, option_map}
use Rattle.std.proofs.lemmas.Option.{same_Some}
use Rattle.blocks.specs.declared.refusal.Refusal.{Refusal}
use Rattle.model.specs.Frames.{Packet, Received}
use Rattle.link.specs.Ends.{InEnd, OutEnd}
use Rattle.link.specs.Past.{Past}
use Rattle.endpoint.specs.Calls as link
use Rattle.endpoint.specs.Calls.{IsNewIn, IsNewOut, pushed_of, taken_of}
use Rattle.endpoint.specs.PacketReceiver.{PacketReceiverState, TakenBefore, with_received, taking_anew, incoming, taken_before}
use Rattle.endpoint.specs.PacketSender.{PacketSenderState, PushedBefore, with_pushed, pushing_anew, outgoing, pushed_before}
use Rattle.endpoint.specs.Joined.{pushed_at, pushed_past, taken_at, taken_past}
use Rattle.session_nodes.specs.Traffic.{KnowTraffic}
use Rattle.session_nodes.proofs.Connections.{all-more, all-same, by-number, came-more, earlier, past-more}

-- What the calls of a node leave of its ends.

-- Both ends go on with the same connection.
pub record SameEnds (out out_later : Option PacketSenderState) (inn inn_later : Option PacketReceiverState) : Type 0 where
  pub sender : (o : PacketSenderState) → out ≡ Some o → (p : PacketSenderState) × (out_later ≡ Some p) × (p.number ≡ o.number) × (p.past ≡ o.past)
  pub receiver : (i : PacketReceiverState) → inn ≡ Some i → (q : PacketReceiverState) × (inn_later ≡ Some q) × (q.number ≡ i.number) × (q.past ≡ i.past)

-- neither changed
pub ends-of : {out out_later : Option PacketSenderState} {inn inn_later : Option PacketReceiverState} → out_later ≡ out → inn_later ≡ inn
    → SameEnds out out_later inn inn_later
ends-of same_out same_in = record { sender = λ o at. (o, same_out ∙ at, refl, refl); receiver = λ i at. (i, same_in ∙ at, refl, refl) }

-- a push
pub ends-sent : {R : Type 0} {out out_later : Option PacketSenderState} {inn inn_later : Option PacketReceiverState} (result : Result R Refusal)
    → link.Sends result out out_later → inn_later ≡ inn → SameEnds out out_later inn inn_later
ends-sent {R} {out} {out_later} result sends same_in = record { sender = go result sends.pushed sends.kept; receiver = λ i at. (i, same_in ∙ at, refl, refl) }
  where
    go : (r : Result R Refusal) → OnOk r (link.PushedOne out out_later)
        → OnErr r ((partly : Option (List Packet)) × (out_later ≡ option_map (λ (o : PacketSenderState). record o { partly = partly }) out))
        → (o : PacketSenderState) → out ≡ Some o → (p : PacketSenderState) × (out_later ≡ Some p) × (p.number ≡ o.number) × (p.past ≡ o.past)
    go (Ok done) pushed kept o at =
        let same = same_Some pushed.before o (sym pushed.there ∙ at) in (
          with_pushed pushed.packet pushed.frame pushed.before,
          pushed.after,
          ap (λ (x : PacketSenderState). x.number) same,
          ap (λ (x : PacketSenderState). x.past) same,
        )
    go (Err e) pushed kept o at =
        (record o { partly = kept.0 }, kept.1 ∙ ap (option_map (λ (x : PacketSenderState). record x { partly = kept.0 })) at, refl, refl)

-- a frame taken, or none
pub ends-took : {R : Type 0} {out out_later : Option PacketSenderState} {inn inn_later : Option PacketReceiverState} (result : Result R Refusal)
    (frame : Option Received)
    → link.Takes frame result inn inn_later → out_later ≡ out → SameEnds out out_later inn inn_later
ends-took {inn} {inn_later} result frame takes same_out = record { sender = λ o at. (o, same_out ∙ at, refl, refl); receiver = go frame refl }
  where
    go : (f : Option Received) → frame ≡ f → (i : PacketReceiverState) → inn ≡ Some i
        → (q : PacketReceiverState) × (inn_later ≡ Some q) × (q.number ≡ i.number) × (q.past ≡ i.past)
    go None is i at =
        let kept = takes.kept is in
        (record i { is_ready = kept.0 }, kept.1 ∙ ap (option_map (λ (x : PacketReceiverState). record x { is_ready = kept.0 })) at, refl, refl)
    go (Some one) is i at =
        let took = takes.took one is in
        let same = same_Some took.before i (sym took.there ∙ at) in (
          with_received one took.frames took.ready took.before,
          took.after,
          ap (λ (x : PacketReceiverState). x.number) same,
          ap (λ (x : PacketReceiverState). x.past) same,
        )

-- What went past on each connection.

-- A later history has on its last connection what the ends have there, and on any other what an earlier history had.
pub record NextTraffic (out_there : Option PacketSenderState) (in_there : Option PacketReceiverState) (last : ℕ) (sent sent_later : ℕ → List Packet)
    (came came_later : ℕ → List Received) : Type 0 where
  pub pushed_last : pushed_of out_there ≡ sent_later last
  pub taken_last : taken_of in_there ≡ came_later last
  pub pushed : (number : ℕ) → (number ≡ last → ⊥) → sent_later number ≡ sent number
  pub taken : (number : ℕ) → (number ≡ last → ⊥) → came_later number ≡ came number

pushed-next : {there : Option PacketSenderState} {last : ℕ} (o : PacketSenderState) (sent : ℕ → List Packet) → there ≡ Some o → o.number ≡ last
    → pushed_of there ≡ sent last → ((number : ℕ) → (number ≡ last → ⊥) → pushed_past number o.past ≡ sent number)
    → (number : ℕ) → pushed_at number o ≡ sent number
pushed-next o sent at is now past = by-number o.number o.pushed (λ number. pushed_past number o.past) sent
    (ap pushed_of (sym at) ∙ (now ∙ ap sent (sym is))) (λ number other. past number (λ same. other (same ∙ sym is)))

taken-next : {there : Option PacketReceiverState} {last : ℕ} (i : PacketReceiverState) (came : ℕ → List Received) → there ≡ Some i → i.number ≡ last
    → taken_of there ≡ came last → ((number : ℕ) → (number ≡ last → ⊥) → taken_past number i.past ≡ came number)
    → (number : ℕ) → taken_at number i ≡ came number
taken-next i came at is now past = by-number i.number i.taken (λ number. taken_past number i.past) came
    (ap taken_of (sym at) ∙ (now ∙ ap came (sym is))) (λ number other. past number (λ same. other (same ∙ sym is)))

-- Both ends go on with the last connection.
pub traffic-stays : {out out_later : Option PacketSenderState} {inn inn_later : Option PacketReceiverState} {last last_later : ℕ} {sent sent_later : ℕ
    → List Packet}
    {came came_later : ℕ → List Received} → KnowTraffic out inn last sent came → SameEnds out out_later inn inn_later → last_later ≡ last
    → NextTraffic out_later inn_later last_later sent sent_later came came_later → KnowTraffic out_later inn_later last_later sent_later came_later
traffic-stays {sent_later} {came_later} was same still next =
    let out = same.sender was.out was.out_there in
    let inn = same.receiver was.inn was.in_there in
    let out_number = out.2 ∙ (was.out_number ∙ sym still) in
    let in_number = inn.2 ∙ (was.in_number ∙ sym still) in
    record {
      out = out.0;
      inn = inn.0;
      out_there = out.1;
      in_there = inn.1;
      out_number = out_number;
      in_number = in_number;
      out_past = all-same (λ (b : PushedBefore). b.number) still out.3 was.out_past;
      in_past = all-same (λ (b : TakenBefore). b.number) still inn.3 was.in_past;
      pushed = pushed-next out.0 sent_later out.1 out_number next.pushed_last (λ number other. ap (pushed_past number) out.3
          ∙ (earlier was.out.number number was.out.pushed (pushed_past number was.out.past) (λ is. other (is ∙ (was.out_number ∙ sym still)))
          ∙ (was.pushed number ∙ sym (next.pushed number other))));
      taken = taken-next inn.0 came_later inn.1 in_number next.taken_last (λ number other. ap (taken_past number) inn.3
          ∙ (earlier was.inn.number number was.inn.taken (taken_past number was.inn.past) (λ is. other (is ∙ (was.in_number ∙ sym still)))
          ∙ (was.taken number ∙ sym (next.taken number other))));
    }

-- Both begin a connection of a higher number.
pub traffic-begins : {out out_later : Option PacketSenderState} {inn inn_later : Option PacketReceiverState} {last number : ℕ} {sent sent_later : ℕ
    → List Packet}
    {came came_later : ℕ → List Received} → KnowTraffic out inn last sent came → last < number
    → (before : PacketSenderState) (room waiting : Option ℕ) → out ≡ Some before
    → out_later ≡ Some (record (pushing_anew number before) { room = room; waiting = waiting })
    → (had : PacketReceiverState) (queued : Option (List (List ℕ))) (capacity : Option ℕ) → inn ≡ Some had
    → inn_later ≡ Some (record (taking_anew number had) { queued = queued; capacity = capacity })
    → NextTraffic out_later inn_later number sent sent_later came came_later → KnowTraffic out_later inn_later number sent_later came_later
traffic-begins {out_later} {inn_later} {last} {number} {sent_later} {came_later} was above before room waiting out_there out_is had queued capacity in_there
    in_is next = record {
      out = begun_out;
      inn = begun_in;
      out_there = out_now;
      in_there = in_now;
      out_number = refl;
      in_number = refl;
      out_past = all-more (λ (b : PushedBefore). b.number) last number was.out.past _ was.out_past (omega arith) (let here = was.out_number in omega arith);
      in_past = all-more (λ (b : TakenBefore). b.number) last number was.inn.past _ was.in_past (omega arith) (let here = was.in_number in omega arith);
      pushed = pushed-next begun_out sent_later out_now refl next.pushed_last (λ m other.
          past-more m (record { number = was.out.number; pushed = was.out.pushed; frames = was.out.frames }) was.out.past
          (all-same (λ (b : PushedBefore). b.number) was.out_number refl was.out_past)
          ∙ (was.pushed m ∙ sym (next.pushed m other)));
      taken = taken-next begun_in came_later in_now refl next.taken_last (λ m other.
          came-more m (record { number = was.inn.number; taken = was.inn.taken; frames = was.inn.frames }) was.inn.past
          (all-same (λ (b : TakenBefore). b.number) was.in_number refl was.in_past)
          ∙ (was.taken m ∙ sym (next.taken m other)));
    }
  where
    begun_out : PacketSenderState
    begun_out = record (pushing_anew number was.out) { room = room; waiting = waiting }

    begun_in : PacketReceiverState
    begun_in = record (taking_anew number was.inn) { queued = queued; capacity = capacity }

    out_now : out_later ≡ Some (record (pushing_anew number was.out) { room = room; waiting = waiting })
    out_now = out_is ∙ ap (λ (o : PacketSenderState). Some (record (pushing_anew number o) { room = room; waiting = waiting }))
        (same_Some before was.out (sym out_there ∙ was.out_there))

    in_now : inn_later ≡ Some (record (taking_anew number was.inn) { queued = queued; capacity = capacity })
    in_now = in_is ∙ ap (λ (i : PacketReceiverState). Some (record (taking_anew number i) { queued = queued; capacity = capacity }))
        (same_Some had was.inn (sym in_there ∙ was.in_there))

-- Unused ends are on their first connection, and nothing went past on any other.
pub traffic-first : {out : Option PacketSenderState} {inn : Option PacketReceiverState} {last : ℕ} {sent sent_later : ℕ → List Packet}
    {came came_later : ℕ → List Received} (o : OutEnd) (i : InEnd) → IsNewOut o → IsNewIn i → out ≡ Some (outgoing o) → inn ≡ Some (incoming i) → last ≡ 1
    → ((number : ℕ) → sent number ≡ []) → ((number : ℕ) → came number ≡ []) → NextTraffic out inn last sent sent_later came came_later
    → KnowTraffic out inn last sent_later came_later
traffic-first {sent_later} {came_later} o i new_out new_in out_there in_there first none_sent none_came next =
    let out_number = new_out.number ∙ sym first in
    let in_number = new_in.number ∙ sym first in
    record {
      out = outgoing o;
      inn = incoming i;
      out_there = out_there;
      in_there = in_there;
      out_number = out_number;
      in_number = in_number;
      out_past = all-same (λ (b : PushedBefore). b.number) refl (ap (map pushed_before) new_out.past) tt;
      in_past = all-same (λ (b : TakenBefore). b.number) refl (ap (map taken_before) new_in.past) tt;
      pushed = pushed-next (outgoing o) sent_later out_there out_number next.pushed_last (λ number other.
          ap (λ (l : List Past). pushed_past number (map pushed_before l)) new_out.past ∙ (sym (none_sent number) ∙ sym (next.pushed number other)));
      taken = taken-next (incoming i) came_later in_there in_number next.taken_last (λ number other.
          ap (λ (l : List Past). taken_past number (map taken_before l)) new_in.past ∙ (sym (none_came number) ∙ sym (next.taken number other)));
    }
