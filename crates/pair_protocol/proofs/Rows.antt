-- A direction of the link: its queue goes over to the side that takes, for one frame, and comes back.
use Rattle.std.proofs.Common.{ℕ, zero, suc, ◌≡◌, ◌≤◌, ◌<◌, ◌-◌, ◌+◌, List, [], ◌∷◌, ◌++◌, length, map, Option, Some, None, Ok, slice_get, refl, sym, ◌∙◌, ap}
use Rattle.std.proofs.Common.{subst, arith}
use Rattle.std.specs.Prelude.{option_map, IfSome}
use Rattle.std.proofs.lemmas.List.{append_assoc, length-append}
use Rattle.std.proofs.lemmas.Option.{slice_get-map, slice_get_past}
use Rattle.model.specs.Frames.{Packet, Received}
use Rattle.laws.proofs.Lists.Beginnings.{get-beginning}
use Rattle.laws.proofs.Lists.Elements.{get-end}
use Rattle.link.specs.Directions.{QueueState}
use Rattle.endpoint.specs.PacketReceiver.{PacketReceiverState}
use Rattle.endpoint.specs.PacketSender.{PacketSenderState, with_pushed}
use Rattle.endpoint.specs.Joined.{PacketsFollow, BeginsPushed}
use Rattle.endpoint.specs.Lending.{IsQueueOf, without_queue, with_queue, empty_handed}
use Rattle.pair_protocol.specs.Carried.{next_of}
use Rattle.pair_protocol.specs.State.{AreEnds}

-- Two lists that are split after as many elements are split alike.
split-front : {X : Type 0} (us vs ws xs : List X) → us ++ vs ≡ ws ++ xs → length us ≡ length ws → us ≡ ws
split-front [] vs [] xs same count = refl
split-front [] vs (w ∷ ws) xs same count = absurd (omega (arith, count))
split-front (u ∷ us) vs [] xs same count = absurd (omega (arith, count))
split-front (u ∷ us) vs (w ∷ ws) xs same count =
    let first : u ≡ w = cc in
    let rest : us ++ vs ≡ ws ++ xs = cc in
    let n : length us ≡ length ws = omega (arith, count) in
    subst (λ x. u ∷ us ≡ x ∷ ws) first (ap (λ l. u ∷ l) (split-front us vs ws xs rest n))

-- The queue that a sending side hands out is what the taking side has not taken.
pub record IsLent (capacity : ℕ) (out : PacketSenderState) (inn : PacketReceiverState) (q : QueueState) : Type 0 where
  pub taken : q.taken ≡ inn.frames
  pub rest : out.frames ≡ inn.frames ++ q.frames
  pub size : q.capacity ≡ capacity
  pub few : length q.frames ≤ capacity

pub lent : (capacity : ℕ) (out : PacketSenderState) (inn : PacketReceiverState) (q : QueueState) → AreEnds capacity out inn → IsQueueOf q out
    → IsLent capacity out inn q
lent capacity out inn q ends whose =
    let count : Some (length ends.waiting) ≡ Some (length q.frames) = sym ends.count ∙ whose.waiting in
    let waits : length ends.waiting ≡ length q.frames = cc in
    let rooms : Some (capacity - length ends.waiting) ≡ Some (q.capacity - length q.frames) = sym ends.room ∙ whose.room in
    let room : capacity - length ends.waiting ≡ q.capacity - length q.frames = cc in
    let few = ends.few in
    let within = whose.within in
    let rows : q.taken ++ q.frames ≡ inn.frames ++ ends.waiting = sym whose.frames ∙ ends.row in
    let sizes = sym (length-append q.taken q.frames) ∙ ap length rows ∙ length-append inn.frames ends.waiting in
    let same : q.taken ≡ inn.frames = split-front q.taken q.frames inn.frames ends.waiting rows (omega (arith, sizes, waits)) in
    record {
      taken = same;
      rest = whose.frames ∙ ap (λ l. l ++ q.frames) same;
      size = omega (arith, room, waits, few, within);
      few = omega (arith, few, waits);
    }

-- A packet was pushed: it waits behind the others.
pub ends-pushed : (capacity : ℕ) (out : PacketSenderState) (inn : PacketReceiverState) (packet : Packet) (frame : List ℕ) → AreEnds capacity out inn
    → IfSome out.room (λ n. n ≡ 0 → ⊥) → PacketsFollow (with_pushed packet frame out) inn
    → AreEnds capacity (with_pushed packet frame out) inn
ends-pushed capacity out inn packet frame ends room returned =
    let free : capacity - length ends.waiting ≡ 0 → ⊥ = subst (λ (v : Option ℕ). IfSome v (λ n. n ≡ 0 → ⊥)) ends.room room in
    let few = ends.few in
    let one : length (ends.waiting ++ frame ∷ []) ≡ length ends.waiting + 1 = length-append ends.waiting (frame ∷ []) in
    let more : length ends.waiting < capacity = less (capacity - length ends.waiting) refl free few in
    record {
      waiting = ends.waiting ++ frame ∷ [];
      row = ap (λ l. l ++ frame ∷ []) ends.row ∙ append_assoc inn.frames ends.waiting (frame ∷ []);
      room = ap (option_map (λ n. n - 1)) ends.room ∙ ap Some (omega (arith, one));
      count = ap (option_map (λ n. n + 1)) ends.count ∙ ap Some (sym one);
      few = omega (arith, one, more);
      queued = ends.queued;
      away = ends.away;
      packets = returned;
    }
  where
    less : (n : ℕ) → n ≡ capacity - length ends.waiting → (capacity - length ends.waiting ≡ 0 → ⊥) → length ends.waiting ≤ capacity
        → length ends.waiting < capacity
    less zero same free few = absurd (free (sym same))
    less (suc n) same free few = omega (arith, same, few)

-- One went in part, or none.
pub ends-kept : (capacity : ℕ) (out : PacketSenderState) (inn : PacketReceiverState) (partly : Option (List Packet)) → AreEnds capacity out inn
    → AreEnds capacity (record out { partly = partly }) inn
ends-kept capacity out inn partly ends = record {
  waiting = ends.waiting;
  row = ends.row;
  room = ends.room;
  count = ends.count;
  few = ends.few;
  queued = ends.queued;
  away = ends.away;
  packets = record { begins = ends.packets.begins; pushed = ends.packets.pushed; taken = ends.packets.taken };
}

-- The queue lay at the side that takes, and is back: what was taken of it is taken.
pub ends-back : (capacity : ℕ) (out : PacketSenderState) (inn after : PacketReceiverState) (q back : QueueState) → IsLent capacity out inn q
    → back.taken ≡ after.frames → back.capacity ≡ capacity → after.frames ++ back.frames ≡ inn.frames ++ q.frames → length back.frames ≤ length q.frames
    → PacketsFollow out after → AreEnds capacity (with_queue back (without_queue out)) (empty_handed after)
ends-back capacity out inn after q back l taken size row fewer returned = record {
  waiting = back.frames;
  row = l.rest ∙ sym row;
  room = ap (λ n. Some (n - length back.frames)) size;
  count = refl;
  few = omega (arith, few);
  queued = refl;
  away = refl;
  packets = record { begins = returned.begins; pushed = returned.pushed; taken = returned.taken };
}
  where
    few : length back.frames ≤ capacity
    few = let a = l.few in omega (arith, fewer, a)

-- What a direction gives next.

-- A frame that was taken is the next one.
pub took-next : (out : PacketSenderState) (inn : PacketReceiverState) (one : Received) → BeginsPushed (inn.taken ++ one ∷ []) out.pushed
    → next_of out inn ≡ Some one
took-next out inn one b =
    let here : slice_get (map ok b.front) (length inn.taken) ≡ Some one = subst (λ (l : List Received). slice_get l (length inn.taken) ≡ Some one) b.each
    (get-end inn.taken one) in
    go (slice_get b.front (length inn.taken)) refl (sym (slice_get-map ok b.front (length inn.taken)) ∙ here)
  where
    ok : Packet → Received
    ok packet = Ok packet

    go : (v : Option Packet) → slice_get b.front (length inn.taken) ≡ v → option_map ok v ≡ Some one → next_of out inn ≡ Some one
    go None at is = absurd (cc)
    go (Some packet) at is = ap (option_map ok) (get-beginning b.front out.pushed (length inn.taken) packet b.begins at) ∙ is

-- Where nothing waits there is none.
pub none-next : (capacity : ℕ) (out : PacketSenderState) (inn : PacketReceiverState) (q : QueueState) → AreEnds capacity out inn → IsLent capacity out inn q
    → q.frames ≡ [] → next_of out inn ≡ None
none-next capacity out inn q ends l none =
    let rows = ap length l.rest ∙ length-append inn.frames q.frames in
    let empty : length q.frames ≡ 0 = ap length none in
    let a = ends.packets.pushed in
    let b = ends.packets.taken in
    ap (option_map (λ packet. Ok packet)) (slice_get_past out.pushed (length inn.taken) (omega (arith, rows, empty, a, b)))
