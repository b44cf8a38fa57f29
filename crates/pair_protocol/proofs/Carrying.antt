-- A frame goes over a direction of the link: what the side that sends and the side that takes are afterwards.
use Rattle.std.proofs.Common.{ℕ, ◌≡◌, ◌≤◌, List, [], ◌∷◌, ◌++◌, length, drop, Option, Some, None, Result, Ok, Err, refl, sym, ◌∙◌, ap, subst, arith}
use Rattle.std.specs.Prelude.{option_map, IfSome, OnOk, OnErr}
use Rattle.std.proofs.lemmas.List.{length-drop}
use Rattle.blocks.specs.declared.refusal.Refusal.{Refusal}
use Rattle.blocks.specs.declared.refusal.Refusal.TheVariants.{NothingThere}
use Rattle.model.specs.Frames.{Packet, Received}
use Rattle.link.specs.Directions.{QueueState}
use Rattle.endpoint.specs.Calls.{PushedOne, Sends, Takes}
use Rattle.endpoint.specs.PacketReceiver.{PacketReceiverState, with_received, SameRow}
use Rattle.endpoint.specs.PacketSender.{PacketSenderState, with_pushed}
use Rattle.endpoint.specs.Joined.{PacketsFollow, BeginsPushed}
use Rattle.endpoint.specs.Lending.{IsQueueOf, GivenBack, without_queue, with_queue, taking_from, empty_handed}
use Rattle.pair_protocol.specs.State.{Direction, AreEnds, IsDirection}
use Rattle.pair_protocol.specs.Carried.{Gave, PacketsFollowIn}
use Rattle.pair_protocol.proofs.Rows.{IsLent, lent, ends-back, ends-kept, ends-pushed, took-next, none-next}

some-is : {X : Type 0} (x y : X) → Some x ≡ Some y → x ≡ y
some-is x y same = cc

-- the queue as it came back
came-back : {R : Type 0} (capacity : ℕ) (out : PacketSenderState) (inn : PacketReceiverState) (q : QueueState) (frame : Option Received)
    (result : Result R Refusal)
    (later : Option PacketReceiverState) (back : QueueState)
    → IsLent capacity out inn q → (after : PacketReceiverState) → Takes frame result (Some (taking_from q inn)) later → later ≡ Some after
    → (back.taken ≡ after.frames) × ((after.queued ≡ Some back.frames) × (after.capacity ≡ Some back.capacity))
    → (after.frames ++ back.frames ≡ inn.frames ++ q.frames) × (back.capacity ≡ capacity) × (length back.frames ≤ length q.frames) × ((one : Received)
    → frame ≡ Some one → after.taken ≡ inn.taken ++ one ∷ [])
came-back capacity out inn q None result later back l after takes there whose =
    let kept = takes.kept refl in
    let same : record (taking_from q inn) { is_ready = kept.0 } ≡ after = some-is _ after (sym kept.1 ∙ there) in
    let queued : q.frames ≡ back.frames = some-is q.frames back.frames (ap (λ (i : PacketReceiverState). i.queued) same ∙ whose.1.0) in
    let size : q.capacity ≡ back.capacity = some-is q.capacity back.capacity (ap (λ (i : PacketReceiverState). i.capacity) same ∙ whose.1.1) in
    let frames : inn.frames ≡ after.frames = ap (λ (i : PacketReceiverState). i.frames) same in (
      ap (λ l. l ++ back.frames) (sym frames) ∙ ap (λ l. inn.frames ++ l) (sym queued),
      sym size ∙ l.size,
      (let n = ap length queued in omega (arith, n)),
      λ one is. absurd (cc),
    )
came-back capacity out inn q (Some one) result later back l after takes there whose =
    let took = takes.took one refl in
    let was : taking_from q inn ≡ took.before = some-is _ took.before took.there in
    let same : with_received one took.frames took.ready took.before ≡ after = some-is _ after (sym took.after ∙ there) in
    let now : with_received one took.frames took.ready (taking_from q inn) ≡ after = ap (with_received one took.frames took.ready) was ∙ same in
    let queued : drop 1 q.frames ≡ back.frames = some-is _ back.frames (ap (λ (i : PacketReceiverState). i.queued) now ∙ whose.1.0) in
    let size : q.capacity ≡ back.capacity = some-is q.capacity back.capacity (ap (λ (i : PacketReceiverState). i.capacity) now ∙ whose.1.1) in
    let frames : took.frames ≡ after.frames = ap (λ (i : PacketReceiverState). i.frames) now in
    let row : took.frames ++ drop 1 q.frames ≡ inn.frames ++ q.frames =
    subst (λ (i : PacketReceiverState). SameRow i (with_received one took.frames took.ready i))
    (sym was) took.row in (
      ap (λ l. l ++ back.frames) (sym frames) ∙ ap (λ l. took.frames ++ l) (sym queued) ∙ row,
      sym size ∙ l.size,
      (let n = ap length queued in let m = length-drop 1 q.frames in omega (arith, n, m)),
      λ other is. let one_is : one ≡ other = some-is one other is in ap (λ (i : PacketReceiverState). i.taken) (sym now) ∙ ap (λ x. inn.taken ++ x ∷ []) one_is,
    )

-- What a queue holds that came back is what the sending side has sent.
pub lay-back : {R : Type 0} (capacity : ℕ) (out : PacketSenderState) (inn : PacketReceiverState) (q : QueueState) (frame : Option Received)
    (result : Result R Refusal)
    (later ended : Option PacketReceiverState) (back : QueueState)
    → AreEnds capacity out inn → IsQueueOf q out → Takes frame result (Some (taking_from q inn)) later → GivenBack (Some back) later ended
    → out.frames ≡ back.taken ++ back.frames
lay-back {R} capacity out inn q frame result later ended back ends whose takes given = go later takes given
  where
    go : (v : Option PacketReceiverState) → Takes frame result (Some (taking_from q inn)) v → GivenBack (Some back) v ended
        → out.frames ≡ back.taken ++ back.frames
    go None takes given = absurd (let none : Some back ≡ None = given.none refl in cc)
    go (Some after) takes given =
        let l = lent capacity out inn q ends whose in
        let was = given.whose after back refl refl in
        let now = came-back capacity out inn q frame result (Some after) back l after takes refl was in
        l.rest ∙ sym now.0 ∙ ap (λ t. t ++ back.frames) (sym was.0)

-- The frame that was taken was the next one, and the direction is as it is between two calls.
pub carried : {R : Type 0} (capacity : ℕ) (out : PacketSenderState) (inn : PacketReceiverState) (q : QueueState) (frame : Option Received)
    (result : Result R Refusal)
    (later ended : Option PacketReceiverState) (back : QueueState)
    → AreEnds capacity out inn → IsQueueOf q out → Takes frame result (Some (taking_from q inn)) later → GivenBack (Some back) later ended
    → PacketsFollowIn (record { out = Some (with_queue back (without_queue out)); inn = ended })
    → Gave frame result (record { out = Some out; inn = Some inn })
    × IsDirection capacity (record { out = Some (with_queue back (without_queue out)); inn = ended })
carried {R} capacity out inn q frame result later ended back ends whose takes given returned = go later takes given
  where
    go : (v : Option PacketReceiverState) → Takes frame result (Some (taking_from q inn)) v → GivenBack (Some back) v ended
        → Gave frame result (record { out = Some out; inn = Some inn })
        × IsDirection capacity (record { out = Some (with_queue back (without_queue out)); inn = ended })
    go None takes given = absurd (let none : Some back ≡ None = given.none refl in cc)
    go (Some after) takes given =
        let l = lent capacity out inn q ends whose in
        let was = given.whose after back refl refl in
        let now = came-back capacity out inn q frame result (Some after) back l after takes refl was in
        let t : PacketsFollow (with_queue back (without_queue out)) (empty_handed after) = returned (with_queue back (without_queue out))
        (empty_handed after) refl given.left in
        let whole : PacketsFollow out after = record { begins = t.begins; pushed = t.pushed; taken = t.taken } in
        let begins : BeginsPushed after.taken out.pushed = whole.begins (back.frames, now.0 ∙ sym l.rest) in (
          record {
            took = λ one is. record {
              out = out;
              inn = inn;
              out_there = refl;
              in_there = refl;
              next = took-next out inn one (subst (λ (t : List Received). BeginsPushed t out.pushed) (now.3 one is) begins);
            };
            none = λ is nothing. record { out = out; inn = inn; out_there = refl; in_there = refl; next = none-next capacity out inn q ends l (empty nothing) };
          },
          (empty_handed after, given.left, ends-back capacity out inn after q back l was.0 now.1 now.0 now.2 whole),
        )
      where
        empty : result ≡ Err NothingThere → q.frames ≡ []
        empty nothing =
            let e = takes.empty nothing in
            let same : taking_from q inn ≡ e.0 = some-is (taking_from q inn) e.0 e.1 in
            subst (λ (i : PacketReceiverState). IfSome i.queued (λ frames. frames ≡ [])) (sym same) e.2

-- What was pushed waits behind the others, where the link had room.
pub sent-over : {R : Type 0} (capacity : ℕ) (d : Direction) (result : Result R Refusal) (out : Option PacketSenderState) → IsDirection capacity d
    → Sends result d.out out → PacketsFollowIn (record d { out = out }) → IsDirection capacity (record d { out = out })
sent-over {R} capacity d result out is sends returned = go d.out refl is result refl
  where
    go : (v : Option PacketSenderState) → d.out ≡ v
        → elim v as (λ _. Type 0) [ None ↦ d.inn ≡ None | Some o ↦ (inn : PacketReceiverState) × (d.inn ≡ Some inn) × AreEnds capacity o inn ]
        → (r : Result R Refusal) → result ≡ r → IsDirection capacity (record d { out = out })
    go None none is (Ok done) ok = absurd
        (let p : PushedOne d.out out = subst (λ (r : Result R Refusal). OnOk r (PushedOne d.out out)) ok sends.pushed in let no : None ≡ Some p.before =
        sym none ∙ p.there in cc)
    go None none is (Err e) err =
        let k = subst (λ (r : Result R Refusal). OnErr r
        ((partly : Option (List Packet)) × (out ≡ option_map (λ (o : PacketSenderState). record o { partly = partly }) d.out))) err sends.kept in
        let same : out ≡ None = k.1 ∙ ap (option_map (λ (o : PacketSenderState). record o { partly = k.0 })) none in
        subst (λ (v : Option PacketSenderState). IsDirection capacity (record d { out = v })) (sym same) is
    go (Some o) there is (Ok done) ok =
        let p : PushedOne d.out out = subst (λ (r : Result R Refusal). OnOk r (PushedOne d.out out)) ok sends.pushed in
        let was : o ≡ p.before = some-is o p.before (sym there ∙ p.there) in
        let now : out ≡ Some (with_pushed p.packet p.frame o) = p.after ∙ ap (λ (x : PacketSenderState). Some (with_pushed p.packet p.frame x)) (sym was) in
        let room : IfSome o.room (λ n. n ≡ 0 → ⊥) = subst (λ (x : PacketSenderState). IfSome x.room (λ n. n ≡ 0 → ⊥)) (sym was) p.room in
        subst (λ (v : Option PacketSenderState). IsDirection capacity (record d { out = v })) (sym now)
        (is.0, is.1, ends-pushed capacity o is.0 p.packet p.frame is.2 room (returned (with_pushed p.packet p.frame o) is.0 now is.1))
    go (Some o) there is (Err e) err =
        let k = subst (λ (r : Result R Refusal). OnErr r
        ((partly : Option (List Packet)) × (out ≡ option_map (λ (o : PacketSenderState). record o { partly = partly }) d.out))) err sends.kept in
        let now : out ≡ Some (record o { partly = k.0 }) = k.1 ∙ ap (option_map (λ (o : PacketSenderState). record o { partly = k.0 })) there in
        subst (λ (v : Option PacketSenderState). IsDirection capacity (record d { out = v })) (sym now) (is.0, is.1, ends-kept capacity o is.0 k.0 is.2)
