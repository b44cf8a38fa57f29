-- The queue of a direction is lent for one call: what that gave, and that it is back.
use Rattle.std.proofs.Common.{ℕ, ◌≡◌, true, false, ◌++◌, Option, Some, None, Result, refl, sym, ◌∙◌, ap, subst}
use Rattle.std.specs.Prelude.{option_map, is_some, IfSome}
use Rattle.blocks.specs.declared.refusal.Refusal.{Refusal}
use Rattle.model.specs.Frames.{Received}
use Rattle.link.specs.Directions.{QueueState}
use Rattle.endpoint.specs.Calls.{Takes, pushed_of, taken_of}
use Rattle.endpoint.specs.PacketReceiver.{PacketReceiverState, with_received}
use Rattle.endpoint.specs.PacketSender.{PacketSenderState}
use Rattle.endpoint.specs.Lending.{GivenOut, GivenBack, LaidBack, LaidIn, without_queue, with_queue, taking_from, empty_handed}
use Rattle.pair_protocol.specs.State.{Direction, AreEnds, IsDirection}
use Rattle.pair_protocol.specs.Carried.{Gave, PacketsFollowIn}
use Rattle.pair_protocol.proofs.Carrying.{carried, lay-back}
use Rattle.pair_protocol.proofs.Rows.{lent}

-- Nobody's packets change by that.

pub pushed-lent : (o : Option PacketSenderState) → pushed_of (option_map without_queue o) ≡ pushed_of o
pushed-lent None = refl
pushed-lent (Some o) = refl

pub pushed-back : (q : QueueState) (o : Option PacketSenderState) → pushed_of (option_map (with_queue q) o) ≡ pushed_of o
pushed-back q None = refl
pushed-back q (Some o) = refl

pub taken-laid : (q : QueueState) (i : Option PacketReceiverState) → taken_of (option_map (taking_from q) i) ≡ taken_of i
taken-laid q None = refl
taken-laid q (Some i) = refl

pub taken-given : (i : Option PacketReceiverState) → taken_of (option_map empty_handed i) ≡ taken_of i
taken-given None = refl
taken-given (Some i) = refl

-- What is asked of the queue where it is laid in, and where it is laid back.

pub may-lay : (capacity : ℕ) (d : Direction) (q : QueueState) (out : Option PacketSenderState) → IsDirection capacity d → GivenOut (Some q) d.out out
    → IfSome d.inn (λ i. q.taken ≡ i.frames)
may-lay capacity d q out is given = go d.out refl is
  where
    go : (v : Option PacketSenderState) → d.out ≡ v
        → elim v as (λ _. Type 0) [ None ↦ d.inn ≡ None | Some o ↦ (inn : PacketReceiverState) × (d.inn ≡ Some inn) × AreEnds capacity o inn ]
        → IfSome d.inn (λ i. q.taken ≡ i.frames)
    go None there none = subst (λ (v : Option PacketReceiverState). IfSome v (λ i. q.taken ≡ i.frames)) (sym none) tt
    go (Some o) there ends = subst (λ (v : Option PacketReceiverState). IfSome v (λ i. q.taken ≡ i.frames)) (sym ends.1)
        (lent capacity o ends.0 q ends.2 (given.whose o q there refl)).taken

pub may-lay-back : {R : Type 0} (capacity : ℕ) (d : Direction) (q back : QueueState) (frame : Option Received) (result : Result R Refusal)
    (out : Option PacketSenderState) (inn later ended : Option PacketReceiverState)
    → IsDirection capacity d → GivenOut (Some q) d.out out → LaidIn q d.inn inn → Takes frame result inn later → GivenBack (Some back) later ended
    → IfSome out (λ o. o.frames ≡ back.taken ++ back.frames)
may-lay-back {R} capacity d q back frame result out inn later ended is given laid takes gave = go d.out refl is
  where
    go : (v : Option PacketSenderState) → d.out ≡ v
        → elim v as (λ _. Type 0) [ None ↦ d.inn ≡ None | Some o ↦ (inn : PacketReceiverState) × (d.inn ≡ Some inn) × AreEnds capacity o inn ]
        → IfSome out (λ o. o.frames ≡ back.taken ++ back.frames)
    go None there none = subst (λ (v : Option PacketSenderState). IfSome v (λ o. o.frames ≡ back.taken ++ back.frames))
        (sym (given.left ∙ ap (option_map without_queue) there)) tt
    go (Some o) there ends =
        let now : inn ≡ Some (taking_from q ends.0) = laid ∙ ap (option_map (taking_from q)) ends.1 in
        subst (λ (v : Option PacketSenderState). IfSome v (λ o. o.frames ≡ back.taken ++ back.frames)) (sym (given.left ∙ ap (option_map without_queue) there))
        (lay-back capacity o ends.0 q frame result later ended back ends.2 (given.whose o q there refl)
        (subst (λ (v : Option PacketReceiverState). Takes frame result v later) now takes) gave)

-- The queue was there: the frame that was taken is the next one, and the direction is as it was before.
pub gave-over : {R : Type 0} (capacity : ℕ) (d : Direction) (q back : QueueState) (frame : Option Received) (result : Result R Refusal)
    (out ended_out : Option PacketSenderState) (inn later ended : Option PacketReceiverState)
    → IsDirection capacity d → GivenOut (Some q) d.out out → LaidIn q d.inn inn → Takes frame result inn later → GivenBack (Some back) later ended
    → LaidBack back out ended_out
    → PacketsFollowIn (record { out = ended_out; inn = ended }) → Gave frame result d × IsDirection capacity (record { out = ended_out; inn = ended })
gave-over {R} capacity d q back frame result out ended_out inn later ended is given laid takes gave over returned = go d.out refl is
  where
    go : (v : Option PacketSenderState) → d.out ≡ v
        → elim v as (λ _. Type 0) [ None ↦ d.inn ≡ None | Some o ↦ (inn : PacketReceiverState) × (d.inn ≡ Some inn) × AreEnds capacity o inn ]
        → Gave frame result d × IsDirection capacity (record { out = ended_out; inn = ended })
    go None there none =
        absurd (let nothing : Some q ≡ None = given.none there in cc)
    go (Some o) there ends =
        let now : inn ≡ Some (taking_from q ends.0) = laid ∙ ap (option_map (taking_from q)) ends.1 in
        let last : ended_out ≡ Some (with_queue back (without_queue o)) = over
        ∙ ap (option_map (with_queue back)) (given.left ∙ ap (option_map without_queue) there) in
        let done = carried capacity o ends.0 q frame result later ended back ends.2 (given.whose o q there refl)
        (subst (λ (v : Option PacketReceiverState). Takes frame result v later) now takes) gave
        (subst (λ (v : Option PacketSenderState). PacketsFollowIn (record { out = v; inn = ended })) last returned) in (
          record {
            took = λ one is. let g = done.0.took one is in record {
              out = g.out;
              inn = g.inn;
              out_there = there ∙ g.out_there;
              in_there = ends.1
                  ∙ g.in_there;
              next = g.next;
            };
            none = λ is nothing. let g = done.0.none is nothing in record {
              out = g.out;
              inn = g.inn;
              out_there = there ∙ g.out_there;
              in_there = ends.1
                  ∙ g.in_there;
              next = g.next;
            };
          },
          subst (λ (v : Option PacketSenderState). IsDirection capacity (record { out = v; inn = ended })) (sym last) done.1,
        )

-- There is no queue before the first connection: nothing was taken.
pub gave-none : {R : Type 0} (capacity : ℕ) (d : Direction) (frame : Option Received) (result : Result R Refusal) (out : Option PacketSenderState)
    (inn : Option PacketReceiverState)
    → IsDirection capacity d → GivenOut None d.out out → Takes frame result d.inn inn
    → Gave frame result d × IsDirection capacity (record { out = out; inn = inn }) × (frame ≡ None)
gave-none {R} capacity d frame result out inn is given takes = go d.out refl is frame refl
  where
    go : (v : Option PacketSenderState) → d.out ≡ v
        → elim v as (λ _. Type 0) [ None ↦ d.inn ≡ None | Some o ↦ (inn : PacketReceiverState) × (d.inn ≡ Some inn) × AreEnds capacity o inn ]
        → (f : Option Received) → frame ≡ f → Gave frame result d × IsDirection capacity (record { out = out; inn = inn }) × (frame ≡ None)
    go (Some o) there ends f same = absurd (let t : false ≡ is_some o.waiting = given.there o there in let w : is_some o.waiting ≡ true =
        ap is_some ends.2.count in cc)
    go None there none (Some one) same = absurd (let t = takes.took one same in let nothing : None ≡ Some t.before = sym none ∙ t.there in cc)
    go None there none None same =
        let after : inn ≡ None = (let k = takes.kept same in k.1 ∙ ap (option_map (λ (i : PacketReceiverState). record i { is_ready = k.0 })) none) in (
          record {
            took = λ one is. absurd (let nothing : None ≡ Some one = sym same ∙ is in cc);
            none = λ is nothing. absurd (let e = takes.empty nothing in let no_side : None ≡ Some e.0 = sym none ∙ e.1 in cc);
          },
          subst (λ (v : Option PacketSenderState). IsDirection capacity (record { out = v; inn = inn }))
              (sym (given.left ∙ ap (option_map without_queue) there))
              after,
          same,
        )

-- A queue that was lent comes back.
pub comes-back : {R : Type 0} (capacity : ℕ) (d : Direction) (q : QueueState) (frame : Option Received) (result : Result R Refusal)
    (out : Option PacketSenderState)
    (inn later ended : Option PacketReceiverState)
    → IsDirection capacity d → GivenOut (Some q) d.out out → LaidIn q d.inn inn → Takes frame result inn later → GivenBack None later ended → ⊥
comes-back {R} capacity d q frame result out inn later ended is given laid takes gave = go d.out refl is
  where
    lies : (i : PacketReceiverState) → inn ≡ Some i → i.capacity ≡ Some q.capacity → (f : Option Received) → frame ≡ f → ⊥
    lies i here size None same =
        let k = takes.kept same in
        let now : later ≡ Some (record i { is_ready = k.0 }) = k.1 ∙ ap (option_map (λ (x : PacketReceiverState). record x { is_ready = k.0 })) here in
        let there : false ≡ is_some i.capacity = gave.there (record i { is_ready = k.0 }) now in
        let full : is_some i.capacity ≡ true = ap is_some size in
        let both : false ≡ true = there ∙ full in
        cc
    lies i here size (Some one) same =
        let t = takes.took one same in
        let was : i ≡ t.before = (let s : Some i ≡ Some t.before = sym here ∙ t.there in cc) in
        let there : false ≡ is_some t.before.capacity = gave.there (with_received one t.frames t.ready t.before) t.after in
        let full : is_some t.before.capacity ≡ true = ap (λ (x : PacketReceiverState). is_some x.capacity) (sym was) ∙ ap is_some size in
        let both : false ≡ true = there ∙ full in
        cc

    go : (v : Option PacketSenderState) → d.out ≡ v
        → elim v as (λ _. Type 0) [ None ↦ d.inn ≡ None | Some o ↦ (inn : PacketReceiverState) × (d.inn ≡ Some inn) × AreEnds capacity o inn ] → ⊥
    go None there none = let nothing : Some q ≡ None = given.none there in cc
    go (Some o) there ends = lies (taking_from q ends.0) (laid ∙ ap (option_map (taking_from q)) ends.1) refl frame refl
