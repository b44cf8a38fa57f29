-- Whether the link has room, and what it gives next, as the history counts them.
use Rattle.std.proofs.Common.{ℕ, ◌≡◌, ◌-◌, ◌⊎◌, inl, inr, nat_lt, List, [], ◌∷◌, length, Some, Ok, slice_get, refl, sym, ◌∙◌, ap, subst, arith}
use Rattle.std.specs.Prelude.{option_map}
use Rattle.std.proofs.lemmas.List.{length-append, length-take-le}
use Rattle.std.proofs.lemmas.Option.{slice_get_within}
use Rattle.model.specs.Frames.{Packet, Received}
use Rattle.model.specs.Primary.{primary_connection, no_primary_connection, frames_due}
use Rattle.model.specs.Secondary.{SecondaryConnection, secondary_connection, no_secondary_connection, answers_due}
use Rattle.model.specs.Pair.{PairHistory, has_room, answers_have_room, next_frame, next_answer, pushed_frames, pushed_answers}
use Rattle.model.specs.Theorems.{pair_at}
use Rattle.laws.proofs.Lists.Last.{last-at}
use Rattle.laws.proofs.Lists.Pairs.{Pairs, pairs-length}
use Rattle.laws.proofs.Pair.Links.{AreLinked}
use Rattle.laws.proofs.Pair.Runs.{IsLinkedPair, leads-run}
use Rattle.laws.proofs.Primary.HomesMoves.{homes-opening}
use Rattle.model.specs.Primary.{last_of}
use Rattle.endpoint.specs.Calls.{pushed_of, taken_of}
use Rattle.endpoint.specs.PacketReceiver.{PacketReceiverState}
use Rattle.endpoint.specs.PacketSender.{PacketSenderState}
use Rattle.pair_protocol.specs.Carried.{next_of}
use Rattle.pair_protocol.specs.State.{AreEnds, IsRun, PairHas, PairState}

-- the ends of every connection of a run are linked
linked : (h : PairHistory) → IsRun h → IsLinkedPair h
linked h is = subst IsLinkedPair is.is (leads-run is.events (pair_at is.opening) (record {
  homes = homes-opening is.opening.settings is.opening.local is.opening.own is.opening.marks;
  pairs = tt;
  counted = λ j d at. absurd (cc);
})).1

-- the last of two lists that are related
pairs-last : {X Y : Type 0} (R : X → Y → Type 0) (none : X) (other : Y) (xs : List X) (ys : List Y) → R none other → Pairs R xs ys
    → R (last_of none xs) (last_of other ys)
pairs-last R none other [] [] first all = first
pairs-last R none other [] (y ∷ ys) first all = absurd all
pairs-last R none other (x ∷ xs) [] first all = absurd all
pairs-last R none other (x ∷ xs) (y ∷ ys) first all = pairs-last R x y xs ys all.0 all.1

-- the last connections of a run are linked
last-linked : (h : PairHistory) → IsRun h → AreLinked h.primary.settings h.secondary.settings (primary_connection h.primary) (secondary_connection h.secondary)
last-linked h is =
    pairs-last (AreLinked h.primary.settings h.secondary.settings) (no_primary_connection h.primary.tuple) (no_secondary_connection h.secondary)
    h.primary.connections
    h.secondary.connections
    (record { out = (_, refl); back = (_, refl); sent = omega arith; answered = omega arith }) (linked h is).pairs

-- What the nodes' lists say of the last connection.

pub pushed-is : (p : PairState) (h : PairHistory) (out : PacketSenderState) → PairHas p h → p.there.out ≡ Some out → out.pushed ≡ pushed_frames h
pushed-is p h out has there = ap pushed_of (sym there) ∙ has.primary.leaves.pushed

pub answers-is : (p : PairState) (h : PairHistory) (out : PacketSenderState) → PairHas p h → p.back.out ≡ Some out → out.pushed ≡ pushed_answers h
answers-is p h out has there = ap pushed_of (sym there) ∙ has.secondary.leaves.pushed

pub taken-is : (p : PairState) (h : PairHistory) (inn : PacketReceiverState) → PairHas p h → p.there.inn ≡ Some inn
    → inn.taken ≡ (secondary_connection h.secondary).taken
taken-is p h inn has there = ap taken_of (sym there) ∙ has.secondary.leaves.taken

pub taken-back-is : (p : PairState) (h : PairHistory) (inn : PacketReceiverState) → PairHas p h → p.back.inn ≡ Some inn
    → inn.taken ≡ (primary_connection h.primary).taken
taken-back-is p h inn has there = ap taken_of (sym there) ∙ has.primary.leaves.taken

-- What comes next.

pub next-is : (p : PairState) (h : PairHistory) (out : PacketSenderState) (inn : PacketReceiverState) → PairHas p h → p.there.out ≡ Some out
    → p.there.inn ≡ Some inn
    → next_frame h ≡ next_of out inn
next-is p h out inn has there here =
    ap (λ (l : List Packet). option_map (λ packet. Ok packet) (slice_get l (length (secondary_connection h.secondary).taken)))
    (sym (pushed-is p h out has there))
    ∙ ap (λ (l : List Received). option_map (λ packet. Ok packet) (slice_get out.pushed (length l))) (sym (taken-is p h inn has here))

pub next-back-is : (p : PairState) (h : PairHistory) (out : PacketSenderState) (inn : PacketReceiverState) → PairHas p h → p.back.out ≡ Some out
    → p.back.inn ≡ Some inn
    → next_answer h ≡ next_of out inn
next-back-is p h out inn has there here =
    ap (λ (l : List Packet). option_map (λ packet. Ok packet) (slice_get l (length (primary_connection h.primary).taken))) (sym (answers-is p h out has there))
    ∙ ap (λ (l : List Received). option_map (λ packet. Ok packet) (slice_get out.pushed (length l))) (sym (taken-back-is p h inn has here))

-- Whether there is room.

waiting-is : (capacity pushed taken : ℕ) (out : PacketSenderState) (inn : PacketReceiverState) (ends : AreEnds capacity out inn) → length out.pushed ≡ pushed
    → length inn.taken ≡ taken → pushed - taken ≡ length ends.waiting
waiting-is capacity pushed taken out inn ends sent came =
    let rows = ap length ends.row ∙ length-append inn.frames ends.waiting in
    let a = ends.packets.pushed in
    let b = ends.packets.taken in
    omega (arith, rows, a, b, sent, came)

pub room-is : (p : PairState) (h : PairHistory) (capacity : ℕ) (out : PacketSenderState) (inn : PacketReceiverState) → PairHas p h
    → (ends : AreEnds capacity out inn)
    → h.primary.settings.link ≡ capacity → p.there.out ≡ Some out → p.there.inn ≡ Some inn
    → has_room h ≡ nat_lt (length ends.waiting) capacity
room-is p h capacity out inn has ends size there here =
    let link = last-linked h has.run in
    let sent = ap length (pushed-is p h out has there)
    ∙ length-take-le (primary_connection h.primary).pushed (frames_due h.primary.settings (primary_connection h.primary)) link.sent in
    let came = ap length (taken-is p h inn has here) in
    let waits = waiting-is capacity (primary_connection h.primary).pushed (length (secondary_connection h.secondary).taken) out inn ends sent came in
    ap (λ n. nat_lt n h.primary.settings.link) waits ∙ ap (nat_lt (length ends.waiting)) size

pub room-back-is : (p : PairState) (h : PairHistory) (capacity : ℕ) (out : PacketSenderState) (inn : PacketReceiverState) → PairHas p h
    → (ends : AreEnds capacity out inn) → h.secondary.settings.link ≡ capacity → p.back.out ≡ Some out → p.back.inn ≡ Some inn
    → answers_have_room h ≡ nat_lt (length ends.waiting) capacity
room-back-is p h capacity out inn has ends size there here =
    let link = last-linked h has.run in
    let sent = ap length (answers-is p h out has there)
    ∙ length-take-le (secondary_connection h.secondary).pushed (answers_due h.secondary.settings (secondary_connection h.secondary)) link.answered in
    let came = ap length (taken-back-is p h inn has here) in
    let waits = waiting-is capacity (secondary_connection h.secondary).pushed (length (primary_connection h.primary).taken) out inn ends sent came in
    ap (λ n. nat_lt n h.secondary.settings.link) waits ∙ ap (nat_lt (length ends.waiting)) size

-- The secondary's connections are counted as the primary's are.
pub number-is : (p : PairState) (h : PairHistory) → PairHas p h → p.secondary.number ≡ p.primary.connections
number-is p h has =
    let links = linked h has.run in
    let same = pairs-length (AreLinked h.primary.settings h.secondary.settings) h.primary.connections h.secondary.connections links.pairs in
    has.secondary.leaves.core.last.number ∙ last-number (last-at (no_secondary_connection h.secondary) h.secondary.connections) ∙ sym same
    ∙ sym has.primary.leaves.core.rest.connections
  where
    last-number : (h.secondary.connections ≡ [])
        ⊎ (slice_get h.secondary.connections (length h.secondary.connections - 1) ≡ Some (secondary_connection h.secondary))
        → (secondary_connection h.secondary).number ≡ length h.secondary.connections
    last-number (inl none) = ap (λ (l : List SecondaryConnection). (last_of (no_secondary_connection h.secondary) l).number) none ∙ sym (ap length none)
    last-number (inr at) =
        let within = slice_get_within h.secondary.connections (length h.secondary.connections - 1) (secondary_connection h.secondary) at in
        let n = (linked h has.run).counted (length h.secondary.connections - 1) (secondary_connection h.secondary) at in
        omega arith
