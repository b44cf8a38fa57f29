-- A piece that was popped is in hand, or is the next frame as a whole.
use Rattle.std.proofs.Common.{◌≡◌, [], ◌∷◌, Some, sym, ap, subst, ◌∙◌, false, arith}
use Rattle.std.specs.Prelude.{nat_lt}
use Rattle.thread_link.specs.Carried.{BeginsNoCut}
use Rattle.thread_link.specs.Inward.{GatheredState, InwardState, IsDropped, Takes, inward_state, later_of, rest_on}
use Rattle.thread_link.specs.Row.{piece_of}
use Rattle.thread_link.specs.declared.sheet.Sheet.{Sheet}
use Rattle.thread_link.proofs.Carrying.{other_bytes}
use Rattle.thread_link.proofs.Taking.{takes_none, takes_piece, takes_gathered, takes_frame, takes_lone}
use Rattle.thread_link.proofs.inward.RuledIn.next_piece.Goals as goal

pub invariant_of-self : goal.invariant_of-self
invariant_of-self g c =
    let e = c.self.inside in
    takes_none e.pieces c.pop_from.new.self e.taken.went e.number e.front e.rest c.self.invariant
    (ap (λ (s : InwardState). later_of s.number s.rest) c.self.view_is ∙ c.requires.now) c.in_default.ensures.next

pub invariant_of-self-in-Ok : goal.invariant_of-self-in-Ok
invariant_of-self-in-Ok g c =
    let e = c.self.inside in
    let p = piece_of c.in-Some.sheet in
    let next = c.in-Some.ensures.next in
    let lone = c.in-Ok.ensures.frame in
    let now : nat_lt e.number p.number ≡ false = subst (λ n. nat_lt e.number n ≡ false) c.number.ensures lone.3 in
    takes_lone e.pieces c.pop_from.new.self e.taken.went c.and-self-inside.result.went e.number e.front e.rest p c.in-Ok.frame c.self.invariant
    (ap (λ (s : InwardState). later_of s.number s.rest) c.self.view_is ∙ c.requires.now)
    (ap (λ (s : InwardState). rest_on s.number s.rest) c.self.view_is ∙ c.requires.spent) next.1 next.0 now
    lone.2 lone.0 lone.1 c.and-self-inside.ensures

pub invariant_of-self-then-is_later : goal.invariant_of-self-then-is_later
invariant_of-self-then-is_later g c =
    let e = c.self.inside in
    let p = piece_of c.in-Err.sheet in
    let same = c.in-Err.ensures.back in
    let dropped = subst (λ (x : Sheet). IsDropped e.number e.pieces c.pop_from.new.self (piece_of x ∷ [])) (sym same) c.in-Some.ensures.next.1 in
    let held = takes_piece e.pieces c.pop_from.new.self e.taken.went e.number e.front e.rest p c.self.invariant
    (ap (λ (s : InwardState). later_of s.number s.rest) c.self.view_is ∙ c.requires.now)
    (ap (λ (s : InwardState). rest_on s.number s.rest) c.self.view_is ∙ c.requires.spent) dropped in
    let own = ap (λ (x : Sheet). (piece_of x).number) same in
    let none = c.take_in_hand.ensures.none (other_bytes e.number p (λ is. omega (arith, is, own, c.if-is_later.true, c.number.ensures))) in
    takes_gathered c.pop_from.new.self e.taken.went e.number e.front c.take_in_hand.new.front (Some p) c.take_in_hand.new.rest held c.take_in_hand.ensures.bytes
    c.take_in_hand.ensures.later
    (subst (λ (s : GatheredState). BeginsNoCut s.bytes) (sym none) c.self.invariant.part)

pub invariant_of-self-in_default-cut : goal.invariant_of-self-in_default-cut
invariant_of-self-in_default-cut g c =
    let e = c.self.inside in
    let p = piece_of c.in-Err.sheet in
    let dropped = subst (λ (x : Sheet). IsDropped e.number e.pieces c.pop_from.new.self (piece_of x ∷ [])) (sym c.in-Err.ensures.back) c.in-Some.ensures.next.1 in
    let held = takes_piece e.pieces c.pop_from.new.self e.taken.went e.number e.front e.rest p c.self.invariant
    (ap (λ (s : InwardState). later_of s.number s.rest) c.self.view_is ∙ c.requires.now)
    (ap (λ (s : InwardState). rest_on s.number s.rest) c.self.view_is ∙ c.requires.spent) dropped in
    subst (λ (s : GatheredState). Takes (inward_state c.pop_from.new.self e.taken.went e.number s c.take_in_hand.new.rest)) (sym c.in_default-cut.ensures.0)
    (takes_gathered c.pop_from.new.self e.taken.went e.number e.front c.take_in_hand.new.front (Some p) c.take_in_hand.new.rest held
    c.take_in_hand.ensures.bytes c.take_in_hand.ensures.later
    c.in_default-cut.ensures.1)

pub invariant_of-self-2 : goal.invariant_of-self-2
invariant_of-self-2 g c =
    let e = c.self.inside in
    let p = piece_of c.in-Err.sheet in
    let cut = c.in-Some-cut.ensures in
    let dropped = subst (λ (x : Sheet). IsDropped e.number e.pieces c.pop_from.new.self (piece_of x ∷ [])) (sym c.in-Err.ensures.back) c.in-Some.ensures.next.1 in
    let held = takes_piece e.pieces c.pop_from.new.self e.taken.went e.number e.front e.rest p c.self.invariant
    (ap (λ (s : InwardState). later_of s.number s.rest) c.self.view_is ∙ c.requires.now)
    (ap (λ (s : InwardState). rest_on s.number s.rest) c.self.view_is ∙ c.requires.spent) dropped in
    takes_frame c.pop_from.new.self e.taken.went c.and-self-inside-2.result.went e.number e.front c.take_in_hand.new.front c.cut.new.self
    (Some p) c.take_in_hand.new.rest c.in-Some-cut.frame held
    c.take_in_hand.ensures.bytes c.take_in_hand.ensures.later cut.0 cut.1 cut.2 c.and-self-inside-2.ensures
