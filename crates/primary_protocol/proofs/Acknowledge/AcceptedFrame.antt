-- An end that took a frame which is accepted, once its stream has begun.
use Rattle.std.proofs.Common.{ℕ, ◌≡◌, ◌<◌, ◌≤◌, Bool, true, false, not, ◌&&◌, ◌||◌, [], ◌∷◌, length, Option, Some, None, refl, ◌∙◌, ap, arith, ◌==◌}
use Rattle.std.proofs.lemmas.Bool.{both_ways}
use Rattle.std.proofs.lemmas.List.{length-append}
use Rattle.model.specs.Stream.{StreamItem, placed}
use Rattle.model.specs.Frames.{Acknowledged, Received, naming}
use Rattle.model.specs.Primary.{PrimaryConnection, is_resync, is_recv_ack, is_write_ack, is_rs_write_ack, was_resynced, same_naming, under_way}
use Rattle.laws.proofs.Primary.Moves.{with_frame}
use Rattle.primary_protocol.specs.Core.{UnderWay, EndState}
use Rattle.primary_protocol.specs.Leaves.{UnderWayLeft, LeavesEnd}
use Rattle.primary_protocol.proofs.Acknowledge.WriteAnswered.{any-frame}
use Rattle.primary_protocol.proofs.Common.Filters.{filter-at}

-- what is under way stays so where no block is acknowledged
pub way-framed : (v : Option UnderWay) (c : PrimaryConnection) (frame : Received)
    → ((place : ℕ) (item : StreamItem) → was_resynced (with_frame frame c) place item ≡ was_resynced c place item) → UnderWayLeft v c
    → UnderWayLeft v (with_frame frame c)
way-framed v c frame same left = go v left
  where
    ways : under_way (with_frame frame c) ≡ under_way c
    ways = filter-at (λ (entry : ℕ × StreamItem). is_resync entry.1 && not (was_resynced (with_frame frame c) entry.0 entry.1))
        (λ (entry : ℕ × StreamItem). is_resync entry.1 && not (was_resynced c entry.0 entry.1)) (placed c.stream)
        (λ i entry at. ap (λ b. is_resync entry.1 && not b) (same entry.0 entry.1))

    go : (v : Option UnderWay) → UnderWayLeft v c → UnderWayLeft v (with_frame frame c)
    go None none = ways ∙ none
    go (Some way) w = (w.0, ways ∙ w.1, w.2)

-- A frame that names no item to come.
pub record NamesNone (c : PrimaryConnection) (frame : Received) : Type 0 where
  pub received : (place : ℕ) (item : StreamItem) → length c.stream ≤ place → is_recv_ack (naming place item) frame ≡ false
  pub written : (place : ℕ) (item : StreamItem) → length c.stream ≤ place → is_write_ack (naming place item) frame ≡ false
  pub resynced : (place : ℕ) (item : StreamItem) → length c.stream ≤ place → is_rs_write_ack (naming place item) frame ≡ false

pub end-framed : (e : EndState) (c : PrimaryConnection) (frame : Received) (way : Option UnderWay) → LeavesEnd e c → c.begun ≡ true → 2 < length c.taken
    → NamesNone c frame → UnderWayLeft way (with_frame frame c) → LeavesEnd (record e { under_way = way }) (with_frame frame c)
end-framed e c frame way l begun long none left = record {
  is_open = l.is_open;
  plain = l.plain;
  sync = l.sync;
  loss = l.loss;
  hello = l.hello;
  hello_received = let was = l.hello_received in let size = length-append c.taken (frame ∷ []) in omega arith;
  hello_sent = l.hello_sent;
  pushed = l.pushed;
  unsent = l.unsent;
  resync = l.resync;
  under_way = left;
  unasked = λ place item later.
      let was = l.unasked place item later in (
        any-frame (is_recv_ack (naming place item)) c frame l.plain ∙ λ i. was.0 i || none.received place item later i,
        any-frame (is_write_ack (naming place item)) c frame l.plain ∙ λ i. was.1 i || none.written place item later i,
        any-frame (is_rs_write_ack (naming place item)) c frame l.plain ∙ λ i. was.2 i || none.resynced place item later i,
      );
  unbegun = λ new epoch. absurd (both_ways c.begun new begun);
}

-- a name of another place
pub other-place : (ack : Acknowledged) (place : ℕ) (item : StreamItem) → (place == ack.place) ≡ false → same_naming (naming place item) ack ≡ false
other-place ack place item other = go ((naming place item).first == ack.first) ((naming place item).number == ack.number)
    ((naming place item).count == ack.count) (place == ack.place) other
  where
    go : (a b c d : Bool) → d ≡ false → ((a && b) && (c && d)) ≡ false
    go true true true d is = is
    go true true false d is = refl
    go true false c d is = refl
    go false b c d is = refl
