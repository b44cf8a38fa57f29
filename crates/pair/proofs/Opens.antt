-- Both ends of a pair open, or none.
use Rattle.std.proofs.Common.{ℕ, ◌≡◌, ◌<◌, nat_le, Bool, true, false, not, ◌&&◌, [], ◌∷◌, length, Option, Some, None, Err, refl, sym, ◌∙◌, ap, arith}
use Rattle.std.specs.Option.{option_map}
use Rattle.blocks.specs.Identifiers.{are_fresh}
use Rattle.blocks.specs.declared.refusal.Refusal.{Refusal}
use Rattle.blocks.specs.declared.refusal.Refusal.TheVariants.{NotDrained, UsedIdentifier, StreamFull, NoMemory}
use Rattle.blocks.specs.declared.outcome.Done.{Done}
use Rattle.blocks.specs.declared.outcome.Reply.{Reply}
use Rattle.blocks.specs.declared.outcome.Reply.TheVariants as reply
use Rattle.blocks.specs.declared.outcome.What.TheVariants as what
use Rattle.link.specs.Directions.{InState, OutState, IsUnused, room_in, frames_in}
use Rattle.endpoint.specs.Calls.{is_out_of_memory}
use Rattle.endpoint.specs.PacketReceiver.{incoming}
use Rattle.endpoint.specs.PacketSender.{outgoing}
use Rattle.model.specs.Pair.{PairHistory, open_pair_tests}
use Rattle.model.specs.Primary.{PrimaryHistory, primary_connection}
use Rattle.model.specs.PrimarySteps.{known_tuples, open_primary, open_tests, opened, succeeding}
use Rattle.model.specs.Refusals.{done_with, first_refusal}
use Rattle.model.specs.Secondary.{SecondaryHistory, secondary_connection, is_drained}
use Rattle.model.specs.SecondarySteps.{open_secondary, opened_secondary, succeeding_secondary}
use Rattle.pair_protocol.specs.State.{AreEnds, PairHas}
use Rattle.pair_protocol.proofs.Rooms.{number-is}
use Rattle.pair.specs.State.{PairView, state}
use Rattle.laws.proofs.Rules.Memory.{open-refused, open-out-of-memory}
use Rattle.laws.proofs.Lists.Tests.{test-passed}
use Rattle.std.proofs.Common.{drop}
use Rattle.std.proofs.lemmas.Bool.{leb-false}

-- Two ends of a new link.
pub new-ends : (s : OutState) (t : InState) (capacity : ℕ) → IsUnused s t capacity
    → AreEnds capacity (outgoing (record {
      sent = s.sent;
      number = s.number;
      past = s.past;
      partly = None;
      waiting = option_map (λ q. q.frames) s.queue;
      room = Some (room_in s.queue);
    }))
    (incoming (record {
      taken = t.taken;
      number = t.number;
      past = t.past;
      is_ready = true;
      queued = Some (frames_in t.queue);
      capacity = option_map (λ q. q.capacity) t.queue;
    }))
new-ends s t capacity unused = rw (unused.sending, unused.taking) (record {
  waiting = [];
  row = refl;
  room = refl;
  count = refl;
  few = omega arith;
  queued = refl;
  away = refl;
  packets = record { begins = λ all. record { front = []; each = refl; begins = ([], refl) }; pushed = refl; taken = refl };
})

-- Which test refuses.

-- the secondary's own test passes, so the primary's decide
pub past-first : (sync loss : ℕ) (out_of_memory : Bool) (h : PairHistory) → (secondary_connection h.secondary).closed ≡ true → is_drained h.secondary ≡ true
    → first_refusal (open_pair_tests h sync loss out_of_memory) ≡ first_refusal (open_tests h.primary sync loss out_of_memory)
past-first sync loss out_of_memory h closed drained =
    ap (λ b. first_refusal ((not (b && is_drained h.secondary), NotDrained) ∷ open_tests h.primary sync loss out_of_memory)) closed
    ∙ ap (λ b. first_refusal ((not b, NotDrained) ∷ open_tests h.primary sync loss out_of_memory)) drained

-- a refusal but for memory is one with it
pub may-not : (sync loss : ℕ) (e : Refusal) (h : PrimaryHistory) → Some e ≡ first_refusal (open_tests h sync loss false)
    → first_refusal (open_tests h sync loss (is_out_of_memory {R = Done} (Err e))) ≡ Some e
may-not sync loss e h is = open-refused h sync loss (is_out_of_memory {R = Done} (Err e)) e (sym is)

pub no-link : (sync loss : ℕ) (h : PrimaryHistory) → first_refusal (open_tests h sync loss false) ≡ None
    → first_refusal (open_tests h sync loss true) ≡ Some NoMemory
no-link sync loss h is = open-out-of-memory h sync loss is

-- what the primary's step was refused for
pub was-refused : (sync loss : ℕ) (out_of_memory : Bool) (e : Refusal) (h : PrimaryHistory) → reply.Refused e ≡ (open_primary sync loss out_of_memory h).0
    → first_refusal (open_tests h sync loss out_of_memory) ≡ Some e
was-refused sync loss out_of_memory e h said = go (first_refusal (open_tests h sync loss out_of_memory)) said
  where
    go : (v : Option Refusal) → reply.Refused e ≡
        (elim v as (λ _. Reply × PrimaryHistory) [ Some refusal ↦ (reply.Refused refusal, h) | None ↦ succeeding what.Nothing (opened h sync loss) ]).0
        → v ≡ Some e
    go (Some refusal) said = let same : e ≡ refusal = cc in ap Some (sym same)
    go None said = absurd (cc)

-- it was not refused
was-done : (sync loss : ℕ) (out_of_memory : Bool) (h : PrimaryHistory) → reply.Ok (done_with what.Nothing) ≡ (open_primary sync loss out_of_memory h).0
    → first_refusal (open_tests h sync loss out_of_memory) ≡ None
was-done sync loss out_of_memory h said = go (first_refusal (open_tests h sync loss out_of_memory)) said
  where
    go : (v : Option Refusal) → reply.Ok (done_with what.Nothing) ≡
        (elim v as (λ _. Reply × PrimaryHistory) [ Some refusal ↦ (reply.Refused refusal, h) | None ↦ succeeding what.Nothing (opened h sync loss) ]).0
        → v ≡ None
    go (Some refusal) said = absurd (cc)
    go None said = refl

-- Then there are fewer connections than 32 bits count, and the secondary has as many.
pub counted : (v : PairView) (sync loss : ℕ) (h : PairHistory) → PairHas (state v) h
    → reply.Ok (done_with what.Nothing) ≡ (open_primary sync loss false h.primary).0 → v.secondary.core.number < 4294967295
counted v sync loss h has said =
    let one = test-passed (not (primary_connection h.primary).closed) NotDrained (drop 1 (open_tests h.primary sync loss false))
    (was-done sync loss false h.primary said) in
    let two = test-passed (not (are_fresh sync loss (known_tuples h.primary))) UsedIdentifier (drop 2 (open_tests h.primary sync loss false)) one.1 in
    let three = test-passed (nat_le 4294967295 (length h.primary.connections)) StreamFull (drop 3 (open_tests h.primary sync loss false)) two.1 in
    let few = leb-false 4294967295 (length h.primary.connections) three.0 in
    let number : v.secondary.core.number ≡ v.primary.core.connections = number-is (state v) h has in
    let count : v.primary.core.connections ≡ length h.primary.connections = has.primary.leaves.core.rest.connections in
    omega (arith, few, number, count)

-- A drained secondary whose end is closed is not refused.
pub never-refused : (e : Refusal) (h : SecondaryHistory) → (secondary_connection h).closed ≡ true → is_drained h ≡ true
    → reply.Refused e ≡ (open_secondary 0 h).0 → ⊥
never-refused e h closed drained said =
    go (first_refusal ((not ((secondary_connection h).closed && is_drained h), NotDrained) ∷ []))
    (ap (λ b. first_refusal ((not (b && is_drained h), NotDrained) ∷ [])) closed ∙ ap (λ b. first_refusal ((not b, NotDrained) ∷ [])) drained) said
  where
    go : (v : Option Refusal) → v ≡ None
        → reply.Refused e ≡ (elim v as (λ _. Reply × SecondaryHistory) [
          | Some refusal ↦ (reply.Refused refusal, h)
          | None ↦ succeeding_secondary what.Nothing
              (opened_secondary 0 h)
        ]).0 → ⊥
    go (Some refusal) none said = cc
    go None none said = cc
