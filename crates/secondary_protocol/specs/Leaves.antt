-- The relation between a secondary's state and the model histories that leave it.
use Rattle.std.specs.Prelude.{ℕ, zero, suc, ◌-◌, ◌≡◌, ◌<◌, ◌≤◌, nat_le, ◌==◌, true, false, List, [], ◌∷◌, length, drop, map, min, max, Option, Some, None}
use Rattle.std.specs.Prelude.{slice_get}
use Rattle.std.specs.List.{list_any}
use Rattle.model.specs.Stream.{StreamItem, has_blocks, epoch_of, last_epoch, epoch_size, items_of_epoch, barriers_in, number_of, is_in}
use Rattle.model.specs.Primary.{in_resync}
use Rattle.model.specs.Secondary.{SecondaryConnection, SecondaryHistory, secondary_connection, items_taken, is_pending, pending}
use Rattle.model.specs.SecondarySteps.{is_barrier_answer}
use Rattle.model.specs.Settlement.{applied_items}
use Rattle.laws.specs.Reflections.{touches}
use Rattle.peerdisk.specs.Pending.{Pending}
use Rattle.peerdisk.specs.Blocks.{flags}
use Rattle.secondary_protocol.specs.Core.{Intake, EndState, SecondaryState}

-- the highest number of a write, or 0 if there is none
abbrev pub highest_in : List StreamItem → ℕ
highest_in [] = 0
highest_in (item ∷ items) = max (number_of item) (highest_in items)

-- the receive-side state after these items, for a device of `size` blocks
abbrev pub intake_of : ℕ → List StreamItem → Intake
intake_of size items = record {
  places = length items;
  highest = highest_in items;
  barriers = barriers_in items;
  writes = epoch_size items (last_epoch items);
  blocks = flags size (λ block. list_any (λ entry. touches entry.1 block) (items_of_epoch items (last_epoch items)));
  resync = in_resync items;
}

-- the `count` numbers after `n`
abbrev pub numbers_after : ℕ → ℕ → List ℕ
numbers_after n zero = []
numbers_after n (suc count) = suc n ∷ numbers_after (suc n) count

-- a pending item, with its place and epoch
abbrev pub pending_in : List StreamItem → ℕ × StreamItem → Pending StreamItem
pending_in items entry = record { place = entry.0; epoch = epoch_of items entry.0; item = entry.1 }

-- The open end is what the connection leaves. A BARRIER_ACK was made due for the first `answered` epochs, and for no
-- other.
pub record LeavesEnd (e : EndState) (c : SecondaryConnection) : Type 0 where
  pub is_open : c.closed ≡ false
  pub plain : c.refused ≡ false
  pub hello : e.hello ≡ c.hello
  pub hello_received : e.hello_received ≡ min (length c.taken) 3
  pub hello_sent : e.hello_sent ≡ min c.pushed 3
  pub owed : c.pushed - 3 ≤ length c.due
  pub due : e.due ≡ drop (c.pushed - 3) c.due
  pub answered : (epoch : ℕ) → 0 < epoch → list_any (is_barrier_answer epoch) c.due ≡ nat_le epoch e.answered
  pub within : e.answered ≤ barriers_in (items_taken c)
  pub sizes : e.sizes ≡ map (epoch_size (items_taken c)) (numbers_after e.answered (barriers_in (items_taken c) - e.answered))

-- the end is closed as the connection is, or is the open one that the connection leaves
abbrev pub EndLeft : Option EndState → SecondaryConnection → Type 0
EndLeft None c = c.closed ≡ true
EndLeft (Some e) c = LeavesEnd e c

-- The disk failed an item of this epoch: an item of that epoch is gone, none of an earlier one is, and only items of
-- that epoch are pending.
pub record LeavesFailed (epoch : ℕ) (c : SecondaryConnection) : Type 0 where
  pub place : ℕ
  pub item : StreamItem
  pub at : slice_get (items_taken c) place ≡ Some item
  pub has_blocks : has_blocks item ≡ true
  pub gone : list_any (λ k. k == place) c.gone ≡ true
  pub epoch_is : epoch_of (items_taken c) place ≡ epoch
  pub later : (other : ℕ) → list_any (λ k. k == other) c.gone ≡ true → epoch ≤ epoch_of (items_taken c) other
  pub waiting : (other : ℕ) (one : StreamItem) → slice_get (items_taken c) other ≡ Some one → is_pending c (other, one) ≡ true
      → epoch_of (items_taken c) other ≡ epoch
  pub closed : c.closed ≡ true

-- no item failed, or one of this epoch did
abbrev pub FailedLeft : Option ℕ → SecondaryConnection → Type 0
FailedLeft None c = c.gone ≡ []
FailedLeft (Some epoch) c = LeavesFailed epoch c

-- The state is what the last connection leaves, at a device of `size` blocks. The applied part names only places that
-- were taken.
pub record LeavesLast (size : ℕ) (s : SecondaryState) (c : SecondaryConnection) : Type 0 where
  pub number : s.number ≡ c.number
  pub intake : s.intake ≡ intake_of size (items_taken c)
  pub named : (place offset : ℕ) → is_in c.applied place offset ≡ true → place < length (items_taken c)
  pub pending : s.pending ≡ map (pending_in (items_taken c)) (pending c)
  pub applied : s.items_applied ≡ applied_items c
  pub failed : FailedLeft s.failed c
  pub end : EndLeft s.end c

-- the state is what the history leaves
pub record Leaves (s : SecondaryState) (h : SecondaryHistory) : Type 0 where
  pub settings : s.settings ≡ h.settings
  pub tuple : s.tuple ≡ h.tuple
  pub consistent : s.consistent ≡ h.consistent
  pub last : LeavesLast h.settings.blocks s (secondary_connection h)
