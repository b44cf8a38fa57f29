-- Worked examples of the identifiers: the decision over them, how a tuple changes, and which words are fresh.
use Rattle.std.specs.Prelude.{◌≡◌, List, [], ◌∷◌, true, false, Ok, Err}
use Rattle.blocks.specs.declared.refusal.Refusal.TheVariants as refusal
use Rattle.blocks.specs.declared.outcome.Decision.TheVariants.{NoSync, BitmapSync, FullSync}
use Rattle.blocks.specs.SettingsRange.{standard}
use Rattle.blocks.specs.declared.tuple.Tuple.{Tuple}
use Rattle.model.specs.Pair.{ClosePrimaryEvent, PairHistory, tuples}
use Rattle.model.specs.Rows.{words, fresh_with, connect, connecting, replies, after, refused}
use Rattle.model.specs.Identifiers.{decision, is_fresh, lost, sync_start, sync_end}

-- one case each, in the order in which they are tried
pub record Decisions : Type 0 where
  pub same_current : decision (words 1 0 0 0) (words 1 0 0 0) ≡ Ok NoSync
  pub from_bitmap : decision (words 7 1 0 0) (words 1 0 0 0) ≡ Ok BitmapSync
  pub without_data : decision (words 7 1 0 0) (words 0 0 0 0) ≡ Ok FullSync
  pub from_history : decision (words 11 7 9 1) (words 9 0 0 0) ≡ Ok FullSync
  pub peer_goes_on : decision (words 7 1 0 0) (words 9 7 1 0) ≡ Err refusal.PrimaryStale
  pub peer_has_gone_on : decision (words 7 0 9 1) (words 12 0 7 0) ≡ Err refusal.PrimaryStale
  pub same_bitmap : decision (words 7 1 0 0) (words 8 1 0 0) ≡ Err refusal.SplitBrain
  pub shared_history : decision (words 7 0 5 0) (words 8 5 0 0) ≡ Err refusal.SplitBrain
  pub nothing_shared : decision (words 7 1 0 0) (words 20 21 22 23) ≡ Err refusal.Unrelated

-- a lost connection, a second loss, and a resync from its start to its end
pub record Turns : Type 0 where
  pub lost_once : lost 7 (words 1 0 0 0) ≡ words 7 1 0 0
  pub lost_again : lost 8 (words 7 1 0 0) ≡ words 7 1 0 0
  pub resync_starts : sync_start 9 (words 7 1 0 0) ≡ words 7 9 1 0
  pub resync_ends : sync_end (words 7 9 1 0) ≡ words 7 0 9 1

-- the tuples that words are tested against
abbrev pub known : List Tuple
known = words 1 0 9 4 ∷ words 7 3 0 0 ∷ []

-- zero is not fresh, nor is any word of any known tuple
pub record Freshness : Type 0 where
  pub new_word : is_fresh 5 known ≡ true
  pub first_word : is_fresh 5 [] ≡ true
  pub zero : is_fresh 0 known ≡ false
  pub current : is_fresh 1 known ≡ false
  pub first_historical : is_fresh 9 known ≡ false
  pub second_historical : is_fresh 4 known ≡ false
  pub current_of_another : is_fresh 7 known ≡ false
  pub bitmap_of_another : is_fresh 3 known ≡ false

-- Two nodes whose data both went on from the same generation.
abbrev pub split : PairHistory
split = fresh_with standard (words 7 1 0 0) (words 8 1 0 0)

-- a hello that ends in split brain leaves both tuples and closes the primary's end
pub record RefusedHello : Type 0 where
  pub answers : replies (connect 9 11) split ≡ connecting (refused refusal.SplitBrain)
  pub identifiers : tuples (after (connect 9 11) split) ≡ (words 7 1 0 0, words 8 1 0 0)
  pub closed : replies (ClosePrimaryEvent ∷ []) (after (connect 9 11) split) ≡ refused refusal.NotConnected ∷ []
