-- What the calls of a file do, and what a crash may leave between two syncs.
use Rattle.std.specs.Prelude.{Bool, IsTrue, ◌≡◌, ◌⊎◌, ℕ, ◌+◌, ◌<◌, ◌≤◌, min, max, List, length, slice_index}

-- after a write of n bytes at `at`: any bytes in that range and past the old end, the same elsewhere
pub record Torn (at n : ℕ) (old new : List ℕ) : Type 0 where
  pub no_shorter : length old ≤ length new
  pub no_longer : length new ≤ max (length old) (at + n)
  pub below : (i : ℕ) → i < length old → i < at → slice_index new i ≡ slice_index old i
  pub above : (i : ℕ) → i < length old → at + n ≤ i → slice_index new i ≡ slice_index old i

-- the file holds these bytes at this offset
pub record Holds (file : List ℕ) (at : ℕ) (bytes : List ℕ) : Type 0 where
  pub within : at + length bytes ≤ length file
  pub each : (i : ℕ) → i < length bytes → slice_index file (at + i) ≡ slice_index bytes i

-- a write: the bytes are there, and nothing else has changed
pub record Written (at : ℕ) (bytes old new : List ℕ) : Type 0 where
  pub here : Holds new at bytes
  pub elsewhere : Torn at (length bytes) old new

-- a new length: the same bytes as far as both go, and zeros behind them
pub record Resized (n : ℕ) (old new : List ℕ) : Type 0 where
  pub size : length new ≡ n
  pub same : (i : ℕ) → i < n → slice_index new i ≡ slice_index old i

-- a new length that a crash cuts short: some length between, and zeros past the old end
pub record Cut (n : ℕ) (old new : List ℕ) : Type 0 where
  pub no_shorter : min (length old) n ≤ length new
  pub no_longer : length new ≤ max (length old) n
  pub same : (i : ℕ) → i < length new → slice_index new i ≡ slice_index old i

-- each new outcome of a crash is an old outcome after a step
abbrev pub Follows : (List ℕ → List ℕ → Type 0) → (List ℕ → Type 0) → (List ℕ → Type 0) → Type 0
Follows step old new = (c : List ℕ) → new c → (d : List ℕ) × old d × step d c

-- a crash leaves this and nothing else
abbrev pub Only : List ℕ → (List ℕ → Type 0) → Type 0
Only file outcomes = (c : List ℕ) → outcomes c → c ≡ file

-- Time goes on: a crash since t might have left what it might have left before, or what it may leave now.
pub record Elapses (before now : ℕ) (past since : ℕ → List ℕ → Type 0) (may_leave : List ℕ → Type 0) : Type 0 where
  pub later : before ≤ now
  pub nothing_else : (t : ℕ) (c : List ℕ) → t ≤ before → since t c → past t c ⊎ may_leave c
  pub keeps : (t : ℕ) (c : List ℕ) → t ≤ before → past t c → since t c

-- Whatever a crash leaves at any moment from old to new is what a crash at old might have left, after a step.
pub record Leaves {F : Type 0} (moment : F → ℕ) (left_since : F → ℕ → List ℕ → Type 0) (may_leave : F → List ℕ → Type 0)
    (step : List ℕ → List ℕ → Type 0) (old new : F) : Type 0 where
  pub later : moment old ≤ moment new
  pub each : (c : List ℕ) → left_since new (moment old) c → (d : List ℕ) × may_leave old d × step d c
  -- for a run that began earlier
  pub before : (t : ℕ) (c : List ℕ) → t ≤ moment old → left_since new t c
      → left_since old t c ⊎ ((d : List ℕ) × may_leave old d × step d c)

-- Nothing was written from old to new.
pub record IsQuiet {F : Type 0} (moment : F → ℕ) (left_since : F → ℕ → List ℕ → Type 0) (may_leave : F → List ℕ → Type 0) (seen : F → List ℕ) (faithful : F → Bool)
    (old new : F) : Type 0 where
  pub same : seen new ≡ seen old
  pub falls : IsTrue (faithful new) → IsTrue (faithful old)
  pub crash : (c : List ℕ) → may_leave new c → may_leave old c
  pub run : Leaves moment left_since may_leave (λ d c. c ≡ d) old new
