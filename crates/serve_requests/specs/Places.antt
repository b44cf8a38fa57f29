-- The writes that were begun for places of a device.
use Rattle.std.specs.Prelude.{true, false, ℕ, ◌≡◌, ◌*◌, List, [], ◌∷◌, ◌++◌, length, map}
use Rattle.device_parts.specs.Places.{Place, is_whole, laid_over}
use Rattle.session_api.specs.Begun.{BegunState}
use Rattle.told.specs.declared.entry.Told.{Told}
use Rattle.told.specs.declared.entry.Told.TheVariants.{Accepted, Patched}

-- two lists of one length, of which each pair is so
unfoldable pub AllPairs : {A B : Type 0} → (A → B → Type 0) → List A → List B → Type 0
AllPairs R [] [] = Unit {0}
AllPairs R [] (y ∷ ys) = ⊥
AllPairs R (x ∷ xs) [] = ⊥
AllPairs R (x ∷ xs) (y ∷ ys) = R x y × AllPairs R xs ys

-- a write is of a place: it has all of its blocks and their bytes, or the one block in which it lies
pub record IsOf (place : Place) (begun : BegunState) : Type 0 where
  pub first : begun.first ≡ place.block
  pub whole : is_whole place ≡ true → begun.contents ≡ place.bytes
  pub blocks : is_whole place ≡ true → begun.count * 4096 ≡ length place.bytes
  pub one : is_whole place ≡ false → begun.count ≡ 1

-- A write was accepted for a place, under its number: of the place's blocks and bytes, or of the block in which the place lies, of which all
-- other bytes are what the local disk held as the write was accepted. Whatever `says` holds of was told.
pub record IsBegunFor (says : Told → Type 0) (place : Place) (begun : BegunState) : Type 0 where
  pub of : IsOf place begun
  pub accepted : is_whole place ≡ true → says (Accepted begun.number place.block place.bytes)
  pub patched : is_whole place ≡ false → says (Patched begun.number place.block place.from place.bytes)
  pub laid : is_whole place ≡ false → (old : List ℕ) × (begun.contents ≡ laid_over place.from place.bytes old)

-- A front of all these places was begun, each once, in their order, and nothing else; the rest was not.
pub record IsFrontTo (R : Place → BegunState → Type 0) (all rest : List Place) (begun : List BegunState) : Type 0 where
  pub front : List Place
  pub parts : front ++ rest ≡ all
  pub each : AllPairs R front begun

-- such a front, whatever the rest is
pub record IsFrontBy (R : Place → BegunState → Type 0) (all : List Place) (begun : List BegunState) : Type 0 where
  pub rest : List Place
  pub front : IsFrontTo R all rest begun

-- One write was appended, for this place, and nothing else.
pub record BeginsOne (R : Place → BegunState → Type 0) (place : Place) (old new : List BegunState) : Type 0 where
  pub begun : BegunState
  pub appended : new ≡ old ++ begun ∷ []
  pub of : R place begun

-- As many writes were appended as the caller has as its own, in their order and under their numbers.
pub record AreOwn (old new : List BegunState) (own_before own : List ℕ) : Type 0 where
  pub more : List BegunState
  pub appended : new ≡ old ++ more
  pub mine : own ≡ own_before ++ map (λ (b : BegunState). b.number) more
