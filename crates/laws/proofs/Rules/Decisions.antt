-- The decision over two tuples: what it may be, and what a decision that lets a stream begin says of them.
use Rattle.std.proofs.Common.{◌≡◌, ◌<◌, ◌⊎◌, inl, inr, Bool, true, false, ◌&&◌, Result, Ok, Err, refl, arith, ◌==◌, nat_lt}
use Rattle.std.specs.Prelude.{if◌then◌else◌}
use Rattle.std.proofs.lemmas.Bool.{both_ways, eqb-true, eq-eqb}
use Rattle.blocks.specs.declared.tuple.Tuple.{Tuple}
use Rattle.blocks.specs.declared.refusal.Refusal.{Refusal}
use Rattle.blocks.specs.declared.refusal.Refusal.TheVariants.{PrimaryStale, SplitBrain, Unrelated}
use Rattle.blocks.specs.declared.outcome.Decision.{Decision}
use Rattle.blocks.specs.declared.outcome.Decision.TheVariants.{NoSync, BitmapSync, FullSync}
use Rattle.model.specs.Identifiers.{decision, is_historical, share_identifier}

-- What holds of every decision that lets a stream begin, and of the three refusals, holds of the decision over any two tuples.
pub decision-has : (P : Result Decision Refusal → Type 0) → ((decided : Decision) → P (Ok decided)) → P (Err PrimaryStale) → P (Err SplitBrain)
    → P (Err Unrelated) → (own peer : Tuple) → P (decision own peer)
decision-has P begins stale split unrelated own peer =
    go (peer.current == 0) (own.current == peer.current) (own.bitmap == peer.current) (nat_lt 0 own.current && (peer.bitmap == own.current))
    (is_historical peer.current own) (is_historical own.current peer)
    (nat_lt 0 own.bitmap && (own.bitmap == peer.bitmap)) (share_identifier own peer)
  where
    go : (a b c d e f g i : Bool)
        → P (if a then Ok FullSync else if b then Ok NoSync else if c then Ok BitmapSync else if d then Err PrimaryStale else if e then Ok FullSync
        else if f then Err PrimaryStale else if g then Err SplitBrain else if i then Err SplitBrain else Err Unrelated)
    go true b c d e f g i = begins FullSync
    go false true c d e f g i = begins NoSync
    go false false true d e f g i = begins BitmapSync
    go false false false true e f g i = stale
    go false false false false true f g i = begins FullSync
    go false false false false false true g i = stale
    go false false false false false false true i = split
    go false false false false false false false true = split
    go false false false false false false false false = unrelated

-- A decision that lets a stream begin asks for all blocks, or the peer has the own data, or the data that the own bitmap
-- records from.
pub decided-by : (own peer : Tuple) (decided : Decision) → decision own peer ≡ Ok decided
    → (decided ≡ FullSync) ⊎ ((peer.current ≡ own.current) ⊎ ((0 < own.bitmap) × (peer.current ≡ own.bitmap)))
decided-by own peer decided is = go (peer.current == 0) (own.current == peer.current) (own.bitmap == peer.current) (nat_lt 0 own.current &&
    (peer.bitmap == own.current)) (is_historical peer.current own) (is_historical own.current peer)
    (nat_lt 0 own.bitmap && (own.bitmap == peer.bitmap)) (share_identifier own peer) refl refl refl is
  where
    go : (a b c d e f g i : Bool) → (peer.current == 0) ≡ a → (own.current == peer.current) ≡ b → (own.bitmap == peer.current) ≡ c
        → (if a then Ok FullSync else if b then Ok NoSync else if c then Ok BitmapSync else if d then Err PrimaryStale else if e then Ok FullSync
        else if f then Err PrimaryStale else if g then Err SplitBrain else if i then Err SplitBrain else Err Unrelated) ≡ Ok decided
        → (decided ≡ FullSync) ⊎ ((peer.current ≡ own.current) ⊎ ((0 < own.bitmap) × (peer.current ≡ own.bitmap)))
    go true b c d e f g i ia ib ic is = inl (cc)
    go false true c d e f g i ia ib ic is = inr (inl (let same = eqb-true own.current peer.current ib in omega arith))
    go false false true d e f g i ia ib ic is =
        let some : peer.current ≡ 0 → ⊥ = λ none. both_ways (peer.current == 0) ia (eq-eqb peer.current 0 none) in
        let same = eqb-true own.bitmap peer.current ic in
        inr (inr (omega arith, omega arith))
    go false false false true e f g i ia ib ic is = absurd (cc)
    go false false false false true f g i ia ib ic is = inl (cc)
    go false false false false false true g i ia ib ic is = absurd (cc)
    go false false false false false false true i ia ib ic is = absurd (cc)
    go false false false false false false false true ia ib ic is = absurd (cc)
    go false false false false false false false false ia ib ic is = absurd (cc)
