-- Generation identifiers: when a word is fresh, how a tuple changes, and the decision over two tuples. After the DRBD
-- User's Guide, "Generation identifiers"; the rules themselves are this project's.
use Rattle.std.specs.Prelude.{ℕ, nat_lt, ◌==◌, Bool, ◌&&◌, ◌||◌, not, if◌then◌else◌, List, [], ◌∷◌, Result, Ok, Err}
use Rattle.std.specs.List.{list_any}
use Rattle.blocks.specs.declared.tuple.Tuple.{Tuple}
use Rattle.blocks.specs.declared.outcome.Decision.{Decision}
use Rattle.blocks.specs.declared.outcome.Decision.TheVariants.{NoSync, BitmapSync, FullSync}
use Rattle.blocks.specs.declared.refusal.Refusal.{Refusal}
use Rattle.blocks.specs.declared.refusal.Refusal.TheVariants.{PrimaryStale, SplitBrain, Unrelated}

-- whether the word is one of the tuple's four
abbrev pub stands_in : ℕ → Tuple → Bool
stands_in word t = ((word == t.current) || (word == t.bitmap)) || ((word == t.first_historical) || (word == t.second_historical))

-- a word that may begin a generation: not zero, and in no known tuple
abbrev pub is_fresh : ℕ → List Tuple → Bool
is_fresh word known = nat_lt 0 word && not (list_any (stands_in word) known)

-- a sync word and a loss word that may be used: both fresh, and not equal
abbrev pub are_fresh : ℕ → ℕ → List Tuple → Bool
are_fresh sync loss known = (is_fresh sync known && is_fresh loss known) && not (sync == loss)

-- The primary lost its connection: the data goes on in a new generation, and the bitmap records from the old one.
abbrev pub lost : ℕ → Tuple → Tuple
lost word t = if t.bitmap == 0 then record t { current = word; bitmap = t.current } else t

-- the bitmap identifier, if there is one, becomes the newest of the history
abbrev pub into_history : ℕ → Tuple → Tuple
into_history bitmap t =
    if t.bitmap == 0 then record t { bitmap = bitmap }
    else record { current = t.current; bitmap = bitmap; first_historical = t.bitmap; second_historical = t.first_historical }

-- A resync starts at its source: the sync word becomes the bitmap identifier.
abbrev pub sync_start : ℕ → Tuple → Tuple
sync_start word t = into_history word t

-- A resync ends at its source: there is no bitmap identifier any more.
abbrev pub sync_end : Tuple → Tuple
sync_end t = into_history 0 t

-- whether the word is not zero and one of the tuple's two historical ones
abbrev pub is_historical : ℕ → Tuple → Bool
is_historical word t = nat_lt 0 word && ((word == t.first_historical) || (word == t.second_historical))

-- whether an identifier that is not zero is in both tuples
abbrev pub share_identifier : Tuple → Tuple → Bool
share_identifier a b =
    list_any (λ word. nat_lt 0 word && stands_in word b) (a.current ∷ a.bitmap ∷ a.first_historical ∷ a.second_historical ∷ [])

-- The first case that holds of the primary's own tuple and the peer's decides. A primary is never a target.
abbrev pub decision : Tuple → Tuple → Result Decision Refusal
decision own peer =
    if peer.current == 0 then Ok FullSync
    else if own.current == peer.current then Ok NoSync
    else if own.bitmap == peer.current then Ok BitmapSync
    else if nat_lt 0 own.current && (peer.bitmap == own.current) then Err PrimaryStale
    else if is_historical peer.current own then Ok FullSync
    else if is_historical own.current peer then Err PrimaryStale
    else if nat_lt 0 own.bitmap && (own.bitmap == peer.bitmap) then Err SplitBrain
    else if share_identifier own peer then Err SplitBrain
    else Err Unrelated
