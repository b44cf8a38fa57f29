-- A pair is made of its parts.
use Rattle.std.proofs.Common.{ℕ, zero, suc, ◌≡◌, ◌⊎◌, inl, inr, Bool, true, false, ◌&&◌, List, [], ◌∷◌, length, Option, Some, None, slice_get, refl, sym, ◌∙◌}
use Rattle.std.proofs.Common.{ap, subst, nat_lt, arith}
use Rattle.std.specs.Prelude.{is_some, unwrap_or, replicate, if◌then◌else◌, Result, Ok, Err, IfErr, IfOk, IsErr}
use Rattle.std.specs.Result.{IsErrAnd}
use Rattle.std.proofs.lemmas.Bool.{both_ways}
use Rattle.std.proofs.lemmas.Bool.Decides.{nat_tests}
use Rattle.blocks.specs.SettingsRange.{IsInRange}
use Rattle.blocks.specs.declared.settings.Settings.{Settings}
use Rattle.blocks.specs.declared.tuple.Tuple.{Tuple}
use Rattle.blocks.specs.declared.refusal.Refusal.{Refusal}
use Rattle.blocks.specs.declared.refusal.Refusal.TheVariants.{BadSetting, NoMemory}
use Rattle.primary_core.specs.State.{CanBegin}
use Rattle.pair.specs.Openings.{CanPair}
use Rattle.model.specs.Contents.{BlockMap, IsDisk, filled}
use Rattle.model.specs.Headline.{IsGrounded}
use Rattle.model.specs.Pair.{pair_opening, same_block}
use Rattle.model.specs.Primary.{primary_opening}
use Rattle.model.specs.Rows.{words}
use Rattle.model.specs.Secondary.{secondary_opening}
use Rattle.endpoint.specs.PacketReceiver.{PacketReceiverState}
use Rattle.endpoint.specs.PacketSender.{PacketSenderState}
use Rattle.pair_protocol.specs.State.{IsDirection, PairHas, PairState, WasHonest}
use Rattle.laws.proofs.Blocks.SameBlocks.{equal-same}
use Rattle.pair_protocol.proofs.Opening.{pair-opening-has}
use Rattle.primary_protocol.specs.Node as primary
use Rattle.secondary_protocol.specs.Node as secondary
use Rattle.primary.specs.State.{PrimaryView}
use Rattle.primary.specs.State as local
use Rattle.secondary.specs.State.{SecondaryView}
use Rattle.secondary.specs.State as peer
use Rattle.pair.specs.State.{PairView, IsPairView, state, IsSure, IsSureToo}

some-get : {X : Type 0} (xs : List X) (n : ℕ) → is_some (slice_get xs n) ≡ nat_lt n (length xs)
some-get [] n = grind (arith, nat_tests)
some-get (x ∷ xs) zero = grind (arith, nat_tests)
some-get (x ∷ xs) (suc n) = some-get xs n ∙ grind (arith, nat_tests)

-- a row of blocks is a disk of its size
pub disk-of : (blocks : ℕ) (disk : List (List ℕ)) → length disk ≡ blocks → IsDisk blocks (slice_get disk)
disk-of blocks disk size block = some-get disk block ∙ ap (nat_lt block) size

-- no link yet
none-there : (capacity : ℕ) (o : Option PacketSenderState) (i : Option PacketReceiverState) → o ≡ None → i ≡ None
    → IsDirection capacity (record { out = o; inn = i })
none-there capacity o i out inn = subst (λ (x : Option PacketSenderState). IsDirection capacity (record { out = x; inn = i })) (sym out) inn

-- two new nodes
pub parts-have : (v : PairView) (settings : Settings) (here there : List (List ℕ)) (own peer_tuple : Tuple) (marks : ℕ → Bool) → IsInRange settings
    → length here ≡ settings.blocks → length there ≡ settings.blocks
    → primary.NodeHas (local.node v.primary) (primary_opening settings (slice_get here) own marks)
    → secondary.NodeHas (peer.node v.secondary) (secondary_opening settings (slice_get there) peer_tuple)
    → PairHas (state v) (pair_opening settings (slice_get here) (slice_get there) own peer_tuple marks)
parts-have v settings here there own peer_tuple marks ranges size other first second =
    pair-opening-has (state v) settings (slice_get here) (slice_get there) own peer_tuple marks ranges (disk-of settings.blocks here size)
    (disk-of settings.blocks there other) first second

-- and they are a pair
pub parts-are : (v : PairView) (settings : Settings) (here there : List (List ℕ)) (own peer_tuple : Tuple) (marks : ℕ → Bool) → IsInRange settings
    → length here ≡ settings.blocks → length there ≡ settings.blocks
    → primary.NodeHas (local.node v.primary) (primary_opening settings (slice_get here) own marks)
    → secondary.NodeHas (peer.node v.secondary) (secondary_opening settings (slice_get there) peer_tuple)
    → v.primary.outgoing ≡ None → v.primary.incoming ≡ None → v.secondary.outgoing ≡ None → v.secondary.incoming ≡ None → IsSure v.primary
    → IsSureToo v.secondary → IsPairView v
parts-are v settings here there own peer_tuple marks ranges size other first second out inn back_out back_inn steady steady_too = record {
  pair = record {
    history = pair_opening settings (slice_get here) (slice_get there) own peer_tuple marks;
    has = parts-have v settings here there own peer_tuple marks ranges size other first second;
    there = none-there v.primary.core.settings.link v.primary.outgoing v.secondary.incoming out back_inn;
    back = none-there v.secondary.core.settings.link v.secondary.outgoing v.primary.incoming back_out inn;
  };
  local = steady;
  peer = steady_too;
}

-- A zero-filled disk without a mark.

pub filled-is : (blocks : ℕ) (bytes : List ℕ) → slice_get (replicate blocks bytes) ≡ filled blocks bytes
filled-is blocks bytes = λ i block. at blocks block i
  where
    at : (blocks block : ℕ) → slice_get (replicate blocks bytes) block ≡ filled blocks bytes block
    at zero block = ap (λ b. if b then Some bytes else None) (let no : nat_lt block 0 ≡ false = grind (arith, nat_tests) in sym no)
    at (suc n) zero = ap (λ b. if b then Some bytes else None) (let yes : nat_lt 0 (suc n) ≡ true = grind (arith, nat_tests) in sym yes)
    at (suc n) (suc block) = at n block
        ∙ ap (λ b. if b then Some bytes else None) (let same : nat_lt block n ≡ nat_lt (suc block) (suc n) = grind (arith, nat_tests) in same)

pub unmarked-is : (blocks : ℕ) → ◌≡◌ {A = ℕ → Bool} (λ (block : ℕ). unwrap_or (slice_get (replicate blocks false) block) false) (λ (block : ℕ). false)
unmarked-is blocks = λ i block. at blocks block i
  where
    at : (blocks block : ℕ) → unwrap_or (slice_get (replicate blocks false) block) false ≡ false
    at zero block = refl
    at (suc n) zero = refl
    at (suc n) (suc block) = at n block

-- What the secondary refuses, where the primary is made.
pub refused-there : (settings : Settings) (here there : List (List ℕ)) (own : Tuple) (marks : List Bool) (e : Refusal) → CanBegin settings own marks
    → length here ≡ settings.blocks
    → ((e ≡ BadSetting) × (IsInRange settings → length there ≡ settings.blocks → ⊥)) ⊎ ((e ≡ NoMemory) × IsInRange settings × (length there ≡ settings.blocks))
    → ((e ≡ BadSetting) × (CanPair settings here there own marks → ⊥)) ⊎ ((e ≡ NoMemory) × CanPair settings here there own marks)
refused-there settings here there own marks e begun size (inl bad) = inl (bad.0, λ can. bad.1 can.begin.in_range can.peer_size)
refused-there settings here there own marks e begun size (inr short) = inr (short.0, record { begin = begun; local_size = size; peer_size = short.2 })

-- What is handed on is the refusal.
pub handed-on : {T : Type 0} (r : Result T Refusal) (x : Refusal) (P : Refusal → Type 0) → IsErr r × IsErrAnd r (λ e. e ≡ x) → P x → IfErr r P
handed-on (Ok done) x P is p = tt
handed-on (Err e) x P is p = subst P (sym is.1) p

-- Two zero-filled disks, as the histories have them.
pub zero-filled : {T : Type 0} (r : Result T Refusal) (v : T → PairState) (settings : Settings) (bytes : List ℕ) (here there : List (List ℕ))
    (marks : List Bool) (own peer_tuple : Tuple) → here ≡ replicate settings.blocks bytes → there ≡ replicate settings.blocks bytes
    → marks ≡ replicate settings.blocks false
    → IfOk r (λ p. PairHas (v p) (pair_opening settings (slice_get here) (slice_get there) own peer_tuple
    (λ block. unwrap_or (slice_get marks block) false)))
    → IfOk r (λ p. PairHas (v p) (pair_opening settings (filled settings.blocks bytes) (filled settings.blocks bytes) own peer_tuple (λ block. false)))
zero-filled (Err e) v settings bytes here there marks own peer_tuple a b c has = tt
zero-filled (Ok p) v settings bytes here there marks own peer_tuple a b c has =
    subst (λ (m : ℕ → Bool). PairHas (v p) (pair_opening settings (filled settings.blocks bytes) (filled settings.blocks bytes) own peer_tuple m))
    (ap {B = ℕ → Bool} (λ (l : List Bool) (block : ℕ). unwrap_or (slice_get l block) false) c ∙ unmarked-is settings.blocks)
    (subst (λ (m : BlockMap). PairHas (v p)
    (pair_opening settings (filled settings.blocks bytes) m own peer_tuple (λ block. unwrap_or (slice_get marks block) false))) (ap slice_get b
    ∙ filled-is settings.blocks bytes)
    (subst (λ (m : BlockMap). PairHas (v p) (pair_opening settings m (slice_get there) own peer_tuple (λ block. unwrap_or (slice_get marks block) false)))
    (ap slice_get a ∙ filled-is settings.blocks bytes) has))

-- Equal disks differ on no block, so that no mark is wanting.
zero-equal : (settings : Settings) (bytes : List ℕ) (block : ℕ) → same_block (filled settings.blocks bytes block) (filled settings.blocks bytes block) ≡ false
    → (nat_lt block settings.blocks && false) ≡ true
zero-equal settings bytes block differs =
    absurd (both_ways (same_block (filled settings.blocks bytes block) (filled settings.blocks bytes block)) differs
    (equal-same (filled settings.blocks bytes block) (filled settings.blocks bytes block) refl))

-- They have honest identifiers, whatever is marked.
pub zero-honest : (settings : Settings) (bytes : List ℕ)
    → WasHonest (pair_opening settings (filled settings.blocks bytes) (filled settings.blocks bytes) (words 1 0 0 0) (words 1 0 0 0) (λ _. false))
zero-honest settings bytes = record {
  own_data = omega (arith);
  same_current = λ _. zero-equal settings bytes;
  from_bitmap = λ _ _. zero-equal settings bytes;
}

-- They are grounded.
pub zero-grounded : (settings : Settings) (bytes : List ℕ)
    → let h = pair_opening settings (filled settings.blocks bytes) (filled settings.blocks bytes) (words 1 0 0 0) (words 1 0 0 0)
    (λ _. false) in IsGrounded h.primary h.secondary
zero-grounded settings bytes = (refl, inr (zero-equal settings bytes))
