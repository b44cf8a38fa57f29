-- The last item that touches a block, once the connections change.
use Rattle.std.proofs.Common.{ℕ, suc, ◌≡◌, ◌+◌, Bool, true, false, List, [], ◌∷◌, ◌++◌, length, Option, Some, None, refl, ◌∙◌, ap, arith}
use Rattle.std.specs.Prelude.{if◌then◌else◌}
use Rattle.model.specs.Stream.{StreamItem}
use Rattle.model.specs.Primary.{PrimaryConnection, last_of, last_index, change_last}
use Rattle.laws.specs.Reflections.{touches}
use Rattle.laws.proofs.Blocks.Latest.{Touch, latest_from, found_in, latest_of, latest, latest-append}

-- Changes of the last connection.

-- what is found in several connections does not change where the stream of the last one does not
same-of : (block k : ℕ) (found : Option Touch) (none : PrimaryConnection) (f : PrimaryConnection → PrimaryConnection) (connections : List PrimaryConnection)
    → (f (last_of none connections)).stream ≡ (last_of none connections).stream
    → latest_of block k found (change_last f connections) ≡ latest_of block k found connections
same-of block k found none f [] same = refl
same-of block k found none f (c ∷ []) same = ap (λ (l : List StreamItem). found_in k (latest_from block 0 None l) found) same
same-of block k found none f (c ∷ d ∷ connections) same = same-of block (suc k) (found_in k (latest_from block 0 None c.stream) found) c f
    (d ∷ connections) same

-- The last connection changes, and not its stream: what touches a block last stays.
pub latest-same-last : (none : PrimaryConnection) (f : PrimaryConnection → PrimaryConnection) (connections : List PrimaryConnection) (block : ℕ)
    → (f (last_of none connections)).stream ≡ (last_of none connections).stream
    → latest (change_last f connections) block ≡ latest connections block
latest-same-last none f connections block same = same-of block 0 None none f connections same

-- The same where the change keeps every stream.
pub latest-same : (f : PrimaryConnection → PrimaryConnection) (connections : List PrimaryConnection) (block : ℕ)
    → ((c : PrimaryConnection) → (f c).stream ≡ c.stream)
    → latest (change_last f connections) block ≡ latest connections block
latest-same f [] block same = refl
latest-same f (c ∷ connections) block same = latest-same-last c f (c ∷ connections) block (same (last_of c (c ∷ connections)))

found-if : (k : ℕ) (b : Bool) (entry : ℕ × StreamItem) (old : Option (ℕ × StreamItem)) (found : Option Touch)
    → found_in k (if b then Some entry else old) found ≡ (if b then Some (record { connection = k; place = entry.0; item = entry.1 }) else found_in k old found)
found-if k true entry old found = refl
found-if k false entry old found = refl

appended-of : (block k : ℕ) (found : Option Touch) (none : PrimaryConnection) (f : PrimaryConnection
    → PrimaryConnection) (item : StreamItem) (connections : List PrimaryConnection) → (connections ≡ [] → ⊥)
    → (f (last_of none connections)).stream ≡ (last_of none connections).stream ++ item ∷ [] → latest_of block k found (change_last f connections)
    ≡ (if touches item block then Some (record { connection = k + last_index connections; place = length (last_of none connections).stream; item = item })
    else latest_of block k found connections)
appended-of block k found none f item [] some is = absurd (some refl)
appended-of block k found none f item (c ∷ []) some is =
    ap (λ (l : List StreamItem). found_in k (latest_from block 0 None l) found) is
    ∙ (ap (λ (v : Option (ℕ × StreamItem)). found_in k v found) (latest-append block 0 None c.stream item)
    ∙ (found-if k (touches item block) (0 + length c.stream, item) (latest_from block 0 None c.stream) found
    ∙ (ap (λ (n : ℕ). if touches item block then Some (record { connection = k; place = n; item = item })
    else found_in k (latest_from block 0 None c.stream) found) (omega arith)
    ∙ ap (λ (n : ℕ). if touches item block then Some (record { connection = n; place = length c.stream; item = item })
    else found_in k (latest_from block 0 None c.stream) found) (omega arith))))
appended-of block k found none f item (c ∷ d ∷ connections) some is =
    appended-of block (suc k) (found_in k (latest_from block 0 None c.stream) found) c f item (d ∷ connections) (λ e. cc) is
    ∙ ap (λ (n : ℕ). if touches item block then Some (record { connection = n; place = length (last_of d connections).stream; item = item })
    else latest_of block (suc k) (found_in k (latest_from block 0 None c.stream) found) (d ∷ connections)) (omega arith)

-- An item goes to the end of the last stream: it is the last one where it touches the block.
pub latest-appended : (none : PrimaryConnection) (f : PrimaryConnection → PrimaryConnection) (item : StreamItem) (connections : List PrimaryConnection)
    (block : ℕ) → (connections ≡ [] → ⊥)
    → (f (last_of none connections)).stream ≡ (last_of none connections).stream ++ item ∷ [] → latest (change_last f connections) block
    ≡ (if touches item block then Some (record { connection = last_index connections; place = length (last_of none connections).stream; item = item })
    else latest connections block)
latest-appended none f item connections block some is =
    appended-of block 0 None none f item connections some is
    ∙ ap (λ (n : ℕ). if touches item block then Some (record { connection = n; place = length (last_of none connections).stream; item = item })
    else latest connections block) (omega arith)

opened-of : (block k : ℕ) (found : Option Touch) (connections : List PrimaryConnection) (c : PrimaryConnection) → c.stream ≡ []
    → latest_of block k found (connections ++ c ∷ []) ≡ latest_of block k found connections
opened-of block k found [] c empty = ap (λ (l : List StreamItem). found_in k (latest_from block 0 None l) found) empty
opened-of block k found (d ∷ connections) c empty = opened-of block (suc k) (found_in k (latest_from block 0 None d.stream) found) connections c empty

-- A connection with an empty stream is added: what touches a block last stays.
pub latest-opened : (connections : List PrimaryConnection) (c : PrimaryConnection) (block : ℕ) → c.stream ≡ []
    → latest (connections ++ c ∷ []) block ≡ latest connections block
latest-opened connections c block empty = opened-of block 0 None connections c empty
