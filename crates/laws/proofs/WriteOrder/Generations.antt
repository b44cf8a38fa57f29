-- Once a generation of data is left, no later stream begins without a resync to a peer that still has it. What the primary's
-- tuple says of that, at a given word and from a given connection on.
use Rattle.std.proofs.Common.{ℕ, ◌≡◌, ◌<◌, ◌≤◌, ◌⊎◌, inl, inr, Bool, true, false, ◌||◌, ◌==◌, List, [], length, Some, slice_get, Ok, refl, sym, ◌∙◌, ap, subst}
use Rattle.std.proofs.Common.{arith}
use Rattle.std.specs.Prelude.{if◌then◌else◌}
use Rattle.std.proofs.lemmas.Bool.{cases_Bool, both_ways, or_parts, eqb-true, eq-eqb, false_from_ne_true}
use Rattle.blocks.specs.declared.tuple.Tuple.{Tuple}
use Rattle.blocks.specs.declared.outcome.Decision.TheVariants.{NoSync, BitmapSync, FullSync}
use Rattle.model.specs.Stream.{SyncUuidItem, IsBeginning}
use Rattle.model.specs.Frames.{UuidsFrame}
use Rattle.model.specs.Identifiers.{are_fresh, stands_in, decision, lost, into_history, sync_start, sync_end}
use Rattle.model.specs.Primary.{PrimaryConnection, PrimaryHistory, no_primary_connection, last_of, primary_connection, change_last}
use Rattle.model.specs.PrimarySteps.{known_tuples}
use Rattle.laws.proofs.Rules.FreshWords.{loss-not-own}
use Rattle.laws.proofs.Rules.Decisions.{decided-by}
use Rattle.laws.proofs.Lists.Beginnings.{get-beginning}
use Rattle.laws.proofs.Lists.Last.{get-change, get-change-back, last-change, length-change}

-- every tuple that the primary took on these connections, from this one on, has the word for its current identifier
abbrev pub TakesOnly : ℕ → ℕ → PrimaryHistory → Type 0
TakesOnly word from h = (j n : ℕ) (c : PrimaryConnection) (peer : Tuple) → from ≤ j → slice_get h.connections j ≡ Some c
    → slice_get c.taken n ≡ Some (Ok (UuidsFrame peer)) → peer.current ≡ word

-- a stream that has not begun, or began with a resync
abbrev pub IsResync : PrimaryConnection → Type 0
IsResync c = (c.begun ≡ false) ⊎ ((word : ℕ) × (slice_get c.stream 0 ≡ Some (SyncUuidItem word)))

-- The connection before this number is the last one, and stands, with this word for the current identifier and no bitmap's.
pub record IsStanding (word from : ℕ) (h : PrimaryHistory) : Type 0 where
  pub last : length h.connections ≡ from
  pub unshut : (primary_connection h).closed ≡ false
  pub begun : (primary_connection h).begun ≡ true
  pub current : h.tuple.current ≡ word
  pub bitmap : h.tuple.bitmap ≡ 0
  pub loss : (primary_connection h).loss ≡ word → ⊥

-- Or the word is current no more, and each stream from this number on is a resync.
pub record IsGone (word from : ℕ) (h : PrimaryHistory) : Type 0 where
  pub few : from ≤ length h.connections
  pub past : (primary_connection h).closed ≡ false → from < length h.connections
  pub current : h.tuple.current ≡ word → ⊥
  pub resyncs : (j : ℕ) (c : PrimaryConnection) → from ≤ j → slice_get h.connections j ≡ Some c → IsResync c

-- one of the two
abbrev pub IsLeft : ℕ → ℕ → PrimaryHistory → Type 0
IsLeft word from h = IsStanding word from h ⊎ IsGone word from h

-- the last end after a change of it
pub primary-connection-change : (h later : PrimaryHistory) (f : PrimaryConnection → PrimaryConnection) → later.connections ≡ change_last f h.connections
    → (h.connections ≡ []) ⊎ (primary_connection later ≡ f (primary_connection h))
primary-connection-change h later f connections = elim (last-change f (no_primary_connection h.tuple) (no_primary_connection later.tuple) h.connections) [
  | inl none ↦ inl none
  | inr last ↦ inr (ap (last_of (no_primary_connection later.tuple)) connections ∙ last)
]

-- the last end where there is none
pub primary-connection-none : (h later : PrimaryHistory) (f : PrimaryConnection → PrimaryConnection) → later.connections ≡ change_last f h.connections
    → h.connections ≡ []
    → (primary_connection later).closed ≡ true
primary-connection-none h later f connections none = ap (λ (l : List PrimaryConnection). (last_of (no_primary_connection later.tuple) l).closed) (connections
    ∙ ap (change_last f) none)

-- What a change of the last connection keeps of it.
pub record KeepsLeft (h later : PrimaryHistory) (f : PrimaryConnection → PrimaryConnection) : Type 0 where
  pub connections : later.connections ≡ change_last f h.connections
  pub current : later.tuple.current ≡ h.tuple.current
  pub bitmap : h.tuple.bitmap ≡ 0 → later.tuple.bitmap ≡ 0
  pub closed : (f (primary_connection h)).closed ≡ (primary_connection h).closed
  pub begun : (f (primary_connection h)).begun ≡ (primary_connection h).begun
  pub loss : (f (primary_connection h)).loss ≡ (primary_connection h).loss
  pub hello : (f (primary_connection h)).hello ≡ (primary_connection h).hello
  pub stream : IsBeginning (primary_connection h).stream (f (primary_connection h)).stream
  pub taken : IsBeginning (primary_connection h).taken (f (primary_connection h)).taken

-- a resync stays one as its stream goes on
pub resync-grows : (c d : PrimaryConnection) → d.begun ≡ c.begun → IsBeginning c.stream d.stream → IsResync c → IsResync d
resync-grows c d begun grows (inl new) = inl (begun ∙ new)
resync-grows c d begun grows (inr old) = inr (old.0, get-beginning c.stream d.stream 0 (SyncUuidItem old.0) grows old.1)

-- Such a change keeps that the word was left.
pub left-change : (h later : PrimaryHistory) (f : PrimaryConnection → PrimaryConnection) (word from : ℕ) → KeepsLeft h later f → IsLeft word from h
    → IsLeft word from later
left-change h later f word from k (inl s) = elim (primary-connection-change h later f k.connections) [
  | inl none ↦ absurd (both_ways (primary_connection h).closed s.unshut
      (ap (λ (l : List PrimaryConnection). (last_of (no_primary_connection h.tuple) l).closed) none))
  | inr end ↦ inl (record {
    last = ap length k.connections ∙ (length-change f h.connections ∙ s.last);
    unshut = ap (λ (c : PrimaryConnection). c.closed) end ∙ (k.closed ∙ s.unshut);
    begun = ap (λ (c : PrimaryConnection). c.begun) end ∙ (k.begun ∙ s.begun);
    current = k.current ∙ s.current;
    bitmap = k.bitmap s.bitmap;
    loss = λ is. s.loss (sym k.loss ∙ (ap (λ (c : PrimaryConnection). c.loss) (sym end) ∙ is));
  })
]
left-change h later f word from k (inr g) =
    let size : length later.connections ≡ length h.connections = ap length k.connections ∙ length-change f h.connections in
    inr (record {
      few = let few = g.few in omega arith;
      past = λ unshut. elim (primary-connection-change h later f k.connections) [
        | inl none ↦ absurd (both_ways (primary_connection later).closed unshut (primary-connection-none h later f k.connections none))
        | inr end ↦ let past = g.past (sym k.closed ∙ (ap (λ (c : PrimaryConnection). c.closed) (sym end) ∙ unshut)) in omega arith
      ];
      current = λ is. g.current (sym k.current ∙ is);
      resyncs = λ j c more at. elim (get-change-back f (no_primary_connection h.tuple) h.connections j c
          (subst (λ (l : List PrimaryConnection). slice_get l j ≡ Some c) k.connections at)) [
            | inl same ↦ g.resyncs j c more same
            | inr changed ↦ subst IsResync (sym changed.0)
                (resync-grows (primary_connection h) (f (primary_connection h)) k.begun k.stream (g.resyncs j (primary_connection h) more changed.1))
          ];
    })

-- what was taken stays taken
pub takes-back : (h later : PrimaryHistory) (f : PrimaryConnection → PrimaryConnection) (word from : ℕ) → later.connections ≡ change_last f h.connections
    → IsBeginning (primary_connection h).taken (f (primary_connection h)).taken → TakesOnly word from later → TakesOnly word from h
takes-back h later f word from connections grows only j n c peer more at there = elim (get-change f (no_primary_connection h.tuple) h.connections j c at) [
  | inl same ↦ only j n c peer more (subst (λ (l : List PrimaryConnection). slice_get l j ≡ Some c) (sym connections) same) there
  | inr changed ↦ only j n (f c) peer more (subst (λ (l : List PrimaryConnection). slice_get l j ≡ Some (f c)) (sym connections) changed.0)
      (get-beginning c.taken (f c).taken n (Ok (UuidsFrame peer)) (subst (λ (x : PrimaryConnection). IsBeginning x.taken (f x).taken) (sym changed.1) grows)
      there)
]

-- Tuples as they turn.

-- a resync leaves the current identifier
history-current : (word : ℕ) (t : Tuple) → (into_history word t).current ≡ t.current
history-current word t = elim (t.bitmap == 0) as
    (λ b. (if b then record t { bitmap = word }
    else record { current = t.current; bitmap = word; first_historical = t.bitmap; second_historical = t.first_historical }).current ≡ t.current)
    [ true ↦ refl | false ↦ refl ]

-- and sets the bitmap's
history-bitmap : (word : ℕ) (t : Tuple) → (into_history word t).bitmap ≡ word
history-bitmap word t = elim (t.bitmap == 0) as
    (λ b. (if b then record t { bitmap = word }
    else record { current = t.current; bitmap = word; first_historical = t.bitmap; second_historical = t.first_historical }).bitmap ≡ word)
    [ true ↦ refl | false ↦ refl ]

-- the end of a resync leaves the current identifier, and no bitmap's
pub end-current : (t : Tuple) → (sync_end t).current ≡ t.current
end-current t = history-current 0 t

-- nor is there a bitmap's after it
pub end-bitmap : (t : Tuple) → (sync_end t).bitmap ≡ 0
end-bitmap t = history-bitmap 0 t

-- so does its start the current one
pub start-current : (word : ℕ) (t : Tuple) → (sync_start word t).current ≡ t.current
start-current word t = history-current word t

-- after a lost connection the loss word is current, or what was
pub lost-current : (word : ℕ) (t : Tuple) → ((t.bitmap ≡ 0) × ((lost word t).current ≡ word)) ⊎ ((lost word t).current ≡ t.current)
lost-current word t = go (t.bitmap == 0) refl
  where
    go : (b : Bool) → (t.bitmap == 0) ≡ b
        → ((t.bitmap ≡ 0) × ((if b then record t { current = word; bitmap = t.current } else t).current ≡ word))
        ⊎ ((if b then record t { current = word; bitmap = t.current } else t).current ≡ t.current)
    go true is = inl (eqb-true t.bitmap 0 is, refl)
    go false is = inr refl

-- with no bitmap identifier it is the loss word
pub lost-fresh : (word : ℕ) (t : Tuple) → t.bitmap ≡ 0 → (lost word t).current ≡ word
lost-fresh word t none = ap (λ b. (if b then record t { current = word; bitmap = t.current } else t).current) (eq-eqb t.bitmap 0 none)

-- a word that stands in no place of a tuple is not its current one
pub not-current : (word : ℕ) (t : Tuple) → stands_in word t ≡ false → word ≡ t.current → ⊥
not-current word t none is =
    let parts = or_parts ((word == t.current) || (word == t.bitmap)) ((word == t.first_historical) || (word == t.second_historical)) none in
    both_ways (word == t.current) (or_parts (word == t.current) (word == t.bitmap) parts.0).0 (eq-eqb word t.current is)

-- a fresh loss word is not the current one
pub fresh-loss : (h : PrimaryHistory) (sync loss : ℕ) → are_fresh sync loss (known_tuples h) ≡ true → loss ≡ h.tuple.current → ⊥
fresh-loss h sync loss fresh is = not-current loss h.tuple (loss-not-own h sync loss fresh) is

-- equal currents are decided as no resync
pub decided-same : (own peer : Tuple) → (peer.current ≡ 0 → ⊥) → own.current ≡ peer.current → decision own peer ≡ Ok NoSync
decided-same own peer some same =
    let first : (peer.current == 0) ≡ false = false_from_ne_true (peer.current == 0) (λ is. some (eqb-true peer.current 0 is)) in
    rw first (rw (eq-eqb own.current peer.current same) refl)

-- and no resync is decided of them alone, where the peer has data
pub decided-current : (own peer : Tuple) → (peer.current ≡ 0 → ⊥) → decision own peer ≡ Ok NoSync → own.current ≡ peer.current
decided-current own peer some is = elim (cases_Bool (own.current == peer.current)) [
  | inl same ↦ eqb-true own.current peer.current same
  | inr other ↦ absurd (elim (decided-by own peer NoSync is) [
    | inl full ↦ cc
    | inr either ↦ elim either [
      | inl same ↦ both_ways (own.current == peer.current) other (eq-eqb own.current peer.current (sym same))
      | inr bitmap ↦ go bitmap other is
    ]
  ])
]
  where
    go : (0 < own.bitmap) × (peer.current ≡ own.bitmap) → (own.current == peer.current) ≡ false → decision own peer ≡ Ok NoSync → ⊥
    go bitmap other is =
        let first : (peer.current == 0) ≡ false = false_from_ne_true (peer.current == 0) (λ e. some (eqb-true peer.current 0 e)) in
        let third : (own.bitmap == peer.current) ≡ true = eq-eqb own.bitmap peer.current (sym bitmap.1) in
        let decides : decision own peer ≡ Ok BitmapSync = rw first (rw other (rw third refl)) in
        let both : Ok NoSync ≡ Ok BitmapSync = sym is ∙ decides in
        cc

-- no resync is decided of equal currents alone
pub decided-none : (own peer : Tuple) → decision own peer ≡ Ok NoSync → own.current ≡ peer.current
decided-none own peer is = decided-current own peer (λ zero_peer.
    let decides : decision own peer ≡ Ok FullSync = rw (eq-eqb peer.current 0 zero_peer) refl in
    let both : Ok NoSync ≡ Ok FullSync = sym is ∙ decides in
    cc) is
