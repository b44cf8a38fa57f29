-- What the moves of a primary do to the spans of its connections.
use Rattle.std.proofs.Common.{ℕ, suc, ◌≡◌, ◌-◌, ◌<◌, ◌≤◌, ◌⊎◌, inl, inr, true, false, List, length, Some, slice_get, refl, sym, ◌∙◌, ap, subst, arith}
use Rattle.std.proofs.lemmas.Bool.{cases_lt, both_ways}
use Rattle.std.proofs.lemmas.Option.{slice_get_within}
use Rattle.blocks.specs.declared.tuple.Tuple.{Tuple}
use Rattle.blocks.specs.declared.outcome.Decision.{Decision}
use Rattle.model.specs.Stream.{StreamItem, ResyncItem, UuidsItem}
use Rattle.model.specs.Primary.{Accepted, PrimaryConnection, PrimaryHistory, no_primary_connection, primary_connection, change_last}
use Rattle.laws.specs.Reflections.{FirstBegan}
use Rattle.laws.proofs.Lists.Elements.{same-at}
use Rattle.laws.proofs.Lists.Last.{get-change, get-change-back, get-last-changed, last-at, length-change}
use Rattle.laws.proofs.Primary.Homes.{Grows, grows-self}
use Rattle.laws.proofs.Primary.LastOpen.{IsLastOpen}
use Rattle.laws.proofs.WriteOrder.Layers.{writes_over}
use Rattle.laws.proofs.WriteOrder.Sets.{IsRead}
use Rattle.laws.proofs.WriteOrder.Spans.{NoneFailed, IsAcknowledged, IsSpan, Passes, span-passes}
use Rattle.std.proofs.Common.{IsTrue}

-- Each connection that began has its span; and as long as none began, no write was accepted where there was nothing to resync.
pub record HasSpans (h : PrimaryHistory) : Type 0 where
  pub spans : (k : ℕ) (c : PrimaryConnection) → slice_get h.connections k ≡ Some c → c.begun ≡ true → (older : ℕ) × (newer : ℕ) × IsSpan h k c older newer
  pub quiet : ((k : ℕ) (c : PrimaryConnection) → slice_get h.connections k ≡ Some c → c.begun ≡ false) → h.opening_tuple.bitmap ≡ 0 → length h.writes ≡ 0

-- the opening stays
abbrev pub SameOpening : PrimaryHistory → PrimaryHistory → Type 0
SameOpening h later = (later.opening_map ≡ h.opening_map)
    × ((later.opening_tuple ≡ h.opening_tuple) × ((later.opening_marks ≡ h.opening_marks) × ((later.settings ≡ h.settings) × (IsTrue later.faithful → IsTrue h.faithful))))

-- the first stream that began stays so
abbrev pub KeepsFirst : PrimaryHistory → PrimaryHistory → Type 0
KeepsFirst h later = (decided : Decision) → FirstBegan h decided → FirstBegan later decided

-- The last connection changes, and no write.
pub passes-change : (h later : PrimaryHistory) (f : PrimaryConnection → PrimaryConnection) → later.connections ≡ change_last f h.connections
    → later.writes ≡ h.writes
    → SameOpening h later → KeepsFirst h later → Passes h later
passes-change h later f connections writes opening first = record {
  map = opening.0;
  tuple = opening.1.0;
  marks = opening.1.1.0;
  settings = opening.1.1.1.0;
  over = λ count block within. ap (λ (l : List Accepted). writes_over h.opening_map count l block) writes;
  writes = λ i b less at. (b, subst (λ (l : List Accepted). slice_get l i ≡ Some b) writes at, refl, refl);
  count = let same = ap length writes in omega arith;
  fine = λ fine. (λ n a at. fine.0 n a (subst (λ (l : List Accepted). slice_get l n ≡ Some a) (sym writes) at), opening.1.1.1.1 fine.1);
  front = λ j c less at. subst (λ (l : List PrimaryConnection). slice_get l j ≡ Some c) (sym connections)
      (elim (get-change f (no_primary_connection h.tuple) h.connections j c at)
      [ inl same ↦ same | inr changed ↦ absurd (let end = changed.2 in omega arith) ]);
  back = λ j c less at. elim (get-change-back f (no_primary_connection h.tuple) h.connections j c
      (subst (λ (l : List PrimaryConnection). slice_get l j ≡ Some c) connections at))
      [ inl same ↦ same | inr changed ↦ absurd (let end = changed.2 in omega arith) ];
  first = first;
}

-- A span of a closed end stays.
pub span-shut : (h later : PrimaryHistory) (k : ℕ) (c : PrimaryConnection) (older newer : ℕ) → Passes h later → slice_get h.connections k ≡ Some c
    → c.closed ≡ true
    → ((j : ℕ) (e : PrimaryConnection) → j < k → slice_get h.connections j ≡ Some e → slice_get later.connections j ≡ Some e)
    → ((n other : ℕ) (b : Accepted) → length h.writes ≤ n → slice_get later.writes n ≡ Some b → b.home ≡ Some (record { index = k; place = other }) → ⊥)
    → IsSpan h k c older newer
    → IsSpan later k c older newer
span-shut h later k c older newer p at shut earlier added s = span-passes h later k c c older newer newer p at (record {
  grows = grows-self c;
  unshut = λ is. is;
  earlier = earlier;
  rising = omega arith;
  bound = let low = s.bound in let more = p.count in omega arith;
  still = λ unshut. absurd (both_ways c.closed unshut shut);
  own = λ n b from less there. absurd (omega arith);
  past = λ n place b from there home. elim (cases_lt n (length h.writes)) [
    | inl old ↦ let a = p.writes n b old there in s.past n place a.0 from a.1 (sym a.3 ∙ home)
    | inr new ↦ added n place b (omega arith) there home
  ];
  behind = λ n other b from there home. absurd (added n other b from there home);
}) (λ fine unshut. absurd (both_ways c.closed unshut shut)) (λ fine place block contents there. inl there) (λ n tuple there. inl there) s

-- where the last connection stands after a change of it
pub last-end : (h later : PrimaryHistory) (f : PrimaryConnection → PrimaryConnection) → later.connections ≡ change_last f h.connections
    → (k : ℕ) (d : PrimaryConnection)
    → slice_get later.connections k ≡ Some d → length h.connections ≤ suc k
    → (slice_get h.connections k ≡ Some (primary_connection h)) × (d ≡ f (primary_connection h))
last-end h later f connections k d at late =
    let there : slice_get (change_last f h.connections) k ≡ Some d = subst (λ (l : List PrimaryConnection). slice_get l k ≡ Some d) connections at in
    let within = slice_get_within (change_last f h.connections) k d there in
    let size = length-change f h.connections in
    let index : length h.connections - 1 ≡ k = omega arith in
    elim (last-at (no_primary_connection h.tuple) h.connections) [
      | inl none ↦ absurd (let empty : length h.connections ≡ 0 = ap length none in omega arith)
      | inr last ↦
          let changed = get-last-changed f (no_primary_connection h.tuple) h.connections (primary_connection h) last refl in (
            subst (λ (n : ℕ). slice_get h.connections n ≡ Some (primary_connection h)) index last,
            same-at (change_last f h.connections) k d (f (primary_connection h)) there
                (subst (λ (n : ℕ). slice_get (change_last f h.connections) n ≡ Some (f (primary_connection h))) index changed),
          )
    ]

-- The last connection changes, no write is accepted, and what comes of its span is known.
pub spans-with : (h later : PrimaryHistory) → IsLastOpen h → Passes h later
    → ((n k other : ℕ) (b : Accepted) → length h.writes ≤ n → slice_get later.writes n ≡ Some b → suc k < length h.connections
    → b.home ≡ Some (record { index = k; place = other }) → ⊥)
    → ((k : ℕ) (d : PrimaryConnection) → slice_get later.connections k ≡ Some d → d.begun ≡ true → length h.connections ≤ suc k
    → (older : ℕ) × (newer : ℕ) × IsSpan later k d older newer)
    → HasSpans h → (k : ℕ) (d : PrimaryConnection) → slice_get later.connections k ≡ Some d → d.begun ≡ true
    → (older : ℕ) × (newer : ℕ) × IsSpan later k d older newer
spans-with h later last p added ends t k d at begun = elim (cases_lt (suc k) (length h.connections)) [
  | inr late ↦ ends k d at begun (omega arith)
  | inl early ↦
      let was = p.back k d early at in
      let s = t.spans k d was begun in (
        s.0,
        s.1,
        span-shut h later k d s.0 s.1 p was (last k d was early) (λ j e less there. p.front j e (omega arith) there)
            (λ n other b from there home. added n k other b from there early home) s.2,
      )
]

-- What a change of the last connection keeps of its span.
pub record KeepsSpan (h later : PrimaryHistory) (d : PrimaryConnection) : Type 0 where
  pub grows : (k : ℕ) → slice_get h.connections k ≡ Some (primary_connection h) → Grows (primary_connection h) d
  pub unshut : d.closed ≡ false → (primary_connection h).closed ≡ false
  pub begun : d.begun ≡ (primary_connection h).begun
  pub marks : NoneFailed later → d.closed ≡ false → (block : ℕ) → block < h.settings.blocks → later.marks block ≡ false
      → (h.marks block ≡ false) ⊎ IsAcknowledged d block
  pub reads : (k older newer : ℕ) → slice_get h.connections k ≡ Some (primary_connection h) → IsSpan h k (primary_connection h) older newer → NoneFailed later
      → (place block : ℕ) (contents : List ℕ) → slice_get d.stream place ≡ Some (ResyncItem block contents)
      → (slice_get (primary_connection h).stream place ≡ Some (ResyncItem block contents)) ⊎ IsRead later k d older place block contents
  pub ends : (n : ℕ) (tuple : Tuple) → slice_get d.stream n ≡ Some (UuidsItem tuple)
      → (slice_get (primary_connection h).stream n ≡ Some (UuidsItem tuple))
      ⊎ (((primary_connection h).closed ≡ false) × ((block : ℕ) → block < h.settings.blocks
      → h.marks block ≡ false))

-- one that keeps the stream, and takes no mark away
pub keeps-quiet : (h later : PrimaryHistory) (d : PrimaryConnection) → d.stream ≡ (primary_connection h).stream
    → ((k : ℕ) → slice_get h.connections k ≡ Some (primary_connection h) → Grows (primary_connection h) d)
    → (d.closed ≡ false → (primary_connection h).closed ≡ false)
    → d.begun ≡ (primary_connection h).begun
    → (d.closed ≡ false → (block : ℕ) → later.marks block ≡ false → h.marks block ≡ false) → KeepsSpan h later d
keeps-quiet h later d stream grows unshut begun marks = record {
  grows = grows;
  unshut = unshut;
  begun = begun;
  marks = λ fine is block inside unmarked. inl (marks is block unmarked);
  reads = λ k older newer at s fine place block contents there. inl
      (subst (λ (l : List StreamItem). slice_get l place ≡ Some (ResyncItem block contents)) stream there);
  ends = λ n tuple there. inl (subst (λ (l : List StreamItem). slice_get l n ≡ Some (UuidsItem tuple)) stream there);
}

-- no connection began before the change, where none did after it
none-before : (h later : PrimaryHistory) (f : PrimaryConnection → PrimaryConnection) → later.connections ≡ change_last f h.connections
    → (f (primary_connection h)).begun ≡ (primary_connection h).begun
    → ((k : ℕ) (c : PrimaryConnection) → slice_get later.connections k ≡ Some c → c.begun ≡ false)
    → (k : ℕ) (c : PrimaryConnection) → slice_get h.connections k ≡ Some c → c.begun ≡ false
none-before h later f connections begun none k c at = elim (get-change f (no_primary_connection h.tuple) h.connections k c at) [
  | inl same ↦ none k c (subst (λ (l : List PrimaryConnection). slice_get l k ≡ Some c) (sym connections) same)
  | inr changed ↦
      let is = none k (f c) (subst (λ (l : List PrimaryConnection). slice_get l k ≡ Some (f c)) (sym connections) changed.0) in
      sym (subst (λ (x : PrimaryConnection). (f x).begun ≡ x.begun) (sym changed.1) begun) ∙ is
]

-- The last connection changes so, and no write is accepted.
pub spans-change : (h later : PrimaryHistory) (f : PrimaryConnection → PrimaryConnection) → IsLastOpen h → Passes h later
    → later.connections ≡ change_last f h.connections
    → length later.writes ≡ length h.writes → KeepsSpan h later (f (primary_connection h)) → HasSpans h → HasSpans later
spans-change h later f last p connections size keeps t = record {
  spans = spans-with h later last p (λ n k other b from there early home. let within = slice_get_within later.writes n b there in omega arith)
      (λ k d at begun late.
      let end = last-end h later f connections k d at late in
      let was : (primary_connection h).begun ≡ true = sym keeps.begun ∙ (ap (λ (x : PrimaryConnection). x.begun) (sym end.1) ∙ begun) in
      let s = t.spans k (primary_connection h) end.0 was in
      (s.0, s.1, subst (λ (x : PrimaryConnection). IsSpan later k x s.0 s.1) (sym end.1) (one k s.0 s.1 end.0 s.2))) t;
  quiet = λ none bitmap. size ∙ t.quiet (none-before h later f connections keeps.begun none) (sym (ap (λ (x : Tuple). x.bitmap) p.tuple) ∙ bitmap);
}
  where
    one : (k older newer : ℕ) → slice_get h.connections k ≡ Some (primary_connection h) → IsSpan h k (primary_connection h) older newer
        → IsSpan later k (f (primary_connection h)) older newer
    one k older newer at s = span-passes h later k (primary_connection h) (f (primary_connection h)) older newer newer p at (record {
      grows = keeps.grows k at;
      unshut = keeps.unshut;
      earlier = λ j e less there. p.front j e (let within = slice_get_within h.connections k (primary_connection h) at in omega arith) there;
      rising = omega arith;
      bound = let low = s.bound in omega arith;
      still = λ unshut. let was = s.still (keeps.unshut unshut) in omega arith;
      own = λ n b from less there. absurd (omega arith);
      past = λ n place b from there home.
          let within = slice_get_within later.writes n b there in
          let a = p.writes n b (omega arith) there in
          s.past n place a.0 from a.1 (sym a.3 ∙ home);
      behind = λ n other b from there home. absurd (let within = slice_get_within later.writes n b there in omega arith);
    }) keeps.marks (keeps.reads k older newer at s) keeps.ends s
