-- The writes of a connection whose stream began: those accepted before, those of its own, and those after. What its resync
-- blocks have, and why the peer holds the earlier writes on a block that is not marked any more.
use Rattle.std.proofs.Common.{ℕ, suc, ◌≡◌, ◌<◌, ◌≤◌, ◌⊎◌, inl, inr, Bool, true, false, ◌&&◌, nat_lt, List, length, Option, Some, slice_get, sym, ◌∙◌, ap, subst}
use Rattle.std.proofs.Common.{arith}
use Rattle.std.proofs.lemmas.Bool.{cases_lt}
use Rattle.std.proofs.lemmas.Option.{slice_get_within}
use Rattle.blocks.specs.declared.settings.Settings.{Settings}
use Rattle.blocks.specs.declared.tuple.Tuple.{Tuple}
use Rattle.blocks.specs.declared.outcome.Decision.{Decision}
use Rattle.blocks.specs.declared.outcome.Decision.TheVariants.{FullSync}
use Rattle.model.specs.Contents.{BlockMap, Write, covers}
use Rattle.model.specs.Stream.{StreamItem, ResyncItem, UuidsItem, IsBeginning}
use Rattle.model.specs.Primary.{Accepted, PrimaryConnection, PrimaryHistory, is_failed}
use Rattle.model.specs.Headline.{opening_marked}
use Rattle.laws.specs.Reflections.{touches, content_at, is_sure, IsLater, FirstBegan}
use Rattle.laws.proofs.Lists.Beginnings.{get-beginning}
use Rattle.laws.proofs.Primary.Homes.{Grows}
use Rattle.laws.proofs.Accounted.{sure-grows, epoch-same}
use Rattle.laws.proofs.WriteOrder.Layers.{writes_over}
use Rattle.laws.proofs.WriteOrder.Sets.{IsRead}
use Rattle.std.proofs.Common.{IsTrue}

-- no write failed on the local disk, and it was faithful
abbrev pub NoneFailed : PrimaryHistory → Type 0
NoneFailed h = ((n : ℕ) (a : Accepted) → slice_get h.writes n ≡ Some a → is_failed a.outcome ≡ false) × IsTrue h.faithful

-- the peer has said that it has an item of this end on the block
pub record IsAcknowledged (c : PrimaryConnection) (block : ℕ) : Type 0 where
  pub place : ℕ
  pub item : StreamItem
  pub there : slice_get c.stream place ≡ Some item
  pub touched : touches item block ≡ true
  pub sure : is_sure c place item ≡ true

-- what the first so many writes leave in a block
abbrev pub left_by : PrimaryHistory → ℕ → ℕ → Option (List ℕ)
left_by h count block = writes_over h.opening_map count h.writes block

-- An item of an earlier connection is surely on the peer's disk that has what the earlier writes leave in the block, and so has
-- every later one before this connection.
pub record FromBelow (h : PrimaryHistory) (k older block : ℕ) : Type 0 where
  pub connection : ℕ
  pub place : ℕ
  pub end : PrimaryConnection
  pub item : StreamItem
  pub less : connection < k
  pub at : slice_get h.connections connection ≡ Some end
  pub there : slice_get end.stream place ≡ Some item
  pub touched : touches item block ≡ true
  pub sure : is_sure end place item ≡ true
  pub content : content_at item block ≡ left_by h older block
  pub later : (other next : ℕ) (c : PrimaryConnection) (i : StreamItem) → other < k → slice_get h.connections other ≡ Some c → slice_get c.stream next ≡ Some i
      → touches i block ≡ true → IsLater connection place other next → content_at i block ≡ left_by h older block

-- Or the block stands as at the opening, where it was not marked and no full resync began.
pub record OpeningBelow (h : PrimaryHistory) (k older block : ℕ) : Type 0 where
  pub content : h.opening_map block ≡ left_by h older block
  pub unmarked : opening_marked h block ≡ false
  pub items : (other next : ℕ) (c : PrimaryConnection) (i : StreamItem) → other < k → slice_get h.connections other ≡ Some c → slice_get c.stream next ≡ Some i
      → touches i block ≡ true → content_at i block ≡ left_by h older block
  pub began : (decided : Decision) × FirstBegan h decided × (decided ≡ FullSync → ⊥)

-- so the peer held what the earlier writes leave there when this connection opened
abbrev pub WasBelow : PrimaryHistory → ℕ → ℕ → ℕ → Type 0
WasBelow h k older block = FromBelow h k older block ⊎ OpeningBelow h k older block

-- The writes of a connection are those from the one number to the other. While its stream stands, on each unmarked block an
-- item of it is surely on the peer's disk, or the earlier writes were there; and so from the end of a resync on, on every block.
pub record IsSpan (h : PrimaryHistory) (k : ℕ) (c : PrimaryConnection) (older newer : ℕ) : Type 0 where
  pub rising : older ≤ newer
  pub bound : newer ≤ length h.writes
  pub still : c.closed ≡ false → newer ≡ length h.writes
  pub low : (n place : ℕ) (a : Accepted) → n < older → slice_get h.writes n ≡ Some a → a.home ≡ Some (record { index = k; place = place }) → ⊥
  pub own : (n : ℕ) (a : Accepted) → older ≤ n → n < newer → slice_get h.writes n ≡ Some a → (place : ℕ) × (a.home ≡ Some (record { index = k; place = place }))
  pub past : (n place : ℕ) (a : Accepted) → newer ≤ n → slice_get h.writes n ≡ Some a → a.home ≡ Some (record { index = k; place = place }) → ⊥
  pub reads : NoneFailed h → (place block : ℕ) (contents : List ℕ) → slice_get c.stream place ≡ Some (ResyncItem block contents)
      → IsRead h k c older place block contents
  pub first : ((j : ℕ) (d : PrimaryConnection) → j < k → slice_get h.connections j ≡ Some d → d.begun ≡ false) → h.opening_tuple.bitmap ≡ 0 → older ≡ 0
  pub clean : NoneFailed h → c.closed ≡ false → (block : ℕ) → block < h.settings.blocks → h.marks block ≡ false
      → IsAcknowledged c block ⊎ WasBelow h k older block
  pub synced : NoneFailed h → (n : ℕ) (tuple : Tuple) → slice_get c.stream n ≡ Some (UuidsItem tuple) → (block : ℕ) → block < h.settings.blocks
      → IsAcknowledged c block ⊎ WasBelow h k older block

-- What every move keeps: the opening, the writes but for what the local disk did, and the connections before the last one.
pub record Passes (h later : PrimaryHistory) : Type 0 where
  pub map : later.opening_map ≡ h.opening_map
  pub tuple : later.opening_tuple ≡ h.opening_tuple
  pub marks : later.opening_marks ≡ h.opening_marks
  pub settings : later.settings ≡ h.settings
  pub over : (count block : ℕ) → count ≤ length h.writes → writes_over h.opening_map count later.writes block ≡ writes_over h.opening_map count h.writes block
  pub writes : (i : ℕ) (b : Accepted) → i < length h.writes → slice_get later.writes i ≡ Some b
      → (a : Accepted) × (slice_get h.writes i ≡ Some a) × (b.write ≡ a.write) × (b.home ≡ a.home)
  pub count : length h.writes ≤ length later.writes
  pub fine : NoneFailed later → NoneFailed h
  pub front : (j : ℕ) (c : PrimaryConnection) → suc j < length h.connections → slice_get h.connections j ≡ Some c → slice_get later.connections j ≡ Some c
  pub back : (j : ℕ) (c : PrimaryConnection) → suc j < length h.connections → slice_get later.connections j ≡ Some c → slice_get h.connections j ≡ Some c
  pub first : (decided : Decision) → FirstBegan h decided → FirstBegan later decided

-- what the writes leave stays
left-same : (h later : PrimaryHistory) → Passes h later → (count block : ℕ) → count ≤ length h.writes → left_by later count block ≡ left_by h count block
left-same h later p count block within = ap (λ (m : BlockMap). writes_over m count later.writes block) p.map ∙ p.over count block within

-- a block that stands as at the opening still does
pub opening-below : (h later : PrimaryHistory) (k older block : ℕ) → Passes h later → k < length h.connections → older ≤ length h.writes
    → h.opening_map block ≡ left_by h older block → opening_marked h block ≡ false
    → ((other next : ℕ) (c : PrimaryConnection) (i : StreamItem) → other < k → slice_get h.connections other ≡ Some c → slice_get c.stream next ≡ Some i
    → touches i block ≡ true → content_at i block ≡ left_by h older block)
    → ((decided : Decision) × FirstBegan later decided × (decided ≡ FullSync → ⊥)) → OpeningBelow later k older block
opening-below h later k older block p within few content unmarked items began = record {
  content = ap (λ (m : BlockMap). m block) p.map ∙ (content ∙ sym (left-same h later p older block few));
  unmarked = subst (λ (m : ℕ → Bool). (nat_lt block later.settings.blocks && m block) ≡ false) (sym p.marks)
      (subst (λ (s : Settings). (nat_lt block s.blocks && h.opening_marks block) ≡ false) (sym p.settings) unmarked);
  items = λ other next c i less at there touched. items other next c i less (p.back other c (omega arith) at) there touched
      ∙ sym (left-same h later p older block few);
  began = began;
}

-- and so does why the peer held it
pub below-passes : (h later : PrimaryHistory) (k older block : ℕ) → Passes h later → k < length h.connections → older ≤ length h.writes
    → WasBelow h k older block → WasBelow later k older block
below-passes h later k older block p within few (inl b) = inl (record {
  connection = b.connection;
  place = b.place;
  end = b.end;
  item = b.item;
  less = b.less;
  at = p.front b.connection b.end (let l = b.less in omega arith) b.at;
  there = b.there;
  touched = b.touched;
  sure = b.sure;
  content = b.content ∙ sym (left-same h later p older block few);
  later = λ other next c i less at there touched after. b.later other next c i less (p.back other c (omega arith) at) there touched after
      ∙ sym (left-same h later p older block few);
})
below-passes h later k older block p within few (inr b) =
    inr (opening-below h later k older block p within few b.content b.unmarked b.items (b.began.0, p.first b.began.0 b.began.1, b.began.2))

-- what the peer has said stays said
acknowledged-grows : (c d : PrimaryConnection) (block : ℕ) → Grows c d → IsAcknowledged c block → IsAcknowledged d block
acknowledged-grows c d block g t = record {
  place = t.place;
  item = t.item;
  there = get-beginning c.stream d.stream t.place t.item g.stream t.there;
  touched = t.touched;
  sure = sure-grows c d t.place t.item g t.there t.sure;
}

-- what a block of a resync has stays as its stream grows
pub read-passes : (h later : PrimaryHistory) (k : ℕ) (c d : PrimaryConnection) (older place block : ℕ) (contents : List ℕ) → Passes h later
    → IsBeginning c.stream d.stream → place < length c.stream
    → ((n other : ℕ) (b : Accepted) → length h.writes ≤ n → slice_get later.writes n ≡ Some b → b.home ≡ Some (record { index = k; place = other })
    → length c.stream ≤ other)
    → IsRead h k c older place block contents → IsRead later k d older place block contents
read-passes h later k c d older place block contents p grows within added r = record {
  count = r.count;
  more = r.more;
  bound = let low = r.bound in let more = p.count in omega arith;
  content = left-same h later p r.count block r.bound ∙ r.content;
  before = λ n b from less at covered.
      let a = p.writes n b (let low = r.bound in omega arith) at in
      let was = r.before n a.0 from less a.1 (subst (λ (w : Write). covers w block ≡ true) a.2 covered) in
      let low = was.2 in
      let near = epoch-same c.stream d.stream was.0 grows (omega arith) in
      let far = epoch-same c.stream d.stream place grows (omega arith) in
      let early = was.3 in
      (was.0, a.3 ∙ was.1, low, (omega arith));
  after = λ n other b more at home. elim (cases_lt n (length h.writes)) [
    | inl old ↦ let a = p.writes n b old at in r.after n other a.0 more a.1 (sym a.3 ∙ home)
    | inr new ↦ let far = added n other b (omega arith) at home in omega arith
  ];
}

-- What becomes of a span's end: it grows, and so may its writes.
pub record Extends (h later : PrimaryHistory) (k : ℕ) (c d : PrimaryConnection) (newer upto : ℕ) : Type 0 where
  pub grows : Grows c d
  pub unshut : d.closed ≡ false → c.closed ≡ false
  pub earlier : (j : ℕ) (e : PrimaryConnection) → j < k → slice_get h.connections j ≡ Some e → slice_get later.connections j ≡ Some e
  pub rising : newer ≤ upto
  pub bound : upto ≤ length later.writes
  pub still : d.closed ≡ false → upto ≡ length later.writes
  pub own : (n : ℕ) (b : Accepted) → newer ≤ n → n < upto → slice_get later.writes n ≡ Some b → (place : ℕ)
      × (b.home ≡ Some (record { index = k; place = place }))
  pub past : (n place : ℕ) (b : Accepted) → upto ≤ n → slice_get later.writes n ≡ Some b → b.home ≡ Some (record { index = k; place = place }) → ⊥
  pub behind : (n other : ℕ) (b : Accepted) → length h.writes ≤ n → slice_get later.writes n ≡ Some b → b.home ≡ Some (record { index = k; place = other })
      → length c.stream ≤ other

-- A span stays as its end goes on, where new blocks of a resync are what they are to be, and no mark goes away without a word of
-- the peer, nor a resync ends with one.
pub span-passes : (h later : PrimaryHistory) (k : ℕ) (c d : PrimaryConnection) (older newer upto : ℕ) → Passes h later → slice_get h.connections k ≡ Some c
    → Extends h later k c d newer upto
    → (NoneFailed later → d.closed ≡ false → (block : ℕ) → block < h.settings.blocks → later.marks block ≡ false
    → (h.marks block ≡ false) ⊎ IsAcknowledged d block)
    → (NoneFailed later → (place block : ℕ) (contents : List ℕ) → slice_get d.stream place ≡ Some (ResyncItem block contents)
    → (slice_get c.stream place ≡ Some (ResyncItem block contents)) ⊎ IsRead later k d older place block contents)
    → ((n : ℕ) (tuple : Tuple) → slice_get d.stream n ≡ Some (UuidsItem tuple)
    → (slice_get c.stream n ≡ Some (UuidsItem tuple)) ⊎ ((c.closed ≡ false) × ((block : ℕ) → block < h.settings.blocks → h.marks block ≡ false)))
    → IsSpan h k c older newer → IsSpan later k d older upto
span-passes h later k c d older newer upto p at e unmarks reads ends s =
    let within = slice_get_within h.connections k c at in
    let few : older ≤ length h.writes = let low = s.rising in let high = s.bound in omega arith in
    let carried : (block : ℕ) → IsAcknowledged c block ⊎ WasBelow h k older block
    → IsAcknowledged d block ⊎ WasBelow later k older block = λ block either. elim either [
      | inl returned ↦ inl (acknowledged-grows c d block e.grows returned)
      | inr below ↦ inr (below-passes h later k older block p within few below)
    ] in
    record {
      rising = let low = s.rising in let more = e.rising in omega arith;
      bound = e.bound;
      still = e.still;
      low = λ n place b less here home. let a = p.writes n b (omega arith) here in s.low n place a.0 less a.1 (sym a.3 ∙ home);
      own = λ n b from less here. elim (cases_lt n newer) [
        | inl old ↦ let a = p.writes n b (let high = s.bound in omega arith) here in let was = s.own n a.0 from old a.1 in (was.0, a.3 ∙ was.1)
        | inr new ↦ e.own n b (omega arith) less here
      ];
      past = e.past;
      reads = λ fine place block contents there. elim (reads fine place block contents there) [
        | inr new ↦ new
        | inl old ↦ read-passes h later k c d older place block contents p e.grows.stream (slice_get_within c.stream place (ResyncItem block contents) old)
            e.behind (s.reads (p.fine fine) place block contents old)
      ];
      first = λ none bitmap. s.first (λ j x less there. none j x less (e.earlier j x less there)) (sym (ap (λ (t : Tuple). t.bitmap) p.tuple) ∙ bitmap);
      clean = λ fine unshut block inside unmarked.
          let here : block < h.settings.blocks = subst (λ (x : Settings). block < x.blocks) p.settings inside in
          elim (unmarks fine unshut block here unmarked) [
            | inl was ↦ carried block (s.clean (p.fine fine) (e.unshut unshut) block here was)
            | inr returned ↦ inl
                returned
          ];
      synced = λ fine n tuple there block inside.
          let here : block < h.settings.blocks = subst (λ (x : Settings). block < x.blocks) p.settings inside in
          elim (ends n tuple there) [
            | inl old ↦ carried block (s.synced (p.fine fine) n tuple old block here)
            | inr over ↦ carried block
                (s.clean (p.fine fine) over.0 block here (over.1 block here))
          ];
    }
