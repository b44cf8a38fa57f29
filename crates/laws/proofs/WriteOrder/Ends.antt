-- The two ends of joined nodes: whose hello the primary took, what a connection opened on, and the set behind a connection
-- after which the secondary took nothing.
use Rattle.std.proofs.Common.{ℕ, zero, suc, ◌≡◌, ◌-◌, ◌<◌, ◌⊎◌, inl, inr, true, false, nat_lt, List, [], ◌∷◌, length, take, Option, Some}
use Rattle.std.proofs.Common.{slice_get, Ok, refl, ◌∙◌, ap, subst, arith}
use Rattle.std.proofs.lemmas.Bool.{cases_lt, both_ways, lt-ltb, ltb-true, false_from_ne_true}
use Rattle.std.proofs.lemmas.Option.{slice_get_within}
use Rattle.blocks.specs.declared.tuple.Tuple.{Tuple}
use Rattle.model.specs.Stream.{StreamItem, ResyncItem, IsBeginning, is_in, first_of}
use Rattle.model.specs.Frames.{UuidsFrame}
use Rattle.model.specs.Primary.{Accepted, PrimaryConnection, PrimaryHistory, is_failed}
use Rattle.model.specs.Secondary.{SecondaryConnection, SecondaryHistory, no_secondary_connection, secondary_connection, items_taken, map_of, answers_due, whole}
use Rattle.model.specs.LocalRuns.{PrimaryEvent, primary_run, SecondaryEvent, secondary_run}
use Rattle.model.specs.Headline.{IsJoined, HoldsEarlierEpochs, pushed_back_by}
use Rattle.model.specs.Theorems.{Opening, primary_at, secondary_at}
use Rattle.model.specs.WriteOrder.{base_of, IsUnharmed}
use Rattle.laws.specs.Reflections.{touches, content_at}
use Rattle.laws.proofs.Lists.Beginnings.{begins-take, get-beginning}
use Rattle.laws.proofs.Lists.Elements.{same-at, get-there}
use Rattle.laws.proofs.Lists.Last.{last-at}
use Rattle.laws.proofs.Lists.Picks.{pick-none}
use Rattle.laws.proofs.Rules.Usage.{whole-none}
use Rattle.laws.proofs.Joining.Agreeing.{reaches-disk}
use Rattle.laws.proofs.Joining.Ends.{AreEnds, joined-back, primary-end, secondary-end, item-taken}
use Rattle.laws.proofs.Joining.OpeningDisks.{named}
use Rattle.laws.proofs.Joining.Promises.{read-back}
use Rattle.laws.proofs.Joining.SureApplied.{taken-begins}
use Rattle.laws.proofs.Secondary.Applied.{map-keeps}
use Rattle.laws.proofs.Secondary.Numbers.{NumbersRise, numbers-rise}
use Rattle.laws.proofs.Secondary.TrueBarriers.{due_is_no_tuple}
use Rattle.laws.proofs.WriteOrder.Layers.{writes_over}
use Rattle.laws.proofs.WriteOrder.Sets.{IsBehind}
use Rattle.laws.proofs.WriteOrder.Spans.{NoneFailed, IsSpan}

-- a list of no length is empty
pub none-in : {X : Type 0} (xs : List X) → nat_lt 0 (length xs) ≡ false → xs ≡ []
none-in [] none = refl
none-in (x ∷ xs) none = absurd (both_ways (nat_lt 0 (suc (length xs))) none (lt-ltb 0 (suc (length xs)) (omega arith)))

-- one of some length has a first element
pub first-in : {X : Type 0} (xs : List X) → nat_lt 0 (length xs) ≡ true → (x : X) × (slice_get xs 0 ≡ Some x)
first-in [] some = absurd (both_ways (nat_lt 0 0) (false_from_ne_true (nat_lt 0 0) (λ is. let less = ltb-true 0 0 is in omega arith)) some)
first-in (x ∷ xs) some = (x, refl)

-- every item taken on a connection that touches the block has this there
abbrev pub BringsOnly : ℕ → Option (List ℕ) → SecondaryConnection → Type 0
BringsOnly block v d = (n : ℕ) (i : StreamItem) → slice_get (items_taken d) n ≡ Some i → touches i block ≡ true → content_at i block ≡ v

-- an end that took no item brings nothing
pub brings-nothing : (block : ℕ) (v : Option (List ℕ)) (d : SecondaryConnection) → items_taken d ≡ [] → BringsOnly block v d
brings-nothing block v d none n i at touched =
    absurd (let there : slice_get [] n ≡ Some i = subst (λ (l : List StreamItem). slice_get l n ≡ Some i) none at in cc (there))

-- A connection opened on what the opening disk had, where those before it brought nothing else.
pub base-from-opening : (s : SecondaryHistory) → HoldsEarlierEpochs s → (block : ℕ) (v : Option (List ℕ)) → s.opening_map block ≡ v
    → (j : ℕ) (d : SecondaryConnection)
    → slice_get s.connections j ≡ Some d
    → ((m : ℕ) (e : SecondaryConnection) → m < j → slice_get s.connections m ≡ Some e → BringsOnly block v e) → d.base block ≡ v
base-from-opening s epochs block v was zero d at only = epochs.begins block d at ∙ was
base-from-opening s epochs block v was (suc j) d at only =
    let within = slice_get_within s.connections (suc j) d at in
    let before = get-there s.connections j (omega arith) in
    epochs.goes_on j block before.0 d before.1 at
    ∙ map-keeps before.0 block v (base-from-opening s epochs block v was j before.0 before.1 (λ m e less there. only m e (omega arith) there))
    (only j before.0 (omega arith) before.1)

-- Or on what an earlier connection left.
pub base-from-end : (s : SecondaryHistory) → HoldsEarlierEpochs s → (block : ℕ) (v : Option (List ℕ)) (i : ℕ) (e : SecondaryConnection)
    → slice_get s.connections i ≡ Some e
    → map_of e block ≡ v → (j : ℕ) (d : SecondaryConnection) → i < j → slice_get s.connections j ≡ Some d
    → ((m : ℕ) (f : SecondaryConnection) → i < m → m < j → slice_get s.connections m ≡ Some f → BringsOnly block v f) → d.base block ≡ v
base-from-end s epochs block v i e there held zero d less at only = absurd (omega arith)
base-from-end s epochs block v i e there held (suc j) d less at only =
    let within = slice_get_within s.connections (suc j) d at in
    let before = get-there s.connections j (omega arith) in
    epochs.goes_on j block before.0 d before.1 at ∙ elim (cases_lt i j) [
      | inl early ↦ map-keeps before.0 block v
          (base-from-end s epochs block v i e there held j before.0 early before.1 (λ m f low high at_too. only m f low (omega arith) at_too))
          (only j before.0 early (omega arith) before.1)
      | inr late ↦
          let index : i ≡ j = omega arith in
          let same : e ≡ before.0 = same-at s.connections j e before.0 (subst (λ (n : ℕ). slice_get s.connections n ≡ Some e) index there) before.1 in
          subst (λ (x : SecondaryConnection). map_of x block ≡ v) same held
    ]

module _ (o : Opening) (here : List PrimaryEvent) (there : List SecondaryEvent)
    (joined : IsJoined (primary_run here (primary_at o)) (secondary_run there (secondary_at o))) where
  abbrev p : PrimaryHistory
  p = primary_run here (primary_at o)

  abbrev s : SecondaryHistory
  s = secondary_run there (secondary_at o)

  pub rises : NumbersRise (secondary_run there (secondary_at o)).connections
  rises = numbers-rise there (secondary_at o) refl

  -- a tuple that the primary took is that of the peer's hello
  pub peer-hello : (k n : ℕ) (c : PrimaryConnection) (peer : Tuple) → slice_get p.connections k ≡ Some c → slice_get c.taken n ≡ Some (Ok (UuidsFrame peer))
      → (j : ℕ) × (d : SecondaryConnection) × AreEnds p s k j c d × (peer ≡ d.hello)
  peer-hello k n c peer at taken =
      let end = secondary-end p s joined k n c (Ok (UuidsFrame peer)) at taken in
      let d : SecondaryConnection = end.1 in
      let pushed = get-beginning c.taken (pushed_back_by s d) n (Ok (UuidsFrame peer)) (joined-back p s rises joined k end.0 c d end.2) taken in
      let owed = get-beginning (take d.pushed (answers_due s.settings d)) (answers_due s.settings d) n (UuidsFrame peer)
      (begins-take d.pushed (answers_due s.settings d)) (read-back (take d.pushed (answers_due s.settings d)) n (UuidsFrame peer) pushed) in (
        end.0,
        d,
        end.2,
        named s.settings d n peer owed
            (λ m due. due_is_no_tuple o.peer_settings o.peer o.peer_tuple there end.0 m d peer end.2.secondary_connection due),
      )

  -- an item that was taken came on a connection of the primary, whose stream goes on from there
  pub primary-connection-of : (j n : ℕ) (d : SecondaryConnection) (i : StreamItem) → slice_get s.connections j ≡ Some d → slice_get (items_taken d) n ≡ Some i
      → (k : ℕ) × (c : PrimaryConnection) × AreEnds p s k j c d × IsBeginning (items_taken d) c.stream
  primary-connection-of j n d i at taken =
      let frame = item-taken d n i taken in
      let end = primary-end p s rises joined j frame.0 d frame.1 at frame.2 in
      (end.0, end.1, end.2, taken-begins p s rises joined end.0 j end.1 d end.2)

  -- Where the secondary took nothing after a connection, all is behind that one.
  pub behind-of : (k j older newer : ℕ) (c : PrimaryConnection) (d : SecondaryConnection) → AreEnds p s k j c d → IsBeginning (items_taken d) c.stream
      → HoldsEarlierEpochs s
      → NoneFailed p → IsSpan p k c older newer
      → ((m : ℕ) (e : SecondaryConnection) → j < m → slice_get s.connections m ≡ Some e → items_taken e ≡ [])
      → ((place block : ℕ) (contents : List ℕ) → slice_get (items_taken d) place ≡ Some (ResyncItem block contents) → base_of p s block ≡ p.opening_map block)
      → ((block : ℕ) → ((n : ℕ) (i : StreamItem) → slice_get (items_taken d) n ≡ Some i → touches i block ≡ true
      → is_in d.applied n (block - first_of i) ≡ false)
      → d.base block ≡ writes_over (base_of p s) older p.writes block)
      → IsBehind p s
  behind-of k j older newer c d ends taken epochs fine span later opening base = record {
    index = k;
    other = j;
    end = c;
    inner = d;
    ends = ends;
    taken = taken;
    older = older;
    low = span.low;
    own = λ n i place a b from less ata atb home. elim (cases_lt i newer) [
      | inl within ↦ span.own n a from (omega arith) ata
      | inr past ↦ absurd (span.past i place b (omega arith) atb home)
    ];
    reads = λ place block contents at. span.reads fine place block contents (get-beginning (items_taken d) c.stream place (ResyncItem block contents) taken at);
    opening = opening;
    disk = λ block. reaches-disk s epochs block (map_of d block) j d ends.secondary_connection refl
        (λ m e less at. brings-nothing block (map_of d block) e (later m e less at));
    newest = newest;
    base = base;
  }
    where
      within : j < length s.connections
      within = slice_get_within s.connections j d ends.secondary_connection

      newest : (secondary_connection s ≡ d) ⊎ (whole s ≡ 0)
      newest = elim (last-at (no_secondary_connection s) s.connections) [
        | inl none ↦ absurd (let size : length s.connections ≡ 0 = ap length none in let w = within in omega arith)
        | inr last ↦ elim (cases_lt j (length s.connections - 1)) [
          | inl early ↦ inr (whole-none s (later (length s.connections - 1) (secondary_connection s) early last))
          | inr late ↦ inl (
              let w = within in
              let index : length s.connections - 1 ≡ j = omega arith in
              same-at s.connections j (secondary_connection s) d (subst (λ (n : ℕ). slice_get s.connections n ≡ Some (secondary_connection s)) index last)
              ends.secondary_connection)
        ]
      ]

  -- no write failed
  pub none-failed : IsUnharmed p s → NoneFailed p
  none-failed unharmed = (λ n a at. pick-none (λ (x : Accepted). is_failed x.outcome) p.writes n a unharmed.local at, unharmed.faithful)
