-- The two ends of joined nodes, and the opening disks: they agree on a block that stands as it did at the opening and was
-- not marked there.
use Rattle.std.proofs.Common.{ℕ, zero, suc, ◌≡◌, ◌<◌, ◌⊎◌, inl, inr, Bool, true, false, ◌&&◌, List, [], ◌∷◌, take, Option, Some, None, slice_get, Ok, refl, sym}
use Rattle.std.proofs.Common.{◌∙◌, ap, subst, arith, nat_lt}
use Rattle.std.specs.Prelude.{is_some}
use Rattle.std.specs.List.{list_any}
use Rattle.std.proofs.lemmas.Bool.{cases_Bool, both_ways, or_from, ltb-true, lt-ltb, cases_lt, and_right}
use Rattle.blocks.specs.declared.settings.Settings.{Settings}
use Rattle.blocks.specs.declared.tuple.Tuple.{Tuple}
use Rattle.blocks.specs.declared.outcome.Decision.{Decision}
use Rattle.blocks.specs.declared.outcome.Decision.TheVariants.{FullSync}
use Rattle.model.specs.Contents.{BlockMap}
use Rattle.model.specs.Frames.{UuidsFrame, SizesFrame}
use Rattle.model.specs.Identifiers.{decision}
use Rattle.model.specs.Primary.{PrimaryConnection, PrimaryHistory}
use Rattle.model.specs.Secondary.{SecondaryConnection, SecondaryHistory, items_taken, answers_due}
use Rattle.model.specs.Pair.{same_block}
use Rattle.model.specs.LocalRuns.{PrimaryEvent, primary_run, SecondaryEvent, secondary_run}
use Rattle.model.specs.Headline.{IsJoined, IsGrounded, Cover, opening_marked, pushed_back_by}
use Rattle.model.specs.Theorems.{Opening, IsSoundOpening, primary_at, secondary_at, marks_at}
use Rattle.laws.proofs.Rules.Decisions.{decided-by}
use Rattle.laws.specs.Reflections.{FromOpening, FirstBegan, NoneBegan}
use Rattle.laws.proofs.Lists.Beginnings.{begins-take, get-beginning}
use Rattle.laws.proofs.Primary.Homes.{HasHomes}
use Rattle.laws.proofs.Primary.HomesMoves.{homes-kept, homes-released, homes-opening}
use Rattle.laws.proofs.Primary.Moves.{keeps-run}
use Rattle.laws.proofs.Joining.Promises.{read-back}
use Rattle.laws.proofs.Joining.Openings.{HasOpening, HasOpeningToo, kept-opening-primary, kept-opening-secondary}
use Rattle.laws.proofs.Blocks.SameBlocks.{same-equal}
use Rattle.laws.proofs.Secondary.Tuples.{secondary_hello}
use Rattle.laws.proofs.Joining.SureApplied.{taken-begins}
use Rattle.laws.proofs.Secondary.TrueBarriers.{due_is_no_tuple}
use Rattle.laws.proofs.Lists.Elements.{append-empty}
use Rattle.laws.proofs.Joining.Ends.{AreEnds, joined-back, primary-end, secondary-end, item-taken}
use Rattle.laws.proofs.Secondary.Numbers.{NumbersRise, numbers-rise}
use Rattle.model.specs.Stream.{StreamItem}
use Rattle.laws.proofs.Primary.Met.{HasMet, primary-met}
use Rattle.laws.proofs.Lists.Each.{each-get}

-- a tuple among the frames that a secondary owes is that of its hello, if none was due
pub named : (settings : Settings) (d : SecondaryConnection) (n : ℕ) (t : Tuple) → slice_get (answers_due settings d) n ≡ Some (UuidsFrame t)
    → ((m : ℕ) → slice_get d.due m ≡ Some (UuidsFrame t) → ⊥) → t ≡ d.hello
named settings d zero t at none = absurd (cc)
named settings d (suc zero) t at none = absurd (cc)
named settings d (suc (suc zero)) t at none = let same : UuidsFrame d.hello ≡ UuidsFrame t = cc in cc
named settings d (suc (suc (suc n))) t at none = absurd (none n at)

-- The first stream that began was decided on the peer's opening tuple.
pub first-peer : (o : Opening) (here : List PrimaryEvent) (there : List SecondaryEvent) (decided : Decision)
    → IsJoined (primary_run here (primary_at o)) (secondary_run there (secondary_at o))
    → (first : FirstBegan (primary_run here (primary_at o)) decided) → first.peer ≡ o.peer_tuple
first-peer o here there decided joined first =
    let p : PrimaryHistory = primary_run here (primary_at o) in
    let s : SecondaryHistory = secondary_run there (secondary_at o) in
    let homes : HasHomes p = keeps-run HasHomes HasHomes homes-kept homes-released here (primary_at o) (homes-opening o.settings o.local o.own o.marks) in
    let rise = numbers-rise there (secondary_at o) refl in
    let end = secondary-end p s joined first.connection first.n first.end (Ok (UuidsFrame first.peer)) first.at first.taken in
    let d : SecondaryConnection = end.1 in
    let back = joined-back p s rise joined first.connection end.0 first.end d end.2 in
    let pushed = get-beginning first.end.taken (pushed_back_by s d) first.n (Ok (UuidsFrame first.peer)) back first.taken in
    let owed = get-beginning (take d.pushed (answers_due s.settings d)) (answers_due s.settings d) first.n (UuidsFrame first.peer)
    (begins-take d.pushed (answers_due s.settings d)) (read-back (take d.pushed (answers_due s.settings d)) first.n (UuidsFrame first.peer) pushed) in
    let hello : first.peer ≡ d.hello = named s.settings d first.n first.peer owed
    (λ m at. due_is_no_tuple o.peer_settings o.peer o.peer_tuple there end.0 m d first.peer end.2.secondary_connection at) in
    hello ∙ secondary_hello o.peer_settings o.peer o.peer_tuple there end.0 d end.2.secondary_connection
    (λ j e less at. nothing-before p s rise joined first end.0 d end.2 homes j e less at (items_taken e) refl)
  where
    -- what the secondary took before the first stream began is nothing
    nothing-before : (p : PrimaryHistory) (s : SecondaryHistory) → NumbersRise s.connections → IsJoined p s → (first : FirstBegan p decided)
        → (i : ℕ) (d : SecondaryConnection) → AreEnds p s first.connection i first.end d → HasHomes p
        → (j : ℕ) (e : SecondaryConnection) → j < i → slice_get s.connections j ≡ Some e → (items : List StreamItem) → items_taken e ≡ items
        → items_taken e ≡ []
    nothing-before p s rise joined first i d ends homes j e less at [] is = is
    nothing-before p s rise joined first i d ends homes j e less at (item ∷ items) is = absurd (
        let some : slice_get (items_taken e) 0 ≡ Some item = ap (λ (l : List StreamItem). slice_get l 0) is in
        let frame = item-taken e 0 item some in
        let other = primary-end p s rise joined j frame.0 e frame.1 at frame.2 in
        let low = rise.rise j i e d less at ends.secondary_connection in
        let one = other.2.number in
        let two = ends.number in
        let none : other.1.stream ≡ [] = homes.empty other.0 other.1 other.2.primary_connection
        (first.earlier other.0 other.1 (omega arith) other.2.primary_connection) in
        let begins = taken-begins p s rise joined other.0 j other.1 e other.2 in
        let empty = append-empty (items_taken e) begins.0 (begins.1 ∙ none) in
        cc (empty, is))

-- where no connection has begun, none is found
none-begun : (cs : List PrimaryConnection) → ((k : ℕ) (c : PrimaryConnection) → slice_get cs k ≡ Some c → c.begun ≡ false)
    → list_any (λ (c : PrimaryConnection). c.begun) cs ≡ false
none-begun [] none = refl
none-begun (c ∷ cs) none = or_from c.begun (list_any (λ (x : PrimaryConnection). x.begun) cs) (none 0 c refl) (none-begun cs (λ k x at. none (suc k) x at))

-- a block that some marks cover, and that is not marked, is the same on both disks
covered-same : (marks : ℕ → Bool) (local peer : BlockMap) (block : ℕ) → Cover marks local peer → marks block ≡ false → local block ≡ peer block
covered-same marks local peer block cover unmarked = elim (cases_Bool (same_block (local block) (peer block))) [
  | inl same ↦ same-equal (local block) (peer block) same
  | inr differ ↦ absurd (both_ways (marks block) unmarked (cover block differ))
]

-- past the end of both disks
none-there : (v : Option (List ℕ)) → is_some v ≡ false → v ≡ None
none-there None h = refl
none-there (Some x) h = absurd (cc)

-- Where a stream began, both devices are of one size.
sizes-agree : (o : Opening) (here : List PrimaryEvent) (there : List SecondaryEvent) (decided : Decision)
    → IsJoined (primary_run here (primary_at o)) (secondary_run there (secondary_at o))
    → FirstBegan (primary_run here (primary_at o)) decided → o.settings.blocks ≡ o.peer_settings.blocks
sizes-agree o here there decided joined first =
    let p : PrimaryHistory = primary_run here (primary_at o) in
    let s : SecondaryHistory = secondary_run there (secondary_at o) in
    let rise = numbers-rise there (secondary_at o) refl in
    let met = each-get (HasMet o.settings) p.connections first.connection first.end (primary-met o.settings o.local o.own o.marks here).ends first.at in
    let size = met.sized (inl first.begun) (met.late first.begun) in
    let end = secondary-end p s joined first.connection 1 first.end (Ok (SizesFrame o.settings.blocks)) first.at size in
    let d : SecondaryConnection = end.1 in
    let pushed = get-beginning first.end.taken (pushed_back_by s d) 1 (Ok (SizesFrame o.settings.blocks))
    (joined-back p s rise joined first.connection end.0 first.end d end.2) size in
    let owed : slice_get (answers_due s.settings d) 1 ≡ Some (SizesFrame o.settings.blocks) =
    get-beginning (take d.pushed (answers_due s.settings d)) (answers_due s.settings d) 1 (SizesFrame o.settings.blocks)
    (begins-take d.pushed (answers_due s.settings d)) (read-back (take d.pushed (answers_due s.settings d)) 1 (SizesFrame o.settings.blocks) pushed) in
    let frame : SizesFrame s.settings.blocks ≡ SizesFrame o.settings.blocks = cc in
    let same : s.settings.blocks ≡ o.settings.blocks = cc in
    sym same ∙ ap (λ (x : Settings). x.blocks) (kept-opening-secondary o there).settings

-- The opening disks agree on a block that was not marked at the opening, where the first stream that began did not mark all.
pub unmarked-agree : (o : Opening) (here : List PrimaryEvent) (there : List SecondaryEvent) → IsSoundOpening o
    → IsJoined (primary_run here (primary_at o)) (secondary_run there (secondary_at o))
    → IsGrounded (primary_run here (primary_at o)) (secondary_run there (secondary_at o)) → (block : ℕ)
    → opening_marked (primary_run here (primary_at o)) block ≡ false
    → NoneBegan (primary_run here (primary_at o))
    ⊎ ((decided : Decision) × FirstBegan (primary_run here (primary_at o)) decided × (block < (primary_run here (primary_at o)).settings.blocks
    → decided ≡ FullSync → ⊥)) → o.local block ≡ o.peer block
unmarked-agree o here there sound joined grounded block clean began =
    let p : PrimaryHistory = primary_run here (primary_at o) in
    let s : SecondaryHistory = secondary_run there (secondary_at o) in
    let mine : HasOpening o p = kept-opening-primary o here in
    let theirs : HasOpeningToo o s = kept-opening-secondary o there in
    elim (cases_lt block o.settings.blocks) [
      | inr past ↦
          let out : nat_lt block o.settings.blocks ≡ false =
          elim (cases_Bool (nat_lt block o.settings.blocks))
          [ inr outside ↦ outside | inl inside ↦ absurd (let less = ltb-true block o.settings.blocks inside in omega arith) ] in
          elim grounded.1 [
            | inr cover ↦ ap (λ (m : BlockMap). m block) (sym mine.disk)
                ∙ (covered-same (opening_marked p) p.opening_map s.opening_map block cover clean ∙ ap (λ (m : BlockMap). m block) theirs.disk)
            | inl begun ↦ elim began [
              | inl none ↦ absurd (both_ways (list_any (λ (c : PrimaryConnection). c.begun) p.connections) (none-begun p.connections none.none) begun)
              | inr first ↦
                  let size = sizes-agree o here there first.0 joined first.1 in
                  none-there (o.local block) (sound.local block ∙ out)
                  ∙ sym (none-there (o.peer block) (sound.peer block ∙ subst (λ (n : ℕ). nat_lt block n ≡ false) size out))
            ]
          ]
      | inl inside ↦
          let within : nat_lt block p.settings.blocks ≡ true = ap (λ (x : Settings). nat_lt block x.blocks) mine.settings
          ∙ lt-ltb block o.settings.blocks inside in
          let less : block < p.settings.blocks = subst (λ (x : Settings). block < x.blocks) (sym mine.settings) inside in
          let bare : p.opening_marks block ≡ false = sym (ap (λ b. b && p.opening_marks block) within) ∙ clean in
          let unmarked : o.marks block ≡ false = ap (λ (m : ℕ → Bool). m block) (sym mine.marks) ∙ bare in
          let marked_not : marks_at o block ≡ false = and_right (nat_lt block o.settings.blocks) (o.marks block) unmarked in
          elim grounded.1 [
            | inr cover ↦ ap (λ (m : BlockMap). m block) (sym mine.disk)
                ∙ (covered-same (opening_marked p) p.opening_map s.opening_map block cover clean ∙ ap (λ (m : BlockMap). m block) theirs.disk)
            | inl begun ↦ elim began [
              | inl none ↦ absurd (both_ways (list_any (λ (c : PrimaryConnection). c.begun) p.connections) (none-begun p.connections none.none) begun)
              | inr first ↦
                  let peer : first.1.peer ≡ o.peer_tuple = first-peer o here there first.0 joined first.1 in
                  let decides : decision o.own o.peer_tuple ≡ Ok first.0 =
                  subst (λ (t : Tuple). decision o.own t ≡ Ok first.0) peer
                  (subst (λ (t : Tuple). decision t first.1.peer ≡ Ok first.0) mine.tuple first.1.decides) in
                  elim (decided-by o.own o.peer_tuple first.0 decides) [
                    | inl full ↦ absurd (first.2 less full)
                    | inr other ↦ elim other [
                      | inl same ↦ covered-same (marks_at o) o.local o.peer block (sound.identifiers.same_current same) marked_not
                      | inr bitmap ↦ covered-same (marks_at o) o.local o.peer block (sound.identifiers.from_bitmap bitmap.0 bitmap.1) marked_not
                    ]
                  ]
            ]
          ]
    ]

-- So they agree on one that stands as it did at the opening.
pub openings-agree : (o : Opening) (here : List PrimaryEvent) (there : List SecondaryEvent) → IsSoundOpening o
    → IsJoined (primary_run here (primary_at o)) (secondary_run there (secondary_at o))
    → IsGrounded (primary_run here (primary_at o)) (secondary_run there (secondary_at o)) → (block : ℕ) → FromOpening (primary_run here (primary_at o)) block
    → o.local block ≡ o.peer block
openings-agree o here there sound joined grounded block a = unmarked-agree o here there sound joined grounded block a.unmarked a.began
