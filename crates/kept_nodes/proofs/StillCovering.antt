-- An extent that leaves the metadata: what covered a primary covers it still.
use Rattle.std.proofs.Common.{ℕ, ◌≡◌, ◌≤◌, ◌<◌, ◌≢◌, inl, inr, Bool, true, false, List, length, Option, Some, Result, Ok, Err, refl, sym, ◌∙◌, ap, subst, arith}
use Rattle.std.specs.Prelude.{IfOk, IsTrue, OnErr, OnOk}
use Rattle.std.proofs.lemmas.Bool.{both_ways, cases_eq}
use Rattle.kept_nodes.specs.Asked.{MarksStand}
use Rattle.kept_nodes.specs.Kept.{PrimaryIsKept}
use Rattle.kept_nodes.specs.Leaving.{HasCovered, StillCovers}
use Rattle.kept_nodes.specs.Left.{LosesNothing, Outcomes}
use Rattle.kept_nodes.proofs.Covering.{covers-on}
use Rattle.kept_nodes.proofs.Losing.{comes, inside}
use Rattle.kept_nodes.proofs.Turning.{whole-before}
use Rattle.metadata.specs.Calls.{Leaves}
use Rattle.metadata.specs.Says.{extents_of}
use Rattle.metadata.specs.State.{MetadataState, WithoutEntry, is_entered}
use Rattle.metadata.specs.Steps.{OnlyEntry}
use Rattle.metadata.specs.declared.header.Header.{Header}
use Rattle.metadata.specs.declared.identifiers.Identifiers.{Identifiers}
use Rattle.model.specs.Contents.{extent_of}
use Rattle.model.specs.Theorems.{Opening}
use Rattle.primary.specs.State.{PrimaryView}

-- what follows from the fact of what a call returned
pub if-ok-both : {T E : Type 0} {P Q : T → Type 0} (r : Result T E) → IfOk r P → ((t : T) → P t → Q t) → IfOk r Q
if-ok-both (Ok t) p q = q t p
if-ok-both (Err e) p q = tt

module _ {F : Type 0} (seen : F → List ℕ) (may_leave : F → List ℕ → Type 0) (faithful : F → Bool) where
  -- nothing is lost
  pub still-covers : (v : PrimaryView) (old new : MetadataState F) → LosesNothing seen may_leave faithful old new → StillCovers seen may_leave faithful v old new
  still-covers v old new lost = λ owes h has was. covers-on seen may_leave faithful old new owes owes h h lost refl (λ no block within covered. inl (no, covered))
      (λ owed. lost.broken (was.owes owed)) was

  -- one call after another
  pub still-both : (v : PrimaryView) (old mid new : MetadataState F) → StillCovers seen may_leave faithful v old mid → StillCovers seen may_leave faithful v mid new
      → StillCovers seen may_leave faithful v old new
  still-both v old mid new one two = λ owes h has was. two owes h has (one owes h has was)

  -- The metadata of a kept primary goes on so.
  pub kept-left : (opening : Option Opening) (v : PrimaryView) (old new : MetadataState F) (owes : Bool)
      → PrimaryIsKept seen may_leave faithful opening v (Some old) owes → StillCovers seen may_leave faithful v old new → new.identifiers ≡ old.identifiers
      → (old.is_broken ≡ true → new.is_broken ≡ true) → PrimaryIsKept seen may_leave faithful opening v (Some new) owes
  kept-left opening v old new owes had still same stays = record {
    history = had.history;
    has = had.has;
    began = had.began;
    says = record {
      covers = still owes had.history had.has.has had.says.covers;
      saved = λ whole. ap (λ (x : Identifiers). x.tuple) same ∙ had.says.saved (whole-before old.is_broken new.is_broken stays whole);
    };
    alone = λ none. absurd (cc);
  }

  abbrev Still : MetadataState F → Type 0
  Still m = IsTrue (faithful m.file)

  module _ (moment : F → ℕ) (left_since : F → ℕ → List ℕ → Type 0)
      (counts_now : (file : F) (t : ℕ) (c : List ℕ) → t ≤ moment file → may_leave file c → left_since file t c) where
    -- An extent is taken out, or the call failed.
    without-covers : (extent : ℕ) (v : PrimaryView) (old new : MetadataState F) → old.is_broken ≡ false → length old.entries ≡ extents_of old.header.blocks
        → length old.entries ≤ 2097152 → new.header ≡ old.header → (Still new → Still old) → WithoutEntry extent old.entries new.entries
        → (new.is_broken ≡ false → Still new → OnlyEntry extent (seen old.file) (seen new.file))
        → (Still new → Leaves moment left_since may_leave (OnlyEntry extent) old.file new.file) → (Still new → MarksStand seen may_leave old)
        → (Still new → HasCovered v extent (seen old.file)) → StillCovers seen may_leave faithful v old new
    without-covers extent v old new whole sized few header falls entry says run stand marked = λ owes h has was. record {
      blocks = ap (λ (x : Header). x.blocks) header ∙ was.blocks;
      covered = λ still none block within covered. elim (cases_eq (extent_of block) extent) [
        | inl here ↦ inr (λ c left.
            let from = step still c left in
            from.2.marks block ∙ (stand still from.0 from.1 block ∙ marked still h has block here covered))
        | inr other ↦ elim (was.covered (falls still) none block within covered) [
          | inl entered ↦ inl (λ c left.
              let from = step still c left in
              let there = inside (length old.entries) old.header.blocks block sized (subst (λ n. block < n) (sym was.blocks) within) in
              from.2.others (extent_of block) (omega (arith, there, few)) other ∙ entered from.0 from.1)
          | inr is ↦ inr (λ c left. let from = step still c left in from.2.marks block ∙ is from.0 from.1)
        ]
      ];
      entries = λ still x within is c left.
          let from = step still c left in
          let other : x ≢ extent = λ same. both_ways (is_entered new.entries extent) entry.here (subst (λ n. is_entered new.entries n ≡ true) same is) in
          let there : x < length old.entries = subst (λ n. x < n) entry.size within in
          from.2.others x (omega (arith, there, few)) other ∙ was.entries (falls still) x there (sym (entry.others x other) ∙ is) from.0 from.1;
      owes = λ owed. absurd (both_ways old.is_broken whole (was.owes owed));
    }
      where
        step : Still new → (c : List ℕ) → Outcomes seen may_leave new c → (d : List ℕ) × Outcomes seen may_leave old d × OnlyEntry extent d c
        step still = comes seen may_leave faithful moment left_since counts_now (OnlyEntry extent) (OnlyEntry extent) old new whole (λ d c step. step)
            (λ fine. says fine still) (run still)

    -- the call, by what it returned
    pub leave-covers : {E : Type 0} (r : Result (Unit {0}) E) (extent : ℕ) (v : PrimaryView) (old new : MetadataState F) → old.is_broken ≡ false
        → length old.entries ≡ extents_of old.header.blocks → length old.entries ≤ 2097152
        → OnErr r ((old.is_broken ≡ true → ⊥) → new ≡ record old { file = new.file; entries = new.entries; is_broken = true })
        → OnOk r (new ≡ record old { file = new.file; entries = new.entries }) → (Still new → Still old) → WithoutEntry extent old.entries new.entries
        → OnOk r (Still new → OnlyEntry extent (seen old.file) (seen new.file))
        → (Still new → Leaves moment left_since may_leave (OnlyEntry extent) old.file new.file) → (Still new → MarksStand seen may_leave old)
        → (Still new → HasCovered v extent (seen old.file)) → StillCovers seen may_leave faithful v old new
    leave-covers (Ok t) extent v old new whole sized few breaks memory falls entry says run stand marked =
        without-covers extent v old new whole sized few (ap (λ (m : MetadataState F). m.header) memory) falls entry (λ fine still. says still) run stand marked
    leave-covers (Err e) extent v old new whole sized few breaks memory falls entry says run stand marked =
        let is = breaks (both_ways old.is_broken whole) in
        without-covers extent v old new whole sized few (ap (λ (m : MetadataState F). m.header) is) falls entry
        (λ fine still. absurd (both_ways new.is_broken fine (ap (λ (m : MetadataState F). m.is_broken) is))) run stand marked
