-- The calls of a metadata file lose nothing that a stop would have found.
use Rattle.std.proofs.Common.{ℕ, ◌≡◌, ◌+◌, ◌-◌, ◌==◌, not, take, drop, get_or, ◌≤◌, ◌<◌, ◌⊎◌, inl, inr, Bool, true, false, List, length, Result, Ok, Err, refl}
use Rattle.std.proofs.Common.{sym, ◌∙◌, ap, subst, arith}
use Rattle.std.specs.Prelude.{IsOk, IsTrue, OnErr, OnOk, is_err, slice_index}
use Rattle.std.proofs.lemmas.Bool.{both_ways, cases_Bool, cases_eq, cases_lt}
use Rattle.std.proofs.lemmas.List.{get_or-drop, get_or-take}
use Rattle.bitmap.proofs.Lists.{count_in-none, marked-past}
use Rattle.bitmap.specs.Marks.{count_in, marked}
use Rattle.kept_nodes.specs.Asked.{MarksStand}
use Rattle.kept_nodes.specs.Left.{EntriesStand, LosesNothing, Outcomes}
use Rattle.metadata.specs.Calls.{Leaves, Only}
use Rattle.metadata.specs.Says.{entered_in, extents_of, marked_in}
use Rattle.metadata.specs.State.{MetadataState, Stands, WithEntry, is_entered}
use Rattle.metadata.specs.Steps.{MayEnter, MoreEntries, OnlyEntry, OnlyIdentifiers, SameMarks, Unchanged}
use Rattle.metadata.specs.declared.header.Header.{Header}
use Rattle.metadata.specs.declared.identifiers.Identifiers.{Identifiers}
use Rattle.model.specs.Contents.{extent_of}

-- how many extents a device has at most, and that a block of it lies in one of them
low : (n blocks x : ℕ) → n ≡ extents_of blocks → blocks ≤ 2147483648 → x < n → x < 2097152
low n blocks x sized blocks_few within = omega (arith, sized, blocks_few, within)

pub inside : (n blocks block : ℕ) → n ≡ extents_of blocks → block < blocks → extent_of block < n
inside n blocks block sized within = omega (arith, sized, within)

-- marks that a file has, as they were read of it
pub filed-has : (file filed : List ℕ) (marks : List Bool) (first count n block : ℕ) → filed ≡ take n (drop (2101248 + first) file) → length filed ≡ n → count ≤ n
    → ((offset : ℕ) → offset < length filed → marked marks (first + offset) ≡ true → not (slice_index filed offset == 0) ≡ true)
    → first ≤ block → block < first + count → marked marks block ≡ true → marked_in file block ≡ true
filed-has file filed marks first count n block read size enough each low high is =
    let offset : ℕ = block - first in
    let here : first + offset ≡ block = omega arith in
    let there : (2101248 + first) + offset ≡ 2101248 + block = omega arith in
    let inside_it : offset < n = omega arith in
    let found : slice_index filed offset ≡ slice_index file (2101248 + block) = ap (λ (l : List ℕ). get_or l offset 0) read
    ∙ (get_or-take n (drop (2101248 + first) file) offset 0 inside_it ∙ (get_or-drop (2101248 + first) file offset 0 ∙ ap (λ n. get_or file n 0) there)) in
    ap (λ n. not (n == 0)) (sym found) ∙ each offset (omega (arith, size, inside_it)) (ap (marked marks) here ∙ is)

-- a marked block is one of the device
pub marked-within : (marks : List Bool) (block : ℕ) → marked marks block ≡ true → block < length marks
marked-within marks block is = elim (cases_lt block (length marks)) [
  | inl within ↦ within
  | inr past ↦ absurd (both_ways (marked marks block) (marked-past marks block past) is)
]

-- and of an extent that has none it is not
pub none-marked : (marks : List Bool) (extent block : ℕ) → count_in marks extent ≡ 0 → extent_of block ≡ extent → marked marks block ≡ true → ⊥
none-marked marks extent block none in_extent is =
    both_ways (marked marks block) (count_in-none marks extent block none in_extent) is

-- what holds of a call that succeeded
pub on-ok : {T E X : Type 0} (r : Result T E) → is_err r ≡ false → OnOk r X → X
on-ok (Ok t) fine x = x
on-ok (Err e) fine x = absurd (cc)

-- what follows from the fact of a call that succeeded
pub on-ok-both : {T E X Y : Type 0} (r : Result T E) → OnOk r X → (X → Y) → OnOk r Y
on-ok-both (Ok t) x y = y x
on-ok-both (Err e) x y = tt

-- Of a file whose metadata is whole: what it says, and how large the device is.
pub record IsWhole {F : Type 0} (seen : F → List ℕ) (may_leave : F → List ℕ → Type 0) (faithful : F → Bool) (m : MetadataState F) : Type 0 where
  pub whole : m.is_broken ≡ false
  pub sized : length m.entries ≡ extents_of m.header.blocks
  pub blocks : m.header.blocks ≤ 2147483648
  pub stands : IsTrue (faithful m.file) → Stands m.header m.identifiers m.entries (seen m.file) (may_leave m.file)

-- what memory has entered stays so, and no mark changes
record TakesNoneOut (memory d c : List ℕ) : Type 0 where
  entries : (x : ℕ) → x < 2097152 → is_entered memory x ≡ true → entered_in d x ≡ true → entered_in c x ≡ true
  marks : SameMarks d c

module _ {F : Type 0} (seen : F → List ℕ) (may_leave : F → List ℕ → Type 0) (faithful : F → Bool) where
  -- nothing happened
  pub loses-self : (m : MetadataState F) → LosesNothing seen may_leave faithful m m
  loses-self m = record { header = refl; falls = λ same. same; entries = λ still stand. stand; known = λ still stand block within known. known; broken = λ is. is }

  pub loses-none : (old new : MetadataState F) → new ≡ old → LosesNothing seen may_leave faithful old new
  loses-none old new same = subst (LosesNothing seen may_leave faithful old) (sym same) (loses-self old)

  -- one call after another
  pub loses-both : (old mid new : MetadataState F) → LosesNothing seen may_leave faithful old mid → LosesNothing seen may_leave faithful mid new
      → LosesNothing seen may_leave faithful old new
  loses-both old mid new one two = record {
    header = two.header ∙ one.header;
    falls = λ still. one.falls (two.falls still);
    entries = λ still stand. two.entries still (one.entries (two.falls still) stand);
    known = λ still stand block within known. two.known still (one.entries (two.falls still) stand) block
        (subst (λ (h : Header). block < h.blocks) (sym one.header) within) (one.known (two.falls still) stand block within known);
    broken = λ is. two.broken (one.broken is);
  }

  -- Whatever a stop leaves now comes by a step from what it might have left.
  abbrev pub Comes : (List ℕ → List ℕ → Type 0) → MetadataState F → MetadataState F → Type 0
  Comes step old new = (c : List ℕ) → Outcomes seen may_leave new c → (d : List ℕ) × Outcomes seen may_leave old d × step d c

  -- A step that takes no entry out that memory has, and changes no mark, loses nothing.
  pub loses : (step : List ℕ → List ℕ → Type 0) (old new : MetadataState F) → IsWhole seen may_leave faithful old → new.header ≡ old.header
      → (IsTrue (faithful new.file) → IsTrue (faithful old.file)) → (IsTrue (faithful new.file) → Comes step old new)
      → ((d c : List ℕ) → step d c → (x : ℕ) → x < 2097152 → is_entered old.entries x ≡ true → entered_in d x ≡ true → entered_in c x ≡ true)
      → ((d c : List ℕ) → step d c → SameMarks d c)
      → (IsTrue (faithful new.file) → (x : ℕ) → x < length new.entries → is_entered new.entries x ≡ true
      → ((x < length old.entries) × (is_entered old.entries x ≡ true)) ⊎ ((c : List ℕ) → Outcomes seen may_leave new c → entered_in c x ≡ true))
      → LosesNothing seen may_leave faithful old new
  loses step old new w header falls comes entry marks more = record {
    header = header;
    falls = falls;
    entries = λ still stand x within is c left. elim (more still x within is) [
      | inl was ↦
          let from = comes still c left in
          entry from.0 c from.2 x (low (length old.entries) old.header.blocks x w.sized w.blocks was.0) was.1 (stand x was.0 was.1 from.0 from.1)
      | inr now ↦ now c left
    ];
    known = λ still stand block within known. elim known [
      | inl entered ↦
          let there = inside (length old.entries) old.header.blocks block w.sized within in
          let in_memory : is_entered old.entries (extent_of block) ≡ true = sym ((w.stands (falls still)).exactly (extent_of block) there)
          ∙ entered (seen old.file) (inl (w.whole, refl)) in
          inl (λ c left. let from = comes still c left in entry from.0 c from.2 (extent_of block)
          (low (length old.entries) old.header.blocks (extent_of block) w.sized w.blocks there) in_memory (entered from.0 from.1))
      | inr marked ↦ inr (λ c left. let from = comes still c left in marks from.0 c from.2 block ∙ marked from.0 from.1)
    ];
    broken = λ is. absurd (both_ways old.is_broken w.whole is);
  }

  module _ (moment : F → ℕ) (left_since : F → ℕ → List ℕ → Type 0)
      (counts_now : (file : F) (t : ℕ) (c : List ℕ) → t ≤ moment file → may_leave file c → left_since file t c) where
    -- what a crash leaves after a call comes by its step from what it might have left before
    pub left-step : (step : List ℕ → List ℕ → Type 0) (old new : F) → Leaves moment left_since may_leave step old new → (c : List ℕ) → may_leave new c
        → (d : List ℕ) × may_leave old d × step d c
    left-step step old new run c left = run.each c (counts_now new (moment old) c run.later left)

    pub comes : (step weak : List ℕ → List ℕ → Type 0) (old new : MetadataState F) → old.is_broken ≡ false → ((d c : List ℕ) → step d c → weak d c)
        → (new.is_broken ≡ false → weak (seen old.file) (seen new.file)) → Leaves moment left_since may_leave step old.file new.file → Comes weak old new
    comes step weak old new whole weaker says run c (inl now) = (seen old.file, inl (whole, refl), subst (weak (seen old.file)) (sym now.1) (says now.0))
    comes step weak old new whole weaker says run c (inr left) =
        let from = left-step step old.file new.file run c left in
        (from.0, inr from.1, weaker from.0 c from.2)

    -- An extent is entered, or the call failed.
    pub loses-enter : (extent : ℕ) (old new : MetadataState F) → IsWhole seen may_leave faithful old → is_entered old.entries extent ≡ false → new.header ≡ old.header → (IsTrue (faithful new.file) → IsTrue (faithful old.file))
        → (new.is_broken ≡ false → IsTrue (faithful new.file) → OnlyEntry extent (seen old.file) (seen new.file))
        → (IsTrue (faithful new.file) → Leaves moment left_since may_leave (OnlyEntry extent) old.file new.file)
        → (IsTrue (faithful new.file) → (x : ℕ) → x < length new.entries → is_entered new.entries x ≡ true
        → ((x < length old.entries) × (is_entered old.entries x ≡ true)) ⊎ ((c : List ℕ) → Outcomes seen may_leave new c → entered_in c x ≡ true))
        → LosesNothing seen may_leave faithful old new
    loses-enter extent old new w none header falls says run more =
        loses (OnlyEntry extent) old new w header falls (λ still. comes (OnlyEntry extent) (OnlyEntry extent) old new w.whole (λ d c step. step) (λ fine. says fine still) (run still))
        (λ d c step x low is was. step.others x low (λ same. both_ways (is_entered old.entries extent) none
        (subst (λ n. is_entered old.entries n ≡ true) same is)) ∙ was) (λ d c step. step.marks) more

    -- Every extent is entered, or the call failed.
    pub loses-all : (old new : MetadataState F) → IsWhole seen may_leave faithful old → new.header ≡ old.header
        → (IsTrue (faithful new.file) → IsTrue (faithful old.file))
        → (new.is_broken ≡ false → IsTrue (faithful new.file) → MoreEntries (seen old.file) (seen new.file))
        → (IsTrue (faithful new.file) → Leaves moment left_since may_leave (MayEnter old.entries) old.file new.file)
        → (IsTrue (faithful new.file) → (x : ℕ) → x < length new.entries → is_entered new.entries x ≡ true
        → ((x < length old.entries) × (is_entered old.entries x ≡ true)) ⊎ ((c : List ℕ) → Outcomes seen may_leave new c → entered_in c x ≡ true))
        → LosesNothing seen may_leave faithful old new
    loses-all old new w header falls says run more =
        loses (TakesNoneOut old.entries) old new w header falls
        (λ still. comes (MayEnter old.entries) (TakesNoneOut old.entries) old new w.whole (λ d c step. record {
          entries = λ x low is was. step.entries x low is ∙ was;
          marks = step.marks;
        }) (λ fine. let more = says fine still in record { entries = λ x low is was. more.entries x low was; marks = more.marks }) (run still))
        (λ d c step x low is was. step.entries x low is was) (λ d c step. step.marks) more

    -- Identifiers are saved, or the call failed.
    pub loses-save : (identifiers : Identifiers) (old new : MetadataState F) → IsWhole seen may_leave faithful old → new.header ≡ old.header → new.entries ≡ old.entries
        → (IsTrue (faithful new.file) → IsTrue (faithful old.file))
        → (new.is_broken ≡ false → IsTrue (faithful new.file) → OnlyIdentifiers identifiers (seen old.file) (seen new.file))
        → (IsTrue (faithful new.file) → Leaves moment left_since may_leave (OnlyIdentifiers identifiers) old.file new.file)
        → LosesNothing seen may_leave faithful old new
    loses-save identifiers old new w header entries falls says run =
        loses (OnlyIdentifiers identifiers) old new w header falls
        (λ still. comes (OnlyIdentifiers identifiers) (OnlyIdentifiers identifiers) old new w.whole (λ d c step. step) (λ fine. says fine still) (run still))
        (λ d c step x low is was. step.entries x low ∙ was) (λ d c step. step.marks)
        (λ still x within is. inl (subst (λ (l : List ℕ). (x < length l) × (is_entered l x ≡ true)) entries (within, is)))

    -- The calls themselves, by what they returned.

    abbrev Still : MetadataState F → Type 0
    Still m = IsTrue (faithful m.file)

    pub enter-loses : {E : Type 0} (r : Result (Unit {0}) E) (extent : ℕ) (old new : MetadataState F) → IsWhole seen may_leave faithful old → extent < length old.entries
        → OnErr r (new ≡ record old { file = new.file; is_broken = true }) → OnOk r (new ≡ record old { file = new.file; entries = new.entries })
        → (Still new → Still old) → (is_entered old.entries extent ≡ true → IsOk r × (new ≡ old)) → OnOk r (WithEntry extent old.entries new.entries)
        → OnOk r (Still new → OnlyEntry extent (seen old.file) (seen new.file)) → OnOk r (Still new → IsTrue (entered_in (seen new.file) extent))
        → OnOk r (Still new → (c : List ℕ) → may_leave new.file c → IsTrue (entered_in c extent))
        → (Still new → Leaves moment left_since may_leave (OnlyEntry extent) old.file new.file) → LosesNothing seen may_leave faithful old new
    enter-loses (Ok t) extent old new w within breaks memory falls already entry says entered durable run = go (is_entered old.entries extent) refl
      where
        all : Still new → (c : List ℕ) → Outcomes seen may_leave new c → entered_in c extent ≡ true
        all still c (inl now) = ap (λ (f : List ℕ). entered_in f extent) now.1 ∙ entered still
        all still c (inr left) = durable still c left

        go : (b : Bool) → is_entered old.entries extent ≡ b → LosesNothing seen may_leave faithful old new
        go true is = loses-none old new (already is).1
        go false is = loses-enter extent old new w is (ap (λ (m : MetadataState F). m.header) memory) falls (λ fine still. says still) run
            (λ still x inside_x is_x. elim (cases_eq x extent) [
              | inl same ↦ inr (λ c left. subst (λ n. entered_in c n ≡ true) (sym same) (all still c left))
              | inr other ↦ inl (subst (λ n. x < n) entry.size inside_x, sym (entry.others x other) ∙ is_x)
            ])
    enter-loses (Err e) extent old new w within breaks memory falls already entry says entered durable run = go (is_entered old.entries extent) refl
      where
        go : (b : Bool) → is_entered old.entries extent ≡ b → LosesNothing seen may_leave faithful old new
        go true is = loses-none old new (already is).1
        go false is = loses-enter extent old new w is (ap (λ (m : MetadataState F). m.header) breaks) falls
            (λ fine still. absurd (both_ways new.is_broken fine (ap (λ (m : MetadataState F). m.is_broken) breaks))) run
            (λ still x inside_x is_x. inl (subst (λ (l : List ℕ). (x < length l) × (is_entered l x ≡ true)) (ap (λ (m : MetadataState F). m.entries) breaks) (inside_x, is_x)))

    pub all-loses : {E : Type 0} (r : Result (Unit {0}) E) (old new : MetadataState F) → IsWhole seen may_leave faithful old
        → OnErr r (new ≡ record old { file = new.file; is_broken = true }) → OnOk r (new ≡ record old { file = new.file; entries = new.entries })
        → (Still new → Still old) → OnOk r (length new.entries ≡ length old.entries) → OnOk r (Still new → MoreEntries (seen old.file) (seen new.file))
        → OnOk r (Still new → (x : ℕ) → x < length old.entries → IsTrue (entered_in (seen new.file) x))
        → OnOk r (Still new → (c : List ℕ) → may_leave new.file c → (x : ℕ) → x < length old.entries → IsTrue (entered_in c x))
        → (Still new → Leaves moment left_since may_leave (MayEnter old.entries) old.file new.file) → LosesNothing seen may_leave faithful old new
    all-loses (Ok t) old new w breaks memory falls size says entered durable run =
        loses-all old new w (ap (λ (m : MetadataState F). m.header) memory) falls (λ fine still. says still) run
        (λ still x inside_x is_x. inr (all still x (subst (λ n. x < n) size inside_x)))
      where
        all : Still new → (x : ℕ) → x < length old.entries → (c : List ℕ) → Outcomes seen may_leave new c → entered_in c x ≡ true
        all still x inside_x c (inl now) = ap (λ (f : List ℕ). entered_in f x) now.1 ∙ entered still x inside_x
        all still x inside_x c (inr left) = durable still c left x inside_x
    all-loses (Err e) old new w breaks memory falls size says entered durable run =
        loses-all old new w (ap (λ (m : MetadataState F). m.header) breaks) falls
        (λ fine still. absurd (both_ways new.is_broken fine (ap (λ (m : MetadataState F). m.is_broken) breaks))) run
        (λ still x inside_x is_x. inl (subst (λ (l : List ℕ). (x < length l) × (is_entered l x ≡ true)) (ap (λ (m : MetadataState F). m.entries) breaks) (inside_x, is_x)))

    pub save-loses : {E : Type 0} (r : Result (Unit {0}) E) (identifiers : Identifiers) (old new : MetadataState F) → IsWhole seen may_leave faithful old
        → OnErr r (new ≡ record old { file = new.file; is_broken = true }) → OnOk r (new ≡ record old { file = new.file; identifiers = identifiers })
        → (Still new → Still old) → OnOk r (Still new → OnlyIdentifiers identifiers (seen old.file) (seen new.file))
        → (Still new → Leaves moment left_since may_leave (OnlyIdentifiers identifiers) old.file new.file) → LosesNothing seen may_leave faithful old new
    save-loses (Ok t) identifiers old new w breaks memory falls says run =
        loses-save identifiers old new w (ap (λ (m : MetadataState F). m.header) memory) (ap (λ (m : MetadataState F). m.entries) memory) falls (λ fine still. says still) run
    save-loses (Err e) identifiers old new w breaks memory falls says run =
        loses-save identifiers old new w (ap (λ (m : MetadataState F). m.header) breaks) (ap (λ (m : MetadataState F). m.entries) breaks) falls
        (λ fine still. absurd (both_ways new.is_broken fine (ap (λ (m : MetadataState F). m.is_broken) breaks))) run

    -- What a stop leaves after a read or a sync is what it would have left before.
    pub left-same : (old new : MetadataState F) → (old.is_broken ≡ true → new ≡ old) → seen new.file ≡ seen old.file
        → Leaves moment left_since may_leave Unchanged old.file new.file → (c : List ℕ) → Outcomes seen may_leave new c → Outcomes seen may_leave old c
    left-same old new refused same run c (inl now) = elim (cases_Bool old.is_broken) [
      | inl broken ↦ absurd (both_ways new.is_broken now.0 (ap (λ (m : MetadataState F). m.is_broken) (refused broken) ∙ broken))
      | inr whole ↦ inl (whole, now.1 ∙ same)
    ]
    left-same old new refused same run c (inr left) =
        let from = left-step Unchanged old.file new.file run c left in
        inr (subst (may_leave old.file) (sym from.2) from.1)

    -- The marks stand after an extent was entered.
    pub marks-enter : (extent : ℕ) (old new : MetadataState F) → OnlyEntry extent (seen old.file) (seen new.file)
        → Leaves moment left_since may_leave (OnlyEntry extent) old.file new.file → MarksStand seen may_leave old → MarksStand seen may_leave new
    marks-enter extent old new says run stand c (inl now) b = ap (λ (f : List ℕ). marked_in f b) now.1
    marks-enter extent old new says run stand c (inr left) b =
        let from = left-step (OnlyEntry extent) old.file new.file run c left in
        from.2.marks b ∙ (stand from.0 (inr from.1) b ∙ sym (says.marks b))

  -- where no outcome is new, nothing is lost
  pub loses-fewer : (old new : MetadataState F) → new.header ≡ old.header → new.entries ≡ old.entries
      → (IsTrue (faithful new.file) → IsTrue (faithful old.file)) → (old.is_broken ≡ true → new.is_broken ≡ true)
      → ((c : List ℕ) → Outcomes seen may_leave new c → Outcomes seen may_leave old c) → LosesNothing seen may_leave faithful old new
  loses-fewer old new header entries falls broken fewer = record {
    header = header;
    falls = falls;
    entries = λ still stand. subst (EntriesStand (Outcomes seen may_leave new)) (sym entries) (λ x within is c left. stand x within is c (fewer c left));
    known = λ still stand block within known. elim known [
      | inl entered ↦ inl (λ c left. entered c (fewer c left))
      | inr marked ↦ inr (λ c left. marked c (fewer c left))
    ];
    broken = broken;
  }

  -- a read or a sync, by what it returned
  pub read-loses : {E : Type 0} (r : Result (Unit {0}) E) (X : Type 0) (old new : MetadataState F) → (old.is_broken ≡ true → X × (new ≡ old))
      → OnErr r (new ≡ record old { file = new.file; is_broken = true }) → OnOk r (new ≡ record old { file = new.file })
      → (IsTrue (faithful new.file) → IsTrue (faithful old.file)) → ((c : List ℕ) → Outcomes seen may_leave new c → Outcomes seen may_leave old c)
      → LosesNothing seen may_leave faithful old new
  read-loses (Ok t) X old new refused breaks memory falls fewer =
      loses-fewer old new (ap (λ (m : MetadataState F). m.header) memory) (ap (λ (m : MetadataState F). m.entries) memory) falls
      (λ broken. ap (λ (m : MetadataState F). m.is_broken) (refused broken).1 ∙ broken) fewer
  read-loses (Err e) X old new refused breaks memory falls fewer =
      loses-fewer old new (ap (λ (m : MetadataState F). m.header) breaks) (ap (λ (m : MetadataState F). m.entries) breaks) falls
      (λ broken. ap (λ (m : MetadataState F). m.is_broken) (refused broken).1 ∙ broken) fewer

  -- and the marks stand
  pub marks-fewer : (old new : MetadataState F) → seen new.file ≡ seen old.file → ((c : List ℕ) → Outcomes seen may_leave new c → Outcomes seen may_leave old c)
      → MarksStand seen may_leave old → MarksStand seen may_leave new
  marks-fewer old new same fewer stand c left b = stand c (fewer c left) b ∙ ap (λ (f : List ℕ). marked_in f b) (sym same)

  -- After a sync a stop leaves just what the file has.
  only : (m : MetadataState F) → Only (seen m.file) (may_leave m.file) → (c : List ℕ) → Outcomes seen may_leave m c → c ≡ seen m.file
  only m synced c (inl now) = now.1
  only m synced c (inr left) = synced c left

  pub marks-synced : (m : MetadataState F) → Only (seen m.file) (may_leave m.file) → MarksStand seen may_leave m
  marks-synced m synced c left b = ap (λ (f : List ℕ). marked_in f b) (only m synced c left)

  -- so all that is entered stands
  pub entries-synced : (old new : MetadataState F) → Stands old.header old.identifiers old.entries (seen old.file) (may_leave old.file) → seen new.file ≡ seen old.file
      → new.entries ≡ old.entries → Only (seen new.file) (may_leave new.file) → EntriesStand (Outcomes seen may_leave new) new.entries
  entries-synced old new stands same entries synced x within is c left =
      ap (λ (f : List ℕ). entered_in f x) (only new synced c left ∙ same)
      ∙ (stands.exactly x (subst (λ (l : List ℕ). x < length l) entries within) ∙ subst (λ (l : List ℕ). is_entered l x ≡ true) entries is)
