-- What the sessions of a server leave.
use Rattle.std.proofs.Common.{ℕ, ◌≡◌, ◌<◌, ◌≤◌, inl, inr, Bool, true, false, not, ◌&&◌, List, length, filter, Option, Some, Result, Ok, Err}
use Rattle.std.proofs.Common.{slice_get, sym, ◌∙◌, ap, subst, arith, nat_lt, Vec, Global}
use Rattle.std.specs.Prelude.{IfOk, IfSome, IsOk, IsTrue}
use Rattle.std.proofs.lemmas.Bool.{cases_Bool, cases_lt, both_ways, and_from, and_parts, le-ltb}
use Rattle.std.proofs.lemmas.Option.{slice_get_within}
use Rattle.bitmap.specs.Marks.{marked}
use Rattle.blocks.specs.Ranges.{below}
use Rattle.blocks.specs.declared.refusal.Refusal.{Refusal}
use Rattle.session_api.specs.Opening.{opening_of}
use Rattle.settlement.specs.Left.{IsUnparted}
use Rattle.blocks.specs.declared.tuple.Tuple.{Tuple}
use Rattle.laws.proofs.Blocks.SameBlocks.{same-equal}
use Rattle.laws.proofs.Joining.Openings.{kept-opening-primary, kept-opening-secondary}
use Rattle.laws.proofs.Lists.Picks.{below-has, filtered-pick}
use Rattle.model.specs.Headline.{IsJoined, is_marked}
use Rattle.model.specs.LocalRuns.{primary_run, secondary_run}
use Rattle.model.specs.Pair.{same_block}
use Rattle.model.specs.Primary.{PrimaryHistory, local_map, marked_blocks}
use Rattle.model.specs.Secondary.{SecondaryHistory, secondary_map}
use Rattle.model.specs.Settlement.{Receipt}
use Rattle.model.specs.Theorems.{Opening, primary_at, secondary_at}
use Rattle.primary.specs.State.{PrimaryView}
use Rattle.secondary.specs.State.{SecondaryView}
use Rattle.serve_requests.proofs.Answering.{are-weaker}
use Rattle.serve_requests.specs.Answered.{AreAnswered}
use Rattle.disk_pair.specs.Disks.{AreFaithful, DisksState, unmarked_between}
use Rattle.served_images.specs.Sessions.{NodesComeTo, IsSession, Rest, opening}
use Rattle.served_images.specs.declared.totals.Totals.{Totals}
use Rattle.session_nodes.specs.Primaries.{PrimaryHas}
use Rattle.session_nodes.specs.Secondaries.{SecondaryHas, SecondaryIsHad}
use Rattle.settlement.proofs.Openings.{were-honest}
use Rattle.settlement.proofs.Settling.{keeps-order}
use Rattle.settlement.specs.Settled.{WasHonest}
use Rattle.told.specs.declared.entry.Told.{Told}
use Rattle.told.specs.declared.entry.Told.TheVariants.{Accepted, Given, Held, Patched}
use Rattle.told.specs.Log.{WasTold}
use Rattle.told.specs.Stands.{AllReadOwn, Stands, StandsIn}
use Rattle.told_nodes.specs.Told.{IsTold}
use Rattle.told_nodes.proofs.Ran.{ran}

-- Disks without differences.

-- where nothing passes, no element does
none-passes : {X : Type 0} (p : X → Bool) (xs : List X) (i : ℕ) (x : X) → length (filter p xs) ≡ 0 → slice_get xs i ≡ Some x → p x ≡ false
none-passes p xs i x none at = elim (cases_Bool (p x)) [
  | inr fails ↦ fails
  | inl passes ↦ absurd (
      let there = filtered-pick p xs i x at passes in
      let within = slice_get_within (filter p xs) there.0 x there.1 in omega (arith, none, within))
]

-- where no block is marked, this one is not
unmarked-there : (p : PrimaryHistory) → length (marked_blocks p) ≡ 0 → (block : ℕ) → is_marked p block ≡ false
unmarked-there p none block = elim (cases_Bool (is_marked p block)) [
  | inr clean ↦ clean
  | inl marked ↦ elim (cases_lt block p.settings.blocks) [
    | inl inside ↦ absurd (
        let parts = and_parts (nat_lt block p.settings.blocks) (p.marks block) marked in
        let there = below-has p.settings.blocks block inside in
        both_ways (p.marks block) (none-passes p.marks (below p.settings.blocks) there.0 block none there.1) parts.1)
    | inr past ↦ ap (λ b. b && p.marks block) (le-ltb block p.settings.blocks past)
  ]
]

-- a block of a list in which nothing passes
none-below : (p : ℕ → Bool) (n block : ℕ) → length (filter p (below n)) ≡ 0 → block < n → p block ≡ false
none-below p n block none less = let there = below-has n block less in none-passes p (below n) there.0 block none there.1

-- Where a session leaves no mark, and a comparison finds no difference without one, the disks are the same.
pub ends-alike : (o : Opening) (before : Totals) (rest : Rest) (local peer : List (List ℕ)) (blocks : ℕ) → IsSession o before rest
    → unmarked_between rest.parts.marks local peer blocks ≡ 0 → rest.totals.marked ≡ 0 → (block : ℕ) → block < blocks
    → slice_get local block ≡ slice_get peer block
ends-alike o before rest local peer blocks session none clean block less = elim (cases_Bool (same_block (slice_get local block) (slice_get peer block))) [
  | inl same ↦ same-equal (slice_get local block) (slice_get peer block) same
  | inr differs ↦ absurd (
      let fails = none-below (λ b. not (same_block (slice_get local b) (slice_get peer b)) && not (marked rest.parts.marks b)) blocks block none less in
      let unmarked : marked rest.parts.marks block ≡ false = session.comes.left.marks block
      ∙ unmarked-there (primary_run session.here (primary_at o)) (sym session.comes.marked ∙ clean) block in
      both_ways _ fails (and_from (not (same_block (slice_get local block) (slice_get peer block))) (not (marked rest.parts.marks block)) (ap not differs)
      (ap not unmarked)))
]

-- A session.

-- honest identifiers are so over the same disks
honest-over : (rest : Rest) (p : PrimaryHistory) (s : SecondaryHistory) → ((block : ℕ) → slice_get rest.disks.local block ≡ local_map p block)
    → ((block : ℕ) → slice_get rest.disks.peer block ≡ secondary_map s block)
    → WasHonest (opening_of rest.parts (local_map p) (secondary_map s)) → WasHonest (opening rest)
honest-over rest p s local peer = subst WasHonest (λ i. opening_of rest.parts (λ block. sym (local block) i) (λ block. sym (peer block) i))

-- all that was told of writes and receipts stands in the history
stands-in : (faithful : Bool) (start : PrimaryHistory) (log : List Told) (history : PrimaryHistory) → Stands faithful start log history → (one : Told)
    → WasTold log one → StandsIn history one
stands-in faithful start log history stands (Accepted number first bytes) was = stands.writes number first bytes was
stands-in faithful start log history stands (Patched number block from bytes) was = stands.patches number block from bytes was
stands-in faithful start log history stands (Given receipt) was = stands.receipts receipt was
stands-in faithful start log history stands (Held first count bytes) was = tt

-- what two nodes that ended make of what they leave
pub session-of : (o : Opening) (before : Totals) (result : Result Rest Refusal) (worked : Result (Vec Receipt Global) Refusal) (a : PrimaryView)
    (b : SecondaryView) (log : List Told) → IfOk worked (λ receipts. AreAnswered (WasTold log) receipts.items) → IsTold (Some o) log a
    → SecondaryIsHad (Some o) b
    → ((p : PrimaryHistory) (s : SecondaryHistory) → PrimaryHas a p → SecondaryHas b s → IsJoined p s) → b.core.number ≤ a.core.connections
    → IfOk result (λ rest. rest.disks.local_faithful ≡ a.faithful) → IfOk result (λ _. IsOk worked)
    → IfOk result (λ rest. (rest.disks.local ≡ a.disk) × (rest.disks.peer ≡ b.disk))
    → IfOk result (λ rest. IfOk worked (λ receipts. NodesComeTo a b receipts.items before rest.totals rest.parts))
    → IfOk result (λ rest. IsSession o before rest)
session-of o before (Err refusal) worked a b log answered told had joined numbered faithful done disks comes = tt
session-of o before (Ok rest) (Err refusal) a b log answered told had joined numbered faithful done disks comes = absurd (let wrong : false ≡ true = done in cc (wrong))
session-of o before (Ok rest) (Ok receipts) a b log answered told had joined numbered faithful done disks comes =
    let p = ran o log a told in
    let s = had in
    let here = p.has in
    let there : SecondaryHas b (secondary_run s.began.0 (secondary_at o)) = subst (SecondaryHas b) s.began.1 s.has in
    let joins = joined (primary_run p.events (primary_at o)) (secondary_run s.began.0 (secondary_at o)) here there in
    let left = comes numbered (primary_run p.events (primary_at o)) (secondary_run s.began.0 (secondary_at o)) here.has there.has joins in
    let local : (block : ℕ) → slice_get rest.disks.local block ≡ local_map (primary_run p.events (primary_at o)) block =
    λ block. ap (λ (l : List (List ℕ)). slice_get l block) disks.0 ∙ here.has.leaves.disk block in
    let peer : (block : ℕ) → slice_get rest.disks.peer block ≡ secondary_map (secondary_run s.began.0 (secondary_at o)) block =
    λ block. ap (λ (l : List (List ℕ)). slice_get l block) disks.1 ∙ there.has.leaves.disk block in
    let opens : IsUnparted o → (primary_run p.events (primary_at o)).opening_tuple.current
    ≡ (secondary_run s.began.0 (secondary_at o)).opening_tuple.current → (primary_run p.events (primary_at o)).opening_tuple.bitmap ≡ 0
    = λ unparted same. ap (λ (t : Tuple). t.bitmap) (kept-opening-primary o p.events).tuple
    ∙ unparted (ap (λ (t : Tuple). t.current) (sym (kept-opening-primary o p.events).tuple) ∙ same
    ∙ ap (λ (t : Tuple). t.current) (kept-opening-secondary o s.began.0).tuple) in
    record {
      here = p.events;
      there = s.began.0;
      receipts = receipts.items;
      first = p.first;
      log = log;
      told = subst (λ b. Stands b (primary_run p.first (primary_at o)) log (primary_run p.events (primary_at o))) (sym faithful) p.stands;
      own = subst (λ b. AllReadOwn b (primary_run p.first (primary_at o)) log (primary_run p.events (primary_at o))) (sym faithful) p.own;
      answered = are-weaker (WasTold log) (StandsIn (primary_run p.events (primary_at o)))
          (stands-in a.faithful (primary_run p.first (primary_at o)) log (primary_run p.events (primary_at o)) p.stands) receipts.items answered;
      joined = joins;
      comes = left;
      local = local;
      peer = peer;
      faithful = λ fine. here.has.leaves.faithful (subst IsTrue faithful fine);
      honest = λ honest fine. honest-over rest (primary_run p.events (primary_at o)) (secondary_run s.began.0 (secondary_at o)) local peer
          (left.sound (were-honest o p.events s.began.0 honest) fine).identifiers;
      unparted = λ honest unparted. left.unparted (were-honest o p.events s.began.0 honest) (opens unparted);
      order = λ honest unparted fine none. keeps-order _ _ here.has.reached there.has.reached (were-honest o p.events s.began.0 honest) joins
          (record { faithful = fine; local = none; opening = opens unparted });
    }

-- A comparison that found nothing, where no block is marked.
pub found-alike : (o : Opening) (before : Totals) (rest : Rest) (last : DisksState) (blocks : ℕ) (found : Option ℕ) → IsSession o before rest
    → IfSome found (λ n. AreFaithful last → n ≡ unmarked_between rest.parts.marks last.local last.peer blocks) → found ≡ Some 0 → rest.totals.marked ≡ 0
    → AreFaithful last → (block : ℕ) → block < blocks → slice_get last.local block ≡ slice_get last.peer block
found-alike o before rest last blocks found session counted none clean faithful =
    ends-alike o before rest last.local last.peer blocks session
    (sym (subst (λ (f : Option ℕ). IfSome f (λ n. AreFaithful last → n ≡ unmarked_between rest.parts.marks last.local last.peer blocks)) none counted faithful))
    clean
