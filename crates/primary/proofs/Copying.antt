-- What a call that copies a block for a resync comes to.
use Rattle.std.proofs.Common.{ℕ, ◌≡◌, ◌+◌, ◌<◌, ◌&&◌, ◌||◌, ◌++◌, Bool, true, false, not, List, [], length, take, drop, Option, Some, None, Result, Ok, Err}
use Rattle.std.proofs.Common.{slice_get, refl, sym, ◌∙◌, ap, subst, subst₂, arith}
use Rattle.std.specs.Prelude.{filter, is_none, is_some, ok_or, unwrap_or, IsTrue}
use Rattle.std.proofs.Math.Seq.{take-append_seam}
use Rattle.std.proofs.lemmas.Bool.{and_parts, both_ways, or_parts}
use Rattle.blocks.specs.Faults.{FaultState, after_read, is_steady}
use Rattle.blocks.specs.Ranges.{below}
use Rattle.blocks.specs.declared.block.Block.{Block}
use Rattle.blocks.specs.declared.refusal.Refusal.{Refusal}
use Rattle.blocks.specs.declared.refusal.Refusal.TheVariants.{NoMemory, NotConnected, NothingToDo, ReadFault}
use Rattle.blocks.specs.declared.outcome.Done.{Done}
use Rattle.blocks.specs.declared.outcome.Reply.TheVariants as reply
use Rattle.bitmap.specs.Marks.{marked}
use Rattle.resync.specs.Next.{is_free, next_block}
use Rattle.endpoint.specs.Calls.{is_out_of_memory}
use Rattle.model.specs.LocalRuns.{FailsResync, Resyncs}
use Rattle.model.specs.Refusals.{first_refusal}
use Rattle.laws.proofs.Lists.Picks.{pick-found, pick-filtered, pick-below}
use Rattle.laws.proofs.Lists.Tests.{test-passed}
use Rattle.laws.proofs.Rules.Memory.{before_last, out-of-memory-last}
use Rattle.primary_core.specs.Resyncing.{resync_choice}
use Rattle.primary_core.specs.OutOfMemory as core
use Rattle.primary_protocol.specs.Core.{EndState, PrimaryState}
use Rattle.primary_protocol.specs.Transitions.{copying, resync_fault, resync_next, resync_tests}
use Rattle.primary_protocol.specs.Node.{NodeIsHad, NodeSteps, NodeState, primary_step}
use Rattle.primary_protocol.specs.Steps.{replied}
use Rattle.primary_protocol.proofs.Common.Marks.{length-marks}
use Rattle.primary_protocol.proofs.Node.Disk.{disk-size}
use Rattle.primary_protocol.proofs.Node.Disks.{copies-kept, given_by, held_in, node-copies, node-copy-fails, node-not-copied}
use Rattle.primary.specs.State.{PrimaryView, IsNode, node}
use Rattle.primary.proofs.Kept.{StepsTo, kept-is, lowered-is}
use Rattle.primary.proofs.Refused.{same-out-of-memory}

-- The block that was chosen: no test refuses it.
pub record IsChosen (s : PrimaryState) (block : ℕ) : Type 0 where
  pub end : EndState
  pub there : s.end ≡ Some end
  pub tests : first_refusal (resync_tests false end s) ≡ None
  pub next : next_block s.marks s.held ≡ Some block

abbrev chosen_by : Option EndState → Bool → PrimaryState → Result ℕ Refusal
chosen_by v out_of_memory s = elim v as (λ _. Result ℕ Refusal) [
  | None ↦ Err NotConnected
  | Some e ↦ elim (first_refusal (resync_tests out_of_memory e s)) as
      (λ _. Result ℕ Refusal) [ Some refusal ↦ Err refusal | None ↦ ok_or (next_block s.marks s.held) NothingToDo ]
]

pub is-chosen : (s : PrimaryState) (block : ℕ) → resync_choice false s ≡ Ok block → IsChosen s block
is-chosen s block is = go s.end refl is
  where
    got : (v : Option ℕ) → ok_or v NothingToDo ≡ Ok block → v ≡ Some block
    got None wrong = absurd (cc)
    got (Some b) so = ap Some (let same : b ≡ block = cc in same)

    go : (v : Option EndState) → s.end ≡ v → chosen_by v false s ≡ Ok block → IsChosen s block
    go None at wrong = absurd (cc)
    go (Some e) at so = by (first_refusal (resync_tests false e s)) refl so
      where
        by : (v : Option Refusal) → first_refusal (resync_tests false e s) ≡ v
            → elim v as (λ _. Result ℕ Refusal) [ Some refusal ↦ Err refusal | None ↦ ok_or (next_block s.marks s.held) NothingToDo ] ≡ Ok block
            → IsChosen s block
        by (Some refusal) first wrong = absurd (cc)
        by None first fine = record { end = e; there = at; tests = first; next = got (next_block s.marks s.held) fine }

-- what the transition does at an end, by what the tests say and which block is next
abbrev next_from : (ℕ → List ℕ) → PrimaryState → EndState → Option Refusal → Option ℕ → Result Done Refusal × PrimaryState
next_from disk s e refused next = elim refused as (λ _. Result Done Refusal × PrimaryState) [
  | Some refusal ↦ (Err refusal, s)
  | None ↦ elim next as (λ _. Result Done Refusal × PrimaryState) [
    | None ↦ (Err NothingToDo, s)
    | Some block ↦ let after =
        copying block (disk block) e s in (Ok after.0, after.1)
  ]
]

abbrev next_by : (ℕ → List ℕ) → Bool → PrimaryState → Option EndState → Result Done Refusal × PrimaryState
next_by disk out_of_memory s v = elim v as (λ _. Result Done Refusal × PrimaryState) [
  | None ↦ (Err NotConnected, s)
  | Some e ↦ next_from disk s e (first_refusal (resync_tests out_of_memory e s)) (next_block s.marks s.held)
]

-- what a failed read does at an end, by what the tests say
abbrev fault_from : PrimaryState → Option Refusal → Result Done Refusal × PrimaryState
fault_from s refused = elim refused as (λ _. Result Done Refusal × PrimaryState) [ Some refusal ↦ (Err refusal, s) | None ↦ (Err ReadFault, s) ]

abbrev fault_by : Bool → PrimaryState → Option EndState → Result Done Refusal × PrimaryState
fault_by out_of_memory s v = elim v as (λ _. Result Done Refusal × PrimaryState) [
  | None ↦ (Err NotConnected, s)
  | Some e ↦ fault_from s (first_refusal (resync_tests out_of_memory e s))
]

-- The chosen block is copied.
chosen-copies : (disk : ℕ → List ℕ) (s : PrimaryState) (block : ℕ) (c : IsChosen s block)
    → resync_next disk false s ≡ (Ok (copying block (disk block) c.end s).0, (copying block (disk block) c.end s).1)
chosen-copies disk s block c =
    ap (next_by disk false s) c.there
    ∙ (ap (λ (v : Option Refusal). next_from disk s c.end v (next_block s.marks s.held)) c.tests ∙ ap (next_from disk s c.end None) c.next)

-- the disk fails its read
chosen-fails : (s : PrimaryState) (block : ℕ) → IsChosen s block → resync_fault false s ≡ (Err ReadFault, s)
chosen-fails s block c = ap (fault_by false s) c.there ∙ ap (fault_from s) c.tests

-- What refuses the copy of a block refuses its failed read.
abbrev AreRefused : List (List ℕ) → Bool → PrimaryState → Refusal → Type 0
AreRefused disk out_of_memory s e = (resync_next (held_in disk) out_of_memory s ≡ (Err e, s)) × (resync_fault out_of_memory s ≡ (Err e, s))

-- where memory is wanting it is the last of the tests that refuses
chosen-out-of-memory : (disk : List (List ℕ)) (s : PrimaryState) (block : ℕ) → IsChosen s block → AreRefused disk true s NoMemory
chosen-out-of-memory disk s block c =
    let last : first_refusal (resync_tests true c.end s) ≡ Some NoMemory = out-of-memory-last (before_last (resync_tests false c.end s)) c.tests in (
      ap (next_by (held_in disk) true s) c.there ∙ ap (λ (v : Option Refusal). next_from (held_in disk) s c.end v (next_block s.marks s.held)) last,
      ap (fault_by true s) c.there ∙ ap (fault_from s) last,
    )

-- what refuses the choice refuses the step
none-chosen : (disk : List (List ℕ)) (out_of_memory : Bool) (s : PrimaryState) (e : Refusal) → resync_choice out_of_memory s ≡ Err e
    → AreRefused disk out_of_memory s e
none-chosen disk out_of_memory s e is = go s.end is
  where
    err : (x : Refusal) → ◌≡◌ {A = Result ℕ Refusal} (Err x) (Err e) → ◌≡◌ {A = Result Done Refusal × PrimaryState} (Err x, s) (Err e, s)
    err x so = ap (λ (y : Refusal). (Err y, s)) (let same : x ≡ e = cc in same)

    go : (v : Option EndState) → chosen_by v out_of_memory s ≡ Err e
        → (next_by (held_in disk) out_of_memory s v ≡ (Err e, s)) × (fault_by out_of_memory s v ≡ (Err e, s))
    go None so = (err NotConnected so, err NotConnected so)
    go (Some end) so = by (first_refusal (resync_tests out_of_memory end s)) refl (next_block s.marks s.held) refl so
      where
        by : (v : Option Refusal) → first_refusal (resync_tests out_of_memory end s) ≡ v → (next : Option ℕ) → next_block s.marks s.held ≡ next
            → elim v as (λ _. Result ℕ Refusal) [ Some refusal ↦ Err refusal | None ↦ ok_or next NothingToDo ] ≡ Err e
            → (next_from (held_in disk) s end v next ≡ (Err e, s)) × (fault_from s v ≡ (Err e, s))
        by (Some refusal) first next at so = (err refusal so, err refusal so)
        by None first (Some block) at wrong = absurd (cc)
        by None first None at wrong = absurd (
            let busy : Bool = not end.resync || (is_some end.under_way || is_none (next_block s.marks s.held)) in
            let one = test-passed busy NothingToDo (drop 1 (resync_tests out_of_memory end s)) first in
            let two = or_parts (not end.resync) (is_some end.under_way || is_none (next_block s.marks s.held)) one.0 in
            let three = or_parts (is_some end.under_way) (is_none (next_block s.marks s.held)) two.1 in
            both_ways (is_none (next_block s.marks s.held)) three.1 (ap is_none at))

-- The chosen block lies on the disk.
pub chosen-inside : (n : NodeState) (block : ℕ) → NodeIsHad n → IsChosen n.core block → block < length n.disk
chosen-inside n block had c =
    let size = disk-size n had.history had.has in
    let marks : length n.core.marks ≡ had.history.settings.blocks = ap length had.has.leaves.core.rest.marks
    ∙ length-marks had.history.settings.blocks had.history.marks in
    let found = pick-found (is_free n.core.held) (filter (marked n.core.marks) (below (length n.core.marks))) block c.next in
    let there = pick-filtered (marked n.core.marks) (below (length n.core.marks)) found.0 block found.1 in
    let less = pick-below (length n.core.marks) there.0 block there.1 in
    omega arith

-- The call, by how far it came: it leaves the core, or copies a block, and never changes the disk.

-- what a read of other bytes is told as
abbrev pub read_as : Bool → List ℕ → Option (List ℕ)
read_as true bytes = None
read_as false bytes = Some bytes

-- The steps of a refused call, that of a copy and that of a failed read.
pub record RefusedSteps (v : PrimaryView) (s : PrimaryState) (disk : List (List ℕ)) (result : Result Done Refusal) : Type 0 where
  pub copies : NodeSteps (Resyncs None (is_out_of_memory result)) (node v) (replied reply.Ok result) (record (node v) { core = s; disk = disk })
  pub fails : NodeSteps (FailsResync (is_out_of_memory result)) (node v) (replied reply.Ok result) (record (node v) { core = s; disk = disk })

module _ (v : PrimaryView) (s : PrimaryState) (disk : List (List ℕ)) (was : IsNode v) (same : s ≡ v.core) (held : disk ≡ v.disk) where
  refused-as : (result : Result Done Refusal) (e : Refusal) → result ≡ Err e → AreRefused v.disk (is_out_of_memory {R = Done} (Err e)) v.core e
      → RefusedSteps v s disk result
  refused-as result e is refused =
      subst (RefusedSteps v s disk) (sym is) (subst₂ (λ (t : PrimaryState) (l : List (List ℕ)). RefusedSteps v t l (Err e)) (sym same) (sym held) (record {
        copies = node-not-copied (is_out_of_memory {R = Done} (Err e)) (node v) e (sym refused.0);
        fails = node-copy-fails (is_out_of_memory {R = Done} (Err e)) (node v) e (sym refused.1);
      }))

  -- no block was chosen
  pub choice-refused : (result : Result Done Refusal) (e : Refusal) → result ≡ Err e → resync_choice (core.is_out_of_memory {R = Block} (Err e)) v.core ≡ Err e
      → RefusedSteps v s disk result
  choice-refused result e is refused = refused-as result e is (none-chosen v.disk (is_out_of_memory {R = Done} (Err e)) v.core e
      (subst (λ (b : Bool). resync_choice b v.core ≡ Err e) (same-out-of-memory Block Done e) refused))

  -- there is no memory for its bytes
  pub memory-refused : (block : ℕ) (result : Result Done Refusal) → result ≡ Err NoMemory → resync_choice false v.core ≡ Ok block → RefusedSteps v s disk result
  memory-refused block result is chosen = refused-as result NoMemory is (chosen-out-of-memory v.disk v.core block (is-chosen v.core block chosen))

  -- the disk fails the read
  pub read-fails : (block : ℕ) → resync_choice false v.core ≡ Ok block
      → NodeSteps (FailsResync false) (node v) (reply.Refused ReadFault) (record (node v) { core = s; disk = disk })
  read-fails block chosen =
      subst₂ (λ (t : PrimaryState) (l : List (List ℕ)). NodeSteps (FailsResync false) (node v) (reply.Refused ReadFault)
      (record (node v) { core = t; disk = l }))
      (sym same) (sym held) (node-copy-fails false (node v) ReadFault (sym (chosen-fails v.core block (is-chosen v.core block chosen))))

  -- a node it stays, whatever the disk counted, and whatever it gave
  pub same-is : (faults : ℕ) (steady faithful : Bool) → (IsTrue faithful → IsTrue v.faithful)
      → IsNode (record v { core = s; disk = disk; faults = faults; steady = steady; faithful = faithful })
  same-is faults steady faithful falls =
      subst₂ (λ (t : PrimaryState) (l : List (List ℕ)).
      IsNode (record v { core = t; disk = l; faults = faults; steady = steady; faithful = faithful })) (sym same) (sym held)
      (lowered-is v faults steady faithful falls was)

  -- The block was read, into bytes that hold nothing else, and is copied.
  pub copied : (t : PrimaryState) (faithful : Bool) (block n : ℕ) (contents buffer items : List ℕ) (done : Done) → (IsTrue faithful → IsTrue v.faithful)
      → resync_choice false v.core ≡ Ok block
      → (IsTrue faithful → slice_get v.disk block ≡ Some buffer) → length buffer ≡ n → contents ≡ take n (buffer ++ drop (length buffer) items)
      → ((e : EndState) → s.end ≡ Some e → (done, t) ≡ copying block contents e s)
      → StepsTo (primary_step (Resyncs (read_as faithful contents) false)) v (reply.Ok done) t disk faithful
  copied t faithful block n contents buffer items done falls chosen read size taken copies =
      subst (λ (d : List (List ℕ)). StepsTo (primary_step (Resyncs (read_as faithful contents) false)) v (reply.Ok done) t d faithful) (sym held) (record {
        steps = node-copies (read_as faithful contents) false (node v) faithful (Ok done) t kept is;
        is = kept-is v t v.disk faithful was (copies-kept (read_as faithful contents) false (node v) faithful (Ok done) t was.had kept is);
      })
    where
      c : IsChosen v.core block
      c = is-chosen v.core block chosen

      kept : IsTrue faithful → IsTrue v.faithful × (read_as faithful contents ≡ None)
      kept now = (falls now, ap (λ b. read_as b contents) now)

      contents_are : IsTrue faithful → contents ≡ held_in v.disk block
      contents_are now = taken ∙ (ap (λ m. take m (buffer ++ drop (length buffer) items)) (sym size) ∙ (take-append_seam buffer (drop (length buffer) items)
          ∙ sym (ap (λ (o : Option (List ℕ)). unwrap_or o []) (read now))))

      -- what was read was held, or is told
      as_given : (b : Bool) → (IsTrue b → contents ≡ held_in v.disk block) → contents ≡ unwrap_or (read_as b contents) (held_in v.disk block)
      as_given true held = held refl
      as_given false held = refl

      is : (Ok done, t) ≡ resync_next (given_by (read_as faithful contents) v.disk) false v.core
      is = ap (λ (p : Done × PrimaryState). (Ok p.0, p.1)) (copies c.end (ap (λ (x : PrimaryState). x.end) same ∙ c.there)
          ∙ (λ i. copying block (as_given faithful contents_are i) c.end (same i)))
          ∙ sym (chosen-copies (given_by (read_as faithful contents) v.disk) v.core block c)

  -- so the call was a copy of what the disk has, or of other bytes
  pub copied-steps : (t : PrimaryState) (faithful : Bool) (block n : ℕ) (contents buffer items : List ℕ) (done : Done) → (IsTrue faithful → IsTrue v.faithful)
      → resync_choice false v.core ≡ Ok block
      → (IsTrue faithful → slice_get v.disk block ≡ Some buffer) → length buffer ≡ n → contents ≡ take n (buffer ++ drop (length buffer) items)
      → ((e : EndState) → s.end ≡ Some e → (done, t) ≡ copying block contents e s)
      → (read : Option (List ℕ)) × (IsTrue faithful → read ≡ None)
      × NodeSteps (Resyncs read false) (node v) (reply.Ok done) (record (node v) { core = t; disk = disk; faithful = faithful })
  copied-steps t faithful block n contents buffer items done falls chosen read size taken copies = (
    read_as faithful contents,
    (λ now. ap (λ b. read_as b contents) now),
    (copied t faithful block n contents buffer items done falls chosen read size taken copies).steps,
  )

-- The disk after an armed read.
armed-read : (s t u : FaultState) → t ≡ record s { read_arming = Some 0 } → u ≡ after_read t → u ≡ record s { faults = s.faults + 1; read_arming = None }
armed-read s t u armed after = after ∙ ap after_read armed

-- it holds what it held
pub armed-same : (s t u : FaultState) → t ≡ record s { read_arming = Some 0 } → u ≡ after_read t → u.disk ≡ s.disk
armed-same s t u armed after = ap (λ (x : FaultState). x.disk) (armed-read s t u armed after)

-- and where nothing was armed before, nothing is
pub armed-steady : (s t u : FaultState) → t ≡ record s { read_arming = Some 0 } → u ≡ after_read t → is_steady s ≡ true → is_steady u ≡ true
armed-steady s t u armed after known =
    ap is_steady (armed-read s t u armed after) ∙ ap (λ b. b && true) (and_parts (is_none s.write_arming) (is_none s.read_arming) known).0
