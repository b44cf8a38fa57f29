-- A node's calls are steps: it is new, it opens, accepts a write, pushes what is due, closes, and gives a receipt.
use Rattle.std.proofs.Common.{ℕ, suc, ◌≡◌, Bool, true, false, ◌&&◌, List, [], ◌∷◌, ◌++◌, length, take, Option, Some, None, Result, Ok, Err, slice_get}
use Rattle.std.proofs.Common.{refl, sym, ◌∙◌, ap, subst, arith}
use Rattle.std.specs.Prelude.{is_some, unwrap_or}
use Rattle.blocks.specs.SettingsRange.{IsInRange}
use Rattle.blocks.specs.declared.tuple.Tuple.{Tuple}
use Rattle.blocks.specs.declared.settings.Settings.{Settings}
use Rattle.blocks.specs.declared.refusal.Refusal.{Refusal}
use Rattle.blocks.specs.declared.outcome.Done.{Done}
use Rattle.blocks.specs.declared.outcome.What.{What}
use Rattle.blocks.specs.declared.outcome.What.TheVariants as what
use Rattle.blocks.specs.declared.outcome.Reply.{Reply}
use Rattle.blocks.specs.declared.outcome.Reply.TheVariants as reply
use Rattle.model.specs.Contents.{IsDisk}
use Rattle.model.specs.Refusals.{done_with}
use Rattle.model.specs.Primary as model
use Rattle.model.specs.Primary.{Waiting, Accepted, PrimaryConnection, PrimaryHistory, last_index, no_primary_connection, primary_connection, frames_due}
use Rattle.model.specs.Primary.{primary_opening, new_primary_connection}
use Rattle.model.specs.PrimarySteps as step
use Rattle.model.specs.Refusals.{first_refusal}
use Rattle.model.specs.Stream.{WriteItem}
use Rattle.model.specs.Marks.{marking}
use Rattle.laws.proofs.Primary.Moves.{following-from}
use Rattle.std.proofs.lemmas.List.{length-append}
use Rattle.blocks.specs.declared.refusal.Refusal.TheVariants.{NotDrained}
use Rattle.laws.proofs.Lists.Tests.{test-passed}
use Rattle.primary_protocol.proofs.Common.Reached.{end-open, established-same}
use Rattle.model.specs.LocalRuns.{PrimaryEvent, Opens, Submits, Closes}
use Rattle.laws.proofs.Lists.Last.{last-more}
use Rattle.bitmap.specs.Marks.{marked}
use Rattle.bitmap.proofs.Lists.{same-marks}
use Rattle.primary_protocol.specs.Core.{PrimaryState, fresh, is_established}
use Rattle.primary_protocol.specs.Transitions.{open_end, open_tests, opened, submit, whole_blocks, close_end}
use Rattle.primary_protocol.specs.Leaves.{Leaves, marks_in}
use Rattle.primary_protocol.specs.Node.{NodeState, NodeHas, NodeIsHad, NodeSteps, primary_step}
use Rattle.primary_protocol.specs.Steps.{IsReached, Agrees, replied, plainly}
use Rattle.primary_protocol.proofs.Common.Marks.{length-marks, marked-in}
use Rattle.primary_protocol.proofs.Node.Due.{IsStill, is-still, stood, kept-leaves}
use Rattle.primary_protocol.proofs.Node.Keeps.{Keeps, unchanged, keeps-self, keeps-following, submits-keeps, closes-keeps}
use Rattle.primary_protocol.proofs.Node.Runs.{node-steps, node-refused, opens-to, submits-to}
use Rattle.primary_protocol.proofs.Connect.Opens.{fresh-is, opens-agree}
use Rattle.primary_protocol.proofs.Close.Closes.{closes-agree}
use Rattle.primary_protocol.proofs.Submit.Submits.{submits-agree}
use Rattle.std.proofs.Common.{drop}

-- A new node.

marks-are : (marks : List Bool) → marks_in (length marks) (marked marks) ≡ marks
marks-are marks =
    let size = length-marks (length marks) (marked marks) in
    same-marks (marks_in (length marks) (marked marks)) marks size (λ block inside. marked-in (length marks) (marked marks) block (omega arith))

-- A new node has the opening over what its disk holds.
pub opening-has : (settings : Settings) (disk : List (List ℕ)) (tuple : Tuple) (marks : List Bool) → IsInRange settings
    → IsDisk settings.blocks (slice_get disk) → length marks ≡ settings.blocks
    → (faithful : Bool) → NodeHas (record { core = fresh settings tuple marks; disk = disk; pushed = []; taken = []; faithful = faithful })
    (primary_opening settings (slice_get disk) tuple (λ block. unwrap_or (slice_get marks block) false))
opening-has settings disk tuple marks ranges sized size faithful = record {
  leaves = record {
    core = subst (λ (l : List Bool). Leaves (fresh settings tuple l) (primary_opening settings (slice_get disk) tuple (marked marks)))
        (ap (λ n. marks_in n (marked marks)) (sym size) ∙ marks-are marks) (fresh-is settings (slice_get disk) tuple (marked marks));
    disk = λ block. refl;
    pushed = refl;
    taken = refl;
    faithful = λ _. refl;
  };
  reached = record { settings = settings; disk = slice_get disk; tuple = tuple; marks = marked marks; events = []; ranges = ranges; sized = sized; is = refl };
}

-- Calls that take no frame, push none and leave the disk.

-- the history keeps all that the core does not see
abbrev pub IsPlain : PrimaryEvent → Type 0
IsPlain event = (h : PrimaryHistory) → Keeps h (unchanged h) (primary_step event h).1

-- the call is the step, where its transition is
pub node-plain : {R : Type 0} (event : PrimaryEvent) (n : NodeState) (as_reply : R → Reply) (result : Result R Refusal) (core : PrimaryState) → IsPlain event
    → ((h : PrimaryHistory) → IsReached h → Leaves n.core h → Agrees as_reply (result, core) (primary_step event h))
    → NodeSteps event n (replied as_reply result) (record n { core = core })
node-plain event n as_reply result core plain agrees = node-steps event n (replied as_reply result) (record n { core = core }) (λ h has.
    let same = agrees h has.reached has.leaves.core in
    record {
      reply = same.reply;
      leaves = kept-leaves n core n.disk n.taken h (primary_step event h).1 (unchanged h) has.leaves same.leaves
          (plain h) has.leaves.disk has.leaves.taken n.faithful has.leaves.faithful;
    })

-- what was due is due still, and no stream has begun
pub plain-still : (event : PrimaryEvent) (n next : NodeState) (reply : Reply) → IsPlain event → NodeIsHad n → NodeSteps event n reply next
    → IsStill n.core next.core × (is_established next.core ≡ true → is_established n.core ≡ true)
plain-still event n next reply plain had steps =
    let h = had.history in
    let later = steps.after h had.has in (
      is-still n.core next.core h (primary_step event h).1 (unchanged h) had.has.leaves.core had.has.reached later.leaves.core later.reached (plain h),
      λ standing. stood n.core next.core h (primary_step event h).1 (unchanged h) had.has.leaves.core later.leaves.core (plain h) refl standing,
    )

-- it closes
pub node-closes : (n : NodeState) (result : Result ℕ Refusal) (core : PrimaryState) → (result, core) ≡ close_end n.core
    → NodeSteps Closes n (replied reply.Closed result) (record n { core = core })
node-closes n result core is = node-plain Closes n reply.Closed result core closes-keeps
    (λ h reached left. subst (λ (p : Result ℕ Refusal × PrimaryState). Agrees reply.Closed p (step.close_primary h)) (sym is)
    (closes-agree n.core h reached left))

-- it accepts a write
pub node-submits : (n : NodeState) (first : ℕ) (bytes : List ℕ) (out_of_memory : Bool) (result : Result Done Refusal) (core : PrimaryState)
    → (result, core) ≡ submit first bytes out_of_memory n.core
    → NodeSteps (Submits first (whole_blocks bytes) out_of_memory) n (replied reply.Ok result) (record n { core = core })
node-submits n first bytes out_of_memory result core is = node-plain (Submits first (whole_blocks bytes) out_of_memory) n reply.Ok result core
    (submits-keeps first (whole_blocks bytes) out_of_memory)
    (λ h reached left. subst (λ (p : Result Done Refusal × PrimaryState). Agrees reply.Ok p (step.submit first (whole_blocks bytes) out_of_memory h)) (sym is)
    (submits-agree first bytes out_of_memory n.core h reached left))

-- the report names the write by the number of all that were accepted
pub submit-number : (n : NodeState) (first : ℕ) (contents : List (List ℕ)) (out_of_memory : Bool) (done : Done) (core : PrimaryState) → NodeIsHad n
    → NodeSteps (Submits first contents out_of_memory) n (reply.Ok done) (record n { core = core })
    → done.what ≡ what.Write core.log.accepted
submit-number n first contents out_of_memory done core had steps = ap returned to
    ∙ ap what.Write (sym ((steps.after h had.has).leaves.core.rest.log.accepted
    ∙ (ap (λ (p : Reply × PrimaryHistory). length p.1.writes) (submits-to first contents out_of_memory h done said) ∙ count)))
  where
    h : PrimaryHistory
    h = had.history

    said : reply.Ok done ≡ (step.submit first contents out_of_memory h).0
    said = steps.replies h had.has

    to : reply.Ok done ≡ (step.succeeding (what.Write (suc (length h.writes))) (step.submitted h first contents)).0
    to = said ∙ ap (λ (p : Reply × PrimaryHistory). p.0) (submits-to first contents out_of_memory h done said)

    returned : Reply → What
    returned (reply.Ok d) = d.what
    returned r = what.Nothing

    grown : (h : PrimaryHistory) (a : Accepted) → length (h.writes ++ a ∷ []) ≡ suc (length h.writes)
    grown h a = length-append h.writes (a ∷ []) ∙ omega arith

    count : length (step.follows (step.submitted h first contents)).history.writes ≡ suc (length h.writes)
    count = following-from (λ g. length g.writes ≡ suc (length h.writes)) (λ g. length g.writes ≡ suc (length h.writes))
        (λ g. length g.writes ≡ suc (length h.writes))
        (λ g is. is) (λ g over is. is) (λ g on is. is) (λ g over is. is) (λ g is. is) (step.submitted h first contents)
        (go (model.is_established (primary_connection h)))
      where
        go : (b : Bool) → length (elim b as (λ _. PrimaryHistory) [
          | true ↦ step.appending (WriteItem (step.submission h first contents))
              (record h {
                writes = h.writes ++ record {
                  write = step.submission h first contents;
                  journal_length = length h.journal;
                  home = Some (record { index = last_index h.connections; place = length (primary_connection h).stream });
                  outcome = Waiting;
                } ∷ [];
              })
          | false ↦ record h {
            writes = h.writes ++ record {
              write = step.submission h first contents;
              journal_length = length h.journal;
              home = None;
              outcome = Waiting;
            } ∷ [];
            marks = marking (step.submission h first contents) h.marks;
          }
        ]).writes ≡ suc (length h.writes)
        go true = grown h _
        go false = grown h _

-- Opening.

-- the connection that is opened
abbrev new : ℕ → ℕ → PrimaryHistory → PrimaryConnection
new sync loss h = new_primary_connection sync loss h.tuple

opened-keeps : (sync loss : ℕ) (h : PrimaryHistory) → reply.Ok (done_with what.Nothing) ≡ (step.open_primary sync loss false h).0
    → Keeps (step.opened h sync loss) (unchanged (step.opened h sync loss)) (step.open_primary sync loss false h).1
opened-keeps sync loss h said =
    subst (Keeps (step.opened h sync loss) (unchanged (step.opened h sync loss))) (sym (opens-to sync loss false h (done_with what.Nothing) said))
    (keeps-following (step.opened h sync loss) (step.opened h sync loss) (unchanged (step.opened h sync loss)) (keeps-self (step.opened h sync loss)))

-- the end is opened over new ends of a link
pub node-opened : (n : NodeState) (sync loss : ℕ) (core : PrimaryState) → (Ok tt, core) ≡ open_end sync loss false n.core
    → NodeSteps (Opens sync loss false) n (replied plainly (Ok tt)) (record { core = core; disk = n.disk; pushed = []; taken = []; faithful = n.faithful })
node-opened n sync loss core is = node-steps (Opens sync loss false) n (replied plainly (Ok tt))
    (record { core = core; disk = n.disk; pushed = []; taken = []; faithful = n.faithful }) (λ h has.
    let agrees = subst (λ (p : Result (Unit {0}) Refusal × PrimaryState). Agrees plainly p (step.open_primary sync loss false h)) (sym is)
    (opens-agree sync loss false n.core h has.reached has.leaves.core) in
    let later : PrimaryHistory = (step.open_primary sync loss false h).1 in
    let k = opened-keeps sync loss h agrees.reply in
    let last : primary_connection (step.opened h sync loss) ≡ new sync loss h = last-more (no_primary_connection h.tuple)
    (new sync loss h) h.connections in record {
      reply = agrees.reply;
      leaves = record {
        core = agrees.leaves;
        disk = λ block. has.leaves.disk block ∙ sym (k.disk block);
        pushed = sym (ap (λ n. take n (frames_due later.settings (primary_connection later))) (k.pushed ∙ ap (λ (c : PrimaryConnection). c.pushed) last));
        taken = sym (k.taken ∙ ap (λ (c : PrimaryConnection). c.taken) last);
        faithful = λ is. k.faithful ∙ has.leaves.faithful is;
      };
    })

-- an end that was not opened
pub node-not-opened : (n : NodeState) (sync loss : ℕ) (out_of_memory : Bool) (e : Refusal) (core : PrimaryState)
    → (Err e, core) ≡ open_end sync loss out_of_memory n.core
    → NodeSteps (Opens sync loss out_of_memory) n (reply.Refused e) n
node-not-opened n sync loss out_of_memory e core is = node-refused (Opens sync loss out_of_memory) tt n e (λ h has.
    (subst (λ (p : Result (Unit {0}) Refusal × PrimaryState). Agrees plainly p (step.open_primary sync loss out_of_memory h)) (sym is)
    (opens-agree sync loss out_of_memory n.core h has.reached has.leaves.core)).reply)

-- what an opening that is done was tested for, and what it leads to
pub opened-core : (sync loss : ℕ) (s core : PrimaryState) → (Ok tt, core) ≡ open_end sync loss false s → (is_some s.end ≡ false) × (core ≡ opened sync loss s)
opened-core sync loss s core is = go (first_refusal (open_tests sync loss false s)) refl is
  where
    go : (v : Option Refusal) → first_refusal (open_tests sync loss false s) ≡ v
        → (Ok tt, core) ≡ elim v as (λ _. Result (Unit {0}) Refusal × PrimaryState) [ Some refusal ↦ (Err refusal, s) | None ↦ (Ok tt, opened sync loss s) ]
        → (is_some s.end ≡ false) × (core ≡ opened sync loss s)
    go (Some refusal) none is = let one : Ok tt ≡ Err refusal = ap (λ (p : Result (Unit {0}) Refusal × PrimaryState). p.0) is in absurd (cc)
    go None none is = (
      (test-passed (is_some s.end) NotDrained (drop 1 (open_tests sync loss false s)) none).0,
      ap (λ (p : Result (Unit {0}) Refusal × PrimaryState). p.1) is,
    )

-- an opening that is refused leaves the core
pub not-opened-core : (sync loss : ℕ) (out_of_memory : Bool) (s core : PrimaryState) (e : Refusal) → (Err e, core) ≡ open_end sync loss out_of_memory s
    → core ≡ s
not-opened-core sync loss out_of_memory s core e is = go (first_refusal (open_tests sync loss out_of_memory s)) is
  where
    go : (v : Option Refusal) → (Err e, core) ≡ elim v as (λ _. Result (Unit {0}) Refusal × PrimaryState)
        [ Some refusal ↦ (Err refusal, s) | None ↦ (Ok tt, opened sync loss s) ] → core ≡ s
    go (Some refusal) is = ap (λ (p : Result (Unit {0}) Refusal × PrimaryState). p.1) is
    go None is = let one : Err e ≡ Ok tt = ap (λ (p : Result (Unit {0}) Refusal × PrimaryState). p.0) is in absurd (cc)

-- no stream stands at a closed end
pub shut-established : (n : NodeState) → NodeIsHad n → is_some n.core.end ≡ false → is_established n.core ≡ false
shut-established n had shut =
    let left = had.has.leaves.core in
    let c = primary_connection had.history in
    established-same n.core had.history left ∙ ap (λ b. b && c.begun) (sym (end-open n.core.end c left.rest.end) ∙ shut)
