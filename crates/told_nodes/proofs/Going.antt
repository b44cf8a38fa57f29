-- What was told stays told while the node goes on, and something more may be told.
use Rattle.std.proofs.Common.{ℕ, ◌≡◌, Bool, true, false, List, [], ◌∷◌, ◌++◌, Option, Some, None, Result, Ok, Err, refl, sym, ◌∙◌, subst}
use Rattle.std.specs.Prelude.{IsTrue}
use Rattle.model.specs.Primary.{PrimaryHistory}
use Rattle.blocks.specs.declared.refusal.Refusal.{Refusal}
use Rattle.blocks.specs.declared.refusal.Refusal.TheVariants.{LocalFault}
use Rattle.blocks.specs.declared.outcome.Done.{Done}
use Rattle.blocks.specs.declared.outcome.Reply.{Reply}
use Rattle.blocks.specs.declared.outcome.Reply.TheVariants as reply
use Rattle.blocks.specs.declared.outcome.What.TheVariants as what
use Rattle.endpoint.specs.Calls.{is_out_of_memory}
use Rattle.model.specs.LocalRuns.{Opens, Submits, primary_run}
use Rattle.primary_protocol.specs.Node.{primary_step}
use Rattle.primary_protocol.specs.Steps.{replied}
use Rattle.primary_protocol.specs.Transitions.{whole_blocks}
use Rattle.model.specs.Theorems.{Opening}
use Rattle.primary.specs.State.{PrimaryView}
use Rattle.session_nodes.specs.Primaries.{PrimaryGoesOn, PrimaryHas, PrimaryIsHad, PrimarySteps}
use Rattle.told.specs.declared.entry.Told.{Told}
use Rattle.told.specs.declared.entry.Told.TheVariants.{Accepted, Patched}
use Rattle.model.specs.Contents.{IsRead}
use Rattle.model.specs.Primary.{local_map}
use Rattle.device_parts.specs.Places.{laid_over}
use Rattle.told.specs.Log.{AreTold, Happens, IsSubmitted, Leads}
use Rattle.told.proofs.Settling.{settled}
use Rattle.told.proofs.Telling.{leads-self, told-falls, told-more, told-on}
use Rattle.told.proofs.Standing.{all-read-own, all-stand}
use Rattle.told_nodes.specs.Told.{AllStand, IsTold}

-- a later history of the node, which has it
pub record Later (w : PrimaryView) (Leading : PrimaryHistory → Type 0) : Type 0 where
  pub history : PrimaryHistory
  pub has : PrimaryHas w history
  pub leads : Leading history

-- The node goes on, and nothing is told.
pub stays : {opening : Option Opening} (log : List Told) (v w : PrimaryView) → IsTold opening log v → (IsTrue w.faithful → IsTrue v.faithful)
    → ((h : PrimaryHistory) → PrimaryHas v h → Later w (Leads h)) → IsTold opening log w
stays log v w is falls next = let later = next is.history is.has in record {
  start = is.start;
  reached = is.reached;
  began = is.began;
  history = later.history;
  has = later.has;
  told = told-on w.faithful log is.start is.history later.history (told-falls v.faithful w.faithful log is.start is.history falls is.told) later.leads;
}

-- It goes on by itself.
pub goes-on : {opening : Option Opening} (log : List Told) (v w : PrimaryView) → IsTold opening log v → PrimaryGoesOn v w → IsTold opening log w
goes-on log v w is on = stays log v w is on.falls
    (λ h was. let run = on.leads h was in record { history = primary_run run.0 h; has = run.1.1; leads = (run.0, refl) })

-- The node goes on, and this is told of it.
pub tells : {opening : Option Opening} (log log_later : List Told) (one : Told) (v w : PrimaryView) → IsTold opening log v → log_later ≡ log ++ one ∷ []
    → (IsTrue w.faithful → IsTrue v.faithful) → ((h : PrimaryHistory) → PrimaryHas v h → Later w (Happens w.faithful one h)) → IsTold opening log_later w
tells {opening} log log_later one v w is grown falls next =
    let later = next is.history is.has in subst (λ l. IsTold opening l w) (sym grown) (record {
      start = is.start;
      reached = is.reached;
      began = is.began;
      history = later.history;
      has = later.has;
      told = told-more w.faithful log one is.start is.history later.history
          (told-falls v.faithful w.faithful log is.start is.history falls is.told) later.leads;
    })

-- The node goes on by a submission.
stepped : {opening : Option Opening} (log : List Told) (v w : PrimaryView) (first : ℕ) (contents : List (List ℕ)) (result : Result (ℕ × Done) Refusal)
    → IsTold opening log v → (IsTrue w.faithful → IsTrue v.faithful)
    → PrimarySteps (Submits first contents (is_out_of_memory result)) v (replied (λ accepted. reply.Ok accepted.1) result) w → IsTold opening log w
stepped log v w first contents result is falls steps = stays log v w is falls (λ h was. record {
  history = (primary_step (Submits first contents (is_out_of_memory result)) h).1;
  has = steps.after h was;
  leads = (Submits first contents (is_out_of_memory result) ∷ [], refl);
})

-- A submission is refused, and nothing is told: a step that changes nothing, or no step where the metadata's file failed.
pub submit-stays : {opening : Option Opening} (log : List Told) (v w : PrimaryView) (first : ℕ) (contents : List (List ℕ)) (result : Result (ℕ × Done) Refusal)
    → IsTold opening log v → (IsTrue w.faithful → IsTrue v.faithful)
    → ((result ≡ Err LocalFault → ⊥) → PrimarySteps (Submits first contents (is_out_of_memory result)) v (replied (λ accepted. reply.Ok accepted.1) result) w)
    → (result ≡ Err LocalFault → w ≡ v) → IsTold opening log w
submit-stays {opening} log v w first contents (Err LocalFault) is falls steps same = subst (IsTold opening log) (sym (same refl)) is
submit-stays {opening} log v w first contents (Err e) is falls steps same = stepped log v w first contents (Err e) is falls (steps (λ wrong. cc))
submit-stays {opening} log v w first contents (Ok accepted) is falls steps same = stepped log v w first contents (Ok accepted) is falls (steps (λ wrong. cc))

-- A submission is accepted, and this is told.
pub submit-tells : {opening : Option Opening} (log log_later : List Told) (v w : PrimaryView) (first : ℕ) (bytes : List ℕ) (number : ℕ) (done : Done)
    → IsTold opening log v → log_later ≡ log ++ Accepted number first bytes ∷ [] → (IsTrue w.faithful → IsTrue v.faithful)
    → PrimarySteps (Submits first (whole_blocks bytes) false) v (reply.Ok done) w → done.what ≡ what.Write number → IsTold opening log_later w
submit-tells log log_later v w first bytes number done is grown falls steps written = tells log log_later (Accepted number first bytes) v w is grown falls (λ h was. record {
  history = (primary_step (Submits first (whole_blocks bytes) false) h).1;
  has = steps.after h was;
  leads = (done, steps.replies h was, written, refl);
})

-- The disk was read, and nothing is told.
pub read-stays : {opening : Option Opening} (log : List Told) (v w : PrimaryView) → IsTold opening log v → (IsTrue w.faithful → IsTrue v.faithful)
    → ((h : PrimaryHistory) → PrimaryHas v h → PrimaryHas w h) → IsTold opening log w
read-stays log v w is falls kept = stays log v w is falls (λ h was. record { history = h; has = kept h was; leads = ([], refl) })

-- A block was read, and a submission of it with these bytes laid over is accepted, and this is told.
pub patch-tells : {opening : Option Opening} (log log_later : List Told) (v m w : PrimaryView) (number block from : ℕ) (bytes old contents : List ℕ) (done : Done)
    → IsTold opening log v → log_later ≡ log ++ Patched number block from bytes ∷ [] → (IsTrue m.faithful → IsTrue v.faithful)
    → (IsTrue m.faithful → (h : PrimaryHistory) → PrimaryHas v h → IsRead (local_map h) block 1 old)
    → ((h : PrimaryHistory) → PrimaryHas v h → PrimaryHas m h) → contents ≡ laid_over from bytes old → (IsTrue w.faithful → IsTrue m.faithful)
    → PrimarySteps (Submits block (whole_blocks contents) false) m (reply.Ok done) w → done.what ≡ what.Write number → IsTold opening log_later w
patch-tells log log_later v m w number block from bytes old contents done is grown read_falls read kept laid falls steps written =
    let stepped_over : PrimarySteps (Submits block (whole_blocks (laid_over from bytes old)) false) m (reply.Ok done) w
    = subst (λ (l : List ℕ). PrimarySteps (Submits block (whole_blocks l) false) m (reply.Ok done) w) laid steps in
    tells log log_later (Patched number block from bytes) v w is grown (λ still. read_falls (falls still)) (λ h was.
    let after : PrimaryHistory = (primary_step (Submits block (whole_blocks (laid_over from bytes old)) false) h).1 in
    let submitted : IsSubmitted number block (laid_over from bytes old) h after = (done, stepped_over.replies h (kept h was), written, refl) in record {
      history = after;
      has = stepped_over.after h (kept h was);
      leads = record {
        old = old;
        read = λ still. read (falls still) h was;
        settled = settled h was.has.reached number block (laid_over from bytes old) after submitted;
        submitted = submitted;
      };
    })

-- The end opens again, or is not opened since the metadata is broken, and nothing is told.
pub reopen-stays : {opening : Option Opening} (log : List Told) (v w : PrimaryView) (broken : Bool) (sync loss : ℕ) (out_of_memory : Bool) (returned : Reply)
    → IsTold opening log v → (IsTrue w.faithful → IsTrue v.faithful) → (broken ≡ false → PrimarySteps (Opens sync loss out_of_memory) v returned w)
    → (broken ≡ true → w ≡ v) → IsTold opening log w
reopen-stays {opening} log v w true sync loss out_of_memory returned is falls steps same = subst (IsTold opening log) (sym (same refl)) is
reopen-stays {opening} log v w false sync loss out_of_memory returned is falls steps same = stays log v w is falls (λ h was. record {
  history = (primary_step (Opens sync loss out_of_memory) h).1;
  has = (steps refl).after h was;
  leads = (Opens sync loss out_of_memory ∷ [], refl);
})

-- a node that was just opened, and nothing is told
pub begins : {opening : Option Opening} (v : PrimaryView) (log : List Told) → log ≡ [] → PrimaryIsHad opening v → IsTold opening log v
begins v log none had = record {
  start = had.history;
  reached = had.has.has.reached;
  began = had.began;
  history = had.history;
  has = had.has;
  told = subst (λ l. AreTold v.faithful l had.history had.history) (sym none) (leads-self had.history);
}

-- All of it stands in the node's history.
pub stand-all : (opening : Option Opening) (log : List Told) (v : PrimaryView) → IsTold opening log v → AllStand opening log v
stand-all opening log v is =
    let stands = all-stand v.faithful is.start log is.history is.told in record {
      start = is.start;
      began = is.began;
      history = is.history;
      has = is.has;
      stands = stands;
      own = all-read-own v.faithful is.start log is.history is.reached stands;
    }
