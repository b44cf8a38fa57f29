-- What was told stands in the history.
use Rattle.std.proofs.Common.{ℕ, suc, ◌≡◌, Bool, false, List, [], ◌∷◌, ◌++◌, refl, sym, ◌∙◌, ap, subst}
use Rattle.std.specs.Prelude.{IsTrue}
use mathlib.Core.List.{IsPrefix, append_assoc}
use Rattle.model.specs.Primary.{PrimaryHistory, primary_opening}
use Rattle.model.specs.LocalRuns.{PrimaryEvent, Submits, Receipts, primary_run}
use Rattle.model.specs.Settlement.{Receipt}
use Rattle.primary_protocol.specs.Steps.{IsReached}
use Rattle.primary_protocol.specs.Transitions.{whole_blocks}
use Rattle.told.specs.declared.entry.Told.{Told}
use Rattle.told.specs.declared.entry.Told.TheVariants.{Accepted, Given, Held, Patched}
use Rattle.device_parts.specs.Places.{laid_over}
use Rattle.told.specs.Log.{Leads, Happens, AreTold, IsPatching, IsSubmitted, WasTold, EndsWith}
use Rattle.told.specs.Stands.{IsEntry, IsPatched, IsWritten, Moment, Stands, AllReadOwn}
use Rattle.told.proofs.Telling.{leads-self, leads-on, run-both}
use Rattle.told.proofs.Entries.{entry-stays, given-entry}
use Rattle.told.proofs.OwnWrites.{reads-own}
use Rattle.told.proofs.Writes.{written, write-stays}

-- the moment's step is a step
happens-leads : (faithful : Bool) (told : Told) (h after : PrimaryHistory) → Happens faithful told h after → Leads h after
happens-leads faithful (Accepted number first bytes) h after happens = (Submits first (whole_blocks bytes) false ∷ [], happens.3)
happens-leads faithful (Patched number block from bytes) h after happens =
    (Submits block (whole_blocks (laid_over from bytes happens.old)) false ∷ [], happens.submitted.3)
happens-leads faithful (Given receipt) h after happens = (Receipts receipt.number ∷ [], happens.1)
happens-leads faithful (Held first count bytes) h after happens = ([], happens.1)

told-leads : (faithful : Bool) (log : List Told) (a h : PrimaryHistory) → AreTold faithful log a h → Leads a h
told-leads faithful [] a h told = told
told-leads faithful (one ∷ log) a h told =
    leads-on a told.0 h told.2 (leads-on told.0 told.1 h (happens-leads faithful one told.0 told.1 told.3) (told-leads faithful log told.1 h told.4))

-- a log in two parts
told-apart : (faithful : Bool) (before after : List Told) (a h : PrimaryHistory) → AreTold faithful (before ++ after) a h
    → (between : PrimaryHistory) × AreTold faithful before a between × AreTold faithful after between h
told-apart faithful [] after a h told = (a, leads-self a, told)
told-apart faithful (one ∷ before) after a h told =
    let rest = told-apart faithful before after told.1 h told.4 in (rest.0, (told.0, told.1, told.2, told.3, rest.1), rest.2)

written-stays : (number first : ℕ) (bytes : List ℕ) (h later : PrimaryHistory) → Leads h later → IsWritten h number first bytes
    → IsWritten later number first bytes
written-stays number first bytes h later leads is =
    let there = write-stays is.0 (record { number = number; first = first; contents = whole_blocks bytes }) leads.0 h (is.2, is.3, is.4) in
    subst (λ l. IsWritten l number first bytes) (sym leads.1) (is.0, is.1, there.0, there.1, there.2)

entry-on : (receipt : Receipt) (h later : PrimaryHistory) → Leads h later → IsEntry h receipt → IsEntry later receipt
entry-on receipt h later leads is = subst (λ l. IsEntry l receipt) (sym leads.1) (entry-stays receipt leads.0 h is)

patched-stays : (number block from : ℕ) (bytes : List ℕ) (h later : PrimaryHistory) → Leads h later → IsPatched h number block from bytes
    → IsPatched later number block from bytes
patched-stays number block from bytes h later leads is = record {
  old = is.old;
  written = written-stays number block (laid_over from bytes is.old) h later leads is.written;
}

written-after : (number first : ℕ) (bytes : List ℕ) (h after : PrimaryHistory) → IsSubmitted number first bytes h after → IsWritten after number first bytes
written-after number first bytes h after happens =
    let now = written h first (whole_blocks bytes) happens.0 number happens.1 happens.2 in
    subst (λ l. IsWritten l number first bytes) (sym happens.3) (now.0, now.1, now.2.0, now.2.1, now.2.2)

-- Each write that was told of stands where the telling led.
pub writes-stand : (faithful : Bool) (log : List Told) (a h : PrimaryHistory) → AreTold faithful log a h → (number first : ℕ) (bytes : List ℕ)
    → WasTold log (Accepted number first bytes) → IsWritten h number first bytes
writes-stand faithful log a h told number first bytes was =
    let apart = told-apart faithful was.0 (Accepted number first bytes ∷ was.1) a h (subst (λ l. AreTold faithful l a h) was.2 told) in
    let here = apart.2 in
    written-stays number first bytes here.1 h (told-leads faithful was.1 here.1 h here.4) (written-after number first bytes here.0 here.1 here.3)

-- Each write within a block that was told of stands there, too.
pub patches-stand : (faithful : Bool) (log : List Told) (a h : PrimaryHistory) → AreTold faithful log a h → (number block from : ℕ) (bytes : List ℕ)
    → WasTold log (Patched number block from bytes) → IsPatched h number block from bytes
patches-stand faithful log a h told number block from bytes was =
    let apart = told-apart faithful was.0 (Patched number block from bytes ∷ was.1) a h (subst (λ l. AreTold faithful l a h) was.2 told) in
    let here = apart.2 in
    let patching : IsPatching faithful number block from bytes here.0 here.1 = here.3 in
    patched-stays number block from bytes here.1 h (told-leads faithful was.1 here.1 h here.4) (record {
      old = patching.old;
      written = written-after number block (laid_over from bytes patching.old) here.0 here.1 patching.submitted;
    })

-- Each receipt that was told of is of the journal where the telling led.
pub receipts-stand : (faithful : Bool) (log : List Told) (a h : PrimaryHistory) → AreTold faithful log a h → (receipt : Receipt) → WasTold log (Given receipt) → IsEntry h receipt
receipts-stand faithful log a h told receipt was =
    let apart = told-apart faithful was.0 (Given receipt ∷ was.1) a h (subst (λ l. AreTold faithful l a h) was.2 told) in
    let here = apart.2 in
    entry-on receipt here.1 h (told-leads faithful was.1 here.1 h here.4)
    (subst (λ l. IsEntry l receipt) (sym here.3.1) (given-entry here.0 receipt.number receipt here.3.0))

pub reached-on : (h later : PrimaryHistory) → IsReached h → Leads h later → IsReached later
reached-on h later r leads = record {
  settings = r.settings;
  disk = r.disk;
  tuple = r.tuple;
  marks = r.marks;
  events = r.events ++ leads.0;
  ranges = r.ranges;
  sized = r.sized;
  is = sym (run-both r.events leads.0 (primary_opening r.settings r.disk r.tuple r.marks)) ∙ (ap (primary_run leads.0) r.is ∙ sym leads.1);
}

-- All of the log stands in a history that was reached with it.
pub all-stand : (faithful : Bool) (start : PrimaryHistory) (log : List Told) (history : PrimaryHistory) → AreTold faithful log start history
    → Stands faithful start log history
all-stand faithful start log history told = record {
  leads = told-leads faithful log start history told;
  writes = writes-stand faithful log start history told;
  patches = patches-stand faithful log start history told;
  receipts = receipts-stand faithful log start history told;
  moments = λ earlier later one split.
      let apart = told-apart faithful earlier (one ∷ later) start history (subst (λ l. AreTold faithful l start history) split told) in
      let here = apart.2 in
      let reached = leads-on start apart.0 here.0 (told-leads faithful earlier start apart.0 apart.1) here.2 in
      record {
        before = here.0;
        after = here.1;
        reached = reached;
        happens = here.3;
        leads = told-leads faithful later here.1 history here.4;
        writes = λ number first bytes was. written-stays number first bytes apart.0 here.0 here.2
            (writes-stand faithful earlier start apart.0 apart.1 number first bytes was);
        patches = λ number block from bytes was. patched-stays number block from bytes apart.0 here.0 here.2
            (patches-stand faithful earlier start apart.0 apart.1 number block from bytes was);
        receipts = λ receipt was. entry-on receipt apart.0 here.0 here.2 (receipts-stand faithful earlier start apart.0 apart.1 receipt was);
      };
}

-- What a caller was told last is in every log that goes on from there.
pub told-in : (seen log : List Told) (one : Told) → EndsWith seen one → IsPrefix seen log → WasTold log one
told-in seen log one ends pre = (
  ends.0,
  pre.0,
  sym pre.1 ∙ (ap (λ (xs : List Told). xs ++ pre.0) ends.1 ∙ append_assoc ends.0 (one ∷ []) pre.0),
)

-- Each read gives a caller its own.
pub all-read-own : (faithful : Bool) (start : PrimaryHistory) (log : List Told) (history : PrimaryHistory) → IsReached start
    → Stands faithful start log history → AllReadOwn faithful start log history
all-read-own faithful start log history reached all earlier later at count found split =
    let moment = all.moments earlier later (Held at count found) split in (
      moment,
      λ receipt first bytes wrote took still offset within inside none. reads-own moment.before
          (reached-on start moment.before reached moment.reached) receipt first bytes (moment.writes receipt.number first bytes wrote)
          (moment.receipts receipt took) at count found (moment.happens.0 still) offset within inside none,
      λ receipt block from bytes wrote took still.
          let patched = moment.patches receipt.number block from bytes wrote in record {
            old = patched.old;
            own = λ offset within inside none. reads-own moment.before (reached-on start moment.before reached moment.reached) receipt block
                (laid_over from bytes patched.old) patched.written (moment.receipts receipt took) at count found (moment.happens.0 still) offset within
                inside none;
          },
    )
