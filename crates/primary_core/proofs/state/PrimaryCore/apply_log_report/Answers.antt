use Rattle.std.proofs.Common.{◌≡◌, ◌++◌, ℕ, List, length, take, drop, sym, ◌∙◌, ap, arith, refl}
use Rattle.std.proofs.Math.Seq.{take-append_seam}
use Rattle.transferlog.specs.declared.report.Completed.{Completed}
use Rattle.transferlog.specs.declared.report.Released.{Released}
use Rattle.primary_protocol.specs.Core.{JournalEntry, entering, freeing, leaving}
use Rattle.primary_core.specs.State.{state_of, held_with, way_at}
use Rattle.primary_core.proofs.Held.{freeing-held, writers-freeing}
use Rattle.primary_core.proofs.Reports.{sound-reporting}
use Rattle.primary_core.proofs.state.PrimaryCore.apply_log_report.Goals as goal

-- a whole list written over another of its length
whole : (n : ℕ) (old new : List JournalEntry) → n ≡ length new → take n (new ++ drop (length new) old) ≡ new
whole n old new is = rw is (take-append_seam new (drop (length new) old))

pub invariant_of-self : goal.invariant_of-self
invariant_of-self c =
    let s = c.self.inside in
    let completed = s.log.state.completed in
    let free : c.free.new.held ≡ freeing completed s.held = c.free.ensures ∙ ap (λ (l : List Completed). freeing l s.held) c.completed-2.ensures in
    let is = c.self.invariant in
    let after = sound-reporting (state_of s) is.sound in
    record {
      sound = record {
        in_range = is.sound.in_range;
        log = is.sound.log;
        marks = ap length c.unmark.ensures ∙ after.marks;
        counted = rw (c.leave.ensures, c.released.ensures) after.counted;
        standing = is.sound.standing;
        places = is.sound.places;
      };
      flagged = is.flagged;
      writers = rw free (writers-freeing s.log.state.accepted completed s.held is.writers);
      room = is.room;
    }

pub returns-clause-state : goal.returns-clause-state
returns-clause-state c =
    let s = c.self.inside in
    let completed = s.log.state.completed in
    let entries = whole s.entries.len s.entries.items c.enter.new.entries (omega (arith, c.enter.auto.entries, c.deref_mut.ensures.len))
    ∙ (c.enter.ensures ∙ (ap (λ (l : List Completed). entering l c.deref_mut.result.now) c.completed.ensures
    ∙ ap (entering completed) c.deref_mut.ensures.value)) in
    let way = way_at s.connection in
    let held : held_with way c.free.new.held ≡ freeing completed (held_with way s.held) =
    ap (held_with way) (c.free.ensures ∙ ap (λ (l : List Completed). freeing l s.held) c.completed-2.ensures)
    ∙ sym (freeing-held completed way s.held c.self.invariant.sound.log.completed) in
    let activity = c.leave.ensures ∙ ap (λ (l : List Released). leaving l s.activity) c.released.ensures in
    rw (← c.self.view_is) (rw (entries, held, activity, c.unmark.ensures) refl)
