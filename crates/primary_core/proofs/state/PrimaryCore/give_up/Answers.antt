use Rattle.std.proofs.Common.{◌≡◌, ◌++◌, List, length, take, drop, refl, sym, ◌∙◌, ap, arith, ℕ}
use Rattle.std.proofs.Math.Seq.{take-append_seam}
use Rattle.bitmap.proofs.Lists.{length-marking}
use Rattle.blocks.specs.Ranges.{is_between}
use Rattle.overlap.specs.Holdings.{without}
use Rattle.primary_protocol.specs.Core.{JournalEntry}
use Rattle.primary_core.specs.State.{held_with, way_at}
use Rattle.primary_core.proofs.Held.{without-held, writers-without}
use Rattle.primary_core.proofs.state.PrimaryCore.give_up.Goals as goal

-- a whole list written over another of its length
whole : (n : ℕ) (old new : List JournalEntry) → n ≡ length new → take n (new ++ drop (length new) old) ≡ new
whole n old new is = rw is (take-append_seam new (drop (length new) old))

pub invariant_of-self : goal.invariant_of-self
invariant_of-self c =
    let s = c.self.inside in
    let is = c.self.invariant in
    record {
      sound = record {
        in_range = is.sound.in_range;
        log = is.sound.log;
        marks = ap length c.mark.ensures ∙ (length-marking 0 (is_between c.args.range.first.0 c.args.range.count) s.marks ∙ is.sound.marks);
        counted = is.sound.counted;
        standing = is.sound.standing;
        places = is.sound.places;
      };
      flagged = is.flagged;
      writers = rw c.release.ensures (writers-without s.log.state.accepted c.args.number s.held is.writers);
      room = is.room;
    }

pub returns-clause-state : goal.returns-clause-state
returns-clause-state c =
    let s = c.self.inside in
    let entries = whole s.entries.len s.entries.items c.set_fate.new.entries (omega (arith, c.set_fate.auto.entries, c.deref_mut.ensures.len))
    ∙ c.set_fate.ensures in
    let way = way_at s.connection in
    let held : held_with way c.release.new.self ≡ without c.args.number (held_with way s.held) =
    ap (held_with way) c.release.ensures ∙ sym (without-held c.args.number way s.held c.requires.numbered) in
    rw (← c.self.view_is) (rw (entries, c.deref_mut.ensures.value, held, c.mark.ensures) refl)
