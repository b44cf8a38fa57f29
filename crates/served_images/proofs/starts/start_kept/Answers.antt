use Rattle.std.proofs.Common.{ℕ, ◌≡◌, ◌<◌, ◌&&◌, true, nat_lt, Bool, List, refl, sym, ◌∙◌, ap, arith}
use Rattle.std.proofs.lemmas.Bool.Decides.{nat_tests}
use Rattle.bitmap.specs.Marks.{count, marked}
use Rattle.blocks.specs.declared.settings.Settings.{Settings}
use Rattle.blocks.specs.declared.tuple.Tuple.{Tuple}
use Rattle.served_images.proofs.Marking.{marked-honest, some-marked}
use Rattle.served_images.proofs.starts.start_kept.Goals as goal

pub returns-in-Ok-parts_of : goal.returns-in-Ok-parts_of
returns-in-Ok-parts_of g c =
    let parts = c.in-Ok-parts_of.parts in
    let marks = c.in-Ok-parts_of.ensures.marks in
    let settings = c.in-Ok-parts_of.ensures.settings in
    let identifiers = c.in-Ok-parts_of.ensures.identifiers in
    let chosen = c.first_identifiers.ensures in
    record {
      settings = settings;
      compared = λ how faithful block low. ap (λ (l : List Bool). marked l block) marks ∙ c.in_ok-marks.ensures.compared how faithful block low;
      unmarked = λ other block. ap (λ (l : List Bool). marked l block) marks ∙ c.in_ok-marks.ensures.unmarked other block;
      parted = λ how block is.
          let some : 0 < count c.in_ok-marks.marks = some-marked c.in_ok-marks.marks block (sym (ap (λ (l : List Bool). marked l block) marks) ∙ is) in
          let more : 0 < c.count-count.result = omega (arith, some, c.count-count.ensures) in
          ap (λ (t : Tuple). t.bitmap) identifiers.0 ∙ chosen.parted how (grind (arith, nat_tests)) ∙ sym (ap (λ (t : Tuple). t.current) identifiers.1);
      copied = λ how. identifiers.1 ∙ chosen.copied how;
      totals = refl;
      local = c.first_marks.ensures.read.local;
      peer = c.first_marks.ensures.read.peer;
      honest = λ trusted. marked-honest c.args.how parts.own parts.peer _ c.first_marks.new.disks.local c.first_marks.new.disks.peer
          (omega (arith, ap (λ (t : Tuple). t.current) identifiers.0, chosen.own))
          (λ other. ap (λ (t : Tuple). t.bitmap) identifiers.0 ∙ chosen.bitmap other)
          (λ how. ap (λ (t : Tuple). t.current) (identifiers.1 ∙ chosen.copied how))
          (λ how block differ. (λ i. nat_lt block (settings i).blocks && marked (marks i) block)
          ∙ c.in_ok-marks.ensures.cover how trusted.faithful block differ)
          trusted.equal;
    }
