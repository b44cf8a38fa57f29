-- A state stays sound where what the log reports is put down.
use Rattle.std.proofs.Common.{ℕ, zero, suc, ◌≡◌, ◌-◌, ◌==◌, Bool, true, false, refl, ◌∙◌, arith, List, [], ◌∷◌, length, length-append}
use Rattle.std.proofs.lemmas.List.{length-map}
use Rattle.std.specs.Prelude.{if◌then◌else◌}
use Rattle.std.specs.List.{AllByRecursion}
use Rattle.blocks.specs.Ranges.{below}
use Rattle.activitylog.specs.Activity.{Active, ActivityState, one_less, ended}
use Rattle.model.specs.Contents.{extent_of}
use Rattle.transferlog.specs.declared.report.Released.{Released}
use Rattle.primary_protocol.specs.Core.{PrimaryState, leaving, unmarking, reporting}
use Rattle.primary_core.specs.Kept.{IsSound, IsCounted}

pub length-below : (n : ℕ) → length (below n) ≡ n
length-below zero = refl
length-below (suc n) = simp length-append (omega (arith, length-below n))

pub length-unmarking : (released : List Released) (last_writes : List ℕ) (marks : List Bool) → length (unmarking released last_writes marks) ≡ length marks
length-unmarking released last_writes marks = length-map (below (length marks)) _ ∙ length-below (length marks)

less : (accepted extent : ℕ) (b : Bool) (a : Active) (active : List Active) → IsCounted accepted a → AllByRecursion (IsCounted accepted) active
    → AllByRecursion (IsCounted accepted) (one_less extent active)
    → AllByRecursion (IsCounted accepted) (if b then record a { writes = a.writes - 1 } ∷ active else a ∷ one_less extent active)
less accepted extent true a active here all rest = (omega (arith, here), all)
less accepted extent false a active here all rest = (here, rest)

counted-less : (accepted extent : ℕ) (active : List Active) → AllByRecursion (IsCounted accepted) active
    → AllByRecursion (IsCounted accepted) (one_less extent active)
counted-less accepted extent [] all = tt
counted-less accepted extent (a ∷ active) all = less accepted extent (extent == a.extent) a active all.0 all.1 (counted-less accepted extent active all.1)

counted-leaving : (accepted : ℕ) (released : List Released) (activity : ActivityState) → AllByRecursion (IsCounted accepted) activity.active
    → AllByRecursion (IsCounted accepted) (leaving released activity).active
counted-leaving accepted [] activity all = all
counted-leaving accepted (r ∷ released) activity all = counted-leaving accepted released (ended (extent_of r.first) activity)
    (counted-less accepted (extent_of r.first) activity.active all)

pub sound-reporting : (s : PrimaryState) → IsSound s → IsSound (reporting s)
sound-reporting s is = record {
  in_range = is.in_range;
  log = is.log;
  marks = length-unmarking s.log.released s.log.last_writes s.marks ∙ is.marks;
  counted = counted-leaving s.log.accepted s.log.released s.activity is.counted;
  standing = is.standing;
  places = is.places;
}
