-- A log stays sound, whatever step it makes.
use Rattle.std.proofs.Common.{ℕ, ◌≡◌, ◌+◌, ◌*◌, ◌≤◌, Bool, not, List, [], ◌∷◌, length, ◌∙◌, arith, length-append, length-take, length-drop}
use Rattle.std.specs.Prelude.{filter, map}
use Rattle.std.specs.List.{AllByRecursion}
use Rattle.std.proofs.lemmas.List.{length-replicate}
use Rattle.blocks.specs.declared.settings.Settings.{Settings}
use Rattle.transferlog.specs.Log.{LogState, moved, changing, accepting, with_last_write, confirming, draining, accepted_write, home_in}
use Rattle.transferlog.specs.Ring.{Each, on}
use Rattle.transferlog.specs.Writes.{LogWrite, is_open, is_completed, is_released, completed_of, released_of, sending, answering, storing, failing, unlinking}
use Rattle.transferlog.proofs.Moves.{each_filter, each_changed}
use Rattle.transferlog.proofs.Waiting.{each_pushed}
use Rattle.primary_core.specs.Kept.{IsInside, IsNumbered, LiesInside, IsSoundLog}

-- what happens to a write leaves its number and its blocks
abbrev pub KeepsRange : (LogWrite → LogWrite) → Type 0
KeepsRange f = (blocks : ℕ) (w : LogWrite) → IsInside blocks w → IsInside blocks (f w)

pub keeps-sending : (answers : Bool) → KeepsRange (sending answers)
keeps-sending answers blocks w is = record { numbered = is.numbered; inside = is.inside; whole = is.whole }

pub keeps-answering : KeepsRange answering
keeps-answering blocks w is = record { numbered = is.numbered; inside = is.inside; whole = is.whole }

pub keeps-storing : KeepsRange storing
keeps-storing blocks w is = record { numbered = is.numbered; inside = is.inside; whole = is.whole }

pub keeps-failing : KeepsRange failing
keeps-failing blocks w is = record { numbered = is.numbered; inside = is.inside; whole = is.whole }

keeps-unlinking : KeepsRange unlinking
keeps-unlinking blocks w is = record { numbered = is.numbered; inside = is.inside; whole = is.whole }

-- what holds of each holds of each after a change that leaves it
pub each_map : (P : LogWrite → Type 0) (f : LogWrite → LogWrite) (ws : List LogWrite) → ((w : LogWrite) → P w → P (f w)) → Each P ws → Each P (map f ws)
each_map P f [] keeps each = tt
each_map P f (w ∷ ws) keeps each = (keeps w each.0, each_map P f ws keeps each.1)

-- what is made of each write of a list is as those writes say
each_to_all : {X : Type 0} (P : LogWrite → Type 0) (Q : X → Type 0) (g : LogWrite → X) (ws : List LogWrite) → ((w : LogWrite) → P w → Q (g w)) → Each P ws
    → AllByRecursion Q (map g ws)
each_to_all P Q g [] makes each = tt
each_to_all P Q g (w ∷ ws) makes each = (makes w each.0, each_to_all P Q g ws makes each.1)

-- what completions and releases of sound writes say
reported-completed : (blocks : ℕ) (ws : List LogWrite) → Each (IsInside blocks) ws → AllByRecursion IsNumbered (map completed_of ws)
reported-completed blocks ws each = each_to_all (IsInside blocks) IsNumbered completed_of ws (λ w is. is.numbered) each

reported-released : (blocks : ℕ) (ws : List LogWrite) → Each (IsInside blocks) ws → AllByRecursion (LiesInside blocks) (map released_of ws)
reported-released blocks ws each = each_to_all (IsInside blocks) (LiesInside blocks) released_of ws (λ w is. is.inside) each

-- something happens to each write
sound-moved : (s : Settings) (f : LogWrite → LogWrite) (confirmed : ℕ) (l : LogState)
    → ((ws : List LogWrite) → Each (IsInside s.blocks) ws → Each (IsInside s.blocks) (map f ws)) → IsSoundLog s l → IsSoundLog s (moved f confirmed l)
sound-moved s f confirmed l keeps is = record {
  backlog = is.backlog;
  last_writes = is.last_writes;
  writes = each_filter (IsInside s.blocks) (λ w. not (is_released confirmed w)) (map f l.writes) (keeps l.writes is.writes);
  completed = reported-completed s.blocks (filter is_completed (map f (filter is_open l.writes)))
      (each_filter (IsInside s.blocks) is_completed (map f (filter is_open l.writes))
      (keeps (filter is_open l.writes) (each_filter (IsInside s.blocks) is_open l.writes is.writes)));
  released = reported-released s.blocks (filter (is_released confirmed) (map f l.writes))
      (each_filter (IsInside s.blocks) (is_released confirmed) (map f l.writes) (keeps l.writes is.writes));
}

-- something happens to one write
pub sound-changing : (s : Settings) (number : ℕ) (f : LogWrite → LogWrite) (l : LogState) → KeepsRange f → IsSoundLog s l → IsSoundLog s (changing number f l).1
sound-changing s number f l keeps is =
    let after = sound-moved s (on number f) l.acknowledged_through l (λ ws each. each_changed (IsInside s.blocks) number f ws (keeps s.blocks) each) is in
    record { backlog = after.backlog; last_writes = after.last_writes; writes = after.writes; completed = after.completed; released = after.released }

length-latest : (number first count : ℕ) (last_writes : List ℕ) → first + count ≤ length last_writes
    → length (with_last_write number first count last_writes) ≡ length last_writes
length-latest number first count last_writes inside = simp (length-append, length-take, length-replicate, length-drop) (omega arith)

-- a write is accepted
pub sound-accepting : (s : Settings) (first count : ℕ) (contents : List ℕ) (l : LogState) → first + count ≤ s.blocks → length contents ≡ 4096 * count
    → IsSoundLog s l → IsSoundLog s (accepting first count contents l).1
sound-accepting s first count contents l inside whole is = record {
  backlog = is.backlog;
  last_writes = length-latest (l.accepted + 1) first count l.last_writes (omega (arith, is.last_writes)) ∙ is.last_writes;
  writes = each_pushed (IsInside s.blocks) l.writes (accepted_write first count contents (home_in l.connection (l.accepted + 1) l.epochs).0 l) is.writes
      (record { numbered = omega arith; inside = inside; whole = whole });
  completed = tt;
  released = tt;
}

-- an epoch is acknowledged
pub sound-confirming : (s : Settings) (number size : ℕ) (l : LogState) → IsSoundLog s l → IsSoundLog s (confirming number size l)
sound-confirming s number size l is = record {
  backlog = is.backlog;
  last_writes = is.last_writes;
  writes = each_filter (IsInside s.blocks) (λ w. not (is_released (l.acknowledged_through + size) w)) l.writes is.writes;
  completed = tt;
  released = reported-released s.blocks (filter (is_released (l.acknowledged_through + size)) l.writes)
      (each_filter (IsInside s.blocks) (is_released (l.acknowledged_through + size)) l.writes is.writes);
}

-- the connection is closed
pub sound-draining : (s : Settings) (l : LogState) → IsSoundLog s l → IsSoundLog s (draining l)
sound-draining s l is =
    let after = sound-moved s unlinking l.acknowledged_through l (λ ws each. each_map (IsInside s.blocks) unlinking ws (keeps-unlinking s.blocks) each) is in
    record { backlog = after.backlog; last_writes = after.last_writes; writes = after.writes; completed = after.completed; released = after.released }
