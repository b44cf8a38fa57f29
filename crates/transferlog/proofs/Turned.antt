-- What the ring answers about one write is what happened in the whole log.
use Rattle.std.proofs.Common.{◌≡◌, ℕ, List, refl, sym, ◌∙◌, ap, Option, Some, None}
use Rattle.std.specs.Prelude.{is_some, if◌then◌else◌}
use Rattle.std.specs.Option.{option_map, option_and_then, option_to_list}
use Rattle.transferlog.specs.Writes.{LogWrite, report_of, release_of}
use Rattle.transferlog.specs.Ring.{RingState, on, write_at, with_change, without, Rises}
use Rattle.transferlog.specs.Log.{LogState, moved, closes_any}
use Rattle.transferlog.specs.Ring.{Each}
use Rattle.transferlog.specs.Fields.{IsKept}
use Rattle.transferlog.specs.declared.report.Released.{Released}
use Rattle.transferlog.specs.declared.report.ChangeReport.{ChangeReport}
use Rattle.transferlog.proofs.Moves.{KeepsNumber, kept_but, rises_changed, write_at-changed, released_one, left_one, completion_in, closes_in, completed_one}
use Rattle.transferlog.proofs.Moves.{closes_one}

-- the writes after something happened to one of them
abbrev After : ℕ → (LogWrite → LogWrite) → LogState → List LogWrite
After n f s = with_change n f s.writes

pub released_is : (s : LogState) (n : ℕ) (f : LogWrite → LogWrite) (release : Option Released) → KeepsNumber f → Rises 0 s.writes
    → Each (IsKept s.acknowledged_through) s.writes
    → release ≡ option_and_then (release_of s.acknowledged_through) (write_at n (After n f s)) → option_to_list release ≡ (moved (on n f) s.acknowledged_through s).released
released_is s n f release keeps rises kept is =
    ap option_to_list is ∙ sym (released_one n s.acknowledged_through 0 (After n f s) (rises_changed n 0 f s.writes keeps rises)
    (kept_but n s.acknowledged_through f s.writes keeps kept))

pub writes_are : (s : LogState) (n : ℕ) (f : LogWrite → LogWrite) (release : Option Released) → KeepsNumber f → Rises 0 s.writes
    → Each (IsKept s.acknowledged_through) s.writes
    → release ≡ option_and_then (release_of s.acknowledged_through) (write_at n (After n f s))
    → (if is_some release then without n (After n f s) else After n f s) ≡ (moved (on n f) s.acknowledged_through s).writes
writes_are s n f release keeps rises kept is =
    ap (λ (o : Option Released). if is_some o then without n (After n f s) else After n f s) is
    ∙ sym (left_one n s.acknowledged_through 0 (After n f s) (rises_changed n 0 f s.writes keeps rises) (kept_but n s.acknowledged_through f s.writes keeps kept))

pub completed_is : (s : LogState) (n : ℕ) (f : LogWrite → LogWrite) (report : Option ChangeReport) → Rises 0 s.writes
    → report ≡ option_map (report_of f) (write_at n s.writes) → completion_in report ≡ (moved (on n f) s.acknowledged_through s).completed
completed_is s n f report rises is = ap completion_in is ∙ sym (completed_one n 0 f s.writes rises)

pub closes_is : (s : LogState) (n : ℕ) (f : LogWrite → LogWrite) (report : Option ChangeReport) → Rises 0 s.writes
    → report ≡ option_map (report_of f) (write_at n s.writes) → closes_in report ≡ closes_any (on n f) s
closes_is s n f report rises is = ap closes_in is ∙ sym (closes_one n 0 f s.writes rises)

no_write : (f : LogWrite → LogWrite) (found : Option LogWrite) → None ≡ option_map (report_of f) found → found ≡ None
no_write f None is = refl
no_write f (Some w) is = cc

-- where there was no write, none is released
pub no_release : (s : LogState) (n : ℕ) (f : LogWrite → LogWrite) → KeepsNumber f → None ≡ option_map (report_of f) (write_at n s.writes)
    → None ≡ option_and_then (release_of s.acknowledged_through) (write_at n (After n f s))
no_release s n f keeps is =
    let found = write_at-changed n f s.writes keeps ∙ ap (option_map f) (no_write f (write_at n s.writes) is) in
    sym (ap (option_and_then (release_of s.acknowledged_through)) found)

-- the same, where the ring was changed and then released the write
pub after_release : (s : LogState) (n : ℕ) (f : LogWrite → LogWrite) (mid new : RingState) (release : Option Released) → KeepsNumber f → Rises 0 s.writes
    → Each (IsKept s.acknowledged_through) s.writes
    → mid.writes ≡ After n f s → release ≡ option_and_then (release_of s.acknowledged_through) (write_at n mid.writes)
    → new.writes ≡ (if is_some release then without n mid.writes else mid.writes)
    → (new.writes ≡ (moved (on n f) s.acknowledged_through s).writes) × (option_to_list release ≡ (moved (on n f) s.acknowledged_through s).released)
after_release s n f mid new release keeps rises kept changed released left =
    let is = released ∙ ap (λ ws. option_and_then (release_of s.acknowledged_through) (write_at n ws)) changed in (
      left ∙ (ap (λ (ws : List LogWrite). if is_some release then without n ws else ws) changed ∙ writes_are s n f release keeps rises kept is),
      released_is s n f release keeps rises kept is,
    )
