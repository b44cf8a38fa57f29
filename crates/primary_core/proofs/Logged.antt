-- A step of the log, and what is kept about the whole primary.
use Rattle.std.proofs.Common.{ℕ, ◌≡◌, ◌≤◌, true, refl, sym, ◌∙◌, ap, subst, arith, Option, Some, None}
use Rattle.std.specs.Prelude.{Result, Ok, IfSome, not, [], ◌∷◌}
use Rattle.blocks.specs.declared.refusal.Refusal.TheVariants.{UnknownJob}
use Rattle.blocks.specs.declared.settings.Settings.{Settings}
use Rattle.blocks.specs.declared.refusal.Refusal.{Refusal}
use Rattle.blocks.specs.declared.outcome.Done.{Done}
use Rattle.blocks.specs.declared.outcome.What.{What}
use Rattle.transferlog.specs.Log.{LogState, LogValue, changing}
use Rattle.transferlog.specs.Writes.{LogWrite}
use Rattle.primary_protocol.specs.Core.{PrimaryState, tested, following}
use Rattle.primary_protocol.specs.Transitions.{logged, is_unfinished}
use Rattle.primary_core.specs.Kept.{IsSoundLog, owing}
use Rattle.primary_core.specs.State.{IsCore, state_of}
use Rattle.primary_core.specs.declared.state.PrimaryCore.TheInside.{Inside}
use Rattle.primary_core.proofs.Epochs.{Appends, appends-changing}
use Rattle.primary_core.proofs.Sound.{owing-after, owing-less, sound-logged}
use Rattle.primary_core.proofs.SoundLog.{KeepsRange, sound-changing}

-- a step of the log that accepts nothing, on the same stream
pub record Steps (s : Settings) (l m : LogState) (barrier : Option ℕ) : Type 0 where
  pub sound : IsSoundLog s m
  pub accepted : m.accepted ≡ l.accepted
  pub connection : m.connection ≡ l.connection
  pub appends : Appends l.epochs m.epochs barrier

-- something happens to one write
pub steps-changing : (s : Settings) (number : ℕ) (f : LogWrite → LogWrite) (l m : LogState) (barrier : Option ℕ) → KeepsRange f
    → (let step : Option ℕ × LogState = (barrier, m) in step ≡ changing number f l) → IsSoundLog s l → Steps s l m barrier
steps-changing s number f l m barrier keeps is sound =
    subst (λ (p : Option ℕ × LogState). Steps s l p.1 p.0) (sym is)
    (record { sound = sound-changing s number f l keeps sound; accepted = refl; connection = refl; appends = appends-changing number f l })

-- what is kept is kept
pub core-logged : (c : Inside) (m : LogValue) (barrier : Option ℕ) → IsCore c → Steps c.settings c.log.state m.state barrier → IsCore (record c { log = m })
core-logged c m barrier is steps = record {
  sound = sound-logged (state_of c) m.state barrier is.sound steps.sound steps.accepted steps.connection steps.appends;
  flagged = is.flagged;
  writers = rw steps.accepted is.writers;
  room =
      let less = owing-less (state_of c).end m.state barrier in
      let after = owing-after (state_of c).end c.log.state m.state barrier steps.connection steps.appends in
      omega (arith, is.room);
}

-- and there is room for the barrier
pub room-logged : (s : PrimaryState) (m : LogState) (barrier : Option ℕ) (room : ℕ) → owing None s.end s.log ≤ room → Steps s.settings s.log m barrier
    → IfSome barrier (λ _. owing barrier s.end m ≤ room)
room-logged s m None room enough steps = tt
room-logged s m (Some number) room enough steps =
    let after = owing-after s.end s.log m (Some number) steps.connection steps.appends in
    omega arith

-- What follows the step.
pub follows-logged : (s : PrimaryState) (name : What) (change : Option ℕ × LogState) (barrier : Option ℕ) (m : LogState) (r : Done × PrimaryState)
    → (let step : Option ℕ × LogState = (barrier, m) in step ≡ change) → r ≡ following name barrier (record s { log = m }) → r ≡ logged name change s
follows-logged s name change barrier m r is follows = follows ∙ ap (λ (p : Option ℕ × LogState). following name p.0 (record s { log = p.1 })) is

-- The local disk is done with a write that it had to do.
pub finishes : (number : ℕ) (s : PrimaryState) (r after : Done × PrimaryState) → is_unfinished number s ≡ true → r ≡ after
    → (let got : Result Done Refusal × PrimaryState = (Ok r.0, r.1) in
    got ≡ tested s ((not (is_unfinished number s), UnknownJob) ∷ []) (λ _. (Ok after.0, after.1)))
finishes number s r after ready is = rw (ready, tested) (ap (λ (p : Done × PrimaryState). (Ok p.0, p.1)) is)

-- A step of the state that is seen.
pub seen-as : {R : Type 0} (v w : PrimaryState) (f : PrimaryState → R × PrimaryState) (r : R × PrimaryState) → v ≡ w → r ≡ f v → r ≡ f w
seen-as v w f r same is = is ∙ ap f same
