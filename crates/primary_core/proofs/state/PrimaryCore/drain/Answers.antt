use Rattle.std.proofs.Common.{ℕ, ◌≡◌, sym, ap, arith, None}
use Rattle.transferlog.specs.Log.{LogState, drained}
use Rattle.overlap.specs.Holdings.{without}
use Rattle.primary_core.specs.Close.{without_stream}
use Rattle.primary_core.specs.State.{core_of, held_with, way_at}
use Rattle.primary_core.proofs.Held.{without-block}
use Rattle.primary_core.proofs.Logged.{seen-as}
use Rattle.primary_core.proofs.SoundLog.{sound-draining}
use Rattle.primary_core.proofs.state.PrimaryCore.drain.Goals as goal

pub invariant_of-self : goal.invariant_of-self
invariant_of-self c =
    let s = c.self.inside in
    let is = c.self.invariant in
    let log : c.drain-completed.new.self.state ≡ (drained s.log.state).1 = ap (λ (p : ℕ × LogState). p.1) c.drain-completed.ensures in
    record {
      sound = record {
        in_range = is.sound.in_range;
        log = rw log (sound-draining s.settings s.log.state is.sound.log);
        marks = is.sound.marks;
        counted = rw log is.sound.counted;
        standing = λ e none resync. absurd (cc);
        places = rw log (omega arith);
      };
      flagged = is.flagged;
      writers = rw log is.writers;
      room = omega arith;
    }

pub returns : goal.returns
returns c =
    let s = c.self.inside in
    let v = core_of s in
    let held : s.held ≡ without 0 (held_with (way_at s.connection) s.held) =
    sym (without-block s.log.state.accepted (way_at s.connection) s.held c.self.invariant.writers) in
    seen-as v.state c.args.self.now.state without_stream _ (ap (λ x. x.state) c.self.view_is)
    (rw (← held) (ap (λ (p : ℕ × LogState). (p.0, record v.state { held = s.held; log = p.1; end = None })) c.drain-completed.ensures))
