use Rattle.std.proofs.Common.{[], ◌∷◌, refl, subst}
use Rattle.blocks.specs.declared.settings.Settings.{Settings}
use Rattle.served_images.specs.Sessions.{IsStart}
use Rattle.serving.proofs.sessions.run_sessions.Goals as goal

pub loop-init : goal.loop-init
loop-init g c = (
  c.in_ok-last.last,
  [],
  (
    subst (λ (chosen : Settings). IsStart chosen c.args.how c.args.disks c.in_ok-last.last) c.settings_of-settings.ensures c.in_ok-last.ensures,
    refl,
    λ honest stayed. (honest, λ unparted. unparted),
  ),
)

pub loop-preserved : goal.loop-preserved
loop-preserved g c =
    let session = c.in_ok-last-2.ensures.session in
    let was = c.loop.invariant in (
      was.0,
      c.loop.last ∷ was.1,
      (
        was.2.0,
        (session, was.2.1),
        λ honest stayed.
            let before = was.2.2 honest stayed.1 in
            (session.honest before.0 (session.faithful stayed.0), λ unparted. session.unparted before.0 (before.1 unparted)),
      ),
    )

pub returns-then-clients-eq0 : goal.returns-then-clients-eq0
returns-then-clients-eq0 g c =
    let was = c.loop.invariant in
    record {
      served = record {
        first = was.0;
        starts = was.2.0;
        earlier = was.1;
        last = c.loop.last;
        session = c.in_ok-last-2.ensures.session;
        come = was.2.1;
        honest = λ honest stayed. (was.2.2 honest stayed).0;
        unparted = λ honest unparted stayed. (was.2.2 honest stayed).1 unparted;
      };
    }
