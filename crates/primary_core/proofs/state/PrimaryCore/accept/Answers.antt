use Rattle.std.proofs.Common.{ℕ, ◌≡◌, ◌+◌, ◌∷◌, ◌++◌, [], List, refl, sym, ◌∙◌, ap, arith, false}
use Rattle.overlap.specs.Holdings.{is_held, holding, holding_too}
use Rattle.activitylog.specs.Activity.{begun}
use Rattle.model.specs.Contents.{extent_of}
use Rattle.transferlog.specs.declared.report.Accepted.{Accepted}
use Rattle.transferlog.specs.Log.{LogState, accepting}
use Rattle.primary_protocol.specs.Core.{JournalEntry, Open}
use Rattle.primary_core.specs.State.{core_of, held_with, way_at}
use Rattle.primary_core.specs.Submit.{taken_in}
use Rattle.primary_core.proofs.Accepted.{few-accepted, few-places, room-accepted, sound-accepted}
use Rattle.primary_core.proofs.Held.{holding-held, writers-next}
use Rattle.primary_core.proofs.Logged.{seen-as}
use Rattle.primary_core.proofs.Submission.{held-none, writes-few, passes-all}
use Rattle.primary_core.proofs.state.PrimaryCore.accept.Goals as goal

pub begin-requires-clause-new : goal.begin-requires-clause-new
begin-requires-clause-new c =
    let s = c.self.inside in
    ap (λ n. is_held (n + 1) s.held) c.accepted-number.ensures ∙ held-none s.log.state.accepted s.held c.self.invariant.writers

pub begin-requires-clause-few : goal.begin-requires-clause-few
begin-requires-clause-few c =
    let s = c.self.inside in
    let seen = ap (λ x. x.state) c.self.view_is ∙ c.make_room.ensures.same in
    let tests = passes-all c.args.range.first.0 c.args.range.count (core_of s).state c.args.self.now.state seen c.requires.tests in
    let few = writes-few s.log.state.accepted (extent_of c.args.range.first.0) s.activity.active c.self.invariant.sound.counted in
    omega (arith, few, few-accepted s.log.state.accepted tests.journal)

pub accept-requires-clause-places : goal.accept-requires-clause-places
accept-requires-clause-places c =
    let s = core_of c.self.inside in
    let seen = ap (λ x. x.state) c.self.view_is ∙ c.make_room.ensures.same in
    let tests = passes-all c.args.range.first.0 c.args.range.count s.state c.args.self.now.state seen c.requires.tests in
    few-places s.state.end s.state.log.connection s.state.log refl tests.places c.self.invariant.sound.places

-- what the writes hold then
module _ (c : goal.After-push_reserved-2) where
  held-is : c.begin.new.held ≡ holding_too (holding (c.self.inside.log.state.accepted + 1) c.args.range.first.0 c.args.range.count) c.self.inside.held
  held-is = c.in_ok-begin.ensures.held
      ∙ ap (λ (n : ℕ). holding_too (holding (n + 1) c.args.range.first.0 c.args.range.count) c.self.inside.held) c.accepted-number.ensures

pub returns-clause-accepted : goal.returns-clause-accepted
returns-clause-accepted c =
    let s = c.self.inside in
    let v = core_of s in
    let first = c.args.range.first.0 in
    let count = c.args.range.count in
    let entry : JournalEntry = record { first = first; count = count; fate = Open; taken = false } in
    let entries = c.push_reserved.ensures.items ∙ ap (λ (es : List JournalEntry). es ++ entry ∷ []) c.in_ok-reserve.ensures.items in
    let way = way_at s.connection in
    let more = holding (s.log.state.accepted + 1) first count in
    let held : held_with way c.begin.new.held ≡ holding_too more (held_with way s.held) =
    ap (held_with way) (held-is c) ∙ sym (holding-held more way s.held (omega arith)) in
    seen-as v.state c.args.self.now.state (taken_in first count c.args.contents) _ (ap (λ x. x.state) c.self.view_is ∙ c.make_room.ensures.same)
    (rw (entries, held, c.in_ok-begin.ensures.begun) (ap (λ (p : Accepted × LogState). (
      p.0,
      record v.state {
        log = p.1;
        entries = v.state.entries ++ entry ∷ [];
        held = holding_too more v.state.held;
        activity = begun (extent_of first) v.state.activity;
      },
    )) c.in_ok-accepted.ensures.accepted))

pub invariant_of-self-2 : goal.invariant_of-self-2
invariant_of-self-2 c =
    let s = c.self.inside in
    let v = core_of s in
    let is = c.self.invariant in
    let first = c.args.range.first.0 in
    let count = c.args.range.count in
    let contents = c.args.contents in
    let seen = ap (λ x. x.state) c.self.view_is ∙ c.make_room.ensures.same in
    let tests = passes-all first count v.state c.args.self.now.state seen c.requires.tests in
    let inside = rw (← seen) at c.requires.inside in
    let after = sound-accepted v.state first count contents is.sound inside c.requires.whole tests.places in
    let log : c.accept.new.self.state ≡ (accepting first count contents s.log.state).1 =
    ap (λ (p : Accepted × LogState). p.1) c.in_ok-accepted.ensures.accepted in
    record {
      sound = record {
        in_range = is.sound.in_range;
        log = rw log after.log;
        marks = is.sound.marks;
        counted = rw (log, c.in_ok-begin.ensures.begun) after.counted;
        standing = rw log after.standing;
        places = rw log after.places;
      };
      flagged = omega (
        arith,
        is.flagged,
        c.in_ok-reserve.ensures.len,
        c.in_ok-reserve-2.ensures.len,
        c.push_reserved.ensures.len,
        c.push_reserved-2.ensures.len,
      );
      writers = rw (log, held-is c) (writers-next s.log.state.accepted first count s.held is.writers);
      room =
          let roomy = rw (← c.self.view_is) at c.in_ok-make_room.ensures.room in
          rw log (room-accepted s.connection first count contents s.log.state roomy is.room);
    }
