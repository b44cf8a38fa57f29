-- Steps at a connection that is open.
use Rattle.std.proofs.Common.{◌≡◌, ◌+◌, ◌≤◌, Bool, subst, refl, sym, ◌∙◌, ap, Some, None, Option, Ok}
use Rattle.std.specs.Prelude.{option_map}
use Rattle.primary_protocol.specs.Core.{EndState, PrimaryState}
use Rattle.primary_protocol.specs.Transitions.{close_end, closing}
use Rattle.primary_core.specs.Kept.{owing, places_owing}
use Rattle.primary_core.specs.State.{CoreState, IsCore, core_of, end_of, room_at, state_of}
use Rattle.primary_core.specs.declared.connection.Connection.{Connection}
use Rattle.primary_core.specs.declared.state.PrimaryCore.TheInside.{Inside}

pub closes : (s : PrimaryState) (e : EndState) → s.end ≡ Some e → close_end s ≡ (Ok (closing e s).0, (closing e s).1)
closes s e is = rw (is, close_end) refl

-- What is seen of a primary with this connection.

-- the primary with that connection is what is seen
pub opened-as : (c : Inside) (v : CoreState) (x : Connection) → core_of c ≡ v → c.connection ≡ Some x → state_of (record c { connection = Some x }) ≡ v.state
opened-as c v x is at = ap (λ (o : Option Connection). state_of (record c { connection = o })) (sym at) ∙ ap (λ (w : CoreState). w.state) is

-- its end
pub end-at : (c : Inside) (v : CoreState) (x : Connection) → core_of c ≡ v → c.connection ≡ Some x → v.state.end ≡ Some (end_of x)
end-at c v x is at = ap (λ (w : CoreState). w.state.end) (sym is) ∙ ap (option_map end_of) at

-- the room of its stream
pub room-at : (c : Inside) (v : CoreState) (x : Connection) → core_of c ≡ v → c.connection ≡ Some x → x.outbox.room ≡ v.stream_room
room-at c v x is at = sym (ap room_at at) ∙ ap (λ (w : CoreState). w.stream_room) is

-- What is kept where the connection goes on otherwise, with the room that it needs.

pub core-end : (c : Inside) (x y : Connection) → c.connection ≡ Some x → y.resync.goes_on ≡ x.resync.goes_on
    → owing None (Some (end_of y)) c.log.state ≤ y.outbox.room → IsCore c → IsCore (record c { connection = Some y })
core-end c x y at same room is = record {
  sound = record {
    in_range = is.sound.in_range;
    log = is.sound.log;
    marks = is.sound.marks;
    counted = is.sound.counted;
    standing = λ e here resync. let there : end_of y ≡ e = cc in
        is.sound.standing (end_of x) (ap (option_map end_of) at) (sym same ∙ (ap (λ (z : EndState). z.resync) there ∙ resync));
    places = let few = rw at at is.sound.places in
        subst (λ (goes_on : Bool). c.log.state.epochs.places + places_owing (Some (record (end_of y) { resync = goes_on })) c.log.state ≤ 4294967290)
        (sym same) few;
  };
  writers = is.writers;
  flagged = is.flagged;
  room = room;
}
