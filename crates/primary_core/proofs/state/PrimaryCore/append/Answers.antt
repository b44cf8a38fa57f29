use Rattle.std.proofs.Common.{◌∷◌, [], List, Option, Some, refl, sym, ◌∙◌, ap, arith}
use Rattle.model.specs.Stream.{StreamItem}
use Rattle.primary_protocol.specs.Core.{appending}
use Rattle.primary_core.specs.Items.{item_as}
use Rattle.primary_core.specs.State.{core_of, end_of, state_of}
use Rattle.primary_core.specs.declared.connection.Connection.{Connection}
use Rattle.primary_core.proofs.Ends.{core-end, end-at, opened-as, room-at}
use Rattle.primary_core.proofs.state.PrimaryCore.append.Goals.{in-Some, in-None}
use Rattle.primary_core.proofs.state.PrimaryCore.append.Goals as goal

pub push-requires : goal.push-requires
push-requires c =
    let x = c.in-Some.connection in
    let need = c.requires.room (end_of x) (end-at c.self.inside c.args.self.now x c.self.view_is c.in-Some.is) in
    omega (arith, need, room-at c.self.inside c.args.self.now x c.self.view_is c.in-Some.is)

pub invariant_of-self : goal.invariant_of-self
invariant_of-self c =
    let s = c.self.inside in
    elim c.match-self.branch [
      | in-Some w ↦
          let x = w.in-Some.connection in
          let need = (rw (← c.self.view_is) at c.requires.room) (end_of x) (end-at s (core_of s) x refl w.in-Some.is) in
          rw w.self-inside-is (core-end s x (record x { outbox = w.push.new.self }) w.in-Some.is refl
          (omega (arith, need, room-at s (core_of s) x refl w.in-Some.is, w.push.ensures.room)) c.self.invariant)
      | in-None w ↦ rw w.self-inside-is c.self.invariant
    ]

pub returns-clause-state : goal.returns-clause-state
returns-clause-state c =
    let s = c.self.inside in
    let more = item_as c.args.kind ∷ [] in
    elim c.match-self.branch [
      | in-Some w ↦
          let x = w.in-Some.connection in
          let t = state_of (record s { connection = Some x }) in
          rw w.self-inside-is (ap (λ (items : List StreamItem). record t { end = Some (record (end_of x) { unsent = items }) }) w.push.ensures.items
          ∙ ap (appending more) (opened-as s c.args.self.now x c.self.view_is w.in-Some.is))
      | in-None w ↦
          let closed = ap (λ (o : Option Connection). state_of (record s { connection = o })) w.in-None.is in
          rw w.self-inside-is (closed ∙ ap (appending more) (sym closed ∙ ap (λ v. v.state) c.self.view_is))
    ]

pub returns-clause-room : goal.returns-clause-room
returns-clause-room c =
    let s = c.self.inside in
    elim c.match-self.branch [
      | in-Some w ↦ rw w.self-inside-is (omega (arith, room-at s c.args.self.now w.in-Some.connection c.self.view_is w.in-Some.is, w.push.ensures.room))
      | in-None w ↦ rw w.self-inside-is (let same = ap (λ v. v.stream_room) c.self.view_is in omega arith)
    ]
