use Rattle.told.specs.Log.{WasTold}
use Rattle.told.proofs.Seeing.{prefix-on, prefix-self}
use Rattle.serve_requests.specs.Places.{IsBegunFor, IsFrontTo}
use Rattle.std.proofs.Common.{List, refl, subst, sym}
use Rattle.session_api.specs.Begun.{BegunState}
use Rattle.serve_requests.proofs.Beginning.{front-left, none-yet, one-further, own-more, own-none}
use Rattle.serve_requests.proofs.Telling.{begun-on}
use Rattle.serve_requests.proofs.perform.begin_pieces.Goals as goal

pub loop-pieces-init : goal.loop-pieces-init
loop-pieces-init g c = record {
  done = none-yet (IsBegunFor (WasTold c.args.me.now.log)) c.args.pieces c.args.begun.now.items c.requires;
  goes_on = prefix-self c.args.me.now.log;
  mine = own-none c.args.begun.now.items c.args.begun.now.items c.args.me.now.own c.args.me.now.own refl refl;
}

pub loop-pieces-preserved : goal.loop-pieces-preserved
loop-pieces-preserved g c = record {
  done = one-further (IsBegunFor (WasTold c.begin_piece.new.me.log)) _ _ _ _ _ _
      (begun-on c.loop-pieces.me.log c.begin_piece.new.me.log c.begin_piece.ensures.goes_on _ _ _ c.loop-pieces.invariant.done)
      (rw c.in-Some.is at c.in_ok-piece.ensures.front)
      c.in_ok-begin_piece.ensures.one;
  goes_on = prefix-on c.args.me.now.log c.loop-pieces.me.log c.begin_piece.new.me.log c.loop-pieces.invariant.goes_on c.begin_piece.ensures.goes_on;
  mine = own-more c.args.begun.now.items c.loop-pieces.begun.items c.begin_piece.new.begun.items c.args.me.now.own c.loop-pieces.me.own
      c.begin_piece.new.me.own c.loop-pieces.invariant.mine c.begin_piece.ensures.mine;
}

pub returns-in_err-begin_piece-clause-front : goal.returns-in_err-begin_piece-clause-front
returns-in_err-begin_piece-clause-front g c = front-left (IsBegunFor (WasTold c.begin_piece.new.me.log)) c.args.pieces c.loop-pieces.pieces
    c.begin_piece.new.begun.items
    (subst (λ (l : List BegunState). IsFrontTo (IsBegunFor (WasTold c.begin_piece.new.me.log)) c.args.pieces c.loop-pieces.pieces l)
    (sym c.in_err-begin_piece.ensures.unchanged)
    (begun-on c.loop-pieces.me.log c.begin_piece.new.me.log c.begin_piece.ensures.goes_on _ _ _ c.loop-pieces.invariant.done))
