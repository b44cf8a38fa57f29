use Rattle.std.proofs.Common.{List, [], ◌∷◌, ◌++◌, refl, ap, ◌∙◌}
use Rattle.session_api.specs.Begun.{BegunState}
use Rattle.told.proofs.Seeing.{prefix-self}
use Rattle.serve_requests.proofs.Beginning.{own-none, own-one}
use Rattle.serve_requests.proofs.perform.begin_piece.Goals as goal

pub returns-then-is_err-clause-goes_on : goal.returns-then-is_err-clause-goes_on
returns-then-is_err-clause-goes_on g c = prefix-self c.args.me.now.log

pub returns-then-is_err-clause-mine : goal.returns-then-is_err-clause-mine
returns-then-is_err-clause-mine g c = own-none c.args.begun.now.items c.try_reserve.new.self.items c.args.me.now.own c.args.me.now.own
    c.try_reserve.ensures.items refl

pub returns-in_err-write-clause-mine : goal.returns-in_err-write-clause-mine
returns-in_err-write-clause-mine g c = own-none c.args.begun.now.items c.try_reserve.new.self.items c.args.me.now.own c.begin_at.new.me.own
    c.try_reserve.ensures.items c.in_err-write.ensures.not_mine

pub returns-clause-mine : goal.returns-clause-mine
returns-clause-mine g c = own-one c.args.begun.now.items c.push_reserved.new.self.items c.in_ok-write.write c.args.me.now.own c.begin_at.new.me.own
    (c.push_reserved.ensures.items ∙ ap (λ (l : List BegunState). l ++ c.in_ok-write.write ∷ []) c.try_reserve.ensures.items)
    c.in_ok-write.ensures.mine

pub returns-clause-one : goal.returns-clause-one
returns-clause-one g c = record {
  begun = c.in_ok-write.write;
  appended = c.push_reserved.ensures.items ∙ ap (λ (l : List BegunState). l ++ c.in_ok-write.write ∷ []) c.try_reserve.ensures.items;
  of = c.in_ok-write.ensures.begun;
}
