use Rattle.std.proofs.Common.{◌≡◌, ap, subst, rules}
use Rattle.std.specs.Prelude.{IfSome}
use Rattle.disk_pair.specs.Disks.{AreFaithful, WereRead, unmarked_between}
use Rattle.served_images.specs.Sessions.{Rest}
use Rattle.serving.proofs.Ended.{found-alike}
use Rattle.serving.proofs.server.serve_sessions.Goals as goal

pub returns-clause-came : goal.returns-clause-came
returns-clause-came g c =
    let served = c.in-Ok.ensures.served in
    let counted = subst (λ (rest : Rest). IfSome c.compare_at_end-found.result.unmarked (λ n. AreFaithful c.compare_at_end-found.new.disks
    → n ≡ unmarked_between rest.parts.marks c.compare_at_end-found.new.disks.local c.compare_at_end-found.new.disks.peer c.args.service.now.blocks)) c.last.view_is
    c.compare_at_end-found.ensures.count in
    record {
      rest = c.in-Ok.last;
      served = served;
      results = ap (λ (rest : Rest). rest.totals) c.last.view_is;
      last = c.compare_at_end-found.new.disks;
      read = subst (λ (rest : Rest). WereRead rest.disks c.compare_at_end-found.new.disks) c.last.view_is c.compare_at_end-found.ensures.read;
      compared = counted;
      alike = λ none clean faithful. found-alike _ _ c.in-Ok.last c.compare_at_end-found.new.disks c.args.service.now.blocks c.compare_at_end-found.result.unmarked
          served.session counted none (subst (λ (rest : Rest). rest.totals.marked ≡ 0) c.last.view_is clean) faithful;
    }

pub run_sessions-ran-requires-send-D : goal.run_sessions-ran-requires-send-D
run_sessions-ran-requires-send-D g c = search (rules, c.type_bounds.send-X)
