use Rattle.std.proofs.Common.{◌≡◌, ◌+◌, ◌==◌, Bool, true, false, not, ◌&&◌, List, [], ◌∷◌, Option, Some, None, refl, sym, ◌∙◌, ap, arith}
use Rattle.std.specs.Prelude.{is_none, option_map}
use Rattle.std.specs.List.{list_any}
use Rattle.bitmap.specs.Marks.{count}
use Rattle.transferlog.proofs.Numbers.{higher_number}
use Rattle.resync.specs.declared.under_way.UnderWay.{UnderWay}
use Rattle.primary_protocol.specs.Core.{is_over}
use Rattle.primary_core.specs.State.{way_of}
use Rattle.primary_core.proofs.Ends.{opened-as}
use Rattle.primary_core.proofs.state.PrimaryCore.is_over.Goals as goal

none-marked : (marks : List Bool) → (count marks == 0) ≡ not (list_any (λ mark. mark) marks)
none-marked [] = refl
none-marked (true ∷ marks) = higher_number (1 + count marks) 0 (omega arith)
none-marked (false ∷ marks) = let same : 0 + count marks ≡ count marks = omega arith in ap (λ n. n == 0) same ∙ none-marked marks

over-where : (goes_on : Bool) (way : Option UnderWay) (marks : List Bool) → (goes_on && is_none way) ≡ true
    → (count marks == 0) ≡ ((goes_on && is_none (option_map way_of way)) && not (list_any (λ mark. mark) marks))
over-where true None marks waits = none-marked marks
over-where true (Some w) marks waits = absurd (cc)
over-where false way marks waits = absurd (cc)

pub returns-then-is_waiting : goal.returns-then-is_waiting
returns-then-is_waiting c =
    let s = c.self.inside in
    let x = c.in-Some.connection in
    ap (λ n. n == 0) c.count.ensures ∙ (over-where x.resync.goes_on x.resync.under_way s.marks (sym c.is_waiting.ensures ∙ c.if-is_waiting.true)
    ∙ ap is_over (opened-as s c.args.self.now x c.self.view_is c.in-Some.is))
