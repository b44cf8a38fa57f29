use Rattle.std.proofs.Common.{ℕ, sym, ◌∙◌, ap}
use Rattle.std.specs.Prelude.{if◌then◌else◌}
use Rattle.bitmap.specs.Marks.{marking}
use Rattle.blocks.specs.Identifiers.{lost}
use Rattle.primary_protocol.specs.Core.{PrimaryState, is_established, reporting}
use Rattle.primary_protocol.specs.Transitions.{unreleased_blocks}
use Rattle.primary_core.specs.Close.{without_stream}
use Rattle.primary_core.proofs.state.PrimaryCore.close_open.Goals as goal

pub returns : goal.returns
returns c e loss =
    let s = c.args.self.now.state in
    let mark = λ (x : PrimaryState). record x { marks = marking (unreleased_blocks x.log.writes) x.marks } in
    let lose = λ (x : PrimaryState). record x { tuple = if is_established x then lost c.args.loss x.tuple else x.tuple } in
    let drained = c.drain-completed.ensures ∙ ap without_stream (c.lose.ensures ∙ ap lose c.mark_unreleased.ensures) in
    ap (λ (x : PrimaryState). (c.drain-completed.result, x)) c.apply_log_report.ensures.state
    ∙ (ap (λ (p : ℕ × PrimaryState). (p.0, reporting p.1)) drained
    ∙ ap (λ (word : ℕ). (
      (without_stream (lose (mark s))).0,
      reporting (without_stream (record (mark s) { tuple = if is_established s then lost word s.tuple else s.tuple })).1,
    )) (sym loss))
