-- Where each run so far is of zeros, the bytes that are left decide.
use Rattle.std.proofs.Common.{◌≡◌, ◌==◌, ◌&&◌, true, false, rules, sym, ap, ◌∙◌}
use Rattle.std.proofs.lemmas.Bool.{and_left, false≢true}
use Rattle.std.specs.List.{list_all}
use Rattle.blocks.proofs.ZeroRuns.{zeros_from_test, test_from_zeros, test_of_parts}
use Rattle.blocks.proofs.zeros.are_zeros.Goals as goal

pub returns-then-not-is_run_of_zeros : goal.returns-then-not-is_run_of_zeros
returns-then-not-is_run_of_zeros c =
    let parts = test_of_parts 256 c.loop-run.rest.now c.in-Some.run'.now c.in-Some.after.now c.in-Some.ensures.cases.0 c.in-Some.ensures.cases.1 in
    let stopped : c.is_run_of_zeros.result ≡ false = search rules in
    let run : list_all (λ byte. byte == 0) c.in-Some.run'.now ≡ false = sym c.is_run_of_zeros.ensures ∙ stopped in
    let other : list_all (λ byte. byte == 0) c.args.bytes.now ≡ false = c.loop-run.invariant ∙ (parts ∙ and_left _ _ run) in
    (λ same. absurd (false≢true same), λ zeros. sym other ∙ test_from_zeros c.args.bytes.now zeros)

pub loop-run-preserved : goal.loop-run-preserved
loop-run-preserved c =
    let parts = test_of_parts 256 c.loop-run.rest.now c.in-Some.run'.now c.in-Some.after.now c.in-Some.ensures.cases.0 c.in-Some.ensures.cases.1 in
    let went_on : c.is_run_of_zeros.result ≡ true = search rules in
    let run : list_all (λ byte. byte == 0) c.in-Some.run'.now ≡ true = sym c.is_run_of_zeros.ensures ∙ went_on in
    c.loop-run.invariant ∙ (parts ∙ ap (λ zeros. zeros && list_all (λ byte. byte == 0) c.in-Some.after.now) run)

pub returns : goal.returns
returns c =
    let last : c.is_run_of_zeros-2.result ≡ list_all (λ byte. byte == 0) c.args.bytes.now = c.is_run_of_zeros-2.ensures ∙ sym c.loop-run.invariant in
    (λ seen. zeros_from_test c.args.bytes.now (sym last ∙ seen), λ zeros. last ∙ test_from_zeros c.args.bytes.now zeros)
