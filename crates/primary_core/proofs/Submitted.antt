-- A submission is refused by the first test that holds, or done.
use Rattle.std.proofs.Common.{ℕ, ◌≡◌, Bool, true, false, List, [], ◌∷◌, ◌++◌, length, refl, sym, ◌∙◌, ap, Some}
use Rattle.std.specs.Prelude.{Result, Ok, Err}
use Rattle.blocks.specs.declared.outcome.Done.{Done}
use Rattle.blocks.specs.declared.refusal.Refusal.{Refusal}
use Rattle.model.specs.Refusals.{Test, first_refusal}
use Rattle.laws.proofs.Rules.Memory.{memory_test}
use Rattle.transferlog.specs.declared.report.Accepted.{Accepted}
use Rattle.primary_protocol.specs.Core.{PrimaryState, tested}
use Rattle.primary_protocol.specs.Transitions.{submit, submit_tests, submitted, whole_blocks}
use Rattle.primary_core.specs.OutOfMemory.{is_out_of_memory}
use Rattle.primary_core.specs.Submit.{IsWhole, gone_out, range_tests, taken_in, result_of_tests}

first-of : (tests more : List Test) (e : Refusal) → result_of_tests tests ≡ Err e → first_refusal (tests ++ more) ≡ Some e
first-of [] more e returned = absurd (cc)
first-of ((true, refusal) ∷ tests) more e returned = let same : refusal ≡ e = cc in ap (λ (r : Refusal). Some r) same
first-of ((false, refusal) ∷ tests) more e returned = first-of tests more e returned

none-of : (tests more : List Test) → result_of_tests tests ≡ Ok tt → first_refusal (tests ++ more) ≡ first_refusal more
none-of [] more returned = refl
none-of ((true, refusal) ∷ tests) more returned = absurd (cc)
none-of ((false, refusal) ∷ tests) more returned = none-of tests more returned

-- the tests of a range that is whole
tests-are : (s : PrimaryState) (first count : ℕ) (bytes : List ℕ) (out_of_memory : Bool) → IsWhole s.settings first count bytes
    → first_refusal (submit_tests first (length (whole_blocks bytes)) out_of_memory s) ≡ first_refusal (range_tests first count s ++ memory_test out_of_memory)
tests-are s first count bytes out_of_memory is = rw is.range (ap (λ (n : ℕ). first_refusal (range_tests first n s ++ memory_test out_of_memory)) is.counted)

pub submit-refused : (s : PrimaryState) (first count : ℕ) (bytes : List ℕ) (e : Refusal) → IsWhole s.settings first count bytes
    → result_of_tests (range_tests first count s) ≡ Err e
    → (let got : Result Done Refusal × PrimaryState = (Err e, s) in got ≡ submit first bytes (is_out_of_memory {R = Done} (Err e)) s)
submit-refused s first count bytes e is returned =
    let refused = tests-are s first count bytes (is_out_of_memory {R = Done} (Err e)) is
    ∙ first-of (range_tests first count s) (memory_test (is_out_of_memory {R = Done} (Err e))) e returned in
    rw (refused, tested) refl

pub submit-done : (s : PrimaryState) (first count : ℕ) (bytes : List ℕ) (r : Done × PrimaryState) → IsWhole s.settings first count bytes
    → result_of_tests (range_tests first count s) ≡ Ok tt → r ≡ submitted first count bytes s
    → (let got : Result Done Refusal × PrimaryState = (Ok r.0, r.1) in got ≡ submit first bytes false s)
submit-done s first count bytes r is returned done =
    let none = tests-are s first count bytes false is ∙ none-of (range_tests first count s) (memory_test false) returned in
    ap (λ (p : Done × PrimaryState). (Ok p.0, p.1)) (done ∙ ap (λ (n : ℕ). submitted first n bytes s) (sym is.counted)) ∙ rw (none, tested) refl

pub submitted-is : (s t : PrimaryState) (first count : ℕ) (bytes : List ℕ) (accepted : Accepted) (r : Done × PrimaryState)
    → (let got : Accepted × PrimaryState = (accepted, t) in got ≡ taken_in first count bytes s)
    → r ≡ gone_out accepted first count bytes t → r ≡ submitted first count bytes s
submitted-is s t first count bytes accepted r taken gone = gone ∙ ap (λ (p : Accepted × PrimaryState). gone_out p.0 first count bytes p.1) taken
