-- Whether the hello is done, as the state tells it and as the history does.
use Rattle.std.proofs.Common.{ℕ, ◌≡◌, Bool, false, not, ◌&&◌, length, nat_le, Option, Some, None, sym, ◌∙◌, ap, arith}
use Rattle.std.specs.Prelude.{min}
use Rattle.std.proofs.lemmas.Bool.Decides.{nat_tests}
use Rattle.model.specs.Secondary.{SecondaryConnection}
use Rattle.model.specs.Status.{hello_is_done}
use Rattle.secondary_protocol.specs.Core.{EndState}
use Rattle.secondary_protocol.specs.Leaves.{EndLeft}

-- three at least, or not
three : (n : ℕ) → nat_le 3 (min n 3) ≡ nat_le 3 n
three n = grind (arith, nat_tests)

pub hello-done : (v : Option EndState) (c : SecondaryConnection) → EndLeft v c
    → elim v as (λ _. Bool) [ None ↦ false | Some e ↦ nat_le 3 e.hello_received && nat_le 3 e.hello_sent ] ≡ (not c.closed && hello_is_done c)
hello-done None c left = ap (λ b. not b && hello_is_done c) (sym left)
hello-done (Some e) c left =
    ap (λ n. nat_le 3 n && nat_le 3 e.hello_sent) left.hello_received ∙ ap (λ n. nat_le 3 (min (length c.taken) 3) && nat_le 3 n) left.hello_sent
    ∙ ap (λ b. b && nat_le 3 (min c.pushed 3)) (three (length c.taken)) ∙ ap (λ b. nat_le 3 (length c.taken) && b) (three c.pushed)
    ∙ ap (λ b. not b && hello_is_done c) (sym left.is_open)
