-- What a call that succeeded ensures.
use Rattle.std.specs.Prelude.{Result, Ok, Err, IfOk, OnOk}

-- two facts are one
pub both : {V E : Type 0} (A B : Type 0) (result : Result V E) → OnOk result A → OnOk result B → OnOk result (A × B)
both A B (Ok v) a b = (a, b)
both A B (Err e) a b = tt

-- two facts of the value are one
pub both-of : {V E : Type 0} (A B : V → Type 0) (result : Result V E) → IfOk result A → IfOk result B → IfOk result (λ v. A v × B v)
both-of A B (Ok v) a b = (a, b)
both-of A B (Err e) a b = tt
