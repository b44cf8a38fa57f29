-- What did not fail did its work.
use Rattle.std.proofs.Common.{ℕ, ◌≡◌, ◌<◌, ◌⊎◌, inl, inr, arith}

pub in-fact : {A B : Type 0} {new old : ℕ} → ((new ≡ old) × A) ⊎ ((old < new) × B) → new ≡ old → A
in-fact (inl done) same = done.1
in-fact (inr failed) same = let more = failed.0 in absurd (omega (arith, same, more))
