use Rattle.std.proofs.Common.{ℕ, ◌≡◌, ◌-◌, ◌/◌, ◌==◌, Bool, true, false, List, [], ◌∷◌, refl, ap, arith}
use Rattle.std.specs.Prelude.{if◌then◌else◌}
use Rattle.activitylog.specs.Activity.{Active, writes_of, one_less}
use Rattle.primary_core.proofs.report.end.Goals as goal

-- an extent that counts no write is left as it is
none-less : (extent : ℕ) (active : List Active) → writes_of extent active ≡ 0 → active ≡ one_less extent active
none-less extent [] none = refl
none-less extent (a ∷ active) none = go (extent == a.extent) (none-less extent active) none
  where
    go : (b : Bool) → (writes_of extent active ≡ 0 → active ≡ one_less extent active) → (if b then a.writes else writes_of extent active) ≡ 0
        → a ∷ active ≡ (if b then record a { writes = a.writes - 1 } ∷ active else a ∷ one_less extent active)
    go true rest none = let same : a.writes ≡ a.writes - 1 = omega (arith, none) in ap (λ (n : ℕ). record a { writes = n } ∷ active) same
    go false rest none = ap (λ more. a ∷ more) (rest none)

pub returns-else-writes-gt0 : goal.returns-else-writes-gt0
returns-else-writes-gt0 c = ap (λ (more : List Active). record c.args.activity.now { active = more })
    (none-less (c.args.first.0 / 1024) c.args.activity.now.active
    (let count = c.writes.ensures in let extent = c.extent.ensures in (let zero : c.writes.result ≡ 0 = omega (arith, c.if-writes-gt0.false) in cc)))
