use Rattle.std.proofs.Common.{◌≡◌, ℕ, zero, suc, ◌-◌, ◌<◌, Option, Some, None, refl, ap, arith}
use Rattle.std.specs.Prelude.{IfSome, option_map}
use Rattle.transferlog.specs.Fields.{index_of}
use Rattle.transferlog.proofs.log.TransferLog.connection.Goals as goal

-- a number from 1 on is that of its index
numbered : (connection : Option ℕ) → IfSome connection (λ number. 0 < number) → connection ≡ option_map suc (index_of connection)
numbered None some = refl
numbered (Some zero) some = absurd (let none : 0 < 0 = some in omega arith)
numbered (Some (suc n)) some = ap Some (let same : suc n ≡ suc (suc n - 1) = omega arith in same)

pub returns : goal.returns
returns c = rw (← c.self.view_is) (numbered _ c.self.invariant.numbered)
