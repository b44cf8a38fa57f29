-- `write_order`: while it is consistent, a secondary keeps the order of writes: of joined nodes, and of the pair.
use Rattle.std.proofs.Common.{ℕ, ◌≡◌, ◌<◌, inl, inr, true, ◌∙◌}
use Rattle.std.specs.Prelude.{is_some}
use Rattle.std.proofs.lemmas.Bool.{lt-ltb}
use Rattle.model.specs.LocalRuns.{primary_run, secondary_run}
use Rattle.model.specs.Theorems.{IsSoundOpening, JoinedRunsKeepWriteOrder, EveryRunKeepsWriteOrder, primary_at, secondary_at}
use Rattle.model.specs.WriteOrder.{KeepsWriteOrder, IsUnharmed}
use Rattle.laws.proofs.Theorems.PairIsJoined.{of-joined}
use Rattle.laws.proofs.Secondary.Runs.{holds_earlier_epochs}
use Rattle.laws.proofs.WriteOrder.Adopted.{adopted-behind}
use Rattle.laws.proofs.WriteOrder.Consistent.{synced-run}
use Rattle.laws.proofs.WriteOrder.GenerationRuns.{left-run}
use Rattle.laws.proofs.WriteOrder.Never.{never-keeps}
use Rattle.laws.proofs.WriteOrder.Sets.{behind-keeps}
use Rattle.laws.proofs.WriteOrder.CompletedEarlier.{turns-run}

-- of two nodes that are joined
pub joined_write_order : JoinedRunsKeepWriteOrder
joined_write_order o here there sound joined unharmed consistent =
    let p = primary_run here (primary_at o) in
    let s = secondary_run there (secondary_at o) in
    let sized : (block : ℕ) → block < o.settings.blocks → is_some (o.local block) ≡ true = λ block inside. sound.local block
    ∙ lt-ltb block o.settings.blocks inside in
    let known = left-run o.settings o.local o.own o.marks here sound.ranges.here sized in
    let ordered = known.0.0.0 in
    let homes = ordered.1.1.0.0 in
    let turns = turns-run o.settings o.local o.own o.marks here sound.ranges.here sized in
    let epochs = holds_earlier_epochs o there in
    let keeps = behind-keeps p s homes ordered.1.1.1 turns.turn epochs in
    elim ((synced-run o.peer_settings o.peer o.peer_tuple there).synced consistent) [
      | inl never ↦ never-keeps o here there sound joined unharmed homes known.0.1 known.1 epochs never keeps
      | inr adopted ↦ keeps (adopted-behind o here there sound joined unharmed homes known.0.0.1 known.0.1 known.1 epochs adopted)
    ]

-- of the pair
pub every_write_order : EveryRunKeepsWriteOrder
every_write_order = of-joined IsSoundOpening (λ p s. IsUnharmed p s → KeepsWriteOrder p s) joined_write_order
