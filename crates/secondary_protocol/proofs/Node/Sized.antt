-- A node's disk has the blocks of its device.
use Rattle.std.proofs.Common.{ℕ, ◌≡◌, ◌<◌, ◌≤◌, inl, inr, true, List, [], ◌∷◌, length, None, slice_get, refl, sym, ◌∙◌, ap, subst, arith}
use Rattle.std.specs.Prelude.{is_some}
use Rattle.std.proofs.lemmas.Bool.{cases_lt, lt-ltb}
use Rattle.std.proofs.lemmas.Option.{slice_get_past}
use Rattle.blocks.specs.declared.settings.Settings.{Settings}
use Rattle.model.specs.Contents.{BlockMap}
use Rattle.model.specs.Stream.{layers_of}
use Rattle.model.specs.Secondary.{SecondaryConnection, SecondaryHistory, secondary_opening, no_secondary_connection, secondary_map, items_taken, map_of}
use Rattle.model.specs.LocalRuns.{SecondaryEvent, secondary_after, secondary_run}
use Rattle.laws.proofs.Blocks.Overlays.{overlay-some}
use Rattle.laws.proofs.Secondary.Chained.{AreChained, disk_after, last-disk}
use Rattle.laws.proofs.Secondary.Moves.{after-event}
use Rattle.secondary_protocol.specs.Node.{NodeState, NodeIsHad, IsReached}
use Rattle.secondary_protocol.proofs.Node.Apart.{reached-settled}

-- What no event changes.
record Same (h later : SecondaryHistory) : Type 0 where
  settings : later.settings ≡ h.settings
  opening : later.opening_map ≡ h.opening_map

same-after : (event : SecondaryEvent) (h : SecondaryHistory) → Same h (secondary_after event h)
same-after event h = after-event (Same h) h event (record {
  same = still;
  opens = λ unseen was. record { settings = refl; opening = refl };
  takes = λ frame standing. record {
    accepts = record { settings = refl; opening = refl };
    receipts = λ write at is late. record { settings = refl; opening = refl };
    adopts = λ item tuple consistent is late. record { settings = refl; opening = refl };
    refuses = record { settings = refl; opening = refl };
  };
  applies = λ place waits first. record { settings = refl; opening = refl };
  fails = λ place offsets waits first. record { settings = refl; opening = refl };
  pushes = λ standing some. record { settings = refl; opening = refl };
  closes = λ standing. record { settings = refl; opening = refl };
})
  where
    still : Same h h
    still = record { settings = refl; opening = refl }

same-run : (events : List SecondaryEvent) (h : SecondaryHistory) → Same h (secondary_run events h)
same-run [] h = record { settings = refl; opening = refl }
same-run (event ∷ events) h =
    let one = same-after event h in
    let rest = same-run events (secondary_after event h) in
    record { settings = rest.settings ∙ one.settings; opening = rest.opening ∙ one.opening }

-- a block that the disk had at the opening is there after each connection
some-after : (disk : BlockMap) (ds : List SecondaryConnection) (block : ℕ) → AreChained disk ds → is_some (disk block) ≡ true
    → is_some (disk_after disk ds block) ≡ true
some-after disk [] block chained some = some
some-after disk (d ∷ ds) block chained some =
    some-after (map_of d) ds block chained.1 (overlay-some d.base (layers_of (items_taken d) d.applied) block (ap is_some (chained.0 block) ∙ some))

-- The device has each of its blocks on every history that is reached.
some-block : (h : SecondaryHistory) → IsReached h → (block : ℕ) → block < h.settings.blocks → is_some (secondary_map h block) ≡ true
some-block h is block less =
    let same : Same (secondary_opening is.settings is.disk is.tuple) h = subst (Same (secondary_opening is.settings is.disk is.tuple)) (sym is.reached)
    (same-run is.events (secondary_opening is.settings is.disk is.tuple)) in
    let blocks : h.settings.blocks ≡ is.settings.blocks = ap (λ (s : Settings). s.blocks) same.settings in
    let opening : is_some (h.opening_map block) ≡ true = ap (λ (m : BlockMap). is_some (m block)) same.opening
    ∙ (is.sized block ∙ lt-ltb block is.settings.blocks (omega (arith, blocks))) in
    ap is_some (last-disk (no_secondary_connection h) h.connections block)
    ∙ some-after h.opening_map h.connections block (reached-settled h is).kept.chained opening

-- The disk of a node is as long as that.
pub disk-long : (n : NodeState) → NodeIsHad n → n.core.settings.blocks ≤ length n.disk
disk-long n had = elim (cases_lt (length n.disk) n.core.settings.blocks) [
  | inr long ↦ long
  | inl short ↦
      let has = had.has in
      let blocks : n.core.settings.blocks ≡ had.history.settings.blocks = ap (λ (s : Settings). s.blocks) has.leaves.core.settings in
      let some : is_some (slice_get n.disk (length n.disk)) ≡ true = ap is_some (has.leaves.disk (length n.disk))
      ∙ some-block had.history has.reached (length n.disk) (omega (arith, blocks)) in
      let none : slice_get n.disk (length n.disk) ≡ None = slice_get_past n.disk (length n.disk) (omega arith) in
      absurd (let one = sym (ap is_some none) ∙ some in cc)
]
