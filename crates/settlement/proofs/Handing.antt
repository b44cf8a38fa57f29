-- Why the next session may start from the parts that two nodes leave.
use Rattle.std.proofs.Common.{◌≡◌, ◌<◌, true, false}
use Rattle.std.proofs.Common.{slice_get, sym, ◌∙◌, ap, subst, nat_lt}
use Rattle.std.specs.Prelude.{IsTrue, unwrap_or}
use Rattle.std.proofs.lemmas.Bool.{and_parts, and_from}
use Rattle.blocks.specs.SettingsRange.{IsInRange}
use Rattle.blocks.specs.declared.settings.Settings.{Settings}
use Rattle.blocks.specs.declared.tuple.Tuple.{Tuple}
use Rattle.settlement.specs.Left.{IsUnparted, left_by}
use Rattle.session_api.specs.Opening.{opening_of}
use Rattle.settlement.specs.Next.{IsLeft, identifiers_of}
use Rattle.settlement.proofs.Leaving.{leaves_a_sound_opening, leaves_no_part}
use Rattle.model.specs.Contents.{IsDisk}
use Rattle.model.specs.Headline.{IsJoined, Cover, is_marked}
use Rattle.model.specs.Primary.{PrimaryHistory, local_map}
use Rattle.model.specs.Secondary.{SecondaryHistory, secondary_map}
use Rattle.model.specs.Settlement.{is_at_rest}
use Rattle.model.specs.Theorems.{IsSoundOpening, marks_at}
use Rattle.primary_protocol.specs.Steps as primary
use Rattle.secondary_protocol.specs.Node as secondary
use Rattle.settlement.proofs.Settling.{reached_from, of-runs, sound-opening}
use Rattle.settlement.specs.Settled.{WereHonest}
use Rattle.session_api.specs.declared.session_start.SessionStart.{SessionStart}

-- what two histories leave is a sound opening, where they are joined and at rest
abbrev LeaveSound : PrimaryHistory → SecondaryHistory → Type 0
LeaveSound p s = IsJoined p s → IsTrue p.faithful → is_at_rest p s ≡ true → IsSoundOpening (left_by p s (identifiers_of s.consistent s.tuple p.tuple))

-- Histories that nodes have do, where the identifiers of both openings were honest.
pub reached-leave : (p : PrimaryHistory) (s : SecondaryHistory) → primary.IsReached p → secondary.IsReached s → WereHonest p s → LeaveSound p s
reached-leave p s rp rs honest =
    of-runs LeaveSound p s rp rs (leaves_a_sound_opening (reached_from p s rp rs) rp.events rs.events (sound-opening p s rp rs honest))

-- what two histories leave has no bitmap identifier where both current ones are the same, if it was so at the opening
abbrev LeaveNoPart : PrimaryHistory → SecondaryHistory → Type 0
LeaveNoPart p s = IsJoined p s → (p.opening_tuple.current ≡ s.opening_tuple.current → p.opening_tuple.bitmap ≡ 0) → is_at_rest p s ≡ true
    → IsUnparted (left_by p s (identifiers_of s.consistent s.tuple p.tuple))

pub reached-parts : (p : PrimaryHistory) (s : SecondaryHistory) → primary.IsReached p → secondary.IsReached s → WereHonest p s → LeaveNoPart p s
reached-parts p s rp rs honest =
    of-runs LeaveNoPart p s rp rs (leaves_no_part (reached_from p s rp rs) rp.events rs.events (sound-opening p s rp rs honest))

-- The parts that are left over the disks as they are: the same opening, over settings that both nodes have.
pub parts-sound : (parts : SessionStart) (p : PrimaryHistory) (s : SecondaryHistory) → IsLeft parts p s → p.settings ≡ s.settings
    → IsSoundOpening (left_by p s parts.peer) → IsSoundOpening (opening_of parts (local_map p) (secondary_map s))
parts-sound parts p s left same sound = record {
  ranges = record { here = range; there = range };
  local = subst (λ (x : Settings). IsDisk x.blocks (local_map p)) (sym left.settings) sound.local;
  peer = subst (λ (x : Settings). IsDisk x.blocks (secondary_map s)) (sym (left.settings ∙ same)) sound.peer;
  identifiers = record {
    own_data = subst (λ (t : Tuple). 0 < t.current) (sym left.own) sound.identifiers.own_data;
    same_current = λ is. covers (sound.identifiers.same_current (is ∙ ap (λ (t : Tuple). t.current) left.own));
    from_bitmap = λ some is. covers (sound.identifiers.from_bitmap (subst (λ (t : Tuple). 0 < t.bitmap) left.own some) (is
        ∙ ap (λ (t : Tuple). t.bitmap) left.own));
  };
}
  where
    range : IsInRange parts.settings
    range = subst IsInRange (sym left.settings) sound.ranges.here

    covers : Cover (is_marked p) (local_map p) (secondary_map s)
        → Cover (marks_at (opening_of parts (local_map p) (secondary_map s))) (local_map p) (secondary_map s)
    covers cover block differs =
        let marked : is_marked p block ≡ true = cover block differs in
        let inside : nat_lt block parts.settings.blocks ≡ true = ap (λ (x : Settings). nat_lt block x.blocks) left.settings
        ∙ (and_parts (nat_lt block p.settings.blocks) (p.marks block) marked).0 in
        and_from (nat_lt block parts.settings.blocks) (unwrap_or (slice_get parts.marks block) false) inside (left.marks block ∙ marked)
