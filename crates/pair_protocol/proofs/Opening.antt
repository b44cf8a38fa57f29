-- Both ends open, or none.
use Rattle.std.proofs.Common.{ℕ, ◌≡◌, Bool, [], Option, Some, None, refl, sym, ◌∙◌, ap, subst}
use Rattle.blocks.specs.declared.refusal.Refusal.{Refusal}
use Rattle.blocks.specs.declared.outcome.Reply.{Reply}
use Rattle.blocks.specs.declared.outcome.Reply.TheVariants as reply
use Rattle.model.specs.LocalRuns.{Opens, OpensToo}
use Rattle.blocks.specs.SettingsRange.{IsInRange}
use Rattle.blocks.specs.declared.settings.Settings.{Settings}
use Rattle.blocks.specs.declared.tuple.Tuple.{Tuple}
use Rattle.model.specs.Contents.{BlockMap, IsDisk}
use Rattle.model.specs.Pair.{OpenEvent, PairHistory, open_pair, open_pair_tests, pair_opening}
use Rattle.model.specs.Primary.{primary_opening}
use Rattle.model.specs.PrimarySteps.{open_primary}
use Rattle.model.specs.Refusals.{first_refusal}
use Rattle.model.specs.Secondary.{secondary_opening}
use Rattle.model.specs.SecondarySteps.{open_secondary}
use Rattle.primary_protocol.specs.Node as primary
use Rattle.secondary_protocol.specs.Node as secondary
use Rattle.pair_protocol.specs.State.{PairHas, PairState, IsPairStep, primary_of, secondary_of}
use Rattle.pair_protocol.proofs.Stepping.{is-run-more}

-- one of the tests refuses
pub not-opened : (sync loss : ℕ) (out_of_memory : Bool) (p : PairState) (e : Refusal)
    → ((h : PairHistory) → PairHas p h → first_refusal (open_pair_tests h sync loss out_of_memory) ≡ Some e)
    → IsPairStep (OpenEvent sync loss) out_of_memory p (reply.Refused e) p
not-opened sync loss out_of_memory p e refuses = record {
  replies = λ h has. sym (ap (λ (r : Reply × PairHistory). r.0) (does h has));
  after = λ h has. subst (PairHas p) (sym (ap (λ (r : Reply × PairHistory). r.1) (does h has))) has;
}
  where
    does : (h : PairHistory) → PairHas p h → open_pair sync loss out_of_memory h ≡ (reply.Refused e, h)
    does h has = ap (λ (v : Option Refusal). elim v as (λ _. Reply × PairHistory) [
      | Some refusal ↦ (reply.Refused refusal, h)
      | None ↦ let primary = open_primary sync loss out_of_memory h.primary in (
        primary.0,
        record { primary = primary.1; secondary = (open_secondary 0 h.secondary).1 },
      )
    ]) (refuses h has)

-- none of them does, and both nodes opened
pub opened : (sync loss : ℕ) (out_of_memory : Bool) (p q : PairState) (said other : Reply)
    → ((h : PairHistory) → PairHas p h → first_refusal (open_pair_tests h sync loss out_of_memory) ≡ None)
    → primary.NodeSteps (Opens sync loss out_of_memory) (primary_of p) said (primary_of q)
    → secondary.NodeSteps (OpensToo 0) (secondary_of p) other (secondary_of q)
    → IsPairStep (OpenEvent sync loss) out_of_memory p said q
opened sync loss out_of_memory p q said other passes here there = record {
  replies = λ h has. here.replies h.primary has.primary ∙ sym (ap (λ (r : Reply × PairHistory). r.0) (does h has));
  after = λ h has. record {
    primary = subst (λ (r : Reply × PairHistory). primary.NodeHas (primary_of q) r.1.primary) (sym (does h has)) (here.after h.primary has.primary);
    secondary = subst (λ (r : Reply × PairHistory). secondary.NodeHas (secondary_of q) r.1.secondary) (sym (does h has))
        (there.after h.secondary has.secondary);
    run = is-run-more (OpenEvent sync loss) out_of_memory h has.run;
  };
}
  where
    both : (h : PairHistory) → Reply × PairHistory
    both h = let primary = open_primary sync loss out_of_memory h.primary in (
      primary.0,
      record { primary = primary.1; secondary = (open_secondary 0 h.secondary).1 },
    )

    does : (h : PairHistory) → PairHas p h → open_pair sync loss out_of_memory h ≡ both h
    does h has = ap (λ (v : Option Refusal). elim v as (λ _. Reply × PairHistory) [
      | Some refusal ↦ (reply.Refused refusal, h)
      | None ↦ let primary = open_primary sync loss out_of_memory h.primary in (
        primary.0,
        record { primary = primary.1; secondary = (open_secondary 0 h.secondary).1 },
      )
    ]) (passes h has)

-- Two nodes at an opening are a pair, with no link yet.
pub pair-opening-has : (p : PairState) (settings : Settings) (local peer : BlockMap) (own peer_tuple : Tuple) (marks : ℕ → Bool) → IsInRange settings
    → IsDisk settings.blocks local → IsDisk settings.blocks peer
    → primary.NodeHas (primary_of p) (primary_opening settings local own marks)
    → secondary.NodeHas (secondary_of p) (secondary_opening settings peer peer_tuple) → PairHas p (pair_opening settings local peer own peer_tuple marks)
pair-opening-has p settings local peer own peer_tuple marks ranges here there first second = record {
  primary = first;
  secondary = second;
  run = record {
    opening = record { settings = settings; peer_settings = settings; local = local; peer = peer; own = own; peer_tuple = peer_tuple; marks = marks };
    events = [];
    shares = refl;
    ranges = record { here = ranges; there = ranges };
    local = here;
    peer = there;
    is = refl;
  };
}
