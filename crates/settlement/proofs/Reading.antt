-- A read changes no more than whether the disk is faithful.
use Rattle.std.proofs.Common.{ℕ, ◌≡◌, Bool, sym, subst}
use Rattle.std.specs.Prelude.{IsTrue}
use Rattle.model.specs.Primary.{PrimaryHistory}
use Rattle.primary.specs.State.{PrimaryView, node}
use Rattle.primary_protocol.specs.Node.{NodeHas}

pub has-read : (v w : PrimaryView) (faults : ℕ) (steady faithful : Bool) → w ≡ record v { faults = faults; steady = steady; faithful = faithful }
    → (IsTrue w.faithful → IsTrue v.faithful) → (h : PrimaryHistory) → NodeHas (node v) h → NodeHas (node w) h
has-read v w faults steady faithful is falls h has = subst (λ (x : PrimaryView). NodeHas (node x) h) (sym is) (record {
  leaves = record {
    core = has.leaves.core;
    disk = has.leaves.disk;
    pushed = has.leaves.pushed;
    taken = has.leaves.taken;
    faithful = λ true. has.leaves.faithful (falls (subst (λ (x : PrimaryView). IsTrue x.faithful) (sym is) true));
  };
  reached = has.reached;
})
