-- A completion changes no item, and so nothing that is read off the items.
use Rattle.std.proofs.Common.{◌≡◌, ℕ, suc, List, [], ◌∷◌, length, map, refl, ap}
use Rattle.epochs.specs.Streams.{Item, WriteItem, ResyncItem, BarrierItem, IdentifiersItem, Entry, Stands, with_completion, last_epoch, writes_of, barriers_of}
use Rattle.epochs.specs.Streams.{IsLawful}
use Rattle.epochs.specs.Streams.{FollowsOn}

pub length-completion : (completed : ℕ) (es : List Entry) → length (map (with_completion completed) es) ≡ length es
length-completion completed [] = refl
length-completion completed (e ∷ es) = ap suc (length-completion completed es)

pub writes-completion : (completed : ℕ) (es : List Entry) → writes_of (map (with_completion completed) es) ≡ writes_of es
writes-completion completed [] = refl
writes-completion completed (Stands (WriteItem number) place done ∷ es) = ap (λ ns. number ∷ ns) (writes-completion completed es)
writes-completion completed (Stands ResyncItem place done ∷ es) = writes-completion completed es
writes-completion completed (Stands (BarrierItem number) place done ∷ es) = writes-completion completed es
writes-completion completed (Stands IdentifiersItem place done ∷ es) = writes-completion completed es

pub barriers-completion : (completed : ℕ) (es : List Entry) → barriers_of (map (with_completion completed) es) ≡ barriers_of es
barriers-completion completed [] = refl
barriers-completion completed (Stands (WriteItem number) place done ∷ es) = barriers-completion completed es
barriers-completion completed (Stands ResyncItem place done ∷ es) = barriers-completion completed es
barriers-completion completed (Stands (BarrierItem number) place done ∷ es) = ap suc (barriers-completion completed es)
barriers-completion completed (Stands IdentifiersItem place done ∷ es) = barriers-completion completed es

pub last-completion : (completed : ℕ) (es : List Entry) → last_epoch (map (with_completion completed) es) ≡ map (with_completion completed) (last_epoch es)
last-completion completed [] = refl
last-completion completed (Stands (WriteItem number) place done ∷ es) = ap (λ more. with_completion completed (Stands (WriteItem number) place done) ∷ more)
    (last-completion completed es)
last-completion completed (Stands ResyncItem place done ∷ es) = ap (λ more. with_completion completed (Stands ResyncItem place done) ∷ more)
    (last-completion completed es)
last-completion completed (Stands (BarrierItem number) place done ∷ es) = refl
last-completion completed (Stands IdentifiersItem place done ∷ es) = ap (λ more. with_completion completed (Stands IdentifiersItem place done) ∷ more)
    (last-completion completed es)

-- the writes of the last epoch stay
pub last_writes-completion : (completed : ℕ) (es : List Entry) → writes_of (last_epoch (map (with_completion completed) es)) ≡ writes_of (last_epoch es)
last_writes-completion completed es = rw (last-completion completed es) (writes-completion completed (last_epoch es))

follows-completion : (completed : ℕ) (item : Item) (es : List Entry) → FollowsOn item es → FollowsOn item (map (with_completion completed) es)
follows-completion completed (WriteItem number) es follows = rw (writes-completion completed es) follows
follows-completion completed ResyncItem es follows = tt
follows-completion completed (BarrierItem number) es follows = rw (barriers-completion completed es) follows
follows-completion completed IdentifiersItem es follows = tt

pub lawful-completion : (completed max_epoch : ℕ) (es : List Entry) → IsLawful max_epoch es → IsLawful max_epoch (map (with_completion completed) es)
lawful-completion completed max_epoch [] lawful = tt
lawful-completion completed max_epoch (Stands item place done ∷ es) lawful = (
  record {
    placed = rw (length-completion completed es) lawful.0.placed;
    number = follows-completion completed item es lawful.0.number;
    short = rw (last_writes-completion completed (Stands item place done ∷ es)) lawful.0.short;
  },
  lawful-completion completed max_epoch es lawful.1,
)
