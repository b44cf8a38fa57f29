-- A receipt keeps its fields.
use Rattle.std.proofs.Common.{◌≡◌, refl, ap}
use Rattle.primary.specs.Receipts.{kind_as, kind_from, receipt_as, receipt_from}
use Rattle.primary.specs.declared.receipts.CompletionKind as receipts
use Rattle.primary.specs.declared.receipts.CompletionKind.TheVariants as kind
use Rattle.primary.specs.declared.receipts.Receipt.TheInside.{Inside}

kind_back : (k : receipts.CompletionKind) → kind_from (kind_as k) ≡ k
kind_back kind.Linked = refl
kind_back kind.Alone = refl

-- its view gives them back
pub given_back : (a : Inside) → receipt_from (receipt_as a) ≡ a
given_back a = ap (λ k. record a { kind = k }) (kind_back a.kind)
