-- Two settings are compared field by field.
use Rattle.std.proofs.Common.{◌≡◌, Bool, true, ◌&&◌, refl, subst, ◌==◌}
use Rattle.std.proofs.lemmas.Bool.{and_parts, and_from, eqb-true, eq-eqb}
use Rattle.blocks.specs.contracts.settings.Protocol.{the_type}
use Rattle.blocks.specs.declared.settings.Protocol.{Protocol}
use Rattle.blocks.specs.declared.settings.Protocol.TheVariants as protocol
use Rattle.blocks.specs.declared.settings.Settings.{Settings}
use denote.Enum.Bare.{sameb}

-- all fields are the same
abbrev pub are_alike : Settings → Settings → Bool
are_alike a b =
    sameb the_type a.protocol b.protocol
    && ((a.blocks == b.blocks) && ((a.max_epoch == b.max_epoch)
    && ((a.slots == b.slots) && ((a.backlog == b.backlog) && ((a.link == b.link) && (a.pending == b.pending))))))

same-protocol : (a b : Protocol) → sameb the_type a b ≡ true → a ≡ b
same-protocol protocol.A protocol.A is = refl
same-protocol protocol.A protocol.B is = absurd (cc)
same-protocol protocol.A protocol.C is = absurd (cc)
same-protocol protocol.B protocol.A is = absurd (cc)
same-protocol protocol.B protocol.B is = refl
same-protocol protocol.B protocol.C is = absurd (cc)
same-protocol protocol.C protocol.A is = absurd (cc)
same-protocol protocol.C protocol.B is = absurd (cc)
same-protocol protocol.C protocol.C is = refl

protocol-self : (a : Protocol) → sameb the_type a a ≡ true
protocol-self protocol.A = refl
protocol-self protocol.B = refl
protocol-self protocol.C = refl

-- then they are one
pub alike-same : (a b : Settings) → are_alike a b ≡ true → a ≡ b
alike-same a b is =
    let one = and_parts (sameb the_type a.protocol b.protocol) _ is in
    let two = and_parts (a.blocks == b.blocks) _ one.1 in
    let three = and_parts (a.max_epoch == b.max_epoch) _ two.1 in
    let four = and_parts (a.slots == b.slots) _ three.1 in
    let five = and_parts (a.backlog == b.backlog) _ four.1 in
    let six = and_parts (a.link == b.link) (a.pending == b.pending) five.1 in
    λ i. record {
      protocol = same-protocol a.protocol b.protocol one.0 i;
      blocks = eqb-true a.blocks b.blocks two.0 i;
      max_epoch = eqb-true a.max_epoch b.max_epoch three.0 i;
      slots = eqb-true a.slots b.slots four.0 i;
      backlog = eqb-true a.backlog b.backlog five.0 i;
      link = eqb-true a.link b.link six.0 i;
      pending = eqb-true a.pending b.pending six.1 i;
    }

alike-self : (a : Settings) → are_alike a a ≡ true
alike-self a =
    and_from _ _ (protocol-self a.protocol)
    (and_from _ _ (eq-eqb a.blocks a.blocks refl)
    (and_from _ _ (eq-eqb a.max_epoch a.max_epoch refl)
    (and_from _ _ (eq-eqb a.slots a.slots refl)
    (and_from _ _ (eq-eqb a.backlog a.backlog refl) (and_from _ _ (eq-eqb a.link a.link refl) (eq-eqb a.pending a.pending refl))))))

-- and one is like itself
pub same-alike : (a b : Settings) → a ≡ b → are_alike a b ≡ true
same-alike a b same = subst (λ (x : Settings). are_alike a x ≡ true) same (alike-self a)
