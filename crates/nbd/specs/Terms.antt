-- What the handshake agreed.
use Rattle.std.specs.Prelude.{false, Option, Some, None}
use Rattle.nbd.specs.declared.terms.Terms.{Terms}

-- neither structured replies nor the context base:allocation
abbrev pub plain : Terms
plain = record { structured = false; allocation = false }

-- the terms after an option, which may set them
abbrev pub terms_now : Terms → Option Terms → Terms
terms_now terms None = terms
terms_now terms (Some new) = new
