use Rattle.nbd.proofs.Covering.{request_bytes}
use Rattle.nbd.proofs.laws.places_are_the_payload.Goals as goal

pub returns : goal.returns
returns c blocks r inside = request_bytes blocks r inside
