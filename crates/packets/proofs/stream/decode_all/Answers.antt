-- What the pieces were read as is the one reading of the stream.
use Rattle.std.proofs.Common.{◌≡◌, ℕ, List, map, Option, Result, Ok, Err, sym, subst}
use Rattle.std.specs.List.{flat_map}
use Rattle.std.specs.Prelude.{IfOk}
use Rattle.std.proofs.lemmas.List.Folds.{flat_map-map}
use Rattle.blocks.specs.declared.refusal.Refusal.{Refusal}
use Rattle.packets.specs.declared.packet.Packet.{Packet}
use Rattle.packets.specs.declared.stream.Transcript.{Transcript}
use Rattle.packets.specs.Stream.{Decodes, Reads}
use Rattle.packets.proofs.Readings.{one_reading}
use Rattle.packets.proofs.stream.decode_all.Goals as goal

abbrev IsRead : List ℕ → Result Transcript Refusal → Type 0
IsRead stream r = IfOk r (λ t. (rest : List ℕ) × Reads stream t.packets.items rest t.fault)

decodes : {X : Type 0} (f : X → List ℕ) (pieces : List X) (r : Result Transcript Refusal) → IsRead (flat_map f pieces) r
    → IfOk r (λ t. Decodes (map f pieces) t.packets.items t.fault)
decodes f pieces (Ok t) read = (
  read.0,
  subst (λ (stream : List ℕ). Reads stream t.packets.items read.0 t.fault) (sym (flat_map-map (λ piece. piece) f pieces)) read.1,
)
decodes f pieces (Err e) read = tt

read_once : (stream : List ℕ) (r : Result Transcript Refusal) → IsRead stream r
    → IfOk r (λ t. (others : List (List ℕ)) (packets : List Packet) (fault : Option Refusal) → flat_map (λ piece. piece) others ≡ stream
    → Decodes others packets fault → (t.packets.items ≡ packets) × (t.fault ≡ fault))
read_once stream (Ok t) read =
    λ others packets fault e other.
    let again : Reads stream packets other.0 fault = subst (λ (bytes : List ℕ). Reads bytes packets other.0 fault) e other.1 in
    let one = one_reading stream t.packets.items packets read.0 other.0 t.fault fault read.1 again in
    (one.0, one.2)
read_once stream (Err e) read = tt

pub returns-clause-read : goal.returns-clause-read
returns-clause-read c = decodes (λ piece. piece.now) c.args.pieces.now c.read_pieces.result c.read_pieces.ensures.read

pub returns-clause-only : goal.returns-clause-only
returns-clause-only c = read_once _ c.read_pieces.result c.read_pieces.ensures.read
