-- What a secondary takes of a stream begins what the primary sent of it.
use Rattle.laws.proofs.Rules.FramesDue.{due-items}
use Rattle.laws.proofs.Lists.Beginnings.{begins-take, begins-self, begins-trans, begins-drop, begins-filter_map}
use Rattle.std.proofs.Common.{◌-◌, true, false, List, length, take, drop, map, Ok, subst}
use Rattle.std.specs.Prelude.{if◌then◌else◌}
use Rattle.model.specs.Stream.{StreamItem, IsBeginning}
use Rattle.model.specs.Frames.{Packet, Received}
use Rattle.model.specs.Primary.{frames_due, PrimaryConnection, PrimaryHistory, primary_connection_at, items_sent}
use Rattle.model.specs.Secondary.{SecondaryConnection, items_taken, received_item, accepted_of, secondary_connection_at}
use Rattle.laws.specs.Statements.{JoinedTakesABeginning}
use Rattle.model.specs.Headline.{pushed_by}

-- what a pushed frame is read as
abbrev pub read : Packet → Received
read packet = Ok packet

accepted_begins : (d : SecondaryConnection) → IsBeginning (accepted_of d) (drop 3 d.taken)
accepted_begins d = begins-drop 3 _ d.taken (elim d.refused as (λ b. IsBeginning (if b then take (length d.taken - 1) d.taken else d.taken) d.taken) [
  | true ↦ begins-take (length d.taken - 1) d.taken
  | false ↦ begins-self d.taken
])

-- what the secondary took begins what the primary sent, where the frames that it took begin those pushed
pub items-begin : (p : PrimaryHistory) (c : PrimaryConnection) (d : SecondaryConnection) → IsBeginning d.taken (pushed_by p c)
    → IsBeginning (items_taken d) (take (items_sent c) c.stream)
items-begin p c d pushed =
    let due : List Packet = frames_due p.settings c in
    let taken : IsBeginning (drop 3 d.taken) (drop 3 (map read (take c.pushed due))) = begins-drop 3 d.taken (map read (take c.pushed due)) pushed in
    let all = begins-trans (accepted_of d) (drop 3 d.taken) (drop 3 (map read (take c.pushed due))) (accepted_begins d) taken in
    let items = begins-filter_map received_item (accepted_of d) (drop 3 (map read (take c.pushed due))) all in
    subst (λ (l : List StreamItem). IsBeginning (items_taken d) l) (due-items p.settings c c.pushed) items

-- what the secondary took on each connection begins what the primary sent on it
pub takes_a_beginning : JoinedTakesABeginning
takes_a_beginning p s joined number = items-begin p (primary_connection_at p number) (secondary_connection_at s number) (joined.out number)
