-- The events of a pair as events of the model.
use Rattle.primary_protocol.specs.Transitions.{whole_blocks}
use Rattle.model.specs.Pair as model
use Rattle.pair.specs.declared.event.Event.{Event}
use Rattle.pair.specs.declared.event.Event.TheVariants as event

-- an event as the model has it; the bytes of a submission become blocks of 4096 bytes, or none if they are not whole
-- blocks
abbrev pub event_of : Event → model.Event
event_of (event.Open sync loss) = model.OpenEvent sync loss
event_of (event.Submit first contents) = model.SubmitEvent first (whole_blocks contents)
event_of (event.Local number) = model.LocalEvent number
event_of (event.LocalFault number kept) = model.LocalFaultEvent number kept
event_of event.Send = model.SendEvent
event_of event.Receive = model.ReceiveEvent
event_of (event.Peer place) = model.PeerEvent place
event_of (event.PeerFault place kept) = model.PeerFaultEvent place kept
event_of event.AckOut = model.AckOutEvent
event_of event.AckIn = model.AckInEvent
event_of event.Resync = model.ResyncEvent
event_of event.ResyncFault = model.ResyncFaultEvent
event_of event.ClosePrimary = model.ClosePrimaryEvent
event_of event.CloseSecondary = model.CloseSecondaryEvent
