-- `refusals`: what a refused step of the pair leaves as it was, and what a refused frame does.
pub use Rattle.laws.proofs.Pair.Refused.{refused_steps_change_nothing, refused_frames_close}
pub use Rattle.laws.proofs.Pair.RefusedFrames.{refused_frames_close_the_primary, refused_frames_close_the_secondary, refused_frames_leave_the_items}
pub use Rattle.laws.proofs.Pair.LostConnections.{refused_frames_lose_the_connection}
