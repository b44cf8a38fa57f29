-- `honest_link`: no step of the pair is refused as a protocol error.
pub use Rattle.laws.proofs.Pair.Honest.{every_step_is_honest}
