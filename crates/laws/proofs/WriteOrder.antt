-- The order of writes that a consistent secondary keeps: the set behind its disk, what a primary's history keeps of the writes of
-- each connection and of its generations, why a secondary is consistent, and the two joined.
pub mod Adopted
pub mod Consistent
pub mod Ends
pub mod GenerationBegins
pub mod GenerationMoves
pub mod GenerationRuns
pub mod Generations
pub mod Layers
pub mod Never
pub mod Sets
pub mod SpanBegins
pub mod SpanKept
pub mod SpanMoves
pub mod SpanRuns
pub mod SpanSteps
pub mod SpanSubmits
pub mod Spans
pub mod CompletedEarlier
