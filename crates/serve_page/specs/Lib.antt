-- What the status page tells of a report.
pub mod Latencies
pub mod Map
pub mod Metrics
pub mod Samples
