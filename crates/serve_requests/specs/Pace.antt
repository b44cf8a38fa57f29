-- The time in which a client has to take its replies.
use Rattle.std.specs.Prelude.{ℕ, ◌+◌, ◌*◌, ◌/◌}

-- the nanoseconds for a client that has taken so many bytes: some milliseconds for each MiB that it has begun
abbrev pub allowed_nanos : ℕ → ℕ → ℕ
allowed_nanos ms_per_mib written = ms_per_mib * (written / 1048576 + 1) * 1000000
