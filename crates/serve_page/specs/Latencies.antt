-- How long requests took: a histogram in the text form of Prometheus.
use Rattle.std.specs.Prelude.{ℕ, List, [], ◌∷◌, ◌++◌, ◌+◌, ◌-◌, ◌^◌, ◌/◌, ◌%◌, ◌==◌, nat_le, if◌then◌else◌, codes, false}
use Rattle.std.specs.Fmt.{decimal, digits, format_spec, padded_integral}
use Rattle.serve_page.specs.declared.latencies.CommandLatency.{CommandLatency}

-- the bounds in seconds
abbrev pub bound_text : ℕ → List ℕ
bound_text i =
    if i == 0 then codes "0.0001" else (
    if i == 1 then codes "0.00025" else (
    if i == 2 then codes "0.0005" else (
    if i == 3 then codes "0.001" else (
    if i == 4 then codes "0.0025" else (
    if i == 5 then codes "0.005" else (
    if i == 6 then codes "0.01" else (
    if i == 7 then codes "0.025" else (
    if i == 8 then codes "0.05" else (
    if i == 9 then codes "0.1" else (
    if i == 10 then codes "0.25" else (
    if i == 11 then codes "0.5" else (
    if i == 12 then codes "1" else (
    codes "2.5")))))))))))))

-- the first of them that so many microseconds do not exceed, or how many there are
abbrev pub bucket_of : ℕ → ℕ
bucket_of us =
    if nat_le us 100 then 0 else (
    if nat_le us 250 then 1 else (
    if nat_le us 500 then 2 else (
    if nat_le us 1000 then 3 else (
    if nat_le us 2500 then 4 else (
    if nat_le us 5000 then 5 else (
    if nat_le us 10000 then 6 else (
    if nat_le us 25000 then 7 else (
    if nat_le us 50000 then 8 else (
    if nat_le us 100000 then 9 else (
    if nat_le us 250000 then 10 else (
    if nat_le us 500000 then 11 else (
    if nat_le us 1000000 then 12 else (
    if nat_le us 2500000 then 13 else (
    14))))))))))))))

-- how many requests took no longer than a bound
abbrev pub bucket_text : List ℕ → List ℕ → ℕ → List ℕ
bucket_text command bound n =
    codes "drbdpair_request_seconds_bucket{command=\"" ++ (command ++ (codes "\",le=\"" ++ (bound ++ (codes "\"} " ++ (decimal n ++ codes "\n")))))

-- the same for each bound from one on
abbrev pub buckets_text : List ℕ → ℕ → List ℕ → List ℕ
buckets_text command i [] = []
buckets_text command i (n ∷ ns) = bucket_text command (bound_text i) n ++ buckets_text command (i + 1) ns

-- microseconds as seconds, with six digits after the point
abbrev pub seconds_text : ℕ → List ℕ
seconds_text us = decimal (us / 1000000) ++ (codes "." ++ padded_integral (format_spec 32 0 4 6 (2 ^ 64 - 1)) false [] (digits 10 false (us % 1000000)))

-- the samples of a command: its buckets, the last of which has no bound, its seconds, and its requests
abbrev pub command_text : List ℕ → CommandLatency → List ℕ
command_text command latency =
    buckets_text command 0 latency.within ++ (bucket_text command (codes "+Inf") latency.count
    ++ (codes "drbdpair_request_seconds_sum{command=\"" ++ (command ++ (codes "\"} " ++ (seconds_text latency.microseconds
    ++ (codes "\ndrbdpair_request_seconds_count{command=\"" ++ (command ++ (codes "\"} " ++ (decimal latency.count ++ codes "\n")))))))))
