use Rattle.std.proofs.Common.{◌≡◌, ◌++◌, drop, string_bytes}
use Rattle.serve_page.specs.Latencies.{buckets_text}
use Rattle.serve_page.proofs.histogram.buckets.Given as goal

-- what is written, with the buckets to come, is the text of all
abbrev pub invariant-loop-index : goal.invariant-loop-index
invariant-loop-index l = string_bytes l.text ++ buckets_text l.command l.index (drop l.index l.within) ≡ buckets_text l.command 0 l.within
