use Rattle.std.proofs.Common.{◌≡◌, ◌++◌, ◌∙◌, ◌<◌, ◌+◌, length, drop, get_or, string_bytes, refl, sym}
use Rattle.std.proofs.lemmas.List.{append_assoc, at_drop_more}
use Rattle.serve_page.specs.Latencies.{bound_text, bucket_text, buckets_text}
use Rattle.serve_page.proofs.histogram.buckets.Goals as goal

-- the line of one more bucket is written, and is the first of those that were to come
pub loop-index-preserved : goal.loop-index-preserved
loop-index-preserved c =
    let command = c.args.command.now in
    let xs = c.args.within.now in
    let i = c.loop-index.index in
    let before = string_bytes c.loop-index.text in
    let bucket = bucket_text command (bound_text i) (get_or xs i 0) in
    let rest = buckets_text command (i + 1) (drop (i + 1) xs) in
    let here : i < length xs = rw c.told-within c.loop-index-test.true in
    let wrote : string_bytes c.write.new.self ≡ before ++ bucket = rw (c.in_ok-write.ensures.bytes, c.bound-bound.ensures) refl in
    let step : before ++ buckets_text command i (drop i xs) ≡ before ++ (bucket ++ rest) =
    at_drop_more (λ left. before ++ buckets_text command i left) xs i 0 here in
    rw (wrote, append_assoc before bucket rest) (sym step ∙ c.loop-index.invariant)
