use Rattle.std.proofs.Common.{ℕ, ◌≡◌, ◌<◌, List, length, drop, sym, subst, rules}
use Rattle.std.proofs.lemmas.List.{take_at}
use Rattle.metadata.specs.Says.{entered_in}
use Rattle.metadata.specs.State.{is_entered}
use Rattle.metadata.proofs.Opened.{entry-read}
use Rattle.metadata.proofs.opening.read_entries.Goals as goal

pub returns-clause-entries : goal.returns-clause-entries
returns-clause-entries g c faithful x =
    let b : List ℕ = c.read_at.new.buffer in
    let file : List ℕ = g.F.StableFile.seen c.args.file.now in
    let items : List ℕ = c.in_ok-entries.entries.items in
    let size : length b ≡ c.in_ok-entries.entries.len = search rules in
    let whole = take_at b (drop (length b) items) c.in_ok-entries.entries.len size in
    let read = c.in_ok-read_at.ensures.read faithful in
    subst (λ (l : List ℕ). x < length l → is_entered l x ≡ entered_in file x) (sym whole) (entry-read file b _ read (search rules) x)
