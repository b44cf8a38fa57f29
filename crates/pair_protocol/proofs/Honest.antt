-- What every run keeps of its opening: the settings, the disks, the marks and the identifiers, and so that these were honest.
use Rattle.std.proofs.Common.{ℕ, nat_lt, Bool, ◌&&◌, List, [], ◌∷◌, sym, ◌∙◌, subst}
use Rattle.blocks.specs.declared.settings.Settings.{Settings}
use Rattle.blocks.specs.declared.tuple.Tuple.{Tuple}
use Rattle.model.specs.Contents.{BlockMap}
use Rattle.model.specs.Headline.{IsHonest}
use Rattle.model.specs.Pair.{Event, PairHistory, step, run}
use Rattle.model.specs.Theorems.{Opening}
use Rattle.laws.proofs.Theorems.PairIsJoined.{every_run_is_joined}
use Rattle.laws.proofs.Joining.Openings.{HasOpening, HasOpeningToo, kept-opening-primary, kept-opening-secondary}
use Rattle.pair_protocol.specs.State.{IsRun, WasHonest}
use Rattle.pair_protocol.proofs.Stepping.{is-run-more, same-opening}

-- the primary's history begins as the run did
pub opens-here : (h : PairHistory) (is : IsRun h) → HasOpening is.opening h.primary
opens-here h is =
    let runs = every_run_is_joined is.opening is.events in
    subst (λ (x : PairHistory). HasOpening is.opening x.primary) is.is
    (subst (HasOpening is.opening) (sym runs.primary) (kept-opening-primary is.opening runs.here))

-- the secondary's likewise
pub opens-there : (h : PairHistory) (is : IsRun h) → HasOpeningToo is.opening h.secondary
opens-there h is =
    let runs = every_run_is_joined is.opening is.events in
    subst (λ (x : PairHistory). HasOpeningToo is.opening x.secondary) is.is
    (subst (HasOpeningToo is.opening) (sym runs.secondary) (kept-opening-secondary is.opening runs.there))

-- two histories that begin alike
same-beginning : (o : Opening) (h k : PairHistory) → HasOpening o h.primary → HasOpeningToo o h.secondary → HasOpening o k.primary → HasOpeningToo o k.secondary
    → WasHonest h → WasHonest k
same-beginning o h k here there later later-too honest =
    subst (λ (s : Settings). IsHonest k.primary.opening_tuple k.secondary.opening_tuple (λ block. nat_lt block s.blocks && k.primary.opening_marks block)
    k.primary.opening_map k.secondary.opening_map)
    (here.settings ∙ sym later.settings)
    (subst (λ (m : ℕ → Bool). IsHonest k.primary.opening_tuple k.secondary.opening_tuple (λ block. nat_lt block h.primary.settings.blocks && m block)
    k.primary.opening_map k.secondary.opening_map)
    (here.marks ∙ sym later.marks)
    (subst (λ (m : BlockMap). IsHonest k.primary.opening_tuple k.secondary.opening_tuple
    (λ block. nat_lt block h.primary.settings.blocks && h.primary.opening_marks block) m k.secondary.opening_map)
    (here.disk ∙ sym later.disk)
    (subst (λ (m : BlockMap). IsHonest k.primary.opening_tuple k.secondary.opening_tuple
    (λ block. nat_lt block h.primary.settings.blocks && h.primary.opening_marks block) h.primary.opening_map m)
    (there.disk ∙ sym later-too.disk)
    (subst (λ (t : Tuple). IsHonest t k.secondary.opening_tuple (λ block. nat_lt block h.primary.settings.blocks && h.primary.opening_marks block)
    h.primary.opening_map h.secondary.opening_map)
    (here.tuple ∙ sym later.tuple)
    (subst (λ (t : Tuple). IsHonest h.primary.opening_tuple t (λ block. nat_lt block h.primary.settings.blocks && h.primary.opening_marks block)
    h.primary.opening_map h.secondary.opening_map)
    (there.tuple ∙ sym later-too.tuple) honest)))))

-- a step keeps it
honest-after : (event : Event) (out_of_memory : Bool) (h : PairHistory) (is : IsRun h) → WasHonest h → WasHonest (step event out_of_memory h).1
honest-after event out_of_memory h is =
    let later = is-run-more event out_of_memory h is in
    let same = same-opening event out_of_memory h is in
    same-beginning is.opening h (step event out_of_memory h).1 (opens-here h is) (opens-there h is)
    (subst (λ (o : Opening). HasOpening o (step event out_of_memory h).1.primary) same (opens-here (step event out_of_memory h).1 later))
    (subst (λ (o : Opening). HasOpeningToo o (step event out_of_memory h).1.secondary) same (opens-there (step event out_of_memory h).1 later))

-- and so does every run
pub honest-kept : (events : List (Event × Bool)) (h : PairHistory) → IsRun h → WasHonest h → WasHonest (run events h).1
honest-kept [] h is honest = honest
honest-kept (first ∷ events) h is honest =
    honest-kept events (step first.0 first.1 h).1 (is-run-more first.0 first.1 h is) (honest-after first.0 first.1 h is honest)
