use Rattle.std.proofs.Common.{◌≡◌, ◌+◌, List, ℕ, ◌++◌, take, drop, ap, ◌∙◌, append_assoc}
use Rattle.std.proofs.lemmas.List.{take_rest}
use Rattle.thread_link.specs.Inward.{GatheredState}
use Rattle.thread_link.proofs.Carrying.{two_takes}
use Rattle.thread_link.proofs.gathered.Gathered.put.Goals as goal

-- two parts that were put are one
put_both : (old middle new : GatheredState) (bytes rest : List ℕ) (m n : ℕ) → middle ≡ record old { bytes = old.bytes ++ take m bytes }
    → new ≡ record middle { bytes = middle.bytes ++ take n rest }
    → rest ≡ drop m bytes → new ≡ record old { bytes = old.bytes ++ take (m + n) bytes }
put_both old middle new bytes rest m n a b e =
    b ∙ ap (λ (s : GatheredState). record s { bytes = s.bytes ++ take n rest }) a
    ∙ ap (λ (x : List ℕ). record old { bytes = x })
    (append_assoc old.bytes (take m bytes) (take n rest) ∙ ap (λ (x : List ℕ). old.bytes ++ (take m bytes ++ take n x)) e
    ∙ ap (λ (x : List ℕ). old.bytes ++ x) (two_takes bytes m n))

pub returns-clause-put : goal.returns-clause-put
returns-clause-put c =
    put_both c.args.self.now c.put_header-head.new.self c.put_payload.new.self c.args.bytes.now _ c.put_header-head.result c.put_payload.result
    c.put_header-head.ensures.put c.put_payload.ensures.put
    (take_rest c.args.bytes.now c.put_header-head.result)
