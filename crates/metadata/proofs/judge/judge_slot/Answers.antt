use Rattle.std.proofs.Common.{ℕ, ◌==◌, ◌∙◌, Bool, not, List, take, Result, Ok, Err, sym, ap, arith, length-take}
use Rattle.std.specs.Prelude.{if◌then◌else◌}
use Rattle.std.proofs.lemmas.Bool.{eq-eqb, ne_eqb}
use Rattle.metadata.specs.declared.identifiers.Identifiers.{Identifiers}
use Rattle.metadata.specs.declared.fault.MetadataFault.{MetadataFault}
use Rattle.metadata.specs.declared.fault.MetadataFault.TheVariants.{IdentifiersDamaged}
use Rattle.metadata.specs.Words.{word, sum_of}
use Rattle.metadata.specs.Judged.{identifiers_of}
use Rattle.metadata.proofs.judge.judge_slot.Goals as goal

abbrev judged : List ℕ → Bool → Result Identifiers MetadataFault
judged bytes whole = if whole then Ok (identifiers_of bytes) else Err IdentifiersDamaged

pub slice_bounds-sum_of-end : goal.slice_bounds-sum_of-end
slice_bounds-sum_of-end c = omega (arith, length-take 120 c.args.bytes.now, c.requires)

pub returns-then-word-sum_of : goal.returns-then-word-sum_of
returns-then-word-sum_of c =
    let bytes = c.args.bytes.now in
    sym (ap (judged bytes) (ne_eqb (word bytes 15) (sum_of (take 120 bytes)) (λ same. c.if-word-sum_of.true (c.word.ensures ∙ (same ∙ sym c.sum_of.ensures)))))

pub returns : goal.returns
returns c =
    let bytes = c.args.bytes.now in
    (λ j. Ok (record {
      tuple = record {
        current = (c.new.ensures.current ∙ c.word-2.ensures) j;
        bitmap = (c.new.ensures.bitmap ∙ c.word-3.ensures) j;
        first_historical = (c.new.ensures.first ∙ c.word-4.ensures) j;
        second_historical = (c.new.ensures.second ∙ c.word-5.ensures) j;
      };
      is_primary = not (c.word-6.ensures j == 0);
      is_consistent = not (c.word-7.ensures j == 0);
      boot = record { high = c.word-8.ensures j; low = c.word-9.ensures j };
      secondary_of = c.word-10.ensures j;
      clean_end = c.end_of.ensures j;
    })) ∙ sym (ap (judged bytes) (eq-eqb (word bytes 15) (sum_of (take 120 bytes)) (sym c.word.ensures ∙ (c.if-word-sum_of.false ∙ c.sum_of.ensures))))
