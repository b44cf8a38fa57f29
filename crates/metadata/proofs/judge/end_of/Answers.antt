use Rattle.std.proofs.Common.{◌∙◌, Bool, Some, None, sym, ap}
use Rattle.std.specs.Prelude.{if◌then◌else◌}
use Rattle.std.proofs.lemmas.Bool.{ne_eqb}
use Rattle.metadata.specs.declared.identifiers.CleanEnd.{CleanEnd}
use Rattle.metadata.specs.Words.{word}
use Rattle.metadata.proofs.judge.end_of.Goals as goal

pub returns : goal.returns
returns c =
    let bytes = c.args.bytes.now in
    let test = ne_eqb (word bytes 9) 0 (λ same. c.if-word-eq0.false (c.word.ensures ∙ same)) in
    let end : CleanEnd = record { device = word bytes 10; inode = word bytes 11; size = word bytes 12; seconds = word bytes 13; nanoseconds = word bytes 14 } in
    (λ j. Some (record {
      device = c.word-2.ensures j;
      inode = c.word-3.ensures j;
      size = c.word-4.ensures j;
      seconds = c.word-5.ensures j;
      nanoseconds = c.word-6.ensures j;
    })) ∙ sym (ap (λ (b : Bool). if b then None else Some end) test)
