-- What a line stands for.
use Rattle.model.specs.Status as model
use Rattle.status_lines.specs.Words.{words_of}
use Rattle.status_lines.specs.declared.lines.PrimaryLine.{PrimaryLine}
use Rattle.status_lines.specs.declared.lines.SecondaryLine.{SecondaryLine}

-- the primary's
abbrev pub primary_line_of : PrimaryLine → model.PrimaryLine
primary_line_of line = record { words = words_of line.words; protocol = line.protocol; pe = line.pe; ap = line.ap; ep = line.ep; oos = line.oos }

-- the secondary's
abbrev pub secondary_line_of : SecondaryLine → model.SecondaryLine
secondary_line_of line = record { words = words_of line.words; protocol = line.protocol; pending = line.pending; usable = line.usable; whole = line.whole }
