-- A line of the log: what stands before an event, and its words.
use Rattle.std.specs.Prelude.{ℕ, ◌+◌, ◌*◌, ◌/◌, ◌%◌, ◌^◌, ◌-◌, min, List, [], ◌++◌, codes, false, Option, ◌≡◌, ◌<◌, ℤ, pos, ◌+ℤ◌, ◌*ℤ◌, unsigned_abs}
use Rattle.std.specs.Fmt.{decimal, digits, format_spec, padded_integral}
use Rattle.std.specs.Io.KnownBytes.{Appends}
use Rattle.jiff_core.specs.Date.{epoch_day}
use Rattle.server_log.specs.Events.{event_text, priority_of}
use Rattle.server_log.specs.declared.event.Event.{Event}
use Rattle.server_log.specs.declared.moment.Moment.{Moment}
use Rattle.server_log.specs.declared.style.Style.{Style}
use Rattle.server_log.specs.declared.style.Style.TheVariants as style

-- the last second of the year 9999
abbrev pub last_second : ℕ
last_second = 253402300799

-- the moment that is so many seconds after the first of 1970, up to the end of the year 9999
abbrev pub IsMoment : ℕ → Moment → Type 0
IsMoment seconds moment = (moment.second < 86400) × (epoch_day moment.date ≡ pos (min seconds last_second / 86400)) × (moment.second ≡ min seconds last_second % 86400)

-- a number in two digits, and in four
abbrev pub two_digits : ℕ → List ℕ
two_digits n = padded_integral (format_spec 32 0 4 2 (2 ^ 64 - 1)) false [] (digits 10 false n)

abbrev pub four_digits : ℕ → List ℕ
four_digits n = padded_integral (format_spec 32 0 4 4 (2 ^ 64 - 1)) false [] (digits 10 false n)

-- a moment as RFC 3339 has it, in universal time
abbrev pub moment_text : Moment → List ℕ
moment_text moment =
    four_digits (unsigned_abs moment.date.year) ++ (codes "-" ++ (two_digits moment.date.month ++ (codes "-" ++ (two_digits moment.date.day
    ++ (codes "T" ++ (two_digits (moment.second / 3600) ++ (codes ":" ++ (two_digits (moment.second / 60 % 60)
    ++ (codes ":" ++ (two_digits (moment.second % 60) ++ codes "Z"))))))))))

-- a line with the date of a moment, and one with the priority of its event, as sd-daemon(3) has it
abbrev pub dated_text : Moment → Event → List ℕ
dated_text moment event = moment_text moment ++ (codes " " ++ (event_text event ++ codes "\n"))

abbrev pub graded_text : Event → List ℕ
graded_text event = codes "<" ++ (decimal (priority_of event) ++ (codes ">" ++ (event_text event ++ codes "\n")))

-- a line of an event, at so many seconds since the first of 1970
abbrev pub IsLine : Style → ℕ → Event → List ℕ → Type 0
IsLine style.Dated seconds event text = (moment : Moment) × IsMoment seconds moment × (text ≡ dated_text moment event)
IsLine style.Graded seconds event text = text ≡ graded_text event
IsLine style.Barred seconds event text = (moment : Moment) × IsMoment seconds moment × (text ≡ dated_text moment event)

-- a line of an event was written, and nothing else
abbrev pub HasTold : Style → Event → Option (List ℕ) → Option (List ℕ) → Type 0
HasTold style event before after = (seconds : ℕ) × (text : List ℕ) × IsLine style seconds event text × Appends before after text

-- what stands before the words of a fault
abbrev pub before_fault : Style → List ℕ
before_fault style.Dated = []
before_fault style.Graded = codes "<3>"
before_fault style.Barred = []
