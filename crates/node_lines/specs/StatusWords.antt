-- The words by what a node tells of its end.
use Rattle.std.specs.Prelude.{Bool, not, if◌then◌else◌}
use Rattle.model.specs.Status.{StandAlone, WFReportParams, Connected, SyncSource, SyncTarget, Primary, Secondary, Unknown, UpToDate, Consistent, Inconsistent}
use Rattle.model.specs.Status.{DUnknown, Words}

-- the primary's
abbrev pub primary_words_by : Bool → Bool → Bool → Words
primary_words_by is_open is_established is_resync =
    if not is_open then record { link = StandAlone; own_role = Primary; other_role = Unknown; own_disk = UpToDate; other_disk = DUnknown }
    else if not is_established then record { link = WFReportParams; own_role = Primary; other_role = Unknown; own_disk = UpToDate; other_disk = DUnknown }
    else if is_resync then record { link = SyncSource; own_role = Primary; other_role = Secondary; own_disk = UpToDate; other_disk = Inconsistent }
    else record { link = Connected; own_role = Primary; other_role = Secondary; own_disk = UpToDate; other_disk = UpToDate }

-- the secondary's
abbrev pub secondary_words_by : Bool → Bool → Bool → Words
secondary_words_by is_open is_hello_done consistent =
    if not is_hello_done
    then record {
      link = if is_open then WFReportParams else StandAlone;
      own_role = Secondary;
      other_role = Unknown;
      own_disk = if consistent then Consistent
          else Inconsistent;
      other_disk = DUnknown;
    }
    else if consistent then record { link = Connected; own_role = Secondary; other_role = Primary; own_disk = UpToDate; other_disk = UpToDate }
    else record { link = SyncTarget; own_role = Secondary; other_role = Primary; own_disk = Inconsistent; other_disk = UpToDate }
