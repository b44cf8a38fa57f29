-- What clauses see of a metadata file.
use Rattle.std.specs.Prelude.{◌≡◌, []}
use Rattle.metadata.specs.declared.metadata_file.MetadataFile.{MetadataFile}

-- nothing has happened
abbrev pub IsFresh : {R X : Type 0} → MetadataFile R X → Type 0
IsFresh f = f.calls.events ≡ []
