-- What a session starts from, as an opening.
use Rattle.std.specs.Prelude.{false, slice_get, unwrap_or}
use Rattle.model.specs.Contents.{BlockMap}
use Rattle.model.specs.Theorems.{Opening}
use Rattle.session_api.specs.declared.session_start.SessionStart.{SessionStart}

-- the opening of a session of these parts over these two disks
abbrev pub opening_of : SessionStart → BlockMap → BlockMap → Opening
opening_of parts local peer = record {
  settings = parts.settings;
  peer_settings = parts.settings;
  local = local;
  peer = peer;
  own = parts.own;
  peer_tuple = parts.peer;
  marks = λ block. unwrap_or (slice_get parts.marks block) false;
}
