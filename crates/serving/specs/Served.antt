-- What a server comes to.
use Rattle.std.specs.Prelude.{ℕ, ◌≡◌, ◌<◌, false, ◌||◌, nat_le, List, Option, None, Some, IfSome, is_some, slice_get}
use Rattle.std.specs.Io.KnownBytes.{Appends}
use Rattle.blocks.specs.SettingsRange.{standard}
use Rattle.blocks.specs.declared.settings.Settings.{Settings}
use Rattle.program_values.specs.declared.serve_options.FirstStart.{FirstStart}
use Rattle.program_values.specs.declared.serve_options.ServeOptions.{ServeOptions}
use Rattle.program_values.specs.Text.{results_text}
use Rattle.disk_pair.specs.Disks.{AreFaithful, DisksState, IsOpened, WereRead, unmarked_between}
use Rattle.served_images.specs.Ends.{results}
use Rattle.served_images.specs.Sessions.{IsServed, Rest}
use Rattle.served_images.specs.declared.end.End.{End}

-- Sessions with these settings went over these disks, and came to this end. At the end the disks were compared, or not: if they were, and
-- each read gave what was written, the comparison tells how they differ: if it found no difference without a mark, and no block is
-- marked, they hold the same.
pub record CameTo (chosen : Settings) (how : FirstStart) (disks : DisksState) (end : End) : Type 0 where
  pub rest : Rest
  pub served : IsServed chosen how disks rest
  pub results : end.totals ≡ rest.totals
  pub last : DisksState
  pub read : WereRead rest.disks last
  pub compared : IfSome end.found.unmarked (λ n. AreFaithful last → n ≡ unmarked_between rest.parts.marks last.local last.peer chosen.blocks)
  pub alike : end.found.unmarked ≡ Some 0 → end.totals.marked ≡ 0 → AreFaithful last → (block : ℕ) → block < chosen.blocks
      → slice_get last.local block ≡ slice_get last.peer block

-- A server with these options came to this end, over two disks of `blocks` blocks, as many as the options ask for if they do: those of the
-- images at the two paths of the options, where `held` says what the image at each path held when it was opened. It compared them at the
-- end if it was asked to or they are small, and no read failed.
pub record HasEnded (options : ServeOptions) (held : List ℕ → ℕ → List ℕ) (end : End) : Type 0 where
  pub blocks : ℕ
  pub asked : IfSome options.blocks (λ asked. blocks ≡ asked)
  pub disks : DisksState
  pub opened : IsOpened blocks (held options.local.now) (held options.peer.now) disks
  pub all : CameTo (record standard { protocol = options.protocol; blocks = blocks }) options.first disks end
  pub compares : end.found.is_unread ≡ false → is_some end.found.unmarked ≡ (options.compare || nat_le blocks 262144)

-- Such a server, after which no block is marked, no comparison found a difference or failed, and no image was replaced, may have kept a
-- part of a write that failed, or failed a sync. What was printed, where the bytes that were there before and are there after are known, is its
-- three lines.
pub record HasServed (options : ServeOptions) (held : List ℕ → ℕ → List ℕ) (before after : Option (List ℕ)) : Type 0 where
  pub end : End
  pub ended : HasEnded options held end
  pub unchanged : (end.changed.local ≡ false) × (end.changed.peer ≡ false)
  pub synced : (end.unsynced.local ≡ None) × (end.unsynced.peer ≡ None)
  pub kept : end.is_metadata_broken ≡ false
  pub clean : end.totals.marked ≡ 0
  pub read : end.found.is_unread ≡ false
  pub none : IfSome end.found.unmarked (λ n. n ≡ 0)
  pub whole : (end.torn.local ≡ false) × (end.torn.peer ≡ false)
  pub printed : Appends before after (results_text (results end.totals end.found.unmarked))
