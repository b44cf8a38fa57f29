-- The two ends of a direction as their users see them, for any link under them.
use Rattle.std.specs.Prelude.{ℕ, ◌-◌, Bool, List, [], ◌∷◌, ◌++◌, drop, Option, None}
use Rattle.std.specs.Option.{option_map}
use Rattle.link.specs.Past.{Past}

-- A sending end: the frames sent on the present connection, that one's number, the earlier connections, and a frame
-- that was offered in part. If the end knows them: those sent that were not taken, and how many more it can accept.
pub record OutEnd : Type 0 where
  pub sent : List (List ℕ)
  pub number : ℕ
  pub past : List Past
  pub partly : Option (List ℕ)
  pub waiting : Option (List (List ℕ))
  pub room : Option ℕ

-- A taking end: the frames taken on the present connection, that one's number, the earlier connections, and whether it
-- has the room for the longest frame. If it knows them: the frames that it will take next, and how many its queue holds
-- if that is here.
pub record InEnd : Type 0 where
  pub taken : List (List ℕ)
  pub number : ℕ
  pub past : List Past
  pub is_ready : Bool
  pub queued : Option (List (List ℕ))
  pub capacity : Option ℕ

-- the sending end after it accepted this frame
abbrev pub with_sent : List ℕ → OutEnd → OutEnd
with_sent frame s = record s {
  sent = s.sent ++ frame ∷ [];
  partly = None;
  waiting = option_map (λ frames. frames ++ frame ∷ []) s.waiting;
  room = option_map (λ n. n - 1) s.room;
}

-- the taking end after it took this frame, ready for the next or not
abbrev pub with_taken : List ℕ → Bool → InEnd → InEnd
with_taken frame ready s = record s {
  taken = s.taken ++ frame ∷ [];
  is_ready = ready;
  queued = option_map (drop 1) s.queued;
}
