-- What was begun of a request that writes, and of one that writes nothing.
use Rattle.std.proofs.Common.{ℕ, ◌≡◌, ◌≢◌, ◌⊎◌, inl, inr, true, false, List, [], ◌∷◌, length, refl, sym, ◌∙◌, ap, subst}
use Rattle.std.proofs.lemmas.Result.{IfOk-from_err}
use Rattle.std.specs.Prelude.{Result, Ok, Err, IfOk, OnOk, is_err, is_ok}
use Rattle.device_parts.specs.Places.{Place}
use Rattle.nbd.specs.declared.command.NbdCommand.{NbdCommand}
use Rattle.nbd.specs.declared.command.NbdCommand.TheVariants as command
use Rattle.nbd.specs.declared.errno.Errno.{Errno}
use Rattle.nbd.specs.Requested.{Requested}
use Rattle.nbd.specs.Spans.{contents_as, places, places_of, written_as}
use Rattle.session_api.specs.Begun.{BegunState}
use Rattle.told.specs.declared.entry.Told.{Told}
use Rattle.serve_requests.specs.Places.{AllPairs, IsBegunFor, IsFrontBy, IsOf}
use Rattle.serve_requests.specs.Receipts.{Begins, HasBegun, IsSame}
use Rattle.serve_requests.specs.Rounds.{DoneState}
use Rattle.serve_requests.proofs.Beginning.{front-weaker, none-yet, pairs-weaker}

-- nothing is a front of any places
pub nothing-begun : (R : Place → BegunState → Type 0) (all : List Place) (begun : List BegunState) → begun ≡ [] → IsFrontBy R all begun
nothing-begun R all begun empty = record { rest = all; front = none-yet R all begun empty }

-- a request that writes, when that is refused before any of it was begun
pub none-begins : (request : Requested) (begins : Result Unit Errno) (begun : List BegunState) (error : Errno) → begun ≡ [] → begins ≡ Err error
    → request.command ≢ command.Flush → request.command ≢ command.Disconnect → Begins request begins begun
none-begins request begins begun error empty failed stays goes = record {
  all = IfOk-from_err begins (λ _. HasBegun request begun) (ap is_err failed);
  front = nothing-begun IsOf (places request) begun empty;
  flush = λ flushes. absurd (stays flushes);
  disconnect = λ disconnects. absurd (goes disconnects);
}

-- what a begun request has in common with its places
of-begun : (says : Told → Type 0) (place : Place) (begun : BegunState) → IsBegunFor says place begun → IsOf place begun
of-begun says place begun is = is.of

-- all of a request's places, or a front of them, and no other
all-of : (says : Told → Type 0) (all : List Place) (begins : Result Unit Errno) (begun : List BegunState) → OnOk begins (AllPairs (IsBegunFor says) all begun)
    → OnOk begins (AllPairs IsOf all begun)
all-of says all (Ok done) begun each = pairs-weaker (IsBegunFor says) IsOf all begun (of-begun says) each
all-of says all (Err e) begun each = tt

-- a request that writes, of which some was begun
pub some-begins : (says : Told → Type 0) (request now : Requested) (begins : Result Unit Errno) (pieces : List Place) (begun : List BegunState)
    → pieces ≡ places request → IsSame request now → OnOk begins (AllPairs (IsBegunFor says) pieces begun)
    → IsFrontBy (IsBegunFor says) pieces begun → request.command ≢ command.Flush → request.command ≢ command.Disconnect → Begins now begins begun
some-begins says request now begins pieces begun is same each front stays goes =
    let there : Begins (record request { is_divided = now.is_divided }) begins begun = record {
      all = subst (λ (ps : List Place). OnOk begins (AllPairs IsOf ps begun)) is (all-of says pieces begins begun each);
      front = subst (λ (ps : List Place). IsFrontBy IsOf ps begun) is (front-weaker (IsBegunFor says) IsOf pieces begun (of-begun says) front);
      flush = λ flushes. absurd (stays flushes);
      disconnect = λ disconnects. absurd (goes disconnects);
    } in
    subst (λ (r : Requested). Begins r begins begun) (sym same) there

-- a command that writes nothing
no-places : (c : NbdCommand) (offset length : ℕ) (payload : List ℕ) → (c ≡ command.Read) ⊎ ((c ≡ command.BlockStatus) ⊎ ((c ≡ command.Flush) ⊎ (c ≡ command.Disconnect)))
    → places_of (written_as c offset length) (contents_as c payload (written_as c offset length)) ≡ []
unfolding places_of
no-places command.Read offset length payload is = refl
no-places command.BlockStatus offset length payload is = refl
no-places command.Flush offset length payload is = refl
no-places command.Disconnect offset length payload is = refl
no-places command.Write offset length payload (inl is) = absurd (cc)
no-places command.Write offset length payload (inr (inl is)) = absurd (cc)
no-places command.Write offset length payload (inr (inr (inl is))) = absurd (cc)
no-places command.Write offset length payload (inr (inr (inr is))) = absurd (cc)
no-places command.Trim offset length payload (inl is) = absurd (cc)
no-places command.Trim offset length payload (inr (inl is)) = absurd (cc)
no-places command.Trim offset length payload (inr (inr (inl is))) = absurd (cc)
no-places command.Trim offset length payload (inr (inr (inr is))) = absurd (cc)
no-places command.WriteZeroes offset length payload (inl is) = absurd (cc)
no-places command.WriteZeroes offset length payload (inr (inl is)) = absurd (cc)
no-places command.WriteZeroes offset length payload (inr (inr (inl is))) = absurd (cc)
no-places command.WriteZeroes offset length payload (inr (inr (inr is))) = absurd (cc)

-- a request that writes nothing
pub nothing-begins : (request : Requested) (begun : List BegunState) → begun ≡ []
    → (request.command ≡ command.Read) ⊎ ((request.command ≡ command.BlockStatus) ⊎ ((request.command ≡ command.Flush) ⊎ (request.command ≡ command.Disconnect)))
    → Begins request (Ok tt) begun
unfolding AllPairs
nothing-begins request begun empty is =
    let none : places request ≡ [] = no-places request.command request.offset request.length request.payload is in
    let each : AllPairs IsOf [] [] = tt in record {
      all = subst (λ (ps : List Place). AllPairs IsOf ps begun) (sym none) (subst (AllPairs IsOf []) (sym empty) each);
      front = nothing-begun IsOf (places request) begun empty;
      flush = λ flushes. refl;
      disconnect = λ disconnects. refl;
    }

-- a request that was divided is the same
pub divided-same : (old now : Requested) → now ≡ record old { is_divided = true } → IsSame old now
divided-same old now is = is ∙ ap (λ b. record old { is_divided = b }) (sym (ap (λ (r : Requested). r.is_divided) is))

-- a command that writes is no FLUSH, and no DISC
pub writes-stay : (c d : NbdCommand) → c ≡ d → (c ≡ command.Write) ⊎ ((c ≡ command.Trim) ⊎ (c ≡ command.WriteZeroes))
    → (d ≢ command.Flush) × (d ≢ command.Disconnect)
writes-stay c d same (inl is) = ((λ flushes. absurd (cc)), (λ goes. absurd (cc)))
writes-stay c d same (inr (inl is)) = ((λ flushes. absurd (cc)), (λ goes. absurd (cc)))
writes-stay c d same (inr (inr is)) = ((λ flushes. absurd (cc)), (λ goes. absurd (cc)))

-- nothing is begun of a request that writes nothing
pub nothing-of : (request : Requested) (begun : List BegunState)
    → (request.command ≡ command.Read) ⊎ ((request.command ≡ command.BlockStatus) ⊎ ((request.command ≡ command.Flush) ⊎ (request.command ≡ command.Disconnect)))
    → HasBegun request begun → begun ≡ []
unfolding AllPairs
nothing-of request begun is all =
    none begun (subst (λ (ps : List Place). AllPairs IsOf ps begun) (no-places request.command request.offset request.length request.payload is) all)
  where
    none : (written : List BegunState) → AllPairs IsOf [] written → written ≡ []
    none [] each = refl
    none (b ∷ rest) each = absurd each

-- a FLUSH began no write, so none of its writes is complete, before it and after it
pub flush-writes : (request : Requested) (begins : Result Unit Errno) (begun : List BegunState) (completed : Result DoneState Errno) (before : ℕ)
    (done : DoneState) → Begins request begins begun → before ≡ 0 → IfOk completed (λ d. d.writes ≡ length begun) → completed ≡ Ok done
    → request.command ≡ command.Flush → before ≡ done.writes
flush-writes request (Err e) begun completed before done is none counted last flushes =
    absurd (let wrong : false ≡ true = is.flush flushes in cc (wrong))
flush-writes request (Ok all) begun completed before done is none counted last flushes =
    let empty : begun ≡ [] = nothing-of request begun (inr (inr (inl flushes))) is.all in
    let count : done.writes ≡ length begun = subst (λ (r : Result DoneState Errno). IfOk r (λ d. d.writes ≡ length begun)) last counted in
    none ∙ sym (count ∙ ap length empty)

-- neither the begin of a FLUSH or a DISC fails nor the wait for its writes, which are none
pub none-fails : (request : Requested) (begins : Result Unit Errno) (begun : List BegunState) (completed : Result DoneState Errno)
    → Begins request begins begun → (begun ≡ [] → is_ok completed ≡ true) → (request.command ≡ command.Flush) ⊎ (request.command ≡ command.Disconnect)
    → (is_ok begins ≡ true) × (is_ok completed ≡ true)
none-fails request (Err e) begun completed is none (inl flushes) = absurd (let wrong : false ≡ true = is.flush flushes in cc (wrong))
none-fails request (Err e) begun completed is none (inr goes) = absurd (let wrong : false ≡ true = is.disconnect goes in cc (wrong))
none-fails request (Ok all) begun completed is none asked = (refl, none (nothing-of request begun (inr (inr asked)) is.all))
