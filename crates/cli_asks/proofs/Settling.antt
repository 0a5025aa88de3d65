-- Asks that are settled.
use Rattle.std.proofs.Common.{◌≡◌, Result, Ok, Err, subst}
use Rattle.std.specs.Prelude.{IfOk, OnErr}
use Rattle.bc_calls.specs.declared.call.Event.{Event}
use Rattle.bc_share.specs.Sessions.{SessionView, IsAnswered, IsSame, Stays}

-- a call with this event
pub told_as : {T E : Type 0} (r : Result T E) (event event' : T → Event) (old new : SessionView) → ((t : T) → event t ≡ event' t)
    → IfOk r (λ t. IsAnswered (event t) old new) → IfOk r (λ t. IsAnswered (event' t) old new)
told_as (Ok t) event event' old new same told = subst (λ (e : Event). IsAnswered e old new) (same t) told
told_as (Err e) event event' old new same told = tt

-- a refused call leaves the same session
pub refused_same : {T E : Type 0} (r : Result T E) (old new : SessionView) → OnErr r (Stays old new) → OnErr r (IsSame old new)
refused_same (Ok t) old new refused = tt
refused_same (Err e) old new refused = record { tag = refused.tag; number = refused.number; own = refused.own; later = refused.later }
