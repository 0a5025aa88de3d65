-- A call whose session was the same before it.
use Rattle.std.proofs.Common.{Result, Ok, Err}
use Rattle.std.specs.Prelude.{IfOk, OnErr}
use Rattle.bc_calls.specs.declared.call.Event.{Event}
use Rattle.bc_share.specs.Sessions.{SessionView, IsAnswered, IsSame, Stays}
use Rattle.bc_share.proofs.Noting.{same_then_answered, same_then_stays}

-- the call that was made is the one that was prepared
pub made_of : {T E : Type 0} (event_of : T → Event) (Is Was : Event → Type 0) (r : Result T E) (old mid new : SessionView) → IsSame old mid → ((event : Event) → Is event → Was event)
    → IfOk r (λ made. Is (event_of made) × IsAnswered (event_of made) mid new) → IfOk r (λ made. Was (event_of made) × IsAnswered (event_of made) old new)
made_of event_of Is Was (Ok made) old mid new same to h = (to (event_of made) h.0, same_then_answered (event_of made) old mid new same h.1)
made_of event_of Is Was (Err fault) old mid new same to h = tt

pub refused_of : {T E : Type 0} (r : Result T E) (old mid new : SessionView) → IsSame old mid → OnErr r (Stays mid new) → OnErr r (IsSame old new)
refused_of (Ok made) old mid new same h = tt
refused_of (Err fault) old mid new same h = same_then_stays old mid new same h
