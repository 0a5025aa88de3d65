-- What a session notes of its own calls, and of what it has seen.
use Rattle.std.proofs.Common.{◌≡◌, ℕ, ◌<◌, List, [], ◌∷◌, ◌++◌, length, refl, sym, ap, ◌∙◌, subst, Some, Result, Ok, Err}
use Rattle.std.specs.Prelude.{IfOk, OnErr}
use Rattle.std.proofs.lemmas.List.{append-nil}
use Rattle.bc_calls.specs.declared.call.Event.{Event}
use Rattle.bc_calls.specs.declared.call.Entry.{Entry}
use Rattle.bc_calls.specs.Calls.{IsLegal, StartsWith, calls, last_of}
use Rattle.bc_calls.proofs.Histories.{legal_none}
use Rattle.bc_calls.proofs.Beginnings.{calls_grow, starts_again}
use Rattle.bc_book.specs.declared.ledger.TheConstants.{MOST_SESSIONS}
use Rattle.bc_share.specs.Sessions.{SessionView, IsNoted, IsAnswered, IsSame, Stays}

-- a list starts with itself
pub starts_same : (h : List Entry) → StartsWith h h
starts_same h = ([], sym (append-nil h))

-- before any call
pub noted_none : (number : ℕ) (own : List Event) (seen : List Entry) → number < MOST_SESSIONS → own ≡ [] → seen ≡ [] → IsNoted number own seen
noted_none number own seen range none nothing = record {
  range = range;
  legal = subst IsLegal (sym nothing) legal_none;
  noted = [];
  begins = (seen, refl);
  listed = sym none;
}

-- if the last entry that a session has seen is its next call, its calls in what it has seen are its own list
mine : (number : ℕ) (own own' : List Event) (seen seen' : List Entry) (event : Event) → IsNoted number own seen → own' ≡ own ++ event ∷ [] → StartsWith seen' seen → IsLegal seen'
    → last_of seen' ≡ Some (record { session = number; number = length own; event = event }) → calls number seen' ≡ own'
mine number own own' seen seen' event noted longer later legal last =
    calls_grow noted.noted seen' (record { session = number; number = length own; event = event }) own noted.listed (starts_again seen' seen noted.noted later noted.begins) legal last refl ∙ sym longer

-- one more call
pub noted_more : (number : ℕ) (own own' : List Event) (seen seen' : List Entry) (event : Event) → IsNoted number own seen → own' ≡ own ++ event ∷ [] → StartsWith seen' seen → IsLegal seen'
    → last_of seen' ≡ Some (record { session = number; number = length own; event = event }) → IsNoted number own' seen'
noted_more number own own' seen seen' event noted longer later legal last = record {
  range = noted.range;
  legal = legal;
  noted = seen';
  begins = starts_same seen';
  listed = mine number own own' seen seen' event noted longer later legal last;
}

pub answered_more : (tag number : ℕ) (own own' : List Event) (seen seen' : List Entry) (event : Event) → IsNoted number own seen → own' ≡ own ++ event ∷ [] → StartsWith seen' seen → IsLegal seen'
    → last_of seen' ≡ Some (record { session = number; number = length own; event = event })
    → IsAnswered event (record { tag = tag; number = number; own = own; seen = seen }) (record { tag = tag; number = number; own = own'; seen = seen' })
answered_more tag number own own' seen seen' event noted longer later legal last = record {
  tag = refl;
  number = refl;
  own = longer;
  later = later;
  legal = legal;
  last = last;
  mine = mine number own own' seen seen' event noted longer later legal last;
}

-- a session that stays is the same
pub same_of : (old new : SessionView) → Stays old new → IsSame old new
same_of old new stays = record { tag = stays.tag; number = stays.number; own = stays.own; later = stays.later }

-- the same session, that then stays
pub same_then_stays : (old mid new : SessionView) → IsSame old mid → Stays mid new → IsSame old new
same_then_stays old mid new first second = record {
  tag = second.tag ∙ first.tag;
  number = second.number ∙ first.number;
  own = second.own ∙ first.own;
  later = starts_again new.seen mid.seen old.seen second.later first.later;
}

-- a session that stays, and then stays again
pub stays_again : (old mid new : SessionView) → Stays old mid → Stays mid new → Stays old new
stays_again old mid new first second =
    let same = same_then_stays old mid new (same_of old mid first) second in
    record { tag = same.tag; number = same.number; own = same.own; later = same.later; legal = second.legal }

-- the same session, of which a call is then answered
pub same_then_answered : (event : Event) (old mid new : SessionView) → IsSame old mid → IsAnswered event mid new → IsAnswered event old new
same_then_answered event old mid new first second = record {
  tag = second.tag ∙ first.tag;
  number = second.number ∙ first.number;
  own = second.own ∙ ap (λ (l : List Event). l ++ event ∷ []) first.own;
  later = starts_again new.seen mid.seen old.seen second.later first.later;
  legal = second.legal;
  last = second.last ∙ (λ i. Some (record { session = first.number i; number = length (first.own i); event = event }));
  mine = second.mine;
}

-- a call that is answered after its session stayed
pub told_again : {T E : Type 0} (r : Result T E) (event event' : T → Event) (old mid new : SessionView) → Stays old mid → ((t : T) → event t ≡ event' t)
    → IfOk r (λ t. IsAnswered (event t) mid new) → IfOk r (λ t. IsAnswered (event' t) old new)
told_again (Ok t) event event' old mid new stays same told = same_then_answered (event' t) old mid new (same_of old mid stays) (subst (λ (e : Event). IsAnswered e mid new) (same t) told)
told_again (Err e) event event' old mid new stays same told = tt

-- a call that is made after its session stayed
pub made_again : {T E : Type 0} (r : Result T E) (Is : T → Type 0) (event : T → Event) (old mid new : SessionView) → Stays old mid
    → IfOk r (λ made. Is made × IsAnswered (event made) mid new) → IfOk r (λ made. Is made × IsAnswered (event made) old new)
made_again (Ok made) Is event old mid new stays is = (is.0, same_then_answered (event made) old mid new (same_of old mid stays) is.1)
made_again (Err e) Is event old mid new stays is = tt

-- what holds also holds if a call fails
pub on_err : {T E : Type 0} (r : Result T E) (P : Type 0) → P → OnErr r P
on_err (Ok t) P p = tt
on_err (Err e) P p = p

-- a call that fails after its session stayed
pub refused_again : {T E : Type 0} (r : Result T E) (old mid new : SessionView) → Stays old mid → OnErr r (Stays mid new) → OnErr r (Stays old new)
refused_again (Ok t) old mid new stays refused = tt
refused_again (Err e) old mid new stays refused = stays_again old mid new stays refused

pub same_session : (s : SessionView) → IsSame s s
same_session s = record { tag = refl; number = refl; own = refl; later = starts_same s.seen }
