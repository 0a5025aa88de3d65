-- Calls that are made one after another.
use Rattle.std.proofs.Common.{◌≡◌, ℕ, max, List, [], ◌∷◌, ◌++◌, Option, map, refl, sym, ap, ◌∙◌, subst, append_assoc, append-nil, arith}
use Rattle.std.specs.Prelude.{true, Result, Ok, Err, IfErr, IsErrAnd, IsErrOf}
use Rattle.std.specs.List.{flat_map}
use Rattle.std.specs.Io.KnownBytes.{Appends, Keeps}
use Rattle.std.proofs.lemmas.List.{map-append}
use Rattle.std.proofs.lemmas.Grind.{flat_map-append}
use Rattle.bc_calls.specs.declared.call.Call.{Call}
use Rattle.bc_calls.specs.declared.call.Event.{Event}
use Rattle.bc_calls.specs.Calls.{call_of, calls}
use Rattle.bc_calls.proofs.Beginnings.{starts_again}
use Rattle.bc_share.specs.Sessions.{SessionView, IsAnswered, IsSame}
use Rattle.bc_share.proofs.Noting.{starts_same}
use Rattle.cli_file.specs.declared.stop.Stop.{Stop}
use Rattle.cli_file.specs.Statuses.{event_status, greatest}
use Rattle.cli_file.specs.Stops.{is_refused}
use Rattle.cli_file.proofs.Printing.{nothing_added, kept_adds, added_then}
use Rattle.cli_check.specs.Performed.{Adds, Owes, OwesLast, Performs, Performed, PerformedPart, IsAtMostOneMore}

greatest-snoc : (events : List Event) (event : Event) → greatest (events ++ event ∷ []) ≡ max (greatest events) (event_status event)
greatest-snoc [] event = omega arith
greatest-snoc (e ∷ events) event = let more = greatest-snoc events event in omega (arith, more)

one_text : (text : Event → List ℕ) (event : Event) → flat_map text (event ∷ []) ≡ text event
one_text text event = append-nil (text event)

adds_none : (s : SessionView) → Adds [] s s
adds_none s = record { tag = refl; number = refl; own = sym (append-nil s.own); seen = λ own. own }

pub adds_one : (event : Event) (old new : SessionView) → IsAnswered event old new → Adds (event ∷ []) old new
adds_one event old new h = record {
  tag = h.tag;
  number = h.number;
  own = h.own;
  seen = λ had. record { noted = new.seen; begins = starts_same new.seen; legal = h.legal; own = h.mine };
}

-- the same session, which made no call, whatever it has seen
pub adds_same : (old new : SessionView) → IsSame old new → Adds [] old new
adds_same old new h = record {
  tag = h.tag;
  number = h.number;
  own = h.own ∙ sym (append-nil old.own);
  seen = λ had. record {
    noted = had.noted;
    begins = starts_again new.seen old.seen had.noted h.later had.begins;
    legal = had.legal;
    own = ap (λ (n : ℕ). calls n had.noted) h.number ∙ had.own ∙ sym h.own;
  };
}

pub adds_then : (a b : List Event) (old mid new : SessionView) → Adds a old mid → Adds b mid new → Adds (a ++ b) old new
adds_then a b old mid new h k = record {
  tag = k.tag ∙ h.tag;
  number = k.number ∙ h.number;
  own = k.own ∙ ap (λ (es : List Event). es ++ b) h.own ∙ append_assoc old.own a b;
  seen = λ own. k.seen (h.seen own);
}

pub performed_none : (text : Event → List ℕ) (s : SessionView) (u : Option (List ℕ)) → Performed [] text 0 s s u u
performed_none text s u = record {
  events = [];
  made = refl;
  adds = adds_none s;
  printed = nothing_added u;
  status = refl;
}

-- one more call
pub performed_more : (list : List Call) (call : Call) (text : Event → List ℕ) (m n : ℕ) (old mid new : SessionView) (u v w : Option (List ℕ)) → Performed list text m old mid u v → Performs call text n mid new v w → Performed (list ++ call ∷ []) text (max m n) old new u w
performed_more list call text m n old mid new u v w h k =
    let event : Event = k.event in
    let one : Adds (event ∷ []) mid new = adds_one event mid new k.answered in
    let printed : flat_map text h.events ++ text event ≡ flat_map text (h.events ++ event ∷ []) = ap (λ (t : List ℕ). flat_map text h.events ++ t) (sym (one_text text event)) ∙ sym (flat_map-append text h.events (event ∷ [])) in
    record {
      events = h.events ++ event ∷ [];
      made = map-append call_of h.events (event ∷ []) ∙ ap (λ (cs : List Call). cs ++ call_of event ∷ []) h.made ∙ ap (λ (c : Call). list ++ c ∷ []) k.made;
      adds = adds_then h.events (event ∷ []) old mid new h.adds one;
      printed = subst (λ (t : List ℕ). Appends u w t) printed (added_then u v w _ _ h.printed k.printed);
      status = let more = greatest-snoc h.events event in omega (arith, more, h.status, k.status);
    }

-- of all items, those that are not left have made their calls
pub record Making {X : Type 0} (call_at : X → Call) (all left : List X) (text : Event → List ℕ) (exit : ℕ) (old new : SessionView) (before after : Option (List ℕ)) : Type 0 where
  pub front : List X
  pub cut : all ≡ front ++ left
  pub performed : Performed (map call_at front) text exit old new before after

pub making_none : {X : Type 0} (call_at : X → Call) (all left : List X) (text : Event → List ℕ) (s : SessionView) (u : Option (List ℕ)) → left ≡ all → Making call_at all left text 0 s s u u
making_none call_at all left text s u is = record { front = []; cut = sym is; performed = performed_none text s u }

pub making_more : {X : Type 0} (call_at : X → Call) (all left rest : List X) (x : X) (text : Event → List ℕ) (m n : ℕ) (old mid new : SessionView) (u v w : Option (List ℕ)) → Making call_at all left text m old mid u v → left ≡ x ∷ rest → Performs (call_at x) text n mid new v w → Making call_at all rest text (max m n) old new u w
making_more {X} call_at all left rest x text m n old mid new u v w h next k = record {
  front = h.front ++ x ∷ [];
  cut = h.cut ∙ ap (λ (xs : List X). h.front ++ xs) next ∙ sym (append_assoc h.front (x ∷ []) rest);
  performed = subst (λ (cs : List Call). Performed cs text (max m n) old new u w) (sym (map-append call_at h.front (x ∷ []))) (performed_more (map call_at h.front) (call_at x) text m n old mid new u v w h.performed k);
}

pub performed_kept : (list : List Call) (text : Event → List ℕ) (exit : ℕ) (old new : SessionView) (u v w : Option (List ℕ)) → Performed list text exit old new u v → Keeps v w → Performed list text exit old new u w
performed_kept list text exit old new u v w h k = record {
  events = h.events;
  made = h.made;
  adds = h.adds;
  printed = subst (λ (t : List ℕ). Appends u w t) (append-nil _) (added_then u v w _ [] h.printed (kept_adds v w k));
  status = h.status;
}

-- the calls that were made before one was refused
pub making_part : {X : Type 0} (call_at : X → Call) (all left : List X) (text : Event → List ℕ) (exit : ℕ) (old mid new : SessionView) (u v w : Option (List ℕ)) → Making call_at all left text exit old mid u v → IsAtMostOneMore mid new → Keeps v w → PerformedPart (map call_at all) text old new u w
making_part {X} call_at all left text exit old mid new u v w h last k = record {
  front = map call_at h.front;
  ahead = map call_at left;
  cut = sym (map-append call_at h.front left) ∙ ap (λ (xs : List X). map call_at xs) (sym h.cut);
  exit = exit;
  between = mid;
  performed = performed_kept (map call_at h.front) text exit old mid u v w h.performed k;
  last = last;
}

-- the calls that were made, up to one whose line was not printed
pub owes_last : {X : Type 0} (call_at : X → Call) (all left rest : List X) (x : X) (text : Event → List ℕ) (exit : ℕ) (old mid new : SessionView) (u v : Option (List ℕ)) → Making call_at all left text exit old mid u v → left ≡ x ∷ rest → Owes (call_at x) mid new → OwesLast (λ events. Adds events old new) (map call_at all)
owes_last {X} call_at all left rest x text exit old mid new u v h next owes =
    let event : Event = owes.0 in
    let events : List Event = h.performed.events in
    let last : call_of event ≡ call_at x = owes.1 in
    record {
      events = events;
      last = event;
      ahead = map call_at rest;
      made = ap (λ (cs : List Call). cs ++ map call_at rest) (map-append call_of events (event ∷ []) ∙ ap (λ (cs : List Call). cs ++ call_of event ∷ []) h.performed.made ∙ ap (λ (c : Call). map call_at h.front ++ c ∷ []) last)
          ∙ append_assoc (map call_at h.front) (call_at x ∷ []) (map call_at rest)
          ∙ sym (map-append call_at h.front (x ∷ rest))
          ∙ ap (map call_at) (sym (h.cut ∙ ap (λ (xs : List X). h.front ++ xs) next));
      holds = adds_then events (event ∷ []) old mid new h.performed.adds (adds_one event mid new owes.3);
      owed = owes.2;
    }

-- a stop that is passed on is the one that came
pub same_stop : {A B : Type 0} (r : Result A Stop) (x n : Stop) → IsErrAnd r (λ y. y ≡ x) → r ≡ Err n → IsErrOf {T = B} (Err x) n
same_stop (Ok a) x n h e = absurd h
same_stop (Err y) x n h e = cc

-- what holds of a stop that is of a refused call, and is passed on
pub same_refused : {A P : Type 0} (r : Result A Stop) (x : Stop) → IsErrAnd r (λ y. y ≡ x) → (is_refused x ≡ true → P) → IfErr r (λ stop. is_refused stop ≡ true → P)
same_refused (Ok a) x h p = tt
same_refused (Err y) x h p = λ e. p (sym (ap is_refused h) ∙ e)

pub refused_map : {A P Q : Type 0} (r : Result A Stop) → (P → Q) → IfErr r (λ stop. is_refused stop ≡ true → P) → IfErr r (λ stop. is_refused stop ≡ true → Q)
refused_map (Ok a) f h = tt
refused_map (Err y) f h = λ e. f (h e)

pub always_refused : {A P : Type 0} (r : Result A Stop) → P → IfErr r (λ stop. is_refused stop ≡ true → P)
always_refused (Ok a) p = tt
always_refused (Err y) p = λ e. p
