-- How the command ends.
use Rattle.std.proofs.Common.{◌≡◌, ℕ, ◌≤◌, ◌+◌, max, List, [], ◌∷◌, ◌++◌, Option, Some, None, inl, inr, get_or, length, map, refl, sym, ap, ◌∙◌, subst, append_assoc, append-nil, arith}
use Rattle.std.specs.Prelude.{◌⊎◌, true, Result, Ok, Err, IfOk, IfErr, IfSome, IsErrOf}
use Rattle.std.specs.List.{flat_map}
use Rattle.std.specs.Io.KnownBytes.{Appends, Keeps}
use Rattle.std.proofs.lemmas.List.{map-append}
use Rattle.std.proofs.lemmas.Grind.{flat_map-append}
use Rattle.bc_names.specs.Names.{NameParts}
use Rattle.bc_calls.specs.declared.call.Call.{Call}
use Rattle.bc_calls.specs.declared.call.Call.TheVariants as calls_made
use Rattle.bc_calls.specs.declared.call.Event.{Event}
use Rattle.bc_calls.specs.declared.call.Event.TheVariants.{Types, Put, Remove, Ask, All as EveryRoot}
use Rattle.bc_calls.specs.declared.call.Entry.{Entry}
use Rattle.bc_calls.specs.Calls.{IsLegal, calls, call_of}
use Rattle.bc_share.specs.Sessions.{SessionView, new_session}
use Rattle.bc_share.specs.Closings.{IsOneHistory}
use Rattle.bc_share.specs.declared.db.TheConstants.{MOST_ENTRIES}
use Rattle.cli_file.specs.declared.stop.Stop.{Stop}
use Rattle.cli_file.specs.declared.stop.Stop.TheVariants.{CannotWrite, CannotTell, NoMemory, HistoryFull}
use Rattle.cli_file.specs.declared.file.FileChange.{FileChange}
use Rattle.cli_file.specs.declared.file.FileChange.TheVariants as changes
use Rattle.cli_file.specs.Changes.{seen}
use Rattle.cli_file.specs.Stops.{is_refused}
use Rattle.cli_file.specs.Statuses.{greatest}
use Rattle.cli_file.proofs.Printing.{nothing_added}
use Rattle.cli_check.specs.declared.form.Form.{Form}
use Rattle.cli_check.specs.Run.{calls_of, error_lines, shown, AreLegal, AreReplied}
use Rattle.cli_check.specs.Performed.{Adds, OwesLast, Performed, PerformedPart, PerformedAll, PerformedFirst, PerformedThen, Runs, Begins, Prints, HasSeenItsOwn, IsAtMostOneMore}
use Rattle.cli_check.proofs.Members.{Contains-one}
use Rattle.cli_check.proofs.Shorter.{the_last, legal_shorter}
use Rattle.cli_check.proofs.Performing.{adds_one, adds_then}

-- an ask prints nothing on standard error
told_ask : (e : Event) (name : NameParts) → call_of e ≡ calls_made.Ask name → error_lines e ≡ []
told_ask (Types types) name is = refl
told_ask (Put other body reply) name is = absurd cc
told_ask (Remove other reply) name is = refl
told_ask (Ask other outcome) name is = refl
told_ask (EveryRoot rows) name is = refl

told_asks : (names : List NameParts) (events : List Event) (ahead : List Call) → map call_of events ++ ahead ≡ map calls_made.Ask names → flat_map error_lines events ≡ []
told_asks names [] ahead h = refl
told_asks [] (e ∷ events) ahead h = absurd cc
told_asks (name ∷ names) (e ∷ events) ahead h =
    let one : call_of e ≡ calls_made.Ask name = cc in
    let rest : map call_of events ++ ahead ≡ map calls_made.Ask names = cc in
    ap (λ (text : List ℕ). text ++ flat_map error_lines events) (told_ask e name one) ∙ told_asks names events ahead rest

-- a change prints nothing on standard output
shown_change : (form : Form) (e : Event) (change : FileChange) → call_of e ≡ seen change → shown form e ≡ []
shown_change form (Types types) change is = refl
shown_change form (Put name body reply) change is = refl
shown_change form (Remove name reply) change is = refl
shown_change form (Ask name outcome) (changes.Types types) is = absurd cc
shown_change form (Ask name outcome) (changes.Put other unit) is = absurd cc
shown_change form (EveryRoot rows) change is = refl

shown_changes : (form : Form) (list : List FileChange) (events : List Event) (ahead : List Call) → map call_of events ++ ahead ≡ map seen list → flat_map (shown form) events ≡ []
shown_changes form list [] ahead h = refl
shown_changes form [] (e ∷ events) ahead h = absurd cc
shown_changes form (change ∷ list) (e ∷ events) ahead h =
    let one : call_of e ≡ seen change = cc in
    let rest : map call_of events ++ ahead ≡ map seen list = cc in
    ap (λ (text : List ℕ). text ++ flat_map (shown form) events) (shown_change form e change one) ∙ shown_changes form list events ahead rest

greatest-append : (a b : List Event) → greatest (a ++ b) ≡ max (greatest a) (greatest b)
greatest-append [] b = omega arith
greatest-append (e ∷ a) b = let more = greatest-append a b in omega (arith, more)

-- a session with which a database closed made a legal history
legal_of : (s : SessionView) (h : List Entry) (events : List Event) → IsOneHistory (s ∷ []) h → s.number ≡ 0 → s.own ≡ events → AreLegal events
legal_of s h events one zero_is own =
    let agrees = one.1 in record {
      history = h;
      legal = one.0;
      one_session = λ k d below. sym (Contains-one s.number (get_or h k d).session (agrees.others k d below)) ∙ zero_is;
      own = ap (λ (n : ℕ). calls n h) (sym zero_is) ∙ sym (agrees.own 0 s (omega arith)) ∙ own;
    }

legal_added : (events : List Event) (s t : SessionView) (h : List Entry) → s ≡ new_session 0 0 → t.number ≡ s.number → t.own ≡ s.own ++ events → IsOneHistory (t ∷ []) h → AreLegal events
legal_added events s t h is number own one =
    legal_of t h events one (number ∙ ap (λ (x : SessionView). x.number) is) (own ∙ ap (λ (x : SessionView). x.own ++ events) is)

-- the calls that were answered and printed, of a session that answered at most one more
legal_begun : (events : List Event) (s between t : SessionView) (h : List Entry) → s ≡ new_session 0 0 → Adds events s between → IsAtMostOneMore between t → IsOneHistory (t ∷ []) h → AreLegal events
legal_begun events s between t h is adds last one = elim last [
  | inl same ↦ legal_added events s t h is (same.number ∙ adds.number) (same.own ∙ adds.own) one
  | inr more ↦ (let event : Event = more.0 in let all = adds_then events (event ∷ []) s between t adds (adds_one event between t more.1) in legal_shorter events event (legal_added (events ++ event ∷ []) s t h is all.number all.own one))
]

-- an empty history is legal
legal_none : IsLegal []
legal_none [] e rest is = absurd cc
legal_none (b ∷ bs) e rest is = absurd cc

-- the calls that a new session answered
replied_of : (events : List Event) (s t : SessionView) → s ≡ new_session 0 0 → Adds events s t → AreReplied events
replied_of events s t is adds =
    let nothing : HasSeenItsOwn (new_session 0 0) = record { noted = []; begins = ([], refl); legal = legal_none; own = refl } in
    let seen : HasSeenItsOwn t = adds.seen (subst HasSeenItsOwn (sym is) nothing) in
    record {
      history = seen.noted;
      legal = seen.legal;
      own = ap (λ (n : ℕ). calls n seen.noted) (sym (adds.number ∙ ap (λ (x : SessionView). x.number) is)) ∙ seen.own ∙ adds.own ∙ ap (λ (x : SessionView). x.own ++ events) is;
    }

-- all changes and all asks
pub performed_all : (form : Form) (list : List FileChange) (names : List NameParts) (m n : ℕ) (s0 s1 s2 : SessionView) (o0 o1 e0 e1 : Option (List ℕ)) → Performed (map seen list) error_lines m s0 s1 e0 e1 → Performed (map calls_made.Ask names) (shown form) n s1 s2 o0 o1 → PerformedAll form (map seen list) names (max m n) s0 s2 o0 o1 e0 e1
performed_all form list names m n s0 s1 s2 o0 o1 e0 e1 p a =
    let silent : flat_map error_lines p.events ≡ flat_map error_lines (p.events ++ a.events) =
    sym (flat_map-append error_lines p.events a.events ∙ ap (λ (t : List ℕ). flat_map error_lines p.events ++ t) (told_asks names a.events [] (append-nil _ ∙ a.made)) ∙ append-nil _) in
    let hidden : flat_map (shown form) a.events ≡ flat_map (shown form) (p.events ++ a.events) =
    sym (flat_map-append (shown form) p.events a.events ∙ ap (λ (t : List ℕ). t ++ flat_map (shown form) a.events) (shown_changes form list p.events [] (append-nil _ ∙ p.made))) in
    record {
      events = p.events ++ a.events;
      made = map-append call_of p.events a.events ∙ ap (λ (cs : List Call). cs ++ map call_of a.events) p.made ∙ ap (λ (cs : List Call). map seen list ++ cs) a.made;
      adds = adds_then p.events a.events s0 s1 s2 p.adds a.adds;
      output = subst (λ (t : List ℕ). Appends o0 o1 t) hidden a.printed;
      errors = subst (λ (t : List ℕ). Appends e0 e1 t) silent p.printed;
      status = let both = greatest-append p.events a.events in omega (arith, both, p.status, a.status);
    }

-- some of the changes
pub first_changes : (form : Form) (list : List FileChange) (names : List NameParts) (s0 s1 : SessionView) (o e0 e1 : Option (List ℕ)) → PerformedPart (map seen list) error_lines s0 s1 e0 e1 → PerformedFirst form (map seen list) names s0 s1 o o e0 e1
first_changes form list names s0 s1 o e0 e1 h =
    let cut : map call_of h.performed.events ++ h.ahead ≡ map seen list = ap (λ (cs : List Call). cs ++ h.ahead) h.performed.made ∙ h.cut in
    record {
      events = h.performed.events;
      ahead = h.ahead ++ map calls_made.Ask names;
      made = sym (append_assoc (map call_of h.performed.events) h.ahead (map calls_made.Ask names)) ∙ ap (λ (cs : List Call). cs ++ map calls_made.Ask names) cut;
      between = h.between;
      adds = h.performed.adds;
      last = h.last;
      output = subst (λ (t : List ℕ). Appends o o t) (sym (shown_changes form list h.performed.events h.ahead cut)) (nothing_added o);
      errors = h.performed.printed;
    }

-- all changes and some of the asks
pub first_asks : (form : Form) (list : List FileChange) (names : List NameParts) (m : ℕ) (s0 s1 s2 : SessionView) (o0 o1 e0 e1 : Option (List ℕ)) → Performed (map seen list) error_lines m s0 s1 e0 e1 → PerformedPart (map calls_made.Ask names) (shown form) s1 s2 o0 o1 → PerformedFirst form (map seen list) names s0 s2 o0 o1 e0 e1
first_asks form list names m s0 s1 s2 o0 o1 e0 e1 p h =
    let asks : List Event = h.performed.events in
    let cut : map call_of asks ++ h.ahead ≡ map calls_made.Ask names = ap (λ (cs : List Call). cs ++ h.ahead) h.performed.made ∙ h.cut in
    let silent : flat_map error_lines p.events ≡ flat_map error_lines (p.events ++ asks) =
    sym (flat_map-append error_lines p.events asks ∙ ap (λ (t : List ℕ). flat_map error_lines p.events ++ t) (told_asks names asks h.ahead cut) ∙ append-nil _) in
    let hidden : flat_map (shown form) asks ≡ flat_map (shown form) (p.events ++ asks) =
    sym (flat_map-append (shown form) p.events asks ∙ ap (λ (t : List ℕ). t ++ flat_map (shown form) asks) (shown_changes form list p.events [] (append-nil _ ∙ p.made))) in
    record {
      events = p.events ++ asks;
      ahead = h.ahead;
      made = ap (λ (cs : List Call). cs ++ h.ahead) (map-append call_of p.events asks ∙ ap (λ (cs : List Call). cs ++ map call_of asks) p.made)
          ∙ append_assoc (map seen list) (map call_of asks) h.ahead
          ∙ ap (λ (cs : List Call). map seen list ++ cs) cut;
      between = h.between;
      adds = adds_then p.events asks s0 s1 h.between p.adds h.performed.adds;
      last = h.last;
      output = subst (λ (t : List ℕ). Appends o0 o1 t) hidden h.performed.printed;
      errors = subst (λ (t : List ℕ). Appends e0 e1 t) silent p.printed;
    }

-- the one new session of a database, taken out of its list and put back after its calls, with which the database closed
pub closed_with : (opened left handed : List SessionView) (s t : SessionView) (h : List Entry) → opened ≡ new_session 0 0 ∷ [] → opened ≡ left ++ s ∷ [] → handed ≡ left ++ t ∷ [] → IsOneHistory handed h → (s ≡ new_session 0 0) × IsOneHistory (t ∷ []) h
closed_with opened left handed s t h new popped pushed one =
    let last : (left ≡ []) × (s ≡ new_session 0 0) = the_last _ _ _ (sym new ∙ popped) in
    (last.1, subst (λ (ss : List SessionView). IsOneHistory ss h) (pushed ∙ ap (λ (ss : List SessionView). ss ++ t ∷ []) last.0) one)

-- the database closed well after the calls that a new session made
pub runs_of : (form : Form) (first : List Call) (names : List NameParts) (s t : SessionView) (o o' e e' : Option (List ℕ)) (h : List Entry) (r : Result ℕ Stop) → s ≡ new_session 0 0 → length first + length names ≤ MOST_ENTRIES → IsOneHistory (t ∷ []) h → IfOk r (λ exit. PerformedAll form first names exit s t o o' e e') → IfOk r (λ exit. Runs form first names exit o o' e e')
runs_of form first names s t o o' e e' h (Ok exit) is few one all = record {
  events = all.events;
  made = all.made;
  few = few;
  legal = legal_added all.events s t h is all.adds.number all.adds.own one;
  output = all.output;
  errors = all.errors;
  status = all.status;
}
runs_of form first names s t o o' e e' h (Err stop) is few one all = tt

pub begins_of : (form : Form) (first : List Call) (names : List NameParts) (s t : SessionView) (o o' e e' : Option (List ℕ)) (h : List Entry) → s ≡ new_session 0 0 → IsOneHistory (t ∷ []) h → PerformedFirst form first names s t o o' e e' → Begins AreLegal form first names o o' e e'
begins_of form first names s t o o' e e' h is one some = record {
  events = some.events;
  ahead = some.ahead;
  made = some.made;
  holds = legal_begun some.events s some.between t h is some.adds some.last one;
  output = some.output;
  errors = some.errors;
}

-- what was printed about calls that a new session answered
pub prints_of : (list : List Call) (text : Event → List ℕ) (s : SessionView) (u v : Option (List ℕ)) → s ≡ new_session 0 0 → PerformedThen list text s u v → Prints list text u v
prints_of list text s u v is h = record {
  events = h.performed.events;
  made = h.performed.made;
  replied = replied_of h.performed.events s h.between is h.performed.adds;
  printed = h.performed.printed;
}

-- the calls up to one whose line was not printed
pub owed_of : (P Q : List Event → Type 0) (list : List Call) → ((events : List Event) → P events → Q events) → OwesLast P list → OwesLast Q list
owed_of P Q list f h = record { events = h.events; last = h.last; ahead = h.ahead; made = h.made; holds = f (h.events ++ h.last ∷ []) h.holds; owed = h.owed }

-- a session with which the database closed
pub legal_adds : (s t : SessionView) (h : List Entry) → s ≡ new_session 0 0 → IsOneHistory (t ∷ []) h → (events : List Event) → Adds events s t → AreLegal events
legal_adds s t h is one events adds = legal_added events s t h is adds.number adds.own one

shown_all : (form : Form) (first : List Call) (names : List NameParts) (exit : ℕ) (s t : SessionView) (o o' e e' : Option (List ℕ)) → s ≡ new_session 0 0 → PerformedAll form first names exit s t o o' e e' → Begins AreReplied form first names o o' e e'
shown_all form first names exit s t o o' e e' is all = record {
  events = all.events;
  ahead = [];
  made = append-nil _ ∙ all.made;
  holds = replied_of all.events s t is all.adds;
  output = all.output;
  errors = all.errors;
}

shown_first : (form : Form) (first : List Call) (names : List NameParts) (s t : SessionView) (o o' e e' : Option (List ℕ)) → s ≡ new_session 0 0 → PerformedFirst form first names s t o o' e e' → Begins AreReplied form first names o o' e e'
shown_first form first names s t o o' e e' is some = record {
  events = some.events;
  ahead = some.ahead;
  made = some.made;
  holds = replied_of some.events s some.between is some.adds;
  output = some.output;
  errors = some.errors;
}

-- what was printed, or a line that was not, if standard output has not failed
pub shown_of : (form : Form) (first : List Call) (names : List NameParts) (s t : SessionView) (o o' e e' : Option (List ℕ)) (r : Result ℕ Stop) → s ≡ new_session 0 0
    → IfOk r (λ exit. PerformedAll form first names exit s t o o' e e')
    → IfErr r (λ stop. is_refused stop ≡ true → PerformedFirst form first names s t o o' e e')
    → (IsErrOf r CannotTell → OwesLast (λ events. Adds events s t) first)
    → (IsErrOf r CannotTell → Keeps o o')
    → IfErr r (λ stop. (stop ≡ CannotTell) ⊎ (stop ≡ CannotWrite) ⊎ (stop ≡ NoMemory) ⊎ (stop ≡ HistoryFull))
    → (IsErrOf r CannotWrite → ⊥)
    → Begins AreReplied form first names o o' e e' ⊎ (OwesLast AreReplied first × Keeps o o')
shown_of form first names s t o o' e e' (Ok n) is all some untold silent stop well = inl (shown_all form first names n s t o o' e e' is all)
shown_of form first names s t o o' e e' (Err x) is all some untold silent stop well = elim stop [
  | inl tell ↦ inr (owed_of (λ events. Adds events s t) AreReplied first (λ events adds. replied_of events s t is adds) (untold (ap Err tell)), silent (ap Err tell))
  | inr more ↦ elim more [
    | inl write ↦ absurd (well (ap Err write))
    | inr refused ↦ inl (shown_first form first names s t o o' e e' is (some (elim refused [
      | inl memory ↦ ap is_refused memory
      | inr full ↦ ap is_refused full
    ])))
  ]
]

-- no call was made
pub begins_none : (form : Form) (first : List Call) (names : List NameParts) (o e : Option (List ℕ)) → Begins AreLegal form first names o o e e
begins_none form first names o e = record {
  events = [];
  ahead = calls_of first names;
  made = refl;
  holds = record { history = []; legal = legal_none; one_session = λ k d below. absurd (omega (arith, below)); own = refl };
  output = nothing_added o;
  errors = nothing_added e;
}

-- a fact about what was read is a fact about the known bytes
pub known_is : (known : Option (List ℕ)) (file : List ℕ) (P : List ℕ → Type 0) → IfSome known (λ bytes. file ≡ bytes) → P file → IfSome known P
known_is None file P e p = tt
known_is (Some bytes) file P e p = subst P e p
