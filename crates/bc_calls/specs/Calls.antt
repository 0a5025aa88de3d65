-- The state as a plain map, which remembers no answer, and the legal histories over it.
use Rattle.std.specs.Prelude.{◌≡◌, ◌≢◌, ◌==◌, ◌↔◌, ◌<◌, ℕ, Bool, true, false, Option, Some, None, IsSome, List, [], ◌∷◌, ◌++◌, length, map, filter, fold, count_by, if◌then◌else◌}
use Rattle.std.specs.List.{AllPairs, Contains}
use Rattle.bc_names.specs.Names.{NameParts, is_same_name}
use Rattle.bc_syntax.specs.declared.syntax.Declaration.{Declaration}
use Rattle.bc_syntax.specs.declared.syntax.Body.{Body}
use Rattle.bc_prov.specs.State.{State, Bodies, Suits, at_name}
use Rattle.bc_prov.specs.declared.outcome.Outcome.{Outcome}
use Rattle.bc_prov.specs.Outcome.{IsOutcomeIn, OutcomeRows}
use Rattle.bc_memo.specs.Places.{AreOrdered}
use Rattle.bc_calls.specs.declared.call.Call.{Call}
use Rattle.bc_calls.specs.declared.call.Call.TheVariants as calls_made
use Rattle.bc_calls.specs.declared.call.PutReply.{PutReply}
use Rattle.bc_calls.specs.declared.call.PutReply.TheVariants.{Added, Replaced, Full, WrongKind}
use Rattle.bc_calls.specs.declared.call.RemoveReply.{RemoveReply}
use Rattle.bc_calls.specs.declared.call.RemoveReply.TheVariants.{Removed, Absent}
use Rattle.bc_calls.specs.declared.call.Event.{Event}
use Rattle.bc_calls.specs.declared.call.Event.TheVariants.{Types, Put, Remove, Ask, All as EveryRoot}
use Rattle.bc_calls.specs.declared.call.Entry.{Entry}

-- how many bodies may be stored
abbrev pub most_bodies : ℕ
most_bodies = 1024

-- the state before any call: no declaration and no body
abbrev pub opening : State
opening = record { types = []; bodies = λ name. None }

-- the bodies after a name was given this body, or none
abbrev pub with_body : Bodies → NameParts → Option Body → Bodies
with_body bodies name body = λ other. if is_same_name name other then body else bodies other

-- exactly this many names hold a body: there is a list of them, without repetition and of this length
abbrev pub HoldsCount : Bodies → ℕ → Type 0
HoldsCount bodies count =
    (names : List NameParts) × AllPairs (λ a b. a ≢ b) names
    × ((name : NameParts) → IsSome (bodies name) ↔ Contains names name) × (length names ≡ count)

-- the reply to a put: `WrongKind` if the body does not suit the name, otherwise `Full` if the name is new and 1,024 bodies are stored,
-- otherwise `Replaced` or `Added`
abbrev pub IsPutReply : Bodies → NameParts → Body → PutReply → Type 0
IsPutReply bodies name body WrongKind = ¬ Suits body name
IsPutReply bodies name body Full = Suits body name × (bodies name ≡ None) × HoldsCount bodies most_bodies
IsPutReply bodies name body Replaced = Suits body name × IsSome (bodies name)
IsPutReply bodies name body Added = Suits body name × (bodies name ≡ None) × ((count : ℕ) × (count < most_bodies) × HoldsCount bodies count)

-- the reply to a removal: `Removed` if the name holds a body, otherwise `Absent`
abbrev pub IsRemoveReply : Bodies → NameParts → RemoveReply → Type 0
IsRemoveReply bodies name Removed = IsSome (bodies name)
IsRemoveReply bodies name Absent = bodies name ≡ None

-- The names ascend. Each is a root that holds a body, and is listed with its outcome. Each root that holds a body is listed. A root is a
-- name without segments.
pub record IsListing (state : State) (rows : OutcomeRows) : Type 0 where
  pub ordered : AreOrdered rows
  pub listed : (name : NameParts) (outcome : Outcome) → at_name rows name ≡ Some outcome → (name.segments ≡ []) × IsSome (state.bodies name) × IsOutcomeIn state name outcome
  pub whole : (name : NameParts) → name.segments ≡ [] → IsSome (state.bodies name) → IsSome (at_name rows name)

-- The reply is right in this state. The reply to an ask is the outcome of its name. The reply to an ask for all lists each root that holds
-- a body, with its outcome. Declarations are always stored.
abbrev pub IsReply : State → Event → Type 0
IsReply state (Types types) = Unit {0}
IsReply state (Put name body reply) = IsPutReply state.bodies name body reply
IsReply state (Remove name reply) = IsRemoveReply state.bodies name reply
IsReply state (Ask name outcome) = IsOutcomeIn state name outcome
IsReply state (EveryRoot rows) = IsListing state rows

-- a put with this reply stored its body
abbrev pub stores : PutReply → Bool
stores Added = true
stores Replaced = true
stores Full = false
stores WrongKind = false

-- a removal with this reply removed a body
abbrev pub takes : RemoveReply → Bool
takes Removed = true
takes Absent = false

-- the declarations after an event
abbrev pub next_types : List Declaration → Event → List Declaration
next_types held (Types types) = types
next_types held (Put name body reply) = held
next_types held (Remove name reply) = held
next_types held (Ask name outcome) = held
next_types held (EveryRoot rows) = held

-- the bodies after an event
abbrev pub next_bodies : Bodies → Event → Bodies
next_bodies bodies (Types types) = bodies
next_bodies bodies (Put name body reply) = if stores reply then with_body bodies name (Some body) else bodies
next_bodies bodies (Remove name reply) = if takes reply then with_body bodies name None else bodies
next_bodies bodies (Ask name outcome) = bodies
next_bodies bodies (EveryRoot rows) = bodies

-- the state after an event
abbrev pub next : State → Event → State
next state event = record { types = next_types state.types event; bodies = next_bodies state.bodies event }

-- the state after a history, which starts from no declaration and no body
abbrev pub after : List Entry → State
after h = fold (λ state (e : Entry). next state e.event) opening h

-- how many entries of a history belong to this session
abbrev pub count_of : ℕ → List Entry → ℕ
count_of session h = count_by (λ (e : Entry). e.session == session) h

-- the entry may follow this history: its reply is right in the state after the history, and its number is how many entries its session has
-- there
abbrev pub MayComeNext : List Entry → Entry → Type 0
MayComeNext h e = IsReply (after h) e.event × (e.number ≡ count_of e.session h)

-- a legal history, which one thread could have made: wherever it is cut, the next entry may follow those before it
abbrev pub IsLegal : List Entry → Type 0
IsLegal h = (before : List Entry) (e : Entry) (rest : List Entry) → h ≡ before ++ e ∷ rest → MayComeNext before e

-- the calls and replies of a session, in order
abbrev pub calls : ℕ → List Entry → List Event
calls session h = map (λ (e : Entry). e.event) (filter (λ (e : Entry). e.session == session) h)

-- the call of an event
abbrev pub call_of : Event → Call
call_of (Types types) = calls_made.Types types
call_of (Put name body reply) = calls_made.Put name body
call_of (Remove name reply) = calls_made.Remove name
call_of (Ask name outcome) = calls_made.Ask name
call_of (EveryRoot rows) = calls_made.All

-- the list g begins with the list h
abbrev pub StartsWith : List Entry → List Entry → Type 0
StartsWith g h = (rest : List Entry) × (g ≡ h ++ rest)

-- the last entry of a history, if it has one
abbrev pub last_of : List Entry → Option Entry
last_of [] = None
last_of (e ∷ []) = Some e
last_of (e ∷ d ∷ rest) = last_of (d ∷ rest)
