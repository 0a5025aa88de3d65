-- Which names are answered after a history.
use Rattle.std.specs.Prelude.{◌≡◌, ◌&&◌, Bool, true, false, Option, Some, None, IsSome, is_some, List, ◌∷◌, ◌++◌, if◌then◌else◌, MatchOption}
use Rattle.std.specs.List.{list_any}
use Rattle.bc_names.specs.Names.{NameParts, is_same_name, is_within}
use Rattle.bc_prov.specs.declared.outcome.Outcome.{Outcome}
use Rattle.bc_prov.specs.Outcome.{IsOutcomeIn}
use Rattle.bc_memo.specs.Places.{ShelfView, AreOrdered, unit_of, answer_of}
use Rattle.bc_prov.specs.State.{at_name}
use Rattle.bc_calls.specs.declared.call.Event.{Event}
use Rattle.bc_calls.specs.declared.call.Event.TheVariants.{Types, Put, Remove, Ask, All as EveryRoot}
use Rattle.bc_calls.specs.declared.call.Entry.{Entry}
use Rattle.bc_calls.specs.Calls.{after, stores, takes}

-- the event makes the name's answer void: it stored declarations, or it added, replaced or removed a body at the name or at one that begins
-- with it and `/`
abbrev pub clears : NameParts → Event → Bool
clears name (Types types) = true
clears name (Put other body reply) = stores reply && is_within name other
clears name (Remove other reply) = takes reply && is_within name other
clears name (Ask other outcome) = false
clears name (EveryRoot rows) = false

-- the answer that an event gives for the name: the outcome of an ask of it, or the outcome that an ask for all lists for it
abbrev pub found : NameParts → Event → Option Outcome
found name (Types types) = None
found name (Put other body reply) = None
found name (Remove other reply) = None
found name (Ask other outcome) = if is_same_name other name then Some outcome else None
found name (EveryRoot rows) = at_name rows name

-- the event asks for the name: it is an ask of the name, or an ask for all that lists it
abbrev pub asks : NameParts → Event → Bool
asks name (Types types) = false
asks name (Put other body reply) = false
asks name (Remove other reply) = false
asks name (Ask other outcome) = is_same_name other name
asks name (EveryRoot rows) = is_some (at_name rows name)

-- the name holds a body and was asked for, and no later event made its answer void
abbrev pub IsNameAnswered : List Entry → NameParts → Type 0
IsNameAnswered h name =
    IsSome ((after h).bodies name)
    × ((before : List Entry) × (asked : Entry) × (rest : List Entry)
    × (h ≡ before ++ asked ∷ rest) × (asks name asked.event ≡ true) × (list_any (λ (e : Entry). clears name e.event) rest ≡ false))

-- the answer of a name after a history: its outcome if the name is answered there, otherwise none
abbrev pub IsAnswer : List Entry → NameParts → Option Outcome → Type 0
IsAnswer h name answer = MatchOption answer (¬ IsNameAnswered h name) (λ outcome. IsNameAnswered h name × IsOutcomeIn (after h) name outcome)

-- The shelf is what the history leaves. A name has an answer exactly if it is answered, and then the answer is its outcome.
pub record IsShelfOf (shelf : ShelfView) (h : List Entry) : Type 0 where
  pub types : shelf.types ≡ (after h).types
  pub ordered : AreOrdered shelf.places
  pub bodies : (name : NameParts) → unit_of (at_name shelf.places name) ≡ (after h).bodies name
  pub answers : (name : NameParts) → IsAnswer h name (answer_of (at_name shelf.places name))
