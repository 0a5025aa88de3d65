-- The names for which a file asks.
use Rattle.std.specs.Prelude.{◌↔◌, ◌==◌, Option, Some, None, List, length, map, if◌then◌else◌}
use Rattle.std.specs.List.{Contains}
use Rattle.std.specs.List.Sorted.{IsStrictlySortedBy}
use Rattle.bc_names.specs.Names.{NameParts, name_order}
use Rattle.bc_calls.specs.declared.call.Call.{Call}
use Rattle.bc_calls.specs.declared.call.Call.TheVariants.{Types, Put, Remove, Ask, All as EveryRoot}

-- the root under which a call puts a body, if it puts one under a root
abbrev pub root_put : Call → Option NameParts
root_put (Types types) = None
root_put (Put name body) = if length name.segments == 0 then Some name else None
root_put (Remove name) = None
root_put (Ask name) = None
root_put EveryRoot = None

-- these are the roots under which bodies are put, in the order of names, each once
pub record AreAsked (made : List Call) (names : List NameParts) : Type 0 where
  pub ascending : IsStrictlySortedBy name_order names
  pub exact : (name : NameParts) → Contains names name ↔ Contains (map root_put made) (Some name)
