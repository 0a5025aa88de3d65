-- Names that are asked for by a session that has read before.
use Rattle.std.proofs.Common.{◌≡◌, ℕ, List, [], Option, map, refl, subst, inl}
use Rattle.std.specs.Prelude.{true, Result, Ok, Err, IfOk, IfErr}
use Rattle.bc_names.specs.Names.{NameParts}
use Rattle.bc_calls.specs.declared.call.Call.{Call}
use Rattle.bc_calls.specs.declared.call.Call.TheVariants.{Ask}
use Rattle.bc_calls.specs.declared.call.Event.{Event}
use Rattle.bc_share.specs.Sessions.{SessionView, IsSame}
use Rattle.cli_file.specs.declared.stop.Stop.{Stop}
use Rattle.cli_file.specs.Stops.{is_refused}
use Rattle.cli_check.specs.Performed.{Performed, PerformedPart}
use Rattle.cli_check.proofs.Performing.{adds_same, adds_then, refused_map, performed_none}

performed_behind : (list : List Call) (text : Event → List ℕ) (exit : ℕ) (old mid new : SessionView) (u v : Option (List ℕ)) → IsSame old mid → Performed list text exit mid new u v → Performed list text exit old new u v
performed_behind list text exit old mid new u v same h = record {
  events = h.events;
  made = h.made;
  adds = adds_then [] h.events old mid new (adds_same old mid same) h.adds;
  printed = h.printed;
  status = h.status;
}

part_behind : (list : List Call) (text : Event → List ℕ) (old mid new : SessionView) (u v : Option (List ℕ)) → IsSame old mid → PerformedPart list text mid new u v → PerformedPart list text old new u v
part_behind list text old mid new u v same h = record {
  front = h.front;
  ahead = h.ahead;
  cut = h.cut;
  exit = h.exit;
  between = h.between;
  performed = performed_behind h.front text h.exit old mid h.between u v same h.performed;
  last = h.last;
}

-- no call was made
pub part_none : (list : List Call) (text : Event → List ℕ) (old new : SessionView) (u : Option (List ℕ)) → IsSame old new → PerformedPart list text old new u u
part_none list text old new u same = record {
  front = [];
  ahead = list;
  cut = refl;
  exit = 0;
  between = old;
  performed = performed_none text old u;
  last = inl same;
}

-- the asks that were begun are of these names
pub asked_ahead : (asks names : List NameParts) (text : Event → List ℕ) (old mid new : SessionView) (u v : Option (List ℕ)) (r : Result ℕ Stop) → asks ≡ names → IsSame old mid
    → IfOk r (λ n. Performed (map Ask asks) text n mid new u v) → IfOk r (λ n. Performed (map Ask names) text n old new u v)
asked_ahead asks names text old mid new u v (Ok n) is same h =
    subst (λ (ns : List NameParts). Performed (map Ask ns) text n old new u v) is (performed_behind (map Ask asks) text n old mid new u v same h)
asked_ahead asks names text old mid new u v (Err stop) is same h = tt

pub part_ahead : (asks names : List NameParts) (text : Event → List ℕ) (old mid new : SessionView) (u v : Option (List ℕ)) (r : Result ℕ Stop) → asks ≡ names → IsSame old mid
    → IfErr r (λ stop. is_refused stop ≡ true → PerformedPart (map Ask asks) text mid new u v) → IfErr r (λ stop. is_refused stop ≡ true → PerformedPart (map Ask names) text old new u v)
part_ahead asks names text old mid new u v r is same h =
    refused_map r (λ (p : PerformedPart (map Ask asks) text mid new u v). subst (λ (ns : List NameParts). PerformedPart (map Ask ns) text old new u v) is (part_behind (map Ask asks) text old mid new u v same p)) h
