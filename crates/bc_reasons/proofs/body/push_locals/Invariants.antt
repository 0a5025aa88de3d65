use Rattle.std.proofs.Common.{◌≡◌, ◌++◌, drop}
use Rattle.std.specs.List.{flat_map, enumerate_from}
use Rattle.bc_mir.specs.WellFormed.{let_types}
use Rattle.bc_reasons.specs.Demands.{local_demands}
use Rattle.bc_reasons.proofs.body.push_locals.Given as goal

abbrev pub invariant-loop-number : goal.invariant-loop-number
invariant-loop-number l =
    l.demands.items ++ flat_map (local_demands l.typed) (enumerate_from l.number (drop l.number (let_types l.typed)))
    ≡ l.initial.demands.items ++ flat_map (local_demands l.typed) (enumerate_from 0 (let_types l.typed))
