-- Where a unit first breaks a typing rule.
use Rattle.std.specs.Prelude.{◌≡◌, Bool, if◌then◌else◌, Option, Some, None, List, [], ◌∷◌, length}
use Rattle.std.specs.Option.{option_map}
use Rattle.bc_bodies.specs.declared.mir.Point.{Point}
use Rattle.bc_bodies.specs.declared.mir.Step.{Step}
use Rattle.bc_bodies.specs.declared.mir.Instruction.{Instruction}
use Rattle.bc_bodies.specs.declared.mir.Instruction.TheVariants.{Statement, Terminator}
use Rattle.bc_mir.specs.declared.typed.Where.{Where}
use Rattle.bc_mir.specs.declared.typed.Where.TheVariants.{Header, At}
use Rattle.bc_bodies.specs.Mir.{Mir}
use Rattle.bc_mir.specs.Rules.{statement_keeps_rules, terminator_keeps_rules, header_keeps_rules}

-- no rule fails at a point with this instruction
abbrev pub fits_at : Mir → Instruction → Bool
fits_at mir (Statement statement) = statement_keeps_rules mir statement
fits_at mir (Terminator terminator) = terminator_keeps_rules mir terminator

-- no header rule fails
abbrev pub header_fits : Mir → Bool
header_fits mir = header_keeps_rules mir

-- the first point at which a rule fails
abbrev pub first_unfit : Mir → List Step → Option Point
first_unfit mir [] = None
first_unfit mir (step ∷ steps) = if fits_at mir step.instruction then first_unfit mir steps else Some step.point

-- the place where a unit first breaks a typing rule, if it breaks one: the header if one of its rules fails, otherwise the least point at
-- which one does
abbrev pub misfit : Mir → Option Where
misfit mir = if header_fits mir then option_map At (first_unfit mir mir.steps) else Some Header

-- the unit breaks no typing rule
abbrev pub HasNoMisfit : Mir → Type 0
HasNoMisfit mir = misfit mir ≡ None
