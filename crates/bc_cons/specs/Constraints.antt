-- The outlives constraints of a body: the value of the longer region contains that of the shorter.
use Rattle.std.specs.Prelude.{ℕ, Bool, not, List, [], ◌++◌, map, filter}
use Rattle.std.specs.List.{flat_map}
use Rattle.std.specs.Option.{option_map_or}
use Rattle.bc_syntax.specs.declared.syntax.Outlives.{Outlives}
use Rattle.bc_syntax.specs.declared.syntax.Reference.{Reference}
use Rattle.bc_syntax.specs.declared.syntax.Creation.{Creation}
use Rattle.bc_syntax.specs.declared.syntax.Header.{Header}
use Rattle.bc_syntax.specs.declared.syntax.Rvalue.{Rvalue}
use Rattle.bc_syntax.specs.declared.syntax.Rvalue.TheVariants.{Use, Borrow, Aggregate, Closure, Calc}
use Rattle.bc_syntax.specs.declared.syntax.Statement.TheVariants.{Assign, Dead, Drop, Nop}
use Rattle.bc_syntax.specs.declared.syntax.Terminator.TheVariants.{Goto, If, Call, Invoke, Return, Stop}
use Rattle.bc_bodies.specs.declared.mir.Step.{Step}
use Rattle.bc_bodies.specs.declared.mir.Instruction.{Instruction}
use Rattle.bc_bodies.specs.declared.mir.Instruction.TheVariants.{Statement, Terminator}
use Rattle.bc_types.specs.declared.subtype.Constraint.{Constraint as RegionConstraint}
use Rattle.bc_bodies.specs.Mir.{Mir}
use Rattle.bc_bodies.specs.Children.{child_of, arguments_of}
use Rattle.bc_points.specs.Pairs.{assignment_pairs, call_pairs, invocation_pairs, replaced_clause}
use Rattle.bc_points.specs.Prefixes.{from_last_shared}
use Rattle.bc_bodies.specs.PlaceTypes.{references_of_place}
use Rattle.bc_mir.specs.WellFormed.{let_pairs}
use Rattle.bc_points.specs.Regions.{region_number}
use Rattle.bc_types.specs.Subtype.{outlives, same_region}
use Rattle.bc_cons.specs.declared.facts.NumberedConstraint.{NumberedConstraint}
use Rattle.bc_cons.specs.declared.requirements.Requirements.{Requirements}
use Rattle.bc_cons.specs.Requirements.{required_by}

-- the pairs of a borrow for a region r: each reference that a supporting prefix of the place dereferences has a region b that outlives r
-- (RFC 2094, "Reborrow constraints")
abbrev pub reborrow_pairs : Mir → Rvalue → List RegionConstraint
reborrow_pairs mir (Use operand) = []
reborrow_pairs mir (Borrow borrow) =
    map (λ (reference : Reference). outlives reference.region borrow.reference.region) (from_last_shared (references_of_place mir borrow.place))
reborrow_pairs mir (Aggregate aggregate) = []
reborrow_pairs mir (Closure creation) = []
reborrow_pairs mir (Calc operands) = []

-- what a closure requires, with its external regions replaced by those of the creation
abbrev pub required_of : Creation → List Outlives → Header → List RegionConstraint
required_of creation pairs header = map (replaced_clause (arguments_of header creation.closure.regions [])) pairs

-- the creation of a closure demands what the closure requires
abbrev pub required_pairs : Mir → List (ℕ × Requirements) → Rvalue → List RegionConstraint
required_pairs mir kids (Use operand) = []
required_pairs mir kids (Borrow borrow) = []
required_pairs mir kids (Aggregate aggregate) = []
required_pairs mir kids (Closure creation) =
    option_map_or (required_of creation (required_by kids creation.closure.number)) (child_of mir.children creation.closure.number) []
required_pairs mir kids (Calc operands) = []

-- the pairs of a point, given what the children require: those of an assignment, with what a closure that it creates requires and with
-- those of a borrow; those of a call; and those of an invocation
abbrev pub pairs_at : Mir → List (ℕ × Requirements) → Instruction → List RegionConstraint
pairs_at mir kids (Statement (Assign assignment)) =
    assignment_pairs mir assignment ++ (required_pairs mir kids assignment.value ++ reborrow_pairs mir assignment.value)
pairs_at mir kids (Statement (Dead local)) = []
pairs_at mir kids (Statement (Drop place)) = []
pairs_at mir kids (Statement Nop) = []
pairs_at mir kids (Terminator (Goto label)) = []
pairs_at mir kids (Terminator (If condition)) = []
pairs_at mir kids (Terminator (Call call)) = call_pairs mir call
pairs_at mir kids (Terminator (Invoke invocation)) = invocation_pairs mir invocation
pairs_at mir kids (Terminator Return) = []
pairs_at mir kids (Terminator Stop) = []

-- the regions of a pair differ: a region makes no constraint with itself
abbrev pub differ : RegionConstraint → Bool
differ pair = not (same_region pair.longer pair.shorter)

-- the pairs of all points
abbrev pub point_pairs : Mir → List (ℕ × Requirements) → List RegionConstraint
point_pairs mir kids = flat_map (λ (step : Step). pairs_at mir kids step.instruction) mir.steps

-- the pairs of all points, and the pairs that the types of the `let` locals demand to be well-formed, once for the body
abbrev pub all_pairs : Mir → List (ℕ × Requirements) → List RegionConstraint
all_pairs mir kids = point_pairs mir kids ++ let_pairs mir

-- a pair by the numbers of its regions
abbrev pub numbered : ℕ → RegionConstraint → NumberedConstraint
numbered universals pair = record { longer = region_number universals pair.longer; shorter = region_number universals pair.shorter }

-- the constraints of a body, given what its children require, by the numbers of the regions (RFC 2094, "Subtyping" and "Reborrow
-- constraints"; rustc-dev-guide, "Propagating closure constraints")
abbrev pub constraints_of : Mir → List (ℕ × Requirements) → List NumberedConstraint
constraints_of mir kids = map (numbered mir.universals) (filter differ (all_pairs mir kids))
