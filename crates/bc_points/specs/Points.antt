-- What happens at a point, by its number in the list of all points.
use Rattle.std.specs.Prelude.{◌≡◌, ℕ, Bool, false, IsTrue, MatchOption, Option, Some, None, slice_get}
use Rattle.std.specs.List.{Contains}
use Rattle.std.specs.Option.{option_map_or}
use Rattle.bc_syntax.specs.declared.syntax.Place.{Place}
use Rattle.bc_syntax.specs.declared.syntax.Rvalue.TheVariants.{Use, Borrow, Aggregate, Closure, Calc}
use Rattle.bc_syntax.specs.declared.syntax.Statement.TheVariants.{Assign, Dead, Drop, Nop}
use Rattle.bc_bodies.specs.declared.mir.Instruction.{Instruction}
use Rattle.bc_bodies.specs.declared.mir.Instruction.TheVariants.{Statement, Terminator}
use Rattle.bc_points.specs.declared.loan.Loan.{Loan}
use Rattle.bc_syntax.specs.declared.syntax.Rvalue.{Rvalue}
use Rattle.bc_bodies.specs.Mir.{Mir}
use Rattle.bc_points.specs.Prefixes.{is_prefix}
use Rattle.bc_points.specs.Accesses.{uses_of, defines_of, overwritten}

-- `P` holds of the instruction at a point
abbrev pub HappensAt : Mir → (Instruction → Type 0) → ℕ → Type 0
HappensAt mir P p = MatchOption (slice_get mir.steps p) ⊥ (λ step. P step.instruction)

-- a point uses a local
abbrev pub Uses : Mir → ℕ → ℕ → Type 0
Uses mir local = HappensAt mir (λ here. Contains (uses_of mir here) local)

-- a point defines a local
abbrev pub Defines : Mir → ℕ → ℕ → Type 0
Defines mir local = HappensAt mir (λ here. defines_of here ≡ Some local)

-- the loan that an rvalue makes: a borrow makes one of its region, its mutability and its place
abbrev pub loan_of_rvalue : Rvalue → Option Loan
loan_of_rvalue (Use operand) = None
loan_of_rvalue (Borrow borrow) =
    Some (record { region = borrow.reference.region; mutability = borrow.reference.mutability; path = borrow.place })
loan_of_rvalue (Aggregate aggregate) = None
loan_of_rvalue (Closure creation) = None
loan_of_rvalue (Calc operands) = None

-- the loan that an instruction makes, if it makes one: each borrow does
abbrev pub loan_of : Instruction → Option Loan
loan_of (Statement (Assign assignment)) = loan_of_rvalue assignment.value
loan_of (Statement (Dead local)) = None
loan_of (Statement (Drop place)) = None
loan_of (Statement Nop) = None
loan_of (Terminator terminator) = None

-- the instruction overwrites a prefix of a path
abbrev pub kills : Place → Instruction → Bool
kills path here = option_map_or (λ place. is_prefix place path) (overwritten here) false

-- a point overwrites a prefix of a path
abbrev pub Kills : Mir → Place → ℕ → Type 0
Kills mir path = HappensAt mir (λ here. IsTrue (kills path here))
