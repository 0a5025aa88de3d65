-- What fits uses and defines only locals of its unit.
use Rattle.std.proofs.Common.{◌≡◌, ℕ, zero, suc, ◌<◌, ◌≤◌, inl, inr, Bool, true, false, cond, Some, None, List, [], ◌∷◌, ◌++◌, length, get_or, arith}
use Rattle.std.specs.Prelude.{slice_get}
use Rattle.std.specs.List.{Contains, flat_map, list_all}
use Rattle.std.proofs.lemmas.Option.{slice_get_within}
use Rattle.std.proofs.lemmas.List.Elements.{Contains-get_or, Contains-append_cases}
use Rattle.std.proofs.lemmas.Bool.{and_parts, ltb-true}
use Rattle.bc_syntax.specs.declared.syntax.Place.{Place}
use Rattle.bc_syntax.specs.declared.syntax.Operand.{Operand}
use Rattle.bc_syntax.specs.declared.syntax.Operand.TheVariants.{Copy, Move, Number}
use Rattle.bc_syntax.specs.declared.syntax.Rvalue.{Rvalue}
use Rattle.bc_syntax.specs.declared.syntax.Rvalue.TheVariants.{Use, Borrow, Aggregate, Closure, Calc}
use Rattle.bc_syntax.specs.declared.syntax.Statement.TheVariants.{Assign, Dead, Drop, Nop}
use Rattle.bc_syntax.specs.declared.syntax.Terminator.TheVariants.{Goto, If, Call, Invoke, Return, Stop}
use Rattle.bc_bodies.specs.declared.mir.Step.{Step}
use Rattle.bc_bodies.specs.declared.mir.Instruction.{Instruction}
use Rattle.bc_bodies.specs.declared.mir.Instruction.TheVariants.{Statement, Terminator}
use Rattle.bc_bodies.specs.Mir.{Mir}
use Rattle.bc_mir.specs.Typed.{instruction_fits, steps_fit}
use Rattle.bc_syntax.specs.Fits.{place_fits, operand_fits, operands_fit, rvalue_fits}
use Rattle.bc_points.specs.Accesses.{runs_drop, operand_uses, rvalue_uses, is_whole_local, target_uses, target_defines, uses_of, defines_of}
use Rattle.bc_flow.specs.Flow.{AreEntriesWithin}
use Rattle.bc_flow.proofs.Membership.{Contains-nil, Contains-one}
use Rattle.bc_live.specs.Entries.{listed, use_entries, definition_entries}
use Rattle.bc_live.proofs.Listing.{entries_by, from_entries}

-- each local of the list is below this number
abbrev Below : ℕ → List ℕ → Type 0
Below count locals = (l : ℕ) → Contains locals l → l < count

below_one : (count l : ℕ) → l < count → Below count (l ∷ [])
below_one count l h k is = rw (← Contains-one l k is) h

below_none : (count : ℕ) → Below count []
below_none count k is = absurd (Contains-nil k is)

below_both : (count : ℕ) (xs ys : List ℕ) → Below count xs → Below count ys → Below count (xs ++ ys)
below_both count xs ys one two k is = elim (Contains-append_cases xs ys k is) [ inl a ↦ one k a | inr b ↦ two k b ]

place_below : (count : ℕ) (place : Place) → place_fits count place ≡ true → place.local < count
place_below count place fits = ltb-true place.local count (and_parts _ _ (and_parts _ _ fits).0).0

operand_below : (count : ℕ) (operand : Operand) → operand_fits count operand ≡ true → Below count (operand_uses operand)
operand_below count (Copy place) fits = below_one count place.local (place_below count place fits)
operand_below count (Move place) fits = below_one count place.local (place_below count place fits)
operand_below count (Number n) fits = below_none count

each_below : (count : ℕ) (operands : List Operand) → list_all (operand_fits count) operands ≡ true → Below count (flat_map operand_uses operands)
each_below count [] fit = below_none count
each_below count (operand ∷ operands) fit =
    let parts = and_parts (operand_fits count operand) (list_all (operand_fits count) operands) fit in
    below_both count (operand_uses operand) (flat_map operand_uses operands) (operand_below count operand parts.0) (each_below count operands parts.1)

operands_below : (count : ℕ) (operands : List Operand) → operands_fit count operands ≡ true → Below count (flat_map operand_uses operands)
operands_below count operands fit = each_below count operands (and_parts (list_all (operand_fits count) operands) _ fit).0

rvalue_below : (universals count : ℕ) (rvalue : Rvalue) → rvalue_fits universals count rvalue ≡ true → Below count (rvalue_uses rvalue)
rvalue_below universals count (Use operand) fits = operand_below count operand fits
rvalue_below universals count (Borrow borrow) fits =
    below_one count borrow.place.local (place_below count borrow.place (and_parts _ (place_fits count borrow.place) fits).1)
rvalue_below universals count (Aggregate aggregate) fits =
    operands_below count aggregate.operands (and_parts _ (operands_fit count aggregate.operands) fits).1
rvalue_below universals count (Closure creation) fits =
    operands_below count creation.operands (and_parts _ (operands_fit count creation.operands) fits).1
rvalue_below universals count (Calc operands) fits = operands_below count operands fits

target_within : (count : ℕ) (target : Place) → target.local < count → Below count (target_uses target)
target_within count target h = elim (is_whole_local target) as (λ b. Below count (cond b [] (target.local ∷ []))) [
  | true ↦ below_none count
  | false ↦ below_one count target.local h
]

defined_within : (count : ℕ) (target : Place) → target.local < count → Below count (listed (target_defines target))
defined_within count target h = elim (is_whole_local target) as (λ b. Below count (listed (cond b (Some target.local) None))) [
  | true ↦ below_one count target.local h
  | false ↦ below_none count
]

dropped_within : (count : ℕ) (runs : Bool) (place : Place) → place.local < count → Below count (cond runs (place.local ∷ []) [])
dropped_within count true place h = below_one count place.local h
dropped_within count false place h = below_none count

pub uses_within : (mir : Mir) (here : Instruction) → 1 ≤ length mir.locals → instruction_fits mir.universals (length mir.locals) here ≡ true → Below (length mir.locals) (uses_of mir here)
uses_within mir (Statement (Assign assignment)) some fits =
    let parts = and_parts (place_fits (length mir.locals) assignment.target) (rvalue_fits mir.universals (length mir.locals) assignment.value) fits in
    below_both (length mir.locals) (rvalue_uses assignment.value) (target_uses assignment.target)
    (rvalue_below mir.universals (length mir.locals) assignment.value parts.1)
    (target_within (length mir.locals) assignment.target (place_below (length mir.locals) assignment.target parts.0))
uses_within mir (Statement (Dead local)) some fits = below_none (length mir.locals)
uses_within mir (Statement (Drop place)) some fits =
    dropped_within (length mir.locals) (runs_drop mir place) place (place_below (length mir.locals) place fits)
uses_within mir (Statement Nop) some fits = below_none (length mir.locals)
uses_within mir (Terminator (Goto label)) some fits = below_none (length mir.locals)
uses_within mir (Terminator (If condition)) some fits =
    operand_below (length mir.locals) condition.operand (and_parts _ _ (and_parts _ _ fits).0).0
uses_within mir (Terminator (Call call)) some fits =
    let first = and_parts _ _ fits in
    let second = and_parts _ _ first.0 in
    let third = and_parts _ _ second.0 in
    below_both (length mir.locals) (flat_map operand_uses call.operands) (target_uses call.destination)
    (operands_below (length mir.locals) call.operands second.1)
    (target_within (length mir.locals) call.destination (place_below (length mir.locals) call.destination third.0))
uses_within mir (Terminator (Invoke invocation)) some fits =
    let first = and_parts _ _ fits in
    let second = and_parts _ _ first.0 in
    let third = and_parts _ _ second.0 in
    let places = and_parts (place_fits (length mir.locals) invocation.destination) (place_fits (length mir.locals) invocation.closure) third.0 in
    below_both (length mir.locals) (invocation.closure.local ∷ []) (flat_map operand_uses invocation.operands ++ target_uses invocation.destination)
    (below_one (length mir.locals) invocation.closure.local (place_below (length mir.locals) invocation.closure places.1))
    (below_both (length mir.locals) (flat_map operand_uses invocation.operands) (target_uses invocation.destination)
    (operands_below (length mir.locals) invocation.operands second.1)
    (target_within (length mir.locals) invocation.destination (place_below (length mir.locals) invocation.destination places.0)))
uses_within mir (Terminator Return) some fits = below_one (length mir.locals) 0 (omega (arith, some))
uses_within mir (Terminator Stop) some fits = below_none (length mir.locals)

pub definitions_within : (mir : Mir) (here : Instruction) → instruction_fits mir.universals (length mir.locals) here ≡ true → Below (length mir.locals) (listed (defines_of here))
definitions_within mir (Statement (Assign assignment)) fits =
    defined_within (length mir.locals) assignment.target (place_below (length mir.locals) assignment.target (and_parts (place_fits (length mir.locals) assignment.target) _ fits).0)
definitions_within mir (Statement (Dead local)) fits = below_one (length mir.locals) local (ltb-true local (length mir.locals) fits)
definitions_within mir (Statement (Drop place)) fits = below_none (length mir.locals)
definitions_within mir (Statement Nop) fits = below_none (length mir.locals)
definitions_within mir (Terminator (Goto label)) fits = below_none (length mir.locals)
definitions_within mir (Terminator (If condition)) fits = below_none (length mir.locals)
definitions_within mir (Terminator (Call call)) fits =
    let third = and_parts _ _ (and_parts _ _ (and_parts _ _ fits).0).0 in
    defined_within (length mir.locals) call.destination (place_below (length mir.locals) call.destination third.0)
definitions_within mir (Terminator (Invoke invocation)) fits =
    let third = and_parts _ _ (and_parts _ _ (and_parts _ _ fits).0).0 in
    let places = and_parts (place_fits (length mir.locals) invocation.destination) (place_fits (length mir.locals) invocation.closure) third.0 in
    defined_within (length mir.locals) invocation.destination (place_below (length mir.locals) invocation.destination places.0)
definitions_within mir (Terminator Return) fits = below_none (length mir.locals)
definitions_within mir (Terminator Stop) fits = below_none (length mir.locals)

-- each instruction of the list is within its limits
pub fits_there : (universals locals : ℕ) (steps : List Step) (p : ℕ) (step : Step) → steps_fit universals locals steps ≡ true → slice_get steps p ≡ Some step → instruction_fits universals locals step.instruction ≡ true
fits_there universals locals [] p step fit is = absurd (let bad : p < 0 = slice_get_within [] p step is in omega (arith, bad))
fits_there universals locals (first ∷ steps) zero step fit is =
    let same : first ≡ step = cc in
    rw (← same) (and_parts (instruction_fits universals locals first.instruction) _ fit).0
fits_there universals locals (first ∷ steps) (suc p) step fit is =
    fits_there universals locals steps p step (and_parts (instruction_fits universals locals first.instruction) (steps_fit universals locals steps) fit).1 is

all_within : (mir : Mir) (g : Instruction → List ℕ) → ((here : Instruction) → instruction_fits mir.universals (length mir.locals) here ≡ true → Below (length mir.locals) (g here)) → steps_fit mir.universals (length mir.locals) mir.steps ≡ true →
    AreEntriesWithin (entries_by g mir.steps) (length mir.steps) (length mir.locals)
all_within mir g below fits k d h =
    let t = from_entries g mir.steps (get_or (entries_by g mir.steps) k d) (Contains-get_or (entries_by g mir.steps) k d h) in
    (slice_get_within mir.steps _ t.0 t.1, below t.0.instruction (fits_there mir.universals (length mir.locals) mir.steps _ t.0 fits t.1) _ t.2)

pub use_entries_within : (mir : Mir) → 1 ≤ length mir.locals → steps_fit mir.universals (length mir.locals) mir.steps ≡ true → AreEntriesWithin (use_entries mir) (length mir.steps) (length mir.locals)
use_entries_within mir some fits = all_within mir (uses_of mir) (λ here. uses_within mir here some) fits

pub definition_entries_within : (mir : Mir) → steps_fit mir.universals (length mir.locals) mir.steps ≡ true → AreEntriesWithin (definition_entries mir) (length mir.steps) (length mir.locals)
definition_entries_within mir fits = all_within mir (λ here. listed (defines_of here)) (λ here. definitions_within mir here) fits
