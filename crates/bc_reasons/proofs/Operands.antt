-- The demands of the first of some operands, and then those of the others.
use Rattle.std.proofs.Common.{◌≡◌, ℕ, suc, ◌+◌, ◌-◌, ◌≤◌, List, [], ◌∷◌, ◌++◌, length, get_or, take, drop, arith}
use Rattle.std.proofs.lemmas.List.{take_all}
use Rattle.bc_syntax.specs.declared.syntax.Region.{Region}
use Rattle.bc_syntax.specs.declared.syntax.Ty.{Ty}
use Rattle.bc_syntax.specs.declared.syntax.Operand.{Operand}
use Rattle.bc_bodies.specs.Mir.{Mir}
use Rattle.bc_points.specs.Pairs.{operand_pair}
use Rattle.bc_points.proofs.Clauses.{appended-both}
use Rattle.bc_reasons.specs.declared.demand.Rule.TheVariants as rules
use Rattle.bc_reasons.specs.declared.demand.Demand.{Demand}
use Rattle.bc_reasons.specs.Demands.{demands_at, operand_demands}

pub operands-turn : (mir : Mir) (p : ℕ) (arguments : List Region) (k : ℕ) (operands : List Operand) (expected : List Ty) (operand : Operand) (ty : Ty) (old mid new : List Demand) → 1 ≤ length operands → 1 ≤ length expected
    → operand ≡ get_or operands 0 operand → ty ≡ get_or expected 0 ty → mid ≡ old ++ demands_at mir p (rules.Argument k) (operand_pair mir arguments operand ty)
    → new ≡ mid ++ operand_demands mir p arguments (k + 1) (take (length operands - 1) (drop 1 operands)) (take (length expected - 1) (drop 1 expected)) → new ≡ old ++ operand_demands mir p arguments k operands expected
operands-turn mir p arguments k [] expected operand ty old mid new some others is same one rest = absurd (omega (arith, some))
operands-turn mir p arguments k (o ∷ operands) [] operand ty old mid new some others is same one rest = absurd (omega (arith, others))
operands-turn mir p arguments k (o ∷ operands) (t ∷ expected) operand ty old mid new some others is same one rest =
    appended-both _ _ _ (demands_at mir p (rules.Argument k) (operand_pair mir arguments o t)) (operand_demands mir p arguments (k + 1) operands expected) (rw (is, same) at one)
    (rw (take_all (suc (length operands) - 1) operands (omega arith), take_all (suc (length expected) - 1) expected (omega arith)) at rest)
