-- Lists that are appended in turn.
use Rattle.std.proofs.Common.{◌≡◌, suc, ◌-◌, ◌≤◌, List, [], ◌∷◌, ◌++◌, length, get_or, take, drop, ap, ◌∙◌, append_assoc, arith}
use Rattle.std.proofs.lemmas.List.{take_all}
use Rattle.bc_syntax.specs.declared.syntax.Region.{Region}
use Rattle.bc_syntax.specs.declared.syntax.Ty.{Ty}
use Rattle.bc_syntax.specs.declared.syntax.Operand.{Operand}
use Rattle.bc_types.specs.declared.subtype.Constraint.{Constraint}
use Rattle.bc_bodies.specs.Mir.{Mir}
use Rattle.bc_points.specs.Pairs.{operand_pair, operand_pairs}

-- two lists that are appended in turn
pub appended-both : {A : Type 0} (old mid new one two : List A) → mid ≡ old ++ one → new ≡ mid ++ two → new ≡ old ++ (one ++ two)
appended-both old mid new one two first second = second ∙ ap (λ l. l ++ two) first ∙ append_assoc old one two

-- the pairs of the first operand, and then those of the others
pub operand-pairs : (mir : Mir) (arguments : List Region) (operands : List Operand) (expected : List Ty) (operand : Operand) (ty : Ty) (old mid new : List Constraint) → 1 ≤ length operands → 1 ≤ length expected
    → operand ≡ get_or operands 0 operand → ty ≡ get_or expected 0 ty → mid ≡ old ++ operand_pair mir arguments operand ty
    → new ≡ mid ++ operand_pairs mir arguments (take (length operands - 1) (drop 1 operands)) (take (length expected - 1) (drop 1 expected)) → new ≡ old ++ operand_pairs mir arguments operands expected
operand-pairs mir arguments [] expected operand ty old mid new some others is same one rest = absurd (omega (arith, some))
operand-pairs mir arguments (o ∷ operands) [] operand ty old mid new some others is same one rest = absurd (omega (arith, others))
operand-pairs mir arguments (o ∷ operands) (t ∷ expected) operand ty old mid new some others is same one rest =
    appended-both _ _ _ (operand_pair mir arguments o t) (operand_pairs mir arguments operands expected) (rw (is, same) at one)
    (rw (take_all (suc (length operands) - 1) operands (omega arith), take_all (suc (length expected) - 1) expected (omega arith)) at rest)
