use Rattle.std.proofs.Common.{◌≡◌, ◌-◌, [], length, false}
use Rattle.bc_tokens.specs.Parser.{separated_from}
use Rattle.bc_text.specs.Reading.{ty, begins_ty}
use Rattle.bc_text.proofs.types.some_tys.Given as goal

abbrev pub invariant-loop-turn : goal.invariant-loop-turn
invariant-loop-turn l = (separated_from begins_ty (ty false l.regions) 16 [] l.initial.cursor ≡ separated_from begins_ty (ty false l.regions) (16 - l._turn) l.found l.cursor) × (length l.found ≡ l._turn)
