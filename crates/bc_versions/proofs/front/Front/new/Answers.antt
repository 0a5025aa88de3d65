use Rattle.std.proofs.Common.{sym, subst}
use Rattle.bc_calls.specs.Calls.{IsLegal}
use Rattle.bc_calls.proofs.Histories.{legal_none}
use Rattle.bc_versions.proofs.front.Front.new.Goals as goal

pub invariant_of-result : goal.invariant_of-result
invariant_of-result c = subst IsLegal (sym c.requires) legal_none
