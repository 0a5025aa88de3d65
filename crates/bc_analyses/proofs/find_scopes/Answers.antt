use Rattle.bc_flow.specs.Flow.{holds}
use Rattle.bc_loans.specs.Scope.{IsInScope}
use Rattle.bc_solve.proofs.Telling.{told}
use Rattle.bc_analyses.proofs.find_scopes.Goals as goal

pub returns : goal.returns
returns c =
    told (holds c.in_ok-scopes.scopes) (λ point loan. IsInScope c.args.typed.now (holds c.args.values.now) loan point) (λ point loan. c.in_ok-scopes.ensures.scopes loan point)
