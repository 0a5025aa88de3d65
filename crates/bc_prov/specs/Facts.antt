-- What the providers may return: liveness, region values and loans in scope.
use Rattle.std.specs.Prelude.{Bool, List, Result}
use Rattle.std.specs.Result.{ForOk}
use Rattle.std.proofs.Common.{Bor}
use Rattle.std.specs.declared.alloc.AllocError.{AllocError}
use Rattle.std.specs.declared.alloc.Global.{Global}
use Rattle.bc_flow.specs.Flow.{holds}
use Rattle.bc_bodies.specs.Mir.{Mir}
use Rattle.bc_cons.specs.Facts.{RegionFacts}
use Rattle.bc_live.specs.Live.{IsLive}
use Rattle.bc_solve.specs.Values.{Tells, AreValues}
use Rattle.bc_loans.specs.Scope.{AreScopes}

-- the sets have, for each local, exactly the points on entry to which it is live
abbrev pub AreLive : Mir → List (List Bool) → Type 0
AreLive mir sets = Tells (holds sets) (IsLive mir)

-- the closure returns the liveness of a body, or `AllocError`; `post` says what it may return
abbrev pub AnswersLiveness : (Global → Bor Mir → Result (List (List Bool)) AllocError → Type 0) → Type 0
AnswersLiveness post = (alloc : Global) (typed : Bor Mir) (sets : Result (List (List Bool)) AllocError) → post alloc typed sets → ForOk sets (AreLive typed.now)

-- the closure returns the values of regions, given their facts, or `AllocError`; `post` says what it may return
abbrev pub AnswersValues : (Global → Bor RegionFacts → Result (List (List Bool)) AllocError → Type 0) → Type 0
AnswersValues post =
    (alloc : Global) (facts : Bor RegionFacts) (values : Result (List (List Bool)) AllocError) → post alloc facts values → ForOk values (AreValues facts.now)

-- the closure returns the loans in scope of a body, given the values of its regions, or `AllocError`; `post` says what it may return
abbrev pub AnswersScopes : (Global → Bor Mir → Bor (List (List Bool)) → Result (List (List Bool)) AllocError → Type 0) → Type 0
AnswersScopes post =
    (alloc : Global) (typed : Bor Mir) (values : Bor (List (List Bool))) (scopes : Result (List (List Bool)) AllocError) → post alloc typed values scopes
    → ForOk scopes (AreScopes typed.now values.now)
