-- The errors of a body, as a list in order, and what an error is.
use Rattle.std.specs.Prelude.{◌≡◌, ℕ, ◌<◌, ◌⊎◌, Bool, true, false, List, ◌++◌, map, Some, slice_get}
use Rattle.std.specs.Option.{option_map_or}
use Rattle.bc_syntax.specs.declared.syntax.Mutability.TheVariants.{Mutable}
use Rattle.bc_syntax.specs.declared.syntax.Outlives.{Outlives}
use Rattle.bc_syntax.specs.declared.syntax.Region.{Region}
use Rattle.bc_cons.specs.declared.requirements.Requirements.{Requirements}
use Rattle.bc_points.specs.declared.access.Access.{Access}
use Rattle.bc_points.specs.declared.access.AccessKind.TheVariants.{Write}
use Rattle.bc_bodies.specs.declared.mir.Point.{Point}
use Rattle.bc_bodies.specs.declared.mir.Step.{Step}
use Rattle.bc_points.specs.declared.loan.Loan.{Loan}
use Rattle.bc_bodies.specs.Mir.{Mir}
use Rattle.bc_points.specs.Accesses.{accesses_of}
use Rattle.bc_points.specs.Regions.{region_number}
use Rattle.bc_loans.specs.Loans.{loans_of}
use Rattle.bc_judge.specs.declared.error.BorrowError.{BorrowError}
use Rattle.bc_judge.specs.declared.error.BorrowError.TheVariants as variants
use Rattle.bc_judge.specs.declared.conflicts.Conflict.{Conflict}
use Rattle.bc_judge.specs.Conflicts.{ScopeTest, is_relevant_at, conflicts_of}
use Rattle.bc_judge.specs.Lifetimes.{IsKnown, TellsKnown, ValueTest, end_of, is_required, lifetimes_of, requirements_of}

-- the point of a number, by its block and its index there
abbrev pub point_of : List Step → ℕ → Point
point_of steps p = option_map_or (λ (step : Step). step.point) (slice_get steps p) (record { block = 0; index = 0 })

-- the regions that explain why an element is in the value of a region, by the region's number and the element's
abbrev pub ChainTo : Type 0
ChainTo = ℕ → ℕ → List Region

-- the error of a conflict, with the chain from the loan's region to the point
abbrev pub conflict_error : Mir → ChainTo → Conflict → BorrowError
conflict_error mir chain conflict =
    variants.Conflict (point_of mir.steps conflict.point) conflict.access (point_of mir.steps conflict.maker)
    (chain (region_number mir.universals conflict.region) conflict.point)

-- the error of a failure, with the chain from the longer region to the end of the shorter
abbrev pub lifetime_error : Mir → ChainTo → Outlives → BorrowError
lifetime_error mir chain failure =
    variants.Lifetime failure.longer failure.shorter (chain failure.longer (end_of mir failure.shorter))

-- the chain of an error
abbrev pub chain_of : BorrowError → List Region
chain_of (variants.Conflict at access loan chain) = chain
chain_of (variants.Lifetime longer shorter chain) = chain

-- the errors in order: the conflicts by point, access and loan, and then the lifetime errors by longer and shorter region
abbrev pub errors_of : Mir → ScopeTest → ValueTest → (ℕ → ℕ → Bool) → ChainTo → List BorrowError
errors_of mir in_scope value known chain =
    map (conflict_error mir chain) (conflicts_of mir in_scope) ++ map (lifetime_error mir chain) (lifetimes_of mir value known)

-- These are the errors of the body, in order. Each has the regions that explain why its element is in the value of its region; `Explains`
-- says which regions explain that.
pub record AreErrors (mir : Mir) (Explains : ℕ → ℕ → List Region → Type 0) (in_scope : ScopeTest) (value : ValueTest) (errors : List BorrowError) : Type 0 where
  pub known : ℕ → ℕ → Bool
  pub decides : TellsKnown mir known
  pub chain : ChainTo
  pub explains : (region element : ℕ) → value region element ≡ true → Explains region element (chain region element)
  pub listed : errors ≡ errors_of mir in_scope value known chain

-- these are the requirements of the body, in order
pub record AreRequirements (mir : Mir) (value : ValueTest) (requirements : Requirements) : Type 0 where
  pub known : ℕ → ℕ → Bool
  pub decides : TellsKnown mir known
  pub listed : requirements.pairs ≡ requirements_of mir value known

-- A conflict: a point, one of its accesses, and a loan in scope on entry to it, with the point that makes the loan. The access is relevant
-- to the loan, the access writes or the loan is mutable, and the chain explains why the point is in the value of the loan's region.
pub record IsConflict (mir : Mir) (Explains : ℕ → ℕ → List Region → Type 0) (in_scope : ScopeTest) (at : Point) (number : ℕ) (loan_at : Point) (chain : List Region) : Type 0 where
  pub point : ℕ
  pub step : Step
  pub is_step : slice_get mir.steps point ≡ Some step
  pub at_point : step.point ≡ at
  pub access : Access
  pub is_access : slice_get (accesses_of mir step.instruction) number ≡ Some access
  pub loan_number : ℕ
  pub maker : ℕ
  pub loan : Loan
  pub is_loan : slice_get (loans_of mir) loan_number ≡ Some (maker, loan)
  pub maker_step : Step
  pub is_maker : slice_get mir.steps maker ≡ Some maker_step
  pub at_maker : maker_step.point ≡ loan_at
  pub in_scope_here : in_scope point loan_number ≡ true
  pub one_writes : (access.kind ≡ Write) ⊎ (loan.mutability ≡ Mutable)
  pub relevant : is_relevant_at mir access.depth access.place loan.path ≡ true
  pub explained : Explains (region_number mir.universals loan.region) point chain

-- a failure: two universal regions, such that the end of the second is in the value of the first, and the first is not known to outlive the
-- second
pub record IsFailure (mir : Mir) (value : ValueTest) (longer shorter : ℕ) : Type 0 where
  pub longer_declared : longer < mir.universals
  pub shorter_declared : shorter < mir.universals
  pub has_end : value longer (end_of mir shorter) ≡ true
  pub unknown : ¬ (IsKnown mir longer shorter)

-- a requirement of a closure: a failure between its external regions and `'static` alone
pub record IsRequirement (mir : Mir) (value : ValueTest) (failure : Outlives) : Type 0 where
  pub fails : IsFailure mir value failure.longer failure.shorter
  pub is_required : is_required mir failure ≡ true

-- a lifetime error: any other failure, with the chain that explains why the end of the shorter region is in the value of the longer
pub record IsLifetimeError (mir : Mir) (Explains : ℕ → ℕ → List Region → Type 0) (value : ValueTest) (failure : Outlives) (chain : List Region) : Type 0 where
  pub fails : IsFailure mir value failure.longer failure.shorter
  pub not_required : is_required mir failure ≡ false
  pub explained : Explains failure.longer (end_of mir failure.shorter) chain

-- an error of a body is a conflict, or a failure that is no requirement
abbrev pub IsError : Mir → (ℕ → ℕ → List Region → Type 0) → ScopeTest → ValueTest → BorrowError → Type 0
IsError mir Explains in_scope value (variants.Conflict at access loan chain) = IsConflict mir Explains in_scope at access loan chain
IsError mir Explains in_scope value (variants.Lifetime longer shorter chain) =
    IsLifetimeError mir Explains value (record { longer = longer; shorter = shorter }) chain
