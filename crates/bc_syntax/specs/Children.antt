-- The closures of a body, by their numbers.
use Rattle.std.specs.Prelude.{ℕ, Bool, false, ◌||◌, ◌==◌, ◌≡◌, ◌<◌, List, [], ◌∷◌, ◌++◌, get_or}
use Rattle.std.specs.List.{flat_map, list_any, filter, range_with_len}
use Rattle.bc_syntax.specs.declared.syntax.Base.{Base}
use Rattle.bc_syntax.specs.declared.syntax.Base.TheVariants as bases
use Rattle.bc_syntax.specs.declared.syntax.Ty.{Ty}
use Rattle.bc_syntax.specs.declared.syntax.Rvalue.{Rvalue}
use Rattle.bc_syntax.specs.declared.syntax.Rvalue.TheVariants as rvalues
use Rattle.bc_syntax.specs.declared.syntax.Statement.{Statement}
use Rattle.bc_syntax.specs.declared.syntax.Statement.TheVariants as statements
use Rattle.bc_syntax.specs.declared.syntax.Block.{Block}
use Rattle.bc_syntax.specs.declared.syntax.Body.{Body}

-- the number of the closure that a base is, if it is one
abbrev pub closures_of_base : Base → List ℕ
closures_of_base bases.Int = []
closures_of_base (bases.Struct instance) = []
closures_of_base (bases.Closure closure) = closure.number ∷ []

-- the numbers of the closures that are bases of these types
abbrev pub closures_of_types : List Ty → List ℕ
closures_of_types types = flat_map (λ (ty : Ty). closures_of_base ty.base) types

-- the number of the closure that an rvalue creates, if it creates one
abbrev pub closures_of_rvalue : Rvalue → List ℕ
closures_of_rvalue (rvalues.Use operand) = []
closures_of_rvalue (rvalues.Borrow borrow) = []
closures_of_rvalue (rvalues.Aggregate aggregate) = []
closures_of_rvalue (rvalues.Closure creation) = creation.closure.number ∷ []
closures_of_rvalue (rvalues.Calc operands) = []

-- the number of the closure that a statement creates, if it creates one
abbrev pub closures_of_statement : Statement → List ℕ
closures_of_statement (statements.Assign assignment) = closures_of_rvalue assignment.value
closures_of_statement (statements.Dead local) = []
closures_of_statement (statements.Drop place) = []
closures_of_statement statements.Nop = []

-- the numbers of the closures that statements create
abbrev pub closures_of_statements : List Statement → List ℕ
closures_of_statements list = flat_map closures_of_statement list

-- the numbers of the closures that blocks create
abbrev pub closures_of_blocks : List Block → List ℕ
closures_of_blocks blocks = flat_map (λ (block : Block). closures_of_statements block.statements) blocks

-- the numbers in the closure types and the closure creations of a body
abbrev pub closures_of : Body → List ℕ
closures_of body = closures_of_types body.lets ++ closures_of_blocks body.blocks

-- the number is among these
abbrev pub is_among : List ℕ → ℕ → Bool
is_among numbers number = list_any (λ other. other == number) numbers

-- the children of a body: the numbers from 0 to 63 among those of its closures, each once, ascending
unfoldable pub children_of : Body → List ℕ
children_of body = filter (is_among (closures_of body)) (range_with_len 0 64)

-- of the numbers below 64, exactly those are marked that were marked before or are among these
abbrev pub AreMarked : List Bool → List ℕ → List Bool → Type 0
AreMarked old numbers new = (number : ℕ) → number < 64 → get_or new number false ≡ (get_or old number false || is_among numbers number)
