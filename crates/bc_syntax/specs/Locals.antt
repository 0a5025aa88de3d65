-- The locals of a body, in their order.
use Rattle.std.specs.Prelude.{ℕ, List, ◌∷◌, ◌++◌, length}
use Rattle.bc_syntax.specs.declared.syntax.Ty.{Ty}
use Rattle.bc_syntax.specs.declared.syntax.Header.{Header}
use Rattle.bc_syntax.specs.declared.syntax.Body.{Body}

-- the types of the locals that a header declares: the result, then the captures, then the parameters
abbrev pub declared_locals : Header → List Ty
declared_locals header = header.signature.result ∷ (header.captures ++ header.signature.parameters)

-- the number of the first `let` local
abbrev pub first_let : Header → ℕ
first_let header = length (declared_locals header)

-- the types of all locals: those that the header declares, then the `let` locals (rustc-dev-guide, "The MIR")
abbrev pub locals_of : Body → List Ty
locals_of body = declared_locals body.header ++ body.lets
