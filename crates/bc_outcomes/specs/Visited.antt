-- A visited body.
use Rattle.bc_syntax.specs.declared.syntax.Body.{Body}
use Rattle.bc_names.specs.Names.{NameParts}
use Rattle.bc_bodies.specs.Mir.{Mir}

-- a visited body: its name, its unit, and its MIR
pub record VisitView : Type 0 where
  pub name : NameParts
  pub unit : Body
  pub typed : Mir
