-- How places of misfits are printed.
use Rattle.std.specs.Prelude.{ℕ, List, codes}
use Rattle.bc_bodies.specs.Lines.{point_text}
use Rattle.bc_mir.specs.declared.typed.Where.{Where}
use Rattle.bc_mir.specs.declared.typed.Where.TheVariants.{Header, At}

-- the text of the place of a misfit: `header`, or the text of a point
abbrev pub place_text : Where → List ℕ
place_text Header = codes "header"
place_text (At point) = point_text point
