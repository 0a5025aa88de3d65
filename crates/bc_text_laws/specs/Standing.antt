-- Where the grammar allows closure types: as the whole types of `let` locals alone.
use Rattle.std.specs.Prelude.{List, [], ◌∷◌}
use Rattle.std.specs.List.{All}
use Rattle.bc_syntax.specs.declared.syntax.Reference.{Reference}
use Rattle.bc_syntax.specs.declared.syntax.Base.{Base}
use Rattle.bc_syntax.specs.declared.syntax.Base.TheVariants as bases
use Rattle.bc_syntax.specs.declared.syntax.Ty.{Ty}
use Rattle.bc_syntax.specs.declared.syntax.Signature.{Signature}
use Rattle.bc_syntax.specs.declared.syntax.Header.{Header}
use Rattle.bc_syntax.specs.declared.syntax.Body.{Body}
use Rattle.bc_syntax.specs.declared.syntax.Declaration.{Declaration}
use Rattle.bc_syntax.specs.declared.syntax.Declaration.TheVariants as declarations

-- the base is no closure
abbrev pub IsNoClosure : Base → Type 0
IsNoClosure bases.Int = Unit {0}
IsNoClosure (bases.Struct instance) = Unit {0}
IsNoClosure (bases.Closure closure) = ⊥

-- the type has no closure
abbrev pub IsPlain : Ty → Type 0
IsPlain ty = IsNoClosure ty.base

-- no reference points to a closure
abbrev pub StandsBehind : List Reference → Base → Type 0
StandsBehind [] base = Unit {0}
StandsBehind (reference ∷ references) base = IsNoClosure base

-- the type is a closure, or has none
abbrev pub IsLet : Ty → Type 0
IsLet ty = StandsBehind ty.references ty.base

-- the parameters and the result have no closures
abbrev pub SignatureStands : Signature → Type 0
SignatureStands signature = All IsPlain signature.parameters × IsPlain signature.result

-- the captures, the parameters and the result have no closures
abbrev pub HeaderStands : Header → Type 0
HeaderStands header = All IsPlain header.captures × SignatureStands header.signature

-- closure types are only the whole types of `let` locals
abbrev pub ClosuresStand : Body → Type 0
ClosuresStand body = HeaderStands body.header × All IsLet body.lets

-- the declaration has no closures
abbrev pub NoClosures : Declaration → Type 0
NoClosures (declarations.Struct d) = All IsPlain d.fields
NoClosures (declarations.Extern d) = SignatureStands d.signature
