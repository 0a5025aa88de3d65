-- What closures require of the bodies that create them.
use Rattle.std.specs.Prelude.{◌≡◌, ℕ, Bool, true, ◌||◌, ◌&&◌, ◌==◌, if◌then◌else◌, List, [], ◌∷◌}
use Rattle.std.specs.List.{AllZip, list_all, list_any}
use Rattle.bc_syntax.specs.declared.syntax.Outlives.{Outlives}
use Rattle.bc_cons.specs.declared.requirements.Requirements.{Requirements}
use Rattle.bc_bodies.specs.declared.children.Child.{Child}
use Rattle.bc_bodies.specs.Externals.{external_regions}

-- the region is `'static` or one of these
abbrev pub is_static_or : List ℕ → ℕ → Bool
is_static_or externals number = number == 0 || list_any (λ external. external == number) externals

-- a pair of a closure that its creator can be asked to meet: between these regions and `'static` alone
abbrev pub may_go_up : List ℕ → Outlives → Bool
may_go_up externals pair = is_static_or externals pair.longer && is_static_or externals pair.shorter

-- a creator can be asked to meet all that a closure with these external regions requires
abbrev pub MayGoUp : List ℕ → Requirements → Type 0
MayGoUp externals requirements = list_all (may_go_up externals) requirements.pairs ≡ true

-- the entry has the child's number, and pairs between the child's external regions and `'static` alone
pub record IsOfChild (child : Child) (kid : ℕ × Requirements) : Type 0 where
  pub number : kid.0 ≡ child.number
  pub may_go_up : MayGoUp (external_regions child.header) kid.1

-- one entry for each child, in the order of the children, with what the child requires
abbrev pub AreOfChildren : List Child → List (ℕ × Requirements) → Type 0
AreOfChildren children kids = AllZip IsOfChild children kids

-- what the child of a number requires
abbrev pub required_by : List (ℕ × Requirements) → ℕ → List Outlives
required_by [] number = []
required_by (kid ∷ kids) number = if kid.0 == number then kid.1.pairs else required_by kids number
