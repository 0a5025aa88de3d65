-- A law of the order of names.
use Rattle.std.specs.Prelude.{◌≡◌}
use Rattle.std.specs.declared.cmp.Ordering.TheVariants.{Equal}
use Rattle.bc_names.specs.Names.{NameParts, name_order}

-- two names that compare as equal are one name
abbrev pub NamesAreToldApart : Type 0
NamesAreToldApart = (a b : NameParts) → name_order a b ≡ Equal → a ≡ b
