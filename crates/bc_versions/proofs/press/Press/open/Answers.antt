use Rattle.std.proofs.Common.{[], ◌∷◌, sym, subst}
use Rattle.bc_versions.specs.Tables.{TableView}
use Rattle.bc_versions.specs.Rules.{IsPublished}
use Rattle.bc_versions.proofs.Publishing.{opens}
use Rattle.bc_versions.proofs.press.Press.open.Goals as goal

pub new-requires-clause-rule : goal.new-requires-clause-rule
new-requires-clause-rule g c = subst (λ (t : TableView). IsPublished t ([] ∷ [])) (sym c.in_ok-first.ensures) opens
