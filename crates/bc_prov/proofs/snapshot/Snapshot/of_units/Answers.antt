use Rattle.std.proofs.Common.{◌≡◌, List, subst, sym, rules}
use Rattle.std.proofs.lemmas.Fn.{All-from_retain}
use Rattle.std.specs.Prelude.{Some}
use Rattle.bc_names.specs.Names.{NameParts}
use Rattle.bc_prov.specs.Pieces.{PieceView, AreOver}
use Rattle.bc_prov.specs.State.{at_name}
use Rattle.bc_prov.proofs.Lookup.{all_by_index}
use Rattle.bc_prov.proofs.Sets.{pieces_for, some_all}
use Rattle.bc_prov.proofs.snapshot.Snapshot.of_units.Goals as goal

pub returns : goal.returns
returns c =
    let types = c.args.self.now.types in
    pieces_for types _ _
    (subst (λ (l : List (NameParts × PieceView)). AreOver types l) (sym c.retain.ensures.filtered.4) (some_all (λ (p : NameParts × PieceView). p.1.types ≡ types) c.retain.ensures.filtered.0 _ c.requires))
    (all_by_index _ _ (All-from_retain _ (λ p. at_name c.args.self.now.units p.0 ≡ Some p.1.unit) _ (λ x b f' k. search rules) _ _ c.retain.ensures.filtered))
