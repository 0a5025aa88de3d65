use Rattle.std.proofs.Common.{◌≡◌, ap, sym, ◌∙◌}
use Rattle.bc_names.specs.Names.{NameParts}
use Rattle.bc_prov.specs.Pieces.{PieceView, PieceSetView, AreOver}
use Rattle.bc_prov.proofs.Sets.{all_append}
use Rattle.bc_prov.proofs.pieces.PieceSet.append.Goals as goal

pub invariant_of-self-2 : goal.invariant_of-self-2
invariant_of-self-2 c =
    let types : c.args.other.types ≡ c.self.inside.types = c.requires ∙ ap (λ (s : PieceSetView). s.types) (sym c.self.view_is) in
    let over : AreOver c.self.inside.types c.into_rows-rows.result.items = rw (c.into_rows-rows.ensures.rows, ← types) c.into_rows-rows.ensures.over in
    rw c.in_ok-append.ensures.items (all_append (λ (p : NameParts × PieceView). p.1.types ≡ c.self.inside.types) _ _ c.self.invariant over)
