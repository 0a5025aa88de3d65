use Rattle.std.proofs.Common.{◌≡◌, ◌<◌, List, length, get_or, sym, ap, ◌∙◌, subst, rules, Equal}
use Rattle.std.specs.Option.{option_copied}
use Rattle.std.proofs.lemmas.Fn.{always_returns_same}
use Rattle.std.proofs.lemmas.List.{get_or_default}
use Rattle.bc_names.specs.Names.{NameParts, name_order}
use Rattle.bc_names.proofs.Equality.{exact_names}
use Rattle.bc_prov.specs.Pieces.{PieceView}
use Rattle.bc_prov.specs.Snapshots.{PieceList, IsAmongPieces}
use Rattle.bc_prov.proofs.snapshot.piece_of_name.Goals as goal

pub returns-in-Ok : goal.returns-in-Ok
returns-in-Ok c =
    let x : NameParts × PieceView = c.index.result.now in
    let rows : List (NameParts × PieceView) = c.in_ok-pieces.pieces.now.items in
    let within : c.in-Ok.at < length rows = subst (λ (l : List (NameParts × PieceView)). c.in-Ok.at < length l) c.deref.ensures.value c.in-Ok.ensures.bound in
    let is = c.in-Ok.ensures.position (λ u. name_order u.0 c.args.name.now) (always_returns_same _ _ _ (λ a r f' k. search rules)) x in
    let here : get_or c.deref.result.now c.in-Ok.at x ≡ x = ap (λ (l : List (NameParts × PieceView)). get_or l c.in-Ok.at x) c.deref.ensures.value ∙ sym c.index.ensures in
    let named : x.0 ≡ c.args.name.now = exact_names x.0 c.args.name.now (subst (λ (u : NameParts × PieceView). name_order u.0 c.args.name.now ≡ Equal) here is) in
    let pair : x ≡ (c.args.name.now, x.1) = λ i. (named i, x.1) in
    subst (λ (o : PieceList). IsAmongPieces o c.args.name.now x.1) (ap option_copied (sym c.in_ok-pieces.was) ∙ c.as_ref.ensures.value)
    (c.in-Ok.at, within, get_or_default rows c.in-Ok.at (c.args.name.now, x.1) x within ∙ sym c.index.ensures ∙ pair)
