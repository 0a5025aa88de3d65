use Rattle.std.proofs.Common.{◌≡◌, ◌<◌, ◌∷◌, ◌++◌, ◌∙◌, List, length, get_or, refl, ap, sym, subst, arith, append-nil}
use Rattle.std.specs.List.{flat_map}
use Rattle.std.proofs.lemmas.Grind.{common_steps}
use Rattle.std.proofs.lemmas.List.{at_drop_all}
use Rattle.bc_names.specs.Names.{NameParts}
use Rattle.bc_prov.specs.Snapshots.{children_named, names_used}
use Rattle.bc_memo.specs.declared.place.Place.{Place}
use Rattle.bc_memo.specs.Places.{Places, ShelfRoom, part_in, units_in}
use Rattle.bc_memo.proofs.Closures.{closures_at, entry_piece, entry_room, flat_over, unit_in}
use Rattle.bc_memo.proofs.shelf.Shelf.used.Goals as goal

pub push_closures-requires-clause-room : goal.push_closures-requires-clause-room
push_closures-requires-clause-room c =
    let row : NameParts × Place = c.row-item.result in
    let i = c.loop-row.row-index in
    let part = part_in c.args.root.now c.self.inside.places.items in
    let items : c.within-row-items.result.now ≡ part = c.within-row-items.ensures ∙ ap (λ (ps : Places). part_in c.args.root.now ps) c.deref.ensures.value in
    let is : get_or part i row ≡ row = ap (λ (l : Places). get_or l i row) (sym items) ∙ sym c.row-item.is in
    rw is at (entry_room c.args.root.now c.self.inside.places.items i row c.self.invariant (rw items at c.loop-row-test.true))

pub push_closures-requires-clause-piece : goal.push_closures-requires-clause-piece
push_closures-requires-clause-piece c =
    let row : NameParts × Place = c.row-item.result in
    let i = c.loop-row.row-index in
    let s = c.args.self.now.held in
    let part = part_in c.args.root.now s.places in
    let items : c.within-row-items.result.now ≡ part =
    c.within-row-items.ensures ∙ ap (λ (ps : Places). part_in c.args.root.now ps) (c.deref.ensures.value ∙ ap (λ (r : ShelfRoom). r.held.places) c.self.view_is) in
    let is : get_or part i row ≡ row = ap (λ (l : Places). get_or l i row) (sym items) ∙ sym c.row-item.is in
    let ordered = ap (λ (r : ShelfRoom). r.held.places) c.self.view_is in
    rw is at (entry_piece c.kept-piece.result s c.args.pieces.now.rows c.args.root.now i row (rw ordered at c.self.invariant.ordered) c.requires (rw items at c.loop-row-test.true) (rw (sym is) at c.kept-piece.ensures))

pub loop-row-preserved : goal.loop-row-preserved
loop-row-preserved c = grind (arith, common_steps)

pub returns : goal.returns
returns c =
    let root = c.args.root.now in
    let ps = c.args.self.now.held.places in
    let items : c.within-row-items.result.now ≡ part_in root ps =
    c.within-row-items.ensures ∙ ap (λ (qs : Places). part_in root qs) (c.deref.ensures.value ∙ ap (λ (r : ShelfRoom). r.held.places) c.self.view_is) in
    let past = at_drop_all (flat_map closures_at) c.within-row-items.result.now c.loop-row.row-index c.loop-row-test.false in
    let all = sym (append-nil c.loop-row.names.items) ∙ ap (λ (l : List NameParts). c.loop-row.names.items ++ l) (sym past) ∙ c.loop-row.invariant in
    all ∙ ap (λ (l : List NameParts). root ∷ l) (ap (flat_map closures_at) items ∙ sym (flat_over children_named unit_in (part_in root ps)))
