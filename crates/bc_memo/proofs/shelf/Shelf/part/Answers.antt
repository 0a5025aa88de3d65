use Rattle.std.proofs.Common.{List, ◌∙◌, ap, sym, subst}
use Rattle.std.specs.Prelude.{map}
use Rattle.bc_syntax.specs.declared.syntax.Body.{Body}
use Rattle.bc_names.specs.Names.{NameParts}
use Rattle.bc_prov.specs.Snapshots.{SnapshotView, IsSnapshot}
use Rattle.bc_memo.specs.declared.place.Place.{Place}
use Rattle.bc_memo.specs.Places.{Places, ShelfRoom, revisions_in, units_in}
use Rattle.bc_memo.proofs.Parts.{part_snapshot}
use Rattle.bc_memo.proofs.shelf.Shelf.part.Goals as goal

pub of-snapshot-requires : goal.of-snapshot-requires
of-snapshot-requires c =
    let is = c.in_ok-units.ensures.units ∙ ap (map (λ (p : NameParts × Place). (p.0, p.1.unit))) c.within.ensures ∙ ap (λ (ps : Places). units_in c.args.root.now ps) c.deref.ensures.value in
    subst (λ (us : List (NameParts × Body)). IsSnapshot c.args.root.now us) (sym is) (part_snapshot c.args.root.now c.self.inside.places.items c.self.invariant)

pub returns-clause-snapshot : goal.returns-clause-snapshot
returns-clause-snapshot c =
    let is = c.in_ok-units.ensures.units ∙ ap (map (λ (p : NameParts × Place). (p.0, p.1.unit))) c.within.ensures ∙ ap (λ (ps : Places). units_in c.args.root.now ps) c.deref.ensures.value in (
      ap (λ (v : SnapshotView). v.types) c.of-snapshot.ensures ∙ c.in_ok-types.ensures.cases ∙ ap (λ (s : ShelfRoom). s.held.types) c.self.view_is,
      ap (λ (v : SnapshotView). v.root) c.of-snapshot.ensures,
      ap (λ (v : SnapshotView). v.units) c.of-snapshot.ensures ∙ is ∙ ap (λ (s : ShelfRoom). units_in c.args.root.now s.held.places) c.self.view_is,
    )

pub returns-clause-revisions : goal.returns-clause-revisions
returns-clause-revisions c = (
  ap (λ (s : ShelfRoom). s.held.types_revision) c.self.view_is,
  c.in_ok-units.ensures.revisions
      ∙ ap (map (λ (p : NameParts × Place). p.1.revision)) c.within.ensures
      ∙ ap (λ (ps : Places). revisions_in c.args.root.now ps) c.deref.ensures.value
      ∙ ap (λ (s : ShelfRoom). revisions_in c.args.root.now s.held.places) c.self.view_is,
)
