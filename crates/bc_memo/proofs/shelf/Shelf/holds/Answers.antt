use Rattle.std.proofs.Common.{◌≡◌, true≢false, sym, ◌∙◌, ap}
use Rattle.std.specs.Prelude.{map}
use Rattle.std.proofs.lemmas.Bool.Decides.{Decides-eqb}
use Rattle.bc_names.specs.Names.{NameParts}
use Rattle.bc_prov.proofs.Equality.{declared}
use Rattle.bc_memo.specs.declared.place.Place.{Place}
use Rattle.bc_memo.specs.Places.{Places, ShelfRoom, part_in}
use Rattle.bc_memo.proofs.Parts.{held_by}
use Rattle.bc_memo.proofs.shelf.Shelf.holds.Goals as goal
use Rattle.bc_memo.proofs.shelf.Shelf.holds.Goals.{then-types_revision-self, else-types_revision-self, then-are_revisions, else-are_revisions}

pub returns-then-eq : goal.returns-then-eq
returns-then-eq c =
    let v = c.args.snapshot.now in
    let s = c.args.self.now.held in
    let part : c.within-part.result.now ≡ part_in v.root s.places =
    c.within-part.ensures
    ∙ ap (λ (n : NameParts). part_in n c.deref.result.now) c.root.ensures
    ∙ ap (λ (ps : Places). part_in v.root ps) (c.deref.ensures.value ∙ ap (λ (r : ShelfRoom). r.held.places) c.self.view_is) in
    elim c.if-are_revisions.branch [
      | then-are_revisions w ↦ elim c.if-types_revision-self.branch [
        | then-types_revision-self u ↦ (
          λ t. held_by s v c.within-part.result.now c.args.types_revision c.args.revisions.now part
              (u.if-types_revision-self.true ∙ ap (λ (r : ShelfRoom). r.held.types_revision) c.self.view_is)
              (u.are_revisions.ensures.0 (sym u.value-is ∙ w.if-are_revisions.true))
              (sym w.types.ensures ∙ (declared w.types.result.now c.self.inside.types).0 (sym w.eq.ensures ∙ sym w.value-is ∙ c.if-eq.true) ∙ ap (λ (r : ShelfRoom). r.held.types) c.self.view_is)
              (sym c.units.ensures.units ∙ c.are_units.ensures.0 t),
          λ h. c.are_units.ensures.1 (c.units.ensures.units ∙ h.units ∙ ap (map (λ (p : NameParts × Place). (p.0, p.1.unit))) (sym part)),
        )
        | else-types_revision-self u ↦ absurd (u.if-types_revision-self.false ((Decides-eqb c.args.types_revision c.self.inside.types_revision).0 (sym u.value-is ∙ w.if-are_revisions.true)))
      ]
      | else-are_revisions w ↦ absurd (true≢false (sym c.if-eq.true ∙ w.value-is ∙ w.if-are_revisions.false))
    ]

pub returns-else-eq : goal.returns-else-eq
returns-else-eq c =
    let v = c.args.snapshot.now in
    let s = c.args.self.now.held in
    let part : c.within-part.result.now ≡ part_in v.root s.places =
    c.within-part.ensures
    ∙ ap (λ (n : NameParts). part_in n c.deref.result.now) c.root.ensures
    ∙ ap (λ (ps : Places). part_in v.root ps) (c.deref.ensures.value ∙ ap (λ (r : ShelfRoom). r.held.places) c.self.view_is) in (
      λ t. absurd (true≢false (sym t ∙ c.if-eq.false)),
      λ h. elim c.if-are_revisions.branch [
        | then-are_revisions w ↦ w.value-is ∙ w.eq.ensures ∙ (declared w.types.result.now c.self.inside.types).1 (w.types.ensures ∙ h.types ∙ sym (ap (λ (r : ShelfRoom). r.held.types) c.self.view_is))
        | else-are_revisions w ↦ elim c.if-types_revision-self.branch [
          | then-types_revision-self u ↦
              absurd (true≢false (sym (u.are_revisions.ensures.1 (h.revisions ∙ ap (map (λ (p : NameParts × Place). p.1.revision)) (sym part))) ∙ sym u.value-is ∙ w.if-are_revisions.false))
          | else-types_revision-self u ↦ absurd (u.if-types_revision-self.false (h.types_revision ∙ sym (ap (λ (r : ShelfRoom). r.held.types_revision) c.self.view_is)))
        ]
      ],
    )
