use Rattle.std.proofs.Common.{◌∙◌}
use Rattle.bc_bodies.proofs.mir.Draft.of.Goals as goal

pub returns : goal.returns
returns c =
    let points = c.in_ok-points.ensures in
    let declared = c.in_ok-declared.ensures in
    c.into_draft.ensures
    ∙ rw (c.in_ok-children.ensures, declared.kind, declared.universals, declared.externals, declared.clauses, declared.locals, declared.first_let, points.steps, points.entries, c.as_slice.ensures)
