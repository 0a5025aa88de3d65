use Rattle.std.proofs.Common.{◌∙◌, sym, subst}
use Rattle.bc_prov.specs.Snapshots.{SnapshotView}
use Rattle.bc_calls.specs.Calls.{after}
use Rattle.bc_calls.specs.Beginnings.{IsBegun}
use Rattle.bc_calls.proofs.Parts.{copied_part, same_part_of}
use Rattle.bc_versions.proofs.Tables.{carried_answer, carried_is, read_pieces}
use Rattle.bc_versions.proofs.roots.begin_root.Goals as goal

pub carrying-requires : goal.carrying-requires
carrying-requires c =
    let s = c.args.held.now.held in
    let of = c.in_ok-part.ensures.snapshot in
    carried_answer s c.requires.history.0 c.args.root.now c.in_ok-part.part.snapshot c.in_ok-answer.answer c.requires.history.1 of.0 of.1 of.2 c.in_ok-answer.ensures

pub keep_pieces-requires : goal.keep_pieces-requires
keep_pieces-requires c =
    let read = c.in_ok-part.ensures.snapshot in
    let made = c.carrying.ensures.part in
    read_pieces c.args.held.now.held c.args.pieces.now.rows c.args.root.now c.carrying.result.types c.carrying.result.units c.in_ok-kept.kept.items
    c.requires.pieces (made.0 ∙ read.0) (made.2 ∙ read.2) c.in_ok-kept.ensures.pieces

pub returns : goal.returns
returns c = λ h of.
    let s = c.args.held.now.held in
    let n = c.args.root.now in
    let v = c.in_ok-part.part.snapshot in
    let read = c.in_ok-part.ensures.snapshot in
    let made = c.carrying.ensures.part in
    let begun : IsBegun h n c.carrying.result = record {
      part = same_part_of v c.carrying.result n (after h) made.0 made.1 made.2 (copied_part s h n v of read.0 read.1 read.2);
      answer = carried_is s h n c.in_ok-answer.answer v.carried c.carrying.result.carried of c.in_ok-answer.ensures c.in_ok-part.ensures.bare c.carrying.ensures.carried;
    } in
    subst (λ (b : SnapshotView). IsBegun h n b) (sym c.keep_pieces.ensures) begun
