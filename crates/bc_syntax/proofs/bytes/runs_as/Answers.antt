use Rattle.std.proofs.Common.{◌∙◌, ap, length, slice_index}
use Rattle.std.specs.Prelude.{◌&&◌, not}
use Rattle.bc_syntax.specs.Bytes.{is_run_byte}
use Rattle.bc_syntax.proofs.Fronts.{runs_as}
use Rattle.bc_syntax.proofs.bytes.runs_as.Goals as goal

pub returns-then-begins_with : goal.returns-then-begins_with
returns-then-begins_with c =
    let bytes = c.args.bytes.now in
    let word = c.args.word.now in
    ap not (c.is_run_byte.ensures ∙ ap is_run_byte c.byte_at.ensures)
    ∙ ap (λ t. t && not (is_run_byte (slice_index bytes (length word)))) (c.if-begins_with.ensures {u = tt})
    ∙ runs_as word bytes c.requires

pub returns-else-begins_with : goal.returns-else-begins_with
returns-else-begins_with c =
    let bytes = c.args.bytes.now in
    let word = c.args.word.now in
    c.if-begins_with.false
    ∙ ap (λ t. t && not (is_run_byte (slice_index bytes (length word)))) (c.if-begins_with.ensures {u = tt})
    ∙ runs_as word bytes c.requires
