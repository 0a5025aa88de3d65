use Rattle.std.proofs.Common.{◌∙◌, ap, take}
use Rattle.std.proofs.lemmas.List.Folds.{length-prefix_len}
use Rattle.bc_syntax.specs.Bytes.{is_run_byte}
use Rattle.bc_syntax.proofs.bytes.run.Goals as goal

pub returns-clause-run : goal.returns-clause-run
returns-clause-run c = ap (λ n. take n c.args.bytes.now) (c.run_len.ensures.count ∙ length-prefix_len is_run_byte c.args.bytes.now)
