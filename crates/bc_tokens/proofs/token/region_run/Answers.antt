use Rattle.std.proofs.Common.{◌∙◌, ap, ◌+◌, length, sym, arith}
use Rattle.std.proofs.lemmas.List.{length-take, length-take-le, length-drop}
use Rattle.bc_syntax.specs.Words.{is_region_name}
use Rattle.bc_tokens.proofs.Runs.{region_splits, all_region_bytes}
use Rattle.bc_tokens.proofs.token.region_run.Goals as goal

pub is_region_name_of-requires : goal.is_region_name_of-requires
is_region_name_of-requires c = all_region_bytes c.args.bytes.now c.behind.result.now c.region_len-front.result c.run_len-others.result c.region_len-front.ensures.count c.behind.ensures c.run_len-others.ensures.count

pub returns-clause-run : goal.returns-clause-run
returns-clause-run c = region_splits c.args.bytes.now c.behind.result.now c.region_len-front.result c.run_len-others.result c.region_len-front.ensures.count c.behind.ensures c.run_len-others.ensures.count

pub returns-clause-name : goal.returns-clause-name
returns-clause-name c = c.is_region_name_of.ensures ∙ ap is_region_name (region_splits c.args.bytes.now c.behind.result.now c.region_len-front.result c.run_len-others.result c.region_len-front.ensures.count c.behind.ensures c.run_len-others.ensures.count)

pub returns-clause-within : goal.returns-clause-within
returns-clause-within c = omega (arith, length-take (c.region_len-front.result + c.run_len-others.result) c.args.bytes.now)

pub slice_bounds-run-end : goal.slice_bounds-run-end
slice_bounds-run-end c =
    let bytes = c.args.bytes.now in
    let rest = ap length c.behind.ensures ∙ length-drop c.region_len-front.result bytes in
    sym (length-take-le _ bytes (omega (arith, rest, c.region_len-front.ensures.within, c.run_len-others.ensures.within)))
