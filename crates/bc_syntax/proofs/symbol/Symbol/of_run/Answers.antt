use Rattle.std.proofs.Common.{◌∙◌, sym, ap, Bool}
use Rattle.std.specs.Bool.{then_some}
use Rattle.bc_syntax.specs.Bytes.{run}
use Rattle.bc_syntax.proofs.Fronts.{likely_own, none_front, one_front, spelled}
use Rattle.bc_syntax.proofs.symbol.Symbol.of_run.Goals as goal

pub runs_as_keyword-requires : goal.runs_as_keyword-requires
runs_as_keyword-requires c = (likely_own c.args.bytes.now c.in_ok-keyword.keyword (sym c.likely_keyword.ensures ∙ c.in_ok-keyword.was {u = tt})).0

pub returns-in_err-keyword-clause-value : goal.returns-in_err-keyword-clause-value
returns-in_err-keyword-clause-value c = let h = none_front c.args.bytes.now (sym c.likely_keyword.ensures ∙ c.in_err-keyword.was {u = tt}) in c.from_residual.ensures ∙ h

pub returns-clause-value : goal.returns-clause-value
returns-clause-value c =
    let h = one_front c.args.bytes.now c.in_ok-keyword.keyword (sym c.likely_keyword.ensures ∙ c.in_ok-keyword.was {u = tt}) in
    c.then_some.ensures ∙ ap (λ (b : Bool). then_some b c.in_ok-keyword.keyword) c.runs_as_keyword.ensures ∙ h

pub returns-in_err-keyword-clause-spelled : goal.returns-in_err-keyword-clause-spelled
returns-in_err-keyword-clause-spelled c = spelled (run c.args.bytes.now) c.from_residual.result (returns-in_err-keyword-clause-value c)

pub returns-clause-spelled : goal.returns-clause-spelled
returns-clause-spelled c = spelled (run c.args.bytes.now) c.then_some.result (returns-clause-value c)
