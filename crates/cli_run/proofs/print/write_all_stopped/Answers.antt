use Rattle.std.proofs.Common.{arith, ◌≡◌, ◌+◌, ℕ, List, ◌++◌, take, get_or, length, sym, ap, ◌∙◌, subst}
use Rattle.std.specs.Io.KnownBytes.{Appends}
use Rattle.std.proofs.lemmas.List.{take_more, length-take-le}
use Rattle.bc_scripts.specs.declared.run.End.TheVariants.{Done}
use Rattle.cli_file.proofs.Printing.{added_then}
use Rattle.cli_run.specs.Print.{stopped_line, stopped_lines}
use Rattle.cli_run.proofs.Statuses.{one_stopped, stopped-snoc}
use Rattle.cli_run.proofs.Stopping.{at_each_error}
use Rattle.cli_run.proofs.print.write_all_stopped.Goals as goal

pub loop-end-preserved : goal.loop-end-preserved
loop-end-preserved g c =
    let ends = c.args.ends.now in
    let i = c.loop-end.end-index in
    let below = c.loop-end-test.true in
    let end = get_or ends i Done in
    let long : length (take i ends) ≡ i = length-take-le i ends (omega (arith, below)) in
    let number : c.loop-end.session ≡ 0 + length (take i ends) = omega (arith, c.loop-end.invariant.0, long) in
    let text : stopped_lines 0 (take i ends) ++ stopped_line c.loop-end.session end ≡ stopped_lines 0 (take (i + 1) ends) =
    ap (λ (n : ℕ). stopped_lines 0 (take i ends) ++ stopped_line n end) number
    ∙ sym (stopped-snoc 0 (take i ends) end)
    ∙ ap (stopped_lines 0) (sym (take_more ends i Done below)) in (
      omega (arith, c.loop-end.invariant.0),
      subst (λ (t : List ℕ). Appends (g.E.Write.contents c.args.err.now) (g.E.Write.contents c.write_stopped.new.err) t) text
          (added_then _ _ _ _ _ c.loop-end.invariant.1 c.in_ok-write_stopped.ensures.written),
    )

pub returns-in_err-write_stopped-clause-owed : goal.returns-in_err-write_stopped-clause-owed
returns-in_err-write_stopped-clause-owed g c = at_each_error _ (one_stopped c.args.ends.now c.loop-end.end-index Done c.loop-end-test.true c.in_err-write_stopped.ensures.owed)
