use Rattle.std.proofs.Common.{◌<◌, length, get_or, ap, sym, ◌∙◌, subst, arith}
use Rattle.std.proofs.lemmas.List.{length-map, get_or-map}
use Rattle.bc_scripts.specs.declared.run.End.{End}
use Rattle.bc_share.specs.Sessions.{SessionView}
use Rattle.bc_scripts.specs.Runs.{IsRun}
use Rattle.bc_scripts.proofs.run.run_all.Goals as goal

pub returns : goal.returns
returns g c =
    let xs = c.args.ran.now in
    let long = length-map {B = SessionView} xs (λ (s : SessionView × End). s.0) in record {
      sized = c.for_each_mut.auto.s ∙ sym long;
      each = λ k s script r small. (
          let within : k < length xs = omega (arith, long, small) in
          let at = c.for_each_mut.ensures k r within in
          let is = get_or-map (λ (x : SessionView × End). x.0) xs k r s within ∙ ap (λ (x : SessionView × End). x.0) (sym at.1.argument_is) in
          subst (λ (x : SessionView × (SessionView × End)). IsRun x.0 x.1.0 (get_or c.args.scripts.now k script) x.1.1) (λ i. (sym is i, at.1.left i)) (at.1.call script));
    }
