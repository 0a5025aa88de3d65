use Rattle.std.proofs.Common.{◌++◌, take, refl, sym, ap, ◌∙◌}
use Rattle.std.specs.Prelude.{codes}
use Rattle.std.specs.List.{flat_map}
use Rattle.std.proofs.lemmas.List.{flat_map_more, take_more, take_all}
use Rattle.std.proofs.lemmas.Grind.{put_two}
use Rattle.bc_syntax.specs.declared.syntax.Region.TheVariants.{Universal}
use Rattle.bc_judge.specs.Lines.{next_region}
use Rattle.bc_judge.proofs.print.PrintedChainDisplay.fmt.Goals as goal

pub loop-region-preserved : goal.loop-region-preserved
loop-region-preserved g c = λ plain.
    let regions = c.args.self.now.regions.now in
    let i = c.loop-region.region-index in
    let before = c.loop-region.invariant plain in
    let here = c.in_ok-write.ensures.writes before.plain refl in
    let more = flat_map_more next_region (codes "chain") (take i regions) _ ∙ ap (λ l. codes "chain" ++ flat_map next_region l) (sym (take_more regions i (Universal 0) c.loop-region-test.true)) in
    put_two g.W.Write.write_str_gives c.args.f.now c.loop-region.f c.write.new.self _ _ _ before here more

pub returns-clause-writes : goal.returns-clause-writes
returns-clause-writes g c = λ plain _. rw (take_all _ _ c.loop-region-test.false) at (c.loop-region.invariant plain)
