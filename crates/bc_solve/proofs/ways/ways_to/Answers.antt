use Rattle.std.proofs.Common.{length, get_or, ap, ◌∙◌}
use Rattle.std.proofs.lemmas.List.Elements.{Contains-get_or}
use Rattle.bc_flow.specs.Flow.{holds}
use Rattle.bc_solve.specs.Ways.{AreLengths}
use Rattle.bc_solve.proofs.Steps.{starts_within, AreLengths-from_levels, AreSteps-end}
use Rattle.bc_solve.proofs.ways.ways_to.Goals as goal

pub levels-requires-clause-sources : goal.levels-requires-clause-sources
levels-requires-clause-sources c = rw (c.deref.ensures.value, c.regions.ensures)
    (λ k d h. starts_within c.args.facts.now.starts (get_or c.in_ok-sources.sources.items k d) c.args.element
    (rw c.starts.ensures.starts at ((c.in_ok-sources.ensures (get_or c.in_ok-sources.sources.items k d)).0 (Contains-get_or c.in_ok-sources.sources.items k d h))))

pub returns-clause-ways : goal.returns-clause-ways
returns-clause-ways c =
    let facts = c.args.facts.now in
    let lengths = c.in_ok-lengths.lengths.items in
    let count = c.in_ok-lengths.ensures.count ∙ c.regions.ensures in
    let are : AreLengths (holds facts.starts) facts.pairs c.args.element lengths =
    AreLengths-from_levels (holds facts.starts) facts.pairs c.args.element c.args.edges.now c.in_ok-sources.sources.items lengths c.requires.edges
    (rw c.starts.ensures.starts at c.in_ok-sources.ensures) (rw c.deref.ensures.value at c.in_ok-lengths.ensures.levels) in
    let so_far = rw c.deref-2.ensures.value at c.in_ok-steps.ensures in
    record {
      length_count = count;
      step_count = so_far.count ∙ count;
      are_lengths = are;
      are_steps = AreSteps-end facts.pairs c.args.edges.now lengths c.in_ok-steps.steps.items c.requires.edges (rw count c.requires.within) are.goes_on so_far;
    }

pub steps-requires : goal.steps-requires
steps-requires c =
    let count = ap length c.deref-2.ensures.value ∙ c.in_ok-lengths.ensures.count ∙ c.regions.ensures in
    record { edges = rw count c.requires.within; chains = rw count c.requires.chains }
