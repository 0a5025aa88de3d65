use Rattle.std.proofs.Common.{◌<◌, get_or, length, refl, sym, ◌∙◌, arith}
use Rattle.std.proofs.lemmas.List.{get_or_default}
use Rattle.bc_flow.specs.Flow.{holds}
use Rattle.bc_solve.specs.Ways.{way}
use Rattle.bc_solve.proofs.Shortest.{no_chain, no_chain_past, first_way}
use Rattle.bc_solve.proofs.Existing.{value_of_none, value_of_some}
use Rattle.bc_solve.proofs.explainer.chain_of.Goals as goal

pub returns-then-region-regions-clause-chain : goal.returns-then-region-regions-clause-chain
returns-then-region-regions-clause-chain c =
    no_chain_past c.args.facts.now c.args.ways.now.element c.args.ways.now.lengths.items c.args.ways.now.steps.items c.requires c.args.region (omega (arith, c.regions.ensures, c.if-region-regions.true))

pub returns-then-region-regions-clause-value : goal.returns-then-region-regions-clause-value
returns-then-region-regions-clause-value c =
    value_of_none (holds c.args.facts.now.starts) c.args.facts.now.pairs c.args.region c.args.ways.now.element (returns-then-region-regions-clause-chain c)

pub returns-then-index-eq0-clause-chain : goal.returns-then-index-eq0-clause-chain
returns-then-index-eq0-clause-chain c =
    let lengths = c.args.ways.now.lengths.items in
    let within : c.args.region < length lengths = omega (arith, c.if-region-regions.false, c.regions.ensures, c.requires.length_count) in
    no_chain (holds c.args.facts.now.starts) c.args.facts.now.pairs c.args.ways.now.element lengths c.requires.are_lengths c.args.region
    (sym (c.index.ensures ∙ get_or_default lengths c.args.region c.index.result.now 0 within) ∙ c.if-index-eq0.true)

pub returns-then-index-eq0-clause-value : goal.returns-then-index-eq0-clause-value
returns-then-index-eq0-clause-value c =
    value_of_none (holds c.args.facts.now.starts) c.args.facts.now.pairs c.args.region c.args.ways.now.element (returns-then-index-eq0-clause-chain c)

pub returns-clause-chain : goal.returns-clause-chain
returns-clause-chain c =
    let facts = c.args.facts.now in
    let lengths = c.args.ways.now.lengths.items in
    let steps = c.args.ways.now.steps.items in
    let within : c.args.region < length lengths = omega (arith, c.if-region-regions.false, c.regions.ensures, c.requires.length_count) in
    let read = c.index.ensures ∙ get_or_default lengths c.args.region c.index.result.now 0 within in (
      way steps (get_or lengths c.args.region 0) c.args.region,
      first_way (holds facts.starts) facts.pairs c.args.ways.now.element lengths steps c.requires.are_lengths c.requires.are_steps
          (get_or lengths c.args.region 0) c.args.region refl (omega (arith, read, c.if-index-eq0.false)),
      rw (c.deref.ensures.value, c.deref-2.ensures.value) at c.in_ok-chain.ensures,
    )

pub returns-clause-value : goal.returns-clause-value
returns-clause-value c = value_of_some c.args.facts.now c.args.region c.args.ways.now.element c.in_ok-chain.chain.items (returns-clause-chain c)
