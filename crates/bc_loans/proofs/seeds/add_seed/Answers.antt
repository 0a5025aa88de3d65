use Rattle.std.proofs.Common.{◌≡◌, ◌<◌, ℕ, Bool, true, false, List, [], length, get_or, refl, ap, sym, arith, ◌∙◌}
use Rattle.std.proofs.lemmas.Option.{slice_get-get_or}
use Rattle.bc_flow.specs.BitSet.{has}
use Rattle.bc_flow.specs.Flow.{row, holds}
use Rattle.bc_loans.specs.Flows.{inside}
use Rattle.bc_loans.specs.Overwrites.{keeps}
use Rattle.bc_loans.proofs.Regions.{inside_of}
use Rattle.bc_loans.proofs.Seeding.{keeps_is, seeded_by, seeded_is, seeded_not, seeded_nowhere, seeded_same}
use Rattle.bc_loans.proofs.seeds.add_seed.Goals as goal

pub spread-requires : goal.spread-requires
spread-requires c =
    let flow = c.args.flow.now in
    let made = get_or flow.set.loans.now c.args.number c.index-flow-number.result in
    let maker : made.0 < length flow.steps.now = flow.makers c.args.number c.index-flow-number.result c.requires.number in
    let node : made.0 < length c.args.coming.now = omega (arith, maker, c.requires.points) in
    let wide : length (row c.args.coming.now made.0) ≡ length flow.set.loans.now = c.requires.rows made.0 [] node in
    record {
      node = node;
      fact = omega (arith, wide, c.requires.number);
      edges = rw c.requires.points flow.within;
      chains = rw c.requires.points flow.chained;
      rows = rw wide c.requires.rows;
      pending = rw c.requires.points c.requires.reached;
    }

pub returns-in_ok-spread : goal.returns-in_ok-spread
returns-in_ok-spread c =
    let flow = c.args.flow.now in
    let spread = c.in_ok-spread.ensures in
    let made = get_or flow.set.loans.now c.args.number c.index-flow-number.result in
    let maker : made.0 < length flow.steps.now = flow.makers c.args.number c.index-flow-number.result c.requires.number in
    let wide : length (row c.args.coming.now made.0) ≡ length flow.set.loans.now = c.requires.rows made.0 [] (omega (arith, maker, c.requires.points)) in
    let is = slice_get-get_or flow.set.loans.now c.args.number c.index-flow-number.result c.requires.number in
    let step = get_or flow.steps.now made.0 c.index-flow-made.result in
    let stays : keeps flow.steps.now made.1.path made.0 ≡ true =
    sym (keeps_is flow.steps.now made.1.path made.0 step (slice_get-get_or flow.steps.now made.0 c.index-flow-made.result maker)) ∙ sym c.keeps.ensures ∙ c.if-keeps.true in
    record {
      points = spread.nodes;
      rows = rw wide at spread.rows;
      reached = rw c.requires.points at spread.pending;
      others = spread.spreads.others;
      seeded = seeded_is flow.edges.now flow.steps.now flow.set.loans.now (inside flow) c.args.number made c.args.coming.now c.spread.new.rows is
          (seeded_same flow.edges.now made.0 c.args.number (has c.in-Some.value) (λ (n : ℕ). inside flow n c.args.number) c.args.coming.now c.spread.new.rows (keeps flow.steps.now made.1.path made.0)
          (λ n. ap (λ (s : List Bool). has s n) c.in-Some.ensures ∙ inside_of flow.universals flow.set.loans.now (holds flow.values.now) c.args.number made c.region_number-region.result is c.region_number-region.ensures.value n)
          (seeded_by flow.edges.now made.0 c.args.number (has c.in-Some.value) c.args.coming.now c.spread.new.rows _ _ (keeps flow.steps.now made.1.path made.0) stays spread.spreads));
    }

pub returns-else-keeps : goal.returns-else-keeps
returns-else-keeps c =
    let flow = c.args.flow.now in
    let made = get_or flow.set.loans.now c.args.number c.index-flow-number.result in
    let maker : made.0 < length flow.steps.now = flow.makers c.args.number c.index-flow-number.result c.requires.number in
    let is = slice_get-get_or flow.set.loans.now c.args.number c.index-flow-number.result c.requires.number in
    let step = get_or flow.steps.now made.0 c.index-flow-made.result in
    let ends : keeps flow.steps.now made.1.path made.0 ≡ false =
    sym (keeps_is flow.steps.now made.1.path made.0 step (slice_get-get_or flow.steps.now made.0 c.index-flow-made.result maker)) ∙ sym c.keeps.ensures ∙ c.if-keeps.false in
    record {
      points = refl;
      rows = c.requires.rows;
      reached = c.requires.reached;
      others = λ n l _. refl;
      seeded = seeded_is flow.edges.now flow.steps.now flow.set.loans.now (inside flow) c.args.number made c.args.coming.now c.args.coming.now is
          (seeded_not flow.edges.now made.0 c.args.number (λ (n : ℕ). inside flow n c.args.number) c.args.coming.now (keeps flow.steps.now made.1.path made.0) ends);
    }

pub returns-in_default : goal.returns-in_default
returns-in_default c =
    let flow = c.args.flow.now in
    let made = get_or flow.set.loans.now c.args.number c.index-flow-number.result in
    let is = slice_get-get_or flow.set.loans.now c.args.number c.index-flow-number.result c.requires.number in
    record {
      points = refl;
      rows = c.requires.rows;
      reached = c.requires.reached;
      others = λ n l _. refl;
      seeded = seeded_is flow.edges.now flow.steps.now flow.set.loans.now (inside flow) c.args.number made c.args.coming.now c.args.coming.now is
          (seeded_nowhere flow.edges.now made.0 c.args.number (λ (n : ℕ). inside flow n c.args.number) c.args.coming.now (keeps flow.steps.now made.1.path made.0)
          (λ n. sym (inside_of flow.universals flow.set.loans.now (holds flow.values.now) c.args.number made c.region_number-region.result is c.region_number-region.ensures.value n) ∙ c.in_default.ensures n));
    }
