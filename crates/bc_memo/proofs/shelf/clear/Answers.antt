use Rattle.std.proofs.Common.{◌≡◌, ℕ, length, None, refl, ap, sym, subst, ◌∙◌, arith}
use Rattle.bc_names.specs.Names.{NameParts}
use Rattle.bc_names.proofs.Within.{beginning}
use Rattle.bc_memo.specs.Places.{Places, AreOrdered, with_answer_at}
use Rattle.bc_memo.proofs.Marking.{cleared_bare, cleared_below, cleared_more, cleared_none, ordered-cleared}
use Rattle.bc_memo.proofs.shelf.clear.Goals as goal

pub loop-depth-init : goal.loop-depth-init
loop-depth-init c = record { places = cleared_none c.args.name.now c.args.places.now.items; memory = refl }

pub set_answer-requires : goal.set_answer-requires
set_answer-requires c = subst (λ (ps : Places). AreOrdered ps) (sym c.loop-depth.invariant.places) (ordered-cleared c.args.name.now c.loop-depth.depth c.args.places.now.items c.requires.ordered)

pub loop-depth-preserved : goal.loop-depth-preserved
loop-depth-preserved c =
    let n = c.args.name.now in
    let less = c.loop-depth-test.true in
    let end = c.depth-depth-end.ensures in
    record {
      places = c.set_answer.ensures.places
          ∙ ap (λ (m : NameParts). with_answer_at m None c.loop-depth.places.items) c.beginning.ensures
          ∙ ap (λ (ps : Places). with_answer_at (beginning n c.loop-depth.depth) None ps) c.loop-depth.invariant.places
          ∙ cleared_more n c.loop-depth.depth c.args.places.now.items (omega (arith, less, end));
      memory = c.set_answer.ensures.memory ∙ c.loop-depth.invariant.memory;
    }

pub returns-clause-places : goal.returns-clause-places
returns-clause-places c =
    let n = c.args.name.now in
    let done = c.loop-depth-test.false in
    let few = c.loop-depth.auto.depth-end in
    let end = c.depth-depth-end.ensures in
    let all : c.loop-depth.depth ≡ length n.segments = omega (arith, done, few, end) in
    c.loop-depth.invariant.places
    ∙ ap (λ (k : ℕ). cleared_below n k c.args.places.now.items) all
    ∙ cleared_bare n c.args.places.now.items c.requires.ordered c.requires.bare
