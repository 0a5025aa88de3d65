use Rattle.std.proofs.Common.{◌≡◌, ◌∙◌, ◌∷◌, [], length, refl, ap, sym, arith, rules}
use Rattle.std.proofs.lemmas.List.{nil_from_length}
use Rattle.bc_memo.specs.Places.{PieceRows, pieces_with}
use Rattle.bc_memo.proofs.pieces.PieceMemo.keep_all.Goals as goal

pub loop-name-init : goal.loop-name-init
loop-name-init c =
    let same : c.into_iter-name-iterator.result.rest.items ≡ c.args.pieces.items = search rules in
    record {
      room = (let long = ap length same in omega (arith, long, c.requires.room));
      rows = ap (λ (more : PieceRows). pieces_with more c.args.self.now.rows) same;
      memory = refl;
    }

pub keep_one-requires : goal.keep_one-requires
keep_one-requires c =
    let step : c.loop-name.name-iterator.rest.items ≡ (c.in-Some.name, c.in-Some.piece) ∷ c.next.new.self.rest.items = search rules in
    let long = ap length step in
    omega (arith, long, c.loop-name.invariant.room)

pub loop-name-preserved : goal.loop-name-preserved
loop-name-preserved c =
    let before = c.loop-name.invariant in
    let one = c.keep_one.ensures in
    let rest : PieceRows = c.next.new.self.rest.items in
    let step : c.loop-name.name-iterator.rest.items ≡ (c.in-Some.name, c.in-Some.piece) ∷ rest = search rules in
    record {
      room = (let long = ap length step in omega (arith, long, before.room, one.room));
      rows =
          ap (λ (rows : PieceRows). pieces_with rest rows) one.rows
          ∙ sym (ap (λ (more : PieceRows). pieces_with more c.loop-name.self.rows) step)
          ∙ before.rows;
      memory = one.memory ∙ before.memory;
    }

pub returns-clause-rows : goal.returns-clause-rows
returns-clause-rows c =
    let steps = c.in-None.ensures.steps in
    let none : c.loop-name.name-iterator.rest.items ≡ [] = nil_from_length c.loop-name.name-iterator.rest.items (sym c.loop-name.name-iterator.rest.ok.0 ∙ steps.0) in
    sym (ap (λ (more : PieceRows). pieces_with more c.loop-name.self.rows) none) ∙ c.loop-name.invariant.rows
