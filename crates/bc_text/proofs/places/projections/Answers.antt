use Rattle.std.proofs.Common.{rules, arith, []}
use Rattle.std.proofs.lemmas.Grind.{common_steps}
use Rattle.bc_tokens.specs.Parser.{after_symbol}
use Rattle.bc_text.specs.Reading.{projections_turn}
use Rattle.bc_text.proofs.Turns.{projections_go}
use Rattle.bc_text.proofs.places.projections.Goals as goal

pub returns-else-sees : goal.returns-else-sees
unfolding projections_turn after_symbol
returns-else-sees c =
    let turn = projections_go 7 [] c.args.cursor.now in
    first_of (search rules, grind (arith, common_steps))
