use Rattle.std.proofs.Common.{[], ◌∷◌}
use Rattle.cli_output.proofs.Moves.{begins}
use Rattle.cli_output.proofs.token.new_table.Goals as goal

pub of_words-requires : goal.of_words-requires
of_words-requires c = begins (0 ∷ [])
