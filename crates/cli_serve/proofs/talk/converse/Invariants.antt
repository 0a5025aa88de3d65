use Rattle.std.specs.Prelude.{length}
use Rattle.cli_serve.specs.Talked.{lines_left}
use Rattle.cli_serve.proofs.talk.converse.Given as goal

abbrev pub ghosts-converse_about : goal.ghosts-converse_about
ghosts-converse_about g a = record { sessions = length a.sessions.items; lines = lines_left (g.I.Read.remaining a.input.now) }
