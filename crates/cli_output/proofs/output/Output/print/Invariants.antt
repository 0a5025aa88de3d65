use Rattle.cli_output.proofs.output.Output.print.Given as goal

abbrev pub ghosts-write : goal.ghosts-write
ghosts-write g a = record { text = a.text.now }
