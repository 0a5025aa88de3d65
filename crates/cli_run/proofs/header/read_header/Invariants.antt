use Rattle.std.proofs.Common.{ℕ, ◌<◌, Some}
use Rattle.cli_file.specs.declared.heading.Heading.{Heading}
use Rattle.cli_file.specs.Headings.{IsHeader}
use Rattle.cli_run.proofs.header.read_header.Given as goal

abbrev pub invariant-loop-session : goal.invariant-loop-session
invariant-loop-session l = (session : ℕ) (heading : Heading) → session < l.session → IsHeader (Some session) heading l.header → ⊥
