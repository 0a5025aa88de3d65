use Rattle.std.proofs.Common.{arith, length, ap, rules, ◌<◌, ◌≡◌, ℕ, List, false}
use Rattle.std.specs.Prelude.{◌==◌}
use Rattle.std.proofs.lemmas.Bool.Decides.{nat_tests}
use Rattle.cli_file.proofs.Lines.{first_section}
use Rattle.cli_file.proofs.section.SectionsIterator.next.Goals as goal

some_left : (bytes : List ℕ) → false ≡ (length bytes == 0) → 0 < length bytes
some_left bytes h = grind (arith, nat_tests)

pub returns-clause-steps : goal.returns-clause-steps
returns-clause-steps c =
    let e = first_section c.args.self.now.rest.now c.cut_line.result.1.now c.args.self.now.line c.find_header-length.result.1 c.find_header-length.result.0 (some_left c.args.self.now.rest.now c.if-is_empty.ensures) c.cut_line.ensures.rest c.find_header-length.ensures.parts in
    rw (c.cut_line.ensures.line, c.split_at.ensures.front, c.split_at.ensures.back) e

pub returns-clause-goes : goal.returns-clause-goes
returns-clause-goes c =
    let shorter = ap length (returns-clause-steps c) in
    record { on = λ _. (search rules, search rules, omega (arith, shorter)); keeps = search rules; rests = search rules }
