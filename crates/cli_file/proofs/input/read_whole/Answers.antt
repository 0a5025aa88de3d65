use Rattle.std.proofs.Common.{arith, ◌≤◌, length}
use Rattle.cli_file.proofs.Whole.{whole}
use Rattle.cli_file.specs.Files.{most_bytes}
use Rattle.cli_file.proofs.input.read_whole.Goals as goal

pub returns-clause-whole : goal.returns-clause-whole
returns-clause-whole g c =
    let short : length c.read_to_end.new.buf.items ≤ most_bytes = omega (arith, c.len.ensures, c.read_to_end.new.buf.ok.0) in
    let read = rw (c.take-limited.ensures.limit, c.take-limited.ensures.inner) at c.in_default.ensures.bytes in
    whole most_bytes (g.I.Read.remaining c.args.input.now) c.read_to_end.new.buf.items c.new-file.result.items read c.new-file.ensures.items short
