use Rattle.std.proofs.Common.{subst}
use Rattle.std.specs.Prelude.{OnOk}
use Rattle.std.specs.Io.Buffered.{writer_contents}
use Rattle.cli_serve.specs.Talked.{lines_left}
use Rattle.cli_serve.specs.Printed.{IsAllOf}
use Rattle.cli_serve.proofs.Printing.{printed}
use Rattle.cli_serve.proofs.command.serve_on.Goals as goal

pub returns-in-Ok-closed-clause-printed : goal.returns-in-Ok-closed-clause-printed
returns-in-Ok-closed-clause-printed g c =
    let served = c.in-Ok.served in
    let after = writer_contents g.O.Write.contents c.close-out.result.0 in
    let all : IsAllOf c.args.service.now.sessions served.pens.items served.router g.J.Sheet.before after =
    subst (λ r. OnOk r (IsAllOf c.args.service.now.sessions served.pens.items served.router g.J.Sheet.before after)) c.in-Ok-closed.is c.close-out.ensures.printed in
    printed c.args.service.now.sessions (lines_left (g.I.Read.remaining c.args.input.now)) served.history served.pens.items served.router g.J.Sheet.before after c.in-Ok.ensures all
