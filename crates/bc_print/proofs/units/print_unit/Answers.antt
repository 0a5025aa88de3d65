use Rattle.std.proofs.Common.{subst}
use Rattle.std.proofs.lemmas.Result.{on_ok_weaker}
use Rattle.std.specs.Io.KnownBytes.{Appends}
use Rattle.bc_syntax.specs.declared.syntax.Body.{Body}
use Rattle.bc_syntax.specs.Token.{Fixed}
use Rattle.bc_print.specs.Printing.{printed}
use Rattle.bc_syntax.specs.Spelling as spell
use Rattle.bc_print.proofs.Printings.{prints}
use Rattle.bc_print.proofs.units.print_unit.Goals as goal

pub returns : goal.returns
returns g c =
    let body = c.body-body.result.now in
    let kind = body.header.kind in
    let first_word = rw (c.text.ensures, c.kind_word.ensures) at c.in_ok-write_bytes.ensures in
    on_ok_weaker c.write_bytes-2.result
    (λ done. subst (λ (u : Body). Appends (g.W.Write.contents c.args.out.now) (g.W.Write.contents c.write_bytes-2.new.out) (printed (spell.unit u))) c.body-body.ensures.value
    (prints _ _ _ _ _ (Fixed (spell.kind_word kind)) (spell.header_rest body.header) (spell.body body) first_word c.in_ok-write_header_rest.ensures c.in_ok-write_body.ensures done)) c.write_bytes-2.ensures
