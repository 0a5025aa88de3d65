use Rattle.std.proofs.Common.{◌≡◌, ◌∙◌, true, false, Ok, Err, sym, ap}
use Rattle.bc_tokens.specs.Token.{Tokens}
use Rattle.bc_tokens.specs.Parser.{position, sees_numbered}
use Rattle.bc_tokens.specs.declared.refusal.Refusal.TheVariants.{Limit}
use Rattle.bc_tokens.proofs.Numbers.{number_reads, number_past, number_missed}
use Rattle.bc_tokens.proofs.cursor.Cursor.numbered.Goals as goal

pub returns-then-not-is_numbered-clause-reads : goal.returns-then-not-is_numbered-clause-reads
returns-then-not-is_numbered-clause-reads c = λ _.
    let unseen : sees_numbered c.args.numbering c.args.self.now ≡ false = sym ((c.if-not-is_numbered.ensures {u = tt}).value) in
    number_missed c.args.numbering c.args.limit c.args.self.now unseen ∙ ap Err (sym c.fault.ensures.value)

pub returns-in_default-clause-reads : goal.returns-in_default-clause-reads
returns-in_default-clause-reads c = λ _.
    let seen : sees_numbered c.args.numbering c.args.self.now ≡ true = sym ((c.if-not-is_numbered.ensures {u = tt}).value) in
    number_past c.args.numbering c.args.limit c.args.self.now seen (λ found n e. c.in_default.ensures {u = tt} found n e)
    ∙ ap (λ k. Err (Limit k)) (sym (ap position c.self.view_is))

pub returns-clause-reads : goal.returns-clause-reads
returns-clause-reads c =
    let seen : sees_numbered c.args.numbering c.args.self.now ≡ true = sym ((c.if-not-is_numbered.ensures {u = tt}).value) in
    (number_reads c.args.numbering c.args.limit c.in-Some.value c.args.self.now seen (λ found n e. c.in-Some.ensures {u = tt} found n e)).0
    ∙ ap (λ (ts : Tokens). Ok (c.in-Some.value, ts)) (sym c.take.ensures)

pub returns-clause-within : goal.returns-clause-within
returns-clause-within c =
    let seen : sees_numbered c.args.numbering c.args.self.now ≡ true = sym ((c.if-not-is_numbered.ensures {u = tt}).value) in
    (number_reads c.args.numbering c.args.limit c.in-Some.value c.args.self.now seen (λ found n e. c.in-Some.ensures {u = tt} found n e)).1
