use Rattle.std.proofs.Common.{sym, ◌∙◌}
use Rattle.bc_names.proofs.Equality.{exact_names}
use Rattle.bc_book.proofs.roots.take_work.Goals as goal

pub returns-in-Equal : goal.returns-in-Equal
returns-in-Equal c = sym c.name.ensures ∙ exact_names c.name.result.now c.args.name.now (sym c.cmp.ensures ∙ c.in-Equal.is)
