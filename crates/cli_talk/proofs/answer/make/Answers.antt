use Rattle.std.proofs.Common.{◌≡◌}
use Rattle.bc_book.specs.Operations.{IsCallOf}
use Rattle.bc_calls.specs.Calls.{call_of}
use Rattle.cli_talk.proofs.Making.{made_of, refused_of}
use Rattle.cli_talk.proofs.answer.make.Goals as goal

pub returns-clause-made : goal.returns-clause-made
returns-clause-made g c = made_of (λ made. made.event) (IsCallOf c.in_ok-operation.operation) (λ event. call_of event ≡ c.args.call) c.make.result _ _ _ c.prepare.ensures.kept c.in_ok-operation.ensures.prepared c.make.ensures.made

pub returns-clause-refused : goal.returns-clause-refused
returns-clause-refused g c = refused_of c.make.result _ _ _ c.prepare.ensures.kept c.make.ensures.refused
