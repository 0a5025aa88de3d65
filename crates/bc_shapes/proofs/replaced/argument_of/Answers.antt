use Rattle.bc_syntax.specs.declared.syntax.Region.TheVariants.{Universal}
use Rattle.bc_shapes.proofs.Arguments.{is-given, one-given, none-given}
use Rattle.bc_shapes.proofs.replaced.argument_of.Goals as goal

pub returns-in-Some-clause-given : goal.returns-in-Some-clause-given
returns-in-Some-clause-given c =
    let found = c.in-Some.ensures.lookup in
    is-given (Universal 0) c.args.arguments.now c.in-Some.argument.now _ found.3.0 found.1

pub returns-in-None-clause-value : goal.returns-in-None-clause-value
returns-in-None-clause-value c =
    none-given (Universal 0) c.args.arguments.now c.args.number c.in-None.ensures.lookup.3

pub returns-in-Some-clause-value : goal.returns-in-Some-clause-value
returns-in-Some-clause-value c =
    let found = c.in-Some.ensures.lookup in
    one-given (Universal 0) c.args.arguments.now c.in-Some.argument.now c.args.number c.if-number-eq0.false found.3.0 found.1
