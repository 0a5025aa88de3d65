use Rattle.bc_judge.proofs.Locals.{sizes_stay, kept_entered, this_entered}
use Rattle.bc_judge.proofs.candidates.add.Goals as goal

pub returns-clause-sizes : goal.returns-clause-sizes
returns-clause-sizes c = sizes_stay c.args.rows.now c.insert-added.new.self c.args.at c.insert-added.ensures.others c.insert-added.ensures.size

pub returns-clause-kept : goal.returns-clause-kept
returns-clause-kept c = kept_entered c.args.rows.now c.insert-added.new.self c.args.at c.args.loan c.requires.loan c.insert-added.ensures.others c.insert-added.ensures.set

pub returns-clause-added : goal.returns-clause-added
returns-clause-added c = this_entered c.args.rows.now c.insert-added.new.self c.args.at c.args.loan c.requires.loan c.insert-added.ensures.others c.insert-added.ensures.set
