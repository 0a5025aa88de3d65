use Rattle.std.proofs.Common.{◌||◌, ◌&&◌, not, nat_lt, length, ap, ◌∙◌}
use Rattle.bc_flow.specs.Flow.{holds}
use Rattle.bc_cons.specs.Starts.{universal_start, variable_start}
use Rattle.bc_cons.proofs.Growing.{starts_go}
use Rattle.bc_cons.proofs.starts.start_rows.Goals as goal

pub returns-clause-starts : goal.returns-clause-starts
returns-clause-starts c = λ r e.
    let mir = c.args.typed.now in
    let points = length mir.steps in
    let variable = nat_lt e points && variable_start mir.universals mir.locals (holds c.args.live.now) r e in
    rw (c.universals-universals.ensures.value, c.steps-points.ensures.value, c.locals.ensures.value) at (c.add_locals.ensures.members r e) ∙ (ap (λ b. b || (not (nat_lt r mir.universals) && variable)) (rw (c.from.ensures, c.universals-universals.ensures.value, c.steps-points.ensures.value) at (c.in_ok-rows.ensures.starts r e))
    ∙ starts_go (nat_lt r mir.universals) (universal_start mir.universals points r e) variable)
