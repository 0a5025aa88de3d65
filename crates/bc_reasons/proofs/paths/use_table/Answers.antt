use Rattle.std.proofs.Common.{◌≡◌, ◌↔◌, ℕ, true}
use Rattle.std.proofs.lemmas.Result.{IfOk-weaker}
use Rattle.bc_flow.specs.Flow.{holds, HaveEntries}
use Rattle.bc_points.specs.Points.{Uses}
use Rattle.bc_live.specs.Entries.{use_entries}
use Rattle.bc_live.proofs.Within.{use_entries_within}
use Rattle.bc_live.proofs.Listing.{use_is_listed}
use Rattle.bc_reasons.proofs.paths.use_table.Goals as goal

pub table-requires : goal.table-requires
table-requires c =
    rw (c.deref.ensures.value, c.in_ok-uses.ensures, c.steps-points.ensures.value, c.locals.ensures.value)
    (use_entries_within c.args.typed.now (rw c.locals.ensures.value at c.locals.ensures.some) (rw c.steps-points.ensures.value at c.steps-points.ensures.declared))

pub returns-clause-points : goal.returns-clause-points
returns-clause-points c = rw c.steps-points.ensures.value at c.table.ensures.nodes

pub returns-clause-locals : goal.returns-clause-locals
returns-clause-locals c = rw c.locals.ensures.value at c.table.ensures.facts

pub returns-clause-uses : goal.returns-clause-uses
returns-clause-uses c =
    let mir = c.args.typed.now in
    IfOk-weaker c.table.result (λ rows. HaveEntries rows (use_entries mir)) (λ rows. (p l : ℕ) → (holds rows p l ≡ true) ↔ Uses mir l p)
    (λ rows have p l. (λ h. (use_is_listed mir p l).0 ((have p l).0 h), λ u. (have p l).1 ((use_is_listed mir p l).1 u)))
    (rw (c.deref.ensures.value, c.in_ok-uses.ensures) at c.table.ensures.entries)
