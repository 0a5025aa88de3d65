use Rattle.std.proofs.Common.{◌≡◌, ◌<◌, ◌++◌, ℕ, List, Option, Some, None, length, get_or, sym, ap, append-nil, arith, ◌∙◌}
use Rattle.std.proofs.lemmas.List.Elements.{All-push}
use Rattle.bc_flow.specs.declared.tables.Entry.{Entry}
use Rattle.bc_points.specs.declared.loan.Loan.{Loan}
use Rattle.bc_loans.specs.Entries.{listed, projection_at, projection_entries}
use Rattle.bc_loans.proofs.Listing.{listed-turn, listed-all}
use Rattle.bc_loans.proofs.entries.projection_entries.Goals as goal
use Rattle.bc_loans.proofs.entries.projection_entries.Goals.{in-Some+in_ok-push-in-Some, in-None}

pub loop-number-preserved : goal.loop-number-preserved
loop-number-preserved c =
    let invariant = c.loop-number.invariant in
    let depth = c.args.depth in
    let loans = c.args.loans.now in
    let i = c.loop-number.number in
    let items = c.loop-number.entries.items in
    let made = c.index-loans-number.result in
    let told : (o : Option Entry) → c.entry_at.result ≡ o → items ++ listed o ≡ items ++ projection_at depth (i, get_or loans i made) =
    λ o is. ap (λ (l : List Entry). items ++ l) (ap listed (sym is ∙ c.entry_at.ensures.entry) ∙ ap (λ (m : ℕ × Loan). projection_at depth (i, m)) c.index-loans-number.is) in
    let turn = listed-turn (projection_at depth) (projection_entries depth loans) items loans i made in
    elim c.match-entry_at.branch [
      | in-Some+in_ok-push-in-Some w ↦
          let entry = w.in-Some.entry in
          let within = rw w.in-Some.is at c.entry_at.ensures.within in
          rw w.entries-is (record {
            listed = turn _ c.loop-number-test.true (w.in_ok-push-in-Some.ensures.items ∙ told (Some entry) w.in-Some.is) invariant.listed;
            within = rw w.in_ok-push-in-Some.ensures.items (All-push (λ (e : Entry). (e.node < 257) × (e.fact < length loans)) items entry invariant.within (within.0, omega (arith, within.1, c.loop-number-test.true)));
          })
      | in-None w ↦
          rw w.entries-is (record {
            listed = turn items c.loop-number-test.true (sym (append-nil items) ∙ told None w.in-None.is) invariant.listed;
            within = invariant.within;
          })
    ]

pub returns-clause-entries : goal.returns-clause-entries
returns-clause-entries c =
    listed-all (projection_at c.args.depth) (projection_entries c.args.depth c.args.loans.now) c.loop-number.entries.items c.args.loans.now c.loop-number.number c.loop-number-test.false c.loop-number.invariant.listed
