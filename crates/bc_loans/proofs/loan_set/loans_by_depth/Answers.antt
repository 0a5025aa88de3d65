use Rattle.std.proofs.Common.{◌≡◌, ◌+◌, List, Bool, length, ap, ◌∙◌}
use Rattle.std.proofs.lemmas.List.{length-append}
use Rattle.std.proofs.lemmas.List.Elements.{All-push}
use Rattle.bc_flow.specs.Flow.{HaveSize}
use Rattle.bc_loans.proofs.Listing.{projecting_more}
use Rattle.bc_loans.proofs.loan_set.loans_by_depth.Goals as goal

pub loop-depth-preserved : goal.loop-depth-preserved
loop-depth-preserved c =
    let invariant = c.loop-depth.invariant in
    let made = c.in_ok-loans_by_projection.ensures in
    let grown = c.in_ok-push.ensures.items in
    record {
      count = rw grown (length-append c.loop-depth.tables.items _ ∙ ap (λ n. n + 1) invariant.count);
      projections = rw grown (All-push (λ (rows : List (List Bool)). length rows ≡ 257) _ _ invariant.projections made.projections);
      sizes = rw grown (All-push (λ (rows : List (List Bool)). HaveSize (length c.args.loans.now) rows) _ _ invariant.sizes made.sizes);
      projecting = rw grown (projecting_more c.args.loans.now _ _ c.loop-depth.depth invariant.count invariant.projecting made.loans);
    }
