use Rattle.std.proofs.Common.{◌≡◌, ℕ, length, ap, ◌∙◌}
use Rattle.std.proofs.lemmas.List.{length-replicate}
use Rattle.bc_flow.proofs.Ways.{turned_within}
use Rattle.bc_groups.proofs.Grouped.{leads_back}
use Rattle.bc_groups.proofs.components.nodes_behind.Goals as goal

pub edge_chains-requires : goal.edge_chains-requires
edge_chains-requires c = rw (c.deref.ensures.value, c.in_ok-back.ensures) (turned_within c.args.edges.now c.args.nodes c.requires.edges)

pub owners-requires-clause-edges : goal.owners-requires-clause-edges
owners-requires-clause-edges c =
    let all : length c.deref-3.result.now ≡ c.args.nodes = ap length c.deref-3.ensures.value ∙ (ap length (c.in_ok-all.ensures.items_if_clones_equal (λ y h. h)) ∙ length-replicate {A = ℕ} c.args.nodes 0) in
    rw (c.deref-2.ensures.value, c.in_ok-back.ensures, all) (turned_within c.args.edges.now c.args.nodes c.requires.edges)

pub returns-clause-led : goal.returns-clause-led
returns-clause-led c = λ n h.
    let all : length c.deref-3.result.now ≡ c.args.nodes = ap length c.deref-3.ensures.value ∙ (ap length (c.in_ok-all.ensures.items_if_clones_equal (λ y h. h)) ∙ length-replicate {A = ℕ} c.args.nodes 0) in
    let led = rw (c.deref-2.ensures.value, c.in_ok-back.ensures, all) at c.in_ok-behind.ensures.led in
    leads_back c.args.edges.now _ n (led n h)
