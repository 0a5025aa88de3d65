use Rattle.std.proofs.Common.{◌≡◌, rules}
use Rattle.std.proofs.lemmas.Fn.{All-from_retain}
use Rattle.bc_prov.proofs.Lookup.{all_by_index}
use Rattle.bc_prov.proofs.snapshot.Snapshot.over_types.Goals as goal

pub returns : goal.returns
returns c = all_by_index _ _ (All-from_retain _ (λ p. p.1.types ≡ c.args.self.now.types) _ (λ x b f' k. search rules) _ _ c.retain.ensures.filtered)
