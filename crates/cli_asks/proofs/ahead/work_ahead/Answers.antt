use Rattle.std.proofs.Common.{length, ap, sym, ◌∙◌}
use Rattle.std.proofs.lemmas.List.{take_at}
use Rattle.cli_asks.proofs.ahead.work_ahead.Goals as goal

pub returns-clause-asks : goal.returns-clause-asks
returns-clause-asks g c =
    let same = c.work_each.ensures ∙ c.deref_mut.ensures.value in
    take_at c.work_each.new.asks _ c.in_ok-asks.asks.len (ap length same ∙ sym c.in_ok-asks.asks.ok.0) ∙ same ∙ c.in_ok-asks.ensures.begun
