use Rattle.std.specs.Prelude.{ℕ, ◌≡◌}
use Rattle.std.proofs.Common.{arith, map}
use Rattle.std.proofs.lemmas.List.{length-map}
use Rattle.cli_file.specs.Changes.{seen}
use Rattle.cli_check.proofs.Stopping.{broken, few_of, unread}
use Rattle.cli_check.proofs.command.check.Goals as goal

pub returns-in_err-changes-clause-stopped : goal.returns-in_err-changes-clause-stopped
returns-in_err-changes-clause-stopped g c =
    unread {T = ℕ} (λ n. n ≡ n) c.args.line.now _ c.in_err-changes.field-0.0 c.from_residual-in_err-changes.result _ _ _ c.in_ok-file.file.items _ c.from_residual-in_err-changes.ensures.1 c.in_ok-file.ensures.whole c.in_ok-file.ensures.short c.deref.ensures.value c.positions.ensures c.in_err-changes.ensures

pub returns-clause-stopped : goal.returns-clause-stopped
returns-clause-stopped g c =
    let good = rw c.deref.ensures.value at c.in_ok-changes.ensures in
    let asked = rw c.deref-2.ensures.value at c.in_ok-names.ensures.asked in
    let form = rw c.deref-4.ensures.value at (rw c.deref-3.ensures.value at c.in_ok-form.ensures.found) in
    broken c.args.line.now c.call_and_close.result _ _ _ _ _ c.in_ok-file.file.items (map seen c.in_ok-changes.changes.items) c.in_ok-names.names.keys c.in_ok-file.ensures.whole (record {
      short = c.in_ok-file.ensures.short;
      good = good;
      asked = asked;
      other = c.call_and_close.ensures.other;
      many = λ e. (let h = c.call_and_close.ensures.too_many e in omega (arith, length-map c.in_ok-changes.changes.items seen, h.0));
      few = few_of c.call_and_close.result _ (λ h. omega (arith, length-map c.in_ok-changes.changes.items seen, h)) c.call_and_close.ensures.few;
      quiet = λ e. (let h = c.call_and_close.ensures.too_many e in (h.1, h.2));
      refused = rw form at c.call_and_close.ensures.refused;
      untold = c.call_and_close.ensures.untold;
      silent = c.call_and_close.ensures.silent;
      unwritten = c.call_and_close.ensures.unwritten;
      audited = rw form at c.call_and_close.ensures.audited;
    })
