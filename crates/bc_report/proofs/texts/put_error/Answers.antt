use Rattle.std.proofs.Common.{◌≡◌, ℕ, List, ◌++◌, append_assoc, codes, decimal}
use Rattle.bc_syntax.specs.declared.syntax.Region.{Region}
use Rattle.bc_judge.specs.declared.error.BorrowError.TheVariants.{Lifetime}
use Rattle.bc_judge.specs.Lines.{error_text}
use Rattle.bc_report.proofs.texts.put_error.Goals as goal

lifetime_error : (longer shorter : ℕ) (chain : List Region) (behind : List ℕ) →
    codes "lifetime " ++ (decimal longer ++ (codes " must outlive " ++ (decimal shorter ++ behind))) ≡ error_text (Lifetime longer shorter chain) ++ behind
lifetime_error longer shorter chain behind = rw (append_assoc, append_assoc, append_assoc)

pub returns-in-Lifetime-clause-written : goal.returns-in-Lifetime-clause-written
returns-in-Lifetime-clause-written c =
    let lifetime = c.in-Lifetime in
    rw (lifetime.is, c.put-in-Lifetime.ensures.written, c.put_number-end-in-Lifetime-2.ensures.written, c.put-end-in-Lifetime.ensures.written, c.put_number-end-in-Lifetime.ensures.written)
    (lifetime_error lifetime.longer lifetime.shorter lifetime.chain _)
