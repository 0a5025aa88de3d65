-- A database that is closed with its own sessions.
use Rattle.std.proofs.Common.{◌≡◌, ℕ, List, length, sym, ◌∙◌, subst, arith}
use Rattle.std.proofs.lemmas.List.{get_or-map, length-map}
use Rattle.bc_share.specs.Sessions.{SessionView, new_session}
use Rattle.bc_share.specs.Closings.{AreSessionsOf, DbView, IsCloseFault}
use Rattle.bc_share.specs.declared.db.CloseFault.TheVariants.{Foreign}
use Rattle.cli_serve.specs.Talked.{AreOwn}

-- sessions in the places of their numbers are the database's
pub are_sessions : (count : ℕ) (sessions : List SessionView) → length sessions ≡ count → AreOwn sessions → AreSessionsOf 0 count sessions
are_sessions count sessions long own = record {
  tags = λ k d below. (own k d below).0;
  sized = long;
  each = λ n below. (
    n,
    (let same = length-map sessions (λ (s : SessionView). s.number) in omega (arith, below, long, same)),
    get_or-map (λ (s : SessionView). s.number) sessions n (new_session 0 n) n (omega (arith, below, long)) ∙ (own n (new_session 0 n) (omega (arith, below, long))).1,
  );
}

-- these sessions are not foreign
pub not_foreign : (db : DbView) (count : ℕ) (sessions : List SessionView) → db ≡ record { tag = 0; count = count } → length sessions ≡ count → AreOwn sessions → IsCloseFault db.tag db.count sessions Foreign → ⊥
not_foreign db count sessions is long own foreign = foreign (subst (λ (d : DbView). AreSessionsOf d.tag d.count sessions) (sym is) (are_sessions count sessions long own))
