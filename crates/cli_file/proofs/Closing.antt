-- A database that is closed with its own sessions.
use Rattle.std.proofs.Common.{◌≡◌, ℕ, ◌<◌, List, length, get_or, refl, sym, ◌∙◌, subst, arith}
use Rattle.std.proofs.lemmas.List.{get_or-map, length-map}
use Rattle.bc_share.specs.Sessions.{SessionView, new_session}
use Rattle.bc_share.specs.Closings.{AreSessionsOf, DbView, IsCloseFault}
use Rattle.bc_share.specs.declared.db.CloseFault.{CloseFault}
use Rattle.bc_share.specs.declared.db.CloseFault.TheVariants.{Foreign, Audit}
use Rattle.cli_file.specs.declared.stop.Stop.TheVariants as stops
use Rattle.cli_file.specs.Stops.{close_stop}

-- sessions in the order of their numbers
pub are_sessions : (tag count : ℕ) (sessions : List SessionView) → length sessions ≡ count
    → ((k : ℕ) (d : SessionView) → k < count → ((get_or sessions k d).tag ≡ tag) × ((get_or sessions k d).number ≡ k))
    → AreSessionsOf tag count sessions
are_sessions tag count sessions long at = record {
  tags = λ k d below. (at k d (omega (arith, below, long))).0;
  sized = long;
  each = λ n below. (
    n,
    (let same = length-map sessions (λ (s : SessionView). s.number) in omega (arith, below, long, same)),
    get_or-map (λ (s : SessionView). s.number) sessions n (new_session tag n) n (omega (arith, below, long)) ∙ (at n (new_session tag n) below).1,
  );
}

-- a new database that is closed with its own sessions is closed well, or its history and its sessions do not agree
pub only_audited : (db : DbView) (count : ℕ) (sessions : List SessionView) (fault : CloseFault) → db ≡ record { tag = 0; count = count } → AreSessionsOf 0 count sessions → IsCloseFault db.tag db.count sessions fault → close_stop fault ≡ stops.Audit
only_audited db count sessions Foreign is are not = absurd (not (subst (λ (d : DbView). AreSessionsOf d.tag d.count sessions) (sym is) are))
only_audited db count sessions (Audit h) is are not = refl
