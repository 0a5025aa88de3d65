-- What scripts leave, call by call.
use Rattle.std.proofs.Common.{◌≡◌, ℕ, List, [], ◌∷◌, ◌++◌, length, take, drop, append_assoc, refl, sym, ap, ◌∙◌, subst, arith}
use Rattle.std.specs.Prelude.{map}
use Rattle.std.proofs.lemmas.List.{append-nil, drop_all, length-map, take_all}
use Rattle.bc_calls.specs.declared.call.Call.{Call}
use Rattle.bc_share.specs.Sessions.{SessionView, IsSame, Stays}
use Rattle.bc_scripts.specs.declared.run.End.{End}
use Rattle.bc_scripts.specs.declared.run.End.TheVariants.{Done}
use Rattle.bc_scripts.specs.Runs.{AreRuns, seats}
use Rattle.bc_share.proofs.Noting.{same_of, stays_again}

-- a session that stays twice is the same
pub same_again : (old mid new : SessionView) → Stays old mid → Stays mid new → IsSame old new
same_again old mid new first second = same_of old new (stays_again old mid new first second)

-- ---- moving sessions to their places

pub seats_begin : (ran : List (SessionView × End)) (left sessions : List SessionView) → ran ≡ [] → left ≡ sessions → ran ++ seats left ≡ seats sessions
seats_begin ran left sessions none same = ap (λ (l : List (SessionView × End)). l ++ seats left) none ∙ ap seats same

pub seats_more : (ran ran' : List (SessionView × End)) (left left' sessions : List SessionView) (s : SessionView) → ran ++ seats left ≡ seats sessions → left ≡ s ∷ left' → ran' ≡ ran ++ (s, Done) ∷ [] → ran' ++ seats left' ≡ seats sessions
seats_more ran ran' left left' sessions s before first pushed =
    ap (λ (l : List (SessionView × End)). l ++ seats left') pushed ∙ append_assoc ran ((s, Done) ∷ []) (seats left') ∙ ap (λ (l : List SessionView). ran ++ seats l) (sym first) ∙ before

pub seats_done : (ran : List (SessionView × End)) (left sessions : List SessionView) → ran ++ seats left ≡ seats sessions → left ≡ [] → ran ≡ seats sessions
seats_done ran left sessions before none = sym (append-nil ran) ∙ ap (λ (l : List SessionView). ran ++ seats l) (sym none) ∙ before

firsts : (sessions : List SessionView) → map (λ (s : SessionView × End). s.0) (seats sessions) ≡ sessions
firsts [] = refl
firsts (s ∷ sessions) = ap (λ (l : List SessionView). s ∷ l) (firsts sessions)

-- all have run
all_ran : {X : Type 0} (before new : List X) (n : ℕ) → n ≡ length before → length new ≡ length before → take n (new ++ drop (length new) before) ≡ new
all_ran {X} before new n long same =
    ap (λ (l : List X). take n (new ++ l)) (drop_all (length new) before (omega (arith, same)))
    ∙ ap (λ (l : List X). take n l) (append-nil new)
    ∙ take_all n new (omega (arith, long, same))

pub runs_whole : (sessions : List SessionView) (scripts : List (List Call)) (before new : List (SessionView × End)) (n : ℕ) → before ≡ seats sessions → n ≡ length before
    → AreRuns (map (λ (s : SessionView × End). s.0) before) scripts new → AreRuns sessions scripts (take n (new ++ drop (length new) before))
runs_whole sessions scripts before new n seated long runs =
    let same = length-map before (λ (s : SessionView × End). s.0) in
    subst (λ (x : List SessionView × List (SessionView × End)). AreRuns x.0 scripts x.1)
    (λ i. ((ap (map (λ (s : SessionView × End). s.0)) seated ∙ firsts sessions) i, sym (all_ran before new n long (runs.sized ∙ same)) i)) runs
