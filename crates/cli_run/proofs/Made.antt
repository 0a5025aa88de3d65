-- What the sessions that ran leave of a file's calls.
use Rattle.std.proofs.Common.{◌≡◌, ℕ, zero, suc, ◌<◌, List, [], ◌∷◌, ◌++◌, map, take, length, length-append, get_or, refl, sym, ap, ◌∙◌, subst, arith, inl, inr}
use Rattle.std.specs.List.{Contains}
use Rattle.std.proofs.Math.Seq.{get_or-append_seam}
use Rattle.std.proofs.lemmas.Bool.{cases_lt}
use Rattle.std.proofs.lemmas.List.{get_or_append_left, get_or-map, length-map}
use Rattle.bc_calls.specs.declared.call.Call.{Call}
use Rattle.bc_calls.specs.declared.call.Entry.{Entry}
use Rattle.bc_calls.specs.Calls.{calls, call_of}
use Rattle.bc_scripts.specs.declared.run.End.{End}
use Rattle.bc_scripts.specs.declared.run.End.TheVariants.{Done, Stopped}
use Rattle.bc_share.specs.Sessions.{SessionView, new_session, new_sessions}
use Rattle.bc_scripts.specs.Runs.{AreRuns, IsRun, HasMade}
use Rattle.bc_share.specs.Closings.{AreSessionsOf, IsOneHistory, numbers}
use Rattle.bc_share.proofs.Closings.{length-new_sessions}
use Rattle.cli_file.specs.Still.{IsStill}
use Rattle.cli_file.proofs.Closing.{are_sessions}
use Rattle.cli_run.specs.declared.file.SessionCall.{SessionCall}
use Rattle.cli_run.specs.Calls.{calls_for, scripts}
use Rattle.cli_run.specs.Runs.{AreMade, HasRun, sessions_of, ends_of}

-- an item of a list that got one more item at a time
last_or_before : {X : Type 0} (xs : List X) (n k : ℕ) (d : X) (f : ℕ → X) → length xs ≡ n → k < suc n → (k < n → get_or xs k d ≡ f k) → get_or (xs ++ f n ∷ []) k d ≡ f k
last_or_before {X} xs n k d f long below before = elim (cases_lt k n) [
  | inl less ↦ get_or_append_left xs (f n ∷ []) d k (omega (arith, less, long)) ∙ before less
  | inr most ↦ (let is : k ≡ length xs = omega (arith, most, below, long) in let last : n ≡ k = omega (arith, most, below) in ap (λ (j : ℕ). get_or (xs ++ f n ∷ []) j d) is ∙ get_or-append_seam xs (f n) [] d ∙ ap f last)
]

nth_session : (n k : ℕ) (d : SessionView) → k < n → get_or (new_sessions 0 n) k d ≡ new_session 0 k
nth_session zero k d h = absurd (omega (arith, h))
nth_session (suc n) k d h = last_or_before (new_sessions 0 n) n k d (new_session 0) (length-new_sessions 0 n) h (nth_session n k d)

length-scripts : (n : ℕ) (given : List SessionCall) → length (scripts n given) ≡ n
length-scripts zero given = refl
length-scripts (suc n) given = length-append (scripts n given) (calls_for n given ∷ []) ∙ (let few = length-scripts n given in omega (arith, few))

nth_script : (n : ℕ) (given : List SessionCall) (k : ℕ) (d : List Call) → k < n → get_or (scripts n given) k d ≡ calls_for k given
nth_script zero given k d h = absurd (omega (arith, h))
nth_script (suc n) given k d h = last_or_before (scripts n given) n k d (λ (j : ℕ). calls_for j given) (length-scripts n given) h (nth_script n given k d)

pub scripts_sized : (n : ℕ) (given : List SessionCall) (opened : List SessionView) (lists : List (List Call)) → opened ≡ new_sessions 0 n → lists ≡ scripts n given → length lists ≡ length opened
scripts_sized n given opened lists is are = ap length are ∙ length-scripts n given ∙ sym (length-new_sessions 0 n) ∙ ap length (sym is)

still_of : (old new : SessionView) (list : List Call) (end : End) → IsRun old new list end → IsStill old new
still_of old new list Done run = (run.tag, run.number)
still_of old new list (Stopped number refusal) run = (run.1.tag, run.1.number)

-- the sessions of a new database are in the order of their numbers, even after they ran
pub new_are_sessions : (sessions : ℕ) (opened back : List SessionView) → opened ≡ new_sessions 0 sessions → back ≡ opened → AreSessionsOf 0 sessions back
new_are_sessions sessions opened back is same =
    subst (AreSessionsOf 0 sessions) (sym (same ∙ is)) (are_sessions 0 sessions (new_sessions 0 sessions) (length-new_sessions 0 sessions) (λ k d below.
    (let at = nth_session sessions k d below in (ap (λ (s : SessionView). s.tag) at, ap (λ (s : SessionView). s.number) at))))

pub ran_are_sessions : (sessions : ℕ) (opened : List SessionView) (lists : List (List Call)) (ran : List (SessionView × End)) (closed : List SessionView)
    → opened ≡ new_sessions 0 sessions → AreRuns opened lists ran → closed ≡ sessions_of ran → AreSessionsOf 0 sessions closed
ran_are_sessions sessions opened lists ran closed is runs back =
    subst (AreSessionsOf 0 sessions) (sym back) (are_sessions 0 sessions (sessions_of ran) (length-map ran (λ (r : SessionView × End). r.0) ∙ long) (λ k d below.
    (let at : get_or (sessions_of ran) k d ≡ (get_or ran k (d, Done)).0 = get_or-map (λ (r : SessionView × End). r.0) ran k (d, Done) d (omega (arith, below, long)) in
    let still = still_at k d below in
    let new : get_or opened k (new_session 0 0) ≡ new_session 0 k = ap (λ (l : List SessionView). get_or l k (new_session 0 0)) is ∙ nth_session sessions k (new_session 0 0) below in
    (ap (λ (s : SessionView). s.tag) at ∙ still.0 ∙ ap (λ (s : SessionView). s.tag) new, ap (λ (s : SessionView). s.number) at ∙ still.1 ∙ ap (λ (s : SessionView). s.number) new))))
  where
    opened_long : length opened ≡ sessions
    opened_long = ap length is ∙ length-new_sessions 0 sessions

    long : length ran ≡ sessions
    long = runs.sized ∙ opened_long

    still_at : (k : ℕ) (d : SessionView) → k < sessions → IsStill (get_or opened k (new_session 0 0)) (get_or ran k (d, Done)).0
    still_at k d below = still_of (get_or opened k (new_session 0 0)) (get_or ran k (d, Done)).0 (get_or lists k []) (get_or ran k (d, Done)).1 (runs.each k (new_session 0 0) [] (d, Done) (omega (arith, below, opened_long)))

made_calls : (k : ℕ) (s : SessionView) (list : List Call) (h : List Entry) → HasMade (new_session 0 k) s list → s.own ≡ calls s.number h → map call_of (calls k h) ≡ list
made_calls k s list h made own = ap (λ (n : ℕ). map call_of (calls n h)) (sym made.number) ∙ ap (map call_of) (sym own ∙ made.own) ∙ made.made

has_run : (k : ℕ) (s : SessionView) (list : List Call) (h : List Entry) (end : End) → IsRun (new_session 0 k) s list end → s.own ≡ calls s.number h → HasRun (calls k h) list end
has_run k s list h Done run own = made_calls k s list h run own
has_run k s list h (Stopped number refusal) run own = (run.0, made_calls k s (take number list) h run.1 own)

-- sessions of a new database that ran, with which it closed
pub made_of : (sessions : ℕ) (given : List SessionCall) (opened : List SessionView) (lists : List (List Call)) (ran : List (SessionView × End)) (closed : List SessionView) (ends : List End) (h : List Entry)
    → opened ≡ new_sessions 0 sessions → lists ≡ scripts sessions given → AreRuns opened lists ran → closed ≡ sessions_of ran → ends ≡ ends_of ran → IsOneHistory closed h → AreMade sessions given h ends
made_of sessions given opened lists ran closed ends h is are runs back over one = record {
  legal = one.0;
  sized = ap length over ∙ length-map ran (λ (r : SessionView × End). r.1) ∙ long;
  each = λ k d below. subst (HasRun (calls k h) (calls_for k given)) (sym (end_at k d below)) (has_run k (get_or ran k (new_session 0 0, d)).0 (calls_for k given) h (get_or ran k (new_session 0 0, d)).1 (run_at k d below) (own_at k d below));
  others = λ j e below. numbered (get_or h j e) (one.1.others j e below);
}
  where
    opened_long : length opened ≡ sessions
    opened_long = ap length is ∙ length-new_sessions 0 sessions

    long : length ran ≡ sessions
    long = runs.sized ∙ opened_long

    closed_long : length closed ≡ sessions
    closed_long = ap length back ∙ length-map ran (λ (r : SessionView × End). r.0) ∙ long

    run_at : (k : ℕ) (d : End) → k < sessions → IsRun (new_session 0 k) (get_or ran k (new_session 0 0, d)).0 (calls_for k given) (get_or ran k (new_session 0 0, d)).1
    run_at k d below =
        let r = get_or ran k (new_session 0 0, d) in
        let first : get_or opened k (new_session 0 0) ≡ new_session 0 k = ap (λ (l : List SessionView). get_or l k (new_session 0 0)) is ∙ nth_session sessions k (new_session 0 0) below in
        let script : get_or lists k [] ≡ calls_for k given = ap (λ (l : List (List Call)). get_or l k []) are ∙ nth_script sessions given k [] below in
        subst (λ (s : SessionView). IsRun s r.0 (calls_for k given) r.1) first (subst (λ (c : List Call). IsRun (get_or opened k (new_session 0 0)) r.0 c r.1) script (runs.each k (new_session 0 0) [] (new_session 0 0, d) (omega (arith, below, opened_long))))

    closed_at : (k : ℕ) (d : End) → k < sessions → get_or closed k (new_session 0 0) ≡ (get_or ran k (new_session 0 0, d)).0
    closed_at k d below = ap (λ (l : List SessionView). get_or l k (new_session 0 0)) back ∙ get_or-map (λ (r : SessionView × End). r.0) ran k (new_session 0 0, d) (new_session 0 0) (omega (arith, below, long))

    end_at : (k : ℕ) (d : End) → k < sessions → get_or ends k d ≡ (get_or ran k (new_session 0 0, d)).1
    end_at k d below = ap (λ (l : List End). get_or l k d) over ∙ get_or-map (λ (r : SessionView × End). r.1) ran k (new_session 0 0, d) d (omega (arith, below, long))

    own_at : (k : ℕ) (d : End) → k < sessions → (get_or ran k (new_session 0 0, d)).0.own ≡ calls (get_or ran k (new_session 0 0, d)).0.number h
    own_at k d below = subst (λ (s : SessionView). s.own ≡ calls s.number h) (closed_at k d below) (one.1.own k (new_session 0 0) (omega (arith, below, closed_long)))

    numbered : (e : Entry) → Contains (numbers closed) e.session → e.session < sessions
    numbered e has =
        let i = has.0 in
        let below : i < sessions = (let within = has.1 in omega (arith, within, length-map closed (λ (s : SessionView). s.number), closed_long)) in
        let at : get_or (numbers closed) i e.session ≡ (get_or closed i (new_session 0 0)).number = get_or-map (λ (s : SessionView). s.number) closed i (new_session 0 0) e.session (omega (arith, below, closed_long)) in
        let number : (get_or closed i (new_session 0 0)).number ≡ i = ap (λ (s : SessionView). s.number) (closed_at i Done below) ∙ (still_of (new_session 0 i) (get_or ran i (new_session 0 0, Done)).0 (calls_for i given) (get_or ran i (new_session 0 0, Done)).1 (run_at i Done below)).1 in
        let same : e.session ≡ i = sym has.2 ∙ at ∙ number in
        omega (arith, same, below)
