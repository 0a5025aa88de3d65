-- A history, compared with the sessions that made it, element by element.
use Rattle.std.proofs.Common.{◌≡◌, ◌≢◌, ℕ, zero, suc, ◌+◌, ◌<◌, ◌≤◌, true, false, true≢false, List, [], ◌∷◌, ◌++◌, length, length-append, get_or, below_more, refl, sym, ap, ◌∙◌, subst, arith}
use Rattle.std.specs.Prelude.{All}
use Rattle.std.specs.Bool.{Decides}
use Rattle.std.specs.List.{Contains}
use Rattle.std.proofs.lemmas.List.{get_or_default, get_or-map, length-map}
use Rattle.bc_share.specs.Sessions.{SessionView, new_session, new_sessions}
use Rattle.bc_share.specs.Closings.{numbers}

-- what holds of all elements before an index holds of one more
pub each_more : {X : Type 0} (P : X → Type 0) (xs : List X) (i : ℕ) (x : X) → ((k : ℕ) (d : X) → k < i → P (get_or xs k d)) → i < length xs → x ≡ get_or xs i x → P x
    → (k : ℕ) (d : X) → k < i + 1 → P (get_or xs k d)
each_more {X} P xs i x before small there here k d h =
    below_more (λ (j : ℕ). (y : X) → P (get_or xs j y)) i (λ j g y. before j y g) (λ y. subst P (there ∙ get_or_default xs i x y small) here) k h d

-- what fails for one element does not hold of all
pub each_fails : {X : Type 0} (P : X → Type 0) (xs : List X) (i : ℕ) (x : X) → i < length xs → x ≡ get_or xs i x → (P x → ⊥) → Decides false (All P xs)
each_fails P xs i x small there fails = ((λ e. absurd (true≢false (sym e))), λ all. absurd (fails (subst P (sym there) (all i x small))))

-- a session has the number
pub number_found : (sessions : List SessionView) (number i : ℕ) (s : SessionView) → i < length sessions → s ≡ get_or sessions i s → s.number ≡ number → Decides true (Contains (numbers sessions) number)
number_found sessions number i s small there is = (
  (λ yes. (i, (let long = length-map sessions (λ (x : SessionView). x.number) in omega (arith, long, small)), at)),
  λ has. refl,
)
  where
    at : get_or (numbers sessions) i number ≡ number
    at = get_or-map (λ (x : SessionView). x.number) sessions i s number small ∙ ap (λ (x : SessionView). x.number) (sym there) ∙ is

-- no session has the number
pub number_missed : (sessions : List SessionView) (number i : ℕ) → ((k : ℕ) (d : SessionView) → k < i → (get_or sessions k d).number ≢ number) → length sessions ≤ i → Decides false (Contains (numbers sessions) number)
number_missed sessions number i before done = (
  (λ e. absurd (true≢false (sym e))),
  λ has.
      let long = length-map sessions (λ (x : SessionView). x.number) in
      let within = has.1 in
      let small : has.0 < length sessions = omega (arith, long, within) in
      absurd (missed sessions has.0 small has.2),
)
  where
    missed : (sessions' : List SessionView) (k : ℕ) → k < length sessions → get_or (numbers sessions) k number ≡ number → ⊥
    missed sessions' k small at = before k (new_session 0 0) (omega (arith, small, done)) (sym (get_or-map (λ (x : SessionView). x.number) sessions k (new_session 0 0) number small) ∙ at)

-- one more new session
pub new_more : (tag count : ℕ) → new_sessions tag count ++ new_session tag count ∷ [] ≡ new_sessions tag (count + 1)
new_more tag count = ap (new_sessions tag) (let e : suc count ≡ count + 1 = omega arith in e)

pub length-new_sessions : (tag count : ℕ) → length (new_sessions tag count) ≡ count
length-new_sessions tag zero = refl
length-new_sessions tag (suc count) = length-append (new_sessions tag count) (new_session tag count ∷ []) ∙ (let few = length-new_sessions tag count in omega (arith, few))
