-- Lines that the router answers, one after another.
use Rattle.std.proofs.Common.{◌≡◌, ℕ, List, [], ◌∷◌, ◌++◌, Option, Some, None, Result, Ok, Err, Bool, true, false, refl, sym, ap, ◌∙◌, subst, append-nil, append_assoc}
use Rattle.std.specs.Prelude.{option_map, IfOk}
use Rattle.cli_input.specs.Lines.{lines_of}
use Rattle.cli_requests.specs.declared.destination.ParsedLine.{ParsedLine}
use Rattle.cli_talk.specs.declared.router.RoutedLine.{RoutedLine}
use Rattle.cli_talk.specs.declared.router.RoutedLine.TheVariants.{End, Told, Sent}
use Rattle.cli_talk.specs.Routed.{GoesTo, RoutesFirst, RoutesNext}
use Rattle.cli_serve.specs.Talked.{AreAllTold, AreTold}
use Rattle.cli_serve.proofs.Told.{HasToldSoFar}

-- one more line
told_one : (sessions : ℕ) (front : List (List ℕ)) (texts : List (List ℕ)) (line : List ℕ) (named : Option ℕ) (now : List (List ℕ)) → AreTold sessions front texts → GoesTo sessions line named now → AreTold sessions (front ++ line ∷ []) (texts ++ now)
told_one sessions [] texts line named now none goes = (named, now, [], goes, refl, ap (λ (l : List (List ℕ)). l ++ now) none ∙ sym (append-nil now))
told_one sessions (first ∷ front) texts line named now (m, mine, later, one, rest, is) goes =
    (m, mine, later ++ now, one, told_one sessions front later line named now rest goes, ap (λ (l : List (List ℕ)). l ++ now) is ∙ append_assoc mine later now)

-- a line was routed
told_more : (sessions : ℕ) (lines : List (List ℕ)) (x y : List ℕ) (sent : Option ParsedLine) (texts texts' : List (List ℕ)) → HasToldSoFar sessions (Some lines) (Some x) texts → RoutesFirst sessions (lines_of x) (lines_of y) sent (Some texts) (Some texts') → HasToldSoFar sessions (Some lines) (Some y) texts'
told_more sessions lines x y sent texts texts' h r = record {
  front = h.front ++ r.line ∷ [];
  cut = h.cut ∙ ap (λ (ls : List (List ℕ)). h.front ++ ls) r.cut ∙ sym (append_assoc h.front (r.line ∷ []) (lines_of y));
  told = subst (AreTold sessions (h.front ++ r.line ∷ [])) (sym r.taken) (told_one sessions h.front texts r.line (option_map (λ (parsed : ParsedLine). parsed.session) sent) r.texts h.told r.goes);
}

-- the result has a line that was routed
abbrev pub is_more : {M F : Type 0} → Result (RoutedLine M) F → Bool
is_more (Ok End) = false
is_more (Ok Told) = true
is_more (Ok (Sent message)) = true
is_more (Err fault) = false

-- a line was routed, if there was one
pub told_step : {M F : Type 0} (line_of : M → ParsedLine) (sessions : ℕ) (known : Option (List (List ℕ))) (old new : Option (List ℕ)) (texts texts' : List (List ℕ)) (routed : Result (RoutedLine M) F) → HasToldSoFar sessions known old texts
    → IfOk routed (λ r. RoutesNext line_of sessions old new r (Some texts) (Some texts')) → is_more routed ≡ true → HasToldSoFar sessions known new texts'
told_step line_of sessions None old new texts texts' routed h r more = tt
told_step line_of sessions (Some lines) None new texts texts' routed h r more = absurd h
told_step line_of sessions (Some lines) (Some x) None texts texts' (Ok End) h r more = absurd r
told_step line_of sessions (Some lines) (Some x) None texts texts' (Ok Told) h r more = absurd r
told_step line_of sessions (Some lines) (Some x) None texts texts' (Ok (Sent message)) h r more = absurd r
told_step line_of sessions (Some lines) (Some x) None texts texts' (Err fault) h r more = let e : false ≡ true = more in absurd cc
told_step line_of sessions (Some lines) (Some x) (Some y) texts texts' (Ok End) h r more = let e : false ≡ true = more in absurd cc
told_step line_of sessions (Some lines) (Some x) (Some y) texts texts' (Ok Told) h r more = told_more sessions lines x y None texts texts' h r
told_step line_of sessions (Some lines) (Some x) (Some y) texts texts' (Ok (Sent message)) h r more = told_more sessions lines x y (Some (line_of message)) texts texts' h r
told_step line_of sessions (Some lines) (Some x) (Some y) texts texts' (Err fault) h r more = let e : false ≡ true = more in absurd cc

-- there is no line left
pub told_all : {M : Type 0} (line_of : M → ParsedLine) (sessions : ℕ) (known : Option (List (List ℕ))) (old new : Option (List ℕ)) (texts texts' : List (List ℕ)) → HasToldSoFar sessions known old texts → RoutesNext line_of sessions old new End (Some texts) (Some texts') → AreAllTold sessions known texts'
told_all line_of sessions None old new texts texts' h r = tt
told_all line_of sessions (Some lines) None new texts texts' h r = absurd h
told_all line_of sessions (Some lines) (Some x) None texts texts' h r = absurd r
told_all line_of sessions (Some lines) (Some x) (Some y) texts texts' h r =
    let all : lines ≡ h.front = h.cut ∙ ap (λ (ls : List (List ℕ)). h.front ++ ls) r.0 ∙ append-nil h.front in
    let same : texts' ≡ texts = r.2 ∙ append-nil texts in
    subst (λ (p : List (List ℕ) × List (List ℕ)). AreTold sessions p.0 p.1) (λ i. (sym all i, sym same i)) h.told

-- no line was routed yet
pub told_nothing : (sessions : ℕ) (known : Option (List (List ℕ))) (old : Option (List ℕ)) (texts : List (List ℕ)) → known ≡ option_map lines_of old → texts ≡ [] → HasToldSoFar sessions known old texts
told_nothing sessions None old texts is none = tt
told_nothing sessions (Some lines) None texts is none = absurd cc
told_nothing sessions (Some lines) (Some x) texts is none = let e : lines ≡ lines_of x = cc in record { front = []; cut = e; told = none }
