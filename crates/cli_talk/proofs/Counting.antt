-- Lines that are counted for their sessions.
use Rattle.std.proofs.Common.{◌≡◌, ◌≢◌, ℕ, ◌+◌, ◌<◌, Bool, true, false, cond, eqb, List, [], ◌∷◌, ◌++◌, length, Option, Some, None, refl, ap, sym, subst, ◌∙◌, arith, append-nil, append_assoc, eq-eqb, ne_eqb, set, get_or, length-append}
use Rattle.std.specs.Prelude.{slice_index, option_map}
use Rattle.std.specs.List.{slice_get}
use Rattle.std.proofs.lemmas.List.{get_or-set_same, get_or-set_other}
use Rattle.std.proofs.lemmas.List.Elements.{filter-append}
use Rattle.std.proofs.lemmas.Bool.Decides.{nat_tests}
use Rattle.cli_input.specs.declared.line.InputLine.{InputLine}
use Rattle.cli_input.specs.Lines.{lines_of, IsLine, ReadsNext}
use Rattle.cli_requests.specs.declared.destination.ParsedLine.{ParsedLine}
use Rattle.cli_requests.specs.declared.request.TheConstants.{MOST_REQUEST_BYTES}
use Rattle.cli_requests.specs.Destinations.{IsParsed}
use Rattle.cli_requests.specs.Sessions.{session_in, is_at, is_for, lines_for}
use Rattle.cli_talk.specs.Talks.{IsParsedOf}
use Rattle.cli_talk.specs.Counted.{Counts, CountsAll, CountsSoFar}

get_behind : (xs ys : List (List ℕ)) (y : List ℕ) → slice_get (xs ++ y ∷ ys) (length xs) ≡ Some y
get_behind [] ys y = refl
get_behind (x ∷ xs) ys y = get_behind xs ys y

-- the lines of a session, and one more
one_more : (sessions k : ℕ) (front rest : List (List ℕ)) (line : List ℕ) → is_for sessions k line ≡ true → lines_for sessions k (front ++ line ∷ rest) ≡ lines_for sessions k front ++ line ∷ lines_for sessions k rest
one_more sessions k front rest line is =
    filter-append (is_for sessions k) front (line ∷ rest) ∙ ap (λ (b : Bool). lines_for sessions k front ++ cond b (line ∷ lines_for sessions k rest) (lines_for sessions k rest)) is

not_more : (sessions k : ℕ) (front : List (List ℕ)) (line : List ℕ) → is_for sessions k line ≡ false → lines_for sessions k (front ++ line ∷ []) ≡ lines_for sessions k front
not_more sessions k front line is =
    filter-append (is_for sessions k) front (line ∷ []) ∙ ap (λ (b : Bool). lines_for sessions k front ++ cond b (line ∷ []) []) is ∙ append-nil (lines_for sessions k front)

for_itself : (sessions k : ℕ) (line : List ℕ) → session_in sessions line ≡ Some k → is_for sessions k line ≡ true
for_itself sessions k line is = ap (is_at k) is ∙ eq-eqb k k refl

for_another : (sessions k j : ℕ) (line : List ℕ) → session_in sessions line ≡ Some j → j ≢ k → is_for sessions k line ≡ false
for_another sessions k j line is other = ap (is_at k) is ∙ ne_eqb j k other

for_none : (sessions k : ℕ) (line : List ℕ) → session_in sessions line ≡ None → is_for sessions k line ≡ false
for_none sessions k line is = ap (is_at k) is

-- a line is the next of its session
pub placed : (sessions number : ℕ) (counts : List ℕ) (known : Option (List (List ℕ))) (old new : Option (List ℕ)) (line : InputLine) (parsed : ParsedLine) → (parsed.session < sessions) × ((bytes : List ℕ) × IsParsed sessions bytes parsed)
    → CountsSoFar sessions counts known old → ReadsNext MOST_REQUEST_BYTES old new (Some line) → ((bytes : List ℕ) → IsLine MOST_REQUEST_BYTES bytes line → IsParsed sessions bytes parsed) → number ≡ slice_index counts parsed.session → IsParsedOf sessions number parsed known
placed sessions number counts None old new line parsed from h r is here = (from.1.0, from.1.1, refl)
placed sessions number counts (Some lines) None new line parsed from h r is here = absurd h
placed sessions number counts (Some lines) (Some x) None line parsed from h r is here = absurd r
placed sessions number counts (Some lines) (Some x) (Some y) line parsed (low, was) h r is here =
    let session = parsed.session in
    let bytes : List ℕ = r.0 in
    let all : lines ≡ h.front ++ bytes ∷ lines_of y = h.cut ∙ ap (λ (ls : List (List ℕ)). h.front ++ ls) r.1 in
    let mine : lines_for sessions session lines ≡ lines_for sessions session h.front ++ bytes ∷ lines_for sessions session (lines_of y) =
    ap (lines_for sessions session) all ∙ one_more sessions session h.front (lines_of y) bytes (for_itself sessions session bytes (is bytes r.2).named) in
    let place : number ≡ length (lines_for sessions session h.front) = here ∙ h.counted session low in (
      bytes,
      is bytes r.2,
      ap (slice_get (lines_for sessions session lines)) place ∙ ap (λ (ls : List (List ℕ)). slice_get ls (length (lines_for sessions session h.front))) mine
          ∙ get_behind (lines_for sessions session h.front) (lines_for sessions session (lines_of y)) bytes,
    )

-- this line is counted
count_one : (sessions session number : ℕ) (counts : List ℕ) (front : List (List ℕ)) (line : List ℕ) → session < length counts → number ≡ slice_index counts session → session_in sessions line ≡ Some session → Counts sessions counts front
    → (k : ℕ) → k < sessions → (b : Bool) → eqb session k ≡ b → slice_index (set counts session (number + 1)) k ≡ length (lines_for sessions k (front ++ line ∷ []))
count_one sessions session number counts front line within here is counted k low true e =
    let same : session ≡ k = grind (arith, nat_tests) in
    let mine : session_in sessions line ≡ Some k = is ∙ ap Some same in
    let long : length (lines_for sessions k (front ++ line ∷ [])) ≡ length (lines_for sessions k front) + 1 =
    ap length (one_more sessions k front [] line (for_itself sessions k line mine)) ∙ length-append (lines_for sessions k front) (line ∷ []) in
    let was : slice_index counts k ≡ length (lines_for sessions k front) = counted k low in
    let now : slice_index (set counts session (number + 1)) k ≡ number + 1 =
    ap (λ (i : ℕ). get_or (set counts session (number + 1)) i 0) (sym same) ∙ get_or-set_same counts session (number + 1) 0 within in
    now ∙ ap (λ (i : ℕ). i + 1) (here ∙ ap (λ (i : ℕ). slice_index counts i) same ∙ was) ∙ sym long
count_one sessions session number counts front line within here is counted k low false e =
    let other : session ≢ k = λ s. absurd (differ session k e s) in
    get_or-set_other counts session k (number + 1) 0 (λ s. other (sym s)) ∙ counted k low ∙ sym (ap length (not_more sessions k front line (for_another sessions k session line is other)))
  where
    differ : (a b : ℕ) → eqb a b ≡ false → a ≡ b → ⊥
    differ a b f s = let t : eqb a b ≡ true = eq-eqb a b s in cc

pub counts_one : (sessions session number : ℕ) (counts counts' : List ℕ) (known : Option (List (List ℕ))) (old new : Option (List ℕ)) (line : InputLine) → session < length counts → counts' ≡ set counts session (number + 1) → CountsSoFar sessions counts known old
    → ReadsNext MOST_REQUEST_BYTES old new (Some line) → ((bytes : List ℕ) → IsLine MOST_REQUEST_BYTES bytes line → session_in sessions bytes ≡ Some session) → number ≡ slice_index counts session → CountsSoFar sessions counts' known new
counts_one sessions session number counts counts' None old new line within now h r is here = tt
counts_one sessions session number counts counts' (Some lines) None new line within now h r is here = absurd h
counts_one sessions session number counts counts' (Some lines) (Some x) None line within now h r is here = absurd r
counts_one sessions session number counts counts' (Some lines) (Some x) (Some y) line within now h r is here = record {
  front = h.front ++ r.0 ∷ [];
  cut = h.cut ∙ ap (λ (ls : List (List ℕ)). h.front ++ ls) r.1 ∙ sym (append_assoc h.front (r.0 ∷ []) (lines_of y));
  counted = subst (λ (cs : List ℕ). Counts sessions cs (h.front ++ r.0 ∷ [])) (sym now) (λ k low. count_one sessions session number counts h.front r.0 within here (is r.0 r.2) h.counted k low (eqb session k) refl);
}

pub counts_none : (sessions : ℕ) (counts : List ℕ) (known : Option (List (List ℕ))) (old new : Option (List ℕ)) (line : InputLine) → CountsSoFar sessions counts known old
    → ReadsNext MOST_REQUEST_BYTES old new (Some line) → ((bytes : List ℕ) → IsLine MOST_REQUEST_BYTES bytes line → session_in sessions bytes ≡ None) → CountsSoFar sessions counts known new
counts_none sessions counts None old new line h r is = tt
counts_none sessions counts (Some lines) None new line h r is = absurd h
counts_none sessions counts (Some lines) (Some x) None line h r is = absurd r
counts_none sessions counts (Some lines) (Some x) (Some y) line h r is = record {
  front = h.front ++ r.0 ∷ [];
  cut = h.cut ∙ ap (λ (ls : List (List ℕ)). h.front ++ ls) r.1 ∙ sym (append_assoc h.front (r.0 ∷ []) (lines_of y));
  counted = λ k low. h.counted k low ∙ sym (ap length (not_more sessions k h.front r.0 (for_none sessions k r.0 (is r.0 r.2))));
}

-- there is no line left
pub counts_all : (sessions : ℕ) (counts : List ℕ) (known : Option (List (List ℕ))) (old new : Option (List ℕ)) → CountsSoFar sessions counts known old → ReadsNext MOST_REQUEST_BYTES old new None → CountsAll sessions counts known
counts_all sessions counts None old new h r = tt
counts_all sessions counts (Some lines) None new h r = absurd h
counts_all sessions counts (Some lines) (Some x) None h r = absurd r
counts_all sessions counts (Some lines) (Some x) (Some y) h r =
    let all : lines ≡ h.front = h.cut ∙ ap (λ (ls : List (List ℕ)). h.front ++ ls) r.0 ∙ append-nil h.front in
    subst (λ (ls : List (List ℕ)). Counts sessions counts ls) (sym all) h.counted

-- nothing is counted yet
pub counts_nothing : (sessions : ℕ) (counts : List ℕ) (known : Option (List (List ℕ))) (old : Option (List ℕ)) → known ≡ option_map lines_of old → ((k : ℕ) → k < sessions → slice_index counts k ≡ 0) → CountsSoFar sessions counts known old
counts_nothing sessions counts None old is zeros = tt
counts_nothing sessions counts (Some lines) None is zeros = absurd cc
counts_nothing sessions counts (Some lines) (Some x) is zeros = let e : lines ≡ lines_of x = cc in record { front = []; cut = e; counted = zeros }
