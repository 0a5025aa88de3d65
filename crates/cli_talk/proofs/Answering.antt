-- Lines of a session that are answered one after another.
use Rattle.std.proofs.Common.{◌≡◌, ℕ, ◌+◌, Bool, true, false, List, [], ◌∷◌, ◌++◌, length, length-append, Option, Some, None, refl, ap, sym, subst, ◌∙◌, append_assoc, append-nil, inl, inr}
use Rattle.std.specs.Prelude.{◌||◌}
use Rattle.std.specs.List.{slice_get}
use Rattle.bc_share.specs.Sessions.{SessionView}
use Rattle.cli_requests.specs.Sessions.{lines_for}
use Rattle.cli_talk.specs.Wires.{Takes}
use Rattle.cli_talk.specs.declared.answer.Response.{Response}
use Rattle.cli_talk.specs.Turns.{IsGiven, IsTurn, StopsIn, Turns}
use Rattle.cli_talk.specs.Talks.{AreFirst, IsLineOf, HasAnswered, HasStopped}
use Rattle.cli_talk.proofs.Flows.{takes_none, takes_one, takes_more}

-- more answers may be lost
given_may : (number : ℕ) (a b : Bool) (answered : Response) (text : List ℕ) → (a ≡ true → b ≡ true) → IsGiven number a answered text → IsGiven number b answered text
given_may number a b answered text may (inl whole) = inl whole
given_may number a b answered text may (inr lost) = inr (may lost.0, lost.1)

turn_may : (sessions number : ℕ) (a b : Bool) (line : List ℕ) (old new : SessionView) (text : List ℕ) → (a ≡ true → b ≡ true) → IsTurn sessions number a line old new text → IsTurn sessions number b line old new text
turn_may sessions number a b line old new text may (inl done) = inl (done.0, done.1, given_may number a b done.0 text may done.2)
turn_may sessions number a b line old new text may (inr unread) = inr unread

turns_may : (sessions number : ℕ) (a b : Bool) (lines : List (List ℕ)) (old new : SessionView) (texts : List (List ℕ)) → (a ≡ true → b ≡ true) → Turns sessions number a lines old new texts → Turns sessions number b lines old new texts
turns_may sessions number a b [] old new texts may h = h
turns_may sessions number a b (line ∷ lines) old new texts may (between, text, rest, turn, later, cut) =
    (between, text, rest, turn_may sessions number a b line old between text may turn, turns_may sessions number a b lines between new rest may later, cut)

or_before : (a b : Bool) → a ≡ true → (a || b) ≡ true
or_before a b is = ap (λ (x : Bool). x || b) is

or_now : (a b : Bool) → b ≡ true → (a || b) ≡ true
or_now true b is = refl
or_now false b is = is

turns_more : (sessions number : ℕ) (lossy : Bool) (lines : List (List ℕ)) (line : List ℕ) (old mid new : SessionView) (texts : List (List ℕ)) (text : List ℕ) → Turns sessions number lossy lines old mid texts → IsTurn sessions number lossy line mid new text → Turns sessions number lossy (lines ++ line ∷ []) old new (texts ++ text ∷ [])
turns_more sessions number lossy [] line old mid new texts text h turn = (
  new,
  text,
  [],
  subst (λ (from : SessionView). IsTurn sessions number lossy line from new text) h.0 turn,
  (refl, refl),
  ap (λ (t : List (List ℕ)). t ++ text ∷ []) h.1,
)
turns_more sessions number lossy (l ∷ lines) line old mid new texts text (between, first, rest, here, later, cut) turn = (
  between,
  first,
  rest ++ text ∷ [],
  here,
  turns_more sessions number lossy lines line between mid new rest text later turn,
  ap (λ (t : List (List ℕ)). t ++ text ∷ []) cut,
)

-- what follows some lines
behind : (xs rest : List (List ℕ)) (line : List ℕ) → slice_get (xs ++ rest) (length xs) ≡ Some line → (more : List (List ℕ)) × (rest ≡ line ∷ more)
behind [] [] line h = absurd cc
behind [] (x ∷ rest) line h = let e : x ≡ line = cc in (rest, ap (λ (l : List ℕ). l ∷ rest) e)
behind (x ∷ xs) rest line h = behind xs rest line h

-- one more line
first_more : (sessions session n : ℕ) (known : Option (List (List ℕ))) (front : List (List ℕ)) (line : List ℕ) → AreFirst sessions session known front → length front ≡ n → IsLineOf sessions session n line known → AreFirst sessions session known (front ++ line ∷ [])
first_more sessions session n None front line first sized is = tt
first_more sessions session n (Some lines) front line first sized is =
    let here : slice_get (front ++ first.0) (length front) ≡ Some line =
    ap (λ (i : ℕ). slice_get (front ++ first.0) i) sized ∙ ap (λ (ls : List (List ℕ)). slice_get ls n) (sym first.1) ∙ is in
    let next = behind front first.0 line here in
    (next.0, first.1 ∙ ap (λ (ls : List (List ℕ)). front ++ ls) next.1 ∙ sym (append_assoc front (line ∷ []) next.0))

first_none : (sessions session : ℕ) (known : Option (List (List ℕ))) → AreFirst sessions session known []
first_none sessions session None = tt
first_none sessions session (Some lines) = (lines_for sessions session lines, refl)

pub begins : (sessions session : ℕ) (known : Option (List (List ℕ))) (own : SessionView) (given : Option (List (List ℕ))) → HasAnswered sessions session 0 false known own own given given
begins sessions session known own given = record { lines = []; sized = refl; first = first_none sessions session known; texts = []; turns = (refl, refl); taken = takes_none given }

pub goes_on : (sessions session n : ℕ) (lossy now both : Bool) (known : Option (List (List ℕ))) (old mid new : SessionView) (given given' given'' : Option (List (List ℕ))) (line : List ℕ) → HasAnswered sessions session n lossy known old mid given given' → IsLineOf sessions session n line known
    → (text : List ℕ) × IsTurn sessions session now line mid new text × Takes given' given'' text → both ≡ (lossy || now) → HasAnswered sessions session (n + 1) both known old new given given''
goes_on sessions session n lossy now both known old mid new given given' given'' line h is (text, turn, taken) sum =
    let before : lossy ≡ true → both ≡ true = λ true_before. sum ∙ or_before lossy now true_before in
    let here : now ≡ true → both ≡ true = λ true_now. sum ∙ or_now lossy now true_now in
    record {
      lines = h.lines ++ line ∷ [];
      sized = length-append h.lines (line ∷ []) ∙ ap (λ (i : ℕ). i + 1) h.sized;
      first = first_more sessions session n known h.lines line h.first h.sized is;
      texts = h.texts ++ text ∷ [];
      turns = turns_more sessions session both h.lines line old mid new h.texts text (turns_may sessions session lossy both h.lines old mid h.texts before h.turns) (turn_may sessions session now both line mid new text here turn);
      taken = takes_more given given' given'' h.texts (text ∷ []) h.taken (takes_one given' given'' text taken);
    }

-- no more lines were answered
pub stops : (sessions session n : ℕ) (lossy : Bool) (known : Option (List (List ℕ))) (old new : SessionView) (given given' : Option (List (List ℕ))) → HasAnswered sessions session n lossy known old new given given' → HasStopped sessions session known old new
stops sessions session n lossy known old new given given' h = record {
  lines = h.lines;
  last = [];
  first = subst (AreFirst sessions session known) (sym (append-nil h.lines)) h.first;
  texts = h.texts;
  between = new;
  turns = turns_may sessions session lossy true h.lines old new h.texts (λ is. refl) h.turns;
  left = inl (refl, refl);
}

-- at most the next line was answered, and no text was given for it
pub stops_in : (sessions session n : ℕ) (lossy : Bool) (known : Option (List (List ℕ))) (old mid new : SessionView) (given given' : Option (List (List ℕ))) (line : List ℕ) → HasAnswered sessions session n lossy known old mid given given' → IsLineOf sessions session n line known
    → StopsIn sessions line mid new → HasStopped sessions session known old new
stops_in sessions session n lossy known old mid new given given' line h is (inl same) =
    stops sessions session n lossy known old new given given' (subst (λ (s : SessionView). HasAnswered sessions session n lossy known old s given given') (sym same) h)
stops_in sessions session n lossy known old mid new given given' line h is (inr made) = record {
  lines = h.lines;
  last = line ∷ [];
  first = first_more sessions session n known h.lines line h.first h.sized is;
  texts = h.texts;
  between = mid;
  turns = turns_may sessions session lossy true h.lines old mid h.texts (λ is. refl) h.turns;
  left = inr (line, made.0, refl, made.1);
}

-- no answer was lost
pub none_lost : (sessions session n : ℕ) (lossy : Bool) (known : Option (List (List ℕ))) (old new : SessionView) (given given' : Option (List (List ℕ))) → lossy ≡ false → HasAnswered sessions session n lossy known old new given given' → HasAnswered sessions session n false known old new given given'
none_lost sessions session n lossy known old new given given' is h = subst (λ (b : Bool). HasAnswered sessions session n b known old new given given') is h

-- an answer was lost
pub some_lost : (sessions session n : ℕ) (lossy : Bool) (known : Option (List (List ℕ))) (old new : SessionView) (given given' : Option (List (List ℕ))) → lossy ≡ true → HasAnswered sessions session n lossy known old new given given' → HasAnswered sessions session n true known old new given given'
some_lost sessions session n lossy known old new given given' is h = subst (λ (b : Bool). HasAnswered sessions session n b known old new given given') is h

pub same_place : (sessions j k m n : ℕ) (line : List ℕ) (known : Option (List (List ℕ))) → j ≡ k → m ≡ n → IsLineOf sessions j m line known → IsLineOf sessions k n line known
same_place sessions j k m n line known ek en h = subst (λ (x : ℕ). IsLineOf sessions x n line known) ek (subst (λ (x : ℕ). IsLineOf sessions j x line known) en h)
