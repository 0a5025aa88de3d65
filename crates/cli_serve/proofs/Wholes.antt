-- A session that answered as many lines as the router counted answered all.
use Rattle.std.proofs.Common.{◌≡◌, ℕ, ◌+◌, ◌<◌, false, List, [], ◌++◌, length, length-append, Option, Some, None, sym, ap, ◌∙◌, subst, arith, append-nil}
use Rattle.std.specs.Prelude.{slice_index}
use Rattle.std.proofs.lemmas.List.{nil_from_length}
use Rattle.bc_share.specs.Sessions.{SessionView, new_session}
use Rattle.cli_requests.specs.Sessions.{lines_for}
use Rattle.cli_talk.specs.Counted.{CountsAll}
use Rattle.cli_talk.specs.Talks.{AreFirst, HasAnswered}
use Rattle.cli_talk.specs.Turns.{Turns}
use Rattle.cli_serve.specs.Talked.{AreAll, IsWholeBy}

all_first : (sessions number count : ℕ) (counts : List ℕ) (known : Option (List (List ℕ))) (front : List (List ℕ)) → AreFirst sessions number known front → length front ≡ count → CountsAll sessions counts known → number < sessions → slice_index counts number ≡ count → AreAll sessions number known front
all_first sessions number count counts None front first sized counted low is = tt
all_first sessions number count counts (Some lines) front first sized counted low is =
    let long : length (lines_for sessions number lines) ≡ length front + length first.0 = ap length first.1 ∙ length-append front first.0 in
    let same : slice_index counts number ≡ length (lines_for sessions number lines) = counted number low in
    let none : first.0 ≡ [] = nil_from_length first.0 (omega (arith, long, same, is, sized)) in
    sym (first.1 ∙ ap (λ (ls : List (List ℕ)). front ++ ls) none ∙ append-nil front)

pub whole : (sessions number count : ℕ) (counts : List ℕ) (known : Option (List (List ℕ))) (new : SessionView) (texts : List (List ℕ)) → HasAnswered sessions number count false known (new_session 0 number) new (Some []) (Some texts) → CountsAll sessions counts known → number < sessions → slice_index counts number ≡ count → IsWholeBy sessions number known new texts
whole sessions number count counts known new texts h counted low is = record {
  lines = h.lines;
  all = all_first sessions number count counts known h.lines h.first h.sized counted low is;
  turns = subst (Turns sessions number false h.lines (new_session 0 number) new) (sym h.taken) h.turns;
}
