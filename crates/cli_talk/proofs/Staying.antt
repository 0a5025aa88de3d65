-- A session stays the same session.
use Rattle.std.proofs.Common.{◌≡◌, ℕ, Bool, true, List, [], ◌∷◌, Option, ap, ◌∙◌, inl, inr}
use Rattle.bc_share.specs.Sessions.{SessionView}
use Rattle.cli_requests.specs.declared.request.Request.{Request}
use Rattle.cli_requests.specs.declared.request.Request.TheVariants.{Good, Bad}
use Rattle.cli_requests.specs.declared.request.Wanted.{Wanted}
use Rattle.cli_requests.specs.declared.request.Wanted.TheVariants.{Call, Glance}
use Rattle.cli_answers.specs.declared.answer.Answer.{Answer}
use Rattle.cli_answers.specs.declared.answer.Answer.TheVariants.{Entered, Glanced, Refused, Wrong}
use Rattle.cli_talk.specs.declared.answer.Response.{Response}
use Rattle.cli_talk.specs.Turns.{IsAnswerTo, IsReplyTo, IsStill, IsTurn, Turns}
use Rattle.cli_talk.specs.Talks.{HasAnswered, HasStopped}

same_still : (old new : SessionView) → new ≡ old → IsStill old new
same_still old new is = (ap (λ (s : SessionView). s.tag) is, ap (λ (s : SessionView). s.number) is)

still_again : (old mid new : SessionView) → IsStill old mid → IsStill mid new → IsStill old new
still_again old mid new first second = (second.0 ∙ first.0, second.1 ∙ first.1)

wanted_still : (wanted : Wanted) (answer : Answer) (old new : SessionView) → IsAnswerTo wanted answer old new → IsStill old new
wanted_still (Call asked) (Entered number event) old new h = (h.1.tag, h.1.number)
wanted_still (Call asked) (Glanced found) old new h = absurd h
wanted_still (Call asked) (Refused refusal) old new h = (h.tag, h.number)
wanted_still (Call asked) (Wrong fault) old new h = absurd h
wanted_still (Glance name) (Entered number event) old new h = absurd h
wanted_still (Glance name) (Glanced found) old new h = (h.0.tag, h.0.number)
wanted_still (Glance name) (Refused refusal) old new h = (h.0.tag, h.0.number)
wanted_still (Glance name) (Wrong fault) old new h = absurd h

reply_still : (request : Request) (answered : Response) (old new : SessionView) → IsReplyTo request answered old new → IsStill old new
reply_still (Good id session wanted) answered old new h = wanted_still wanted answered.answer old new h.2
reply_still (Bad id session fault) answered old new h = same_still old new h.3

turn_still : (sessions number : ℕ) (lossy : Bool) (line : List ℕ) (old new : SessionView) (text : List ℕ) → IsTurn sessions number lossy line old new text → IsStill old new
turn_still sessions number lossy line old new text (inl done) = reply_still done.1.request done.0 old new done.1.answers
turn_still sessions number lossy line old new text (inr unread) = same_still old new unread.0

turns_still : (sessions number : ℕ) (lossy : Bool) (lines : List (List ℕ)) (old new : SessionView) (texts : List (List ℕ)) → Turns sessions number lossy lines old new texts → IsStill old new
turns_still sessions number lossy [] old new texts h = same_still old new h.0
turns_still sessions number lossy (line ∷ lines) old new texts (between, text, rest, turn, later, cut) =
    still_again old between new (turn_still sessions number lossy line old between text turn) (turns_still sessions number lossy lines between new rest later)

-- after it answered lines
pub answered_still : (sessions session n : ℕ) (lossy : Bool) (known : Option (List (List ℕ))) (old new : SessionView) (given given' : Option (List (List ℕ))) → HasAnswered sessions session n lossy known old new given given' → IsStill old new
answered_still sessions session n lossy known old new given given' h = turns_still sessions session lossy h.lines old new h.texts h.turns

-- after it stopped
pub stopped_still : (sessions session : ℕ) (known : Option (List (List ℕ))) (old new : SessionView) → HasStopped sessions session known old new → IsStill old new
stopped_still sessions session known old new h = still_again old h.between new (turns_still sessions session true h.lines old h.between h.texts h.turns) (elim h.left [
  | inl none ↦ same_still h.between new none.1
  | inr made ↦ reply_still made.3.request made.1 h.between new made.3.answers
])
