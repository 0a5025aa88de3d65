-- The turns of a conversation: a line of a session, and the line that answers it.
use Rattle.std.specs.Prelude.{◌≡◌, ◌⊎◌, ℕ, Bool, true, List, [], ◌∷◌, ◌++◌, length, decimal, codes, Some, None}
use Rattle.std.specs.Arc.{arc_value}
use Rattle.std.specs.Option.{option_map}
use Rattle.bc_book.specs.declared.ledger.Refusal.TheVariants.{NoMemory}
use Rattle.bc_calls.specs.Answers.{IsAnswer}
use Rattle.bc_calls.specs.Calls.{call_of}
use Rattle.bc_share.specs.Sessions.{SessionView, IsAnswered, IsSame, Stays}
use Rattle.cli_requests.specs.declared.fault.RequestFault.{RequestFault}
use Rattle.cli_requests.specs.declared.id.Id.{Id}
use Rattle.cli_requests.specs.declared.request.Request.{Request}
use Rattle.cli_requests.specs.declared.request.Request.TheVariants.{Good, Bad}
use Rattle.cli_requests.specs.declared.request.Wanted.{Wanted}
use Rattle.cli_requests.specs.declared.request.Wanted.TheVariants.{Call, Glance}
use Rattle.cli_requests.specs.Ids.{id_data}
use Rattle.cli_requests.specs.Requests.{IsRequest}
use Rattle.cli_answers.specs.declared.answer.Answer.{Answer}
use Rattle.cli_answers.specs.declared.answer.Answer.TheVariants.{Entered, Glanced, Refused, Wrong}
use Rattle.cli_answers.specs.Answers.{IsAnswerLine}
use Rattle.cli_talk.specs.declared.answer.Response.{Response}

-- the session is the same, whatever calls it made
abbrev pub IsStill : SessionView → SessionView → Type 0
IsStill old new = (new.tag ≡ old.tag) × (new.number ≡ old.number)

-- A session did what was asked of it, and this is the answer: the call that it made, with the reply and the number of its earlier calls; or
-- what is published for the name, and its own list is unchanged. Or it was refused, and its own list is unchanged.
abbrev pub IsAnswerTo : Wanted → Answer → SessionView → SessionView → Type 0
IsAnswerTo (Call asked) (Entered number event) old new = (call_of event ≡ asked) × IsAnswered event old new × (number ≡ length old.own)
IsAnswerTo (Call asked) (Glanced found) old new = ⊥
IsAnswerTo (Call asked) (Refused refusal) old new = IsSame old new
IsAnswerTo (Call asked) (Wrong fault) old new = ⊥
IsAnswerTo (Glance name) (Entered number event) old new = ⊥
IsAnswerTo (Glance name) (Glanced found) old new = Stays old new × IsAnswer new.seen name (option_map arc_value found)
IsAnswerTo (Glance name) (Refused refusal) old new = Stays old new × (refusal ≡ NoMemory)
IsAnswerTo (Glance name) (Wrong fault) old new = ⊥

-- a request was answered: its id and its session are repeated, and what it asks for was done, or what is wrong with it is reported and
-- nothing else happened
abbrev pub IsReplyTo : Request → Response → SessionView → SessionView → Type 0
IsReplyTo (Good id session wanted) answered old new = (id_data answered.id ≡ id_data id) × (answered.session ≡ Some session) × IsAnswerTo wanted answered.answer old new
IsReplyTo (Bad id session fault) answered old new = (id_data answered.id ≡ id_data id) × (answered.session ≡ session) × (answered.answer ≡ Wrong fault) × (new ≡ old)

-- the line of an answer, with its line feed
abbrev pub IsWholeLine : Response → List ℕ → Type 0
IsWholeLine answered text = (line : List ℕ) × IsAnswerLine (id_data answered.id) answered.session answered.answer line × (text ≡ line ++ 10 ∷ [])

-- a line was read as a request, which was answered like this
pub record IsLineAnswered (sessions : ℕ) (line : List ℕ) (answered : Response) (old new : SessionView) : Type 0 where
  pub request : Request
  pub is : IsRequest sessions line request
  pub answers : IsReplyTo request answered old new

-- the line that reports, in these words, that memory ran out in the session of this number
abbrev pub lost_line : List ℕ → ℕ → List ℕ
lost_line words session = codes "{\"fault\":\"" ++ words ++ codes "\",\"id\":null,\"session\":" ++ decimal session ++ codes "}\n"

-- there was no memory to read a line: nothing was done for it, and this text says so
abbrev pub IsUnread : ℕ → SessionView → SessionView → List ℕ → Type 0
IsUnread number old new text = (new ≡ old) × (text ≡ lost_line (codes "no memory") number)

-- this text is the line of an answer; or, if answers may be lost, it says that there was no memory for that
abbrev pub IsGiven : ℕ → Bool → Response → List ℕ → Type 0
IsGiven number lossy answered text = IsWholeLine answered text ⊎ ((lossy ≡ true) × (text ≡ lost_line (codes "no memory for the answer") number))

-- a line of the session of this number was answered by this text, or there was no memory to read it
abbrev pub IsTurn : ℕ → ℕ → Bool → List ℕ → SessionView → SessionView → List ℕ → Type 0
IsTurn sessions number lossy line old new text =
    ((answered : Response) × IsLineAnswered sessions line answered old new × IsGiven number lossy answered text) ⊎ IsUnread number old new text

-- nothing was done for a line, or it was answered, whatever happened to the text
abbrev pub StopsIn : ℕ → List ℕ → SessionView → SessionView → Type 0
StopsIn sessions line old new = (new ≡ old) ⊎ ((answered : Response) × IsLineAnswered sessions line answered old new)

-- each line was answered, in order, by a text of its own
abbrev pub Turns : ℕ → ℕ → Bool → List (List ℕ) → SessionView → SessionView → List (List ℕ) → Type 0
Turns sessions number lossy [] old new texts = (new ≡ old) × (texts ≡ [])
Turns sessions number lossy (line ∷ lines) old new texts =
    (between : SessionView) × (text : List ℕ) × (rest : List (List ℕ)) × IsTurn sessions number lossy line old between text × Turns sessions number lossy lines between new rest × (texts ≡ text ∷ rest)

-- the answer to a line of this id that names no session
abbrev pub wrong_answer : Id → RequestFault → Response
wrong_answer id fault = record { id = id; session = None; answer = Wrong fault }

-- a line names no session, and this text has its id and what is wrong with it
pub record IsTold (sessions : ℕ) (line text : List ℕ) : Type 0 where
  pub id : Id
  pub fault : RequestFault
  pub is : IsRequest sessions line (Bad id None fault)
  pub written : IsWholeLine (wrong_answer id fault) text
