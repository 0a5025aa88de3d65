-- What a worker did about the lines of its session.
use Rattle.std.specs.Prelude.{◌≡◌, ◌⊎◌, ℕ, Bool, true, List, [], ◌∷◌, ◌++◌, length, Option, Some, None, option_and_then, option_map, ⊤}
use Rattle.std.specs.List.{slice_get}
use Rattle.bc_share.specs.Sessions.{SessionView}
use Rattle.cli_requests.specs.declared.destination.ParsedLine.{ParsedLine}
use Rattle.cli_requests.specs.Destinations.{IsParsed}
use Rattle.cli_requests.specs.Sessions.{lines_for}
use Rattle.cli_talk.specs.declared.answer.Response.{Response}
use Rattle.cli_talk.specs.Wires.{TakesAll}
use Rattle.cli_talk.specs.Turns.{IsLineAnswered, Turns}

-- this line is the one of this number among those that name a session, if the lines of the input are known
abbrev pub IsLineOf : ℕ → ℕ → ℕ → List ℕ → Option (List (List ℕ)) → Type 0
IsLineOf sessions session number line known = option_and_then (λ lines. slice_get (lines_for sessions session lines) number) known ≡ option_map (λ _. line) known

-- a message: a line that was parsed, and its number among those that name its session
pub record MessageView : Type 0 where
  pub number : ℕ
  pub line : ParsedLine

-- this is what a line was parsed as that is the one of this number among those that name its session, if the lines of the input are known
abbrev pub IsParsedOf : ℕ → ℕ → ParsedLine → Option (List (List ℕ)) → Type 0
IsParsedOf sessions number parsed known = (line : List ℕ) × IsParsed sessions line parsed × IsLineOf sessions parsed.session number line known

-- these are the first lines that name a session, if the lines of the input are known
abbrev pub AreFirst : ℕ → ℕ → Option (List (List ℕ)) → List (List ℕ) → Type 0
AreFirst sessions session None front = ⊤
AreFirst sessions session (Some lines) front = (rest : List (List ℕ)) × (lines_for sessions session lines ≡ front ++ rest)

-- the first lines of a session were answered, this many, in order, each by one text, and the texts were given; some answers may be lost if
-- `lossy` says so
pub record HasAnswered (sessions session number : ℕ) (lossy : Bool) (known : Option (List (List ℕ))) (old new : SessionView) (given given' : Option (List (List ℕ))) : Type 0 where
  pub lines : List (List ℕ)
  pub sized : length lines ≡ number
  pub first : AreFirst sessions session known lines
  pub texts : List (List ℕ)
  pub turns : Turns sessions session lossy lines old new texts
  pub taken : TakesAll given given' texts

-- the first lines of a session were answered in order, though some answers may be lost, and perhaps one more line, for which no text was
-- given
pub record HasStopped (sessions session : ℕ) (known : Option (List (List ℕ))) (old new : SessionView) : Type 0 where
  pub lines : List (List ℕ)
  pub last : List (List ℕ)
  pub first : AreFirst sessions session known (lines ++ last)
  pub texts : List (List ℕ)
  pub between : SessionView
  pub turns : Turns sessions session true lines old between texts
  pub left : ((last ≡ []) × (new ≡ between)) ⊎ ((line : List ℕ) × (answered : Response) × (last ≡ line ∷ []) × IsLineAnswered sessions line answered between new)
