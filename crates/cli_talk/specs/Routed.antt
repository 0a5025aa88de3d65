-- What the router does with a line.
use Rattle.std.specs.Prelude.{◌≡◌, ℕ, List, [], ◌∷◌, Option, Some, None, option_map, IfSome, Result, IfOk, ⊤}
use Rattle.cli_input.specs.Lines.{lines_of}
use Rattle.cli_requests.specs.declared.destination.ParsedLine.{ParsedLine}
use Rattle.cli_requests.specs.Destinations.{IsParsed}
use Rattle.cli_requests.specs.Sessions.{session_in}
use Rattle.cli_talk.specs.declared.fault.TalkFault.{TalkFault}
use Rattle.cli_talk.specs.declared.router.RoutedLine.{RoutedLine}
use Rattle.cli_talk.specs.declared.router.RoutedLine.TheVariants.{End, Told, Sent}
use Rattle.cli_talk.specs.Wires.{TakesAll}
use Rattle.cli_talk.specs.Turns.{IsTold}

-- a line goes to the session that it names, and is not answered here; or it names none, and is answered here by one text
abbrev pub GoesTo : ℕ → List ℕ → Option ℕ → List (List ℕ) → Type 0
GoesTo sessions line None texts = (session_in sessions line ≡ None) × ((text : List ℕ) × (texts ≡ text ∷ []) × IsTold sessions line text)
GoesTo sessions line (Some session) texts = (session_in sessions line ≡ Some session) × (texts ≡ [])

-- the first of some lines was sent to its session, parsed, or was answered
pub record RoutesFirst (sessions : ℕ) (lines left : List (List ℕ)) (sent : Option ParsedLine) (given given' : Option (List (List ℕ))) : Type 0 where
  pub line : List ℕ
  pub cut : lines ≡ line ∷ left
  pub texts : List (List ℕ)
  pub goes : GoesTo sessions line (option_map (λ (parsed : ParsedLine). parsed.session) sent) texts
  pub parsed : IfSome sent (IsParsed sessions line)
  pub taken : TakesAll given given' texts

-- some lines are at their end, and no text was given
abbrev pub RoutesNone : List (List ℕ) → List (List ℕ) → Option (List (List ℕ)) → Option (List (List ℕ)) → Type 0
RoutesNone lines left given given' = (lines ≡ []) × (left ≡ []) × TakesAll given given' []

-- the first of some lines was routed, or there is none
abbrev pub RoutesLine : {M : Type 0} → (M → ParsedLine) → ℕ → List (List ℕ) → List (List ℕ) → RoutedLine M → Option (List (List ℕ)) → Option (List (List ℕ)) → Type 0
RoutesLine line_of sessions lines left End given given' = RoutesNone lines left given given'
RoutesLine line_of sessions lines left Told given given' = RoutesFirst sessions lines left None given given'
RoutesLine line_of sessions lines left (Sent message) given given' = RoutesFirst sessions lines left (Some (line_of message)) given given'

-- the first line of an input was routed, or there is none, if the bytes of the input are known
abbrev pub RoutesNext : {M : Type 0} → (M → ParsedLine) → ℕ → Option (List ℕ) → Option (List ℕ) → RoutedLine M → Option (List (List ℕ)) → Option (List (List ℕ)) → Type 0
RoutesNext line_of sessions None left routed given given' = ⊤
RoutesNext line_of sessions (Some bytes) None routed given given' = ⊥
RoutesNext line_of sessions (Some bytes) (Some left) routed given given' = RoutesLine line_of sessions (lines_of bytes) (lines_of left) routed given given'

-- the next line of an input was routed, unless something failed: to the session that it names, parsed as in its message
abbrev pub Routes : {M I P : Type 0} → (M → ParsedLine) → ℕ → Result (RoutedLine M) TalkFault → (I → Option (List ℕ)) → I → I → (P → Option (List (List ℕ))) → P → P → Type 0
Routes line_of sessions result remaining input input' given replies replies' =
    IfOk result (λ routed. RoutesNext line_of sessions (remaining input) (remaining input') routed (given replies) (given replies'))
