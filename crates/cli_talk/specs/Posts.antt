-- What a worker did for its session, of how many sessions.
use Rattle.std.specs.Prelude.{ℕ, Bool, true, List, Option}
use Rattle.bc_share.specs.Sessions.{SessionView}
use Rattle.cli_talk.specs.Wires.{Takes}
use Rattle.cli_talk.specs.Turns.{IsTurn}
use Rattle.cli_talk.specs.Talks.{HasAnswered}

-- a line of a session was answered by a text, and this text was given
abbrev pub AnswersLine : ℕ → ℕ → Bool → List ℕ → SessionView → SessionView → Option (List (List ℕ)) → Option (List (List ℕ)) → Type 0
AnswersLine sessions number lossy line old new given given' = (text : List ℕ) × IsTurn sessions number lossy line old new text × Takes given given' text

-- the first lines of a session were answered, and there was no memory for some of the answers
abbrev pub LosesSome : ℕ → ℕ → Option (List (List ℕ)) → SessionView → SessionView → Option (List (List ℕ)) → Option (List (List ℕ)) → Type 0
LosesSome sessions number known old new given given' = (count : ℕ) × HasAnswered sessions number count true known old new given given'
