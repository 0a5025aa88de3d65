-- What workers leave of their sessions.
use Rattle.std.specs.Prelude.{◌≡◌, ℕ, ◌<◌, ◌≤◌, false, List, [], ◌∷◌, ◌++◌, length, slice_index_or, Option, Some, None, Result, IfOk, OnOk, OnErr, option_map, ⊤}
use Rattle.std.specs.List.{All}
use Rattle.bc_share.specs.Sessions.{SessionView, new_session}
use Rattle.cli_input.specs.Lines.{lines_of}
use Rattle.cli_output.specs.Pens.{PenView}
use Rattle.cli_requests.specs.Sessions.{lines_for}
use Rattle.cli_talk.specs.declared.fault.TalkFault.{TalkFault}
use Rattle.cli_talk.specs.Turns.{Turns}
use Rattle.cli_talk.specs.Talks.{HasAnswered, HasStopped}
use Rattle.cli_talk.specs.Routed.{GoesTo}
use Rattle.cli_serve.specs.declared.stop.ServeStop.{ServeStop}

-- the lines of an input with these bytes left, if they are known
abbrev pub lines_left : Option (List ℕ) → Option (List (List ℕ))
lines_left known = option_map lines_of known

-- these are new sessions of a conversation, at most 16
pub record AreNew (sessions : ℕ) (all : List SessionView) : Type 0 where
  pub few : sessions ≤ 16
  pub sized : length all ≡ sessions
  pub each : All (λ (s : SessionView). s ≡ new_session 0 s.number) all

-- the session has this number, in a database with the tag 0
abbrev pub IsOwn : ℕ → SessionView → Type 0
IsOwn number session = (session.tag ≡ 0) × (session.number ≡ number)

-- A new session answered the first lines that name it, in order, as many as it says, by exactly these texts. Or it stopped after it
-- answered some: some of its answers may be lost, and it may have answered one more line without a text.
pub record HasTalked (sessions number : ℕ) (known : Option (List (List ℕ))) (new : SessionView) (texts : List (List ℕ)) (ended : Result ℕ TalkFault) : Type 0 where
  pub own : IsOwn number new
  pub answered : IfOk ended (λ count. HasAnswered sessions number count false known (new_session 0 number) new (Some []) (Some texts))
  pub stopped : OnErr ended (HasStopped sessions number known (new_session 0 number) new)

-- these are the lines that name a session, if the lines of the input are known
abbrev pub AreAll : ℕ → ℕ → Option (List (List ℕ)) → List (List ℕ) → Type 0
AreAll sessions number None lines = ⊤
AreAll sessions number (Some known) lines = lines ≡ lines_for sessions number known

-- A new session answered the lines that name it, in order, with one text each. Its own list is the calls of those lines that were made, in
-- order, each once, and no others.
pub record IsWhole (sessions number : ℕ) (known : Option (List (List ℕ))) (new : SessionView) : Type 0 where
  pub lines : List (List ℕ)
  pub all : AreAll sessions number known lines
  pub texts : List (List ℕ)
  pub turns : Turns sessions number false lines (new_session 0 number) new texts

-- A new session answered the lines that name it, in order, with these texts, one each. Its own list is the calls of those lines that were
-- made, in order, each once, and no others.
pub record IsWholeBy (sessions number : ℕ) (known : Option (List (List ℕ))) (new : SessionView) (texts : List (List ℕ)) : Type 0 where
  pub lines : List (List ℕ)
  pub all : AreAll sessions number known lines
  pub turns : Turns sessions number false lines (new_session 0 number) new texts

-- each of these sessions has the number of its place
abbrev pub AreOwn : List SessionView → Type 0
AreOwn all = (k : ℕ) (d : SessionView) → k < length all → IsOwn k (slice_index_or all k d)

-- each of these sessions answered its lines
abbrev pub AreWhole : ℕ → Option (List (List ℕ)) → List SessionView → Type 0
AreWhole sessions known all = (k : ℕ) (d : SessionView) → k < length all → IsWhole sessions k known (slice_index_or all k d)

-- these are the pens of the authors from 0, each in its place
abbrev pub AreNumbered : List PenView → Type 0
AreNumbered pens = (k : ℕ) (d : PenView) → k < length pens → (slice_index_or pens k d).number ≡ k

-- each of these sessions answered its lines by what was printed with the pen of its place
abbrev pub AreWholeBy : ℕ → Option (List (List ℕ)) → List SessionView → List PenView → Type 0
AreWholeBy sessions known all pens =
    (k : ℕ) (d : SessionView) (e : PenView) → k < length all → IsWholeBy sessions k known (slice_index_or all k d) (slice_index_or pens k e).texts

-- These are the texts of the router for these lines, in order: none for a line that names a session, and for any other line one that says
-- what is wrong with it.
abbrev pub AreTold : ℕ → List (List ℕ) → List (List ℕ) → Type 0
AreTold sessions [] texts = texts ≡ []
AreTold sessions (line ∷ lines) texts =
    (named : Option ℕ) × (now : List (List ℕ)) × (later : List (List ℕ)) × GoesTo sessions line named now × AreTold sessions lines later × (texts ≡ now ++ later)

-- these are the texts of the router for the lines of an input, if they are known
abbrev pub AreAllTold : ℕ → Option (List (List ℕ)) → List (List ℕ) → Type 0
AreAllTold sessions None texts = ⊤
AreAllTold sessions (Some lines) texts = AreTold sessions lines texts

-- A conversation has these sessions, their pens, and the router's pen, whose number is the number of sessions, and ended like this. If it
-- ended well, each session answered its lines, and the router those that name no session.
pub record IsTalk (sessions : ℕ) (known : Option (List (List ℕ))) (all : List SessionView) (pens : List PenView) (router : PenView) (ended : Result Unit ServeStop) : Type 0 where
  pub sized : length all ≡ sessions
  pub own : AreOwn all
  pub counted : length pens ≡ sessions
  pub numbered : AreNumbered pens
  pub last : router.number ≡ sessions
  pub whole : OnOk ended (AreWholeBy sessions known all pens)
  pub told : OnOk ended (AreAllTold sessions known router.texts)
