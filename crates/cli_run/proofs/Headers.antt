-- Header lines that ask nothing of any session.
use Rattle.std.proofs.Common.{◌≡◌, ℕ, List, ◌++◌, Option, Some, None, sym, ◌∙◌, append_assoc}
use Rattle.std.specs.Prelude.{IfNone, codes}
use Rattle.std.proofs.lemmas.List.{append_cancel_left}
use Rattle.cli_file.specs.declared.heading.Heading.{Heading}
use Rattle.cli_file.specs.Headings.{IsHeading, IsNamed, heading_text}

-- no space follows the number
pub no_blank : {S : Type 0} (header behind rest number : List ℕ) (r : Option S) → header ≡ codes "@" ++ behind → behind ≡ number ++ rest → IfNone r ((words : List ℕ) → rest ≡ codes " " ++ words → ⊥) → IfNone r ((words : List ℕ) → header ≡ codes "@" ++ (number ++ codes " ") ++ words → ⊥)
no_blank header behind rest number None at is none = λ words all. none words (append_cancel_left number rest (codes " " ++ words) (sym is ∙ append_cancel_left (codes "@") behind _ (sym at ∙ all) ∙ append_assoc number (codes " ") words))
no_blank header behind rest number (Some x) at is none = tt

-- no heading follows the session
pub no_heading : (header maker words : List ℕ) (r : Option Heading) → header ≡ codes "@" ++ maker ++ words → IfNone r ((heading : Heading) → IsHeading heading words → ⊥) → IfNone r ((heading : Heading) → IsNamed heading × (header ≡ codes "@" ++ maker ++ heading_text heading) → ⊥)
no_heading header maker words None is none = λ heading at. none heading (at.0, append_cancel_left maker words (heading_text heading) (append_cancel_left (codes "@") (maker ++ words) _ (sym is ∙ at.1)))
no_heading header maker words (Some x) is none = tt
