-- Texts that cannot be read.
use Rattle.std.proofs.Common.{◌≡◌, ◌⊎◌, inl, inr, ℕ, List, sym, subst}
use Rattle.serde_json.specs.Data.{Data}
use Rattle.bc_names.specs.Names.{NameParts}
use Rattle.bc_text.specs.declared.fault.ReadFault.{ReadFault}
use Rattle.bc_text.specs.declared.fault.ReadFault.TheVariants as causes
use Rattle.cli_requests.specs.declared.fault.RequestFault.{RequestFault}
use Rattle.cli_requests.specs.declared.fault.RequestFault.TheVariants.{TooLong, Text}
use Rattle.cli_requests.specs.declared.fault.TextFault.{TextFault}
use Rattle.cli_requests.specs.declared.fault.RequestStop.{RequestStop}
use Rattle.cli_requests.specs.declared.fault.RequestStop.TheVariants.{Fault, NoMemory}
use Rattle.cli_requests.specs.declared.verb.Verb.TheVariants.{Put}
use Rattle.cli_requests.specs.Asking.{Calls, HasName, HasText}
use Rattle.cli_requests.specs.Faults.{HasBadText, IsTextFault, IsWrong, Stops, Tells}

-- a text's fault has one of two forms
told_as : (text : List ℕ) (cause : ReadFault) (fault : RequestFault) → Tells text cause fault → (fault ≡ TooLong) ⊎ ((it : TextFault) × (fault ≡ Text it))
told_as text causes.TooLong fault tells = inl tells
told_as text (causes.NotAscii at) fault tells = inr (_, tells)
told_as text (causes.Token at) fault tells = inr (_, tells)
told_as text (causes.Grammar at) fault tells = inr (_, tells)
told_as text (causes.Limit at) fault tells = inr (_, tells)
told_as text causes.NoMemory fault tells = absurd tells

wrong_as : (value : Data) (fault : RequestFault) → HasBadText value fault → (fault ≡ TooLong) ⊎ ((it : TextFault) × (fault ≡ Text it)) → IsWrong value fault
wrong_as value fault bad (inl is) = subst (IsWrong value) (sym is) (subst (HasBadText value) is bad)
wrong_as value fault bad (inr (it, is)) = subst (IsWrong value) (sym is) (subst (HasBadText value) is bad)

-- a request for a put is wrong if it is right up to its text, which cannot be read
pub bad_body : (value : Data) (name : NameParts) (text : List ℕ) (stop : RequestStop) → Calls value Put → HasName value name → HasText value text → Stops (IsTextFault Put text) stop → Stops (IsWrong value) stop
bad_body value name text (Fault fault) calls named has unread =
    wrong_as value fault (record { verb = Put; right = (calls, (name, named)); text = text; has = has; unread = unread }) (told_as text unread.0 fault unread.2)
bad_body value name text NoMemory calls named has unread = tt
