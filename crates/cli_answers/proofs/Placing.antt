-- The object of a call that was made, with its members in their order.
use Rattle.std.proofs.Common.{◌≡◌, ℕ, Option, codes, refl}
use Rattle.serde_json.specs.Data.{Data, number, unsigned, object, member, no_members, put}
use Rattle.bc_calls.specs.declared.call.Event.{Event}
use Rattle.bc_calls.specs.declared.call.Event.TheVariants.{Types, Put, Remove, Ask, All as EveryRoot}
use Rattle.cli_entries.specs.Replies.{reply_key}
use Rattle.cli_answers.specs.Answers.{entry_data, session_data}

pub placed : (id : Data) (session : Option ℕ) (before : ℕ) (event : Event) (reply : Data)
    → object (put (reply_key event) reply (put (codes "number") (number (unsigned before)) (member (codes "id") id (member (codes "session") (session_data session) no_members))))
    ≡ entry_data id session before (reply_key event) reply
placed id session before (Types types) reply = refl
placed id session before (Put name body word) reply = refl
placed id session before (Remove name word) reply = refl
placed id session before (Ask name outcome) reply = refl
placed id session before (EveryRoot rows) reply = refl
