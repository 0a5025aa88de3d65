use Rattle.std.proofs.Common.{◌≡◌, ap, codes, sym, subst, ◌∙◌, rules}
use Rattle.serde_json.specs.Data.{Data, Members, number, unsigned, object, member, no_members, put}
use Rattle.serde_json.specs.View.{view, members_view}
use Rattle.serde_json.specs.declared.value.Value.{Object, the_lemmas}
use Rattle.serde_json.proofs.Views.{view-Object}
use Rattle.cli_entries.specs.Replies.{reply_key}
use Rattle.cli_entries.specs.Json.{entry_json}
use Rattle.cli_entries.proofs.Objects.{IsWritten, entry_written}
use Rattle.cli_entries.proofs.entries.entry_value.Goals as goal

pub returns : goal.returns
returns c =
    let entry = c.args.entry.now in
    let got = c.in_ok-put_entry.ensures in
    let first : members_view c.put.new.map.entries ≡ member (codes "session") (number (unsigned entry.session)) no_members = search (rules, the_lemmas) in
    let built : view (Object c.put_entry.new.members) ≡ object (put (reply_key entry.event) got.0 (put (codes "number") (number (unsigned entry.number)) (member (codes "session") (number (unsigned entry.session)) no_members))) =
    view-Object c.put_entry.new.members ∙ ap object (got.2 ∙ ap (λ (members : Members). put (reply_key entry.event) got.0 (put (codes "number") (number (unsigned entry.number)) members)) first) in
    subst (λ (value : Data). IsWritten value (entry_json entry)) (sym built) (entry_written entry.session entry.number entry.event got.0 got.1)
