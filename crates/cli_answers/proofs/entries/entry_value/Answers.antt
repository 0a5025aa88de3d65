use Rattle.std.proofs.Common.{ap, codes, ◌∙◌}
use Rattle.serde_json.specs.Data.{Members, number, unsigned, object, put}
use Rattle.serde_json.proofs.Views.{view-Object}
use Rattle.cli_requests.specs.Ids.{id_data}
use Rattle.cli_entries.specs.Replies.{reply_key}
use Rattle.cli_answers.proofs.Placing.{placed}
use Rattle.cli_answers.proofs.entries.entry_value.Goals as goal

pub returns : goal.returns
returns c =
    let event = c.args.event.now in
    let got = c.in_ok-put_entry.ensures in (
      got.0,
      got.1,
      view-Object c.put_entry.new.members
          ∙ ap object (got.2 ∙ ap (λ (members : Members). put (reply_key event) got.0 (put (codes "number") (number (unsigned c.args.number)) members)) c.in_ok-members.ensures)
          ∙ placed (id_data c.args.id.now) c.args.session c.args.number event got.0,
    )
