use Rattle.std.proofs.Common.{◌∙◌, rules, true, false}
use Rattle.clap.proofs.WalkLemmas.{byte_read}
use Rattle.cli_line.proofs.Words.{named}
use Rattle.cli_line.proofs.reading.sessions_named.Goals as goal

pub returns-then-is_session_count : goal.returns-then-is_session_count
returns-then-is_session_count c =
    named c.args.word.now _ true (c.unwrap_or-count.ensures ∙ byte_read c.args.word.now c.parse.result c.parse.ensures.value.0) (search rules)

pub returns-else-is_session_count : goal.returns-else-is_session_count
returns-else-is_session_count c =
    named c.args.word.now _ false (c.unwrap_or-count.ensures ∙ byte_read c.args.word.now c.parse.result c.parse.ensures.value.0) (search rules)
