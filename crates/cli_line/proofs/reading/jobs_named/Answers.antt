use Rattle.std.proofs.Common.{◌∙◌, rules, true, false}
use Rattle.clap.proofs.WalkLemmas.{byte_read}
use Rattle.cli_line.proofs.Words.{jobs_of}
use Rattle.cli_line.proofs.reading.jobs_named.Goals as goal

pub returns-then-is_job_count : goal.returns-then-is_job_count
returns-then-is_job_count c =
    jobs_of c.args.word.now _ true (c.unwrap_or-jobs.ensures ∙ byte_read c.args.word.now c.parse.result c.parse.ensures.value.0) (search rules)

pub returns-else-is_job_count : goal.returns-else-is_job_count
returns-else-is_job_count c =
    jobs_of c.args.word.now _ false (c.unwrap_or-jobs.ensures ∙ byte_read c.args.word.now c.parse.result c.parse.ensures.value.0) (search rules)
