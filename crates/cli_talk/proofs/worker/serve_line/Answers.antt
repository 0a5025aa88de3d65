use Rattle.std.proofs.Common.{inl, inr}
use Rattle.cli_talk.specs.Turns.{IsLineAnswered}
use Rattle.cli_talk.proofs.worker.serve_line.Goals as goal

pub returns-in-Ok-give_or_tell-clause-answered : goal.returns-in-Ok-give_or_tell-clause-answered
returns-in-Ok-give_or_tell-clause-answered g c = λ sessions bytes parsed.
    (let made : IsLineAnswered sessions bytes c.answer_request-answered.result c.args.session.now c.answer_request-answered.new.session = record {
      request = c.in-Ok.request;
      is = c.in-Ok.ensures.reading sessions bytes parsed;
      answers = c.answer_request-answered.ensures;
    } in
    (c.in-Ok-give_or_tell.ensures.0, inl (c.answer_request-answered.result, made, c.in-Ok-give_or_tell.ensures.1), c.in-Ok-give_or_tell.ensures.2))

pub returns-clause-stopped : goal.returns-clause-stopped
returns-clause-stopped g c = λ sessions bytes parsed.
    inr (
      c.answer_request-answered.result,
      record {
        request = c.in-Ok.request;
        is = c.in-Ok.ensures.reading sessions bytes parsed;
        answers = c.answer_request-answered.ensures;
      },
    )
