use Rattle.cli_talk.specs.Talks.{HasAnswered}
use Rattle.cli_talk.proofs.worker.serve_messages.Given as goal

abbrev pub invariant-messages : goal.invariant-messages
invariant-messages g l = HasAnswered g.L.Talk.sessions l.post.number l.next l.lossy g.L.Talk.lines l.fn.session l.session (g.P.Replies.given l.fn.replies) (g.P.Replies.given l.replies)
