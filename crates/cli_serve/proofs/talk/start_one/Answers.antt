use denote.Param.Send.{sendable}
use Rattle.cli_serve.proofs.Sending.{inbox_send}
use Rattle.cli_serve.proofs.talk.start_one.Goals as goal

pub start-requires-send-M : goal.start-requires-send-M
start-requires-send-M g c κs within = search (inbox_send, sendable) depth 8
