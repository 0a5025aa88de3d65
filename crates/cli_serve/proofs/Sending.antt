-- What goes to the thread of a worker.
use denote.RattleType.{RattleType}
use denote.Ref.{NamedLft}
use denote.Param.Send.{IsSend, IsSync, sendable, view_send}
use denote.Param.SendFields.{declared_send}
use Rattle.std.proofs.Crossing as owners
use Rattle.crossbeam_channel.proofs.channel.Receiver.TheSendSync as receiver
use Rattle.cli_requests.proofs.Sending.{parsed_send}
use Rattle.cli_talk.specs.declared.message.Talk as talk
use Rattle.cli_talk.specs.contracts.message.Message as message
use Rattle.cli_talk.specs.contracts.message.Message.TheInside as inside
use Rattle.cli_serve.specs.contracts.ends.Inbox as inbox

inside_send : (L : RattleType) (g : talk.Ghosts L.Denot) → IsSend L → IsSend (inside.the_row L g)
inside_send L g s = declared_send (inside.the_type L g) (search sendable, (parsed_send, (search sendable, tt)))

-- a message may go there
pub message_send : (L : RattleType) (g : talk.Ghosts L.Denot) → IsSend L → IsSend (message.the_row L g)
message_send L g s = view_send (inside.the_row L g) _ _ _ _ (inside_send L g s)

-- an inbox may go there
pub inbox_send : (κ : NamedLft) (L R : RattleType) (g : talk.Ghosts L.Denot) → IsSend L → IsSync R → IsSend (inbox.the_row κ L R g)
inbox_send κ L R g s y =
    let message : IsSend (message.the_row L g) = message_send L g s in
    declared_send (inbox.the_type κ L R g)
    (search (y, sendable), (receiver.the_send _ _ _ message owners.send owners.sync owners.frees, (search (owners.crosses, sendable) depth 20, (search (owners.crosses, sendable) depth 20, (search sendable, tt)))))
