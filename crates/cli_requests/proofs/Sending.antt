-- A line that was parsed may go to another thread, since a JSON value may: it holds itself in lists and in maps.
use denote.RattleType.{RattleType}
use denote.Enum.Declared as enum
use denote.Param.Send.{IsSend, sendable}
use denote.Param.SendFields.{declared_send}
use denote.Hole.FixSend.{fix_send}
use denote.Hole.FixLaws.{layer_row}
use Rattle.std.proofs.Crossing as owners
use Rattle.std.proofs.MapsCrossing as maps
use Rattle.serde_json.specs.contracts.value.Value as value
use Rattle.serde_json.specs.declared.value.Value.TheBlock as block
use Rattle.cli_requests.specs.contracts.destination.ParsedLine as parsed_line

layer_send : (inner : block.the_members → RattleType) → ((member : block.the_members) → IsSend (inner member)) → IsSend (enum.row (value.the_layer inner))
layer_send inner all = search (maps.crosses, owners.crosses, sendable) depth 20

row_send : (member : block.the_members) (inner : block.the_members → RattleType) → ((member : block.the_members) → IsSend (inner member)) → IsSend (layer_row value.the_ring member inner)
row_send block.member-Value inner all = layer_send inner all

hole_send : IsSend value.the_hole
hole_send = fix_send value.the_ring (λ member. record { send = row_send member }) value.the_member

pub value_send : IsSend value.the_row
value_send = search (hole_send, maps.crosses, owners.crosses, sendable) depth 20

pub parsed_send : IsSend parsed_line.the_row
parsed_send = declared_send parsed_line.the_type (search sendable, (value_send, (search sendable, tt)))
