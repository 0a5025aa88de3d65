use Rattle.bc_flow.proofs.Turned.{IsBlockTurned, IsBlockTurned-written}
use Rattle.bc_flow.proofs.tables.turn_block.Goals as goal

pub returns : goal.returns
returns c =
    let p : IsBlockTurned c.args.nodes c.args.facts c.args.rows.now c.args.turned.now c.write_block.new.rows =
    IsBlockTurned-written c.args.nodes c.args.facts c.args.rows.now c.args.turned.now c.write_block.new.rows c.turned_block-block.result c.requires.rows c.requires.turned c.write_block.ensures.count
    c.turned_block-block.ensures c.write_block.ensures.sizes c.write_block.ensures.block c.write_block.ensures.words c.write_block.ensures.rows in
    record { count = p.count; turned = p.nodes; block = p.block; others = p.others }
