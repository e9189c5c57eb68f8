use Rattle.script_print.specs.Printing.{group_word}
use Rattle.script_print.proofs.Loops.{group_ended}
use Rattle.script_print.proofs.setup_text.add_group.Goals as goal

pub returns : goal.returns
returns c = group_ended c.args.out.now c.add.new.self c.add_servers.new.out c.add-2.new.self
    (group_word c.args.group.now.parity)
    c.group_word.result.now c.args.group.now.servers c.as_slice.result.now c.in_ok-add.ensures.ok c.group_word.ensures c.in_ok-add_servers.ensures
    c.as_slice.ensures c.in_ok-add-2.ensures.ok
