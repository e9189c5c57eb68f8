use Rattle.script_print.proofs.Loops.{setup_ended}
use Rattle.script_print.proofs.setup_text.add_setup.Goals as goal

pub returns : goal.returns
returns c = setup_ended c.args.setup.now c.as_slice.result.now c.args.out.now c.add_given.new.out c.add_given-2.new.out c.add_given-3.new.out
    c.add_given-4.new.out c.add_groups.new.out c.add_cache.new.out c.add_acts.new.out c.in_ok-add_given.ensures c.in_ok-add_given-2.ensures
    c.in_ok-add_given-3.ensures c.in_ok-add_given-4.ensures c.as_slice.ensures c.in_ok-add_groups.ensures c.in_ok-add_cache.ensures c.in_ok-add_acts.ensures
