use Rattle.std.specs.Prelude.{filter}
use Rattle.std.proofs.lemmas.List.Elements.{All-same, All-filter}
use Rattle.takeover.specs.Course.{StartsSlot}
use Rattle.manager_slots.specs.Takeovers.{is_wanted}
use Rattle.manager_slots.proofs.takeovers.ask_again.Goals as goal

pub say_each-requires : goal.say_each-requires
say_each-requires c =
    let told = c.in_ok-outs.outs in
    All-same StartsSlot c.in_ok-outs-2.outs (filter (is_wanted c.args.polls) told) c.in_ok-outs-2.ensures
    (All-filter (is_wanted c.args.polls) StartsSlot told c.in_ok-outs.ensures.starts)
