use Rattle.std.proofs.lemmas.List.Elements.{All-rest}
use Rattle.std.specs.Vec.Iter.{into_iter_items}
use Rattle.takeover.specs.Course.{StartsSlot}
use Rattle.manager_slots.specs.Takeovers.{Asker, asker, takeovers_say}
use Rattle.manager_slots.proofs.Loops.{asker_is, state_on, outs_on}
use Rattle.manager_slots.proofs.takeovers.say_each.Goals as goal

pub loop-out-preserved : goal.loop-out-preserved
loop-out-preserved c =
    let a : Asker = asker c.loop-out.phase c.loop-out.questions in
    let b : Asker = asker c.say.new.phase c.say.new.questions in
    let x = c.in-Some.out in
    let xs = into_iter_items c.next.new.self in
    let fact = c.in-Some.ensures.steps.0 in
    let e = c.in_ok-say.ensures in
    let now = asker_is (takeovers_say c.args.slot a x).state c.say.new.phase c.say.new.questions e.state e.questions in
    record {
      state = state_on (takeovers_say c.args.slot) a b x xs _ fact now _ c.loop-out.invariant.state;
      outs = outs_on (takeovers_say c.args.slot) a b x xs _ fact now _ _ _ e.effects c.loop-out.invariant.outs;
      starts = All-rest StartsSlot x xs _ fact c.loop-out.invariant.starts;
    }
