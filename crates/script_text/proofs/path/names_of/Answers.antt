use Rattle.std.proofs.Common.{arith}
use Rattle.script_text.proofs.Loops.{names_over, names_kept, few_more, names_all}
use Rattle.script_text.proofs.path.names_of.Goals as goal

pub returns-then-len-ge-MAX_NAMES : goal.returns-then-len-ge-MAX_NAMES
returns-then-len-ge-MAX_NAMES c = names_over _ c.loop-name.names c.loop-name.rest.now c.loop-name.invariant.same (omega arith)

pub loop-name-preserved : goal.loop-name-preserved
loop-name-preserved c = record {
  same = names_kept _ c.loop-name.names c.push.new.self c.loop-name.rest.now c.in-Some.name.now c.in_ok-of.field-0 c.in-Some.after.now
      c.loop-name.invariant.same c.in-Some.ensures.0 c.in-Some.ensures.1 c.in_ok-push.ensures.ok c.in_ok-of.ensures;
  few = few_more c.loop-name.names c.push.new.self c.in_ok-of.field-0 c.in_ok-push.ensures.ok (omega arith);
}

pub returns-then-len-ge-MAX_NAMES-2 : goal.returns-then-len-ge-MAX_NAMES-2
returns-then-len-ge-MAX_NAMES-2 c = names_over _ c.loop-name.names c.loop-name.rest.now c.loop-name.invariant.same (omega arith)

pub returns : goal.returns
returns c = names_all _ c.loop-name.names c.push-2.new.self c.loop-name.rest.now c.in_ok-of-2.field-0 c.loop-name.invariant.same c.in_default.ensures
    (omega arith) c.in_ok-push-2.ensures.ok c.in_ok-of-2.ensures
