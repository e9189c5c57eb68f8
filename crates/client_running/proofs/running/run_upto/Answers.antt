use Rattle.std.proofs.Common.{◌≡◌, ◌-◌, suc, true, false, sym, ◌∙◌, arith}
use Rattle.client_running.proofs.running.run_upto.Goals as goal
use Rattle.client_running.proofs.Turns.{state_next, outs_next, state_last, outs_last, state_over, outs_over}
use Rattle.client_running.specs.Running.{run_once}

pub returns-then-not-goes-clause-state : goal.returns-then-not-goes-clause-state
returns-then-not-goes-clause-state c =
    let left : suc (c.loop-left.left - 1) ≡ c.loop-left.left = omega arith in
    let waits : (run_once c.loop-left.serving).goes ≡ false = sym c.in_ok-goes.ensures.goes ∙ c.if-not-goes.true in
    state_last _ _ _ _ _ _ left c.in_ok-goes.ensures.state c.in_ok-goes.ensures.effects _ waits c.loop-left.invariant.state

pub returns-then-not-goes-clause-effects : goal.returns-then-not-goes-clause-effects
returns-then-not-goes-clause-effects c =
    let left : suc (c.loop-left.left - 1) ≡ c.loop-left.left = omega arith in
    let waits : (run_once c.loop-left.serving).goes ≡ false = sym c.in_ok-goes.ensures.goes ∙ c.if-not-goes.true in
    outs_last _ _ _ _ _ _ left c.in_ok-goes.ensures.state c.in_ok-goes.ensures.effects _ waits c.loop-left.invariant.effects

pub loop-left-preserved : goal.loop-left-preserved
loop-left-preserved c =
    let left : suc (c.loop-left.left - 1) ≡ c.loop-left.left = omega arith in
    let goes : (run_once c.loop-left.serving).goes ≡ true = sym c.in_ok-goes.ensures.goes ∙ c.if-not-goes.false in
    record {
      state = state_next _ _ _ _ _ _ left c.in_ok-goes.ensures.state c.in_ok-goes.ensures.effects _ goes c.loop-left.invariant.state;
      effects = outs_next _ _ _ _ _ _ left c.in_ok-goes.ensures.state c.in_ok-goes.ensures.effects _ goes c.loop-left.invariant.effects;
    }

pub returns-clause-state : goal.returns-clause-state
returns-clause-state c =
    let none : c.loop-left.left ≡ 0 = omega arith in
    state_over c.loop-left.left c.loop-left.serving _ none c.loop-left.invariant.state

pub returns-clause-effects : goal.returns-clause-effects
returns-clause-effects c =
    let none : c.loop-left.left ≡ 0 = omega arith in
    outs_over c.loop-left.left c.loop-left.serving c.loop-left.effects _ none c.loop-left.invariant.effects
