use Rattle.std.proofs.Common.{◌∙◌, ◌++◌, ◌∷◌, [], sym, ap, length, arith}
use Rattle.rtrb.specs.Ring.{known_items, received, sent}
use Rattle.mounts.proofs.Handing.{none_left, one_taken}
use Rattle.mounts.proofs.settling.all_replies.Goals as goal

pub loop-init : goal.loop-init
loop-init c =
    let looked = c.slots_beside-count.ensures.looked in
    record {
      taken = c.requires.taken ∙ sym looked.1;
      whole = c.slots_beside-count.ensures.fifo ∙ c.slots_beside-count.ensures.producer.1;
      left = let v = c.slots_beside-count.ensures.value in omega arith;
    }

pub loop-preserved : goal.loop-preserved
loop-preserved c =
    let i = c.loop.invariant in
    let end = c.loop.end in
    let new = c.pop_known-reply.new.self in
    let reply = c.pop_known-reply.result in
    let popped = c.pop_known-reply.ensures.received in
    record {
      taken = c.in_ok-push.ensures.ok ∙ ap (λ rs. rs ++ reply ∷ []) i.taken ∙ sym popped.0;
      whole = one_taken (received end) (received new) (known_items end) (known_items new) (sent c.args.ring) reply popped.0 popped.1 i.whole;
      left = let less = ap length popped.1 in let was = i.left in omega arith;
    }

pub pop_known-reply-requires : goal.pop_known-reply-requires
pop_known-reply-requires c = let was = c.loop.invariant.left in let test = c.loop-test.true in omega arith

pub returns : goal.returns
returns c =
    let i = c.loop.invariant in
    i.taken ∙ none_left (received c.loop.end) (known_items c.loop.end) (sent c.args.ring) c.loop.counter c.slots_beside-count.result i.whole i.left c.loop-test.false
