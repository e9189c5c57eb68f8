use Rattle.std.proofs.Common.{◌≡◌, ℕ, ◌+◌, ◌<◌, List, [], ◌∷◌, ◌++◌, length, map, drop, ap, sym, ◌∙◌, append_assoc, arith}
use Rattle.std.proofs.lemmas.List.{at_drop_more}
use Rattle.registry.specs.Checkpoints.{first_checkpoint}
use Rattle.registry.specs.declared.checkpoint.Checkpoint.{Checkpoint}
use Rattle.registry.proofs.checkpoint.first_checkpoints.Goals as goal

-- the checkpoints so far and those to come, once one more is made
one_more : (done now rest all : List Checkpoint) (x y : Checkpoint) → now ≡ done ++ x ∷ [] → x ≡ y → done ++ (y ∷ rest) ≡ all → now ++ rest ≡ all
one_more done now rest all x y fact same before =
    ap (λ n. n ++ rest) fact ∙ append_assoc done (x ∷ []) rest ∙ ap (λ z. done ++ (z ∷ rest)) same ∙ before

pub loop-slot-preserved : goal.loop-slot-preserved
loop-slot-preserved c =
    let here : c.loop-slot._slot-index < length c.args.slots.now = omega arith in
    let first : ℕ → Checkpoint = λ _. first_checkpoint in
    let more : map first (drop c.loop-slot._slot-index c.args.slots.now) ≡ first_checkpoint ∷ map first (drop (c.loop-slot._slot-index + 1) c.args.slots.now) =
    at_drop_more (map first) c.args.slots.now c.loop-slot._slot-index 0 here
    in
    one_more c.loop-slot.made c.push.new.self (map first (drop (c.loop-slot._slot-index + 1) c.args.slots.now))
    (map first c.args.slots.now) c.in_ok-first_checkpoint.field-0 first_checkpoint
    c.in_ok-push.ensures.ok c.in_ok-first_checkpoint.ensures (ap (λ r. c.loop-slot.made ++ r) (sym more) ∙ c.loop-slot.invariant)
