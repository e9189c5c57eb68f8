use Rattle.std.proofs.Common.{◌≡◌, ◌+◌, ◌<◌, true, length, sym, subst, ◌∙◌, arith}
use Rattle.script_print.proofs.Runs.{Appended, one_waits, run_ends}
use Rattle.script_print.proofs.spelling.add_runs.Goals as goal
use Rattle.script_print.proofs.spelling.add_runs.Goals.{then-not-is_plain+in_ok-add+in_ok-add_byte, else-not-is_plain}

pub loop-at-preserved : goal.loop-at-preserved
loop-at-preserved c =
    let before = c.args.out.now in
    let now = c.loop-at.out in
    let bytes = c.args.bytes.now in
    let from = c.loop-at.from in
    let at = c.loop-at.at in
    let less : at < length bytes = omega arith in
    elim c.if-not-is_plain.branch [
      | then-not-is_plain+in_ok-add+in_ok-add_byte w ↦
          subst (λ f. Appended before c.if-not-is_plain.out bytes f (at + 1)) (sym w.from-is)
          (run_ends before now bytes from at less c.loop-at.invariant w.add.new.self c.if-not-is_plain.out w.in_ok-add.ensures.ok (w.out-is ∙ w.in_ok-add_byte.ensures))
      | else-not-is_plain w ↦
          let plain : c.is_plain.result ≡ true = grind arith in
          subst (λ f. Appended before c.if-not-is_plain.out bytes f (at + 1)) (sym w.from-is)
          (subst (λ o. Appended before o bytes from (at + 1)) (sym w.out-is) (one_waits before now bytes from at less c.loop-at.invariant (sym c.is_plain.ensures ∙ plain)))
    ]
