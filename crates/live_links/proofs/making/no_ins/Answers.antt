use Rattle.std.proofs.Common.{◌∙◌, ap, [], ◌∷◌, ◌++◌}
use Rattle.live_links.proofs.RingRows.{replicate_more}
use Rattle.live_links.specs.Ends.{In}
use Rattle.std.specs.Prelude.{List as Seq, replicate}
use Rattle.live_links.proofs.making.no_ins.Goals as goal

pub loop-preserved : goal.loop-preserved
loop-preserved c =
    let none : Seq In = [] in
    c.in_ok-push.ensures.items ∙ ap (λ (xs : Seq (Seq In)). xs ++ c.in_ok-none.none ∷ []) c.loop.invariant
    ∙ ap (λ (x : Seq In). replicate c.loop.counter none ++ x ∷ []) c.in_ok-none.ensures ∙ replicate_more c.loop.counter none
