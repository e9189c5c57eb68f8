use Rattle.std.proofs.Common.{◌≡◌, ℕ, ◌+◌, ◌-◌, List, [], ◌∷◌, ◌++◌, suc, take, drop, append_assoc, ◌∙◌, ap, ap₂, arith}
use Rattle.stripe_code.specs.Stripe.{piece_of, cut_pieces}
use Rattle.stripe_code.proofs.cutting.cut_pieces.Goals as goal

pub loop-preserved : goal.loop-preserved
loop-preserved c =
    let part = c.args.part in
    let cut = c.loop.cut in
    let rest = c.loop.rest.now in
    let left = c.args.count - (c.loop.counter + 1) in
    let more : suc left ≡ c.args.count - c.loop.counter = omega arith in
    let piece = piece_of part (take part rest) in
    ap₂ (λ (a : List (List ℕ)) (b : List ℕ). a ++ cut_pieces left part b)
    (c.in_ok-push.ensures.ok ∙ ap (λ (p : List ℕ). cut ++ p ∷ []) (c.in_ok-piece_of.ensures ∙ ap (piece_of part) c.split.ensures.front)) c.split.ensures.back
    ∙ append_assoc cut (piece ∷ []) (cut_pieces left part (drop part rest)) ∙ ap (λ (n : ℕ). cut ++ cut_pieces n part rest) more ∙ c.loop.invariant
