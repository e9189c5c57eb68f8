use Rattle.std.proofs.Common.{ℕ, List, [], ◌∷◌, ◌++◌, Option, ◌∙◌, sym, ap₂, arith}
use Rattle.std.proofs.lemmas.List.FromFn.{map-range_with_len_more}
use Rattle.stripe_code.specs.Round.{bytes_in}
use Rattle.stripe_code.proofs.round.parts_of.Goals as goal

pub loop-index-preserved : goal.loop-index-preserved
loop-index-preserved c =
    let answers = c.args.answers.now in
    let index = c.loop-index.index in
    c.in_ok-push.ensures.ok ∙ ap₂ (λ (ps : List (Option (List ℕ))) (p : Option (List ℕ)). ps ++ p ∷ []) c.loop-index.invariant c.in_ok-bytes.ensures
    ∙ sym (map-range_with_len_more (λ i. bytes_in i answers) 0 index index (omega arith))
