use Rattle.std.proofs.Common.{◌≡◌, ℕ, ◌-◌, List, length, ◌∙◌, sym, ap, subst, arith}
use Rattle.std.specs.Prelude.{All}
use Rattle.stripe_code.proofs.Pieces.{length-cut_pieces, pieces_long}
use Rattle.stripe_code.proofs.cutting.cut.Goals as goal

pub with_parity-requires-clause-few : goal.with_parity-requires-clause-few
with_parity-requires-clause-few c =
    let many : length c.in_ok-pieces.pieces ≡ c.args.n - c.from.result =
    ap (λ (s : List (List ℕ)). length s) c.in_ok-pieces.ensures ∙ length-cut_pieces (c.args.n - c.from.result) c.part_len-part.result c.args.segment.now in
    omega (arith, c.requires.limit)

pub with_parity-requires-clause-alike : goal.with_parity-requires-clause-alike
with_parity-requires-clause-alike c =
    subst (λ (s : List (List ℕ)). All (λ f. length f ≡ c.part_len-part.result) s) (sym c.in_ok-pieces.ensures)
    (pieces_long (c.args.n - c.from.result) c.part_len-part.result c.args.segment.now)
