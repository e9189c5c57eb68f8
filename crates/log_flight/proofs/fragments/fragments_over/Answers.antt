use Rattle.std.proofs.Common.{◌≡◌, List, ◌++◌, length, sym, ap, subst, ◌∙◌, arith}
use Rattle.xfs_base.specs.declared.fragment.Fragment.{Fragment}
use Rattle.segment_format.specs.Text.{text_of}
use Rattle.stripe_code.specs.Stripe.{IsCut, stripe_of}
use Rattle.log_flight.specs.Fragments.{pieces_from, fragments_over}
use Rattle.log_flight.proofs.Lengths.{text_fits, length-stripe_of}
use Rattle.log_flight.proofs.fragments.fragments_over.Goals as goal

pub overflow_cast-len : goal.overflow_cast-len
overflow_cast-len c = omega (arith, text_fits c.args.segment.now c.requires.limits, c.len-len.ensures, ap length c.in_ok-text.ensures.spelled)

pub add_fragments-requires-clause-few : goal.add_fragments-requires-clause-few
add_fragments-requires-clause-few c =
    let cut : IsCut c.len.result c.args.group.now.parity = subst (λ n. IsCut n c.args.group.now.parity) (sym c.len.ensures) c.requires.cut in
    omega (
      arith,
      ap length c.new-fragments.ensures,
      ap length c.in_ok-stripe.ensures,
      length-stripe_of c.as_slice.result.now c.len.result c.args.group.now.parity cut,
      cut.limit,
    )

pub returns : goal.returns
unfolding fragments_over
returns c =
    let text = text_of c.args.segment.now in
    let parity = c.args.group.now.parity in
    let whole : c.in_ok-stripe.stripe ≡ stripe_of text (length c.args.group.now.members) parity =
    c.in_ok-stripe.ensures ∙ ap (λ t. stripe_of t c.len.result parity) (c.as_slice.ensures ∙ c.in_ok-text.ensures.spelled)
    ∙ ap (λ n. stripe_of text n parity) c.len.ensures in
    c.in_ok-add_fragments.ensures
    ∙ ap (λ (fs : List Fragment). fs ++ pieces_from c.args.segment.now (length fs) c.in_ok-stripe.stripe) c.new-fragments.ensures
    ∙ ap (pieces_from c.args.segment.now 0) whole
