use Rattle.std.proofs.Common.{◌≡◌, ℕ, ◌-◌, List, length, ◌∙◌, sym, ap, subst, arith}
use Rattle.std.specs.Prelude.{is_some, count_by, unwrap_or}
use Rattle.stripe_code.specs.declared.round.Answer.{Answer}
use Rattle.stripe_code.specs.Joined.{HasLengths}
use Rattle.stripe_code.specs.Round.{RoundSoFar, count_of, len_in, parts_in}
use Rattle.stripe_code.specs.Stripe.{part_len}
use Rattle.stripe_code.proofs.Rounds.{round_cut, round_parts, enough_in}
use Rattle.stripe_code.proofs.round.Round.state_by.Goals as goal

pub joined_text-requires-clause-size : goal.joined_text-requires-clause-size
joined_text-requires-clause-size c =
    let inside = c.self.inside in
    let round : RoundSoFar = record { n = inside.n; parity = inside.parity; servers = inside.servers; answers = inside.answers } in
    let parts = c.args.parts.now in
    let same : parts ≡ parts_in inside.n inside.answers = c.requires ∙ sym (ap (λ (r : RoundSoFar). parts_in r.n r.answers) c.self.view_is) in
    round_cut round parts c.self.invariant same

pub joined_text-requires-clause-lengths : goal.joined_text-requires-clause-lengths
joined_text-requires-clause-lengths c =
    let inside = c.self.inside in
    let round : RoundSoFar = record { n = inside.n; parity = inside.parity; servers = inside.servers; answers = inside.answers } in
    let parts = c.args.parts.now in
    let same : parts ≡ parts_in inside.n inside.answers = c.requires ∙ sym (ap (λ (r : RoundSoFar). parts_in r.n r.answers) c.self.view_is) in
    let len : c.len_or_zero-len.result ≡ unwrap_or (len_in inside.answers) 0 =
    c.len_or_zero-len.ensures ∙ ap (λ (answers : List Answer). unwrap_or (len_in answers) 0) c.as_slice-answers.ensures in
    subst (λ (n : ℕ). HasLengths (part_len n (length parts - inside.parity)) parts) (sym len) (round_parts round parts c.self.invariant same)

pub joined_text-requires-clause-enough : goal.joined_text-requires-clause-enough
joined_text-requires-clause-enough c =
    let inside = c.self.inside in
    let round : RoundSoFar = record { n = inside.n; parity = inside.parity; servers = inside.servers; answers = inside.answers } in
    let parts = c.args.parts.now in
    let same : parts ≡ parts_in inside.n inside.answers = c.requires ∙ sym (ap (λ (r : RoundSoFar). parts_in r.n r.answers) c.self.view_is) in
    let there : c.there.result ≡ count_by is_some parts = c.there.ensures in
    let pieces : c.pieces.result ≡ inside.n - inside.parity = c.pieces.ensures.count ∙ sym (ap count_of c.self.view_is) in
    enough_in round parts c.self.invariant same (omega arith)
