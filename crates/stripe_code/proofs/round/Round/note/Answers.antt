use Rattle.std.proofs.Common.{◌≡◌, true, List, sym, subst}
use Rattle.stripe_code.specs.declared.round.Answer.{Answer}
use Rattle.stripe_code.specs.Round.{RoundSoFar, IsRound, told_fits}
use Rattle.stripe_code.proofs.Rounds.{pushed_is_round}
use Rattle.stripe_code.proofs.round.Round.note.Goals as goal

pub invariant_of-self-2 : goal.invariant_of-self-2
invariant_of-self-2 c =
    let inside = c.self.inside in
    let before : RoundSoFar = record { n = inside.n; parity = inside.parity; servers = inside.servers; answers = inside.answers } in
    let fit : told_fits before c.args.told ≡ true = subst (λ (r : RoundSoFar). told_fits r c.args.told ≡ true) (sym c.self.view_is) c.requires in
    subst (λ (answers : List Answer). IsRound (record before { answers = answers })) (sym c.in_ok-push.ensures.ok)
    (pushed_is_round before c.args.server c.args.told c.self.invariant fit)
