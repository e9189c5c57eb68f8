use Rattle.std.proofs.Common.{◌≡◌, ◌∙◌, ap, sym, subst}
use Rattle.board_play.specs.Played.{IsBoardPlayed}
use Rattle.board_play.specs.Plays.{into_estate}
use Rattle.board_play.proofs.Playing.{play_is}
use Rattle.board_play.proofs.one_thread.board_play.Goals as goal

pub returns-clause-played : goal.returns-clause-played
returns-clause-played g c has =
    let step = g.N.Actor.transition in
    let first = g.N.Member.first in
    let script = c.args.script.now in
    let is =
    c.into_estate.ensures
    ∙ ap (λ s. into_estate s c.in_ok-player.player) c.in_ok-script.ensures
    ∙ ap (λ p. into_estate script p) c.in_ok-player.ensures
    in
    subst (λ estate. IsBoardPlayed step first estate) (sym is) (play_is c.runs_with_boards_are_one_run.ensures step first has script c.requires)
