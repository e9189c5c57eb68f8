use Rattle.std.proofs.Common.{◌++◌, ◌-◌, ap, ◌∙◌, drop, length}
use Rattle.play.specs.Plays.{answers, send_since}
use Rattle.board_play.specs.declared.sent.Sender.TheVariants.{Boards, Registries}
use Rattle.board_play.specs.Plays.{send_by, send_far}
use Rattle.board_play.proofs.Happening.{happens_is}
use Rattle.board_play.proofs.player.Player.happen.Goals as goal

pub returns-clause-exact : goal.returns-clause-exact
returns-clause-exact g c =
    let p = c.args.self.now in
    let event = c.args.event in
    let one = c.send_far.new.sent in
    let two = c.send_by.new.sent in
    let acts = c.happen_all.new.world.acts in
    let far =
    c.in_ok-send_far.ensures
    ∙ ap (λ n. p.sent ++ send_far event n c.len.result) c.len-told.ensures
    ∙ ap (λ n. p.sent ++ send_far event (length p.world.sent) n) c.len.ensures
    in
    let registries =
    c.in_ok-send_by.ensures
    ∙ ap (λ n. one ++ send_by Registries n c.len-2.result) (c.len-handed.ensures ∙ ap length c.handed.ensures)
    ∙ ap (λ n. one ++ send_by Registries (length p.boards.handed) n) (c.len-2.ensures ∙ ap length c.handed-2.ensures)
    in
    let boards =
    c.in_ok-send_by-2.ensures
    ∙ ap (λ n. two ++ send_by Boards n c.len-3.result) (c.len-mailed.ensures ∙ ap length c.mail.ensures)
    ∙ ap (λ n. two ++ send_by Boards (length p.boards.mail) n) (c.len-3.ensures ∙ ap length c.mail-2.ensures)
    in
    let schedule =
    c.in_ok-send_since.ensures
    ∙ ap (λ n. send_since p.schedule n c.len-4.result) c.len-count.ensures
    ∙ ap (λ n. send_since p.schedule (length p.sent) n) c.len-4.ensures
    in
    let unanswered =
    c.saturating_sub-self.ensures
    ∙ ap (λ n. p.unanswered - n) (c.answers_since-answered.ensures
    ∙ ap (λ all. answers (drop c.len-done.result all)) c.as_slice.ensures
    ∙ ap (λ n. answers (drop n acts)) c.len-done.ensures)
    in
    happens_is g.N.Actor.transition p event c.take.new.self c.in_ok-events.events c.happen_all.new.world c.push.new.self c.happen_all.new.noted one two
    c.send_by-2.new.sent c.send_since.new.schedule c.saturating_sub-self.result c.in_ok-events.ensures.state c.in_ok-events.ensures.events
    c.in_ok-happen_all.ensures.world c.in_ok-push.ensures.ok c.in_ok-happen_all.ensures.noted far registries boards schedule unanswered
