use Rattle.std.proofs.Common.{◌∙◌, ap, sym, subst, Bool, ℕ, ◌==◌, ◌&&◌}
use Rattle.std.specs.Prelude.{IsTrue, ◌↔◌, nat_le}
use Rattle.live_links.specs.Facts.{IsDone}
use Rattle.live_links.proofs.Begins.{done_is}
use Rattle.live_links.proofs.journal.Journal.done.Goals as goal

pub returns : goal.returns
returns g c =
    let j = c.args.self.now in
    let script = g.R.RunName.script in
    let step = g.N.Actor.transition in
    let first = g.N.Member.first in
    subst (λ (b : Bool). IsTrue b ↔ IsDone step first script j.place j.moments)
    (sym (c.are_answered.ensures ∙ ap (λ (n : ℕ). (j.begun == n) && nat_le j.begun j.answers.all) c.len.ensures))
    (done_is step first script j.place j.dues j.moments j.node.value j.clock j.begun j.answers j.sent j.dues_are j.is_journal)
