use Rattle.std.proofs.Common.{◌∙◌, ap, sym, subst, Bool, false, ℕ, ◌&&◌, ◌||◌}
use Rattle.std.specs.Prelude.{IsTrue, ◌↔◌, List as Seq, nat_le}
use Rattle.world_base.specs.declared.due.Due.{Due}
use Rattle.journals.specs.Journals.{MayBegin, whats}
use Rattle.live_links.specs.Facts.{first_at, name_at}
use Rattle.live_links.proofs.Begins.{met_is, none_is}
use Rattle.live_links.proofs.journal.Journal.due.Goals as goal

pub returns-in-None : goal.returns-in-None
returns-in-None g c =
    let j = c.args.self.now in
    let script = g.R.RunName.script in
    let node = name_at script j.place in
    let first = first_at g.N.Member.first script j.place in
    subst (λ (ds : Seq Due). IsTrue false ↔ MayBegin g.N.Actor.transition node first ds (whats j.moments)) j.dues_are
    (none_is g.N.Actor.transition node first j.dues j.moments j.node.value j.clock j.begun j.answers j.sent j.is_journal c.in-None.ensures)

pub returns-in-Some : goal.returns-in-Some
returns-in-Some g c =
    let j = c.args.self.now in
    let script = g.R.RunName.script in
    let node = name_at script j.place in
    let first = first_at g.N.Member.first script j.place in
    let due = c.in-Some.due.now in
    let is = c.is_met.ensures ∙ ap (λ (n : ℕ). nat_le due.after n && (due.free || nat_le j.begun j.answers.all)) c.len.ensures in
    subst (λ (ds : Seq Due). IsTrue c.is_met.result ↔ MayBegin g.N.Actor.transition node first ds (whats j.moments)) j.dues_are
    (subst (λ (b : Bool). IsTrue b ↔ MayBegin g.N.Actor.transition node first j.dues (whats j.moments)) (sym is)
    (met_is g.N.Actor.transition node first j.dues j.moments j.node.value j.clock j.begun j.answers j.sent j.is_journal due c.in-Some.ensures))
