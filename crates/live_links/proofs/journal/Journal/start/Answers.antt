use Rattle.std.proofs.Common.{◌≡◌, ◌∙◌, ap, sym, subst}
use Rattle.script_text.specs.declared.script.Script.{Script}
use Rattle.xfs_base.specs.declared.node.NodeId.{NodeId}
use Rattle.world_base.specs.declared.cluster.Cluster.{Cluster}
use Rattle.world_base.specs.Cluster.{HasNode, node_at}
use Rattle.world_base.specs.Dues.{dues_of}
use Rattle.world_base.specs.NextWorld.{first_node}
use Rattle.world_base.proofs.Standing.{stands}
use Rattle.live_links.specs.Answered.{answered_at, waited_at}
use Rattle.live_links.specs.Facts.{dues_at, first_at, name_at}
use Rattle.live_links.proofs.Turns.{journal_none}
use Rattle.live_links.proofs.journal.Journal.start.Goals as goal

pub first_node-requires-clause-node : goal.first_node-requires-clause-node
first_node-requires-clause-node g c =
    let setup = c.args.script.now.setup in
    subst (λ (node : NodeId). HasNode setup node) (sym (c.node_at-name.ensures ∙ ap (λ (k : Cluster). node_at k c.args.place) c.of.ensures)) (stands setup c.args.place)

pub invariant_of-result : goal.invariant_of-result
invariant_of-result g c =
    let mine = c.args.script.now in
    let script = g.R.RunName.script in
    let first = g.N.Member.first in
    let place = c.args.place in
    let at : c.node_at-name.result ≡ name_at mine place = c.node_at-name.ensures ∙ ap (λ (k : Cluster). node_at k place) c.of.ensures in
    record {
      name_is = at ∙ ap (λ (s : Script). name_at s place) c.requires.script;
      dues_are =
          c.in_ok-dues.ensures.exact ∙ ap (dues_of c.as_slice.result.now) at ∙ ap (λ ls. dues_of ls (name_at mine place)) c.as_slice.ensures
          ∙ ap (λ (s : Script). dues_at s place) c.requires.script;
      is_journal =
          journal_none g.N.Actor.transition (name_at script place) (first_at first script place) c.in_ok-dues.dues c.new.result c.in_ok-node.node.value c.none.result c.new.ensures
          (c.in_ok-node.ensures ∙ ap (first_node first mine) at ∙ ap (λ (s : Script). first_at first s place) c.requires.script) c.none.ensures;
      answered_are = c.new-2.ensures ∙ sym (ap (answered_at g.N.Actor.transition first script place) c.new.ensures);
      waited_is = sym (ap (waited_at g.N.Actor.transition first script place) c.new.ensures);
    }
