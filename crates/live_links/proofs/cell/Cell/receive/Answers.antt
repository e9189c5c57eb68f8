use Rattle.world_base.specs.Cluster.{cluster_of}
use Rattle.live_links.specs.Facts.{first_at}
use Rattle.live_links.proofs.Linking.{linked_took}
use Rattle.live_links.proofs.Popping.{grown_popped}
use Rattle.live_links.proofs.cell.Cell.receive.Goals as goal

pub invariant_of-self : goal.invariant_of-self
invariant_of-self g c =
    let s = c.args.self.now in
    let script = g.R.RunName.script in
    record {
      cluster_is = s.cluster_is;
      linked =
          linked_took g.N.Actor.transition (first_at g.N.Member.first script s.journal.place) (cluster_of script.setup) g.R.RunName.outs s.journal.place s.journal.moments s.outs s.ins c.pop.new.self
          s.linked (grown_popped s.ins c.pop.new.self c.pop.result c.pop.ensures);
    }
