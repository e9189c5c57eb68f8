use Rattle.std.proofs.Common.{ap, subst, sym, ℕ}
use Rattle.std.specs.Prelude.{List as Seq}
use Rattle.world_base.specs.declared.cluster.Cluster.{Cluster}
use Rattle.world_base.specs.Cluster.{cluster_of}
use Rattle.live_links.specs.declared.letter.Letter.{Letter}
use Rattle.live_links.specs.Acts.{AfterTurn}
use Rattle.live_links.specs.Ends.{Sends}
use Rattle.live_links.specs.Facts.{IsLinked, first_at}
use Rattle.live_links.proofs.Linking.{linked_more}
use Rattle.live_links.proofs.Turns.{adds}
use Rattle.live_links.proofs.cell.Cell.turn.Goals as goal

pub invariant_of-result : goal.invariant_of-result
invariant_of-result g c =
    let s = c.args.self in
    let p = s.journal.place in
    let new = c.in_ok-journal.journal in
    let script = g.R.RunName.script in
    let k = cluster_of script.setup in
    let step = g.N.Actor.transition in
    let first = first_at g.N.Member.first script p in
    let letters = c.in_ok-journal.letters in
    let sends = subst (λ (q : Cluster). Sends q s.outs letters c.push_all.new.self) s.cluster_is c.push_all.ensures in
    record {
      cluster_is = s.cluster_is;
      linked =
          subst (λ (q : ℕ). ∥ IsLinked step (first_at g.N.Member.first script q) k g.R.RunName.outs q new.moments c.push_all.new.self s.ins ∥₁) (sym c.in_ok-journal.ensures.place)
          (linked_more step first k g.R.RunName.outs p c.args.what c.args.from c.args.number s.journal.moments new.moments letters s.outs c.push_all.new.self s.ins s.linked
          (adds step first p c.args.what c.args.from c.args.number s.journal.moments new.moments letters c.in_ok-journal.ensures.exact) sends c.requires.received);
    }

pub returns-clause-turns : goal.returns-clause-turns
returns-clause-turns g c =
    let s = c.args.self in
    let exact = c.in_ok-journal.ensures.exact in
    let letters = c.in_ok-journal.letters in
    let sends = subst (λ (q : Cluster). Sends q s.outs letters c.push_all.new.self) s.cluster_is c.push_all.ensures in
    record {
      moments = ap (λ (t : AfterTurn). t.moments) exact;
      pushed = subst (λ (ls : Seq Letter). Sends (cluster_of g.R.RunName.script.setup) s.outs ls c.push_all.new.self) (ap (λ (t : AfterTurn). t.letters) exact) sends;
    }
