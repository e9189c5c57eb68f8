use Rattle.std.proofs.Common.{◌∙◌, ap, subst, sym, ℕ}
use Rattle.script_text.specs.declared.script.Script.{Script}
use Rattle.world_base.specs.Cluster.{cluster_of}
use Rattle.live_links.specs.Ends.{IsInsOf, IsOutsOf}
use Rattle.live_links.specs.Facts.{IsLinked, first_at}
use Rattle.live_links.proofs.Linking.{linked_none}
use Rattle.live_links.proofs.cell.Cell.start.Goals as goal

pub invariant_of-result : goal.invariant_of-result
invariant_of-result g c =
    let j = c.in_ok-journal.journal in
    let script = g.R.RunName.script in
    let rings = g.R.RunName.outs in
    let first = first_at g.N.Member.first script j.place in
    let here = sym c.in_ok-journal.ensures.place in
    record {
      cluster_is = c.of.ensures ∙ ap (λ (s : Script). cluster_of s.setup) c.requires.script;
      linked =
          ∣ subst (λ ms. IsLinked g.N.Actor.transition first (cluster_of script.setup) rings j.place ms c.args.outs c.args.ins) (sym c.in_ok-journal.ensures.empty)
          (linked_none g.N.Actor.transition first (cluster_of script.setup) rings j.place c.args.outs c.args.ins (subst (λ (p : ℕ). IsOutsOf rings p c.args.outs) here c.requires.outs)
          (subst (λ (p : ℕ). IsInsOf rings p c.args.ins) here c.requires.ins) c.requires.unused) ∣₁;
    }
