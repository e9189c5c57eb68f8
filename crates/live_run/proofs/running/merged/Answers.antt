use Rattle.std.proofs.Common.{◌≡◌, ◌∙◌, ℕ, ap, sym, subst, length, Some}
use Rattle.std.specs.Prelude.{IfOk, List as Seq, slice_get}
use Rattle.script_text.specs.declared.script.Script.{Script}
use Rattle.world_base.specs.Cluster.{cluster_of, node_at, node_count}
use Rattle.world_base.specs.NextWorld.{first_nodes, start_world}
use Rattle.journals.specs.declared.moment.Moment.{Moment}
use Rattle.journals.specs.Journals.{whats}
use Rattle.journals.specs.Merging.{AreTold, Standing, whats_of}
use Rattle.live_links.specs.Parts.{AreParts}
use Rattle.live_links.proofs.Closing.{are_pairs, are_told, stands}
use Rattle.live_run.proofs.Lived.{all_live}
use Rattle.live_run.proofs.running.merged.Goals as goal

pub look_all-requires : goal.look_all-requires
look_all-requires g c =
    let r = c.into_rows-journals.result in
    let e = sym c.into_rows-journals.ensures in
    let count = ap (λ (s : Script). node_count (cluster_of s.setup)) c.requires.script in
    let all = subst (λ x. AreParts g.N.Actor.transition g.N.Member.first g.R.RunName.script g.R.RunName.outs c.args.parts.full x.0.items x.1 x.2.items x.3.items) e c.requires.parts in
    let whole = subst (λ x. length x.0.items ≡ node_count (cluster_of c.args.script.now.setup)) e c.requires.count in
    are_pairs g.N.Actor.transition g.N.Member.first g.R.RunName.script g.R.RunName.outs c.args.parts.full r.0.items r.1 r.2.items r.3.items all (whole ∙ count) (c.requires.rings ∙ count)

pub merge-requires-clause-standing : goal.merge-requires-clause-standing
merge-requires-clause-standing g c =
    let r = c.into_rows-journals.result in
    let e = sym c.into_rows-journals.ensures in
    let count = ap (λ (s : Script). node_count (cluster_of s.setup)) c.requires.script in
    let all = subst (λ x. AreParts g.N.Actor.transition g.N.Member.first g.R.RunName.script g.R.RunName.outs c.args.parts.full x.0.items x.1 x.2.items x.3.items) e c.requires.parts in
    let whole = subst (λ x. length x.0.items ≡ node_count (cluster_of c.args.script.now.setup)) e c.requires.count in
    subst (λ (s : Script). Standing g.N.Actor.transition (start_world g.N.Member.first s) r.0.items) (sym c.requires.script)
    (stands g.N.Actor.transition g.N.Member.first g.R.RunName.script g.R.RunName.outs c.args.parts.full r.0.items r.1 r.2.items r.3.items all (whole ∙ count) (c.requires.rings ∙ count)
    c.look_all.ensures)

pub merge-requires-clause-told : goal.merge-requires-clause-told
merge-requires-clause-told g c =
    let r = c.into_rows-journals.result in
    let e = sym c.into_rows-journals.ensures in
    let count = ap (λ (s : Script). node_count (cluster_of s.setup)) c.requires.script in
    let all = subst (λ x. AreParts g.N.Actor.transition g.N.Member.first g.R.RunName.script g.R.RunName.outs c.args.parts.full x.0.items x.1 x.2.items x.3.items) e c.requires.parts in
    let whole = subst (λ x. length x.0.items ≡ node_count (cluster_of c.args.script.now.setup)) e c.requires.count in
    subst (λ (s : Script). AreTold g.N.Actor.transition (first_nodes g.N.Member.first s (cluster_of s.setup)) r.0.items r.1) (sym c.requires.script)
    (are_told g.N.Actor.transition g.N.Member.first g.R.RunName.script g.R.RunName.outs c.args.parts.full r.0.items r.1 r.2.items r.3.items all (whole ∙ count) (c.requires.rings ∙ count))

pub returns-clause-run : goal.returns-clause-run
returns-clause-run g c =
    let r = c.into_rows-journals.result in
    let e = sym c.into_rows-journals.ensures in
    let all = subst (λ x. AreParts g.N.Actor.transition g.N.Member.first g.R.RunName.script g.R.RunName.outs c.args.parts.full x.0.items x.1 x.2.items x.3.items) e c.requires.parts in
    let here = subst (λ (s : Script). AreParts g.N.Actor.transition g.N.Member.first s g.R.RunName.outs c.args.parts.full r.0.items r.1 r.2.items r.3.items) (sym c.requires.script) all in
    let whole = subst (λ x. length x.0.items ≡ node_count (cluster_of c.args.script.now.setup)) e c.requires.count in
    let m = c.merge.ensures in
    all_live g.N.Actor.transition g.N.Member.first c.args.script.now g.R.RunName.outs c.args.parts.full r.0.items r.1 r.2.items r.3.items here whole c.requires.setup c.requires.names c.merge.result
    m.script m.run m.rises m.each m.acts

pub returns-clause-each : goal.returns-clause-each
returns-clause-each g c =
    subst (λ x. IfOk c.merge.result (λ estate. (k : ℕ) (j : Seq Moment) → slice_get x.0.items k ≡ Some j
    → whats_of (node_at (cluster_of c.args.script.now.setup) k) estate.events ≡ whats j)) c.into_rows-journals.ensures c.merge.ensures.each
