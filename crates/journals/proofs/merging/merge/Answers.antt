use Rattle.std.proofs.Common.{◌≡◌, ◌∙◌, ap, sym, subst, ◌<◌, arith}
use Rattle.std.specs.List.{Contains}
use Rattle.std.proofs.lemmas.Option.{slice_get_within}
use Rattle.world_base.specs.declared.world.World.{World}
use Rattle.world_base.specs.Cluster.{cluster_of, node_at, node_count}
use Rattle.world_base.specs.NextWorld.{start_world}
use Rattle.world_base.specs.Runs.{IsRun}
use Rattle.journals.specs.declared.merged.Merged.{Merged}
use Rattle.journals.specs.Journals.{whats}
use Rattle.journals.specs.Merged.{none_merged}
use Rattle.journals.specs.Merging.{Rises, heads_of, whats_of}
use Rattle.journals.proofs.Keeping.{Keeps, ends_so, has_clock, has_node, keeps_next, keeps_none}
use Rattle.journals.proofs.Lefts.{less_left}
use Rattle.journals.proofs.Rising.{leads, merged_acts, merged_all, rises}
use Rattle.journals.proofs.Starts.{start_cluster, start_node}
use Rattle.journals.proofs.merging.merge.Goals as goal

pub loop-merged-init : goal.loop-merged-init
loop-merged-init g c =
    let script = c.args.script.now in
    let first = g.N.Member.first in (
      subst (λ (t : Merged). Keeps g.N.Actor.transition (start_world first script) c.args.journals.items c.args.journals.items c.args.nodes t)
          (sym (c.in_ok-merged.ensures ∙ ap none_merged c.of.ensures))
          (keeps_none g.N.Actor.transition first script c.args.journals.items c.args.nodes c.requires.standing c.requires.told),
      c.in_ok-heads.ensures ∙ ap heads_of c.as_slice.ensures.value,
    )

pub next_moment-requires : goal.next_moment-requires
next_moment-requires g c = c.loop-merged.invariant.1

pub add-requires-clause-node : goal.add-requires-clause-node
add-requires-clause-node g c =
    has_node g.N.Actor.transition (start_world g.N.Member.first c.args.script.now) c.args.journals.items c.loop-merged.rests.items c.args.nodes c.loop-merged.merged c.in-Some.next.0
    c.in-Some.next.1 c.next_moment.new.rests.items c.loop-merged.invariant.0 c.in-Some.ensures.next

pub add-requires-clause-clock : goal.add-requires-clause-clock
add-requires-clause-clock g c =
    has_clock g.N.Actor.transition (start_world g.N.Member.first c.args.script.now) c.args.journals.items c.loop-merged.rests.items c.args.nodes c.loop-merged.merged c.in-Some.next.0
    c.in-Some.next.1 c.next_moment.new.rests.items c.loop-merged.invariant.0 c.in-Some.ensures.next

pub returns-in-None-clause-run : goal.returns-in-None-clause-run
returns-in-None-clause-run g c =
    let step = g.N.Actor.transition in
    let first = g.N.Member.first in
    let script = c.args.script.now in
    let start = start_world first script in
    let k = c.loop-merged.invariant.0 in
    let t = c.loop-merged.merged in
    let world = ends_so step start c.args.journals.items c.loop-merged.rests.items c.args.nodes t k c.in-None.ensures.next ∙ sym c.into_world-events.ensures.world in
    subst (λ es. IsRun step first script es c.into_world-events.result.1) (sym c.into_world-events.ensures.events)
    (subst (λ (w : World g.row.N.Denot). IsRun step first script t.events w) world
    (leads step start 0 0 t.events k.world k.run.clock k.run.place k.run.rising))

pub returns-in-None-clause-rises : goal.returns-in-None-clause-rises
returns-in-None-clause-rises g c =
    let step = g.N.Actor.transition in
    let start = start_world g.N.Member.first c.args.script.now in
    let k = c.loop-merged.invariant.0 in
    subst (λ es. Rises step start 0 0 es) (sym c.into_world-events.ensures.events)
    (rises step start 0 0 c.loop-merged.merged.events k.world k.run.clock k.run.place k.run.rising)

pub returns-in-None-clause-each : goal.returns-in-None-clause-each
returns-in-None-clause-each g c p j at =
    let start = start_world g.N.Member.first c.args.script.now in
    let k = c.loop-merged.invariant.0 in
    let t = c.loop-merged.merged in
    subst (λ es. whats_of (node_at (cluster_of c.args.script.now.setup) p) es ≡ whats j) (sym c.into_world-events.ensures.events)
    (subst (λ q. whats_of (node_at q p) t.events ≡ whats j) (start_cluster g.N.Member.first c.args.script.now)
    (merged_all g.N.Actor.transition start c.args.journals.items c.loop-merged.rests.items t.events k.world k.run c.in-None.ensures.next p j at))

pub returns-in-None-clause-acts : goal.returns-in-None-clause-acts
returns-in-None-clause-acts g c p j a at found =
    let step = g.N.Actor.transition in
    let first = g.N.Member.first in
    let script = c.args.script.now in
    let start = start_world first script in
    let k = c.loop-merged.invariant.0 in
    let t = c.loop-merged.merged in
    let in_j = slice_get_within c.args.journals.items p j at in
    let below : p < node_count (cluster_of script.setup) =
    let n : node_count start.cluster ≡ node_count (cluster_of script.setup) = ap node_count (start_cluster first script) in
    omega (arith, c.requires.standing.count)
    in
    let world = ends_so step start c.args.journals.items c.loop-merged.rests.items c.args.nodes t k c.in-None.ensures.next ∙ sym c.into_world-events.ensures.world in
    subst (λ (w : World g.row.N.Denot). Contains w.acts a) world
    (merged_acts step start c.args.journals.items c.loop-merged.rests.items t.events k.world k.run c.in-None.ensures.next p _ j a (start_node first script p below) at found)

pub loop-merged-smaller : goal.loop-merged-smaller
loop-merged-smaller g c =
    let x = c.in-Some.ensures.next in
    less_left c.loop-merged.rests.items c.next_moment.new.rests.items c.in-Some.next.0 c.in-Some.next.1 x.tail x.at x.left

pub loop-merged-preserved : goal.loop-merged-preserved
loop-merged-preserved g c = (
  keeps_next g.N.Actor.transition (start_world g.N.Member.first c.args.script.now) c.args.journals.items c.loop-merged.rests.items c.args.nodes c.loop-merged.merged c.in-Some.next.0
      c.in-Some.next.1 c.next_moment.new.rests.items c.add.new.self c.loop-merged.invariant.0 c.in-Some.ensures.next c.in_ok-add.ensures,
  c.in-Some.ensures.heads,
)
