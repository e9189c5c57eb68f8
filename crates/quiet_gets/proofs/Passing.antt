-- Time passes at one node after another.
use Rattle.wire_msg.specs.declared.packet.Do.TheVariants.{Tick}
use Rattle.core_world.specs.AnyNode.{any_step}
use Rattle.core_world.specs.declared.any_node.AnyNode.{AnyNode}
use Rattle.quiet_flow.specs.Flow.{Done, Stage, ticks, turned, unclocked}
use Rattle.quiet_gets.specs.Passing.{Passes}
use Rattle.quiet_nodes.proofs.Moving.{after_both, after_none}
use Rattle.quiet_nodes.proofs.Staging.{happens_as, placed_on}
use Rattle.quiet_nodes.specs.Moves.{IsFrame}
use Rattle.quiet_nodes.specs.Scene.{Scene, node_at}
use Rattle.std.proofs.Common.{List, [], ap, map, refl, ◌++◌, ◌∙◌, ◌∷◌, ◌≡◌}
use Rattle.version_model.specs.declared.work.Work.{Work}
use Rattle.wire_msg.specs.NodeStep.{NodeStep}
use Rattle.wire_msg.specs.declared.packet.Packet.{Packet}
use Rattle.world_base.specs.Cluster.{HasNode}
use Rattle.xfs_base.specs.Steps.{saying, steps}
use Rattle.xfs_base.specs.declared.node.NodeId.{NodeId}
use Rattle.xfs_base.specs.declared.setup.Setup.{Setup}

module _ (setup : Setup) (works : NodeId → List Work) where
  pub passes_none : (s : Scene) → Passes setup works s [] [] s
  passes_none s t placed = record { end = t; is = refl; is_after = after_none setup works t s placed }

  pub passes_next : (s m u : Scene) (name : NodeId) (names : List NodeId) (packets outs : List Packet) → HasNode setup name
      → any_step (node_at setup works s name) Tick ≡ record { node = node_at setup works m name; packets = packets; acts = [] }
      → IsFrame setup works name s m → Passes setup works m names outs u
      → Passes setup works s (name ∷ names) (map unclocked packets ++ outs) u
  passes_next s m u name names packets outs has is frame rest t placed =
      let r : NodeStep AnyNode = record { node = node_at setup works m name; packets = packets; acts = [] } in
      let mid : Stage AnyNode = turned t name r in
      let mid_placed = placed_on setup works name s m t packets [] placed frame in
      let then_ = rest mid mid_placed in
      let first = happens_as setup works name Tick s m t packets [] has placed is in
      record {
        end = then_.end;
        is =
            ap (λ (f : Done AnyNode). saying f.outs (steps (ticks any_step setup) f.state names)) first
            ∙ ap (λ (f : Done AnyNode). saying (map unclocked packets) f) then_.is;
        is_after = after_both setup works t mid then_.end [] [] m u (record { placed = mid_placed; acted = refl; answered = refl }) then_.is_after;
      }

  -- at a node that has nothing to say
  pub passes_silent : (s u : Scene) (name : NodeId) (names : List NodeId) (outs : List Packet) → HasNode setup name
      → any_step (node_at setup works s name) Tick ≡ record { node = node_at setup works s name; packets = []; acts = [] } → Passes setup works s names outs u
      → Passes setup works s (name ∷ names) outs u
  passes_silent s u name names outs has is rest = passes_next s s u name names [] outs has is (λ other differs. refl) rest
