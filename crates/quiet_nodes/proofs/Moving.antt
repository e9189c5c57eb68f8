-- Layers of packets lead from scene to scene: one packet after another, and one layer after another until nothing is on its way.
use Rattle.std.proofs.Common.{◌≡◌, ℕ, ◌+◌, ◌-◌, true, cond, List, [], ◌∷◌, ◌++◌, length, map, refl, sym, ap, ◌∙◌, append_assoc, append-nil, arith}
use Rattle.std.proofs.lemmas.List.Sums.{sum_by-append}
use Rattle.core_world.specs.AnyNode.{any_step}
use Rattle.core_world.specs.declared.any_node.AnyNode.{AnyNode}
use Rattle.node_base.specs.Nodes.{has_node, peers_of}
use Rattle.play.specs.Plays.{answers, is_answer}
use Rattle.quiet_flow.proofs.Flowing.{delivers_none, drains_done, layer_drains, next_delivers}
use Rattle.quiet_flow.proofs.Places.{has_fact}
use Rattle.quiet_flow.specs.Flow.{Stage, turned, unclocked}
use Rattle.version_model.specs.declared.act.Act.{Act}
use Rattle.version_model.specs.declared.work.Work.{Work}
use Rattle.wire_msg.specs.declared.packet.Do.TheVariants.{Deliver}
use Rattle.wire_msg.specs.declared.packet.Packet.{Packet}
use Rattle.wire_msg.specs.NodeStep.{NodeStep}
use Rattle.xfs_base.specs.declared.node.NodeId.{NodeId}
use Rattle.xfs_base.specs.declared.setup.Setup.{Setup}
use Rattle.quiet_nodes.specs.Moves.{Empties, IsAfter, IsFrame, IsPlaced, Moves}
use Rattle.quiet_nodes.specs.Scene.{Scene, node_at}
use Rattle.quiet_nodes.proofs.Staging.{placed_on}

pub answers_both : (xs ys : List Act) → answers (xs ++ ys) ≡ answers xs + answers ys
answers_both xs ys = sum_by-append (λ x. cond (is_answer x) 1 0) xs ys

less_both : (n a b : ℕ) → (n - a) - b ≡ n - (a + b)
less_both n a b = omega arith

less_none : (n : ℕ) → n ≡ n - 0
less_none n = omega arith

module _ (setup : Setup) (works : NodeId → List Work) where
  -- ---- stages after stages

  pub after_none : (t : Stage AnyNode) (s : Scene) → IsPlaced setup works s t.node → IsAfter setup works t [] s t
  after_none t s placed = record { placed = placed; acted = sym (append-nil t.acts); answered = less_none t.unanswered }

  pub after_both : (t mid end : Stage AnyNode) (first second : List Act) (m u : Scene) → IsAfter setup works t first m mid → IsAfter setup works mid second u end
      → IsAfter setup works t (first ++ second) u end
  after_both t mid end first second m u a b = record {
    placed = b.placed;
    acted = b.acted ∙ ap (λ xs. xs ++ second) a.acted ∙ append_assoc t.acts first second;
    answered =
        b.answered
        ∙ ap (λ n. n - answers second) a.answered
        ∙ less_both t.unanswered (answers first) (answers second)
        ∙ ap (λ n. t.unanswered - n) (sym (answers_both first second));
  }

  -- ---- one packet after another

  pub moves_none : (s : Scene) → Moves setup works s [] [] [] s
  moves_none s t placed = record { end = t; delivers = delivers_none any_step setup t; is_after = after_none t s placed }

  pub moves_next : (s m u : Scene) (packet : Packet) (packets layer outs : List Packet) (acts done : List Act) → has_node (peers_of setup) packet.to ≡ true
      → any_step (node_at setup works s packet.to) (Deliver packet) ≡ record { node = node_at setup works m packet.to; packets = packets; acts = acts }
      → IsFrame setup works packet.to s m → Moves setup works m layer outs done u
      → Moves setup works s (packet ∷ layer) (map unclocked packets ++ outs) (acts ++ done) u
  moves_next s m u packet packets layer outs acts done there is frame rest t placed =
      let r : NodeStep AnyNode = record { node = node_at setup works m packet.to; packets = packets; acts = acts } in
      let mid : Stage AnyNode = turned t packet.to r in
      let mid_placed = placed_on setup works packet.to s m t packets acts placed frame in
      let then_ = rest mid mid_placed in
      record {
        end = then_.end;
        delivers = next_delivers any_step setup t packet r layer outs then_.end there
            (ap (λ x. any_step x (Deliver packet)) (placed packet.to (has_fact setup packet.to there)) ∙ is) then_.delivers;
        is_after = after_both t mid then_.end acts done m u (record { placed = mid_placed; acted = refl; answered = refl }) then_.is_after;
      }

  -- ---- one layer after another

  pub empties_none : (s : Scene) → Empties setup works 0 s [] [] s
  empties_none s t placed = record { end = t; drains = drains_done any_step setup 0 t; is_after = after_none t s placed }

  pub empties_layer : (n : ℕ) (s m u : Scene) (layer outs : List Packet) (first second : List Act) → Moves setup works s layer outs first m
      → Empties setup works n m outs second u → Empties setup works (length layer + n) s layer (first ++ second) u
  empties_layer n s m u layer outs first second moves rest t placed =
      let a = moves t placed in
      let b = rest a.end a.is_after.placed in
      record {
        end = b.end;
        drains = layer_drains any_step setup n t layer outs a.end b.end a.delivers b.drains;
        is_after = after_both t a.end b.end first second m u a.is_after b.is_after;
      }
