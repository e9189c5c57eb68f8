-- What was seen of packets in the small world of a manager's log is seen there, whatever the manager does: it asks for the maps alone.
use Rattle.std.proofs.Common.{◌≡◌, ℕ, sym, subst, ◌∙◌}
use Rattle.node_logs.specs.client_log_tie.ClientEvents.{Grown}
use Rattle.node_logs.specs.client_log_tie.Owner.{Scene}
use Rattle.log_tie.specs.Setting.{Setting}
use Rattle.node_logs.specs.manager_log_tie.Owner.{ManagerAgrees, its_asker}
use Rattle.manager_node.specs.declared.phase.Phase.{Phase}
use Rattle.manager_node.specs.declared.phase.Phase.TheVariants.{Down, Waiting, Serving as Serves}
use Rattle.node_logs.proofs.node_log_tie.Going.{run_later}
use Rattle.node_logs.proofs.node_log_tie.Sights.{seen_later}
use Rattle.node_logs.specs.node_log_tie.Sight.{BodySeen, Question}
use Rattle.node_logs.specs.node_log_tie.Sight.Question.{OfMaps, Unasked}
use Rattle.wire_msg.specs.declared.body.Body.{Body}
use Rattle.xfs_base.specs.declared.node.NodeId.{NodeId}
use Rattle.xfs_base.specs.declared.node.NodeId.TheVariants.{Manager}

pub asks_for_maps : (g : Setting) (j : ℕ) (w : Scene) (p : Phase) → ManagerAgrees g j w p → (k : ℕ) → w.asked k ≡ OfMaps
asks_for_maps g j w (Down kept) h = h.lasts.asks
asks_for_maps g j w (Waiting kept hello) h = h.lasts.asks
asks_for_maps g j w (Serves s) h = h.lasts.asks

module _ (g : Setting) (j : ℕ) (w v : Scene) (grown : Grown g w v) (asks : (k : ℕ) → w.asked k ≡ OfMaps) where
  for_maps : (q : Question) → q ≡ OfMaps → q ≡ Unasked → ⊥
  for_maps q fact none = (let clash : OfMaps ≡ Unasked = sym fact ∙ none in absurd cc)

  same : v.asked ≡ w.asked
  same = λ i k. grown.asked k (for_maps (w.asked k) (asks k)) i

  pub manager_body_more : (from to : NodeId) (said : Body) → BodySeen g (its_asker j w) w.net from to said → BodySeen g (its_asker j v) v.net from to said
  manager_body_more from to said h =
      subst (λ asked. BodySeen g (record { node = Manager j; asked = asked }) v.net from to said) (sym same)
      (seen_later g (its_asker j w) w.net v.net (run_later g w.net v.net grown.runs) from to said h)
