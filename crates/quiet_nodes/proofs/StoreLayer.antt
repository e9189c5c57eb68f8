-- A segment's fragments come to the members of its group, and each of them answers.
use Rattle.std.proofs.Common.{◌≡◌, ℕ, ◌+◌, ◌&&◌, true, false, List, [], ◌∷◌, refl, sym, ap, subst, ◌∙◌}
use Rattle.std.specs.List.{AllByRecursion}
use Rattle.core_world.specs.AnyNode.{any_step, as_any}
use Rattle.core_world.specs.declared.any_node.AnyNode.{AnyNode}
use Rattle.core_world.specs.declared.any_node.AnyNode.TheVariants as any
use Rattle.group_map.specs.declared.group.Member.{Member}
use Rattle.log_flight.specs.Flights.{FlightState}
use Rattle.log_flight.specs.Fragments.{flight_fragment}
use Rattle.node_base.specs.Maps.{maps_start, knows, knows_prior}
use Rattle.node_base.specs.Nodes.{has_node, peers_of}
use Rattle.node_base.specs.Known.{knows_meta}
use Rattle.node_base.specs.Shape.{is_meta, is_name}
use Rattle.stripe_code.specs.Fragments.{meta_of}
use Rattle.version_model.specs.declared.work.Work.{Work}
use Rattle.wire_msg.specs.declared.body.Body.TheVariants as body
use Rattle.wire_msg.specs.declared.packet.Do.TheVariants.{Deliver}
use Rattle.wire_msg.specs.NodeStep.{NodeStep}
use Rattle.xfs_base.specs.declared.fragment.Fragment.{Fragment}
use Rattle.xfs_base.specs.declared.fragment.FragMeta.{FragMeta}
use Rattle.xfs_base.specs.declared.node.NodeId.{NodeId}
use Rattle.xfs_base.specs.declared.node.NodeId.TheVariants.{Client, Server}
use Rattle.xfs_base.specs.declared.setup.Setup.{Setup}
use Rattle.xfs_base.specs.Segments.{pass_cmp}
use Rattle.xfs_base.specs.Stamps.{is_greater}
use Rattle.quiet_nodes.specs.Layers.{IsFirst, kept_by, store_to, stored_by, storeds_by, stores_to, with_piece, with_pieces}
use Rattle.quiet_nodes.specs.Moves.{Moves}
use Rattle.quiet_nodes.specs.Scene.{Scene, its_groups, node_at}
use Rattle.quiet_nodes.proofs.Moving.{moves_next, moves_none}
use Rattle.quiet_nodes.proofs.Staging.{held_frame, held_put}
use Rattle.quiet_nodes.proofs.Storing.{store_comes}

pub meta_is : (f : FlightState) (place : ℕ) → (flight_fragment f.segment f.group place).meta ≡ meta_of f.segment place
unfolding flight_fragment
meta_is f place = refl

-- a server takes what a segment's fragments say of themselves
pub record IsTaken (setup : Setup) (works : NodeId → List Work) (f : FlightState) : Type 0 where
  pub of_log : is_name f.segment.name ≡ true
  pub group : knows (maps_start (its_groups setup works)) f.segment.group ≡ true
  pub prior : knows_prior (maps_start (its_groups setup works)) f.segment.prior ≡ true
  pub above : is_greater (pass_cmp (record { inc = 0; att = 0 }) f.segment.name.pass) ≡ false

module _ (setup : Setup) (works : NodeId → List Work) (c : ℕ) (f : FlightState) (there : has_node (peers_of setup) (Client c) ≡ true)
    (taken : IsTaken setup works f) where
  module _ (place : ℕ) where
    abbrev its_piece : Fragment
    its_piece = flight_fragment f.segment f.group place

    pub of_log_piece : is_meta its_piece.meta ≡ true
    of_log_piece = ap is_meta (meta_is f place) ∙ taken.of_log

    pub known_piece : knows_meta (maps_start (its_groups setup works)) its_piece.meta ≡ true
    known_piece =
        ap (knows_meta (maps_start (its_groups setup works))) (meta_is f place)
        ∙ ap (λ t. t && knows_prior (maps_start (its_groups setup works)) f.segment.prior) taken.group
        ∙ taken.prior

    above_piece : is_greater (pass_cmp (record { inc = 0; att = 0 }) its_piece.meta.name.pass) ≡ false
    above_piece = ap (λ (m : FragMeta). is_greater (pass_cmp (record { inc = 0; att = 0 }) m.name.pass)) (meta_is f place) ∙ taken.above

    module _ (m : Member) (s : Scene) where
      abbrev then_ : Scene
      then_ = record s { held = with_piece setup works s.held f m place }

      abbrev answers_so : AnyNode → FragMeta → NodeStep AnyNode
      answers_so node meta = record {
        node = node;
        packets = record {
          from = Server m.server;
          to = Client c;
          clock = 0;
          body = body.Stored (record { name = meta.name; index = meta.index; generation = 1 });
        } ∷ [];
        acts = [];
      }

      one_stores : m.generation ≡ 1
          → any_step (node_at setup works s (Server m.server)) (Deliver (store_to c f m place))
          ≡ record { node = node_at setup works then_ (Server m.server); packets = stored_by c f.segment.name m place ∷ []; acts = [] }
      one_stores first =
          subst
          (λ g. any_step (node_at setup works s (Server m.server))
          (Deliver (record { from = Client c; to = Server m.server; clock = 0; body = body.Store (record { fragment = its_piece; generation = g }) }))
          ≡ record { node = node_at setup works then_ (Server m.server); packets = stored_by c f.segment.name m place ∷ []; acts = [] })
          (sym first)
          (ap (as_any any.Server)
          (store_comes setup works m.server c 0 (s.held m.server) its_piece there of_log_piece known_piece above_piece)
          ∙ ap (λ node. answers_so node its_piece.meta) (sym (held_put setup works m.server (kept_by setup works s.held f m place) s))
          ∙ ap (answers_so (node_at setup works then_ (Server m.server))) (meta_is f place))

  pub stores_move : (ms : List Member) (place : ℕ) (s : Scene) → AllByRecursion (IsFirst setup) ms
      → Moves setup works s (stores_to c f ms place) (storeds_by c f.segment.name ms place) [] (record s { held = with_pieces setup works s.held f ms place })
  stores_move [] place s each = moves_none setup works s
  stores_move (m ∷ ms) place s each =
      let next : Scene = record s { held = with_piece setup works s.held f m place } in
      moves_next setup works s next (record s { held = with_pieces setup works s.held f (m ∷ ms) place }) (store_to c f m place)
      (stored_by c f.segment.name m place ∷ []) (stores_to c f ms (place + 1)) (storeds_by c f.segment.name ms (place + 1)) [] [] each.0.1
      (one_stores place m s each.0.0) (held_frame setup works m.server (kept_by setup works s.held f m place) s)
      (stores_move ms (place + 1) next each.1)
