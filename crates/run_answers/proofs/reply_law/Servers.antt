-- A storage server answers each question in the event in which it comes.
use Rattle.std.proofs.Common.{◌≡◌, Bool, true, false, cond, [], ◌∷◌, Option, Some, None, is_some, refl, sym, ◌∙◌}
use Rattle.std.specs.Ordering.{is_eq}
use Rattle.core_world.specs.AnyNode.{any_step, as_any}
use Rattle.core_world.specs.declared.any_node.AnyNode.{AnyNode}
use Rattle.core_world.specs.declared.any_node.AnyNode.TheVariants as any
use Rattle.fragment_store.specs.Calls.{shelf_store, on_fence as fenced_at, on_list, refusal}
use Rattle.fragment_store.specs.declared.store_error.StoreError.{StoreError}
use Rattle.fragment_store.specs.ShelfState.{ShelfState, fence_of, held_at}
use Rattle.node_base.specs.declared.effects.Effect.TheVariants.{Send}
use Rattle.node_base.specs.Known.{names_known_groups}
use Rattle.node_base.specs.Shape.{is_well_formed}
use Rattle.store_nodes.specs.declared.server.Server.{Server}
use Rattle.store_nodes.specs.Rebuilds.{Done}
use Rattle.store_nodes.specs.ServerEvents as storing
use Rattle.wire_msg.specs.declared.body.Body.{Body}
use Rattle.wire_msg.specs.declared.body.Body.TheVariants as body
use Rattle.wire_msg.specs.declared.packet.Do.TheVariants.{Deliver}
use Rattle.wire_msg.specs.declared.packet.Packet.{Packet}
use Rattle.wire_msg.specs.declared.storage.Fence.{Fence}
use Rattle.wire_msg.specs.declared.storage.Fetch.{Fetch}
use Rattle.wire_msg.specs.declared.storage.Store.{Store}
use Rattle.wire_msg.specs.NodeStep.{NodeStep}
use Rattle.xfs_base.proofs.Booleans.{by_test, contrary}
use Rattle.xfs_base.specs.declared.fragment.Fragment.{Fragment}
use Rattle.xfs_base.specs.declared.node.NodeId.{NodeId}
use Rattle.xfs_base.specs.Segments.{pass_cmp}
use Rattle.xfs_base.specs.Steps.{still}
use Rattle.headline.specs.ServerReplies.{IsFenced, IsFetched, IsStored, ServerReplies}

module _ (v : Server) (asker : NodeId) where
  abbrev step_of : Done → NodeStep AnyNode
  step_of d = as_any any.Server (storing.seen v.number d)

  fetched : (fetch : Fetch) (held : Option Fragment)
      → IsFetched v asker (step_of (storing.tells v (Send asker (storing.found_or_missing v.shelf fetch held) ∷ []))) fetch held
  fetched fetch None = refl
  fetched fetch (Some fragment) = refl

  -- what a store makes, where it is refused so
  abbrev stores : Store → Option StoreError → Done
  stores store refused =
      cond (is_some refused) (still v)
      (record {
        state = record v { shelf = shelf_store v.shelf store.fragment };
        outs = Send asker (body.Stored (record { name = store.fragment.meta.name; index = store.fragment.meta.index; generation = store.generation })) ∷ [];
      })

  stored : (store : Store) (refused : Option StoreError) → IsStored v asker (step_of (stores store refused)) store refused
  stored store None = (refl, refl)
  stored store (Some refusal) = (refl, refl)

  -- what is told of a fence
  abbrev fences : Fence → ShelfState → Bool → Done
  fences fence shelf told = record {
    state = record v { shelf = shelf };
    outs = cond told
        (Send asker (body.Fenced (record { log = fence.log; pass = fence.pass; generation = shelf.generation; held = storing.of_log fence.log (on_list shelf) })) ∷ []) [];
  }

  fenced : (fence : Fence) (shelf : ShelfState) (told : Bool) → IsFenced v asker (step_of (fences fence shelf told)) fence shelf told
  fenced fence shelf true = refl
  fenced fence shelf false = refl

  answered : (b : Body) → names_known_groups v.maps b ≡ true → ServerReplies v asker (step_of (storing.on_body v asker b)) b
  unfolding storing.on_store storing.on_fence storing.on_delete
  answered (body.Fetch fetch) known = (refl, fetched fetch (held_at v.shelf.held fetch.name))
  answered (body.Store store) known =
      by_test (λ (d : Done). ServerReplies v asker (step_of d) (body.Store store)) (names_known_groups v.maps (body.Store store)) (storing.on_store v asker store)
      (storing.asks_for_maps v) (λ _. stored store (refusal v.shelf store.fragment.meta.name store.generation)) (λ no. contrary (sym no ∙ known))
  answered (body.Fence fence) known =
      let shelf : ShelfState = fenced_at v.shelf fence.log fence.pass in
      (refl, fenced fence shelf (is_eq (pass_cmp (fence_of shelf.fences fence.log) fence.pass)))
  answered (body.List list) known = (refl, refl)
  answered (body.Delete delete) known = (refl, refl)
  answered _ known = tt

pub server_answers : (v : Server) (packet : Packet) → storing.is_far_from_ends v ≡ true → is_well_formed v.peers packet ≡ true
    → names_known_groups v.maps packet.body ≡ true → ServerReplies v packet.from (any_step (any.Server v) (Deliver packet)) packet.body
unfolding storing.on_packet
server_answers v packet far well known =
    by_test (λ (d : Done). ServerReplies v packet.from (step_of v packet.from d) packet.body) (storing.is_far_from_ends v) (storing.on_event v (Deliver packet)) (still v)
    (λ _.
    by_test (λ (d : Done). ServerReplies v packet.from (step_of v packet.from d) packet.body) (is_well_formed v.peers packet)
    (storing.on_body v packet.from packet.body) (still v) (λ _. answered v packet.from packet.body known) (λ no. contrary (sym no ∙ well)))
    (λ no. contrary (sym no ∙ far))
