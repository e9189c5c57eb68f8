-- What a storage server does in the event in which a question comes to it: it answers at once, and its shelf is then just what the question asks for.
use Rattle.std.specs.Ordering.{is_eq}
use Rattle.std.specs.Prelude.{◌≡◌, Bool, true, false, [], ◌∷◌, Option, Some, None}
use Rattle.core_world.specs.declared.any_node.AnyNode.{AnyNode}
use Rattle.core_world.specs.declared.any_node.AnyNode.TheVariants as any
use Rattle.fragment_store.specs.Calls.{shelf_store, on_delete, on_fence, on_list, refusal}
use Rattle.fragment_store.specs.declared.store_error.StoreError.{StoreError}
use Rattle.fragment_store.specs.ShelfState.{ShelfState, fence_of, held_at}
use Rattle.store_nodes.specs.declared.server.Server.{Server}
use Rattle.store_nodes.specs.ServerEvents.{of_log}
use Rattle.wire_msg.specs.declared.body.Body.{Body}
use Rattle.wire_msg.specs.declared.body.Body.TheVariants as body
use Rattle.wire_msg.specs.declared.storage.Fence.{Fence}
use Rattle.wire_msg.specs.declared.storage.Fetch.{Fetch}
use Rattle.wire_msg.specs.declared.storage.Store.{Store}
use Rattle.wire_msg.specs.NodeStep.{NodeStep}
use Rattle.xfs_base.specs.declared.fragment.Fragment.{Fragment}
use Rattle.xfs_base.specs.declared.node.NodeId.{NodeId}
use Rattle.xfs_base.specs.declared.node.NodeId.TheVariants as nodes
use Rattle.xfs_base.specs.Segments.{pass_cmp}

-- the node is a server with this shelf
abbrev pub HasShelf : AnyNode → ShelfState → Type 0
HasShelf (any.Server u) shelf = u.shelf ≡ shelf
HasShelf _ shelf = ⊥

-- of a server that is asked by a node, and of its step
module _ (v : Server) (asker : NodeId) (s : NodeStep AnyNode) where
  -- one packet goes out, to the asker, which says this
  abbrev pub Says : Body → Type 0
  Says said = s.packets ≡ record { from = nodes.Server v.number; to = asker; clock = 0; body = said } ∷ []

  -- asked for a fragment: the one that is held, or that none is
  abbrev pub IsFetched : Fetch → Option Fragment → Type 0
  IsFetched fetch (Some fragment) = Says (body.Fragment (record { ask = fetch.ask; generation = v.shelf.generation; fragment = fragment }))
  IsFetched fetch None = Says (body.Missing (record { name = fetch.name; ask = fetch.ask; generation = v.shelf.generation }))

  -- told to store: where generation, marks and fence allow, the fragment is held then, and that is said; else nothing is done
  abbrev pub IsStored : Store → Option StoreError → Type 0
  IsStored store None =
      HasShelf s.node (shelf_store v.shelf store.fragment)
      × Says (body.Stored (record { name = store.fragment.meta.name; index = store.fragment.meta.index; generation = store.generation }))
  IsStored store (Some refusal) = HasShelf s.node v.shelf × (s.packets ≡ [])

  -- told to bar a log below a pass: it is barred, and where just that pass is the fence then, what is held of the log is said; else nothing is
  abbrev pub IsFenced : Fence → ShelfState → Bool → Type 0
  IsFenced fence shelf true = Says (body.Fenced (record { log = fence.log; pass = fence.pass; generation = shelf.generation; held = of_log fence.log (on_list shelf) }))
  IsFenced fence shelf false = s.packets ≡ []

  abbrev pub DoesFence : Fence → ShelfState → Type 0
  DoesFence fence shelf = HasShelf s.node shelf × IsFenced fence shelf (is_eq (pass_cmp (fence_of shelf.fences fence.log) fence.pass))

  -- So it answers each question.
  abbrev pub ServerReplies : Body → Type 0
  ServerReplies (body.Fetch fetch) = HasShelf s.node v.shelf × IsFetched fetch (held_at v.shelf.held fetch.name)
  ServerReplies (body.Store store) = IsStored store (refusal v.shelf store.fragment.meta.name store.generation)
  ServerReplies (body.Fence fence) = DoesFence fence (on_fence v.shelf fence.log fence.pass)
  ServerReplies (body.List list) =
      HasShelf s.node v.shelf × Says (body.Listed (record { ask = list.ask; generation = v.shelf.generation; held = on_list v.shelf }))
  ServerReplies (body.Delete delete) =
      HasShelf s.node (on_delete v.shelf delete.name) × Says (body.Deleted (record { name = delete.name; generation = v.shelf.generation }))
  ServerReplies _ = Unit {0}
