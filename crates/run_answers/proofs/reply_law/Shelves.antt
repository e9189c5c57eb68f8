-- A shelf changes only as its server is asked to: by an item that begins, and by what comes.
use Rattle.std.proofs.Common.{◌≡◌, ℕ, Option, Some, None, is_some, refl, sym, ap, subst, ◌∙◌}
use Rattle.fragment_store.specs.Calls.{on_fill, on_lose as lost}
use Rattle.fragment_store.specs.ShelfState.{ShelfState}
use Rattle.group_map.specs.GroupMapState.{GroupMapState}
use Rattle.group_rebuild.specs.declared.input.In.TheVariants as input
use Rattle.node_base.specs.Beginning.{items_begin, next_item, work_at}
use Rattle.node_base.specs.declared.items.Items.{Items}
use Rattle.node_base.specs.Known.{names_known_groups}
use Rattle.node_base.specs.Shape.{is_well_formed}
use Rattle.node_moves.specs.server_moves.Moves.{Came}
use Rattle.shelf_changes.proofs.Rebuilding.{rebuild_keeps_shelf}
use Rattle.shelf_changes.specs.Changes.{ChangesByOne, EventsChangeByOne}
use Rattle.shelf_changes.specs.Changes.ChangesByOne.{Calls, Rests}
use Rattle.shelf_changes.specs.Changes.MayMake.{Deletes as MayDelete, Fences as MayFence, FillsByAbsence, FillsByFragment, Loses as MayLose, Stores as MayStore}
use Rattle.store_nodes.specs.declared.server.Rebuilding.{Rebuilding}
use Rattle.store_nodes.specs.declared.server.Server.{Server}
use Rattle.store_nodes.specs.Rebuilds.{Done, fetch_of, found_for, missing_for, on_found, on_missing, server_in}
use Rattle.store_nodes.specs.ServerEvents.{asks_for_maps, at_item, begins_rebuild, is_far_from_ends, on_begin, on_body, on_event, on_lose, on_packet, on_rebuild, on_wish, server_step, takes, tells, wish_of}
use Rattle.version_model.specs.declared.work.Work.{Work}
use Rattle.version_model.specs.declared.work.Work.TheVariants as work
use Rattle.wire_msg.specs.declared.body.Body.{Body}
use Rattle.wire_msg.specs.declared.body.Body.TheVariants as body
use Rattle.wire_msg.specs.declared.packet.Do.{Do}
use Rattle.wire_msg.specs.declared.packet.Do.TheVariants.{Begin, Deliver, Tick}
use Rattle.wire_msg.specs.declared.packet.Packet.{Packet}
use Rattle.wire_msg.specs.declared.storage.Found.{Found}
use Rattle.wire_msg.specs.declared.storage.Missing.{Missing}
use Rattle.xfs_base.proofs.Booleans.{by_test}
use Rattle.xfs_base.specs.declared.fragment.Fragment.{Fragment}
use Rattle.xfs_base.specs.declared.node.NodeId.{NodeId}
use Rattle.xfs_base.specs.Steps.{still}
use Rattle.run_answers.proofs.due_law.Standing.{asked_begun}
use Rattle.headline.specs.Items.{asked_at}
use Rattle.headline.specs.Shelves.{Comes, IsForRebuild, IsRebuilding, ShelfChanges}
use Rattle.headline.specs.Shelves.ShelfChanges.{Deletes, Fences, Fills, Loses, Stays, Stores}

module _ (v : Server) where
  -- ---- an item begins

  abbrev Begins : Done → Type 0
  Begins d = ShelfChanges v Begin d.state.shelf

  module _ (number : ℕ) (next : next_item v.items ≡ Some number) where
    rebuild_begun : (node : Server) (groups : Option GroupMapState) → node.shelf ≡ v.shelf → Begins (begins_rebuild node number groups)
    rebuild_begun node None same = Stays same
    rebuild_begun node (Some groups) same = Stays (rebuild_keeps_shelf _ input.Tick (λ told. told) ∙ same)

    wished : (node : Server) (asked : Option Work) → node.shelf ≡ v.shelf → asked_at v.items.works number ≡ asked
        → Begins (on_wish node number (wish_of asked))
    unfolding on_lose on_rebuild
    wished node (Some (work.Lose server)) same asks = Loses number server (record { begin = refl; next = next; asked = asks }) (ap lost same)
    wished node (Some (work.Rebuild server)) same asks =
        by_test Begins (is_some node.items.unanswered) (tells node _) (begins_rebuild node number node.maps.groups) (λ t. Stays same)
        (λ t. rebuild_begun node node.maps.groups same)
    wished node _ same asks = Stays same

  item_begun : (node : Server) (item : Option ℕ) → node.shelf ≡ v.shelf → node.items ≡ items_begin v.items → next_item v.items ≡ item → Begins (at_item node item)
  item_begun node None same its next = Stays same
  item_begun node (Some number) same its next =
      wished number next node (work_at node.items number) same (asked_begun v.items number ∙ ap (λ (i : Items). work_at i number) (sym its))

  begins : Begins (on_begin v)
  unfolding on_begin
  begins = item_begun (record v { items = items_begin v.items }) (next_item v.items) refl refl refl

  -- ---- what comes for a rebuild, where none is under way

  module _ (none : v.rebuilding ≡ None) where
    abbrev Unchanged : Done → Type 0
    Unchanged d = d.state.shelf ≡ v.shelf

    found : (server : Option ℕ) (m : Found) → Unchanged (on_found v server m)
    unfolding on_found
    found None m = refl
    found (Some server) m = subst (λ (r : Option Rebuilding). Unchanged (found_for v server m (fetch_of r m.ask))) (sym none) refl

    missing : (server : Option ℕ) (m : Missing) → Unchanged (on_missing v server m)
    unfolding on_missing
    missing None m = refl
    missing (Some server) m = subst (λ (r : Option Rebuilding). Unchanged (missing_for v server m (fetch_of r m.ask))) (sym none) refl

    body_rests : (from : NodeId) (said : Body) → IsForRebuild said → Unchanged (on_body v from said)
    unfolding asks_for_maps
    body_rests from (body.Fragment m) is =
        by_test Unchanged (names_known_groups v.maps (body.Fragment m)) (on_found v (server_in from) m) (asks_for_maps v) (λ t. found (server_in from) m) (λ t. refl)
    body_rests from (body.Missing m) is =
        by_test Unchanged (names_known_groups v.maps (body.Missing m)) (on_missing v (server_in from) m) (asks_for_maps v) (λ t. missing (server_in from) m) (λ t. refl)
    body_rests from _ is = absurd is

    packet_rests : (packet : Packet) → IsForRebuild packet.body → Unchanged (takes v (Deliver packet))
    unfolding on_packet
    packet_rests packet is =
        by_test Unchanged (is_far_from_ends v) (on_event v (Deliver packet)) (still v)
        (λ t. by_test Unchanged (is_well_formed v.peers packet) (on_body v packet.from packet.body) (still v) (λ t. body_rests packet.from packet.body is) (λ t. refl))
        (λ t. refl)

  -- ---- what comes

  module _ (what : Do) (after : ShelfState) (makes : after ≡ (takes v what).state.shelf) where
    came : (packet : Packet) (said : Body) → Came what packet said → Comes what said
    came packet said c = (packet, (c.event, c.says))

    filled : (packet : Packet) (said : Body) (f : Fragment) → Came what packet said → IsForRebuild said → after ≡ on_fill v.shelf f → ShelfChanges v what after
    filled packet said f c is same = by v.rebuilding refl
      where
        by : (r : Option Rebuilding) → v.rebuilding ≡ r → ShelfChanges v what after
        by None none =
            Stays (makes ∙ (ap (λ (w : Do). (takes v w).state.shelf) c.event ∙ packet_rests none packet (subst IsForRebuild (sym c.says) is)))
        by (Some r) some = Fills said f (came packet said c) is (subst IsRebuilding (sym some) tt) same

    changed : (what ≡ Begin → ⊥) → ChangesByOne what v.shelf after → ShelfChanges v what after
    changed apart (Rests same) = Stays same
    changed apart (Calls _ (MayStore packet m c fits) same) = Stores m (came packet (body.Store m) c) fits same
    changed apart (Calls _ (MayFence packet m c) same) = Fences m (came packet (body.Fence m) c) same
    changed apart (Calls _ (MayDelete packet m c) same) = Deletes m (came packet (body.Delete m) c) same
    changed apart (Calls _ (FillsByFragment packet m f c) same) = filled packet (body.Fragment m) f c tt same
    changed apart (Calls _ (FillsByAbsence packet m f c) same) = filled packet (body.Missing m) f c tt same
    changed apart (Calls _ (MayLose begins room) same) = absurd (apart begins)

pub shelf_changes : EventsChangeByOne → (v : Server) (what : Do) → ShelfChanges v what (server_step v what).node.shelf
shelf_changes law v Begin =
    by_test (λ (d : Done). ShelfChanges v Begin d.state.shelf) (is_far_from_ends v) (on_event v Begin) (still v) (λ t. begins v) (λ t. Stays refl)
shelf_changes law v (Deliver packet) = changed v (Deliver packet) _ refl (λ same. absurd cc) (law v (Deliver packet))
shelf_changes law v Tick = changed v Tick _ refl (λ same. absurd cc) (law v Tick)
