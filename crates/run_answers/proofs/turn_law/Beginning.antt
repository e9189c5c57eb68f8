-- An item that begins counts among those that have begun; and a node one of whose counters is near its end does nothing.
use Rattle.std.proofs.Common.{◌≡◌, ℕ, true, false, cond, List, [], Option, Some, None, is_some, refl, sym, ap, subst, ◌∙◌}
use Rattle.cleaner_job.specs.declared.lasting.Lasting.{Lasting as CleanerLasting}
use Rattle.cleaner_node.specs.CleanerEvents as cleaning
use Rattle.cleaner_node.specs.declared.cleaner.Phase as cleaner_phase
use Rattle.cleaner_node.specs.declared.cleaner.Phase.TheVariants as cleaner
use Rattle.cleaner_serving.specs.declared.emptying.Emptying.{Emptying}
use Rattle.cleaner_serving.specs.EmptyingEvents as emptying
use Rattle.client_call.specs.Calls.{plan_answered, call_of}
use Rattle.client_call.specs.declared.call.Call.{Call}
use Rattle.client_call.specs.declared.call.Going.{Going}
use Rattle.client_call.specs.declared.call.Plan.{Plan}
use Rattle.client_call.specs.declared.call.Going.TheVariants as goings
use Rattle.client_node.specs.declared.phase.Phase as client_phase
use Rattle.client_node.specs.declared.phase.Phase.TheVariants as client
use Rattle.client_node.specs.Phases as clients
use Rattle.client_running.specs.Opens.{opens}
use Rattle.client_serving.specs.declared.lasting.Lasting.{Lasting}
use Rattle.client_serving.specs.declared.serving.Serving.{Serving}
use Rattle.core_world.specs.AnyNode.{any_step, as_any}
use Rattle.core_world.specs.declared.any_node.AnyNode.{AnyNode}
use Rattle.core_world.specs.declared.any_node.AnyNode.TheVariants as any
use Rattle.group_map.specs.GroupMapState.{GroupMapState}
use Rattle.group_rebuild.specs.declared.input.In.TheVariants as input
use Rattle.group_rebuild.specs.RebuildState.{rebuild_start}
use Rattle.log_owner.specs.declared.opening.Opening as openings
use Rattle.manager_node.specs.declared.phase.Phase as manager_phase
use Rattle.manager_node.specs.declared.phase.Phase.TheVariants as manager
use Rattle.manager_node.specs.Events as managing
use Rattle.manager_node.specs.Phases as managers
use Rattle.manager_serving.specs.Checkpoints as checkpoints
use Rattle.manager_serving.specs.declared.serving.Serving.{Serving as ManagerServing}
use Rattle.manager_slots.specs.declared.lasting.Lasting.{Lasting as Life}
use Rattle.node_base.specs.Asking.{draw, next_ask}
use Rattle.node_base.specs.Beginning.{items_begin, next_item, items_wait, work_at}
use Rattle.node_base.specs.declared.effects.Effect.{Effect}
use Rattle.node_base.specs.declared.items.Items.{Items}
use Rattle.registry_node.specs.declared.node.RegistryNode.{RegistryNode}
use Rattle.registry_node.specs.Events as registering
use Rattle.serving_moves.proofs.item_moves.Calling.{BeginsSo, CallSo, GoingSo, opens_went}
use Rattle.serving_moves.proofs.item_moves.Emptying.{clean_goes}
use Rattle.serving_moves.proofs.item_moves.Keeping.{moves_stay}
use Rattle.serving_moves.proofs.item_moves.ManagerServing.{checkpoint_goes}
use Rattle.serving_moves.proofs.item_moves.Servers.{rebuilds_go}
use Rattle.serving_moves.specs.item_moves.Moves.{Begun, IsAny, Losses}
use Rattle.serving_moves.specs.item_moves.Moves.Begun.{AtOnce, Waits}
use Rattle.store_nodes.specs.declared.server.Server.{Server as StoreServer}
use Rattle.store_nodes.specs.Rebuilds.{Done as ServerDone, rebuilds}
use Rattle.store_nodes.specs.ServerEvents as storing
use Rattle.version_model.specs.declared.answer.Answer.{Answer}
use Rattle.version_model.specs.declared.work.Work.{Work}
use Rattle.version_model.specs.declared.work.Work.TheVariants as work
use Rattle.wire_msg.specs.declared.packet.Do.{Do}
use Rattle.wire_msg.specs.declared.packet.Do.TheVariants.{Begin}
use Rattle.wire_msg.specs.NodeStep.{NodeStep}
use Rattle.xfs_base.proofs.Booleans.{by_test}
use Rattle.xfs_base.specs.Steps.{still}
use Rattle.run_answers.proofs.once_law.Items.{begun_is}
use Rattle.headline.specs.Dues.{has_counters}
use Rattle.headline.specs.Items.{items_in}

-- ---- no room

-- a node that does nothing
abbrev pub unmoved : AnyNode → NodeStep AnyNode
unmoved x = record { node = x; packets = []; acts = [] }

pub near_its_end : (x : AnyNode) (what : Do) → has_counters x ≡ false → any_step x what ≡ unmoved x
unfolding managing.happens
near_its_end (any.Client c) what near =
    ap (λ t. as_any any.Client (clients.stepped c (cond t (clients.happens c what) (still c.phase)))) near
near_its_end (any.Manager m) what near =
    ap (λ t. as_any any.Manager (managing.seen m (cond t (managing.on_event m.peers m.phase what) (still m.phase)))) near
near_its_end (any.Server v) what near = ap (λ t. as_any any.Server (storing.seen v.number (cond t (storing.on_event v what) (still v)))) near
near_its_end (any.Cleaner c) what near =
    ap (λ t. as_any any.Cleaner (cleaning.seen c (cond t (cleaning.happens c.peers c.phase what) (still c.phase)))) near
near_its_end (any.Registry r) what near = ap (λ t. as_any any.Registry (registering.seen (cond t (registering.on_event r what) (still r)))) near

-- ---- what has begun stays so

module _ {losses : Losses} {J K : Answer → Type 0} {items : Items} {number : ℕ} where
  begun_stays : (outs : List Effect) (after : Items) → Begun losses J K items number outs after → after.begun ≡ items.begun
  begun_stays outs after (AtOnce a first more so plain rest) = refl
  begun_stays outs after (Waits moves) = (moves_stay losses J (items_wait items number) after outs moves).begun

-- ---- clients

-- whatever its plan
abbrev AnyPlan : Plan → Type 0
AnyPlan plan = Unit {0}

any_call : (call : Option Call) → CallSo AnyPlan call
any_call None = tt
any_call (Some call) = tt

any_going : (going : Going) → GoingSo AnyPlan IsAny going
any_going (goings.On call) = tt
any_going (goings.Ends a) = tt

any_begins : (going : Option Going) → BeginsSo AnyPlan IsAny going
any_begins None = tt
any_begins (Some going) = any_going going

module _ (servers number : ℕ) where
  abbrev ClientCounts : clients.Went_to → Type 0
  ClientCounts w = (clients.lasting_of w.state).items.begun ≡ number

  down_counts : (l : Lasting) (wanted : Option Work) → l.items.begun ≡ number → ClientCounts (clients.down_begins servers l number (clients.wish_of wanted))
  down_counts l None is = is
  down_counts l (Some (work.Crash node)) is = is
  down_counts l (Some (work.Restart node)) is = is
  down_counts l (Some other) is = is

  opening_counts : (l : Lasting) (o : openings.Opening) (wanted : Option Work) → l.items.begun ≡ number
      → ClientCounts (clients.opening_begins l o number (clients.wish_of wanted))
  opening_counts l o None is = is
  opening_counts l o (Some (work.Crash node)) is = is
  opening_counts l o (Some (work.Restart node)) is = is
  opening_counts l o (Some other) is = is

  call_counts : (s : Serving) → s.lasting.items.begun ≡ number → (opens s number).state.lasting.items.begun ≡ number
  call_counts s is =
      begun_stays (opens s number).outs (opens s number).state.lasting.items
      (opens_went AnyPlan IsAny (λ p a so. any_going (plan_answered p a)) (λ w k self. any_begins (call_of w k self)) s number (any_call s.call)).does.begun ∙ is

  serving_counts : (s : Serving) (wanted : Option Work) → s.lasting.items.begun ≡ number
      → ClientCounts (clients.serving_begins s number (clients.wish_of wanted))
  serving_counts s None is = call_counts s is
  serving_counts s (Some (work.Crash node)) is = is
  serving_counts s (Some (work.Restart node)) is = is
  serving_counts s (Some other) is = call_counts s is

  client_counts : (p : client_phase.Phase) → next_item (clients.lasting_of p).items ≡ Some number → ClientCounts (clients.on_begin servers p)
  unfolding clients.on_begin
  client_counts (client.Down l) next =
      subst (λ o. ClientCounts (clients.begins_item servers (client.Down l) o)) (sym next)
      (down_counts (record l { items = items_begin l.items }) (work_at (items_begin l.items) number) (begun_is l.items number next))
  client_counts (client.Opening l o) next =
      subst (λ i. ClientCounts (clients.begins_item servers (client.Opening l o) i)) (sym next)
      (opening_counts (record l { items = items_begin l.items }) o (work_at (items_begin l.items) number) (begun_is l.items number next))
  client_counts (client.Serving s) next =
      subst (λ i. ClientCounts (clients.begins_item servers (client.Serving s) i)) (sym next)
      (serving_counts (record s { lasting = record s.lasting { items = items_begin s.lasting.items } }) (work_at (items_begin s.lasting.items) number)
      (begun_is s.lasting.items number next))

-- ---- managers

module _ (number : ℕ) where
  abbrev ManagerCounts : managers.Went_to → Type 0
  ManagerCounts w = (managers.lasting_of w.state).items.begun ≡ number

  kept_counts : (l : Life) (wanted : Option Work) → l.items.begun ≡ number → ManagerCounts (managers.down_wish l number (managers.wish_at wanted))
  unfolding managers.restart
  kept_counts l None is = is
  kept_counts l (Some (work.Crash node)) is = is
  kept_counts l (Some (work.Restart node)) is = is
  kept_counts l (Some other) is = is

  awaiting_counts : (l : Life) (hello : ℕ) (wanted : Option Work) → l.items.begun ≡ number
      → ManagerCounts (managers.waiting_wish l hello number (managers.wish_at wanted))
  unfolding managers.crash
  awaiting_counts l hello None is = is
  awaiting_counts l hello (Some (work.Crash node)) is = is
  awaiting_counts l hello (Some (work.Restart node)) is = is
  awaiting_counts l hello (Some other) is = is

  checkpoint_counts : (s : ManagerServing) → s.lasting.items.begun ≡ number → (checkpoints.on_checkpoint s number).state.lasting.items.begun ≡ number
  checkpoint_counts s is =
      begun_stays (checkpoints.on_checkpoint s number).outs (checkpoints.on_checkpoint s number).state.lasting.items (checkpoint_goes s number).begun ∙ is

  managing_counts : (s : ManagerServing) (wanted : Option Work) → s.lasting.items.begun ≡ number
      → ManagerCounts (managers.serving_wish s number (managers.wish_at wanted))
  unfolding managers.crash
  managing_counts s None is = checkpoint_counts s is
  managing_counts s (Some (work.Crash node)) is = is
  managing_counts s (Some (work.Restart node)) is = is
  managing_counts s (Some other) is = checkpoint_counts s is

  manager_counts : (p : manager_phase.Phase) → next_item (managers.lasting_of p).items ≡ Some number → ManagerCounts (managers.on_begin p)
  unfolding managers.begin_down managers.begin_waiting managers.begin_serving
  manager_counts (manager.Down l) next =
      subst (λ o. ManagerCounts (managers.down_item (managers.with_begun l) o)) (sym next)
      (kept_counts (managers.with_begun l) (work_at (items_begin l.items) number) (begun_is l.items number next))
  manager_counts (manager.Waiting l hello) next =
      subst (λ o. ManagerCounts (managers.waiting_item (managers.with_begun l) hello o)) (sym next)
      (awaiting_counts (managers.with_begun l) hello (work_at (items_begin l.items) number) (begun_is l.items number next))
  manager_counts (manager.Serving s) next =
      subst (λ o. ManagerCounts (managers.serving_item (record s { lasting = managers.with_begun s.lasting }) o)) (sym next)
      (managing_counts (record s { lasting = managers.with_begun s.lasting }) (work_at (items_begin s.lasting.items) number) (begun_is s.lasting.items number next))

-- ---- the cleaner

module _ (servers number : ℕ) where
  abbrev CleanerCounts : cleaning.Went_to → Type 0
  CleanerCounts w = (cleaning.lasting_of w.state).items.begun ≡ number

  fallen_counts : (l : CleanerLasting) (wanted : Option Work) → l.items.begun ≡ number → CleanerCounts (cleaning.down_wishes servers l number (cleaning.wish_of wanted))
  unfolding cleaning.restart
  fallen_counts l None is = is
  fallen_counts l (Some (work.Crash node)) is = is
  fallen_counts l (Some (work.Restart node)) is = is
  fallen_counts l (Some (work.Clean count)) is = is
  fallen_counts l (Some _) is = is

  reopening_counts : (l : CleanerLasting) (o : openings.Opening) (wanted : Option Work) → l.items.begun ≡ number
      → CleanerCounts (cleaning.opening_wishes l o number (cleaning.wish_of wanted))
  unfolding cleaning.crash
  reopening_counts l o None is = is
  reopening_counts l o (Some (work.Crash node)) is = is
  reopening_counts l o (Some (work.Restart node)) is = is
  reopening_counts l o (Some (work.Clean count)) is = is
  reopening_counts l o (Some _) is = is

  clean_counts : (e : Emptying) (count : ℕ) → e.lasting.items.begun ≡ number → CleanerCounts (cleaning.serves_on (emptying.on_clean e number count))
  clean_counts e count is =
      begun_stays (emptying.on_clean e number count).outs (emptying.on_clean e number count).state.lasting.items (clean_goes e number count).begun ∙ is

  emptying_counts : (e : Emptying) (wanted : Option Work) → e.lasting.items.begun ≡ number
      → CleanerCounts (cleaning.serving_wishes e number (cleaning.wish_of wanted))
  unfolding cleaning.crash
  emptying_counts e None is = clean_counts e 0 is
  emptying_counts e (Some (work.Crash node)) is = is
  emptying_counts e (Some (work.Restart node)) is = is
  emptying_counts e (Some (work.Clean count)) is = clean_counts e count is
  emptying_counts e (Some _) is = clean_counts e 0 is

  cleaner_counts : (p : cleaner_phase.Phase) → next_item (cleaning.lasting_of p).items ≡ Some number → CleanerCounts (cleaning.on_begin servers p)
  unfolding cleaning.on_begin
  cleaner_counts (cleaner.Down l) next =
      subst (λ o. CleanerCounts (cleaning.down_at servers (cleaning.begun_life l) o)) (sym next)
      (fallen_counts (cleaning.begun_life l) (work_at (items_begin l.items) number) (begun_is l.items number next))
  cleaner_counts (cleaner.Opening l o) next =
      subst (λ i. CleanerCounts (cleaning.opening_at (cleaning.begun_life l) o i)) (sym next)
      (reopening_counts (cleaning.begun_life l) o (work_at (items_begin l.items) number) (begun_is l.items number next))
  cleaner_counts (cleaner.Serving e) next =
      subst (λ i. CleanerCounts (cleaning.serving_at (record e { lasting = cleaning.begun_life e.lasting }) i)) (sym next)
      (emptying_counts (record e { lasting = cleaning.begun_life e.lasting }) (work_at (items_begin e.lasting.items) number) (begun_is e.lasting.items number next))

-- ---- storage servers, and the registry

module _ (number : ℕ) where
  abbrev ServerCounts : ServerDone → Type 0
  ServerCounts d = d.state.items.begun ≡ number

  rebuild_counts : (v : StoreServer) (groups : Option GroupMapState) → v.items.begun ≡ number → ServerCounts (storing.begins_rebuild v number groups)
  rebuild_counts v None is = is
  rebuild_counts v (Some groups) is =
      let u : StoreServer = record v {
        items = items_wait v.items number;
        questions = draw v.questions;
        rebuilding = Some (record { rebuild = rebuild_start v.number groups; lists = next_ask v.questions; fetches = record { own = 0; ask = 0 } });
      } in
      (moves_stay _ _ u.items (rebuilds u input.Tick).state.items (rebuilds u input.Tick).outs (rebuilds_go u input.Tick).moves).begun ∙ is

  wish_counts : (v : StoreServer) (wanted : Option Work) → v.items.begun ≡ number → ServerCounts (storing.on_wish v number (storing.wish_of wanted))
  unfolding storing.on_lose storing.on_rebuild
  wish_counts v None is = is
  wish_counts v (Some (work.Lose server)) is = is
  wish_counts v (Some (work.Rebuild server)) is =
      by_test ServerCounts (is_some v.items.unanswered) (storing.tells v _) (storing.begins_rebuild v number v.maps.groups) (λ _. is)
      (λ _. rebuild_counts v v.maps.groups is)
  wish_counts v (Some _) is = is

  server_counts : (v : StoreServer) → next_item v.items ≡ Some number → ServerCounts (storing.on_begin v)
  unfolding storing.on_begin
  server_counts v next =
      subst (λ o. ServerCounts (storing.at_item (record v { items = items_begin v.items }) o)) (sym next)
      (wish_counts (record v { items = items_begin v.items }) (work_at (items_begin v.items) number) (begun_is v.items number next))

  item_counts : (r : RegistryNode) (wish : Option (ℕ × ℕ)) → r.items.begun ≡ number → (registering.on_item r number wish).state.items.begun ≡ number
  unfolding registering.on_move
  item_counts r None is = is
  item_counts r (Some wish) is = is

  registry_counts : (r : RegistryNode) → next_item r.items ≡ Some number → (registering.on_begin r).state.items.begun ≡ number
  unfolding registering.on_begin
  registry_counts r next =
      subst (λ o. (registering.at_item (record r { items = items_begin r.items }) o).state.items.begun ≡ number) (sym next)
      (item_counts (record r { items = items_begin r.items }) (registering.move_of (work_at (items_begin r.items) number)) (begun_is r.items number next))

-- ---- all kinds

-- where each counter is far from its end, the item that begins counts then
pub begins_counted : (x : AnyNode) (number : ℕ) → has_counters x ≡ true → next_item (items_in x) ≡ Some number → (items_in (any_step x Begin).node).begun ≡ number
unfolding managing.happens
begins_counted (any.Client c) number room next =
    subst (λ t. (clients.lasting_of (cond t (clients.happens c Begin) (still c.phase)).state).items.begun ≡ number) (sym room)
    (client_counts c.peers.servers number c.phase next)
begins_counted (any.Manager m) number room next =
    subst (λ t. (managers.lasting_of (cond t (managing.on_event m.peers m.phase Begin) (still m.phase)).state).items.begun ≡ number) (sym room)
    (manager_counts number m.phase next)
begins_counted (any.Server v) number room next =
    subst (λ t. (cond t (storing.on_event v Begin) (still v)).state.items.begun ≡ number) (sym room) (server_counts number v next)
begins_counted (any.Cleaner c) number room next =
    subst (λ t. (cleaning.lasting_of (cond t (cleaning.happens c.peers c.phase Begin) (still c.phase)).state).items.begun ≡ number) (sym room)
    (cleaner_counts c.peers.servers number c.phase next)
begins_counted (any.Registry r) number room next =
    subst (λ t. (cond t (registering.on_event r Begin) (still r)).state.items.begun ≡ number) (sym room) (registry_counts number r next)
