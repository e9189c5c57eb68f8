-- What is asked of a fact of a storage server, of its shelf, its rebuild and its items, so that each event keeps it; and that each event does then.
use Rattle.std.proofs.Common.{◌≡◌, ℕ, true, List, [], ◌∷◌, Option, Some, None, refl, sym, subst}
use Rattle.std.specs.List.{AllByRecursion}
use Rattle.std.specs.Option.{is_some}
use Rattle.std.specs.Ordering.{is_eq}
use Rattle.std.specs.Prelude.{IfSome}
use Rattle.fragment_store.specs.Calls.{shelf_store, on_delete as without, on_fence as fenced_at, on_fill, on_lose as lost, refusal}
use Rattle.fragment_store.specs.ShelfState.{ShelfState, fence_of, held_at}
use Rattle.group_map.specs.GroupMapState.{GroupMapState}
use Rattle.group_rebuild.specs.declared.input.In.{In}
use Rattle.group_rebuild.specs.declared.output.Out.{Out}
use Rattle.group_rebuild.specs.declared.output.Out.TheVariants as out
use Rattle.group_rebuild.specs.RebuildState.{RebuildState, rebuild_start}
use Rattle.group_rebuild.specs.Transition.{transition}
use Rattle.node_base.specs.Asking.{number_for}
use Rattle.node_base.specs.Beginning.{answers_unanswered, work_at}
use Rattle.node_base.specs.declared.effects.Effect.{Effect}
use Rattle.node_base.specs.declared.effects.Effect.TheVariants.{Answer as Answers, Does, Lose, Send}
use Rattle.node_base.specs.declared.items.Items.{Items}
use Rattle.node_base.specs.Effects.{packets_of}
use Rattle.node_base.specs.Room.{has_room}
use Rattle.store_nodes.specs.declared.server.Rebuilding.{Rebuilding}
use Rattle.store_nodes.specs.declared.server.Server.{Server as Node}
use Rattle.store_nodes.specs.Rebuilds.{Done, ask_fragment, goes_on, ask_list, rebuilds, says}
use Rattle.store_nodes.specs.ServerEvents.{fence_told, found_or_missing, on_delete, on_fence, on_store, server_step, takes}
use Rattle.version_model.specs.declared.answer.Answer.{Answer}
use Rattle.version_model.specs.declared.answer.Answer.TheVariants as answers
use Rattle.version_model.specs.declared.work.Work.{Work}
use Rattle.version_model.specs.declared.work.Work.TheVariants as work
use Rattle.wire_msg.specs.declared.body.Body.{Body}
use Rattle.wire_msg.specs.declared.body.Body.TheVariants as body
use Rattle.wire_msg.specs.declared.packet.Do.{Do}
use Rattle.wire_msg.specs.declared.packet.Packet.{Packet}
use Rattle.wire_msg.specs.declared.storage.Delete.{Delete}
use Rattle.wire_msg.specs.declared.storage.Fence.{Fence}
use Rattle.wire_msg.specs.declared.storage.Fetch.{Fetch}
use Rattle.wire_msg.specs.declared.storage.Store.{Store}
use Rattle.xfs_base.proofs.Alls.{all_each}
use Rattle.xfs_base.proofs.Booleans.{by_test}
use Rattle.xfs_base.proofs.Leaving.{Leaves, goes_after, leaves_each, stays}
use Rattle.xfs_base.specs.declared.fragment.Fragment.{Fragment}
use Rattle.xfs_base.specs.declared.node.NodeId.{NodeId}
use Rattle.xfs_base.specs.declared.node.NodeId.TheVariants.{Server}
use Rattle.xfs_base.specs.declared.segment.LogId.{LogId}
use Rattle.xfs_base.specs.declared.segment.Pass.{Pass}
use Rattle.xfs_base.specs.declared.segment.SegName.{SegName}
use Rattle.xfs_base.specs.Segments.{pass_cmp}
use Rattle.xfs_base.specs.Steps.{still}
use Rattle.node_moves.proofs.server_moves.Events.{server_events_are_moves}
use Rattle.node_moves.specs.server_moves.Moves.{Came, Given, IsServers, Move, Moves}
use Rattle.node_moves.proofs.server_moves.Moves.{Sent}
use Rattle.node_moves.specs.server_moves.Moves.Move.{AnswersItem, BeginsRebuild, CutsRebuild, Deletes, Fences, Fetches, Greets, Lists, Loses, Notes, Rebuilds, Stores, TakesMaps}
use Rattle.node_moves.specs.server_moves.Moves.Moves.{Last, Rests, Then}
use Rattle.node_moves.proofs.server_moves.Moves.Sent.{Deleted, Fenced, FragmentAsked, Greeted, Held, ListAsked, ListSent, Missed, Stored}

-- a fact of a server: of its shelf, of its rebuild, and of what its items ask for
pub record Holds (S : ShelfState → Type 0) (R : RebuildState → Type 0) (W : List Work → Type 0) (node : Node) : Type 0 where
  pub shelf : S node.shelf
  pub rebuild : IfSome node.rebuilding (λ (r : Rebuilding). R r.rebuild)
  pub works : W node.items.works

-- An event that begins with this shelf keeps the fact. What the rebuild says is `O`, and what is sent `Sends`.
pub record Keeps (first : ShelfState) (what : Do) (S : ShelfState → Type 0) (R : RebuildState → Type 0) (W : List Work → Type 0) (O : Out → Type 0)
    (Sends : NodeId → Body → Type 0) : Type 0 where
  pub stores : (packet : Packet) (m : Store) → Came what packet (body.Store m) → (s : ShelfState) → S s → S (shelf_store s m.fragment)
  pub fences : (log : LogId) (pass : Pass) (s : ShelfState) → S s → S (fenced_at s log pass)
  pub deletes : (packet : Packet) (m : Delete) → Came what packet (body.Delete m) → (s : ShelfState) → S s → S (without s m.name)
  pub fills : (f : Fragment) → O (out.Fill f) → (s : ShelfState) → S s → S (on_fill s f)
  pub loses : (items : Items) (number server : ℕ) → work_at items number ≡ Some (work.Lose server) → W items.works → (s : ShelfState)
      → has_room s.generation ≡ true → S s → S (lost s)
  pub begins : (server : ℕ) (groups : GroupMapState) → R (rebuild_start server groups)
  pub takes : (s : ShelfState) (r : RebuildState) (given : In) → Given what s given → R r → Leaves R O (transition r given)
  pub sends : (s : ShelfState) (to : NodeId) (said : Body) → S s → Sent first what s to said → Sends to said

-- nothing but an answer that a server gives, or a packet that is sent so
abbrev pub Says : (NodeId → Body → Type 0) → Effect → Type 0
Says Sends (Send to said) = Sends to said
Says Sends (Answers item answer) = IsServers answer
Says Sends (Lose seg) = ⊥
Says Sends (Does act) = ⊥

module _ (first : Node) (what : Do) (S : ShelfState → Type 0) (R : RebuildState → Type 0) (W : List Work → Type 0) (O : Out → Type 0)
    (Sends : NodeId → Body → Type 0) (keeps : Keeps first.shelf what S R W O Sends) where
  abbrev Kept : Node → Type 0
  Kept node = Holds S R W node

  abbrev Goes : Done → Type 0
  Goes d = Leaves Kept (Says Sends) d

  abbrev RebuildKept : Option Rebuilding → Type 0
  RebuildKept r = IfSome r (λ (x : Rebuilding). R x.rebuild)

  answers_say : (item : Option ℕ) (answer : Answer) → IsServers answer → AllByRecursion (Says Sends) (answers_unanswered item answer)
  answers_say None answer so = tt
  answers_say (Some number) answer so = (so, tt)

  -- ---- the rebuild

  lists_say : (s : ShelfState) (r : Option Rebuilding) (server : ℕ) → S s → AllByRecursion (Says Sends) (ask_list r server)
  lists_say s None server h = tt
  lists_say s (Some r) server h = (keeps.sends s _ _ h (ListAsked server r.lists), tt)

  fetch_goes : (node : Node) (r : Option Rebuilding) (server : ℕ) (name : SegName) (own : ℕ) → Kept node → RebuildKept r
      → Goes (ask_fragment node r server name own)
  fetch_goes node None server name own h here = stays Kept (Says Sends) node h
  fetch_goes node (Some r) server name own h here = record {
    state = record { shelf = h.shelf; rebuild = here; works = h.works };
    outs = (keeps.sends node.shelf _ _ h.shelf (FragmentAsked server name (number_for r.fetches node.questions own)), tt);
  }

  says_goes : (node : Node) (o : Out) → Kept node → O o → Goes (says node o)
  unfolding says
  says_goes node (out.List server) h so = record { state = h; outs = lists_say node.shelf node.rebuilding server h.shelf }
  says_goes node (out.Fetch server name own) h so = fetch_goes node node.rebuilding server name own h h.rebuild
  says_goes node (out.Fill f) h so = record { state = record { shelf = keeps.fills f so node.shelf h.shelf; rebuild = h.rebuild; works = h.works }; outs = tt }
  says_goes node (out.Finished filled gone) h so = record {
    state = record { shelf = h.shelf; rebuild = tt; works = h.works };
    outs = answers_say node.items.unanswered (answers.Rebuilt filled gone) tt;
  }

  rebuild_goes : (node : Node) (r : Option Rebuilding) (given : In) → Kept node → RebuildKept r → Given what node.shelf given → Goes (goes_on node r given)
  rebuild_goes node None given h here came = stays Kept (Says Sends) node h
  rebuild_goes node (Some r) given h here came =
      let d = keeps.takes node.shelf r.rebuild given came here in
      leaves_each Kept (Says Sends) O says says_goes (record node { rebuilding = Some (record r { rebuild = (transition r.rebuild given).state }) })
      (transition r.rebuild given).outs (record { shelf = h.shelf; rebuild = d.state; works = h.works }) d.outs

  rebuilds_goes : (node : Node) (given : In) → Kept node → Given what node.shelf given → Goes (rebuilds node given)
  unfolding rebuilds
  rebuilds_goes node given h came = rebuild_goes node node.rebuilding given h h.rebuild came

  -- ---- what comes

  with_shelf : (s : ShelfState) (outs : List Effect) → Kept first → S s → AllByRecursion (Says Sends) outs
      → Goes (record { state = record first { shelf = s }; outs = outs })
  with_shelf s outs h new said = record { state = record { shelf = new; rebuild = h.rebuild; works = h.works }; outs = said }

  stores_goes : (packet : Packet) (m : Store) → Came what packet (body.Store m) → Kept first → Goes (on_store first packet.from m)
  unfolding on_store
  stores_goes packet m came h =
      by_test Goes (is_some (refusal first.shelf m.fragment.meta.name m.generation)) (still first) _ (λ t. stays Kept (Says Sends) first h)
      (λ t. with_shelf _ _ h (keeps.stores packet m came first.shelf h.shelf) (keeps.sends first.shelf _ _ h.shelf (Stored packet m came), tt))

  fetched : (packet : Packet) (m : Fetch) (found : Option Fragment) → Came what packet (body.Fetch m) → held_at first.shelf.held m.name ≡ found → Kept first
      → Says Sends (Send packet.from (found_or_missing first.shelf m found))
  fetched packet m None came fact h = keeps.sends first.shelf _ _ h.shelf (Missed packet m came fact)
  fetched packet m (Some f) came fact h = keeps.sends first.shelf _ _ h.shelf (Held packet m f came fact)

  fences_goes : (packet : Packet) (m : Fence) → Came what packet (body.Fence m) → Kept first → Goes (on_fence first packet.from m)
  unfolding on_fence
  fences_goes packet m came h =
      let s : ShelfState = fenced_at first.shelf m.log m.pass in
      with_shelf s (fence_told packet.from m s) h (keeps.fences m.log m.pass first.shelf h.shelf)
      (by_test (AllByRecursion (Says Sends)) (is_eq (pass_cmp (fence_of s.fences m.log) m.pass)) _ []
      (λ t. (keeps.sends first.shelf _ _ h.shelf (Fenced packet m came), tt)) (λ t. tt))

  deletes_goes : (packet : Packet) (m : Delete) → Came what packet (body.Delete m) → Kept first → Goes (on_delete first packet.from m)
  unfolding on_delete
  deletes_goes packet m came h =
      with_shelf _ _ h (keeps.deletes packet m came first.shelf h.shelf) (keeps.sends first.shelf _ _ h.shelf (Deleted packet m came), tt)

  -- ---- all moves

  move_goes : (node : Node) (d : Done) → Move first what node d → Kept node → Goes d
  move_goes node d (Stores packet m came) h = stores_goes packet m came h
  move_goes node d (Fetches packet m came) h =
      record { state = h; outs = (fetched packet m (held_at first.shelf.held m.name) came refl h, tt) }
  move_goes node d (Fences packet m came) h = fences_goes packet m came h
  move_goes node d (Lists packet m came) h = record { state = h; outs = (keeps.sends first.shelf _ _ h.shelf (ListSent packet m came), tt) }
  move_goes node d (Deletes packet m came) h = deletes_goes packet m came h
  move_goes node d (TakesMaps packet news brought) h = record { state = record { shelf = h.shelf; rebuild = h.rebuild; works = h.works }; outs = tt }
  move_goes node d (BeginsRebuild lists groups fact) h =
      record { state = record { shelf = h.shelf; rebuild = keeps.begins node.number groups; works = h.works }; outs = tt }
  move_goes node d (Rebuilds given came) h = rebuilds_goes node given h came
  move_goes node d CutsRebuild h = record { state = record { shelf = h.shelf; rebuild = tt; works = h.works }; outs = tt }
  move_goes node d (Loses number server asked room) h = record {
    state = record { shelf = keeps.loses node.items number server asked h.works node.shelf room h.shelf; rebuild = h.rebuild; works = h.works };
    outs = tt;
  }
  move_goes node d (Notes items questions hello same) h =
      record { state = record { shelf = h.shelf; rebuild = h.rebuild; works = subst W (sym same) h.works }; outs = tt }
  move_goes node d (AnswersItem number answer so) h = record { state = h; outs = (so, tt) }
  move_goes node d (Greets ask) h = record { state = h; outs = (keeps.sends node.shelf _ _ h.shelf (Greeted ask), tt) }

  moves_go : (node : Node) (d : Done) → Moves first what node d → Kept node → Goes d
  moves_go node d Rests h = stays Kept (Says Sends) node h
  moves_go node d (Last move) h = move_goes node d move h
  moves_go node d (Then now e move rest) h =
      let one = move_goes node now move h in goes_after Kept (Says Sends) now.outs e one.outs (moves_go now.state e rest one.state)

  -- whatever happens to the server
  pub event_keeps : Kept first → Goes (takes first what)
  event_keeps h = moves_go first (takes first what) (server_events_are_moves first what) h

-- ---- where little is asked for

-- of a rebuild nothing is asked for
pub any_rebuild : (r : Option Rebuilding) → IfSome r (λ (x : Rebuilding). Unit {0})
any_rebuild None = tt
any_rebuild (Some r) = tt

pub takes_any : (r : RebuildState) (given : In) → Leaves (λ (x : RebuildState). Unit {0}) (λ (o : Out). Unit {0}) (transition r given)
takes_any r given = record { state = tt; outs = all_each (λ (o : Out). Unit {0}) (λ o. tt) (transition r given).outs }

module _ (node : Node) (what : Do) where
  -- nothing is asked for but what is sent
  pub event_says : (Sends : NodeId → Body → Type 0) → ((s : ShelfState) (to : NodeId) (said : Body) → Sent node.shelf what s to said → Sends to said)
      → AllByRecursion (Says Sends) (takes node what).outs
  event_says Sends each =
      (event_keeps node what (λ s. Unit {0}) (λ r. Unit {0}) (λ works. Unit {0}) (λ o. Unit {0}) Sends
      (record {
        stores = λ packet m came s h. tt;
        fences = λ log pass s h. tt;
        deletes = λ packet m came s h. tt;
        fills = λ f so s h. tt;
        loses = λ items number server asked works s room h. tt;
        begins = λ server groups. tt;
        takes = λ s r given came h. takes_any r given;
        sends = λ s to said h sent. each s to said sent;
      })
      (record { shelf = tt; rebuild = any_rebuild node.rebuilding; works = tt })).outs

  -- what is so of each body that is sent is so of each packet
  pub packets_say : (P : Packet → Type 0) (es : List Effect)
      → AllByRecursion (Says (λ to said. P (record { from = Server node.number; to = to; clock = 0; body = said }))) es
      → AllByRecursion P (packets_of (Server node.number) es)
  packets_say P [] all = tt
  packets_say P (Send to said ∷ es) all = (all.0, packets_say P es all.1)
  packets_say P (Answers item answer ∷ es) all = packets_say P es all.1
  packets_say P (Lose seg ∷ es) all = absurd all.0
  packets_say P (Does act ∷ es) all = absurd all.0

  pub event_sends : (P : Packet → Type 0)
      → ((s : ShelfState) (to : NodeId) (said : Body) → Sent node.shelf what s to said
      → P (record { from = Server node.number; to = to; clock = 0; body = said }))
      → AllByRecursion P (server_step node what).packets
  event_sends P each =
      packets_say P (takes node what).outs (event_says (λ to said. P (record { from = Server node.number; to = to; clock = 0; body = said })) each)
