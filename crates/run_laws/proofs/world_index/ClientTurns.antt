-- A client that has its turn: the moment after it stands to the small world in which its log filed what it acted to be filed.
use Rattle.std.proofs.Common.{◌≡◌, ⊎_elim, ℕ, ◌<◌, List, ◌++◌, Some, map, slice_get, slice_set, sym, ap, subst, ◌∙◌, arith}
use Rattle.client_node.specs.declared.client.Client.{Client as ClientNode}
use Rattle.client_node.specs.Phases.{Went_to, lasting_of}
use Rattle.core_world.specs.declared.any_node.AnyNode.{AnyNode}
use Rattle.core_world.specs.declared.any_node.AnyNode.TheVariants as any
use Rattle.index_tie.specs.Net.{Net, opening}
use Rattle.log_protocol.specs.Tables as tables
use Rattle.node_base.specs.Effects.{packets_of}
use Rattle.node_slots.proofs.node_index_tie.Moves.{runs_through}
use Rattle.node_slots.specs.node_index_tie.ManagerEvents.{ManagersStay}
use Rattle.headline.specs.Filed.{Texts}
use Rattle.headline.specs.Managers.{slot_in}
use Rattle.node_slots.specs.owner_index_tie.CleanerEvents.{CleanerStays}
use Rattle.node_slots.specs.owner_index_tie.ClientEvents.{ClientAgrees, ClientGoes, ClientsStay}
use Rattle.node_slots.specs.owner_index_tie.Owners.{OwnerDoes, OwnerSays}
use Rattle.segment_format.specs.declared.segment.Segment.{Segment}
use Rattle.registry_node.specs.declared.node.RegistryNode.{RegistryNode}
use Rattle.token_protocol.proofs.Refining.{put_each}
use Rattle.token_protocol.specs.Basics.{put, In}
use Rattle.wire_msg.specs.declared.body.Body.{Body}
use Rattle.wire_msg.specs.declared.body.Body.TheVariants as body
use Rattle.wire_msg.specs.declared.packet.Packet.{Packet}
use Rattle.world_base.specs.Cluster.{place_of}
use Rattle.world_base.specs.declared.cluster.Cluster.{Cluster}
use Rattle.world_base.specs.NextWorld.{sent_at}
use Rattle.run_laws.proofs.world_index.Facts.{Grown, sent_stays}
use Rattle.run_laws.proofs.world_index.Frames.{Leaves, client_head, client_number, heads_stay, leaves_grown, leaves_pass, registry_frame}
use Rattle.run_laws.proofs.world_index.Placing.{place_client}
use Rattle.run_laws.specs.world_index.Standing.{Fact, OwnerTells, Scene, SentBy, Stands, members}
use Rattle.run_laws.proofs.world_law.Sent.{in_append, sends}
use Rattle.xfs_base.specs.declared.node.NodeId.TheVariants.{Client}
use Rattle.xfs_base.specs.Logs.{cleaners_number}

-- what an owner says, it tells
pub says_so : (part : ℕ) (n : Net) (c since : ℕ) (b : Body) → OwnerSays part n c since b → OwnerTells part n c (Client c) b
says_so part n c since (body.Deltas m) h = h
says_so part n c since (body.Report m) h = (h.0, h.1.filed)
says_so part n c since (body.Want m) h = h.filed
says_so part n c since (body.Gave m) h = h.filed
says_so part n c since _ h = tt

module _ (clients_stay : ClientsStay) (managers_stay : ManagersStay) (cleaner_stays : CleanerStays) (k : Cluster) (part : ℕ) (texts : Texts)
    (first : ℕ → ℕ → Segment) (RegistrySound : RegistryNode → Type 0) (nodes : List AnyNode) (sent : List Packet) (s : Scene)
    (st : Stands k part texts first nodes sent RegistrySound s)
    (c p clock : ℕ) (some : 0 < c) (within : c < members k) (at : place_of k (Client c) ≡ Some p) (fact : slice_get nodes p ≡ Some (any.Client (s.client c)))
    (w : Went_to) (go : ClientGoes part texts s.net c w) where
  abbrev after_node : ClientNode
  after_node = record (s.client c) { phase = w.state }

  abbrev pub client_scene : Scene
  client_scene = record s { net = go.next; client = put s.client c after_node }

  abbrev sent_now : List Packet
  sent_now = sent ++ map (sent_at clock) (packets_of (Client (lasting_of (s.client c).phase).number) w.outs)

  -- nothing but what is filed changes
  slots : go.next.slots ≡ s.net.slots
  slots = ap (λ (x : Net). x.slots) go.only_files

  epoch : go.next.epoch ≡ s.net.epoch
  epoch = ap (λ (x : Net). x.epoch) go.only_files

  horizon : go.next.horizon ≡ s.net.horizon
  horizon = ap (λ (x : Net). x.horizon) go.only_files

  parts : go.next.parts ≡ s.net.parts
  parts = ap (λ (x : Net). x.parts) go.only_files

  said : go.next.sent ≡ s.net.sent
  said = ap (λ (x : Net). x.sent) go.only_files

  deleted : go.next.deleted ≡ s.net.deleted
  deleted = ap (λ (x : Net). x.deleted) go.only_files

  leaves : Leaves s.net go.next
  leaves = record {
    filed = go.more;
    stay = λ e none. ap (λ (f : ℕ → _). f e) (sym slots) ∙ none;
    sent = λ x is_in. subst (λ xs. tables.In x xs) (sym said) is_in;
    deleted = λ name is_in. subst (λ xs. tables.In name xs) (sym deleted) is_in;
    epoch = epoch;
    horizon = horizon;
    parts = parts;
  }

  pub grown : Grown s.net go.next
  grown = leaves_grown part texts first s.net go.next st.runs go.runs leaves

  new_facts : (q : Packet) → In q (map (sent_at clock) (packets_of (Client (lasting_of (s.client c).phase).number) w.outs)) → Fact part client_scene q
  new_facts q h =
      sends (Client (lasting_of (s.client c).phase).number) clock (OwnerDoes part go.next c (s.net.filed.head c)) (Fact part client_scene)
      (λ to m does. subst (λ x. SentBy part go.next s.asked (Client x) m)
      (sym (client_number part texts s.net c (s.client c).phase (st.clients c some within)))
      (says_so part go.next c (s.net.filed.head c) m does)) w.outs go.does q h

  not_cleaner : cleaners_number ≡ c → ⊥
  not_cleaner same = let few = st.few in let less = within in omega arith

  pub client_turn : Stands k part texts first (slice_set nodes p (any.Client after_node)) sent_now RegistrySound client_scene
  client_turn = record {
    runs = runs_through (opening first) s.net go.next st.runs go.runs;
    placed = place_client k nodes s st.placed p c at fact after_node go.next;
    sound = st.sound;
    registry = registry_frame part s.net go.next epoch horizon parts s.registry st.registry;
    clients = put_each (λ d (x : ClientNode). 0 < d → d < members k → ClientAgrees part texts go.next d x.phase) s.client c after_node (λ _ _. go.agrees)
        (λ d other pos less. clients_stay part texts s.net go.next d (s.client d).phase (go.others d other) (st.clients d pos less));
    managers = λ j pos limit. managers_stay part texts s.net go.next (s.manager j).phase
        (leaves_pass part texts first s.net go.next st.runs go.runs leaves (slot_in part (s.manager j).phase) (λ e held. ap (λ (f : ℕ → _). f e) slots))
        (st.managers j pos limit);
    cleaner = cleaner_stays part texts s.net go.next s.cleaner.phase
        (record {
          log = go.others cleaners_number not_cleaner;
          promised = ap (λ (x : Net). x.promised) go.only_files;
          job = ap (λ (x : Net). x.job) go.only_files;
          sent = leaves.sent;
        })
        st.cleaner;
    asks = st.asks;
    few = st.few;
    texts_of = go.named st.texts_of;
    heads = heads_stay s.net go.next c go.others (client_head part texts go.next c w.state go.agrees) st.heads;
    facts = λ q h. ⊎_elim (λ old. sent_stays part s.net go.next grown s.asked s.asked (λ x is_in. is_in) q.from q.body (st.facts q old))
        (λ new. new_facts q new) (in_append sent _ q h);
  }
