-- A manager that has its turn: the moment after it stands to the small world that runs on with it.
use Rattle.std.proofs.Common.{◌≡◌, ⊎_elim, ℕ, ◌≤◌, ◌<◌, List, ◌++◌, Some, map, slice_get, slice_set, refl, sym, ap, subst}
use Rattle.core_world.specs.declared.any_node.AnyNode.{AnyNode}
use Rattle.core_world.specs.declared.any_node.AnyNode.TheVariants as any
use Rattle.headline.specs.Filed.{AreTexts, Filed, Texts}
use Rattle.index_tie.specs.Growth.{IsMore}
use Rattle.index_tie.specs.Net.{Net, opening}
use Rattle.log_protocol.specs.Tables as tables
use Rattle.manager_node.specs.declared.manager.Manager.{Manager as ManagerNode}
use Rattle.manager_node.specs.Phases.{Went_to, lasting_of}
use Rattle.node_base.specs.Effects.{packets_of}
use Rattle.node_slots.proofs.node_index_tie.Moves.{runs_through}
use Rattle.node_slots.specs.node_index_tie.ManagerEvents.{ManagerAgrees, ManagerGoes, ManagersStay}
use Rattle.node_slots.specs.node_index_tie.Sight.{ManagerDoes}
use Rattle.headline.specs.Managers.{slot_in}
use Rattle.node_slots.proofs.owner_index_tie.Frames.{more_itself}
use Rattle.node_slots.specs.owner_index_tie.CleanerEvents.{CleanerStays}
use Rattle.node_slots.specs.owner_index_tie.ClientEvents.{ClientsStay}
use Rattle.node_slots.specs.owner_index_tie.Filing.{IsSameLog}
use Rattle.segment_format.specs.declared.segment.Segment.{Segment}
use Rattle.registry_node.specs.declared.node.RegistryNode.{RegistryNode}
use Rattle.token_protocol.proofs.Refining.{put_each}
use Rattle.token_protocol.specs.Basics.{put, In}
use Rattle.wire_msg.specs.declared.packet.Do.{Do}
use Rattle.wire_msg.specs.declared.packet.Packet.{Packet}
use Rattle.world_base.specs.Cluster.{place_of}
use Rattle.world_base.specs.declared.cluster.Cluster.{Cluster}
use Rattle.world_base.specs.NextWorld.{sent_at}
use Rattle.run_laws.proofs.world_index.Facts.{Grown, sent_stays}
use Rattle.run_laws.proofs.world_index.Frames.{Leaves, leaves_grown, leaves_pass, registry_frame}
use Rattle.run_laws.proofs.world_index.Placing.{place_manager}
use Rattle.run_laws.specs.world_index.Standing.{Fact, Scene, Stands, holder}
use Rattle.run_laws.specs.world_index.Owes.{HeldApart}
use Rattle.run_laws.proofs.world_law.Sent.{in_append, sends}
use Rattle.xfs_base.specs.Limits.{u32_end}
use Rattle.xfs_base.specs.declared.node.NodeId.TheVariants.{Manager}
use Rattle.xfs_base.specs.Logs.{cleaners_number}

-- where the same is filed, each log has filed the same, and more is filed
module _ (n m : Net) (filed : m.filed ≡ n.filed) where
  pub same_log : (l : ℕ) → IsSameLog l n.filed m.filed
  same_log l = subst (λ (f : Filed). IsSameLog l n.filed f) (sym filed) (record { head = refl; segment = λ q some limit. refl })

  pub same_more : IsMore n.filed m.filed
  same_more = subst (λ (f : Filed). IsMore n.filed f) (sym filed) (more_itself n.filed)

module _ (clients_stay : ClientsStay) (managers_stay : ManagersStay) (cleaner_stays : CleanerStays) (k : Cluster) (part : ℕ) (texts : Texts)
    (first : ℕ → ℕ → Segment) (RegistrySound : RegistryNode → Type 0) (nodes : List AnyNode) (sent : List Packet) (s : Scene)
    (st : Stands k part texts first nodes sent RegistrySound s)
    (j p clock : ℕ) (some : 0 < j) (limit : j ≤ k.managers) (at : place_of k (Manager j) ≡ Some p) (fact : slice_get nodes p ≡ Some (any.Manager (s.manager j)))
    (what : Do) (number : (lasting_of (s.manager j).phase).number ≡ j)
    (apart : HeldApart part j s.net k.managers (holder part s) (s.manager j).phase what) (w : Went_to)
    (go : ManagerGoes part texts s.asked j s.net (s.manager j).phase what w) where
  abbrev after_node : ManagerNode
  after_node = record (s.manager j) { phase = w.state }

  abbrev pub manager_scene : Scene
  manager_scene = record s { net = go.next; manager = put s.manager j after_node }

  abbrev sent_now : List Packet
  sent_now = sent ++ map (sent_at clock) (packets_of (Manager (lasting_of (s.manager j).phase).number) w.outs)

  -- nothing but slots and packets changes
  epoch : go.next.epoch ≡ s.net.epoch
  epoch = ap (λ (x : Net). x.epoch) go.rest

  horizon : go.next.horizon ≡ s.net.horizon
  horizon = ap (λ (x : Net). x.horizon) go.rest

  parts : go.next.parts ≡ s.net.parts
  parts = ap (λ (x : Net). x.parts) go.rest

  filed : go.next.filed ≡ s.net.filed
  filed = ap (λ (x : Net). x.filed) go.rest

  deleted : go.next.deleted ≡ s.net.deleted
  deleted = ap (λ (x : Net). x.deleted) go.rest

  leaves : Leaves s.net go.next
  leaves = record {
    filed = same_more s.net go.next filed;
    stay = go.stay;
    sent = go.grows;
    deleted = λ name is_in. subst (λ xs. tables.In name xs) (sym deleted) is_in;
    epoch = epoch;
    horizon = horizon;
    parts = parts;
  }

  pub grown : Grown s.net go.next
  grown = leaves_grown part texts first s.net go.next st.runs go.runs leaves

  new_facts : (q : Packet) → In q (map (sent_at clock) (packets_of (Manager (lasting_of (s.manager j).phase).number) w.outs)) → Fact part manager_scene q
  new_facts q h =
      sends (Manager (lasting_of (s.manager j).phase).number) clock (ManagerDoes part s.asked go.next) (Fact part manager_scene) (λ to m does. does) w.outs
      go.does q h

  others_stay : (d : ℕ) → (d ≡ j → ⊥) → 0 < d → d ≤ k.managers → ManagerAgrees part texts go.next (s.manager d).phase
  others_stay d other pos less = managers_stay part texts s.net go.next (s.manager d).phase
      (leaves_pass part texts first s.net go.next st.runs go.runs leaves (slot_in part (s.manager d).phase)
      (λ e held. let clear = apart d e pos less other held in go.slots e clear.0 clear.1))
      (st.managers d pos less)

  pub manager_turn : Stands k part texts first (slice_set nodes p (any.Manager after_node)) sent_now RegistrySound manager_scene
  manager_turn = record {
    runs = runs_through (opening first) s.net go.next st.runs go.runs;
    placed = place_manager k nodes s st.placed p j at fact after_node go.next;
    sound = st.sound;
    registry = registry_frame part s.net go.next epoch horizon parts s.registry st.registry;
    clients = λ c pos less. clients_stay part texts s.net go.next c (s.client c).phase (same_log s.net go.next filed c) (st.clients c pos less);
    managers = put_each (λ d (x : ManagerNode). 0 < d → d ≤ k.managers → ManagerAgrees part texts go.next x.phase) s.manager j after_node
        (λ _ _. go.agrees) (λ d other pos less. others_stay d other pos less);
    cleaner = cleaner_stays part texts s.net go.next s.cleaner.phase
        (record {
          log = same_log s.net go.next filed cleaners_number;
          promised = ap (λ (x : Net). x.promised) go.rest;
          job = ap (λ (x : Net). x.job) go.rest;
          sent = go.grows;
        })
        st.cleaner;
    asks = st.asks;
    few = st.few;
    texts_of = subst (AreTexts texts) (sym filed) st.texts_of;
    heads = λ l. subst (λ (f : Filed). f.head l < u32_end) (sym filed) (st.heads l);
    facts = λ q h. ⊎_elim (λ old. sent_stays part s.net go.next grown s.asked s.asked (λ x is_in. is_in) q.from q.body (st.facts q old))
        (λ new. new_facts q new) (in_append sent _ q h);
  }
