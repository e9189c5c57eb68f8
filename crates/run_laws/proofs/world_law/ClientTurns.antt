-- A client that has its turn: the moment after it stands to the small world that runs on with it.
use Rattle.std.proofs.Common.{◌≡◌, ⊎_elim, ℕ, Bool, false, ◌≤◌, ◌<◌, List, ◌++◌, Some, map, slice_get, slice_set, get_or, refl, sym, ap, subst, ◌∙◌, arith}
use Rattle.client_node.specs.declared.client.Client.{Client as ClientNode}
use Rattle.client_node.specs.declared.phase.Phase.{Phase}
use Rattle.client_node.specs.declared.phase.Phase.TheVariants.{Down, Opening, Serving as Serves}
use Rattle.client_node.specs.Phases.{Went_to, lasting_of}
use Rattle.core_world.specs.declared.any_node.AnyNode.{AnyNode}
use Rattle.core_world.specs.declared.any_node.AnyNode.TheVariants as any
use Rattle.node_base.specs.declared.effects.Effect.{Effect}
use Rattle.node_base.specs.Effects.{acts_of, packets_of}
use Rattle.node_slots.proofs.node_tie.BooksLast.{books_last}
use Rattle.node_slots.proofs.node_tie.CleanerTurns.{cleaner_on}
use Rattle.node_slots.proofs.node_tie.ManagerFrames.{manager_on}
use Rattle.node_slots.proofs.node_tie.SmallWorld.{any_promise, premise_by, promised_stays, with_promise}
use Rattle.node_slots.specs.node_tie.AskingEvents.{PhaseAsks}
use Rattle.node_slots.specs.node_tie.CleanerEvents.{CleanerStands, CleanerWelcomed}
use Rattle.node_slots.specs.node_tie.CleanerLogs.{its_log}
use Rattle.node_slots.specs.node_tie.ClientEvents.{ClientAgrees, ClientDid, ClientGoes, ClientStands, WelcomeRises}
use Rattle.node_slots.specs.node_tie.Sight.{ClientSends}
use Rattle.registry_node.specs.declared.node.RegistryNode.{RegistryNode}
use Rattle.token_client.specs.State.{TokensState, epoch_of}
use Rattle.token_law.specs.Net.{Net}
use Rattle.token_protocol.specs.Basics.{put, In}
use Rattle.token_protocol.proofs.Refining.{put_each}
use Rattle.token_tie.proofs.Frames.{put_here}
use Rattle.version_model.specs.declared.act.Act.{Act}
use Rattle.wire_msg.specs.declared.body.Body.{Body}
use Rattle.wire_msg.specs.declared.packet.Packet.{Packet}
use Rattle.wire_msg.specs.declared.registry.Welcome.{Welcome}
use Rattle.world_base.specs.Cluster.{place_of}
use Rattle.world_base.specs.declared.cluster.Cluster.{Cluster}
use Rattle.world_base.specs.NextWorld.{sent_at}
use Rattle.run_laws.proofs.world_law.Facts.{Grown, fact_stays}
use Rattle.run_laws.proofs.world_law.Frames.{client_frame, runs_on, stands_frame}
use Rattle.run_laws.proofs.world_law.Nodes.{here, there}
use Rattle.run_laws.proofs.world_law.Sent.{in_append, sends}
use Rattle.run_laws.specs.world_law.Standing.{Fact, ManagerSees, Placed, Scene, Stands, epoch_now, life_of_client, members}
use Rattle.headline.specs.Moments.{node_in}
use Rattle.xfs_base.specs.declared.node.NodeId.{NodeId}
use Rattle.xfs_base.specs.declared.node.NodeId.TheVariants.{Client, Manager, Server, Cleaner, Registry}

abbrev pub number : NodeId → ℕ
number (Client c) = c
number (Manager c) = c
number (Server c) = c
number Cleaner = 0
number Registry = 0

-- ---- Welcomes

-- what a Welcome to another client owes is owed as before
pub welcome_frame : (part limit c : ℕ) (n m : Net) → m.tokens c ≡ n.tokens c → (p : Phase) (w : Welcome) → WelcomeRises part limit c n p w
    → WelcomeRises part limit c m p w
welcome_frame part limit c n m tokens (Down l) w h = tt
welcome_frame part limit c n m tokens (Opening l o) w h =
    λ same i d less of_part. subst (λ (t : TokensState). epoch_of t.epochs part ≤ (get_or w.news.slots i d).epoch) (sym tokens) (h same i d less of_part)
welcome_frame part limit c n m tokens (Serves s) w h = tt

module _ (logs : Bool) (part limit c : ℕ) (n : Net) where
  -- a Welcome of a life that a client had says nothing of one that begins, and what it owes to an opening stands still with that
  pub welcome_after : (p p' : Phase) (members : ℕ) (outs : List Effect) (go : ClientGoes logs members part limit c n p p' outs) (w : Welcome)
      → w.inc ≤ (lasting_of p).inc → WelcomeRises part limit c n p w → WelcomeRises part limit c go.next p' w
  welcome_after p (Down next) members outs go w life h = tt
  welcome_after p (Serves s) members outs go w life h = tt
  welcome_after (Down l) (Opening next o) members outs go w life h = λ same. (let later = go.begins in absurd (omega arith))
  welcome_after (Serves s) (Opening next o) members outs go w life h = λ same. (let later = go.begins in absurd (omega arith))
  welcome_after (Opening l q) (Opening next o) members outs go w life h =
      λ same. (let later = go.later in let now : w.inc ≡ l.inc = omega arith in welcome_frame part limit c n go.next (go.stands tt) (Opening l q) w h now)

pub numbered : (logs : Bool) (part c : ℕ) (n : Net) (p : Phase) → ClientAgrees logs part c n p → (lasting_of p).number ≡ c
numbered logs part c n (Down l) h = h.number
numbered logs part c n (Opening l o) h = h.number
numbered logs part c n (Serves s) h = h.number

-- so it is where nothing is asked of logs
pub number_is : (part c : ℕ) (n : Net) (p : Phase) → ClientAgrees false part c n p → (lasting_of p).number ≡ c
number_is part c n p h = numbered false part c n p h

-- ---- the turn

pub no_client : (c members l : ℕ) → c < members → members ≤ l → l ≡ c → ⊥
no_client c members l less few fact = omega arith

module _ (logs : Bool) (k : Cluster) (part : ℕ) (RegistrySound : RegistryNode → Type 0) (nodes : List AnyNode) (sent : List Packet) (done : List Act)
    (s : Scene)
    (st : Stands logs k part nodes sent done RegistrySound s)
    (c p clock : ℕ) (some : 0 < c) (within : c < members k part) (at : place_of k (Client c) ≡ Some p)
    (fact : slice_get nodes p ≡ Some (any.Client (s.client c)))
    (w : Went_to) (go : ClientGoes logs (members k part) part (epoch_now k part s) c s.net (s.client c).phase w.state w.outs) (asks : PhaseAsks w.state) where
  abbrev after_node : ClientNode
  after_node = record (s.client c) { phase = w.state }

  abbrev pub client_scene : Scene
  client_scene = record s { net = go.next; client = put s.client c after_node }

  abbrev nodes_now : List AnyNode
  nodes_now = slice_set nodes p (any.Client after_node)

  abbrev sent_now : List Packet
  sent_now = sent ++ map (sent_at clock) (packets_of (Client (lasting_of (s.client c).phase).number) w.outs)

  promised : go.next.promised ≡ s.net.promised
  promised = promised_stays logs (members k part) part s.net go.next go.runs

  pub grown : Grown k part s client_scene
  grown = record {
    sent = go.grows;
    lives = put_each (λ d (x : ClientNode). life_of_client s d ≤ (lasting_of x.phase).inc) s.client c after_node go.later (λ d other. omega arith);
    reigns = λ j. omega arith;
    epochs = omega arith;
    told = λ j. omega arith;
    given = λ e limit. (refl, refl);
    new = λ e less limit. absurd (omega arith);
    welcomes = λ d m. put_each
        (λ d (x : ClientNode). m.inc ≤ life_of_client s d → WelcomeRises part (epoch_now k part s) d s.net (s.client d).phase m
        → WelcomeRises part (epoch_now k part s) d go.next x.phase m)
        s.client c after_node (λ life h. welcome_after logs part (epoch_now k part s) c s.net (s.client c).phase w.state (members k part) w.outs go m life h)
        (λ d other life h. welcome_frame part (epoch_now k part s) d s.net go.next (go.others d other).0 (s.client d).phase m h) d;
    cleans = omega arith;
    promises = omega (arith, promised);
    cleaner = λ m life h. subst (λ x. CleanerWelcomed part x (epoch_now k part s) s.cleaner.phase m) (sym promised) h;
  }

  placed : Placed k part nodes_now sent_now client_scene
  placed = record {
    clients = put_each
        (λ d (x : ClientNode). 0 < d → d < members k part → node_in nodes_now (place_of k (Client d)) ≡ Some (any.Client x)) s.client c after_node
        (λ _ _. here k nodes (Client c) p at (any.Client after_node) (any.Client (s.client c)) fact)
        (λ d other pos less. there k nodes (Client c) p at (any.Client after_node) (Client d) (λ same. other (ap number same)) ∙ st.placed.clients d pos less);
    managers = λ j pos limit. there k nodes (Client c) p at (any.Client after_node) (Manager j) (λ same. absurd (cc)) ∙ st.placed.managers j pos limit;
    servers = λ n pos limit.
        (let h = st.placed.servers n pos limit in (h.0, there k nodes (Client c) p at (any.Client after_node) (Server n) (λ same. absurd (cc)) ∙ h.1));
    cleaner = there k nodes (Client c) p at (any.Client after_node) Cleaner (λ same. absurd (cc)) ∙ st.placed.cleaner;
    registry = there k nodes (Client c) p at (any.Client after_node) Registry (λ same. absurd (cc)) ∙ st.placed.registry;
  }

  sees : (j : ℕ) → 0 < j → j ≤ k.managers → ManagerSees k part client_scene j (s.manager j).phase
  sees j pos limit = (let h = st.managers j pos limit in record {
    agrees = manager_on (members k part) part s.net go.next go.grows (let same = promised in omega arith) j (s.manager j).phase (λ e held. go.slots e) h.agrees;
    within = h.within;
    owns = h.owns;
    fresh = h.fresh;
    known = h.known;
    told = h.told;
  })

  new_facts : (q : Packet) → In q (map (sent_at clock) (packets_of (Client (lasting_of (s.client c).phase).number) w.outs)) → Fact k part client_scene q
  new_facts q h =
      sends (Client (lasting_of (s.client c).phase).number) clock (ClientDid part c s.net go.next.sent (lasting_of w.state).inc w.state)
      (Fact k part client_scene)
      (λ to m does. fact_of (lasting_of (s.client c).phase).number (numbered logs part c s.net (s.client c).phase (st.clients c some within).0) to m does)
      w.outs go.does q h
    where
      life_here : life_of_client client_scene c ≡ (lasting_of w.state).inc
      life_here = ap (λ (x : ClientNode). (lasting_of x.phase).inc) (put_here s.client c after_node)

      fact_of : (x : ℕ) → x ≡ c → (to : NodeId) (m : Body) → ClientSends part go.next.sent c (lasting_of w.state).inc to m
          → (0 < x) × (x < members k part) × ClientSends part go.next.sent x (life_of_client client_scene x) to m
      fact_of x same to m h =
          subst (λ y. (0 < y) × (y < members k part) × ClientSends part go.next.sent y (life_of_client client_scene y) to m) (sym same)
          (some, within, subst (λ l. ClientSends part go.next.sent c l to m) (sym life_here) h)

  abbrev acts_now : List Act
  acts_now = done ++ acts_of (Client (lasting_of (s.client c).phase).number) w.outs

  acts : go.next.acts ≡ acts_now
  acts =
      go.acts ∙ (ap (λ a. a ++ acts_of (Client c) w.outs) st.acts
      ∙ ap (λ x. done ++ acts_of (Client x) w.outs) (sym (numbered logs part c s.net (s.client c).phase (st.clients c some within).0)))

  pub client_turn : Stands logs k part nodes_now sent_now acts_now RegistrySound client_scene
  client_turn = record {
    runs = runs_on logs (members k part) part _ (with_promise 1 s.net) (with_promise 1 go.next) st.runs
        (any_promise logs (members k part) part 1 s.net go.next go.runs);
    acts = acts;
    placed = placed;
    sound = st.sound;
    clients = put_each
        (λ d (x : ClientNode). 0 < d → d < members k part → ClientAgrees logs part d go.next x.phase × ClientStands part (epoch_now k part s) d go.next x.phase)
        s.client c after_node
        (λ _ _. (go.agrees, record { asks = asks; within = go.within; promises = go.promises }))
        (λ d other pos less. (let h = st.clients d pos less in let o = go.others d other in (
          client_frame logs part d s.net go.next o.0 o.1 (go.books d other) go.grows (s.client d).phase h.0,
          stands_frame part (epoch_now k part s) (epoch_now k part s) d s.net go.next (omega arith) o.0 (s.client d).phase h.1,
        )));
    managers = sees;
    cleaner = subst (λ x. (x ≤ epoch_now k part s) × CleanerStands part x (epoch_now k part s) s.cleaner.phase) (sym promised) st.cleaner;
    copies = premise_by logs
        (cleaner_on s.net.books go.next.books s.cleaner.phase (books_last logs (members k part) part s.net go.next go.runs)
        (go.books its_log (no_client c (members k part) its_log within st.few))) st.copies;
    few = st.few;
    peers = st.peers;
    current = st.current;
    some = st.some;
    before = st.before;
    entered = λ e z there_. (let h = st.entered e z (sym (go.slots e) ∙ there_) in (h.0, h.1, h.2, h.3, subst (λ x. e ≤ x) (sym promised) h.4));
    facts = λ q h. ⊎_elim (λ old. fact_stays k part s client_scene grown q (st.facts q old)) (λ new. new_facts q new) (in_append sent _ q h);
  }
