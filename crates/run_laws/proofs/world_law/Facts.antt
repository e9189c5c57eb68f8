-- What holds of a packet goes on to hold, as the small world and the registry go on.
use Rattle.std.proofs.Common.{◌≡◌, ℕ, ◌≤◌, ◌<◌, List, refl, sym, subst, ◌∙◌, arith}
use Rattle.std.proofs.Common.{Bool, true, false, nat_le}
use Rattle.std.proofs.lemmas.Bool.{leb-false, leb-true}
use Rattle.node_slots.specs.node_tie.CleanerEvents.{CleanerWelcomed}
use Rattle.node_slots.specs.node_tie.ClientEvents.{WelcomeRises}
use Rattle.node_slots.specs.node_tie.Sight.{CleanerSends, ClientSends, ManagerSends, GrantSeen, ForwardSeen, RecallSeen, SupplySeen}
use Rattle.token_law.specs.Net.{Packet as NetPacket}
use Rattle.token_protocol.specs.Basics.{In}
use Rattle.wire_msg.specs.declared.body.Body.{Body}
use Rattle.wire_msg.specs.declared.body.Body.TheVariants as body
use Rattle.wire_msg.specs.declared.packet.Packet.{Packet}
use Rattle.wire_msg.specs.declared.registry.Welcome.{Welcome}
use Rattle.wire_msg.specs.declared.tokens.Forward.{Forward}
use Rattle.wire_msg.specs.declared.tokens.Grant.{Grant}
use Rattle.wire_msg.specs.declared.tokens.Recall.{Recall}
use Rattle.wire_msg.specs.declared.tokens.Supply.{Supply}
use Rattle.world_base.specs.declared.cluster.Cluster.{Cluster}
use Rattle.run_laws.specs.world_law.Standing.{AllTold, ClientWelcomed, Fact, ManagerWelcomed, NewsTold, RegistrySends, Scene, SentBy, Welcomed, epoch_now, life_of_cleaner, life_of_client, life_of_manager, life_told}
use Rattle.xfs_base.specs.declared.news.SlotNews.{SlotNews}
use Rattle.xfs_base.specs.declared.node.NodeId.{NodeId}
use Rattle.xfs_base.specs.declared.node.NodeId.TheVariants.{Client, Manager, Server, Cleaner, Registry}

up_to : (a b c : ℕ) → a ≤ b → b ≤ c → a ≤ c
up_to a b c h g = omega arith

-- ---- packets about tokens stay sent

module _ (part : ℕ) (xs ys : List NetPacket) (grows : (x : NetPacket) → In x xs → In x ys) where
  pub grant_stays : (to : NodeId) (m : Grant) → GrantSeen part xs to m → GrantSeen part ys to m
  grant_stays (Client c) m h = λ inside. grows _ (h inside)
  grant_stays _ m h = absurd h

  pub forward_stays : (to : NodeId) (m : Forward) → ForwardSeen part xs to m → ForwardSeen part ys to m
  forward_stays (Client c) m h = λ inside. grows _ (h inside)
  forward_stays _ m h = absurd h

  pub recall_stays : (to : NodeId) (m : Recall) → RecallSeen part xs to m → RecallSeen part ys to m
  recall_stays (Client c) m h = λ inside. grows _ (h inside)
  recall_stays _ m h = absurd h

  pub supply_stays : (to : NodeId) (m : Supply) → SupplySeen part xs to m → SupplySeen part ys to m
  supply_stays (Client c) m h = λ inside. grows _ (h inside)
  supply_stays _ m h = absurd h

  pub client_stays : (c life later : ℕ) → life ≤ later → (to : NodeId) (m : Body) → ClientSends part xs c life to m → ClientSends part ys c later to m
  client_stays c life later less to (body.Want m) h = λ inside. grows _ (h inside)
  client_stays c life later less to (body.Supply m) h = supply_stays to m h
  client_stays c life later less to (body.Gave m) h = λ inside. grows _ (h inside)
  client_stays c life later less to (body.Deltas m) h = tt
  client_stays c life later less to (body.Report m) h = λ same. grows _ (h same)
  client_stays c life later less to (body.Store m) h = tt
  client_stays c life later less to (body.Fetch m) h = tt
  client_stays c life later less to (body.Fence m) h = tt
  client_stays c life later less to (body.Hello m) h = up_to m.inc life later h less
  client_stays c life later less to _ h = absurd h

  pub manager_stays : (limit more life later : ℕ) → limit ≤ more → life ≤ later → (to : NodeId) (m : Body) → ManagerSends part xs limit life to m
      → ManagerSends part ys more later to m
  manager_stays limit more life later rise less to (body.Grant m) h = grant_stays to m h
  manager_stays limit more life later rise less to (body.Forward m) h = forward_stays to m h
  manager_stays limit more life later rise less to (body.Recall m) h = recall_stays to m h
  manager_stays limit more life later rise less to (body.Gone m) h = tt
  manager_stays limit more life later rise less to (body.DeltaAck m) h = tt
  manager_stays limit more life later rise less to (body.Poll m) h = λ same. up_to m.epoch limit more (h same) rise
  manager_stays limit more life later rise less to (body.Store m) h = tt
  manager_stays limit more life later rise less to (body.Fetch m) h = tt
  manager_stays limit more life later rise less to (body.Live m) h = tt
  manager_stays limit more life later rise less to (body.Dead m) h = tt
  manager_stays limit more life later rise less to (body.Usage m) h = tt
  manager_stays limit more life later rise less to (body.Hello m) h = up_to m.inc life later h less
  manager_stays limit more life later rise less to (body.CkptDone m) h = tt
  manager_stays limit more life later rise less to _ h = absurd h

pub cleaner_stays : (part promised more life later : ℕ) → promised ≤ more → life ≤ later → (m : Body) → CleanerSends part promised life m
    → CleanerSends part more later m
cleaner_stays part promised more life later rise less (body.Report m) h = λ same. up_to m.epoch promised more (h same) rise
cleaner_stays part promised more life later rise less (body.Hello m) h = up_to m.inc life later h less
cleaner_stays part promised more life later rise less (body.Deltas m) h = tt
cleaner_stays part promised more life later rise less (body.Store m) h = tt
cleaner_stays part promised more life later rise less (body.Fetch m) h = tt
cleaner_stays part promised more life later rise less (body.Fence m) h = tt
cleaner_stays part promised more life later rise less (body.List m) h = tt
cleaner_stays part promised more life later rise less (body.Delete m) h = tt
cleaner_stays part promised more life later rise less (body.Check m) h = tt
cleaner_stays part promised more life later rise less (body.UsageAsk m) h = tt
cleaner_stays part promised more life later rise less _ h = absurd h

-- ---- all packets

module _ (k : Cluster) (part : ℕ) where
  -- one scene may follow another: nothing that was sent, promised or given is taken back
  pub record Grown (s t : Scene) : Type 0 where
    pub sent : (x : NetPacket) → In x s.net.sent → In x t.net.sent
    pub lives : (c : ℕ) → life_of_client s c ≤ life_of_client t c
    pub reigns : (j : ℕ) → life_of_manager s j ≤ life_of_manager t j
    pub epochs : epoch_now k part s ≤ epoch_now k part t
    pub told : (j : ℕ) → life_told s j ≤ life_told t j
    pub given : (e : ℕ) → e ≤ epoch_now k part s → (t.lord e ≡ s.lord e) × (t.since e ≡ s.since e)
    pub new : (e : ℕ) → epoch_now k part s < e → e ≤ epoch_now k part t → life_told t (t.lord e) ≤ t.since e
    pub welcomes : (c : ℕ) (m : Welcome) → m.inc ≤ life_of_client s c → WelcomeRises part (epoch_now k part s) c s.net (s.client c).phase m
        → WelcomeRises part (epoch_now k part t) c t.net (t.client c).phase m
    pub cleans : life_of_cleaner s ≤ life_of_cleaner t
    pub promises : s.net.promised ≤ t.net.promised
    pub cleaner : (m : Welcome) → m.inc ≤ life_of_cleaner s → CleanerWelcomed part s.net.promised (epoch_now k part s) s.cleaner.phase m
        → CleanerWelcomed part t.net.promised (epoch_now k part t) t.cleaner.phase m

  module _ (s t : Scene) (g : Grown s t) where
    news_stays : (news : SlotNews) → NewsTold k part s news → NewsTold k part t news
    news_stays news h = record { within = up_to _ _ _ h.within g.epochs; some = h.some; given = (g.given news.epoch h.within).0 ∙ h.given }

    all_stays : (slots : List SlotNews) → AllTold k part s slots → AllTold k part t slots
    all_stays slots h = record { each = λ news fact same. news_stays news (h.each news fact same); here = h.here }

    client_welcomed_stays : (c : ℕ) (m : Welcome) → ClientWelcomed k part s c m → ClientWelcomed k part t c m
    client_welcomed_stays c m h = record { life = up_to _ _ _ h.life (g.lives c); rises = g.welcomes c m h.life h.rises }

    manager_welcomed_stays : (j : ℕ) (m : Welcome) → AllTold k part s m.news.slots → ManagerWelcomed k part s j m → ManagerWelcomed k part t j m
    manager_welcomed_stays j m all h = record {
      life = up_to _ _ _ h.life (g.told j);
      version = h.version;
      later = λ news fact same e less limit lord. by_age news fact same e less limit lord (nat_le e (epoch_now k part s)) refl;
      own =
          λ news fact same mine. (let now = g.given news.epoch (all.each news fact same).within in subst (λ x. m.inc ≤ x) (sym now.1)
          (h.own news fact same mine));
    }
      where
        by_age : (news : SlotNews) → In news m.news.slots → news.slot ≡ part → (e : ℕ) → news.epoch < e → e ≤ epoch_now k part t → t.lord e ≡ j → (old : Bool)
            → nat_le e (epoch_now k part s) ≡ old → m.inc ≤ t.since e
        by_age news fact same e less limit lord true h_ =
            let within = leb-true e (epoch_now k part s) h_ in
            let now = g.given e within in
            subst (λ x. m.inc ≤ x) (sym now.1) (h.later news fact same e less within (sym now.0 ∙ lord))
        by_age news fact same e less limit lord false h_ =
            up_to m.inc (life_told t j) (t.since e) (up_to _ _ _ h.life (g.told j))
            (subst (λ x. life_told t x ≤ t.since e) lord (g.new e (leb-false e (epoch_now k part s) h_) limit))

    welcomed_stays : (to : NodeId) (m : Welcome) → AllTold k part s m.news.slots → Welcomed k part s to m → Welcomed k part t to m
    welcomed_stays (Client c) m all h = client_welcomed_stays c m h
    welcomed_stays (Manager j) m all h = manager_welcomed_stays j m all h
    welcomed_stays (Server n) m all h = tt
    welcomed_stays Cleaner m all h = record { life = up_to _ _ _ h.life g.cleans; rises = g.cleaner m h.life h.rises }
    welcomed_stays Registry m all h = tt

    registry_stays : (to : NodeId) (m : Body) → RegistrySends k part s to m → RegistrySends k part t to m
    registry_stays to (body.Welcome m) h = (all_stays m.news.slots h.0, welcomed_stays to m h.0 h.1)
    registry_stays to (body.MapNews m) h = all_stays m.slots h
    registry_stays to (body.CkptAck m) h = tt
    registry_stays to _ h = absurd h

    sent_stays : (from to : NodeId) (m : Body) → SentBy k part s from to m → SentBy k part t from to m
    sent_stays (Client c) to m h = (h.0, h.1, client_stays part s.net.sent t.net.sent g.sent c (life_of_client s c) (life_of_client t c) (g.lives c) to m h.2)
    sent_stays (Manager j) to m h = (
      h.0,
      h.1,
      manager_stays part s.net.sent t.net.sent g.sent (epoch_now k part s) (epoch_now k part t) (life_of_manager s j)
          (life_of_manager t j) g.epochs (g.reigns j) to m h.2,
    )
    sent_stays (Server n) to m h = h
    sent_stays Cleaner to m h = cleaner_stays part s.net.promised t.net.promised (life_of_cleaner s) (life_of_cleaner t) g.promises g.cleans m h
    sent_stays Registry to m h = registry_stays to m h

    pub fact_stays : (p : Packet) → Fact k part s p → Fact k part t p
    fact_stays p h = sent_stays p.from p.to p.body h
