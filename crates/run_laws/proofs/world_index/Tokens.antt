-- What the small world of tokens gives the index of the slot: who was active at an epoch is the manager to which that was given, so that no other holds it, and
-- news never give one at which somebody was active.
use Rattle.std.proofs.Common.{◌≡◌, ⊎_elim, ◌==◌, ℕ, ◌≤◌, ◌<◌, Bool, true, false, nat_lt, nat_le, List, Option, None, Some, unwrap_or, inl, inr, refl, sym, ap, subst, ◌∙◌, arith}
use Rattle.std.proofs.lemmas.Bool.Decides.{nat_tests}
use Rattle.core_world.specs.declared.any_node.AnyNode.{AnyNode}
use Rattle.core_world.specs.declared.any_node.AnyNode.TheVariants as any
use Rattle.index_tie.proofs.Tables.{put_each}
use Rattle.index_tie.specs.Net.{Net, opening}
use Rattle.manager_node.specs.declared.manager.Manager.{Manager as ManagerNode}
use Rattle.manager_node.specs.declared.phase.Phase.{Phase}
use Rattle.manager_node.specs.declared.phase.Phase.TheVariants.{Down, Waiting, Serving as Serves}
use Rattle.manager_node.specs.Phases.{lasting_of}
use Rattle.manager_slots.specs.declared.lasting.Lasting.{Lasting as Kept}
use Rattle.manager_serving.specs.declared.serving.Serving.{Serving}
use Rattle.node_slots.proofs.node_index_tie.Moves.{some_none}
use Rattle.node_slots.specs.node_tie.ManagerEvents.{HeldAt, NamedBy, NamedIn, Names, epoch_in, is_serving}
use Rattle.headline.specs.Managers.{slot_in}
use Rattle.node_slots.specs.node_tie.RegistryEvents.{RegistrySound}
use Rattle.segment_format.specs.declared.segment.Segment.{Segment}
use Rattle.token_manager.specs.SlotState.{SlotState}
use Rattle.version_model.specs.declared.act.Act.{Act}
use Rattle.wire_msg.specs.declared.body.Body.{Body}
use Rattle.wire_msg.specs.declared.body.Body.TheVariants as body
use Rattle.wire_msg.specs.declared.packet.Do.{Do}
use Rattle.wire_msg.specs.declared.packet.Do.TheVariants.{Begin, Deliver, Tick}
use Rattle.wire_msg.specs.declared.packet.Packet.{Packet}
use Rattle.wire_msg.specs.declared.registry.Welcome.{Welcome}
use Rattle.world_base.specs.Cluster.{place_of}
use Rattle.world_base.specs.declared.cluster.Cluster.{Cluster}
pub use Rattle.run_laws.specs.world_index.Growth.{Entered}
use Rattle.run_laws.specs.world_index.Owes.{DoFree, HeldApart, ManagerGiven, NewsFree, ServingFree, TokensGive, WaitingFree}
use Rattle.run_laws.specs.world_index.Standing.{Placed, Scene, holder}
use Rattle.run_laws.proofs.world_index.Standing.{Came}
use Rattle.run_laws.proofs.world_law.Gets.{news_told, welcome_told}
use Rattle.run_laws.proofs.world_law.ManagerTurns.{manager_number}
use Rattle.run_laws.proofs.world_law.RegistryTurns.{held_known}
use Rattle.run_laws.specs.world_law.Standing as tokens
use Rattle.run_laws.proofs.world_law.Places.{behind}
use Rattle.run_laws.proofs.world_law.Turns.{Since, one_node}
use Rattle.headline.specs.Moments.{node_in}
use Rattle.xfs_base.specs.declared.news.SlotNews.{SlotNews}
use Rattle.xfs_base.specs.declared.node.NodeId.{NodeId}
use Rattle.xfs_base.specs.declared.node.NodeId.TheVariants.{Client, Manager, Server, Cleaner, Registry}

-- ---- what isn't false is so

stable_is : (a b : ℕ) → ((a ≡ b → ⊥) → ⊥) → a ≡ b
stable_is a b not_not = by (a == b) refl
  where
    by : (t : Bool) → (a == b) ≡ t → a ≡ b
    by true premise = grind (arith, nat_tests, premise)
    by false premise = absurd (not_not (λ same. grind (arith, nat_tests, premise, same)))

stable_low : (a b : ℕ) → ((a ≤ b → ⊥) → ⊥) → a ≤ b
stable_low a b not_not = by (nat_le a b) refl
  where
    by : (t : Bool) → nat_le a b ≡ t → a ≤ b
    by true premise = grind (arith, nat_tests, premise)
    by false premise = absurd (not_not (λ low. grind (arith, nat_tests, premise, low)))

-- ---- the nodes

some_manager : (x y : ManagerNode) → Some (any.Manager x) ≡ Some (any.Manager y) → x ≡ y
some_manager x y same = ap (λ o. manager_of (unwrap_or o (any.Manager x))) same
  where
    manager_of : AnyNode → ManagerNode
    manager_of (any.Manager m) = m
    manager_of (any.Client c) = x
    manager_of (any.Server v) = x
    manager_of (any.Cleaner c) = x
    manager_of (any.Registry r) = x

module _ (logs : Bool) (k : Cluster) (part : ℕ) (nodes : List AnyNode) (sent : List Packet) (acts : List Act) (t : tokens.Scene)
    (st : tokens.Stands logs k part nodes sent acts RegistrySound t) where
  same_manager : (s : Scene) → Placed k nodes s → (j : ℕ) → 0 < j → j ≤ k.managers → s.manager j ≡ t.manager j
  same_manager s placed j some limit = some_manager (s.manager j) (t.manager j) (sym (placed.managers j some limit) ∙ st.placed.managers j some limit)

  -- ---- who was given an epoch

  -- an epoch that was given to this manager, in no later incarnation than its own
  pub record GivenTo (j e : ℕ) : Type 0 where
    pub lord : t.lord e ≡ j
    pub within : e ≤ tokens.epoch_now k part t
    pub since : t.since e ≤ (lasting_of (t.manager j).phase).inc

  held_given : (j e : ℕ) → 0 < j → j ≤ k.managers → HeldAt (slot_in part (t.manager j).phase) e → GivenTo j e
  held_given j e some limit held =
      let m = st.managers j some limit in
      let own = m.owns e held in
      record {
        lord = own.0;
        within = (let known = held_known (slot_in part (t.manager j).phase) e held in let low = m.within in omega arith);
        since = (let same = own.1 in omega arith);
      }

  told_given : (j e : ℕ) → 0 < j → j ≤ k.managers → t.lord e ≡ j → e ≤ tokens.epoch_now k part t → 0 < e → GivenTo j e
  told_given j e some limit lord within pos =
      let high = subst (λ x. t.since e ≤ tokens.life_told t x) lord (st.before e pos within) in
      let told = (st.managers j some limit).told in
      record { lord = lord; within = within; since = (let a = high in let b = told in omega arith) }

  named_in : (j e : ℕ) → 0 < j → j ≤ k.managers → (slots : List SlotNews) → tokens.AllTold k part t slots → NamedIn part j e slots → GivenTo j e
  named_in j e some limit slots all names =
      let n = all.each names.0 names.1 names.2 in
      told_given j e some limit (ap t.lord (sym names.3) ∙ (n.given ∙ names.4)) (subst (λ x. x ≤ tokens.epoch_now k part t) names.3 n.within)
      (subst (λ x. 0 < x) names.3 n.some)

  named_by : (j e : ℕ) → 0 < j → j ≤ k.managers → (from to : NodeId) (m : Body) → tokens.SentBy k part t from to m → NamedBy part j e m → GivenTo j e
  named_by j e some limit from to (body.MapNews m) h names = named_in j e some limit m.slots (news_told k part t from to m h) names
  named_by j e some limit from to (body.Welcome m) h names = named_in j e some limit m.news.slots (welcome_told k part t from to m h).0 names
  named_by j e some limit from to _ h names = absurd names

  module _ (what : Do) (fact : (q : Packet) → what ≡ Deliver q → tokens.Fact k part t q) where
    named_given : (j e : ℕ) → 0 < j → j ≤ k.managers → Names part j e what → GivenTo j e
    named_given j e some limit names = by what refl names
      where
        by : (x : Do) → what ≡ x → Names part j e x → GivenTo j e
        by Begin premise named = absurd named
        by Tick premise named = absurd named
        by (Deliver q) premise named = named_by j e some limit q.from q.to q.body (fact q premise) named

    -- no other manager holds an epoch that this one holds, or that news give to it
    pub apart : (n : Net) (s : Scene) → Placed k nodes s → (j : ℕ) → 0 < j → j ≤ k.managers
        → HeldApart part j n k.managers (holder part s) (s.manager j).phase what
    apart n s placed j some limit d e pos less other held =
        let its = (held_given d e pos less (subst (λ (x : ManagerNode). HeldAt (slot_in part x.phase) e) (same_manager s placed d pos less) held)).lord in (
          λ mine. other (sym its
              ∙ (held_given j e some limit (subst (λ (x : ManagerNode). HeldAt (slot_in part x.phase) e) (same_manager s placed j some limit) mine)).lord),
          λ named. other (sym its ∙ (named_given j e some limit named).lord),
        )

  -- ---- news

  module _ (n : Net) (entered : Entered k part t n) where
    none_where : (e : ℕ) → ((z : SlotState) → n.slots e ≡ Some z → ⊥) → n.slots e ≡ None
    none_where e never = by (n.slots e) refl
      where
        by : (o : Option SlotState) → n.slots e ≡ o → n.slots e ≡ None
        by None premise = premise
        by (Some z) premise = absurd (never z premise)

    -- whoever was active at an epoch that news give to manager j
    past_of : (j : ℕ) (p : Phase) → (t.manager j).phase ≡ p → (news : SlotNews) → tokens.NewsTold k part t news → news.manager ≡ j → (z : SlotState)
        → n.slots news.epoch ≡ Some z
        → tokens.PastAt k part p (t.since news.epoch) news.epoch
    past_of j p premise news told mine z there =
        subst (λ r. tokens.PastAt k part r (t.since news.epoch) news.epoch) premise
        (subst (λ x. tokens.PastAt k part (t.manager x).phase (t.since news.epoch) news.epoch) (told.given ∙ mine) (entered news.epoch z there).1)

    pub serving_free : (j : ℕ) → 0 < j → j ≤ k.managers → (v : _) → (t.manager j).phase ≡ Serves v → (slots : List SlotNews)
        → tokens.AllTold k part t slots → NewsFree part j n (epoch_in part (Serves v)) slots
    serving_free j some limit v premise slots all news among same mine less =
        let told = all.each news among same in
        none_where news.epoch (λ z there. clash told (past_of j (Serves v) premise news told mine z there))
      where
        sees : tokens.ManagerSees k part t j (Serves v)
        sees = subst (tokens.ManagerSees k part t j) premise (st.managers j some limit)

        clash : tokens.NewsTold k part t news → tokens.PastAt k part (Serves v) (t.since news.epoch) news.epoch → ⊥
        clash told past = ⊎_elim
            (λ before. let fresh = sees.fresh refl news.epoch less told.within (told.given ∙ mine) in absurd (omega arith))
            (λ in_life. let been = in_life.1 in absurd (omega arith)) past

    pub waiting_free : (j : ℕ) (kept : Kept) (hello : ℕ) → (t.manager j).phase ≡ Waiting kept hello → (m : Welcome)
        → m.inc ≡ kept.inc → tokens.AllTold k part t m.news.slots → tokens.Welcomed k part t (Manager j) m
        → NewsFree part j n 0 m.news.slots
    waiting_free j kept hello premise m life all welcomed news among same mine less =
        let told = all.each news among same in
        let own = welcomed.own news among same mine in
        none_where news.epoch (λ z there. ⊎_elim (λ before. absurd (omega arith)) (λ in_life. in_life.1)
        (past_of j (Waiting kept hello) premise news told mine z there))

-- ---- it stays so

module _ (logs : Bool) (k : Cluster) (part : ℕ) (nodes later_nodes : List AnyNode) (sent later_sent : List Packet) (acts later_acts : List Act)
    (t u : tokens.Scene)
    (st : tokens.Stands logs k part nodes sent acts RegistrySound t) (later : tokens.Stands logs k part later_nodes later_sent later_acts RegistrySound u)
    (since : Since k part t u) (what : Do) (fact : (q : Packet) → what ≡ Deliver q → tokens.Fact k part t q)
    (s v : Scene) (placed : Placed k nodes s) (then_placed : Placed k later_nodes v) where
  been : (p : Phase) (e : ℕ) → is_serving p ≡ true → e ≤ epoch_in part p → tokens.Been k part p e
  been (Down kept) e serves low = tt
  been (Waiting kept hello) e serves low = absurd (cc)
  been (Serves x) e serves low = low

  past_by : (p : Phase) (life e : ℕ) → is_serving p ≡ true → e ≤ epoch_in part p → life ≤ (lasting_of p).inc → tokens.PastAt k part p life e
  past_by p life e serves knows low = by (nat_lt life (lasting_of p).inc) refl
    where
      by : (x : Bool) → nat_lt life (lasting_of p).inc ≡ x → tokens.PastAt k part p life e
      by true premise = inl (grind (arith, nat_tests, premise))
      by false premise = inr (grind (arith, nat_tests, premise, low), been p e serves knows)

  -- an epoch that has got a manager was given to it
  came_given : (name : NodeId) (e : ℕ) (c : Came k part s v name what e) → GivenTo logs k part nodes sent acts t st c.manager e
  came_given name e c = record {
    lord = stable_is (t.lord e) c.manager (λ no. c.by (λ held. no (its held).lord) (λ named. no (given named).lord));
    within = stable_low e (tokens.epoch_now k part t) (λ no. c.by (λ held. no (its held).within) (λ named. no (given named).within));
    since = stable_low (t.since e) (lasting_of (t.manager c.manager).phase).inc (λ no. c.by (λ held. no (its held).since) (λ named. no (given named).since));
  }
    where
      its : HeldAt (holder part s c.manager) e → GivenTo logs k part nodes sent acts t st c.manager e
      its held = held_given logs k part nodes sent acts t st c.manager e c.some c.limit
          (subst (λ (x : ManagerNode). HeldAt (slot_in part x.phase) e) (same_manager logs k part nodes sent acts t st s placed c.manager c.some c.limit) held)

      given : Names part c.manager e what → GivenTo logs k part nodes sent acts t st c.manager e
      given named = named_given logs k part nodes sent acts t st what fact c.manager e c.some c.limit named

  pub entered_stays : (name : NodeId) → ((e : ℕ) (z : SlotState) → v.net.slots e ≡ Some z → s.net.slots e ≡ None → Came k part s v name what e)
      → Entered k part t s.net → Entered k part u v.net
  entered_stays name came entered e z there = by (s.net.slots e) refl
    where
      on : e ≤ tokens.epoch_now k part t → tokens.PastAt k part (u.manager (t.lord e)).phase (t.since e) e
          → (e ≤ tokens.epoch_now k part u) × tokens.PastAt k part (u.manager (u.lord e)).phase (u.since e) e
      on low past =
          let kept = since.given e low in (
            (let rise = since.epochs in omega arith),
            subst (λ x. tokens.PastAt k part (u.manager x).phase (u.since e) e) (sym kept.0)
                (subst (λ x. tokens.PastAt k part (u.manager (t.lord e)).phase x e) (sym kept.1) past),
          )

      by : (o : Option SlotState) → s.net.slots e ≡ o → (e ≤ tokens.epoch_now k part u) × tokens.PastAt k part (u.manager (u.lord e)).phase (u.since e) e
      by (Some y) old = let was = entered e y old in on was.0 (since.past (t.lord e) (t.since e) e was.1)
      by None none =
          let c = came e z there none in
          let g = came_given name e c in
          let same = same_manager logs k part later_nodes later_sent later_acts u later v then_placed c.manager c.some c.limit in
          on g.within
          (subst (λ x. tokens.PastAt k part (u.manager x).phase (t.since e) e) (sym g.lord)
          (past_by (u.manager c.manager).phase (t.since e) e (subst (λ (x : ManagerNode). is_serving x.phase ≡ true) same c.serves)
          (subst (λ (x : ManagerNode). e ≤ epoch_in part x.phase) same c.knows)
          (let low = g.since in let rise = since.reigns c.manager in omega arith)))

-- ---- all that tokens give

module _ (logs : Bool) (k : Cluster) (part : ℕ) (nodes : List AnyNode) (sent : List Packet) (acts : List Act) (t : tokens.Scene)
    (st : tokens.Stands logs k part nodes sent acts RegistrySound t) (s : Scene) (placed : Placed k nodes s) (entered : Entered k part t s.net) where
  module _ (j : ℕ) (some : 0 < j) (limit : j ≤ k.managers) where
    serving_given : (v : Serving) → (t.manager j).phase ≡ Serves v → (from to : NodeId) (m : Body) → tokens.SentBy k part t from to m
        → ServingFree part j s.net v.lasting.inc (epoch_in part (Serves v)) m
    serving_given v premise from to (body.MapNews m) h =
        serving_free logs k part nodes sent acts t st s.net entered j some limit v premise m.slots (news_told k part t from to m h)
    serving_given v premise from to (body.Welcome m) h =
        λ life. serving_free logs k part nodes sent acts t st s.net entered j some limit v premise m.news.slots (welcome_told k part t from to m h).0
    serving_given v premise from to _ h = tt

    waiting_given : (kept : Kept) (hello : ℕ) → (t.manager j).phase ≡ Waiting kept hello → (from to : NodeId) (m : Body) → tokens.SentBy k part t from to m
        → to ≡ Manager j → WaitingFree part j s.net kept.inc m
    waiting_given kept hello premise from to (body.Welcome m) h same =
        λ life. (let w = welcome_told k part t from to m h in
        waiting_free logs k part nodes sent acts t st s.net entered j kept hello premise m life w.0 (subst (λ x. tokens.Welcomed k part t x m) same w.1))
    waiting_given kept hello premise from to _ h same = tt

    do_given : (p : Phase) (what : Do) → (t.manager j).phase ≡ p → ((q : Packet) → what ≡ Deliver q → tokens.Fact k part t q × (q.to ≡ Manager j))
        → DoFree part j s.net p what
    do_given p Begin premise fact = tt
    do_given p Tick premise fact = tt
    do_given (Serves v) (Deliver q) premise fact = serving_given v premise q.from q.to q.body (fact q refl).0
    do_given (Waiting kept hello) (Deliver q) premise fact = let f = fact q refl in waiting_given kept hello premise q.from q.to q.body f.0 f.1
    do_given (Down kept) (Deliver q) premise fact = tt

    -- what comes to manager j was sent to it, as the small world of tokens knows
    manager_given : (what : Do) → ((q : Packet) → what ≡ Deliver q → tokens.Fact k part t q × (q.to ≡ Manager j))
        → ManagerGiven part j s.net k.managers (holder part s) (s.manager j).phase what
    manager_given what fact =
        let same = same_manager logs k part nodes sent acts t st s placed j some limit in
        record {
          number = subst (λ (x : ManagerNode). (lasting_of x.phase).number ≡ j) (sym same)
              (manager_number (tokens.members k part) part j t.net (t.manager j).phase (st.managers j some limit).agrees);
          free = do_given (s.manager j).phase what (ap (λ (x : ManagerNode). x.phase) (sym same)) fact;
          apart = apart logs k part nodes sent acts t st what (λ q premise. (fact q premise).0) s.net s placed j some limit;
        }

  -- so it is of each node of the world
  pub tokens_give : (name : NodeId) (what : Do) (node : AnyNode) → node_in nodes (place_of k name) ≡ Some node
      → ((q : Packet) → what ≡ Deliver q → tokens.Fact k part t q × (q.to ≡ name)) → TokensGive part k.managers (holder part s) s.net name node what
  tokens_give (Manager j) what node there fact = by (place_of k (Manager j)) refl
    where
      at_node : 0 < j → j ≤ k.managers → TokensGive part k.managers (holder part s) s.net (Manager j) node what
      at_node some limit =
          subst (λ x. TokensGive part k.managers (holder part s) s.net (Manager j) x what)
          (one_node (any.Manager (s.manager j)) node (sym (placed.managers j some limit) ∙ there))
          (manager_given j some limit what fact)

      by : (o : Option ℕ) → place_of k (Manager j) ≡ o → TokensGive part k.managers (holder part s) s.net (Manager j) node what
      by None at = (let clash : None ≡ Some node = sym (ap (node_in nodes) at) ∙ there in absurd (cc))
      by (Some p) at = let b = behind k.clients k.managers j p at in at_node b.some b.within
  tokens_give (Client c) what node there fact = tt
  tokens_give (Server v) what node there fact = tt
  tokens_give Cleaner what node there fact = tt
  tokens_give Registry what node there fact = tt

-- ---- the start

-- where the tokens' slot of epoch 1 is managed, as it is at the start
pub entered_starts : (logs : Bool) (k : Cluster) (part : ℕ) (nodes : List AnyNode) (sent : List Packet) (acts : List Act) (t : tokens.Scene)
    → tokens.Stands logs k part nodes sent acts RegistrySound t → (y : SlotState) → t.net.slots 1 ≡ Some y → (first : ℕ → ℕ → Segment)
    → Entered k part t (opening first)
entered_starts logs k part nodes sent acts t st y managed_there first =
    put_each (λ e o. (z : SlotState) → o ≡ Some z → (e ≤ tokens.epoch_now k part t) × tokens.PastAt k part (t.manager (t.lord e)).phase (t.since e) e)
    (λ e. None) 1 ((opening first).slots 1) (λ z premise. let was = st.entered 1 y managed_there in (
      was.0,
      was.3,
    )) (λ e other z premise. absurd (some_none z (sym premise)))
