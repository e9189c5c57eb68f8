-- What a packet that was sent owes to the node that gets it.
use Rattle.std.proofs.Common.{◌≡◌, ⊎_elim, ℕ, ◌≤◌, ◌<◌, Bool, true, false, List, None, Some, refl, subst, ◌∙◌, arith, get_or}
use Rattle.std.specs.Prelude.{All}
use Rattle.manager_node.specs.declared.phase.Phase.{Phase as ManagerPhase}
use Rattle.manager_node.specs.declared.phase.Phase.TheVariants.{Down, Waiting, Serving as Serves}
use Rattle.manager_slots.specs.declared.lasting.Lasting.{Lasting as Kept}
use Rattle.manager_slots.specs.declared.slot_phase.SlotPhase.{SlotPhase}
use Rattle.manager_slots.specs.declared.slot_phase.SlotPhase.TheVariants as phase
use Rattle.manager_slots.specs.Takeovers.{report_input}
use Rattle.manager_serving.specs.declared.serving.Serving.{Serving}
use Rattle.node_slots.specs.node_tie.CleanerEvents.{CleanerGets, NewsLow}
use Rattle.node_slots.specs.node_tie.ClientEvents.{ClientGets, GetsBody, NewsWithin, ReadsSo}
use Rattle.node_slots.specs.node_tie.ManagerEvents.{AbsentGets, AllNewsGets, DeltasGets, FoundGets, GaveGets, LastReportGets, ManagerGets, ReportGets, ServingGets, TakeoverGets, WaitingGets, WantGets, epoch_in}
use Rattle.headline.specs.Managers.{slot_in}
use Rattle.node_slots.specs.node_tie.Sight.{ForwardSeen, GrantSeen, PollSeen, RecallSeen, SupplySeen}
use Rattle.takeover.specs.declared.input.In.{In as Input}
use Rattle.token_manager.specs.SlotState.{SlotState}
use Rattle.token_protocol.specs.Basics.{In}
use Rattle.token_protocol.specs.Premises.{Premise}
use Rattle.wire_msg.specs.declared.body.Body.{Body}
use Rattle.wire_msg.specs.declared.body.Body.TheVariants as body
use Rattle.wire_msg.specs.declared.deltas.Deltas.{Deltas}
use Rattle.wire_msg.specs.declared.deltas.Poll.{Poll}
use Rattle.wire_msg.specs.declared.deltas.Report.{Report}
use Rattle.wire_msg.specs.declared.packet.Packet.{Packet}
use Rattle.wire_msg.specs.declared.registry.News.{News}
use Rattle.wire_msg.specs.declared.registry.Welcome.{Welcome}
use Rattle.wire_msg.specs.declared.storage.Found.{Found}
use Rattle.wire_msg.specs.declared.storage.Missing.{Missing}
use Rattle.wire_msg.specs.declared.tokens.Forward.{Forward}
use Rattle.wire_msg.specs.declared.tokens.Gave.{Gave}
use Rattle.wire_msg.specs.declared.tokens.Grant.{Grant}
use Rattle.wire_msg.specs.declared.tokens.Recall.{Recall}
use Rattle.wire_msg.specs.declared.tokens.Supply.{Supply}
use Rattle.wire_msg.specs.declared.tokens.Want.{Want}
use Rattle.world_base.specs.declared.cluster.Cluster.{Cluster}
use Rattle.run_laws.proofs.world_law.Sent.{in_get}
use Rattle.run_laws.specs.world_law.Standing.{AllTold, Fact, ManagerSees, NewsTold, PastAt, Scene, SentBy, Welcomed, epoch_now, members}
use Rattle.run_laws.specs.world_law.Owes.{ServingTold, SlotTold}
use Rattle.xfs_base.specs.declared.news.SlotNews.{SlotNews}
use Rattle.xfs_base.specs.declared.node.NodeId.{NodeId}
use Rattle.xfs_base.specs.declared.node.NodeId.TheVariants.{Client, Manager, Server, Cleaner, Registry}

pub all_in : {X : Type 0} (K : X → Type 0) (xs : List X) → ((x : X) → In x xs → K x) → All K xs
all_in K xs each = λ i d less. each (get_or xs i d) (in_get xs i d less)

module _ (k : Cluster) (part : ℕ) (s : Scene) where
  -- ---- who may have sent it

  pub grant_told : (from to : NodeId) (m : Grant) → SentBy k part s from to (body.Grant m) → GrantSeen part s.net.sent to m
  grant_told (Client c) to m h = absurd h.2
  grant_told (Manager j) to m h = h.2
  grant_told (Server n) to m h = absurd h
  grant_told Cleaner to m h = absurd h
  grant_told Registry to m h = absurd h

  pub forward_told : (from to : NodeId) (m : Forward) → SentBy k part s from to (body.Forward m) → ForwardSeen part s.net.sent to m
  forward_told (Client c) to m h = absurd h.2
  forward_told (Manager j) to m h = h.2
  forward_told (Server n) to m h = absurd h
  forward_told Cleaner to m h = absurd h
  forward_told Registry to m h = absurd h

  recall_told : (from to : NodeId) (m : Recall) → SentBy k part s from to (body.Recall m) → RecallSeen part s.net.sent to m
  recall_told (Client c) to m h = absurd h.2
  recall_told (Manager j) to m h = h.2
  recall_told (Server n) to m h = absurd h
  recall_told Cleaner to m h = absurd h
  recall_told Registry to m h = absurd h

  pub supply_told : (from to : NodeId) (m : Supply) → SentBy k part s from to (body.Supply m) → SupplySeen part s.net.sent to m
  supply_told (Client c) to m h = h.2
  supply_told (Manager j) to m h = absurd h.2
  supply_told (Server n) to m h = absurd h
  supply_told Cleaner to m h = absurd h
  supply_told Registry to m h = absurd h

  poll_told : (from to : NodeId) (m : Poll) → SentBy k part s from to (body.Poll m) → PollSeen part s.net.sent (epoch_now k part s) m
  poll_told (Client c) to m h = absurd h.2
  poll_told (Manager j) to m h = h.2
  poll_told (Server n) to m h = absurd h
  poll_told Cleaner to m h = absurd h
  poll_told Registry to m h = absurd h

  pub news_told : (from to : NodeId) (m : News) → SentBy k part s from to (body.MapNews m) → AllTold k part s m.slots
  news_told (Client c) to m h = absurd h.2
  news_told (Manager j) to m h = absurd h.2
  news_told (Server n) to m h = absurd h
  news_told Cleaner to m h = absurd h
  news_told Registry to m h = h

  pub welcome_told : (from to : NodeId) (m : Welcome) → SentBy k part s from to (body.Welcome m) → AllTold k part s m.news.slots × Welcomed k part s to m
  welcome_told (Client c) to m h = absurd h.2
  welcome_told (Manager j) to m h = absurd h.2
  welcome_told (Server n) to m h = absurd h
  welcome_told Cleaner to m h = absurd h
  welcome_told Registry to m h = h

  -- ---- a client

  news_within : (c : ℕ) (slots : List SlotNews) → AllTold k part s slots → NewsWithin part (epoch_now k part s) c s.net slots
  news_within c slots all = all_in (λ news. news.slot ≡ part → news.epoch ≤ epoch_now k part s) slots (λ news premise same. (all.each news premise same).within)

  news_low : (slots : List SlotNews) → AllTold k part s slots → NewsLow part s.net.promised (epoch_now k part s) slots
  news_low slots all = all_in (λ news. news.slot ≡ part → news.epoch ≤ epoch_now k part s) slots (λ news premise same. (all.each news premise same).within)

  client_body : (c : ℕ) (from to : NodeId) (m : Body) → SentBy k part s from to m → to ≡ Client c
      → GetsBody part (epoch_now k part s) c s.net (s.client c).phase m
  client_body c from to (body.Grant m) h same = subst (λ x. GrantSeen part s.net.sent x m) same (grant_told from to m h)
  client_body c from to (body.Forward m) h same = subst (λ x. ForwardSeen part s.net.sent x m) same (forward_told from to m h)
  client_body c from to (body.Supply m) h same = subst (λ x. SupplySeen part s.net.sent x m) same (supply_told from to m h)
  client_body c from to (body.Recall m) h same = subst (λ x. RecallSeen part s.net.sent x m) same (recall_told from to m h)
  client_body c from to (body.Poll m) h same = poll_told from to m h
  client_body c from to (body.Welcome m) h same =
      (let w = welcome_told from to m h in (news_within c m.news.slots w.0, (subst (λ x. Welcomed k part s x m) same w.1).rises))
  client_body c from to (body.MapNews m) h same = news_within c m.slots (news_told from to m h)
  client_body c from to _ h same = tt

  pub client_gets : (logs : Bool) (c : ℕ) (q : Packet) → Fact k part s q → q.to ≡ Client c
      → Premise logs (ReadsSo part (epoch_now k part s) c s.net (s.client c).phase q)
      → ClientGets logs part (epoch_now k part s) c s.net (s.client c).phase q
  client_gets logs c q fact same told = record { brings = client_body c q.from q.to q.body fact same; reads = told }

  -- ---- the cleaner

  cleaner_body : (from to : NodeId) (m : Body) → SentBy k part s from to m → to ≡ Cleaner
      → CleanerGets part s.net.promised (epoch_now k part s) s.cleaner.phase m
  cleaner_body from to (body.Poll m) h same = poll_told from to m h
  cleaner_body from to (body.MapNews m) h same = news_low m.slots (news_told from to m h)
  cleaner_body from to (body.Welcome m) h same =
      (let w = welcome_told from to m h in (news_low m.news.slots w.0, (subst (λ x. Welcomed k part s x m) same w.1).rises))
  cleaner_body from to _ h same = tt

  pub cleaner_gets : (q : Packet) → Fact k part s q → q.to ≡ Cleaner → CleanerGets part s.net.promised (epoch_now k part s) s.cleaner.phase q.body
  cleaner_gets q fact same = cleaner_body q.from q.to q.body fact same

  -- ---- a manager

  free : (e : ℕ) → ((z : SlotState) → s.net.slots e ≡ Some z → ⊥) → s.net.slots e ≡ None
  free e nobody = elim (s.net.slots e) as (λ o. s.net.slots e ≡ o
      → s.net.slots e ≡ None) [ None ↦ λ premise. premise | Some z ↦ λ premise. absurd (nobody z premise) ] refl

  want_gets : (from to : NodeId) (m : Want) → SentBy k part s from to (body.Want m) → WantGets part s.net from m
  want_gets (Client c) to m h = h.2
  want_gets (Manager c) to m h = tt
  want_gets (Server c) to m h = tt
  want_gets Cleaner to m h = tt
  want_gets Registry to m h = tt

  gave_gets : (from to : NodeId) (m : Gave) → SentBy k part s from to (body.Gave m) → GaveGets part s.net from m
  gave_gets (Client c) to m h = h.2
  gave_gets (Manager c) to m h = tt
  gave_gets (Server c) to m h = tt
  gave_gets Cleaner to m h = tt
  gave_gets Registry to m h = tt

  report_gets : (from to : NodeId) (m : Report) → SentBy k part s from to (body.Report m) → ReportGets part s.net (members k part) from m
  report_gets (Client c) to m h = h
  report_gets (Manager c) to m h = tt
  report_gets (Server c) to m h = tt
  report_gets Cleaner to m h = h
  report_gets Registry to m h = tt

  -- where logs may lose what they held, nothing is owed of what they tell
  deltas_gets : (logs : Bool) (p : SlotPhase) (from : NodeId) (m : Deltas) → Premise logs (DeltasGets true (members k part) part s.net p from m)
      → DeltasGets logs (members k part) part s.net p from m
  deltas_gets true p from m told = told
  deltas_gets false p (Client c) m told = λ of. tt
  deltas_gets false p (Manager c) m told = tt
  deltas_gets false p (Server c) m told = tt
  deltas_gets false p Cleaner m told = λ of. tt
  deltas_gets false p Registry m told = tt

  takeover_gets : (p : SlotPhase) (given : Input) → TakeoverGets false (members k part) part s.net p given
  takeover_gets (phase.Taking t) given = tt
  takeover_gets (phase.Active a) given = tt
  takeover_gets (phase.Away epoch) given = tt
  takeover_gets (phase.Broken epoch seg) given = tt

  last_gets : (logs : Bool) (p : SlotPhase) (from : NodeId) (m : Report) → Premise logs (LastReportGets true (members k part) part s.net p from m)
      → LastReportGets logs (members k part) part s.net p from m
  last_gets true p from m told = told
  last_gets false p from m told = λ of same. takeover_gets p (report_input from m)

  found_gets : (logs : Bool) (p : SlotPhase) (from : NodeId) (m : Found) → Premise logs (FoundGets true (members k part) part s.net p from m)
      → FoundGets logs (members k part) part s.net p from m
  found_gets true p from m told = told
  found_gets false p (Client c) m told = tt
  found_gets false p (Manager c) m told = tt
  found_gets false p (Server v) m told = λ own premise. takeover_gets p _
  found_gets false p Cleaner m told = tt
  found_gets false p Registry m told = tt

  absent_gets : (logs : Bool) (p : SlotPhase) (from : NodeId) (m : Missing) → Premise logs (AbsentGets true (members k part) part s.net p from m)
      → AbsentGets logs (members k part) part s.net p from m
  absent_gets true p from m told = told
  absent_gets false p (Client c) m told = tt
  absent_gets false p (Manager c) m told = tt
  absent_gets false p (Server v) m told = λ own premise. takeover_gets p _
  absent_gets false p Cleaner m told = tt
  absent_gets false p Registry m told = tt

  -- what was entered, its slot's lord was in that life
  abbrev pub Entered : Type 0
  Entered = (e : ℕ) (z : SlotState) → s.net.slots e ≡ Some z
      → (e ≤ epoch_now k part s) × (0 < s.lord e) × (s.lord e ≤ k.managers) × PastAt k part (s.manager (s.lord e)).phase (s.since e) e × (e ≤ s.net.promised)

  module _ (entered : Entered) (j : ℕ) where
    -- nobody has entered an epoch that is new to the manager that it is given to
    serving_news : (v : Serving) → (s.manager j).phase ≡ Serves v → ManagerSees k part s j (Serves v) → (slots : List SlotNews) → AllTold k part s slots
        → AllNewsGets part (epoch_now k part s) j s.net (epoch_in part (Serves v)) slots
    serving_news v premise sees slots all news among same = (let told = all.each news among same in record {
      within = told.within;
      new = λ mine less. free news.epoch (λ z there. clash told mine less (entered news.epoch z there).3);
    })
      where
        clash : NewsTold k part s news → news.manager ≡ j → epoch_in part (Serves v) < news.epoch
            → PastAt k part (s.manager (s.lord news.epoch)).phase (s.since news.epoch) news.epoch → ⊥
        clash told mine less past =
            let lord : s.lord news.epoch ≡ j = told.given ∙ mine in
            ⊎_elim (λ before. let fresh = sees.fresh refl news.epoch less told.within lord in absurd (omega arith))
            (λ in_life. let been = in_life.1 in absurd (omega arith))
            (subst (λ p. PastAt k part p (s.since news.epoch) news.epoch) premise
            (subst (λ x. PastAt k part (s.manager x).phase (s.since news.epoch) news.epoch) lord past))

    waiting_news : (kept : Kept) (hello : ℕ) → (s.manager j).phase ≡ Waiting kept hello → (m : Welcome) → m.inc ≡ kept.inc → AllTold k part s m.news.slots
        → Welcomed k part s (Manager j) m
        → AllNewsGets part (epoch_now k part s) j s.net 0 m.news.slots
    waiting_news kept hello premise m life all welcomed news among same = (let told = all.each news among same in record {
      within = told.within;
      new = λ mine less. free news.epoch (λ z there. clash told mine (entered news.epoch z there).3);
    })
      where
        clash : NewsTold k part s news → news.manager ≡ j → PastAt k part (s.manager (s.lord news.epoch)).phase (s.since news.epoch) news.epoch → ⊥
        clash told mine past =
            let lord : s.lord news.epoch ≡ j = told.given ∙ mine in
            let own = welcomed.own news among same mine in
            ⊎_elim (λ before. absurd (omega arith)) (λ in_life. in_life.1)
            (subst (λ p. PastAt k part p (s.since news.epoch) news.epoch) premise
            (subst (λ x. PastAt k part (s.manager x).phase (s.since news.epoch) news.epoch) lord past))

    serving_body : (logs : Bool) (v : Serving) → (s.manager j).phase ≡ Serves v → ManagerSees k part s j (Serves v) → (from to : NodeId) (m : Body)
        → SentBy k part s from to m
        → Premise logs (SlotTold (members k part) part s.net (slot_in part (Serves v)) from m)
        → ServingGets logs part (epoch_now k part s) j s.net (members k part) v.lasting.inc (slot_in part (Serves v)) from m
    serving_body logs v premise sees from to (body.Want m) h told = want_gets from to m h
    serving_body logs v premise sees from to (body.Gave m) h told = gave_gets from to m h
    serving_body logs v premise sees from to (body.Deltas m) h told = deltas_gets logs (slot_in part (Serves v)) from m told
    serving_body logs v premise sees from to (body.Report m) h told = (report_gets from to m h, last_gets logs (slot_in part (Serves v)) from m told)
    serving_body logs v premise sees from to (body.Fragment m) h told = found_gets logs (slot_in part (Serves v)) from m told
    serving_body logs v premise sees from to (body.Missing m) h told = absent_gets logs (slot_in part (Serves v)) from m told
    serving_body logs v premise sees from to (body.Welcome m) h told = λ life. serving_news v premise sees m.news.slots (welcome_told from to m h).0
    serving_body logs v premise sees from to (body.MapNews m) h told = serving_news v premise sees m.slots (news_told from to m h)
    serving_body logs v premise sees from to _ h told = tt

    waiting_body : (kept : Kept) (hello : ℕ) → (s.manager j).phase ≡ Waiting kept hello → (from to : NodeId) (m : Body) → SentBy k part s from to m
        → to ≡ Manager j
        → WaitingGets part (epoch_now k part s) j s.net kept.inc m
    waiting_body kept hello premise from to (body.Welcome m) h same =
        λ life. (let w = welcome_told from to m h in let mine : Welcomed k part s (Manager j) m = subst (λ x. Welcomed k part s x m) same w.1 in
        record { newer = mine.version; slots = waiting_news kept hello premise m life w.0 mine })
    waiting_body kept hello premise from to _ h same = tt

    pub manager_gets : (logs : Bool) (p : ManagerPhase) → (s.manager j).phase ≡ p → ManagerSees k part s j p → (q : Packet) → Fact k part s q → q.to ≡ Manager j
        → Premise logs (ServingTold (members k part) part s.net p q) → ManagerGets logs part (epoch_now k part s) j s.net (members k part) p q
    manager_gets logs (Down kept) premise sees q fact same told = tt
    manager_gets logs (Waiting kept hello) premise sees q fact same told = waiting_body kept hello premise q.from q.to q.body fact same
    manager_gets logs (Serves v) premise sees q fact same told = serving_body logs v premise sees q.from q.to q.body fact told
