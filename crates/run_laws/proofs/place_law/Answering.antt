-- In every run each Live that was sent answers a Check that was sent: managers alone send Lives, and each of them answers what was delivered.
use Rattle.std.proofs.Common.{◌≡◌, ◌⊎◌, inl, inr, ℕ, zero, suc, List, [], ◌∷◌, ◌++◌, map, take, refl, sym, subst, ◌∙◌, arith}
use Rattle.std.specs.List.{AllByRecursion, fold}
use Rattle.cleaner_node.specs.CleanerEvents as cleaners
use Rattle.client_node.specs.Phases as clients
use Rattle.core_world.specs.AnyNode.{any_start, any_step}
use Rattle.core_world.specs.declared.any_node.AnyNode.{AnyNode}
use Rattle.core_world.specs.declared.any_node.AnyNode.TheVariants as any
use Rattle.node_base.specs.declared.effects.Effect.{Effect}
use Rattle.node_base.specs.Effects.{packets_of}
use Rattle.registry_node.specs.Events as registries
use Rattle.store_nodes.specs.ServerEvents as servers
use Rattle.token_protocol.specs.Basics.{In}
use Rattle.version_model.specs.declared.act.Act.{Act}
use Rattle.wire_msg.specs.declared.body.Body.{Body}
use Rattle.wire_msg.specs.declared.body.Body.TheVariants as body
use Rattle.wire_msg.specs.declared.cleaning.Live.{Live}
use Rattle.wire_msg.specs.declared.packet.Do.{Do}
use Rattle.wire_msg.specs.declared.packet.Do.TheVariants.{Begin, Deliver, Tick}
use Rattle.wire_msg.specs.declared.packet.Packet.{Packet}
use Rattle.world_base.specs.Cluster.{cluster_of}
use Rattle.world_base.specs.declared.cluster.Cluster.{Cluster}
use Rattle.world_base.specs.declared.event.Event.{Event}
use Rattle.world_base.specs.declared.event.Event.TheVariants as events
use Rattle.world_base.specs.declared.world.World.{World}
use Rattle.world_base.specs.Events.{what_of}
use Rattle.world_base.specs.NextWorld.{next_world, sent_at, start_world}
use Rattle.world_base.specs.Runs.{Leads, MayHappen}
use Rattle.run_laws.proofs.world_law.Laws as tokens
use Rattle.run_laws.proofs.world_law.Sent.{in_append, sends, was_sent}
use Rattle.run_laws.specs.world_law.Standing.{Fact, Scene, SentBy}
use Rattle.run_laws.proofs.world_law.Turning.{next_cluster, next_keeps}
use Rattle.xfs_base.specs.declared.node.NodeId.{NodeId}
use Rattle.xfs_base.specs.declared.node.NodeId.TheVariants.{Client, Manager, Server, Cleaner, Registry}
use Rattle.run_laws.specs.place_law.Answers.{AnswersBody, AnswersDo, IfLive, ManagersAnswer, RunsAnswer}
use Rattle.run_laws.specs.place_law.Copies.{LiveAnswers, LivesAnswer}

in_before : {X : Type 0} (xs ys : List X) (x : X) → In x xs → In x (xs ++ ys)
in_before [] ys x premise = absurd premise
in_before (y ∷ xs) ys x (inl premise) = inl premise
in_before (y ∷ xs) ys x (inr later) = inr (in_before xs ys x later)

-- ---- what is delivered was sent

module _ (sent : List Packet) where
  answers_more : (more : List Packet) → ((p : Packet) → In p sent → In p more) → (m : Live) → LiveAnswers sent m → LiveAnswers more m
  answers_more more kept m a = record {
    place = a.place;
    lies = a.lies;
    asked = record { packet = a.asked.packet; among = kept a.asked.packet a.asked.among; bears = a.asked.bears };
  }

  body_answers : (packet : Packet) → In packet sent → (m : Live) (b : Body) → packet.body ≡ b → AnswersBody b m → LiveAnswers sent m
  body_answers packet among m (body.Check c) premise a = record {
    place = c.place;
    lies = a.place;
    asked = record {
      packet = packet;
      among = among;
      bears = premise ∙ (λ i. body.Check (record { block = a.block i; place = c.place; ask = a.ask i }));
    };
  }
  body_answers packet among m _ premise a = absurd a

  abbrev WasDelivered : Do → Type 0
  WasDelivered Begin = Unit {0}
  WasDelivered (Deliver packet) = In packet sent
  WasDelivered Tick = Unit {0}

  do_answers : (what : Do) → WasDelivered what → (m : Live) → AnswersDo what m → LiveAnswers sent m
  do_answers Begin was m a = absurd a
  do_answers (Deliver packet) was m a = body_answers packet was m packet.body refl a
  do_answers Tick was m a = absurd a

-- ---- who sends Lives

-- another than a manager
abbrev IsNoManager : NodeId → Type 0
IsNoManager (Client c) = Unit {0}
IsNoManager (Manager j) = ⊥
IsNoManager (Server v) = Unit {0}
IsNoManager Cleaner = Unit {0}
IsNoManager Registry = Unit {0}

module _ (k : Cluster) (part : ℕ) (s : Scene) (m : Live) where
  no_live : (from to : NodeId) (b : Body) → b ≡ body.Live m → IsNoManager from → SentBy k part s from to b → ⊥
  no_live from to b premise no_manager h = at from no_manager (subst (SentBy k part s from to) premise h)
    where
      at : (from : NodeId) → IsNoManager from → SentBy k part s from to (body.Live m) → ⊥
      at (Client c) other fact = fact.2
      at (Manager j) other fact = other
      at (Server v) other fact = fact
      at Cleaner other fact = fact
      at Registry other fact = fact

  -- what such a node sends is no Live
  none_sent : (node : NodeId) → IsNoManager node → (clock : ℕ) (outs : List Effect) (q : Packet) → In q (map (sent_at clock) (packets_of node outs))
      → q.body ≡ body.Live m → Fact k part s q → ⊥
  none_sent node other clock outs q premise live fact =
      let from : q.from ≡ node = sends node clock (λ e. Unit {0}) (λ (p : Packet). p.from ≡ node) (λ to said d. refl) outs (λ i d less. tt) q premise in
      no_live q.from q.to q.body live (subst IsNoManager (sym from) other) fact

-- what is known of packets is known of them with the clock
clocked : (A : Live → Type 0) (clock : ℕ) (ps : List Packet) → AllByRecursion (λ (p : Packet). IfLive A p.body) ps → (q : Packet)
    → In q (map (sent_at clock) ps)
    → IfLive A q.body
clocked A clock [] all q premise = absurd premise
clocked A clock (p ∷ ps) all q (inl premise) = subst (λ (x : Packet). IfLive A x.body) (sym premise) all.0
clocked A clock (p ∷ ps) all q (inr later) = clocked A clock ps all.1 q later

-- ---- an event

module _ (manager : ManagersAnswer) (k : Cluster) (s : Scene) (sent : List Packet) where
  -- the packets of a node's step
  fresh : (x : AnyNode) (what : Do) → WasDelivered sent what → (clock : ℕ) (q : Packet) (m : Live) → In q (map (sent_at clock) (any_step x what).packets)
      → q.body ≡ body.Live m → Fact k 0 s q → LiveAnswers sent m
  fresh (any.Manager node) what was clock q m premise live fact =
      do_answers sent what was m (subst (IfLive (AnswersDo what)) live (clocked (AnswersDo what) clock _ (manager node what) q premise))
  fresh (any.Client node) what was clock q m premise live fact =
      absurd (none_sent k 0 s m (Client (clients.lasting_of node.phase).number) tt clock (clients.takes node what).outs q premise live fact)
  fresh (any.Server node) what was clock q m premise live fact =
      absurd (none_sent k 0 s m (Server node.number) tt clock (servers.takes node what).outs q premise live fact)
  fresh (any.Cleaner node) what was clock q m premise live fact =
      absurd (none_sent k 0 s m Cleaner tt clock (cleaners.takes node.peers node.phase what).outs q premise live fact)
  fresh (any.Registry node) what was clock q m premise live fact =
      absurd (none_sent k 0 s m Registry tt clock (registries.takes node what).outs q premise live fact)

  -- where each packet of then is a fact, each Live of then answers
  abbrev Kept : List AnyNode → List Packet → List Act → Type 0
  Kept nodes then_sent acts = ((q : Packet) → In q then_sent → Fact k 0 s q) → LivesAnswer then_sent

  step_keeps : LivesAnswer sent → (x : AnyNode) (what : Do) → WasDelivered sent what → (clock : ℕ)
      → ((q : Packet) → In q (sent ++ map (sent_at clock) (any_step x what).packets) → Fact k 0 s q)
      → LivesAnswer (sent ++ map (sent_at clock) (any_step x what).packets)
  step_keeps old x what was clock facts p m among premise =
      answers_more sent new (in_before sent (map (sent_at clock) (any_step x what).packets)) m (by (in_append sent _ p among))
    where
      new : List Packet
      new = sent ++ map (sent_at clock) (any_step x what).packets

      by : In p sent ⊎ In p (map (sent_at clock) (any_step x what).packets) → LiveAnswers sent m
      by (inl before) = old p m before premise
      by (inr now) = fresh x what was clock p m now premise (facts p among)

module _ (manager : ManagersAnswer) (laws : tokens.NodeLaws) (k : Cluster) where
  delivered : (w : World AnyNode) (event : Event) → MayHappen w event → WasDelivered w.sent (what_of event)
  delivered w (events.Begin node) may = tt
  delivered w (events.Deliver packet) may = was_sent w.sent packet may
  delivered w (events.Tick node) may = tt

  abbrev GoodWorld : World AnyNode → Type 0
  GoodWorld w = tokens.GoodWorld laws k 0 (omega arith) w

  event_answers : (w : World AnyNode) (event : Event) → MayHappen w event → GoodWorld (next_world any_step w event) → LivesAnswer w.sent
      → LivesAnswer (next_world any_step w event).sent
  event_answers w event may good old =
      next_keeps any_step (Kept manager k good.0 w.sent) w event (λ facts. old)
      (λ place x clock at premise facts. step_keeps manager k good.0 w.sent old x (what_of event) (delivered w event may) clock facts)
      good.1.facts

  front_answers : (events_ : List Event) (count : ℕ) (w end : World AnyNode) → w.cluster ≡ k → Leads any_step w events_ end → GoodWorld w
      → LivesAnswer w.sent → LivesAnswer (fold (next_world any_step) w (take count events_)).sent
  front_answers [] zero w end cluster leads good old = old
  front_answers [] (suc count) w end cluster leads good old = old
  front_answers (event ∷ more) zero w end cluster leads good old = old
  front_answers (event ∷ more) (suc count) w end cluster leads good old =
      let next : World AnyNode = next_world any_step w event in
      let next_good : GoodWorld next = tokens.event_keeps laws k 0 (omega arith) w cluster event leads.0 good in
      front_answers more count next end (next_cluster any_step w event ∙ cluster) leads.1 next_good (event_answers w event leads.0 next_good old)

pub runs_answer : ManagersAnswer → tokens.NodeLaws → RunsAnswer
unfolding start_world
runs_answer manager laws e count setup run =
    front_answers manager laws (cluster_of e.script.setup) e.events count (start_world any_start e.script) e.world refl run
    (tokens.front laws e setup run 0 0 (omega arith)).1 (λ p m among premise. absurd among)
