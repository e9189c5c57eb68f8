-- Which nodes send what is about where blocks lie: the cleaner asks, managers answer and write checkpoints, and the registry tells news.
use Rattle.std.proofs.Common.{ℕ}
use Rattle.wire_msg.specs.declared.body.Body.{Body}
use Rattle.wire_msg.specs.declared.body.Body.TheVariants as body
use Rattle.wire_msg.specs.declared.cleaning.Check.{Check}
use Rattle.wire_msg.specs.declared.cleaning.Dead.{Dead}
use Rattle.wire_msg.specs.declared.cleaning.Live.{Live}
use Rattle.wire_msg.specs.declared.packet.Packet.{Packet}
use Rattle.wire_msg.specs.declared.registry.CkptDone.{CkptDone}
use Rattle.wire_msg.specs.declared.registry.News.{News}
use Rattle.wire_msg.specs.declared.registry.Welcome.{Welcome}
use Rattle.world_base.specs.declared.cluster.Cluster.{Cluster}
use Rattle.run_laws.specs.world_law.Standing.{Fact as TokenFact, Scene as TokenScene, SentBy as TokenSentBy}
use Rattle.xfs_base.specs.declared.node.NodeId.{NodeId}
use Rattle.xfs_base.specs.declared.node.NodeId.TheVariants.{Client, Manager, Server, Cleaner, Registry}

abbrev pub IsCleaner : NodeId → Type 0
IsCleaner Cleaner = Unit {0}
IsCleaner _ = ⊥

abbrev pub IsManager : NodeId → Type 0
IsManager (Manager j) = Unit {0}
IsManager _ = ⊥

abbrev pub IsRegistry : NodeId → Type 0
IsRegistry Registry = Unit {0}
IsRegistry _ = ⊥

abbrev pub IsSentBy : NodeId → Body → Type 0
IsSentBy from (body.Check m) = IsCleaner from
IsSentBy from (body.Live m) = IsManager from
IsSentBy from (body.Dead m) = IsManager from
IsSentBy from (body.CkptDone m) = IsManager from
IsSentBy from (body.MapNews m) = IsRegistry from
IsSentBy from (body.Welcome m) = IsRegistry from
IsSentBy from _ = Unit {0}

-- of a packet
abbrev pub IsKind : Packet → Type 0
IsKind p = IsSentBy p.from p.body

-- so it is, as the small world of tokens knows of each packet that was sent
module _ (k : Cluster) (part : ℕ) (t : TokenScene) where
  check_from : (from to : NodeId) (m : Check) → TokenSentBy k part t from to (body.Check m) → IsCleaner from
  check_from (Client c) to m h = absurd h.2
  check_from (Manager j) to m h = absurd h.2
  check_from (Server v) to m h = absurd h
  check_from Cleaner to m h = tt
  check_from Registry to m h = absurd h

  live_from : (from to : NodeId) (m : Live) → TokenSentBy k part t from to (body.Live m) → IsManager from
  live_from (Client c) to m h = absurd h.2
  live_from (Manager j) to m h = tt
  live_from (Server v) to m h = absurd h
  live_from Cleaner to m h = absurd h
  live_from Registry to m h = absurd h

  dead_from : (from to : NodeId) (m : Dead) → TokenSentBy k part t from to (body.Dead m) → IsManager from
  dead_from (Client c) to m h = absurd h.2
  dead_from (Manager j) to m h = tt
  dead_from (Server v) to m h = absurd h
  dead_from Cleaner to m h = absurd h
  dead_from Registry to m h = absurd h

  done_from : (from to : NodeId) (m : CkptDone) → TokenSentBy k part t from to (body.CkptDone m) → IsManager from
  done_from (Client c) to m h = absurd h.2
  done_from (Manager j) to m h = tt
  done_from (Server v) to m h = absurd h
  done_from Cleaner to m h = absurd h
  done_from Registry to m h = absurd h

  news_from : (from to : NodeId) (m : News) → TokenSentBy k part t from to (body.MapNews m) → IsRegistry from
  news_from (Client c) to m h = absurd h.2
  news_from (Manager j) to m h = absurd h.2
  news_from (Server v) to m h = absurd h
  news_from Cleaner to m h = absurd h
  news_from Registry to m h = tt

  welcome_from : (from to : NodeId) (m : Welcome) → TokenSentBy k part t from to (body.Welcome m) → IsRegistry from
  welcome_from (Client c) to m h = absurd h.2
  welcome_from (Manager j) to m h = absurd h.2
  welcome_from (Server v) to m h = absurd h
  welcome_from Cleaner to m h = absurd h
  welcome_from Registry to m h = tt

  kind_of : (from to : NodeId) (m : Body) → TokenSentBy k part t from to m → IsSentBy from m
  kind_of from to (body.Check m) h = check_from from to m h
  kind_of from to (body.Live m) h = live_from from to m h
  kind_of from to (body.Dead m) h = dead_from from to m h
  kind_of from to (body.CkptDone m) h = done_from from to m h
  kind_of from to (body.MapNews m) h = news_from from to m h
  kind_of from to (body.Welcome m) h = welcome_from from to m h
  kind_of from to _ h = tt

  pub kinds_of_tokens : (p : Packet) → TokenFact k part t p → IsKind p
  kinds_of_tokens p h = kind_of p.from p.to p.body h
