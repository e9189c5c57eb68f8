-- Who sends what: a client or a manager sends nothing that a server answers, nor maps, nor Deletes; the registry alone sends maps; managers alone tell where a
-- block lies, but in Deltas.
use Rattle.std.proofs.Common.{◌≡◌, ℕ, ◌==◌, true, sym, ap, ◌∙◌}
use Rattle.std.specs.Prelude.{List}
use Rattle.std.proofs.lemmas.Bool.{eqb-true}
use Rattle.node_logs.specs.client_log_tie.Owner.{Scene}
use Rattle.log_tie.specs.Setting.{Setting}
use Rattle.node_logs.specs.node_log_tie.Sight.{BodySeen, ReachedBy}
use Rattle.node_slots.specs.node_tie.Sight.{ClientSends, CleanerSends, ManagerSends, ServerSends}
use Rattle.token_law.specs.Net.{Packet as Told}
use Rattle.wire_msg.specs.declared.body.Body.{Body}
use Rattle.wire_msg.specs.declared.body.Body.TheVariants as body
use Rattle.wire_msg.specs.declared.packet.Packet.{Packet}
use Rattle.world_base.specs.declared.cluster.Cluster.{Cluster}
use Rattle.run_laws.specs.world_law.Standing as tokens
use Rattle.run_laws.specs.world_logs.Roles.{asker_by}
use Rattle.run_laws.proofs.world_logs.OwnLogs.{IsOf}
use Rattle.headline.specs.Logs.{Role, log_by, owner_by}
use Rattle.xfs_base.specs.declared.node.NodeId.{NodeId}
use Rattle.xfs_base.specs.declared.node.NodeId.TheVariants.{Client, Manager, Server, Cleaner, Registry}
use Rattle.xfs_base.specs.declared.segment.LogId.{LogId}

-- nothing that a server answers, nor a map, nor a Delete
abbrev pub Plain : Body → Type 0
Plain (body.Stored m) = ⊥
Plain (body.Fragment m) = ⊥
Plain (body.Fenced m) = ⊥
Plain (body.Listed m) = ⊥
Plain (body.Delete m) = ⊥
Plain (body.Welcome m) = ⊥
Plain (body.MapNews m) = ⊥
Plain _ = Unit {0}

-- nor what a manager tells of where a block lies
abbrev pub TellsNone : Body → Type 0
TellsNone (body.Grant m) = ⊥
TellsNone (body.Live m) = ⊥
TellsNone _ = Unit {0}

-- what is no server's
abbrev pub SaidByServer : Body → Type 0
SaidByServer (body.Store m) = ⊥
SaidByServer (body.Deltas m) = ⊥
SaidByServer (body.Grant m) = ⊥
SaidByServer (body.Live m) = ⊥
SaidByServer (body.Welcome m) = ⊥
SaidByServer (body.MapNews m) = ⊥
SaidByServer _ = Unit {0}

-- what is not the cleaner's
abbrev pub SaidByCleaner : Body → Type 0
SaidByCleaner (body.Fragment m) = ⊥
SaidByCleaner (body.Listed m) = ⊥
SaidByCleaner (body.Grant m) = ⊥
SaidByCleaner (body.Live m) = ⊥
SaidByCleaner (body.Welcome m) = ⊥
SaidByCleaner (body.MapNews m) = ⊥
SaidByCleaner _ = Unit {0}

abbrev pub MaySay : NodeId → Body → Type 0
MaySay (Client d) m = Plain m × TellsNone m
MaySay (Manager j) m = Plain m
MaySay (Server v) m = SaidByServer m
MaySay Cleaner m = SaidByCleaner m
MaySay Registry m = Unit {0}

-- ---- read off the world of tokens

module _ (part : ℕ) (sent : List Told) where
  client_may : (c life : ℕ) (to : NodeId) (m : Body) → ClientSends part sent c life to m → Plain m
  client_may c life to (body.Stored m) h = h
  client_may c life to (body.Fragment m) h = h
  client_may c life to (body.Fenced m) h = h
  client_may c life to (body.Listed m) h = h
  client_may c life to (body.Delete m) h = h
  client_may c life to (body.Welcome m) h = h
  client_may c life to (body.MapNews m) h = h
  client_may c life to _ h = tt

  client_tells : (c life : ℕ) (to : NodeId) (m : Body) → ClientSends part sent c life to m → TellsNone m
  client_tells c life to (body.Grant m) h = h
  client_tells c life to (body.Live m) h = h
  client_tells c life to _ h = tt

  manager_may : (limit life : ℕ) (to : NodeId) (m : Body) → ManagerSends part sent limit life to m → Plain m
  manager_may limit life to (body.Stored m) h = h
  manager_may limit life to (body.Fragment m) h = h
  manager_may limit life to (body.Fenced m) h = h
  manager_may limit life to (body.Listed m) h = h
  manager_may limit life to (body.Delete m) h = h
  manager_may limit life to (body.Welcome m) h = h
  manager_may limit life to (body.MapNews m) h = h
  manager_may limit life to _ h = tt

server_may : (m : Body) → ServerSends m → SaidByServer m
server_may (body.Store m) h = h
server_may (body.Deltas m) h = h
server_may (body.Grant m) h = h
server_may (body.Live m) h = h
server_may (body.Welcome m) h = h
server_may (body.MapNews m) h = h
server_may _ h = tt

cleaner_may : (part promised life : ℕ) (m : Body) → CleanerSends part promised life m → SaidByCleaner m
cleaner_may part promised life (body.Fragment m) h = h
cleaner_may part promised life (body.Listed m) h = h
cleaner_may part promised life (body.Grant m) h = h
cleaner_may part promised life (body.Live m) h = h
cleaner_may part promised life (body.Welcome m) h = h
cleaner_may part promised life (body.MapNews m) h = h
cleaner_may part promised life _ h = tt

said_by : (k : Cluster) (part : ℕ) (s : tokens.Scene) (from to : NodeId) (m : Body) → tokens.SentBy k part s from to m → MaySay from m
said_by k part s (Client c) to m h = (
  client_may part s.net.sent c (tokens.life_of_client s c) to m h.2,
  client_tells part s.net.sent c (tokens.life_of_client s c) to m h.2,
)
said_by k part s (Manager j) to m h = manager_may part s.net.sent (tokens.epoch_now k part s) (tokens.life_of_manager s j) to m h.2
said_by k part s (Server n) to m h = server_may m h
said_by k part s Cleaner to m h = cleaner_may part s.net.promised (tokens.life_of_cleaner s) m h
said_by k part s Registry to m h = tt

pub may_say : (k : Cluster) (part : ℕ) (s : tokens.Scene) (p : Packet) → tokens.Fact k part s p → MaySay p.from p.body
may_say k part s p h = said_by k part s p.from p.to p.body h

-- ---- what follows for a log of another owner

-- what it stores and bars is of the log of this number
abbrev pub OfLog : ℕ → Body → Type 0
OfLog d (body.Store m) = m.fragment.meta.name.log.0 ≡ d
OfLog d (body.Fence m) = m.log.0 ≡ d
OfLog d _ = Unit {0}

module _ (g : Setting) (r : Role) (fact : IsOf g r) (w : Scene) where
  -- a number that is tested to be the log's is the owner's
  of_owner : (n : ℕ) → (n == g.log.0) ≡ true → n ≡ log_by r
  of_owner n t = eqb-true n g.log.0 t ∙ ap (λ (l : LogId). l.0) fact.0

  -- what the owner of another log sends
  module _ (d : ℕ) (other : d ≡ log_by r → ⊥) (from : NodeId) (away : from ≡ owner_by r → ⊥)
      (reached : (generation : ℕ) → ReachedBy g (asker_by r w) w.net from generation) where
    pub sent_apart : (to : NodeId) (m : Body) → Plain m → OfLog d m → BodySeen g (asker_by r w) w.net from to m
    sent_apart (Server v) (body.Store m) plain own = λ mine. absurd (other (sym own ∙ of_owner m.fragment.meta.name.log.0 mine))
    sent_apart (Client x) (body.Store m) plain own = tt
    sent_apart (Manager x) (body.Store m) plain own = tt
    sent_apart Cleaner (body.Store m) plain own = tt
    sent_apart Registry (body.Store m) plain own = tt
    sent_apart (Server v) (body.Fence m) plain own = λ mine. absurd (other (sym own ∙ of_owner m.log.0 mine))
    sent_apart (Client x) (body.Fence m) plain own = tt
    sent_apart (Manager x) (body.Fence m) plain own = tt
    sent_apart Cleaner (body.Fence m) plain own = tt
    sent_apart Registry (body.Fence m) plain own = tt
    sent_apart to (body.Stored m) plain own = absurd plain
    sent_apart to (body.Fragment m) plain own = absurd plain
    sent_apart to (body.Fenced m) plain own = absurd plain
    sent_apart to (body.Listed m) plain own = absurd plain
    sent_apart to (body.Delete m) plain own = absurd plain
    sent_apart to (body.Welcome m) plain own = absurd plain
    sent_apart to (body.MapNews m) plain own = absurd plain
    sent_apart to (body.Hello m) plain own = record { own = λ e. absurd (away e); reached = reached m.inc }
    sent_apart to _ plain own = tt
