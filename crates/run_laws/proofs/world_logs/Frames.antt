-- What the small world of a log does elsewhere leaves a node of it seen as it was.
use Rattle.std.proofs.Common.{◌≡◌, ⊎_elim, ℕ, Option, Some, None, refl, sym, ap, subst, ◌∙◌, inl, inr, arith}
use Rattle.client_serving.specs.declared.lasting.Lasting.{Lasting}
use Rattle.node_logs.proofs.cleaner_log_tie.Frames.{stands_later}
use Rattle.node_logs.specs.cleaner_log_tie.Owner.{CleanerAgrees, its_number}
use Rattle.cleaner_node.specs.declared.cleaner.Phase.{Phase as CleanerPhase}
use Rattle.cleaner_node.specs.declared.cleaner.Phase.TheVariants as cleaners
use Rattle.cleaner_job.specs.Starting.{cleaner_log}
use Rattle.node_logs.specs.client_log_tie.Owner.{Scene, ClientAgrees, LastsAs, MapCame, SeesStage}
use Rattle.client_node.specs.declared.phase.Phase.TheVariants as clients
use Rattle.client_node.specs.declared.phase.Phase.{Phase}
use Rattle.group_map.specs.GroupMapState.{GroupMapState}
use Rattle.log_law.specs.Net.{Net}
use Rattle.log_law.specs.Openings.{next_number}
use Rattle.log_owner.specs.declared.known.Known.{Known}
use Rattle.log_owner.specs.declared.opening.Stage as stages
use Rattle.log_owner.specs.declared.opening.Stage.TheVariants as stage
use Rattle.log_protocol.specs.Tables.{In}
use Rattle.log_tie.specs.Setting.{Setting}
use Rattle.node_logs.specs.manager_log_tie.Owner as managing
use Rattle.manager_node.specs.declared.phase.Phase.{Phase as ManagerPhase}
use Rattle.manager_node.specs.declared.phase.Phase.TheVariants as managed
use Rattle.manager_slots.specs.declared.lasting.Lasting as managers
use Rattle.node_logs.proofs.node_log_tie.Emptied.{emptying_later}
use Rattle.node_logs.proofs.node_log_tie.Lists.{if_some}
use Rattle.node_logs.proofs.node_log_tie.RebuildEvents.{rebuild_later}
use Rattle.node_logs.specs.node_log_tie.CleanerEvents.{CleanerSeen}
use Rattle.node_logs.specs.node_log_tie.RegistryEvents.{RegistrySeen}
use Rattle.node_logs.specs.node_log_tie.ServerEvents.{RebuildSeen, ServerSeen}
use Rattle.node_logs.specs.node_log_tie.Sight.{Question}
use Rattle.node_logs.proofs.node_log_tie.Sight.{Later}
use Rattle.registry.specs.BoardState.{BoardState}
use Rattle.store_nodes.specs.declared.server.Rebuilding.{Rebuilding}
use Rattle.store_nodes.specs.declared.server.Server.{Server as ServerNode}
use Rattle.run_laws.specs.world_logs.Standing.{IsRoomy}

-- ---- the owner

module _ (g : Setting) (c : ℕ) (n next : Net) (asked : ℕ → Question) (later : Later n next) (inc : next.inc ≡ n.inc) (owner : next.owner ≡ n.owner) where
  abbrev before : Scene
  before = record { net = n; asked = asked }

  abbrev now : Scene
  now = record { net = next; asked = asked }

  came_still : (o : Option GroupMapState) → MapCame g c before o → MapCame g c now o
  came_still None h = tt
  came_still (Some m) h = later.sent _ h

  lasts_still : (l : Lasting) → LastsAs g c before l → LastsAs g c now l
  lasts_still l h = record { number = h.number; inc = inc ∙ h.inc; fresh = h.fresh }

  stage_still : (k : Known) (last : ℕ) (s : stages.Stage) → SeesStage g c before k last s → SeesStage g c now k last s
  stage_still k last (stage.Scanning s) h = record {
    owner = owner ∙ h.owner;
    log = h.log;
    inc = h.inc ∙ sym inc;
    groups = h.groups;
    came = came_still k.maps.groups h.came;
    asks = h.asks;
    past = h.past;
    some = h.some;
    number = h.number;
  }
  stage_still k last (stage.Settling s) h = record {
    owner = owner ∙ h.owner;
    log = h.log;
    own = h.own;
    clear = h.clear;
    flight = h.flight;
    flies = h.flies;
    empty = h.empty;
    reads = record {
      some = h.reads.some;
      past = (let a = h.reads.past in let b = later.low in omega arith);
      numbers = h.reads.numbers;
      down = h.reads.down;
    };
  }

  pub client_still : (p : Phase) → ClientAgrees g c before p → ClientAgrees g c now p
  client_still (clients.Down l) h = (lasts_still l h.0, owner ∙ h.1)
  client_still (clients.Opening l o) h = (lasts_still l h.0, stage_still o.known l.questions.last o.stage h.1, h.2)
  client_still (clients.Serving s) h = (lasts_still s.lasting h.0, record { owner = owner ∙ h.1.owner; own = h.1.own })

-- ---- the cleaner as the owner of its log

module _ (g : Setting) (fact : g.log ≡ cleaner_log) (n next : Net) (asked : ℕ → Question) (later : Later n next) (inc : next.inc ≡ n.inc)
    (owner : next.owner ≡ n.owner) where
  abbrev mine : Scene
  mine = record { net = n; asked = asked }

  abbrev its : Scene
  its = record { net = next; asked = asked }

  pub cleaner_owner_still : (p : CleanerPhase) → CleanerAgrees g mine p → CleanerAgrees g its p
  cleaner_owner_still (cleaners.Down l) h = (record { number = refl; inc = inc ∙ h.0.inc; fresh = h.0.fresh }, owner ∙ h.1)
  cleaner_owner_still (cleaners.Opening l o) h = record {
    lasts = record { number = refl; inc = inc ∙ h.lasts.inc; fresh = h.lasts.fresh };
    sees = stage_still g its_number n next asked later inc owner o.known l.questions.last o.stage h.sees;
    written = h.written;
    asks = h.asks;
  }
  cleaner_owner_still (cleaners.Serving e) h = stands_later g fact mine next later inc owner e h

-- ---- a manager as the owner of its log

module _ (g : Setting) (j : ℕ) (n next : Net) (asked : ℕ → Question) (inc : next.inc ≡ n.inc) (owner : next.owner ≡ n.owner) where
  abbrev then_was : Scene
  then_was = record { net = n; asked = asked }

  abbrev then_is : Scene
  then_is = record { net = next; asked = asked }

  lasts_so : (kept : managers.Lasting) → managing.Lasts g j then_was kept → managing.Lasts g j then_is kept
  lasts_so kept h = record { number = h.number; small = h.small; asks = h.asks }

  pub manager_still : (p : ManagerPhase) → managing.ManagerAgrees g j then_was p → managing.ManagerAgrees g j then_is p
  manager_still (managed.Down kept) h =
      record { lasts = lasts_so kept h.lasts; inc = (let e = inc in let b = h.inc in omega arith); owner = owner ∙ h.owner }
  manager_still (managed.Waiting kept hello) h =
      record { lasts = lasts_so kept h.lasts; inc = (let e = inc in let b = h.inc in omega arith); owner = owner ∙ h.owner }
  manager_still (managed.Serving s) h = record {
    lasts = lasts_so s.lasting h.lasts;
    inc = inc ∙ h.inc;
    log = record { owner = owner ∙ h.log.owner; own = h.log.own };
    written = h.written;
    writer = h.writer;
    index = h.index;
  }

-- ---- servers, the cleaner, the registry

module _ (g : Setting) (n next : Net) (later : Later n next) where
  pub server_still : (v : ℕ) (node : ServerNode) → next.shelves v ≡ n.shelves v → ServerSeen g n v node → ServerSeen g next v node
  server_still v node shelf h = record {
    number = h.number;
    shelf = shelf ∙ h.shelf;
    maps = h.maps;
    rebuild = if_some (λ (r : Rebuilding). RebuildSeen g n v r.rebuild) (λ (r : Rebuilding). RebuildSeen g next v r.rebuild)
        (λ (r : Rebuilding). rebuild_later g n next later v r.rebuild)
        node.rebuilding h.rebuild;
  }

  pub cleaner_still : (p : CleanerPhase) → CleanerSeen g n p → CleanerSeen g next p
  cleaner_still (cleaners.Down l) h = tt
  cleaner_still (cleaners.Opening l o) h = h
  cleaner_still (cleaners.Serving e) h = emptying_later g n next later e h

  pub registry_still : (b : BoardState) → next.registry ≡ n.registry → next.low ≡ n.low → RegistrySeen g n b → RegistrySeen g next b
  registry_still b registry low h = record {
    map = h.map;
    size = h.size;
    named = h.named;
    known = λ v has. ap (λ (f : ℕ → ℕ). f v) registry ∙ h.known v has;
    low = low ∙ h.low;
    horizons = h.horizons;
  }

-- ---- what was in flight

pub room_still : (n next : Net) → next.owner ≡ n.owner → next.flown ≡ n.flown → IsRoomy n → IsRoomy next
room_still n next owner flown room s among =
    ⊎_elim (λ has. inl has) (λ low. inr (let e = ap next_number owner in omega arith)) (room s (subst (In s) flown among))
