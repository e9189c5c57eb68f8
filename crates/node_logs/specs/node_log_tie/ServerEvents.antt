-- What an event makes of a storage server, as the small world of one log sees it.
use Rattle.std.specs.Prelude.{◌≡◌, ◌<◌, ℕ, true, List, [], Some, IfSome, length}
use Rattle.std.specs.List.{AllByRecursion}
use Rattle.xfs_base.specs.declared.fragment.FragMeta.{FragMeta}
use Rattle.xfs_base.specs.declared.node.NodeId.TheVariants.{Server}
use Rattle.xfs_base.specs.declared.segment.SegName.{SegName}
use Rattle.xfs_base.specs.declared.setup.Setup.{Setup}
use Rattle.group_map.specs.declared.group.Group.{Group}
use Rattle.group_map.specs.GroupMapState.{GroupMapState}
use Rattle.group_map.specs.Groups.{group_of}
use Rattle.fragment_store.specs.ShelfState.{new_shelf}
use Rattle.stripe_code.specs.Round.{RoundSoFar, IsRound}
use Rattle.stripe_code.specs.Stripe.{IsCut}
use Rattle.group_rebuild.specs.declared.reads.Present.{Present}
use Rattle.group_rebuild.specs.declared.wanted.Wanted.{Wanted}
use Rattle.group_rebuild.specs.Reads.{ReadsState}
use Rattle.group_rebuild.specs.RebuildState.{RebuildState}
use Rattle.version_model.specs.declared.work.Work.{Work}
use Rattle.wire_msg.specs.declared.packet.Do.{Do}
use Rattle.wire_msg.specs.declared.packet.Do.TheVariants.{Begin, Deliver, Tick}
use Rattle.store_nodes.specs.declared.server.Server as nodes
use Rattle.store_nodes.specs.declared.server.Rebuilding.{Rebuilding}
use Rattle.store_nodes.specs.ServerEvents.{server_start, server_step}
use Rattle.log_protocol.specs.Tables.{In}
use Rattle.log_tie.specs.Setting.{Setting, stripe_of_group}
use Rattle.log_flight.specs.Flights.{server_of}
use Rattle.log_tie.specs.Shelves.{is_of_log}
use Rattle.log_law.specs.Net.{Net}
use Rattle.log_law.specs.Net.Packet.{ListedSent, MapSent}
use Rattle.log_law.specs.Events.{AllCame, Runs}
use Rattle.log_law.specs.Laws.{Moment}
use Rattle.node_logs.specs.node_log_tie.Sight.{Asker, PacketSeen, AllSeen}

-- each group id of a map names its stripe, and segments may be cut for it
pub record NamesStripes (g : Setting) (m : GroupMapState) : Type 0 where
  pub named : (id : ℕ) (group : Group) → group_of m id ≡ Some group → g.stripe id ≡ stripe_of_group group
  pub cut : (id : ℕ) (group : Group) → group_of m id ≡ Some group → IsCut (length group.members) group.parity

-- ---- how a rebuild is seen

module _ (g : Setting) (n : Net) where
  -- some server listed this of a fragment of the log
  pub record WasListed (meta : FragMeta) : Type 0 where
    pub lists : List FragMeta
    pub sent : In (ListedSent lists) n.sent
    pub among : In meta lists

  abbrev pub ListedOfLog : FragMeta → Type 0
  ListedOfLog meta = is_of_log g meta.name ≡ true → WasListed meta

  module _ (v : ℕ) where
    -- what is wanted was listed, is cut as its group says, and the fragment at this place is this server's
    pub record WantedSeen (w : Wanted) : Type 0 where
      pub listed : ListedOfLog w.meta
      pub count : w.n ≡ length (g.stripe w.meta.group).members
      pub parity : w.parity ≡ (g.stripe w.meta.group).parity
      pub cut : IsCut w.n w.parity
      pub within : w.place < w.n
      pub own : server_of (g.stripe w.meta.group).members w.place ≡ v

    -- the answers of its round were sent
    pub record RoundSeen (w : Wanted) (r : RoundSoFar) : Type 0 where
      pub is_round : IsRound r
      pub count : r.n ≡ w.n
      pub parity : r.parity ≡ w.parity
      pub came : is_of_log g w.meta.name ≡ true → AllCame n w.meta.name r.answers

    pub record PresentSeen (p : Present) : Type 0 where
      pub wanted : WantedSeen p.wanted
      pub round : RoundSeen p.wanted p.round

    pub record ReadsSeen (r : ReadsState) : Type 0 where
      pub left : AllByRecursion WantedSeen r.left
      pub present : IfSome r.present PresentSeen

    pub record RebuildSeen (r : RebuildState) : Type 0 where
      pub server : r.server ≡ v
      pub groups : NamesStripes g r.groups
      pub listed : AllByRecursion (λ (e : SegName × FragMeta). ListedOfLog e.1) r.listed
      pub reads : IfSome r.reads ReadsSeen

-- ---- how a server is seen

-- its shelf is the one of its number
pub record ServerSeen (g : Setting) (n : Net) (v : ℕ) (node : nodes.Server) : Type 0 where
  pub number : node.number ≡ v
  pub shelf : n.shelves v ≡ node.shelf
  pub maps : IfSome node.maps.groups (NamesStripes g)
  pub rebuild : IfSome node.rebuilding (λ (r : Rebuilding). RebuildSeen g n v r.rebuild)

-- ---- what the world owes an event

-- maps that were sent name stripes
abbrev pub MapsName : Setting → Net → Type 0
MapsName g n = (m : GroupMapState) → In (MapSent m) n.sent → NamesStripes g m

abbrev pub ServerOwed : Setting → Asker → Net → ℕ → Do → Type 0
ServerOwed g owner n v Begin = Unit {0}
ServerOwed g owner n v (Deliver packet) = (packet.to ≡ Server v) × PacketSeen g owner n packet
ServerOwed g owner n v Tick = Unit {0}

-- ---- what an event makes of it

-- the small world but for shelves and for what was sent
abbrev pub all_but_shelves : Net → Net
all_but_shelves n = record n { shelves = λ v. new_shelf; sent = [] }

-- The small world runs on, by what is done at this server alone, to a net in which the server is seen as it is then, and all that it sends was sent.
pub record ServerGoes (g : Setting) (owner : Asker) (n : Net) (v : ℕ) (node : nodes.Server) (what : Do) : Type 0 where
  pub next : Net
  pub runs : Runs g n next
  pub seen : ServerSeen g next v (server_step node what).node
  pub sends : AllSeen g owner next (server_step node what).packets
  pub shelves : (u : ℕ) → (u ≡ v → ⊥) → next.shelves u ≡ n.shelves u
  pub rest : all_but_shelves next ≡ all_but_shelves n

-- Each event of a server.
abbrev pub ServerEventGoes : Type 0
ServerEventGoes =
    (g : Setting) (owner : Asker) (n : Net) (v : ℕ) (node : nodes.Server) (what : Do) → 0 < v → (owner.node ≡ Server v → ⊥) → MapsName g n
    → ServerSeen g n v node
    → ServerOwed g owner n v what → ServerGoes g owner n v node what

-- At the start of a run each server has nothing on its shelf.
abbrev pub ServerStarts : Type 0
ServerStarts =
    (g : Setting) (n : Net) (v : ℕ) (setup : Setup) (items : List Work) → n.shelves v ≡ new_shelf
    → IfSome (server_start v setup items).maps.groups (NamesStripes g)
    → ServerSeen g n v (server_start v setup items)

-- Of each moment of a run the maps that were sent name stripes.
abbrev pub SentMapsName : Type 0
SentMapsName = (g : Setting) (n : Net) → Moment g n → MapsName g n
