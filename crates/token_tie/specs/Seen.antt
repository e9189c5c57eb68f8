-- How what a client knows of one block is seen as a client of the abstract protocol.
use Rattle.std.specs.Prelude.{◌≡◌, ℕ, ◌≤◌, ◌<◌, Bool, true, List, Option, Some, None, if◌then◌else◌}
use Rattle.xfs_base.specs.declared.block.BlockId.{BlockId}
use Rattle.xfs_base.specs.declared.entry.Entry.{Entry}
use Rattle.xfs_base.specs.declared.entry.Place.{Place}
use Rattle.xfs_base.specs.declared.token.Mode.{Mode}
use Rattle.xfs_base.specs.declared.token.Stamp.{Stamp}
use Rattle.xfs_base.specs.Blocks.{slot_of}
use Rattle.token_client.specs.declared.held.Fetch.{Fetch}
use Rattle.token_client.specs.declared.held.Held.{Held}
use Rattle.token_client.specs.declared.held.Wanted.{Wanted}
use Rattle.token_client.specs.State.{TokensState, held_of, epoch_of}
use Rattle.token_protocol.specs.Basics.{In}
use Rattle.token_protocol.specs.Client.{Client}
use Rattle.token_protocol.specs.Packets as packets
use Rattle.token_protocol.specs.Stamps.{Node, Seen}
use Rattle.token_protocol.specs.World.{World}
use Rattle.token_protocol.specs.Entry as abstract_entry
use Rattle.token_protocol.specs.Stamps as abstract_stamps
use Rattle.xfs_base.specs.Modes.{is_held, mode_number}

-- What one relation is about: how values are seen as numbers, the block, the client's number in the abstract world, and its incarnation.
pub record Setting : Type 0 where
  pub number : Option (List ℕ) → ℕ
  pub absent : number None ≡ 0
  pub block : BlockId
  pub client : ℕ
  pub incarnation : ℕ

-- what a Recall lets a client keep
abbrev pub kept : Bool → ℕ
kept keep = if keep then 1 else 0

abbrev pub stamp_seen : Stamp → abstract_stamps.Stamp
stamp_seen s = record { epoch = s.epoch; turn = s.turn }

abbrev pub node_seen : ℕ → Stamp → Node
node_seen promised stamp = record { promised = promised; stamp = stamp_seen stamp }

abbrev pub placed_of : Option Place → ℕ
placed_of None = 0
placed_of (Some p) = 1

-- logs and clients have the numbers there that they have here, so client 0 there is nobody
abbrev pub log_of : Option Place → ℕ
log_of None = 0
log_of (Some p) = p.seg.name.log.0

abbrev pub segment_of : Option Place → ℕ
segment_of None = 0
segment_of (Some p) = p.seg.name.seq

-- an entry, by its place
abbrev pub located : ℕ → ℕ → Option Place → abstract_entry.Entry
located ver hop place = record { version = ver; hop = hop; placed = placed_of place; log = log_of place; segment = segment_of place }

abbrev pub entry_seen : Entry → abstract_entry.Entry
entry_seen e = located e.ver e.hop e.place

-- What of a client's state speaks of the block: the promised epoch of its slot, the incarnation, the last number, and what is known of it.
pub record Local : Type 0 where
  pub promised : ℕ
  pub inc : ℕ
  pub req : ℕ
  pub held : Held

abbrev pub local_of : TokensState → BlockId → Local
local_of s block = record { promised = epoch_of s.epochs (slot_of block.ino.0); inc = s.inc; req = s.req; held = held_of s.blocks block }

-- an open want has its mode, which is a copy or more, and its number there; without one no want is open
abbrev pub WantShown : Option Wanted → ℕ → ℕ → Type 0
WantShown None want request = want ≡ 0
WantShown (Some w) want request = (want ≡ mode_number w.mode) × (request ≡ w.req) × (is_held w.mode ≡ true)

-- a fetch reads its place there, whatever the hop of the entry
abbrev pub FetchShown : Option Fetch → ℕ → abstract_entry.Entry → Type 0
FetchShown None fetching entry = fetching ≡ 0
FetchShown (Some f) fetching entry = (fetching ≡ 1) × ((hop : ℕ) × (entry ≡ located f.ver hop (Some f.place)))

-- a kept value is the value there
abbrev pub ValueShown : (Option (List ℕ) → ℕ) → Option (Option (List ℕ)) → ℕ → Type 0
ValueShown number None value = Unit {0}
ValueShown number (Some kept) value = value ≡ number kept

-- The client is seen as this abstract client, while the manager of this epoch reigns. Each field names just what it reads.
pub record Shows (g : Setting) (epoch : ℕ) (l : Local) (x : Client) : Type 0 where
  pub client : 0 < g.client
  pub serving : x.serving ≡ 1
  pub boot : l.inc ≡ g.incarnation
  pub incarnation : x.incarnation ≡ g.incarnation
  pub stamps : Seen (node_seen l.promised l.held.stamp) x epoch
  pub mode : x.mode ≡ mode_number l.held.mode
  pub counted : x.request ≤ l.req
  pub want : WantShown l.held.want x.want x.request
  pub version : x.version ≡ l.held.ver
  pub settled : x.settled ≡ l.held.settled
  pub value : ValueShown g.number l.held.value x.value
  pub fetch : FetchShown l.held.fetch x.fetching x.fetch

-- ---- what is asked of packets: they are of no later epoch than the reigning one, and those of the reigning one were sent there

abbrev pub offer_seen : ℕ → Stamp → ℕ → ℕ → Mode → abstract_entry.Entry → packets.Offer
offer_seen client stamp inc req mode entry =
    record { client = client; stamp = stamp.turn; incarnation = inc; request = req; mode = mode_number mode; entry = entry }

pub record SentOffer (client : ℕ) (w : World) (stamp : Stamp) (inc req : ℕ) (mode : Mode) (entry : abstract_entry.Entry) : Type 0 where
  pub low : stamp.epoch ≤ w.epoch
  pub some : 0 < stamp.turn
  pub offered : stamp.epoch ≡ w.epoch → In (offer_seen client stamp inc req mode entry) w.offers

abbrev pub recall_seen : ℕ → Stamp → Bool → packets.Recall
recall_seen client stamp keep = record { client = client; stamp = stamp.turn; keep = kept keep }

pub record SentRecall (client : ℕ) (w : World) (stamp : Stamp) (keep : Bool) : Type 0 where
  pub low : stamp.epoch ≤ w.epoch
  pub some : 0 < stamp.turn
  pub recalled : stamp.epoch ≡ w.epoch → In (recall_seen client stamp keep) w.recalls
