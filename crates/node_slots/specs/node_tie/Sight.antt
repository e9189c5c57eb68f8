-- What each kind of node may send, and how packets about tokens are seen in the small world of one slot.
use Rattle.std.specs.Prelude.{◌≡◌, ◌≤◌, ℕ, List, true}
use Rattle.node_base.specs.declared.effects.Effect.{Effect}
use Rattle.node_base.specs.declared.effects.Effect.TheVariants.{Send, Answer, Lose, Does}
use Rattle.token_client.specs.State.{is_in_slot}
use Rattle.token_law.specs.Books.{Books}
use Rattle.token_law.specs.Net.{Packet}
use Rattle.token_law.specs.Owed.{IsNeutral}
use Rattle.token_law.specs.Net.Packet.{WantSent, GrantSent, RecallSent, GaveSent, ForwardSent, SupplySent, ReportSent}
use Rattle.token_protocol.specs.Basics.{In}
use Rattle.wire_msg.specs.declared.body.Body.{Body}
use Rattle.wire_msg.specs.declared.body.Body.TheVariants as body
use Rattle.wire_msg.specs.declared.deltas.Poll.{Poll}
use Rattle.wire_msg.specs.declared.deltas.Report.{Report}
use Rattle.wire_msg.specs.declared.tokens.Forward.{Forward}
use Rattle.wire_msg.specs.declared.tokens.Gave.{Gave}
use Rattle.wire_msg.specs.declared.tokens.Grant.{Grant}
use Rattle.wire_msg.specs.declared.tokens.Recall.{Recall}
use Rattle.wire_msg.specs.declared.tokens.Supply.{Supply}
use Rattle.wire_msg.specs.declared.tokens.Want.{Want}
use Rattle.xfs_base.specs.declared.block.BlockId.{BlockId}
use Rattle.xfs_base.specs.declared.node.NodeId.{NodeId}
use Rattle.xfs_base.specs.declared.node.NodeId.TheVariants.{Client}

-- ---- what is said of a log

-- of this log the same is known: its end, whether its next segment is in flight, and what its segments say
pub record SameLog (k m : Books) (l : ℕ) : Type 0 where
  pub end : m.end l ≡ k.end l
  pub flying : m.flying l ≡ k.flying l
  pub rows : m.rows l ≡ k.rows l

-- ---- packets about tokens of the slot, as the small world has them

module _ (part : ℕ) (sent : List Packet) where
  -- where the block is of the slot, this was sent there
  abbrev pub SentOf : BlockId → Packet → Type 0
  SentOf block p = is_in_slot part block ≡ true → In p sent

  abbrev pub WantSeen : ℕ → Want → Type 0
  WantSeen c m = SentOf m.block (WantSent c m.inc m.req m.again m.block m.mode m.end)

  abbrev pub GaveSeen : ℕ → Gave → Type 0
  GaveSeen c m = SentOf m.block (GaveSent c m.block m.stamp m.end)

  abbrev pub ReportSeen : ℕ → Report → Type 0
  ReportSeen c m = m.slot ≡ part → In (ReportSent c m.epoch m.held m.end.seq) sent

  -- what goes to a client, and to a client alone
  abbrev pub GrantSeen : NodeId → Grant → Type 0
  GrantSeen (Client c) m = SentOf m.block (GrantSent c m.block m.stamp m.inc m.req m.mode m.entry)
  GrantSeen _ m = ⊥

  abbrev pub ForwardSeen : NodeId → Forward → Type 0
  ForwardSeen (Client c) m = SentOf m.block (ForwardSent c m.to m.block m.stamp m.inc m.req m.ver)
  ForwardSeen _ m = ⊥

  abbrev pub RecallSeen : NodeId → Recall → Type 0
  RecallSeen (Client c) m = SentOf m.block (RecallSent c m.block m.stamp m.keep)
  RecallSeen _ m = ⊥

  abbrev pub SupplySeen : NodeId → Supply → Type 0
  SupplySeen (Client c) m = SentOf m.block (SupplySent c m.block m.stamp m.inc m.req m.ver m.value)
  SupplySeen _ m = ⊥

  -- ---- what each kind of node sends

  -- client c sends wants, what it gave up or supplies, reports, and what its log needs; it says Hello in this incarnation at most
  abbrev pub ClientSends : ℕ → ℕ → NodeId → Body → Type 0
  ClientSends c life to (body.Want m) = WantSeen c m
  ClientSends c life to (body.Gave m) = GaveSeen c m
  ClientSends c life to (body.Report m) = ReportSeen c m
  ClientSends c life to (body.Supply m) = SupplySeen to m
  ClientSends c life to (body.Deltas m) = Unit {0}
  ClientSends c life to (body.Store m) = Unit {0}
  ClientSends c life to (body.Fetch m) = Unit {0}
  ClientSends c life to (body.Fence m) = Unit {0}
  ClientSends c life to (body.Hello m) = m.inc ≤ life
  ClientSends c life to _ = ⊥

  -- a manager sends grants, forwards and recalls; polls up to this epoch of the slot; and what takeovers and checkpoints need; it says Hello in this
  -- incarnation at most
  abbrev pub PollSeen : ℕ → Poll → Type 0
  PollSeen last_epoch m = m.slot ≡ part → m.epoch ≤ last_epoch

  abbrev pub ManagerSends : ℕ → ℕ → NodeId → Body → Type 0
  ManagerSends last_epoch life to (body.Grant m) = GrantSeen to m
  ManagerSends last_epoch life to (body.Forward m) = ForwardSeen to m
  ManagerSends last_epoch life to (body.Recall m) = RecallSeen to m
  ManagerSends last_epoch life to (body.Poll m) = PollSeen last_epoch m
  ManagerSends last_epoch life to (body.Gone m) = Unit {0}
  ManagerSends last_epoch life to (body.DeltaAck m) = Unit {0}
  ManagerSends last_epoch life to (body.Store m) = Unit {0}
  ManagerSends last_epoch life to (body.Fetch m) = Unit {0}
  ManagerSends last_epoch life to (body.Live m) = Unit {0}
  ManagerSends last_epoch life to (body.Dead m) = Unit {0}
  ManagerSends last_epoch life to (body.Usage m) = Unit {0}
  ManagerSends last_epoch life to (body.Hello m) = m.inc ≤ life
  ManagerSends last_epoch life to (body.CkptDone m) = Unit {0}
  ManagerSends last_epoch life to _ = ⊥

  abbrev pub ManagerDoes : ℕ → ℕ → Effect → Type 0
  ManagerDoes last_epoch life (Send to m) = ManagerSends last_epoch life to m
  ManagerDoes last_epoch life (Answer item answer) = Unit {0}
  ManagerDoes last_epoch life (Lose seg) = Unit {0}
  ManagerDoes last_epoch life (Does a) = IsNeutral a

-- a server sends what it holds and did, and what a rebuild asks
abbrev pub ServerSends : Body → Type 0
ServerSends (body.Stored m) = Unit {0}
ServerSends (body.Fragment m) = Unit {0}
ServerSends (body.Missing m) = Unit {0}
ServerSends (body.Fenced m) = Unit {0}
ServerSends (body.Listed m) = Unit {0}
ServerSends (body.Deleted m) = Unit {0}
ServerSends (body.Fetch m) = Unit {0}
ServerSends (body.List m) = Unit {0}
ServerSends (body.Hello m) = Unit {0}
ServerSends _ = ⊥

module _ (part promised life : ℕ) where
  -- the cleaner reports epochs of the slot up to the one that it has promised; it sends what its log and its job need; it says Hello in this incarnation
  -- at most
  abbrev pub CleanerSends : Body → Type 0
  CleanerSends (body.Report m) = m.slot ≡ part → m.epoch ≤ promised
  CleanerSends (body.Deltas m) = Unit {0}
  CleanerSends (body.Store m) = Unit {0}
  CleanerSends (body.Fetch m) = Unit {0}
  CleanerSends (body.Fence m) = Unit {0}
  CleanerSends (body.List m) = Unit {0}
  CleanerSends (body.Delete m) = Unit {0}
  CleanerSends (body.Check m) = Unit {0}
  CleanerSends (body.UsageAsk m) = Unit {0}
  CleanerSends (body.Hello m) = m.inc ≤ life
  CleanerSends _ = ⊥
