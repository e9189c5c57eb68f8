-- What an event makes of a client, as the small world sees it.
use Rattle.std.specs.Prelude.{◌≡◌, ◌⊎◌, ◌<◌, ◌≤◌, ◌++◌, ℕ, Bool, true, false, List, Some, All, length, is_some}
use Rattle.client_node.specs.declared.client.Client as clients
use Rattle.client_node.specs.declared.phase.Phase.TheVariants.{Down, Opening, Serving as Serves}
use Rattle.client_node.specs.declared.phase.Phase.{Phase}
use Rattle.client_node.specs.Phases.{client_has_room, lasting_of, takes}
use Rattle.client_node.specs.Starting.{client_start}
use Rattle.client_serving.specs.declared.lasting.Lasting.{Lasting}
use Rattle.client_serving.specs.declared.serving.Serving.{Serving}
use Rattle.log_owner.specs.declared.opening.Opening as openings
use Rattle.log_owner.specs.Opening as opens
use Rattle.log_owner.specs.declared.opening.Stage as stages
use Rattle.log_owner.specs.declared.opening.Stage.TheVariants as stage
use Rattle.log_scan.specs.declared.stage.Stage.TheVariants as scan
use Rattle.node_base.specs.Shape.{is_well_formed}
use Rattle.node_base.specs.declared.effects.Effect.{Effect}
use Rattle.node_base.specs.declared.effects.Effect.TheVariants.{Send, Answer, Lose, Does}
use Rattle.node_base.specs.Effects.{acts_of}
use Rattle.token_client.specs.declared.held.Giving.{Giving}
use Rattle.token_client.specs.Held.{is_dirty}
use Rattle.token_client.specs.State.{epoch_of, held_of, is_in_slot}
use Rattle.token_law.specs.Books.{Books, reopened, with_empty}
use Rattle.token_law.specs.Net.{Net, Packet, Runs, opening}
use Rattle.token_law.specs.Owed.{adopts}
use Rattle.token_law.specs.Net.Packet.{RecallSent}
use Rattle.token_protocol.specs.Basics.{In}
use Rattle.token_protocol.specs.Premises.{Premise}
use Rattle.version_model.specs.declared.act.Act.{Act}
use Rattle.version_model.specs.declared.act.Act.TheVariants as act
use Rattle.version_model.specs.declared.act.Fall.{Fall}
use Rattle.version_model.specs.declared.work.Work.{Work}
use Rattle.wire_msg.specs.declared.body.Body.{Body}
use Rattle.wire_msg.specs.declared.body.Body.TheVariants as body
use Rattle.wire_msg.specs.declared.packet.Do.{Do}
use Rattle.wire_msg.specs.declared.packet.Do.TheVariants.{Begin, Deliver, Tick}
use Rattle.wire_msg.specs.declared.packet.Packet as packets
use Rattle.wire_msg.specs.declared.registry.Welcome.{Welcome}
use Rattle.stripe_code.specs.declared.round.Told.TheVariants as told
use Rattle.xfs_base.specs.declared.block.BlockId.{BlockId}
use Rattle.xfs_base.specs.declared.news.SlotNews.{SlotNews}
use Rattle.xfs_base.specs.declared.segment.SegName.{SegName}
use Rattle.xfs_base.specs.declared.node.NodeId.TheVariants.{Client}
use Rattle.xfs_base.specs.declared.setup.Setup.{Setup}
use Rattle.xfs_base.specs.Modes.{is_held}
use Rattle.xfs_base.specs.Limits.{slot_count}
use Rattle.node_slots.specs.node_tie.AskingEvents.{PhaseAsks}
use Rattle.node_slots.specs.node_tie.ClientLogs.{NothingBeyond, LogAgrees, FiledStay, Tells, EndsSo}
use Rattle.node_slots.specs.node_tie.Sight.{SameLog, ClientSends, GrantSeen, ForwardSeen, RecallSeen, SupplySeen, PollSeen}

-- ---- how a client is seen

-- the first Welcome of an opening is awaited
abbrev pub AwaitsFirst : stages.Stage → Type 0
AwaitsFirst (stage.Scanning s) = s.scan.stage ≡ scan.Hails
AwaitsFirst (stage.Settling s) = ⊥

module _ (logs : Bool) (part c : ℕ) (n : Net) where
  -- one that serves has the tokens that it has in the small world
  pub record SeesServing (s : Serving) : Type 0 where
    pub up : n.up c ≡ true
    pub tokens : n.tokens c ≡ s.tokens
    pub number : s.lasting.number ≡ c
    pub inc : s.tokens.inc ≡ s.lasting.inc
    pub epochs : length s.tokens.epochs ≡ slot_count
    -- each recall of the slot that is put off was sent
    pub giving : (block : BlockId) (g : Giving) → is_in_slot part block ≡ true → (held_of s.tokens.blocks block).giving ≡ Some g
        → In (RecallSent c block g.stamp g.keep) n.sent
    -- what is held has a value
    pub valued : (block : BlockId) → is_held (held_of s.tokens.blocks block).mode ≡ true → is_some (held_of s.tokens.blocks block).value ≡ true
    -- where logs keep their word, its log is seen, too
    pub logged : Premise logs (LogAgrees n.books c s.tokens s.log)

  -- of one that fell the last tokens are left, and those are of no later incarnation
  pub record SeesDown (l : Lasting) : Type 0 where
    pub up : n.up c ≡ false
    pub number : l.number ≡ c
    pub inc : (n.tokens c).inc ≤ l.inc
    pub beyond : Premise logs (NothingBeyond n.books c)

  -- what an opening promises is no less than what was promised before
  pub record Raises (o : openings.Opening) : Type 0 where
    pub epochs : length o.known.promised.epochs ≡ slot_count
    pub rises : epoch_of (n.tokens c).epochs part ≤ epoch_of o.known.promised.epochs part

  -- one that opens its log is in a later incarnation
  pub record SeesOpening (l : Lasting) (o : openings.Opening) : Type 0 where
    pub up : n.up c ≡ false
    pub number : l.number ≡ c
    pub inc : (n.tokens c).inc < l.inc
    pub owner : o.known.owner.inc ≡ l.inc
    pub promised : AwaitsFirst o.stage ⊎ Raises o
    pub beyond : Premise logs (NothingBeyond n.books c)

  abbrev pub ClientAgrees : Phase → Type 0
  ClientAgrees (Down l) = SeesDown l
  ClientAgrees (Opening l o) = SeesOpening l o
  ClientAgrees (Serves s) = SeesServing s

-- ---- what the world owes it

-- what is promised is of no later epoch than this bound; before its first Welcome an opening promises nothing
abbrev pub PromisesWithin : ℕ → ℕ → Phase → Type 0
PromisesWithin part last_epoch (Down l) = Unit {0}
PromisesWithin part last_epoch (Opening l o) = AwaitsFirst o.stage ⊎ (epoch_of o.known.promised.epochs part ≤ last_epoch)
PromisesWithin part last_epoch (Serves s) = Unit {0}

-- what holds before each event
pub record ClientStands (part last_epoch c : ℕ) (n : Net) (p : Phase) : Type 0 where
  pub asks : PhaseAsks p
  pub within : epoch_of (n.tokens c).epochs part ≤ last_epoch
  pub promises : PromisesWithin part last_epoch p

module _ (part last_epoch c : ℕ) (n : Net) where
  -- what is said of the slot is of an epoch within the bound
  abbrev pub NewsWithin : List SlotNews → Type 0
  NewsWithin slots = All (λ news. news.slot ≡ part → news.epoch ≤ last_epoch) slots

  -- what is said of the slot is of no earlier epoch than the promised one
  abbrev pub NewsRises : List SlotNews → Type 0
  NewsRises slots = All (λ news. news.slot ≡ part → epoch_of (n.tokens c).epochs part ≤ news.epoch) slots

  -- a Welcome that answers an opening
  abbrev pub WelcomeRises : Phase → Welcome → Type 0
  WelcomeRises (Down l) m = Unit {0}
  WelcomeRises (Opening l o) m = m.inc ≡ l.inc → NewsRises m.news.slots
  WelcomeRises (Serves s) m = Unit {0}

  abbrev pub GetsBody : Phase → Body → Type 0
  GetsBody p (body.Grant m) = GrantSeen part n.sent (Client c) m
  GetsBody p (body.Forward m) = ForwardSeen part n.sent (Client c) m
  GetsBody p (body.Recall m) = RecallSeen part n.sent (Client c) m
  GetsBody p (body.Supply m) = SupplySeen part n.sent (Client c) m
  GetsBody p (body.Poll m) = PollSeen part n.sent last_epoch m
  GetsBody p (body.MapNews m) = NewsWithin m.slots
  GetsBody p (body.Welcome m) = NewsWithin m.news.slots × WelcomeRises p m
  GetsBody p _ = Unit {0}

  -- what it says of logs, in answer to a fetch of a block, or to an opening
  abbrev pub ServingReads : Serving → packets.Packet → Body → Type 0
  ServingReads s packet (body.Fragment m) = Tells n.books s packet.from m.ask (told.Held m.fragment)
  ServingReads s packet (body.Missing m) = Tells n.books s packet.from m.ask (told.Missing m.generation)
  ServingReads s packet _ = Unit {0}

  -- what a packet brings of logs, in each phase
  abbrev pub ReadsSo : Phase → packets.Packet → Type 0
  ReadsSo (Down l) packet = Unit {0}
  ReadsSo (Opening l o) packet = EndsSo n.books n.acts c (opens.opening_take o l.questions packet).progress
  ReadsSo (Serves s) packet = ServingReads s packet packet.body

  -- an opening may end with time, too
  abbrev pub EndsInTime : Phase → Type 0
  EndsInTime (Down l) = Unit {0}
  EndsInTime (Opening l o) = EndsSo n.books n.acts c (opens.on_tick o l.questions).progress
  EndsInTime (Serves s) = Unit {0}

-- what the world owes a packet that is delivered to the client
pub record ClientGets (logs : Bool) (part last_epoch c : ℕ) (n : Net) (p : Phase) (packet : packets.Packet) : Type 0 where
  pub brings : GetsBody part last_epoch c n p packet.body
  pub reads : Premise logs (ReadsSo part last_epoch c n p packet)

-- ---- what an event makes of it

-- an opening begins in a later incarnation
abbrev pub BeginsLater : Phase → Phase → Type 0
BeginsLater (Opening l o) p = Unit {0}
BeginsLater (Down l) (Opening next o) = l.inc < next.inc
BeginsLater (Down l) (Down next) = Unit {0}
BeginsLater (Down l) (Serves s) = Unit {0}
BeginsLater (Serves s) (Opening next o) = s.lasting.inc < next.inc
BeginsLater (Serves s) (Down next) = Unit {0}
BeginsLater (Serves s) (Serves next) = Unit {0}

-- a client doesn't serve
abbrev pub IsAway : Phase → Type 0
IsAway (Down l) = Unit {0}
IsAway (Opening l o) = Unit {0}
IsAway (Serves s) = ⊥

-- one that serves again does the act Back
abbrev pub SaysBack : ℕ → List Effect → Phase → Phase → Type 0
SaysBack c outs (Down l) (Serves s) = ⊥
SaysBack c outs (Opening l o) (Serves s) = (chain : List SegName) × In (Does (act.Back c chain)) outs
SaysBack c outs (Serves r) (Serves s) = Unit {0}
SaysBack c outs p (Down l) = Unit {0}
SaysBack c outs p (Opening l o) = Unit {0}

-- What is known of its own log goes on: while it serves, what is filed in the event said the same before; where it serves again, its log is opened again by the
-- chain that it found, with so many segments that say nothing; and else it is the same.
abbrev pub LogGoes : Net → Books → ℕ → List Effect → Phase → Phase → Type 0
LogGoes n k c outs (Down l) (Serves s) = ⊥
LogGoes n k c outs (Opening l o) (Serves s) =
    (chain : List SegName) × (count : ℕ) × In (Does (act.Back c chain)) outs × (k ≡ with_empty count (reopened n.books c (adopts n.acts c chain)) c)
LogGoes n k c outs (Serves r) (Serves s) = FiledStay n.books k c r.log.flight
LogGoes n k c outs p (Down l) = k ≡ n.books
LogGoes n k c outs p (Opening l o) = k ≡ n.books

module _ (part c : ℕ) (n : Net) (sent : List Packet) (life : ℕ) (p' : Phase) where
  -- a client falls itself, with blocks that were dirty, and then it doesn't serve
  abbrev pub ClientActs : Act → Type 0
  ClientActs (act.Fell client flight falls) = (client ≡ c) × IsAway p' × ((f : Fall) → In f falls → is_dirty (held_of (n.tokens c).blocks f.block) ≡ true)
  ClientActs _ = Unit {0}

  -- what it sends was sent, in the end, and what it acts is right
  abbrev pub ClientDid : Effect → Type 0
  ClientDid (Send to m) = ClientSends part sent c life to m
  ClientDid (Answer item answer) = Unit {0}
  ClientDid (Lose seg) = Unit {0}
  ClientDid (Does a) = ClientActs a

-- The small world runs on to a net in which the client is seen as it is then, all that it sends was sent, and what it acts is right.
pub record ClientGoes (logs : Bool) (members part last_epoch c : ℕ) (n : Net) (p p' : Phase) (outs : List Effect) : Type 0 where
  pub next : Net
  pub runs : Runs logs members part n next
  pub agrees : ClientAgrees logs part c next p'
  pub others : (d : ℕ) → (d ≡ c → ⊥) → (next.tokens d ≡ n.tokens d) × (next.up d ≡ n.up d)
  pub slots : (e : ℕ) → next.slots e ≡ n.slots e
  pub grows : (x : Packet) → In x n.sent → In x next.sent
  -- what it acts is acted there, and of logs but its own the same is known
  pub acts : next.acts ≡ n.acts ++ acts_of (Client c) outs
  pub books : (l : ℕ) → (l ≡ c → ⊥) → SameLog n.books next.books l
  pub log : Premise logs (LogGoes n next.books c outs p p')
  pub does : All (ClientDid part c n next.sent (lasting_of p').inc p') outs
  pub within : epoch_of (next.tokens c).epochs part ≤ last_epoch
  pub promises : PromisesWithin part last_epoch p'
  pub later : (lasting_of p).inc ≤ (lasting_of p').inc
  pub begins : BeginsLater p p'
  -- what is left of the last tokens of a client that doesn't serve stands still
  pub stands : IsAway p' → next.tokens c ≡ n.tokens c
  pub back : SaysBack c outs p p'

-- The event is taken: no counter of the client is near its end, and a packet that comes is well formed.
pub record IsTaken (client : clients.Client) (what : Do) : Type 0 where
  pub room : client_has_room client ≡ true
  pub formed : (q : packets.Packet) → what ≡ Deliver q → is_well_formed client.peers q ≡ true

-- what the world owes an event
abbrev pub ClientOwed : (logs : Bool) (part last_epoch c : ℕ) → Net → Phase → Do → Type 0
ClientOwed logs part last_epoch c n p Begin = Unit {0}
ClientOwed logs part last_epoch c n p (Deliver packet) = ClientGets logs part last_epoch c n p packet
ClientOwed logs part last_epoch c n p Tick = Premise logs (EndsInTime part last_epoch c n p)

-- Each event of a client is a run of the small world, if the world owes it what it brings where it is taken.
abbrev pub ClientTakes : Type 0
ClientTakes =
    (logs : Bool) (members part last_epoch c : ℕ) → part < slot_count → 0 < c → c < members → (n : Net) (client : clients.Client) (what : Do)
    → ClientAgrees logs part c n client.phase → ClientStands part last_epoch c n client.phase
    → (IsTaken client what → ClientOwed logs part last_epoch c n client.phase what)
    → ClientGoes logs members part last_epoch c n client.phase (takes client what).state (takes client what).outs

-- At the start each client is seen in the small world, and what is promised is within any bound from 1 on.
pub record ClientBegins (logs : Bool) (part last_epoch c : ℕ) (client : clients.Client) : Type 0 where
  pub agrees : ClientAgrees logs part c opening client.phase
  pub within : epoch_of (opening.tokens c).epochs part ≤ last_epoch
  pub promises : PromisesWithin part last_epoch client.phase

abbrev pub ClientStarts : Type 0
ClientStarts =
    (logs : Bool) (part last_epoch c : ℕ) → part < slot_count → 1 ≤ last_epoch → (setup : Setup) (works : List Work)
    → ClientBegins logs part last_epoch c (client_start c setup works)
