-- What a packet brings a reader: a fragment, or word that a server holds none, and maps of groups; and the form of a law of readers of one kind.
use Rattle.std.specs.Prelude.{◌≡◌, ℕ, List, Some}
use Rattle.log_owner.specs.Sending.{server_in}
use Rattle.stripe_code.specs.declared.round.Told.{Told as Answered}
use Rattle.stripe_code.specs.declared.round.Told.TheVariants.{Held, Missing}
use Rattle.token_protocol.specs.Basics.{In}
use Rattle.wire_msg.specs.declared.body.Body.{Body}
use Rattle.wire_msg.specs.declared.body.Body.TheVariants as body
use Rattle.wire_msg.specs.declared.packet.Do.{Do}
use Rattle.wire_msg.specs.declared.packet.Do.TheVariants.{Begin, Deliver, Tick}
use Rattle.wire_msg.specs.declared.packet.Packet.{Packet}
use Rattle.wire_msg.specs.NodeStep.{NodeStep}
use Rattle.xfs_base.specs.declared.node.NodeId.{NodeId}
use Rattle.node_tellings.specs.reading_tie.Came.{Came, Striped, MapStriped}

-- ---- what came in packets

-- a body that tells this in answer to this question
abbrev pub Tells : ℕ → Answered → Body → Type 0
Tells ask told (body.Fragment m) = (m.ask ≡ ask) × (told ≡ Held m.fragment)
Tells ask told (body.Missing m) = (m.ask ≡ ask) × (told ≡ Missing m.generation)
Tells ask told _ = ⊥

-- one of these packets is to this node and from the server, and tells this in answer to this question
pub record AnsweredIn (packets : List Packet) (to : NodeId) (ask server : ℕ) (told : Answered) : Type 0 where
  pub packet : Packet
  pub among : In packet packets
  pub reader : packet.to ≡ to
  pub from : server_in packet.from ≡ Some server
  pub tells : Tells ask told packet.body

abbrev pub answered_in : List Packet → NodeId → Came
answered_in packets to ask server told = AnsweredIn packets to ask server told

-- ---- how groups are cut

-- over how many members a segment is cut, and with how many parity fragments
pub record Cut : Type 0 where
  pub members : ℕ
  pub parity : ℕ

-- of each group id, for ever and everywhere
abbrev pub Cuts : Type 0
Cuts = ℕ → Cut

abbrev pub cut_by : Cuts → Striped
cut_by cuts id members parity = (members ≡ (cuts id).members) × (parity ≡ (cuts id).parity)

-- ---- the law of a kind of node

-- a map that a packet bears is so
abbrev pub BodyMaps : Cuts → Body → Type 0
BodyMaps cuts (body.MapNews m) = MapStriped (cut_by cuts) m.groups
BodyMaps cuts (body.Welcome m) = MapStriped (cut_by cuts) m.news.groups
BodyMaps cuts _ = Unit {0}

-- the packet that is delivered is one of these, to this node, and its maps are so
abbrev pub DoSent : List Packet → NodeId → Cuts → Do → Type 0
DoSent packets to cuts Begin = Unit {0}
DoSent packets to cuts (Deliver packet) = In packet packets × (packet.to ≡ to) × BodyMaps cuts packet.body
DoSent packets to cuts Tick = Unit {0}

-- what came to a node of this kind in these packets came in more of them too
abbrev pub HoldsRise : (N : Type 0) → (Came → Striped → N → Type 0) → Type 0
HoldsRise N Holds =
    (packets more : List Packet) (to : NodeId) (cuts : Cuts) (node : N) → ((p : Packet) → In p packets → In p more)
    → Holds (answered_in packets to) (cut_by cuts) node → Holds (answered_in more to) (cut_by cuts) node

-- Each event of a node of this kind: where what it holds came in these packets, and is cut so, and the packet that is delivered is one of these, it is so after
-- the event.
abbrev pub EventsKeep : (N : Type 0) → (Came → Striped → N → Type 0) → (N → Do → NodeStep N) → Type 0
EventsKeep N Holds step =
    (packets : List Packet) (to : NodeId) (cuts : Cuts) (node : N) (what : Do) → Holds (answered_in packets to) (cut_by cuts) node → DoSent packets to cuts what
    → Holds (answered_in packets to) (cut_by cuts) (step node what).node
