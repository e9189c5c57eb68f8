-- What a packet brings a reader: a fragment, or word that a server holds none, and maps of groups; and the form of a law of readers of one kind.
use Rattle.std.specs.Prelude.{ℕ, Option, Some, None}
use Rattle.node_base.specs.Nodes.{server_in}
use Rattle.stripe_code.specs.declared.round.Told.{Told as Answered}
use Rattle.stripe_code.specs.declared.round.Told.TheVariants.{Held, Missing}
use Rattle.wire_msg.specs.declared.body.Body.{Body}
use Rattle.wire_msg.specs.declared.body.Body.TheVariants as body
use Rattle.wire_msg.specs.declared.packet.Do.{Do}
use Rattle.wire_msg.specs.declared.packet.Do.TheVariants.{Begin, Deliver, Tick}
use Rattle.wire_msg.specs.declared.packet.Packet.{Packet}
use Rattle.xfs_base.specs.declared.node.NodeId.{NodeId}
use Rattle.node_tellings.specs.reading_tie.Came.{Came, MapStriped, Striped}

-- what a server told in answer to a question came; a node that is no server tells nothing of fragments
abbrev pub AnswerBrought : Came → Option ℕ → ℕ → Answered → Type 0
AnswerBrought came None ask told = Unit {0}
AnswerBrought came (Some server) ask told = came ask server told

-- what a packet bears came, and so did what its maps say
abbrev pub BodyBrought : Came → Striped → NodeId → Body → Type 0
BodyBrought came striped from (body.Fragment m) = AnswerBrought came (server_in from) m.ask (Held m.fragment)
BodyBrought came striped from (body.Missing m) = AnswerBrought came (server_in from) m.ask (Missing m.generation)
BodyBrought came striped from (body.MapNews m) = MapStriped striped m.groups
BodyBrought came striped from (body.Welcome m) = MapStriped striped m.news.groups
BodyBrought came striped from _ = Unit {0}

abbrev pub PacketBrought : Came → Striped → Packet → Type 0
PacketBrought came striped packet = BodyBrought came striped packet.from packet.body

abbrev pub DoBrought : Came → Striped → Do → Type 0
DoBrought came striped Begin = Unit {0}
DoBrought came striped (Deliver packet) = PacketBrought came striped packet
DoBrought came striped Tick = Unit {0}
