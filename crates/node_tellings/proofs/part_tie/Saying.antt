-- What an event has a node send names what is known, effect by effect.
use Rattle.std.proofs.Common.{ℕ, List, Option}
use Rattle.std.specs.List.{AllByRecursion}
use Rattle.std.specs.Prelude.{Contains}
use Rattle.node_base.specs.Beginning.{answers_unanswered}
use Rattle.node_base.specs.declared.effects.Effect.{Effect}
use Rattle.node_base.specs.Effects.{acts_of, packets_of}
use Rattle.version_model.specs.declared.act.Act.{Act}
use Rattle.version_model.specs.declared.answer.Answer.{Answer}
use Rattle.xfs_base.specs.declared.node.NodeId.{NodeId}
use Rattle.node_tellings.specs.part_tie.Names.{BodyNames, Known, PacketNames}
use Rattle.node_moves.proofs.Effects as effects

module _ (known : Known) where
  abbrev pub Says : Effect → Type 0
  Says e = effects.Says (BodyNames known) e

  abbrev pub AllSay : List Effect → Type 0
  AllSay outs = AllByRecursion Says outs

  pub answers_say : (item : Option ℕ) (answer : Answer) → AllSay (answers_unanswered item answer)
  answers_say item answer = effects.answers_say (BodyNames known) item answer

  -- the packets name what the effects name
  pub packets_name : (node : NodeId) (es : List Effect) → AllSay es → AllByRecursion (PacketNames known) (packets_of node es)
  packets_name node es all = effects.packets_so (BodyNames known) (PacketNames known) node (λ to b says. says) es all

module _ (done : List Act) where
  -- what is acted is among these acts
  abbrev pub Acted : Effect → Type 0
  Acted e = effects.Acted (Contains done) e

  -- so is what effects act, where their acts are
  pub acts_acted : (node : NodeId) (es : List Effect) → AllByRecursion (Contains done) (acts_of node es) → AllByRecursion Acted es
  acts_acted node es acts = effects.acts_acted (Contains done) node es acts
