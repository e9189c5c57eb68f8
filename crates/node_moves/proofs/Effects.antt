-- What is so of each body that an event has a node send is so of its packets, and what is so of its acts is so of each effect that is one.
use Rattle.std.proofs.Common.{ℕ, List, [], ◌∷◌, ◌++◌, Option, Some, None}
use Rattle.std.specs.List.{AllByRecursion}
use Rattle.node_base.specs.Beginning.{answers_unanswered}
use Rattle.node_base.specs.declared.effects.Effect.{Effect}
use Rattle.node_base.specs.declared.effects.Effect.TheVariants.{Send, Answer as Answers, Lose, Does}
use Rattle.node_base.specs.Effects.{act_of, acts_of, packets_of}
use Rattle.version_model.specs.declared.act.Act.{Act}
use Rattle.version_model.specs.declared.answer.Answer.{Answer}
use Rattle.wire_msg.specs.declared.body.Body.{Body}
use Rattle.wire_msg.specs.declared.packet.Packet.{Packet}
use Rattle.xfs_base.specs.declared.node.NodeId.{NodeId}
use Rattle.xfs_base.proofs.Alls.{all_append}
use Rattle.node_moves.proofs.client_walk.Frames.{all_before, all_behind}

module _ (Tells : Body → Type 0) where
  abbrev pub Says : Effect → Type 0
  Says (Send to said) = Tells said
  Says _ = Unit {0}

  abbrev pub AllSay : List Effect → Type 0
  AllSay outs = AllByRecursion Says outs

  pub answers_say : (item : Option ℕ) (answer : Answer) → AllSay (answers_unanswered item answer)
  answers_say None answer = tt
  answers_say (Some number) answer = (tt, tt)

  -- what was open is answered so, and then the item that ended it
  pub both_say : (item : Option ℕ) (first : Answer) (number : ℕ) (second : Answer) → AllSay (answers_unanswered item first ++ Answers number second ∷ [])
  both_say item first number second = all_append Says (answers_unanswered item first) (Answers number second ∷ []) (answers_say item first) (tt, tt)

  pub packets_so : (P : Packet → Type 0) (node : NodeId) → ((to : NodeId) (b : Body) → Tells b → P (record { from = node; to = to; clock = 0; body = b }))
      → (outs : List Effect) → AllSay outs → AllByRecursion P (packets_of node outs)
  packets_so P node one [] all = tt
  packets_so P node one (Send to b ∷ outs) all = (one to b all.0, packets_so P node one outs all.1)
  packets_so P node one (Answers item a ∷ outs) all = packets_so P node one outs all.1
  packets_so P node one (Lose seg ∷ outs) all = packets_so P node one outs all.1
  packets_so P node one (Does act ∷ outs) all = packets_so P node one outs all.1

module _ (Done : Act → Type 0) where
  abbrev pub Acted : Effect → Type 0
  Acted (Does act) = Done act
  Acted _ = Unit {0}

  module _ (node : NodeId) where
    one_act : (e : Effect) → AllByRecursion Done (act_of node e) → Acted e
    one_act (Does act) acts = acts.0
    one_act _ acts = tt

    pub acts_acted : (es : List Effect) → AllByRecursion Done (acts_of node es) → AllByRecursion Acted es
    acts_acted [] acts = tt
    acts_acted (e ∷ es) acts =
        (one_act e (all_before Done (act_of node e) (acts_of node es) acts), acts_acted es (all_behind Done (act_of node e) (acts_of node es) acts))
