-- What is known of each packet that an event sends, and how it goes through lists.
use Rattle.std.proofs.Common.{ℕ, List, [], ◌∷◌, Option}
use Rattle.std.specs.List.{AllByRecursion}
use Rattle.node_base.specs.Beginning.{answers_unanswered}
use Rattle.node_base.specs.declared.effects.Effect.{Effect}
use Rattle.node_base.specs.declared.effects.Effect.TheVariants.{Send, Answer, Lose, Does}
use Rattle.node_base.specs.Effects.{packet_of, packets_of}
use Rattle.node_logs.proofs.node_log_tie.Lists.{answers_send}
use Rattle.version_model.specs.declared.answer.Answer.{Answer as Answered}
use Rattle.wire_msg.specs.declared.body.Body.{Body}
use Rattle.wire_msg.specs.declared.body.Body.TheVariants as body
use Rattle.wire_msg.specs.declared.packet.Packet.{Packet}
use Rattle.xfs_base.proofs.Alls.{all_append, all_weaker}
use Rattle.xfs_base.specs.declared.node.NodeId.{NodeId}
use Rattle.xfs_base.specs.Steps.{Stepped, steps}

-- Grants and Lives alone tell where a manager's index says that a block lies.
abbrev pub TellsNoEntry : Body → Type 0
TellsNoEntry (body.Grant m) = ⊥
TellsNoEntry (body.Live m) = ⊥
TellsNoEntry _ = Unit {0}

-- what is said of bodies, where it is said of entries alone
abbrev pub IsOfEntries : (Body → Type 0) → Type 0
IsOfEntries Is = (m : Body) → TellsNoEntry m → Is m

module _ (Is : Body → Type 0) where
  abbrev pub Says : Effect → Type 0
  Says (Send to said) = Is said
  Says (Answer item answer) = Unit {0}
  Says (Lose seg) = Unit {0}
  Says (Does act) = Unit {0}

  abbrev pub AllSay : List Effect → Type 0
  AllSay outs = AllByRecursion Says outs

  pub answers_say : (item : Option ℕ) (answer : Answered) → AllSay (answers_unanswered item answer)
  answers_say item answer = answers_send Says (λ number said. tt) item answer

  -- one step after the other
  pub steps_say : {S B : Type 0} (f : S → B → Stepped S Effect) → ((s : S) (x : B) → AllSay (f s x).outs) → (s : S) (xs : List B) → AllSay (steps f s xs).outs
  steps_say f each s [] = tt
  steps_say f each s (x ∷ xs) = all_append Says (f s x).outs (steps f (f s x).state xs).outs (each s x) (steps_say f each (f s x).state xs)

  -- of the packets that are sent
  packet_says : (node : NodeId) (e : Effect) → Says e → AllByRecursion (λ (p : Packet). Is p.body) (packet_of node e)
  packet_says node (Send to said) h = (h, tt)
  packet_says node (Answer item answer) h = tt
  packet_says node (Lose seg) h = tt
  packet_says node (Does act) h = tt

  pub packets_say : (node : NodeId) (es : List Effect) → AllSay es → AllByRecursion (λ (p : Packet). Is p.body) (packets_of node es)
  packets_say node [] all = tt
  packets_say node (e ∷ es) all =
      all_append (λ (p : Packet). Is p.body) (packet_of node e) (packets_of node es) (packet_says node e all.0) (packets_say node es all.1)

-- where one thing is said, so is what follows of it
module _ (One More : Body → Type 0) (more : (m : Body) → One m → More m) where
  one_more : (e : Effect) → Says One e → Says More e
  one_more (Send to said) h = more said h
  one_more (Answer item answer) h = tt
  one_more (Lose seg) h = tt
  one_more (Does act) h = tt

  pub say_more : (outs : List Effect) → AllSay One outs → AllSay More outs
  say_more outs all = all_weaker (Says One) (Says More) one_more outs all
