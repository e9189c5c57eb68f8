-- What the effects of a step say, where those of each of its parts say it.
use Rattle.std.proofs.Common.{◌≡◌, refl, ℕ, List, [], ◌∷◌, Option, Some, None, All}
use Rattle.std.specs.List.{AllByRecursion}
use Rattle.std.proofs.lemmas.List.Elements.{All-nil, All-cons, All-append}
use Rattle.node_base.specs.declared.effects.Effect.{Effect}
use Rattle.node_base.specs.declared.effects.Effect.TheVariants.{Send, Answer, Lose, Does}
use Rattle.node_base.specs.Beginning.{answers_unanswered}
use Rattle.node_base.specs.Effects.{act_of, acts_of, packet_of, packets_of, send_each}
use Rattle.token_law.specs.Owed.{IsNeutral}
use Rattle.version_model.specs.declared.act.Act.{Act}
use Rattle.version_model.specs.declared.act.Act.TheVariants.{Answered as DoesAnswer, Lost as DoesLose}
use Rattle.version_model.specs.declared.answer.Answer.{Answer as Answered}
use Rattle.wire_msg.specs.declared.body.Body.{Body}
use Rattle.wire_msg.specs.declared.packet.Packet.{Packet}
use Rattle.xfs_base.specs.declared.node.NodeId.{NodeId}
use Rattle.xfs_base.specs.declared.segment.SegName.{SegName}
use Rattle.xfs_base.specs.Steps.{Stepped, steps}
use Rattle.xfs_base.proofs.Alls.{all_append, all_map}
use Rattle.node_slots.specs.node_tie.StoreEvents.{AllNeutral, PacketsSay}
use Rattle.node_slots.proofs.node_tie.StoreEvents.{AllSay, Says}

-- ---- lists

-- what holds of the outs of each step holds of those of all
pub all_steps : {S O A : Type 0} (step : S → A → Stepped S O) (P : O → Type 0) → ((s : S) (x : A) → AllByRecursion P (step s x).outs)
    → (s : S) (xs : List A) → AllByRecursion P (steps step s xs).outs
all_steps step P each s [] = tt
all_steps step P each s (x ∷ xs) = all_append P (step s x).outs (steps step (step s x).state xs).outs (each s x) (all_steps step P each (step s x).state xs)

-- ---- effects

module _ (P : Body → Type 0) where
  -- an answer is no packet
  pub answers_say : (item : Option ℕ) (answer : Answered) → AllSay P (answers_unanswered item answer)
  answers_say None answer = tt
  answers_say (Some number) answer = (tt, tt)

  pub each_may_say : (to : List NodeId) (said : Body) → P said → AllSay P (send_each to said)
  each_may_say to said may = all_map (Says P) (λ (n : NodeId). Send n said) (λ n. may) to

-- ---- packets

-- what holds of the effects holds of their packets
module _ (P : Packet → Type 0) (D : Effect → Type 0) (node : NodeId)
    (each : (to : NodeId) (said : Body) → D (Send to said) → P (record { from = node; to = to; clock = 0; body = said })) where
  one_packet_does : (effect : Effect) → D effect → All P (packet_of node effect)
  one_packet_does (Send to said) does = All-cons P (record { from = node; to = to; clock = 0; body = said }) [] (each to said does) (All-nil P)
  one_packet_does _ does = All-nil P

  pub packets_do : (effects : List Effect) → AllByRecursion D effects → All P (packets_of node effects)
  packets_do [] all = All-nil P
  packets_do (e ∷ es) all = All-append P (packet_of node e) (packets_of node es) (one_packet_does e all.0) (packets_do es all.1)

-- the packets say what the effects may say
pub packets_say : (P : Body → Type 0) (node : NodeId) (effects : List Effect) → AllSay P effects → PacketsSay P (packets_of node effects)
packets_say P node effects all = packets_do (λ (p : Packet). P p.body) (Says P) node (λ to said may. may) effects all

-- and each is from its node
pub packets_from : (node : NodeId) (effects : List Effect) → All (λ (p : Packet). p.from ≡ node) (packets_of node effects)
packets_from node effects = packets_do (λ (p : Packet). p.from ≡ node) (λ (e : Effect). Unit {0}) node (λ to said may. refl) effects (nothing effects)
  where
    nothing : (es : List Effect) → AllByRecursion (λ (e : Effect). Unit {0}) es
    nothing [] = tt
    nothing (e ∷ es) = (tt, nothing es)

-- ---- acts

-- what holds of the effects holds of their acts
module _ (P : Act → Type 0) (D : Effect → Type 0) (node : NodeId) (answers : (item : ℕ) (answer : Answered) → P (DoesAnswer node item answer))
    (loses : (seg : SegName) → P (DoesLose node seg)) (each : (a : Act) → D (Does a) → P a) where
  one_act_is : (effect : Effect) → D effect → All P (act_of node effect)
  one_act_is (Send to said) does = All-nil P
  one_act_is (Answer item answer) does = All-cons P (DoesAnswer node item answer) [] (answers item answer) (All-nil P)
  one_act_is (Lose seg) does = All-cons P (DoesLose node seg) [] (loses seg) (All-nil P)
  one_act_is (Does a) does = All-cons P a [] (each a does) (All-nil P)

  pub acts_are : (effects : List Effect) → AllByRecursion D effects → All P (acts_of node effects)
  acts_are [] all = All-nil P
  acts_are (e ∷ es) all = All-append P (act_of node e) (acts_of node es) (one_act_is e all.0) (acts_are es all.1)

-- no act changes a history where no effect does
pub all_neutral : (D : Effect → Type 0) (node : NodeId) → ((a : Act) → D (Does a) → IsNeutral a) → (effects : List Effect) → AllByRecursion D effects
    → AllNeutral (acts_of node effects)
all_neutral D node each effects all = acts_are IsNeutral D node (λ item answer. tt) (λ seg. tt) each effects all
