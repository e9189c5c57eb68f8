-- What the effects of an event say, where those of each of its parts say it; and what its packets say then.
use Rattle.std.proofs.Common.{ℕ, List, [], ◌∷◌, Option, Some, None, All}
use Rattle.std.specs.List.{AllByRecursion}
use Rattle.std.proofs.lemmas.List.Elements.{All-nil, All-cons, All-append}
use Rattle.delta_feed.specs.declared.output.Out as feed_out
use Rattle.delta_feed.specs.declared.output.Out.TheVariants.{Range}
use Rattle.delta_feed.specs.FeedState.{FeedState}
use Rattle.delta_feed.specs.Transition.{feed_tick}
use Rattle.log_owner.specs.declared.promised.Managers.{Managers}
use Rattle.log_owner.specs.Sending.{range, push_all}
use Rattle.node_base.specs.Beginning.{answers_unanswered}
use Rattle.node_base.specs.declared.effects.Effect.{Effect}
use Rattle.node_base.specs.declared.effects.Effect.TheVariants.{Send, Answer, Lose, Does}
use Rattle.node_base.specs.Effects.{packet_of, packets_of}
use Rattle.version_model.specs.declared.answer.Answer.{Answer as Answered}
use Rattle.wire_msg.specs.declared.body.Body.{Body}
use Rattle.wire_msg.specs.declared.body.Body.TheVariants as body
use Rattle.wire_msg.specs.declared.packet.Packet.{Packet}
use Rattle.xfs_base.specs.declared.node.NodeId.{NodeId}
use Rattle.xfs_base.proofs.Alls.{all_map}

-- ---- effects

-- what is sent is said so
abbrev pub Says : (Body → Type 0) → Effect → Type 0
Says P (Send to said) = P said
Says P (Answer item answer) = Unit {0}
Says P (Lose seg) = Unit {0}
Says P (Does act) = Unit {0}

abbrev pub AllSay : (Body → Type 0) → List Effect → Type 0
AllSay P effects = AllByRecursion (Says P) effects

module _ (P : Body → Type 0) where
  pub answers_say : (item : Option ℕ) (answer : Answered) → AllSay P (answers_unanswered item answer)
  answers_say None answer = tt
  answers_say (Some number) answer = (tt, tt)

  -- what goes to all slots of a log are Deltas
  pub pushes_say : ((m : _) → P (body.Deltas m)) → (managers : Managers) (feed : FeedState) → AllSay P (push_all managers feed)
  pushes_say may managers feed = all_map (Says P) (range managers) one (feed_tick feed)
    where
      one : (out : feed_out.Out) → Says P (range managers out)
      one (Range slot first upto rows) = may _

  one_packet_says : (node : NodeId) (effect : Effect) → Says P effect → All (λ (p : Packet). P p.body) (packet_of node effect)
  one_packet_says node (Send to said) says =
      All-cons (λ (p : Packet). P p.body) (record { from = node; to = to; clock = 0; body = said }) [] says (All-nil (λ (p : Packet). P p.body))
  one_packet_says node (Answer item answer) says = All-nil (λ (p : Packet). P p.body)
  one_packet_says node (Lose seg) says = All-nil (λ (p : Packet). P p.body)
  one_packet_says node (Does act) says = All-nil (λ (p : Packet). P p.body)

  -- the packets say what the effects say
  pub packets_say : (node : NodeId) (effects : List Effect) → AllSay P effects → All (λ (p : Packet). P p.body) (packets_of node effects)
  packets_say node [] all = All-nil (λ (p : Packet). P p.body)
  packets_say node (e ∷ es) all =
      All-append (λ (p : Packet). P p.body) (packet_of node e) (packets_of node es) (one_packet_says node e all.0) (packets_say node es all.1)
