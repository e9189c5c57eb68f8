-- The play on one thread goes by the schedule as each such play does: what is sent or delivered leaves as much to happen for the line in hand as there was.
use Rattle.std.proofs.Common.{◌≡◌, refl, ◌∙◌, ℕ, ◌-◌, true, false, cond, nat_lt, List, [], ◌∷◌, ◌++◌, length, Option, Some, None, fold, slice_get}
use Rattle.std.specs.List.{range_with_len}
use Rattle.wire_msg.specs.declared.packet.Do.{Do}
use Rattle.wire_msg.specs.declared.packet.Packet.{Packet}
use Rattle.wire_msg.specs.NodeStep.{NodeStep}
use Rattle.xfs_base.specs.declared.node.NodeId.{NodeId}
use Rattle.world_base.specs.declared.event.Event.{Event}
use Rattle.world_base.specs.declared.event.Event.TheVariants as events
use Rattle.world_base.specs.NextWorld.{next_world}
use Rattle.world_base.specs.Schedule.{ScheduleState, left, repeated, schedule_send}
use Rattle.play.specs.declared.player.Player.{Player}
use Rattle.play.specs.Manner.{IsLawful}
use Rattle.play.specs.Plays.{delivered, delivers, player_happen, manner_of, send_since, ticks}

sent_keeps : (s : ScheduleState) (number : ℕ) → left (schedule_send s number) ≡ left s
unfolding schedule_send
sent_keeps s number = elim (nat_lt 0 s.lose) as (λ t. left (cond t (record s { lose = s.lose - 1 }) (record s { queue = s.queue ++ number ∷ [] })) ≡ left s) [
  | true ↦ refl
  | false ↦ refl
]

all_sent_keep : (s : ScheduleState) (numbers : List ℕ) → left (fold schedule_send s numbers) ≡ left s
all_sent_keep s [] = refl
all_sent_keep s (n ∷ numbers) = all_sent_keep (schedule_send s n) numbers ∙ sent_keeps s n

-- what was sent since there was so much changes nothing of it
pub sent_since_keeps : (s : ScheduleState) (before now : ℕ) → left (send_since s before now) ≡ left s
unfolding send_since
sent_since_keeps s before now = all_sent_keep s (range_with_len before (now - before))

pub repeated_keeps : (s : ScheduleState) (number : ℕ) → left (repeated s number) ≡ left s
unfolding repeated
repeated_keeps s number = elim (nat_lt 0 s.again) as (λ t. left (cond t (record s { again = s.again - 1; queue = s.queue ++ number ∷ [] }) s) ≡ left s) [
  | true ↦ refl
  | false ↦ refl
]

module _ {N : Type 0} (step : N → Do → NodeStep N) where
  happens_keeps : (p : Player N) (event : Event) → left (player_happen step p event).schedule ≡ left p.schedule
  unfolding player_happen
  happens_keeps p event = sent_since_keeps p.schedule (length p.world.sent) (length (next_world step p.world event).sent)

  delivers_keeps : (p : Player N) (number : ℕ) (packet : Option Packet) → left (delivers step p number packet).schedule ≡ left p.schedule
  delivers_keeps p number None = refl
  delivers_keeps p number (Some packet) = repeated_keeps (player_happen step p (events.Deliver packet)).schedule number ∙ happens_keeps p (events.Deliver packet)

  delivery_keeps : (p : Player N) (number : ℕ) → left (delivered step p number).schedule ≡ left p.schedule
  unfolding delivered
  delivery_keeps p number = delivers_keeps p number (slice_get p.world.sent number)

  tick_keeps : (p : Player N) (node : NodeId) → left (ticks step p node).schedule ≡ left p.schedule
  unfolding ticks
  tick_keeps p node = happens_keeps p (events.Tick node)

  pub lawful : IsLawful (manner_of step)
  lawful = record {
    told = λ p s. refl;
    as_it_was = λ p. refl;
    as_many = λ p s. refl;
    delivery_keeps = delivery_keeps;
    tick_keeps = tick_keeps;
  }
