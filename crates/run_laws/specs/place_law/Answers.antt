-- Managers alone answer Live, and each Live answers a Check, of its block and its question, at the place that its entry has.
use Rattle.std.specs.Prelude.{◌≡◌, ℕ, Some}
use Rattle.std.specs.List.{AllByRecursion}
use Rattle.core_world.specs.AnyNode.{any_start, any_step}
use Rattle.core_world.specs.declared.any_node.AnyNode.{AnyNode}
use Rattle.manager_node.specs.declared.manager.Manager.{Manager}
use Rattle.manager_node.specs.Events.{manager_step}
use Rattle.node_base.specs.Setups.{IsSetup}
use Rattle.wire_msg.specs.declared.body.Body.{Body}
use Rattle.wire_msg.specs.declared.body.Body.TheVariants as body
use Rattle.wire_msg.specs.declared.cleaning.Check.{Check}
use Rattle.wire_msg.specs.declared.cleaning.Live.{Live}
use Rattle.wire_msg.specs.declared.packet.Do.{Do}
use Rattle.wire_msg.specs.declared.packet.Do.TheVariants.{Begin, Deliver, Tick}
use Rattle.wire_msg.specs.declared.packet.Packet.{Packet}
use Rattle.world_base.specs.declared.estate.Estate.{Estate}
use Rattle.world_base.specs.Runs.{IsRun}
use Rattle.headline.specs.Moments.{moment}
use Rattle.run_laws.specs.place_law.Copies.{LivesAnswer}

-- ---- one event

-- the Live answers this Check
pub record AnswersCheck (check : Check) (m : Live) : Type 0 where
  pub block : check.block ≡ m.block
  pub ask : check.ask ≡ m.ask
  pub place : m.entry.place ≡ Some check.place

abbrev pub AnswersBody : Body → Live → Type 0
AnswersBody (body.Check check) m = AnswersCheck check m
AnswersBody _ m = ⊥

-- it answers what is delivered
abbrev pub AnswersDo : Do → Live → Type 0
AnswersDo (Deliver packet) m = AnswersBody packet.body m
AnswersDo Begin m = ⊥
AnswersDo Tick m = ⊥

-- where a body is a Live, that is so
abbrev pub IfLive : (Live → Type 0) → Body → Type 0
IfLive Is (body.Live m) = Is m
IfLive Is _ = Unit {0}

-- Whatever happens to a manager, each Live that it sends answers the Check that was delivered.
abbrev pub ManagersAnswer : Type 0
ManagersAnswer = (manager : Manager) (what : Do) → AllByRecursion (λ (p : Packet). IfLive (AnswersDo what) p.body) (manager_step manager what).packets

-- ---- runs

-- At each moment of a run each Live that was sent answers a Check that was sent.
abbrev pub RunsAnswer : Type 0
RunsAnswer =
    (e : Estate AnyNode) (count : ℕ) → IsSetup e.script.setup → IsRun any_step any_start e.script e.events e.world → LivesAnswer (moment e count).sent
