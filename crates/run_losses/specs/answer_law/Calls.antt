-- Calls whose plans never end by themselves with the answer that a segment is lost, and the clients that have such calls alone.
use Rattle.std.specs.Prelude.{ℕ, List, Option, Some, None}
use Rattle.client_node.specs.declared.client.Client.{Client}
use Rattle.client_node.specs.declared.phase.Phase.{Phase}
use Rattle.client_node.specs.declared.phase.Phase.TheVariants.{Down, Opening, Serving as Serves}
use Rattle.client_node.specs.Phases.{client_step, lasting_of}
use Rattle.client_node.specs.Starting.{client_start}
use Rattle.client_call.specs.declared.call.Call.{Call}
use Rattle.client_call.specs.declared.call.Plan.{Plan}
use Rattle.client_call.specs.declared.call.Plan.TheVariants.{One, File}
use Rattle.file_plan.specs.declared.state.PlanState.{PlanState}
use Rattle.file_plan.specs.declared.state.PlanState.TheVariants.{Ends}
use Rattle.version_model.specs.declared.answer.Answer.{Answer}
use Rattle.version_model.specs.declared.answer.Answer.TheVariants as answer
use Rattle.version_model.specs.declared.work.Work.{Work}
use Rattle.wire_msg.specs.declared.packet.Do.{Do}
use Rattle.xfs_base.specs.declared.setup.Setup.{Setup}
use Rattle.run_losses.specs.answer_law.Answers.{SaysLosses}

-- an answer that says nothing of losses
abbrev pub NotLost : Answer → Type 0
NotLost (answer.Lost name) = ⊥
NotLost _ = Unit {0}

-- a plan that has not ended with the answer that a segment is lost
abbrev pub EndsWell : PlanState → Type 0
EndsWell (Ends a) = NotLost a
EndsWell _ = Unit {0}

abbrev pub PlansWell : Plan → Type 0
PlansWell One = Unit {0}
PlansWell (File plan) = EndsWell plan

-- the open call has such a plan, where one is open
abbrev pub CallsWell : Option Call → Type 0
CallsWell None = Unit {0}
CallsWell (Some call) = PlansWell call.plan

-- so has the call of a client that serves
abbrev pub GoesWell : Phase → Type 0
GoesWell (Down l) = Unit {0}
GoesWell (Opening l o) = Unit {0}
GoesWell (Serves s) = CallsWell s.call

-- At the start no call is open.
abbrev pub ClientsStartWell : Type 0
ClientsStartWell = (number : ℕ) (setup : Setup) (works : List Work) → GoesWell (client_start number setup works).phase

-- what an event makes of a client whose call has such a plan: so it is then, and it says what is lost before it answers so
pub record ClientSays (client : Client) (what : Do) : Type 0 where
  pub goes : GoesWell (client_step client what).node.phase
  pub says : SaysLosses (lasting_of client.phase).items what (client_step client what).acts

abbrev pub ClientsSay : Type 0
ClientsSay = (client : Client) (what : Do) → GoesWell client.phase → ClientSays client what
