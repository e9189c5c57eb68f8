-- What a client that serves does by itself, whatever packet comes and as time passes.
use Rattle.std.specs.Prelude.{◌≡◌, ℕ}
use Rattle.std.specs.List.{AllByRecursion}
use Rattle.client_serving.specs.declared.serving.Serving.{Serving}
use Rattle.client_serving.specs.Sends.{Done}
use Rattle.log_owner.specs.Behaves.{IsServer, MayAct}
use Rattle.node_base.specs.declared.effects.Effect.{Effect}
use Rattle.node_base.specs.declared.effects.Effect.TheVariants as effect
use Rattle.version_model.specs.declared.answer.Answer.{Answer}
use Rattle.version_model.specs.declared.answer.Answer.TheVariants as answer
use Rattle.wire_msg.specs.declared.body.Body.{Body}
use Rattle.wire_msg.specs.declared.body.Body.TheVariants as body
use Rattle.xfs_base.specs.declared.node.NodeId.{NodeId}
use Rattle.xfs_base.specs.declared.node.NodeId.TheVariants.{Client, Manager, Registry}

abbrev pub IsManager : NodeId → Type 0
IsManager (Manager number) = Unit {0}
IsManager _ = ⊥

abbrev pub IsClient : NodeId → Type 0
IsClient (Client number) = Unit {0}
IsClient _ = ⊥

-- To managers it says what it wants, what it gave up, what it holds and what its log has; other clients it supplies with blocks; servers it
-- asks for fragments, or tells to store one; the registry it asks for the maps. What it wants and asks is of its incarnation.
abbrev pub MaySay : ℕ → NodeId → Body → Type 0
MaySay inc to (body.Want want) = IsManager to × (want.inc ≡ inc)
MaySay inc to (body.Gave gave) = IsManager to
MaySay inc to (body.Deltas deltas) = IsManager to
MaySay inc to (body.Report report) = IsManager to
MaySay inc to (body.Supply supply) = IsClient to
MaySay inc to (body.Fetch fetch) = IsServer to
MaySay inc to (body.Store store) = IsServer to
MaySay inc to (body.Hello hello) = (to ≡ Registry) × (hello.inc ≡ inc)
MaySay inc to _ = ⊥

-- that a segment is lost
abbrev pub IsLoss : Answer → Type 0
IsLoss (answer.Lost seg) = Unit {0}
IsLoss _ = ⊥

-- It acts only that segments are filed, and answers only that one is lost.
abbrev pub MayDo : ℕ → Effect → Type 0
MayDo inc (effect.Send to body) = MaySay inc to body
MayDo inc (effect.Lose seg) = Unit {0}
MayDo inc (effect.Does act) = MayAct act
MayDo inc (effect.Answer item answer) = IsLoss answer

-- it does what it may, and stays the client that it is, in its incarnation
pub record Behaves (s : Serving) (d : Done) : Type 0 where
  pub does : AllByRecursion (MayDo s.lasting.inc) d.outs
  pub number : d.state.lasting.number ≡ s.lasting.number
  pub inc : d.state.lasting.inc ≡ s.lasting.inc
