-- A client that doesn't serve: what it says of tokens, and takes of them.
use Rattle.std.specs.Prelude.{◌≡◌, ◌⊎◌, Bool, true, false, All, []}
use Rattle.client_node.specs.declared.client.Client.{Client}
use Rattle.client_node.specs.declared.phase.Phase.{Phase}
use Rattle.client_node.specs.declared.phase.Phase.TheVariants.{Down, Opening, Serving as Serves}
use Rattle.client_node.specs.Phases.{client_step}
use Rattle.node_base.specs.Asking.{draw}
use Rattle.wire_msg.specs.declared.body.Body.{Body}
use Rattle.wire_msg.specs.declared.body.Body.TheVariants as body
use Rattle.wire_msg.specs.declared.packet.Do.{Do}
use Rattle.wire_msg.specs.declared.packet.Do.TheVariants.{Deliver}
use Rattle.wire_msg.specs.declared.packet.Packet.{Packet}
use Rattle.wire_msg.specs.NodeStep.{NodeStep}

abbrev pub serves : Phase → Bool
serves (Down l) = false
serves (Opening l o) = false
serves (Serves s) = true

-- what only a client that serves says: Want, Gave, Report, and Supply
abbrev pub tells_of_tokens : Body → Bool
tells_of_tokens (body.Want m) = true
tells_of_tokens (body.Gave m) = true
tells_of_tokens (body.Report m) = true
tells_of_tokens (body.Supply m) = true
tells_of_tokens _ = false

-- what is said to a client of its tokens: Grant, Supply, Forward, Recall, Gone, and Poll
abbrev pub is_about_tokens : Body → Bool
is_about_tokens (body.Grant m) = true
is_about_tokens (body.Supply m) = true
is_about_tokens (body.Forward m) = true
is_about_tokens (body.Recall m) = true
is_about_tokens (body.Gone m) = true
is_about_tokens (body.Poll m) = true
is_about_tokens _ = false

-- a question for the maps
abbrev pub asks_for_maps : Body → Bool
asks_for_maps (body.Hello m) = true
asks_for_maps _ = false

-- the phase, once a question was drawn
abbrev pub with_question : Phase → Phase
with_question (Down l) = Down l
with_question (Opening l o) = Opening (record l { questions = draw l.questions }) o
with_question (Serves s) = Serves s

-- Whatever happens to a client that doesn't serve, it sends no Want, Gave, Report or Supply: so in the very event in which it begins to serve.
abbrev pub SaysNothingOfTokens : Type 0
SaysNothingOfTokens =
    (client : Client) (what : Do) → serves client.phase ≡ false → All (λ packet. tells_of_tokens packet.body ≡ false) (client_step client what).packets

-- the phase is as it was, or as it was but that a question was drawn; all that is sent are questions for the maps, and nothing is acted
pub record IsUnmoved (phase : Phase) (step : NodeStep Client) : Type 0 where
  pub phase_is : (step.node.phase ≡ phase) ⊎ (step.node.phase ≡ with_question phase)
  pub sends : All (λ packet. asks_for_maps packet.body ≡ true) step.packets
  pub acts : step.acts ≡ []

-- A Grant, Supply, Forward, Recall, Gone or Poll leaves a client that doesn't serve as it was, but that it may ask for the maps.
abbrev pub TakesNothingOfTokens : Type 0
TakesNothingOfTokens =
    (client : Client) (packet : Packet) → serves client.phase ≡ false → is_about_tokens packet.body ≡ true
    → IsUnmoved client.phase (client_step client (Deliver packet))
