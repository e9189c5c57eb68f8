-- What one line of a script does to a stage, and what is asked of every line for a whole script to be answered within the bounds.
use Rattle.std.specs.Prelude.{◌≡◌, ◌≤◌, ◌⊎◌, ℕ, suc, List, [], ◌∷◌, ◌++◌, length, Some}
use Rattle.play.specs.Plays.{answers}
use Rattle.script_text.specs.declared.script.Line.{Line}
use Rattle.script_text.specs.declared.script.Script.{Script}
use Rattle.version_model.specs.declared.act.Act.{Act}
use Rattle.version_model.specs.declared.act.Act.TheVariants as acts
use Rattle.version_model.specs.declared.answer.Answer.{Answer}
use Rattle.version_model.specs.declared.work.Work.{Work}
use Rattle.wire_msg.specs.declared.packet.Do.{Do}
use Rattle.wire_msg.specs.NodeStep.{NodeStep}
use Rattle.world_base.specs.Cluster.{HasNode}
use Rattle.world_base.specs.Items.{actor_of, items_of}
use Rattle.world_base.specs.NextWorld.{first_node}
use Rattle.xfs_base.specs.declared.node.NodeId.{NodeId}
use Rattle.xfs_base.specs.declared.setup.Setup.{Setup}
use Rattle.quiet_flow.specs.Flow.{Drains, Stage, begins, rounds}
use Rattle.headline.specs.Bounds.{most_deliveries}
use Rattle.headline.specs.ItemActs.{IsOfCall}

-- what is acted beyond this has one answer, that of this item of this node, as a call is answered that is done
pub record AnswersOne (done more : List Act) (node : NodeId) (item : ℕ) : Type 0 where
  pub answer : Answer
  pub of_call : IsOfCall answer
  pub before : List Act
  pub after : List Act
  pub acted : more ≡ done ++ (before ++ acts.Answered node item answer ∷ after)
  pub none_before : answers before ≡ 0
  pub none_after : answers after ≡ 0

module _ {N : Type 0} (step : N → Do → NodeStep N) (setup : Setup) where
  -- A node begins this item of its list: with so many deliveries nothing is on its way, and the item is answered; and so it is then.
  pub record EndsSoon (most : ℕ) (t : Stage N) (node : NodeId) (item : ℕ) (Then : Stage N → Type 0) : Type 0 where
    pub end : Stage N
    pub deliveries : ℕ
    pub few : deliveries ≤ most
    pub drains : Drains step setup deliveries (begins step t node).state (begins step t node).outs end
    pub settled : end.unanswered ≡ 0
    pub answers_it : AnswersOne t.acts end.acts node item
    pub so_then : Then end

  -- The same, but the item is unanswered when nothing is on its way; time passes at each node, and with so many deliveries more it is answered.
  pub record EndsLater (most more : ℕ) (t : Stage N) (node : NodeId) (item : ℕ) (Then : Stage N → Type 0) : Type 0 where
    pub mid : Stage N
    pub first : ℕ
    pub first_few : first ≤ most
    pub first_drains : Drains step setup first (begins step t node).state (begins step t node).outs mid
    pub waits : 1 ≤ mid.unanswered
    pub end : Stage N
    pub second : ℕ
    pub second_few : second ≤ more
    pub second_drains : Drains step setup second (rounds step setup mid).state (rounds step setup mid).outs end
    pub settled : end.unanswered ≡ 0
    pub answers_it : AnswersOne t.acts end.acts node item
    pub so_then : Then end

-- the stage before the first line
abbrev pub start_stage : {N : Type 0} → (NodeId → Setup → List Work → N) → Script → Stage N
start_stage first script = record { node = first_node first script; acts = []; unanswered = 0 }

module _ {N : Type 0} (step : N → Do → NodeStep N) (script : Script) (Between : List Line → Stage N → Type 0) where
  -- A line begins the next item of a node that there is, and ends with that answered, at once or after a round. `Between` says what is so of the stage once
  -- some lines are played.
  pub record LeadsOn (played : List Line) (line : Line) (t : Stage N) : Type 0 where
    pub node : NodeId
    pub actor : actor_of line.work ≡ Some node
    pub has : HasNode script.setup node
    pub ends : EndsSoon step script.setup most_deliveries t node (suc (length (items_of played node))) (Between (played ++ line ∷ []))
        ⊎ EndsLater step script.setup 63 65 t node (suc (length (items_of played node))) (Between (played ++ line ∷ []))

  -- each line of the script does
  abbrev pub LinesLeadOn : Type 0
  LinesLeadOn =
      (played rest : List Line) (line : Line) (t : Stage N) → script.lines ≡ played ++ line ∷ rest → Between played t → t.unanswered ≡ 0
      → LeadsOn played line t
