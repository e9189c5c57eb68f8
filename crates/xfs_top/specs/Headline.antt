-- What is claimed of the run that a call of the program played: the headline, of a run in whatever order its items begin; in which order one thread begins them
-- the claim of the call says (`run`). Two premises stand before all of it: the registry does not fail, no line of a script stops it, but by `boards`, where
-- three boards stand in its place, of which any may stop; and want of memory ends the call, and then there is no run.
use Rattle.board_play.specs.Played.{IsBoardPlayed}
use Rattle.board_play.specs.Plays.{estate_of as board_estate_of}
use Rattle.core_world.specs.AnyNode.{any_start, any_step}
use Rattle.core_world.specs.declared.any_node.AnyNode.{AnyNode}
use Rattle.headline.specs.Turns.{AnswersInTurn}
use Rattle.std.specs.Prelude.{◌≡◌, true, Option, Some}
use Rattle.top_call.specs.Claim.{is_full}
use Rattle.top_call.specs.declared.command.Command.{Command}
use Rattle.top_call.specs.declared.command.Command.TheVariants.{Boards, Live, Mount}
use Rattle.world_base.specs.declared.estate.Estate.{Estate}
use Rattle.world_base.specs.Runs.{IsWholeRun}
use Rattle.headline.specs.Safe.{IsSafe}

-- Of a run that was played:
pub record Headline (e : Estate AnyNode) : Type 0 where
  -- its events are one run of the xFS nodes, of its script: each node begins its items in order, each once, and none is left out
  pub whole : IsWholeRun any_step any_start e
  pub safe : IsSafe e

-- Of a run by workers:
pub record LiveHeadline (e : Estate AnyNode) : Type 0 where
  -- where no item of it is open, its events are one run of the xFS nodes, of its script: each node begins its items in order, each once, and none is left out
  pub whole : is_full e ≡ true → IsWholeRun any_step any_start e
  -- and whether it was given up or not, all that is said of a run is so of it, and of one in which items begin in turn
  pub safe : IsSafe e
  pub in_turn : AnswersInTurn e

-- Of a run that was played with three boards in the registry's place, whichever of them stop:
pub record BoardHeadline (e : Estate AnyNode) : Type 0 where
  -- it is the one that its script determines
  pub determined : e ≡ (board_estate_of any_step any_start e.script).estate
  -- what happened to nodes and boards stands for its events, which are a run of the xFS nodes with one registry, of its script: each node but the registry
  -- begins its items in order, each once, and none is left out; the registry begins its first so many
  pub played : IsBoardPlayed any_step any_start (board_estate_of any_step any_start e.script)
  -- and all that is said of a run with a registry that doesn't fail is so of it
  pub safe : IsSafe e

-- what is claimed of the run of a command
abbrev pub HeadlineOf : Option Command → Estate AnyNode → Type 0
HeadlineOf (Some Boards) e = BoardHeadline e
HeadlineOf (Some (Live workers)) e = LiveHeadline e
HeadlineOf (Some (Mount workers)) e = LiveHeadline e
HeadlineOf command e = Headline e
