-- A cleaning that is under way, by what is so of it for as long as it lasts: its item, how many segments it is to empty, and what the cleaner knew as it began.
use Rattle.std.proofs.Common.{◌≡◌, ◌<◌, cond, ℕ, Bool, true, List, Option}
use Rattle.std.specs.List.{AllByRecursion}
use Rattle.cleaner_job.specs.declared.hand.Hand.{Hand}
use Rattle.cleaner_job.specs.declared.job.Job.{Job}
use Rattle.cleaner_serving.specs.declared.emptying.Emptying.{Emptying}
use Rattle.cleaner_serving.specs.Jobs.{Done}
use Rattle.core_world.specs.declared.any_node.AnyNode.{AnyNode}
use Rattle.group_map.specs.GroupMapState.{GroupMapState}
use Rattle.node_base.specs.declared.effects.Effect.{Effect}
use Rattle.node_base.specs.declared.questions.Questions.{Questions}
use Rattle.segment_reading.specs.Reading.{ReadingState}
use Rattle.stripe_cleaner.specs.declared.input.In.{In as Input}
use Rattle.stripe_cleaner.specs.declared.phase.Phase.{Phase}
use Rattle.stripe_cleaner.specs.Job.{Turn}
use Rattle.world_base.specs.declared.estate.Estate.{Estate}
use Rattle.xfs_base.specs.declared.node.NodeId.TheVariants as nodes
use Rattle.xfs_base.specs.declared.segment.SegName.{SegName}
use Rattle.xfs_base.specs.declared.segment.SegRef.{SegRef}
use Rattle.xfs_base.specs.Limits.{u32_end}
use Rattle.xfs_base.specs.Steps.{saying, steps, still}
use Rattle.run_answers.proofs.clean_law.Standing as standing
use Rattle.run_answers.proofs.clean_law.Turns as turns
use Rattle.run_answers.proofs.number_law.Tallies.{Quiet}
use Rattle.headline.specs.Cleanings as cleanings
use Rattle.headline.specs.Tellings as tellings

pub record Frame : Type 0 where
  pub e : Estate AnyNode
  pub begun : ℕ
  pub end : ℕ
  pub last : ℕ
  pub at_first : Option GroupMapState
  pub many : ℕ
  pub item : ℕ
  pub room : last < u32_end

-- by the events before a place
abbrev pub until : Frame → ℕ → Frame
until f place = record f { end = place }

module _ (f : Frame) where
  abbrev pub Knows : GroupMapState → Type 0
  Knows groups = cleanings.KnowsGroups f.e f.begun f.end f.at_first groups

  abbrev pub IsDropped : SegName → Type 0
  IsDropped name = cleanings.IsDropped f.e f.begun f.end name

  abbrev pub HasFetched : SegName → ℕ → ℕ → Type 0
  HasFetched name ask server = tellings.HasFetched f.e nodes.Cleaner f.begun f.end name ask server

  abbrev pub IsLost : SegRef → Type 0
  IsLost segment = cleanings.IsLost f.e f.begun f.end f.last f.at_first segment

  abbrev pub Empties : List SegRef → ℕ → Type 0
  Empties left deleted = standing.EmptyingSo f.e f.begun f.end f.last f.at_first f.many left deleted

  abbrev pub ReadingSo : Questions → SegRef → ReadingState → Type 0
  ReadingSo q segment r = standing.ReadingSo f.e f.begun f.end f.last f.at_first q segment r

  abbrev pub HandSo : Questions → Hand → Type 0
  HandSo q h = standing.HandSo f.e f.begun f.end f.last f.at_first q h

  abbrev pub PhaseSo : Option ℕ → Option Hand → Phase → Type 0
  PhaseSo asked hand p = standing.PhaseSo f.e f.begun f.end f.last f.at_first f.many asked hand p

  abbrev pub TurnSo : Option ℕ → Option Hand → Turn → Type 0
  TurnSo asked hand t = turns.TurnSo f.e f.begun f.end f.last f.at_first f.many f.item asked hand t

  abbrev pub InputSo : Option ℕ → Option Hand → Input → Type 0
  InputSo asked hand given = turns.InputSo f.e f.begun f.end f.last f.at_first f.many f.item asked hand given

  abbrev pub DueSo : ℕ → Type 0
  DueSo cleaned = standing.DueSo f.e f.begun f.end f.last f.at_first f.many f.item cleaned

  abbrev pub WorksSo : Option ℕ → Questions → Option GroupMapState → Job → Type 0
  WorksSo u q groups job = standing.WorksSo f.e f.begun f.end f.last f.at_first f.many f.item u q groups job

  abbrev pub JobSo : Option ℕ → Questions → Option GroupMapState → Option Job → Type 0
  JobSo u q groups job = standing.JobSo f.e f.begun f.end f.last f.at_first f.many f.item u q groups job

  abbrev pub At : Emptying → Type 0
  At s = standing.At f.e f.begun f.end f.last f.at_first f.many f.item s

  abbrev pub EffectSo : Effect → Type 0
  EffectSo x = standing.EffectSo f.e f.begun f.end f.last f.at_first f.many f.item x

  abbrev pub Acted : Effect → Type 0
  Acted x = standing.Acted f.e f.begun f.end f.last f.at_first f.many f.item x

  abbrev pub Leads : Done → Type 0
  Leads d = standing.Leads f.e f.begun f.end f.last f.at_first f.many f.item d

  abbrev pub Goes : Emptying → Done → Type 0
  Goes s d = standing.Goes f.e f.begun f.end f.last f.at_first f.many f.item s d

  pub quiet_so : (outs : List Effect) → AllByRecursion Quiet outs → AllByRecursion EffectSo outs
  quiet_so = standing.quiet_so f.e f.begun f.end f.last f.at_first f.many f.item

  pub quiet_leads : (d : Done) → At d.state → AllByRecursion Quiet d.outs → Leads d
  quiet_leads = standing.quiet_leads f.e f.begun f.end f.last f.at_first f.many f.item

  pub rests : (s : Emptying) → Goes s (still s)
  rests = standing.rests f.e f.begun f.end f.last f.at_first f.many f.item

  pub from_goes : (s t : Emptying) (d : Done) → (At s → At t) → Goes t d → Goes s d
  from_goes = standing.from_goes f.e f.begun f.end f.last f.at_first f.many f.item

  pub plainly : (s : Emptying) (d : Done) → (At s → At d.state) → AllByRecursion Quiet d.outs → Goes s d
  plainly = standing.plainly f.e f.begun f.end f.last f.at_first f.many f.item

  pub then_goes : (s : Emptying) (d g : Done) → Goes s d → Goes d.state g → Goes s (saying d.outs g)
  then_goes = standing.then_goes f.e f.begun f.end f.last f.at_first f.many f.item

  pub first_goes : (s : Emptying) (outs : List Effect) (g : Done) → AllByRecursion Quiet outs → Goes s g → Goes s (saying outs g)
  first_goes = standing.first_goes f.e f.begun f.end f.last f.at_first f.many f.item

  pub if_goes : (t : Bool) (s : Emptying) (d : Done) → (t ≡ true → Goes s d) → Goes s (cond t d (still s))
  if_goes = standing.if_goes f.e f.begun f.end f.last f.at_first f.many f.item

  pub steps_go : {A : Type 0} (step : Emptying → A → Done) → ((s : Emptying) (x : A) → Goes s (step s x)) → (s : Emptying) (xs : List A)
      → Goes s (steps step s xs)
  steps_go step each s xs = standing.steps_go f.e f.begun f.end f.last f.at_first f.many f.item step each s xs
