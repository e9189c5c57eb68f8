-- How the cleaner is seen as the owner of its log in the small world of that log: as a client is in that of its own.
use Rattle.std.specs.Prelude.{◌≡◌, ℕ, IfSome}
use Rattle.log_owner.specs.declared.opening.Opening as openings
use Rattle.cleaner_serving.specs.declared.emptying.Emptying.{Emptying}
use Rattle.cleaner_node.specs.declared.cleaner.Phase.{Phase}
use Rattle.cleaner_node.specs.declared.cleaner.Phase.TheVariants.{Down, Opening, Serving}
use Rattle.cleaner_job.specs.declared.job.Job.{Job}
use Rattle.cleaner_job.specs.declared.lasting.Lasting.{Lasting}
use Rattle.cleaner_job.specs.Starting.{cleaner_log}
use Rattle.xfs_base.specs.declared.node.NodeId.TheVariants.{Cleaner}
use Rattle.log_tie.specs.Setting.{Setting}
use Rattle.log_law.specs.Net.{Owner as owner}
use Rattle.node_logs.specs.node_log_tie.CleanerEvents.{JobSeen}
use Rattle.node_logs.specs.node_log_tie.Sight.{Asker}
use Rattle.node_logs.specs.node_log_tie.Sight.Question.{OfMaps}
use Rattle.node_logs.specs.client_log_tie.ClientEvents.{StageWritten}
use Rattle.node_logs.specs.client_log_tie.Owner.{Scene, Lasts, SeesStage, SeesLog}
use Rattle.node_logs.specs.client_log_tie.Texts.{StaysWritten}
use Rattle.node_logs.specs.opening_law.Questions.{StageAsks}
use Rattle.node_logs.specs.cleaner_log_tie.Fitting.{HandFits, PhaseFits}

-- the cleaner that owns the log
abbrev pub its_asker : Scene → Asker
its_asker w = record { node = Cleaner; asked = w.asked }

-- its number, as a client has the number of its log
abbrev pub its_number : ℕ
its_number = cleaner_log.0

module _ (g : Setting) (w : Scene) where
  -- what outlives a crash: its incarnation is the owner's, and it asked nothing by later numbers
  abbrev pub LastsAs : Lasting → Type 0
  LastsAs l = Lasts g its_number w its_number l.inc l.questions.last

  -- Its job: what that deletes may be dropped, its question to the registry is one for the maps, and what it moves fits the format.
  pub record JobStands (job : Job) : Type 0 where
    pub seen : JobSeen g w.net job
    pub hello : IfSome job.hello (λ ask. w.asked ask ≡ OfMaps)
    pub phase : PhaseFits job.cleaning.phase
    pub hand : IfSome job.hand HandFits

  -- one that serves: its log is that of the owner, and stays written
  pub record Stands (e : Emptying) : Type 0 where
    pub lasts : LastsAs e.lasting
    pub log : SeesLog g its_number w e.log
    pub written : StaysWritten e.log
    pub job : IfSome e.job JobStands

  -- One that opens its log: its scan is that of the owner, or its opening segment is in flight there; and it has asked no more questions than its node.
  pub record Opens (l : Lasting) (o : openings.Opening) : Type 0 where
    pub lasts : LastsAs l
    pub sees : SeesStage g its_number w o.known l.questions.last o.stage
    pub written : StageWritten o.stage
    pub asks : StageAsks o.stage l.questions.last

  abbrev pub CleanerAgrees : Phase → Type 0
  CleanerAgrees (Down l) = LastsAs l × (w.net.owner ≡ owner.Down)
  CleanerAgrees (Opening l o) = Opens l o
  CleanerAgrees (Serving e) = Stands e
