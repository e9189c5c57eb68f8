-- What the nodes of a run keep inside, on which it rests what is seen of the run.
use Rattle.core_world.specs.declared.any_node.AnyNode.{AnyNode}
use Rattle.world_base.specs.declared.estate.Estate.{Estate}
use Rattle.xfs_base.specs.declared.node.NodeId.{NodeId}
use Rattle.headline.specs.Beliefs.{BelievedThroughout}
use Rattle.headline.specs.Boots.{TheCleanerFilesOne}
use Rattle.headline.specs.Deletions.{DeletesBelowHorizons, DropsWhatItDeletes}
use Rattle.headline.specs.Falls.{NobodyHoldsThroughout}
use Rattle.headline.specs.Filings.{FilesItsLog}
use Rattle.headline.specs.Horizons.{HorizonsReached}
use Rattle.headline.specs.Indexes.{IndexesAreItsOwn}
use Rattle.headline.specs.Managers.{OneManagerThroughout}
use Rattle.headline.specs.Owners.{OneOwnerThroughout}
use Rattle.headline.specs.Repeats.{EachIsRepeated}
use Rattle.headline.specs.Replies.{AnswersQuestions}
use Rattle.headline.specs.Segments.{CleanersLogStands, LogsStand, ManagersLogsStand}
use Rattle.headline.specs.Stripes.{FiledIsReadBack}
use Rattle.headline.specs.Versions.{HoldersAreNewestThroughout}
use Rattle.headline.specs.Waits.{CallsWait, WantsAgain}

-- Of each run of the xFS nodes, whatever messages are lost, repeated or reordered and whichever nodes stop:
pub record InsideIsSafe (e : Estate AnyNode) : Type 0 where
  -- at no moment has a block two owners among the clients that serve, nor another holder beside an owner
  pub one_owner : OneOwnerThroughout e
  -- what a client that serves holds of a block, where it keeps a value, is the newest version, with its value: up to the first doubtful restart
  pub holders_newest : HoldersAreNewestThroughout e
  -- nor has a slot two managers at one epoch, or one above the registry's; whoever serves has promised each epoch that is managed
  pub one_manager : OneManagerThroughout e
  -- and who manages it at an epoch, or did last, believes of each client that has promised just that, and of all until one does at a greater epoch, what it
  -- holds, reads or would still accept
  pub beliefs : BelievedThroughout e
  -- nobody holds what a client fell with until it is back
  pub nobody_holds : NobodyHoldsThroughout e
  -- a client whose call is open has asked for what the call lacks, at each moment, and sends each want again whenever time passes
  pub calls_wait : CallsWait e
  pub wants_again : WantsAgain e
  -- and so do clients, managers and the cleaner what of their logs isn't acknowledged, recalls and polls that aren't answered, and checkpoints
  pub repeated : EachIsRepeated e
  -- a server, a manager, the registry, and a client and the cleaner where they serve, answer what they are asked in the event in which it comes, and a shelf
  -- changes only as it is asked to
  pub questions_answered : AnswersQuestions e
  -- what was filed, and was not deleted, stands on the servers' shelves but for lost disks, and one name has one text: in the logs of each kind of owner
  pub logs_stand : LogsStand e
  pub cleaners_log_stands : CleanersLogStands e
  pub managers_logs_stand : ManagersLogsStand e
  -- and each filed segment is read back while no more members hold nothing of it than the parity makes good
  pub read_back : FiledIsReadBack e
  -- and where the cleaner comes back, no two segments of its new incarnation were filed
  pub restarts_file_one : TheCleanerFilesOne e
  -- each segment that a client, the cleaner or a manager files while it serves is of its own log and of the incarnation that opened it, and numbered behind the
  -- one that it filed last; a manager that serves again begins a new log; and nobody else files any
  pub logs_file_on : (name : NodeId) → FilesItsLog e name
  -- and the least horizon that the registry keeps of a client's log, or of the cleaner's, is 1 at most, or at most one beyond a segment that its owner filed
  pub horizons_filed : HorizonsReached e
  -- what servers were told to delete was dropped in an act by then, and is below the least horizon of its log that the registry keeps; what the cleaner drops in
  -- an event it tells a server in it
  pub deletes_dropped : DropsWhatItDeletes e
  pub deletes_below : DeletesBelowHorizons e
  -- the index of each slot is the join of what its manager has applied of the segments that were filed, and a present manager has applied at least what the
  -- kept checkpoint covers; of each log there is one segment of a number, each linked to the next from the least horizon on, none ever changes, and the newest
  -- row of a block is in none that a server was told to delete: up to the first doubtful restart
  pub indexes : IndexesAreItsOwn e
