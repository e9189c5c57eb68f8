-- What a caller of the program, or a reader of its text, sees of a run: answers, versions, falls, what is settled, and losses.
use Rattle.std.specs.Prelude.{ℕ}
use Rattle.core_world.specs.declared.any_node.AnyNode.{AnyNode}
use Rattle.world_base.specs.declared.estate.Estate.{Estate}
use Rattle.world_base.specs.Items.{works_of}
use Rattle.headline.specs.Answers.{AnswersAreActs, VersionsAreNewest}
use Rattle.headline.specs.Changes.{CallsFindVersions}
use Rattle.headline.specs.Checkpoints.{CheckpointsAreTrue}
use Rattle.headline.specs.Cleanings.{CleaningsTakeWhatIsDue}
use Rattle.headline.specs.Dues.{AnswersDue}
use Rattle.headline.specs.Falls.{FallsApartThroughout}
use Rattle.headline.specs.Files.{FileAnswersArePlanned}
use Rattle.headline.specs.ItemActs.{CallsAreAnswered, CallsGoOn, ClientsActForItems, OpenCallsHaveRun}
use Rattle.headline.specs.Items.{ItemsAnsweredOnce}
use Rattle.headline.specs.Linear.{IsLinearizable}
use Rattle.headline.specs.Losses.{EachLostActIsEarned, LostAnswersEarned, WithoutLossesNothingIsLost}
use Rattle.headline.specs.Numbers.{NumbersAreTrue}
use Rattle.headline.specs.OneMachine.{CallsAsOneMachine, FilesAsOneMachine}
use Rattle.headline.specs.Restarts.{LosesNone, NoDoubtfulRestart}
use Rattle.headline.specs.Settled.{BlocksAreSettled}
use Rattle.headline.specs.Standings.{AnswersFit}
use Rattle.headline.specs.Syncs.{SyncsSettle}
use Rattle.headline.specs.Turns.{AnswersInTurn, BeginsInTurn, CrashesAreFelt}
use Rattle.headline.specs.Updates.{NoUpdateIsLost}
use Rattle.headline.specs.Versions.{LegalActs, LegalWithoutLosses}

-- Clients act for their items, and for nothing else.
pub record ActsBelongToItems (e : Estate AnyNode) : Type 0 where
  -- each event of a client acts for its open item, or for the one that it begins; other nodes neither act on blocks nor fall nor come back as clients do
  pub events : ClientsActForItems e
  -- since the Begin of its item an open call has acted on blocks just what its answers so far tell of, and an event in which it goes on acts what follows
  pub waiting : OpenCallsHaveRun e
  pub going : CallsGoOn e
  -- and one that is answered has acted all that its answers tell of, and nothing more
  pub whole : CallsAreAnswered e

-- Only what is gone is refused as lost.
pub record LossesEarned (e : Estate AnyNode) : Type 0 where
  -- each act that a segment is lost is of the node that has its turn, and it is earned: while it opens its log, to a takeover, or to a read
  pub each : EachLostActIsEarned e
  -- and no item is answered that a segment is lost but where its node says so just before, in the same event, and has begun it
  pub answers : LostAnswersEarned e

-- where the script has no line by which a server loses its disk, no restart is doubtful
abbrev pub WithoutLossesNoDoubt : Estate AnyNode → Type 0
WithoutLossesNoDoubt e = LosesNone (works_of e.script.lines) → (count : ℕ) → NoDoubtfulRestart e count

-- Of each run of the xFS nodes, whatever messages are lost, repeated or reordered and whichever nodes stop:
pub record OutsideIsSafe (e : Estate AnyNode) : Type 0 where
  -- block by block, the calls on blocks are in the order of their acts, each between its Begin and its answer, one legal history of versions: up to the first
  -- doubtful restart; what a crash takes back was neither synced nor read elsewhere
  pub linearizable : IsLinearizable e
  -- and what a call writes over a version that it named, it writes over just that, so that no update of another is lost: up to there
  pub updates : NoUpdateIsLost e
  -- each call on blocks finds its block as all acts so far left it: a write makes the version behind the newest; one over a version that it named is made only
  -- where that is the newest, and is told that it has changed only where there are more: up to there
  pub changes : CallsFindVersions e
  -- so where all items are calls on blocks, and each answer is that of a call that is done, the answers are those of one machine with one table of blocks, which
  -- makes the calls in the order of their answers; and where that is the order of the lines, the text is the one machine's
  pub as_one_machine : CallsAsOneMachine e
  -- and so it is with calls on files among them, where each is answered so before another begins, in the order of the lines
  pub with_files : FilesAsOneMachine e
  -- each item is answered at most once, by its own node, after its Begin: so the text shows its one answer, or counts it as open
  pub answered_once : ItemsAnsweredOnce e
  -- what a client answers to a call on a block, a sync or a restart it has acted before, in the same event; the cleaner, back, that a segment of its new
  -- incarnation is filed; and an item is cut only where a crash, or the loss of a disk, is answered behind it
  pub answers_acted : AnswersAreActs e
  -- a client reads, writes, syncs, falls and comes back only for its open item, or the one that it begins, and acts just what the calls on blocks of that were
  -- answered
  pub acts_belong : ActsBelongToItems e
  -- and each answer fits where its node stands, before the event and behind it
  pub answers_fit : AnswersFit e
  -- in each event each node serves on until a crash of it begins, and what is due as an item begins is answered in that event
  pub dues_answered : AnswersDue e
  -- a restart right behind a crash never finds its node up; and where items begin in turn, as by workers, none finds its node busy, nor down but behind a crash,
  -- or behind a restart by which it lost a segment of its log
  pub crashes_felt : CrashesAreFelt e
  pub in_turn : BeginsInTurn e → AnswersInTurn e
  -- a rebuild answers how much was filled in, and is gone, of all that there was to fill in; a cleaning how many segments were dropped
  pub numbers_true : NumbersAreTrue e
  -- and these are, of all that there was to empty, as many as it was asked for, or all, but for those that are lost
  pub takes_what_is_due : CleaningsTakeWhatIsDue e
  -- and a checkpoint how many slots the registry was told of in time, of all that its manager managed as it came to them
  pub checkpoints_true : CheckpointsAreTrue e
  -- a call on files answers what its plan says of the answers of its calls on blocks, each acted since it began
  pub files_planned : FileAnswersArePlanned e
  -- and a write its block's newest version, with its value: up to the first doubtful restart
  pub versions_newest : VersionsAreNewest e
  -- each act Read is of its block's newest version, with its value, and no fall goes below a version that was synced or read elsewhere: up to there
  pub legal_acts : LegalActs e
  -- and throughout, where no line of the script has a server lose its disk
  pub legal_without_losses : LegalWithoutLosses e
  -- no client falls again before it is back, and no fall names a block twice
  pub falls_apart : FallsApartThroughout e
  -- up to the first doubtful restart all that is filed of a block joins to its newest version, with its value, where nobody has it dirty or fell with it; and
  -- where a client has it dirty, to what that knows as settled, all versions above being its own
  pub settled : BlocksAreSettled e
  -- where a sync is done, its client has nothing dirty; and of each block of which its version is the newest, and with which nobody fell, all that is filed joins
  -- to that, with its value: up to there
  pub syncs_settle : SyncsSettle e
  -- only what is gone is refused as lost
  pub losses_earned : LossesEarned e
  -- and where no line of the script has a server lose its disk, no restart is doubtful, no item is answered that a segment is lost, and no client nor the cleaner
  -- acts so
  pub undoubted : WithoutLossesNoDoubt e
  pub unlost : WithoutLossesNothingIsLost e
