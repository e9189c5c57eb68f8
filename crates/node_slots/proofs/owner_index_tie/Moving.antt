-- What each event makes of the cleaner: what its log has, and what its job is to move, was answered Live.
use Rattle.std.proofs.Common.{ℕ, List, Option, Some, None, subst, sym}
use Rattle.cleaner_job.specs.declared.job.Job.{Job}
use Rattle.cleaner_job.specs.declared.lasting.Lasting.{Lasting}
use Rattle.cleaner_node.specs.CleanerEvents.{restart}
use Rattle.cleaner_node.specs.declared.cleaner.Cleaner.{Cleaner}
use Rattle.cleaner_node.specs.declared.cleaner.Phase.{Phase}
use Rattle.cleaner_node.specs.declared.cleaner.Phase.TheVariants.{Down, Opening, Serving}
use Rattle.cleaner_serving.specs.declared.emptying.Emptying.{Emptying}
use Rattle.client_log.specs.declared.input.In.{In as LogIn}
use Rattle.client_log.specs.LogState.{LogState}
use Rattle.client_log.specs.Transition as log
use Rattle.index_tie.specs.Net.{Packet}
use Rattle.log_flight.specs.declared.dirty.Change.{Change}
use Rattle.log_owner.specs.declared.opened.Progress.{Progress}
use Rattle.log_owner.specs.declared.opened.Progress.TheVariants as progress
use Rattle.log_owner.specs.declared.opening.Opening as openings
use Rattle.log_owner.specs.declared.opening.Stage.{Stage}
use Rattle.log_owner.specs.declared.opening.Stage.TheVariants as stage
use Rattle.log_owner.specs.Opening.{Went}
use Rattle.log_protocol.specs.Tables.{In}
use Rattle.node_base.specs.declared.items.Items.{Items}
use Rattle.segment_format.specs.declared.segment.Item.{Item}
use Rattle.segment_format.specs.declared.segment.Item.TheVariants.{Block, Delta, Part}
use Rattle.stripe_cleaner.specs.declared.checks.Fate.{Fate}
use Rattle.stripe_cleaner.specs.declared.checks.Fate.TheVariants.{Live}
use Rattle.stripe_cleaner.specs.declared.input.In.{In as Input}
use Rattle.stripe_cleaner.specs.declared.phase.Phase as phases
use Rattle.stripe_cleaner.specs.declared.phase.Phase.TheVariants.{Checking}
use Rattle.wire_msg.specs.declared.packet.Do.{Do}
use Rattle.xfs_base.proofs.Alls.{all_weaker}
use Rattle.xfs_base.specs.declared.block.BlockId.{BlockId}
use Rattle.xfs_base.specs.declared.entry.Entry.{Entry}
use Rattle.node_moves.proofs.cleaner_moves.Keeping.{Changes, Put, StateKeeps, state_goes}
use Rattle.node_moves.proofs.cleaner_moves.Keeping.Changes.{JobBegun, JobEnded}
use Rattle.node_moves.proofs.cleaner_moves.Keeping.Put.{AllPut, BlockPut}
use Rattle.node_moves.specs.cleaner_moves.Moves.{Given, OpenedBy, Written, came_to, noted}
use Rattle.node_moves.specs.cleaner_moves.Moves.Given.{LiveCame}
use Rattle.node_moves.specs.cleaner_moves.Moves.OpenedBy.{PacketCame, TimeWent}
use Rattle.node_moves.specs.cleaner_moves.Moves.Written.{AckCame, GroupsCame, LogTicks}
use Rattle.node_slots.proofs.node_index_tie.Moves.{some_none}
use Rattle.node_slots.specs.owner_index_tie.CleanerMoves.{IsMovedOnce, ItemMoves, LogMoves, FateMoves, CheckMoves, PhaseMoves, JobMoves, StageMoves, CleanerMoves, BodyAnswers, DoAnswers, CleanerStartsMoving, CleanerMovesAnswered}
use Rattle.node_slots.proofs.owner_index_tie.MovesOpening as opens
use Rattle.node_slots.proofs.owner_index_tie.MovesJob as jobs
use Rattle.node_slots.proofs.owner_index_tie.MovesLog.{log_moves}

module _ (part : ℕ) (sent : List Packet) where
  abbrev So : Phase → Type 0
  So p = CleanerMoves part sent p

  module _ (first : Cleaner) (what : Do) (live : DoAnswers part sent what) where
    changed : (e f : Emptying) → Changes first what (jobs.OutFits part sent) e f → So (Serving e) → So (Serving f)
    changed e f (JobBegun count) h = (h.0, tt)
    changed e f JobEnded h = (h.0, tt)
    changed e f _ h = h

    -- a Live that comes was answered
    given_so : (e : Emptying) (given : Input) → Given first what e given → jobs.InputFits part sent given
    given_so e given (LiveCame packet m same came asked) = subst (BodyAnswers part sent) came.says (subst (DoAnswers part sent) came.event live)
    given_so e given _ = tt

    put_so : (s : LogState) (i : LogIn) → Put (jobs.OutFits part sent) i → LogMoves part sent s → LogMoves part sent (log.transition s i).state
    put_so s i (BlockPut block entry value moved) h = log_moves part sent s i h moved.0
    put_so s i AllPut h = log_moves part sent s i h tt

    written_so : (e : Emptying) (i : LogIn) → Written first what e i → LogMoves part sent e.log → LogMoves part sent (log.transition e.log i).state
    written_so e i (AckCame packet m same came) h = log_moves part sent e.log i h tt
    written_so e i (GroupsCame before packet news same as_was brought) h = log_moves part sent e.log i h tt
    written_so e i LogTicks h = log_moves part sent e.log i h tt

    items_so : (p : Phase) (items : Items) → So p → So (noted p items)
    items_so (Down l) items h = tt
    items_so (Opening l o) items h = h
    items_so (Serving e) items h = h

    restarted : (servers : ℕ) (l : Lasting) (number : ℕ) → So (restart servers l number).state
    unfolding restart
    restarted servers l number = tt

    comes_so : (l : Lasting) (p : Progress) → opens.ProgressMoves part sent p → So (came_to l p)
    comes_so l (progress.Opening o) h = h
    comes_so l (progress.Opened r) h = (h, tt)
    comes_so l (progress.Lost seg) h = tt

    opens_so : (l : Lasting) (o : openings.Opening) (x : Went) → OpenedBy what l o x → StageMoves part sent o.stage
        → So (came_to (record l { questions = x.questions }) x.progress)
    opens_so l o x (PacketCame packet event) h =
        comes_so (record l { questions = x.questions }) x.progress (opens.packet_moves part sent o l.questions packet h)
    opens_so l o x (TimeWent event) h = comes_so (record l { questions = x.questions }) x.progress (opens.time_moves part sent o l.questions h)

    keeps : StateKeeps first what So (jobs.OutFits part sent)
    keeps = record {
      apart = λ one blocks all. ((all.0, tt), all.1);
      changes = λ e f change h. changed e f change h;
      cleans = λ e job given came h. (let d = jobs.cleaning_fits part sent job.cleaning given h.1 (given_so _ given came) in ((h.0, d.phase), d.outs));
      puts = λ e i put h. (put_so e.log i put h.0, h.1);
      writes = λ e i came h. (written_so e i came h.0, h.1);
      settles = λ e end rows h. h;
      items = λ p items for h. items_so p items h;
      falls = λ p h. tt;
      restarts = λ l number event following h. restarted first.peers.servers l number;
      opens = λ l o x by h. opens_so l o x by h;
    }

pub cleaner_moves_answered : CleanerMovesAnswered
cleaner_moves_answered part sent cleaner what h live =
    state_goes cleaner what (CleanerMoves part sent) (jobs.OutFits part sent) (keeps part sent cleaner what live) h

pub cleaner_starts_moving : CleanerStartsMoving
cleaner_starts_moving part sent setup works = (record { dirty = tt; flight = λ f fact. absurd (some_none f (sym fact)) }, tt)

-- ---- more is answered

module _ (part : ℕ) (sent more : List Packet) (grows : (x : Packet) → In x sent → In x more) where
  once_later : (b : BlockId) (e : Entry) → IsMovedOnce part sent b e → IsMovedOnce part more b e
  once_later b e k = record { entry = k.entry; answered = λ inside. grows _ (k.answered inside); version = k.version; hop = k.hop }

  item_later : (i : Item) → ItemMoves part sent i → ItemMoves part more i
  item_later (Block block value) k = tt
  item_later (Delta block ver hop item) k = once_later block (record { ver = ver; hop = hop; place = None }) k
  item_later (Part slot rows) k = tt

  log_later : (s : LogState) → LogMoves part sent s → LogMoves part more s
  log_later s h = record {
    dirty = all_weaker (λ (c : BlockId × Change). IsMovedOnce part sent c.0 c.1.entry) (λ (c : BlockId × Change). IsMovedOnce part more c.0 c.1.entry)
        (λ c k. once_later c.0 c.1.entry k) s.dirty h.dirty;
    flight = λ f fact. all_weaker (ItemMoves part sent) (ItemMoves part more) item_later f.segment.items (h.flight f fact);
  }

  fate_later : (block : BlockId) (f : Fate) → FateMoves part sent block f → FateMoves part more block f
  fate_later block (Live e value) k = once_later block e k
  fate_later block _ k = tt

  phase_later : (p : phases.Phase) → PhaseMoves part sent p → PhaseMoves part more p
  phase_later (Checking j segment checks) h = all_weaker (CheckMoves part sent) (CheckMoves part more) (λ c k. fate_later c.block c.fate k) checks h
  phase_later _ h = tt

  job_later : (o : Option Job) → JobMoves part sent o → JobMoves part more o
  job_later None h = tt
  job_later (Some j) h = phase_later j.cleaning.phase h

  stage_later : (x : Stage) → StageMoves part sent x → StageMoves part more x
  stage_later (stage.Scanning s) h = tt
  stage_later (stage.Settling s) h = log_later s.log h

  pub moves_later : (p : Phase) → CleanerMoves part sent p → CleanerMoves part more p
  moves_later (Down l) h = tt
  moves_later (Opening l o) h = stage_later o.stage h
  moves_later (Serving e) h = (log_later e.log h.0, job_later e.job h.1)
