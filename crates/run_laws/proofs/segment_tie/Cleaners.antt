-- What each event makes of the cleaner: what waits in its log and what is in flight there is what it moved.
use Rattle.std.proofs.Common.{ℕ, ◌+◌, ◌<◌, List, Option, sym, subst, arith}
use Rattle.cleaner_job.specs.declared.job.Job.{Job}
use Rattle.cleaner_job.specs.declared.lasting.Lasting.{Lasting}
use Rattle.cleaner_node.specs.CleanerEvents.{restart, takes}
use Rattle.cleaner_node.specs.declared.cleaner.Cleaner.{Cleaner}
use Rattle.cleaner_node.specs.declared.cleaner.Phase.{Phase}
use Rattle.cleaner_node.specs.declared.cleaner.Phase.TheVariants.{Down, Opening, Serving}
use Rattle.cleaner_serving.specs.declared.emptying.Emptying.{Emptying}
use Rattle.client_log.specs.declared.input.In.{In as LogIn}
use Rattle.client_log.specs.declared.input.In.TheVariants as log_ins
use Rattle.client_log.specs.LogState.{LogState}
use Rattle.client_log.specs.Transition as log
use Rattle.log_flight.specs.declared.dirty.Change.{Change}
use Rattle.log_flight.specs.Flights.{FlightState}
use Rattle.log_owner.specs.declared.opened.Progress.{Progress}
use Rattle.log_owner.specs.declared.opened.Progress.TheVariants as progress
use Rattle.log_owner.specs.declared.opening.Opening as openings
use Rattle.log_owner.specs.Opening.{Went}
use Rattle.node_base.specs.declared.items.Items.{Items}
use Rattle.stripe_cleaner.specs.declared.input.In.{In}
use Rattle.wire_msg.specs.declared.packet.Do.{Do}
use Rattle.xfs_base.specs.declared.block.BlockId.{BlockId}
use Rattle.xfs_base.specs.declared.entry.Entry.{Entry}
use Rattle.node_moves.proofs.cleaner_moves.Keeping.{Changes, Put, StateKeeps, state_goes}
use Rattle.node_moves.proofs.cleaner_moves.Keeping.Changes.{JobBegun, JobEnded}
use Rattle.node_moves.proofs.cleaner_moves.Keeping.Put.{AllPut, BlockPut}
use Rattle.node_moves.specs.cleaner_moves.Moves.{Given, OpenedBy, Written, came_to, noted}
use Rattle.node_moves.specs.cleaner_moves.Moves.Given.{LiveCame}
use Rattle.node_moves.specs.cleaner_moves.Moves.OpenedBy.{PacketCame, TimeWent}
use Rattle.node_moves.specs.cleaner_moves.Moves.Written.{AckCame, GroupsCame, LogTicks}
use Rattle.node_tellings.proofs.entry_tie.CleanerChecks.{InputTold, cleaning_so}
use Rattle.node_tellings.proofs.entry_tie.CleanerMoves.{OutMoved, cleaning_gives}
use Rattle.node_tellings.specs.entry_tie.CleanerTells.{JobTold, MovedTold}
use Rattle.run_laws.specs.segment_tie.Cleaners.{BringsVersions, CleanerStartsWriting, CleanerWrites, CleanerWritesCopies, TellsVersion, versions}
use Rattle.run_laws.specs.segment_tie.Clients.{StageWrites}
use Rattle.run_laws.specs.segment_tie.Segments.{IsCopies, IsMoved, IsWaiting, WritesCopies, WritesSo}
use Rattle.run_laws.proofs.segment_tie.Logs as logs
use Rattle.run_laws.proofs.segment_tie.Logs.{copies}
use Rattle.run_laws.proofs.segment_tie.Openings.{ProgressWrites, opens_copies, packet_writes, tick_writes}

-- its job, and its log
record Stands (its_job : Option Job) (waits : List (BlockId × Change)) (flies : Option FlightState) : Type 0 where
  job : JobTold versions its_job
  log : WritesSo IsMoved IsCopies waits flies

abbrev So : Phase → Type 0
So (Down l) = Unit {0}
So (Opening l o) = StageWrites o.stage
So (Serving e) = Stands e.job e.log.dirty e.log.flight

-- ---- one that serves

changes_so : (first : Cleaner) (what : Do) (e f : Emptying) → Changes first what (OutMoved versions) e f → So (Serving e) → So (Serving f)
changes_so first what e f (JobBegun count) h = record { job = tt; log = h.log }
changes_so first what e f JobEnded h = record { job = tt; log = h.log }
changes_so first what e f _ h = record { job = h.job; log = h.log }

-- a Live that comes tells a version from 1 on
given_so : (first : Cleaner) (what : Do) (e : Emptying) (given : In) → BringsVersions what → Given first what e given → InputTold versions given
given_so first what e given brings (LiveCame packet m same came asked) = subst TellsVersion came.says (subst BringsVersions came.event brings)
given_so first what e given brings _ = tt

-- what is moved is of a version from 1 on, and moved once more
moved_waits : (block : BlockId) (entry : Entry) (value : Option (List ℕ)) → MovedTold versions block entry
    → IsWaiting IsMoved (record { entry = entry; value = value })
moved_waits block entry value fact = record {
  version = subst (λ (x : Entry). 0 < x.ver) (sym fact.moved) fact.before_told;
  hop = subst (λ (x : Entry). 0 < x.hop) (sym fact.moved) (some fact.before.hop);
}
  where
    some : (n : ℕ) → 0 < n + 1
    some n = omega arith

put_so : (s : LogState) (i : LogIn) → Put (OutMoved versions) i → WritesCopies s → WritesCopies (log.transition s i).state
put_so s i (BlockPut block entry value moved) h =
    logs.log_so IsMoved IsCopies copies s (log_ins.Put block entry value) (moved_waits block entry value moved.0) h
put_so s i AllPut h = logs.log_so IsMoved IsCopies copies s log_ins.Seal tt h

written_so : (first : Cleaner) (what : Do) (e : Emptying) (i : LogIn) → Written first what e i → WritesCopies e.log
    → WritesCopies (log.transition e.log i).state
written_so first what e i (AckCame packet m same came) h = logs.log_so IsMoved IsCopies copies e.log (log_ins.Acked m.name m.index m.generation) tt h
written_so first what e i (GroupsCame before packet news same as_was brought) h = logs.log_so IsMoved IsCopies copies e.log (log_ins.Maps news.groups) tt h
written_so first what e i LogTicks h = logs.log_so IsMoved IsCopies copies e.log log_ins.Tick tt h

-- ---- one that doesn't

items_so : (p : Phase) (items : Items) → So p → So (noted p items)
items_so (Down l) items h = tt
items_so (Opening l o) items h = h
items_so (Serving e) items h = h

restarted : (servers : ℕ) (l : Lasting) (number : ℕ) → So (restart servers l number).state
unfolding restart
restarted servers l number = tt

comes_so : (l : Lasting) (p : Progress) → ProgressWrites p → So (came_to l p)
comes_so l (progress.Opening o) h = h
comes_so l (progress.Opened o) h = record { job = tt; log = opens_copies o.log h }
comes_so l (progress.Lost seg) h = tt

opens_so : (what : Do) (l : Lasting) (o : openings.Opening) (x : Went) → OpenedBy what l o x → StageWrites o.stage
    → So (came_to (record l { questions = x.questions }) x.progress)
opens_so what l o x (PacketCame packet event) h = comes_so (record l { questions = x.questions }) x.progress (packet_writes o l.questions packet h)
opens_so what l o x (TimeWent event) h = comes_so (record l { questions = x.questions }) x.progress (tick_writes o l.questions h)

-- ---- the law

keeps : (first : Cleaner) (what : Do) → BringsVersions what → StateKeeps first what So (OutMoved versions)
keeps first what brings = record {
  apart = λ one blocks all. ((all.0, tt), all.1);
  changes = λ e f change h. changes_so first what e f change h;
  cleans = λ e job given came h. (let told = given_so first what _ given brings came in (
    record { job = cleaning_so versions job.cleaning given told h.job; log = h.log },
    cleaning_gives versions job.cleaning given told h.job,
  ));
  puts = λ e i put h. record { job = h.job; log = put_so e.log i put h.log };
  writes = λ e i came h. record { job = h.job; log = written_so first what e i came h.log };
  settles = λ e end rows h. h;
  items = λ p items for h. items_so p items h;
  falls = λ p h. tt;
  restarts = λ l number event following h. restarted first.peers.servers l number;
  opens = λ l o x by h. opens_so what l o x by h;
}

stands : (p : Phase) → CleanerWrites p → So p
stands (Down l) h = tt
stands (Opening l o) h = h
stands (Serving e) h = record { job = h.job; log = h.log }

holds : (p : Phase) → So p → CleanerWrites p
holds (Down l) h = tt
holds (Opening l o) h = h
holds (Serving e) h = record { job = h.job; log = h.log }

pub cleaner_writes : CleanerWritesCopies
cleaner_writes cleaner what fact h =
    holds (takes cleaner.peers cleaner.phase what).state
    (state_goes cleaner what So (OutMoved versions) (keeps cleaner what fact) (stands cleaner.phase h))

pub cleaner_starts : CleanerStartsWriting
cleaner_starts setup works = record { job = tt; log = record { once = tt; each = tt; flies = tt } }
