-- What an event makes of a cleaner that serves leaves its log seen so in the small world, and what waits in it, and is to be moved, copies of what filed
-- segments say: at each of the moves of which the event is made. One that falls leaves the books as they were before the event.
use Rattle.std.proofs.Common.{◌≡◌, ◌≤◌, ℕ, Bool, true, false, Option, Some, None, refl, sym, subst, ◌∙◌}
use Rattle.std.specs.Prelude.{IfSome}
use Rattle.cleaner_job.specs.declared.job.Job.{Job}
use Rattle.cleaner_job.specs.declared.lasting.Lasting.{Lasting}
use Rattle.cleaner_job.specs.Jobs.{note_moved}
use Rattle.cleaner_node.specs.CleanerEvents.{Went_to, restart, serves_on, takes}
use Rattle.cleaner_node.specs.declared.cleaner.Cleaner.{Cleaner}
use Rattle.cleaner_node.specs.declared.cleaner.Phase.{Phase}
use Rattle.cleaner_node.specs.declared.cleaner.Phase.TheVariants.{Down, Opening, Serving as Serves}
use Rattle.cleaner_serving.specs.declared.emptying.Emptying.{Emptying}
use Rattle.cleaner_serving.specs.Jobs.{emptying_put}
use Rattle.client_log.specs.declared.input.In.{In as LogIn}
use Rattle.client_log.specs.declared.output.Out.{Out as LogOut}
use Rattle.client_log.specs.Transition as log
use Rattle.node_base.specs.declared.effects.Effect.{Effect}
use Rattle.node_base.specs.declared.items.Items.{Items}
use Rattle.log_owner.specs.Sending.{push_all}
use Rattle.node_moves.proofs.cleaner_moves.Keeping.{Changes, Follows, JobKeeps, Keeps, LogKeeps, Put, event_goes, its, written}
use Rattle.node_moves.proofs.cleaner_moves.Keeping.Changes.{JobBegun, JobEnded}
use Rattle.node_moves.proofs.cleaner_moves.Keeping.Put.{AllPut, BlockPut}
use Rattle.node_moves.specs.cleaner_moves.Moves.{Given, Written, noted}
use Rattle.node_moves.specs.cleaner_moves.Moves.Given.{LiveCame}
use Rattle.node_moves.specs.cleaner_moves.Moves.Written.{AckCame, GroupsCame, LogTicks}
use Rattle.stripe_cleaner.specs.declared.input.In.{In as Input}
use Rattle.stripe_cleaner.specs.declared.output.Out.{Out}
use Rattle.stripe_cleaner.specs.declared.output.Out.TheVariants as out
use Rattle.stripe_cleaner.specs.Transition.{transition}
use Rattle.token_law.specs.Books.{Books}
use Rattle.wire_msg.specs.declared.packet.Do.{Do}
use Rattle.xfs_base.proofs.Alls.{all_each, all_weaker}
use Rattle.xfs_base.proofs.Booleans.{contrary}
use Rattle.xfs_base.specs.Steps.{still}
use Rattle.node_slots.specs.node_tie.CleanerLogs.{its_log, AreCopies, CleanerTold, PacketTold, PhaseCopies, PhaseTold, ServesCopies, ServingTold}
use Rattle.node_slots.specs.node_tie.LogRows.{LogSeen, rows_waiting}
use Rattle.node_slots.proofs.node_tie.BooksLast.{Lasts, lasts_still, lasts_through}
use Rattle.node_slots.proofs.node_tie.CleanerBooks.{BooksGo, PutCopies, books_stay, books_through, copy_grown, log_goes}
use Rattle.node_slots.proofs.node_tie.CleanerMoves.{InputTold, MoveCopies, OutCopies, cleaning_copies, phase_grown, told_grown}

abbrev pub JobCopies : Books → Option Job → Type 0
JobCopies k job = IfSome job (λ (j : Job). PhaseCopies k j.cleaning.phase)

-- what is to be moved stays so as the books grow
pub job_grown : (k m : Books) → Lasts k m → (job : Option Job) → JobCopies k job → JobCopies m job
job_grown k m lasts None its_own = tt
job_grown k m lasts (Some job) its_own = phase_grown k m lasts job.cleaning.phase its_own

out_grown : (k m : Books) → Lasts k m → (o : Out) → OutCopies k o → OutCopies m o
out_grown k m grown (out.Move blocks) copies = all_weaker (MoveCopies k) (MoveCopies m) (λ one copy. copy_grown k m grown one.0 _ copy) blocks copies
out_grown k m grown _ copies = tt

moved_kept : (k : Books) (job : Option Job) → JobCopies k job → JobCopies k (note_moved job)
moved_kept k None its_own = tt
moved_kept k (Some job) its_own = its_own

-- the books, while it serves, or as they were before the event
record Moment : Type 0 where
  books : Books
  serves : Bool

abbrev Later : Moment → Moment → Type 0
Later u v = v.serves ≡ true → (u.serves ≡ true) × Lasts u.books v.books

later_on : (u v w : Moment) → Later u v → Later v w → Later u w
later_on u v w a b serves = (let y = b serves in let x = a y.0 in (x.0, lasts_through u.books v.books w.books x.1 y.1))

module _ (members part : ℕ) (few : members ≤ its_log) (k : Books) where
  -- what it is then: the books went on while it serves, and are as they were where it fell
  abbrev pub GoneTo : Books → Phase → Type 0
  GoneTo m (Down l) = m ≡ k
  GoneTo m (Opening l o) = m ≡ k
  GoneTo m (Serves e) = BooksGo members part few k m × ServesCopies m e

module _ (members part : ℕ) (few : members ≤ its_log) (adopted : Bool) (k : Books) (first : Cleaner) (what : Do) (before : Emptying)
    (same : first.phase ≡ Serves before) (owed : CleanerTold k adopted first.phase what) where
  abbrev start : Moment
  start = record { books = k; serves = true }

  abbrev Fallen : Moment → Type 0
  Fallen w = (w.serves ≡ false) × (w.books ≡ k)

  abbrev At : Moment → Phase → Type 0
  At w (Down l) = Fallen w
  At w (Opening l o) = Fallen w
  At w (Serves e) = (w.serves ≡ true) × BooksGo members part few k w.books × LogSeen w.books its_log e.log × AreCopies w.books (rows_waiting e.log)
      × JobCopies w.books e.job

  record Goes (w : Moment) (d : Went_to) : Type 0 where
    next : Moment
    later : Later w next
    at : At next d.state

  later_now : (w : Moment) → Later w w
  later_now w serves = (serves, lasts_still w.books)

  stays : (w : Moment) (d : Went_to) → At w d.state → Goes w d
  stays w d h = record { next = w; later = later_now w; at = h }

  goes_from : (w v : Moment) (d : Went_to) → Later w v → Goes v d → Goes w d
  goes_from w v d later g = record { next = g.next; later = later_on w v g.next later g.later; at = g.at }

  -- of what it says nothing is asked, and of what its job says that it is to move copies
  abbrev AnyDone : Moment → Effect → Type 0
  AnyDone w effect = Unit {0}

  abbrev AnySaid : Moment → LogOut → Type 0
  AnySaid w o = Unit {0}

  abbrev Due : Moment → Out → Type 0
  Due w o = w.serves ≡ true → OutCopies w.books o

  follows : Follows Moment Later At AnyDone Goes
  follows = record {
    now = later_now;
    on = later_on;
    says = λ w p outs h all. stays w (record { state = p; outs = outs }) h;
    goes_on = λ w d e g more. (let x = more g.next g.later g.at in record { next = x.next; later = later_on w g.next x.next g.later x.later; at = x.at });
  }

  -- ---- its job, and its log

  changes_so : (w : Moment) (e f : Emptying) → Changes first what (Due w) e f → At w (Serves e) → Goes w (serves_on (still f))
  changes_so w e f (JobBegun count) h = stays w (serves_on (still f)) (h.0, h.1, h.2, h.3, tt)
  changes_so w e f JobEnded h = stays w (serves_on (still f)) (h.0, h.1, h.2, h.3, tt)
  changes_so w e f _ h = stays w (serves_on (still f)) h

  -- a Live that comes tells what is so
  given_so : (w : Moment) (e : Emptying) (job : Job) (given : Input) → e.job ≡ Some job → Lasts k w.books → Given first what e given
      → InputTold w.books job.cleaning.phase given
  given_so w e job given has lasts (LiveCame packet m its_own came asked) =
      told_grown k w.books lasts m.block m.entry job.cleaning.phase
      (subst (λ o. IfSome o (λ (j : Job). PhaseTold k m.block m.entry j.cleaning.phase)) has
      (subst (ServingTold k e) came.says
      (subst (λ p. PacketTold k adopted p packet) its_own (subst (CleanerTold k adopted first.phase) came.event owed)) asked))
  given_so w e job given has lasts _ = tt

  -- the log takes an input
  log_so : (w : Moment) (e : Emptying) (i : LogIn) → PutCopies members part few w.books i → At w (Serves e)
      → Goes w (serves_on (still (record e { log = (log.transition e.log i).state })))
  log_so w e i copy h =
      let t = log_goes members part few w.books e.log i h.2 h.3 copy in
      record {
        next = record { books = t.next; serves = true };
        later = λ serves. (h.0, t.goes.lasts);
        at = (refl, books_through members part few k w.books t.next h.1 t.goes, t.seen, t.waits, job_grown w.books t.next t.goes.lasts e.job h.4);
      }

  put_so : (w : Moment) (e : Emptying) (i : LogIn) → Put (Due w) i → At w (Serves e) → Goes w (serves_on (emptying_put e i))
  unfolding emptying_put
  put_so w e i (BlockPut block entry value due) h = (let g = log_so w e i (due h.0).0 h in record { next = g.next; later = g.later; at = g.at })
  put_so w e i AllPut h = (let g = log_so w e i tt h in record { next = g.next; later = g.later; at = g.at })

  written_copies : (w : Moment) (e : Emptying) (i : LogIn) → Written first what e i → PutCopies members part few w.books i
  written_copies w e i (AckCame packet m its_own came) = tt
  written_copies w e i (GroupsCame old packet news its_own as_was brought) = tt
  written_copies w e i LogTicks = tt

  of_job : JobKeeps first what Moment Later At AnyDone Goes start Due
  of_job = record {
    due = λ u v later o due serves. (let x = later serves in out_grown u.books v.books x.1 o (due x.0));
    apart = λ w one blocks due. (λ serves. ((due serves).0, tt), λ serves. (due serves).1);
    changes = changes_so;
    gives = λ w e effect given h. tt;
    takes = λ w e job given later came h d next.
        (let c = cleaning_copies w.books job.cleaning given h.4 (given_so w (its e job) job given refl (later h.0).1 came) in
        next w (later_now w) (h.0, h.1, h.2, h.3, c.phase)
        (all_weaker (OutCopies w.books) (Due w) (λ o copies serves. copies) (transition job.cleaning given).outs c.outs));
    puts = put_so;
  }

  of_log : LogKeeps first what Moment Later At AnyDone Goes start AnySaid
  of_log = record {
    due = λ u v later o due. tt;
    takes = λ w e i later came h d next.
        (let g = log_so w e i (written_copies w e i came) h in
        goes_from w g.next d g.later (next g.next g.later g.at (all_each (λ o. Unit {0}) (λ o. tt) (log.transition e.log i).outs)));
    sends = λ w e f m due h. tt;
    files = λ w e end rows due h. stays w _ (h.0, h.1, h.2, h.3, moved_kept w.books e.job h.4);
  }

  -- ---- the event

  items_so : (w : Moment) (p : Phase) (items : Items) → At w p → At w (noted p items)
  items_so w (Down l) items h = h
  items_so w (Opening l o) items h = h
  items_so w (Serves e) items h = h

  restarts_so : (w : Moment) (l : Lasting) (number : ℕ) → Fallen w → Goes w (restart first.peers.servers l number)
  unfolding restart
  restarts_so w l number h = record { next = w; later = later_now w; at = h }

  of_events : Keeps first what Moment Later At AnyDone Goes start
  of_events = record {
    items = λ w p items for h. items_so w p items h;
    answers = λ w number a due. tt;
    falls = λ w p h. record { next = record { books = k; serves = false }; later = λ serves. contrary serves; at = (refl, refl) };
    restarts = λ w l number taken event following h. restarts_so w l number h;
    opens = λ w l o x later taken opening by h. (let clash : Opening l o ≡ Serves before = sym opening ∙ same in absurd cc);
    writes = λ w e i later came h. written first what Moment Later At AnyDone Goes start Due follows of_job AnySaid of_log w e i later came h;
    pushes = λ w e h. all_each (λ effect. Unit {0}) (λ effect. tt) (push_all e.promised.managers e.feed);
  }

  gone_so : (w : Moment) (p : Phase) → At w p → GoneTo members part few k w.books p
  gone_so w (Down l) h = h.1
  gone_so w (Opening l o) h = h.1
  gone_so w (Serves e) h = (h.1, record { seen = h.2; waits = h.3; job = h.4 })

  pub record Gone (p : Phase) : Type 0 where
    pub next : Books
    pub at : GoneTo members part few k next p

  pub event_gone : ServesCopies k before → Gone (takes first.peers first.phase what).state
  event_gone h =
      let g = event_goes first what Moment Later At AnyDone Goes start Due follows of_job of_events
      (subst (At start) (sym same) (refl, books_stay members part few k, h.seen, h.waits, h.job)) in
      record { next = g.next.books; at = gone_so g.next (takes first.peers first.phase what).state g.at }
