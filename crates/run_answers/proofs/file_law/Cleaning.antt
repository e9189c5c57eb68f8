-- What an event of the cleaner files: while it serves each segment behind its log's end; and where it comes to serve, last the segment that is the end.
use Rattle.std.proofs.Common.{◌≡◌, ⊎_elim, ℕ, ◌+◌, suc, List, [], ◌∷◌, ◌++◌, Option, Some, None, refl, sym, ap, subst, ◌∙◌, arith}
use Rattle.std.specs.Prelude.{IfSome}
use Rattle.std.specs.List.{AllByRecursion}
use Rattle.cleaner_job.specs.declared.lasting.Lasting.{Lasting}
use Rattle.cleaner_job.specs.Starting.{cleaner_log}
use Rattle.cleaner_node.specs.CleanerEvents.{Went_to, lasting_of, owner_of, restart, serves_on, takes}
use Rattle.cleaner_node.specs.declared.cleaner.Cleaner.{Cleaner}
use Rattle.cleaner_node.specs.declared.cleaner.Phase.{Phase}
use Rattle.cleaner_node.specs.declared.cleaner.Phase.TheVariants.{Down, Opening, Serving}
use Rattle.cleaner_serving.specs.declared.emptying.Emptying.{Emptying}
use Rattle.cleaner_serving.specs.EmptyingEvents.{fed, emptying_settle, emptying_write, write_one}
use Rattle.cleaner_serving.specs.Jobs.{Done, emptying_clean, emptying_put}
use Rattle.client_log.specs.declared.input.In.{In as LogIn}
use Rattle.client_log.specs.declared.output.Out.{Out as LogOut}
use Rattle.client_log.specs.declared.output.Out.TheVariants as log_out
use Rattle.client_log.specs.LogState.{LogState}
use Rattle.client_log.specs.Transition.{end_of}
use Rattle.client_log.specs.Transition as log
use Rattle.core_world.specs.declared.any_node.AnyNode.{AnyNode}
use Rattle.core_world.specs.declared.any_node.AnyNode.TheVariants as any
use Rattle.log_flight.specs.Flights.{FlightState}
use Rattle.log_owner.specs.declared.opened.Progress.{Progress}
use Rattle.log_owner.specs.declared.opened.Progress.TheVariants as progress
use Rattle.log_owner.specs.declared.opening.Opening as openings
use Rattle.log_owner.specs.Opening.{Went, stored}
use Rattle.log_owner.specs.Sending.{name_of, push_all, store}
use Rattle.node_base.specs.declared.effects.Effect.{Effect}
use Rattle.node_base.specs.declared.effects.Effect.TheVariants.{Does}
use Rattle.node_base.specs.declared.items.Items.{Items}
use Rattle.node_base.specs.Effects.{acts_of}
use Rattle.stripe_cleaner.specs.declared.input.In.TheVariants as input
use Rattle.stripe_cleaner.specs.declared.output.Out.{Out}
use Rattle.stripe_cleaner.specs.Transition.{transition}
use Rattle.version_model.specs.declared.act.Act.TheVariants.{Filed}
use Rattle.wire_msg.specs.declared.packet.Do.{Do}
use Rattle.xfs_base.proofs.Alls.{all_each, all_flat_map}
use Rattle.world_base.specs.declared.estate.Estate.{Estate}
use Rattle.xfs_base.specs.declared.block.BlockId.{BlockId}
use Rattle.xfs_base.specs.declared.entry.Entry.{Entry}
use Rattle.xfs_base.specs.declared.node.NodeId.TheVariants.{Cleaner as TheCleaner}
use Rattle.xfs_base.specs.declared.segment.End.{End}
use Rattle.xfs_base.specs.Steps.{saying, steps}
use Rattle.node_moves.proofs.cleaner_moves.Keeping.{Changes, Follows, Gives, JobKeeps, Keeps, Put, cleaned, event_goes}
use Rattle.node_moves.proofs.cleaner_moves.Keeping.Changes.{FeedRenewed}
use Rattle.node_moves.proofs.cleaner_moves.Keeping.Gives.{EndReported}
use Rattle.node_moves.proofs.cleaner_moves.Keeping.Put.{AllPut, BlockPut}
use Rattle.node_moves.specs.cleaner_moves.Moves.{OpenedBy, came_to, noted}
use Rattle.node_moves.specs.cleaner_moves.Moves.Given.{MovesSettled}
use Rattle.node_moves.specs.cleaner_moves.Moves.OpenedBy.{PacketCame, TimeWent}
use Rattle.node_moves.proofs.client_walk.LogTurns.{IsSend, Lands, Rests, log_turns, put_rests, seal_rests}
use Rattle.segment_format.specs.Rows.{rows_of}
use Rattle.run_answers.proofs.file_law.Acts.{AllFileNone, FilesNone, last_none, last_then_effects, on_none, then_files}
use Rattle.run_answers.proofs.file_law.Lines.{Flies, IsBehind, IsInLine, takes_keep}
use Rattle.run_answers.proofs.file_law.Openings as openers
use Rattle.run_answers.proofs.file_law.Owners.{Kind, Turned}
use Rattle.run_answers.proofs.file_law.Serving as serving
use Rattle.headline.specs.Filings.{FilesOn, filed_last, files_from, own_log}
use Rattle.headline.specs.Restarts.{cleaners_log}

-- what the cleaner's effects act to be filed last, where it filed this before
abbrev pub last_by : ℕ → List Effect → ℕ
last_by before outs = filed_last before (acts_of TheCleaner outs)

-- where a log was open each segment that they file is the next of its incarnation
abbrev pub FilesFrom : Option ℕ → ℕ → List Effect → Type 0
FilesFrom was before outs = IfSome was (λ inc. FilesOn cleaner_log inc before (acts_of TheCleaner outs))

from_none : (was : Option ℕ) (before : ℕ) (outs : List Effect) → AllFileNone outs → FilesFrom was before outs
from_none None before outs all = tt
from_none (Some inc) before outs all = on_none cleaner_log inc TheCleaner before outs all

from_then : (was : Option ℕ) (before : ℕ) (xs ys : List Effect) → FilesFrom was before xs → FilesFrom was (last_by before xs) ys → FilesFrom was before (xs ++ ys)
from_then None before xs ys f g = tt
from_then (Some inc) before xs ys f g =
    (then_files cleaner_log inc TheCleaner before (last_by before xs) (last_by (last_by before xs) ys) xs ys (record { each = f; last = refl })
    (record { each = g; last = refl })).each

-- the incarnation of the log is that which it was, or where none was open the cleaner's own
abbrev pub Boots : Option ℕ → ℕ → ℕ → Type 0
Boots None inc own = inc ≡ own
Boots (Some before) inc own = inc ≡ before

module _ (was : Option ℕ) where
  -- its log is in line, and its end is what was filed last
  pub record Stands (last : ℕ) (l : LogState) (own : ℕ) : Type 0 where
    pub inc : ℕ
    pub line : IsInLine cleaner_log inc l
    pub ends : l.end.seq ≡ last
    pub boots : Boots was inc own

  abbrev pub PhaseSo : ℕ → Phase → Type 0
  PhaseSo last (Down l) = Unit {0}
  PhaseSo last (Opening l o) = openers.Opens TheCleaner (owner_of l) o
  PhaseSo last (Serving e) = Stands last e.log e.lasting.inc

  pub record Goes (last : ℕ) (d : Went_to) : Type 0 where
    pub state : PhaseSo (last_by last d.outs) d.state
    pub files : FilesFrom was last d.outs

  abbrev Serves : ℕ → Done → Type 0
  Serves last d = Goes last (serves_on d)

  abbrev Later : ℕ → ℕ → Type 0
  Later u v = Unit {0}

  abbrev Says : ℕ → Effect → Type 0
  Says last effect = FilesNone effect

  abbrev Any : ℕ → Out → Type 0
  Any w o = Unit {0}

  plain : (last : ℕ) (p : Phase) (outs : List Effect) → PhaseSo last p → AllFileNone outs → Goes last (record { state = p; outs = outs })
  plain last p outs h all = record {
    state = subst (λ n. PhaseSo n p) (sym (last_none TheCleaner last outs all)) h;
    files = from_none was last outs all;
  }

  both : (last : ℕ) (d e : Went_to) → Goes last d → (PhaseSo (last_by last d.outs) d.state → Goes (last_by last d.outs) e) → Goes last (saying d.outs e)
  both last d e h next =
      let g : Goes (last_by last d.outs) e = next h.state in record {
        state = subst (λ n. PhaseSo n e.state) (sym (last_then_effects TheCleaner last d.outs e.outs)) g.state;
        files = from_then was last d.outs e.outs h.files g.files;
      }

  follows : Follows ℕ Later PhaseSo Says Goes
  follows = record {
    now = λ w. tt;
    on = λ u v w a b. tt;
    says = λ w p outs h all. plain w p outs h all;
    goes_on = λ w d e h next. both w d e h (next (last_by w d.outs) tt);
  }

  module _ (start : ℕ) (first : Cleaner) (what : Do) (opens_none : (l : Lasting) (o : openings.Opening) → first.phase ≡ Opening l o → was ≡ None) where
    -- ---- its job

    changed : (last : ℕ) (e f : Emptying) → Changes first what (λ o. Unit {0}) e f → PhaseSo last (Serving e) → PhaseSo last (Serving f)
    changed last e f (FeedRenewed {e = x} slot) h = record { inc = h.inc; line = h.line; ends = h.ends; boots = h.boots }
    changed last e f _ h = record { inc = h.inc; line = h.line; ends = h.ends; boots = h.boots }

    gives_so : (e : Emptying) (effect : Effect) → Gives first what (λ o. Unit {0}) e effect → FilesNone effect
    gives_so e effect (EndReported packet manager m same came from low) = tt
    gives_so e effect _ = tt

    one_stored : (o : LogOut) → AllFileNone (stored o)
    one_stored (log_out.Send f m) = (tt, tt)
    one_stored (log_out.Settled end rows) = tt

    rests_so : (last : ℕ) (e : Emptying) (i : LogIn) → Rests e.log.end (log.transition e.log i) → PhaseSo last (Serving e)
        → PhaseSo last (Serving (record e { log = (log.transition e.log i).state }))
    rests_so last e i rests h = record {
      inc = h.inc;
      line = takes_keep cleaner_log h.inc e.log i h.line;
      ends = ap (λ (end : End). end.seq) rests.same ∙ h.ends;
      boots = h.boots;
    }

    put_so : (e : Emptying) (i : LogIn) → Put (λ o. Unit {0}) i → Rests e.log.end (log.transition e.log i)
    put_so e i (BlockPut block entry value due) = put_rests e.log block (record { entry = entry; value = value })
    put_so e i AllPut = seal_rests e.log

    emptying_put_so : (last : ℕ) (e : Emptying) (i : LogIn) → Put (λ o. Unit {0}) i → PhaseSo last (Serving e) → Serves last (emptying_put e i)
    unfolding emptying_put
    emptying_put_so last e i put h =
        plain last (Serving (record e { log = (log.transition e.log i).state })) (emptying_put e i).outs (rests_so last e i (put_so e i put) h)
        (all_flat_map FilesNone stored one_stored (log.transition e.log i).outs)

    job_keeps : JobKeeps first what ℕ Later PhaseSo Says Goes start Any
    job_keeps = record {
      due = λ u v later o due. tt;
      apart = λ w one blocks due. (tt, tt);
      changes = λ w e f change h. plain w (Serving f) [] (changed w e f change h) tt;
      gives = λ w e effect given h. gives_so e effect given;
      takes = λ w e job given later came h d next. next w tt h (all_each (λ o. Unit {0}) (λ o. tt) (transition job.cleaning given).outs);
      puts = λ w e i put h. emptying_put_so w e i put h;
    }

    -- ---- the log

    -- a segment that is filed
    next_so : (inc last own : ℕ) (name : End) → IsBehind cleaner_log inc last (name_of cleaner_log name) → (t : Option ℕ) → Boots t inc own
        → (outs : List Effect) → AllFileNone outs → FilesFrom t last (Does (Filed (name_of cleaner_log name)) ∷ outs)
    next_so inc last own end named None boots outs all = tt
    next_so inc last own end named (Some before) boots outs all =
        let next : end.seq ≡ suc last = (let q = named.next in omega (arith, q)) in
        (record { log = named.own; inc = named.boot ∙ boots; number = next }, on_none cleaner_log before TheCleaner end.seq outs all)

    settles_so : (last : ℕ) (e : Emptying) (end : End) (rows : List (BlockId × Entry)) (inc : ℕ) → IsInLine cleaner_log inc e.log → e.log.end ≡ end
        → Boots was inc e.lasting.inc → IsBehind cleaner_log inc last (name_of cleaner_log end) → Serves last (emptying_settle e end rows)
    unfolding emptying_settle
    settles_so last e end rows inc line ends boots named =
        let f : Emptying = fed e end rows in
        let outs : List Effect = push_all f.promised.managers f.feed in
        let none : AllFileNone outs = serving.all_pushed_none f.promised.managers f.feed in
        let d : Went_to = record { state = Serving f; outs = Does (Filed (name_of cleaner_log end)) ∷ outs } in
        let g : Goes last d = record {
          state = record { inc = inc; line = line; ends = ap (λ (x : End). x.seq) ends ∙ sym (last_none TheCleaner end.seq outs none); boots = boots };
          files = next_so inc last e.lasting.inc end named was boots outs none;
        } in
        both last d (serves_on (emptying_clean f input.Moved)) g
        (λ k. cleaned first what ℕ Later PhaseSo Says Goes start Any follows job_keeps (last_by last d.outs) f input.Moved tt MovesSettled k)

    sends_so : (last : ℕ) (e : Emptying) (outs : List LogOut) → PhaseSo last (Serving e) → AllByRecursion IsSend outs → Serves last (steps write_one e outs)
    unfolding write_one
    sends_so last e [] h all = plain last (Serving e) [] h tt
    sends_so last e (log_out.Send f m ∷ outs) h all =
        both last (record { state = Serving e; outs = store f m ∷ [] }) (serves_on (steps write_one e outs)) (plain last (Serving e) (store f m ∷ []) h (tt, tt))
        (λ k. sends_so last e outs k all.1)
    sends_so last e (log_out.Settled end rows ∷ outs) h all = absurd all.0

    lands_so : (last : ℕ) (e : Emptying) (l : LogState) (f : FlightState) (rest : List LogOut) → (h : PhaseSo last (Serving e)) → IsInLine cleaner_log h.inc l
        → l.end ≡ end_of f.segment → e.log.flight ≡ Some f → AllByRecursion IsSend rest
        → Serves last (steps write_one (record e { log = l }) (log_out.Settled (end_of f.segment) (rows_of f.segment) ∷ rest))
    unfolding write_one
    lands_so last e l f rest h line ends flew all =
        let t : Emptying = record e { log = l } in
        let b : IsBehind cleaner_log h.inc e.log.end.seq f.segment.name =
        subst (λ (o : Option FlightState). Flies cleaner_log h.inc e.log.end.seq o) flew h.line.flies in
        let next : f.segment.name.seq ≡ last + 1 = b.next ∙ ap (λ n. n + 1) h.ends in
        let s : Done = emptying_settle t (end_of f.segment) (rows_of f.segment) in
        both last (serves_on s) (serves_on (steps write_one s.state rest))
        (settles_so last t (end_of f.segment) (rows_of f.segment) h.inc line ends h.boots (record { own = refl; boot = b.boot; next = next }))
        (λ k. sends_so (last_by last s.outs) s.state rest k all)

    emptying_write_so : (last : ℕ) (e : Emptying) (i : LogIn) → PhaseSo last (Serving e) → Serves last (emptying_write e i)
    unfolding emptying_write
    emptying_write_so last e i h =
        let d : log.Done = log.transition e.log i in
        let t : Emptying = record e { log = d.state } in
        ⊎_elim (λ (rests : Rests e.log.end d). sends_so last t d.outs (rests_so last e i rests h) rests.sends)
        (λ (lands : Lands e.log.flight d). subst (λ (outs : List LogOut). Serves last (steps write_one t outs)) (sym lands.outs)
        (lands_so last e d.state lands.flight lands.rest h (takes_keep cleaner_log h.inc e.log i h.line) lands.ends lands.flew lands.sends))
        (log_turns e.log i)

    -- ---- any event

    items_so : (last : ℕ) (p : Phase) (items : Items) → PhaseSo last p → PhaseSo last (noted p items)
    items_so last (Down l) items h = tt
    items_so last (Opening l o) items h = record { its = h.its; line = h.line }
    items_so last (Serving e) items h = record { inc = h.inc; line = h.line; ends = h.ends; boots = h.boots }

    restarted : (last servers : ℕ) (l : Lasting) (number : ℕ) → Goes last (restart servers l number)
    unfolding restart
    restarted last servers l number =
        plain last (restart servers l number).state (restart servers l number).outs (record { its = refl; line = tt }) (tt, tt)

    went_so : (l : Lasting) (o : openings.Opening) (x : Went) → OpenedBy what l o x → openers.Opens TheCleaner (owner_of l) o
        → openers.WentSo TheCleaner (owner_of l) x
    went_so l o x (PacketCame packet event) h = openers.packet_so TheCleaner (owner_of l) o l.questions packet h
    went_so l o x (TimeWent event) h = openers.tick_so TheCleaner (owner_of l) o l.questions h

    none_files_from : (t : Option ℕ) → t ≡ None → (last : ℕ) (outs : List Effect) → FilesFrom t last outs
    none_files_from None none last outs = tt
    none_files_from (Some inc) none last outs = absurd cc

    boots_own : (t : Option ℕ) → t ≡ None → (own : ℕ) → Boots t own own
    boots_own None none own = refl
    boots_own (Some inc) none own = absurd cc

    came_so : (last : ℕ) (l : Lasting) (p : Progress) (outs : List Effect) → was ≡ None → openers.Says TheCleaner (owner_of l) p outs
        → PhaseSo (last_by last outs) (came_to l p)
    came_so last l (progress.Opening o) outs none h = record { its = h.its; line = h.line }
    came_so last l (progress.Opened o) outs none h = record { inc = l.inc; line = h.line; ends = sym (h.last last); boots = boots_own was none l.inc }
    came_so last l (progress.Lost seg) outs none h = tt

    opens_so : (last : ℕ) (l : Lasting) (o : openings.Opening) (x : Went) → first.phase ≡ Opening l o → OpenedBy what l o x
        → openers.Opens TheCleaner (owner_of l) o → Goes last (record { state = came_to (record l { questions = x.questions }) x.progress; outs = x.effects })
    opens_so last l o x same by h = record {
      state = came_so last (record l { questions = x.questions }) x.progress x.effects (opens_none l o same) (went_so l o x by h);
      files = none_files_from was (opens_none l o same) last x.effects;
    }

    keeps : Keeps first what ℕ Later PhaseSo Says Goes start
    keeps = record {
      items = λ w p items for h. items_so w p items h;
      answers = λ w number a due. tt;
      falls = λ w p h. plain w (Down (lasting_of p)) [] tt tt;
      restarts = λ w l number its event following h. restarted w first.peers.servers l number;
      opens = λ w l o x later its same by h. opens_so w l o x same by h;
      writes = λ w e i later came h. emptying_write_so w e i h;
      pushes = λ w e h. serving.all_pushed_none e.promised.managers e.feed;
    }

    pub taken_so : PhaseSo start first.phase → Goes start (takes first.peers first.phase what)
    taken_so h = event_goes first what ℕ Later PhaseSo Says Goes start Any follows job_keeps keeps h

-- ---- the law of its kind

no_log : (l : LogState) → None ≡ Some l → ⊥
no_log l fact = cc

one_log : (a b : LogState) → Some a ≡ Some b → a ≡ b
one_log a b fact = cc

-- the incarnation of the log that is open
abbrev pub boot_of : Phase → Option ℕ
boot_of (Down l) = None
boot_of (Opening l o) = None
boot_of (Serving e) = Some e.log.inc

abbrev pub PhaseNow : ℕ → Phase → Type 0
PhaseNow last p = PhaseSo (boot_of p) last p

-- what it stands for by the incarnation before the event, it does by its own
now_so : (was : Option ℕ) (last : ℕ) (p : Phase) → PhaseSo was last p → PhaseNow last p
now_so was last (Down l) h = tt
now_so was last (Opening l o) h = record { its = h.its; line = h.line }
now_so was last (Serving e) h = record { inc = h.inc; line = h.line; ends = h.ends; boots = sym h.line.boot }

is_opening_none : (l : Lasting) (o : openings.Opening) (p : Phase) → p ≡ Opening l o → boot_of p ≡ None
is_opening_none l o p same = ap boot_of same

abbrev pub Holds : ℕ → AnyNode → Type 0
Holds last (any.Cleaner c) = PhaseNow last c.phase
Holds last _ = ⊥

module _ (last : ℕ) (c : Cleaner) (what : Do) (h : PhaseNow last c.phase) where
  abbrev after : Went_to
  after = takes c.peers c.phase what

  goes : Goes (boot_of c.phase) last after
  goes = taken_so (boot_of c.phase) last c what (λ l o same. is_opening_none l o c.phase same) h

  numbers_so : (p : Phase) → FilesFrom (boot_of p) last after.outs → (l : LogState) → cleaners_log p ≡ Some l → FilesOn cleaner_log l.inc last (acts_of TheCleaner after.outs)
  numbers_so (Down m) files l fact = absurd (no_log l fact)
  numbers_so (Opening m o) files l fact = absurd (no_log l fact)
  numbers_so (Serving e) files l fact = subst (λ (x : LogState). FilesOn cleaner_log x.inc last (acts_of TheCleaner after.outs)) (one_log e.log l fact) files

  -- the incarnation of the log behind the event
  boots_open : (p q : Phase) (later : ℕ) → PhaseSo (boot_of p) later q → cleaners_log p ≡ None → (l : LogState) → cleaners_log q ≡ Some l → l.inc ≡ (lasting_of q).inc
  boots_open p (Down m) later so none l fact = absurd (no_log l fact)
  boots_open p (Opening m o) later so none l fact = absurd (no_log l fact)
  boots_open (Down m) (Serving e) later so none l fact = sym (ap (λ (x : LogState). x.inc) (one_log e.log l fact)) ∙ (so.line.boot ∙ so.boots)
  boots_open (Opening m o) (Serving e) later so none l fact = sym (ap (λ (x : LogState). x.inc) (one_log e.log l fact)) ∙ (so.line.boot ∙ so.boots)
  boots_open (Serving d) (Serving e) later so none l fact = absurd (no_log d.log (sym none))

  boots_stay : (p q : Phase) (later : ℕ) → PhaseSo (boot_of p) later q → (was l : LogState) → cleaners_log p ≡ Some was → cleaners_log q ≡ Some l → l.inc ≡ was.inc
  boots_stay p (Down m) later so was l before fact = absurd (no_log l fact)
  boots_stay p (Opening m o) later so was l before fact = absurd (no_log l fact)
  boots_stay (Down m) (Serving e) later so was l before fact = absurd (no_log was before)
  boots_stay (Opening m o) (Serving e) later so was l before fact = absurd (no_log was before)
  boots_stay (Serving d) (Serving e) later so was l before fact =
      sym (ap (λ (x : LogState). x.inc) (one_log e.log l fact)) ∙ (so.line.boot ∙ (so.boots ∙ ap (λ (x : LogState). x.inc) (one_log d.log was before)))

  pub cleaner_turns : Turned TheCleaner Holds last (any.Cleaner c) what
  cleaner_turns = record {
    holds = now_so (boot_of c.phase) (last_by last after.outs) after.state goes.state;
    numbers = λ l fact. numbers_so c.phase goes.files l fact;
    opens = λ none l fact. boots_open c.phase after.state (last_by last after.outs) goes.state none l fact;
    stays = λ was l before fact. boots_stay c.phase after.state (last_by last after.outs) goes.state was l before fact;
  }

turns_so : (last : ℕ) (x : AnyNode) (what : Do) → Holds last x → Turned TheCleaner Holds last x what
turns_so last (any.Client c) what h = absurd h
turns_so last (any.Manager m) what h = absurd h
turns_so last (any.Server v) what h = absurd h
turns_so last (any.Cleaner c) what h = cleaner_turns last c what h
turns_so last (any.Registry r) what h = absurd h

rests_on : (last : ℕ) (x : AnyNode) → Holds last x → Holds (files_from (Some x) last) x
rests_on last (any.Client c) h = absurd h
rests_on last (any.Manager m) h = absurd h
rests_on last (any.Server v) h = absurd h
rests_on last (any.Cleaner c) h = h
rests_on last (any.Registry r) h = absurd h

phase_ends : (last : ℕ) (p : Phase) (l : LogState) → PhaseNow last p → cleaners_log p ≡ Some l → l.end.seq ≡ last
phase_ends last (Down m) l h fact = absurd (no_log l fact)
phase_ends last (Opening m o) l h fact = absurd (no_log l fact)
phase_ends last (Serving e) l h fact = ap (λ (x : LogState). x.end.seq) (sym (one_log e.log l fact)) ∙ h.ends

ends_so : (last : ℕ) (x : AnyNode) (l : LogState) → Holds last x → own_log (Some x) ≡ Some l → l.end.seq ≡ last
ends_so last (any.Client c) l h fact = absurd h
ends_so last (any.Manager m) l h fact = absurd h
ends_so last (any.Server v) l h fact = absurd h
ends_so last (any.Cleaner c) l h fact = phase_ends last c.phase l h fact
ends_so last (any.Registry r) l h fact = absurd h

pub cleaner_kind : (e : Estate AnyNode) → Kind TheCleaner e
cleaner_kind e = record {
  Holds = Holds;
  starts = λ works. record { inc = 1; line = record { its = refl; boot = refl; flies = tt }; ends = refl; boots = refl };
  rests = rests_on;
  ends = ends_so;
  turns = turns_so;
}
