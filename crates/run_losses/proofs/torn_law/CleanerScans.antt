-- What each event makes of the cleaner that opens its log: of what it reads then, of what it sends, and of what it says is lost; and one that doesn't read its
-- log begins to do so by a restart alone.
use Rattle.std.proofs.Common.{◌≡◌, ℕ, true, [], ◌∷◌, ◌++◌, Option, Some, None, refl, ap}
use Rattle.xfs_base.proofs.Booleans.{by_test, and_first, and_second}
use Rattle.xfs_base.specs.Steps.{still}
use Rattle.xfs_base.proofs.Alls.{all_append}
use Rattle.cleaner_serving.specs.declared.emptying.Emptying.{Emptying}
use Rattle.cleaner_node.specs.CleanerEvents.{Went_to, crash, after_opening, opened_on, restart, down_wishes, opening_wishes, serving_wishes, begun_life, wish_at, lasting_of, down_at, opening_at, serving_at, on_begin, cleaner_hear, on_deliver, on_time, happens, phase_has_room, takes}
use Rattle.cleaner_node.specs.declared.cleaner.Phase.{Phase}
use Rattle.cleaner_node.specs.declared.cleaner.Phase.TheVariants.{Down, Opening, Serving}
use Rattle.cleaner_node.specs.declared.cleaner.Wish.{Wish}
use Rattle.cleaner_node.specs.declared.cleaner.Wish.TheVariants.{Crash, Restart, Clean}
use Rattle.cleaner_job.specs.declared.lasting.Lasting.{Lasting}
use Rattle.cleaner_job.specs.Lasting.{lasting_has_room}
use Rattle.log_owner.specs.declared.known.Known.{Known}
use Rattle.log_owner.specs.declared.opened.Progress.{Progress}
use Rattle.log_owner.specs.declared.opened.Progress.TheVariants as progress
use Rattle.log_owner.specs.declared.opening.Opening as openings
use Rattle.log_owner.specs.declared.opening.Scanning.{Scanning}
use Rattle.log_owner.specs.declared.opening.Stage.{Stage}
use Rattle.log_owner.specs.declared.opening.Stage.TheVariants as stage
use Rattle.log_owner.specs.Opening as opening
use Rattle.log_owner.specs.Opening.{Went}
use Rattle.log_owner.specs.Sending.{push_all}
use Rattle.node_base.specs.Beginning.{next_item, answers_unanswered}
use Rattle.node_base.specs.declared.effects.Effect.TheVariants.{Answer}
use Rattle.node_base.specs.declared.peers.Peers.{Peers}
use Rattle.node_base.specs.declared.questions.Questions.{Questions}
use Rattle.node_base.specs.Room.{has_room}
use Rattle.node_base.specs.Shape.{is_well_formed}
use Rattle.version_model.specs.declared.answer.Answer.TheVariants as answer
use Rattle.wire_msg.specs.declared.packet.Do.{Do}
use Rattle.wire_msg.specs.declared.packet.Do.TheVariants.{Begin, Deliver, Tick}
use Rattle.wire_msg.specs.declared.packet.Packet.{Packet}
use Rattle.run_losses.proofs.torn_law.ClientScans.{IsFresh, StageTurn, Turning, answered_so, pushed_so, some_is, stage_falls, stage_scan, stage_still}
use Rattle.run_losses.proofs.torn_law.OpeningSays.{After, DoesSo, packet_turns, tick_turns}
use Rattle.run_losses.proofs.torn_law.OpeningTurns.{ProgressSo, StageSo, Goes, Turn, settled_packet, settled_tick}
use Rattle.headline.specs.Openings.{cleaners_scan, scan_in}

module _ (what : Do) where
  abbrev pub PhaseSo : Phase → Went_to → Type 0
  PhaseSo (Down l) x = IsFresh (cleaners_scan x.state)
  PhaseSo (Opening l o) x = StageTurn o.known l.questions.last l.inc o.stage what (cleaners_scan x.state) (lasting_of x.state).inc x.outs
  PhaseSo (Serving e) x = IsFresh (cleaners_scan x.state)

  still_so : (p : Phase) → PhaseSo p (still p)
  still_so (Down l) = λ later e. absurd cc
  still_so (Opening l o) = stage_still what o.known l.questions.last l.inc o.stage [] (λ s. tt)
  still_so (Serving e) = λ later same. absurd cc

  -- ---- an opening goes on

  opened_so : (l : Lasting) (k : Known) (s : Scanning) (last : ℕ) (q : Questions) (w : Went) → Turn (After k s what last) (DoesSo k s what last) q w
      → Turning k s what last l.inc (cleaners_scan (opened_on l w).state) (lasting_of (opened_on l w).state).inc (opened_on l w).outs
  unfolding after_opening
  opened_so l k s last q w t = by_progress w.progress t.goes.progress
    where
      by_progress : (p : Progress) → ProgressSo (After k s what last t.by) (DoesSo k s what last t.by) q p
          → Turning k s what last l.inc (cleaners_scan (after_opening (record l { questions = w.questions }) p).state)
          (lasting_of (after_opening (record l { questions = w.questions }) p).state).inc
          (w.effects ++ (after_opening (record l { questions = w.questions }) p).outs)
      by_progress (progress.Opening o) so = record {
        by = t.by;
        boot = refl;
        scan = stage_scan what k s last t.by q o.stage so;
        does = all_append (DoesSo k s what last t.by) w.effects [] t.goes.does tt;
      }
      by_progress (progress.Opened r) so = record {
        by = t.by;
        boot = refl;
        scan = λ later e. absurd cc;
        does = all_append (DoesSo k s what last t.by) w.effects _ t.goes.does
            (all_append (DoesSo k s what last t.by) (push_all r.promised.managers r.feed) (answers_unanswered l.items.unanswered answer.Done)
            (pushed_so k s what last t.by r.promised.managers r.feed)
            (answered_so k s what last t.by l.items.unanswered answer.Done));
      }
      by_progress (progress.Lost seg) so = record {
        by = t.by;
        boot = refl;
        scan = λ later e. absurd cc;
        does = all_append (DoesSo k s what last t.by) w.effects _ t.goes.does (answered_so k s what last t.by l.items.unanswered (answer.Lost seg));
      }

  settled_so : (l : Lasting) (q : Questions) (w : Went) → Goes (λ x. ⊥) (λ e. Unit {0}) q w → IsFresh (cleaners_scan (opened_on l w).state)
  unfolding after_opening
  settled_so l q w g = by_progress w.progress g.progress
    where
      by_stage : (at : Stage) → StageSo (λ x. ⊥) (λ e. Unit {0}) q at → IsFresh (scan_in at)
      by_stage (stage.Scanning t) so = absurd so
      by_stage (stage.Settling t) so = λ later e. absurd cc

      by_progress : (p : Progress) → ProgressSo (λ x. ⊥) (λ e. Unit {0}) q p
          → IsFresh (cleaners_scan (after_opening (record l { questions = w.questions }) p).state)
      by_progress (progress.Opening o) so = by_stage o.stage so
      by_progress (progress.Opened r) so = λ later e. absurd cc
      by_progress (progress.Lost seg) so = λ later e. absurd cc

  -- ---- an item begins

  down_wish : (servers : ℕ) (l : Lasting) (number : ℕ) (wish : Wish) → IsFresh (cleaners_scan (down_wishes servers l number wish).state)
  unfolding restart
  down_wish servers l number Restart = λ later e. ap (λ (x : Scanning). x.scan.stage) (some_is _ later e)
  down_wish servers l number Crash = λ later e. absurd cc
  down_wish servers l number (Clean count) = λ later e. absurd cc

  opening_wish : (l : Lasting) (o : openings.Opening) (number : ℕ) (wish : Wish) → PhaseSo (Opening l o) (opening_wishes l o number wish)
  unfolding crash
  opening_wish l o number Crash =
      stage_falls what o.known l.questions.last l.inc o.stage (answers_unanswered l.items.unanswered answer.Cut ++ Answer number answer.Done ∷ [])
      (λ s. all_append (DoesSo o.known s what l.questions.last None) (answers_unanswered l.items.unanswered answer.Cut) (Answer number answer.Done ∷ [])
      (answered_so o.known s what l.questions.last None l.items.unanswered answer.Cut) (tt, tt))
  opening_wish l o number Restart = stage_still what o.known l.questions.last l.inc o.stage (Answer number answer.Up ∷ []) (λ s. (tt, tt))
  opening_wish l o number (Clean count) = stage_still what o.known l.questions.last l.inc o.stage (Answer number answer.Down ∷ []) (λ s. (tt, tt))

  serving_wish : (e : Emptying) (number : ℕ) (wish : Wish) → IsFresh (cleaners_scan (serving_wishes e number wish).state)
  unfolding crash
  serving_wish e number Crash = λ later same. absurd cc
  serving_wish e number Restart = λ later same. absurd cc
  serving_wish e number (Clean count) = λ later same. absurd cc

  down_item : (servers : ℕ) (l : Lasting) (item : Option ℕ) → IsFresh (cleaners_scan (down_at servers l item).state)
  down_item servers l None = λ later e. absurd cc
  down_item servers l (Some number) = down_wish servers l number (wish_at l.items number)

  opening_item : (l : Lasting) (o : openings.Opening) (item : Option ℕ) → PhaseSo (Opening l o) (opening_at l o item)
  opening_item l o None = stage_still what o.known l.questions.last l.inc o.stage [] (λ s. tt)
  opening_item l o (Some number) = opening_wish l o number (wish_at l.items number)

  serving_item : (e : Emptying) (item : Option ℕ) → IsFresh (cleaners_scan (serving_at e item).state)
  serving_item e None = λ later same. absurd cc
  serving_item e (Some number) = serving_wish e number (wish_at e.lasting.items number)

  begin_so : (servers : ℕ) (p : Phase) → PhaseSo p (on_begin servers p)
  unfolding on_begin
  begin_so servers (Down l) = down_item servers (begun_life l) (next_item l.items)
  begin_so servers (Opening l o) = opening_item (begun_life l) o (next_item l.items)
  begin_so servers (Serving e) = serving_item (record e { lasting = begun_life e.lasting }) (next_item e.lasting.items)

-- ---- packets and time

heard_so : (l : Lasting) (k : Known) (at : Stage) (packet : Packet) → has_room l.questions.last ≡ true
    → StageTurn k l.questions.last l.inc at (Deliver packet)
    (cleaners_scan (opened_on l (opening.opening_take (record { known = k; stage = at }) l.questions packet)).state)
    (lasting_of (opened_on l (opening.opening_take (record { known = k; stage = at }) l.questions packet)).state).inc
    (opened_on l (opening.opening_take (record { known = k; stage = at }) l.questions packet)).outs
heard_so l k (stage.Scanning s) packet room =
    opened_so (Deliver packet) l k s l.questions.last l.questions _ (packet_turns k s l.questions room packet)
heard_so l k (stage.Settling s) packet room = settled_so (Deliver packet) l l.questions _ (settled_packet k s l.questions packet)

ticked_so : (l : Lasting) (k : Known) (at : Stage) → has_room l.questions.last ≡ true
    → StageTurn k l.questions.last l.inc at Tick
    (cleaners_scan (opened_on l (opening.on_tick (record { known = k; stage = at }) l.questions)).state)
    (lasting_of (opened_on l (opening.on_tick (record { known = k; stage = at }) l.questions)).state).inc
    (opened_on l (opening.on_tick (record { known = k; stage = at }) l.questions)).outs
ticked_so l k (stage.Scanning s) room = opened_so Tick l k s l.questions.last l.questions _ (tick_turns k s l.questions room)
ticked_so l k (stage.Settling s) room = settled_so Tick l l.questions _ (settled_tick k s l.questions)

cleaner_hear_so : (p : Phase) (packet : Packet) → has_room (lasting_of p).questions.last ≡ true → PhaseSo (Deliver packet) p (cleaner_hear p packet)
unfolding cleaner_hear
cleaner_hear_so (Down l) packet room = λ later e. absurd cc
cleaner_hear_so (Opening l o) packet room = heard_so l o.known o.stage packet room
cleaner_hear_so (Serving e) packet room = λ later same. absurd cc

time_so : (p : Phase) → has_room (lasting_of p).questions.last ≡ true → PhaseSo Tick p (on_time p)
unfolding on_time
time_so (Down l) room = λ later e. absurd cc
time_so (Opening l o) room = ticked_so l o.known o.stage room
time_so (Serving e) room = λ later same. absurd cc

its_room : (p : Phase) → phase_has_room p ≡ true → has_room (lasting_of p).questions.last ≡ true
its_room (Down l) room = and_second (has_room l.inc) (has_room l.questions.last) room
its_room (Opening l o) room =
    and_second (has_room l.inc) (has_room l.questions.last) (and_first (lasting_has_room l) (opening.opening_has_room o) room)
its_room (Serving e) room =
    and_second (has_room e.lasting.inc) (has_room e.lasting.questions.last) (and_first (lasting_has_room e.lasting) _ room)

happens_so : (peers : Peers) (p : Phase) (what : Do) → has_room (lasting_of p).questions.last ≡ true → PhaseSo what p (happens peers p what)
unfolding on_deliver
happens_so peers p Begin room = begin_so Begin peers.servers p
happens_so peers p (Deliver packet) room =
    by_test (λ (x : Went_to). PhaseSo (Deliver packet) p x) (is_well_formed peers packet) (cleaner_hear p packet) (still p) (λ t. cleaner_hear_so p packet room)
    (λ t. still_so (Deliver packet) p)
happens_so peers p Tick room = time_so p room

pub cleaner_turns : (peers : Peers) (p : Phase) (what : Do) → PhaseSo what p (takes peers p what)
cleaner_turns peers p what =
    by_test (λ (x : Went_to). PhaseSo what p x) (phase_has_room p) (happens peers p what) (still p) (λ room. happens_so peers p what (its_room p room))
    (λ room. still_so what p)
