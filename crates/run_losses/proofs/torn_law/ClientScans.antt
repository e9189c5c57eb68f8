-- What each event makes of a client that opens its log: of what it reads then, of what it sends, and of what it says is lost; and one that doesn't read its log
-- begins to do so by a restart alone.
use Rattle.std.proofs.Common.{◌≡◌, ℕ, ◌&&◌, true, List, [], ◌∷◌, ◌++◌, Option, Some, None, refl, sym, ap, subst}
use Rattle.std.specs.List.{AllByRecursion}
use Rattle.xfs_base.proofs.Booleans.{by_test, and_first, and_second}
use Rattle.xfs_base.specs.Steps.{still}
use Rattle.xfs_base.proofs.Alls.{all_append, all_map}
use Rattle.client_node.specs.declared.client.Client.{Client}
use Rattle.client_node.specs.declared.phase.Phase.TheVariants.{Down, Opening, Serving as Serves}
use Rattle.client_node.specs.declared.phase.Phase.{Phase}
use Rattle.client_node.specs.Phases.{Went_to, phase_after, opened_on, item_begins, with_begun, wish_of, lasting_of, begins_item, on_begin, on_deliver, client_tick, happens, phase_has_room, client_has_room, takes}
use Rattle.client_serving.specs.declared.lasting.Lasting.{Lasting}
use Rattle.client_serving.specs.declared.serving.Serving.{Serving}
use Rattle.delta_feed.specs.declared.output.Out.{Out}
use Rattle.delta_feed.specs.declared.output.Out.TheVariants.{Range}
use Rattle.delta_feed.specs.Transition.{feed_tick}
use Rattle.log_owner.specs.declared.known.Known.{Known}
use Rattle.log_owner.specs.declared.opened.Progress.{Progress}
use Rattle.log_owner.specs.declared.opened.Progress.TheVariants as progress
use Rattle.log_owner.specs.declared.opening.Opening as openings
use Rattle.log_owner.specs.declared.opening.Scanning.{Scanning}
use Rattle.log_owner.specs.declared.opening.Stage.{Stage}
use Rattle.log_owner.specs.declared.opening.Stage.TheVariants as stage
use Rattle.log_owner.specs.declared.promised.Managers.{Managers}
use Rattle.log_owner.specs.Opening as opening
use Rattle.log_owner.specs.Opening.{Went}
use Rattle.log_owner.specs.Sending.{push_all, range}
use Rattle.delta_feed.specs.FeedState.{FeedState}
use Rattle.log_scan.specs.declared.input.In.{In as Input}
use Rattle.log_scan.specs.declared.stage.Stage.TheVariants.{Hails}
use Rattle.node_base.specs.Beginning.{next_item, items_begin, answers_unanswered, work_at}
use Rattle.node_base.specs.declared.effects.Effect.{Effect}
use Rattle.node_base.specs.declared.effects.Effect.TheVariants.{Answer}
use Rattle.node_base.specs.declared.questions.Questions.{Questions}
use Rattle.node_base.specs.Room.{has_room}
use Rattle.node_base.specs.Shape.{is_well_formed}
use Rattle.node_logs.proofs.node_log_tie.Lists.{answers_send}
use Rattle.version_model.specs.declared.answer.Answer.{Answer as Answered}
use Rattle.version_model.specs.declared.answer.Answer.TheVariants as answer
use Rattle.version_model.specs.declared.work.Work.{Work}
use Rattle.version_model.specs.declared.work.Work.TheVariants as work
use Rattle.wire_msg.specs.declared.packet.Do.{Do}
use Rattle.wire_msg.specs.declared.packet.Do.TheVariants.{Begin, Deliver, Tick}
use Rattle.wire_msg.specs.declared.packet.Packet.{Packet}
use Rattle.run_losses.proofs.torn_law.OpeningSays.{After, DoesSo, packet_turns, tick_turns}
use Rattle.run_losses.proofs.torn_law.OpeningTurns.{ProgressSo, StageSo, Goes, Turn, settled_packet, settled_tick}
use Rattle.headline.specs.Openings.{clients_scan, scan_in}

-- it took an input that came, or none, and did what its scan said, in one boot
pub record Turning (k : Known) (s : Scanning) (what : Do) (last inc : ℕ) (after : Option Scanning) (life : ℕ) (outs : List Effect) : Type 0 where
  pub by : Option Input
  pub scan : (later : Scanning) → after ≡ Some later → After k s what last by later
  pub does : AllByRecursion (DoesSo k s what last by) outs
  pub boot : life ≡ inc

-- what it reads then it has just begun
abbrev pub IsFresh : Option Scanning → Type 0
IsFresh after = (later : Scanning) → after ≡ Some later → later.scan.stage ≡ Hails

pub some_is : (a b : Scanning) → Some a ≡ Some b → b ≡ a
some_is a b e = cc

-- what is pushed is no fetch
pub pushed_so : (k : Known) (s : Scanning) (what : Do) (last : ℕ) (by : Option Input) (managers : Managers) (feed : FeedState)
    → AllByRecursion (DoesSo k s what last by) (push_all managers feed)
pushed_so k s what last by managers feed = all_map (DoesSo k s what last by) (range managers) one (feed_tick feed)
  where
    one : (x : Out) → DoesSo k s what last by (range managers x)
    one (Range slot first upto rows) = tt

pub answered_so : (k : Known) (s : Scanning) (what : Do) (last : ℕ) (by : Option Input) (item : Option ℕ) (a : Answered)
    → AllByRecursion (DoesSo k s what last by) (answers_unanswered item a)
answered_so k s what last by item a = answers_send (DoesSo k s what last by) (λ number said. tt) item a

abbrev pub StageTurn : Known → ℕ → ℕ → Stage → Do → Option Scanning → ℕ → List Effect → Type 0
StageTurn k last inc (stage.Scanning s) what after life outs = Turning k s what last inc after life outs
StageTurn k last inc (stage.Settling s) what after life outs = IsFresh after

module _ (what : Do) where
  abbrev pub PhaseSo : Phase → Went_to → Type 0
  PhaseSo (Down l) x = IsFresh (clients_scan x.state)
  PhaseSo (Opening l o) x = StageTurn o.known l.questions.last l.inc o.stage what (clients_scan x.state) (lasting_of x.state).inc x.outs
  PhaseSo (Serves s) x = IsFresh (clients_scan x.state)

  pub stage_still : (k : Known) (last inc : ℕ) (at : Stage) (outs : List Effect)
      → ((s : Scanning) → AllByRecursion (DoesSo k s what last None) outs) → StageTurn k last inc at what (scan_in at) inc outs
  stage_still k last inc (stage.Scanning s) outs does = record { by = None; scan = λ later e. some_is s later e; does = does s; boot = refl }
  stage_still k last inc (stage.Settling s) outs does = λ later e. absurd cc

  still_so : (p : Phase) → PhaseSo p (still p)
  still_so (Down l) = λ later e. absurd cc
  still_so (Opening l o) = stage_still o.known l.questions.last l.inc o.stage [] (λ s. tt)
  still_so (Serves s) = λ later e. absurd cc

  -- ---- an opening goes on

  pub stage_scan : (k : Known) (s : Scanning) (last : ℕ) (by : Option Input) (q : Questions) (at : Stage)
      → ProgressSo (After k s what last by) (DoesSo k s what last by) q (progress.Opening (record { known = k; stage = at }))
      → (later : Scanning) → scan_in at ≡ Some later → After k s what last by later
  stage_scan k s last by q (stage.Scanning t) so later e = subst (After k s what last by) (sym (some_is t later e)) so
  stage_scan k s last by q (stage.Settling t) so later e = absurd cc

  opened_so : (l : Lasting) (capacity : ℕ) (k : Known) (s : Scanning) (last : ℕ) (q : Questions) (w : Went)
      → Turn (After k s what last) (DoesSo k s what last) q w
      → Turning k s what last l.inc (clients_scan (opened_on l capacity w).state) (lasting_of (opened_on l capacity w).state).inc (opened_on l capacity w).outs
  opened_so l capacity k s last q w t = by_progress w.progress t.goes.progress
    where
      by_progress : (p : Progress) → ProgressSo (After k s what last t.by) (DoesSo k s what last t.by) q p
          → Turning k s what last l.inc (clients_scan (phase_after (record l { questions = w.questions }) capacity p).state)
          (lasting_of (phase_after (record l { questions = w.questions }) capacity p).state).inc
          (w.effects ++ (phase_after (record l { questions = w.questions }) capacity p).outs)
      by_progress (progress.Opening o) so = record {
        by = t.by;
        boot = refl;
        scan = stage_scan k s last t.by q o.stage so;
        does = all_append (DoesSo k s what last t.by) w.effects [] t.goes.does tt;
      }
      by_progress (progress.Opened r) so = record {
        by = t.by;
        boot = refl;
        scan = λ later e. absurd cc;
        does = all_append (DoesSo k s what last t.by) w.effects _ t.goes.does (
          tt,
          all_append (DoesSo k s what last t.by) (push_all r.promised.managers r.feed) _ (pushed_so k s what last t.by r.promised.managers r.feed)
              (answered_so k s what last t.by l.items.unanswered answer.Done),
        );
      }
      by_progress (progress.Lost seg) so = record {
        by = t.by;
        boot = refl;
        scan = λ later e. absurd cc;
        does = all_append (DoesSo k s what last t.by) w.effects _ t.goes.does (answered_so k s what last t.by l.items.unanswered (answer.Lost seg));
      }

  settled_so : (l : Lasting) (capacity : ℕ) (q : Questions) (w : Went) → Goes (λ x. ⊥) (λ e. Unit {0}) q w
      → IsFresh (clients_scan (opened_on l capacity w).state)
  settled_so l capacity q w g = by_progress w.progress g.progress
    where
      by_stage : (at : Stage) → StageSo (λ x. ⊥) (λ e. Unit {0}) q at → IsFresh (scan_in at)
      by_stage (stage.Scanning t) so = absurd so
      by_stage (stage.Settling t) so = λ later e. absurd cc

      by_progress : (p : Progress) → ProgressSo (λ x. ⊥) (λ e. Unit {0}) q p
          → IsFresh (clients_scan (phase_after (record l { questions = w.questions }) capacity p).state)
      by_progress (progress.Opening o) so = by_stage o.stage so
      by_progress (progress.Opened r) so = λ later e. absurd cc
      by_progress (progress.Lost seg) so = λ later e. absurd cc

  -- ---- an item begins

  pub stage_falls : (k : Known) (last inc : ℕ) (at : Stage) (outs : List Effect) → ((s : Scanning) → AllByRecursion (DoesSo k s what last None) outs)
      → StageTurn k last inc at what None inc outs
  stage_falls k last inc (stage.Scanning s) outs does = record { by = None; scan = λ later e. absurd cc; does = does s; boot = refl }
  stage_falls k last inc (stage.Settling s) outs does = λ later e. absurd cc

  opening_begins_so : (l : Lasting) (o : openings.Opening) (number : ℕ) (servers : ℕ) (wanted : Option Work)
      → PhaseSo (Opening l o) (item_begins servers (with_begun (Opening l o)) number (wish_of wanted))
  opening_begins_so l o number servers (Some (work.Crash node)) =
      stage_falls o.known l.questions.last l.inc o.stage (answers_unanswered (items_begin l.items).unanswered answer.Cut ++ Answer number answer.Done ∷ [])
      (λ s. all_append (DoesSo o.known s what l.questions.last None) (answers_unanswered (items_begin l.items).unanswered answer.Cut) (Answer number answer.Done ∷ [])
      (answered_so o.known s what l.questions.last None (items_begin l.items).unanswered answer.Cut) (tt, tt))
  opening_begins_so l o number servers (Some (work.Restart node)) =
      stage_still o.known l.questions.last l.inc o.stage (Answer number answer.Up ∷ []) (λ s. (tt, tt))
  opening_begins_so l o number servers (Some _) =
      stage_still o.known l.questions.last l.inc o.stage (Answer number answer.Down ∷ []) (λ s. (tt, tt))
  opening_begins_so l o number servers None =
      stage_still o.known l.questions.last l.inc o.stage (Answer number answer.Down ∷ []) (λ s. (tt, tt))

  down_begins_so : (servers : ℕ) (l : Lasting) (number : ℕ) (wanted : Option Work)
      → IsFresh (clients_scan (item_begins servers (with_begun (Down l)) number (wish_of wanted)).state)
  down_begins_so servers l number (Some (work.Crash node)) = λ later e. absurd cc
  down_begins_so servers l number (Some (work.Restart node)) = λ later e. ap (λ (x : Scanning). x.scan.stage) (some_is _ later e)
  down_begins_so servers l number (Some _) = λ later e. absurd cc
  down_begins_so servers l number None = λ later e. absurd cc

  serving_begins_so : (servers : ℕ) (s : Serving) (number : ℕ) (wanted : Option Work)
      → IsFresh (clients_scan (item_begins servers (with_begun (Serves s)) number (wish_of wanted)).state)
  serving_begins_so servers s number (Some (work.Crash node)) = λ later e. absurd cc
  serving_begins_so servers s number (Some (work.Restart node)) = λ later e. absurd cc
  serving_begins_so servers s number (Some _) = λ later e. absurd cc
  serving_begins_so servers s number None = λ later e. absurd cc

  begins_so : (servers : ℕ) (p : Phase) (number : ℕ) (wanted : Option Work) → PhaseSo p (item_begins servers (with_begun p) number (wish_of wanted))
  begins_so servers (Down l) number wanted = down_begins_so servers l number wanted
  begins_so servers (Opening l o) number wanted = opening_begins_so l o number servers wanted
  begins_so servers (Serves s) number wanted = serving_begins_so servers s number wanted

  item_so : (servers : ℕ) (p : Phase) (item : Option ℕ) → PhaseSo p (begins_item servers p item)
  item_so servers p None = still_so p
  item_so servers p (Some number) = begins_so servers p number (work_at (lasting_of (with_begun p)).items number)

  begin_so : (servers : ℕ) (p : Phase) → PhaseSo p (on_begin servers p)
  unfolding on_begin
  begin_so servers p = item_so servers p (next_item (lasting_of p).items)

-- ---- packets and time

heard_so : (capacity : ℕ) (l : Lasting) (k : Known) (at : Stage) (packet : Packet) → has_room l.questions.last ≡ true
    → StageTurn k l.questions.last l.inc at (Deliver packet)
    (clients_scan (opened_on l capacity (opening.opening_take (record { known = k; stage = at }) l.questions packet)).state)
    (lasting_of (opened_on l capacity (opening.opening_take (record { known = k; stage = at }) l.questions packet)).state).inc
    (opened_on l capacity (opening.opening_take (record { known = k; stage = at }) l.questions packet)).outs
heard_so capacity l k (stage.Scanning s) packet room =
    opened_so (Deliver packet) l capacity k s l.questions.last l.questions _ (packet_turns k s l.questions room packet)
heard_so capacity l k (stage.Settling s) packet room =
    settled_so (Deliver packet) l capacity l.questions _ (settled_packet k s l.questions packet)

ticked_so : (capacity : ℕ) (l : Lasting) (k : Known) (at : Stage) → has_room l.questions.last ≡ true
    → StageTurn k l.questions.last l.inc at Tick
    (clients_scan (opened_on l capacity (opening.on_tick (record { known = k; stage = at }) l.questions)).state)
    (lasting_of (opened_on l capacity (opening.on_tick (record { known = k; stage = at }) l.questions)).state).inc
    (opened_on l capacity (opening.on_tick (record { known = k; stage = at }) l.questions)).outs
ticked_so capacity l k (stage.Scanning s) room =
    opened_so Tick l capacity k s l.questions.last l.questions _ (tick_turns k s l.questions room)
ticked_so capacity l k (stage.Settling s) room = settled_so Tick l capacity l.questions _ (settled_tick k s l.questions)

deliver_so : (capacity : ℕ) (p : Phase) (packet : Packet) → has_room (lasting_of p).questions.last ≡ true
    → PhaseSo (Deliver packet) p (on_deliver capacity p packet)
unfolding on_deliver
deliver_so capacity (Down l) packet room = λ later e. absurd cc
deliver_so capacity (Opening l o) packet room = heard_so capacity l o.known o.stage packet room
deliver_so capacity (Serves s) packet room = λ later e. absurd cc

time_so : (capacity : ℕ) (p : Phase) → has_room (lasting_of p).questions.last ≡ true → PhaseSo Tick p (client_tick capacity p)
unfolding client_tick
time_so capacity (Down l) room = λ later e. absurd cc
time_so capacity (Opening l o) room = ticked_so capacity l o.known o.stage room
time_so capacity (Serves s) room = λ later e. absurd cc

happens_so : (client : Client) (what : Do) → has_room (lasting_of client.phase).questions.last ≡ true → PhaseSo what client.phase (happens client what)
happens_so client Begin room = begin_so Begin client.peers.servers client.phase
happens_so client (Deliver packet) room =
    by_test (λ (x : Went_to). PhaseSo (Deliver packet) client.phase x) (is_well_formed client.peers packet) (on_deliver client.cache client.phase packet)
    (still client.phase) (λ t. deliver_so client.cache client.phase packet room) (λ t. still_so (Deliver packet) client.phase)
happens_so client Tick room = time_so client.cache client.phase room

pub client_turns : (client : Client) (what : Do) → PhaseSo what client.phase (takes client what)
client_turns client what =
    by_test (λ (x : Went_to). PhaseSo what client.phase x) (client_has_room client) (happens client what) (still client.phase)
    (λ room. happens_so client what
    (and_first (has_room (lasting_of client.phase).questions.last) (phase_has_room client.phase)
    (and_second (has_room (lasting_of client.phase).inc) (has_room (lasting_of client.phase).questions.last && phase_has_room client.phase) room)))
    (λ room. still_so what client.phase)
