-- What happens in a play is a run of its script with boards.
use Rattle.std.proofs.Common.{◌≡◌, refl, subst, sym, ap, ◌∙◌, ℕ, ◌+◌, min, Bool, true, false, cond, true≢false, List, [], ◌∷◌, ◌++◌, Option, Some, None, slice_get, append_assoc, append-nil}
use Rattle.script_text.specs.declared.script.Line.{Line}
use Rattle.script_text.specs.declared.script.Script.{Script}
use Rattle.version_model.specs.declared.work.Work.{Work}
use Rattle.version_model.specs.declared.work.Work.TheVariants as works
use Rattle.wire_msg.specs.declared.packet.Do.{Do}
use Rattle.wire_msg.specs.declared.packet.Do.TheVariants as whats
use Rattle.wire_msg.specs.declared.packet.Packet.{Packet}
use Rattle.wire_msg.specs.NodeStep.{NodeStep}
use Rattle.xfs_base.specs.declared.node.NodeId.{NodeId}
use Rattle.xfs_base.specs.declared.node.NodeId.TheVariants.{Registry}
use Rattle.xfs_base.specs.declared.setup.Setup.{Setup}
use Rattle.xfs_base.specs.Nodes.{same_node}
use Rattle.xfs_base.specs.Steps.{Stepped, steps}
use Rattle.xfs_base.proofs.NodeOrder.{same_node_is, same_node_itself}
use Rattle.xfs_base.proofs.StepLoops.{steps_both}
use Rattle.world_base.specs.declared.event.Event.{Event}
use Rattle.world_base.specs.declared.event.Event.TheVariants.{Begin, Tick}
use Rattle.world_base.specs.Events.{event_of}
use Rattle.world_base.specs.Items.{actor_of}
use Rattle.world_base.specs.Runs.{WasSent}
use Rattle.board.specs.declared.packet.BoardPacket.{BoardPacket}
use Rattle.board_world.specs.declared.board_event.BoardEvent.{BoardEvent}
use Rattle.board_world.specs.declared.board_event.BoardEvent.TheVariants.{Far, Offer, Mail, Beat, Stop, Start}
use Rattle.board_world.specs.BoardRuns.{BoardsLead, IsBoardRun, MayCome, MayOffer, Together, first_together, next_together}
use Rattle.board_world.specs.NextBoards.{BoardsState, boards_after, boards_start, is_up, boards_take}
use Rattle.board_play.specs.declared.player.Player.{Player}
use Rattle.board_play.specs.declared.sent.Sender.{Sender}
use Rattle.board_play.specs.declared.sent.Sender.TheVariants as senders
use Rattle.board_play.specs.declared.sent.Sent.{Sent}
use Rattle.play.specs.Manner.{play_line}
use Rattle.play.proofs.Manners.{all_keep, line_good}
use Rattle.board_play.specs.Plays.{player_beat, beat_all, player_begin, begin_at, board_event, coming, delivered, delivery, event_at, player_happen, happen_where, least_up, mailing, manner_of, offer_to, player_offer, opens, opens_by, opens_for, player_play, player_start, ticks, together, with_offer, with_one_more}
use Rattle.board_play.specs.Plays as plays

not_registry : (node : NodeId) → same_node node Registry ≡ false → node ≡ Registry → ⊥
not_registry node other is =
    true≢false (sym (same_node_itself Registry) ∙ ap (λ n. same_node n Registry) (sym is) ∙ other)

outs_both : {S O A : Type 0} (step : S → A → Stepped S O) (s : S) (before then : List A)
    → (steps step s (before ++ then)).outs ≡ (steps step s before).outs ++ (steps step (steps step s before).state then).outs
outs_both step s [] then = refl
outs_both step s (x ∷ before) then =
    ap (λ outs. (step s x).outs ++ outs) (outs_both step (step s x).state before then)
    ∙ sym (append_assoc (step s x).outs (steps step (step s x).state before).outs (steps step (steps step (step s x).state before).state then).outs)

module _ {N : Type 0} (step : N → Do → NodeStep N) (first : NodeId → Setup → List Work → N) (script : Script) where
  abbrev start : Together N
  start = first_together step first script

  one_more : (t : Together N) (es : List BoardEvent) (end : Together N) (event : BoardEvent) → BoardsLead step t es end → MayCome end event
      → BoardsLead step t (es ++ event ∷ []) (next_together step end event)
  one_more t [] end event led may = (subst (λ v. MayCome v event) (sym led) may, ap (λ v. next_together step v event) led)
  one_more t (e ∷ es) end event led may = (led.0, one_more (next_together step t e) es end event led.1 may)

  -- what happened so far leads to what stands, and stands for what happened in the world
  pub record HasRun (p : Player N) : Type 0 where
    pub leads : IsBoardRun step first script p.happened (together p)
    pub boards : (boards_after script p.happened).state ≡ p.boards
    pub events : (boards_after script p.happened).outs ≡ p.events

  happens_runs : (p : Player N) (event : BoardEvent) → MayCome (together p) event → HasRun p → HasRun (player_happen step p event)
  unfolding player_happen
  happens_runs p event may run =
      let last = ap (λ (b : BoardsState). boards_take b event) run.boards in
      record {
        leads = one_more start p.happened (together p) event run.leads may;
        boards = steps_both boards_take (boards_start script) p.happened (event ∷ []) ∙ ap (λ (s : Stepped BoardsState Event). s.state) last;
        events =
            outs_both boards_take (boards_start script) p.happened (event ∷ [])
            ∙ ap (λ (s : Stepped BoardsState Event). (boards_after script p.happened).outs ++ (s.outs ++ [])) last
            ∙ ap (λ outs. (boards_after script p.happened).outs ++ outs) (append-nil (boards_take p.boards event).outs)
            ∙ ap (λ events. events ++ (boards_take p.boards event).outs) run.events;
      }

  -- what a registry of a board sent, the one registry sent
  module _ (handed : (events : List BoardEvent) (end : Together N) → IsBoardRun step first script events end → (packet : Packet)
      → WasSent end.boards.handed packet → WasSent end.world.sent packet) where
    abbrev MayWhere : Together N → Option BoardEvent → Type 0
    MayWhere t None = Unit {0}
    MayWhere t (Some event) = MayCome t event

    happen_where_runs : (p : Player N) (event : Option BoardEvent) → MayWhere (together p) event → HasRun p → HasRun (happen_where step p event)
    happen_where_runs p None may run = run
    happen_where_runs p (Some event) may run = happens_runs p event may run

    may_offer : (t : Together N) (board : Option ℕ) (what : Do) (item : ℕ) → MayOffer t.world what → MayWhere t (offer_to board what item)
    may_offer t None what item may = tt
    may_offer t (Some board) what item may = may

    offers_runs : (p : Player N) → HasRun p → HasRun (player_offer step p)
    offers_runs p run =
        let event = offer_to (least_up p.boards) whats.Begin (with_offer p).offered in
        happen_where_runs (with_offer p) event (may_offer (together p) (least_up p.boards) whats.Begin (with_offer p).offered tt)
        (record { leads = run.leads; boards = run.boards; events = run.events })

    begin_at_runs : (p : Player N) (node : NodeId) → HasRun p → HasRun (begin_at step p node)
    begin_at_runs p node run =
        elim (same_node node Registry) as (λ t. same_node node Registry ≡ t → HasRun (cond t (player_offer step p) (player_happen step p (Far (Begin node))))) [
          | true ↦ λ e. offers_runs p run
          | false ↦ λ e. happens_runs p (Far (Begin node)) (tt, not_registry node e) run
        ] refl

    begins_runs : (p : Player N) (node : NodeId) → HasRun p → HasRun (player_begin step p node)
    unfolding player_begin
    begins_runs p node run =
        let begun = begin_at_runs (with_one_more p) node (record { leads = run.leads; boards = run.boards; events = run.events }) in
        record { leads = begun.leads; boards = begun.boards; events = begun.events }

    may_deliver : (t : Together N) (packet : Packet) → WasSent t.world.sent packet → MayWhere t (event_at t.boards packet.to (whats.Deliver packet))
    may_deliver t packet sent =
        elim (same_node packet.to Registry) as
        (λ b. same_node packet.to Registry ≡ b
        → MayWhere t (cond b (offer_to (least_up t.boards) (whats.Deliver packet) 0) (Some (Far (event_of packet.to (whats.Deliver packet)))))) [
          | true ↦ λ e. may_offer t (least_up t.boards) (whats.Deliver packet) 0 (sent, same_node_is packet.to Registry e)
          | false ↦ λ e. (sent, not_registry packet.to e)
        ] refl

    may_delivery : (t : Together N) (packet : Option Packet) → ((x : Packet) → packet ≡ Some x → WasSent t.world.sent x) → MayWhere t (delivery t.boards packet)
    may_delivery t None sent = tt
    may_delivery t (Some packet) sent = may_deliver t packet (sent packet refl)

    may_mail : (t : Together N) (place : ℕ) (packet : Option BoardPacket) → slice_get t.boards.mail place ≡ packet → MayWhere t (mailing packet)
    may_mail t place None got = tt
    may_mail t place (Some packet) got = (place, got)

    comes_may : (p : Player N) (sender : Sender) (place : ℕ) → HasRun p → MayWhere (together p) (coming (together p) sender place)
    comes_may p senders.Nodes place run = may_delivery (together p) (slice_get p.world.sent place) (λ x got. (place, got))
    comes_may p senders.Registries place run =
        may_delivery (together p) (slice_get p.boards.handed place) (λ x got. handed p.happened (together p) run.leads x (place, got))
    comes_may p senders.Boards place run = may_mail (together p) place (slice_get p.boards.mail place) refl

    delivers_runs : (p : Player N) (number : ℕ) (sent : Option Sent) → HasRun p → HasRun (plays.delivers step p number sent)
    delivers_runs p number None run = run
    delivers_runs p number (Some sent) run =
        let came = happen_where_runs p (coming (together p) sent.sender sent.place) (comes_may p sent.sender sent.place run) run in
        record { leads = came.leads; boards = came.boards; events = came.events }

    beat_runs : (p : Player N) (board : ℕ) → HasRun p → HasRun (player_beat step p board)
    unfolding player_beat
    beat_runs p board run = elim (is_up p.boards board) as (λ t. HasRun (cond t (player_happen step p (Beat board)) p)) [
      | true ↦ happens_runs p (Beat board) tt run
      | false ↦ run
    ]

    beats_run : (p : Player N) → HasRun p → HasRun (beat_all step p)
    beats_run p run =
        let one = player_beat step p 1 in
        let two = player_beat step one 2 in
        beat_runs two 3 (beat_runs one 2 (beat_runs p 1 run))

    tick_runs : (p : Player N) (node : NodeId) → HasRun p → HasRun (ticks step p node)
    unfolding ticks
    tick_runs p node run =
        elim (same_node node Registry) as (λ t. same_node node Registry ≡ t → HasRun (cond t (beat_all step p) (player_happen step p (Far (Tick node))))) [
          | true ↦ λ e. beats_run p run
          | false ↦ λ e. happens_runs p (Far (Tick node)) (tt, not_registry node e) run
        ] refl

    delivery_runs : (p : Player N) (number : ℕ) → HasRun p → HasRun (delivered step p number)
    unfolding delivered
    delivery_runs p number run = delivers_runs p number (slice_get p.sent number) run

    opens_for_runs : (p : Player N) (work : Work) (actor : Option NodeId) → HasRun p → HasRun (opens_for step p work actor)
    opens_for_runs p work None run = record { leads = run.leads; boards = run.boards; events = run.events }
    opens_for_runs p work (Some node) run = begins_runs p node run

    opens_runs : (p : Player N) (work : Work) (event : Option BoardEvent) → MayWhere (together p) event → HasRun p → HasRun (opens_by step p work event)
    opens_runs p work None may run = opens_for_runs p work (actor_of work) run
    opens_runs p work (Some event) may run =
        let turned = happens_runs p event may run in
        record { leads = turned.leads; boards = turned.boards; events = turned.events }

    may_turn : (t : Together N) (work : Work) → MayWhere t (board_event work)
    may_turn t (works.BoardStop board) = tt
    may_turn t (works.BoardStart board) = tt
    may_turn t work = tt

    line_runs : (p : Player N) (line : Line) → HasRun p → HasRun (play_line (manner_of step) p line)
    unfolding opens
    line_runs p line run =
        let opened = opens_runs p line.work (board_event line.work) (may_turn (together p) line.work) run in
        line_good (manner_of step) HasRun (λ q s led. record { leads = led.leads; boards = led.boards; events = led.events }) delivery_runs tick_runs p line opened

    pub play_runs : HasRun (player_play step first script)
    unfolding player_play
    play_runs = all_keep (play_line (manner_of step)) HasRun line_runs (player_start first script) script.lines (record { leads = refl; boards = refl; events = refl })
