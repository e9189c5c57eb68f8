-- A play begins each item of a node that isn't the registry once, at its line.
use Rattle.std.proofs.Common.{◌≡◌, ◌⊎◌, refl, ap, sym, ◌∙◌, inl, inr, ℕ, ◌-◌, ◌&&◌, nat_lt, nat_le, Bool, true, false, cond, not, drop, length, List, [], ◌∷◌, ◌++◌, filter, Option, Some, None, fold, slice_get, append_assoc, append-nil}
use Rattle.std.specs.List.{cons_option}
use Rattle.script_text.specs.declared.script.Line.{Line}
use Rattle.script_text.specs.declared.script.Script.{Script}
use Rattle.version_model.specs.declared.work.Work.{Work}
use Rattle.wire_msg.specs.declared.packet.Do.{Do}
use Rattle.wire_msg.specs.declared.packet.Do.TheVariants as whats
use Rattle.wire_msg.specs.declared.packet.Packet.{Packet}
use Rattle.wire_msg.specs.NodeStep.{NodeStep}
use Rattle.xfs_base.specs.declared.node.NodeId.{NodeId}
use Rattle.xfs_base.specs.declared.node.NodeId.TheVariants.{Registry}
use Rattle.xfs_base.specs.declared.setup.Setup.{Setup}
use Rattle.xfs_base.specs.Nodes.{same_node}
use Rattle.xfs_base.proofs.NodeOrder.{same_node_is}
use Rattle.world_base.specs.declared.event.Event.{Event}
use Rattle.world_base.specs.declared.event.Event.TheVariants.{Begin, Tick}
use Rattle.world_base.specs.Events.{event_of}
use Rattle.world_base.specs.Items.{actor_of, items_of}
use Rattle.world_base.specs.Runs.{begins_of, begun_in}
use Rattle.play.specs.Manner.{play_line}
use Rattle.play.specs.Plays.{actors_of}
use Rattle.play.proofs.EachBegun.{for_each, more_begun}
use Rattle.play.proofs.Manners.{line_good}
use Rattle.board.specs.declared.command.Command.{Command}
use Rattle.board.specs.declared.input.In.{In}
use Rattle.board.specs.declared.input.In.TheVariants as inputs
use Rattle.board.specs.declared.packet.BoardPacket.{BoardPacket}
use Rattle.board.specs.State.{chosen_part}
use Rattle.board_world.specs.declared.board_event.BoardEvent.{BoardEvent}
use Rattle.board_world.specs.declared.board_event.BoardEvent.TheVariants.{Far, Offer, Mail, Beat, Stop, Start}
use Rattle.board_world.specs.declared.board_node.BoardNode.{BoardNode}
use Rattle.board_world.specs.BoardRuns.{Together}
use Rattle.board_world.specs.BoardTurns.{board_node_take}
use Rattle.board_world.specs.NextBoards.{BoardsState, boards_happen, command_at, is_up, boards_take, boards_offer, boards_turn, turned_by}
use Rattle.board_world.specs.Projection.{event_by, is_due, project, project_all}
use Rattle.board_play.specs.declared.player.Player.{Player}
use Rattle.board_play.specs.declared.sent.Sender.{Sender}
use Rattle.board_play.specs.declared.sent.Sender.TheVariants as senders
use Rattle.board_play.specs.declared.sent.Sent.{Sent}
use Rattle.board_play.specs.Begun.{far_of}
use Rattle.board_play.specs.Plays.{player_beat, beat_all, player_begin, begin_at, board_event, coming, delivered, delivery, event_at, player_happen, happen_where, least_up, mailing, manner_of, offer_to, player_offer, opens, opens_by, opens_for, player_play, player_start, ticks, together, with_offer, with_one_more}
use Rattle.board_play.specs.Plays as plays
use Rattle.board_play.proofs.BoardLines.{AsksBoard, board_line}

-- ---- nodes that aren't the registry

pub far_more : (ns ms : List NodeId) → far_of (ns ++ ms) ≡ far_of ns ++ far_of ms
far_more [] ms = refl
far_more (n ∷ ns) ms =
    elim (not (same_node n Registry)) as (λ t. cond t (n ∷ far_of (ns ++ ms)) (far_of (ns ++ ms)) ≡ cond t (n ∷ far_of ns) (far_of ns) ++ far_of ms) [
      | true ↦ ap (λ nodes. n ∷ nodes) (far_more ns ms)
      | false ↦ far_more ns ms
    ]

abbrev far_begun_in : List Event → List NodeId
far_begun_in events = far_of (begun_in events)

far_begun_more : (es fs : List Event) → far_begun_in (es ++ fs) ≡ far_begun_in es ++ far_begun_in fs
far_begun_more es fs = ap far_of (more_begun es fs) ∙ far_more (begun_in es) (begun_in fs)

-- ---- what a board event stands for begins nothing elsewhere

registry_only : (what : Do) → far_begun_in (event_of Registry what ∷ []) ≡ []
registry_only whats.Begin = refl
registry_only (whats.Deliver packet) = refl
registry_only whats.Tick = refl

one_quiet : (items begun : ℕ) (command : Command) → far_begun_in (project items begun command).outs ≡ []
unfolding project
one_quiet items begun command =
    elim (is_due items begun command) as
    (λ t. far_begun_in (cond t (event_by begun command) (record { state = begun; outs = [] })).outs ≡ []) [
      | true ↦ registry_only command.what
      | false ↦ refl
    ]

all_quiet : (items begun : ℕ) (commands : List Command) → far_begun_in (project_all items begun commands).outs ≡ []
all_quiet items begun [] = refl
all_quiet items begun (c ∷ commands) =
    let now = project items begun c in
    let rest = (project_all items now.state commands).outs in
    far_begun_more now.outs rest ∙ ap (λ nodes. nodes ++ far_begun_in rest) (one_quiet items begun c) ∙ all_quiet items now.state commands

turn_quiet : (w : BoardsState) (place : ℕ) (input : In) (node : Option BoardNode) → far_begun_in (turned_by w place input node).outs ≡ []
turn_quiet w place input None = refl
turn_quiet w place input (Some node) =
    all_quiet w.items w.begun
    (drop (length w.chosen) (chosen_part (board_node_take w.items node input).node.board))

board_quiet : (w : BoardsState) (number : ℕ) (input : In) → far_begun_in (boards_happen w number input).outs ≡ []
unfolding boards_turn
board_quiet w number input =
    elim (nat_lt 0 number && nat_le number (length w.nodes)) as
    (λ t. far_begun_in (cond t (boards_turn w (number - 1) input) (record { state = w; outs = [] })).outs ≡ []) [
      | true ↦ turn_quiet w (number - 1) input (slice_get w.nodes (number - 1))
      | false ↦ refl
    ]

offer_quiet : (w : BoardsState) (number : ℕ) (command : Option Command) → far_begun_in (boards_offer w number command).outs ≡ []
offer_quiet w number None = refl
offer_quiet w number (Some command) = board_quiet w number (inputs.Offer command)

-- which event of the nodes it is, where it is far from the boards
abbrev far_events : BoardEvent → List Event
far_events (Far event) = event ∷ []
far_events (Offer number what item) = []
far_events (Mail packet) = []
far_events (Beat number) = []
far_events (Stop number) = []
far_events (Start number) = []

event_begins : (w : BoardsState) (event : BoardEvent) → far_begun_in (boards_take w event).outs ≡ far_begun_in (far_events event)
event_begins w (Far event) = refl
event_begins w (Offer number what item) = offer_quiet w number (command_at what item)
event_begins w (Mail packet) = board_quiet w packet.to (inputs.Mail packet)
event_begins w (Beat number) = board_quiet w number inputs.Beat
event_begins w (Stop number) = board_quiet w number inputs.Stop
event_begins w (Start number) = board_quiet w number inputs.Start

module _ {N : Type 0} (step : N → Do → NodeStep N) where
  abbrev begun : Player N → List NodeId
  begun p = far_begun_in p.events

  happens_begins : (p : Player N) (event : BoardEvent) → begun (player_happen step p event) ≡ begun p ++ far_begun_in (far_events event)
  unfolding player_happen
  happens_begins p event =
      far_begun_more p.events (boards_take p.boards event).outs ∙ ap (λ nodes. begun p ++ nodes) (event_begins p.boards event)

  -- what is no Begin begins nothing
  abbrev IsQuiet : Option BoardEvent → Type 0
  IsQuiet None = Unit {0}
  IsQuiet (Some event) = far_begun_in (far_events event) ≡ []

  quiet_begins : (p : Player N) (event : BoardEvent) → IsQuiet (Some event) → begun (player_happen step p event) ≡ begun p
  quiet_begins p event quiet = happens_begins p event ∙ ap (λ nodes. begun p ++ nodes) quiet ∙ append-nil (begun p)

  where_begins : (p : Player N) (event : Option BoardEvent) → IsQuiet event → begun (happen_where step p event) ≡ begun p
  where_begins p None quiet = refl
  where_begins p (Some event) quiet = quiet_begins p event quiet

  offer_is_quiet : (board : Option ℕ) (what : Do) (item : ℕ) → IsQuiet (offer_to board what item)
  offer_is_quiet None what item = tt
  offer_is_quiet (Some board) what item = refl

  delivery_is_quiet : (w : BoardsState) (packet : Option Packet) → IsQuiet (delivery w packet)
  delivery_is_quiet w None = tt
  delivery_is_quiet w (Some packet) =
      elim (same_node packet.to Registry) as
      (λ t. IsQuiet (cond t (offer_to (least_up w) (whats.Deliver packet) 0) (Some (Far (event_of packet.to (whats.Deliver packet)))))) [
        | true ↦ offer_is_quiet (least_up w) (whats.Deliver packet) 0
        | false ↦ refl
      ]

  mailing_is_quiet : (packet : Option BoardPacket) → IsQuiet (mailing packet)
  mailing_is_quiet None = tt
  mailing_is_quiet (Some packet) = refl

  coming_is_quiet : (t : Together N) (sender : Sender) (place : ℕ) → IsQuiet (coming t sender place)
  coming_is_quiet t senders.Nodes place = delivery_is_quiet t.boards (slice_get t.world.sent place)
  coming_is_quiet t senders.Registries place = delivery_is_quiet t.boards (slice_get t.boards.handed place)
  coming_is_quiet t senders.Boards place = mailing_is_quiet (slice_get t.boards.mail place)

  delivers_begins : (p : Player N) (number : ℕ) (sent : Option Sent) → begun (plays.delivers step p number sent) ≡ begun p
  delivers_begins p number None = refl
  delivers_begins p number (Some sent) =
      where_begins p (coming (together p) sent.sender sent.place) (coming_is_quiet (together p) sent.sender sent.place)

  beat_begins : (p : Player N) (board : ℕ) → begun (player_beat step p board) ≡ begun p
  unfolding player_beat
  beat_begins p board = elim (is_up p.boards board) as (λ t. begun (cond t (player_happen step p (Beat board)) p) ≡ begun p) [
    | true ↦ quiet_begins p (Beat board) refl
    | false ↦ refl
  ]

  beats_begin : (p : Player N) → begun (beat_all step p) ≡ begun p
  beats_begin p =
      let one = player_beat step p 1 in
      let two = player_beat step one 2 in
      beat_begins two 3 ∙ beat_begins one 2 ∙ beat_begins p 1

  tick_begins : (p : Player N) (node : NodeId) → begun (ticks step p node) ≡ begun p
  unfolding ticks
  tick_begins p node =
      elim (same_node node Registry) as (λ t. begun (cond t (beat_all step p) (player_happen step p (Far (Tick node)))) ≡ begun p) [
        | true ↦ beats_begin p
        | false ↦ quiet_begins p (Far (Tick node)) refl
      ]

  delivery_begins : (p : Player N) (number : ℕ) → begun (delivered step p number) ≡ begun p
  unfolding delivered
  delivery_begins p number = delivers_begins p number (slice_get p.sent number)

  -- ---- a line begins the item that it is

  begin_begins : (p : Player N) (node : NodeId) → begun (player_begin step p node) ≡ begun p ++ far_of (node ∷ [])
  unfolding player_begin
  begin_begins p node =
      let q = with_one_more p in
      elim (same_node node Registry) as
      (λ t. same_node node Registry ≡ t
      → begun (cond t (player_offer step q) (player_happen step q (Far (Begin node)))) ≡ begun p ++ cond (not t) (node ∷ []) []) [
        | true ↦ λ e.
            where_begins (with_offer q) (offer_to (least_up q.boards) whats.Begin (with_offer q).offered)
            (offer_is_quiet (least_up q.boards) whats.Begin (with_offer q).offered)
            ∙ sym (append-nil (begun p))
        | false ↦ λ e. happens_begins q (Far (Begin node)) ∙ ap (λ b. begun p ++ cond (not b) (node ∷ []) []) e
      ] refl

  abbrev actor_in : Option NodeId → List NodeId
  actor_in actor = far_of (cons_option actor [])

  open_for_begins : (p : Player N) (work : Work) (actor : Option NodeId) → begun (opens_for step p work actor) ≡ begun p ++ actor_in actor
  open_for_begins p work None = sym (append-nil (begun p))
  open_for_begins p work (Some node) = begin_begins p node

  turn_begins : (p : Player N) (work : Work) (event : BoardEvent) → board_event work ≡ Some event → IsQuiet (Some event) → actor_of work ≡ None
      → begun (opens_by step p work (board_event work)) ≡ begun p ++ actor_in (actor_of work)
  turn_begins p work event is quiet none =
      ap (λ asked. begun (opens_by step p work asked)) is
      ∙ quiet_begins p event quiet
      ∙ sym (append-nil (begun p))
      ∙ ap (λ actor. begun p ++ actor_in actor) (sym none)

  open_begins : (p : Player N) (work : Work) → (board_event work ≡ None) ⊎ AsksBoard work
      → begun (opens_by step p work (board_event work)) ≡ begun p ++ actor_in (actor_of work)
  open_begins p work (inl none) = ap (λ asked. begun (opens_by step p work asked)) none ∙ open_for_begins p work (actor_of work)
  open_begins p work (inr a) = by_event a.event
    where
      by_event : (board_event work ≡ Some (Stop a.board)) ⊎ (board_event work ≡ Some (Start a.board))
          → begun (opens_by step p work (board_event work)) ≡ begun p ++ actor_in (actor_of work)
      by_event (inl is) = turn_begins p work (Stop a.board) is refl a.no_item
      by_event (inr is) = turn_begins p work (Start a.board) is refl a.no_item

  line_begins : (p : Player N) (line : Line) → begun (play_line (manner_of step) p line) ≡ begun p ++ actor_in (actor_of line.work)
  unfolding opens
  line_begins p line =
      let q = opens_by step p line.work (board_event line.work) in
      line_good (manner_of step) (λ r. begun r ≡ begun q) (λ r s same. same) (λ r number same. delivery_begins r number ∙ same)
      (λ r node same. tick_begins r node ∙ same) p line refl
      ∙ open_begins p line.work (board_line line.work)

  first_actor : (actor : Option NodeId) (actors : List NodeId) → actor_in actor ++ far_of actors ≡ far_of (cons_option actor actors)
  first_actor None actors = refl
  first_actor (Some node) actors = sym (far_more (node ∷ []) actors)

  lines_begin : (p : Player N) (lines : List Line) → begun (fold (play_line (manner_of step)) p lines) ≡ begun p ++ far_of (actors_of lines)
  lines_begin p [] = sym (append-nil (begun p))
  lines_begin p (l ∷ lines) =
      lines_begin (play_line (manner_of step) p l) lines
      ∙ ap (λ nodes. nodes ++ far_of (actors_of lines)) (line_begins p l)
      ∙ append_assoc (begun p) (actor_in (actor_of l.work)) (far_of (actors_of lines))
      ∙ ap (λ nodes. begun p ++ nodes) (first_actor (actor_of l.work) (actors_of lines))

-- the items of all nodes but the registry are begun in the order of their lines
pub far_in_order : {N : Type 0} (step : N → Do → NodeStep N) (first : NodeId → Setup → List Work → N) (script : Script)
    → far_of (begun_in (player_play step first script).events) ≡ far_of (actors_of script.lines)
unfolding player_play
far_in_order step first script = lines_begin step (player_start first script) script.lines

-- ---- the items of one node that isn't the registry

module _ (node : NodeId) (other : node ≡ Registry → ⊥) where
  of_registry : (n : NodeId) → same_node n Registry ≡ true → (same : Bool) → same_node n node ≡ same → same ≡ false
  of_registry n is true e = absurd (other (sym (same_node_is n node e) ∙ same_node_is n Registry is))
  of_registry n is false e = refl

  far_filter : (ns : List NodeId) → filter (λ begun. same_node begun node) (far_of ns) ≡ filter (λ begun. same_node begun node) ns
  far_filter [] = refl
  far_filter (n ∷ ns) =
      let mine = filter (λ begun. same_node begun node) in
      elim (same_node n Registry) as
      (λ t. same_node n Registry ≡ t → mine (cond (not t) (n ∷ far_of ns) (far_of ns)) ≡ cond (same_node n node) (n ∷ mine ns) (mine ns)) [
        | true ↦ λ e. far_filter ns ∙ ap (λ b. cond b (n ∷ mine ns) (mine ns)) (sym (of_registry n e (same_node n node) refl))
        | false ↦ λ e. ap (λ rest. cond (same_node n node) (n ∷ rest) rest) (far_filter ns)
      ] refl

  pub far_begins_all : (events : List Event) (lines : List Line) → far_of (begun_in events) ≡ far_of (actors_of lines)
      → begins_of node events ≡ length (items_of lines node)
  far_begins_all events lines in_order =
      ap length (sym (far_filter (begun_in events)))
      ∙ ap (λ nodes. length (filter (λ begun. same_node begun node) nodes)) in_order
      ∙ ap length (far_filter (actors_of lines))
      ∙ for_each node lines
