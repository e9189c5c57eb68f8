-- A run with boards and the run that it stands for go on together.
use Rattle.std.proofs.Common.{◌≡◌, ℕ, ◌-◌, Bool, true, false, ◌&&◌, nat_lt, List, length, drop, refl, sym, ap, ◌∙◌, subst, inl, inr}
use Rattle.std.specs.List.{AllByRecursion, fold}
use Rattle.std.specs.Prelude.{IfSome, None, Option, Some, nat_le, slice_get}
use Rattle.xfs_base.proofs.Alls.{all_append, all_flat_map_of, all_put, all_read, all_weaker}
use Rattle.xfs_base.proofs.Booleans.{by_test}
use Rattle.xfs_base.specs.declared.node.NodeId.{NodeId}
use Rattle.xfs_base.specs.declared.setup.Setup.{Setup}
use Rattle.xfs_base.specs.Steps.{Stepped, still}
use Rattle.script_text.specs.declared.script.Script.{Script}
use Rattle.version_model.specs.declared.work.Work.{Work}
use Rattle.wire_msg.specs.declared.packet.Do.{Do}
use Rattle.wire_msg.specs.declared.packet.Packet.{Packet}
use Rattle.wire_msg.specs.NodeStep.{NodeStep}
use Rattle.world_base.specs.declared.event.Event.{Event}
use Rattle.world_base.specs.declared.world.World.{World}
use Rattle.world_base.specs.Events.{node_of, what_of}
use Rattle.world_base.specs.NextWorld.{next_world}
use Rattle.world_base.specs.Runs.{Leads, WasSent}
use Rattle.board.specs.Heard.{is_heard}
use Rattle.board.specs.Offering.{command_where}
use Rattle.board.specs.State.{chosen_part}
use Rattle.board.specs.Transition.{Done, transition}
use Rattle.board.specs.declared.command.Command.{Command}
use Rattle.board.specs.declared.input.In as inputs
use Rattle.board.specs.declared.input.In.TheVariants as input
use Rattle.board.specs.declared.output.Out.{Out}
use Rattle.board.specs.declared.output.Out.TheVariants.{Send, Apply}
use Rattle.board.specs.declared.packet.BoardBody.{BoardBody}
use Rattle.board.specs.declared.packet.BoardBody.TheVariants as bodies
use Rattle.board.specs.declared.packet.BoardPacket.{BoardPacket}
use Rattle.board_world.specs.declared.board_event.BoardEvent.{BoardEvent}
use Rattle.board_world.specs.declared.board_event.BoardEvent.TheVariants.{Far, Offer, Mail, Beat, Stop, Start}
use Rattle.board_world.specs.declared.board_node.BoardNode.{BoardNode}
use Rattle.board_world.specs.declared.replica.Replica.{Replica}
use Rattle.board_world.specs.BoardRuns.{MayCome, MayMail, MayOffer}
use Rattle.board_world.specs.BoardTurns.{mail_in, mail_of, turn_by, board_node_take}
use Rattle.board_world.specs.NextBoards.{BoardsState, after_turn, boards_happen, command_at, boards_take, boards_offer, boards_turn, turned_by}
use Rattle.board_world.specs.Projection.{project_all}
use Rattle.board_world.specs.Replicas.{replica_apply, applied_all, replica_start}
use Rattle.board_law.specs.OneList.{one_registry}
use Rattle.board_law.specs.OneRun.{HasRegistry}
use Rattle.board_law.proofs.Keeping.{Gives, Keeps, Made, Says, Takes, all_drop, keeps, shows}
use Rattle.board_law.proofs.Places.{stands_either}
use Rattle.board_law.proofs.Projecting.{Follows, Known, follows_from, known_later}
use Rattle.board_law.proofs.Registries.{outs_both, state_both}
use Rattle.board_law.proofs.Worlds.{InWorld, happens_beside}

-- ---- what is known stays known

module _ (P Q : Command → Type 0) (weaker : (command : Command) → P command → Q command) where
  keeps_weaker : (node : BoardNode) → Keeps P node.board → Keeps Q node.board
  keeps_weaker node k = record { list = all_weaker P Q weaker node.board.list k.list; waiting = all_weaker P Q weaker node.board.waiting k.waiting }

  body_weaker : (body : BoardBody) → Says P body → Says Q body
  body_weaker (bodies.Prepare ballot) said = tt
  body_weaker (bodies.Promised ballot last list) said = all_weaker P Q weaker list said
  body_weaker (bodies.Install ballot list) said = all_weaker P Q weaker list said
  body_weaker (bodies.Append ballot count command) said = weaker command said
  body_weaker (bodies.Accepted ballot count) said = tt

-- what is said in a packet of boards
abbrev pub SaysIt : (Command → Type 0) → BoardPacket → Type 0
SaysIt P packet = Says P packet.body

mail_says : (P : Command → Type 0) (out : Out) → Gives P out → AllByRecursion (SaysIt P) (mail_of out)
mail_says P (Send packet) gives = (gives, tt)
mail_says P (Apply command) gives = tt

module _ {N : Type 0} (step : N → Do → NodeStep N) (first : NodeId → Setup → List Work → N) (has : HasRegistry step first) (script : Script) where
  abbrev pub NodeKnows : World N → BoardNode → Type 0
  NodeKnows w node = Keeps (Known w) node.board

  -- At each moment: the commands that boards keep and say were offered, with packets that were sent; the registry of the world is the one that took the chosen
  -- commands, and sent what it sends.
  pub record Going (boards : BoardsState) (world : World N) : Type 0 where
    pub nodes : AllByRecursion (NodeKnows world) boards.nodes
    pub mail : AllByRecursion (SaysIt (Known world)) boards.mail
    pub stands : InWorld step has.of world (one_registry script boards).state
    pub begun : (one_registry script boards).state.begun ≡ boards.begun
    pub sent : (packet : Packet) → WasSent (one_registry script boards).outs packet → WasSent world.sent packet

  -- An event leads on.
  pub record GoesOn (world : World N) (made : Stepped BoardsState Event) : Type 0 where
    pub leads : Leads step world made.outs (fold (next_world step) world made.outs)
    pub going : Going made.state (fold (next_world step) world made.outs)

  stays : (boards : BoardsState) (world : World N) → Going boards world → GoesOn world (still boards)
  stays boards world g = record { leads = refl; going = g }

  module _ (boards : BoardsState) (world : World N) (g : Going boards world) where
    -- ---- a board has its turn

    module _ (place : ℕ) (node : BoardNode) (there : slice_get boards.nodes place ≡ Some node) (what : inputs.In) (takes : Takes (Known world) what) where
      abbrev made : Done
      made = transition node.board what

      node_knows : Keeps (Known world) node.board
      node_knows = subst (λ o. IfSome o (NodeKnows world)) there (all_read (NodeKnows world) boards.nodes place g.nodes)

      knows : Made (Known world) made
      knows = keeps (Known world) tt node.board what node_knows takes

      -- what becomes chosen
      abbrev more : List Command
      more = drop (length boards.chosen) (chosen_part made.state)

      more_known : AllByRecursion (Known world) more
      more_known = all_drop (Known world) (length boards.chosen) (chosen_part made.state) (shows (Known world) made.state knows.keeps)

      abbrev registry : Replica
      registry = (one_registry script boards).state

      follows_it : Follows step has.of has.steps boards.items world (applied_all boards.items registry more) (project_all boards.items boards.begun more)
      follows_it = follows_from step has.of has.steps boards.items world registry boards.begun more g.begun g.stands more_known

      abbrev after : Stepped BoardsState Event
      after = after_turn boards place (turn_by boards.items node.registry made)

      abbrev then : World N
      then = fold (next_world step) world after.outs

      -- the one registry goes on
      registry_then : (applied_all boards.items registry more).state ≡ (one_registry script after.state).state
      registry_then = sym (state_both boards.items (replica_start script) boards.chosen more)

      sent_then : (packet : Packet) → WasSent (one_registry script after.state).outs packet → WasSent then.sent packet
      sent_then packet at =
          elim (stands_either (one_registry script boards).outs (applied_all boards.items registry more).outs packet
          (subst (λ outs. WasSent outs packet) (outs_both (replica_apply boards.items) (replica_start script) boards.chosen more) at)) [
            | inl old ↦ follows_it.later packet (g.sent packet old)
            | inr new ↦ follows_it.sent packet new
          ]

      weaker : (command : Command) → Known world command → Known then command
      weaker = known_later world then follows_it.later

      pub turn_goes : GoesOn world after
      turn_goes = record {
        leads = follows_it.leads;
        going = record {
          nodes =
              all_put (NodeKnows then) boards.nodes place (turn_by boards.items node.registry made).node
              (keeps_weaker (Known world) (Known then) weaker (turn_by boards.items node.registry made).node knows.keeps)
              (all_weaker (NodeKnows world) (NodeKnows then) (keeps_weaker (Known world) (Known then) weaker) boards.nodes g.nodes);
          mail =
              all_append (SaysIt (Known then)) boards.mail (mail_in made.outs)
              (all_weaker (SaysIt (Known world)) (SaysIt (Known then)) (λ packet. body_weaker (Known world) (Known then) weaker packet.body) boards.mail g.mail)
              (all_weaker (SaysIt (Known world)) (SaysIt (Known then)) (λ packet. body_weaker (Known world) (Known then) weaker packet.body) (mail_in made.outs)
              (all_flat_map_of (SaysIt (Known world)) (Gives (Known world)) mail_of (mail_says (Known world)) made.outs knows.gives));
          stands = subst (InWorld step has.of then) registry_then follows_it.stands;
          begun = ap (λ (r : Replica). r.begun) (sym registry_then) ∙ follows_it.begun;
          sent = sent_then;
        };
      }

    by_node : (place : ℕ) (what : inputs.In) → Takes (Known world) what → (found : Option BoardNode) → slice_get boards.nodes place ≡ found
        → GoesOn world (turned_by boards place what found)
    unfolding board_node_take
    by_node place what takes None e = stays boards world g
    by_node place what takes (Some node) e = turn_goes place node e what takes

    turned_goes : (place : ℕ) (what : inputs.In) → Takes (Known world) what → GoesOn world (boards_turn boards place what)
    unfolding boards_turn
    turned_goes place what takes = by_node place what takes (slice_get boards.nodes place) refl

    board_goes : (number : ℕ) (what : inputs.In) → Takes (Known world) what → GoesOn world (boards_happen boards number what)
    board_goes number what takes =
        by_test (GoesOn world) (nat_lt 0 number && nat_le number (length boards.nodes)) (boards_turn boards (number - 1) what) (still boards)
        (λ e. turned_goes (number - 1) what takes) (λ e. stays boards world g)

    -- ---- the events

    offer_goes : (number : ℕ) (what : Do) (item : ℕ) → MayOffer world what → (t : Bool) (is : is_heard what ≡ t)
        → GoesOn world (boards_offer boards number (command_where what item t is))
    offer_goes number what item may true is = board_goes number (input.Offer (record { what = what; item = item; heard = is })) may
    offer_goes number what item may false is = stays boards world g

    offered_goes : (number : ℕ) (what : Do) (item : ℕ) → MayOffer world what → GoesOn world (boards_offer boards number (command_at what item))
    unfolding command_at
    offered_goes number what item may = offer_goes number what item may (is_heard what) refl

    -- what stands in the mail says what is known
    mail_known : (packet : BoardPacket) → MayMail boards (Mail packet) → Says (Known world) packet.body
    mail_known packet at = subst (λ o. IfSome o (SaysIt (Known world))) at.1 (all_read (SaysIt (Known world)) boards.mail at.0 g.mail)

    far_goes : (event : Event) → MayCome (record { boards = boards; world = world }) (Far event) → GoesOn world (boards_take boards (Far event))
    far_goes event may =
        let next = next_world step world event in
        let b = happens_beside step has.of world (one_registry script boards).state (what_of event) g.stands (node_of event) may.1 in
        let weaker = known_later world next b.later in
        record {
          leads = (may.0, refl);
          going = record {
            nodes = all_weaker (NodeKnows world) (NodeKnows next) (keeps_weaker (Known world) (Known next) weaker) boards.nodes g.nodes;
            mail = all_weaker (SaysIt (Known world)) (SaysIt (Known next)) (λ packet. body_weaker (Known world) (Known next) weaker packet.body) boards.mail g.mail;
            stands = b.stands;
            begun = g.begun;
            sent = λ packet at. b.later packet (g.sent packet at);
          };
        }

    pub event_goes : (event : BoardEvent) → MayCome (record { boards = boards; world = world }) event → GoesOn world (boards_take boards event)
    event_goes (Far event) may = far_goes event may
    event_goes (Offer number what item) may = offered_goes number what item may
    event_goes (Mail packet) may = board_goes packet.to (input.Mail packet) (mail_known packet may)
    event_goes (Beat number) may = board_goes number input.Beat tt
    event_goes (Stop number) may = board_goes number input.Stop tt
    event_goes (Start number) may = board_goes number input.Start tt
