-- A board has its turn: the boards stay tied to the abstract protocol.
use Rattle.std.proofs.Common.{◌≡◌, ℕ, zero, suc, ◌-◌, ◌≤◌, ◌≢◌, ◌&&◌, List, [], ◌∷◌, ◌++◌, length, drop, refl, sym, ap, ◌∙◌, subst, nat_lt, arith, inl, inr}
use Rattle.std.specs.Prelude.{Option, None, Some, nat_le, slice_get}
use Rattle.std.proofs.lemmas.Option.{same_Some}
use Rattle.script_text.specs.declared.script.Script.{Script}
use Rattle.wire_msg.specs.declared.packet.Packet.{Packet}
use Rattle.world_base.specs.Runs.{WasSent}
use Rattle.xfs_base.proofs.Booleans.{by_test}
use Rattle.xfs_base.specs.Steps.{still}
use Rattle.board_protocol.specs.Basics.{Prefix}
use Rattle.board_protocol.specs.Step.{Steps}
use Rattle.board_protocol.specs.World.{World, start}
use Rattle.board_protocol.proofs.Invariant.{always}
use Rattle.board_protocol.proofs.Laws.{applied as applied_law, chosen_stays, grows}
use Rattle.board_protocol.proofs.Prefixes.{no_longer, through}
use Rattle.board.specs.declared.command.Command.{Command}
use Rattle.board.specs.declared.input.In as inputs
use Rattle.board.specs.declared.output.Out.{Out}
use Rattle.board.specs.declared.output.Out.TheVariants.{Send, Apply}
use Rattle.board.specs.declared.packet.BoardPacket.{BoardPacket}
use Rattle.board.specs.State.{chosen_part}
use Rattle.board.specs.Transition.{Done, transition}
use Rattle.board.proofs.Applying.{applies_no_more}
use Rattle.board_law.specs.board_tie.Follows.{Follows, applied_in}
use Rattle.board_law.specs.board_tie.Sent.{AllSent, Came, Sent}
use Rattle.board_law.specs.board_tie.Shown.{Shows, owner}
use Rattle.board_law.proofs.board_tie.Inputs.{follows}
use Rattle.board_law.proofs.board_tie.Moves.{sent_later, steps_then}
use Rattle.board_world.specs.declared.board_node.BoardNode.{BoardNode}
use Rattle.board_world.specs.BoardRuns.{WasMailed}
use Rattle.board_world.specs.BoardTurns.{give_all, mail_in, turn_by, board_node_take}
use Rattle.board_world.specs.NextBoards.{BoardsState, after_turn, boards_happen, boards_turn, turned_by}
use Rattle.board_world.specs.Replicas.{applied_all, replica_start}
use Rattle.board_law.specs.OneList.{one_registry}
use Rattle.board_law.proofs.Places.{Stands, set_cases, stands_either}
use Rattle.board_law.proofs.Registries.{given_outs, given_state, sent_by_front, sent_by_rest, state_both}
use Rattle.board_law.proofs.Showing.{Holds, holds_both, shows_chosen}
use Rattle.board_law.proofs.Tied.{AreTied, Seated, Tied}

-- what went out to other boards was sent
mail_sent : (v : World Command) (outs : List Out) (packet : BoardPacket) (k : ℕ) → AllSent v outs → slice_get (mail_in outs) k ≡ Some packet → Sent v packet
mail_sent v [] packet k sent got = absurd (cc)
mail_sent v (Send first ∷ outs) packet zero sent got = subst (Sent v) (same_Some first packet got) sent.0
mail_sent v (Send first ∷ outs) packet (suc k) sent got = mail_sent v outs packet k sent.1 got
mail_sent v (Apply command ∷ outs) packet k sent got = mail_sent v outs packet k sent.1 got

module _ (script : Script) (w : BoardsState) (p : World Command) (tied : Tied script w p) (place : ℕ) (node : BoardNode)
    (there : slice_get w.nodes place ≡ Some node) (input : inputs.In) (came : Came p input) where
  seat : Seated script w.items w.chosen p place node
  seat = tied.seated place node there

  -- what the board makes of the input
  abbrev made : Done
  made = transition node.board input

  step : Follows p place made
  step = follows p tied.reached place seat.below node.board seat.shows input came

  reached : Steps (start owner) step.world
  reached = steps_then tied.reached step.steps

  -- what is chosen then
  abbrev now : List Command
  now = w.chosen ++ drop (length w.chosen) (chosen_part made.state)

  holds : Holds step.world w.chosen (chosen_part made.state) now
  holds =
      holds_both step.world reached w.chosen (chosen_part made.state) (chosen_stays owner p step.world tied.reached step.steps w.chosen tied.chosen)
      (shows_chosen step.world reached place seat.below made.state step.shows)

  -- The board has applied no more than that.
  applied_within : length (step.world.board place).applied ≤ length now
  applied_within =
      let bound = applies_no_more node.board input in
      let before = no_longer (p.board place).applied w.chosen seat.applied in
      let old = no_longer w.chosen now holds.old in
      let shown = no_longer (chosen_part made.state) now holds.shown in
      let has = step.shows.applied in
      let had = seat.shows.applied in
      grind (arith, bound, before, old, shown, has, had)

  applied_front : Prefix (step.world.board place).applied now
  applied_front = (applied_law step.world (always owner step.world reached) place seat.below).longest now holds.chosen applied_within

  -- its registry before, and what it makes of what is applied
  abbrev first : List Command
  first = (p.board place).applied

  registry_now : (give_all w.items node.registry made.outs).state ≡ (applied_all w.items (replica_start script) (step.world.board place).applied).state
  registry_now =
      given_state w.items node.registry made.outs
      ∙ ap (λ r. (applied_all w.items r (applied_in made.outs)).state) seat.registry
      ∙ sym (state_both w.items (replica_start script) first (applied_in made.outs))
      ∙ ap (λ list. (applied_all w.items (replica_start script) list).state) (sym step.applied)

  sits : Seated script w.items now step.world place (record { board = made.state; registry = (give_all w.items node.registry made.outs).state })
  sits = record { below = seat.below; shows = step.shows; shown = holds.shown; applied = applied_front; registry = registry_now }

  -- The others sit as before.
  sits_on : (other : ℕ) (one : BoardNode) → place ≢ other → slice_get w.nodes other ≡ Some one → Seated script w.items now step.world other one
  sits_on other one apart got =
      let s = tied.seated other one got in
      let same : step.world.board other ≡ p.board other = step.others other (λ e. apart (sym e)) in
      record {
        below = s.below;
        shows = subst (λ x. Shows other x one.board) (sym same) s.shows;
        shown = through (chosen_part one.board) w.chosen now s.shown holds.old;
        applied = through (step.world.board other).applied w.chosen now (subst (λ x. Prefix x.applied w.chosen) (sym same) s.applied) holds.old;
        registry = s.registry ∙ ap (λ x. (applied_all w.items (replica_start script) x.applied).state) (sym same);
      }

  abbrev after : BoardsState
  after = (after_turn w place (turn_by w.items node.registry made)).state

  seated_after : (other : ℕ) (one : BoardNode) → slice_get after.nodes other ≡ Some one → Seated script w.items now step.world other one
  seated_after other one got =
      let new : BoardNode = record { board = made.state; registry = (give_all w.items node.registry made.outs).state } in
      elim (set_cases w.nodes place other node new one there got) [
        | inl here ↦
            subst (Seated script w.items now step.world other) here.1
            (subst (λ k. Seated script w.items now step.world k new) here.0 sits)
        | inr elsewhere ↦ sits_on other one elsewhere.0 elsewhere.1
      ]

  mail_after : (packet : BoardPacket) → WasMailed after.mail packet → Sent step.world packet
  mail_after packet at =
      elim (stands_either w.mail (mail_in made.outs) packet at) [
        | inl old ↦
            (sent_later p step.world (grows owner p step.world tied.reached step.steps) (Send packet ∷ []) (tied.mail packet old, tt)).0
        | inr new ↦ mail_sent step.world made.outs packet new.0 step.sent new.1
      ]

  -- What its registry sends now the one registry sends.
  handed_now : (packet : Packet) → Stands (give_all w.items node.registry made.outs).outs packet → Stands (applied_all w.items (replica_start script) now).outs packet
  handed_now packet at =
      let r = (applied_all w.items (replica_start script) first).state in
      let more : Stands (applied_all w.items r (applied_in made.outs)).outs packet =
      subst (λ outs. Stands outs packet)
      (given_outs w.items node.registry made.outs ∙ ap (λ q. (applied_all w.items q (applied_in made.outs)).outs) seat.registry) at in
      let all : Stands (applied_all w.items (replica_start script) (step.world.board place).applied).outs packet =
      subst (λ list. Stands (applied_all w.items (replica_start script) list).outs packet) (sym step.applied)
      (sent_by_rest w.items (replica_start script) first (applied_in made.outs) packet more) in
      sent_by_front w.items (replica_start script) (step.world.board place).applied now packet applied_front all

  handed_after : (packet : Packet) → WasSent after.handed packet → WasSent (one_registry script after).outs packet
  handed_after packet at =
      elim (stands_either w.handed (give_all w.items node.registry made.outs).outs packet at) [
        | inl old ↦ sent_by_front w.items (replica_start script) w.chosen now packet holds.old (tied.handed packet old)
        | inr new ↦ handed_now packet new
      ]

  pub tied_after : AreTied script after
  tied_after = (step.world, record { reached = reached; seated = seated_after; mail = mail_after; chosen = holds.chosen; handed = handed_after })

-- A packet that comes was sent, and nothing is asked of other inputs.
abbrev pub Comes : Script → BoardsState → inputs.In → Type 0
Comes script w input = (p : World Command) → Tied script w p → Came p input

module _ (script : Script) (w : BoardsState) (place : ℕ) (input : inputs.In) (comes : Comes script w input) (tied : AreTied script w) where
  by_node : (found : Option BoardNode) → slice_get w.nodes place ≡ found → AreTied script (turned_by w place input found).state
  unfolding board_node_take
  by_node None e = tied
  by_node (Some node) e = tied_after script w tied.0 tied.1 place node e input (comes tied.0 tied.1)

  turned_tied : AreTied script (boards_turn w place input).state
  unfolding boards_turn
  turned_tied = by_node (slice_get w.nodes place) refl

pub board_tied : (script : Script) (w : BoardsState) (number : ℕ) (input : inputs.In) → Comes script w input → AreTied script w
    → AreTied script (boards_happen w number input).state
board_tied script w number input comes tied =
    by_test (λ made. AreTied script made.state) (nat_lt 0 number && nat_le number (length w.nodes)) (boards_turn w (number - 1) input) (still w)
    (λ e. turned_tied script w (number - 1) input comes tied) (λ e. tied)
