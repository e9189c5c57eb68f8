-- Each event of a client that serves is made of moves: the one walk through all that can happen to it.
use Rattle.std.proofs.Common.{◌≡◌, ℕ, false, [], ◌∷◌, Option, Some, None, is_some, refl}
use Rattle.client_call.specs.declared.call.Going.{Going}
use Rattle.client_node.specs.declared.phase.Phase.TheVariants.{Serving as Serves}
use Rattle.client_node.specs.Phases.{Went_to, begins_item, client_tick, on_begin, on_deliver, serving_begins, wish_of}
use Rattle.client_running.specs.Opens.{begin_call, call_at, opens}
use Rattle.client_running.specs.Running.{run, running_go_on}
use Rattle.client_serving.specs.declared.serving.Serving.{Serving}
use Rattle.client_serving.specs.Sends.{Done, gives}
use Rattle.node_base.specs.Beginning.{next_item, work_at}
use Rattle.node_base.specs.declared.effects.Effect.TheVariants.{Answer as Answers}
use Rattle.node_base.specs.Shape.{is_well_formed}
use Rattle.version_model.specs.declared.answer.Answer.{Answer}
use Rattle.version_model.specs.declared.answer.Answer.TheVariants as answer
use Rattle.version_model.specs.declared.work.Work.{Work}
use Rattle.version_model.specs.declared.work.Work.TheVariants as work
use Rattle.wire_msg.specs.declared.packet.Do.TheVariants.{Begin, Deliver, Tick}
use Rattle.xfs_base.proofs.Booleans.{by_test}
use Rattle.xfs_base.specs.Steps.{still}
use Rattle.client_moves.proofs.Calls.{run_moves}
use Rattle.client_moves.proofs.Packets.{packet_turn, tick_turn}
use Rattle.client_moves.specs.Moves.{Event, ServingEventsAreMoves, begun, waiting}
use Rattle.client_moves.specs.Moves.Event.{AtOnce, Falls, Opens, Turned}
use Rattle.client_moves.specs.Moves.Turn.{Stays}

module _ (s : Serving) where
  abbrev GoesTo : Went_to → Type 0
  GoesTo w = Event Begin s w.state w.outs

  abbrev GoesOn : Done → Type 0
  GoesOn d = Event Begin s (Serves d.state) d.outs

  module _ (number : ℕ) where
    at_once : (a : Answer) → GoesOn (gives (begun s) (Answers number a ∷ []))
    at_once a = AtOnce (record { number = number; a = a; phase = refl; says = refl })

    call_begins : is_some (begun s).lasting.items.unanswered ≡ false → (going : Option Going)
        → call_at (begun s) number (work_at (begun s).lasting.items number) ≡ going → GoesOn (begin_call (begun s) number going)
    call_begins closed None fact = at_once answer.Done
    call_begins closed (Some going) fact =
        let x : Done = running_go_on (waiting (begun s) number) going in
        Opens (record {
          number = number;
          going = going;
          closed = closed;
          call = fact;
          after = (run x.state).state;
          rest = (run x.state).outs;
          moves = run_moves x.state;
          phase = refl;
          says = refl;
        })

    call_opens : GoesOn (opens (begun s) number)
    unfolding opens
    call_opens =
        by_test GoesOn (is_some (begun s).lasting.items.unanswered) (gives (begun s) (Answers number answer.Busy ∷ []))
        (begin_call (begun s) number (call_at (begun s) number (work_at (begun s).lasting.items number))) (λ _. at_once answer.Busy)
        (λ closed. call_begins closed (call_at (begun s) number (work_at (begun s).lasting.items number)) refl)

    wish_begins : (wanted : Option Work) → GoesTo (serving_begins (begun s) number (wish_of wanted))
    wish_begins (Some (work.Crash node)) = Falls (record { number = number; phase = refl; says = refl })
    wish_begins (Some (work.Restart node)) = at_once answer.Up
    wish_begins (Some _) = call_opens
    wish_begins None = call_opens

  item_begins : (servers : ℕ) (item : Option ℕ) → GoesTo (begins_item servers (Serves s) item)
  item_begins servers None = Turned Stays
  item_begins servers (Some number) = wish_begins number (work_at (begun s).lasting.items number)

  begins : (servers : ℕ) → GoesTo (on_begin servers (Serves s))
  unfolding on_begin
  begins servers = item_begins servers (next_item s.lasting.items)

pub serving_events_are_moves : ServingEventsAreMoves
unfolding on_deliver client_tick
serving_events_are_moves peers capacity s Begin = begins s peers.servers
serving_events_are_moves peers capacity s (Deliver packet) =
    by_test (λ (w : Went_to). Event (Deliver packet) s w.state w.outs) (is_well_formed peers packet) (on_deliver capacity (Serves s) packet) (still (Serves s))
    (λ _. Turned (packet_turn (Deliver packet) s packet refl)) (λ _. Turned Stays)
serving_events_are_moves peers capacity s Tick = Turned (tick_turn Tick s)
