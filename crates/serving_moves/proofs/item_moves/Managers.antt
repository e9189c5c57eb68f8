-- What an event makes of the items of a manager.
use Rattle.std.proofs.Common.{sym, subst, ◌≡◌, ℕ, [], Option, Some, None, refl}
use Rattle.manager_node.specs.declared.manager.Manager.{Manager}
use Rattle.manager_node.specs.declared.phase.Phase.{Phase}
use Rattle.manager_node.specs.declared.phase.Phase.TheVariants.{Down, Waiting, Serving as Serves}
use Rattle.manager_node.specs.Events.{happens, manager_deliver, on_event, on_packet, on_time, on_waiting, on_welcome, takes_welcome}
use Rattle.manager_node.specs.Phases.{Went_to, begin_down, begin_serving, begin_waiting, crash, down_item, down_wish, lasting_of, on_begin, phase_has_room, restart, serves, serving_item, serving_wish, waiting_item, waiting_wish, wish_at, with_begun}
use Rattle.manager_slots.specs.declared.lasting.Lasting.{Lasting as Life}
use Rattle.manager_serving.specs.Checkpoints as checkpoints
use Rattle.manager_serving.specs.Checkpoints.{Done}
use Rattle.manager_serving.specs.declared.serving.Serving.{Serving}
use Rattle.manager_serving.specs.Serving as serving
use Rattle.node_base.specs.Beginning.{next_item, work_at}
use Rattle.node_base.specs.declared.peers.Peers.{Peers}
use Rattle.node_base.specs.Maps.{forgotten}
use Rattle.node_base.specs.Shape.{is_well_formed}
use Rattle.version_model.specs.declared.answer.Answer.TheVariants as answer
use Rattle.version_model.specs.declared.work.Work.{Work}
use Rattle.version_model.specs.declared.work.Work.TheVariants as work
use Rattle.wire_msg.specs.declared.body.Body.{Body}
use Rattle.wire_msg.specs.declared.body.Body.TheVariants as body
use Rattle.wire_msg.specs.declared.packet.Do.{Do}
use Rattle.wire_msg.specs.declared.packet.Do.TheVariants.{Begin, Deliver, Tick}
use Rattle.wire_msg.specs.declared.packet.Packet.{Packet}
use Rattle.xfs_base.proofs.Booleans.{by_test}
use Rattle.xfs_base.specs.Steps.{still}
use Rattle.node_base.specs.declared.items.Items.{Items}
use Rattle.serving_moves.proofs.item_moves.Keeping as moving
use Rattle.serving_moves.proofs.item_moves.Keeping.{begun_of, busy_prompt, same, unmoved}
use Rattle.serving_moves.proofs.item_moves.ManagerServing.{Goes, checkpoint_goes, news_goes, packet_goes, tick_goes}
use Rattle.serving_moves.specs.item_moves.Moves.{IsCount, IsPrompt}
use Rattle.serving_moves.proofs.item_moves.Moves.{IsBusy}
use Rattle.headline.specs.Items.{Falls}
use Rattle.serving_moves.specs.item_moves.Moves.Begun.{AtOnce}
use Rattle.serving_moves.specs.item_moves.Moves.Event.{Begins, GoesOn, Idles, Cuts}
use Rattle.serving_moves.specs.item_moves.Moves.Move.{Stays}
use Rattle.serving_moves.specs.item_moves.Moves.Moves.{Last}
use Rattle.serving_moves.specs.item_moves.Moves.Losses.{Telling}

abbrev pub items_in : Phase → Items
items_in p = (lasting_of p).items

abbrev pub number_in : Phase → ℕ
number_in p = (lasting_of p).number

-- what an event makes of a phase
abbrev pub Turned : Do → Phase → Went_to → Type 0
Turned what p w = moving.Turned Telling IsCount IsPrompt Phase items_in number_in what p w

served : (s : Serving) (what : Do) (d : Done) → Goes s d → Turned what (Serves s) (serves d)
served s what d g = record { its_number = g.its_number; event = GoesOn g.moves }

-- ---- an item begins

module _ (life : Life) (number : ℕ) (its : next_item life.items ≡ Some number) where
  abbrev asks : Option Work
  asks = work_at (with_begun life).items number

  down_so : (asked : Option Work) → Turned Begin (Down life) (down_wish (with_begun life) number (wish_at asked))
  unfolding restart
  down_so None = record { its_number = refl; event = Begins number refl its (AtOnce answer.Down [] [] tt tt tt) }
  down_so (Some (work.Restart node)) = record { its_number = refl; event = Begins number refl its (AtOnce answer.Done [] _ tt tt (tt, tt)) }
  down_so (Some _) = record { its_number = refl; event = Begins number refl its (AtOnce answer.Down [] [] tt tt tt) }

  waiting_so : (hello : ℕ) (asked : Option Work) → asks ≡ asked
      → Turned Begin (Waiting life hello) (waiting_wish (with_begun life) hello number (wish_at asked))
  unfolding crash
  waiting_so hello None e = record { its_number = refl; event = Begins number refl its (AtOnce (answer.Count 0) [] [] tt tt tt) }
  waiting_so hello (Some (work.Crash node)) e = record { its_number = refl; event = Cuts number [] [] refl its (subst Falls (sym e) tt) tt tt }
  waiting_so hello (Some (work.Restart node)) e = record { its_number = refl; event = Begins number refl its (AtOnce answer.Up [] [] tt tt tt) }
  waiting_so hello (Some _) e = record { its_number = refl; event = Begins number refl its (AtOnce (answer.Count 0) [] [] tt tt tt) }

module _ (s : Serving) (number : ℕ) (its : next_item s.lasting.items ≡ Some number) where
  abbrev t : Serving
  t = record s { lasting = with_begun s.lasting }

  opens_so : Turned Begin (Serves s) (serves (checkpoints.on_checkpoint t number))
  opens_so =
      let d : Done = checkpoints.on_checkpoint t number in
      let o = checkpoint_goes t number in
      record {
        its_number = o.its_number;
        event = Begins number refl its
            (begun_of Telling IsCount IsCount (λ a so. so) IsBusy IsPrompt busy_prompt t.lasting.items number d.state.lasting.items d.outs o.begun);
      }

  serving_so : (asked : Option Work) → work_at t.lasting.items number ≡ asked → Turned Begin (Serves s) (serving_wish t number (wish_at asked))
  unfolding crash
  serving_so None e = opens_so
  serving_so (Some (work.Crash node)) e = record { its_number = refl; event = Cuts number [] [] refl its (subst Falls (sym e) tt) tt tt }
  serving_so (Some (work.Restart node)) e = record { its_number = refl; event = Begins number refl its (AtOnce answer.Up [] [] tt tt tt) }
  serving_so (Some _) e = opens_so

begin_so : (p : Phase) → Turned Begin p (on_begin p)
unfolding begin_down begin_waiting begin_serving
begin_so (Down life) = by (next_item life.items) refl
  where
    by : (item : Option ℕ) → next_item life.items ≡ item → Turned Begin (Down life) (down_item (with_begun life) item)
    by None fact = record { its_number = refl; event = Idles refl }
    by (Some number) fact = down_so life number fact (work_at (with_begun life).items number)
begin_so (Waiting life hello) = by (next_item life.items) refl
  where
    by : (item : Option ℕ) → next_item life.items ≡ item → Turned Begin (Waiting life hello) (waiting_item (with_begun life) hello item)
    by None fact = record { its_number = refl; event = Idles refl }
    by (Some number) fact = waiting_so life number fact hello (work_at (with_begun life).items number) refl
begin_so (Serves s) = by (next_item s.lasting.items) refl
  where
    by : (item : Option ℕ) → next_item s.lasting.items ≡ item → Turned Begin (Serves s) (serving_item (record s { lasting = with_begun s.lasting }) item)
    by None fact = record { its_number = refl; event = Idles refl }
    by (Some number) fact = serving_so s number fact (work_at (with_begun s.lasting).items number) refl

-- ---- all events

awaited_so : (peers : Peers) (life : Life) (hello : ℕ) (what : Do) (b : Body) → Turned what (Waiting life hello) (on_waiting peers life hello b)
unfolding on_welcome
awaited_so peers life hello what (body.Welcome welcome) =
    let s : Serving = serving.again life (forgotten peers.servers) welcome.news.groups in
    by_test (Turned what (Waiting life hello)) (takes_welcome peers life hello welcome) (serves (serving.on_news s peers.clients welcome.news))
    (still (Waiting life hello))
    (λ _. (let t : Turned what (Serves s) (serves (serving.on_news s peers.clients welcome.news)) =
    served s what (serving.on_news s peers.clients welcome.news) (news_goes s peers.clients welcome.news) in
    record { its_number = t.its_number; event = t.event })) (λ _. unmoved what (Waiting life hello))
awaited_so peers life hello what _ = unmoved what (Waiting life hello)

gets_so : (peers : Peers) (p : Phase) (packet : Packet) → Turned (Deliver packet) p (on_packet peers p packet)
gets_so peers (Down life) packet = unmoved (Deliver packet) (Down life)
gets_so peers (Waiting life hello) packet = awaited_so peers life hello (Deliver packet) packet.body
gets_so peers (Serves s) packet = served s (Deliver packet) (serving.serving_hear s peers.clients packet) (packet_goes s peers.clients packet)

time_so : (p : Phase) → Turned Tick p (on_time p)
unfolding on_time
time_so (Down life) = unmoved Tick (Down life)
time_so (Waiting life hello) = record { its_number = refl; event = GoesOn (Last (Stays (same life.items) (tt, tt))) }
time_so (Serves s) = served s Tick (serving.on_tick s) (tick_goes s)

event_so : (peers : Peers) (p : Phase) (what : Do) → Turned what p (on_event peers p what)
unfolding manager_deliver
event_so peers p Begin = begin_so p
event_so peers p (Deliver packet) =
    by_test (Turned (Deliver packet) p) (is_well_formed peers packet) (on_packet peers p packet) (still p) (λ _. gets_so peers p packet)
    (λ _. unmoved (Deliver packet) p)
event_so peers p Tick = time_so p

pub manager_turned : (m : Manager) (what : Do) → Turned what m.phase (happens m what)
unfolding happens
manager_turned m what =
    by_test (Turned what m.phase) (phase_has_room m.phase) (on_event m.peers m.phase what) (still m.phase) (λ _. event_so m.peers m.phase what)
    (λ _. unmoved what m.phase)
