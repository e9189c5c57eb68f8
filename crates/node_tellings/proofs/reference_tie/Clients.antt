-- Whatever happens to a client that serves, whichever Report it sends bears the end that its log had before.
use Rattle.client_node.specs.Phases.{Went_to, cut, owner_of, restart, phase_after, opened_on, answers, serves_on, wish_of, down_begins, opening_begins, serving_begins, lasting_of, begins_item, on_begin, on_deliver, client_tick, client_deliver, happens, client_has_room, takes}
use Rattle.client_node.specs.Crash.{falls}
use Rattle.client_running.specs.Opens.{begin_call, call_at, opens}
use Rattle.log_owner.proofs.Behaving as behaving
use Rattle.log_owner.specs.Behaves.{Behaves}
use Rattle.log_owner.specs.declared.ended.Owner.{Owner}
use Rattle.log_owner.specs.declared.opened.Progress.{Progress}
use Rattle.log_owner.specs.declared.opened.Progress.TheVariants as progress
use Rattle.log_owner.specs.declared.opening.Opening as openings
use Rattle.log_owner.specs.Opening as opening
use Rattle.log_owner.specs.Opening.{Went}
use Rattle.log_owner.specs.Sending.{push_all}
use Rattle.node_base.specs.declared.effects.Effect.TheVariants.{Answer as Answers}
use Rattle.client_node.specs.declared.phase.Phase.TheVariants.{Down, Opening, Serving as Serves}
use Rattle.client_node.specs.declared.phase.Phase.{Phase}
use Rattle.node_tellings.proofs.reference_tie.Feeding.{push_all_say}
use Rattle.node_tellings.specs.reference_tie.Owners.{ClientsReportTheirEnd}
use Rattle.std.proofs.Common.{◌≡◌, ℕ, [], ◌∷◌, Option, Some, None, is_some, refl}
use Rattle.node_base.specs.Beginning.{next_item, items_begin, work_at, items_wait, items_answer}
use Rattle.xfs_base.specs.declared.segment.End.{End}
use Rattle.client_node.specs.declared.client.Client.{Client}
use Rattle.client_call.specs.declared.call.Going.{Going}
use Rattle.client_serving.specs.declared.lasting.Lasting.{Lasting}
use Rattle.client_serving.specs.declared.serving.Serving.{Serving}
use Rattle.client_serving.specs.Lasting.{live_on}
use Rattle.client_serving.specs.Packets as packets
use Rattle.client_running.specs.Running.{running_go_on}
use Rattle.client_serving.specs.Sends.{Done, gives}
use Rattle.node_base.specs.declared.peers.Peers.{Peers}
use Rattle.node_base.specs.Shape.{is_well_formed}
use Rattle.version_model.specs.declared.answer.Answer.{Answer}
use Rattle.version_model.specs.declared.answer.Answer.TheVariants as answer
use Rattle.version_model.specs.declared.work.Work.{Work}
use Rattle.version_model.specs.declared.work.Work.TheVariants as work
use Rattle.wire_msg.specs.declared.packet.Do.{Do}
use Rattle.wire_msg.specs.declared.packet.Do.TheVariants.{Begin, Deliver, Tick}
use Rattle.wire_msg.specs.declared.packet.Packet.{Packet}
use Rattle.xfs_base.proofs.Booleans.{by_test}
use Rattle.xfs_base.specs.declared.node.NodeId.TheVariants.{Client as AClient}
use Rattle.xfs_base.specs.Steps.{still}
use Rattle.xfs_base.proofs.Alls.{all_append}
use Rattle.node_tellings.proofs.reference_tie.Reporting as frames
use Rattle.node_tellings.proofs.reference_tie.ServingWalk as serving
use Rattle.node_moves.proofs.client_walk.Calls as calls
use Rattle.node_moves.proofs.client_walk.Laws.{hears_so}
use Rattle.node_moves.proofs.client_walk.Packets as packets_go
use Rattle.node_moves.proofs.client_walk.Readings as readings

module _ (told : End) where
  abbrev PhaseSo : Phase → Type 0
  PhaseSo p = Unit {0}

  abbrev Goes : Went_to → Type 0
  Goes w = frames.Goes told PhaseSo w

  still_so : (p : Phase) → Goes (still p)
  still_so p = frames.goes_still told PhaseSo p tt

  answers_so : (p : Phase) (number : ℕ) (a : Answer) → Goes (answers p number a)
  answers_so p number a = frames.goes_plain told PhaseSo p (Answers number a ∷ []) tt (tt, tt)

  -- ---- falls and restarts

  crashes_so : (l : Lasting) (number : ℕ) → Goes (cut l number)
  crashes_so l number =
      frames.goes_plain told PhaseSo (Down (record l { items = items_answer l.items })) (cut l number).outs tt
      (frames.both_say told l.items.unanswered answer.Cut number answer.Done)

  -- ---- the next item begins

  serves_so : (d : Done) → serving.Goes told d → Goes (serves_on d)
  serves_so d p = (tt, p.1)

  begins_so : (s : Serving) (number : ℕ) (going : Option Going) → serving.At told s → serving.Goes told (begin_call s number going)
  begins_so s number None h = frames.goes_plain told (serving.At told) s (Answers number answer.Done ∷ []) h (tt, tt)
  begins_so s number (Some x) h =
      let t : Serving = record s { lasting = record s.lasting { items = items_wait s.lasting.items number } } in
      serving.gone told (packets_go.and_runs (serving.walk told) (running_go_on t x)) (packets_go.runs_after (serving.walk told) (running_go_on t x)
      (calls.running_go_on_so (serving.walk told) t x (readings.going_any (λ r. Unit {0}) (λ r. tt) x) h))

  opens_so : (s : Serving) (number : ℕ) → serving.At told s → serving.Goes told (opens s number)
  unfolding opens
  opens_so s number h =
      by_test (λ (d : Done). serving.Goes told d) (is_some s.lasting.items.unanswered) (gives s (Answers number answer.Busy ∷ []))
      (begin_call s number (call_at s number (work_at s.lasting.items number)))
      (λ t. frames.goes_plain told (serving.At told) s (Answers number answer.Busy ∷ []) h (tt, tt))
      (λ t. begins_so s number (call_at s number (work_at s.lasting.items number)) h)

  serving_so : (s : Serving) (number : ℕ) (wanted : Option Work) → serving.At told s → Goes (serving_begins s number (wish_of wanted))
  serving_so s number (Some (work.Crash node)) h =
      frames.goes_after told PhaseSo (falls s ∷ []) (cut s.lasting number) (tt, tt) (crashes_so s.lasting number)
  serving_so s number (Some (work.Restart node)) h = answers_so (Serves s) number answer.Up
  serving_so s number (Some _) h = serves_so (opens s number) (opens_so s number h)
  serving_so s number None h = serves_so (opens s number) (opens_so s number h)

  -- ---- an opening, which reports nothing

  phase_after_so : (l : Lasting) (capacity : ℕ) (p : Progress) → Goes (phase_after l capacity p)
  phase_after_so l capacity (progress.Opening o) = still_so (Opening l o)
  phase_after_so l capacity (progress.Opened o) = (
    tt,
    (
      tt,
      all_append (frames.Says told) (push_all o.promised.managers o.feed) _ (push_all_say told o.promised.managers o.feed)
          (frames.answers_say told l.items.unanswered answer.Done),
    ),
  )
  phase_after_so l capacity (progress.Lost seg) = (tt, frames.answers_say told l.items.unanswered (answer.Lost seg))

  opened_on_so : (l : Lasting) (capacity : ℕ) (owner : Owner) (w : Went) → Behaves owner w → Goes (opened_on l capacity w)
  opened_on_so l capacity owner w b =
      let e : Went_to = phase_after (record l { questions = w.questions }) capacity w.progress in (
        tt,
        all_append (frames.Says told) w.effects e.outs (frames.may_do told owner w.effects b.does)
            (phase_after_so (record l { questions = w.questions }) capacity w.progress).1,
      )

  restarts_so : (servers : ℕ) (l : Lasting) → Goes (restart servers l)
  restarts_so servers l =
      (tt, frames.may_do told (owner_of l) (opening.on_start (owner_of l) servers l.questions).effects (behaving.begin_so (owner_of l) servers l.questions).does)

  down_so : (servers number : ℕ) (l : Lasting) (wanted : Option Work) → Goes (down_begins servers l number (wish_of wanted))
  down_so servers number l (Some (work.Restart node)) = restarts_so servers (live_on l number)
  down_so servers number l (Some _) = answers_so (Down l) number answer.Down
  down_so servers number l None = answers_so (Down l) number answer.Down

  opening_so : (l : Lasting) (o : openings.Opening) (number : ℕ) (wanted : Option Work) → Goes (opening_begins l o number (wish_of wanted))
  opening_so l o number (Some (work.Crash node)) = crashes_so l number
  opening_so l o number (Some (work.Restart node)) = answers_so (Opening l o) number answer.Up
  opening_so l o number (Some _) = answers_so (Opening l o) number answer.Down
  opening_so l o number None = answers_so (Opening l o) number answer.Down

  -- ---- the events

  item_so : (servers : ℕ) (p : Phase) (item : Option ℕ) → Goes (begins_item servers p item)
  item_so servers p None = still_so p
  item_so servers (Down l) (Some number) = down_so servers number (record l { items = items_begin l.items }) (work_at (items_begin l.items) number)
  item_so servers (Opening l o) (Some number) = opening_so (record l { items = items_begin l.items }) o number (work_at (items_begin l.items) number)
  item_so servers (Serves s) (Some number) =
      serving_so (record s { lasting = record s.lasting { items = items_begin s.lasting.items } }) number (work_at (items_begin s.lasting.items) number) tt

  on_begin_so : (servers : ℕ) (p : Phase) → Goes (on_begin servers p)
  unfolding on_begin
  on_begin_so servers p = item_so servers p (next_item (lasting_of p).items)

  -- the end of its log, where it serves
  abbrev Ends : Phase → Type 0
  Ends p = (s : Serving) → p ≡ Serves s → s.log.end ≡ told

  on_deliver_so : (capacity : ℕ) (p : Phase) (packet : Packet) → Ends p → Goes (on_deliver capacity p packet)
  unfolding on_deliver
  on_deliver_so capacity (Down l) packet fact = still_so (Down l)
  on_deliver_so capacity (Opening l o) packet fact =
      opened_on_so l capacity o.known.owner (opening.opening_take o l.questions packet) (behaving.packet_so o l.questions packet)
  on_deliver_so capacity (Serves s) packet fact =
      serves_so (packets_go.and_runs (serving.walk told) (packets.serving_take s packet))
      (serving.gone told (packets_go.and_runs (serving.walk told) (packets.serving_take s packet))
      (packets_go.packet_so (serving.walk told) s packet (hears_so (serving.walk told) (λ ask server t. tt) (λ groups. tt) packet.from packet.body (λ m is. tt)) tt (fact s refl)))

  client_deliver_so : (peers : Peers) (capacity : ℕ) (p : Phase) (packet : Packet) → Ends p → Goes (client_deliver peers capacity p packet)
  client_deliver_so peers capacity p packet fact =
      by_test (λ (x : Went_to). Goes x) (is_well_formed peers packet) (on_deliver capacity p packet) (still p)
      (λ t. on_deliver_so capacity p packet fact) (λ t. still_so p)

  client_tick_so : (capacity : ℕ) (p : Phase) → Goes (client_tick capacity p)
  unfolding client_tick
  client_tick_so capacity (Down l) = still_so (Down l)
  client_tick_so capacity (Opening l o) =
      opened_on_so l capacity o.known.owner (opening.on_tick o l.questions) (behaving.tick_so o l.questions)
  client_tick_so capacity (Serves s) =
      serves_so (packets_go.and_runs (serving.walk told) (packets.on_tick s))
      (serving.gone told (packets_go.and_runs (serving.walk told) (packets.on_tick s)) (packets_go.time_so (serving.walk told) s tt))

  happens_so : (client : Client) (what : Do) → Ends client.phase → Goes (happens client what)
  happens_so client Begin fact = on_begin_so client.peers.servers client.phase
  happens_so client (Deliver packet) fact = client_deliver_so client.peers client.cache client.phase packet fact
  happens_so client Tick fact = client_tick_so client.cache client.phase

  takes_so : (client : Client) (what : Do) → Ends client.phase → Goes (takes client what)
  takes_so client what fact =
      by_test (λ (x : Went_to). Goes x) (client_has_room client) (happens client what) (still client.phase) (λ t. happens_so client what fact)
      (λ t. still_so client.phase)

-- ---- the law

pub clients_report : ClientsReportTheirEnd
clients_report end client what fact =
    frames.packets_say end (AClient (lasting_of client.phase).number) (takes client what).outs (takes_so end client what fact).1
