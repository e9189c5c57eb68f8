-- Whatever happens to a client, it asks servers for fragments by numbers of questions that it drew.
use Rattle.std.proofs.Common.{◌≡◌, ℕ, ◌≤◌, List, [], ◌∷◌, ◌++◌, Option, Some, None, sym, subst, arith}
use Rattle.xfs_base.proofs.Booleans.{by_test}
use Rattle.xfs_base.specs.Steps.{still, saying}
use Rattle.xfs_base.proofs.Alls.{all_append}
use Rattle.client_moves.proofs.Events.{serving_events_are_moves}
use Rattle.client_moves.specs.Moves.{BegunCall, Event, begun, waiting}
use Rattle.client_moves.specs.Moves.Event.{AtOnce, Falls, Opens, Turned}
use Rattle.client_node.specs.declared.client.Client.{Client}
use Rattle.client_node.specs.declared.phase.Phase.TheVariants.{Down, Opening, Serving as Serves}
use Rattle.client_node.specs.declared.phase.Phase.{Phase}
use Rattle.client_node.specs.Phases.{Went_to, phase_after, opened_on, item_begins, with_begun, wish_of, lasting_of, begins_item, on_begin, on_deliver, on_event, client_tick, happens, client_has_room, serving_crashes, takes}
use Rattle.client_serving.specs.declared.lasting.Lasting.{Lasting}
use Rattle.client_serving.specs.declared.serving.Serving.{Serving}
use Rattle.client_running.specs.Opens.{call_at}
use Rattle.client_running.specs.Running.{running_go_on}
use Rattle.client_serving.specs.Sends.{Done}
use Rattle.log_owner.specs.declared.opened.Progress.{Progress}
use Rattle.log_owner.specs.declared.opened.Progress.TheVariants as progress
use Rattle.log_owner.specs.declared.opening.Opening as openings
use Rattle.log_owner.specs.Opening as opening
use Rattle.log_owner.specs.Opening.{Went}
use Rattle.log_owner.specs.Sending.{push_all}
use Rattle.node_base.specs.Beginning.{next_item, items_begin, answers_unanswered, work_at}
use Rattle.node_base.specs.declared.effects.Effect.{Effect}
use Rattle.node_base.specs.declared.effects.Effect.TheVariants.{Answer}
use Rattle.node_base.specs.declared.peers.Peers.{Peers}
use Rattle.node_base.specs.Shape.{is_well_formed}
use Rattle.run_laws.proofs.place_law.AimsReads.{AnyGoingNew, begun_new}
use Rattle.version_model.specs.declared.answer.Answer.TheVariants as answer
use Rattle.version_model.specs.declared.work.Work.{Work}
use Rattle.version_model.specs.declared.work.Work.TheVariants as work
use Rattle.wire_msg.specs.declared.packet.Do.{Do}
use Rattle.wire_msg.specs.declared.packet.Do.TheVariants.{Begin, Deliver, Tick}
use Rattle.run_losses.proofs.torn_law.ClientFetches.{AllUpTo, At, Goes, UpTo, all_pushed_none, answered_none, last_in, last_up, moves_go}
use Rattle.run_losses.proofs.torn_law.ClientNumbers.{going_goes, turn_goes}
use Rattle.run_losses.proofs.torn_law.OpeningNumbers.{StageUp, WentUp, packet_up, tick_up}

-- what is known of its numbers
abbrev pub PhaseUp : Phase → Type 0
PhaseUp (Down l) = Unit {0}
PhaseUp (Opening l o) = StageUp l.questions.last o.stage
PhaseUp (Serves s) = At s

-- while it serves
abbrev pub ServesUp : Phase → Type 0
ServesUp (Down l) = Unit {0}
ServesUp (Opening l o) = Unit {0}
ServesUp (Serves s) = At s

pub record Draws (last : ℕ) (x : Went_to) : Type 0 where
  pub up : last ≤ (lasting_of x.state).questions.last
  pub serves : ServesUp x.state
  pub does : AllUpTo (lasting_of x.state).questions.last x.outs

serves_up : (p : Phase) → PhaseUp p → ServesUp p
serves_up (Down l) h = tt
serves_up (Opening l o) h = tt
serves_up (Serves s) h = h

still_up : (p : Phase) → PhaseUp p → Draws (lasting_of p).questions.last (still p)
still_up p h = record { up = omega arith; serves = serves_up p h; does = tt }

serving_up : (last : ℕ) (s : Serving) (outs : List Effect) → Goes last s outs → Draws last (record { state = Serves s; outs = outs })
serving_up last s outs g = record { up = g.up; serves = g.reads; does = g.does }

-- ---- an opening goes on

opened_up : (l : Lasting) (capacity : ℕ) (w : Went) → WentUp l.questions.last w → Draws l.questions.last (opened_on l capacity w)
opened_up l capacity w u = by_progress w.progress
  where
    by_progress : (p : Progress) → Draws l.questions.last (saying w.effects (phase_after (record l { questions = w.questions }) capacity p))
    by_progress (progress.Opening o) = record { up = u.up; serves = tt; does = all_append (UpTo w.questions.last) w.effects [] u.does tt }
    by_progress (progress.Opened r) = record {
      up = u.up;
      serves = tt;
      does = all_append (UpTo w.questions.last) w.effects _ u.does (
        tt,
        all_append (UpTo w.questions.last) (push_all r.promised.managers r.feed) _ (all_pushed_none r.promised.managers r.feed w.questions.last)
            (answered_none l.items.unanswered answer.Done w.questions.last),
      );
    }
    by_progress (progress.Lost seg) = record {
      up = u.up;
      serves = tt;
      does = all_append (UpTo w.questions.last) w.effects _ u.does (answered_none l.items.unanswered (answer.Lost seg) w.questions.last);
    }

-- ---- an item begins

crashed_none : (l : Lasting) (number highest : ℕ) → AllUpTo highest (answers_unanswered (items_begin l.items).unanswered answer.Cut ++ Answer number answer.Done ∷ [])
crashed_none l number highest =
    all_append (UpTo highest) (answers_unanswered (items_begin l.items).unanswered answer.Cut) (Answer number answer.Done ∷ [])
    (answered_none (items_begin l.items).unanswered answer.Cut highest) (tt, tt)

down_up : (servers : ℕ) (l : Lasting) (number : ℕ) (wanted : Option Work)
    → Draws l.questions.last (item_begins servers (with_begun (Down l)) number (wish_of wanted))
down_up servers l number (Some (work.Restart node)) = record { up = last_up l.questions.last; serves = tt; does = (tt, tt) }
down_up servers l number (Some (work.Crash node)) = record { up = omega arith; serves = tt; does = (tt, tt) }
down_up servers l number (Some _) = record { up = omega arith; serves = tt; does = (tt, tt) }
down_up servers l number None = record { up = omega arith; serves = tt; does = (tt, tt) }

opening_up : (servers : ℕ) (l : Lasting) (o : openings.Opening) (number : ℕ) (wanted : Option Work)
    → Draws l.questions.last (item_begins servers (with_begun (Opening l o)) number (wish_of wanted))
opening_up servers l o number (Some (work.Crash node)) = record { up = omega arith; serves = tt; does = crashed_none l number l.questions.last }
opening_up servers l o number (Some (work.Restart node)) = record { up = omega arith; serves = tt; does = (tt, tt) }
opening_up servers l o number (Some _) = record { up = omega arith; serves = tt; does = (tt, tt) }
opening_up servers l o number None = record { up = omega arith; serves = tt; does = (tt, tt) }

-- ---- one that serves

module _ (what : Do) (s : Serving) (h : At s) where
  as_told : (p q : Phase) (outs more : List Effect) → p ≡ q → outs ≡ more → Draws (last_in s) (record { state = q; outs = more })
      → Draws (last_in s) (record { state = p; outs = outs })
  as_told p q outs more same says d =
      subst (λ x. Draws (last_in s) (record { state = x; outs = outs })) (sym same)
      (subst (λ x. Draws (last_in s) (record { state = q; outs = x })) (sym says) d)

  call_new : (number : ℕ) (wanted : Option Work) → AnyGoingNew (call_at (begun s) number wanted)
  call_new number None = tt
  call_new number (Some w) = begun_new w number s.lasting.number

  call_up : (p : Phase) (outs : List Effect) (b : BegunCall s p outs)
      → Goes (last_in s) b.after ((running_go_on (waiting (begun s) b.number) b.going).outs ++ b.rest)
  call_up p outs b =
      let x : Done = running_go_on (waiting (begun s) b.number) b.going in
      moves_go (last_in s) x.state b.after x.outs b.rest
      (going_goes what s h b.number b.going (subst AnyGoingNew b.call (call_new b.number (work_at (begun s).lasting.items b.number)))) b.moves

  event_up : (p : Phase) (outs : List Effect) → Event what s p outs → Draws (last_in s) (record { state = p; outs = outs })
  event_up p outs (Turned {t = t} a) = serving_up (last_in s) t outs (turn_goes what s h t outs a)
  event_up p outs (AtOnce b) =
      as_told p (Serves (begun s)) outs (Answer b.number b.a ∷ []) b.phase b.says (record { up = omega arith; serves = h; does = (tt, tt) })
  event_up p outs (Opens b) = as_told p (Serves b.after) outs _ b.phase b.says (serving_up (last_in s) b.after _ (call_up p outs b))
  event_up p outs (Falls b) =
      as_told p (serving_crashes (begun s) b.number).state outs (serving_crashes (begun s) b.number).outs b.phase b.says
      (record { up = omega arith; serves = tt; does = (tt, crashed_none s.lasting b.number (last_in s)) })

-- ---- all events

down_begins_up : (servers : ℕ) (l : Lasting) (item : Option ℕ) → Draws l.questions.last (begins_item servers (Down l) item)
down_begins_up servers l None = still_up (Down l) tt
down_begins_up servers l (Some number) = down_up servers l number (work_at (items_begin l.items) number)

opening_begins_up : (servers : ℕ) (l : Lasting) (o : openings.Opening) → StageUp l.questions.last o.stage → (item : Option ℕ)
    → Draws l.questions.last (begins_item servers (Opening l o) item)
opening_begins_up servers l o h None = still_up (Opening l o) h
opening_begins_up servers l o h (Some number) = opening_up servers l o number (work_at (items_begin l.items) number)

phase_up : (peers : Peers) (capacity : ℕ) (p : Phase) (what : Do) → PhaseUp p → Draws (lasting_of p).questions.last (on_event peers capacity p what)
unfolding on_begin on_deliver client_tick
phase_up peers capacity (Down l) Begin h = down_begins_up peers.servers l (next_item l.items)
phase_up peers capacity (Down l) (Deliver packet) h =
    by_test (Draws l.questions.last) (is_well_formed peers packet) (on_deliver capacity (Down l) packet) (still (Down l)) (λ _. still_up (Down l) h)
    (λ _. still_up (Down l) h)
phase_up peers capacity (Down l) Tick h = still_up (Down l) h
phase_up peers capacity (Opening l o) Begin h = opening_begins_up peers.servers l o h (next_item l.items)
phase_up peers capacity (Opening l o) (Deliver packet) h =
    by_test (Draws l.questions.last) (is_well_formed peers packet) (on_deliver capacity (Opening l o) packet) (still (Opening l o))
    (λ _. opened_up l capacity (opening.opening_take o l.questions packet) (packet_up o l.questions packet h)) (λ _. still_up (Opening l o) h)
phase_up peers capacity (Opening l o) Tick h = opened_up l capacity (opening.on_tick o l.questions) (tick_up o l.questions h)
phase_up peers capacity (Serves s) what h = event_up what s h _ _ (serving_events_are_moves peers capacity s what)

pub client_draws : (client : Client) (what : Do) → PhaseUp client.phase → Draws (lasting_of client.phase).questions.last (takes client what)
client_draws client what h =
    by_test (Draws (lasting_of client.phase).questions.last) (client_has_room client) (happens client what) (still client.phase)
    (λ room. phase_up client.peers client.cache client.phase what h) (λ room. still_up client.phase h)
