-- What each event makes of what the open call of a client that serves reads, and what it says in it.
use Rattle.std.proofs.Common.{◌≡◌, ℕ, ◌<◌, ◌+◌, ◌&&◌, Bool, cond, true, false, List, [], ◌∷◌, ◌++◌, Option, Some, None, is_none, is_some, nat_lt, refl, sym, ap, subst, ◌∙◌, inl, arith}
use Rattle.std.proofs.lemmas.Bool.Decides.{nat_tests}
use Rattle.xfs_base.proofs.Booleans.{and_first, and_second, by_test, contrary}
use Rattle.xfs_base.specs.Limits.{u32_end}
use Rattle.client_call.specs.declared.call.Call.{Call}
use Rattle.client_call.specs.declared.call.Going.TheVariants.{On, Ends}
use Rattle.client_call.specs.declared.call.Going.{Going}
use Rattle.client_call.specs.Reads.{reading_in}
use Rattle.client_moves.proofs.Events.{serving_events_are_moves}
use Rattle.client_moves.specs.Moves.{BegunCall, Event, begun, waiting}
use Rattle.client_moves.specs.Moves.Event.{AtOnce, Falls, Opens, Turned}
use Rattle.client_node.specs.declared.client.Client.{Client}
use Rattle.client_node.specs.declared.phase.Phase.{Phase}
use Rattle.client_node.specs.declared.phase.Phase.TheVariants.{Down, Opening, Serving as Serves}
use Rattle.client_node.specs.Phases.{Went_to, client_has_room, happens, lasting_of, on_event, phase_has_room, serving_crashes, takes}
use Rattle.client_node.specs.Room.{serving_has_room, tokens_room}
use Rattle.client_running.specs.Opens.{call_at}
use Rattle.client_running.specs.Running.{running_go_on}
use Rattle.client_serving.specs.declared.serving.Serving.{Serving}
use Rattle.log_owner.specs.Opening.{log_has_room}
use Rattle.node_base.specs.Asking.{next_ask}
use Rattle.node_base.specs.Beginning.{answers_unanswered, is_left, work_at}
use Rattle.node_base.specs.declared.effects.Effect.{Effect}
use Rattle.node_base.specs.declared.effects.Effect.TheVariants.{Answer}
use Rattle.node_base.specs.declared.items.Items.{Items}
use Rattle.node_base.specs.declared.questions.Questions.{Questions}
use Rattle.node_base.specs.Room.{has_room}
use Rattle.run_laws.proofs.place_law.AimsReads.{AnyGoingNew, GoingNew, begun_new}
use Rattle.version_model.specs.declared.answer.Answer.{Answer as Told}
use Rattle.version_model.specs.declared.answer.Answer.TheVariants as answer
use Rattle.version_model.specs.declared.work.Work.{Work}
use Rattle.wire_msg.specs.declared.packet.Do.{Do}
use Rattle.xfs_base.specs.Steps.{still}
use Rattle.xfs_base.proofs.Alls.{all_append}
use Rattle.run_losses.proofs.fetching_law.Following.{AllQuiet, IsQuiet, answered_quiet, moves_follow}
use Rattle.run_losses.proofs.fetching_law.Turning.{AllSay, Turns, WaitsFor, all_quiet_say, turn_follows}
use Rattle.run_losses.proofs.fetching_law.Turns.{stays_turn, turns_so}
use Rattle.run_losses.proofs.fetching_law.Wants.{Lasts, same_wants}

unread : (call : Option Call) → is_none call ≡ true → reading_in call ≡ None
unread None none = refl
unread (Some call) none = contrary none

-- ---- after an event of one that serves

module _ (s : Serving) (what : Do) where
  -- it serves on, or it is down
  abbrev pub After : Phase → List Effect → Type 0
  After (Down l) outs = AllSay s what None outs
  After (Opening l o) outs = ⊥
  After (Serves t) outs = Turns s what t outs

  abbrev pub WentSo : Went_to → Type 0
  WentSo w = After w.state w.outs

  module _ (waits : WaitsFor s) where
    -- ---- the next item begins

    same_item : (begun s).lasting.items.unanswered ≡ s.lasting.items.unanswered
    same_item =
        by_test (λ (i : Items). i.unanswered ≡ s.lasting.items.unanswered) (is_left s.lasting.items)
        (record s.lasting.items { begun = s.lasting.items.begun + 1 }) s.lasting.items (λ _. refl) (λ _. refl)

    at_once : (number : ℕ) (a : Told) → Turns s what (begun s) (Answer number a ∷ [])
    at_once number a = record {
      draws = inl refl;
      maps = inl refl;
      wants = same_wants s.tokens;
      waits = λ some. subst (λ i. is_some i ≡ true) (sym same_item) (waits some);
      reading = λ r read. (inl read, same_item);
      says = (tt, tt);
    }

    unopened : is_some (begun s).lasting.items.unanswered ≡ false → is_none s.call ≡ true
    unopened closed = by (is_none s.call) refl
      where
        by : (t : Bool) → is_none s.call ≡ t → t ≡ true
        by true fact = refl
        by false fact = contrary (sym (subst (λ i. is_some i ≡ false) same_item closed) ∙ waits fact)

    -- a call opens that reads nothing, or its item is answered
    opened : (x : Serving) (outs : List Effect) → x.lasting.questions ≡ s.lasting.questions → x.maps ≡ s.maps → Lasts s.tokens x.tokens
        → reading_in x.call ≡ None → WaitsFor x → AllQuiet outs → Turns s what x outs
    opened x outs questions maps wants none waits quiet = record {
      draws = inl (ap (λ (q : Questions). q.last) questions);
      maps = inl maps;
      wants = wants;
      waits = waits;
      reading = λ r read. absurd (let clash : None ≡ Some r = sym none ∙ read in cc);
      says = all_quiet_say s what (reading_in x.call) outs quiet;
    }

    going_so : (number : ℕ) → is_none s.call ≡ true → (going : Going) → GoingNew going
        → Turns s what (running_go_on (waiting (begun s) number) going).state (running_go_on (waiting (begun s) number) going).outs
    unfolding running_go_on
    going_so number none (On call) new = opened _ [] refl refl (same_wants s.tokens) new (λ some. refl) tt
    going_so number none (Ends a) new =
        opened _ (answers_unanswered (Some number) a) refl refl (same_wants s.tokens) (unread s.call none) (λ some. contrary (sym some ∙ none))
        (answered_quiet (Some number) a)

    call_new : (number : ℕ) (wanted : Option Work) → AnyGoingNew (call_at (begun s) number wanted)
    call_new number None = tt
    call_new number (Some w) = begun_new w number s.lasting.number

    call_so : (p : Phase) (outs : List Effect) (b : BegunCall s p outs) → After (Serves b.after) ((running_go_on (waiting (begun s) b.number) b.going).outs ++ b.rest)
    call_so p outs b =
        let x = running_go_on (waiting (begun s) b.number) b.going in
        turn_follows s what x.state x.outs
        (going_so b.number (unopened b.closed) b.going (subst AnyGoingNew b.call (call_new b.number (work_at (begun s).lasting.items b.number)))) b.after b.rest
        (moves_follow x.state b.after b.rest b.moves)

    fallen_so : (number : ℕ) → WentSo (serving_crashes (begun s) number)
    fallen_so number = (
      tt,
      all_quiet_say s what None _ (all_append IsQuiet (answers_unanswered (begun s).lasting.items.unanswered answer.Cut) (Answer number answer.Done ∷ [])
          (answered_quiet (begun s).lasting.items.unanswered answer.Cut) (tt, tt)),
    )

    -- ---- all events

    as_told : (p q : Phase) (outs more : List Effect) → p ≡ q → outs ≡ more → After q more → After p outs
    as_told p q outs more same says so = subst (λ x. After x outs) (sym same) (subst (λ x. After q x) (sym says) so)

    module _ (fresh : s.lasting.questions.last < next_ask s.lasting.questions) (room : nat_lt s.tokens.req u32_end ≡ true) where
      event_so : (p : Phase) (outs : List Effect) → Event what s p outs → After p outs
      event_so p outs (Turned {t = t} a) = turns_so s what waits fresh room t outs a
      event_so p outs (AtOnce b) = as_told p (Serves (begun s)) outs (Answer b.number b.a ∷ []) b.phase b.says (at_once b.number b.a)
      event_so p outs (Opens b) =
          as_told p (Serves b.after) outs ((running_go_on (waiting (begun s) b.number) b.going).outs ++ b.rest) b.phase b.says (call_so p outs b)
      event_so p outs (Falls b) =
          as_told p (serving_crashes (begun s) b.number).state outs (serving_crashes (begun s) b.number).outs b.phase b.says (fallen_so b.number)

next_later : (k : ℕ) → has_room k ≡ true → k < cond (nat_lt k u32_end) (k + 1) k
next_later k room = grind (arith, nat_tests)

below_end : (k : ℕ) → has_room k ≡ true → nat_lt k u32_end ≡ true
below_end k room = grind (arith, nat_tests)

pub event_serves : (client : Client) (s : Serving) → client.phase ≡ Serves s → WaitsFor s → (what : Do) → WentSo s what (takes client what)
event_serves client s fact waits what =
    by_test (WentSo s what) (client_has_room client) (happens client what) (still client.phase)
    (λ room. subst (λ p. WentSo s what (on_event client.peers client.cache p what)) (sym fact)
    (event_so s what waits (next_later s.lasting.questions.last (roomy room)) (below_end s.tokens.req (roomy_wants room)) _ _
    (serving_events_are_moves client.peers client.cache s what)))
    (λ _. subst (λ p. WentSo s what (still p)) (sym fact) (stays_turn s what waits))
  where
    roomy : client_has_room client ≡ true → has_room s.lasting.questions.last ≡ true
    roomy room =
        subst (λ p. has_room (lasting_of p).questions.last ≡ true) fact
        (and_first (has_room (lasting_of client.phase).questions.last) (phase_has_room client.phase)
        (and_second (has_room (lasting_of client.phase).inc) (has_room (lasting_of client.phase).questions.last && phase_has_room client.phase) room))

    roomy_wants : client_has_room client ≡ true → has_room s.tokens.req ≡ true
    roomy_wants room =
        let rest = and_second (has_room (lasting_of client.phase).inc) (has_room (lasting_of client.phase).questions.last && phase_has_room client.phase) room in
        let serves : serving_has_room s ≡ true =
        subst (λ p. phase_has_room p ≡ true) fact (and_second (has_room (lasting_of client.phase).questions.last) (phase_has_room client.phase) rest) in
        and_first (has_room s.tokens.req) (log_has_room s.log && tokens_room s)
        (and_second (has_room s.maps.version) (has_room s.tokens.req && (log_has_room s.log && tokens_room s)) serves)
