-- What the calls of a client find in one event, where what it is granted in it is of a known version.
use Rattle.std.proofs.Common.{◌≡◌, ◌⊎◌, ◌+◌, ℕ, true, List, [], ◌∷◌, ◌++◌, append-nil, Option, Some, None, is_some, inl, inr, refl, sym, ap, subst, ◌∙◌}
use Rattle.std.specs.List.{AllByRecursion}
use Rattle.std.specs.Prelude.{map}
use Rattle.client_call.specs.Calls.{plan_answered}
use Rattle.client_call.specs.declared.call.Call.{Call}
use Rattle.client_call.specs.declared.call.Going.{Going}
use Rattle.client_call.specs.declared.call.Going.TheVariants.{On}
use Rattle.client_call.specs.declared.call.Plan.{Plan}
use Rattle.client_node.specs.declared.client.Client.{Client}
use Rattle.client_node.specs.declared.phase.Phase.{Phase}
use Rattle.client_node.specs.declared.phase.Phase.TheVariants.{Down, Opening, Serving as Serves}
use Rattle.client_node.specs.Crash.{fall_of, flight_of}
use Rattle.client_node.specs.Phases.{Went_to, begins_item, client_has_room, happens, lasting_of, on_begin, on_deliver, client_tick, on_event, serving_begins, takes, then_runs, wish_of}
use Rattle.client_running.specs.Opens.{begin_call, call_at, opens}
use Rattle.client_running.specs.Running.{run}
use Rattle.client_serving.specs.declared.serving.Serving.{Serving}
use Rattle.client_serving.specs.Flights.{held_at}
use Rattle.client_serving.specs.Packets.{serving_take, on_tick}
use Rattle.client_serving.specs.Sends.{Done, gives}
use Rattle.file_plan.specs.declared.block_call.BlockCall.{BlockCall}
use Rattle.node_base.specs.Beginning.{items_begin, next_item, items_wait, work_at}
use Rattle.node_base.specs.declared.effects.Effect.TheVariants.{Answer as Answers}
use Rattle.node_base.specs.declared.items.Items.{Items}
use Rattle.node_base.specs.Shape.{is_well_formed}
use Rattle.node_slots.proofs.node_tie.ClientFalls.{falls_dirty}
use Rattle.node_slots.specs.node_tie.Asks.{needed, needed_by}
use Rattle.serving_moves.proofs.call_moves.Arriving.{packet_goes, tick_goes}
use Rattle.serving_moves.specs.call_moves.Moves.{Comes}
use Rattle.serving_moves.specs.call_moves.Moves.Comes.{Moved}
use Rattle.token_client.proofs.Tables.{InOrder}
use Rattle.token_client.specs.declared.held.Held.{Held}
use Rattle.token_client.specs.Held.{is_dirty}
use Rattle.token_client.specs.State.{dirty_in}
use Rattle.token_protocol.specs.Basics.{In}
use Rattle.version_model.specs.declared.act.Act.{Act}
use Rattle.version_model.specs.declared.act.Act.TheVariants as act
use Rattle.version_model.specs.declared.act.Fall.{Fall}
use Rattle.version_model.specs.declared.answer.Answer.{Answer}
use Rattle.version_model.specs.declared.answer.Answer.TheVariants as answer
use Rattle.version_model.specs.declared.work.Work.{Work}
use Rattle.version_model.specs.declared.work.Work.TheVariants as work
use Rattle.wire_msg.specs.declared.packet.Do.{Do}
use Rattle.wire_msg.specs.declared.packet.Do.TheVariants.{Begin, Deliver, Tick}
use Rattle.wire_msg.specs.declared.packet.Packet.{Packet}
use Rattle.xfs_base.proofs.Booleans.{by_test}
use Rattle.xfs_base.specs.declared.block.BlockId.{BlockId}
use Rattle.xfs_base.specs.declared.node.NodeId.{NodeId}
use Rattle.xfs_base.specs.declared.node.NodeId.TheVariants as nodes
use Rattle.xfs_base.specs.Steps.{still}
use Rattle.headline.specs.Calls.{Acts, CallHasItem, DoesServe, HasFallen, IsAnswerTo, IsBegun, IsHeldSince, answered_so, call_in, held_in, open_in, told, writes_of}
use Rattle.headline.specs.Calls.Acts.{Rests, Passes, AtOnce, GoesOn, Begins, Loses, Falls, Stops, Returns}
use Rattle.headline.specs.Changes.{EndsNoCall, IsNoCall}
use Rattle.headline.specs.ItemActs.{IsOfCall}
use Rattle.headline.specs.Items.{asked_at}
use Rattle.run_answers.proofs.change_law.Fresh.{AllValued, Fresh, all_fresh}
use Rattle.run_answers.proofs.change_law.Lasting.{IsNoFall, answers_calm}
use Rattle.run_answers.proofs.change_law.Walking.{IsToldOther, Walk, Walked, going_needs, going_walks, open_walks}
use Rattle.run_answers.proofs.change_law.Walking.Walk.{Waits, Goes}
use Rattle.run_answers.proofs.once_law.Items.{begun_open, begun_works}
use Rattle.run_answers.proofs.own_law.Clients.{call_over, cut_are, not_open}
use Rattle.run_answers.proofs.own_law.Filing.{behind_still, its_acts}
use Rattle.run_answers.proofs.own_law.Moving.{HasLost, IsCalm, Went as Moved_so, comes, none_kept}
use Rattle.run_answers.proofs.own_law.Running.{no_runs}
use Rattle.run_answers.proofs.own_law.Single.{NoneOfBlocks, answers_none}

-- a fall of a dirty block is down to the version that is settled, or not so far
pub record IsFallOf (s : Serving) (f : Fall) : Type 0 where
  pub dirty : is_dirty (held_at s f.block) ≡ true
  pub low : f.low ≡ (held_at s f.block).settled

falls_low : (s : Serving) (blocks : List BlockId) (f : Fall) → In f (map (fall_of s) blocks) → f.low ≡ (held_at s f.block).settled
unfolding fall_of
falls_low s [] f among = absurd among
falls_low s (b ∷ blocks) f (inl same) = subst (λ (g : Fall). g.low ≡ (held_at s g.block).settled) (sym same) refl
falls_low s (b ∷ blocks) f (inr later) = falls_low s blocks f later

falls_are : (s : Serving) → InOrder s.tokens.blocks → (f : Fall) → In f (map (fall_of s) (dirty_in s.tokens.blocks)) → IsFallOf s f
falls_are s sorted f among = record { dirty = falls_dirty s sorted f among; low = falls_low s (dirty_in s.tokens.blocks) f among }

-- so a client goes from a phase to the next by an event, before which each block has so many versions, and these are its acts of items
pub data Walks (client : ℕ) (versions : BlockId → ℕ) (p : Phase) (what : Do) (acts : List Act) (q : Phase) : Type 0 where
  On_it : (call : Call) → call_in p ≡ Some call → Walk client (open_in p) (held_in q) versions (On call) acts (call_in q) → Walks client versions p what acts q
  Starts : {s : Serving} (number : ℕ) (wanted : Option Work) (going : Going) → p ≡ Serves s → IsBegun p what number wanted → call_in p ≡ None
      → call_at s number wanted ≡ Some going → Walk client (Some number) (held_in q) versions going acts (call_in q) → Walks client versions p what acts q
  Stays : NoneOfBlocks acts → AllByRecursion (EndsNoCall p what) acts → AllByRecursion IsNoFall acts → (call_in q ≡ call_in p) ⊎ (call_in q ≡ None)
      → Walks client versions p what acts q
  Drops : {s : Serving} (flight : Option (ℕ × ℕ)) (falls : List Fall) (rest : List Act) → p ≡ Serves s → acts ≡ act.Fell client flight falls ∷ rest
      → AllByRecursion IsNoFall rest → ((f : Fall) → In f falls → IsFallOf s f) → NoneOfBlocks acts → AllByRecursion (EndsNoCall p what) acts → call_in q ≡ None
      → Walks client versions p what acts q

-- what is known of grants at an event of one that serves
pub record Freshes (versions : BlockId → ℕ) (s : Serving) (what : Do) : Type 0 where
  pub sorted : InOrder s.tokens.blocks
  pub now : AllValued s
  pub tick : AllValued (on_tick s).state
  pub packet : (q : Packet) → what ≡ Deliver q → Fresh versions (needed s.call) (serving_take s q).state

one_call : (a b : Call) → Some a ≡ Some b → a ≡ b
one_call a b fact = cc

cut_none : (client : ℕ) (o : Option ℕ) (n : ℕ)
    → NoneOfBlocks (answered_so (nodes.Client client) o answer.Cut ++ act.Answered (nodes.Client client) n answer.Done ∷ [])
cut_none client None n = (λ is. is, tt)
cut_none client (Some item) n = (λ is. is, (λ is. is, tt))

cut_calm : (client : ℕ) (o : Option ℕ) (n : ℕ)
    → AllByRecursion IsNoFall (answered_so (nodes.Client client) o answer.Cut ++ act.Answered (nodes.Client client) n answer.Done ∷ [])
cut_calm client None n = (tt, tt)
cut_calm client (Some item) n = (tt, (tt, tt))

-- what is answered, but not as a call that is done, ends none; nor does what is no call
module _ (p : Phase) (what : Do) (node : NodeId) where
  abbrev EndNoCalls : List Act → Type 0
  EndNoCalls acts = AllByRecursion (EndsNoCall p what) acts

  ends_none : (o : Option ℕ) (a : Answer) → (IsOfCall a → ⊥) → EndNoCalls (answered_so node o a)
  ends_none None a none = tt
  ends_none (Some item) a none = (λ is. absurd (none is), tt)

  cut_ends_none : (o : Option ℕ) (n : ℕ) → IsNoCall p what n ⊎ (DoesServe p → ⊥)
      → EndNoCalls (answered_so node o answer.Cut ++ act.Answered node n answer.Done ∷ [])
  cut_ends_none None n none = (λ is. none, tt)
  cut_ends_none (Some item) n none = (λ is. absurd is, (λ is. none, tt))

  -- nor does one that doesn't serve
  all_away : (DoesServe p → ⊥) → (acts : List Act) → EndNoCalls acts
  all_away off [] = tt
  all_away off (act.Answered n item a ∷ acts) = (λ is. inr off, all_away off acts)
  all_away off (act.Wrote c b v ∷ acts) = (tt, all_away off acts)
  all_away off (act.Read c b ver v ∷ acts) = (tt, all_away off acts)
  all_away off (act.Synced c ∷ acts) = (tt, all_away off acts)
  all_away off (act.Fell c flight falls ∷ acts) = (tt, all_away off acts)
  all_away off (act.Back c chain ∷ acts) = (tt, all_away off acts)
  all_away off (act.Lost n seg ∷ acts) = (tt, all_away off acts)
  all_away off (act.Filed seg ∷ acts) = (tt, all_away off acts)
  all_away off (act.Dropped seg ∷ acts) = (tt, all_away off acts)

module _ (client : ℕ) (versions : BlockId → ℕ) where
  abbrev me : NodeId
  me = nodes.Client client

  -- what an event makes of a phase
  abbrev Turned : Phase → Do → Went_to → Type 0
  Turned p what w = Walks client versions p what (its_acts me w.outs) w.state

  stays : (p : Phase) (what : Do) (w : Went_to) (acts : List Act) → its_acts me w.outs ≡ acts → NoneOfBlocks acts → AllByRecursion (EndsNoCall p what) acts
      → AllByRecursion IsNoFall acts → (call_in w.state ≡ call_in p) ⊎ (call_in w.state ≡ None) → Turned p what w
  stays p what w acts are none ends calm same =
      Stays (subst NoneOfBlocks (sym are) none) (subst (AllByRecursion (EndsNoCall p what)) (sym are) ends) (subst (AllByRecursion IsNoFall) (sym are) calm) same

  -- a reading more or less leaves where a call stands
  walk_on : {item : Option ℕ} {now : BlockId → Held} {acts : List Act} {after : Option Call} (call new : Call) → new.plan ≡ call.plan → new.step ≡ call.step
      → Walk client item now versions (On new) acts after → Walk client item now versions (On call) acts after
  walk_on call new plan step (Waits p q) = Waits (p ∙ plan) (q ∙ step)
  walk_on {item} {now} {acts} {after} call new plan step (Goes {acts = rest} a fits since other more) =
      subst (λ (t : BlockCall). Walk client item now versions (On call) (told client t a ++ rest) after) (sym step)
      (Goes a (subst (λ (t : BlockCall). IsAnswerTo t a) step fits) (subst (λ (t : BlockCall). IsHeldSince now t a rest) step since)
      (subst (λ (t : BlockCall). IsToldOther versions now t a rest) step other)
      (subst (λ (t : BlockCall). Walk client item now (λ b. versions b + writes_of b (told client t a)) (plan_answered call.plan a) rest after) step
      (subst (λ (p : Plan). Walk client item now (λ b. versions b + writes_of b (told client new.step a)) (plan_answered p a) rest after) plan more)))

  -- ---- what came is done, and then the open call runs
  module _ (s : Serving) (what : Do) (its : s.lasting.number ≡ client) (d : Done) (fresh : Fresh versions (needed s.call) d.state) where
    none_runs : IsCalm s d → s.call ≡ None → Turned (Serves s) what (then_runs d)
    none_runs c none =
        stays (Serves s) what (then_runs d) [] (behind_still me d.outs (run d.state).outs c.still ∙ ap (λ (x : Done). its_acts me x.outs) quiet) tt tt tt
        (inr (ap (λ (x : Done). x.state.call) quiet ∙ over))
      where
        over : d.state.call ≡ None
        over = none_kept s d.state c.kept none

        quiet : run d.state ≡ still d.state
        quiet = no_runs client d.state over

    call_runs : IsCalm s d → (call : Call) → s.call ≡ Some call → Turned (Serves s) what (then_runs d)
    call_runs c call is =
        subst (λ (acts : List Act). Walks client versions (Serves s) what acts (Serves (run d.state).state)) (sym (behind_still me d.outs (run d.state).outs c.still))
        (On_it call is same)
      where
        new : (n : Call) × (d.state.call ≡ Some n)
        new = c.kept.lasts call is

        kept : (old : Call) × ((s.call ≡ Some old) × ((new.0.plan ≡ old.plan) × (new.0.step ≡ old.step)))
        kept = c.kept.calls new.0 new.1

        one : kept.0 ≡ call
        one = one_call kept.0 call (sym kept.1.0 ∙ is)

        st : Walked client versions d.state (On new.0) (run d.state)
        st =
            open_walks client versions d.state new.0 (c.kept.number ∙ its) new.1
            (subst (λ (step : BlockCall). Fresh versions (needed_by step) d.state) (sym (kept.1.1.1 ∙ ap (λ (x : Call). x.step) one))
            (subst (λ (o : Option Call). Fresh versions (needed o) d.state) is fresh))

        same : Walk client s.lasting.items.unanswered (held_at (run d.state).state) versions (On call) (its_acts me (run d.state).outs) (run d.state).state.call
        same =
            subst
            (λ (items : Items). Walk client items.unanswered (held_at (run d.state).state) versions (On call) (its_acts me (run d.state).outs) (run d.state).state.call)
            c.kept.items
            (walk_on call new.0 (kept.1.1.0 ∙ ap (λ (x : Call). x.plan) one) (kept.1.1.1 ∙ ap (λ (x : Call). x.step) one) st.walk)

    lost_runs : HasLost me s d → Turned (Serves s) what (then_runs d)
    lost_runs l =
        stays (Serves s) what (then_runs d) (answered_so me s.lasting.items.unanswered (answer.Lost l.name))
        (ap (λ (x : Done). its_acts me (d.outs ++ x.outs)) quiet ∙ (ap (its_acts me) (append-nil d.outs) ∙ l.acts))
        (answers_none me s.lasting.items.unanswered (answer.Lost l.name)) (ends_none (Serves s) what me s.lasting.items.unanswered (answer.Lost l.name) (λ is. is))
        (answers_calm me s.lasting.items.unanswered (answer.Lost l.name)) (inr (ap (λ (x : Done). x.state.call) quiet ∙ l.over))
      where
        quiet : run d.state ≡ still d.state
        quiet = no_runs client d.state l.over

    runs_so : Comes s d → Turned (Serves s) what (then_runs d)
    runs_so come = by (comes me s d come) s.call refl
      where
        by : Moved_so me s d → (o : Option Call) → s.call ≡ o → Turned (Serves s) what (then_runs d)
        by (inr l) o is = lost_runs l
        by (inl c) None is = none_runs c is
        by (inl c) (Some call) is = call_runs c call is

  -- ---- an item begins
  module _ (s : Serving) (its : s.lasting.number ≡ client) (sound : CallHasItem (Serves s)) (sorted : InOrder s.tokens.blocks) (whole : AllValued s) (number : ℕ)
      (next : next_item s.lasting.items ≡ Some number) where
    abbrev t : Serving
    t = record s { lasting = record s.lasting { items = items_begin s.lasting.items } }

    is_begun : (w : Option Work) → work_at t.lasting.items number ≡ w → IsBegun (Serves s) Begin number w
    is_begun w e =
        record { begins = refl; next = next; asks = ap (λ (ws : List Work). asked_at ws number) (sym (begun_works s.lasting.items)) ∙ e }

    abbrev as_phase : Done → Went_to
    as_phase d = record { state = Serves d.state; outs = d.outs }

    at_once : (a : Answer) → (IsOfCall a → IsNoCall (Serves s) Begin number) → Turned (Serves s) Begin (as_phase (gives t (Answers number a ∷ [])))
    at_once a none = Stays (λ is. is, tt) (λ is. inl (none is), tt) (tt, tt) (inl refl)

    no_call : (w : Option Work) → work_at t.lasting.items number ≡ w → call_at s number w ≡ None → IsNoCall (Serves s) Begin number
    no_call w e none = record { serving = s; serves = refl; wanted = w; begun = is_begun w e; none = none }

    begins_so : (w : Option Work) → work_at t.lasting.items number ≡ w → s.lasting.items.unanswered ≡ None
        → Turned (Serves s) Begin (as_phase (begin_call t number (call_at t number w)))
    begins_so w e free = by (call_at t number w) refl
      where
        u : Serving
        u = record t { lasting = record t.lasting { items = items_wait t.lasting.items number } }

        by : (o : Option Going) → call_at t number w ≡ o → Turned (Serves s) Begin (as_phase (begin_call t number o))
        by None made = at_once answer.Done (λ _. no_call w e made)
        by (Some going) made = Starts number w going refl (is_begun w e) (call_over s sound free) made (going_walks client versions u going its (call_over s sound free) (all_fresh versions (going_needs going) u whole)).walk

    opens_so : (w : Option Work) → work_at t.lasting.items number ≡ w → Turned (Serves s) Begin (as_phase (opens t number))
    unfolding opens
    opens_so w e =
        by_test (λ (d : Done). Turned (Serves s) Begin (as_phase d)) (is_some t.lasting.items.unanswered) (gives t (Answers number answer.Busy ∷ []))
        (begin_call t number (call_at t number (work_at t.lasting.items number)))
        (λ _. at_once answer.Busy (λ is. absurd is))
        (λ fact. subst (λ (x : Option Work). Turned (Serves s) Begin (as_phase (begin_call t number (call_at t number x)))) (sym e)
        (begins_so w e (sym (begun_open s.lasting.items) ∙ not_open t.lasting.items.unanswered fact)))

    serving_so : (wanted : Option Work) → work_at t.lasting.items number ≡ wanted → Turned (Serves s) Begin (serving_begins t number (wish_of wanted))
    serving_so None e = opens_so None e
    serving_so (Some (work.Crash node)) e =
        Drops (flight_of t.log.flight) (map (fall_of t) (dirty_in t.tokens.blocks))
        (answered_so me t.lasting.items.unanswered answer.Cut ++ act.Answered me number answer.Done ∷ []) refl fell
        (cut_calm client t.lasting.items.unanswered number)
        (λ f among. (let fall = falls_are t sorted f among in record { dirty = fall.dirty; low = fall.low }))
        (subst NoneOfBlocks (sym fell) (λ is. is, cut_none client t.lasting.items.unanswered number))
        (subst (AllByRecursion (EndsNoCall (Serves s) Begin)) (sym fell)
        (tt, cut_ends_none (Serves s) Begin me t.lasting.items.unanswered number (inl (no_call (Some (work.Crash node)) e refl)))) refl
      where
        fell : its_acts me (serving_begins t number (wish_of (Some (work.Crash node)))).outs
            ≡ act.Fell client (flight_of t.log.flight) (map (fall_of t) (dirty_in t.tokens.blocks))
            ∷ answered_so me t.lasting.items.unanswered answer.Cut ++ act.Answered me number answer.Done ∷ []
        fell =
            ap (λ (acts : List Act). act.Fell s.lasting.number (flight_of t.log.flight) (map (fall_of t) (dirty_in t.tokens.blocks)) ∷ acts)
            (cut_are client t.lasting.items.unanswered number)
            ∙ ap (λ (n : ℕ). act.Fell n (flight_of t.log.flight) (map (fall_of t) (dirty_in t.tokens.blocks))
            ∷ answered_so me t.lasting.items.unanswered answer.Cut ++ act.Answered me number answer.Done ∷ []) its
    serving_so (Some (work.Restart node)) e = at_once answer.Up (λ is. absurd is)
    serving_so (Some other) e = opens_so (Some other) e

  serving_begin : (servers : ℕ) (s : Serving) → s.lasting.number ≡ client → CallHasItem (Serves s) → InOrder s.tokens.blocks → AllValued s
      → Turned (Serves s) Begin (on_begin servers (Serves s))
  unfolding on_begin
  serving_begin servers s its sound sorted whole = by (next_item s.lasting.items) refl
    where
      by : (item : Option ℕ) → next_item s.lasting.items ≡ item → Turned (Serves s) Begin (begins_item servers (Serves s) item)
      by None fact = Stays tt tt tt (inl refl)
      by (Some number) fact = serving_so s its sound sorted whole number fact (work_at (items_begin s.lasting.items) number) refl

  -- ---- the events of one that serves

  serving_goes : (c : Client) (s : Serving) (what : Do) → s.lasting.number ≡ client → CallHasItem (Serves s) → Freshes versions s what
      → Turned (Serves s) what (on_event c.peers c.cache (Serves s) what)
  unfolding on_deliver client_tick
  serving_goes c s Begin its sound f = serving_begin c.peers.servers s its sound f.sorted f.now
  serving_goes c s Tick its sound f = runs_so s Tick its (on_tick s) (all_fresh versions (needed s.call) (on_tick s).state f.tick) (Moved (tick_goes s))
  serving_goes c s (Deliver packet) its sound f =
      by_test (Turned (Serves s) (Deliver packet)) (is_well_formed c.peers packet) (on_deliver c.cache (Serves s) packet) (still (Serves s))
      (λ _. runs_so s (Deliver packet) its (serving_take s packet) (f.packet packet refl) (packet_goes s packet)) (λ _. Stays tt tt tt (inl refl))

  -- ---- any client

  fallen_none : (q : Phase) → HasFallen q → call_in q ≡ None
  fallen_none (Down l) f = refl
  fallen_none (Opening l o) f = absurd f
  fallen_none (Serves s) f = absurd f

  -- one that doesn't serve has no call that goes on
  module _ (p : Phase) (what : Do) (none : call_in p ≡ None) (off : DoesServe p → ⊥) where
    quiet : (q : Phase) (xs : List Act) → NoneOfBlocks xs → AllByRecursion IsNoFall xs → (call_in q ≡ call_in p) ⊎ (call_in q ≡ None)
        → Walks client versions p what xs q
    quiet q xs still calm same = Stays still (all_away p what me off xs) calm same

    serves_not : (s : Serving) → p ≡ Serves s → ⊥
    serves_not s is = off (subst DoesServe (sym is) tt)

    away : (q : Phase) (xs : List Act) → Acts client p what xs q → Walks client versions p what xs q
    away q xs (Rests x y) = quiet q xs tt tt (inr y)
    away q xs (Passes n wanted is b free made calls items) = quiet q xs (λ is. is, tt) (tt, tt) (inl calls)
    away q xs (AtOnce n wanted x refuses b calls items) = quiet q xs (λ is. is, tt) (tt, tt) (inl calls)
    away q xs (GoesOn call fact stay drains st) = absurd (let clash : None ≡ Some call = sym none ∙ fact in cc)
    away q xs (Begins {s = s} n wanted going is b free made stay drains st) = absurd (serves_not s is)
    away q xs (Loses name over free) = quiet q xs (answers_none me (open_in p) (answer.Lost name)) (answers_calm me (open_in p) (answer.Lost name)) (inr over)
    away q xs (Falls n wanted flight falls s b crash f) = absurd (off s)
    away q xs (Stops n wanted o b crash f) = quiet q xs (cut_none client (open_in p) n) (cut_calm client (open_in p) n) (inr (fallen_none q f))
    away q xs (Returns chain o s over free) = quiet q xs (λ is. is, answers_none me (open_in p) answer.Done) (tt, answers_calm me (open_in p) answer.Done) (inr over)

  pub turned : (c : Client) (what : Do) → (lasting_of c.phase).number ≡ client → CallHasItem c.phase
      → ((s : Serving) → Serves s ≡ c.phase → client_has_room c ≡ true → Freshes versions s what)
      → Acts client c.phase what (its_acts me (takes c what).outs) (takes c what).state → Turned c.phase what (takes c what)
  turned c what its sound fresh so = by c.phase refl
    where
      -- what an event makes of it
      Does : Phase → Type 0
      Does p = Turned p what (on_event c.peers c.cache p what)

      by : (p : Phase) → p ≡ c.phase → Turned c.phase what (takes c what)
      by (Down l) is = away c.phase what (sym (ap call_in is)) (subst (λ (p : Phase). DoesServe p → ⊥) is (λ no. no)) (takes c what).state (its_acts me (takes c what).outs) so
      by (Opening l o) is =
          away c.phase what (sym (ap call_in is)) (subst (λ (p : Phase). DoesServe p → ⊥) is (λ no. no)) (takes c what).state (its_acts me (takes c what).outs) so
      by (Serves s) is =
          by_test (Turned c.phase what) (client_has_room c) (happens c what) (still c.phase)
          (λ room. subst Does is
          (serving_goes c s what (ap (λ (p : Phase). (lasting_of p).number) is ∙ its) (subst CallHasItem (sym is) sound) (fresh s is room)))
          (λ _. Stays tt tt tt (inl refl))
