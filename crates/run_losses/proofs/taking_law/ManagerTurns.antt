-- What each event makes of what a manager takes over, whether it serves or not.
use Rattle.std.proofs.Common.{◌≡◌, ℕ, zero, suc, ◌+◌, ◌==◌, ◌<◌, ◌≤◌, true, cond, nat_lt, List, [], ◌∷◌, Option, Some, None, refl, sym, subst, arith}
use Rattle.std.specs.List.{AllByRecursion}
use Rattle.std.proofs.lemmas.Bool.Decides.{nat_tests}
use Rattle.group_map.specs.declared.group.Group.{Group}
use Rattle.group_map.specs.Groups as groups
use Rattle.manager_map.specs.Slots.{manager_map_start, entry_at}
use Rattle.manager_node.specs.declared.manager.Manager.{Manager}
use Rattle.manager_node.specs.declared.phase.Phase.{Phase}
use Rattle.manager_node.specs.declared.phase.Phase.TheVariants.{Down, Waiting, Serving as Serves}
use Rattle.manager_node.specs.Events.{manager_start, happens, manager_deliver, on_event, on_packet, on_time, on_waiting, on_welcome, takes_welcome}
use Rattle.manager_node.specs.Phases.{Went_to, lasting_of, phase_has_room, serves, crash, restart, wish_at, down_wish, waiting_wish, serving_wish, with_begun, down_item, waiting_item, serving_item, begin_down, begin_waiting, begin_serving}
use Rattle.manager_slots.specs.declared.lasting.Lasting.{Lasting as Life}
use Rattle.manager_slots.specs.declared.slot_phase.SlotPhase.{SlotPhase}
use Rattle.manager_slots.specs.declared.slot_phase.SlotPhase.TheVariants as phase
use Rattle.manager_slots.specs.declared.slot_phase.Taking.{Taking}
use Rattle.manager_slots.specs.Lasting.{lasting_has_room}
use Rattle.manager_slots.specs.Slots.{first_active}
use Rattle.manager_slots.specs.SlotTable.{Table, first_phase, slot_table_first, slot_table_unknown}
use Rattle.manager_serving.specs.declared.serving.Serving.{Serving}
use Rattle.manager_serving.specs.Serving.{again, serving_hear, on_news, on_tick}
use Rattle.node_base.specs.Beginning.{next_item, work_at, answers_unanswered}
use Rattle.node_base.specs.declared.effects.Effect.{Effect}
use Rattle.node_base.specs.declared.effects.Effect.TheVariants.{Send, Answer as Answers, Lose, Does as Acts}
use Rattle.node_base.specs.declared.peers.Peers.{Peers}
use Rattle.node_base.specs.Maps.{forgotten}
use Rattle.node_base.specs.Room.{has_room}
use Rattle.node_base.specs.Shape.{is_well_formed}
use Rattle.headline.specs.Managers.{phase_at, slot_in}
use Rattle.stripe_code.specs.declared.round.Told.{Told}
use Rattle.version_model.specs.declared.answer.Answer.TheVariants as answer
use Rattle.version_model.specs.declared.work.Work.{Work}
use Rattle.version_model.specs.declared.work.Work.TheVariants as work
use Rattle.wire_msg.specs.declared.body.Body.{Body}
use Rattle.wire_msg.specs.declared.body.Body.TheVariants as body
use Rattle.wire_msg.specs.declared.packet.Do.{Do}
use Rattle.wire_msg.specs.declared.packet.Do.TheVariants.{Begin, Deliver, Tick}
use Rattle.wire_msg.specs.declared.registry.Welcome.{Welcome}
use Rattle.wire_msg.specs.declared.storage.Fetch.{Fetch}
use Rattle.xfs_base.proofs.Booleans.{and_first, and_second, by_test}
use Rattle.xfs_base.specs.Blocks.{slot_of}
use Rattle.xfs_base.specs.declared.node.NodeId.{NodeId}
use Rattle.xfs_base.specs.declared.segment.SegName.{SegName}
use Rattle.xfs_base.specs.declared.setup.Setup.{Setup}
use Rattle.xfs_base.specs.Limits.{u32_end}
use Rattle.xfs_base.specs.Steps.{still}
use Rattle.xfs_base.proofs.Alls.{all_append, all_weaker}
use Rattle.run_losses.proofs.taking_law.Quiet.{AllQuiet, IsQuiet, NotLost, NoFetch, answers_quiet}
use Rattle.run_losses.proofs.taking_law.ServingTurns.{BodyBrought, Fine, ServesSo, begins, checkpoint_goes, from_start, news_go, packet_goes, quiet_goes, tick_goes}
use Rattle.run_losses.proofs.taking_law.SlotReads.{LostFrom, PresentFrom, TakingFrom}
use Rattle.run_losses.proofs.taking_law.SlotTurns.{FetchFor, TakingFine}
use Rattle.run_losses.proofs.taking_law.TableTurns.{DoneSo}
use Rattle.run_losses.proofs.taking_law.TakeTurns.{MapNamed}

-- ---- tables without takeovers

abbrev NotTaking : SlotPhase → Type 0
NotTaking (phase.Taking t) = ⊥
NotTaking (phase.Away epoch) = Unit {0}
NotTaking (phase.Active a) = Unit {0}
NotTaking (phase.Broken epoch seg) = Unit {0}

none_taken : (t : Table) → AllByRecursion NotTaking t → (k : ℕ) (x : Taking) → phase_at t k ≡ phase.Taking x → ⊥
none_taken [] all k x fact = absurd (never x fact)
  where
    never : (x : Taking) → phase.Away 0 ≡ phase.Taking x → ⊥
    never x e = cc
none_taken (p ∷ t) all zero x fact = subst NotTaking fact all.0
none_taken (p ∷ t) all (suc k) x fact = none_taken t all.1 k x fact

enough_room : (k : ℕ) → has_room k ≡ true → k + 24 < u32_end
enough_room k room = grind (arith, nat_tests)

last_up : (k : ℕ) → k ≤ cond (nat_lt k u32_end) (k + 1) k
last_up k = grind (arith, nat_tests)

-- what a manager has of its slots; one that doesn't serve has none
abbrev pub table_of : Phase → Table
table_of (Serves s) = s.slots
table_of (Down life) = []
table_of (Waiting life hello) = []

pub slot_is : (k : ℕ) (p : Phase) → slot_in k p ≡ phase_at (table_of p) k
slot_is k (Serves s) = refl
slot_is k (Down life) = refl
slot_is k (Waiting life hello) = refl

-- at the start of a run it takes nothing over
first_phase-free : (number managers slot : ℕ) → NotTaking (first_phase number (manager_map_start managers) slot)
first_phase-free number managers slot =
    by_test NotTaking ((entry_at (manager_map_start managers) (slot_of slot)).manager == number) first_active (phase.Away 1) (λ _. tt) (λ _. tt)

pub none_at_first : (number : ℕ) (setup : Setup) (works : List Work) (k : ℕ) (x : Taking)
    → slot_in k (manager_start number setup works).phase ≡ phase.Taking x → ⊥
none_at_first number setup works k x fact =
    none_taken (slot_table_first number setup.managers) (one 0, (one 1, (one 2, (one 3, (one 4, (one 5, (one 6, (one 7, tt)))))))) k x fact
  where
    one : (slot : ℕ) → NotTaking (first_phase number (manager_map_start setup.managers) slot)
    one slot = first_phase-free number setup.managers slot

module _ (Named : ℕ → Group → Type 0) where
  abbrev pub PhaseFine : Phase → Type 0
  PhaseFine (Down life) = Unit {0}
  PhaseFine (Waiting life hello) = Unit {0}
  PhaseFine (Serves s) = Fine Named s

  -- ---- the start

  pub manager_begins : (number : ℕ) (setup : Setup) (works : List Work) → MapNamed Named (groups.group_map_start setup.servers setup.groups)
      → PhaseFine (manager_start number setup works).phase
  manager_begins number setup works named = record { slots = record { fine = fine_at; apart = apart_at }; maps = named }
    where
      none : (k : ℕ) (x : Taking) → slot_in k (manager_start number setup works).phase ≡ phase.Taking x → ⊥
      none k x fact = none_at_first number setup works k x fact

      fine_at : (k : ℕ) (x : Taking) → slot_in k (manager_start number setup works).phase ≡ phase.Taking x → TakingFine Named 0 x
      fine_at k x fact = absurd (none k x fact)

      apart_at : (k m : ℕ) (x w : Taking) → slot_in k (manager_start number setup works).phase ≡ phase.Taking x
          → slot_in m (manager_start number setup works).phase ≡ phase.Taking w → (k ≡ m → ⊥) → x.fetches.ask ≡ w.fetches.ask → x.fetches.ask ≡ 0
      apart_at k m x w at to other same = absurd (none k x at)

module _ (Named : ℕ → Group → Type 0) (Came : ℕ → ℕ → Told → Type 0) where
  abbrev pub DoBrought : Do → Type 0
  DoBrought Begin = Unit {0}
  DoBrought (Deliver packet) = BodyBrought Named Came packet.from packet.body
  DoBrought Tick = Unit {0}

  -- ---- an event

  module _ (start : ℕ) (first : Table) where
    -- what became of it: of one that doesn't serve then nothing is left to be read
    abbrev PhaseSo : Phase → List Effect → Type 0
    PhaseSo (Down life) outs = (start ≤ life.questions.last) × AllQuiet outs
    PhaseSo (Waiting life hello) outs = (start ≤ life.questions.last) × AllQuiet outs
    PhaseSo (Serves s) outs = ServesSo Named Came start first s outs

    abbrev Goes : Went_to → Type 0
    Goes w = PhaseSo w.state w.outs

    crashes_go : (life : Life) (number : ℕ) → start ≤ life.questions.last → Goes (crash life number)
    unfolding crash
    crashes_go life number up = (
      up,
      all_append IsQuiet (answers_unanswered life.items.unanswered answer.Cut) (Answers number answer.Done ∷ [])
          (answers_quiet life.items.unanswered answer.Cut) (tt, tt),
    )

    restarts_go : (life : Life) (number : ℕ) → start ≤ life.questions.last → Goes (restart life number)
    unfolding restart
    restarts_go life number up = (let a = last_up life.questions.last in omega arith, (tt, (tt, tt)))

    down_goes : (life : Life) → start ≤ life.questions.last → Goes (begin_down life)
    unfolding begin_down
    down_goes life up = by (next_item life.items)
      where
        by_wish : (number : ℕ) (asked : Option Work) → Goes (down_wish (with_begun life) number (wish_at asked))
        by_wish number None = (up, (tt, tt))
        by_wish number (Some (work.Restart node)) = restarts_go (with_begun life) number up
        by_wish number (Some _) = (up, (tt, tt))

        by : (item : Option ℕ) → Goes (down_item (with_begun life) item)
        by None = (up, tt)
        by (Some number) = by_wish number (work_at (with_begun life).items number)

    waiting_goes : (life : Life) (hello : ℕ) → start ≤ life.questions.last → Goes (begin_waiting life hello)
    unfolding begin_waiting
    waiting_goes life hello up = by (next_item life.items)
      where
        by_wish : (number : ℕ) (asked : Option Work) → Goes (waiting_wish (with_begun life) hello number (wish_at asked))
        by_wish number None = (up, (tt, tt))
        by_wish number (Some (work.Crash node)) = crashes_go (with_begun life) number up
        by_wish number (Some _) = (up, (tt, tt))

        by : (item : Option ℕ) → Goes (waiting_item (with_begun life) hello item)
        by None = (up, tt)
        by (Some number) = by_wish number (work_at (with_begun life).items number)

    -- after a restart it knows of no slot, and of no groups
    welcome_goes : (peers : Peers) (life : Life) (hello : ℕ) (welcome : Welcome) → first ≡ slot_table_unknown → start ≡ life.questions.last
        → start + 24 < u32_end → MapNamed Named welcome.news.groups → Goes (on_welcome peers life hello welcome)
    unfolding on_welcome
    welcome_goes peers life hello welcome fact same room named =
        let s : Serving = again life (forgotten peers.servers) welcome.news.groups in
        by_test Goes (takes_welcome peers life hello welcome) (serves (on_news s peers.clients welcome.news)) (still (Waiting life hello))
        (λ _. news_go Named Came start first s peers.clients welcome.news [] named (fresh s fact) (omega arith))
        (λ _. (omega arith, tt))
      where
        never : (k : ℕ) (x : Taking) → phase_at slot_table_unknown k ≡ phase.Taking x → ⊥
        never k x = none_taken slot_table_unknown (tt, (tt, (tt, (tt, (tt, (tt, (tt, (tt, tt)))))))) k x

        fresh : (s : Serving) → first ≡ slot_table_unknown → ServesSo Named Came start first (again life (forgotten peers.servers) welcome.news.groups) []
        fresh s fact = record {
          slots = record {
            up = omega arith;
            fine = λ k x at. absurd (never k x at);
            apart = λ k m x w at to other e. absurd (never k x at);
            from = λ k x at. absurd (never k x at);
            does = tt;
          };
          maps = tt;
        }

    awaited_goes : (peers : Peers) (life : Life) (hello : ℕ) (from : NodeId) (said : Body) → first ≡ slot_table_unknown → start ≡ life.questions.last
        → start + 24 < u32_end → BodyBrought Named Came from said → Goes (on_waiting peers life hello said)
    awaited_goes peers life hello from (body.Welcome welcome) fact same room named = welcome_goes peers life hello welcome fact same room named
    awaited_goes peers life hello from _ fact same room named = (omega arith, tt)

  -- ---- what is known after it

  pub record FetchDone (last : ℕ) (p : Phase) (m : Fetch) : Type 0 where
    pub upto : m.ask ≤ last
    pub each : (k : ℕ) (x : Taking) → slot_in k p ≡ phase.Taking x → FetchFor x m

  abbrev pub SaidSo : ℕ → Phase → Body → Type 0
  SaidSo last p (body.Fetch m) = FetchDone last p m
  SaidSo last p _ = Unit {0}

  -- what an event does, which leads from one phase to another
  abbrev pub EffectDone : Phase → ℕ → Phase → Effect → Type 0
  EffectDone before last p (Send to said) = SaidSo last p said
  EffectDone before last p (Answers item a) = Unit {0}
  EffectDone before last p (Lose name) = (k : ℕ) × LostFrom Named Came (slot_in k before) name
  EffectDone before last p (Acts a) = NotLost a

  pub record NodeTurn (p : Phase) (w : Went_to) : Type 0 where
    pub up : (lasting_of p).questions.last ≤ (lasting_of w.state).questions.last
    pub fine : PhaseFine Named w.state
    pub from : (k : ℕ) (y : Taking) → slot_in k w.state ≡ phase.Taking y
        → TakingFrom Named Came (lasting_of p).questions.last (slot_in k p) y
    pub does : AllByRecursion (EffectDone p (lasting_of w.state).questions.last w.state) w.outs

  module _ (p : Phase) (first : Table) (same : (k : ℕ) (x : Taking) → phase_at first k ≡ phase.Taking x → slot_in k p ≡ phase.Taking x) where
    abbrev start : ℕ
    start = (lasting_of p).questions.last

    from_on : (k : ℕ) (y : Taking) (o : _) → PresentFrom Named Came start (phase_at first k) y o → PresentFrom Named Came start (slot_in k p) y o
    from_on k y None h = tt
    from_on k y (Some q) h = (h.0, same k h.0 h.1, h.2)

    lost_on : (k : ℕ) (name : SegName) → LostFrom Named Came (phase_at first k) name → LostFrom Named Came (slot_in k p) name
    lost_on k name l = record {
      taking = l.taking;
      takes = same k l.taking l.takes;
      source = l.source;
      named = l.named;
      took = l.took;
      lost = l.lost;
    }

    quiet_done : (last : ℕ) (q : Phase) (e : Effect) → IsQuiet e → EffectDone p last q e
    quiet_done last q (Send to said) h = by said h
      where
        by : (b : Body) → NoFetch b → SaidSo last q b
        by (body.Fetch m) h = absurd h
        by _ h = tt
    quiet_done last q (Answers item a) h = tt
    quiet_done last q (Lose name) h = absurd h
    quiet_done last q (Acts a) h = h

    served_done : (s : Serving) (e : Effect) → DoneSo Named Came start first s.slots s.lasting.questions.last e
        → EffectDone p s.lasting.questions.last (Serves s) e
    served_done s (Send to said) h = by said h
      where
        by : (b : Body) → DoneSo Named Came start first s.slots s.lasting.questions.last (Send to b) → SaidSo s.lasting.questions.last (Serves s) b
        by (body.Fetch m) h = record { upto = h.upto; each = h.each }
        by _ h = tt
    served_done s (Answers item a) h = tt
    served_done s (Lose name) h = (h.0, lost_on h.0 name h.1)
    served_done s (Acts a) h = h

    away : (y : Taking) → phase.Away 0 ≡ phase.Taking y → ⊥
    away y e = cc

    pub node_turn : (w : Went_to) → PhaseSo start first w.state w.outs → NodeTurn p w
    node_turn w h = by w.state h
      where
        by : (q : Phase) → PhaseSo start first q w.outs → NodeTurn p (record { state = q; outs = w.outs })
        by (Down life) h = record {
          up = h.0;
          fine = tt;
          from = λ k y fact. absurd (away y fact);
          does = all_weaker IsQuiet (EffectDone p life.questions.last (Down life)) (quiet_done life.questions.last (Down life)) w.outs h.1;
        }
        by (Waiting life hello) h = record {
          up = h.0;
          fine = tt;
          from = λ k y fact. absurd (away y fact);
          does = all_weaker IsQuiet (EffectDone p life.questions.last (Waiting life hello)) (quiet_done life.questions.last (Waiting life hello)) w.outs h.1;
        }
        by (Serves s) h = record {
          up = h.slots.up;
          fine = record { slots = record { fine = h.slots.fine; apart = h.slots.apart }; maps = h.maps };
          from = λ k y fact. from_on k y y.take.present (h.slots.from k y fact);
          does = all_weaker (DoneSo Named Came start first s.slots s.lasting.questions.last) (EffectDone p s.lasting.questions.last (Serves s))
              (served_done s) w.outs h.slots.does;
        }

  -- ---- of one that serves

  module _ (s : Serving) (fine : Fine Named s) (room : s.lasting.questions.last + 24 < u32_end) where
    abbrev Ends : Went_to → Type 0
    Ends w = PhaseSo s.lasting.questions.last s.slots w.state w.outs

    begin_goes : Ends (begin_serving s)
    unfolding begin_serving
    begin_goes = by (next_item s.lasting.items)
      where
        kept_fine : Fine Named (record s { lasting = with_begun s.lasting })
        kept_fine = record { slots = fine.slots; maps = fine.maps }

        checkpoint : (number : ℕ) → Ends (serving_wish (record s { lasting = with_begun s.lasting }) number (wish_at None))
        checkpoint number = checkpoint_goes Named Came (record s { lasting = with_begun s.lasting }) kept_fine room number

        stays : (outs : List Effect) → AllQuiet outs → ServesSo Named Came s.lasting.questions.last s.slots (record s { lasting = with_begun s.lasting }) outs
        stays outs quiet =
            quiet_goes Named Came s.lasting.questions.last s.slots (record s { lasting = with_begun s.lasting }) []
            (record { state = record s { lasting = with_begun s.lasting }; outs = outs })
            (record { alike = λ k x fact. fact; up = omega arith; maps = refl; number = refl; does = quiet })
            (begins Named Came (record s { lasting = with_begun s.lasting }) kept_fine room)

        by_wish : (number : ℕ) (asked : Option Work) → Ends (serving_wish (record s { lasting = with_begun s.lasting }) number (wish_at asked))
        by_wish number None = checkpoint number
        by_wish number (Some (work.Crash node)) = crashes_go s.lasting.questions.last s.slots (with_begun s.lasting) number (omega arith)
        by_wish number (Some (work.Restart node)) = stays _ (tt, tt)
        by_wish number (Some _) = checkpoint number

        by : (item : Option ℕ) → Ends (serving_item (record s { lasting = with_begun s.lasting }) item)
        by None = stays [] tt
        by (Some number) = by_wish number (work_at (with_begun s.lasting).items number)

  -- ---- whatever happens

  absent : (k : ℕ) (x : Taking) → phase_at [] k ≡ phase.Taking x → phase.Away 0 ≡ phase.Taking x
  absent k x fact = fact

  unknown : (k : ℕ) (x : Taking) → phase_at slot_table_unknown k ≡ phase.Taking x → phase.Away 0 ≡ phase.Taking x
  unknown k x fact = absurd (none_taken slot_table_unknown (tt, (tt, (tt, (tt, (tt, (tt, (tt, (tt, tt)))))))) k x fact)

  unmoved : (p : Phase) → PhaseFine Named p → (lasting_of p).questions.last + 24 < u32_end → NodeTurn p (still p)
  unmoved (Down life) fine room = node_turn (Down life) [] absent (still (Down life)) (omega arith, tt)
  unmoved (Waiting life hello) fine room = node_turn (Waiting life hello) [] absent (still (Waiting life hello)) (omega arith, tt)
  unmoved (Serves s) fine room = node_turn (Serves s) s.slots (λ k x fact. fact) (still (Serves s)) (begins Named Came s fine room)

  event_turn : (peers : Peers) (p : Phase) (what : Do) → PhaseFine Named p → (lasting_of p).questions.last + 24 < u32_end → DoBrought what
      → NodeTurn p (on_event peers p what)
  unfolding manager_deliver on_time
  event_turn peers (Down life) Begin fine room fact = node_turn (Down life) [] absent _ (down_goes life.questions.last [] life (omega arith))
  event_turn peers (Waiting life hello) Begin fine room fact =
      node_turn (Waiting life hello) [] absent _ (waiting_goes life.questions.last [] life hello (omega arith))
  event_turn peers (Serves s) Begin fine room fact = node_turn (Serves s) s.slots (λ k x at. at) _ (begin_goes s fine room)
  event_turn peers p (Deliver packet) fine room fact = delivered
    where
      gets : (q : Phase) → PhaseFine Named q → (lasting_of q).questions.last + 24 < u32_end → NodeTurn q (on_packet peers q packet)
      gets (Down life) fine room = unmoved (Down life) fine room
      gets (Waiting life hello) fine room =
          node_turn (Waiting life hello) slot_table_unknown unknown _
          (awaited_goes life.questions.last slot_table_unknown peers life hello packet.from packet.body refl refl room fact)
      gets (Serves s) fine room =
          node_turn (Serves s) s.slots (λ k x at. at) (serves (serving_hear s peers.clients packet)) (packet_goes Named Came s fine room peers.clients packet fact)

      delivered : NodeTurn p (manager_deliver peers p packet)
      delivered =
          by_test (NodeTurn p) (is_well_formed peers packet) (on_packet peers p packet) (still p) (λ _. gets p fine room) (λ _. unmoved p fine room)
  event_turn peers p Tick fine room fact = passes p fine room
    where
      passes : (q : Phase) → PhaseFine Named q → (lasting_of q).questions.last + 24 < u32_end → NodeTurn q (on_time q)
      passes (Down life) fine room = unmoved (Down life) fine room
      passes (Waiting life hello) fine room = node_turn (Waiting life hello) [] absent _ (omega arith, (tt, tt))
      passes (Serves s) fine room = node_turn (Serves s) s.slots (λ k x at. at) (serves (on_tick s)) (tick_goes Named Came s fine room)

  -- where a counter is near its end, nothing changes
  rests_turn : (p : Phase) → PhaseFine Named p → NodeTurn p (still p)
  rests_turn p fine = record {
    up = omega arith;
    fine = fine;
    from = λ k y fact. subst (λ (b : SlotPhase). TakingFrom Named Came (lasting_of p).questions.last b y) (sym fact) (from_start Named Came _ y);
    does = tt;
  }

  life_room : (p : Phase) → phase_has_room p ≡ true → has_room (lasting_of p).questions.last ≡ true
  life_room (Down life) fact = and_second (has_room life.inc) (has_room life.questions.last) fact
  life_room (Waiting life hello) fact = and_second (has_room life.inc) (has_room life.questions.last) fact
  life_room (Serves s) fact =
      and_second (has_room s.lasting.inc) (has_room s.lasting.questions.last) (and_first (lasting_has_room s.lasting) _ fact)

  pub manager_turns : (m : Manager) (what : Do) → PhaseFine Named m.phase → DoBrought what → NodeTurn m.phase (happens m what)
  unfolding happens
  manager_turns m what fine fact =
      by_test (NodeTurn m.phase) (phase_has_room m.phase) (on_event m.peers m.phase what) (still m.phase)
      (λ room. event_turn m.peers m.phase what fine (enough_room (lasting_of m.phase).questions.last (life_room m.phase room)) fact)
      (λ _. rests_turn m.phase fine)
