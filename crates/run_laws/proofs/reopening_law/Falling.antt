-- From the crash of a client until its log is open again one fall of it waits, told with what was in flight when it served last.
use Rattle.std.proofs.Common.{◌≡◌, ℕ, Bool, List, [], ◌∷◌, ◌++◌, map, Option, Some, None, refl, sym, ap, ◌∙◌}
use Rattle.std.specs.List.{AllByRecursion}
use Rattle.std.specs.Prelude.{if◌then◌else◌}
use Rattle.std.proofs.lemmas.Bool.{ne_eqb}
use Rattle.act_tie.proofs.Falling.{settled_told}
use Rattle.client_node.specs.declared.client.Client.{Client as AClient}
use Rattle.client_node.specs.declared.phase.Phase.TheVariants.{Down, Opening, Serving as Serves}
use Rattle.client_node.specs.declared.phase.Phase.{Phase}
use Rattle.client_node.specs.Phases.{Went_to, phase_after, begins_item, client_has_room, cut, down_begins, happens, lasting_of, on_begin, on_deliver, client_tick, opening_begins, owner_of, restart, serving_begins, wish_of}
use Rattle.client_node.specs.Crash.{falls, fall_of, flight_of}
use Rattle.client_serving.specs.declared.lasting.Lasting.{Lasting}
use Rattle.client_serving.specs.declared.serving.Serving.{Serving}
use Rattle.client_serving.specs.Lasting.{live_on}
use Rattle.log_flight.specs.Flights.{FlightState}
use Rattle.log_owner.proofs.Behaving as behaving
use Rattle.log_owner.specs.Behaves.{MayAct, MayDo}
use Rattle.log_owner.specs.declared.ended.Owner.{Owner}
use Rattle.log_owner.specs.declared.opened.Progress.{Progress}
use Rattle.log_owner.specs.declared.opened.Progress.TheVariants as progress
use Rattle.log_owner.specs.declared.opening.Opening as openings
use Rattle.log_owner.specs.Opening as opening
use Rattle.log_owner.specs.Opening.{Went}
use Rattle.node_base.specs.Beginning.{items_answer, answers_unanswered, items_begin, next_item, work_at}
use Rattle.node_base.specs.declared.effects.Effect.{Effect}
use Rattle.node_base.specs.declared.effects.Effect.TheVariants.{Send, Answer as Answers, Lose, Does}
use Rattle.node_base.specs.Effects.{acts_of}
use Rattle.node_base.specs.Shape.{is_well_formed}
use Rattle.token_client.specs.State.{dirty_in}
use Rattle.version_model.specs.declared.act.Act.{Act}
use Rattle.version_model.specs.declared.act.Act.TheVariants as act
use Rattle.version_model.specs.declared.answer.Answer.{Answer}
use Rattle.version_model.specs.declared.answer.Answer.TheVariants as answer
use Rattle.version_model.specs.declared.history.FallTold.{FallTold}
use Rattle.version_model.specs.declared.work.Work.{Work}
use Rattle.version_model.specs.declared.work.Work.TheVariants as work
use Rattle.version_model.specs.Effects.{after_act, change, holds_flight, history_after, pin, settle}
use Rattle.version_model.specs.History.{History, is_by_other, nothing_yet}
use Rattle.version_model.proofs.Onward.{history_through}
use Rattle.wire_msg.specs.declared.packet.Do.{Do}
use Rattle.wire_msg.specs.declared.packet.Do.TheVariants.{Begin, Deliver, Tick}
use Rattle.wire_msg.specs.declared.packet.Packet as wire
use Rattle.xfs_base.proofs.Booleans.{by_test, equal_itself}
use Rattle.xfs_base.specs.declared.node.NodeId.TheVariants.{Client}
use Rattle.xfs_base.specs.declared.segment.SegName.{SegName}
use Rattle.xfs_base.specs.Steps.{saying, still}
use Rattle.run_laws.specs.reopening_law.Falls.{FallKnown, FallTells, FallsGoOn, FallsStay, FellWith, IsAside}

-- ---- acts

settle_told : (chain : List SegName) (ts : List FallTold) (h : History) → (settle chain ts h).told ≡ h.told
settle_told chain [] h = refl
settle_told chain (t ∷ ts) h = settle_told chain ts _ ∙ settled_told (holds_flight chain t.flight) t.falls h

flip : (c d : ℕ) → (d ≡ c → ⊥) → c ≡ d → ⊥
flip c d other e = other (sym e)

-- an act that is aside leaves what waits of the client
aside_told : (c : ℕ) (a : Act) (h : History) → IsAside c a → (after_act a h).told c ≡ h.told c
aside_told c (act.Wrote client block value) h aside = refl
aside_told c (act.Read client block ver value) h aside =
    by_test (λ (x : History). x.told c ≡ h.told c) (is_by_other client ver (h.of_block block).versions) (change block (pin ver) h) h (λ t. refl) (λ t. refl)
aside_told c (act.Synced client) h aside = refl
aside_told c (act.Fell client flight fs) h aside =
    ap (λ (y : Bool). if y then h.told c ++ record { flight = flight; falls = fs } ∷ [] else h.told c) (ne_eqb c client (flip c client aside))
aside_told c (act.Back client chain) h aside =
    ap (λ (y : Bool). if y then [] else (settle chain (h.told client) h).told c) (ne_eqb c client (flip c client aside))
    ∙ ap (λ (f : ℕ → List FallTold). f c) (settle_told chain (h.told client) h)
aside_told c (act.Lost node seg) h aside = refl
aside_told c (act.Filed seg) h aside = refl
aside_told c (act.Dropped seg) h aside = refl
aside_told c (act.Answered node item answer) h aside = refl

all_told : (c : ℕ) (more : List Act) (h : History) → AllByRecursion (IsAside c) more → (history_after more h).told c ≡ h.told c
all_told c [] h aside = refl
all_told c (a ∷ more) h aside = all_told c more (after_act a h) aside.1 ∙ aside_told c a h aside.0

pub falls_stay : FallsStay
falls_stay acts more c flight aside fell = record {
  fall = fell.fall;
  waits = ap (λ (h : History). h.told c) (history_through acts more nothing_yet)
      ∙ (all_told c more (history_after acts nothing_yet) aside ∙ fell.waits);
  with_flight = fell.with_flight;
}

-- ---- effects

-- what an effect acts is aside
abbrev IsQuiet : ℕ → Effect → Type 0
IsQuiet c (Send to said) = Unit {0}
IsQuiet c (Answers item a) = Unit {0}
IsQuiet c (Lose seg) = Unit {0}
IsQuiet c (Does a) = IsAside c a

module _ (c : ℕ) where
  quiet_acts : (outs : List Effect) → AllByRecursion (IsQuiet c) outs → AllByRecursion (IsAside c) (acts_of (Client c) outs)
  quiet_acts [] quiet = tt
  quiet_acts (Send to said ∷ outs) quiet = quiet_acts outs quiet.1
  quiet_acts (Answers item a ∷ outs) quiet = (tt, quiet_acts outs quiet.1)
  quiet_acts (Lose seg ∷ outs) quiet = (tt, quiet_acts outs quiet.1)
  quiet_acts (Does a ∷ outs) quiet = (quiet.0, quiet_acts outs quiet.1)

  quiet_both : (xs ys : List Effect) → AllByRecursion (IsQuiet c) xs → AllByRecursion (IsQuiet c) ys → AllByRecursion (IsQuiet c) (xs ++ ys)
  quiet_both [] ys a b = b
  quiet_both (x ∷ xs) ys a b = (a.0, quiet_both xs ys a.1 b)

  act_quiet : (a : Act) → MayAct a → IsAside c a
  act_quiet (act.Wrote client block value) may = tt
  act_quiet (act.Read client block ver value) may = tt
  act_quiet (act.Synced client) may = tt
  act_quiet (act.Fell client flight fs) may = absurd may
  act_quiet (act.Back client chain) may = absurd may
  act_quiet (act.Lost node seg) may = tt
  act_quiet (act.Filed seg) may = tt
  act_quiet (act.Dropped seg) may = tt
  act_quiet (act.Answered node item a) may = tt

  opening_quiet : (owner : Owner) (outs : List Effect) → AllByRecursion (MayDo owner) outs → AllByRecursion (IsQuiet c) outs
  opening_quiet owner [] may = tt
  opening_quiet owner (Send to said ∷ outs) may = (tt, opening_quiet owner outs may.1)
  opening_quiet owner (Answers item a ∷ outs) may = (tt, opening_quiet owner outs may.1)
  opening_quiet owner (Lose seg ∷ outs) may = (tt, opening_quiet owner outs may.1)
  opening_quiet owner (Does a ∷ outs) may = (act_quiet a may.0, opening_quiet owner outs may.1)

  answers_quiet : (item : Option ℕ) (a : Answer) → AllByRecursion (IsQuiet c) (answers_unanswered item a)
  answers_quiet None a = tt
  answers_quiet (Some number) a = (tt, tt)

-- ---- events

module _ (acts : List Act) (c : ℕ) (flight : Option FlightState) where
  -- it goes on
  abbrev Tells : Went_to → Type 0
  Tells x = FallTells (acts ++ acts_of (Client c) x.outs) c flight x.state

  away_tells : (p : Phase) (outs : List Effect) → FellWith acts c flight → AllByRecursion (IsQuiet c) outs
      → FallTells (acts ++ acts_of (Client c) outs) c flight p
  away_tells (Down l) outs fell quiet = falls_stay acts (acts_of (Client c) outs) c flight (quiet_acts c outs quiet) fell
  away_tells (Opening l o) outs fell quiet = falls_stay acts (acts_of (Client c) outs) c flight (quiet_acts c outs quiet) fell
  away_tells (Serves s) outs fell quiet = tt

  -- nothing is acted
  still_tells : (p : Phase) → FallKnown acts c flight p → Tells (still p)
  still_tells (Down l) known = away_tells (Down l) [] known tt
  still_tells (Opening l o) known = away_tells (Opening l o) [] known tt
  still_tells (Serves s) known = tt

  crash_quiet : (l : Lasting) (number : ℕ) → AllByRecursion (IsQuiet c) (cut l number).outs
  crash_quiet l number =
      quiet_both c (answers_unanswered l.items.unanswered answer.Cut) (Answers number answer.Done ∷ []) (answers_quiet c l.items.unanswered answer.Cut) (tt, tt)

  -- ---- one that is away

  progress_tells : (l : Lasting) (capacity : ℕ) (p : Progress) (effects : List Effect) → AllByRecursion (IsQuiet c) effects → FellWith acts c flight
      → Tells (saying effects (phase_after l capacity p))
  progress_tells l capacity (progress.Opening o) effects quiet fell = away_tells (Opening l o) (effects ++ []) fell (quiet_both c effects [] quiet tt)
  progress_tells l capacity (progress.Opened r) effects quiet fell = tt
  progress_tells l capacity (progress.Lost seg) effects quiet fell =
      away_tells (Down (record l { items = items_answer l.items })) (effects ++ answers_unanswered l.items.unanswered (answer.Lost seg)) fell
      (quiet_both c effects (answers_unanswered l.items.unanswered (answer.Lost seg)) quiet (answers_quiet c l.items.unanswered (answer.Lost seg)))

  down_tells : (servers number : ℕ) (l : Lasting) (wanted : Option Work) → FellWith acts c flight → Tells (down_begins servers l number (wish_of wanted))
  down_tells servers number l (Some (work.Restart node)) fell =
      let next : Lasting = live_on l number in
      away_tells (restart servers next).state (restart servers next).outs fell
      (opening_quiet c (owner_of next) (restart servers next).outs (behaving.begin_so (owner_of next) servers next.questions).does)
  down_tells servers number l (Some _) fell = away_tells (Down l) (Answers number answer.Down ∷ []) fell (tt, tt)
  down_tells servers number l None fell = away_tells (Down l) (Answers number answer.Down ∷ []) fell (tt, tt)

  opening_tells : (l : Lasting) (o : openings.Opening) (number : ℕ) (wanted : Option Work) → FellWith acts c flight
      → Tells (opening_begins l o number (wish_of wanted))
  opening_tells l o number (Some (work.Crash node)) fell = away_tells (cut l number).state (cut l number).outs fell (crash_quiet l number)
  opening_tells l o number (Some (work.Restart node)) fell = away_tells (Opening l o) (Answers number answer.Up ∷ []) fell (tt, tt)
  opening_tells l o number (Some _) fell = away_tells (Opening l o) (Answers number answer.Down ∷ []) fell (tt, tt)
  opening_tells l o number None fell = away_tells (Opening l o) (Answers number answer.Down ∷ []) fell (tt, tt)

  -- ---- one that serves

  -- it falls
  crash_tells : (s : Serving) (number : ℕ) → s.lasting.number ≡ c → FallKnown acts c flight (Serves s)
      → Tells (saying (falls s ∷ []) (cut s.lasting number))
  crash_tells s number its known = record {
    fall = told;
    waits = ap (λ (h : History). h.told c) (history_through acts (acts_of (Client c) (falls s ∷ (cut s.lasting number).outs)) nothing_yet)
        ∙ (all_told c (acts_of (Client c) (cut s.lasting number).outs) (after_act its_act (history_after acts nothing_yet))
        (quiet_acts c (cut s.lasting number).outs (crash_quiet s.lasting number))
        ∙ (ap (λ (d : ℕ). (after_act (act.Fell d told.flight told.falls) (history_after acts nothing_yet)).told c) its
        ∙ (ap (λ (y : Bool). if y then (history_after acts nothing_yet).told c ++ told ∷ [] else (history_after acts nothing_yet).told c) (equal_itself c)
        ∙ ap (λ (ts : List FallTold). ts ++ told ∷ []) known.0)));
    with_flight = ap flight_of (sym known.1);
  }
    where
      told : FallTold
      told = record { flight = flight_of s.log.flight; falls = map (fall_of s) (dirty_in s.tokens.blocks) }

      its_act : Act
      its_act = act.Fell s.lasting.number told.flight told.falls

  serving_tells : (s : Serving) (number : ℕ) (wanted : Option Work) → s.lasting.number ≡ c → FallKnown acts c flight (Serves s)
      → Tells (serving_begins s number (wish_of wanted))
  serving_tells s number (Some (work.Crash node)) its known = crash_tells s number its known
  serving_tells s number (Some _) its known = tt
  serving_tells s number None its known = tt

  -- ---- the events

  item_tells : (servers : ℕ) (p : Phase) (item : Option ℕ) → (lasting_of p).number ≡ c → FallKnown acts c flight p → Tells (begins_item servers p item)
  item_tells servers p None its known = still_tells p known
  item_tells servers (Down l) (Some number) its known =
      down_tells servers number (record l { items = items_begin l.items }) (work_at (items_begin l.items) number) known
  item_tells servers (Opening l o) (Some number) its known =
      opening_tells (record l { items = items_begin l.items }) o number (work_at (items_begin l.items) number) known
  item_tells servers (Serves s) (Some number) its known =
      serving_tells (record s { lasting = record s.lasting { items = items_begin s.lasting.items } }) number (work_at (items_begin s.lasting.items) number) its known

  begin_tells : (servers : ℕ) (p : Phase) → (lasting_of p).number ≡ c → FallKnown acts c flight p → Tells (on_begin servers p)
  unfolding on_begin
  begin_tells servers p its known = item_tells servers p (next_item (lasting_of p).items) its known

  deliver_tells : (capacity : ℕ) (p : Phase) (packet : wire.Packet) → FallKnown acts c flight p → Tells (on_deliver capacity p packet)
  unfolding on_deliver
  deliver_tells capacity (Down l) packet known = still_tells (Down l) known
  deliver_tells capacity (Opening l o) packet known =
      let x : Went = opening.opening_take o l.questions packet in
      progress_tells (record l { questions = x.questions }) capacity x.progress x.effects
      (opening_quiet c o.known.owner x.effects (behaving.packet_so o l.questions packet).does) known
  deliver_tells capacity (Serves s) packet known = tt

  time_tells : (capacity : ℕ) (p : Phase) → FallKnown acts c flight p → Tells (client_tick capacity p)
  unfolding client_tick
  time_tells capacity (Down l) known = still_tells (Down l) known
  time_tells capacity (Opening l o) known =
      let x : Went = opening.on_tick o l.questions in
      progress_tells (record l { questions = x.questions }) capacity x.progress x.effects
      (opening_quiet c o.known.owner x.effects (behaving.tick_so o l.questions).does) known
  time_tells capacity (Serves s) known = tt

  happens_tells : (client : AClient) (what : Do) → (lasting_of client.phase).number ≡ c → FallKnown acts c flight client.phase → Tells (happens client what)
  happens_tells client Begin its known = begin_tells client.peers.servers client.phase its known
  happens_tells client (Deliver packet) its known =
      by_test Tells (is_well_formed client.peers packet) (on_deliver client.cache client.phase packet) (still client.phase)
      (λ t. deliver_tells client.cache client.phase packet known) (λ t. still_tells client.phase known)
  happens_tells client Tick its known = time_tells client.cache client.phase known

pub falls_go_on : FallsGoOn
falls_go_on acts c flight client what its known =
    by_test (Tells acts c flight) (client_has_room client) (happens client what) (still client.phase)
    (λ t. happens_tells acts c flight client what its known) (λ t. still_tells acts c flight client.phase known)
