-- What a client acts to be filed is owed to the small world of the index: it was in flight in the small world of its log, and is news there.
use Rattle.std.proofs.Common.{◌≡◌, ◌⊎◌, ⊎_elim, ◌≤◌, ◌<◌, ◌==◌, ℕ, suc, Bool, true, false, List, [], ◌∷◌, Option, None, Some, inl, inr, refl, sym, ap, subst, ◌∙◌, arith}
use Rattle.std.specs.List.{filter_map}
use Rattle.std.specs.Prelude.{IfSome}
use Rattle.client_log.specs.LogState.{LogState}
use Rattle.node_logs.specs.client_log_tie.ClientEvents.{ServesStraight}
use Rattle.node_logs.specs.client_log_tie.Owner as client_log
use Rattle.node_logs.specs.client_log_tie.Owner.{Scene, SeesStage}
use Rattle.client_node.specs.declared.client.Client.{Client as ClientNode}
use Rattle.client_node.specs.declared.phase.Phase.TheVariants as clients
use Rattle.client_node.specs.declared.phase.Phase.{Phase}
use Rattle.client_node.specs.Phases.{takes}
use Rattle.client_serving.specs.declared.serving.Serving.{Serving as ServingClient}
use Rattle.core_world.specs.declared.any_node.AnyNode.TheVariants as any
use Rattle.run_laws.specs.index_reads.Clients.{NothingIsNewer}
use Rattle.run_laws.specs.index_reads.Ties.{Tied}
use Rattle.headline.specs.Filed.{Filed, Texts as Named}
use Rattle.index_tie.specs.Growth.{with_segment}
use Rattle.log_flight.specs.Flights.{FlightState}
use Rattle.log_law.specs.Events.{Runs}
use Rattle.log_law.specs.Held.{OwnerFlew}
use Rattle.log_law.specs.Laws.{Moment}
use Rattle.log_law.specs.Net.Owner.{Serving}
use Rattle.log_law.specs.Restarts.{IsSureRun, is_serving, last_flight}
use Rattle.log_law.specs.Tails.{TellsOnlyTheTail, then_on}
use Rattle.log_owner.specs.declared.known.Known.{Known as KnownMaps}
use Rattle.log_owner.specs.declared.opening.Stage.{Stage}
use Rattle.log_owner.specs.declared.opening.Stage.TheVariants as stage
use Rattle.log_protocol.specs.Tables.{In}
use Rattle.log_tie.specs.Setting.{Setting}
use Rattle.node_base.specs.declared.effects.Effect.{Effect}
use Rattle.node_base.specs.declared.effects.Effect.TheVariants.{Send, Answer, Lose, Does}
use Rattle.node_slots.specs.node_index_tie.Sight.{held_in}
use Rattle.node_slots.proofs.node_tie.SmallWorld.{with_promise}
use Rattle.node_slots.specs.node_tie.LogRows.{rows_told}
use Rattle.node_slots.proofs.owner_index_tie.Acting.{all_then}
use Rattle.node_slots.proofs.owner_index_tie.Growing.{head_is}
use Rattle.node_slots.specs.owner_index_tie.Acting.{IsFlight}
use Rattle.node_slots.specs.owner_index_tie.ClientEvents.{ClientAgrees, EventGets, IsNewerAtSlot}
use Rattle.node_slots.specs.owner_index_tie.Filing.{FilesOwed, after_act, after_effect, with_name}
use Rattle.segment_format.specs.declared.segment.Segment.{Segment}
use Rattle.segment_format.specs.Rows.{row_of, rows_of}
use Rattle.version_model.specs.declared.act.Act.{Act}
use Rattle.version_model.specs.declared.act.Act.TheVariants.{Filed as ActsFiled}
use Rattle.world_base.specs.declared.event.Event.{Event}
use Rattle.world_base.specs.Events.{what_of}
use Rattle.run_laws.specs.world_index.Standing as index
use Rattle.run_laws.specs.world_lines.Filing.{FlightSays}
use Rattle.run_laws.specs.world_lines.Lines.{IsLine, IsSure, SaysBlocks}
use Rattle.run_laws.specs.world_lines.Turns.{ActSo, ActsFile, AllNew, AllSo, EffectSo, NewAct, NewEffect}
use Rattle.headline.specs.Logs.Role.{OfClient}
use Rattle.run_laws.specs.world_logs.Standing.{OwnerSeen}
use Rattle.run_laws.proofs.world_reads.ClientLog as log
use Rattle.run_laws.proofs.world_reads.ClientLog.{ClientEvent}
use Rattle.run_laws.proofs.reopening_law.Flights.{served_last}
use Rattle.run_laws.proofs.world_reads.Stepping.{comes}
use Rattle.run_laws.specs.world_reads.Joint.{There, k}
use Rattle.xfs_base.proofs.Booleans.{by_test}
use Rattle.xfs_base.specs.declared.segment.SegName.{SegName}
use Rattle.xfs_base.specs.Logs.{cleaners_number}
use Rattle.run_laws.proofs.world_reads.Below.{Below}
use Rattle.run_laws.specs.world_reads.LoggedRuns.{LoggedRun}

-- ---- what is new, in what is filed on the way

module _ (nothing : NothingIsNewer) (part : ℕ) (texts : Named) (l : ℕ) (f : Filed) where
  -- a name is of what was filed, or its text says nothing, or it is the next one, and news
  abbrev pub IsKnown : SegName → Type 0
  IsKnown name = (name.seq ≤ f.head l) ⊎ ((rows_of (texts name) ≡ []) ⊎ ((name.seq ≡ suc (f.head l)) × IsNewerAtSlot part f (texts name)))

  -- what is filed on the way: as before, or some more of the log
  abbrev Past : Filed → Type 0
  Past h = (h ≡ f) ⊎ (suc (f.head l) ≤ h.head l)

  no_less : (h : Filed) → Past h → f.head l ≤ h.head l
  no_less h (inl same) = (let e = ap (λ (x : Filed). x.head l) same in omega arith)
  no_less h (inr more) = omega arith

  new_name : (h : Filed) → Past h → (name : SegName) → IsKnown name → name.seq ≡ suc (h.head l) → IsNewerAtSlot part h (texts name)
  new_name h past name (inl old) next = absurd (let a = no_less h past in omega arith)
  new_name h past name (inr (inl none)) next = nothing part h (texts name) none
  new_name h (inl same) name (inr (inr news)) next = subst (λ x. IsNewerAtSlot part x (texts name)) (sym same) news.1
  new_name h (inr more) name (inr (inr news)) next = absurd (let a = news.0 in omega arith)

  past_name : (h : Filed) → Past h → (name : SegName) → Past (with_name texts l h name)
  past_name h past name =
      by_test Past (name.seq == suc (h.head l)) (with_segment h l (texts name)) h
      (λ next. inr (let a = no_less h past in let b = head_is l h (texts name) in omega arith)) (λ _. past)

  new_act : (h : Filed) → Past h → (a : Act) → ActSo IsKnown a → NewAct (IsNewerAtSlot part) texts l h a × Past (after_act texts l h a)
  new_act h past (ActsFiled name) known = (new_name h past name known, past_name h past name)
  new_act h past _ known = (tt, past)

  new_effect : (h : Filed) → Past h → (x : Effect) → EffectSo IsKnown x → NewEffect (IsNewerAtSlot part) texts l h x × Past (after_effect texts l h x)
  new_effect h past (Send to m) known = (tt, past)
  new_effect h past (Answer item answer) known = (tt, past)
  new_effect h past (Lose seg) known = (tt, past)
  new_effect h past (Does act) known = new_act h past act known

  all_from : (h : Filed) → Past h → (outs : List Effect) → AllSo IsKnown outs → AllNew (IsNewerAtSlot part) texts l h outs
  all_from h past [] known = tt
  all_from h past (x ∷ outs) known = (let a = new_effect h past x known.0 in (a.0, all_from (after_effect texts l h x) a.1 outs known.1))

  -- so all is new, each where it is the next one
  pub all_new : (outs : List Effect) → AllSo IsKnown outs → AllNew (IsNewerAtSlot part) texts l f outs
  all_new outs known = all_from f (inl refl) outs known

-- ---- an event of a client

module _ (logged : LoggedRun) (part : ℕ) (count c : ℕ) (there : There logged part (OfClient c)) (laws : Below) (event : Event) (node : ClientNode)
    (x : ClientEvent logged part count c there event node) where
  open logged use {base, lines, texts, first}

  abbrev g : Setting
  g = log.g logged part count c there

  abbrev w : Scene
  w = log.before logged part count c there

  abbrev v : Scene
  v = log.after logged part count c there

  abbrev i : index.Scene
  i = x.joint.idx

  abbrev outs : List Effect
  outs = (takes node (what_of event)).outs

  abbrev at : Moment g w.net
  at = log.at logged part count c there laws event node x

  abbrev sees : OwnerSeen g w c node.phase
  sees = log.sees logged part count c there laws event node x

  abbrev sure : IsSure texts.text c g w.net
  sure = log.is_sure logged part count c there laws event node x

  abbrev goes : Runs g w.net v.net
  goes = (lines (OfClient c) there).goes count

  abbrev filed : Filed
  filed = i.net.filed

  pub member : c < index.members (k logged part)
  member = (let h = there.1 in omega arith)

  pub below : c < cleaners_number
  below = (let h = member in let f = x.joint.index_stands.few in omega arith)

  pub straight : ServesStraight goes
  straight = (lines (OfClient c) there).straight count event x.happens (sym x.own)

  pub line : IsLine c w.net filed
  line = x.joint.lined (OfClient c) there refl

  one_client : (a b : ClientNode) → Some (any.Client a) ≡ Some (any.Client b) → a ≡ b
  one_client a b same = cc

  -- it is the client of both small worlds
  pub indexed : i.client c ≡ node
  indexed = one_client (i.client c) node
      (sym (x.joint.index_stands.placed.clients c there.0 member) ∙ log.here logged part count c there laws event node x)

  pub agrees : ClientAgrees part texts.text i.net c node.phase
  agrees = subst (λ (a : ClientNode). ClientAgrees part texts.text i.net c a.phase) indexed (x.joint.index_stands.clients c there.0 member)

  -- ---- what was in flight is news

  pub tied : Tied (index.members (k logged part)) part (held_in part texts.text) (with_promise 1 x.joint.tok.net) i.net
  tied = record {
    some = omega arith;
    few = x.joint.index_stands.few;
    of_map = x.few;
    tokens_run = x.joint.tokens_stand.runs;
    any = first;
    index_run = x.joint.index_stands.runs;
    books = x.joint.books;
    plain = λ l q some limit from upto. (x.joint.tells l q from upto).plain;
  }

  -- it was behind the end of the log
  pub flight_next : (flight : FlightState) → last_flight at.run ≡ Some flight → (flight.segment.name.seq ≡ suc (filed.head c))
      × (x.joint.tok.net.books.rows c (suc (x.joint.tok.net.books.end c)) ≡ rows_told flight.segment.items)
  flight_next flight fact =
      let books = x.joint.tok.net.books in
      let z = subst
      (λ (o : Option FlightState). IfSome o (λ y. (y.segment.name.seq ≡ suc (books.end c)) × (books.rows c (suc (books.end c)) ≡ rows_told y.segment.items)))
      fact (x.joint.flew (OfClient c) there refl).next in
      (z.0 ∙ ap suc (x.joint.books.end c there.0 (let b = below in omega arith)), z.1)

  pub flight_news : (flight : FlightState) → last_flight at.run ≡ Some flight → (t : Segment) → In t v.net.flown → t.items ≡ flight.segment.items
      → IsNewerAtSlot part filed t
  flight_news flight fact t flown same =
      let z = log.original logged part count c there laws event node x t flown in
      laws.index.flights_are_news (index.members (k logged part)) part (held_in part texts.text) (with_promise 1 x.joint.tok.net) i.net c
      t tied
      (record { some = there.0; within = member })
      (record {
        rows = (flight_next flight fact).1 ∙ ap rows_told (sym same);
        plain = z.tells.plain;
        versioned = z.tells.versioned;
        first_hand = z.first_hand;
      })

  -- ---- what it acts to be filed

  -- it says of blocks, as all that was in flight in its log does
  says_so : (t : Segment) → In t v.net.flown → SaysBlocks t
  says_so t flown =
      let z = (log.original logged part count c there laws event node x t flown).tells in
      record { versions = z.versioned; no_parts = z.no_parts }

  flight_says : (s : ServingClient) → node.phase ≡ clients.Serving s → FlightSays s.log
  flight_says s fact =
      by s.log.flight
      (subst (OwnerFlew w.net.flown) (subst (client_log.ClientAgrees g c w) fact sees.agrees).1.owner (laws.logs.held g w.net at))
    where
      by : (o : Option FlightState) → IfSome o (λ f. In f.segment w.net.flown) → IfSome o (λ f. SaysBlocks f.segment)
      by None flown = tt
      by (Some f) flown = says_so f.segment (log.flown_then logged part count c there laws event node x f.segment flown)

  named_says : (name : SegName) → In name v.net.filed → SaysBlocks (texts.text name)
  named_says name filed =
      let t = (laws.logs.whole g v.net (log.then logged part count c there laws event node x)).flown name filed in
      subst SaysBlocks (sym (ap texts.text (sym t.2) ∙ texts.flown (OfClient c) there (suc count) t.0 t.1)) (says_so t.0 t.1)

  abbrev Known : SegName → Type 0
  Known name = IsKnown laws.index.nothing_is_news part texts.text c filed name

  text_is : (t : Segment) → In t v.net.flown → texts.text t.name ≡ t
  text_is t flown = texts.flown (OfClient c) there (suc count) t flown

  -- while it serves
  serving_known : (s : LogState) → w.net.owner ≡ Serving s → (name : SegName) → IsFlight s name → Known name
  serving_known s serves name f =
      let fact : last_flight at.run ≡ Some f.0 = served_last g _ w.net at.run s serves ∙ f.1 in
      let held = subst (λ (o : Option FlightState). IfSome o (λ y. In y.segment w.net.flown)) f.1
      (subst (OwnerFlew w.net.flown) serves (laws.logs.held g w.net at)) in
      let flown = log.flown_then logged part count c there laws event node x f.0.segment held in
      let text : texts.text name ≡ f.0.segment = ap texts.text (sym f.2) ∙ text_is f.0.segment flown in
      inr (inr (
        ap (λ (y : SegName). y.seq) (sym f.2) ∙ (flight_next f.0 fact).0,
        subst (IsNewerAtSlot part filed) (sym text) (flight_news f.0 fact f.0.segment flown refl),
      ))

  -- where it comes to serve
  tail_known : (name : SegName) → TellsOnlyTheTail at v.net name → Known name
  tail_known name t =
      let text : texts.text name ≡ t.0 = ap texts.text (sym t.2) ∙ text_is t.0 t.1 in
      ⊎_elim
      (λ nothing. inr (inl (subst (λ (s : Segment). rows_of s ≡ []) (sym text) (says_nothing t.0 (x.apart t.0.items [] (nothing ∙ sym base.no_content))))))
      (λ f. inr (inr (
        ap (λ (y : SegName). y.seq) (sym t.2) ∙ (f.2.seq ∙ (flight_next f.0 f.1).0),
        subst (IsNewerAtSlot part filed) (sym text) (flight_news f.0 f.1 t.0 t.1 (x.apart t.0.items f.0.segment.items f.2.content)),
      ))) t.3
    where
      says_nothing : (s : Segment) → s.items ≡ [] → rows_of s ≡ []
      says_nothing s none = ap (filter_map (row_of s)) none

  resting_known : is_serving w.net.owner ≡ false → (name : SegName) → In name v.net.filed → Known name
  resting_known away name fact = by (is_serving v.net.owner) refl
    where
      before : In name w.net.filed → Known name
      before was = inl (line.all name was).1

      by : (t : Bool) → is_serving v.net.owner ≡ t → Known name
      by false none = before (subst (In name) (laws.lines.straight_files_still g w.net v.net at goes straight none) fact)
      by true serves =
          let z = comes g refl w.net v.net goes straight away serves in
          let calm = subst (λ (r : Runs g w.net v.net). IsSureRun (then_on at.run r)) z.one
          (log.goes_sure logged part count c there laws event node x) in
          ⊎_elim before (tail_known name) (laws.logs.only g w.net v.net refl at z.happens calm (z.writes, serves) name fact)

  module _ (gets : EventGets part texts.text i.net c node.phase (what_of event)) where
    pub acts_file : ActsFile v.net outs
    acts_file = laws.filing.clients_acts_file part texts.text g c w v i.net node (what_of event) there.0 below sure sees.room flight_says sees.agrees agrees
        gets goes straight
        (log.acts_filed logged part count c there laws event node x)

    known : AllSo Known outs
    known = by node.phase refl
      where
        resting : is_serving w.net.owner ≡ false → AllSo Known outs
        resting away =
            all_then (λ name. In name v.net.filed) Known (resting_known away) outs
            (log.acts_filed logged part count c there laws event node x)

        seen : (p : Phase) → node.phase ≡ p → client_log.ClientAgrees g c w p
        seen p fact = subst (client_log.ClientAgrees g c w) fact sees.agrees

        stage_rests : (kn : KnownMaps) (last : ℕ) (s : Stage) → SeesStage g c w kn last s → is_serving w.net.owner ≡ false
        stage_rests kn last (stage.Scanning s) sees = ap is_serving sees.owner
        stage_rests kn last (stage.Settling s) sees = ap is_serving sees.owner

        by : (p : Phase) → node.phase ≡ p → AllSo Known outs
        by (clients.Down l) fact = resting (ap is_serving (seen (clients.Down l) fact).1)
        by (clients.Opening l o) fact = resting (stage_rests o.known l.questions.last o.stage (seen (clients.Opening l o) fact).1)
        by (clients.Serving s) fact =
            all_then (IsFlight s.log) Known (serving_known s.log (seen (clients.Serving s) fact).1.owner) outs
            (laws.filing.clients_file_their_flights part texts.text g c w i.net node (what_of event) s there.0 below sure sees.room
            (flight_says s fact) sees.agrees fact agrees gets).flights

    -- it is owed
    pub files_owed : FilesOwed (IsNewerAtSlot part) texts.text c filed outs
    files_owed = laws.filing.clients_files_are_owed part texts.text c g v.net filed outs (log.is_sure_then logged part count c there laws
        event node x) acts_file
        (all_then (λ name. In name v.net.filed) (λ name. SaysBlocks (texts.text name)) named_says outs
        (log.acts_filed logged part count c there laws event node x))
        (all_new laws.index.nothing_is_news part texts.text c filed outs known)
