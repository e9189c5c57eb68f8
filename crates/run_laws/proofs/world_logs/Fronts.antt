-- Each front of a run leaves all logs standing to their small worlds, and at each event these lead on.
use Rattle.std.proofs.Common.{◌≡◌, ◌^◌, ℕ, zero, suc, ◌<◌, Bool, true, false, List, [], ◌∷◌, ◌++◌, Option, None, Some, drop, length, map, take, slice_get, slice_set, if◌then◌else◌, append-nil, refl, sym, ap, subst, ◌∙◌, arith}
use Rattle.std.proofs.lemmas.List.{append_assoc}
use Rattle.std.proofs.Math.Seq.{drop-append_seam, drop-length}
use Rattle.std.specs.List.{fold}
use Rattle.core_world.specs.AnyNode.{any_step}
use Rattle.core_world.specs.declared.any_node.AnyNode.{AnyNode}
use Rattle.core_world.specs.declared.any_node.AnyNode.TheVariants as any
use Rattle.group_map.specs.declared.group.Group.{Group}
use Rattle.node_logs.specs.client_log_tie.Owner.{Scene}
use Rattle.log_law.specs.Events.{Runs}
use Rattle.log_law.specs.Events.Runs.{Begun}
use Rattle.log_law.specs.Laws.{Moment}
use Rattle.log_scan.specs.Transition.{least_horizon}
use Rattle.log_tie.specs.Setting.{Setting}
use Rattle.node_base.specs.Setups.{IsSetup}
use Rattle.node_logs.specs.node_log_tie.RegistryEvents.{NamesGroups}
use Rattle.node_slots.specs.node_tie.RegistryEvents.{RegistrySound}
use Rattle.registry.specs.Board.{board_slots}
use Rattle.registry.specs.BoardState.{BoardState}
use Rattle.registry_node.specs.declared.node.RegistryNode.{RegistryNode}
use Rattle.token_protocol.specs.Basics.{In}
use Rattle.version_model.specs.declared.act.Act.{Act}
use Rattle.wire_msg.specs.declared.packet.Do.TheVariants.{Deliver}
use Rattle.wire_msg.specs.declared.packet.Packet.{Packet}
use Rattle.world_base.specs.Cluster.{place_of}
use Rattle.world_base.specs.declared.cluster.Cluster.{Cluster}
use Rattle.world_base.specs.declared.event.Event.{Event}
use Rattle.world_base.specs.declared.event.Event.TheVariants as events
use Rattle.world_base.specs.declared.world.World.{World}
use Rattle.world_base.specs.Events.{node_of, what_of}
use Rattle.world_base.specs.NextWorld.{next_world, sent_at}
use Rattle.world_base.specs.Runs.{Leads, MayHappen}
use Rattle.run_laws.proofs.world_law.Laws as tokens
use Rattle.run_laws.proofs.world_law.ManagerTurns.{delivered}
use Rattle.run_laws.proofs.world_law.Sent.{was_sent}
use Rattle.run_laws.proofs.world_law.Turning.{next_cluster, next_keeps}
use Rattle.headline.specs.Moments.{node_in}
use Rattle.run_laws.proofs.world_logs.Events.{node_after}
use Rattle.run_laws.proofs.world_logs.Goods as logs
use Rattle.run_laws.proofs.world_logs.Goods.{Good, Known}
use Rattle.run_laws.specs.world_logs.NodeLaws.{NodeLaws}
use Rattle.run_laws.proofs.world_logs.Groups.{GroupsStay, StayIn, in_run}
use Rattle.run_laws.proofs.world_logs.Leading.{LeadsOn}
use Rattle.run_laws.specs.world_logs.Lines.{GrowsBy, IsLeft, moment_then, PutsBy, StraightBy}
use Rattle.headline.specs.Logs.{Role, acts_by, acts_of, log_by, owner_by, owns, renews}
use Rattle.run_laws.proofs.world_logs.Says.{may_say}
use Rattle.run_laws.proofs.world_logs.Settings.{names_at_end}
use Rattle.headline.specs.Horizons.{Reached, board_of}
use Rattle.group_map.specs.Groups.{known_group as group_in}
use Rattle.headline.specs.Servers.{group_at, groups_of}
use Rattle.xfs_base.specs.declared.node.NodeId.TheVariants.{Registry}
use Rattle.xfs_base.specs.declared.setup.Setup.{Setup}

-- whose map is the board's
groups_from_board : (o : Option AnyNode) (b : BoardState) → board_of o ≡ Some b → groups_of o ≡ Some b.groups
groups_from_board None b fact = absurd cc
groups_from_board (Some (any.Client node)) b fact = absurd cc
groups_from_board (Some (any.Manager node)) b fact = absurd cc
groups_from_board (Some (any.Server node)) b fact = absurd cc
groups_from_board (Some (any.Cleaner node)) b fact = absurd cc
groups_from_board (Some (any.Registry node)) b fact = ap (λ (x : BoardState). Some x.groups) (tokens.one_node node.board b fact)

same_registry : (a b : RegistryNode) → Some (any.Registry a) ≡ Some (any.Registry b) → a ≡ b
same_registry a b fact = cc

no_acts : (t : Bool) (acts : List Act) → acts ≡ [] → (if t then acts else []) ≡ []
no_acts true acts none = none
no_acts false acts none = refl

module _ (laws : NodeLaws) (stay : GroupsStay) (base : Setting) (end : World AnyNode) (setup : Setup) (ok : IsSetup setup)
    (few : (id : ℕ) (group : Group) → group_at end id ≡ Some group → id < 2 ^ 32) where
  abbrev k : Cluster
  k = logs.k laws base end setup ok few

  abbrev g : Role → Setting
  g r = logs.g laws base end setup ok few r

  abbrev There : Role → Type 0
  There r = logs.There laws base end setup ok few r

  abbrev Tokens : World AnyNode → Type 0
  Tokens w = tokens.GoodWorld laws.tokens k 0 (omega arith) w

  abbrev GoodNow : World AnyNode → (ℕ → List Act) → Type 0
  GoodNow w told = Good laws base end setup ok few w.nodes w.sent told

  known_so : (nodes : List AnyNode) (sent : List Packet) (a b : ℕ → List Act) → ((c : ℕ) → a c ≡ b c) → Known laws base end setup ok few nodes sent a
      → Known laws base end setup ok few nodes sent b
  known_so nodes sent a b same h = record {
    says = h.says;
    named = h.named;
    reached = λ board fact r there keeps.
        subst (λ acts. Reached acts (least_horizon (log_by r) (board_slots board))) (same (log_by r)) (h.reached board fact r there keeps);
  }

  -- ---- one event

  module _ (w : World AnyNode) (cluster : w.cluster ≡ k) (told : ℕ → List Act) (event : Event) (may : MayHappen w event) (tok : Tokens w) where
    -- what each owner did after it, by all acts
    abbrev told_with : List Act → ℕ → List Act
    told_with acts c = told c ++ (if owns c (node_of event) then drop (length w.acts) acts else [])

    unchanged : (c : ℕ) → told c ≡ told_with w.acts c
    unchanged c = sym (ap (λ more. told c ++ more) (no_acts (owns c (node_of event)) (drop (length w.acts) w.acts) (drop-length w.acts)) ∙ append-nil (told c))

    added : (more : List Act) (c : ℕ) → told_with (w.acts ++ more) c ≡ told c ++ (if owns c (node_of event) then more else [])
    added more c = ap (λ x. told c ++ (if owns c (node_of event) then x else [])) (drop-append_seam w.acts more)

    gets : (p : Packet) → what_of event ≡ Deliver p → In p w.sent × (p.to ≡ node_of event)
    gets p same = by event refl
      where
        by : (x : Event) → event ≡ x → In p w.sent × (p.to ≡ node_of event)
        by (events.Begin node) fact = (let clash : what_of (events.Begin node) ≡ Deliver p = ap what_of (sym fact) ∙ same in absurd cc)
        by (events.Tick node) fact = (let clash : what_of (events.Tick node) ≡ Deliver p = ap what_of (sym fact) ∙ same in absurd cc)
        by (events.Deliver packet) fact =
            let its : packet ≡ p = delivered packet p (ap what_of (sym fact) ∙ same) in
            let sent : In packet w.sent = was_sent w.sent packet (subst (λ x. MayHappen w x) fact may) in
            (subst (λ x. In x w.sent) its sent, ap (λ (x : Packet). x.to) (sym its) ∙ ap node_of (sym fact))

    sound : (r : RegistryNode) → node_in w.nodes (place_of k Registry) ≡ Some (any.Registry r) → RegistrySound r
    sound r here = subst RegistrySound (same_registry tok.0.registry r (sym tok.1.placed.registry ∙ here)) tok.1.sound

    module _ (good : GoodNow w told) where
      abbrev Led : List AnyNode → List Packet → List Act → Type 0
      Led nodes sent acts = Known laws base end setup ok few nodes sent (told_with acts)
          → logs.Leads laws base end setup ok few w.nodes w.sent told good (node_of event) nodes sent (told_with acts)

      turns : (place : ℕ) (x : AnyNode) (clock : ℕ) → place_of w.cluster (node_of event) ≡ Some place → slice_get w.nodes place ≡ Some x
          → Led (slice_set w.nodes place (any_step x (what_of event)).node) (w.sent ++ map (sent_at clock) (any_step x (what_of event)).packets)
          (w.acts ++ (any_step x (what_of event)).acts)
      turns place x clock at fact known =
          let nodes = slice_set w.nodes place (any_step x (what_of event)).node in
          let sent = w.sent ++ map (sent_at clock) (any_step x (what_of event)).packets in
          let acts = (any_step x (what_of event)).acts in
          logs.leads_so laws base end setup ok few w.nodes w.sent told good (node_of event) nodes sent
          (λ c. told c ++ (if owns c (node_of event) then acts else [])) (told_with (w.acts ++ acts)) (λ c. sym (added acts c))
          (node_after laws base end setup ok few w.nodes w.sent told good place clock (what_of event) sound
          (node_of event) gets (subst (λ cl. place_of cl (node_of event) ≡ Some place) cluster at) x fact
          (known_so nodes sent (told_with (w.acts ++ acts)) (λ c. told c ++ (if owns c (node_of event) then acts else [])) (added acts) known))

      pub event_leads : Known laws base end setup ok few (next_world any_step w event).nodes (next_world any_step w event).sent
          (λ c. told c ++ acts_of c w event)
          → logs.Leads laws base end setup ok few w.nodes w.sent told good (node_of event) (next_world any_step w event).nodes
          (next_world any_step w event).sent (λ c. told c ++ acts_of c w event)
      event_leads known = next_keeps any_step Led w event
          (λ h. logs.leads_so laws base end setup ok few w.nodes w.sent told good (node_of event) w.nodes w.sent told (told_with w.acts) unchanged
          (logs.still laws base end setup ok few w.nodes w.sent told good (node_of event))) turns known

  -- ---- each front

  -- from this world on
  abbrev pub HorizonsFrom : List Event → World AnyNode → (ℕ → List Act) → Type 0
  HorizonsFrom events_ w told = (n : ℕ) (r : Role) → There r → renews r ≡ false → (b : BoardState)
      → board_of (node_in (fold (next_world any_step) w (take n events_)).nodes (place_of (fold (next_world any_step) w (take n events_)).cluster Registry))
      ≡ Some b
      → Reached (told (log_by r) ++ acts_by (log_by r) w (take n events_)) (least_horizon (log_by r) (board_slots b))

  pub named_so : (w : World AnyNode) → w.cluster ≡ k → StayIn stay w end → (b : BoardState) → board_of (node_in w.nodes (place_of k Registry)) ≡ Some b
      → (r : Role) → NamesGroups (g r) b.groups
  named_so w cluster stays b fact r id group found =
      let groups = groups_from_board (node_in w.nodes (place_of k Registry)) b fact in
      let here = subst (λ cl. groups_of (node_in w.nodes (place_of cl Registry)) ≡ Some b.groups) (sym cluster) groups in
      names_at_end base end setup.servers _ _ (stays id group (ap (λ o. group_in o id) here ∙ found))

  known_now : (w : World AnyNode) → w.cluster ≡ k → Tokens w → StayIn stay w end → (told : ℕ → List Act)
      → ((r : Role) → There r → renews r ≡ false → (b : BoardState) → board_of (node_in w.nodes (place_of w.cluster Registry)) ≡ Some b
      → Reached (told (log_by r)) (least_horizon (log_by r) (board_slots b)))
      → Known laws base end setup ok few w.nodes w.sent told
  known_now w cluster tok stays told reached = record {
    says = λ p h. may_say k 0 tok.0 p (tok.1.facts p h);
    named = named_so w cluster stays;
    reached = λ b fact r there keeps.
        reached r there keeps b (subst (λ cl. board_of (node_in w.nodes (place_of cl Registry)) ≡ Some b) (sym cluster) fact);
  }

  -- what is known where a run goes on from a world with these events
  pub record From (those : List Event) (w : World AnyNode) (told : ℕ → List Act) : Type 0 where
    pub cluster : w.cluster ≡ k
    pub leads : Leads any_step w those end
    pub tokens : Tokens w
    pub low : HorizonsFrom those w told

  -- ---- after the first event

  module _ (event : Event) (more : List Event) (w : World AnyNode) (told : ℕ → List Act) (from : From (event ∷ more) w told) where
    abbrev next : World AnyNode
    next = next_world any_step w event

    abbrev now : ℕ → List Act
    now c = told c ++ acts_of c w event

    pub from_next : From more next now
    from_next = record {
      cluster = next_cluster any_step w event ∙ from.cluster;
      leads = from.leads.1;
      tokens = tokens.event_keeps laws.tokens k 0 (omega arith) w from.cluster event from.leads.0 from.tokens;
      low = λ n r there keeps b fact.
          (let c = log_by r in
          subst (λ acts. Reached acts (least_horizon c (board_slots b))) (sym (append_assoc (told c) (acts_of c w event) (acts_by c next (take n more))))
          (from.low (suc n) r there keeps b fact));
    }

    pub first_led : (good : GoodNow w told) → logs.Leads laws base end setup ok few w.nodes w.sent told good (node_of event) next.nodes next.sent now
    first_led good =
        event_leads w from.cluster told event from.leads.0 from.tokens good
        (known_now next from_next.cluster from_next.tokens (in_run stay more next end from.leads.1) now
        (λ r there keeps b fact. subst (λ acts. Reached acts (least_horizon (log_by r) (board_slots b))) (append-nil (now (log_by r)))
        (from_next.low 0 r there keeps b fact)))

    abbrev next_good : GoodNow w told → GoodNow next now
    next_good good = logs.led laws base end setup ok few w.nodes w.sent told good (node_of event) next.nodes next.sent now (first_led good)

  -- ---- each front

  -- the world after so many events, and what each owner did in them
  abbrev pub front : List Event → ℕ → World AnyNode → World AnyNode
  front those count w = fold (next_world any_step) w (take count those)

  abbrev pub front_told : List Event → ℕ → World AnyNode → (ℕ → List Act) → ℕ → List Act
  front_told those count w told c = told c ++ acts_by c w (take count those)

  abbrev pub front_good : (those : List Event) (count : ℕ) (w : World AnyNode) (told : ℕ → List Act) → From those w told → GoodNow w told
      → GoodNow (front those count w) (front_told those count w told)
  front_good those zero w told from good = logs.good_so laws base end setup ok few w.nodes w.sent told (λ c. told c ++ []) (λ c. sym (append-nil (told c))) good
  front_good [] (suc count) w told from good =
      logs.good_so laws base end setup ok few w.nodes w.sent told (λ c. told c ++ []) (λ c. sym (append-nil (told c))) good
  front_good (event ∷ more) (suc count) w told from good =
      logs.good_so laws base end setup ok few (front more count (next event more w told from)).nodes (front more count (next event more w told from)).sent
      (front_told more count (next event more w told from) (now event more w told from)) (front_told (event ∷ more) (suc count) w told)
      (λ c. append_assoc (told c) (acts_of c w event) (acts_by c (next event more w told from) (take count more)))
      (front_good more count (next event more w told from) (now event more w told from) (from_next event more w told from)
      (next_good event more w told from good))

  -- ---- from each front to the next

  -- at this event, or where none is left
  pub record Steps (r : Role) (o : Option Event) (w : Scene) (at : Moment (g r) w.net) (v : Scene) (later : Moment (g r) v.net) : Type 0 where
    pub runs : Runs (g r) w.net v.net
    pub joined : later ≡ moment_then at runs
    pub own : (event : Event) → o ≡ Some event → owner_by r ≡ node_of event → GrowsBy (g r) r w v
    pub straight : (event : Event) → o ≡ Some event → owner_by r ≡ node_of event → StraightBy r runs
    pub puts : (event : Event) → o ≡ Some event → owner_by r ≡ node_of event → PutsBy r w.net v.net
    pub left : (event : Event) → o ≡ Some event → (owner_by r ≡ node_of event → ⊥) → IsLeft w.net v.net
    pub ended : o ≡ None → v ≡ w

  none_left : (r : Role) (w : Scene) (at : Moment (g r) w.net) → Steps r None w at w at
  none_left r w at =
      record {
        runs = Begun;
        joined = refl;
        own = λ event fact. absurd cc;
        straight = λ event fact. absurd cc;
        puts = λ event fact. absurd cc;
        left = λ event fact. absurd cc;
        ended = λ fact. refl;
      }

  same_event : (x y : Event) → Some x ≡ Some y → x ≡ y
  same_event x y fact = cc

  at_event : (r : Role) (x : Event) (w : Scene) (at : Moment (g r) w.net) (v : Scene) (later : Moment (g r) v.net)
      → LeadsOn (g r) r (node_of x) w at v later
      → Steps r (Some x) w at v later
  at_event r x w at v later l = record {
    runs = l.runs;
    joined = l.joined;
    own = λ event fact e. l.own (e ∙ ap node_of (sym (same_event x event fact)));
    straight = λ event fact e. l.straight (e ∙ ap node_of (sym (same_event x event fact)));
    puts = λ event fact e. l.puts (e ∙ ap node_of (sym (same_event x event fact)));
    left = λ event fact away. l.left (λ e. away (e ∙ ap node_of (same_event x event fact)));
    ended = λ fact. absurd cc;
  }

  pub front_steps : (those : List Event) (count : ℕ) (w : World AnyNode) (told : ℕ → List Act) (from : From those w told) (good : GoodNow w told)
      (r : Role) (h : There r)
      → Steps r (slice_get those count) ((front_good those count w told from good).logs r h).0 ((front_good those count w told from good).logs r h).1.moment
      ((front_good those (suc count) w told from good).logs r h).0 ((front_good those (suc count) w told from good).logs r h).1.moment
  front_steps [] zero w told from good r h = none_left r (good.logs r h).0 (good.logs r h).1.moment
  front_steps [] (suc count) w told from good r h = none_left r (good.logs r h).0 (good.logs r h).1.moment
  front_steps (event ∷ more) zero w told from good r h =
      (let n = (first_led event more w told from good).logs r h in
      at_event r event (good.logs r h).0 (good.logs r h).1.moment n.scene n.stands.moment n.leads)
  front_steps (event ∷ more) (suc count) w told from good r h =
      front_steps more count (next event more w told from) (now event more w told from) (from_next event more w told from)
      (next_good event more w told from good) r h
