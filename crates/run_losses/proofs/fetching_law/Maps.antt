-- The maps of groups that a client knows are such as come, whatever happens to it; and it waits for the answer of its open call.
use Rattle.std.proofs.Common.{◌≡◌, ◌⊎◌, ℕ, List, Option, Some, None, is_none, refl, sym, ap, subst, ◌∙◌, inl, inr}
use Rattle.xfs_base.proofs.Booleans.{by_test, contrary}
use Rattle.node_slots.specs.client_law.Grouped.{KnowsSuch}
use Rattle.node_slots.specs.client_law.Maps.{BringsMaps, DoBrings}
use Rattle.client_node.specs.declared.client.Client.{Client}
use Rattle.client_node.specs.declared.phase.Phase.{Phase}
use Rattle.client_node.specs.declared.phase.Phase.TheVariants.{Down, Opening, Serving as Serves}
use Rattle.client_node.specs.Phases.{Went_to, phase_after, client_has_room, happens, item_begins, lasting_of, on_begin, begins_item, on_deliver, on_event, client_tick, opened_on, takes, wish_of, with_begun}
use Rattle.client_node.specs.Starting.{client_start}
use Rattle.client_serving.specs.declared.lasting.Lasting.{Lasting}
use Rattle.client_serving.specs.declared.serving.Serving.{Serving}
use Rattle.group_map.specs.GroupMapState.{GroupMapState}
use Rattle.group_map.specs.Groups.{group_map_start}
use Rattle.log_owner.specs.declared.opened.Progress.{Progress}
use Rattle.log_owner.specs.declared.opened.Progress.TheVariants as progress
use Rattle.log_owner.specs.declared.opening.Opening as openings
use Rattle.log_owner.specs.Opening as opening
use Rattle.log_owner.specs.Opening.{Went}
use Rattle.node_base.specs.Beginning.{next_item, work_at}
use Rattle.node_base.specs.declared.effects.Effect.{Effect}
use Rattle.node_base.specs.declared.maps.Maps.{Maps}
use Rattle.node_base.specs.declared.peers.Peers.{Peers}
use Rattle.node_base.specs.Shape.{is_well_formed}
use Rattle.node_moves.specs.server_moves.Moves.{news_in}
use Rattle.version_model.specs.declared.work.Work.{Work}
use Rattle.version_model.specs.declared.work.Work.TheVariants as work
use Rattle.wire_msg.specs.declared.body.Body.{Body}
use Rattle.wire_msg.specs.declared.body.Body.TheVariants as body
use Rattle.wire_msg.specs.declared.packet.Do.{Do}
use Rattle.wire_msg.specs.declared.packet.Do.TheVariants.{Begin, Deliver, Tick}
use Rattle.wire_msg.specs.declared.registry.News.{News}
use Rattle.xfs_base.specs.declared.setup.Setup.{Setup}
use Rattle.xfs_base.specs.Steps.{still}
use Rattle.headline.specs.Reads.{serving_in}
use Rattle.run_losses.proofs.fetching_law.Openings.{ProgressKnows, maps_taken, packet_knows, time_knows}
use Rattle.run_losses.proofs.fetching_law.Phases.{After, event_serves}
use Rattle.run_losses.proofs.fetching_law.Turning.{NewMaps, WaitsFor}

module _ (Is : GroupMapState → Type 0) where
  pub record ServesWell (s : Serving) : Type 0 where
    pub known : KnowsSuch Is s.maps.groups
    pub waits : WaitsFor s

  abbrev pub StandsWell : Phase → Type 0
  StandsWell (Down l) = Unit {0}
  StandsWell (Opening l o) = KnowsSuch Is o.known.maps.groups
  StandsWell (Serves s) = ServesWell s

  -- one that didn't serve before has no call open
  abbrev pub ComesWell : Phase → Type 0
  ComesWell (Down l) = Unit {0}
  ComesWell (Opening l o) = KnowsSuch Is o.known.maps.groups
  ComesWell (Serves s) = KnowsSuch Is s.maps.groups × (s.call ≡ None)

  abbrev Goes : Went_to → Type 0
  Goes w = ComesWell w.state

  come_stands : (p : Phase) → ComesWell p → StandsWell p
  come_stands (Down l) h = tt
  come_stands (Opening l o) h = h
  come_stands (Serves s) h = record { known = h.0; waits = λ opens. contrary (sym opens ∙ ap is_none h.1) }

  -- ---- one that is down, or opens its log

  opened_well : (l : Lasting) (capacity : ℕ) (w : Went) → ProgressKnows Is w.progress → Goes (opened_on l capacity w)
  opened_well l capacity w h = by w.progress h
    where
      by : (p : Progress) → ProgressKnows Is p → Goes (phase_after (record l { questions = w.questions }) capacity p)
      by (progress.Opening o) known = known
      by (progress.Opened o) known = (known, refl)
      by (progress.Lost seg) known = tt

  down_well : (servers : ℕ) (l : Lasting) (number : ℕ) (wanted : Option Work) → Goes (item_begins servers (with_begun (Down l)) number (wish_of wanted))
  down_well servers l number (Some (work.Restart node)) = tt
  down_well servers l number (Some _) = tt
  down_well servers l number None = tt

  opening_well : (servers : ℕ) (l : Lasting) (o : openings.Opening) → KnowsSuch Is o.known.maps.groups → (number : ℕ) (wanted : Option Work)
      → Goes (item_begins servers (with_begun (Opening l o)) number (wish_of wanted))
  opening_well servers l o h number (Some (work.Crash node)) = tt
  opening_well servers l o h number (Some (work.Restart node)) = h
  opening_well servers l o h number (Some _) = h
  opening_well servers l o h number None = h

  down_event : (peers : Peers) (capacity : ℕ) (l : Lasting) (what : Do) → Goes (on_event peers capacity (Down l) what)
  unfolding on_begin on_deliver client_tick
  down_event peers capacity l Begin = by (next_item l.items)
    where
      by : (item : Option ℕ) → Goes (begins_item peers.servers (Down l) item)
      by None = tt
      by (Some number) = down_well peers.servers l number (work_at (lasting_of (with_begun (Down l))).items number)
  down_event peers capacity l (Deliver packet) = by_test Goes (is_well_formed peers packet) (still (Down l)) (still (Down l)) (λ _. tt) (λ _. tt)
  down_event peers capacity l Tick = tt

  opening_event : (peers : Peers) (capacity : ℕ) (l : Lasting) (o : openings.Opening) → KnowsSuch Is o.known.maps.groups → (what : Do) → DoBrings Is what
      → Goes (on_event peers capacity (Opening l o) what)
  unfolding on_begin on_deliver client_tick
  opening_event peers capacity l o h Begin brings = by (next_item l.items)
    where
      by : (item : Option ℕ) → Goes (begins_item peers.servers (Opening l o) item)
      by None = h
      by (Some number) = opening_well peers.servers l o h number (work_at (lasting_of (with_begun (Opening l o))).items number)
  opening_event peers capacity l o h (Deliver packet) brings =
      by_test Goes (is_well_formed peers packet) (opened_on l capacity (opening.opening_take o l.questions packet)) (still (Opening l o))
      (λ _. opened_well l capacity (opening.opening_take o l.questions packet) (packet_knows Is o l.questions packet brings h)) (λ _. h)
  opening_event peers capacity l o h Tick brings =
      opened_well l capacity (opening.on_tick o l.questions) (time_knows Is o l.questions h)

  -- ---- one that serves

  one_news : (a b : News) → Some a ≡ Some b → Is a.groups → Is b.groups
  one_news a b same so = subst (λ (n : News). Is n.groups) (let e : a ≡ b = cc in e) so

  brings_such : (news : News) (b : Body) → news_in b ≡ Some news → BringsMaps Is b → Is news.groups
  brings_such news (body.MapNews m) fact brings = one_news m news fact brings
  brings_such news (body.Welcome m) fact brings = one_news m.news news fact brings
  brings_such news _ fact brings = absurd (let clash : None ≡ Some news = fact in cc)

  serves_on : (s : Serving) → ServesWell s → (what : Do) → DoBrings Is what → (p : Phase) (outs : List Effect) → After s what p outs → StandsWell p
  serves_on s h what brings (Down l) outs a = tt
  serves_on s h what brings (Opening l o) outs a = absurd a
  serves_on s h what brings (Serves t) outs a = record { known = by a.maps; waits = a.waits }
    where
      by : (t.maps ≡ s.maps) ⊎ NewMaps s what t → KnowsSuch Is t.maps.groups
      by (inl same) = subst (λ (m : Maps). KnowsSuch Is m.groups) (sym same) h.known
      by (inr n) =
          subst (λ (m : Maps). KnowsSuch Is m.groups) (sym n.now)
          (maps_taken Is s.maps n.news h.known (brings_such n.news n.packet.body n.brought.brings (subst (DoBrings Is) n.brought.event brings)))

  module _ (client : Client) (what : Do) (brings : DoBrings Is what) where
    -- what comes of an event, or what was
    by_room : (p : Phase) → client.phase ≡ p → ComesWell p → Goes (on_event client.peers client.cache p what) → ComesWell (takes client what).state
    by_room p fact before goes =
        by_test Goes (client_has_room client) (happens client what) (still client.phase)
        (λ _. subst (λ q. Goes (on_event client.peers client.cache q what)) (sym fact) goes) (λ _. subst ComesWell (sym fact) before)

    pub comes_well : StandsWell client.phase → serving_in client.phase ≡ None → ComesWell (takes client what).state
    comes_well h none = by client.phase refl
      where
        by : (p : Phase) → client.phase ≡ p → ComesWell (takes client what).state
        by (Down l) fact = by_room (Down l) fact tt (down_event client.peers client.cache l what)
        by (Opening l o) fact =
            let known = subst StandsWell fact h in
            by_room (Opening l o) fact known (opening_event client.peers client.cache l o known what brings)
        by (Serves s) fact = absurd (let clash : Some s ≡ None = sym (ap serving_in fact) ∙ none in cc)

    pub stands_on : StandsWell client.phase → StandsWell (takes client what).state
    stands_on h = by client.phase refl
      where
        by : (p : Phase) → client.phase ≡ p → StandsWell (takes client what).state
        by (Down l) fact = come_stands (takes client what).state (comes_well h (ap serving_in fact))
        by (Opening l o) fact = come_stands (takes client what).state (comes_well h (ap serving_in fact))
        by (Serves s) fact =
            let w : ServesWell s = subst StandsWell fact h in
            serves_on s w what brings (takes client what).state (takes client what).outs (event_serves client s fact w.waits what)

  pub stands_first : (number : ℕ) (setup : Setup) (works : List Work) → Is (group_map_start setup.servers setup.groups)
      → StandsWell (client_start number setup works).phase
  stands_first number setup works fact = record { known = fact; waits = λ opens. contrary (sym opens) }
