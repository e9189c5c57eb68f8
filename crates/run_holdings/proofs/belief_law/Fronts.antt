-- Each moment of a run stands to the small world of a slot, whose slots were managed by then; and where a manager was the last to manage the slot at an epoch,
-- the small world still has what it had at the last moment at which it did.
use Rattle.std.proofs.Common.{◌≡◌, ◌⊎◌, ⊎_elim, ℕ, zero, suc, ◌==◌, ◌≤◌, ◌<◌, Bool, true, false, List, [], ◌∷◌, Some, take, inl, inr, refl, sym, ap, subst, ◌∙◌, arith}
use Rattle.std.specs.List.{fold}
use Rattle.std.proofs.lemmas.Bool.{eqb-true}
use Rattle.std.proofs.lemmas.Bool.Decides.{nat_tests}
use Rattle.core_world.specs.AnyNode.{any_start, any_step}
use Rattle.core_world.specs.declared.any_node.AnyNode.{AnyNode}
use Rattle.node_base.specs.Setups.{IsSetup}
use Rattle.node_slots.specs.node_tie.ManagerEvents.{SameButPages}
use Rattle.node_slots.specs.node_tie.RegistryEvents.{RegistrySound}
use Rattle.headline.specs.Beliefs.{WasLast}
use Rattle.run_laws.proofs.world_law.Laws.{NodeLaws, front}
use Rattle.run_laws.proofs.world_law.Leaving.{ManagedIn, SlotsGo}
use Rattle.run_laws.proofs.world_law.Managers.{There, manages_there}
use Rattle.run_laws.proofs.world_law.Start.{managed_first, start_scene, start_stands}
use Rattle.run_laws.proofs.world_law.Turns.{event_turns}
use Rattle.headline.specs.Managers.{active_at, active_of}
use Rattle.headline.specs.Moments.{moment, node_in}
use Rattle.run_laws.specs.world_law.Since.{Since}
use Rattle.run_laws.specs.world_law.Standing.{Scene, Stands, epoch_now}
use Rattle.token_manager.specs.SlotState.{SlotState}
use Rattle.world_base.specs.Cluster.{cluster_of, place_of}
use Rattle.world_base.specs.declared.cluster.Cluster.{Cluster}
use Rattle.world_base.specs.declared.estate.Estate.{Estate}
use Rattle.world_base.specs.declared.event.Event.{Event}
use Rattle.world_base.specs.declared.world.World.{World}
use Rattle.world_base.specs.NextWorld.{next_world, start_world}
use Rattle.world_base.specs.Runs.{IsRun, Leads, MayHappen}
use Rattle.xfs_base.specs.declared.node.NodeId.TheVariants.{Manager}
use Rattle.xfs_base.specs.Limits.{slot_count}

-- from one moment to the next nothing happens any more, or an event that may happen
abbrev Then : World AnyNode → World AnyNode → Type 0
Then w v = (v ≡ w) ⊎ ((event : Event) × MayHappen w event × (v ≡ next_world any_step w event))

goes_on : (events : List Event) (count : ℕ) (w end : World AnyNode) → Leads any_step w events end
    → Then (fold (next_world any_step) w (take count events)) (fold (next_world any_step) w (take (suc count) events))
goes_on [] zero w end leads = inl refl
goes_on [] (suc count) w end leads = inl refl
goes_on (event ∷ more) zero w end leads = inr (event, leads.0, refl)
goes_on (event ∷ more) (suc count) w end leads = goes_on more count (next_world any_step w event) end leads.1

before_next : (last count : ℕ) → last ≤ suc count → (last == suc count) ≡ false → last ≤ count
before_next last count within test = grind (arith, nat_tests)

module _ (laws : NodeLaws) (e : Estate AnyNode) (setup : IsSetup e.script.setup) (run : IsRun any_step any_start e.script e.events e.world) (part : ℕ)
    (of_eight : part < slot_count) where
  abbrev pub k : Cluster
  k = cluster_of e.script.setup

  abbrev pub At : World AnyNode → Scene → Type 0
  At w s = Stands false k part w.nodes w.sent w.acts RegistrySound s

  pub same_cluster : (count : ℕ) → (moment e count).cluster ≡ k
  same_cluster count = (front laws e setup run count part of_eight).0

  -- ---- one event

  -- a moment, and the next one, of the small world
  record Goes (s : Scene) (w : World AnyNode) : Type 0 where
    scene : Scene
    stands : At w scene
    since : Since k part s scene
    slots : SlotsGo k part w.nodes s.net scene.net

  goes : (w v : World AnyNode) (s : Scene) → w.cluster ≡ k → At w s → Then w v → Goes s v
  goes w v s cluster st (inl same) = subst (Goes s) (sym same) (record {
    scene = s;
    stands = st;
    since = record {
      epochs = omega arith;
      promises = let x = s.net.promised in omega arith;
      reigns = λ j. omega arith;
      given = λ epoch low. (refl, refl);
      past = λ j life epoch past. past;
    };
    slots = λ epoch. inl refl;
  })
  goes w v s cluster st (inr x) =
      let t = event_turns laws false k part of_eight w x.0 false s cluster x.1 st (λ node there. tt) in
      subst (Goes s) (sym x.2) (record { scene = t.next; stands = t.stands; since = t.since; slots = t.slots })

  -- ---- all moments

  -- a manager managed the slot at this epoch by then
  pub record WasManaged (count epoch : ℕ) : Type 0 where
    pub at : ℕ
    pub within : at ≤ count
    pub manager : ℕ
    pub state : SlotState
    pub managed : active_at (moment e at) part manager ≡ Some state
    pub epoch_is : state.epoch ≡ epoch

  -- the small world has this of manager j at its epoch, but for pages
  pub record HasLast (s : Scene) (j : ℕ) (a : SlotState) : Type 0 where
    pub lord : s.lord a.epoch ≡ j
    pub below : a.epoch ≤ epoch_now k part s
    pub slot : SlotState
    pub there : s.net.slots a.epoch ≡ Some slot
    pub same : SameButPages slot a

  pub record Front (count : ℕ) : Type 0 where
    pub scene : Scene
    pub stands : At (moment e count) scene
    pub managed : (epoch : ℕ) (z : SlotState) → scene.net.slots epoch ≡ Some z → WasManaged count epoch
    pub last : (j : ℕ) (a : SlotState) → WasLast e count part j a → HasLast scene j a

  -- who manages the slot by these nodes manages it in the run
  by_nodes : (count j : ℕ) (a : SlotState) → active_of part (node_in (moment e count).nodes (place_of k (Manager j))) ≡ Some a
      → active_at (moment e count) part j ≡ Some a
  by_nodes count j a fact =
      subst (λ cl. active_of part (node_in (moment e count).nodes (place_of cl (Manager j))) ≡ Some a) (sym (same_cluster count)) fact

  managed_in : (count epoch : ℕ) → ManagedIn k part (moment e count).nodes epoch → WasManaged count epoch
  managed_in count epoch m = record {
    at = count;
    within = omega arith;
    manager = m.manager;
    state = m.state;
    managed = by_nodes count m.manager m.state m.manages;
    epoch_is = m.epoch;
  }

  later : (count epoch : ℕ) → WasManaged count epoch → WasManaged (suc count) epoch
  later count epoch m = record {
    at = m.at;
    within = let within = m.within in omega arith;
    manager = m.manager;
    state = m.state;
    managed = m.managed;
    epoch_is = m.epoch_is;
  }

  -- what manages the slot now
  has_now : (count : ℕ) (s : Scene) → At (moment e count) s → (j : ℕ) (a : SlotState) → active_at (moment e count) part j ≡ Some a → HasLast s j a
  has_now count s st j a fact =
      let w = moment e count in
      let t : There k part w.nodes w.sent w.acts s st j a =
      manages_there k part w.nodes w.sent w.acts s st j a
      (subst (λ cl. active_of part (node_in w.nodes (place_of cl (Manager j))) ≡ Some a) (same_cluster count) fact) in
      record { lord = t.lord; below = t.below; slot = t.slot; there = t.there; same = t.same }

  module _ (count : ℕ) (f : Front count) (g : Goes f.scene (moment e (suc count))) where
    managed_on : (epoch : ℕ) (z : SlotState) → g.scene.net.slots epoch ≡ Some z → WasManaged (suc count) epoch
    managed_on epoch z fact =
        ⊎_elim (λ same. later count epoch (f.managed epoch z (sym same ∙ fact))) (λ m. managed_in (suc count) epoch m) (g.slots epoch)

    -- it managed the slot for the last time before this event: nobody else manages the slot at its epoch
    last_stays : (j : ℕ) (a : SlotState) (l : WasLast e (suc count) part j a) → l.last ≤ count → HasLast g.scene j a
    last_stays j a l before = ⊎_elim unchanged (λ m. absurd (taken m)) (g.slots a.epoch)
      where
        was : HasLast f.scene j a
        was = f.last j a (record {
          last = l.last;
          within = before;
          managed = l.managed;
          since = λ at z above within managed same. l.since at z above (omega arith) managed same;
        })

        lord : g.scene.lord a.epoch ≡ j
        lord = (g.since.given a.epoch was.below).0 ∙ was.lord

        unchanged : g.scene.net.slots a.epoch ≡ f.scene.net.slots a.epoch → HasLast g.scene j a
        unchanged same = record {
          lord = lord;
          below = (let low = was.below in let rises = g.since.epochs in omega arith);
          slot = was.slot;
          there = same ∙ was.there;
          same = was.same;
        }

        taken : ManagedIn k part (moment e (suc count)).nodes a.epoch → ⊥
        taken m =
            let active = by_nodes (suc count) m.manager m.state m.manages in
            let its = has_now (suc count) g.scene g.stands m.manager m.state active in
            let mine : m.manager ≡ j = sym its.lord ∙ (ap g.scene.lord m.epoch ∙ lord) in
            l.since (suc count) m.state (omega arith) (omega arith) (subst (λ x. active_at (moment e (suc count)) part x ≡ Some m.state) mine active) m.epoch

    last_on : (j : ℕ) (a : SlotState) → WasLast e (suc count) part j a → HasLast g.scene j a
    last_on j a l = by (l.last == suc count) refl
      where
        by : (t : Bool) → (l.last == suc count) ≡ t → HasLast g.scene j a
        by true test =
            has_now (suc count) g.scene g.stands j a
            (subst (λ at. active_at (moment e at) part j ≡ Some a) (eqb-true l.last (suc count) test) l.managed)
        by false test = last_stays j a l (before_next l.last count l.within test)

    next_front : Front (suc count)
    next_front = record { scene = g.scene; stands = g.stands; managed = managed_on; last = last_on }

  abbrev at_start : Scene
  at_start = start_scene false laws.starts_asking laws.first_manager laws.cleaner_starts laws.begins e.script setup.clients.1 setup.managers.0 part of_eight

  start_at : At (moment e 0) at_start
  unfolding start_world
  start_at = start_stands false laws.starts_asking laws.first_manager laws.cleaner_starts laws.begins e.script setup.clients.1 setup.managers.0 part of_eight

  start_managed : (epoch : ℕ) (z : SlotState) → at_start.net.slots epoch ≡ Some z → ManagedIn k part (moment e 0).nodes epoch
  unfolding start_world
  start_managed =
      managed_first false laws.starts_asking laws.first_manager laws.cleaner_starts laws.begins e.script setup.clients.1 setup.managers.0 part of_eight

  first_front : Front 0
  first_front = record {
    scene = at_start;
    stands = start_at;
    managed = λ epoch z fact. managed_in 0 epoch (start_managed epoch z fact);
    last = λ j a l. has_now 0 at_start start_at j a (subst (λ at. active_at (moment e at) part j ≡ Some a) (only_first l.last l.within) l.managed);
  }
    where
      only_first : (last : ℕ) → last ≤ 0 → last ≡ 0
      only_first last within = omega arith

  -- so it is at each moment
  pub front_at : (count : ℕ) → Front count
  front_at zero = first_front
  front_at (suc count) =
      let f = front_at count in
      next_front count f (goes (moment e count) (moment e (suc count)) f.scene (same_cluster count) f.stands
      (goes_on e.events count (start_world any_start e.script) e.world run))
