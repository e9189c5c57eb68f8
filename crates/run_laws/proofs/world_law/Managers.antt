-- Each slot has one manager at an epoch, whose epoch is none above the registry's and promised by who serves, and which believes what is held.
use Rattle.std.proofs.Common.{◌≡◌, ℕ, Bool, ◌≤◌, ◌<◌, ◌==◌, true, false, List, Option, None, Some, refl, sym, ap, subst, ◌∙◌, arith}
use Rattle.std.proofs.Math.Nat.{mod-eq_of_lt}
use Rattle.core_world.specs.AnyNode.{any_start, any_step}
use Rattle.core_world.specs.declared.any_node.AnyNode.{AnyNode}
use Rattle.manager_node.specs.declared.phase.Phase.{Phase}
use Rattle.manager_node.specs.declared.phase.Phase.TheVariants.{Down, Waiting, Serving as Serves}
use Rattle.manager_slots.specs.declared.slot_phase.SlotPhase.{SlotPhase}
use Rattle.manager_slots.specs.declared.slot_phase.SlotPhase.TheVariants as phase
use Rattle.log_owner.specs.declared.promised.Promised.{Promised}
use Rattle.node_base.specs.Setups.{IsSetup}
use Rattle.node_slots.specs.node_tie.CleanerEvents.{CleanerStands}
use Rattle.node_slots.specs.node_tie.ManagerEvents.{HeldAt, PhaseAgrees, SameButPages}
use Rattle.headline.specs.Managers.{HasOneManager, active_at, active_in, active_of, epoch_at, epoch_by, phase_at, promised_in, promised_of, slot_in}
use Rattle.node_slots.specs.node_tie.RegistryEvents.{RegistrySound}
use Rattle.node_slots.specs.node_tie.Sight.{GrantSeen}
use Rattle.cleaner_node.specs.declared.cleaner.Phase.{Phase as CleanerPhase}
use Rattle.cleaner_node.specs.declared.cleaner.Phase.TheVariants as cleaners
use Rattle.token_client.specs.State.{TokensState, epoch_of, held_of, is_in_slot}
use Rattle.token_client.specs.Transition.{accepts}
use Rattle.node_slots.proofs.node_tie.SmallWorld.{with_promise}
use Rattle.slot_beliefs.specs.Beliefs.{share_of}
use Rattle.token_law.specs.Laws.{ActiveEpochsPromised, GrantsBelieved, HoldingsBelieved, Reigns}
use Rattle.token_manager.specs.SlotState.{SlotState}
use Rattle.token_protocol.specs.Basics.{In}
use Rattle.xfs_base.specs.Modes.{mode_number}
use Rattle.version_model.specs.declared.act.Act.{Act}
use Rattle.wire_msg.specs.declared.body.Body.{Body}
use Rattle.wire_msg.specs.declared.body.Body.TheVariants as body
use Rattle.wire_msg.specs.declared.packet.Packet.{Packet}
use Rattle.wire_msg.specs.declared.tokens.Grant.{Grant}
use Rattle.world_base.specs.Cluster.{cluster_of, place_of}
use Rattle.world_base.specs.declared.cluster.Cluster.{Cluster}
use Rattle.world_base.specs.declared.estate.Estate.{Estate}
use Rattle.world_base.specs.declared.world.World.{World}
use Rattle.world_base.specs.Runs.{IsRun}
use Rattle.run_laws.proofs.world_law.Gets.{grant_told}
use Rattle.run_laws.proofs.world_law.Laws.{NodeLaws, ServesThere, front, one_node, serves_there}
use Rattle.run_laws.proofs.world_law.Places.{behind}
use Rattle.run_laws.proofs.world_law.RegistryTurns.{held_known}
use Rattle.run_laws.proofs.world_law.Sent.{was_sent}
use Rattle.run_laws.specs.world_law.Standing.{ManagerSees, Scene, SentBy, Stands, epoch_now, members}
use Rattle.run_laws.specs.world_law.Managers.{EveryRunHasOneManager}
use Rattle.headline.specs.Moments.{moment, node_in}
use Rattle.headline.specs.Owners.{tokens_at, tokens_of}
use Rattle.xfs_base.specs.declared.block.BlockId.{BlockId}
use Rattle.xfs_base.specs.declared.node.NodeId.{NodeId}
use Rattle.xfs_base.specs.declared.node.NodeId.TheVariants.{Client, Cleaner, Manager, Registry}
use Rattle.xfs_base.proofs.Booleans.{equal_itself}
use Rattle.xfs_base.specs.Limits.{slot_count}

module _ {logs : Bool} (k : Cluster) (part : ℕ) (nodes : List AnyNode) (sent : List Packet) (acts : List Act) (s : Scene)
    (st : Stands logs k part nodes sent acts RegistrySound s) where
  -- a manager that manages the slot manages it in the small world
  pub record There (j : ℕ) (a : SlotState) : Type 0 where
    pub lord : s.lord a.epoch ≡ j
    pub below : a.epoch ≤ epoch_now k part s
    pub slot : SlotState
    pub there : s.net.slots a.epoch ≡ Some slot
    pub same : SameButPages slot a

  pub manages_there : (j : ℕ) (a : SlotState) → active_of part (node_in nodes (place_of k (Manager j))) ≡ Some a → There j a
  manages_there j a fact = by_place (place_of k (Manager j)) refl
    where
      by_slot : (p : SlotPhase) → PhaseAgrees (members k part) part s.net p → ((e : ℕ) → HeldAt p e → (s.lord e ≡ j) × (e ≤ epoch_now k part s))
          → active_in p ≡ Some a → There j a
      by_slot (phase.Active x) agrees owns has =
          let same : x.slot ≡ a = one_node x.slot a has in
          let o = owns x.slot.epoch refl in
          subst (λ y. There j y) same (record { lord = o.0; below = o.1; slot = agrees.slot; there = agrees.there; same = agrees.same })
      by_slot (phase.Taking t) agrees owns none = absurd (cc)
      by_slot (phase.Away epoch) agrees owns none = absurd (cc)
      by_slot (phase.Broken epoch seg) agrees owns none = absurd (cc)

      by_phase : (p : Phase) → ManagerSees k part s j p → active_in (slot_in part p) ≡ Some a → There j a
      by_phase (Down kept) sees none = absurd (cc)
      by_phase (Waiting kept hello) sees none = absurd (cc)
      by_phase (Serves v) sees has =
          by_slot (phase_at v.slots part) sees.agrees.table.here
          (λ e held. ((sees.owns e held).0, (let same = held_known (phase_at v.slots part) e held in let a = sees.within in omega arith))) has

      by_place : (o : Option ℕ) → place_of k (Manager j) ≡ o → There j a
      by_place None at = (let clash : None ≡ Some a = sym (ap (λ o. active_of part (node_in nodes o)) at) ∙ fact in absurd (cc))
      by_place (Some p) at =
          let b = behind k.clients k.managers j p at in
          by_phase (s.manager j).phase (st.managers j b.some b.within) (sym (ap (active_of part) (st.placed.managers j b.some b.within)) ∙ fact)

module _ (laws : NodeLaws) (small_promised : ActiveEpochsPromised) (small_believed : HoldingsBelieved) (small_acceptable : GrantsBelieved) (e : Estate AnyNode)
    (setup : IsSetup e.script.setup) (run : IsRun any_step any_start e.script e.events e.world)
    (count part : ℕ) (of_eight : part < slot_count) where
  abbrev w : World AnyNode
  w = moment e count

  abbrev k : Cluster
  k = cluster_of e.script.setup

  same_cluster : w.cluster ≡ k
  same_cluster = (front laws e setup run count part of_eight).0

  abbrev now : Scene
  now = (front laws e setup run count part of_eight).1.0

  st : Stands false k part w.nodes w.sent w.acts RegistrySound now
  st = (front laws e setup run count part of_eight).1.1

  managed : (j : ℕ) (s : SlotState) → active_at w part j ≡ Some s → There k part w.nodes w.sent w.acts now st j s
  managed j s fact =
      manages_there k part w.nodes w.sent w.acts now st j s (subst
      (λ cl. active_of part (node_in w.nodes (place_of cl (Manager j))) ≡ Some s) same_cluster fact)

  served : (c : ℕ) (t : TokensState) → tokens_at w c ≡ Some t → ServesThere laws k part of_eight now c t
  served c t fact =
      serves_there laws k part of_eight w.nodes w.sent w.acts now st c t
      (subst (λ cl. tokens_of (node_in w.nodes (place_of cl (Client c))) ≡ Some t) same_cluster fact)

  registry_epoch : epoch_at w part ≡ epoch_now k part now
  registry_epoch =
      subst (λ cl. epoch_by part (node_in w.nodes (place_of cl Registry)) ≡ epoch_now k part now) (sym same_cluster) (ap (epoch_by part) st.placed.registry)

  -- a block of the slot
  abbrev some_block : BlockId
  some_block = record { ino = record { 0 = part }; blk = 0 }

  of_slot : is_in_slot part some_block ≡ true
  of_slot = ap (λ n. n == part) (mod-eq_of_lt of_eight) ∙ equal_itself part

  -- the manager at the registry's epoch is the one that reigns in the small world
  newest : (j : ℕ) (s : SlotState) (at_j : active_at w part j ≡ Some s) → s.epoch ≡ epoch_at w part
      → Reigns (with_promise 1 now.net) s.epoch (managed j s at_j).slot
  newest j s at_j fact = record {
    active = (managed j s at_j).there;
    latest = λ i z there. (let h = (st.entered i z there).0 in let r = registry_epoch in omega arith);
  }

  -- a Grant that was sent to a client was sent there
  granted : (c : ℕ) (packet : Packet) (m : Grant) → In packet w.sent → packet.to ≡ Client c → packet.body ≡ body.Grant m
      → GrantSeen part now.net.sent (Client c) m
  granted c packet m sent to fact = grant_told k part now packet.from (Client c) m
      (subst (λ (x : Body). SentBy k part now packet.from (Client c) x) fact
      (subst (λ (x : NodeId). SentBy k part now packet.from x packet.body) to (st.facts packet sent)))

  -- the cleaner has promised what was entered
  cleaner_above : (j : ℕ) (s : SlotState) (p : Promised) → There k part w.nodes w.sent w.acts now st j s
      → promised_of (node_in w.nodes (place_of k Cleaner)) ≡ Some p → s.epoch ≤ epoch_of p.epochs part
  cleaner_above j s p x serves = by_phase now.cleaner.phase st.cleaner.1 (sym (ap promised_of st.placed.cleaner) ∙ serves)
    where
      by_phase : (q : CleanerPhase) → CleanerStands part now.net.promised (epoch_now k part now) q → promised_in q ≡ Some p → s.epoch ≤ epoch_of p.epochs part
      by_phase (cleaners.Down l) stands none = absurd (cc)
      by_phase (cleaners.Opening l o) stands none = absurd (cc)
      by_phase (cleaners.Serving e) stands has =
          subst (λ (y : Promised). s.epoch ≤ epoch_of y.epochs part) (one_node e.promised p has)
          (subst (λ y. s.epoch ≤ y) (sym stands.promises) (st.entered s.epoch x.slot x.there).4)

  pub has_one : HasOneManager w part
  has_one = record {
    one = λ j i s t at_j at_i same. sym (managed j s at_j).lord ∙ (ap now.lord same ∙ (managed i t at_i).lord);
    below = λ j s at_j. subst (λ x. s.epoch ≤ x) (sym registry_epoch) (managed j s at_j).below;
    promised = λ j c s t at_j at_c. (let x = managed j s at_j in let y = served c t at_c in
        subst (λ (z : TokensState). s.epoch ≤ epoch_of z.epochs part) y.tokens
        (small_promised false (members k part) part (with_promise 1 now.net) some_block
        (record { run = st.runs; inside = of_slot }) s.epoch x.slot x.there c y.client));
    cleaner_promised =
        λ j s p at_j serves.
        (let x = managed j s at_j in cleaner_above j s p x (subst (λ cl. promised_of (node_in w.nodes (place_of cl Cleaner)) ≡ Some p) same_cluster serves));
    believed = λ j c s t b at_j latest at_c inside. (let x = managed j s at_j in let y = served c t at_c in
        subst (λ (z : TokensState). mode_number (held_of z.blocks b).mode ≤ share_of s.beliefs b c) y.tokens
        (subst (λ beliefs. mode_number (held_of (now.net.tokens c).blocks b).mode ≤ share_of beliefs b c) (ap (λ (z : SlotState). z.beliefs) x.same)
        (small_believed false (members k part) part (with_promise 1 now.net) b (record { run = st.runs; inside = inside }) s.epoch x.slot
        (newest j s at_j latest) c y.client y.up)));
    acceptable = λ j c s t packet m at_j latest at_c sent to fact inside accepted. (let x = managed j s at_j in let y = served c t at_c in
        subst (λ beliefs. mode_number m.mode ≤ share_of beliefs m.block c) (ap (λ (z : SlotState). z.beliefs) x.same)
        (small_acceptable false (members k part) part (with_promise 1 now.net) m.block (record { run = st.runs; inside = inside }) s.epoch x.slot
        (newest j s at_j latest) c y.client y.up
        m.stamp m.inc m.req m.mode m.entry (granted c packet m (was_sent w.sent packet sent) to fact inside)
        (subst (λ (z : TokensState). accepts z m.block m.stamp m.inc m.req m.mode ≡ true) (sym y.tokens) accepted)));
  }

pub every_run_one_manager : NodeLaws → ActiveEpochsPromised → HoldingsBelieved → GrantsBelieved → EveryRunHasOneManager
every_run_one_manager laws small_promised small_believed small_acceptable e setup run count part of_eight =
    has_one laws small_promised small_believed small_acceptable e setup run count part of_eight
