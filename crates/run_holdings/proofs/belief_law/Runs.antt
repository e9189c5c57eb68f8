-- At each moment of a run what a manager believes, or believed when it managed a slot last, is what the manager that reigns in the small world of tokens
-- believes: of a client that has promised its epoch, and of each client until one manages the slot at a greater epoch.
use Rattle.std.proofs.Common.{◌≡◌, ◌⊎◌, ⊎_elim, ℕ, ◌≤◌, ◌<◌, false, true, Some, is_some, sym, ap, subst, ◌∙◌, arith}
use Rattle.core_world.specs.AnyNode.{any_start, any_step}
use Rattle.core_world.specs.declared.any_node.AnyNode.{AnyNode}
use Rattle.node_base.specs.Setups.{IsSetup}
use Rattle.node_slots.specs.node_tie.Promised.{with_promise}
use Rattle.node_slots.specs.node_tie.RegistryEvents.{RegistrySound}
use Rattle.node_slots.specs.node_tie.Sight.{ForwardSeen, GrantSeen, SupplySeen}
use Rattle.run_holdings.proofs.belief_law.Fronts.{Front, HasLast, front_at, same_cluster}
use Rattle.run_holdings.proofs.belief_law.Small.{fetches_believed, forwards_believed, reigns_where_promised, supplies_believed}
use Rattle.run_holdings.specs.belief_law.Beliefs.{EveryRunsManagersBelieve}
use Rattle.headline.specs.Beliefs.{Believes, NoneLater, WasLast}
use Rattle.run_laws.proofs.world_law.Gets.{forward_told, grant_told, supply_told}
use Rattle.run_laws.proofs.world_law.Laws.{NodeLaws, ServesThere, serves_there}
use Rattle.run_laws.proofs.world_law.Sent.{was_sent}
use Rattle.headline.specs.Moments.{moment, node_in}
use Rattle.headline.specs.Owners.{tokens_at, tokens_of}
use Rattle.run_laws.specs.world_law.Standing.{Scene, SentBy, Stands, members}
use Rattle.slot_beliefs.specs.Beliefs.{share_of}
use Rattle.token_client.specs.State.{TokensState, epoch_of, held_of, is_in_slot}
use Rattle.token_client.specs.Transition.{accepts}
use Rattle.token_law.specs.Laws.{ActiveEpochsPromised, GrantsBelieved, HoldingsBelieved, Moment, Reigns}
use Rattle.token_law.specs.Net.{Net}
use Rattle.token_law.specs.Net.Packet.{ForwardSent}
use Rattle.token_manager.specs.SlotState.{SlotState}
use Rattle.token_protocol.specs.Basics.{In}
use Rattle.xfs_base.specs.Modes.{mode_number}
use Rattle.wire_msg.specs.declared.body.Body.{Body}
use Rattle.wire_msg.specs.declared.body.Body.TheVariants as body
use Rattle.wire_msg.specs.declared.packet.Packet.{Packet}
use Rattle.world_base.specs.Cluster.{cluster_of, place_of}
use Rattle.world_base.specs.declared.cluster.Cluster.{Cluster}
use Rattle.world_base.specs.declared.estate.Estate.{Estate}
use Rattle.world_base.specs.declared.world.World.{World}
use Rattle.world_base.specs.Runs.{IsRun, WasSent}
use Rattle.xfs_base.specs.declared.block.BlockId.{BlockId}
use Rattle.xfs_base.specs.declared.node.NodeId.{NodeId}
use Rattle.xfs_base.specs.declared.node.NodeId.TheVariants.{Client}
use Rattle.xfs_base.specs.declared.token.Mode.TheVariants.{Copy}
use Rattle.xfs_base.specs.Limits.{slot_count}

-- ---- a moment

-- the laws of the small world on which it stands
pub record Below : Type 0 where
  pub nodes : NodeLaws
  pub promised : ActiveEpochsPromised
  pub held : HoldingsBelieved
  pub granted : GrantsBelieved

module _ (below : Below) (e : Estate AnyNode) (setup : IsSetup e.script.setup) (run : IsRun any_step any_start e.script e.events e.world) (count part : ℕ)
    (of_eight : part < slot_count) where
  abbrev w : World AnyNode
  w = moment e count

  abbrev k : Cluster
  k = cluster_of e.script.setup

  f : Front below.nodes e setup run part of_eight count
  f = front_at below.nodes e setup run part of_eight count

  abbrev now : Scene
  now = f.scene

  st : Stands false k part w.nodes w.sent w.acts RegistrySound now
  st = f.stands

  abbrev net : Net
  net = with_promise 1 now.net

  module _ (j c : ℕ) (s : SlotState) (t : TokensState) (was_last : WasLast e count part j s) (serves_now : tokens_at w c ≡ Some t)
      (owed : (s.epoch ≡ epoch_of t.epochs part) ⊎ NoneLater e count part s.epoch) where
    manages : HasLast below.nodes e setup run part of_eight now j s
    manages = f.last j s was_last

    serves : ServesThere below.nodes k part of_eight now c t
    serves =
        serves_there below.nodes k part of_eight w.nodes w.sent w.acts now st c t
        (subst (λ cl. tokens_of (node_in w.nodes (place_of cl (Client c))) ≡ Some t) (same_cluster below.nodes e setup run part of_eight count) serves_now)

    module _ (b : BlockId) (inside : is_in_slot part b ≡ true) where
      here : Moment false (members k part) part net b
      here = record { run = st.runs; inside = inside }

      -- none manages the slot at a greater epoch in the small world, where none did in the run
      latest : NoneLater e count part s.epoch → (epoch : ℕ) (z : SlotState) → net.slots epoch ≡ Some z → epoch ≤ s.epoch
      latest none epoch z there =
          let m = f.managed epoch z there in
          let low = none m.at m.manager m.state m.within m.managed in
          let same = m.epoch_is in
          omega arith

      reigns : Reigns net s.epoch manages.slot
      reigns =
          ⊎_elim
          (λ promised. reigns_where_promised below.promised false (members k part) part net b here s.epoch manages.slot manages.there c serves.client
          (promised ∙ ap (λ (x : TokensState). epoch_of x.epochs part) (sym serves.tokens)))
          (λ none. record { active = manages.there; latest = latest none })
          owed

      -- what the slot that reigns there believes the manager believes, or believed when it managed the slot last
      by_beliefs : (n : ℕ) → n ≤ share_of manages.slot.beliefs b c → n ≤ share_of s.beliefs b c
      by_beliefs n least = subst (λ beliefs. n ≤ share_of beliefs b c) (ap (λ (z : SlotState). z.beliefs) manages.same) least

      its_held : mode_number (held_of t.blocks b).mode ≤ share_of s.beliefs b c
      its_held =
          subst (λ (x : TokensState). mode_number (held_of x.blocks b).mode ≤ share_of s.beliefs b c) serves.tokens
          (by_beliefs (mode_number (held_of (net.tokens c).blocks b).mode)
          (below.held false (members k part) part net b here s.epoch manages.slot reigns c serves.client serves.up))

      its_fetched : is_some (held_of t.blocks b).fetch ≡ true → 1 ≤ share_of s.beliefs b c
      its_fetched reads =
          by_beliefs 1
          (fetches_believed false (members k part) part net b here s.epoch manages.slot reigns c serves.client serves.up
          (subst (λ (x : TokensState). is_some (held_of x.blocks b).fetch ≡ true) (sym serves.tokens) reads))

    -- what was sent was sent there
    told : (packet : Packet) (m : Body) (to : NodeId) → WasSent w.sent packet → packet.to ≡ to → packet.body ≡ m → SentBy k part now packet.from to m
    told packet m to was at fact =
        subst (λ (x : Body). SentBy k part now packet.from to x) fact
        (subst (λ (x : NodeId). SentBy k part now packet.from x packet.body) at (st.facts packet (was_sent w.sent packet was)))

    -- what it would still accept it would there
    accepts_there : (P : TokensState → Type 0) → P t → P (net.tokens c)
    accepts_there P fact = subst P (sym serves.tokens) fact

    believes : Believes w part c s t
    believes = record {
      held = its_held;
      fetched = its_fetched;
      granted = λ packet m was to fact inside accepted.
          (let g : GrantSeen part now.net.sent (Client c) m = grant_told k part now packet.from (Client c) m (told packet (body.Grant m) (Client c) was to fact) in
          by_beliefs m.block inside (mode_number m.mode)
          (below.granted false (members k part) part net m.block (here m.block inside) s.epoch manages.slot (reigns m.block inside) c serves.client serves.up
          m.stamp m.inc m.req m.mode m.entry (g inside)
          (accepts_there (λ x. accepts x m.block m.stamp m.inc m.req m.mode ≡ true) accepted)));
      supplied = λ packet m was to fact inside accepted.
          (let g : SupplySeen part now.net.sent (Client c) m = supply_told k part now packet.from (Client c) m (told packet (body.Supply m) (Client c) was to fact) in
          by_beliefs m.block inside 1
          (supplies_believed false (members k part) part net m.block (here m.block inside) s.epoch manages.slot (reigns m.block inside) c serves.client serves.up
          m.stamp m.inc m.req m.ver m.value (g inside) (accepts_there (λ x. accepts x m.block m.stamp m.inc m.req Copy ≡ true) accepted)));
      forwarded = λ d packet m was to fact its inside accepted.
          (let g : ForwardSeen part now.net.sent (Client d) m =
          forward_told k part now packet.from (Client d) m (told packet (body.Forward m) (Client d) was to fact) in
          by_beliefs m.block inside 1
          (forwards_believed false (members k part) part net m.block (here m.block inside) s.epoch manages.slot (reigns m.block inside) c serves.client serves.up
          d m.stamp m.inc m.req m.ver (subst (λ x. In (ForwardSent d x m.block m.stamp m.inc m.req m.ver) now.net.sent) its (g inside))
          (accepts_there (λ x. accepts x m.block m.stamp m.inc m.req Copy ≡ true) accepted)));
    }

pub every_runs_managers_believe : Below → EveryRunsManagersBelieve
every_runs_managers_believe below e setup run count part of_eight j c s t was_last serves owed =
    believes below e setup run count part of_eight j c s t was_last serves owed
