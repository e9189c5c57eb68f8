-- A Grant that was sent to a client by a moment, in its incarnation and of no earlier epoch than it has promised then, answers a want that it had sent by then.
use Rattle.std.proofs.Common.{◌≡◌, ℕ, ◌≤◌, ◌<◌, Bool, false, true, Some, refl, sym, ap, subst, ◌∙◌, arith}
use Rattle.core_world.specs.AnyNode.{any_start, any_step}
use Rattle.core_world.specs.declared.any_node.AnyNode.{AnyNode}
use Rattle.node_base.specs.Setups.{IsSetup}
use Rattle.node_slots.proofs.node_tie.SmallWorld.{with_promise}
use Rattle.node_slots.specs.node_tie.RegistryEvents.{RegistrySound}
use Rattle.node_slots.specs.node_tie.Sight.{GrantSeen}
use Rattle.token_client.specs.State.{TokensState, epoch_of, is_in_slot}
use Rattle.token_law.proofs.ClientViews.{shown_up}
use Rattle.token_law.proofs.Start.{always}
use Rattle.token_law.proofs.Views.{View}
use Rattle.token_law.specs.Laws.{IsClient, Moment}
use Rattle.token_law.specs.Net.{Net}
use Rattle.token_law.specs.Net.Packet.{GrantSent}
use Rattle.token_protocol.proofs.Invariant.{Owned, owned}
use Rattle.token_protocol.proofs.Laws.{epoch_promised}
use Rattle.token_protocol.specs.Basics.{In}
use Rattle.token_tie.specs.Seen.{SentOffer, entry_seen, offer_seen}
use Rattle.wire_msg.specs.declared.body.Body.{Body}
use Rattle.wire_msg.specs.declared.body.Body.TheVariants as body
use Rattle.wire_msg.specs.declared.packet.Packet.{Packet}
use Rattle.wire_msg.specs.declared.tokens.Grant.{Grant}
use Rattle.world_base.specs.Cluster.{cluster_of, place_of}
use Rattle.world_base.specs.declared.cluster.Cluster.{Cluster}
use Rattle.world_base.specs.declared.estate.Estate.{Estate}
use Rattle.world_base.specs.declared.world.World.{World}
use Rattle.world_base.specs.Runs.{IsRun}
use Rattle.run_laws.proofs.world_law.Gets.{grant_told}
use Rattle.run_laws.proofs.world_law.Laws.{NodeLaws, ServesThere, front, serves_there}
use Rattle.run_laws.specs.world_law.Standing.{Scene, SentBy, Stands, members}
use Rattle.headline.specs.Moments.{moment, node_in}
use Rattle.headline.specs.Owners.{tokens_at, tokens_of}
use Rattle.run_laws.proofs.world_law.RegistryTurns.{slot_below}
use Rattle.xfs_base.specs.Blocks.{slot_of}
use Rattle.xfs_base.specs.declared.block.BlockId.{BlockId}
use Rattle.xfs_base.specs.declared.entry.Entry.{Entry}
use Rattle.xfs_base.specs.declared.node.NodeId.{NodeId}
use Rattle.xfs_base.specs.declared.node.NodeId.TheVariants.{Client}
use Rattle.xfs_base.specs.declared.token.Mode.{Mode}
use Rattle.xfs_base.specs.declared.token.Stamp.{Stamp}
use Rattle.xfs_base.proofs.Booleans.{equal_itself}
use Rattle.xfs_base.specs.Limits.{slot_count}

-- ---- in the small world of a slot

module _ (logs : Bool) (many part : ℕ) (n : Net) (b : BlockId) (m : Moment logs many part n b) (c : ℕ) (fact : IsClient many c) (up : n.up c ≡ true) where
  v : View logs many part b n
  v = (always logs many part n (let w = fact.within in omega arith) m.run).good.views b m.inside

  asked_there : (stamp : Stamp) (inc req : ℕ) (mode : Mode) (entry : Entry) → In (GrantSent c b stamp inc req mode entry) n.sent → inc ≡ (n.tokens c).inc
      → epoch_of (n.tokens c).epochs (slot_of b.ino.0) ≤ stamp.epoch → req ≤ (n.tokens c).req
  asked_there stamp inc req mode entry sent life heard =
      let shown = shown_up logs many part b n v c fact.some fact.within up in
      let o : Owned v.world = owned logs many v.world v.steps in
      let offer : SentOffer c v.world stamp inc req mode (entry_seen entry) = v.sent (GrantSent c b stamp inc req mode entry) sent refl in
      let above = epoch_promised v.world o c (let k = v.many in let within = fact.within in omega arith) in
      let promised = shown.stamps.promised in
      let low = offer.low in
      let offered = offer.offered (omega arith) in
      let asked = o.book.offering.offer_request (offer_seen c stamp inc req mode (entry_seen entry)) offered
      (life ∙ (shown.boot ∙ sym shown.incarnation)) in
      let counted = shown.counted in
      omega arith

-- ---- in a run

module _ (laws : NodeLaws) (e : Estate AnyNode) (setup : IsSetup e.script.setup) (run : IsRun any_step any_start e.script e.events e.world) (count : ℕ)
    (b : BlockId) where
  part : ℕ
  part = slot_of b.ino.0

  of_eight : slot_of b.ino.0 < slot_count
  of_eight = slot_below b.ino.0

  abbrev w : World AnyNode
  w = moment e count

  abbrev k : Cluster
  k = cluster_of e.script.setup

  abbrev now : Scene
  now = (front laws e setup run count (slot_of b.ino.0) of_eight).1.0

  st : Stands false k (slot_of b.ino.0) w.nodes w.sent w.acts RegistrySound now
  st = (front laws e setup run count (slot_of b.ino.0) of_eight).1.1

  served : (c : ℕ) (t : TokensState) → tokens_at w c ≡ Some t → ServesThere laws k (slot_of b.ino.0) of_eight now c t
  served c t fact =
      serves_there laws k (slot_of b.ino.0) of_eight w.nodes w.sent w.acts now st c t
      (subst (λ cl. tokens_of (node_in w.nodes (place_of cl (Client c))) ≡ Some t) (front laws e setup run count (slot_of b.ino.0) of_eight).0 fact)

  -- a Grant that was sent to a client was sent there
  granted : (c : ℕ) (packet : Packet) (m : Grant) → In packet w.sent → packet.to ≡ Client c → packet.body ≡ body.Grant m
      → GrantSeen (slot_of b.ino.0) now.net.sent (Client c) m
  granted c packet m sent to fact = grant_told k (slot_of b.ino.0) now packet.from (Client c) m
      (subst (λ (x : Body). SentBy k (slot_of b.ino.0) now packet.from (Client c) x) fact
      (subst (λ (x : NodeId). SentBy k (slot_of b.ino.0) now packet.from x packet.body) to (st.facts packet sent)))

  pub grants_are_asked : (c : ℕ) (t : TokensState) → tokens_at (moment e count) c ≡ Some t → (packet : Packet) (m : Grant) → In packet (moment e count).sent
      → packet.to ≡ Client c → packet.body ≡ body.Grant m → m.block ≡ b → m.inc ≡ t.inc → epoch_of t.epochs (slot_of b.ino.0) ≤ m.stamp.epoch → m.req ≤ t.req
  grants_are_asked c t there packet m sent to fact block life heard =
      let y : ServesThere laws k (slot_of b.ino.0) of_eight now c t = served c t there in
      let inside : is_in_slot (slot_of b.ino.0) b ≡ true = equal_itself (slot_of b.ino.0) in
      let told : In (GrantSent c b m.stamp m.inc m.req m.mode m.entry) now.net.sent =
      subst (λ (x : BlockId). is_in_slot (slot_of b.ino.0) x ≡ true → In (GrantSent c x m.stamp m.inc m.req m.mode m.entry) now.net.sent) block
      (granted c packet m sent to fact) inside in
      subst (λ (z : TokensState). m.req ≤ z.req) y.tokens
      (asked_there false (members k (slot_of b.ino.0)) (slot_of b.ino.0) (with_promise 1 now.net) b (record { run = st.runs; inside = inside }) c y.client y.up
      m.stamp m.inc m.req m.mode m.entry told (life ∙ sym (ap (λ (z : TokensState). z.inc) y.tokens))
      (subst (λ (z : TokensState). epoch_of z.epochs (slot_of b.ino.0) ≤ m.stamp.epoch) (sym y.tokens) heard))
