-- What an event of a client finds of blocks, and what is held behind it.
use Rattle.std.proofs.Common.{◌≡◌, ◌+◌, ◌<◌, ◌&&◌, ℕ, suc, true, false, cond, List, [], ◌∷◌, ◌++◌, slice_get, Option, Some, None, is_some, nat_lt, refl, sym, ap, subst, ◌∙◌, arith}
use Rattle.std.specs.List.{AllByRecursion}
use Rattle.client_node.specs.Phases.{client_has_room, client_step, lasting_of, phase_has_room}
use Rattle.client_node.specs.Room.{serving_has_room}
use Rattle.client_node.specs.declared.client.Client.{Client}
use Rattle.client_node.specs.declared.phase.Phase.TheVariants.{Down, Opening, Serving as Serves}
use Rattle.client_node.specs.declared.phase.Phase.{Phase}
use Rattle.client_serving.specs.Packets.{serving_take}
use Rattle.client_serving.specs.declared.serving.Serving.{Serving}
use Rattle.core_world.specs.AnyNode.{any_start, any_step}
use Rattle.core_world.specs.declared.any_node.AnyNode.TheVariants as any
use Rattle.core_world.specs.declared.any_node.AnyNode.{AnyNode}
use Rattle.headline.specs.Calls.{held_in, of_items, writes_of}
use Rattle.headline.specs.Moments.{moment, node_in, node_named}
use Rattle.headline.specs.Owners.{tokens_at, tokens_in, tokens_of}
use Rattle.headline.specs.Restarts.{NoDoubtfulRestart}
use Rattle.headline.specs.Updates.{versions_behind}
use Rattle.headline.specs.Versions.{IsNewest, history_at}
use Rattle.node_base.specs.Room.{has_room}
use Rattle.node_base.specs.Setups.{IsSetup}
use Rattle.node_slots.specs.node_tie.Asks.{needed}
use Rattle.node_slots.specs.node_tie.ClientEvents.{ClientAgrees, ClientStands, GetsBody}
use Rattle.node_slots.specs.node_tie.RegistryEvents.{RegistrySound}
use Rattle.node_slots.specs.node_tie.Sight.{GrantSeen}
use Rattle.run_answers.proofs.change_law.Arriving as arriving
use Rattle.run_answers.proofs.change_law.Finding.{AreNewest, versions_then}
use Rattle.run_answers.proofs.change_law.Fresh.{Fresh}
use Rattle.run_answers.proofs.change_law.Granted.{granted_is_newest}
use Rattle.run_answers.proofs.change_law.Turns.{Freshes, Walks, turned}
use Rattle.run_answers.proofs.linear_law.Histories.{IsNoReturn}
use Rattle.run_answers.proofs.once_law.Runs.{Known, node_known}
use Rattle.run_answers.proofs.own_law.Runs.{runs_act, sound_at}
use Rattle.run_laws.proofs.world_law.Gets.{client_gets, grant_told}
use Rattle.run_laws.proofs.world_law.Laws as world
use Rattle.run_laws.proofs.world_law.Places.{behind}
use Rattle.run_laws.proofs.world_law.RegistryTurns.{slot_below}
use Rattle.run_laws.proofs.world_law.Turns.{delivered_fact}
use Rattle.run_laws.proofs.world_reads.TurnRun.{may_at, moment_cluster}
use Rattle.run_laws.specs.world_law.Fallen.{EveryRunHasFallsApart, NobodyHoldsWhatFell}
use Rattle.run_laws.specs.world_law.Standing.{Fact, Scene, SentBy, Stands, epoch_now, members}
use Rattle.run_laws.specs.world_reads.Holders.{EveryRunsHoldersAreNewest}
use Rattle.run_laws.specs.world_reads.Indexes.{EveryRunsIndexesAreItsOwn}
use Rattle.run_laws.specs.world_reads.Joint.{Joint}
use Rattle.run_laws.specs.world_reads.Legal.{EveryRunsActsAreLegal}
use Rattle.run_laws.specs.world_reads.LoggedRuns.{LoggedRun, logged_run}
use Rattle.run_laws.specs.world_reads.Moments.{EveryRunStands}
use Rattle.run_laws.specs.world_reads.TokensBelow.{BlocksMakeLegal}
use Rattle.token_client.specs.Held.{may_write}
use Rattle.token_client.specs.State.{TokensState, held_of}
use Rattle.token_client.specs.Transition.{accepts, on_granted}
use Rattle.token_law.specs.Laws.{ActsAreLegal, IsClient}
use Rattle.token_law.specs.Net.Packet.{GrantSent}
use Rattle.token_protocol.specs.Basics.{In}
use Rattle.version_model.specs.declared.act.Act.TheVariants as act
use Rattle.version_model.specs.declared.act.Act.{Act}
use Rattle.wire_msg.specs.declared.body.Body.TheVariants as body
use Rattle.wire_msg.specs.declared.body.Body.{Body}
use Rattle.wire_msg.specs.declared.packet.Do.TheVariants.{Deliver}
use Rattle.wire_msg.specs.declared.packet.Packet.{Packet}
use Rattle.wire_msg.specs.declared.tokens.Grant.{Grant}
use Rattle.world_base.specs.Cluster.{cluster_of, place_of}
use Rattle.world_base.specs.Events.{node_of, what_of}
use Rattle.world_base.specs.NextWorld.{start_world}
use Rattle.world_base.specs.Runs.{IsRun, MayHappen}
use Rattle.world_base.specs.declared.cluster.Cluster.{Cluster}
use Rattle.world_base.specs.declared.estate.Estate.{Estate}
use Rattle.world_base.specs.declared.event.Event.{Event}
use Rattle.world_base.specs.declared.world.World.{World}
use Rattle.xfs_base.proofs.Booleans.{and_second, contrary, equal_itself}
use Rattle.xfs_base.specs.Blocks.{same_block, slot_of}
use Rattle.xfs_base.specs.Limits.{slot_count, u64_end}
use Rattle.xfs_base.specs.declared.block.BlockId.{BlockId}
use Rattle.xfs_base.specs.declared.node.NodeId.TheVariants as nodes
use Rattle.xfs_base.specs.declared.node.NodeId.{NodeId}
use Rattle.xfs_base.specs.declared.token.Mode.TheVariants.{Own}
use Rattle.xfs_base.specs.declared.token.Mode.{Mode}

-- the laws that it stands on
pub record Below : Type 0 where
  pub stands : EveryRunStands
  pub legal : ActsAreLegal
  pub blocks : BlocksMakeLegal
  pub nodes : world.NodeLaws
  pub apart : EveryRunHasFallsApart
  pub nobody : NobodyHoldsWhatFell
  pub own : EveryRunsIndexesAreItsOwn
  pub holders : EveryRunsHoldersAreNewest
  pub acts : EveryRunsActsAreLegal

pub one_node : (a b : AnyNode) → Some a ≡ Some b → a ≡ b
one_node a b same = cc

pub one_client : (a b : Client) → any.Client a ≡ any.Client b → a ≡ b
one_client a b same = cc

has_value : (o : Option (Option (List ℕ))) → is_some o ≡ true → (value : Option (List ℕ)) × (o ≡ Some value)
has_value None some = contrary some
has_value (Some v) some = (v, refl)

-- the client takes its step in this event
pub record StepsIn (e : Estate AnyNode) (count : ℕ) (event : Event) (c : Client) : Type 0 where
  pub there : node_named (moment e count) (node_of event) ≡ Some (any.Client c)
  pub behind : node_named (moment e (suc count)) (node_of event) ≡ Some (any.Client (client_step c (what_of event)).node)
  pub grown : (moment e (suc count)).acts ≡ (moment e count).acts ++ (client_step c (what_of event)).acts

module _ (below : Below) (e : Estate AnyNode) (setup : IsSetup e.script.setup)
    (run : IsRun any_step any_start e.script e.events e.world) (count : ℕ) (event : Event) (happens : slice_get e.events count ≡ Some event)
    (undoubted : NoDoubtfulRestart e (suc count)) (c : Client) (steps : StepsIn e count event c) where
  abbrev pub w : World AnyNode
  w = moment e count

  abbrev pub k : Cluster
  k = cluster_of e.script.setup

  abbrev pub number : ℕ
  number = (lasting_of c.phase).number

  abbrev pub versions : BlockId → ℕ
  versions b = versions_behind w.acts b

  pub known : Known e (node_of event) (any.Client c)
  known = node_known e count (node_of event) (any.Client c) steps.there

  here : node_in w.nodes (place_of k (nodes.Client number)) ≡ Some (any.Client c)
  here =
      subst (λ (cl : Cluster). node_in w.nodes (place_of cl (nodes.Client number)) ≡ Some (any.Client c)) (moment_cluster e count)
      (ap (node_named w) known.named ∙ steps.there)

  -- it is one of the clients
  member : (part : ℕ) → IsClient (members k part) number
  member part = by (place_of k (nodes.Client number)) refl
    where
      by : (o : Option ℕ) → place_of k (nodes.Client number) ≡ o → IsClient (members k part) number
      by None at = (let clash : None ≡ Some (any.Client c) = sym (ap (node_in w.nodes) at) ∙ here in absurd (cc))
      by (Some p) at = (let b = behind 0 k.clients number p at in record { some = b.some; within = (let limit = b.within in omega arith) })

  may : MayHappen w event
  may = may_at e.events count event (start_world any_start e.script) e.world run happens

  pub undoubted_before : NoDoubtfulRestart e count
  undoubted_before r n less = undoubted r n (omega (arith, less))

  abbrev logged : LoggedRun
  logged =
      let base = below.stands.setting.0 in
      let lines = below.stands.lines base e setup run in
      logged_run base e lines (below.stands.texts base e setup lines)

  joints : (part : ℕ) → part < slot_count → Joint logged part count
  joints =
      let base = below.stands.setting.0 in
      let lines = below.stands.lines base e setup run in
      (below.stands.moments base below.stands.setting.1 e setup run lines (below.stands.texts base e setup lines) count undoubted_before).joints

  -- ---- a grant to own

  module _ (q : Packet) (comes : what_of event ≡ Deliver q) (s : Serving) (is : Serves s ≡ c.phase) where
    its_tokens : tokens_of (node_in w.nodes (place_of k (nodes.Client number))) ≡ Some s.tokens
    its_tokens = ap tokens_of here ∙ ap tokens_in (sym is)

    grant_newest : (g : Grant) → body.Grant g ≡ q.body → g.mode ≡ Own
        → accepts s.tokens g.block g.stamp g.inc g.req Own ≡ true → nat_lt g.entry.ver u64_end ≡ true
        → may_write (held_of (on_granted s.tokens g.block g.stamp g.inc g.req Own g.entry).state.blocks g.block) ≡ true → g.entry.ver ≡ versions g.block
    grant_newest g same own taken low able =
        granted_is_newest below.legal below.blocks below.nodes logged count (below.apart e setup run count) joints g.block number there.client there.up g.stamp g.inc
        g.req g.entry sent
        (subst (λ (t : TokensState). accepts t g.block g.stamp g.inc g.req Own ≡ true) (sym there.tokens) taken) low
        (subst (λ (t : TokensState). may_write (held_of (on_granted t g.block g.stamp g.inc g.req Own g.entry).state.blocks g.block) ≡ true) (sym there.tokens) able)
      where
        part : ℕ
        part = slot_of g.block.ino.0

        joint : Joint logged part count
        joint = joints part (slot_below g.block.ino.0)

        there : world.ServesThere below.nodes k part (slot_below g.block.ino.0) joint.tok number s.tokens
        there = world.serves_there below.nodes k part (slot_below g.block.ino.0) w.nodes w.sent w.acts joint.tok joint.tokens_stand number s.tokens its_tokens

        fact : Fact k part joint.tok q × (q.to ≡ node_of event)
        fact = delivered_fact below.nodes true k part (slot_below g.block.ino.0) w.sent joint.tok joint.tokens_stand.facts w refl event may q comes

        told : SentBy k part joint.tok q.from q.to (body.Grant g)
        told = subst (SentBy k part joint.tok q.from q.to) (sym same) fact.0

        seen : GrantSeen part joint.tok.net.sent (nodes.Client number) g
        seen = subst (λ (n : NodeId). GrantSeen part joint.tok.net.sent n g) (fact.1 ∙ sym known.named) (grant_told k part joint.tok q.from q.to g told)

        sent : In (GrantSent number g.block g.stamp g.inc g.req Own g.entry) joint.tok.net.sent
        sent = subst (λ (m : Mode). In (GrantSent number g.block g.stamp g.inc g.req m g.entry) joint.tok.net.sent) own (seen (equal_itself part))

  -- ---- what is known of grants

  first_slot : 0 < slot_count
  first_slot = omega arith

  abbrev scene : Scene
  scene = (world.front below.nodes e setup run count 0 first_slot).1.0

  stands : Stands false k 0 w.nodes w.sent w.acts RegistrySound scene
  stands = (world.front below.nodes e setup run count 0 first_slot).1.1

  its_scene : scene.client number ≡ c
  its_scene =
      one_client (scene.client number) c (one_node (any.Client (scene.client number)) (any.Client c)
      (sym (stands.placed.clients number (member 0).some (member 0).within) ∙ here))

  module _ (s : Serving) (is : Serves s ≡ c.phase) (room : client_has_room c ≡ true) where
    same : (scene.client number).phase ≡ Serves s
    same = ap (λ (x : Client). x.phase) its_scene ∙ sym is

    agreed : ClientAgrees false 0 number scene.net (Serves s) × ClientStands 0 (epoch_now k 0 scene) number scene.net (Serves s)
    agreed =
        subst (λ (p : Phase). ClientAgrees false 0 number scene.net p × ClientStands 0 (epoch_now k 0 scene) number scene.net p) same
        (stands.clients number (member 0).some (member 0).within)

    has : serving_has_room s ≡ true
    has =
        subst (λ (p : Phase). phase_has_room p ≡ true) (sym is)
        (and_second (has_room (lasting_of c.phase).questions.last) (phase_has_room c.phase)
        (and_second (has_room (lasting_of c.phase).inc) (has_room (lasting_of c.phase).questions.last && phase_has_room c.phase) room))

    packet_fresh : (q : Packet) → what_of event ≡ Deliver q → Fresh versions (needed s.call) (serving_take s q).state
    packet_fresh q comes =
        arriving.packet_fresh (members k 0) 0 (epoch_now k 0 scene) number first_slot (member 0).some (member 0).within scene.net s agreed.0 agreed.1 has versions q
        (subst (λ (p : Phase). GetsBody 0 (epoch_now k 0 scene) number scene.net p q.body) same gets) (knows q.body refl)
      where
        fact : Fact k 0 scene q × (q.to ≡ node_of event)
        fact = delivered_fact below.nodes false k 0 first_slot w.sent scene stands.facts w refl event may q comes

        gets : GetsBody 0 (epoch_now k 0 scene) number scene.net (scene.client number).phase q.body
        gets = (client_gets k 0 scene false number q fact.0 (fact.1 ∙ sym known.named) tt).brings

        Knows : Body → Type 0
        Knows m = arriving.KnowsBody (members k 0) 0 (epoch_now k 0 scene) number first_slot (member 0).some (member 0).within scene.net s agreed.0 agreed.1 has versions m

        knows : (m : Body) → m ≡ q.body → Knows m
        knows (body.Grant g) its = λ own low taken able. grant_newest q comes s is g its own taken low able
        knows _ its = tt

    freshes : Freshes versions s (what_of event)
    freshes = record {
      sorted = agreed.1.asks.sound.sorted;
      now = arriving.now_whole (members k 0) 0 (epoch_now k 0 scene) number first_slot (member 0).some (member 0).within scene.net s agreed.0 agreed.1 has versions;
      tick = arriving.tick_whole (members k 0) 0 (epoch_now k 0 scene) number first_slot (member 0).some (member 0).within scene.net s agreed.0 agreed.1 has versions;
      packet = packet_fresh;
    }

  -- ---- what is held behind the event

  abbrev pub after : Phase
  after = (client_step c (what_of event)).node.phase

  abbrev pub acts : List Act
  acts = (client_step c (what_of event)).acts

  writes_same : (b : BlockId) (xs : List Act) → writes_of b (of_items xs) ≡ writes_of b xs
  writes_same b [] = refl
  writes_same b (act.Filed seg ∷ xs) = writes_same b xs
  writes_same b (act.Lost node seg ∷ xs) = writes_same b xs
  writes_same b (act.Wrote client block value ∷ xs) = ap (λ (n : ℕ). cond (same_block block b) (suc n) n) (writes_same b xs)
  writes_same b (_ ∷ xs) = writes_same b xs

  -- where none of its acts is that a client is back
  pub newest : (q : Phase) → q ≡ after → AllByRecursion IsNoReturn acts → AreNewest versions (held_in q) (of_items acts)
  newest (Down l) is none b held valued = contrary held
  newest (Opening l o) is none b held valued = contrary held
  newest (Serves s) is none b held valued =
      let v = has_value (held_of s.tokens.blocks b).value valued in
      let there : tokens_at (moment e (suc count)) number ≡ Some s.tokens =
      ap (λ n. tokens_of (node_named (moment e (suc count)) n)) known.named ∙ (ap tokens_of steps.behind ∙ ap tokens_in (sym is)) in
      let is_newest : IsNewest (history_at (moment e (suc count)) b) (held_of s.tokens.blocks b).ver v.0 =
      below.holders e setup run (suc count) undoubted b number s.tokens v.0 there held v.1 in
      let ver : (held_of s.tokens.blocks b).ver ≡ versions_behind (moment e (suc count)).acts b = is_newest.newest in
      let all : versions_behind (moment e (suc count)).acts b ≡ versions b + writes_of b acts =
      ap (λ (xs : List Act). versions_behind xs b) steps.grown ∙ versions_then w.acts acts b none in
      let among : writes_of b (of_items acts) ≡ writes_of b acts = writes_same b acts in
      omega arith

  pub walks : Walks number versions c.phase (what_of event) (of_items acts) after
  walks =
      turned number versions c (what_of event) refl (sound_at e count (node_of event) (any.Client c) steps.there) freshes
      ((runs_act e).events count event happens c steps.there).acts
