-- Both small worlds of a slot take one event of a run: where a node takes its step both go on, and stand to the moment after it.
use Rattle.std.proofs.Common.{◌≡◌, ◌⊎◌, ℕ, suc, ◌<◌, Bool, true, List, ◌++◌, Some, map, slice_get, slice_set, inl, inr, refl, sym, ap, subst, ◌∙◌}
use Rattle.core_world.specs.AnyNode.{any_step}
use Rattle.core_world.specs.declared.any_node.AnyNode.{AnyNode}
use Rattle.core_world.specs.declared.any_node.AnyNode.TheVariants as any
use Rattle.cleaner_serving.specs.declared.emptying.Emptying.{Emptying}
use Rattle.cleaner_node.specs.CleanerEvents as cleaners
use Rattle.cleaner_node.specs.declared.cleaner.Phase.TheVariants.{Opening, Serving}
use Rattle.cleaner_job.specs.declared.lasting.Lasting.{Lasting}
use Rattle.run_laws.specs.epoch_law.Slots.{BothStand, SameSlots}
use Rattle.log_owner.specs.declared.opening.Opening as openings
use Rattle.node_slots.specs.node_tie.RegistryEvents.{RegistrySound}
use Rattle.token_protocol.specs.Basics.{In}
use Rattle.version_model.specs.declared.act.Act.{Act}
use Rattle.wire_msg.specs.declared.packet.Do.{Do}
use Rattle.wire_msg.specs.declared.packet.Do.TheVariants.{Deliver}
use Rattle.wire_msg.specs.declared.packet.Packet.{Packet}
use Rattle.world_base.specs.Cluster.{place_of}
use Rattle.world_base.specs.declared.cluster.Cluster.{Cluster}
use Rattle.world_base.specs.declared.event.Event.{Event}
use Rattle.world_base.specs.declared.event.Event.TheVariants as events
use Rattle.world_base.specs.declared.world.World.{World}
use Rattle.world_base.specs.Events.{node_of, what_of}
use Rattle.world_base.specs.NextWorld.{next_world, sent_at}
use Rattle.world_base.specs.Runs.{MayHappen}
use Rattle.run_laws.proofs.world_index.Facts.{Grown}
use Rattle.run_laws.proofs.world_index.Senders.{IsSentBy, kinds_of_tokens}
use Rattle.run_laws.proofs.world_index.Tokens.{Entered, entered_stays}
use Rattle.run_laws.proofs.world_index.Turns as index_turns
use Rattle.run_laws.specs.world_index.Owes.{IndexOwes, Makes}
use Rattle.run_laws.specs.world_index.Standing as index
use Rattle.run_laws.proofs.world_law.ManagerTurns.{delivered}
use Rattle.run_laws.proofs.world_law.Sent.{was_sent}
use Rattle.run_laws.specs.world_law.Standing as tokens
use Rattle.run_laws.proofs.world_law.Turning.{next_keeps}
use Rattle.run_laws.proofs.world_law.Turns as token_turns
use Rattle.run_laws.proofs.world_law.Owes.{BooksGo, TurnOwes}
use Rattle.headline.specs.Moments.{moment, node_in}
use Rattle.headline.specs.Logs.Role.{OfCleaner}
use Rattle.run_laws.proofs.world_reads.AfterCleaner.{AdoptsWhatFlew}
use Rattle.run_laws.proofs.world_reads.Taking.{NothingHappens, Took, moment_next}
use Rattle.run_laws.specs.world_reads.Joint.{Joint, k}
use Rattle.xfs_base.specs.declared.node.NodeId.{NodeId}
use Rattle.xfs_base.specs.declared.node.NodeId.TheVariants.{Cleaner}
use Rattle.xfs_base.specs.Limits.{slot_count}
use Rattle.run_laws.proofs.world_reads.Below.{Below}
use Rattle.run_laws.specs.world_reads.LoggedRuns.{LoggedRun}

-- what is delivered was sent
pub sent_before : (w : World AnyNode) (event : Event) → MayHappen w event → (q : Packet) → what_of event ≡ Deliver q → In q w.sent
sent_before w (events.Begin node) may q premise = absurd (cc)
sent_before w (events.Tick node) may q premise = absurd (cc)
sent_before w (events.Deliver packet) may q premise =
    was_sent w.sent q (subst (λ x. MayHappen w (events.Deliver x)) (delivered packet q premise) may)

pub delivered_to : (event : Event) (q : Packet) → what_of event ≡ Deliver q → q.to ≡ node_of event
delivered_to (events.Begin node) q premise = absurd (cc)
delivered_to (events.Tick node) q premise = absurd (cc)
delivered_to (events.Deliver packet) q premise = ap (λ (x : Packet). x.to) (sym (delivered packet q premise))

-- of the same nodes, packets and acts the same holds
pub same_moment : (P : List AnyNode → List Packet → List Act → Type 0) (a b : List AnyNode) (x y : List Packet) (u v : List Act) → a ≡ b → x ≡ y → u ≡ v
    → P a x u → P b y v
same_moment P a b x y u v nodes sent acts premise = subst (λ n. P n y v) nodes (subst (λ s. P a s v) sent (subst (λ d. P a x d) acts premise))

module _ (logged : LoggedRun) (part : ℕ) where
  open logged use {estate as e, lines, texts, first}

  abbrev c : Cluster
  c = k logged part

  -- a moment of a run that stands to both
  pub record Both (count : ℕ) : Type 0 where
    pub tok : tokens.Scene
    pub tokens_stand : tokens.Stands true c part (moment e count).nodes (moment e count).sent (moment e count).acts RegistrySound tok
    pub idx : index.Scene
    pub index_stands : index.Stands c part texts.text first (moment e count).nodes (moment e count).sent RegistrySound idx
    pub slots : SameSlots tok.net idx.net
    pub entered : Entered c part tok idx.net

  abbrev pub both_of : (count : ℕ) → Joint logged part count → Both count
  both_of count joint = record {
    tok = joint.tok;
    tokens_stand = joint.tokens_stand;
    idx = joint.idx;
    index_stands = joint.index_stands;
    slots = joint.slots;
    entered = joint.entered;
  }

  module _ (count : ℕ) (event : Event) (b : Both count) where
    abbrev now : World AnyNode
    now = moment e count

    abbrev later : World AnyNode
    later = moment e (suc count)

    -- the cleaner's log is opened again with what was in flight where what was read back has that
    abbrev pub AdoptsThere : NodeId → AnyNode → Bool → Type 0
    AdoptsThere Cleaner (any.Cleaner node) adopted = (l : Lasting) (o : openings.Opening) (v : Emptying) → node.phase ≡ Opening l o
        → (cleaners.takes node.peers node.phase (what_of event)).state ≡ Serving v
        → AdoptsWhatFlew ((lines OfCleaner tt).stands count).moment adopted
    AdoptsThere name node adopted = Unit {0}

    -- what is owed of the node of this name, where it takes the event
    pub record IsOwedAs (name : NodeId) (node : AnyNode) : Type 0 where
      pub adopted : Bool
      pub adopts : AdoptsThere name node adopted
      pub tokens : TurnOwes true adopted (tokens.members c part) part (tokens.epoch_now c part b.tok) b.tok.net name node (what_of event)
      pub index : IndexOwes part texts.text b.idx.asked b.idx.net name node (what_of event)

    abbrev pub IsOwed : AnyNode → Type 0
    IsOwed node = IsOwedAs (node_of event) node

    -- the moment after it
    pub record Turned (node : AnyNode) (owed : IsOwed node) : Type 0 where
      pub then : Both (suc count)
      pub since : token_turns.Since c part b.tok then.tok
      pub books : BooksGo true owed.adopted b.tok.net then.tok.net (node_of event) node (what_of event)
      pub grown : Grown b.idx.net then.idx.net
      pub makes : Makes part texts.text b.idx.net then.idx.net (node_of event) node (what_of event)

    -- the node takes it, and both small worlds go on; or nothing happens
    abbrev pub Goes : ((node : AnyNode) → Took now event node → IsOwed node) → Type 0
    Goes owed = NothingHappens now event ⊎ ((node : AnyNode) × (took : Took now event node) × Turned node (owed node took))

    pub goes : Below → part < slot_count → now.cluster ≡ c → slice_get e.events count ≡ Some event → MayHappen now event
        → (owed : (node : AnyNode) → Took now event node → IsOwed node) → Goes owed
    goes laws of_eight cluster at may owed =
        next_keeps any_step Which now event (λ nodes sent acts. inl (record { nodes = nodes; sent = sent; acts = acts })) turned refl refl refl
      where
        next : World AnyNode
        next = next_world any_step now event

        name : NodeId
        name = node_of event

        what : Do
        what = what_of event

        Which : List AnyNode → List Packet → List Act → Type 0
        Which nodes sent acts = next.nodes ≡ nodes → next.sent ≡ sent → next.acts ≡ acts → Goes owed

        is_later : later ≡ next
        is_later = moment_next e count event at

        fact : (q : Packet) → what ≡ Deliver q → tokens.Fact c part b.tok q × (q.to ≡ name)
        fact q premise = (b.tokens_stand.facts q (sent_before now event may q premise), delivered_to event q premise)

        known : (q : Packet) → what ≡ Deliver q → index.SentBy part b.idx.net b.idx.asked q.from q.body × IsSentBy q.from q.body
        known q premise = (b.index_stands.facts q (sent_before now event may q premise), kinds_of_tokens c part b.tok q (fact q premise).0)

        turned : (place : ℕ) (node : AnyNode) (clock : ℕ) → place_of now.cluster name ≡ Some place → slice_get now.nodes place ≡ Some node
            → Which (slice_set now.nodes place (any_step node what).node) (now.sent ++ map (sent_at clock) (any_step node what).packets)
            (now.acts ++ (any_step node what).acts)
        turned place node clock where_is premise nodes sent acts = inr (
          node,
          took,
          record {
            then = record {
              tok = t.next;
              tokens_stand = same_moment (λ n s a. tokens.Stands true c part n s a RegistrySound t.next) _ later.nodes _ later.sent _ later.acts to_nodes
                  to_sent to_acts t.stands;
              idx = i.next;
              index_stands = same_moment (λ n s a. index.Stands c part texts.text first n s RegistrySound i.next) _ later.nodes _ later.sent _ later.acts
                  to_nodes to_sent to_acts i.stands;
              slots = laws.tokens.epochs.slots_stay_same true c part texts.text now.nodes place what _ _ name node b.tok t.next b.idx.net i.next.net b.slots
                  (record { placed = at_c; stands = premise; tokens = t.stands; leaves = t.stay; index = i.makes });
              entered =
                  entered_stays true c part now.nodes _ now.sent _ now.acts _ b.tok t.next b.tokens_stand t.stands t.since
                  what (λ q premise. (fact q premise).0)
                  b.idx i.next b.index_stands.placed i.stands.placed name i.came b.entered;
            };
            since = t.since;
            books = t.books;
            grown = i.grown;
            makes = i.makes;
          },
        )
          where
            took : Took now event node
            took = record { place = place; placed = where_is; stands = premise; nodes = nodes; acts = acts }

            at_c : place_of c name ≡ Some place
            at_c = subst (λ x. place_of x name ≡ Some place) cluster where_is

            there : node_in now.nodes (place_of c name) ≡ Some node
            there = ap (node_in now.nodes) at_c ∙ premise

            both : BothStand true c part texts.text first now.nodes now.sent now.acts b.tok b.idx
            both = record { tokens = b.tokens_stand; index = b.index_stands; same = b.slots }

            t : token_turns.Turned laws.tokens.nodes true c part of_eight now.nodes now.sent now.acts b.tok b.tokens_stand place clock what (owed node
                took).adopted
                name node
            t = token_turns.turns laws.tokens.nodes true c part of_eight now.nodes now.sent now.acts b.tok b.tokens_stand place clock what (owed node
                took).adopted
                name fact at_c node premise (owed node took).tokens

            i : index_turns.Turned laws.index.nodes c part of_eight texts.text first now.nodes now.sent b.idx b.index_stands place clock what name node
            i =
                index_turns.turns laws.index.nodes c part of_eight texts.text first
                now.nodes now.sent b.idx b.index_stands place clock what name known at_c node premise
                (owed node took).index
                (laws.tokens.epochs.tokens_are_given true c part texts.text first now.nodes now.sent now.acts b.tok b.idx name node what both there fact)

            to_nodes : slice_set now.nodes place (any_step node what).node ≡ later.nodes
            to_nodes = sym (ap (λ (w : World AnyNode). w.nodes) is_later ∙ nodes)

            to_sent : now.sent ++ map (sent_at clock) (any_step node what).packets ≡ later.sent
            to_sent = sym (ap (λ (w : World AnyNode). w.sent) is_later ∙ sent)

            to_acts : now.acts ++ (any_step node what).acts ≡ later.acts
            to_acts = sym (ap (λ (w : World AnyNode). w.acts) is_later ∙ acts)
