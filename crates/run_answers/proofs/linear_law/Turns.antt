-- An event in which a client acts is one in which it takes its step; and an item that is open at an event began before it.
use Rattle.std.proofs.Common.{◌≡◌, ◌⊎◌, ◌<◌, ◌≤◌, ◌+◌, ◌-◌, ℕ, suc, Bool, true, false, List, [], ◌∷◌, ◌++◌, drop, length, nat_lt, slice_get, Some, inl, inr, refl, sym, ap, subst, ◌∙◌, arith}
use Rattle.std.proofs.Math.Seq.{drop-append_seam, drop-length}
use Rattle.std.proofs.lemmas.Bool.Decides.{nat_tests}
use Rattle.std.specs.List.{AllByRecursion}
use Rattle.client_node.specs.declared.client.Client.{Client}
use Rattle.client_node.specs.Phases.{client_step, lasting_of}
use Rattle.core_world.specs.AnyNode.{any_step}
use Rattle.core_world.specs.declared.any_node.AnyNode.{AnyNode}
use Rattle.core_world.specs.declared.any_node.AnyNode.TheVariants as any
use Rattle.node_base.specs.Beginning.{next_item}
use Rattle.node_base.specs.declared.items.Items.{Items}
use Rattle.serving_moves.proofs.item_moves.Keeping.{next_is}
use Rattle.token_protocol.specs.Basics.{In}
use Rattle.version_model.specs.declared.act.Act.{Act}
use Rattle.version_model.specs.declared.act.Act.TheVariants as act
use Rattle.version_model.specs.declared.answer.Answer.{Answer}
use Rattle.wire_msg.specs.declared.packet.Do.{Do}
use Rattle.wire_msg.specs.declared.packet.Do.TheVariants as whats
use Rattle.world_base.specs.Cluster.{place_of}
use Rattle.world_base.specs.declared.estate.Estate.{Estate}
use Rattle.world_base.specs.declared.event.Event.{Event}
use Rattle.world_base.specs.declared.event.Event.TheVariants.{Begin, Deliver, Tick}
use Rattle.world_base.specs.declared.world.World.{World}
use Rattle.world_base.specs.Events.{node_of, what_of}
use Rattle.world_base.specs.NextWorld.{next_world}
use Rattle.run_laws.proofs.world_law.Turning.{next_cluster}
use Rattle.run_laws.proofs.world_reads.Taking.{NothingHappens, Took, moment_next, node_then, takes_or_not}
use Rattle.headline.specs.Moments.{acts_in, moment, node_in, node_named}
use Rattle.xfs_base.specs.declared.node.NodeId.{NodeId}
use Rattle.xfs_base.specs.declared.node.NodeId.TheVariants as nodes
use Rattle.run_answers.proofs.linear_law.Moments.{AllSo, later_so}
use Rattle.run_answers.proofs.once_law.Runs.{closes_in, each_keeps, node_known}
use Rattle.run_answers.proofs.own_law.Others.{others_act}
use Rattle.headline.specs.Linear.{BeginsIn}
use Rattle.run_answers.specs.once_law.Ledgers.{EventKeepsLedger, MayBeAnswered, OpenHasBegun}
use Rattle.headline.specs.Items.{IsOpen, items_in, name_in}
use Rattle.run_answers.specs.own_law.Others.{IsNoClient}
use Rattle.headline.specs.Calls.{IsClients}

-- ---- a client's turn

-- The client takes its step in this event, and these are the acts of it.
pub record ClientTurn (e : Estate AnyNode) (count : ℕ) (event : Event) : Type 0 where
  pub client : Client
  pub there : node_named (moment e count) (node_of event) ≡ Some (any.Client client)
  pub acts : acts_in (moment e count) event ≡ (client_step client (what_of event)).acts
  pub grown : (moment e (suc count)).acts ≡ (moment e count).acts ++ (client_step client (what_of event)).acts
  pub behind : node_named (moment e (suc count)) (node_of event) ≡ Some (any.Client (client_step client (what_of event)).node)

module _ (e : Estate AnyNode) (count : ℕ) (event : Event) (happens : slice_get e.events count ≡ Some event) (a : Act)
    (among : In a (acts_in (moment e count) event)) where
  abbrev w : World AnyNode
  w = moment e count

  -- where whoever acts it is a client
  by_client : ((x : AnyNode) → Took w event x → In a (any_step x (what_of event)).acts → (c : Client) × (x ≡ any.Client c)) → ClientTurn e count event
  by_client whose = by (takes_or_not w event)
    where
      turn : (x : AnyNode) → Took w event x → acts_in w event ≡ (any_step x (what_of event)).acts → (c : Client) × (x ≡ any.Client c) → ClientTurn e count event
      turn x took acts is = record {
        client = is.0;
        there = ap (node_in w.nodes) took.placed ∙ (took.stands ∙ ap Some is.1);
        acts = acts ∙ ap (λ (y : AnyNode). (any_step y (what_of event)).acts) is.1;
        grown = ap (λ (v : World AnyNode). v.acts) (moment_next e count event happens)
            ∙ (took.acts ∙ ap (λ (y : AnyNode). w.acts ++ (any_step y (what_of event)).acts) is.1);
        behind = ap (λ (v : World AnyNode). node_named v (node_of event)) (moment_next e count event happens)
            ∙ (ap (λ k. node_in (next_world any_step w event).nodes (place_of k (node_of event))) (next_cluster any_step w event)
            ∙ (node_then w.cluster w refl event x took ∙ ap (λ (y : AnyNode). Some (any_step y (what_of event)).node) is.1));
      }

      by : NothingHappens w event ⊎ ((x : AnyNode) × Took w event x) → ClientTurn e count event
      by (inl none) = absurd (subst (In a) (ap (drop (length w.acts)) none.acts ∙ drop-length w.acts) among)
      by (inr took) =
          let acts : acts_in w event ≡ (any_step took.0 (what_of event)).acts =
          ap (drop (length w.acts)) took.1.acts ∙ drop-append_seam w.acts (any_step took.0 (what_of event)).acts in
          turn took.0 took.1 acts (whose took.0 took.1 (subst (In a) acts among))

  none_of : (acts : List Act) → AllByRecursion (λ x. IsClients x → ⊥) acts → IsClients a → In a acts → ⊥
  none_of [] none is found = found
  none_of (x ∷ acts) none is (inl same) = none.0 (subst IsClients same is)
  none_of (x ∷ acts) none is (inr found) = none_of acts none.1 is found

  no_other : (x : AnyNode) → IsNoClient x → IsClients a → In a (any_step x (what_of event)).acts → ⊥
  no_other x other is found = none_of (any_step x (what_of event)).acts (others_act x (what_of event) other) is found

  -- what clients alone act
  pub clients_turn : IsClients a → ClientTurn e count event
  clients_turn is = by_client whose
    where
      whose : (x : AnyNode) → Took w event x → In a (any_step x (what_of event)).acts → (c : Client) × (x ≡ any.Client c)
      whose (any.Client c) took found = (c, refl)
      whose (any.Manager m) took found = absurd (no_other (any.Manager m) tt is found)
      whose (any.Server v) took found = absurd (no_other (any.Server v) tt is found)
      whose (any.Cleaner c) took found = absurd (no_other (any.Cleaner c) tt is found)
      whose (any.Registry r) took found = absurd (no_other (any.Registry r) tt is found)

  -- what is acted in an event of a client
  pub named_turn : (client : ℕ) → nodes.Client client ≡ node_of event → ClientTurn e count event
  named_turn client named = by_client whose
    where
      known : (x : AnyNode) → Took w event x → name_in x ≡ nodes.Client client
      known x took = (node_known e count (node_of event) x (ap (node_in w.nodes) took.placed ∙ took.stands)).named ∙ sym named

      whose : (x : AnyNode) → Took w event x → In a (any_step x (what_of event)).acts → (c : Client) × (x ≡ any.Client c)
      whose (any.Client c) took found = (c, refl)
      whose (any.Manager m) took found = absurd (let clash = known (any.Manager m) took in cc)
      whose (any.Server v) took found = absurd (let clash = known (any.Server v) took in cc)
      whose (any.Cleaner c) took found = absurd (let clash = known (any.Cleaner c) took in cc)
      whose (any.Registry r) took found = absurd (let clash = known (any.Registry r) took in cc)

-- ---- since when an item is open

-- as many items have begun behind an event, or more
begun_on : (least : ℕ) (x : AnyNode) (what : Do) → EventKeepsLedger x what → least ≤ (items_in x).begun → least ≤ (items_in (any_step x what).node).begun
begun_on least x what kept low = by kept.ledger.begun
  where
    by : ((items_in (any_step x what).node).begun ≡ (items_in x).begun)
        ⊎ ((what ≡ whats.Begin) × (next_item (items_in x) ≡ Some (items_in (any_step x what).node).begun)) → least ≤ (items_in (any_step x what).node).begun
    by (inl same) = omega arith
    by (inr more) = (let one = next_is (items_in x) (items_in (any_step x what).node).begun more.1 in omega arith)

module _ (e : Estate AnyNode) (name : NodeId) (least : ℕ) where
  -- the node of this name has begun so many items
  abbrev HasBegun : NodeId → AnyNode → Type 0
  HasBegun n x = n ≡ name → least ≤ (items_in x).begun

  begun_stays : (count : ℕ) (event : Event) (x : AnyNode) → node_named (moment e count) (node_of event) ≡ Some x → HasBegun (node_of event) x
      → HasBegun (node_of event) (any_step x (what_of event)).node
  begun_stays count event x there has is =
      begun_on least x (what_of event) (each_keeps x (what_of event) (node_known e count (node_of event) x there).waits) (has is)

  pub begun_later : (more count later : ℕ) → later ≡ more + count → AllSo HasBegun (moment e count) → AllSo HasBegun (moment e later)
  begun_later more count later same all = later_so e HasBegun begun_stays more count later same all

same_node : (a b : AnyNode) → Some a ≡ Some b → a ≡ b
same_node a b fact = cc

-- an item that a client has begun by a moment it began in an event before
pub began_before : (e : Estate AnyNode) (client item count place : ℕ) (x : AnyNode) → node_named (moment e count) (nodes.Client client) ≡ Some x
    → item ≤ (items_in x).begun → BeginsIn e client item place → place < count
began_before e client item count place x there low begins = by (nat_lt place count) refl
  where
    all : AllSo (HasBegun e (nodes.Client client) item) (moment e count)
    all n y fact is =
        let same : x ≡ y = same_node x y (sym there ∙ (ap (node_named (moment e count)) (sym is) ∙ fact)) in
        subst (λ (z : AnyNode). item ≤ (items_in z).begun) same low

    by : (t : Bool) → nat_lt place count ≡ t → place < count
    by true less = grind (arith, nat_tests)
    by false more =
        let least : count ≤ place = grind (arith, nat_tests) in
        let sum : place ≡ (place - count) + count = omega arith in
        let high : item ≤ (items_in begins.node).begun =
        begun_later e (nodes.Client client) item (place - count) count place sum all (nodes.Client client) begins.node begins.its refl in
        let next = next_is (items_in begins.node) item begins.next in
        absurd (omega arith)

-- what a client answers in an event it has begun by its end
pub answered_has_begun : (x : AnyNode) (what : Do) → OpenHasBegun (items_in x) → (node : NodeId) (item : ℕ) (a : Answer)
    → In (act.Answered node item a) (any_step x what).acts → item ≤ (items_in (any_step x what).node).begun
answered_has_begun x what sound node item a among =
    by (closes_in (name_in x) (MayBeAnswered (items_in x) what after) (IsOpen after) (any_step x what).acts kept.ledger.closes node item a among).1
  where
    kept : EventKeepsLedger x what
    kept = each_keeps x what sound

    after : Items
    after = items_in (any_step x what).node

    by : MayBeAnswered (items_in x) what after item → item ≤ after.begun
    by (inl waits) = begun_on item x what kept (sound item waits)
    by (inr begins) = (let same : after.begun ≡ item = begins.1.1 in omega arith)

-- by an event that begins an item of a client it begins there
pub begins_in : (e : Estate AnyNode) (count : ℕ) (event : Event) → slice_get e.events count ≡ Some event → (client : ℕ) → nodes.Client client ≡ node_of event
    → (c : Client) → node_named (moment e count) (node_of event) ≡ Some (any.Client c) → what_of event ≡ whats.Begin → (item : ℕ)
    → next_item (lasting_of c.phase).items ≡ Some item → BeginsIn e client item count
begins_in e count event happens client named c there begins item next = record {
  happens = happens ∙ ap Some (begin_is event begins ∙ ap Begin (sym named));
  node = any.Client c;
  its = ap (node_named (moment e count)) named ∙ there;
  next = next;
}
  where
    begin_is : (event : Event) → what_of event ≡ whats.Begin → event ≡ Begin (node_of event)
    begin_is (Begin node) fact = refl
    begin_is (Deliver packet) fact = absurd cc
    begin_is (Tick node) fact = absurd cc
