-- In a run in which each server keeps its first generation the registry keeps the groups of the setup, whose servers are of their first generation.
use Rattle.std.proofs.Common.{◌≡◌, ℕ, zero, suc, ◌+◌, ◌-◌, ◌<◌, ◌≤◌, ◌==◌, true, List, [], ◌∷◌, Option, Some, length, map, nat_lt, find, replicate, slice_index, refl, sym, ap, subst, ◌∙◌, arith}
use Rattle.group_map.specs.declared.group.Group.{Group}
use Rattle.group_map.specs.GroupMapState.{GroupMapState}
use Rattle.group_map.specs.Groups.{first_layout, first_members, group_of, numbered, group_map_start}
use Rattle.group_map.specs.WellFormed.{IsServer}
use Rattle.log_flight.specs.Flights.{generation_of}
use Rattle.node_moves.proofs.registry_moves.Keeping.{Keeps, event_keeps}
use Rattle.registry.proofs.Losses.{loss_exists, loss_newer}
use Rattle.registry.specs.Board.{hears_server, may_lose}
use Rattle.registry.specs.BoardState.{BoardState}
use Rattle.registry_node.specs.declared.node.RegistryNode.{RegistryNode}
use Rattle.registry_node.specs.Events.{registry_step}
use Rattle.wire_msg.specs.declared.body.Body.TheVariants as body
use Rattle.wire_msg.specs.declared.packet.Do.{Do}
use Rattle.wire_msg.specs.declared.packet.Do.TheVariants.{Begin, Deliver, Tick}
use Rattle.wire_msg.specs.declared.packet.Packet.{Packet}
use Rattle.xfs_base.proofs.Booleans.{and_second, by_test}
use Rattle.xfs_base.specs.declared.node.NodeId.{NodeId}
use Rattle.xfs_base.specs.declared.node.NodeId.TheVariants.{Server}
use Rattle.xfs_base.specs.declared.setup.GroupSetup.{GroupSetup}
use Rattle.xfs_base.specs.Limits.{u32_end}

-- ---- the groups of a setup

ones : (count i : ℕ) → i < count → slice_index (replicate count 1) i ≡ 1
ones zero i less = absurd (omega (arith, less))
ones (suc count) zero less = refl
ones (suc count) (suc i) less = ones count i (omega (arith, less))

members_first : (servers : List ℕ) (place : ℕ) → place < length (first_members servers) → generation_of (first_members servers) place ≡ 1
members_first [] place less = absurd (omega (arith, less))
members_first (s ∷ servers) zero less = refl
members_first (s ∷ servers) (suc place) less = members_first servers place (omega (arith, less))

abbrev pub IsFirstGroup : Group → Type 0
IsFirstGroup group = (place : ℕ) → place < length group.members → generation_of group.members place ≡ 1

numbered_first : (first id : ℕ) (groups : List GroupSetup) (group : Group) → find (λ g. g.id == id) (numbered first (map first_layout groups)) ≡ Some group
    → IsFirstGroup group
numbered_first first id [] group fact = absurd cc
numbered_first first id (g ∷ groups) group fact =
    by_test (λ (o : Option Group). o ≡ Some group → IsFirstGroup group) (first == id)
    (Some (record { id = first; members = first_members g.servers; parity = g.parity; current = true }))
    (find (λ x. x.id == id) (numbered (first + 1) (map first_layout groups)))
    (λ t h. subst IsFirstGroup (same (record { id = first; members = first_members g.servers; parity = g.parity; current = true }) group h)
    (members_first g.servers))
    (λ t h. numbered_first (first + 1) id groups group h) fact
  where
    same : (a b : Group) → Some a ≡ Some b → a ≡ b
    same a b h = cc

pub group_is_first : (servers : ℕ) (groups : List GroupSetup) (id : ℕ) (group : Group) → group_of (group_map_start servers groups) id ≡ Some group
    → IsFirstGroup group
group_is_first servers groups id group fact = numbered_first 1 id groups group fact

-- ---- the registry

module _ (servers : ℕ) (groups : List GroupSetup) where
  abbrev pub KeepsGroups : BoardState → Type 0
  KeepsGroups b = b.groups ≡ group_map_start servers groups

  -- a Hello of a server tells of no loss
  abbrev pub TellsNone : NodeId → ℕ → Type 0
  TellsNone from inc = (v : ℕ) → from ≡ Server v → IsServer servers v → inc ≤ 1

  no_loss : (b : BoardState) (v inc : ℕ) → KeepsGroups b → TellsNone (Server v) inc → hears_server b v inc ≡ true → ⊥
  no_loss b v inc fact none hears =
      let may : may_lose (group_map_start servers groups) v inc ≡ true =
      ap (λ (m : GroupMapState). may_lose m v inc) (sym fact) ∙ and_second (nat_lt b.version u32_end) _ hears in
      let there : IsServer servers v = loss_exists (group_map_start servers groups) v inc may in
      let newer = loss_newer (group_map_start servers groups) v inc may in
      let some = there.0 in
      let within = there.1 in
      let one = ones servers (v - 1) (omega arith) in
      let limit = none v refl there in
      omega arith

  -- what a packet tells
  abbrev pub PacketTellsNone : Packet → Type 0
  PacketTellsNone p = (m : _) → p.body ≡ body.Hello m → TellsNone p.from m.inc

  abbrev pub DoTellsNone : Do → Type 0
  DoTellsNone Begin = Unit {0}
  DoTellsNone (Deliver p) = PacketTellsNone p
  DoTellsNone Tick = Unit {0}

  keeps : (r : RegistryNode) (what : Do) → DoTellsNone what → Keeps r what KeepsGroups (λ now e. Unit {0})
  keeps r what none = record {
    restarts = λ packet m manager came from hears fact. fact;
    loses = λ packet m server came from hears fact.
        absurd (no_loss r.board server m.inc fact (subst (λ n. TellsNone n m.inc) from (subst DoTellsNone came.event none m came.says)) hears);
    moves = λ slot manager can fact. fact;
    checkpoints = λ packet m came kept fact. fact;
    says = λ now e fact said. tt;
  }

  pub registry_so : (r : RegistryNode) (what : Do) → DoTellsNone what → KeepsGroups r.board → KeepsGroups (registry_step r what).node.board
  registry_so r what none fact = (event_keeps r what KeepsGroups (λ now e. Unit {0}) (keeps r what none) fact).state
