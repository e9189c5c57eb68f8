-- Journals that are merged to one run, by clock and place.
use Rattle.std.specs.Prelude.{◌≡◌, ℕ, ◌+◌, ◌<◌, ◌≤◌, nat_lt, true, List, [], ◌∷◌, length, map, slice_get, slice_set, Option, Some, None, ◌⊎◌, if◌then◌else◌}
use Rattle.std.specs.List.{Contains, filter_map}
use Rattle.wire_msg.specs.declared.packet.Do.{Do}
use Rattle.wire_msg.specs.declared.packet.Packet.{Packet}
use Rattle.wire_msg.specs.NodeStep.{NodeStep}
use Rattle.xfs_base.specs.declared.node.NodeId.{NodeId}
use Rattle.xfs_base.specs.Nodes.{same_node}
use Rattle.world_base.specs.declared.event.Event.{Event}
use Rattle.world_base.specs.declared.world.World.{World}
use Rattle.world_base.specs.Cluster.{node_at, node_count, place_of}
use Rattle.world_base.specs.Events.{node_of, what_of}
use Rattle.world_base.specs.NextWorld.{clock_at, next_world}
use Rattle.world_base.specs.Runs.{WasSent}
use Rattle.journals.specs.declared.moment.Moment.{Moment}
use Rattle.journals.specs.Journals.{IsTold, delivered_in, is_stamped, replayed, sent_in, whats}

-- the clock of the first moment
abbrev pub head_clock : List Moment → Option ℕ
head_clock [] = None
head_clock (m ∷ ms) = Some m.clock

-- of two moments the one with the lesser clock comes first, of equal ones that of the lesser place
abbrev pub IsAfter : ℕ → ℕ → ℕ → ℕ → Type 0
IsAfter c p k q = (c < k) ⊎ ((c ≡ k) × (p < q))

-- no rest begins before this
abbrev pub IsLeast : List (List Moment) → ℕ → ℕ → Type 0
IsLeast rests p c = (q : ℕ) (h : Moment) (t : List Moment) → slice_get rests q ≡ Some (h ∷ t) → (c < h.clock) ⊎ ((c ≡ h.clock) × (p ≤ q))

-- all rests begin after this
abbrev pub AllAfter : List (List Moment) → ℕ → ℕ → Type 0
AllAfter rests c p = (q : ℕ) (h : Moment) (t : List Moment) → slice_get rests q ≡ Some (h ∷ t) → IsAfter c p h.clock q

-- nothing is left
abbrev pub AllEmpty : List (List Moment) → Type 0
AllEmpty rests = (q : ℕ) (h : Moment) (t : List Moment) → slice_get rests q ≡ Some (h ∷ t) → ⊥

-- this moment came next, and was taken from its place
pub record IsNext (old new : List (List Moment)) (place : ℕ) (moment : Moment) : Type 0 where
  pub tail : List Moment
  pub at : slice_get old place ≡ Some (moment ∷ tail)
  pub least : IsLeast old place moment.clock
  pub left : new ≡ slice_set old place tail

-- the better of two places to go on from
abbrev pub better_of : ℕ → ℕ → Option (ℕ × ℕ) → Option (ℕ × ℕ)
better_of place clock None = Some (place, clock)
better_of place clock (Some best) = if nat_lt clock best.1 then Some (place, clock) else Some best

abbrev pub better : Option (ℕ × ℕ) → ℕ → Option ℕ → Option (ℕ × ℕ)
better best place None = best
better best place (Some clock) = better_of place clock best

-- the clocks of the first moments
abbrev pub heads_of : List (List Moment) → List (Option ℕ)
heads_of rests = map head_clock rests

-- the best of these, the first of which stands at a place, and one that is known
abbrev pub least_from : Option (ℕ × ℕ) → ℕ → List (Option ℕ) → Option (ℕ × ℕ)
least_from best place [] = best
least_from best place (head ∷ heads) = least_from (better best place head) (place + 1) heads

-- the place of the rest that begins first, and the clock of its first moment
abbrev pub least_of : List (List Moment) → Option (ℕ × ℕ)
least_of rests = least_from None 0 (heads_of rests)

-- what happened to a node
abbrev pub what_there : NodeId → Event → Option Do
what_there node e = if same_node (node_of e) node then Some (what_of e) else None

abbrev pub whats_of : NodeId → List Event → List Do
whats_of node events = filter_map (what_there node) events

module _ {N : Type 0} (step : N → Do → NodeStep N) where
  -- a packet is among those that are sent in what is left
  abbrev pub WillSend : World N → List (List Moment) → Packet → Type 0
  WillSend w rests x =
      (p : ℕ) × (n : N) × (r : List Moment) × (slice_get w.nodes p ≡ Some n) × (slice_get rests p ≡ Some r) × Contains (sent_in step n r) x

  -- what is left of the journals, in order of nodes, can go on from this world: there is one for each node, its clocks follow
  -- that of the node, and what is delivered in it is for that node and was sent or will be
  pub record Standing (w : World N) (rests : List (List Moment)) : Type 0 where
    pub count : length rests ≡ node_count w.cluster
    pub nodes : length w.nodes ≡ node_count w.cluster
    pub clocks : length w.clocks ≡ node_count w.cluster
    pub stamped : (p : ℕ) (r : List Moment) (c : ℕ) → slice_get rests p ≡ Some r → slice_get w.clocks p ≡ Some c → is_stamped c r ≡ true
    pub closed : (q : ℕ) (r : List Moment) (x : Packet) → slice_get rests q ≡ Some r → Contains (delivered_in r) x
        → (x.to ≡ node_at w.cluster q) × (WasSent w.sent x ⊎ WillSend w rests x)

  -- what is left of the journals says what these nodes send and do in it, and which nodes they are in the end
  pub record AreTold (nodes : List N) (rests : List (List Moment)) (ends : List N) : Type 0 where
    pub count : length ends ≡ length rests
    pub each : (p : ℕ) (n end : N) (r : List Moment) → slice_get nodes p ≡ Some n → slice_get ends p ≡ Some end → slice_get rests p ≡ Some r
        → IsTold step n r × (replayed step n (whats r) ≡ end)

  -- events that happen to nodes of the world and rise by clock and place from these on
  abbrev pub Rises : World N → ℕ → ℕ → List Event → Type 0
  Rises w c p [] = Unit {0}
  Rises w c p (e ∷ es) =
      (k : ℕ) × (q : ℕ) × (place_of w.cluster (node_of e) ≡ Some q) × (clock_at w q (what_of e) ≡ Some k) × IsAfter c p k q × Rises (next_world step w e) k q es
