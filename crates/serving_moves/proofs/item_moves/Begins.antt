-- How many items of a node have begun after some events.
use Rattle.std.proofs.Common.{◌≡◌, ℕ, zero, suc, ◌+◌, ◌≤◌, true, false, cond, List, [], ◌∷◌, ◌++◌, Some, filter, length, slice_get, take, refl, sym, ap, ◌∙◌, arith}
use Rattle.wire_msg.specs.declared.packet.Do.TheVariants as whats
use Rattle.world_base.specs.declared.event.Event.{Event}
use Rattle.world_base.specs.declared.event.Event.TheVariants.{Begin, Deliver, Tick}
use Rattle.world_base.specs.Events.{node_of, what_of}
use Rattle.world_base.specs.Runs.{begins_of, begun_in}
use Rattle.xfs_base.specs.declared.node.NodeId.{NodeId}
use Rattle.xfs_base.specs.Nodes.{same_node}
use Rattle.xfs_base.proofs.NodeOrder.{same_node_itself}

-- ---- events

more_begun : (es fs : List Event) → begun_in (es ++ fs) ≡ begun_in es ++ begun_in fs
more_begun [] fs = refl
more_begun (Begin node ∷ es) fs = ap (λ nodes. node ∷ nodes) (more_begun es fs)
more_begun (Deliver packet ∷ es) fs = more_begun es fs
more_begun (Tick node ∷ es) fs = more_begun es fs

abbrev its : NodeId → List NodeId → ℕ
its node nodes = length (filter (λ begun. same_node begun node) nodes)

more_its : (node : NodeId) (xs ys : List NodeId) → its node (xs ++ ys) ≡ its node xs + its node ys
more_its node [] ys = omega arith
more_its node (x ∷ xs) ys =
    elim (same_node x node) as
    (λ t. length (cond t (x ∷ filter (λ begun. same_node begun node) (xs ++ ys)) (filter (λ begun. same_node begun node) (xs ++ ys)))
    ≡ length (cond t (x ∷ filter (λ begun. same_node begun node) xs) (filter (λ begun. same_node begun node) xs)) + its node ys) [
      | true ↦ let more = more_its node xs ys in omega arith
      | false ↦ more_its node xs ys
    ]

-- those of more events are more
more_begins : (node : NodeId) (es fs : List Event) → begins_of node (es ++ fs) ≡ begins_of node es + begins_of node fs
more_begins node es fs = ap (its node) (more_begun es fs) ∙ more_its node (begun_in es) (begun_in fs)

-- an event that begins an item of the node is one more
one_begins : (event : Event) → what_of event ≡ whats.Begin → begins_of (node_of event) (event ∷ []) ≡ 1
one_begins (Begin node) fact =
    ap (λ t. length (cond t (node ∷ []) [])) (same_node_itself node)
one_begins (Deliver packet) fact = absurd cc
one_begins (Tick node) fact = absurd cc

take_next : (events : List Event) (count : ℕ) (event : Event) → slice_get events count ≡ Some event → take (suc count) events ≡ take count events ++ event ∷ []
take_next [] zero event fact = absurd cc
take_next [] (suc count) event fact = absurd cc
take_next (x ∷ xs) zero event fact = ap (λ y. y ∷ []) (same_event x event fact)
  where
    same_event : (a b : Event) → Some a ≡ Some b → a ≡ b
    same_event a b e = cc
take_next (x ∷ xs) (suc count) event fact = ap (λ ys. x ∷ ys) (take_next xs count event fact)

module _ (past : List Event) (event : Event) where
  abbrev pub now : List Event
  now = past ++ event ∷ []

  pub more_now : (node : NodeId) → begins_of node past ≤ begins_of node now
  more_now node = (let more = more_begins node past (event ∷ []) in omega arith)

  pub begins_now : what_of event ≡ whats.Begin → begins_of (node_of event) past + 1 ≤ begins_of (node_of event) now
  begins_now fact = (let more = more_begins (node_of event) past (event ∷ []) in let one = one_begins event fact in omega arith)

pub taken_next : (events : List Event) (count : ℕ) (event : Event) → slice_get events count ≡ Some event
    → now (take count events) event ≡ take (suc count) events
taken_next events count event fact = sym (take_next events count event fact)
