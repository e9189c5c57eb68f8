-- What was sent: a packet that is delivered is one of those; what a step sends comes from what it does.
use Rattle.std.proofs.Common.{◌≡◌, ◌⊎◌, ℕ, zero, suc, ◌<◌, List, [], ◌∷◌, ◌++◌, Some, length, map, slice_get, refl, sym, subst, inl, inr, arith, get_or}
use Rattle.std.proofs.lemmas.Option.{slice_get_within, get_or_from_slice_get}
use Rattle.std.specs.Prelude.{All}
use Rattle.node_base.specs.declared.effects.Effect.{Effect}
use Rattle.node_base.specs.declared.effects.Effect.TheVariants.{Send, Answer, Lose, Does}
use Rattle.node_base.specs.Effects.{packets_of}
use Rattle.token_protocol.specs.Basics.{In}
use Rattle.wire_msg.specs.declared.body.Body.{Body}
use Rattle.wire_msg.specs.declared.packet.Packet.{Packet}
use Rattle.world_base.specs.NextWorld.{sent_at}
use Rattle.world_base.specs.Runs.{WasSent}
use Rattle.xfs_base.specs.declared.node.NodeId.{NodeId}

pub in_get : {X : Type 0} (xs : List X) (i : ℕ) (d : X) → i < length xs → In (get_or xs i d) xs
in_get [] i d less = absurd (omega arith)
in_get (y ∷ xs) zero d less = inl refl
in_get (y ∷ xs) (suc i) d less = inr (in_get xs i d (omega arith))

pub in_list : {X : Type 0} (xs : List X) (place : ℕ) (x : X) → slice_get xs place ≡ Some x → In x xs
in_list xs place x fact = subst (λ y. In y xs) (get_or_from_slice_get xs place x x fact) (in_get xs place x (slice_get_within xs place x fact))

-- what was sent is in the list of what was sent
pub was_sent : (sent : List Packet) (p : Packet) → WasSent sent p → In p sent
was_sent sent p h = in_list sent h.0 p h.1

pub in_append : {X : Type 0} (xs ys : List X) (x : X) → In x (xs ++ ys) → In x xs ⊎ In x ys
in_append [] ys x h = inr h
in_append (y ∷ xs) ys x (inl fact) = inl (inl fact)
in_append (y ∷ xs) ys x (inr later) = elim (in_append xs ys x later) [ inl h ↦ inl (inr h) | inr h ↦ inr h ]

pub in_all : {X : Type 0} (K : X → Type 0) (xs : List X) → All K xs → (x : X) → In x xs → K x
in_all K [] all x h = absurd h
in_all K (y ∷ xs) all x (inl fact) = subst K (sym fact) (all 0 y (omega arith))
in_all K (y ∷ xs) all x (inr later) = in_all K xs (λ i d less. all (suc i) d (omega arith)) x later

-- ---- what a step sends

-- what holds of each packet of a step, holds of it with the clock with which it is sent
pub at_clock : (clock : ℕ) (K F : Packet → Type 0) → ((p : Packet) → K p → F (sent_at clock p)) → (packets : List Packet) → All K packets → (q : Packet)
    → In q (map (sent_at clock) packets) → F q
at_clock clock K F each [] all q h = absurd h
at_clock clock K F each (p ∷ packets) all q (inl fact) = subst F (sym fact) (each p (all 0 p (omega arith)))
at_clock clock K F each (p ∷ packets) all q (inr later) = at_clock clock K F each packets (λ i d less. all (suc i) d (omega arith)) q later

module _ (node : NodeId) (clock : ℕ) (D : Effect → Type 0) (F : Packet → Type 0) where
  -- what holds of each effect, holds of each packet
  pub sends : ((to : NodeId) (body : Body) → D (Send to body) → F (record { from = node; to = to; clock = clock; body = body }))
      → (outs : List Effect) → All D outs → (p : Packet) → In p (map (sent_at clock) (packets_of node outs)) → F p
  sends each [] all p h = absurd h
  sends each (Send to body ∷ outs) all p (inl fact) = subst F (sym fact) (each to body (all 0 (Send to body) (omega arith)))
  sends each (Send to body ∷ outs) all p (inr later) = sends each outs (λ i d less. all (suc i) d (omega arith)) p later
  sends each (Answer item answer ∷ outs) all p h = sends each outs (λ i d less. all (suc i) d (omega arith)) p h
  sends each (Lose seg ∷ outs) all p h = sends each outs (λ i d less. all (suc i) d (omega arith)) p h
  sends each (Does act ∷ outs) all p h = sends each outs (λ i d less. all (suc i) d (omega arith)) p h
