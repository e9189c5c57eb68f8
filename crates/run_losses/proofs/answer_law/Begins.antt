-- Each node knows of so many items that have begun as it began by some events, at most.
use Rattle.std.proofs.Common.{◌≡◌, ◌⊎◌, ℕ, ◌+◌, ◌≤◌, List, Some, None, inl, inr, sym, ◌∙◌, arith}
use Rattle.node_base.specs.declared.items.Items.{Items}
use Rattle.wire_msg.specs.declared.packet.Do.TheVariants as whats
use Rattle.world_base.specs.declared.event.Event.{Event}
use Rattle.world_base.specs.Events.{node_of, what_of}
use Rattle.world_base.specs.Runs.{begins_of}
use Rattle.xfs_base.specs.declared.node.NodeId.{NodeId}
use Rattle.serving_moves.proofs.item_moves.Begins.{begins_now, more_now, now}
use Rattle.serving_moves.proofs.item_moves.Keeping.{next_is, no_item}
use Rattle.run_losses.specs.answer_law.Answers.{IsBegunBy}
use Rattle.run_losses.proofs.answer_law.Items.{Goes}

-- it knows of so many that have begun, the one that waits among them
pub record Within (limit : ℕ) (items : Items) : Type 0 where
  pub begun : items.begun ≤ limit
  pub waits : (number : ℕ) → items.unanswered ≡ Some number → number ≤ limit

module _ (past : List Event) (event : Event) where
  pub later_within : (node : NodeId) (items : Items) → Within (begins_of node past) items → Within (begins_of node (now past event)) items
  later_within node items w =
      let more = more_now past event node in
      record { begun = (let low = w.begun in omega arith); waits = λ number fact. (let low = w.waits number fact in omega arith) }

  -- one that began by the event or before is among them
  pub begun_within : (items : Items) → Within (begins_of (node_of event) past) items → (number : ℕ) → IsBegunBy items (what_of event) number
      → number ≤ begins_of (node_of event) (now past event)
  begun_within items w number (inl fact) = (let more = more_now past event (node_of event) in let low = w.waits number fact in omega arith)
  begun_within items w number (inr p) =
      let more = begins_now past event p.0 in let low = w.begun in let fact = next_is items number p.1 in omega arith

  pub goes_within : (items later : Items) → Within (begins_of (node_of event) past) items → Goes items later (what_of event)
      → Within (begins_of (node_of event) (now past event)) later
  goes_within items later w g = record { begun = by g.begun; waits = λ number fact. begun_within items w number (g.waits number fact) }
    where
      by : (later.begun ≡ items.begun) ⊎ ((what_of event ≡ whats.Begin) × (later.begun ≡ items.begun + 1)) → later.begun ≤ begins_of (node_of event) (now past event)
      by (inl e) = (let more = more_now past event (node_of event) in let low = w.begun in omega arith)
      by (inr p) = (let more = begins_now past event p.0 in let low = w.begun in let fact = p.1 in omega arith)

pub nothing_within : (items : Items) → items.begun ≡ 0 → items.unanswered ≡ None → (limit : ℕ) → Within limit items
nothing_within items none idle limit = record { begun = omega arith; waits = λ number fact. absurd (no_item number (sym idle ∙ fact)) }
