-- A client that is idle in a drained state has nothing to say again.
use Rattle.delta_feed.specs.FeedState.{acked_of}
use Rattle.delta_feed.specs.Transition.{feed_push}
use Rattle.quiet_gets.proofs.Wants.{NoWants, no_wants}
use Rattle.quiet_gets.specs.Passing.{AreInOrder, IsSilent}
use Rattle.quiet_law.proofs.Keeping.{idle_room}
use Rattle.quiet_law.specs.Drained.{Drained, most_steps}
use Rattle.quiet_nodes.proofs.Tests.{lt_test, not_lt_test}
use Rattle.quiet_nodes.proofs.Wanting.{feed_at}
use Rattle.quiet_nodes.specs.Scene.{ClientPart, Scene}
use Rattle.std.proofs.Common.{List, [], ap, arith, cond, false, nat_lt, refl, slice_index, sym, true, ℕ, ◌<◌, ◌∙◌, ◌≡◌, ◌≤◌}
use Rattle.version_model.specs.declared.work.Work.{Work}
use Rattle.xfs_base.specs.declared.node.NodeId.{NodeId}
use Rattle.xfs_base.specs.declared.setup.Setup.{Setup}

-- nothing new is told to a slot
pub nothing_told : (p : ClientPart) (m : ℕ) → m < 8 → acked_of (feed_at p) m ≡ p.end.seq → p.fed ≡ p.end.seq → feed_push (feed_at p) m ≡ []
unfolding feed_push
nothing_told p m inside acked fed = rw (inside_test, nothing_new) refl
  where
    inside_test : nat_lt m 8 ≡ true
    inside_test = lt_test m 8 inside

    acked_is : slice_index p.acked m ≡ p.end.seq
    acked_is = sym (ap (λ t. cond t (slice_index p.acked m) 0) inside_test) ∙ acked

    nothing_new : nat_lt (slice_index p.acked m) p.fed ≡ false
    nothing_new = let is = acked_is in not_lt_test (slice_index p.acked m) p.fed (omega (arith, is, fed))

module _ (setup : Setup) (works : NodeId → List Work) (k : ℕ) (s : Scene) (few : k < most_steps) (d : Drained setup works k s) (order : AreInOrder setup works s) (e : ℕ) (least : 1 ≤ e)
    (most : e ≤ setup.clients) where
  pub no_new_deltas : (m : ℕ) → m < 8 → feed_push (feed_at (s.client e)) m ≡ []
  no_new_deltas m inside = nothing_told (s.client e) m inside (d.square e m least most inside).acked (d.fed e least most)

  pub no_want_there : NoWants (s.client e).blocks
  no_want_there = no_wants (s.client e).blocks (order e least most) (λ b. ((d.clients e least most).blocks b).want)

  pub idle_silent : IsSilent setup works e (s.client e)
  idle_silent = record {
    call = (d.clients e least most).call;
    flight = (d.clients e least most).flight;
    wants = no_want_there;
    told = no_new_deltas;
    room = idle_room setup works e k (s.client e) few (d.clients e least most);
  }
