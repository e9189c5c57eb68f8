-- A put of a block that the client doesn't own begins: it asks the block's manager, whoever else holds the block.
use Rattle.std.proofs.Common.{◌≡◌, ℕ, ◌<◌, ◌&&◌, false, cond, nat_lt, List, [], ◌∷◌, length, slice_index, Option, is_none, refl, sym, ap, ◌∙◌, arith, true}
use Rattle.std.proofs.lemmas.Option.{slice_get_within}
use Rattle.client_node.specs.Phases.{client_step}
use Rattle.delta_feed.specs.Transition.{feed_push}
use Rattle.token_client.specs.declared.held.Held.{Held}
use Rattle.token_client.specs.Held.{may_write, must_ask}
use Rattle.token_client.specs.State.{held_of}
use Rattle.version_model.specs.declared.work.Work.{Work}
use Rattle.version_model.specs.declared.work.Work.TheVariants as work
use Rattle.wire_msg.specs.declared.packet.Do.TheVariants.{Begin}
use Rattle.xfs_base.specs.Blocks.{slot_of}
use Rattle.xfs_base.specs.declared.block.BlockId.{BlockId}
use Rattle.xfs_base.specs.declared.node.NodeId.{NodeId}
use Rattle.xfs_base.specs.declared.node.NodeId.TheVariants.{Client, Manager}
use Rattle.xfs_base.specs.declared.setup.Setup.{Setup}
use Rattle.xfs_base.specs.declared.token.Mode.TheVariants.{Own}
use Rattle.xfs_base.specs.Limits.{u32_end, u64_end}
use Rattle.xfs_base.specs.Modes.{is_own}
use Rattle.quiet_law.specs.Drained.{Drained, IsIdle, IsQuietBlock, most_steps}
use Rattle.quiet_law.specs.Lines.{IsNext}
use Rattle.quiet_law.proofs.Counters.{below_short}
use Rattle.quiet_law.proofs.Keeping.{idle_room}
use Rattle.quiet_nodes.specs.Scene.{ClientPart, Scene, client_at, manager_of_slot}
use Rattle.quiet_nodes.proofs.Begins.{HasRoom}
use Rattle.quiet_nodes.proofs.Rooms.{slot_within}
use Rattle.quiet_nodes.proofs.Tests.{lt_test, not_lt_test}
use Rattle.quiet_nodes.proofs.Wanting.{feed_at, put_asks, put_begins, want_body}

module _ (setup : Setup) (works : NodeId → List Work) (k : ℕ) (s : Scene) (c : ℕ) (d : Drained setup works k s) (few : k < most_steps) (b : BlockId)
    (value : Option (List ℕ)) (next : IsNext setup works s c (work.Bput c b value)) (asks : is_own (held_of (s.client c).blocks b).mode ≡ false) where
  abbrev p : ClientPart
  p = s.client c

  abbrev i : ℕ
  i = slot_of b.ino.0

  abbrev h : Held
  h = held_of p.blocks b

  pub idle : IsIdle k p
  idle = d.clients c next.client.0 next.client.1

  quiet : IsQuietBlock k h
  quiet = idle.blocks b

  pub within : i < 8
  within = slot_within b.ino.0

  pub room : HasRoom setup works c p
  room = idle_room setup works c k p few idle

  pub left : p.begun < length (works (Client c))
  left = slice_get_within (works (Client c)) p.begun (work.Bput c b value) next.next

  pub small : p.begun < u32_end
  small = (let many = next.few in let less = left in omega arith)

  acked_is : slice_index p.acked i ≡ p.end.seq
  acked_is = sym (ap (λ t. cond t (slice_index p.acked i) 0) (lt_test i 8 within)) ∙ (d.square c i next.client.0 next.client.1 within).acked

  nothing_new : nat_lt (slice_index p.acked i) p.fed ≡ false
  nothing_new = (let acked = acked_is in let fed = d.fed c next.client.0 next.client.1 in not_lt_test (slice_index p.acked i) p.fed (omega arith))

  pub told : feed_push (feed_at p) i ≡ []
  unfolding feed_push
  told = rw (lt_test i 8 within, nothing_new) refl

  pub must : must_ask h Own ≡ true
  must = rw (quiet.want, quiet.fetch, quiet.giving, asks) refl

  pub may_not : may_write h ≡ false
  may_not = ap (λ t. (t && is_none h.giving) && nat_lt h.ver u64_end) asks

  pub req : nat_lt p.req u32_end ≡ true
  req = lt_test p.req u32_end (let low = below_short k p.req few idle.req_low in omega arith)

  -- the client then
  abbrev pub asked : ClientPart
  asked = put_asks setup works c p b value room left small next.next idle.item may_not must req within told

  pub asks_so : client_step (client_at setup works c p) Begin ≡ record {
    node = client_at setup works c asked;
    packets = record { from = Client c; to = Manager (manager_of_slot setup works i); clock = 0; body = want_body setup works c p b Own } ∷ [];
    acts = [];
  }
  asks_so = put_begins setup works c p b value room left small next.next idle.item may_not must req within told
