-- The maps of the setup are told to a client that knows them: nothing changes, and a get that waits goes on waiting.
use Rattle.client_serving.specs.Packets.{serving_hear, serving_take, takes_news}
use Rattle.client_node.specs.Phases.{client_step, on_deliver}
use Rattle.wire_msg.specs.declared.packet.Do.TheVariants.{Deliver}
use Rattle.client_running.specs.Running.{run}
use Rattle.quiet_gets.specs.Passing.{news_to}
use Rattle.quiet_nodes.proofs.Begins.{HasRoom, room}
use Rattle.quiet_nodes.specs.Scene.{ClientPart, client_at, serving_at}
use Rattle.std.proofs.Common.{List, [], refl, ℕ, ◌≡◌}
use Rattle.version_model.specs.declared.work.Work.{Work}
use Rattle.xfs_base.specs.declared.node.NodeId.TheVariants.{Client}
use Rattle.xfs_base.specs.declared.node.NodeId.{NodeId}
use Rattle.xfs_base.specs.declared.setup.Setup.{Setup}

module _ (setup : Setup) (works : NodeId → List Work) (e : ℕ) (p : ClientPart) where
  news_are_old : serving_take (serving_at setup works e p) (news_to setup works (Client e)) ≡ record { state = serving_at setup works e p; outs = [] }
  unfolding serving_take takes_news serving_hear
  news_are_old = refl

  pub news_come : HasRoom setup works e p → run (serving_at setup works e p) ≡ record { state = serving_at setup works e p; outs = [] }
      → client_step (client_at setup works e p) (Deliver (news_to setup works (Client e))) ≡ record { node = client_at setup works e p; packets = []; acts = [] }
  unfolding on_deliver
  news_come h is = rw (room setup works e p h, news_are_old, is) refl
