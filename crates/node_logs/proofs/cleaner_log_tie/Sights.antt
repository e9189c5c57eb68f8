-- What was seen of packets in the small world of the cleaner's log is seen there, whatever the cleaner does.
use Rattle.std.proofs.Common.{ℕ, refl, ap, arith}
use Rattle.fragment_store.specs.ShelfState.{ShelfState}
use Rattle.wire_msg.specs.declared.body.Body.{Body}
use Rattle.xfs_base.specs.declared.node.NodeId.{NodeId}
use Rattle.log_tie.specs.Setting.{Setting}
use Rattle.node_logs.specs.node_log_tie.Sight.{BodySeen}
use Rattle.node_logs.proofs.node_log_tie.Sight.{Later}
use Rattle.node_logs.proofs.node_log_tie.Sights.{seen_on}
use Rattle.node_logs.specs.client_log_tie.Owner.{Scene}
use Rattle.node_logs.specs.cleaner_log_tie.Owner.{its_asker}
use Rattle.node_logs.specs.cleaner_log_tie.OwnerEvents.{Grows}

module _ (g : Setting) (w v : Scene) (grown : Grows g w v) where
  later : Later w.net v.net
  later = record {
    low = (let y = grown.low in omega arith);
    sent = grown.sent;
    reached = λ k. (let e = ap (λ (f : ℕ → ShelfState). (f k).generation) grown.shelves in omega arith);
  }

  pub body_more : (from to : NodeId) (said : Body) → BodySeen g (its_asker w) w.net from to said → BodySeen g (its_asker v) v.net from to said
  body_more from to said h = seen_on g (its_asker w) (its_asker v) refl grown.asked w.net v.net later from to said h
