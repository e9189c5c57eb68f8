-- What came to a node since its item began, and what it had asked, is so still behind a further event.
use Rattle.std.proofs.Common.{◌<◌, ℕ, suc, List, arith}
use Rattle.std.specs.List.{AllByRecursion}
use Rattle.core_world.specs.declared.any_node.AnyNode.{AnyNode}
use Rattle.stripe_code.specs.declared.round.Answer.{Answer as Reply}
use Rattle.stripe_code.specs.declared.round.Told.{Told}
use Rattle.stripe_code.specs.declared.round.Told.TheVariants as told
use Rattle.wire_msg.specs.declared.body.Body.{Body}
use Rattle.wire_msg.specs.declared.body.Body.TheVariants as body
use Rattle.wire_msg.specs.declared.storage.Listed.{Listed}
use Rattle.world_base.specs.declared.estate.Estate.{Estate}
use Rattle.xfs_base.proofs.Alls.{all_weaker}
use Rattle.xfs_base.specs.declared.node.NodeId.{NodeId}
use Rattle.xfs_base.specs.declared.node.NodeId.TheVariants as nodes
use Rattle.xfs_base.specs.declared.segment.SegName.{SegName}
use Rattle.headline.specs.Tellings.{HasCome, HasFetched, HasTold}

module _ (e : Estate AnyNode) (me : NodeId) (begun end : ℕ) where
  -- such a list came from such a server
  abbrev pub ListCame : ℕ × Listed → Type 0
  ListCame list = HasCome e me begun end (nodes.Server list.0) (body.Listed list.1)

  -- so a server replied, of which that was asked under a question
  abbrev pub Replied : SegName → ℕ → Reply → Type 0
  Replied name ask r = HasTold e me begun end name ask r.server r.told

module _ (e : Estate AnyNode) (me : NodeId) (begun end : ℕ) where
  pub still_before : (place n : ℕ) → place < n → place < suc n
  still_before place n low = omega arith

  abbrev pub come_later : (from : NodeId) (said : Body) → HasCome e me begun end from said → HasCome e me begun (suc end) from said
  come_later from said h = record {
    place = h.place;
    since = h.since;
    before = still_before h.place end h.before;
    packet = h.packet;
    happens = h.happens;
    to_it = h.to_it;
    from_it = h.from_it;
    says = h.says;
  }

  pub fetched_later : (name : SegName) (ask server : ℕ) → HasFetched e me begun end name ask server → HasFetched e me begun (suc end) name ask server
  fetched_later name ask server h = record {
    place = h.place;
    since = h.since;
    before = still_before h.place end h.before;
    event = h.event;
    happens = h.happens;
    packet = h.packet;
    sent = h.sent;
    from_it = h.from_it;
    to_server = h.to_server;
    says = h.says;
  }

  told_later : (name : SegName) (ask from : ℕ) (t : Told) → HasTold e me begun end name ask from t → HasTold e me begun (suc end) name ask from t
  told_later name ask from (told.Held f) h = (h.0, come_later (nodes.Server from) (body.Fragment h.0) h.1, h.2, h.3, h.4)
  told_later name ask from (told.Missing g) h = (h.0, come_later (nodes.Server from) (body.Missing h.0) h.1, h.2, h.3, h.4)

  pub lists_later : (lists : List (ℕ × Listed)) → AllByRecursion (ListCame e me begun end) lists → AllByRecursion (ListCame e me begun (suc end)) lists
  lists_later lists all =
      all_weaker (ListCame e me begun end) (ListCame e me begun (suc end)) (λ list h. come_later (nodes.Server list.0) (body.Listed list.1) h) lists all

  pub replies_later : (name : SegName) (ask : ℕ) (replies : List Reply) → AllByRecursion (Replied e me begun end name ask) replies
      → AllByRecursion (Replied e me begun (suc end) name ask) replies
  replies_later name ask replies all =
      all_weaker (Replied e me begun end name ask) (Replied e me begun (suc end) name ask) (λ r h. told_later name ask r.server r.told h) replies all
