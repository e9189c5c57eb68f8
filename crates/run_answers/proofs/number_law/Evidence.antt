-- What was filled in and is gone by what came to a server since its rebuild began is so still behind a further event.
use Rattle.std.proofs.Common.{◌≡◌, ℕ, suc, List, arith}
use Rattle.core_world.specs.declared.any_node.AnyNode.{AnyNode}
use Rattle.group_rebuild.specs.declared.wanted.Wanted.{Wanted}
use Rattle.stripe_code.specs.declared.round.RoundState.{RoundState}
use Rattle.wire_msg.specs.declared.storage.Listed.{Listed}
use Rattle.world_base.specs.declared.estate.Estate.{Estate}
use Rattle.xfs_base.specs.declared.node.NodeId.TheVariants as nodes
use Rattle.headline.specs.Numbers.{AreCounted, IsFilled, IsGone, IsLacking, RoundStands}
use Rattle.run_answers.proofs.number_law.Tellings.{replies_later}
use Rattle.headline.specs.Numbers.AreCounted.{NoneYet, OneFilled, OneGone}

-- a list answers this question
abbrev pub IsAskedAs : ℕ → ℕ × Listed → Type 0
IsAskedAs ask list = list.1.ask ≡ ask

-- ---- one event later

module _ (e : Estate AnyNode) (v begun end : ℕ) where
  round_later : (w : Wanted) (s : RoundState) → RoundStands e v begun end w s → RoundStands e v begun (suc end) w s
  round_later w s h = record {
    ask = h.ask;
    replies = h.replies;
    come = replies_later e (nodes.Server v) begun end w.meta.name h.ask h.replies h.come;
    fit = h.fit;
    is = h.is;
  }

  filled_later : (w : Wanted) → IsFilled e v begun end w → IsFilled e v begun (suc end) w
  filled_later w h =
      let low = h.before in
      record {
        text = h.text;
        read = round_later w _ h.read;
        place = h.place;
        since = h.since;
        before = omega arith;
        shelf = h.shelf;
        its = h.its;
        stands = h.stands;
      }

  gone_later : (w : Wanted) → IsGone e v begun end w → IsGone e v begun (suc end) w
  gone_later w h = record { pairs = h.pairs; short = round_later w _ h.short }

  pub counted_later : {ws : List Wanted} {filled gone : ℕ} → AreCounted e v begun end ws filled gone → AreCounted e v begun (suc end) ws filled gone
  counted_later NoneYet = NoneYet
  counted_later (OneFilled w h one) = OneFilled w (counted_later h) (filled_later w one)
  counted_later (OneGone w h one) = OneGone w (counted_later h) (gone_later w one)

  pub lacking_later : (wanted : List Wanted) → IsLacking e v begun end wanted → IsLacking e v begun (suc end) wanted
  lacking_later wanted h =
      let low = h.before in
      record {
        place = h.place;
        since = h.since;
        before = omega arith;
        node = h.node;
        its = h.its;
        rebuilding = h.rebuilding;
        under_way = h.under_way;
        awaits = h.awaits;
        groups = h.groups;
        known = h.known;
        lists = h.lists;
        come = h.come;
        asked = h.asked;
        all = h.all;
        lacks = h.lacks;
      }
