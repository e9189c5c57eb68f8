-- How the owner of a log that serves stands to what is filed: what it tells of it, and what leaves it standing.
use Rattle.std.proofs.Common.{◌≡◌, ◌≤◌, ◌<◌, ℕ, List, [], ◌∷◌, map, sym, ap, subst, ◌∙◌, arith}
use Rattle.std.specs.List.{AllByRecursion, flat_map}
use Rattle.std.proofs.lemmas.List.Elements.{recursion_from_All}
use Rattle.client_log.specs.declared.output.Out.{Out as LogOut}
use Rattle.client_log.specs.declared.output.Out.TheVariants as log_out
use Rattle.client_log.specs.LogState.{LogState}
use Rattle.delta_feed.specs.FeedState.{FeedState}
use Rattle.delta_feed.specs.Transition.{acknowledged, new_epoch, feed_push, feed_tick}
use Rattle.delta_feed.specs.declared.output.Out.{Out}
use Rattle.delta_feed.specs.declared.output.Out.TheVariants.{Range}
use Rattle.headline.specs.Filed.{Filed}
use Rattle.index_tie.specs.Net.{Net}
use Rattle.index_tie.specs.Takeovers.{Linked}
use Rattle.headline.specs.Indexes.{of_log}
use Rattle.log_owner.specs.Opening.{stored}
use Rattle.log_owner.specs.Sending.{range, sending_push, push_all}
use Rattle.log_owner.specs.declared.promised.Managers.{Managers}
use Rattle.node_slots.specs.node_index_tie.OwnerEvents as owners
use Rattle.node_slots.specs.node_index_tie.Sight.{EndKnown}
use Rattle.node_slots.proofs.node_index_tie.Owners.{owners_tell, feeds_stay}
use Rattle.xfs_base.specs.declared.segment.End.{End}
use Rattle.xfs_base.specs.Limits.{block_logs}
use Rattle.node_slots.specs.owner_index_tie.Filing.{filing}
use Rattle.node_slots.specs.owner_index_tie.Owners.{LogNext, OwnerSeen, EndTold}
use Rattle.node_slots.proofs.owner_index_tie.Frames.{AllPlain}

module _ (part : ℕ) (n : Net) (l since : ℕ) (f : Filed) where
  -- the owner stands so, and no less is filed than was from the start on
  pub record Stands (number : ℕ) (log : LogState) (feed : FeedState) : Type 0 where
    pub late : since ≤ f.head l
    pub seen : OwnerSeen part (filing n f) l number log feed

  -- ---- its log and its feed

  pub rested : (number : ℕ) (log later : LogState) (feed : FeedState) → Stands number log feed → LogNext l later → later.end ≡ log.end
      → Stands number later feed
  rested number log later feed h next same = record {
    late = h.late;
    seen = record {
      number_is = h.seen.number_is;
      log = next;
      end = record {
        seq = ap (λ (e : End). e.seq) same ∙ h.seen.end.seq;
        pass = λ some. ap (λ (e : End). e.pass) same ∙ h.seen.end.pass some;
      };
      feed = h.seen.feed;
    };
  }

  pub acked : (number : ℕ) (log : LogState) (feed : FeedState) (slot upto : ℕ) → Stands number log feed → Stands number log (acknowledged feed slot upto)
  acked number log feed slot upto h = record {
    late = h.late;
    seen = record { number_is = h.seen.number_is; log = h.seen.log; end = h.seen.end; feed = (feeds_stay part (filing n f) l feed h.seen.feed).acks slot upto };
  }

  pub renewed : (number : ℕ) (log : LogState) (feed : FeedState) (slot : ℕ) → Stands number log feed → Stands number log (new_epoch feed slot)
  renewed number log feed slot h = record {
    late = h.late;
    seen = record { number_is = h.seen.number_is; log = h.seen.log; end = h.seen.end; feed = (feeds_stay part (filing n f) l feed h.seen.feed).epochs slot };
  }

  -- ---- what it tells

  module _ (some : 0 < l) (limit : l ≤ block_logs) (managers : Managers) (feed : FeedState) (k : owners.FeedSeen part (filing n f) l feed) where
    ranges_plain : (outs : List Out) → AllByRecursion (owners.OwnerDoes part (filing n f) l) (map (range managers) outs)
        → AllPlain part n l since f (map (range managers) outs)
    ranges_plain [] all = tt
    ranges_plain (Range slot first upto rows ∷ outs) all = (all.0, ranges_plain outs all.1)

    pub pushes_plain : (slot : ℕ) → AllPlain part n l since f (sending_push managers feed slot)
    pushes_plain slot = ranges_plain (feed_push feed slot)
        (recursion_from_All (owners.OwnerDoes part (filing n f) l) (sending_push managers feed slot)
        ((owners_tell part (filing n f) l feed managers some limit k).one slot))

    pub push_all_plain : AllPlain part n l since f (push_all managers feed)
    push_all_plain = ranges_plain (feed_tick feed)
        (recursion_from_All (owners.OwnerDoes part (filing n f) l) (push_all managers feed) (owners_tell part (filing n f) l feed managers some limit k).each)

  module _ (number : ℕ) (log : LogState) (feed : FeedState) (h : Stands number log feed) where
    -- its end is what is filed last
    pub end_told : EndTold part (filing n f) l since log.end.seq
    end_told = record { late = let a = h.late in let e = h.seen.end.seq in omega arith; filed = let e = h.seen.end.seq in omega arith }

    -- so it is of the end that it reports, where the log is linked
    pub end_known : (epoch : ℕ) → (0 < of_log (n.horizon epoch) l → Linked f l (of_log (n.horizon epoch) l) (f.head l))
        → EndKnown part (filing n f) epoch l log.end
    end_known epoch linked =
        let same = h.seen.end.seq in
        let low = of_log (n.horizon epoch) l in
        record {
          filed = λ some upto. record {
            filed = omega arith;
            named = h.seen.end.pass (omega arith) ∙ ap (λ q. (f.segment l q).name.pass) (sym same);
          };
          linked = λ some. subst (λ q. Linked f l low q) (sym same) (linked some);
          short = let a = h.seen.feed.short in omega arith;
        }

  -- what a log sends tells nothing
  pub stored_plain : (outs : List LogOut) → AllPlain part n l since f (flat_map stored outs)
  stored_plain [] = tt
  stored_plain (log_out.Send fragment member ∷ outs) = (tt, stored_plain outs)
  stored_plain (log_out.Settled end rows ∷ outs) = stored_plain outs
