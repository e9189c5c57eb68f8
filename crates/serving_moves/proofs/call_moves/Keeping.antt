-- Moves of a client that serves, one behind another.
use Rattle.std.proofs.Common.{◌≡◌, List, append_assoc, Option, None, refl, sym, ap, subst, ◌∙◌}
use Rattle.client_call.specs.declared.call.Call.{Call}
use Rattle.client_serving.specs.declared.lasting.Lasting.{Lasting}
use Rattle.client_serving.specs.declared.serving.Serving.{Serving}
use Rattle.client_serving.specs.Reads.{loses}
use Rattle.client_serving.specs.Sends.{Done, gives}
use Rattle.node_base.specs.declared.effects.Effect.{Effect}
use Rattle.xfs_base.specs.declared.block.BlockId.{BlockId}
use Rattle.xfs_base.specs.declared.segment.SegName.{SegName}
use Rattle.xfs_base.specs.Steps.{saying, still}
use Rattle.delta_feed.specs.declared.output.Out.{Out as RangeOut}
use Rattle.delta_feed.specs.declared.output.Out.TheVariants.{Range}
use Rattle.delta_feed.specs.FeedState.{FeedState}
use Rattle.delta_feed.specs.Transition.{feed_tick}
use Rattle.log_owner.specs.declared.promised.Managers.{Managers}
use Rattle.log_owner.specs.Sending.{push_all, range}
use Rattle.node_base.specs.declared.effects.Effect.TheVariants.{Send, Answer as Answers, Lose, Does}
use Rattle.version_model.specs.declared.act.Act.{Act}
use Rattle.version_model.specs.declared.act.Act.TheVariants as act
use Rattle.xfs_base.proofs.Alls.{all_map, all_weaker}
use Rattle.serving_moves.specs.call_moves.Moves.{AllStill, CallLasts, CallStays, HasCall, IsFiled, IsStill, Kept, Moves}
use Rattle.serving_moves.specs.call_moves.Moves.Move.{Steps, Loses}
use Rattle.serving_moves.specs.call_moves.Moves.Moves.{Last, Then}
use Rattle.serving_moves.specs.item_moves.Moves.{AllPlain, IsPlain, IsSilent}
use Rattle.serving_moves.specs.item_moves.Moves.Losses.{Answering}

-- ---- what stays

pub same_call : (call : Option Call) → CallStays call call
same_call o call fact = (call, (fact, (refl, refl)))

pub no_call : (before : Option Call) → CallStays before None
no_call before call fact = absurd cc

pub call_then : (a b c : Option Call) → CallStays a b → CallStays b c → CallStays a c
call_then a b c x y call fact =
    let v = y call fact in
    let u = x v.0 v.1.0 in
    (u.0, (u.1.0, (v.1.1.0 ∙ u.1.1.0, v.1.1.1 ∙ u.1.1.1)))

pub same_lasts : (call : Option Call) → CallLasts call call
same_lasts o call fact = (call, fact)

pub lasts_then : (a b c : Option Call) → CallLasts a b → CallLasts b c → CallLasts a c
lasts_then a b c x y call fact = (let v = x call fact in y v.0 v.1)

pub itself : (s : Serving) → Kept s s
itself s = record { calls = same_call s.call; lasts = same_lasts s.call; number = refl; items = refl }

-- where its call and what lasts are the same, all is
pub same_kept : (s t : Serving) → t.call ≡ s.call → t.lasting ≡ s.lasting → Kept s t
same_kept s t call lasting = record {
  calls = subst (CallStays s.call) (sym call) (same_call s.call);
  lasts = subst (CallLasts s.call) (sym call) (same_lasts s.call);
  number = ap (λ (l : Lasting). l.number) lasting;
  items = ap (λ (l : Lasting). l.items) lasting;
}

pub then_kept : (s t u : Serving) → Kept s t → Kept t u → Kept s u
then_kept s t u a b = record {
  calls = call_then s.call t.call u.call a.calls b.calls;
  lasts = lasts_then s.call t.call u.call a.lasts b.lasts;
  number = b.number ∙ a.number;
  items = b.items ∙ a.items;
}

-- ---- what is still

filed_silent : (a : Act) → IsFiled a → IsSilent a
filed_silent (act.Filed seg) filed = tt
filed_silent _ filed = absurd filed

still_plain : (x : Effect) → IsStill x → IsPlain Answering x
still_plain (Send to said) still = tt
still_plain (Answers item a) still = absurd still
still_plain (Lose name) still = absurd still
still_plain (Does a) still = filed_silent a still

pub all_still_plain : (outs : List Effect) → AllStill outs → AllPlain Answering outs
all_still_plain outs all = all_weaker IsStill (IsPlain Answering) still_plain outs all

pub range_still : (managers : Managers) (x : RangeOut) → IsStill (range managers x)
range_still managers (Range slot first upto rows) = tt

pub all_pushed_still : (managers : Managers) (feed : FeedState) → AllStill (push_all managers feed)
all_pushed_still managers feed = all_map IsStill (range managers) (range_still managers) (feed_tick feed)

-- ---- moves

pub plainly : (s : Serving) (d : Done) → Kept s d.state → AllStill d.outs → Moves s d
plainly s d kept plain = Last (Steps kept plain)

pub lost : (s : Serving) → HasCall s → (block : BlockId) (name : SegName) → Moves s (loses s block name)
lost s has block name = Last (Loses has block name)

pub stays : (s t : Serving) → Kept s t → Moves s (still t)
stays s t k = plainly s (still t) k tt

pub then_goes : (s : Serving) (d x : Done) → Moves s d → Moves d.state x → Moves s (saying d.outs x)
then_goes s d x (Last move) more = Then d x move more
then_goes s d x (Then now e move rest) more =
    subst (λ (outs : List Effect). Moves s (record { state = x.state; outs = outs })) (sym (append_assoc now.outs e.outs x.outs))
    (Then now (saying e.outs x) move (then_goes now.state e x rest more))

-- what is said first is plain
pub first_goes : (s : Serving) (outs : List Effect) (x : Done) → AllStill outs → Moves s x → Moves s (saying outs x)
first_goes s outs x plain a = then_goes s (gives s outs) x (plainly s (gives s outs) (itself s) plain) a

-- from one that is as it was
pub from_goes : (s t : Serving) (d : Done) → Kept s t → Moves t d → Moves s d
from_goes s t d k g = then_goes s (still t) d (stays s t k) g
