-- What tokens say as a slot is promised has blocks wanted alone, and leaves the log of the client, and what lasts of it.
use Rattle.std.proofs.Common.{◌≡◌, ℕ, List, [], ◌∷◌, refl, sym, subst, ◌∙◌, nat_lt}
use Rattle.std.specs.List.{AllByRecursion}
use Rattle.client_log.specs.LogState.{LogState}
use Rattle.client_serving.specs.declared.lasting.Lasting.{Lasting}
use Rattle.client_serving.specs.declared.serving.Serving.{Serving}
use Rattle.client_serving.specs.Follow.{serving_follow, follow_one}
use Rattle.client_serving.specs.Packets.{serving_hear, is_news, promised_in, serving_promise, serving_renew}
use Rattle.client_serving.specs.Sends.{Done as Served}
use Rattle.delta_feed.specs.Transition.{new_epoch}
use Rattle.token_client.specs.declared.output.Out.{Out}
use Rattle.token_client.specs.declared.output.Out.TheVariants as output
use Rattle.token_client.specs.State.{TokensState}
use Rattle.token_client.specs.Transition.{Done, ask_copy, fetched_blocks, may_promise, tokens_ask, on_promise, raised}
use Rattle.xfs_base.proofs.Alls.{all_append}
use Rattle.xfs_base.proofs.Booleans.{by_test}
use Rattle.xfs_base.specs.declared.block.BlockId.{BlockId}
use Rattle.xfs_base.specs.declared.news.SlotNews.{SlotNews}
use Rattle.xfs_base.specs.declared.token.Mode.{Mode}
use Rattle.xfs_base.specs.declared.token.Mode.TheVariants.{Copy}
use Rattle.xfs_base.specs.Limits.{u32_end}
use Rattle.xfs_base.specs.Steps.{steps, still}

-- ---- a promise only has blocks wanted again

abbrev pub IsWant : Out → Type 0
IsWant (output.Want block req again mode) = Unit {0}
IsWant _ = ⊥

pub asked_for : (s : TokensState) (block : BlockId) (mode : Mode) → AllByRecursion IsWant (tokens_ask s block mode).outs
unfolding tokens_ask
asked_for s block mode = by_test (λ (d : Done). AllByRecursion IsWant d.outs) (nat_lt s.req u32_end) _ (still s) (λ t. (tt, tt)) (λ t. tt)

all_asked : (s : TokensState) (blocks : List BlockId) → AllByRecursion IsWant (steps ask_copy s blocks).outs
all_asked s [] = tt
all_asked s (b ∷ bs) =
    all_append IsWant (ask_copy s b).outs (steps ask_copy (ask_copy s b).state bs).outs (asked_for s b Copy) (all_asked (ask_copy s b).state bs)

pub promise_wants : (s : TokensState) (slot epoch : ℕ) → AllByRecursion IsWant (on_promise s slot epoch).outs
unfolding on_promise
promise_wants s slot epoch =
    by_test (λ (d : Done). AllByRecursion IsWant d.outs) (may_promise s slot epoch) (steps ask_copy (raised s slot epoch) (fetched_blocks slot s.blocks)) (still s)
    (λ t. all_asked (raised s slot epoch) (fetched_blocks slot s.blocks)) (λ t. tt)

-- ---- the log is left

pub record Leaves (s t : Serving) : Type 0 where
  pub lasts : t.lasting ≡ s.lasting
  pub log : t.log ≡ s.log

left : (s : Serving) → Leaves s s
left s = record { lasts = refl; log = refl }

then_left : (s t u : Serving) → Leaves s t → Leaves t u → Leaves s u
then_left s t u a b = record { lasts = b.lasts ∙ a.lasts; log = b.log ∙ a.log }

pub leaves_so : (P : Lasting → LogState → Type 0) (s t : Serving) → Leaves s t → P s.lasting s.log → P t.lasting t.log
leaves_so P s t l h = subst (λ its. P t.lasting its) (sym l.log) (subst (λ lasting. P lasting s.log) (sym l.lasts) h)

wants_left : (s : Serving) (outs : List Out) → AllByRecursion IsWant outs → Leaves s (serving_follow s outs).state
unfolding serving_follow follow_one
wants_left s [] all = left s
wants_left s (output.Want block req again mode ∷ outs) all = wants_left s outs all.1
wants_left s (output.Gave block stamp ∷ outs) all = absurd all.0
wants_left s (output.Supply block ver value ∷ outs) all = absurd all.0
wants_left s (output.Flush block ∷ outs) all = absurd all.0
wants_left s (output.Read block place ∷ outs) all = absurd all.0
wants_left s (output.Ready block ∷ outs) all = absurd all.0

renews_left : (s : Serving) (slot epoch : ℕ) → Leaves s (serving_renew s slot epoch)
unfolding serving_renew
renews_left s slot epoch =
    by_test (Leaves s) (nat_lt _ epoch) (record s { feed = new_epoch s.feed slot }) s (λ t. record { lasts = refl; log = refl }) (λ t. left s)

pub promises_left : (s : Serving) (slot epoch manager : ℕ) → Leaves s (serving_promise s slot epoch manager).state
unfolding serving_promise
promises_left s slot epoch manager = (let l = renews_left s slot epoch in record { lasts = l.lasts; log = l.log })

wants_of : (s : Serving) (news : SlotNews) → AllByRecursion IsWant (serving_promise s news.slot news.epoch news.manager).outs
unfolding serving_promise
wants_of s news = promise_wants (serving_renew s news.slot news.epoch).tokens news.slot news.epoch

hears_left : (s : Serving) (news : SlotNews) → Leaves s (serving_hear s news).state
unfolding serving_hear
hears_left s news =
    by_test (λ (d : Served). Leaves s d.state) (is_news s news) (promised_in s news) (still s)
    (λ t. then_left s (serving_promise s news.slot news.epoch news.manager).state (promised_in s news).state (promises_left s news.slot news.epoch news.manager)
    (wants_left (serving_promise s news.slot news.epoch news.manager).state (serving_promise s news.slot news.epoch news.manager).outs (wants_of s news)))
    (λ t. left s)

pub all_hear_left : (s : Serving) (slots : List SlotNews) → Leaves s (steps serving_hear s slots).state
all_hear_left s [] = left s
all_hear_left s (news ∷ slots) =
    then_left s (serving_hear s news).state (steps serving_hear (serving_hear s news).state slots).state (hears_left s news) (all_hear_left (serving_hear s news).state slots)
