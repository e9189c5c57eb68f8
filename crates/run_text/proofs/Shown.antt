-- Where no client comes back, the text shows for an item that is answered the answer, and no block that fell.
use Rattle.std.proofs.Common.{◌≡◌, ℕ, ◌+◌, true, false, cond, List, [], ◌∷◌, Option, Some, append-nil, refl, sym, ap, subst, ◌∙◌}
use Rattle.std.specs.Cmp.{IsTotalOrder}
use Rattle.std.specs.List.{AllByRecursion}
use Rattle.std.specs.Ordering.{eq_by_cmp}
use Rattle.std.specs.Prelude.{IfSome}
use Rattle.std.proofs.lemmas.Cmp.{nat_cmp_total, on_total, then_total}
use Rattle.act_text.specs.Answers.{answer_text}
use Rattle.headline.specs.Items.{IsShown, item_name}
use Rattle.transcript.specs.declared.falls.Fallen.{Fallen}
use Rattle.transcript.specs.declared.replies.ItemName.{ItemName}
use Rattle.transcript.specs.declared.replies.Reply.{Reply}
use Rattle.transcript.specs.Falls.{falls_start, of_client, without}
use Rattle.transcript.specs.Replies.{RepliesState, gathering_take, handed_out, handing_out, item_cmp, replies_of, reply_of, with_acts}
use Rattle.transcript.specs.Text.{answered_text, reply_text}
use Rattle.version_model.specs.declared.act.Act.{Act}
use Rattle.version_model.specs.declared.act.Act.TheVariants as act
use Rattle.version_model.specs.declared.answer.Answer.{Answer}
use Rattle.xfs_base.proofs.BlockOrder.{lookup-insert_entry}
use Rattle.xfs_base.proofs.NodeOrder.{node_total}
use Rattle.xfs_base.specs.declared.node.NodeId.{NodeId}
use Rattle.xfs_base.specs.declared.node.NodeId.TheVariants as nodes
use Rattle.run_text.proofs.Serving.{IsNoReturn}

item_total : IsTotalOrder item_cmp
item_total = then_total (on_total (λ (i : ItemName). i.node) node_total) (on_total (λ (i : ItemName). i.number) nat_cmp_total)

-- nothing was lost that is to be told, and no reply tells of any
record FellNone (r : RepliesState) : Type 0 where
  waits : r.falls.fallen ≡ []
  replies : (name : ItemName) → IfSome (reply_of r.table name) (λ (y : Reply). y.fallen ≡ [])

none_handed : (r : RepliesState) (node : NodeId) → r.falls.fallen ≡ [] → handed_out r.falls node ≡ []
none_handed r (nodes.Client client) none = ap (λ (f : List (ℕ × List Fallen)). of_client f client) none
none_handed r (nodes.Manager number) none = refl
none_handed r (nodes.Server number) none = refl
none_handed r nodes.Cleaner none = refl
none_handed r nodes.Registry none = refl

none_left : (r : RepliesState) (node : NodeId) → r.falls.fallen ≡ [] → (handing_out r.falls node).fallen ≡ []
none_left r (nodes.Client client) none = ap (λ (f : List (ℕ × List Fallen)). without f client) none
none_left r (nodes.Manager number) none = none
none_left r (nodes.Server number) none = none
none_left r nodes.Cleaner none = none
none_left r nodes.Registry none = none

act_tells_none : (r : RepliesState) (place : ℕ) (a : Act) → IsNoReturn a → FellNone r → FellNone (gathering_take r place a)
act_tells_none r place (act.Answered node item x) is none = record { waits = none_left r node none.waits; replies = replies }
  where
    reply : Reply
    reply = record { place = place; fallen = handed_out r.falls node }

    replies : (name : ItemName) → IfSome (reply_of (gathering_take r place (act.Answered node item x)).table name) (λ (y : Reply). y.fallen ≡ [])
    replies name =
        subst (λ (o : Option Reply). IfSome o (λ y. y.fallen ≡ [])) (sym (lookup-insert_entry item_total name (item_name node item) reply r.table))
        (elim (eq_by_cmp item_cmp name (item_name node item)) as (λ t. IfSome (cond t (Some reply) (reply_of r.table name)) (λ (y : Reply). y.fallen ≡ [])) [
          | true ↦ none_handed r node none.waits
          | false ↦ none.replies name
        ])
act_tells_none r place (act.Back client chain) is none = absurd is
act_tells_none r place (act.Wrote client block value) is none = record { waits = none.waits; replies = none.replies }
act_tells_none r place (act.Fell client flight falls) is none = record { waits = none.waits; replies = none.replies }
act_tells_none r place (act.Read client block ver value) is none = record { waits = none.waits; replies = none.replies }
act_tells_none r place (act.Synced client) is none = record { waits = none.waits; replies = none.replies }
act_tells_none r place (act.Lost node seg) is none = record { waits = none.waits; replies = none.replies }
act_tells_none r place (act.Filed seg) is none = record { waits = none.waits; replies = none.replies }
act_tells_none r place (act.Dropped seg) is none = record { waits = none.waits; replies = none.replies }

acts_tell_none : (acts : List Act) (r : RepliesState) (place : ℕ) → AllByRecursion IsNoReturn acts → FellNone r → FellNone (with_acts r place acts)
acts_tell_none [] r place all none = none
acts_tell_none (a ∷ acts) r place all none = acts_tell_none acts (gathering_take r place a) (place + 1) all.1 (act_tells_none r place a all.0 none)

-- what the text has for an item
pub shows_answer : (acts : List Act) → AllByRecursion IsNoReturn acts → (node : NodeId) (item : ℕ) (x : Answer) → IsShown acts node item x
    → reply_text acts (reply_of (replies_of acts) (item_name node item)) ≡ answer_text x
shows_answer acts all node item x (reply, (there, at)) =
    ap (reply_text acts) there
    ∙ ap (λ (o : Option Answer). answered_text o reply.fallen) at
    ∙ ap (answered_text (Some x)) nothing_fell
    ∙ append-nil (answer_text x)
  where
    start : RepliesState
    start = record { table = []; falls = falls_start }

    none : FellNone (with_acts start 0 acts)
    none = acts_tell_none acts start 0 all (record { waits = refl; replies = λ name. tt })

    nothing_fell : reply.fallen ≡ []
    nothing_fell = subst (λ (o : Option Reply). IfSome o (λ y. y.fallen ≡ [])) there (none.replies (item_name node item))
