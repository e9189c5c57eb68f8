-- Where no item is answered twice, the answer that the text of a run shows for an item is its one answer.
use Rattle.std.proofs.Common.{◌≡◌, ℕ, zero, suc, ◌+◌, Bool, true, false, cond, ◌&&◌, List, [], ◌∷◌, slice_get, Some, inl, inr, refl, ap, subst, ◌∙◌, arith}
use Rattle.std.specs.Cmp.{IsTotalOrder}
use Rattle.std.specs.declared.cmp.Ordering.{Ordering}
use Rattle.std.specs.declared.cmp.Ordering.TheVariants.{Less, Equal, Greater}
use Rattle.std.specs.Ordering.{eq_by_cmp, is_eq, nat_cmp, ordering_then}
use Rattle.std.proofs.lemmas.Bool.Decides.{nat_tests}
use Rattle.std.proofs.lemmas.Cmp.{nat_cmp_total, on_total, then_total}
use Rattle.std.proofs.lemmas.Map.Lookups.{exact_unsigned}
use Rattle.transcript.specs.declared.replies.ItemName.{ItemName}
use Rattle.transcript.specs.declared.replies.Reply.{Reply}
use Rattle.transcript.specs.Falls.{falls_start}
use Rattle.transcript.specs.Replies.{RepliesState, answer_by, handed_out, item_cmp, reply_of, gathering_take, with_acts}
use Rattle.version_model.specs.declared.act.Act.{Act}
use Rattle.version_model.specs.declared.act.Act.TheVariants as act
use Rattle.version_model.specs.declared.answer.Answer.{Answer}
use Rattle.xfs_base.proofs.BlockOrder.{lookup-insert_entry}
use Rattle.xfs_base.proofs.Booleans.{and_first, and_second, contrary}
use Rattle.xfs_base.proofs.NodeOrder.{node_total, same_node_is, same_node_itself}
use Rattle.xfs_base.specs.declared.node.NodeId.{NodeId}
use Rattle.xfs_base.specs.Nodes.{node_cmp, same_node}
use Rattle.headline.specs.Items.{AnswersOnce, IsShown, IsShownOpen, IsUnanswered, item_name}

-- ---- the order of items

item_total : IsTotalOrder item_cmp
item_total = then_total (on_total (λ (i : ItemName). i.node) node_total) (on_total (λ (i : ItemName). i.number) nat_cmp_total)

is_eq_then : (o p : Ordering) → is_eq (ordering_then o p) ≡ (is_eq o && is_eq p)
is_eq_then Less p = refl
is_eq_then Equal p = refl
is_eq_then Greater p = refl

equal_is : (o : Ordering) → is_eq o ≡ true → o ≡ Equal
equal_is Less e = contrary e
equal_is Equal e = refl
equal_is Greater e = contrary e

module _ (node n : NodeId) (item i : ℕ) where
  one_item : eq_by_cmp item_cmp (item_name node item) (item_name n i) ≡ (same_node node n && is_eq (nat_cmp item i))
  one_item = is_eq_then (node_cmp node n) (nat_cmp item i)

  other_item : (node ≡ n → item ≡ i → ⊥) → eq_by_cmp item_cmp (item_name node item) (item_name n i) ≡ false
  other_item apart = one_item ∙ by (same_node node n && is_eq (nat_cmp item i)) refl
    where
      by : (t : Bool) → (same_node node n && is_eq (nat_cmp item i)) ≡ t → t ≡ false
      by true e =
          absurd (apart (same_node_is node n (and_first (same_node node n) (is_eq (nat_cmp item i)) e))
          (exact_unsigned item i (equal_is (nat_cmp item i) (and_second (same_node node n) (is_eq (nat_cmp item i)) e))))
      by false e = refl

same_number : (k : ℕ) → is_eq (nat_cmp k k) ≡ true
same_number k = grind (arith, nat_tests)

same_item : (node : NodeId) (item : ℕ) → eq_by_cmp item_cmp (item_name node item) (item_name node item) ≡ true
same_item node item =
    one_item node node item item ∙ (ap (λ t. t && is_eq (nat_cmp item item)) (same_node_itself node) ∙ same_number item)

-- ---- replies

-- what the table has of an item stays where it is not answered
kept : (acts : List Act) (r : RepliesState) (k : ℕ) (node : NodeId) (item : ℕ) → IsUnanswered acts node item
    → reply_of (with_acts r k acts).table (item_name node item) ≡ reply_of r.table (item_name node item)
kept [] r k node item none = refl
kept (act.Answered n i b ∷ acts) r k node item none =
    let reply : Reply = record { place = k; fallen = handed_out r.falls n } in
    kept acts (gathering_take r k (act.Answered n i b)) (k + 1) node item (λ a among. none a (inr among))
    ∙ (lookup-insert_entry item_total (item_name node item) (item_name n i) reply r.table
    ∙ ap (λ t. cond t (Some reply) (reply_of r.table (item_name node item))) (other_item node n item i apart))
  where
    apart : node ≡ n → item ≡ i → ⊥
    apart one two = none b (inl (ap (λ x. act.Answered x item b) one ∙ ap (λ x. act.Answered n x b) two))
kept (_ ∷ acts) r k node item none = kept acts _ (k + 1) node item (λ a among. none a (inr among))

-- the act at a place answers: the table has that place
record Found (acts : List Act) (r : RepliesState) (k place : ℕ) (node : NodeId) (item : ℕ) : Type 0 where
  reply : Reply
  there : reply_of (with_acts r k acts).table (item_name node item) ≡ Some reply
  at : reply.place ≡ k + place

found : (acts : List Act) (r : RepliesState) (k : ℕ) → AnswersOnce acts → (place : ℕ) (node : NodeId) (item : ℕ) (a : Answer)
    → slice_get acts place ≡ Some (act.Answered node item a) → Found acts r k place node item
found [] r k once zero node item a fact = absurd cc
found [] r k once (suc place) node item a fact = absurd cc
found (act.Answered n i b ∷ acts) r k once zero node item a fact =
    let one : n ≡ node = cc in
    let two : i ≡ item = cc in
    subst (λ x. Found (act.Answered n i b ∷ acts) r k 0 x item) one (subst (λ x. Found (act.Answered n i b ∷ acts) r k 0 n x) two here)
  where
    here : Found (act.Answered n i b ∷ acts) r k 0 n i
    here =
        let first : Reply = record { place = k; fallen = handed_out r.falls n } in
        record {
          reply = first;
          there = kept acts (gathering_take r k (act.Answered n i b)) (k + 1) n i once.0
              ∙ (lookup-insert_entry item_total (item_name n i) (item_name n i) first r.table
              ∙ ap (λ t. cond t (Some first) (reply_of r.table (item_name n i))) (same_item n i));
          at = omega arith;
        }
found (act.Answered n i b ∷ acts) r k once (suc place) node item a fact =
    let f = found acts (gathering_take r k (act.Answered n i b)) (k + 1) once.1 place node item a fact in
    record { reply = f.reply; there = f.there; at = (let at = f.at in omega arith) }
found (_ ∷ acts) r k once zero node item a fact = absurd cc
found (_ ∷ acts) r k once (suc place) node item a fact =
    let f = found acts _ (k + 1) once place node item a fact in
    record { reply = f.reply; there = f.there; at = (let at = f.at in omega arith) }

pub is_shown : (acts : List Act) → AnswersOnce acts → (place : ℕ) (node : NodeId) (item : ℕ) (a : Answer)
    → slice_get acts place ≡ Some (act.Answered node item a) → IsShown acts node item a
is_shown acts once place node item a fact =
    let f = found acts (record { table = []; falls = falls_start }) 0 once place node item a fact in
    let at : f.reply.place ≡ place = (let p = f.at in omega arith) in
    (f.reply, (f.there, ap (λ p. answer_by (slice_get acts p)) at ∙ ap answer_by fact))

pub is_not_shown : (acts : List Act) (node : NodeId) (item : ℕ) → IsUnanswered acts node item → IsShownOpen acts node item
is_not_shown acts node item none = kept acts (record { table = []; falls = falls_start }) 0 node item none
