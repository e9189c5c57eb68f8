-- The numbers by which a scan's questions are out: they stay, or are later than those that the node drew before.
use Rattle.std.proofs.Common.{◌≡◌, ◌⊎◌, ℕ, ◌+◌, ◌==◌, ◌<◌, ◌≤◌, true, cond, nat_lt, List, [], ◌∷◌, ap, ◌∙◌, inl, inr, arith}
use Rattle.std.specs.List.{AllByRecursion}
use Rattle.std.proofs.lemmas.Bool.Decides.{nat_tests}
use Rattle.std.proofs.lemmas.Bool.{eqb-true}
use Rattle.xfs_base.proofs.Booleans.{by_test}
use Rattle.xfs_base.specs.declared.node.NodeId.{NodeId}
use Rattle.xfs_base.specs.declared.node.NodeId.TheVariants.{Registry, Server}
use Rattle.xfs_base.specs.declared.segment.SegName.{SegName}
use Rattle.xfs_base.specs.Limits.{u32_end}
use Rattle.xfs_base.specs.Steps.{steps}
use Rattle.log_owner.specs.declared.ended.Owner.{Owner}
use Rattle.log_owner.specs.Opening.{sent_send}
use Rattle.log_owner.specs.Sending.{fetch}
use Rattle.log_scan.specs.declared.output.Out.{Out}
use Rattle.log_scan.specs.declared.output.Out.TheVariants.{Hello, Fence, Fetch, Chain, Lost}
use Rattle.log_scan.specs.declared.stage.Stage.{Stage}
use Rattle.node_base.specs.Asking.{asked_as, draw, drawn_for, next_ask, number_for}
use Rattle.node_base.specs.declared.effects.Effect.{Effect}
use Rattle.node_base.specs.declared.effects.Effect.TheVariants.{Send}
use Rattle.node_base.specs.declared.questions.Asked.{Asked}
use Rattle.node_base.specs.declared.questions.Questions.{Questions}
use Rattle.node_base.specs.Room.{has_room}
use Rattle.wire_msg.specs.declared.body.Body.{Body}
use Rattle.run_losses.proofs.torn_law.OpeningTurns.{NotFetch}
use Rattle.run_losses.proofs.torn_law.ScanAsks.{FetchOf, ReadFor}

drawn_later : (start k : ℕ) → has_room start ≡ true → start ≤ k → start < cond (nat_lt k u32_end) (k + 1) k
drawn_later start k room more = grind (arith, nat_tests)

last_rises : (k : ℕ) → k ≤ cond (nat_lt k u32_end) (k + 1) k
last_rises k = grind (arith, nat_tests)

for_more : (a : Asked) (q : Questions) (own : ℕ) → q.last ≤ (drawn_for a q own).last
for_more a q own = by_test (λ (p : Questions). q.last ≤ p.last) (own == a.own) q (draw q) (λ t. omega arith) (λ t. last_rises q.last)

-- it is out by the number that it had, or by a later one than that of the last question before
abbrev pub StaysOut : ℕ → Asked → Asked → Type 0
StaysOut start first a = (a ≡ first) ⊎ (start < a.ask)

module _ (start : ℕ) (room : has_room start ≡ true) (first : Asked) where
  asked_so : (a : Asked) (q : Questions) (own : ℕ) → start ≤ q.last → StaysOut start first a → StaysOut start first (asked_as a q own)
  asked_so a q own more out =
      by_test (λ (n : ℕ). StaysOut start first (record { own = own; ask = n })) (own == a.own) a.ask (next_ask q)
      (λ t. same (eqb-true own a.own t) out) (λ t. inr (drawn_later start q.last room more))
    where
      same : own ≡ a.own → StaysOut start first a → StaysOut start first (record { own = own; ask = a.ask })
      same e (inl fact) = inl (ap (λ (n : ℕ). record { own = n; ask = a.ask }) e ∙ fact)
      same e (inr less) = inr less

  pub numbers_so : (owner : Owner) (low : ℕ) (a : Asked) (q : Questions) (e : _) (outs : List Out) → start ≤ q.last → StaysOut start first a
      → StaysOut start first (steps (sent_send owner low) (record { asked = a; questions = q; ended = e }) outs).state.asked
  unfolding sent_send
  numbers_so owner low a q e [] more out = out
  numbers_so owner low a q e (Hello own ∷ outs) more out =
      numbers_so owner low (asked_as a q own) (drawn_for a q own) e outs (let m = for_more a q own in omega arith) (asked_so a q own more out)
  numbers_so owner low a q e (Fence server ∷ outs) more out = numbers_so owner low a q e outs more out
  numbers_so owner low a q e (Fetch server name own ∷ outs) more out =
      numbers_so owner low (asked_as a q own) (drawn_for a q own) e outs (let m = for_more a q own in omega arith) (asked_so a q own more out)
  numbers_so owner low a q e (Chain segments end prior ∷ outs) more out = numbers_so owner low a q _ outs more out
  numbers_so owner low a q e (Lost name ∷ outs) more out = numbers_so owner low a q _ outs more out

-- ---- what is sent

module _ (E : Effect → Type 0) (quiet : (to : NodeId) (b : Body) → NotFetch b → E (Send to b)) (st : Stage)
    (fetches : (name : SegName) (number server own : ℕ) → ReadFor st name own → E (fetch name number server)) where
  pub says_so : (owner : Owner) (low : ℕ) (a : Asked) (q : Questions) (e : _) (outs : List Out) → AllByRecursion (FetchOf st) outs
      → AllByRecursion E (steps (sent_send owner low) (record { asked = a; questions = q; ended = e }) outs).outs
  unfolding sent_send
  says_so owner low a q e [] all = tt
  says_so owner low a q e (Hello own ∷ outs) all =
      (quiet Registry _ tt, says_so owner low (asked_as a q own) (drawn_for a q own) e outs all.1)
  says_so owner low a q e (Fence server ∷ outs) all = (quiet (Server server) _ tt, says_so owner low a q e outs all.1)
  says_so owner low a q e (Fetch server name own ∷ outs) all =
      (fetches name (number_for a q own) server own all.0, says_so owner low (asked_as a q own) (drawn_for a q own) e outs all.1)
  says_so owner low a q e (Chain segments end prior ∷ outs) all = says_so owner low a q _ outs all.1
  says_so owner low a q e (Lost name ∷ outs) all = says_so owner low a q _ outs all.1
