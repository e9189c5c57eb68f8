-- A question that is drawn anew, among those that a client asked.
use Rattle.std.proofs.Common.{◌≡◌, ◌<◌, ◌≤◌, ℕ, ◌+◌, ◌==◌, true, cond, nat_lt, refl, ap, ◌∙◌, arith}
use Rattle.std.proofs.lemmas.Bool.Decides.{nat_tests}
use Rattle.std.proofs.lemmas.Bool.{eqb-true}
use Rattle.node_base.specs.Asking.{next_ask}
use Rattle.node_base.specs.declared.questions.Questions.{Questions}
use Rattle.node_base.specs.Room.{has_room}
use Rattle.xfs_base.proofs.Booleans.{by_test, equal_itself}
use Rattle.xfs_base.specs.Limits.{u32_end}
use Rattle.log_protocol.specs.Tables.{put}
use Rattle.log_tie.specs.Setting.{Setting}
use Rattle.log_law.specs.Events.Runs.{Begun}
use Rattle.node_logs.specs.client_log_tie.ClientEvents.{Grown}
use Rattle.node_logs.specs.client_log_tie.Owner.{Scene}
use Rattle.node_logs.specs.node_log_tie.Sight.{Question}
use Rattle.node_logs.specs.node_log_tie.Sight.Question.{Unasked}

-- the last number never falls, and rises where it has room
last_rises : (k : ℕ) → k ≤ cond (nat_lt k u32_end) (k + 1) k
last_rises k = grind (arith, nat_tests)

rises : (k : ℕ) → has_room k ≡ true → k < cond (nat_lt k u32_end) (k + 1) k
rises k r = grind (arith, nat_tests)

pub ask_no_lower : (q : Questions) → q.last ≤ next_ask q
ask_no_lower q = last_rises q.last

pub ask_rises : (q : Questions) → has_room q.last ≡ true → q.last < next_ask q
ask_rises q room = rises q.last room

pub put_here : {X : Type 0} (f : ℕ → X) (n : ℕ) (x : X) → put f n x n ≡ x
put_here f n x = ap (λ t. cond t x (f n)) (equal_itself n)

module _ (f : ℕ → Question) (n : ℕ) (x : Question) where
  -- nothing was asked by the number before
  pub put_keeps : f n ≡ Unasked → (k : ℕ) → (f k ≡ Unasked → ⊥) → put f n x k ≡ f k
  put_keeps none k some = by_test (λ y. y ≡ f k) (k == n) x (f k) (λ t. absurd (some (ap f (eqb-true k n t) ∙ none))) (λ t. refl)

  pub put_fresh : (last : ℕ) → last < n → ((k : ℕ) → last < k → f k ≡ Unasked) → (k : ℕ) → n < k → put f n x k ≡ Unasked
  put_fresh last less fresh k later =
      by_test (λ y. y ≡ Unasked) (k == n) x (f k) (λ t. (let e = eqb-true k n t in absurd (omega arith))) (λ t. fresh k (omega arith))

  -- and what was asked by lower numbers stays so
  pub put_below : (k : ℕ) → k < n → put f n x k ≡ f k
  put_below k less = by_test (λ y. y ≡ f k) (k == n) x (f k) (λ t. (let e = eqb-true k n t in absurd (omega arith))) (λ t. refl)

-- the small world is as it was, but for what is asked
abbrev pub asks_grown : (g : Setting) (w : Scene) (n : ℕ) (x : Question) → w.asked n ≡ Unasked → Grown g w (record { net = w.net; asked = put w.asked n x })
asks_grown g w n x none = record {
  runs = Begun;
  sent = λ p among. among;
  filed = λ name among. among;
  shelves = refl;
  registry = refl;
  low = refl;
  dropped = refl;
  asked = put_keeps w.asked n x none;
}
