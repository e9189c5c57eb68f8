-- The epochs of slots that the cleaner has promised, and what its job has promised, once it promises one more.
use Rattle.std.proofs.Common.{◌≡◌, ◌<◌, ℕ, length, slice_set, nat_lt, refl, sym, ◌∙◌, arith}
use Rattle.std.proofs.lemmas.Bool.Decides.{nat_tests}
use Rattle.std.proofs.lemmas.List.{get_or-set_same, get_or-set_other, length-set}
use Rattle.std.proofs.lemmas.Option.{unwrap_or-slice_get}
use Rattle.index_tie.proofs.Tables.{second_of}
use Rattle.log_owner.specs.declared.promised.Promised.{Promised}
use Rattle.log_owner.specs.Promised.{epoch_of, managers_set, promise_to}
use Rattle.stripe_cleaner.specs.CleaningState.{CleaningState}
use Rattle.stripe_cleaner.specs.declared.input.In.TheVariants as input
use Rattle.stripe_cleaner.specs.Promises.{promised_at, promised_with, is_above}
use Rattle.stripe_cleaner.specs.Transition as job
use Rattle.xfs_base.proofs.Booleans.{by_test}
use Rattle.xfs_base.specs.Steps.{still}

epoch_is : (p : Promised) (slot : ℕ) → epoch_of p slot ≡ promised_at p.epochs slot
epoch_is p slot = unwrap_or-slice_get p.epochs slot 0

pub to_length : (p : Promised) (slot epoch manager : ℕ) → length p.epochs ≡ 8 → length (promise_to p slot epoch manager).epochs ≡ 8
to_length p slot epoch manager eight =
    by_test (λ (q : Promised). length q.epochs ≡ 8) (nat_lt slot 8)
    (record { epochs = slice_set p.epochs slot epoch; managers = managers_set p.managers slot manager }) p
    (λ _. length-set p.epochs slot epoch ∙ eight) (λ _. eight)

pub to_here : (p : Promised) (slot epoch manager : ℕ) → slot < 8 → length p.epochs ≡ 8 → epoch_of (promise_to p slot epoch manager) slot ≡ epoch
to_here p slot epoch manager small eight =
    by_test (λ (q : Promised). epoch_of q slot ≡ epoch) (nat_lt slot 8)
    (record { epochs = slice_set p.epochs slot epoch; managers = managers_set p.managers slot manager }) p
    (λ _. epoch_is (record { epochs = slice_set p.epochs slot epoch; managers = managers_set p.managers slot manager }) slot
    ∙ get_or-set_same p.epochs slot epoch 0 (omega arith))
    (λ fact. absurd (let s = small in grind (arith, nat_tests, s, fact)))

pub to_other : (p : Promised) (slot epoch manager k : ℕ) → (slot ≡ k → ⊥) → epoch_of (promise_to p slot epoch manager) k ≡ epoch_of p k
to_other p slot epoch manager k other =
    by_test (λ (q : Promised). epoch_of q k ≡ epoch_of p k) (nat_lt slot 8)
    (record { epochs = slice_set p.epochs slot epoch; managers = managers_set p.managers slot manager }) p
    (λ _. epoch_is (record { epochs = slice_set p.epochs slot epoch; managers = managers_set p.managers slot manager }) k
    ∙ get_or-set_other p.epochs slot k epoch 0 (λ same. other (sym same)) ∙ sym (epoch_is p k))
    (λ _. refl)

-- what a job has promised once it is told of an epoch
pub promise_is : (s : CleaningState) (slot epoch : ℕ) → (job.transition s (input.Promise slot epoch)).state.promised ≡ promised_with s.promised slot epoch
unfolding job.on_promise
promise_is s slot epoch =
    by_test (λ (d : job.Done). d.state.promised ≡ promised_with s.promised slot epoch) (is_above s.promised slot epoch)
    (job.turned (record s { promised = promised_with s.promised slot epoch }) (job.forgetting slot s.phase)) (still s) (λ _. refl)
    (λ fact. sym (second_of (is_above s.promised slot epoch) _ s.promised fact))
