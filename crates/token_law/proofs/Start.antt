-- The small world is seen at its start, so it is always.
use Rattle.std.proofs.Common.{◌≡◌, ℕ, zero, suc, ◌-◌, ◌%◌, ◌≤◌, ◌<◌, Bool, true, false, nat_lt, get_or, List, [], ◌∷◌, Some, None, refl, sym, ap, arith}
use Rattle.std.proofs.lemmas.Bool.Decides.{nat_tests}
use Rattle.xfs_base.specs.Blocks.{slot_of}
use Rattle.token_client.proofs.AllInputs.{tokens_start-sound}
use Rattle.token_manager.specs.SlotState.{SlotState}
use Rattle.token_manager.specs.Transition as slot
use Rattle.token_manager.proofs.Guarded.{sound-start}
use Rattle.act_tie.specs.BlockActs.{acts_of}
use Rattle.token_protocol.specs.Premises.{Premise}
use Rattle.token_protocol.specs.Step.Steps.{Done as Ended}
use Rattle.token_protocol.specs.Told.{told}
use Rattle.token_protocol.specs.World.{start}
use Rattle.token_law.specs.Books.{no_books}
use Rattle.token_law.specs.Net.{Net, Happens, Runs, opening}
use Rattle.token_law.specs.Net.Runs.{Begun, On}
use Rattle.token_protocol.proofs.Refining.{put_each}
use Rattle.xfs_base.proofs.Booleans.{contrary}
use Rattle.xfs_base.specs.Limits.{slot_count}
use Rattle.token_law.proofs.Premises.{owed}
use Rattle.token_law.proofs.Logged.{flag, Kept, books_keep}
use Rattle.token_law.proofs.Apart.{falls_keep}
use Rattle.token_law.proofs.Views.{some_one}
use Rattle.token_law.proofs.SlotEvents.{ran_put}
use Rattle.token_law.proofs.Events.{Sure, keeps}
use Rattle.token_law.proofs.Taking.{Good}
use Rattle.token_law.proofs.Standing.{begun}

abbrev pub ones : List ℕ
ones = 1 ∷ 1 ∷ 1 ∷ 1 ∷ 1 ∷ 1 ∷ 1 ∷ 1 ∷ []

pub all_ones : (k : ℕ) → k < slot_count → get_or ones k 0 ≡ 1
all_ones zero h = refl
all_ones (suc zero) h = refl
all_ones (suc (suc zero)) h = refl
all_ones (suc (suc (suc zero))) h = refl
all_ones (suc (suc (suc (suc zero)))) h = refl
all_ones (suc (suc (suc (suc (suc zero))))) h = refl
all_ones (suc (suc (suc (suc (suc (suc zero)))))) h = refl
all_ones (suc (suc (suc (suc (suc (suc (suc zero))))))) h = refl
all_ones (suc (suc (suc (suc (suc (suc (suc (suc k)))))))) h = absurd (omega arith)

-- zeros, past the end too
abbrev pub Zeros : List ℕ → Type 0
Zeros [] = Unit {0}
Zeros (x ∷ xs) = (x ≡ 0) × Zeros xs

pub all_zeros : (xs : List ℕ) → Zeros xs → (k : ℕ) → get_or xs k 0 ≡ 0
all_zeros [] z k = refl
all_zeros (x ∷ xs) z zero = z.0
all_zeros (x ∷ xs) z (suc k) = all_zeros xs z.1 k

abbrev pub zeros : List ℕ
zeros = 0 ∷ 0 ∷ 0 ∷ 0 ∷ 0 ∷ 0 ∷ 0 ∷ 0 ∷ 0 ∷ []

pub below_eight : (n : ℕ) → n % 8 < slot_count
below_eight n = omega arith

pub serving_is : (c members : ℕ) → c < members → flag (nat_lt c members) ≡ 1
serving_is c members less = grind (arith, nat_tests)

pub begins : (logs : Bool) (members part : ℕ) → 0 < members → Good logs members part opening
begins logs members part some = record {
  sound = λ c. tokens_start-sound 1 ones;
  ran = ran_put (λ e. None) 1 (slot.slot_start 1 [] [] zeros) (begun 1 [] [] zeros) (λ k z fact. absurd (cc));
  views = λ b inside. record {
    world = start members;
    steps = Ended;
    many = refl;
    some = some;
    nobody = record { serving = serving_is 0 members some; mode = refl; promised = omega arith };
    positive = omega arith;
    clients = λ c pos less. record {
      client = pos;
      serving = serving_is c members less;
      boot = refl;
      incarnation = refl;
      stamps = record {
        promised = sym (all_ones (slot_of b.ino.0) (below_eight b.ino.0));
        past = omega arith;
        now = λ fact. absurd (omega arith);
        old = λ fact. refl;
      };
      mode = refl;
      counted = omega arith;
      want = refl;
      version = refl;
      settled = refl;
      value = tt;
      fetch = refl;
    };
    fell = λ c pos less down _. contrary (sym down);
    slot = slot.slot_start 1 [] [] zeros;
    sound = sound-start 1 [] [] zeros (λ block c d apart. omega arith);
    reigns = refl;
    manages = record {
      epoch = refl;
      turn = refl;
      belief = λ d. omega arith;
      applied = λ d some. sym (all_zeros zeros (refl, (refl, (refl, (refl, (refl, (refl, (refl, (refl, (refl, tt))))))))) (d - 1));
      index = refl;
      job = record { nothing = λ d. refl; paid = λ d. omega arith };
    };
    past = put_each (λ e o. (s : SlotState) → o ≡ Some s → (e ≤ 1) × (s.epoch ≡ e)) (λ e. None) 1 (Some (slot.slot_start 1 [] [] zeros))
        (λ s fact. (omega arith, ap (λ (x : SlotState). x.epoch) (sym (some_one (slot.slot_start 1 [] [] zeros) s fact))))
        (λ e other s fact. absurd (clash s fact));
    sent = λ p fact. absurd fact;
    kept = owed logs (Kept b no_books (start members)) (λ _. record { ends = λ l. refl; flights = λ l. refl; says = λ l q. refl });
    acts = owed logs (told {logs = logs} (start members) (start members) Ended ≡ acts_of b []) (λ _. refl);
  };
}
  where
    clash : (s : SlotState) → None ≡ Some s → ⊥
    clash s fact = absurd (cc)

-- the small world is seen, and what logs that keep their word are asked for holds
pub record Whole (logs : Bool) (members part : ℕ) (n : Net) : Type 0 where
  pub good : Good logs members part n
  pub sure : Premise logs (Sure members n)

sure_on : (logs : Bool) (members part : ℕ) (n m : Net) → Happens logs members part n m → Premise logs (Sure members n) → Premise logs (Sure members m)
sure_on true members part n m h s = record { books = books_keep members part n m h s.books; falls = falls_keep true members part n m h s.falls }
sure_on false members part n m h s = tt

pub always : (logs : Bool) (members part : ℕ) (n : Net) → 0 < members → Runs logs members part opening n → Whole logs members part n
always logs members part n some r = go opening n r (record { good = begins logs members part some; sure = owed logs (Sure members opening) (λ _. at_first) })
  where
    at_first : Sure members opening
    at_first = record {
      books = record { beyond = λ l q past. refl; once = λ c q within. tt; first = λ l. refl };
      falls = record { apart = tt; waits = λ c up_. refl };
    }

    go : (a m : Net) → Runs logs members part a m → Whole logs members part a → Whole logs members part m
    go a m Begun i = i
    go a m (On {m = k} rs h) i =
        let before = go a k rs i in
        record { good = keeps logs members part k m h before.sure before.good; sure = sure_on logs members part k m h before.sure }
