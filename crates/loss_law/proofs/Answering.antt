-- A round with one more answer, and what its state says of its pairs.
use Rattle.std.proofs.Common.{◌≡◌, ℕ, ◌&&◌, Bool, true, false, cond, List, [], ◌∷◌, ◌++◌, refl, sym, ap}
use Rattle.std.specs.Prelude.{unwrap_or}
use Rattle.segment_reading.specs.declared.reading.Stage as rounds
use Rattle.segment_reading.specs.declared.reading.Stage.TheVariants as stand
use Rattle.segment_reading.specs.Reading.{is_asking}
use Rattle.xfs_base.proofs.Booleans.{by_test, contrary}
use Rattle.stripe_code.specs.declared.round.RoundState.{RoundState}
use Rattle.stripe_code.specs.declared.round.RoundState.TheVariants.{Read, Short, Waiting}
use Rattle.stripe_code.specs.declared.round.Told.{Told}
use Rattle.stripe_code.specs.Joined.{joined}
use Rattle.stripe_code.specs.Round.{RoundSoFar, has_answered, asks, round_take, is_enough, all_answered, parts_in, len_in, missing_in, state_of}
use Rattle.loss_law.proofs.Pairs.{Single, AllAsked, ToldSo, AllSo, single_more, asked_more, so_more}

-- the parts of a test that an answer counts
pub record Counted (a b c : Bool) : Type 0 where
  pub first : a ≡ true
  pub second : b ≡ true
  pub third : c ≡ true

pub counted_parts : (a b c d : Bool) → (a && b && c && d) ≡ true → Counted a b c
counted_parts true true true d h = record { first = refl; second = refl; third = refl }
counted_parts true true false d h = contrary h
counted_parts true false c d h = contrary h
counted_parts false b c d h = contrary h

pub asks_still : (stage : rounds.Stage) → is_asking stage ≡ true → stage ≡ stand.Asking
asks_still stand.Asking t = refl
asks_still stand.Between t = contrary t
asks_still stand.Doubted t = contrary t
asks_still stand.Over t = contrary t

-- what is known of a round whose answers tell what was so
pub record RoundSo (P : ℕ → ℕ → Type 0) (servers : List ℕ) (parity : ℕ) (r : RoundSoFar) : Type 0 where
  pub its_servers : r.servers ≡ servers
  pub its_parity : r.parity ≡ parity
  pub single : Single r.answers
  pub asked : AllAsked r.servers r.answers
  pub told : AllSo P r.answers

pub round_take_so : (P : ℕ → ℕ → Type 0) (servers : List ℕ) (parity : ℕ) (r : RoundSoFar) (server : ℕ) (t : Told) → RoundSo P servers parity r → asks r server ≡ true
    → ToldSo P server t → RoundSo P servers parity (round_take r server t)
unfolding round_take
round_take_so P servers parity r server t so asked fact =
    by_test (RoundSo P servers parity) (has_answered r.answers server) r (record r { answers = r.answers ++ record { server = server; told = t } ∷ [] })
    (λ e. so) (λ e. record {
      its_servers = so.its_servers;
      its_parity = so.its_parity;
      single = single_more r.answers (record { server = server; told = t }) so.single e;
      asked = asked_more r.servers r.answers (record { server = server; told = t }) so.asked asked;
      told = so_more P r.answers (record { server = server; told = t }) so.told fact;
    })

pairs_in : RoundState → List (ℕ × ℕ)
pairs_in (Read text) = []
pairs_in (Short pairs) = pairs
pairs_in Waiting = []

-- a round that is short has the pairs that were Missing
pub short_pairs : (r : RoundSoFar) (pairs : List (ℕ × ℕ)) → state_of r ≡ Short pairs → pairs ≡ missing_in r.answers
unfolding state_of pairs_in
short_pairs r pairs =
    by_test (λ (st : RoundState). st ≡ Short pairs → pairs ≡ missing_in r.answers) (is_enough r)
    (Read (joined (parts_in r.n r.answers) r.parity (unwrap_or (len_in r.answers) 0)))
    (cond (all_answered r.answers r.servers) (Short (missing_in r.answers)) Waiting)
    (λ t e. absurd cc)
    (λ t. by_test (λ (st : RoundState). st ≡ Short pairs → pairs ≡ missing_in r.answers) (all_answered r.answers r.servers)
    (Short (missing_in r.answers)) Waiting (λ k e. sym (ap pairs_in e)) (λ k e. absurd cc))
