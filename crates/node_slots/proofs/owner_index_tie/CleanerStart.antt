-- The cleaner at the start of a run is seen in the opening of the small world, and stays seen while nothing is filed of its log and it has there what it had.
use Rattle.std.proofs.Common.{◌≡◌, ◌<◌, ℕ, zero, suc, [], refl, sym, ap, ◌∙◌, arith}
use Rattle.cleaner_node.specs.declared.cleaner.Phase.{Phase}
use Rattle.cleaner_node.specs.declared.cleaner.Phase.TheVariants.{Down, Opening, Serving}
use Rattle.index_tie.specs.Net.{Net}
use Rattle.log_owner.specs.Promised.{epoch_of, promised_start}
use Rattle.headline.specs.Filed.{Texts}
use Rattle.node_slots.proofs.node_index_tie.Moves.{some_none}
use Rattle.stripe_cleaner.specs.CleaningState.{CleaningState}
use Rattle.stripe_cleaner.specs.Promises.{promised_at}
use Rattle.node_slots.specs.owner_index_tie.CleanerEvents.{CleanerRests, PhaseAgrees, CleanerStartAgrees, LeavesCleaner, CleanerStays}
use Rattle.node_slots.proofs.owner_index_tie.CleanerFrames.{same_job}
use Rattle.node_slots.proofs.owner_index_tie.CleanerSays.{told_nothing}
use Rattle.node_slots.proofs.owner_index_tie.Feeds.{same_owner, same_fits}
use Rattle.node_slots.proofs.owner_index_tie.Moving.{cleaner_starts_moving, moves_later}
use Rattle.node_slots.proofs.owner_index_tie.Start.{nothing_fits}
use Rattle.node_slots.proofs.owner_index_tie.Turns.{none_next}

-- each slot is promised to epoch 1
first_epoch : (managers k : ℕ) → k < 8 → 1 ≡ epoch_of (promised_start managers) k
first_epoch managers zero h = refl
first_epoch managers (suc zero) h = refl
first_epoch managers (suc (suc zero)) h = refl
first_epoch managers (suc (suc (suc zero))) h = refl
first_epoch managers (suc (suc (suc (suc zero)))) h = refl
first_epoch managers (suc (suc (suc (suc (suc zero))))) h = refl
first_epoch managers (suc (suc (suc (suc (suc (suc zero)))))) h = refl
first_epoch managers (suc (suc (suc (suc (suc (suc (suc zero))))))) h = refl
first_epoch managers (suc (suc (suc (suc (suc (suc (suc (suc k)))))))) h = absurd (omega arith)

pub cleaner_start_agrees : CleanerStartAgrees
cleaner_start_agrees part texts any setup works small = record {
  phase = (
    record {
      owner = record {
        number_is = refl;
        log = none_next 9 _ refl refl;
        end = record { seq = refl; pass = λ some. absurd (omega arith) };
        feed = record {
          base = 0;
          inputs = [];
          feed_is = refl;
          fed = record { known = omega arith; end = refl; each = refl };
          fit = nothing_fits any 9;
          short = omega arith;
        };
      };
      eight = refl;
      promised = first_epoch setup.managers part small;
      job = told_nothing 0 part;
    },
    λ f fact. absurd (some_none f (sym fact)),
  );
  moves = cleaner_starts_moving part [] setup works;
}

module _ (part : ℕ) (texts : Texts) (n m : Net) (same : LeavesCleaner n m) where
  same_rests : CleanerRests part n → CleanerRests part m
  same_rests h = record { fits = same_fits part n m 9 same.log h.fits; job = ap (λ (x : CleaningState). promised_at x.promised part) same.job ∙ h.job }

  same_cleaner : (p : Phase) → PhaseAgrees part n texts p → PhaseAgrees part m texts p
  same_cleaner (Down l) h = same_rests h
  same_cleaner (Opening l o) h = (same_rests h.0, h.1)
  same_cleaner (Serving e) h = (
    record {
      owner = same_owner part n m 9 9 e.log e.feed same.log h.0.owner;
      eight = h.0.eight;
      promised = same.promised ∙ h.0.promised;
      job = same_job part n m (epoch_of e.promised part) e.job same.job h.0.job;
    },
    h.1,
  )

pub cleaner_stays : CleanerStays
cleaner_stays part texts n m p same h =
    record { phase = same_cleaner part texts n m same p h.phase; moves = moves_later part n.sent m.sent same.sent p h.moves }
