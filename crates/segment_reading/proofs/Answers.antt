-- What an answer of a server leaves alone.
use Rattle.std.proofs.Common.{◌≡◌, ℕ, ◌==◌, ◌&&◌, Bool, true, false, Option, Some, None, refl}
use Rattle.std.proofs.lemmas.Bool.{eqb-true}
use Rattle.group_map.specs.GroupMapState.{GroupMapState}
use Rattle.segment_format.specs.declared.segment.Segment.{Segment}
use Rattle.segment_format.specs.ReadingItems.{answer_of}
use Rattle.stripe_code.specs.declared.round.RoundState.{RoundState}
use Rattle.stripe_code.specs.declared.round.RoundState.TheVariants as round
use Rattle.stripe_code.specs.declared.round.Told.{Told}
use Rattle.stripe_code.specs.Round.{asks, state_of, round_take, told_fits}
use Rattle.xfs_base.proofs.Booleans.{by_test, contrary}
use Rattle.segment_reading.specs.declared.reading.Next.TheVariants.{Wait, Lost}
use Rattle.segment_reading.specs.Course.{AnswersLoseNothing, OtherAnswersChangeNothing}
use Rattle.segment_reading.specs.Reading.{ReadingState, Step, counts, is_asking, reading_judge, name_fits, reading_take, reading_reads, segment_found}

abbrev LosesNothing : Step → Type 0
LosesNothing step = step.next ≡ Lost → ⊥

read_so : (r : ReadingState) (found : Option Segment) → LosesNothing (reading_reads r found)
read_so r (Some s) = λ lost. absurd cc
read_so r None = λ lost. absurd cc

reading_judge_so : (r : ReadingState) (groups : GroupMapState) (st : RoundState) → LosesNothing (reading_judge r groups st)
reading_judge_so r groups (round.Read bytes) = read_so r (segment_found r.target groups (answer_of bytes))
reading_judge_so r groups (round.Short pairs) = λ lost. absurd cc
reading_judge_so r groups round.Waiting = λ lost. absurd cc

pub lose_nothing : AnswersLoseNothing
unfolding reading_take
lose_nothing r groups ask server told =
    by_test LosesNothing (counts r ask server told) (reading_judge (record r { round = round_take r.round server told }) groups (state_of (round_take r.round server told)))
    (record { state = r; next = Wait })
    (λ t. reading_judge_so (record r { round = round_take r.round server told }) groups (state_of (round_take r.round server told))) (λ t lost. absurd cc)

-- what counts answers the question of the round
second_of : (a b c d : Bool) → (a && b && c && d) ≡ true → b ≡ true
second_of a true c d h = refl
second_of true false c d h = contrary h
second_of false false c d h = contrary h

of_the_round : (r : ReadingState) (ask server : ℕ) (told : Told) → counts r ask server told ≡ true → ask ≡ r.ask
of_the_round r ask server told h =
    eqb-true ask r.ask
    (second_of (is_asking r.stage) (ask == r.ask) (asks r.round server) (name_fits r.target told && told_fits r.round told) h)

pub change_nothing : OtherAnswersChangeNothing
unfolding reading_take
change_nothing r groups ask server told other =
    by_test (λ (step : Step). step ≡ record { state = r; next = Wait }) (counts r ask server told)
    (reading_judge (record r { round = round_take r.round server told }) groups (state_of (round_take r.round server told))) (record { state = r; next = Wait })
    (λ t. absurd (other (of_the_round r ask server told t))) (λ t. refl)
