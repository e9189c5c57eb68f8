-- A reading takes what came alone: whatever it is told, its round stays one of answers that came, and what it reads is joined of them.
use Rattle.std.proofs.Common.{◌≡◌, ℕ, true, ◌==◌, ◌&&◌, List, [], ◌∷◌, ◌++◌, Option, Some, None, Result, Ok, Err, length, refl, sym, subst}
use Rattle.std.proofs.lemmas.Bool.{eqb-true}
use Rattle.std.proofs.lemmas.List.Elements.{All-nil}
use Rattle.group_map.specs.declared.group.Group.{Group}
use Rattle.group_map.specs.GroupMapState.{GroupMapState}
use Rattle.segment_format.specs.declared.seg_error.SegError.{SegError}
use Rattle.segment_format.specs.declared.segment.Segment.{Segment}
use Rattle.segment_format.specs.ReadingItems.{answer_of}
use Rattle.segment_reading.specs.declared.reading.Next.TheVariants.{Wait, Read}
use Rattle.segment_reading.specs.declared.reading.Stage.{Stage}
use Rattle.segment_reading.specs.declared.reading.Stage.TheVariants.{Asking, Between, Doubted, Over}
use Rattle.segment_reading.specs.declared.target.Target.{Target}
use Rattle.segment_reading.specs.Reading.{ReadingState, Step, reading_start, is_asking, name_fits, counts, ends, reading_reads, segment_found, is_met_by, is_known, has_block, reading_judge, reading_take, goes_on, on_confirmed}
use Rattle.stripe_code.proofs.Rounds.{pushed_is_round}
use Rattle.stripe_code.specs.declared.round.Answer.{Answer}
use Rattle.stripe_code.specs.declared.round.RoundState.{RoundState}
use Rattle.stripe_code.specs.declared.round.RoundState.TheVariants as round
use Rattle.stripe_code.specs.declared.round.Told.{Told as Answered}
use Rattle.stripe_code.specs.declared.round.Told.TheVariants.{Held, Missing}
use Rattle.xfs_base.specs.Segments.{same_name}
use Rattle.stripe_code.specs.Round.{RoundSoFar, TellsPart, count_of, asks, has_answered, round_take, told_fits, state_of}
use Rattle.xfs_base.proofs.Booleans.{by_test, and_first, and_second}
use Rattle.xfs_base.proofs.SegmentNames.{one_name}
use Rattle.xfs_base.specs.declared.segment.SegRef.{SegRef}
use Rattle.xfs_base.proofs.Alls.{all_append, all_weaker}
use Rattle.node_tellings.specs.reading_tie.Came.{Came, Striped, GroupStriped, MapStriped, MapsStriped, IsOfName, AnswerCame, RoundCame, ReadingCame, AnyReadingCame, ReadsJoined, ReadsTarget}
use Rattle.node_tellings.proofs.reading_tie.Came.{CameMore, StripedMore}

-- ---- an answer that counts

-- the reader asked for it, and it fits
record Counted (r : ReadingState) (ask : ℕ) (told : Answered) : Type 0 where
  its_own : r.ask ≡ ask
  of_name : IsOfName r.target.seg.name told
  fits : told_fits r.round told ≡ true

fitting_name : (target : Target) (told : Answered) → name_fits target told ≡ true → IsOfName target.seg.name told
fitting_name target (Held f) h = one_name f.meta.name target.seg.name h
fitting_name target (Missing generation) h = tt

counted : (r : ReadingState) (ask server : ℕ) (told : Answered) → counts r ask server told ≡ true → Counted r ask told
counted r ask server told h =
    let front : (is_asking r.stage && (ask == r.ask)) && asks r.round server ≡ true =
    and_first (is_asking r.stage && (ask == r.ask) && asks r.round server) (name_fits r.target told && told_fits r.round told) h
    in
    let asked : is_asking r.stage && (ask == r.ask) ≡ true = and_first (is_asking r.stage && (ask == r.ask)) (asks r.round server) front in
    let fit : name_fits r.target told && told_fits r.round told ≡ true =
    and_second (is_asking r.stage && (ask == r.ask) && asks r.round server) (name_fits r.target told && told_fits r.round told) h
    in
    record {
      its_own = sym (eqb-true ask r.ask (and_second (is_asking r.stage) (ask == r.ask) asked));
      of_name = fitting_name r.target told (and_first (name_fits r.target told) (told_fits r.round told) fit);
      fits = and_second (name_fits r.target told) (told_fits r.round told) fit;
    }

module _ (came : Came) (striped : Striped) where
  -- ---- rounds

  module _ (seg : SegRef) (ask : ℕ) where
    abbrev Is : RoundSoFar → Type 0
    Is r = RoundCame came striped seg ask r

    pub one_more : (r : RoundSoFar) (server : ℕ) (told : Answered) → Is r → came ask server told → IsOfName seg.name told → told_fits r told ≡ true
        → Is (round_take r server told)
    unfolding round_take
    one_more r server told h fact name fits =
        by_test Is (has_answered r.answers server) r (record r { answers = r.answers ++ record { server = server; told = told } ∷ [] }) (λ _. h)
        (λ _. record {
          is_round = pushed_is_round r server told h.is_round fits;
          cut_so = h.cut_so;
          answers = all_append (AnswerCame came ask seg.name) r.answers (record { server = server; told = told } ∷ []) h.answers
              (record { came_so = fact; of_name = name }, tt);
        })

  -- a round without answers, under any question
  fresh : (seg : SegRef) (ask other : ℕ) (r : RoundSoFar) → RoundCame came striped seg other r → RoundCame came striped seg ask (record r { answers = [] })
  fresh seg ask other r h = record {
    is_round = record { cut = h.is_round.cut; parts = All-nil (λ (a : Answer). TellsPart r.n (count_of r) 0 a.told) };
    cut_so = h.cut_so;
    answers = tt;
  }

  -- the first round begins over a group of a map that came
  pub begun_came : (target : Target) (group : Group) (ask : ℕ) → GroupStriped striped target.seg.group group → ReadingCame came striped (reading_start target group ask)
  begun_came target group ask h = record {
    is_round = record { cut = h.cut; parts = All-nil (λ (a : Answer). TellsPart (length group.members) (count_of (reading_start target group ask).round) 0 a.told) };
    cut_so = h.said;
    answers = tt;
  }

  -- ---- an answer

  abbrev StepCame : Step → Type 0
  StepCame s = ReadingCame came striped s.state

  reading_reads_came : (r : ReadingState) (found : Option Segment) → ReadingCame came striped r → StepCame (reading_reads r found)
  reading_reads_came r None h = record { is_round = h.is_round; cut_so = h.cut_so; answers = h.answers }
  reading_reads_came r (Some s) h = record { is_round = h.is_round; cut_so = h.cut_so; answers = h.answers }

  judged_came : (r : ReadingState) (groups : GroupMapState) (now : RoundState) → ReadingCame came striped r → StepCame (reading_judge r groups now)
  judged_came r groups (round.Read bytes) h = reading_reads_came r _ h
  judged_came r groups (round.Short pairs) h = record { is_round = h.is_round; cut_so = h.cut_so; answers = h.answers }
  judged_came r groups round.Waiting h = h

  -- the round with an answer that counts
  with_answer : (r : ReadingState) (ask server : ℕ) (told : Answered) → ReadingCame came striped r → came ask server told → counts r ask server told ≡ true
      → ReadingCame came striped (record r { round = round_take r.round server told })
  with_answer r ask server told h fact counts_so =
      let c = counted r ask server told counts_so in
      one_more r.target.seg r.ask r.round server told h (subst (λ q. came q server told) (sym c.its_own) fact) c.of_name c.fits

  pub answered_came : (r : ReadingState) (groups : GroupMapState) (ask server : ℕ) (told : Answered) → ReadingCame came striped r → came ask server told
      → ReadingCame came striped (reading_take r groups ask server told).state
  unfolding reading_take
  answered_came r groups ask server told h fact =
      by_test StepCame (counts r ask server told)
      (reading_judge (record r { round = round_take r.round server told }) groups (state_of (round_take r.round server told))) (record { state = r; next = Wait })
      (λ c. judged_came (record r { round = round_take r.round server told }) groups (state_of (round_take r.round server told)) (with_answer r ask server told h fact c))
      (λ _. h)

  -- ---- what it reads

  abbrev Reads : Step → Target → Segment → Type 0
  Reads step target segment = step.next ≡ Read segment → ReadsTarget came striped target segment

  module _ (r : ReadingState) (groups : GroupMapState) (h : ReadingCame came striped r) (text : List ℕ) (joins : state_of r.round ≡ round.Read text)
      (segment : Segment) where
    found_reads : (s : Segment) → answer_of text ≡ Ok s → is_met_by r.target groups s ≡ true → Reads (reading_reads r (Some s)) r.target segment
    found_reads s decoded fact e =
        let same : s ≡ segment = cc in
        subst (ReadsTarget came striped r.target) same (record {
          joined = record {
            ask = r.ask;
            round = r.round;
            of = h;
            text = text;
            joins = joins;
            decoded = decoded;
            named = sym (one_name r.target.seg.name s.name
                (and_first (same_name r.target.seg.name s.name) (is_known groups s.prior && has_block r.target.block s) fact));
          };
          block = and_second (is_known groups s.prior) (has_block r.target.block s)
              (and_second (same_name r.target.seg.name s.name) (is_known groups s.prior && has_block r.target.block s) fact);
        })

    none_reads : Reads (ends r []) r.target segment
    none_reads e = absurd cc

    text_reads : (answer : Result Segment SegError) → answer_of text ≡ answer → Reads (reading_reads r (segment_found r.target groups answer)) r.target segment
    text_reads (Ok s) decoded =
        by_test (λ (o : Option Segment). Reads (reading_reads r o) r.target segment) (is_met_by r.target groups s) (Some s) None
        (λ fact. found_reads s decoded fact) (λ _. none_reads)
    text_reads (Err e) decoded = none_reads

  judged_reads : (r : ReadingState) (groups : GroupMapState) (segment : Segment) (now : RoundState) → state_of r.round ≡ now → ReadingCame came striped r
      → Reads (reading_judge r groups now) r.target segment
  judged_reads r groups segment (round.Read bytes) fact h = text_reads r groups h bytes fact segment (answer_of bytes) refl
  judged_reads r groups segment (round.Short pairs) fact h = λ e. absurd cc
  judged_reads r groups segment round.Waiting fact h = λ e. absurd cc

  pub answered_reads : (r : ReadingState) (groups : GroupMapState) (ask server : ℕ) (told : Answered) (segment : Segment) → ReadingCame came striped r
      → came ask server told → (reading_take r groups ask server told).next ≡ Read segment → ReadsTarget came striped r.target segment
  unfolding reading_take
  answered_reads r groups ask server told segment h fact =
      by_test (λ (s : Step). Reads s r.target segment) (counts r ask server told)
      (reading_judge (record r { round = round_take r.round server told }) groups (state_of (round_take r.round server told))) (record { state = r; next = Wait })
      (λ c. judged_reads (record r { round = round_take r.round server told }) groups segment (state_of (round_take r.round server told)) refl
      (with_answer r ask server told h fact c))
      (λ _ e. absurd cc)

  -- ---- the reader's own question was answered alike

  goes_on_came : (r : ReadingState) (ask : ℕ) (stage : Stage) → ReadingCame came striped r → StepCame (goes_on r ask stage)
  goes_on_came r ask Asking h = h
  goes_on_came r ask Between h = fresh r.target.seg ask r.ask r.round h
  goes_on_came r ask Doubted h = record { is_round = h.is_round; cut_so = h.cut_so; answers = h.answers }
  goes_on_came r ask Over h = h

  pub confirmed_came : (r : ReadingState) (ask : ℕ) → ReadingCame came striped r → ReadingCame came striped (on_confirmed r ask).state
  unfolding on_confirmed
  confirmed_came r ask h = goes_on_came r ask r.stage h

-- ---- more came

module _ (came later : Came) (striped more : Striped) (grows : CameMore came later) (widens : StripedMore striped more) where
  pub round_rises : (seg : SegRef) (ask : ℕ) (r : RoundSoFar) → RoundCame came striped seg ask r → RoundCame later more seg ask r
  round_rises seg ask r h = record {
    is_round = h.is_round;
    cut_so = widens seg.group r.n r.parity h.cut_so;
    answers = all_weaker (AnswerCame came ask seg.name) (AnswerCame later ask seg.name)
        (λ a fact. record { came_so = grows ask a.server a.told fact.came_so; of_name = fact.of_name }) r.answers h.answers;
  }

  pub any_rises : (r : Option ReadingState) → AnyReadingCame came striped r → AnyReadingCame later more r
  any_rises None h = tt
  any_rises (Some r) h = round_rises r.target.seg r.ask r.round h

  pub joined_rises : (seg : SegRef) (segment : Segment) → ReadsJoined came striped seg segment → ReadsJoined later more seg segment
  joined_rises seg segment h = record {
    ask = h.ask;
    round = h.round;
    of = round_rises seg h.ask h.round h.of;
    text = h.text;
    joins = h.joins;
    decoded = h.decoded;
    named = h.named;
  }

  pub map_rises : (groups : GroupMapState) → MapStriped striped groups → MapStriped more groups
  map_rises groups h id group fact =
      let g = h id group fact in record { cut = g.cut; said = widens id (length group.members) group.parity g.said }

  pub maps_rise : (groups : Option GroupMapState) → MapsStriped striped groups → MapsStriped more groups
  maps_rise None h = tt
  maps_rise (Some groups) h = map_rises groups h
