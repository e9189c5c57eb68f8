-- What is true of a reading over the counts of a run, and what each step of it makes of that.
use Rattle.std.proofs.Common.{◌≡◌, ◌⊎◌, ⊎_elim, ℕ, suc, ◌==◌, ◌&&◌, ◌<◌, ◌≤◌, true, false, nat_lt, List, [], ◌∷◌, ◌++◌, Option, Some, None, length, refl, sym, ap, subst, ◌∙◌, inl, inr, arith}
use Rattle.std.proofs.lemmas.Bool.Decides.{nat_tests}
use Rattle.std.proofs.lemmas.Bool.{eqb-true, ltb-true}
use Rattle.core_world.specs.AnyNode.{any_start, any_step}
use Rattle.core_world.specs.declared.any_node.AnyNode.{AnyNode}
use Rattle.group_map.specs.declared.group.Group.{Group}
use Rattle.group_map.specs.GroupMapState.{GroupMapState}
use Rattle.log_tie.specs.Setting.{Stripe, stripe_of_group}
use Rattle.loss_law.proofs.Answering.{RoundSo, asks_still, counted_parts, short_pairs, round_take_so}
use Rattle.loss_law.proofs.Counting.{Among, Apart, Each, servers_of}
use Rattle.loss_law.proofs.Pairs.{AllAsked, AllSo, Single, ToldSo, among_missing, apart_missing, each_missing, each_on, so_on}
use Rattle.segment_format.specs.declared.segment.Segment.{Segment}
use Rattle.segment_format.specs.ReadingItems.{answer_of}
use Rattle.segment_reading.specs.declared.reading.Next.TheVariants as next
use Rattle.segment_reading.specs.declared.reading.Stage as rounds
use Rattle.segment_reading.specs.declared.reading.Stage.TheVariants as stand
use Rattle.segment_reading.specs.declared.target.Target.{Target}
use Rattle.segment_reading.specs.Lost.{are_gone, missing_twice}
use Rattle.segment_reading.specs.Reading.{ReadingState, Step, reading_start, counts, ends, goes_on, is_asking, reading_judge, name_fits, reading_take, on_confirmed, reading_reads, segment_found}
use Rattle.stripe_code.specs.declared.round.RoundState.{RoundState}
use Rattle.stripe_code.specs.declared.round.RoundState.TheVariants as round
use Rattle.stripe_code.specs.declared.round.Told.{Told}
use Rattle.stripe_code.specs.Round.{RoundSoFar, asks, state_of, round_take, told_fits}
use Rattle.token_protocol.specs.Basics.{In}
use Rattle.headline.specs.Torn.{IsTornAt}
use Rattle.wire_msg.specs.declared.body.Body.TheVariants as body
use Rattle.wire_msg.specs.declared.packet.Packet.{Packet}
use Rattle.wire_msg.specs.declared.storage.Fetch.{Fetch}
use Rattle.wire_msg.specs.declared.storage.Missing.{Missing}
use Rattle.world_base.specs.declared.estate.Estate.{Estate}
use Rattle.world_base.specs.Runs.{IsRun}
use Rattle.run_laws.proofs.world_law.Sent.{in_append}
use Rattle.headline.specs.Moments.{moment}
use Rattle.headline.specs.Segments.{NotDeleted}
use Rattle.run_laws.specs.world_logs.Settings.{stripe_by}
use Rattle.headline.specs.Servers.{group_at}
use Rattle.xfs_base.proofs.Booleans.{by_test, contrary}
use Rattle.xfs_base.specs.declared.node.NodeId.{NodeId}
use Rattle.xfs_base.specs.declared.segment.SegName.{SegName}
use Rattle.xfs_base.specs.declared.segment.SegRef.{SegRef}
use Rattle.run_losses.proofs.missing_law.Twice.{torn_at}
use Rattle.run_losses.specs.missing_law.Missed.{Answers, FetchesDrawn, MissedIn, last_at}

-- no pair was missing before
fewer : (parity : ℕ) (pairs : List (ℕ × ℕ)) → are_gone parity [] pairs ≡ false
fewer parity pairs = subst (λ (ps : List (ℕ × ℕ)). nat_lt parity (length ps) ≡ false) (sym (none_twice pairs)) (none_less parity)
  where
    none_less : (n : ℕ) → nat_lt n 0 ≡ false
    none_less n = grind (arith, nat_tests)

    none_twice : (ps : List (ℕ × ℕ)) → missing_twice [] ps ≡ []
    none_twice [] = refl
    none_twice (p ∷ ps) = none_twice ps

module _ (e : Estate AnyNode) where
  pub missed_wider : (from to wider later v generation : ℕ) (name : SegName) → wider ≤ from → to ≤ later → MissedIn e from to v generation name
      → MissedIn e wider later v generation name
  missed_wider from to wider later v generation name before after m = record {
    when = m.when;
    since = (let a = m.since in omega arith);
    until = (let a = m.until in omega arith);
    shelf = m.shelf;
    has_shelf = m.has_shelf;
    in_generation = m.in_generation;
    nothing = m.nothing;
  }

  -- the stripe of a segment, by the registry's groups
  abbrev pub stripe_at : SegRef → Stripe
  stripe_at segment = stripe_by (group_at e.world segment.group)

  -- there were two moments since one, the first no later than the second, such that the segment was torn at the first unless it was deleted by the second
  pub record TornUnlessDeleted (since count : ℕ) (segment : SegRef) : Type 0 where
    pub first : ℕ
    pub second : ℕ
    pub begins : since ≤ first
    pub follows : first ≤ second
    pub ends : second ≤ count
    pub torn : NotDeleted (moment e second) segment.name → IsTornAt e first segment

  module _ (reader : NodeId) where
    -- ---- what is true of a reading that began at `since`, whose present question the reader asks by `number`

    -- A round is on: its question was drawn at a moment; what the round before missed, it missed before that; what is missing now is so since.
    pub record RoundTrue (since count number : ℕ) (r : ReadingState) : Type 0 where
      pub middle : ℕ
      pub drawn : ℕ
      -- the round before, where there was one, ended since then
      pub begins : (r.kept ≡ []) ⊎ (since ≤ middle)
      pub born : since ≤ count
      pub follows : middle ≤ drawn
      pub until : drawn ≤ count
      pub fresh : last_at e reader drawn < number
      pub kept : Each (λ p. MissedIn e 0 middle p.0 p.1 r.target.seg.name) r.kept
      pub single : Single r.round.answers
      pub asked : AllAsked r.round.servers r.round.answers
      pub told : AllSo (λ v generation. MissedIn e drawn count v generation r.target.seg.name) r.round.answers

    -- a round has ended: what it missed was so by a moment
    pub record KeptTrue (since count : ℕ) (r : ReadingState) : Type 0 where
      pub middle : ℕ
      pub begins : since ≤ middle
      pub until : middle ≤ count
      pub kept : Each (λ p. MissedIn e 0 middle p.0 p.1 r.target.seg.name) r.kept

    abbrev pub StageTrue : (since count number : ℕ) → ReadingState → rounds.Stage → Type 0
    StageTrue since count number r stand.Asking = RoundTrue since count number r
    StageTrue since count number r stand.Between = KeptTrue since count r
    StageTrue since count number r stand.Doubted = TornUnlessDeleted since count r.target.seg
    StageTrue since count number r stand.Over = Unit {0}

    pub record ReadingTrue (since count number : ℕ) (r : ReadingState) : Type 0 where
      pub servers : r.round.servers ≡ servers_of (stripe_at r.target.seg).members
      pub parity : r.round.parity ≡ (stripe_at r.target.seg).parity
      pub stage : StageTrue since count number r r.stage

    -- The question of this number is out: it was drawn, and each fetch of the reader by it is of this segment.
    pub record IsOut (count number : ℕ) (name : SegName) : Type 0 where
      pub drawn : number ≤ last_at e reader count
      pub fetched : (packet : Packet) (m : Fetch) → In packet (moment e count).sent → packet.from ≡ reader → packet.body ≡ body.Fetch m → m.ask ≡ number
          → m.name ≡ name

    -- ---- from one count to a later one

    stage_later : (since count later number : ℕ) (r : ReadingState) → count ≤ later → (stage : rounds.Stage) → StageTrue since count number r stage
        → StageTrue since later number r stage
    stage_later since count later number r limit stand.Asking t = record {
      middle = t.middle;
      drawn = t.drawn;
      begins = t.begins;
      born = (let a = t.born in omega arith);
      follows = t.follows;
      until = (let a = t.until in omega arith);
      fresh = t.fresh;
      kept = t.kept;
      single = t.single;
      asked = t.asked;
      told = so_on (λ v generation. MissedIn e t.drawn count v generation r.target.seg.name)
          (λ v generation. MissedIn e t.drawn later v generation r.target.seg.name)
          (λ v generation m. missed_wider t.drawn count t.drawn later v generation r.target.seg.name (omega arith) limit m) r.round.answers t.told;
    }
    stage_later since count later number r limit stand.Between t = record {
      middle = t.middle;
      begins = t.begins;
      until = (let a = t.until in omega arith);
      kept = t.kept;
    }
    stage_later since count later number r limit stand.Doubted t = record {
      first = t.first;
      second = t.second;
      begins = t.begins;
      follows = t.follows;
      ends = (let a = t.ends in omega arith);
      torn = t.torn;
    }
    stage_later since count later number r limit stand.Over t = tt

    -- what was true stays so
    pub reading_later : (since count later number : ℕ) (r : ReadingState) → count ≤ later → ReadingTrue since count number r → ReadingTrue since later number r
    reading_later since count later number r limit t = record {
      servers = t.servers;
      parity = t.parity;
      stage = stage_later since count later number r limit r.stage t.stage;
    }

    -- what is sent in the event at a count, by this number, is of this segment
    abbrev pub AsksOf : List Packet → ℕ → SegName → Type 0
    AsksOf new number name =
        (packet : Packet) (m : Fetch) → In packet new → packet.from ≡ reader → packet.body ≡ body.Fetch m → m.ask ≡ number → m.name ≡ name

    -- a question that is out is out after an event
    pub out_next : (count number : ℕ) (name : SegName) (new : List Packet) → (moment e (suc count)).sent ≡ (moment e count).sent ++ new
        → last_at e reader count ≤ last_at e reader (suc count) → AsksOf new number name → IsOut count number name → IsOut (suc count) number name
    out_next count number name new sent rises asks out = record {
      drawn = (let a = out.drawn in let b = rises in omega arith);
      fetched = λ p m among from fetches same.
          ⊎_elim (λ old. out.fetched p m old from fetches same) (λ late. asks p m late from fetches same)
          (in_append (moment e count).sent new p (subst (In p) sent among));
    }

    -- one that is drawn in an event is out after it
    pub out_fresh : (count number : ℕ) (name : SegName) (new : List Packet) → (moment e (suc count)).sent ≡ (moment e count).sent ++ new
        → FetchesDrawn e reader count → last_at e reader count < number → number ≤ last_at e reader (suc count) → AsksOf new number name
        → IsOut (suc count) number name
    out_fresh count number name new sent drawn fresh rises asks = record {
      drawn = rises;
      fetched = λ p m among from fetches same.
          ⊎_elim (λ old. absurd (let a = drawn p m old from fetches in let b = fresh in let c = same in omega arith))
          (λ late. asks p m late from fetches same) (in_append (moment e count).sent new p (subst (In p) sent among));
    }

    -- what is told by a question that is out was so since each moment at which it was not drawn
    pub told_of : (count number v : ℕ) (name : SegName) (m : Missing) → IsOut count number name → Answers e reader count v m → m.ask ≡ number → (k : ℕ)
        → k ≤ count → last_at e reader k < number → MissedIn e k count v m.generation name
    told_of count number v name m out a same k limit undrawn =
        subst (MissedIn e k count v m.generation) (out.fetched a.packet a.fetch a.among a.asker a.asks (sym a.ask ∙ same))
        (a.told k limit (let x = same in omega arith))

    -- ---- a reading begins

    -- one that began by a question that was drawn at a moment, of any moment by now
    pub begun_since : (since drawn count number : ℕ) (target : Target) (group : Group) (ask : ℕ) → since ≤ count → drawn ≤ count
        → stripe_at target.seg ≡ stripe_of_group group
        → last_at e reader drawn < number → ReadingTrue since count number (reading_start target group ask)
    begun_since since drawn count number target group ask born until named fresh = record {
      servers = sym (ap (λ (s : Stripe). servers_of s.members) named);
      parity = sym (ap (λ (s : Stripe). s.parity) named);
      stage = record {
        middle = drawn;
        drawn = drawn;
        begins = inl refl;
        born = born;
        follows = omega arith;
        until = until;
        fresh = fresh;
        kept = tt;
        single = tt;
        asked = tt;
        told = tt;
      };
    }

    pub begun_true : (count number : ℕ) (target : Target) (group : Group) (ask : ℕ) → stripe_at target.seg ≡ stripe_of_group group
        → last_at e reader count < number → ReadingTrue count count number (reading_start target group ask)
    begun_true count number target group ask named fresh =
        begun_since count count count number target group ask (omega arith) (omega arith) named fresh

    module _ (run : IsRun any_step any_start e.script e.events e.world) (since count number : ℕ) (r : ReadingState)
        (so : ReadingTrue since count number r) where
      -- ---- an answer

      abbrev After : Step → Type 0
      After step = ReadingTrue since count number step.state

      module _ (is_asked : r.stage ≡ stand.Asking) (t : RoundTrue since count number r) (now : RoundSoFar)
          (told : RoundSo (λ v generation. MissedIn e t.drawn count v generation r.target.seg.name) r.round.servers r.round.parity now) where
        abbrev q : ReadingState
        q = record r { round = now }

        abbrev Now : ℕ × ℕ → Type 0
        Now p = MissedIn e t.drawn count p.0 p.1 r.target.seg.name

        waits : ReadingTrue since count number q
        waits = record {
          servers = told.its_servers ∙ so.servers;
          parity = told.its_parity ∙ so.parity;
          stage = subst (StageTrue since count number q) (sym is_asked)
              (record {
                middle = t.middle;
                drawn = t.drawn;
                begins = t.begins;
                born = t.born;
                follows = t.follows;
                until = t.until;
                fresh = t.fresh;
                kept = t.kept;
                single = told.single;
                asked = told.asked;
                told = told.told;
              });
        }

        module _ (pairs : List (ℕ × ℕ)) (each : Each Now pairs) (apart : Apart pairs) (among : Each (Among now.servers) pairs) where
          abbrev ended : ReadingState
          ended = (ends q pairs).state

          -- a round before it had kept something
          kept_since : are_gone now.parity r.kept pairs ≡ true → (r.kept ≡ []) ⊎ (since ≤ t.middle) → since ≤ t.middle
          kept_since many (inl none) =
              contrary (sym (fewer now.parity pairs) ∙ subst (λ (before : List (ℕ × ℕ)). are_gone now.parity before pairs ≡ true) none many)
          kept_since many (inr after) = after

          doubted : are_gone now.parity r.kept pairs ≡ true → TornUnlessDeleted since count r.target.seg
          doubted many = record {
            first = t.middle;
            second = count;
            begins = kept_since many t.begins;
            follows = (let a = t.follows in let b = t.until in omega arith);
            ends = omega arith;
            torn = λ kept.
                torn_at e run r.target.seg 0 t.middle t.drawn count r.kept pairs t.kept each t.until kept t.middle (omega arith) t.follows now.servers
                now.parity (told.its_servers ∙ so.servers) (told.its_parity ∙ so.parity) apart among
                (ltb-true now.parity (length (missing_twice r.kept pairs)) many);
          }

          between : KeptTrue since count ended
          between = record {
            middle = count;
            begins = t.born;
            until = omega arith;
            kept = each_on Now (λ p. MissedIn e 0 count p.0 p.1 r.target.seg.name)
                (λ p m. missed_wider t.drawn count 0 count p.0 p.1 r.target.seg.name (omega arith) (omega arith) m) pairs each;
          }

          round_ends : After (ends q pairs)
          round_ends = record {
            servers = told.its_servers ∙ so.servers;
            parity = told.its_parity ∙ so.parity;
            stage = by_test (StageTrue since count number ended) (are_gone now.parity r.kept pairs) stand.Doubted stand.Between doubted (λ few. between);
          }

        found : (segment : Option Segment) → After (reading_reads q segment)
        found (Some s) = record { servers = told.its_servers ∙ so.servers; parity = told.its_parity ∙ so.parity; stage = tt }
        found None = round_ends [] tt tt tt

        is_judged : (groups : GroupMapState) (st : RoundState) → state_of now ≡ st → After (reading_judge q groups st)
        is_judged groups (round.Read bytes) of = found (segment_found q.target groups (answer_of bytes))
        is_judged groups (round.Short pairs) of =
            let same = short_pairs now pairs of in
            round_ends pairs
            (subst (Each Now) (sym same)
            (each_missing (λ v generation. MissedIn e t.drawn count v generation r.target.seg.name) now.answers told.told))
            (subst Apart (sym same) (apart_missing now.answers told.single))
            (subst (Each (Among now.servers)) (sym same) (among_missing now.servers now.answers told.asked))
        is_judged groups round.Waiting of = waits

      -- what is told, where it answers the present question, was so since it was drawn
      abbrev pub AnswersSo : (ask server : ℕ) → Told → Type 0
      AnswersSo ask server t =
          (on : RoundTrue since count number r) → ask ≡ r.ask
          → ToldSo (λ v generation. MissedIn e on.drawn count v generation r.target.seg.name) server t

      pub answered_true : (groups : GroupMapState) (ask server : ℕ) (t : Told) → AnswersSo ask server t
          → ReadingTrue since count number (reading_take r groups ask server t).state
      unfolding reading_take
      answered_true groups ask server t true_then =
          by_test After (counts r ask server t) (reading_judge (record r { round = round_take r.round server t }) groups (state_of (round_take r.round server t)))
          (record { state = r; next = next.Wait }) takes (λ other. so)
        where
          takes : counts r ask server t ≡ true → After (reading_judge (record r { round = round_take r.round server t }) groups (state_of (round_take r.round server t)))
          takes test =
              let c = counted_parts (is_asking r.stage) (ask == r.ask) (asks r.round server) (name_fits r.target t && told_fits r.round t) test in
              let asking : r.stage ≡ stand.Asking = asks_still r.stage c.first in
              let on : RoundTrue since count number r = subst (StageTrue since count number r) asking so.stage in
              is_judged asking on (round_take r.round server t)
              (round_take_so (λ v generation. MissedIn e on.drawn count v generation r.target.seg.name) r.round.servers r.round.parity r.round server t
              (record { its_servers = refl; its_parity = refl; single = on.single; asked = on.asked; told = on.told }) c.third
              (true_then on (eqb-true ask r.ask c.second)))
              groups (state_of (round_take r.round server t)) refl

      -- ---- the reader's own question was answered alike

      -- the number by which the reading is asked then
      abbrev pub number_then : rounds.Stage → ℕ → ℕ
      number_then stand.Asking fresh = number
      number_then stand.Between fresh = fresh
      number_then stand.Doubted fresh = number
      number_then stand.Over fresh = number

      pub confirmed_true : (ask fresh : ℕ) → (r.stage ≡ stand.Between → last_at e reader count < fresh)
          → ReadingTrue since count (number_then r.stage fresh) (on_confirmed r ask).state
      unfolding on_confirmed
      confirmed_true ask fresh drawn = by r.stage refl so.stage
        where
          by : (stage : rounds.Stage) → r.stage ≡ stage → StageTrue since count number r stage
              → ReadingTrue since count (number_then stage fresh) (goes_on r ask stage).state
          by stand.Asking fact t = so
          by stand.Between fact t = record {
            servers = so.servers;
            parity = so.parity;
            stage = record {
              middle = t.middle;
              drawn = count;
              begins = inr t.begins;
              born = (let a = t.begins in let b = t.until in omega arith);
              follows = t.until;
              until = omega arith;
              fresh = drawn fact;
              kept = t.kept;
              single = tt;
              asked = tt;
              told = tt;
            };
          }
          by stand.Doubted fact t = record { servers = so.servers; parity = so.parity; stage = tt }
          by stand.Over fact t = so

      -- where it is lost then, it was torn, unless it was deleted
      pub lost_was_torn : (ask : ℕ) → (on_confirmed r ask).next ≡ next.Lost → TornUnlessDeleted since count r.target.seg
      unfolding on_confirmed
      lost_was_torn ask = by r.stage so.stage
        where
          by : (stage : rounds.Stage) → StageTrue since count number r stage → (goes_on r ask stage).next ≡ next.Lost
              → TornUnlessDeleted since count r.target.seg
          by stand.Asking t lost = absurd cc
          by stand.Between t lost = absurd cc
          by stand.Doubted t lost = t
          by stand.Over t lost = absurd cc

-- ---- what a step leaves alone

abbrev with_answer : ReadingState → ℕ → Told → ReadingState
with_answer r server t = record r { round = round_take r.round server t }

abbrev NotLost : Step → Type 0
NotLost step = step.next ≡ next.Lost → ⊥

abbrev KeepsTarget : ReadingState → Step → Type 0
KeepsTarget r step = (step.state.target ≡ r.target) × (step.state.ask ≡ r.ask)

keeps_target : (r later : ReadingState) → later.target ≡ r.target → later.ask ≡ r.ask → (groups : GroupMapState) (st : RoundState)
    → KeepsTarget r (reading_judge later groups st)
keeps_target r later target ask groups (round.Read bytes) = read (segment_found later.target groups (answer_of bytes))
  where
    read : (segment : Option Segment) → KeepsTarget r (reading_reads later segment)
    read (Some s) = (target, ask)
    read None = (target, ask)
keeps_target r later target ask groups (round.Short pairs) = (target, ask)
keeps_target r later target ask groups round.Waiting = (target, ask)

pub answer_keeps_target : (r : ReadingState) (groups : GroupMapState) (ask server : ℕ) (t : Told)
    → ((reading_take r groups ask server t).state.target ≡ r.target) × ((reading_take r groups ask server t).state.ask ≡ r.ask)
unfolding reading_take
answer_keeps_target r groups ask server t =
    by_test (KeepsTarget r) (counts r ask server t) (reading_judge (with_answer r server t) groups (state_of (round_take r.round server t)))
    (record { state = r; next = next.Wait })
    (λ takes. keeps_target r (with_answer r server t) refl refl groups (state_of (round_take r.round server t))) (λ other. (refl, refl))

confirmed_so : (r : ReadingState) (ask : ℕ) (stage : rounds.Stage) → (goes_on r ask stage).state.target ≡ r.target
confirmed_so r ask stand.Asking = refl
confirmed_so r ask stand.Between = refl
confirmed_so r ask stand.Doubted = refl
confirmed_so r ask stand.Over = refl
