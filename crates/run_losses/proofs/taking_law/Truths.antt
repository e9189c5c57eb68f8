-- What is true at each count of what a manager reads while it takes a slot over: its rounds tell of moments at which it read the same, in the same epoch.
use Rattle.std.proofs.Common.{◌≡◌, ◌⊎◌, ⊎_elim, ℕ, suc, ◌+◌, ◌==◌, ◌&&◌, ◌<◌, ◌≤◌, true, List, [], ◌++◌, Option, Some, None, inl, inr, refl, sym, ap, subst, ◌∙◌, arith}
use Rattle.std.specs.List.{list_any}
use Rattle.core_world.specs.AnyNode.{any_start, any_step}
use Rattle.core_world.specs.declared.any_node.AnyNode.{AnyNode}
use Rattle.group_map.specs.GroupMapState.{GroupMapState}
use Rattle.loss_law.proofs.Pairs.{ToldSo}
use Rattle.log_tie.specs.Setting.{Setting}
use Rattle.manager_slots.specs.declared.slot_phase.SlotPhase.{SlotPhase}
use Rattle.manager_slots.specs.declared.slot_phase.SlotPhase.TheVariants as phase
use Rattle.manager_slots.specs.declared.slot_phase.Taking.{Taking}
use Rattle.segment_reading.specs.declared.reading.Next.{Next}
use Rattle.segment_reading.specs.declared.reading.Next.TheVariants as next
use Rattle.segment_reading.specs.declared.reading.Stage as readings
use Rattle.segment_reading.specs.declared.reading.Stage.TheVariants as stand
use Rattle.segment_reading.specs.declared.target.Target.{Target}
use Rattle.segment_reading.specs.Reading.{ReadingState, Step, counts, goes_on, is_asking, reading_judge, name_fits, reading_take, on_confirmed}
use Rattle.stripe_code.specs.declared.round.Told.{Told}
use Rattle.stripe_code.specs.declared.round.Told.TheVariants as told
use Rattle.stripe_code.specs.Round.{asks, state_of, round_take, told_fits}
use Rattle.takeover.proofs.Readings.{target-reading_take, target-on_confirmed}
use Rattle.takeover.specs.declared.source.Present.{Present}
use Rattle.takeover.specs.declared.source.Source.{Source}
use Rattle.takeover.specs.Transition.{target_of}
use Rattle.wire_msg.specs.declared.packet.Packet.{Packet}
use Rattle.world_base.specs.declared.estate.Estate.{Estate}
use Rattle.world_base.specs.Runs.{IsRun}
use Rattle.headline.specs.Moments.{moment}
use Rattle.run_laws.proofs.world_logs.Line.{last_or_before}
use Rattle.run_laws.specs.world_logs.Lines.{HasLines}
use Rattle.headline.specs.Logs.{IsThere}
use Rattle.headline.specs.Logs.Role.{OfManager}
use Rattle.xfs_base.proofs.Booleans.{and_first, and_second, by_test, contrary}
use Rattle.xfs_base.specs.declared.node.NodeId.TheVariants.{Manager}
use Rattle.run_losses.proofs.missing_law.Answered.{answers_so}
use Rattle.run_losses.proofs.missing_law.Readings.{AsksOf, IsOut, ReadingTrue, RoundTrue, TornUnlessDeleted, answered_true, begun_since, confirmed_true, lost_was_torn, number_then, out_fresh, out_next, reading_later, told_of}
use Rattle.run_losses.specs.missing_law.Missed.{FetchesDrawn, MissedIn, last_at}
use Rattle.run_losses.proofs.taking_law.ManagerCounts.{CameBy, IsNamed, fetches_drawn, numbers_rise}
use Rattle.run_losses.proofs.taking_law.SlotReads.{BeginsFrom, KeptFrom, ReadFrom, RenewedFrom, Took, WaitsFrom, at_source}
use Rattle.run_losses.proofs.taking_law.TakeReadings.{servers-reading_take}
use Rattle.run_losses.proofs.taking_law.TakeTurns.{answered}
use Rattle.headline.specs.Takeovers.{slot_at}

-- ---- where there is no server

-- no answer counts where no server is asked, so that nothing ends
nothing_ends : (r : ReadingState) (groups : GroupMapState) (ask server : ℕ) (t : Told) → r.round.servers ≡ []
    → (reading_take r groups ask server t).next ≡ next.Again → ⊥
unfolding reading_take
nothing_ends r groups ask server t none =
    by_test (λ (s : Step). s.next ≡ next.Again → ⊥) (counts r ask server t)
    (reading_judge (record r { round = round_take r.round server t }) groups (state_of (round_take r.round server t)))
    (record { state = r; next = next.Wait }) (λ fact _. nobody (asked fact)) (λ _ e. absurd (waits e))
  where
    waits : next.Wait ≡ next.Again → ⊥
    waits e = cc

    asked : counts r ask server t ≡ true → asks r.round server ≡ true
    asked fact =
        and_second (is_asking r.stage && (ask == r.ask)) (asks r.round server)
        (and_first ((is_asking r.stage && (ask == r.ask)) && asks r.round server) (name_fits r.target t && told_fits r.round t) fact)

    nobody : asks r.round server ≡ true → ⊥
    nobody fact = contrary (sym (ap (list_any (λ s. s == server)) none) ∙ fact)

-- the next round begins only between two rounds
is_between : (r : ReadingState) (ask : ℕ) → (on_confirmed r ask).next ≡ next.Ask → r.stage ≡ stand.Between
unfolding on_confirmed
is_between r ask = by r.stage
  where
    by : (stage : readings.Stage) → (goes_on r ask stage).next ≡ next.Ask → stage ≡ stand.Between
    by stand.Asking fact = absurd cc
    by stand.Between fact = refl
    by stand.Doubted fact = absurd cc
    by stand.Over fact = absurd cc

-- ---- what is read

abbrev pub IsLooked : Option ReadingState → Target → Type 0
IsLooked None target = ⊥
IsLooked (Some r) target = r.target ≡ target

abbrev pub IsPresent : Option Present → Target → Type 0
IsPresent None target = ⊥
IsPresent (Some p) target = IsLooked p.reading target

-- the takeover of a slot in this epoch looks for this
abbrev pub ReadsIn : SlotPhase → ℕ → Target → Type 0
ReadsIn (phase.Taking t) epoch target = (t.epoch ≡ epoch) × IsPresent t.take.present target
ReadsIn (phase.Away epoch_) epoch target = ⊥
ReadsIn (phase.Active a) epoch target = ⊥
ReadsIn (phase.Broken epoch_ seg) epoch target = ⊥

-- ---- what is true

module _ (e : Estate AnyNode) (j : ℕ) where
  -- the takeover of a slot in this epoch has read this since a moment
  pub record ReadSince (count slot epoch : ℕ) (target : Target) : Type 0 where
    pub since : ℕ
    pub before : since ≤ count
    pub reads : (k : ℕ) → since ≤ k → k ≤ count → ReadsIn (slot_at e j slot k) epoch target

  -- What is read is true since then, and its question is out.
  pub record ReadTrue (count slot epoch number : ℕ) (r : ReadingState) : Type 0 where
    pub span : ReadSince count slot epoch r.target
    pub so : ReadingTrue e (Manager j) span.since count number r
    pub out : IsOut e (Manager j) count number r.target.seg.name

  -- where any server is asked
  abbrev pub RoundSo : ℕ → ℕ → Taking → ReadingState → Type 0
  RoundSo count slot y r = (r.round.servers ≡ []) ⊎ ReadTrue count slot y.epoch y.fetches.ask r

  abbrev pub ReadingSo : ℕ → ℕ → Taking → Option ReadingState → Type 0
  ReadingSo count slot y None = Unit {0}
  ReadingSo count slot y (Some r) = RoundSo count slot y r

  abbrev pub PresentSo : ℕ → ℕ → Taking → Option Present → Type 0
  PresentSo count slot y None = Unit {0}
  PresentSo count slot y (Some p) = ReadingSo count slot y p.reading

  abbrev pub TakingTrue : ℕ → ℕ → Taking → Type 0
  TakingTrue count slot y = PresentSo count slot y y.take.present

  abbrev pub span_next : (count slot epoch : ℕ) (target : Target) → ReadSince count slot epoch target → ReadsIn (slot_at e j slot (suc count)) epoch target
      → ReadSince (suc count) slot epoch target
  span_next count slot epoch target s now = record {
    since = s.since;
    before = (let a = s.before in omega arith);
    reads = λ k from to.
        ⊎_elim (λ same. subst (λ n. ReadsIn (slot_at e j slot n) epoch target) (sym same) now) (λ below. s.reads k from below) (last_or_before k count to);
  }

  abbrev span_now : (count slot epoch : ℕ) (target : Target) → ReadsIn (slot_at e j slot count) epoch target → ReadSince count slot epoch target
  span_now count slot epoch target now = record {
    since = count;
    before = omega arith;
    reads = λ k from to. subst (λ n. ReadsIn (slot_at e j slot n) epoch target) (omega arith) now;
  }

  module _ (base : Setting) (run : IsRun any_step any_start e.script e.events e.world) (lines : HasLines base e)
      (is_there : IsThere e.script.setup.clients e.script.setup.managers (OfManager j)) (count slot : ℕ) where
    drawn_all : (k : ℕ) → FetchesDrawn e (Manager j) k
    drawn_all k = fetches_drawn base e run lines j is_there k

    -- ---- an answer

    module _ (x : Taking) (truth : TakingTrue count slot x) where
      -- what was read took what was heard
      record TookTrue (source : Source) (n : Next) (t : Took (IsNamed e) (CameBy e j count) x source n) : Type 0 where
        span : ReadSince count slot x.epoch t.reading.target
        so : ReadingTrue e (Manager j) span.since count x.fetches.ask (answered t.reading x.take.groups t.heard).state
        out : IsOut e (Manager j) count x.fetches.ask t.reading.target.seg.name

      took_true : (source : Source) (n : Next) (t : Took (IsNamed e) (CameBy e j count) x source n) → (t.reading.round.servers ≡ []) ⊎ TookTrue source n t
      took_true source n t = ⊎_elim (λ none. inl none) (λ r. inr (of r)) (subst (PresentSo count slot x) t.was truth)
        where
          tells : (r : ReadTrue count slot x.epoch x.fetches.ask t.reading) (on : RoundTrue e (Manager j) r.span.since count x.fetches.ask t.reading)
              → ToldSo (λ v generation. MissedIn e on.drawn count v generation t.reading.target.seg.name) t.heard.server t.heard.told
          tells r on = by t.heard.told t.came
            where
              by : (z : Told) → CameBy e j count x.fetches.ask t.heard.server z
                  → ToldSo (λ v generation. MissedIn e on.drawn count v generation t.reading.target.seg.name) t.heard.server z
              by (told.Held f) came = tt
              by (told.Missing generation) came =
                  let c = came generation refl in
                  subst (λ g. MissedIn e on.drawn count t.heard.server g t.reading.target.seg.name) c.in_generation
                  (told_of e (Manager j) count x.fetches.ask t.heard.server t.reading.target.seg.name c.missing r.out
                  (answers_so base e run lines (Manager j) drawn_all (numbers_rise base e run lines j is_there) count t.heard.server c.packet c.missing c.among
                  c.from c.to c.tells) c.asked on.drawn on.until on.fresh)

          of : ReadTrue count slot x.epoch x.fetches.ask t.reading → TookTrue source n t
          of r = record {
            span = r.span;
            so = answered_true e (Manager j) run r.span.since count x.fetches.ask t.reading r.so x.take.groups t.heard.own t.heard.server t.heard.told
                (λ on same. tells r on);
            out = r.out;
          }

      -- ---- what is lost

      pub record WasLost (target : Target) : Type 0 where
        pub span : ReadSince count slot x.epoch target
        pub torn : TornUnlessDeleted e span.since count target.seg

      pub lost_true : (source : Source) (t : Took (IsNamed e) (CameBy e j count) x source next.Again) (ask : ℕ)
          → (on_confirmed (answered t.reading x.take.groups t.heard).state ask).next ≡ next.Lost → WasLost t.reading.target
      lost_true source t ask lost =
          ⊎_elim (λ none. absurd (nothing_ends t.reading x.take.groups t.heard.own t.heard.server t.heard.told none t.goes)) of (took_true source next.Again t)
        where
          of : TookTrue source next.Again t → WasLost t.reading.target
          of k = record {
            span = k.span;
            torn = subst (λ (target : _). TornUnlessDeleted e k.span.since count target.seg)
                (target-reading_take t.reading x.take.groups t.heard.own t.heard.server t.heard.told)
                (lost_was_torn e (Manager j) run k.span.since count x.fetches.ask (answered t.reading x.take.groups t.heard).state k.so ask lost);
          }

    -- ---- an event of the manager

    module _ (x y : Taking) (truth : TakingTrue count slot x) (was : slot_at e j slot count ≡ phase.Taking x)
        (now : slot_at e j slot (suc count) ≡ phase.Taking y) (epoch : y.epoch ≡ x.epoch) (new : List Packet)
        (sent : (moment e (suc count)).sent ≡ (moment e count).sent ++ new) (low : y.fetches.ask ≤ last_at e (Manager j) (suc count)) where
      rises : last_at e (Manager j) count ≤ last_at e (Manager j) (suc count)
      rises = numbers_rise base e run lines j is_there count

      module _ (source : Source) (r : ReadingState) (present : y.take.present ≡ at_source source r)
          (asks_it : AsksOf e (Manager j) new y.fetches.ask r.target.seg.name) where
        reads_now : ReadsIn (slot_at e j slot (suc count)) y.epoch r.target
        reads_now =
            subst (λ (p : SlotPhase). ReadsIn p y.epoch r.target) (sym now) (refl, subst (λ o. IsPresent o r.target) (sym present) refl)

        abbrev span_on : ReadSince count slot x.epoch r.target → ReadSince (suc count) slot y.epoch r.target
        span_on s = span_next count slot y.epoch r.target
            (record {
              since = s.since;
              before = s.before;
              reads = λ k from to. subst (λ n. ReadsIn (slot_at e j slot k) n r.target) (sym epoch) (s.reads k from to);
            }) reads_now

        -- what was read of the same target
        abbrev span_of : (target : Target) → r.target ≡ target → ReadSince count slot x.epoch target → ReadSince count slot x.epoch r.target
        span_of target same s = record {
          since = s.since;
          before = s.before;
          reads = λ k from to. subst (ReadsIn (slot_at e j slot k) x.epoch) (sym same) (s.reads k from to);
        }

        -- the number stays
        stays : (s : ReadSince count slot x.epoch r.target) → ReadingTrue e (Manager j) s.since count x.fetches.ask r
            → IsOut e (Manager j) count x.fetches.ask r.target.seg.name → y.fetches.ask ≡ x.fetches.ask → ReadTrue (suc count) slot y.epoch y.fetches.ask r
        stays s so out same = record {
          span = span_on s;
          so = subst (λ n. ReadingTrue e (Manager j) s.since (suc count) n r) (sym same)
              (reading_later e (Manager j) s.since count (suc count) x.fetches.ask r (omega arith) so);
          out = out_next e (Manager j) count y.fetches.ask r.target.seg.name new sent rises asks_it
              (subst (λ n. IsOut e (Manager j) count n r.target.seg.name) (sym same) out);
        }

        -- or it is a new one
        renewed : (s : ReadSince count slot x.epoch r.target) → ReadingTrue e (Manager j) s.since count y.fetches.ask r
            → last_at e (Manager j) count < y.fetches.ask
            → ReadTrue (suc count) slot y.epoch y.fetches.ask r
        renewed s so fresh = record {
          span = span_on s;
          so = reading_later e (Manager j) s.since count (suc count) y.fetches.ask r (omega arith) so;
          out = out_fresh e (Manager j) count y.fetches.ask r.target.seg.name new sent (drawn_all count) fresh low asks_it;
        }

        of_kept : KeptFrom (IsNamed e) (CameBy e j count) (last_at e (Manager j) count) x y source r → RoundSo (suc count) slot y r
        of_kept k =
            ⊎_elim (λ none. inl none) (λ t. inr (stays t.span t.so t.out k.number)) (subst (PresentSo count slot x) k.was truth)

        of_waits : WaitsFrom (IsNamed e) (CameBy e j count) (last_at e (Manager j) count) x y source r → RoundSo (suc count) slot y r
        of_waits w =
            let t = w.took in
            ⊎_elim
            (λ none. inl (ap (λ (z : ReadingState). z.round.servers) w.now
            ∙ (servers-reading_take t.reading x.take.groups t.heard.own t.heard.server t.heard.told ∙ none)))
            (λ k.
            let same : r.target ≡ t.reading.target =
            ap (λ (z : ReadingState). z.target) w.now ∙ target-reading_take t.reading x.take.groups t.heard.own t.heard.server t.heard.told in
            inr (stays (span_of t.reading.target same k.span) (subst (ReadingTrue e (Manager j) k.span.since count x.fetches.ask) (sym w.now) k.so)
            (subst (λ (target : Target). IsOut e (Manager j) count x.fetches.ask target.seg.name) (sym same) k.out) w.number))
            (took_true x truth source next.Wait t)

        of_renewed : RenewedFrom (IsNamed e) (CameBy e j count) (last_at e (Manager j) count) x y source r → RoundSo (suc count) slot y r
        of_renewed w =
            let t = w.took in
            let a : ReadingState = (answered t.reading x.take.groups t.heard).state in
            ⊎_elim (λ none. absurd (nothing_ends t.reading x.take.groups t.heard.own t.heard.server t.heard.told none t.goes))
            (λ k.
            let between : a.stage ≡ stand.Between = is_between a (x.take.ask + 1) w.confirmed in
            let so = confirmed_true e (Manager j) run k.span.since count x.fetches.ask a k.so (x.take.ask + 1) y.fetches.ask (λ fact. w.number) in
            let same : r.target ≡ t.reading.target =
            ap (λ (z : ReadingState). z.target) w.now ∙ (target-on_confirmed a (x.take.ask + 1)
            ∙ target-reading_take t.reading x.take.groups t.heard.own t.heard.server t.heard.told) in
            let number = ap (λ st. number_then e (Manager j) run k.span.since count x.fetches.ask a k.so st y.fetches.ask) between in
            inr (renewed (span_of t.reading.target same k.span)
            (subst (ReadingTrue e (Manager j) k.span.since count y.fetches.ask) (sym w.now)
            (subst (λ n. ReadingTrue e (Manager j) k.span.since count n (on_confirmed a (x.take.ask + 1)).state) number so)) w.number))
            (took_true x truth source next.Again t)

        of_begins : BeginsFrom (IsNamed e) (CameBy e j count) (last_at e (Manager j) count) x y source r → RoundSo (suc count) slot y r
        of_begins w =
            inr (record {
              span = span_now (suc count) slot y.epoch r.target reads_now;
              so = subst (ReadingTrue e (Manager j) (suc count) (suc count) y.fetches.ask) (sym w.now)
                  (begun_since e (Manager j) (suc count) count (suc count) y.fetches.ask (target_of source) w.group w.ask (omega arith) (omega arith) w.named
                  w.number);
              out = out_fresh e (Manager j) count y.fetches.ask r.target.seg.name new sent (drawn_all count) w.number low asks_it;
            })

        pub read_on : ReadFrom (IsNamed e) (CameBy e j count) (last_at e (Manager j) count) x y source r → RoundSo (suc count) slot y r
        read_on (inl none) = inl none
        read_on (inr (inl k)) = of_kept k
        read_on (inr (inr (inl w))) = of_waits w
        read_on (inr (inr (inr (inl w)))) = of_renewed w
        read_on (inr (inr (inr (inr w)))) = of_begins w
