-- What each thing that a manager does for one slot that is taken over makes of the slot: an input that the takeover takes, a question that is asked again,
-- and an epoch that is heard of.
use Rattle.std.proofs.Common.{◌≡◌, ◌⊎◌, ⊎_elim, ℕ, ◌+◌, ◌==◌, ◌<◌, ◌≤◌, Bool, nat_lt, List, [], ◌∷◌, ◌++◌, Some, None, filter, inl, inr, refl, sym, ap, subst, arith}
use Rattle.std.specs.List.{AllByRecursion}
use Rattle.group_map.specs.declared.group.Group.{Group}
use Rattle.manager_slots.specs.declared.slot_phase.SlotPhase.{SlotPhase}
use Rattle.manager_slots.specs.declared.slot_phase.SlotPhase.TheVariants as phase
use Rattle.manager_slots.specs.declared.slot_phase.Taking.{Taking}
use Rattle.manager_slots.specs.Slots.{epoch_of}
use Rattle.manager_slots.specs.SlotTable.{Hearer, hear_of}
use Rattle.manager_slots.specs.Takeovers.{Asker, Done, asker, takeovers_ask_again, outs_of, is_wanted, on_report, phase_of, report_input, takeovers_say as does_each, say_each, takeovers_take}
use Rattle.node_base.specs.declared.effects.Effect.{Effect}
use Rattle.node_base.specs.declared.effects.Effect.TheVariants.{Send, Answer, Lose, Does as Acts}
use Rattle.node_base.specs.declared.questions.Questions.{Questions}
use Rattle.stripe_code.specs.declared.round.Told.{Told}
use Rattle.takeover.specs.declared.input.In.{In}
use Rattle.takeover.specs.declared.input.In.TheVariants as input
use Rattle.takeover.specs.declared.output.Out.{Out}
use Rattle.takeover.specs.declared.output.Out.TheVariants as out
use Rattle.takeover.specs.TakeState.{TakeState, take_start}
use Rattle.takeover.specs.Transition.{awaited, polls, transition}
use Rattle.wire_msg.specs.declared.body.Body.{Body}
use Rattle.wire_msg.specs.declared.body.Body.TheVariants as body
use Rattle.wire_msg.specs.declared.deltas.Report.{Report}
use Rattle.wire_msg.specs.declared.storage.Fetch.{Fetch}
use Rattle.xfs_base.proofs.Booleans.{by_test}
use Rattle.xfs_base.specs.declared.news.SlotNews.{SlotNews}
use Rattle.xfs_base.specs.declared.node.NodeId.{NodeId}
use Rattle.xfs_base.specs.declared.segment.SegName.{SegName}
use Rattle.xfs_base.specs.Limits.{u32_end}
use Rattle.xfs_base.specs.Steps.{still}
use Rattle.xfs_base.proofs.Alls.{all_weaker}
use Rattle.run_losses.proofs.taking_law.SlotReads.{LostFrom, TakingFrom, from_now, lost_of}
use Rattle.run_losses.proofs.taking_law.SlotSays.{EffectSo, NumberSo, PhaseSaid, Said, SaysSo, TakingSaid, takeovers_say_so}
use Rattle.run_losses.proofs.taking_law.SlotTurns.{FetchFor, FetchOf, TakingFine, asked_of, asks_last, fetched_before, is_number, present_fine, still_fine}
use Rattle.run_losses.proofs.taking_law.TakeTurns.{Heard, InputNamed, IsCalm, IsLost, MapNamed, Says, Turn, heard_in, take_turn, tick_part}

same_taking : (x y : Taking) → phase.Taking x ≡ phase.Taking y → x ≡ y
same_taking x y e = cc

-- a slot whose takeover begins
abbrev pub begun_slot : Hearer → SlotNews → Taking
begun_slot h news = record { epoch = news.epoch; take = take_start news h.groups h.ears.clients; fetches = record { own = 0; ask = 0 } }

module _ (Named : ℕ → Group → Type 0) (Came : ℕ → ℕ → Told → Type 0) (start : ℕ) (before : SlotPhase) where
  -- ---- what is sent

  -- a fetch is by the number that was out, or by a later one than all before; where it is the one that is out now, it is of what is read now
  pub record StepFetch (p : SlotPhase) (q : Questions) (last : ℕ) (now : SlotPhase) (m : Fetch) : Type 0 where
    pub upto : m.ask ≤ last
    pub number : ((x : Taking) × (p ≡ phase.Taking x) × (m.ask ≡ x.fetches.ask) × (0 < m.ask)) ⊎ (q.last < m.ask)
    pub own : (y : Taking) → now ≡ phase.Taking y → FetchFor y m

  abbrev pub StepBody : SlotPhase → Questions → ℕ → SlotPhase → Body → Type 0
  StepBody p q last now (body.Fetch m) = StepFetch p q last now m
  StepBody p q last now _ = Unit {0}

  abbrev pub StepEffect : SlotPhase → Questions → ℕ → SlotPhase → Effect → Type 0
  StepEffect p q last now (Send to said) = StepBody p q last now said
  StepEffect p q last now (Answer item answer) = Unit {0}
  StepEffect p q last now (Lose name) = LostFrom Named Came before name
  StepEffect p q last now (Acts act) = ⊥

  -- ---- what becomes of the slot

  -- its number is none, that of before, or a later one; and what was sent before by the number that is out is of what is read
  pub record Moved (p : SlotPhase) (q : Questions) (y : Taking) : Type 0 where
    pub number : (y.fetches.ask ≡ 0) ⊎ (((x : Taking) × (p ≡ phase.Taking x) × (y.fetches.ask ≡ x.fetches.ask)) ⊎ (q.last < y.fetches.ask))
    pub fetched : (m : Fetch) → m.ask ≤ q.last → ((x : Taking) → p ≡ phase.Taking x → FetchFor x m) → FetchFor y m

  pub record SlotStep (p : SlotPhase) (q : Questions) (d : Done) : Type 0 where
    pub fine : (y : Taking) → d.state.phase ≡ phase.Taking y → TakingFine Named d.state.questions.last y
    pub from : (y : Taking) → d.state.phase ≡ phase.Taking y → TakingFrom Named Came start before y
    pub moved : (y : Taking) → d.state.phase ≡ phase.Taking y → Moved p q y
    pub up : q.last ≤ d.state.questions.last
    pub few : d.state.questions.last ≤ q.last + 1
    pub does : AllByRecursion (StepEffect p q d.state.questions.last d.state.phase) d.outs

  -- ---- what there is before

  pub record SlotSo (p : SlotPhase) (last : ℕ) : Type 0 where
    pub fine : (x : Taking) → p ≡ phase.Taking x → TakingFine Named last x
    pub from : (x : Taking) → p ≡ phase.Taking x → TakingFrom Named Came start before x

  -- nothing happens
  pub idle : (p : SlotPhase) (q : Questions) → SlotSo p q.last → SlotStep p q (still (asker p q))
  idle p q so = record {
    fine = so.fine;
    from = so.from;
    moved = λ y fact. record { number = inr (inl (y, fact, refl)); fetched = λ m old was. was y fact };
    up = omega arith;
    few = omega arith;
    does = tt;
  }

  -- ---- the takeover takes an input

  module _ (slot : ℕ) (x : Taking) (q : Questions) (given : In) (after : TakeState) (outs : List Out) (turn : Turn Named x.take given after outs)
      (so : SlotSo (phase.Taking x) q.last) (up : start ≤ q.last) (room : q.last < u32_end)
      (brought : (h : Heard) → heard_in given ≡ Some h → (h.own ≡ x.fetches.own) × Came x.fetches.ask h.server h.told)
      (first : IsCalm given ⊎ (before ≡ phase.Taking x)) where
    abbrev L : SegName → Type 0
    L = IsLost Named x.take given

    abbrev t : Taking
    t = record x { take = after }

    abbrev d : Done
    d = say_each slot (asker (phase.Taking (record x { take = after })) q) outs

    fine : TakingFine Named q.last x
    fine = so.fine x refl

    says : AllByRecursion (SaysSo L after.present) outs
    says = all_weaker (Says Named x.take given after) (SaysSo L after.present) each outs turn.says
      where
        each : (o : Out) → Says Named x.take given after o → SaysSo L after.present o
        each (out.Poll to) h = tt
        each (out.Fetch server name own) h = h
        each (out.Active epoch index beliefs applied) h = tt
        each (out.Lost name) h = h

    said : Said L t q outs d
    said = takeovers_say_so L slot t q fine.number room outs says

    abbrev last : ℕ
    last = d.state.questions.last

    -- a slot that is taken over still
    pub record Still (y : Taking) : Type 0 where
      pub turns : Turn Named x.take given y.take outs
      pub says : TakingSaid (record x { take = y.take }) q outs last y
      pub takes : y.take ≡ after

    still_so : (y : Taking) → d.state.phase ≡ phase.Taking y → Still y
    still_so y fact =
        let h : TakingSaid t q outs last y = subst (PhaseSaid t q outs last) fact said.phase in
        let back : after ≡ y.take = sym h.take in
        record {
          turns = subst (λ z. Turn Named x.take given z outs) back turn;
          says = subst (λ z. TakingSaid (record x { take = z }) q outs last y) back h;
          takes = h.take;
        }

    does_so : (e : Effect) → EffectSo L (NumberSo t q last) after.present e → StepEffect (phase.Taking x) q last d.state.phase e
    does_so (Send to said_) h = by said_ h
      where
        by : (b : Body) → EffectSo L (NumberSo t q last) after.present (Send to b) → StepBody (phase.Taking x) q last d.state.phase b
        by (body.Fetch m) h = record {
          upto = h.1.0;
          number = ⊎_elim
              (λ old. let k = asks_last after after.present old.0.0 x.fetches.own
              (present_fine Named x.take given after outs fine.reads after.present turn.reads) old.0.1 in
              let a = fine.some k.1 in let b = old.1 in inl (x, refl, old.1, omega arith))
              (λ new. inr new) h.1.1;
          own =
              λ y fact. subst (λ (z : TakeState). FetchOf y.fetches z.present m) (sym (still_so y fact).takes) (asked_of after.present y.fetches m h.0.0 h.0.1);
        }
        by _ h = tt
    does_so (Answer item answer) h = tt
    does_so (Lose name) h = lost_of Named Came start before x q given up brought first name h
    does_so (Acts act) h = h

    pub step_of : SlotStep (phase.Taking x) q (say_each slot (asker (phase.Taking (record x { take = after })) q) outs)
    step_of = record {
      fine = λ y fact. let s = still_so y fact in still_fine Named x q given outs last y fine s.turns s.says;
      from = λ y fact.
          let s = still_so y fact in
          from_now Named Came start before x q given up brought first outs last y fine s.turns s.says (so.from x refl);
      moved = λ y fact. let s = still_so y fact in record {
        number = ⊎_elim (λ old. inr (inl (x, refl, old.1))) (λ new. inr (inr new.1)) (is_number Named x q given outs last y fine s.turns s.says);
        fetched = λ m old was. fetched_before Named x q given outs last y fine s.turns s.says m old (was x refl);
      };
      up = said.up;
      few = said.few;
      does = all_weaker (EffectSo L (NumberSo t q last) after.present) (StepEffect (phase.Taking x) q last d.state.phase) does_so d.outs said.does;
    }

  -- ---- any input

  module _ (slot : ℕ) (p : SlotPhase) (q : Questions) (so : SlotSo p q.last) (up : start ≤ q.last) (room : q.last < u32_end) where
    pub takes_step : (given : In) → InputNamed Named given
        → ((h : Heard) → heard_in given ≡ Some h → (x : Taking) → p ≡ phase.Taking x → (h.own ≡ x.fetches.own) × Came x.fetches.ask h.server h.told)
        → (IsCalm given ⊎ (before ≡ p)) → SlotStep p q (takeovers_take (asker p q) slot given)
    unfolding takeovers_take outs_of say_each
    takes_step given named brought first = by p so brought first
      where
        by : (z : SlotPhase) → SlotSo z q.last
            → ((h : Heard) → heard_in given ≡ Some h → (x : Taking) → z ≡ phase.Taking x → (h.own ≡ x.fetches.own) × Came x.fetches.ask h.server h.told)
            → (IsCalm given ⊎ (before ≡ z)) → SlotStep z q (takeovers_take (asker z q) slot given)
        by (phase.Taking x) so brought first =
            step_of slot x q given (transition x.take given).state (transition x.take given).outs (take_turn Named x.take given named (so.fine x refl).groups)
            so up room (λ h gives. brought h gives x refl) first
        by (phase.Away epoch) so brought first = idle (phase.Away epoch) q so
        by (phase.Active a) so brought first = idle (phase.Active a) q so
        by (phase.Broken epoch seg) so brought first = idle (phase.Broken epoch seg) q so

    pub asks_step : (polls : Bool) → SlotStep p q (takeovers_ask_again (asker p q) slot polls)
    unfolding takeovers_ask_again outs_of say_each
    asks_step polls = by p so
      where
        by : (z : SlotPhase) → SlotSo z q.last → SlotStep z q (takeovers_ask_again (asker z q) slot polls)
        by (phase.Taking x) so =
            step_of slot x q input.Tick x.take (filter (is_wanted polls) (transition x.take input.Tick).outs)
            (tick_part Named x.take (so.fine x refl).groups (is_wanted polls)) so up room (λ h gives. absurd (none h gives)) (inl tt)
          where
            none : (h : Heard) → None ≡ Some h → ⊥
            none h gives = cc
        by (phase.Away epoch) so = idle (phase.Away epoch) q so
        by (phase.Active a) so = idle (phase.Active a) q so
        by (phase.Broken epoch seg) so = idle (phase.Broken epoch seg) q so

  -- ---- a report

  pub report_step : (p : SlotPhase) (q : Questions) → SlotSo p q.last → start ≤ q.last → q.last < u32_end → (from : NodeId) (report : Report) → before ≡ p
      → SlotStep p q (on_report (asker p q) from report)
  report_step p q so up room from report fact =
      by_test (SlotStep p q) (report.epoch == epoch_of p) (takeovers_take (asker p q) report.slot (report_input from report)) (still (asker p q))
      (λ _. takes_step report.slot p q so up room (report_input from report) tt (λ h gives. absurd (none h gives)) (inr fact)) (λ _. idle p q so)
    where
      none : (h : Heard) → None ≡ Some h → ⊥
      none h gives = cc

  -- ---- a new epoch

  -- what becomes of a slot that has begun anew, whose takeover reads nothing yet, becomes of the slot
  module _ (p z : SlotPhase) (q : Questions)
      (fresh : (x : Taking) → z ≡ phase.Taking x → (x.fetches.ask ≡ 0) × (x.take.present ≡ None)) where
    nothing_read : (x : Taking) (m : Fetch) → x.take.present ≡ None → FetchFor x m
    nothing_read x m none = subst (λ o. FetchOf x.fetches o m) (sym none) tt

    renewed_does : (last : ℕ) (now : SlotPhase) (e : Effect) → StepEffect z q last now e → StepEffect p q last now e
    renewed_does last now (Send to said) h = by said h
      where
        by : (b : Body) → StepBody z q last now b → StepBody p q last now b
        by (body.Fetch m) h = record {
          upto = h.upto;
          number = ⊎_elim (λ old. absurd (let a = (fresh old.0 old.1).0 in let b = old.2 in let c = old.3 in omega arith)) (λ new. inr new) h.number;
          own = h.own;
        }
        by _ h = tt
    renewed_does last now (Answer item answer) h = tt
    renewed_does last now (Lose name) h = h
    renewed_does last now (Acts act) h = h

    renewed : (d : Done) → SlotStep z q d → SlotStep p q d
    renewed d s = record {
      fine = s.fine;
      from = s.from;
      moved = λ y fact. let m = s.moved y fact in record {
        number = ⊎_elim (λ none. inl none)
            (⊎_elim (λ old. inl (let a = (fresh old.0 old.1).0 in let b = old.2 in omega arith)) (λ new. inr (inr new))) m.number;
        fetched = λ f old was. m.fetched f old (λ x its. nothing_read x f (fresh x its).1);
      };
      up = s.up;
      few = s.few;
      does = all_weaker (StepEffect z q d.state.questions.last d.state.phase) (StepEffect p q d.state.questions.last d.state.phase)
          (renewed_does d.state.questions.last d.state.phase) d.outs s.does;
    }

  module _ (h : Hearer) (news : SlotNews) (named : MapNamed Named h.groups) (p : SlotPhase) (q : Questions) (so : SlotSo p q.last) (up : start ≤ q.last)
      (room : q.last < u32_end) where
    none_heard : (g : Heard) → None ≡ Some g → ⊥
    none_heard g gives = cc

    begun_fine : TakingFine Named q.last (begun_slot h news)
    begun_fine = record { groups = named; own = omega arith; number = omega arith; some = λ more. absurd (omega arith); reads = tt; is_out = tt }

    taking_is : (x : Taking) → phase.Taking (begun_slot h news) ≡ phase.Taking x → (begun_slot h news) ≡ x
    taking_is x fact = same_taking (begun_slot h news) x fact

    taking_so : SlotSo (phase.Taking (begun_slot h news)) q.last
    taking_so = record {
      fine = λ x fact. subst (TakingFine Named q.last) (taking_is x fact) begun_fine;
      from = λ x fact. subst (TakingFrom Named Came start before) (taking_is x fact) tt;
    }

    away_so : SlotSo (phase.Away news.epoch) q.last
    away_so = record { fine = λ x fact. absurd (none x fact); from = λ x fact. absurd (none x fact) }
      where
        none : (x : Taking) → phase.Away news.epoch ≡ phase.Taking x → ⊥
        none x fact = cc

    begun_step : (z : SlotPhase) → SlotSo z q.last → ((x : Taking) → z ≡ phase.Taking x → (x.fetches.ask ≡ 0) × (x.take.present ≡ None))
        → SlotStep p q (takeovers_take (asker z q) news.slot input.Tick)
    begun_step z its fresh =
        renewed p z q fresh (takeovers_take (asker z q) news.slot input.Tick)
        (takes_step news.slot z q its up room input.Tick tt (λ g gives. absurd (none_heard g gives)) (inl tt))

    pub hears_step : SlotStep p q (hear_of h news (asker p q))
    unfolding hear_of
    hears_step =
        by_test (SlotStep p q) (nat_lt (epoch_of p) news.epoch)
        (takeovers_take (asker (phase_of h.ears.number news h.groups h.ears.clients) q) news.slot input.Tick) (still (asker p q))
        (λ _. by_test (λ (z : SlotPhase). SlotStep p q (takeovers_take (asker z q) news.slot input.Tick)) (news.manager == h.ears.number)
        (phase.Taking (begun_slot h news)) (phase.Away news.epoch)
        (λ _. begun_step (phase.Taking (begun_slot h news)) taking_so
        (λ x fact. (subst (λ (y : Taking). y.fetches.ask ≡ 0) (taking_is x fact) refl, subst (λ (y : Taking). y.take.present ≡ None) (taking_is x fact) refl)))
        (λ _. begun_step (phase.Away news.epoch) away_so (λ x fact. absurd (never x fact))))
        (λ _. idle p q so)
      where
        never : (x : Taking) → phase.Away news.epoch ≡ phase.Taking x → ⊥
        never x fact = cc

-- an epoch that is heard of draws no number: a slot that begins polls alone
polls_rest : (slot : ℕ) (a : Asker) (nodes : List NodeId) → (say_each slot a (polls nodes ++ [])).state ≡ a
unfolding say_each does_each
polls_rest slot a [] = refl
polls_rest slot a (n ∷ nodes) = polls_rest slot a nodes

pub hears_rests : (h : Hearer) (news : SlotNews) (p : SlotPhase) (q : Questions) → (hear_of h news (asker p q)).state.questions.last ≡ q.last
unfolding hear_of takeovers_take outs_of say_each
hears_rests h news p q =
    by_test (λ (d : Done). d.state.questions.last ≡ q.last) (nat_lt (epoch_of p) news.epoch)
    (takeovers_take (asker (phase_of h.ears.number news h.groups h.ears.clients) q) news.slot input.Tick) (still (asker p q))
    (λ _. by_test (λ (z : SlotPhase). (takeovers_take (asker z q) news.slot input.Tick).state.questions.last ≡ q.last) (news.manager == h.ears.number)
    (phase.Taking (begun_slot h news)) (phase.Away news.epoch)
    (λ _. ap (λ (x : Asker). x.questions.last)
    (polls_rest news.slot (asker (phase.Taking (begun_slot h news)) q) (awaited (take_start news h.groups h.ears.clients))))
    (λ _. refl))
    (λ _. refl)
