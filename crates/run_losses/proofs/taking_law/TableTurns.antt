-- What the parts of an event, one after another, make of the slots of a manager, and what they have it do.
use Rattle.std.proofs.Common.{◌≡◌, ⊎_elim, ℕ, suc, ◌+◌, ◌==◌, ◌<◌, ◌≤◌, true, false, Bool, List, [], ◌∷◌, ◌++◌, length, Option, Some, None, inl, inr, refl, sym, ap, subst, ◌∙◌, append-nil, append_assoc, arith}
use Rattle.std.specs.List.{AllByRecursion, slice_get, slice_set}
use Rattle.std.specs.Prelude.{unwrap_or}
use Rattle.std.proofs.lemmas.Bool.{eqb-true}
use Rattle.std.proofs.lemmas.Bool.Decides.{nat_tests}
use Rattle.std.proofs.lemmas.Option.{slice_get_within}
use Rattle.group_map.specs.declared.group.Group.{Group}
use Rattle.group_map.specs.GroupMapState.{GroupMapState}
use Rattle.manager_slots.specs.declared.slot_phase.SlotPhase.{SlotPhase}
use Rattle.manager_slots.specs.declared.slot_phase.SlotPhase.TheVariants as phase
use Rattle.manager_slots.specs.declared.slot_phase.Taking.{Taking}
use Rattle.manager_slots.specs.SlotTable as table
use Rattle.manager_slots.specs.SlotTable.{Asks, Hearer, Table, TableAsker, all_slots, at_taken, hear_of, in_taken}
use Rattle.manager_slots.specs.Takeovers as takeovers
use Rattle.manager_slots.specs.Takeovers.{Asker, asker}
use Rattle.node_base.specs.declared.effects.Effect.{Effect}
use Rattle.node_base.specs.declared.effects.Effect.TheVariants.{Send, Answer, Lose, Does as Acts}
use Rattle.node_base.specs.declared.questions.Questions.{Questions}
use Rattle.node_slots.proofs.node_tie.ManagerTables.{set_here, set_there}
use Rattle.headline.specs.Managers.{phase_at}
use Rattle.stripe_code.specs.declared.round.Told.{Told}
use Rattle.takeover.specs.declared.input.In.{In}
use Rattle.takeover.specs.declared.input.In.TheVariants as input
use Rattle.wire_msg.specs.declared.body.Body.{Body}
use Rattle.wire_msg.specs.declared.body.Body.TheVariants as body
use Rattle.wire_msg.specs.declared.deltas.Report.{Report}
use Rattle.wire_msg.specs.declared.storage.Fetch.{Fetch}
use Rattle.xfs_base.specs.declared.news.SlotNews.{SlotNews}
use Rattle.xfs_base.specs.declared.node.NodeId.{NodeId}
use Rattle.xfs_base.specs.Limits.{u32_end}
use Rattle.xfs_base.specs.Steps.{steps}
use Rattle.xfs_base.proofs.Alls.{all_append, all_weaker}
use Rattle.run_losses.proofs.taking_law.Quiet.{Alike, IsQuiet, NotLost, NoFetch}
use Rattle.run_losses.proofs.taking_law.SlotReads.{LostFrom, TakingFrom}
use Rattle.run_losses.proofs.taking_law.SlotSteps.{SlotSo, SlotStep, StepBody, StepEffect, StepFetch, asks_step, hears_rests, hears_step, report_step, takes_step}
use Rattle.run_losses.proofs.taking_law.SlotTurns.{FetchFor, TakingFine, unread}
use Rattle.run_losses.proofs.taking_law.TakeTurns.{Heard, InputNamed, MapNamed, heard_in}

module _ (Named : ℕ → Group → Type 0) (Came : ℕ → ℕ → Told → Type 0) (start : ℕ) (first : Table) where
  -- ---- what was done so far

  -- a fetch is by a number that was drawn; where that is the one by which a slot reads now, it is of what is read
  pub record FetchSo (t : Table) (last : ℕ) (m : Fetch) : Type 0 where
    pub upto : m.ask ≤ last
    pub each : (k : ℕ) (x : Taking) → phase_at t k ≡ phase.Taking x → FetchFor x m

  abbrev pub BodySo : Table → ℕ → Body → Type 0
  BodySo t last (body.Fetch m) = FetchSo t last m
  BodySo t last _ = Unit {0}

  abbrev pub DoneSo : Table → ℕ → Effect → Type 0
  DoneSo t last (Send to said) = BodySo t last said
  DoneSo t last (Answer item answer) = Unit {0}
  DoneSo t last (Lose name) = (k : ℕ) × LostFrom Named Came (phase_at first k) name
  DoneSo t last (Acts a) = NotLost a

  -- ---- what the slots are so far

  -- the numbers by which slots read differ
  abbrev pub AreApart : Table → Type 0
  AreApart t =
      (k m : ℕ) (x w : Taking) → phase_at t k ≡ phase.Taking x → phase_at t m ≡ phase.Taking w → (k ≡ m → ⊥) → x.fetches.ask ≡ w.fetches.ask
      → x.fetches.ask ≡ 0

  pub record Sofar (t : Table) (last : ℕ) (outs : List Effect) : Type 0 where
    pub up : start ≤ last
    pub fine : (k : ℕ) (x : Taking) → phase_at t k ≡ phase.Taking x → TakingFine Named last x
    pub apart : AreApart t
    pub from : (k : ℕ) (x : Taking) → phase_at t k ≡ phase.Taking x → TakingFrom Named Came start (phase_at first k) x
    pub does : AllByRecursion (DoneSo t last) outs

  same_or_other : (k m : ℕ) (P : Type 0) → (m ≡ k → P) → ((m ≡ k → ⊥) → P) → P
  same_or_other k m P f g = by (m == k) refl
    where
      apart : (m == k) ≡ false → m ≡ k → ⊥
      apart fact = grind (arith, nat_tests)

      by : (b : Bool) → (m == k) ≡ b → P
      by true fact = f (eqb-true m k fact)
      by false fact = g (apart fact)

  -- ---- one slot takes a step

  module _ (t : Table) (last : ℕ) (outs : List Effect) (so : Sofar t last outs) (k : ℕ) (within : k < length t) where
    pub slot_so : (q : Questions) → q.last ≡ last → SlotSo Named Came start (phase_at first k) (phase_at t k) q.last
    slot_so q fact = record {
      fine = λ x at. subst (λ n. TakingFine Named n x) (sym fact) (so.fine k x at);
      from = λ x at. so.from k x at;
    }

    module _ (q : Questions) (fact : q.last ≡ last) (d : takeovers.Done) (step : SlotStep Named Came start (phase_at first k) (phase_at t k) q d) where
      abbrev now : Table
      now = slice_set t k d.state.phase

      abbrev later : ℕ
      later = d.state.questions.last

      rises : last ≤ later
      rises = let a = step.up in omega arith

      -- a slot is the one that took the step, or as it was
      by_slot : (P : ℕ → Taking → Type 0) → ((y : Taking) → d.state.phase ≡ phase.Taking y → P k y)
          → ((m : ℕ) (x : Taking) → (m ≡ k → ⊥) → phase_at t m ≡ phase.Taking x → P m x) → (m : ℕ) (x : Taking) → phase_at now m ≡ phase.Taking x → P m x
      by_slot P own others m x at =
          same_or_other k m (P m x)
          (λ e. subst (λ n. P n x) (sym e) (own x (sym (set_here t k d.state.phase within) ∙ (ap (phase_at now) (sym e) ∙ at))))
          (λ e. others m x e (sym (set_there t k m d.state.phase e) ∙ at))

      higher : (n : ℕ) (x : Taking) → last ≤ n → TakingFine Named last x → TakingFine Named n x
      higher n x more f = record {
        groups = f.groups;
        own = f.own;
        number = (let a = f.number in omega arith);
        some = f.some;
        reads = f.reads;
        is_out = f.is_out;
      }

      own_apart : (y : Taking) → d.state.phase ≡ phase.Taking y → (m : ℕ) (w : Taking) → (m ≡ k → ⊥) → phase_at t m ≡ phase.Taking w
          → y.fetches.ask ≡ w.fetches.ask → y.fetches.ask ≡ 0
      own_apart y at m w e its same =
          ⊎_elim (λ none. none)
          (⊎_elim
          (λ old. let none = so.apart k m old.0 w old.1 its (λ fact. e (sym fact)) (sym old.2 ∙ same) in old.2 ∙ none)
          (λ new. absurd (let a = (so.fine m w its).number in omega arith))) (step.moved y at).number

      apart_now : AreApart now
      apart_now a b x w at to e same =
          by_slot (λ m z. (m ≡ b → ⊥) → z.fetches.ask ≡ w.fetches.ask → z.fetches.ask ≡ 0)
          (λ y its other eq. by_slot (λ m z. (k ≡ m → ⊥) → y.fetches.ask ≡ z.fetches.ask → y.fetches.ask ≡ 0)
          (λ z its_ other_ eq_. absurd (other_ refl)) (λ m z e_ its_ other_ eq_. own_apart y its m z e_ its_ eq_) b w to other eq)
          (λ m z e_ its other eq. by_slot (λ n v. (m ≡ n → ⊥) → z.fetches.ask ≡ v.fetches.ask → z.fetches.ask ≡ 0)
          (λ v its_ other_ eq_. eq_ ∙ own_apart v its_ m z e_ its (sym eq_)) (λ n v e2 its_ other_ eq_. so.apart m n z v its its_ other_ eq_) b w to other eq)
          a x at e same

      fetched_on : (m : Fetch) → FetchSo t last m → FetchSo now later m
      fetched_on m f = record {
        upto = (let a = f.upto in let b = rises in omega arith);
        each = by_slot (λ n z. FetchFor z m) (λ y its. (step.moved y its).fetched m (let a = f.upto in omega arith) (λ x was. f.each k x was))
            (λ n z e its. f.each n z its);
      }

      done_on : (e : Effect) → DoneSo t last e → DoneSo now later e
      done_on (Send to said) h = by said h
        where
          by : (b : Body) → BodySo t last b → BodySo now later b
          by (body.Fetch m) h = fetched_on m h
          by _ h = tt
      done_on (Answer item answer) h = tt
      done_on (Lose name) h = h
      done_on (Acts a) h = h

      -- another slot doesn't read by the number of a fetch that is sent now
      not_theirs : (m : Fetch) → StepFetch Named Came start (phase_at first k) (phase_at t k) q later d.state.phase m → (n : ℕ) (w : Taking) → (n ≡ k → ⊥)
          → phase_at t n ≡ phase.Taking w
          → m.ask ≡ w.fetches.ask → ⊥
      not_theirs m f n w e its same =
          ⊎_elim
          (λ old. let none = so.apart k n old.0 w old.1 its (λ fact. e (sym fact)) (sym old.2 ∙ same) in let a = old.2 in let b = old.3 in omega arith)
          (λ new. let a = (so.fine n w its).number in omega arith) f.number

      fetch_now : (m : Fetch) → StepFetch Named Came start (phase_at first k) (phase_at t k) q later d.state.phase m → FetchSo now later m
      fetch_now m f = record {
        upto = f.upto;
        each = by_slot (λ n z. FetchFor z m) (λ y its. f.own y its) (λ n z e its. unread z m (not_theirs m f n z e its));
      }

      done_now : (e : Effect) → StepEffect Named Came start (phase_at first k) (phase_at t k) q later d.state.phase e → DoneSo now later e
      done_now (Send to said) h = by said h
        where
          by : (b : Body) → StepBody Named Came start (phase_at first k) (phase_at t k) q later d.state.phase b → BodySo now later b
          by (body.Fetch m) h = fetch_now m h
          by _ h = tt
      done_now (Answer item answer) h = tt
      done_now (Lose name) h = (k, h)
      done_now (Acts a) h = absurd h

      pub stepped : Sofar (slice_set t k d.state.phase) d.state.questions.last (outs ++ d.outs)
      stepped = record {
        up = (let a = so.up in let b = rises in omega arith);
        fine = by_slot (λ n z. TakingFine Named later z) step.fine (λ n z e its. higher later z rises (so.fine n z its));
        apart = apart_now;
        from = by_slot (λ n z. TakingFrom Named Came start (phase_at first n) z) step.from (λ n z e its. so.from n z its);
        does = all_append (DoneSo now later) outs d.outs (all_weaker (DoneSo t last) (DoneSo now later) done_on outs so.does)
            (all_weaker (StepEffect Named Came start (phase_at first k) (phase_at t k) q later d.state.phase) (DoneSo now later) done_now d.outs step.does);
      }

  -- ---- the takeover of one slot

  -- what an event has done by then, and this part of it
  abbrev pub After : List Effect → Asks → Type 0
  After outs d = Sofar d.state.table d.state.questions.last (outs ++ d.outs)

  pub same_outs : (t : Table) (last : ℕ) (outs more : List Effect) → outs ≡ more → Sofar t last outs → Sofar t last more
  same_outs t last outs more fact so = subst (Sofar t last) fact so

  module _ (a : TableAsker) (outs : List Effect) (so : Sofar a.table a.questions.last outs) (k : ℕ) where
    abbrev Stepping : (Asker → takeovers.Done) → Type 0
    Stepping event =
        SlotStep Named Came start (phase_at first k) (phase_at a.table k) a.questions (event (asker (phase_at a.table k) a.questions))

    abbrev Good : Asks → Type 0
    Good d = After outs d × (a.questions.last ≤ d.state.questions.last) × (d.state.questions.last ≤ a.questions.last + 1)

    pub taken_turn : (event : Asker → takeovers.Done) → (SlotSo Named Came start (phase_at first k) (phase_at a.table k) a.questions.last → Stepping event)
        → After outs (at_taken a k event) × (a.questions.last ≤ (at_taken a k event).state.questions.last)
        × ((at_taken a k event).state.questions.last ≤ a.questions.last + 1)
    taken_turn event each = by (slice_get a.table k) refl
      where
        by : (o : Option SlotPhase) → slice_get a.table k ≡ o → Good (in_taken a k event o)
        by None fact = (same_outs a.table a.questions.last outs (outs ++ []) (sym (append-nil outs)) so, omega arith, omega arith)
        by (Some p) fact =
            let same : phase_at a.table k ≡ p = ap (λ o. unwrap_or o (phase.Away 0)) fact in
            let within : k < length a.table = slice_get_within a.table k p fact in
            let step : Stepping event = each (slot_so a.table a.questions.last outs so k within a.questions refl) in
            subst (λ (z : SlotPhase). Good (table.put_asker a k (event (asker z a.questions)))) same
            (stepped a.table a.questions.last outs so k within a.questions refl (event (asker (phase_at a.table k) a.questions)) step, step.up, step.few)

  -- ---- each slot in order

  -- R n: numbers are left for n steps more
  module _ {X : Type 0} (R : ℕ → ℕ → Type 0) (step : TableAsker → X → Asks)
      (each : (a : TableAsker) (x : X) (n : ℕ) (outs : List Effect) → Sofar a.table a.questions.last outs → R (suc n) a.questions.last
      → After outs (step a x) × R n (step a x).state.questions.last) where
    pub steps_turn : (a : TableAsker) (xs : List X) (outs : List Effect) → Sofar a.table a.questions.last outs → R (length xs) a.questions.last
        → After outs (steps step a xs) × R 0 (steps step a xs).state.questions.last
    steps_turn a [] outs so room = (same_outs a.table a.questions.last outs (outs ++ []) (sym (append-nil outs)) so, room)
    steps_turn a (x ∷ xs) outs so room =
        let one = each a x (length xs) outs so room in
        let rest = steps_turn (step a x).state xs (outs ++ (step a x).outs) one.0 one.1 in
        let end = (steps step (step a x).state xs).state in
        (same_outs end.table end.questions.last _ _ (append_assoc outs (step a x).outs (steps step (step a x).state xs).outs) rest.0, rest.1)

  -- with so many steps more the numbers come to no more than this, which is below their end
  abbrev IsLeft : ℕ → ℕ → ℕ → Type 0
  IsLeft limit n last = (last + n ≤ limit) × (limit < u32_end)

  abbrev HasRoom : ℕ → ℕ → Type 0
  HasRoom n last = last < u32_end

  pub table_asks : (polls : Bool) (a : TableAsker) (outs : List Effect) → Sofar a.table a.questions.last outs → a.questions.last + 8 < u32_end
      → After outs (table.slot_table_ask_again polls a) × ((table.slot_table_ask_again polls a).state.questions.last ≤ a.questions.last + 8)
  unfolding table.slot_table_ask
  table_asks polls a outs so room = (all.0, let r = all.1 in omega arith)
    where
      all : After outs (table.slot_table_ask_again polls a) × ((table.slot_table_ask_again polls a).state.questions.last + 0 ≤ a.questions.last + 8)
      all = let r = steps_turn (IsLeft (a.questions.last + 8)) (table.slot_table_ask polls)
          (λ b k n done its left. let r = one b k done its (let l = left.0 in let m = left.1 in omega arith) in
          (r.0, (let x = r.2 in let l = left.0 in omega arith, left.1))) a all_slots outs so (omega arith, room) in (r.0, r.1.0)
        where
          one : (b : TableAsker) (k : ℕ) (done : List Effect) → Sofar b.table b.questions.last done → b.questions.last < u32_end
              → After done (table.slot_table_ask polls b k) × (b.questions.last ≤ (table.slot_table_ask polls b k).state.questions.last)
              × ((table.slot_table_ask polls b k).state.questions.last ≤ b.questions.last + 1)
          one b k done its room =
              taken_turn b done its k (λ x. takeovers.takeovers_ask_again x k polls)
              (λ slot. asks_step Named Came start (phase_at first k) k (phase_at b.table k) b.questions slot its.up room polls)

  pub table_regroups : (groups : GroupMapState) → MapNamed Named groups → (a : TableAsker) (outs : List Effect) → Sofar a.table a.questions.last outs
      → a.questions.last + 8 < u32_end
      → After outs (table.slot_table_regroup groups a) × ((table.slot_table_regroup groups a).state.questions.last ≤ a.questions.last + 8)
  unfolding table.slot_table_take
  table_regroups groups named a outs so room = (all.0, let r = all.1 in omega arith)
    where
      none : (h : Heard) → None ≡ Some h → ⊥
      none h gives = cc

      all : After outs (table.slot_table_regroup groups a) × ((table.slot_table_regroup groups a).state.questions.last + 0 ≤ a.questions.last + 8)
      all = let r = steps_turn (IsLeft (a.questions.last + 8)) (table.regroup_one groups)
          (λ b k n done its left. let r = one b k done its (let l = left.0 in let m = left.1 in omega arith) in
          (r.0, (let x = r.2 in let l = left.0 in omega arith, left.1))) a all_slots outs so (omega arith, room) in (r.0, r.1.0)
        where
          one : (b : TableAsker) (k : ℕ) (done : List Effect) → Sofar b.table b.questions.last done → b.questions.last < u32_end
              → After done (table.regroup_one groups b k) × (b.questions.last ≤ (table.regroup_one groups b k).state.questions.last)
              × ((table.regroup_one groups b k).state.questions.last ≤ b.questions.last + 1)
          one b k done its room =
              taken_turn b done its k (λ x. takeovers.takeovers_take x k (input.Maps groups))
              (λ slot. takes_step Named Came start (phase_at first k) k (phase_at b.table k) b.questions slot its.up room (input.Maps groups) named
              (λ h gives. absurd (none h gives)) (inl tt))

  -- ---- epochs that are heard of: nothing is asked of servers

  pub table_hears : (h : Hearer) → MapNamed Named h.groups → (a : TableAsker) (slots : List SlotNews) (outs : List Effect)
      → Sofar a.table a.questions.last outs → a.questions.last < u32_end → After outs (table.hear_each h a slots)
  unfolding table.slot_table_hear
  table_hears h named a slots outs so room = (steps_turn HasRoom (table.slot_table_hear h) one a slots outs so room).0
    where
      one : (b : TableAsker) (news : SlotNews) (n : ℕ) (done : List Effect) → Sofar b.table b.questions.last done → b.questions.last < u32_end
          → After done (table.slot_table_hear h b news) × ((table.slot_table_hear h b news).state.questions.last < u32_end)
      one b news n done its room =
          let r = taken_turn b done its news.slot (hear_of h news)
          (λ slot. hears_step Named Came start (phase_at first news.slot) h news named (phase_at b.table news.slot) b.questions slot its.up room) in
          (r.0, kept (slice_get b.table news.slot))
        where
          kept : (o : Option SlotPhase) → (in_taken b news.slot (hear_of h news) o).state.questions.last < u32_end
          kept None = room
          kept (Some p) = let e = hears_rests h news p b.questions in omega arith

  -- ---- the first part of an event

  module _ (q : Questions) (so : Sofar first q.last []) (room : q.last < u32_end) where
    abbrev a : TableAsker
    a = table.table_asker first q

    pub table_takes : (k : ℕ) (given : In) → InputNamed Named given
        → ((h : Heard) → heard_in given ≡ Some h → (x : Taking) → phase_at first k ≡ phase.Taking x
        → (h.own ≡ x.fetches.own) × Came x.fetches.ask h.server h.told)
        → After [] (table.slot_table_take (table.table_asker first q) k given)
    unfolding table.slot_table_take
    table_takes k given named brought =
        (taken_turn a [] so k (λ x. takeovers.takeovers_take x k given)
        (λ slot. takes_step Named Came start (phase_at first k) k (phase_at first k) q slot so.up room given named brought (inr refl))).0

    pub table_reports : (from : NodeId) (report : Report) → After [] (table.on_report (table.table_asker first q) from report)
    unfolding table.on_report
    table_reports from report =
        (taken_turn a [] so report.slot (λ x. takeovers.on_report x from report)
        (λ slot. report_step Named Came start (phase_at first report.slot) (phase_at first report.slot) q slot so.up room from report refl)).0

  -- ---- what leaves takeovers alone

  module _ (t u : Table) (last later : ℕ) (alike : Alike t u) (up : last ≤ later) where
    fetch_on : (m : Fetch) → FetchSo t last m → FetchSo u later m
    fetch_on m f = record { upto = (let a = f.upto in omega arith); each = λ k x fact. f.each k x (alike k x fact) }

    effect_on : (e : Effect) → DoneSo t last e → DoneSo u later e
    effect_on (Send to said) h = by said h
      where
        by : (b : Body) → BodySo t last b → BodySo u later b
        by (body.Fetch m) h = fetch_on m h
        by _ h = tt
    effect_on (Answer item answer) h = tt
    effect_on (Lose name) h = h
    effect_on (Acts a) h = h

    quiet_so : (e : Effect) → IsQuiet e → DoneSo u later e
    quiet_so (Send to said) h = by said h
      where
        by : (b : Body) → NoFetch b → BodySo u later b
        by (body.Fetch m) h = absurd h
        by _ h = tt
    quiet_so (Answer item answer) h = tt
    quiet_so (Lose name) h = absurd h
    quiet_so (Acts a) h = h

    pub quiet_turn : (outs more : List Effect) → AllByRecursion IsQuiet more → Sofar t last outs → Sofar u later (outs ++ more)
    quiet_turn outs more quiet so = record {
      up = (let a = so.up in omega arith);
      fine = λ k x fact. let f = so.fine k x (alike k x fact) in record {
        groups = f.groups;
        own = f.own;
        number = (let a = f.number in omega arith);
        some = f.some;
        reads = f.reads;
        is_out = f.is_out;
      };
      apart = λ k m x w at to other same. so.apart k m x w (alike k x at) (alike m w to) other same;
      from = λ k x fact. so.from k x (alike k x fact);
      does = all_append (DoneSo u later) outs more (all_weaker (DoneSo t last) (DoneSo u later) effect_on outs so.does)
          (all_weaker IsQuiet (DoneSo u later) quiet_so more quiet);
    }
