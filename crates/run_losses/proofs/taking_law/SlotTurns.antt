-- What each event makes of one slot that a manager takes over: which segment it reads then, by which number of the manager's, what it asks for and what is
-- lost.
use Rattle.std.proofs.Common.{◌≡◌, ◌⊎◌, ⊎_elim, ℕ, ◌+◌, ◌<◌, ◌≤◌, List, [], ◌∷◌, Option, Some, None, inl, inr, refl, sym, ap, subst, ◌∙◌, arith}
use Rattle.std.specs.List.{AllByRecursion}
use Rattle.group_map.specs.declared.group.Group.{Group}
use Rattle.manager_slots.specs.declared.slot_phase.Taking.{Taking}
use Rattle.node_base.specs.declared.questions.Asked.{Asked}
use Rattle.node_base.specs.declared.questions.Questions.{Questions}
use Rattle.segment_reading.specs.declared.reading.Next.{Next}
use Rattle.segment_reading.specs.declared.reading.Next.TheVariants as next
use Rattle.segment_reading.specs.Reading.{ReadingState}
use Rattle.takeover.proofs.Readings.{target-reading_take, target-on_confirmed}
use Rattle.takeover.specs.declared.input.In.{In}
use Rattle.takeover.specs.declared.output.Out.{Out}
use Rattle.takeover.specs.declared.source.Present.{Present}
use Rattle.takeover.specs.declared.source.Source.{Source}
use Rattle.takeover.specs.TakeState.{TakeState}
use Rattle.takeover.specs.Transition.{fetches, target_of}
use Rattle.wire_msg.specs.declared.storage.Fetch.{Fetch}
use Rattle.xfs_base.specs.declared.segment.SegName.{SegName}
use Rattle.run_losses.proofs.taking_law.SlotSays.{Asks, Rested, TakingSaid}
use Rattle.run_losses.proofs.taking_law.TakeReadings.{ask-reading_take, servers-reading_take}
use Rattle.run_losses.proofs.taking_law.TakeTurns.{AsksAs, AsksFor, Became, Fresh, IsLost, MapNamed, NotFetch, PresentBecame, ReadingBecame, Takes, Turn, answered}

-- nothing is asked of servers only where there are none
none_asked : (name : SegName) (own : ℕ) (servers : List ℕ) → AllByRecursion NotFetch (fetches name own servers) → servers ≡ []
none_asked name own [] none = refl
none_asked name own (v ∷ vs) none = absurd none.0

-- ---- what a takeover keeps

-- what it reads at present is the segment of its source, by its last question
pub record ReadFine (s : TakeState) (source : Source) (r : ReadingState) : Type 0 where
  pub looks : r.target ≡ target_of source
  pub counted : r.ask ≡ s.ask
  pub some : 0 < r.ask

abbrev pub ReadingFine : TakeState → Source → Option ReadingState → Type 0
ReadingFine s source None = Unit {0}
ReadingFine s source (Some r) = ReadFine s source r

abbrev pub PresentFine : TakeState → Option Present → Type 0
PresentFine s None = Unit {0}
PresentFine s (Some p) = ReadingFine s p.source p.reading

-- the question of the round is out, where there is any server to be asked
abbrev pub IsOut : Asked → ReadingState → Type 0
IsOut f r = (r.round.servers ≡ []) ⊎ (f.own ≡ r.ask)

abbrev pub ReadingOut : Asked → Option ReadingState → Type 0
ReadingOut f None = Unit {0}
ReadingOut f (Some r) = IsOut f r

abbrev pub PresentOut : Asked → Option Present → Type 0
PresentOut f None = Unit {0}
PresentOut f (Some p) = ReadingOut f p.reading

-- a fetch by the number of the question that is out is of what is read
abbrev pub FetchAs : Asked → Source → Option ReadingState → Fetch → Type 0
FetchAs f source None m = Unit {0}
FetchAs f source (Some r) m = f.own ≡ r.ask → m.ask ≡ f.ask → m.name ≡ source.seg.name

abbrev pub FetchOf : Asked → Option Present → Fetch → Type 0
FetchOf f None m = Unit {0}
FetchOf f (Some p) m = FetchAs f p.source p.reading m

abbrev pub FetchFor : Taking → Fetch → Type 0
FetchFor x m = FetchOf x.fetches x.take.present m

-- none of what is read is by this number
pub unread : (x : Taking) (m : Fetch) → (m.ask ≡ x.fetches.ask → ⊥) → FetchFor x m
unread x m never = by_present x.take.present
  where
    by_reading : (source : Source) (r : Option ReadingState) → FetchAs x.fetches source r m
    by_reading source None = tt
    by_reading source (Some r) = λ out same. absurd (never same)

    by_present : (o : Option Present) → FetchOf x.fetches o m
    by_present None = tt
    by_present (Some p) = by_reading p.source p.reading

-- what is asked for now is of what is read
pub asked_of : (o : Option Present) (f : Asked) (m : Fetch) (own : ℕ) → AsksFor o m.name own → FetchOf f o m
asked_of None f m own fact = absurd fact
asked_of (Some p) f m own fact = by p.reading fact
  where
    by : (r : Option ReadingState) → AsksAs p.source.seg.name r m.name own → FetchAs f p.source r m
    by None fact = absurd fact
    by (Some r) fact = λ out same. fact.0

-- by the last question of the takeover, which is none of before
pub asks_last : (s : TakeState) (o : Option Present) (name : SegName) (own : ℕ) → PresentFine s o → AsksFor o name own → (own ≡ s.ask) × (0 < own)
asks_last s None name own fine fact = absurd fact
asks_last s (Some p) name own fine fact = by p.reading fine fact
  where
    by : (r : Option ReadingState) → ReadingFine s p.source r → AsksAs p.source.seg.name r name own → (own ≡ s.ask) × (0 < own)
    by None fine fact = absurd fact
    by (Some r) fine fact = (fact.1.0 ∙ fine.counted, let a = fine.some in let b = fact.1.0 in omega arith)

module _ (Named : ℕ → Group → Type 0) where
  -- ---- a slot that is taken over, where numbers up to this one were drawn

  pub record TakingFine (last : ℕ) (x : Taking) : Type 0 where
    pub groups : MapNamed Named x.take.groups
    pub own : x.fetches.own ≤ x.take.ask
    pub number : x.fetches.ask ≤ last
    pub some : 0 < x.fetches.own → 0 < x.fetches.ask
    pub reads : PresentFine x.take x.take.present
    pub is_out : PresentOut x.fetches x.take.present

  -- ---- what a takeover keeps at an input

  module _ (s : TakeState) (given : In) (after : TakeState) (outs : List Out) where
    taken_fine : (source : Source) (n : Next) → PresentFine s s.present → (t : Takes Named s given source n) → ReadFine s source t.reading
    taken_fine source n fine t = subst (PresentFine s) t.was fine

    read_fine : PresentFine s s.present → (source : Source) (r : ReadingState) → Became Named s given after outs source r → ReadFine after source r
    read_fine fine source r (inl k) =
        let before : ReadFine s source r = subst (PresentFine s) k.was fine in
        record { looks = before.looks; counted = before.counted ∙ sym k.counted; some = before.some }
    read_fine fine source r (inr (inl w)) =
        let before = taken_fine source next.Wait fine w.takes in
        let h = w.takes.heard in
        let ask : r.ask ≡ w.takes.reading.ask =
        ap (λ (x : ReadingState). x.ask) w.now ∙ ask-reading_take w.takes.reading s.groups h.own h.server h.told in
        record {
          looks = ap (λ (x : ReadingState). x.target) w.now ∙ (target-reading_take w.takes.reading s.groups h.own h.server h.told ∙ before.looks);
          counted = ask ∙ (before.counted ∙ sym w.counted);
          some = (let a = before.some in omega arith);
        }
    read_fine fine source r (inr (inr (inl w))) =
        let before = taken_fine source next.Again fine w.takes in
        let h = w.takes.heard in
        record {
          looks = ap (λ (x : ReadingState). x.target) w.now ∙ (target-on_confirmed (answered w.takes.reading s.groups h).state (s.ask + 1)
              ∙ (target-reading_take w.takes.reading s.groups h.own h.server h.told ∙ before.looks));
          counted = w.fresh.own ∙ sym w.fresh.counted;
          some = (let a = w.fresh.own in omega arith);
        }
    read_fine fine source r (inr (inr (inr b))) = record {
      looks = ap (λ (x : ReadingState). x.target) b.now;
      counted = b.fresh.own ∙ sym b.fresh.counted;
      some = (let a = b.fresh.own in omega arith);
    }

    pub present_fine : PresentFine s s.present → (o : Option Present) → PresentBecame Named s given after outs o → PresentFine after o
    present_fine fine None became = tt
    present_fine fine (Some p) became = by p.reading became
      where
        by : (r : Option ReadingState) → ReadingBecame Named s given after outs p.source r → ReadingFine after p.source r
        by None became = tt
        by (Some r) became = read_fine fine p.source r became

  -- ---- a slot after an input

  module _ (x : Taking) (q : Questions) (given : In) (outs : List Out) (last : ℕ) (y : Taking) (fine : TakingFine q.last x)
      (turn : Turn Named x.take given y.take outs) (said : TakingSaid (record x { take = y.take }) q outs last y) where
    abbrev L : SegName → Type 0
    L = IsLost Named x.take given

    its_reads : PresentFine y.take y.take.present
    its_reads = present_fine x.take given y.take outs fine.reads y.take.present turn.reads

    -- ---- the number

    -- it is that of before, or a later one than all before
    abbrev pub IsNumber : Type 0
    IsNumber = ((y.fetches.own ≡ x.fetches.own) × (y.fetches.ask ≡ x.fetches.ask)) ⊎ ((y.fetches.own ≡ x.fetches.own → ⊥) × (q.last < y.fetches.ask))

    pub is_number : IsNumber
    is_number = ⊎_elim (λ (r : Rested _ outs y). inl (r.own, r.ask)) (λ (a : Asks _ q y). a.number) said.how

    -- where it is the one of the round that was on, it stays
    pub same_number : (ask : ℕ) → x.fetches.own ≡ ask → y.fetches.own ≡ ask → y.fetches.ask ≡ x.fetches.ask
    same_number ask was now = ⊎_elim (λ old. old.1) (λ new. absurd (new.0 (now ∙ sym was))) is_number

    -- one of a round that has begun is a later one
    pub later_number : y.fetches.own ≡ x.take.ask + 1 → q.last < y.fetches.ask
    later_number now = ⊎_elim (λ old. absurd (let a = old.0 in let b = fine.own in omega arith)) (λ new. new.1) is_number

    -- ---- it stays so

    asked_out : (r : ReadingState) (source : Source) → y.take.present ≡ Some (record { source = source; reading = Some r })
        → Asks (record x { take = y.take }) q y
        → y.fetches.own ≡ r.ask
    asked_out r source at a = (subst (λ o. AsksFor o a.name y.fetches.own) at a.asks).1.0

    stays_out : (r : ReadingState) → IsOut x.fetches r → (later : ReadingState) → later.ask ≡ r.ask → later.round.servers ≡ r.round.servers
        → y.fetches.own ≡ x.fetches.own → IsOut y.fetches later
    stays_out r fact later ask servers own = ⊎_elim (λ none. inl (servers ∙ none)) (λ out. inr (own ∙ (out ∙ sym ask))) fact

    fresh_out : (source : Source) (r : ReadingState) → Fresh Named x.take y.take outs source r → AllByRecursion NotFetch outs → IsOut y.fetches r
    fresh_out source r fresh none =
        inl (none_asked source.seg.name (x.take.ask + 1) r.round.servers (subst (AllByRecursion NotFetch) fresh.says none))

    rested_out : (source : Source) (r : ReadingState) → Rested (record x { take = y.take }) outs y → Became Named x.take given y.take outs source r
        → IsOut y.fetches r
    rested_out source r rest (inl k) = stays_out r (subst (PresentOut x.fetches) k.was fine.is_out) r refl refl rest.own
    rested_out source r rest (inr (inl w)) =
        let h = w.takes.heard in
        stays_out w.takes.reading (subst (PresentOut x.fetches) w.takes.was fine.is_out) r
        (ap (λ (z : ReadingState). z.ask) w.now ∙ ask-reading_take w.takes.reading x.take.groups h.own h.server h.told)
        (ap (λ (z : ReadingState). z.round.servers) w.now ∙ servers-reading_take w.takes.reading x.take.groups h.own h.server h.told) rest.own
    rested_out source r rest (inr (inr (inl w))) = fresh_out source r w.fresh rest.none
    rested_out source r rest (inr (inr (inr b))) = fresh_out source r b.fresh rest.none

    its_out : (o : Option Present) → y.take.present ≡ o → PresentBecame Named x.take given y.take outs o → PresentOut y.fetches o
    its_out None at became = tt
    its_out (Some p) at became = by p.reading refl became
      where
        by : (r : Option ReadingState) → p.reading ≡ r → ReadingBecame Named x.take given y.take outs p.source r → ReadingOut y.fetches r
        by None fact became = tt
        by (Some r) fact became =
            let there : y.take.present ≡ Some (record { source = p.source; reading = Some r }) =
            at ∙ ap (λ (z : Option ReadingState). Some (record { source = p.source; reading = z })) fact in
            ⊎_elim (λ rest. rested_out p.source r rest became) (λ a. inr (asked_out r p.source there a)) said.how

    pub still_fine : TakingFine last y
    still_fine = record {
      groups = turn.groups;
      own = ⊎_elim (λ (r : Rested _ outs y). let a = r.own in let b = fine.own in let c = turn.low in omega arith)
          (λ (a : Asks _ q y). let k = asks_last y.take y.take.present a.name y.fetches.own its_reads a.asks in let b = k.0 in omega arith) said.how;
      number = said.number;
      some = λ more. ⊎_elim (λ old. let a = fine.some (let b = old.0 in omega arith) in let b = old.1 in omega arith)
          (λ new. let a = new.1 in omega arith) is_number;
      reads = its_reads;
      is_out = its_out y.take.present refl turn.reads;
    }

    -- ---- what was asked before

    -- a fetch that was sent before by the number of the question that is out is of what is read
    pub fetched_before : (m : Fetch) → m.ask ≤ q.last → FetchFor x m → FetchFor y m
    fetched_before m old before = by_present y.take.present turn.reads
      where
        -- a question that was out before
        was_out : (source : Source) (first : ReadingState) → x.take.present ≡ Some (record { source = source; reading = Some first })
            → y.fetches.own ≡ first.ask → m.ask ≡ y.fetches.ask → m.name ≡ source.seg.name
        was_out source first was out same =
            ⊎_elim (λ n. subst (λ o. FetchOf x.fetches o m) was before (sym n.0 ∙ out) (same ∙ n.1))
            (λ n. absurd (let a = n.1 in let b = same in omega arith)) is_number

        never : y.fetches.own ≡ x.take.ask + 1 → m.ask ≡ y.fetches.ask → ⊥
        never out same = let a = later_number out in omega arith

        of_reading : (source : Source) (r : ReadingState) → Became Named x.take given y.take outs source r → y.fetches.own ≡ r.ask → m.ask ≡ y.fetches.ask
            → m.name ≡ source.seg.name
        of_reading source r (inl k) out same = was_out source r k.was out same
        of_reading source r (inr (inl w)) out same =
            let h = w.takes.heard in
            was_out source w.takes.reading w.takes.was
            (out ∙ (ap (λ (z : ReadingState). z.ask) w.now ∙ ask-reading_take w.takes.reading x.take.groups h.own h.server h.told)) same
        of_reading source r (inr (inr (inl w))) out same = absurd (never (out ∙ w.fresh.own) same)
        of_reading source r (inr (inr (inr b))) out same = absurd (never (out ∙ b.fresh.own) same)

        by_present : (o : Option Present) → PresentBecame Named x.take given y.take outs o → FetchOf y.fetches o m
        by_present None became = tt
        by_present (Some p) became = by p.reading became
          where
            by : (r : Option ReadingState) → ReadingBecame Named x.take given y.take outs p.source r → FetchAs y.fetches p.source r m
            by None became = tt
            by (Some r) became = of_reading p.source r became
