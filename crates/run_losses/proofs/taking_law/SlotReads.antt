-- How what a slot's takeover reads after an event came of what it read before: it is that still, it took what was heard, its next round has begun, or it is one
-- that begins; and what the takeover says is lost.
use Rattle.std.proofs.Common.{◌≡◌, ◌⊎◌, ⊎_elim, ℕ, ◌+◌, ◌<◌, ◌≤◌, List, [], Option, Some, None, inl, inr, ap, subst, ◌∙◌, arith}
use Rattle.group_map.specs.declared.group.Group.{Group}
use Rattle.manager_slots.specs.declared.slot_phase.SlotPhase.{SlotPhase}
use Rattle.manager_slots.specs.declared.slot_phase.SlotPhase.TheVariants as phase
use Rattle.manager_slots.specs.declared.slot_phase.Taking.{Taking}
use Rattle.node_base.specs.declared.questions.Questions.{Questions}
use Rattle.segment_reading.specs.declared.reading.Next.{Next}
use Rattle.segment_reading.specs.declared.reading.Next.TheVariants as next
use Rattle.segment_reading.specs.Reading.{ReadingState, reading_start, on_confirmed}
use Rattle.stripe_code.specs.declared.round.Told.{Told}
use Rattle.takeover.specs.declared.input.In.{In}
use Rattle.takeover.specs.declared.input.In.TheVariants as input
use Rattle.takeover.specs.declared.output.Out.{Out}
use Rattle.takeover.specs.declared.source.Present.{Present}
use Rattle.takeover.specs.declared.source.Source.{Source}
use Rattle.takeover.specs.Transition.{target_of}
use Rattle.xfs_base.specs.declared.segment.SegName.{SegName}
use Rattle.run_losses.proofs.taking_law.SlotSays.{TakingSaid}
use Rattle.run_losses.proofs.taking_law.SlotTurns.{IsOut, PresentOut, ReadingOut, TakingFine, later_number, same_number, still_fine}
use Rattle.run_losses.proofs.taking_law.TakeReadings.{ask-reading_take, servers-reading_take}
use Rattle.run_losses.proofs.taking_law.TakeTurns.{Became, Begins, CalmSo, Heard, IsCalm, IsLost, Kept, PresentBecame, ReadingBecame, Renewed, Takes, Turn, Waits, answered, heard_in}

-- it reads this of a source
abbrev pub at_source : Source → ReadingState → Option Present
at_source source r = Some (record { source = source; reading = Some r })

module _ (Named : ℕ → Group → Type 0) (Came : ℕ → ℕ → Told → Type 0) where
  -- what was read took what came to the number by which it is asked
  pub record Took (x : Taking) (source : Source) (n : Next) : Type 0 where
    pub reading : ReadingState
    pub was : x.take.present ≡ at_source source reading
    pub heard : Heard
    pub own : heard.own ≡ x.fetches.own
    pub came : Came x.fetches.ask heard.server heard.told
    pub goes : (answered reading x.take.groups heard).next ≡ n

  -- ---- from the beginning of the event

  module _ (start : ℕ) (x : Taking) where
    -- the same is read, by the same number
    pub record KeptFrom (y : Taking) (source : Source) (r : ReadingState) : Type 0 where
      pub was : x.take.present ≡ at_source source r
      pub number : y.fetches.ask ≡ x.fetches.ask

    pub record WaitsFrom (y : Taking) (source : Source) (r : ReadingState) : Type 0 where
      pub took : Took x source next.Wait
      pub now : r ≡ (answered took.reading x.take.groups took.heard).state
      pub number : y.fetches.ask ≡ x.fetches.ask

    -- its next round has begun, by a number that was drawn in the event
    pub record RenewedFrom (y : Taking) (source : Source) (r : ReadingState) : Type 0 where
      pub took : Took x source next.Again
      pub now : r ≡ (on_confirmed (answered took.reading x.take.groups took.heard).state (x.take.ask + 1)).state
      pub confirmed : (on_confirmed (answered took.reading x.take.groups took.heard).state (x.take.ask + 1)).next ≡ next.Ask
      pub number : start < y.fetches.ask

    -- so has the first round of another segment
    pub record BeginsFrom (y : Taking) (source : Source) (r : ReadingState) : Type 0 where
      pub group : Group
      pub named : Named source.seg.group group
      pub ask : ℕ
      pub now : r ≡ reading_start (target_of source) group ask
      pub number : start < y.fetches.ask

    -- where any server is asked
    abbrev pub ReadFrom : Taking → Source → ReadingState → Type 0
    ReadFrom y source r =
        (r.round.servers ≡ []) ⊎ (KeptFrom y source r ⊎ (WaitsFrom y source r ⊎ (RenewedFrom y source r ⊎ BeginsFrom y source r)))

    abbrev pub ReadingFrom : Taking → Source → Option ReadingState → Type 0
    ReadingFrom y source None = Unit {0}
    ReadingFrom y source (Some r) = ReadFrom y source r

    -- the takeover of the same epoch
    pub record SlotFrom (y : Taking) (p : Present) : Type 0 where
      pub epoch : y.epoch ≡ x.epoch
      pub reads : ReadingFrom y p.source p.reading

  abbrev pub PresentFrom : ℕ → SlotPhase → Taking → Option Present → Type 0
  PresentFrom start before y None = Unit {0}
  PresentFrom start before y (Some p) = (x : Taking) × (before ≡ phase.Taking x) × SlotFrom start x y p

  abbrev pub TakingFrom : ℕ → SlotPhase → Taking → Type 0
  TakingFrom start before y = PresentFrom start before y y.take.present

  -- what is lost: what was read took what came to its number, by which its second round ended so
  pub record LostFrom (before : SlotPhase) (name : SegName) : Type 0 where
    pub taking : Taking
    pub takes : before ≡ phase.Taking taking
    pub source : Source
    pub named : name ≡ source.seg.name
    pub took : Took taking source next.Again
    pub lost : (on_confirmed (answered took.reading taking.take.groups took.heard).state (taking.take.ask + 1)).next ≡ next.Lost

  -- ---- an input

  module _ (start : ℕ) (before : SlotPhase) (x : Taking) (q : Questions) (given : In) (up : start ≤ q.last)
      (brought : (h : Heard) → heard_in given ≡ Some h → (h.own ≡ x.fetches.own) × Came x.fetches.ask h.server h.told)
      (first : IsCalm given ⊎ (before ≡ phase.Taking x)) where
    not_calm : (i : In) (h : Heard) → heard_in i ≡ Some h → IsCalm i → ⊥
    not_calm (input.Report from held end) h gives calm = calm
    not_calm (input.Got own server generation fragment) h gives calm = calm
    not_calm (input.Missing own server generation) h gives calm = calm
    not_calm (input.Maps groups) h gives calm = absurd cc
    not_calm input.Tick h gives calm = absurd cc

    -- what is heard comes first of all in its event
    is_first : (h : Heard) → heard_in given ≡ Some h → before ≡ phase.Taking x
    is_first h gives = ⊎_elim (λ calm. absurd (not_calm given h gives calm)) (λ fact. fact) first

    abbrev took_of : (source : Source) (n : Next) → Takes Named x.take given source n → Took x source n
    took_of source n t =
        let b = brought t.heard t.gives in
        record { reading = t.reading; was = t.was; heard = t.heard; own = b.0; came = b.1; goes = t.goes }

    pub lost_of : (name : SegName) → IsLost Named x.take given name → LostFrom before name
    lost_of name l = record {
      taking = x;
      takes = is_first l.takes.heard l.takes.gives;
      source = l.source;
      named = l.named;
      took = took_of l.source next.Again l.takes;
      lost = l.confirmed;
    }

    module _ (outs : List Out) (last : ℕ) (y : Taking) (fine : TakingFine Named q.last x) (turn : Turn Named x.take given y.take outs)
        (said : TakingSaid (record x { take = y.take }) q outs last y) (from : TakingFrom start before x) where
      now_fine : TakingFine Named last y
      now_fine = still_fine Named x q given outs last y fine turn said

      same : (ask : ℕ) → x.fetches.own ≡ ask → y.fetches.own ≡ ask → y.fetches.ask ≡ x.fetches.ask
      same ask was now = same_number Named x q given outs last y fine turn said ask was now

      later : y.fetches.own ≡ x.take.ask + 1 → start < y.fetches.ask
      later now = (let a = later_number Named x q given outs last y fine turn said now in omega arith)

      -- what was so of a reading that stays is so still
      kept_on : (b : Taking) (source : Source) (r : ReadingState) → y.fetches.ask ≡ x.fetches.ask → ReadFrom start b x source r → ReadFrom start b y source r
      kept_on b source r fact (inl none) = inl none
      kept_on b source r fact (inr (inl k)) = inr (inl (record { was = k.was; number = fact ∙ k.number }))
      kept_on b source r fact (inr (inr (inl w))) = inr (inr (inl (record { took = w.took; now = w.now; number = fact ∙ w.number })))
      kept_on b source r fact (inr (inr (inr (inl w)))) =
          inr (inr (inr (inl (record { took = w.took; now = w.now; confirmed = w.confirmed; number = (let a = w.number in omega arith) }))))
      kept_on b source r fact (inr (inr (inr (inr w)))) =
          inr (inr (inr (inr (record { group = w.group; named = w.named; ask = w.ask; now = w.now; number = (let a = w.number in omega arith) }))))

      -- where the question of a reading is out
      module _ (source : Source) (r : ReadingState) (out : y.fetches.own ≡ r.ask) where
        from_kept : (b : Taking) → before ≡ phase.Taking b → Kept Named x.take y.take source r
            → SlotFrom start b x (record { source = source; reading = Some r })
            → ReadFrom start b y source r
        from_kept b fact k was = ⊎_elim (λ none. inl none) (λ it. kept_on b source r (same r.ask it out) was.reads)
            (subst (PresentOut x.fetches) k.was fine.is_out)

        from_waits : before ≡ phase.Taking x → Waits Named x.take given y.take source r → ReadFrom start x y source r
        from_waits fact w =
            let h = w.takes.heard in
            let ask : r.ask ≡ w.takes.reading.ask =
            ap (λ (z : ReadingState). z.ask) w.now ∙ ask-reading_take w.takes.reading x.take.groups h.own h.server h.told in
            let servers : r.round.servers ≡ w.takes.reading.round.servers =
            ap (λ (z : ReadingState). z.round.servers) w.now ∙ servers-reading_take w.takes.reading x.take.groups h.own h.server h.told in
            ⊎_elim (λ none. inl (servers ∙ none))
            (λ it. inr (inr (inl (record {
              took = took_of source next.Wait w.takes;
              now = w.now;
              number = same w.takes.reading.ask it (out ∙ ask);
            }))))
            (subst (PresentOut x.fetches) w.takes.was fine.is_out)

        from_renewed : Renewed Named x.take given y.take outs source r → ReadFrom start x y source r
        from_renewed w = inr (inr (inr (inl (record {
          took = took_of source next.Again w.takes;
          now = w.now;
          confirmed = w.confirmed;
          number = later (out ∙ w.fresh.own);
        }))))

        from_begins : (b : Taking) → Begins Named x.take y.take outs source r → ReadFrom start b y source r
        from_begins b w = inr (inr (inr (inr (record {
          group = w.group;
          named = w.named;
          ask = x.take.ask + 1;
          now = w.now;
          number = later (out ∙ w.fresh.own);
        }))))

      -- ---- what is read now

      -- the takeover that there was at the beginning of the event, in this epoch
      since_of : (p : Present) → CalmSo Named x.take given (Some p) → (b : Taking) × (before ≡ phase.Taking b) × (y.epoch ≡ b.epoch)
      since_of p calm = ⊎_elim earlier (λ fact. (x, fact, said.epoch)) first
        where
          earlier : IsCalm given → (b : Taking) × (before ≡ phase.Taking b) × (y.epoch ≡ b.epoch)
          earlier it =
              let k = calm it in
              let f = subst (PresentFrom start before x) k.1 from in
              (f.0, f.1, said.epoch ∙ f.2.epoch)

      read_now : (source : Source) (r : ReadingState) → IsOut y.fetches r → CalmSo Named x.take given (at_source source r)
          → Became Named x.take given y.take outs source r → PresentFrom start before y (at_source source r)
      read_now source r (inl none) calm became =
          let s = since_of (record { source = source; reading = Some r }) calm in (s.0, s.1, record { epoch = s.2; reads = inl none })
      read_now source r (inr out) calm (inl k) =
          let f = subst (PresentFrom start before x) k.was from in
          (f.0, f.1, record { epoch = said.epoch ∙ f.2.epoch; reads = from_kept source r out f.0 f.1 k f.2 })
      read_now source r (inr out) calm (inr (inl w)) =
          let fact = is_first w.takes.heard w.takes.gives in (x, fact, record { epoch = said.epoch; reads = from_waits source r out fact w })
      read_now source r (inr out) calm (inr (inr (inl w))) =
          let fact = is_first w.takes.heard w.takes.gives in (x, fact, record { epoch = said.epoch; reads = from_renewed source r out w })
      read_now source r (inr out) calm (inr (inr (inr w))) =
          let s = since_of (record { source = source; reading = Some r }) calm in
          (s.0, s.1, record { epoch = s.2; reads = from_begins source r out s.0 w })

      pub from_now : TakingFrom start before y
      from_now = by y.take.present now_fine.is_out turn.calm turn.reads
        where
          by : (o : Option Present) → PresentOut y.fetches o → CalmSo Named x.take given o → PresentBecame Named x.take given y.take outs o
              → PresentFrom start before y o
          by None out calm became = tt
          by (Some p) out calm became = by_reading p.reading out became
            where
              by_reading : (r : Option ReadingState) → ReadingOut y.fetches r → ReadingBecame Named x.take given y.take outs p.source r
                  → PresentFrom start before y (Some (record { source = p.source; reading = r }))
              by_reading None out became = (let s = since_of p calm in (s.0, s.1, record { epoch = s.2; reads = tt }))
              by_reading (Some r) out became = read_now p.source r out calm became
