-- Reading back: what an opening does between the pick and its chain keeps what is seen of it.
use Rattle.std.proofs.Common.{◌≡◌, ℕ, suc, ◌+◌, ◌-◌, ◌<◌, ◌≤◌, true, false, nat_lt, List, [], ◌∷◌, ◌++◌, map, Option, Some, None, length, refl, sym, ap, subst, ◌∙◌, inl, inr, arith, ◌⊎◌, ◌==◌, ◌&&◌, ◌||◌, cond, Bool}
use Rattle.std.specs.Prelude.{reverse}
use Rattle.std.specs.List.{AllByRecursion}
use Rattle.std.proofs.lemmas.Bool.{or_parts, ltb-false, ltb-true}
use Rattle.std.proofs.lemmas.List.{reverse-append}
use Rattle.xfs_base.specs.declared.segment.End.{End}
use Rattle.xfs_base.specs.declared.segment.LogId.{LogId}
use Rattle.xfs_base.specs.declared.segment.SegName.{SegName}
use Rattle.xfs_base.proofs.Booleans.{by_test, and_first}
use Rattle.xfs_base.specs.Segments.{names_none}
use Rattle.segment_format.specs.declared.segment.Segment.{Segment}
use Rattle.segment_format.specs.ReadingItems.{answer_of}
use Rattle.group_map.specs.declared.group.Group.{Group}
use Rattle.group_map.specs.GroupMapState.{GroupMapState}
use Rattle.group_map.specs.Groups.{group_of}
use Rattle.segment_reading.specs.declared.reading.Next.{Next}
use Rattle.segment_reading.specs.declared.reading.Next.TheVariants as next
use Rattle.segment_reading.specs.declared.reading.Stage as rounds
use Rattle.segment_reading.specs.declared.reading.Stage.TheVariants.{Asking, Between, Doubted}
use Rattle.segment_reading.specs.declared.reading.Stage.TheVariants as done
use Rattle.segment_reading.specs.declared.target.Target.{Target}
use Rattle.segment_reading.specs.Reading.{ReadingState, Step, reading_unanswered}
use Rattle.segment_reading.specs.Reading as reading
use Rattle.stripe_code.specs.declared.round.RoundState.{RoundState}
use Rattle.stripe_code.specs.declared.round.RoundState.TheVariants as round
use Rattle.stripe_code.specs.declared.round.Told.{Told}
use Rattle.stripe_code.specs.Round.{round_take, state_of}
use Rattle.log_scan.specs.declared.opening.Opening.{Opening}
use Rattle.log_scan.specs.declared.listing.Listing.{Listing}
use Rattle.log_scan.specs.declared.output.Out.{Out}
use Rattle.log_scan.specs.declared.output.Out.TheVariants.{Hello, Fetch, Lost}
use Rattle.log_scan.specs.declared.stage.Backward.{Backward}
use Rattle.log_scan.specs.declared.stage.Stage.{Stage}
use Rattle.log_scan.specs.declared.stage.Stage.TheVariants.{Asks, Reads, Over}
use Rattle.log_scan.specs.Pick.{has_list, known_group}
use Rattle.log_scan.specs.Transition.{Done, goes, stays, opening_ask_anew, asks_anew, name_at, target_at, is_bottom, end_below, backward_with, backward_told, backward_fetch, begins_in, opening_begin_round, opening_follow, opening_go_on, fences, prior_at}
use Rattle.log_scan.proofs.Targets.{ReadsName, answered_keeps, confirmed_keeps}
use Rattle.log_protocol.specs.LogLaws.{Reached}
use Rattle.log_protocol.specs.State.{State}
use Rattle.log_protocol.specs.Tables.{In}
use Rattle.log_protocol.proofs.Induction.{always}
use Rattle.log_tie.specs.Setting.{Setting, Stripe, name_of, point}
use Rattle.log_tie.specs.Seen.{Page, Book, Fixed}
use Rattle.log_tie.specs.Openings.{Chained, AllFrom}
use Rattle.log_tie.specs.Scans.{Asked, asked_by, Gathering, LooksFor, ReadingShown, StageShown, ScanShown, OutShown, Scanned}
use Rattle.log_tie.specs.Rounds.{IsSpelled, RoundShown}
use Rattle.log_tie.proofs.Names.{coded, point_some}
use Rattle.log_tie.proofs.Rounds.{ToldSeen, answered_shown, new_shown}

-- ---- a step of the reading

-- where it asks the servers anew, its question is no older than this one
abbrev AsksLater : ℕ → ℕ → Next → Type 0
AsksLater ask drawn_ask next.Wait = Unit {0}
AsksLater ask drawn_ask next.Ask = ask ≤ drawn_ask
AsksLater ask drawn_ask next.Again = Unit {0}
AsksLater ask drawn_ask (next.Read s) = Unit {0}
AsksLater ask drawn_ask next.Lost = Unit {0}

-- it looks for the same segment, and reads that
record StepFits (r : ReadingState) (ask : ℕ) (step : Step) : Type 0 where
  pub same : step.state.target ≡ r.target
  pub name : ReadsName r.target.seg.name step.next
  pub later : AsksLater ask step.state.ask step.next

read_later : (r : ReadingState) (ask : ℕ) (found : Option Segment) → AsksLater ask (reading.reading_reads r found).state.ask (reading.reading_reads r found).next
read_later r ask None = tt
read_later r ask (Some s) = tt

judged_later : (r : ReadingState) (groups : GroupMapState) (ask : ℕ) (st : RoundState)
    → AsksLater ask (reading.reading_judge r groups st).state.ask (reading.reading_judge r groups st).next
judged_later r groups ask (round.Read bytes) = read_later r ask (reading.segment_found r.target groups (answer_of bytes))
judged_later r groups ask (round.Short pairs) = tt
judged_later r groups ask round.Waiting = tt

answered_later : (r : ReadingState) (groups : GroupMapState) (mine ask server : ℕ) (t : Told)
    → AsksLater mine (reading.reading_take r groups ask server t).state.ask (reading.reading_take r groups ask server t).next
unfolding reading.reading_take
answered_later r groups mine ask server t =
    by_test (λ (step : Step). AsksLater mine step.state.ask step.next) (reading.counts r ask server t)
    (reading.reading_judge (record r { round = round_take r.round server t }) groups (state_of (round_take r.round server t))) (record { state = r; next = next.Wait })
    (λ e. judged_later (record r { round = round_take r.round server t }) groups mine (state_of (round_take r.round server t))) (λ e. tt)

answered_fits : (r : ReadingState) (groups : GroupMapState) (mine ask server : ℕ) (t : Told) → StepFits r mine (reading.reading_take r groups ask server t)
answered_fits r groups mine ask server t = let k =
    answered_keeps r groups ask server t in record { same = k.same; name = k.name; later = answered_later r groups mine ask server t }

confirmed_later : (r : ReadingState) (ask : ℕ) (stage : rounds.Stage)
    → AsksLater ask (reading.goes_on r (ask + 1) stage).state.ask (reading.goes_on r (ask + 1) stage).next
confirmed_later r ask Asking = tt
confirmed_later r ask Between = omega arith
confirmed_later r ask Doubted = tt
confirmed_later r ask done.Over = tt

confirmed_fits : (r : ReadingState) (ask : ℕ) → StepFits r ask (reading.on_confirmed r (ask + 1))
unfolding reading.on_confirmed
confirmed_fits r ask = let k = confirmed_keeps r (ask + 1) in record { same = k.same; name = k.name; later = confirmed_later r ask r.stage }

-- the reader's own question reads nothing
confirmed_none : (r : ReadingState) (ask : ℕ) (stage : rounds.Stage) (t : Segment) → (reading.goes_on r ask stage).next ≡ next.Read t → ⊥
confirmed_none r ask Asking t e = cc
confirmed_none r ask Between t e = cc
confirmed_none r ask Doubted t e = cc
confirmed_none r ask done.Over t e = cc

confirmed_reads_none : (r : ReadingState) (ask : ℕ) (t : Segment) → (reading.on_confirmed r ask).next ≡ next.Read t → ⊥
unfolding reading.on_confirmed
confirmed_reads_none r ask t e = confirmed_none r ask r.stage t e

module _ (g : Setting) (v : State) (book : ℕ → Segment) (hellos : List Asked) where
  abbrev pub Sees : Done → Type 0
  Sees d = Scanned g v book hellos d.state d.outs

  -- what holds of an opening wherever it stands
  pub record Framed (o : Opening) : Type 0 where
    pub log : o.log ≡ g.log
    pub inc : o.inc ≡ v.incarnation
    pub horizon : o.low ≤ v.low
    pub asked : (a : Asked) → In a hellos → a.inc ≡ v.incarnation → a.ask ≤ o.ask

  -- ---- what is said

  -- nothing that asks the registry or tells a chain
  pub sees_quiet : (o : Opening) (stage : Stage) (outs : List Out) → Framed o → asked_by v.incarnation v.low outs hellos ≡ hellos
      → AllByRecursion (OutShown g v book o) outs → StageShown g v book hellos o stage → Sees (goes o stage outs)
  sees_quiet o stage outs f same gives h = record {
    shown = subst (λ hs. ScanShown g v book hs (record { opening = o; stage = stage })) (sym same)
        (record { log = f.log; inc = f.inc; horizon = f.horizon; asked = f.asked; stage = h });
    gives = gives;
  }

  pub sees_still : (o : Opening) (stage : Stage) → Framed o → StageShown g v book hellos o stage → Sees (stays o stage)
  sees_still o stage f h = record { shown = record { log = f.log; inc = f.inc; horizon = f.horizon; asked = f.asked; stage = h }; gives = tt }

  asked_fetches : (name : SegName) (ask : ℕ) (servers : List ℕ) → asked_by v.incarnation v.low (map (λ server. Fetch server name ask) servers) hellos ≡ hellos
  asked_fetches name ask [] = refl
  asked_fetches name ask (s ∷ ss) = asked_fetches name ask ss

  gives_fetches : (o : Opening) (name : SegName) (ask : ℕ) (servers : List ℕ)
      → AllByRecursion (OutShown g v book o) (map (λ server. Fetch server name ask) servers)
  gives_fetches o name ask [] = tt
  gives_fetches o name ask (s ∷ ss) = (tt, gives_fetches o name ask ss)

  asked_fences : (servers : List ℕ) → asked_by v.incarnation v.low (fences servers) hellos ≡ hellos
  asked_fences [] = refl
  asked_fences (s ∷ ss) = asked_fences ss

  gives_fences : (o : Opening) (servers : List ℕ) → AllByRecursion (OutShown g v book o) (fences servers)
  gives_fences o [] = tt
  gives_fences o (s ∷ ss) = (tt, gives_fences o ss)

  pub sees_fences : (o : Opening) (stage : Stage) (servers : List ℕ) → Framed o → StageShown g v book hellos o stage → Sees (goes o stage (fences servers))
  sees_fences o stage servers f h = sees_quiet o stage (fences servers) f (asked_fences servers) (gives_fences o servers) h

  pub sees_fetches : (o : Opening) (b : Backward) (r : ReadingState) → Framed o → StageShown g v book hellos o (Reads b (Some r))
      → Sees (goes o (Reads b (Some r)) (backward_fetch r))
  sees_fetches o b r f h =
      sees_quiet o (Reads b (Some r)) (backward_fetch r) f (asked_fetches r.target.seg.name r.ask (reading_unanswered r)) (gives_fetches o r.target.seg.name r.ask (reading_unanswered r)) h

  -- a question to the registry, of this number
  abbrev pub question : ℕ → Asked
  question ask = record { inc = v.incarnation; ask = ask; low = v.low }

  pub sees_anew : (o : Opening) (stage : Stage) → Framed o → StageShown g v book (question (o.ask + 1) ∷ hellos) (opening_ask_anew o) stage → Sees (asks_anew o stage)
  sees_anew o stage f h = record { shown = record { log = f.log; inc = f.inc; horizon = f.horizon; asked = asked; stage = h }; gives = (tt, tt) }
    where
      asked : (a : Asked) → In a (question (o.ask + 1) ∷ hellos) → a.inc ≡ v.incarnation → a.ask ≤ o.ask + 1
      asked a (inl e) boot = let k = ap (λ (z : Asked). z.ask) e in omega arith
      asked a (inr fact) boot = let k = f.asked a fact boot in omega arith

  pub sees_again : (o : Opening) (stage : Stage) → Framed o → StageShown g v book (question o.ask ∷ hellos) o stage → Sees (goes o stage (Hello o.ask ∷ []))
  sees_again o stage f h = record { shown = record { log = f.log; inc = f.inc; horizon = f.horizon; asked = asked; stage = h }; gives = (tt, tt) }
    where
      asked : (a : Asked) → In a (question o.ask ∷ hellos) → a.inc ≡ v.incarnation → a.ask ≤ o.ask
      asked a (inl e) boot = let k = ap (λ (z : Asked). z.ask) e in omega arith
      asked a (inr fact) boot = f.asked a fact boot

  framed_drawn : (o : Opening) (ask : ℕ) → o.ask ≤ ask → Framed o → Framed (record o { ask = ask })
  framed_drawn o ask more f = record { log = f.log; inc = f.inc; horizon = f.horizon; asked = λ a fact boot. (let k = f.asked a fact boot in omega arith) }

  -- a reading is seen alike after a question
  asked_reading : (o : Opening) (ask : ℕ) (b : Backward) → ReadingShown g v book o b → ReadingShown g v book (record o { ask = ask }) b
  asked_reading o ask b h =
      record {
        phase = h.phase;
        mapped = record { map = h.mapped.map; taken = h.mapped.taken; whole = h.mapped.whole; known = h.mapped.known };
        base = h.base;
        begun = h.begun;
        opening = h.opening;
        low = h.low;
        past = h.past;
        from = h.from;
        chained = h.chained;
        seq = h.seq;
        grouped = h.grouped;
      }

  -- all lists are in: the registry is asked
  pub asks_new : (o : Opening) (lists : List Listing) (bound : ℕ) → Framed o → Gathering g v book o bound lists
      → ((u : ℕ) → 0 < u → u < suc g.servers → has_list u lists ≡ true) → bound ≤ v.low → v.begin_low ≤ bound → Sees (asks_anew o (Asks lists))
  asks_new o lists bound f k every past begun = sees_anew o (Asks lists) f (record {
    bound = bound;
    gathering = record {
      phase = k.phase;
      phantom = k.phantom;
      mapped = record { map = k.mapped.map; taken = k.mapped.taken; whole = k.mapped.whole; known = k.mapped.known };
      kept = k.kept;
    };
    every = every;
    past = past;
    begun = begun;
    no_older = after;
  })
    where
      after : (a : Asked) → In a (question (o.ask + 1) ∷ hellos) → a.inc ≡ v.incarnation → a.ask ≡ o.ask + 1 → bound ≤ a.low
      after a (inl e) boot same = let k = ap (λ (z : Asked). z.low) e in omega arith
      after a (inr fact) boot same = let k = f.asked a fact boot in omega arith

  -- ---- reading back

  -- where the reading ends
  bottom_told : (o : Opening) (b : Backward) → ReadingShown g v book o b → is_bottom o.low b.next ≡ true
      → (point g b.next.seq b.next.pass ≡ 0) ⊎ (b.start.seq < v.read_low + length (reverse b.chain))
  bottom_told o b h t = by (nat_lt b.next.seq o.low) refl t
    where
      by : (p : Bool) → nat_lt b.next.seq o.low ≡ p → (p || names_none (prior_at b.next)) ≡ true
          → (point g b.next.seq b.next.pass ≡ 0) ⊎ (b.start.seq < v.read_low + length (reverse b.chain))
      by true e k = inr (let a = ltb-true b.next.seq o.low e in let c = h.seq in let d = h.low in omega arith)
      by false e k =
          inl (ap (λ z. cond z 0 (g.code b.next.seq b.next.pass.inc b.next.pass.att))
          (and_first (b.next.pass.inc == 0) ((b.next.pass.att == 0) && (b.next.group == 0)) k))

  pub chain_told : (o : Opening) (b : Backward) → Framed o → ReadingShown g v book o b → is_bottom o.low b.next ≡ true → Sees (goes o Over (backward_told b ∷ []))
  chain_told o b f h t = record {
    shown = record { log = f.log; inc = f.inc; horizon = f.horizon; asked = f.asked; stage = h.phase };
    gives = (
      (
        h.mapped.map,
        h.mapped.taken,
        h.low,
        record {
          phase = h.phase;
          map = h.mapped.whole.seen.whole;
          known = h.mapped.known;
          base = h.base;
          grouped = h.begun;
          read = record {
            opening = h.opening;
            lowest = v.pick_low;
            picked = omega arith;
            cut = h.past;
            from = h.from;
            next = point g b.next.seq b.next.pass;
            chained = h.chained;
            bottom = bottom_told o b h t;
          };
        },
      ),
      tt,
    );
  }

  begins_shown : (o : Opening) (b : Backward) (group : Option Group) → known_group o.groups b.next.group ≡ group → Framed o → ReadingShown g v book o b
      → is_bottom o.low b.next ≡ false → Sees (begins_in o b group)
  begins_shown o b None of f h more = sees_anew o (Reads b None) f (asked_reading o (o.ask + 1) b h, more, tt)
  begins_shown o b (Some group) of f h more =
      let known : group_of h.mapped.map b.next.group ≡ Some group = ap (λ (gs : Option GroupMapState). known_group gs b.next.group) (sym h.mapped.taken) ∙ of in
      let named = h.mapped.whole.named b.next.group group known in
      sees_fetches (opening_ask_anew o) b (reading.reading_start (target_at o.log b.next) group (o.ask + 1)) (framed_drawn o (o.ask + 1) (omega arith) f) (
        asked_reading o (o.ask + 1) b h,
        more,
        (
          ap (λ (l : LogId). target_at l b.next) f.log,
          new_shown g book v.booked b.next (length group.members) group.parity (reading.servers_of group) (h.mapped.whole.cut b.next.group group known)
              (ap (λ (z : Stripe). length z.members) (sym named)) (ap (λ (z : Stripe). z.parity) (sym named)),
        ),
      )

  pub round_shown : (o : Opening) (b : Backward) → Framed o → ReadingShown g v book o b → is_bottom o.low b.next ≡ false → Sees (opening_begin_round o b)
  unfolding opening_begin_round
  round_shown o b f h more = begins_shown o b (known_group o.groups b.next.group) refl f h more

  pub follows_shown : (o : Opening) (b : Backward) → Framed o → ReadingShown g v book o b → Sees (opening_follow o b)
  unfolding opening_follow
  follows_shown o b f h =
      by_test Sees (is_bottom o.low b.next) (goes o Over (backward_told b ∷ [])) (opening_begin_round o b) (λ t. chain_told o b f h t) (λ t. round_shown o b f h t)

  module _ (fixed : Fixed g v) (paged : Book g v book) (reached : Reached v) (spelled : IsSpelled g book v.booked) where
    -- one more segment is read: it is the booked one that the end names
    segment_read : (o : Opening) (b : Backward) (s : Segment) (y : ℕ) → ReadingShown g v book o b → is_bottom o.low b.next ≡ false
        → s.name ≡ name_at g.log b.next → v.booked y ≡ 1 → s ≡ book y → ReadingShown g v book o (backward_with b s)
    segment_read o b s y h more named booked fact = record {
      phase = h.phase;
      mapped = h.mapped;
      base = h.base;
      begun = h.begun;
      opening = h.opening;
      low = h.low;
      past = h.past;
      from = subst (AllFrom v.pick_low) (sym turned) (above, h.from);
      chained = subst (Chained g v book b.start.seq (point g (s.name.seq - 1) s.prior.pass)) (sym turned)
          (y, booked, fact, after, there, subst (λ z. Chained g v book b.start.seq z (reverse b.chain)) at_y h.chained);
      seq = (let a = h.seq in let c = seq in let d = some_seq in
          let e : length (reverse (b.chain ++ s ∷ [])) ≡ suc (length (reverse b.chain)) = ap length turned in omega arith);
      grouped = λ z of named.
          (spelled.grouped y z booked of (named ∙ ap (λ (t : Segment). name_at g.log (end_below t)) fact) ∙ ap (λ (t : Segment). t.prior.group) (sym fact));
    }
      where
        turned : reverse (b.chain ++ s ∷ []) ≡ s ∷ reverse b.chain
        turned = reverse-append b.chain (s ∷ [])

        page : Page g y (book y) (v.text_of y) (v.member_count y) (v.member_server y) (v.member_generation y) (v.prior_of y) (v.content_of y)
        page = paged y booked

        its_name : s.name ≡ name_of g y
        its_name = ap (λ (z : Segment). z.name) fact ∙ page.named

        seq : s.name.seq ≡ b.next.seq
        seq = ap (λ (n : SegName). n.seq) named

        seq_there : g.seq_of y ≡ b.next.seq
        seq_there = sym (ap (λ (n : SegName). n.seq) its_name) ∙ seq

        some_seq : 0 < b.next.seq
        some_seq = let a = (always v reached).shelf.priors.seq_some y booked in let c : v.seq_of y ≡ g.seq_of y = ap (λ k. k y) fixed.seq_of in let d =
            seq_there in omega arith

        some_inc : 0 < b.next.pass.inc
        some_inc = subst (λ (n : SegName). 0 < n.pass.inc) (ap (λ (z : Segment). z.name) (sym fact) ∙ named) page.boot

        at_y : point g b.next.seq b.next.pass ≡ y
        at_y = point_some g b.next.seq b.next.pass some_inc ∙ (ap (λ (n : SegName). g.code n.seq n.pass.inc n.pass.att) (sym named ∙ its_name) ∙ coded g y)

        after : v.prior_of y ≡ point g (s.name.seq - 1) s.prior.pass
        after = page.follows ∙ ap (λ (z : Segment). point g (z.name.seq - 1) z.prior.pass) (sym fact)

        there : g.seq_of y + length (reverse b.chain) ≡ b.start.seq
        there = let a = h.seq in let c = seq_there in omega arith

        above : v.pick_low ≤ s.name.seq
        above = let a = h.low in let c = h.past in let d = seq in let e =
            ltb-false b.next.seq o.low (or_parts (nat_lt b.next.seq o.low) _ more).0 in omega arith

    goes_shown : (o : Opening) (b : Backward) (r : ReadingState) (n : Next) → Framed o → ReadingShown g v book o b → is_bottom o.low b.next ≡ false
        → r.target ≡ target_at g.log b.next → RoundShown g book v.booked b.next r.round → ReadsName r.target.seg.name n → AsksLater o.ask r.ask n
        → ((t : Segment) → n ≡ next.Read t → (y : ℕ) × (v.booked y ≡ 1) × (t ≡ book y)) → Sees (opening_go_on o b r n)
    unfolding opening_go_on
    goes_shown o b r next.Wait f h more looks shown name later owed = sees_still o (Reads b (Some r)) f (h, more, (looks, shown))
    goes_shown o b r next.Ask f h more looks shown name later owed =
        sees_fetches (record o { ask = r.ask }) b r (framed_drawn o r.ask later f) (asked_reading o r.ask b h, more, (looks, shown))
    goes_shown o b r next.Again f h more looks shown name later owed = sees_anew o (Reads b (Some r)) f (asked_reading o (o.ask + 1) b h, more, (looks, shown))
    goes_shown o b r (next.Read s) f h more looks shown name later owed = let y =
        owed s refl in follows_shown o (backward_with b s) f (segment_read o b s y.0 h more (name ∙ ap (λ (t : Target). t.seg.name) looks) y.1 y.2)
    goes_shown o b r next.Lost f h more looks shown name later owed = sees_quiet o Over (Lost r.target.seg.name ∷ []) f refl (tt, tt) h.phase

    -- a step of the reading, of which what is read is booked
    step_shown : (o : Opening) (b : Backward) (r : ReadingState) (step : Step) → StepFits r o.ask step → Framed o → ReadingShown g v book o b
        → is_bottom o.low b.next ≡ false → r.target ≡ target_at g.log b.next → RoundShown g book v.booked b.next step.state.round
        → ((t : Segment) → step.next ≡ next.Read t → (y : ℕ) × (v.booked y ≡ 1) × (t ≡ book y)) → Sees (opening_go_on o b step.state step.next)
    step_shown o b r step fits f h more looks shown owed =
        goes_shown o b step.state step.next f h more (fits.same ∙ looks) shown
        (subst (λ (t : Target). ReadsName t.seg.name step.next) (sym fits.same) fits.name) fits.later owed

    -- a server answers
    pub answer_seen : (o : Opening) (b : Backward) (r : ReadingState) (groups : GroupMapState) (ask server : ℕ) (t : Told) → Framed o
        → ReadingShown g v book o b → is_bottom o.low b.next ≡ false → LooksFor g book v.booked b.next (Some r) → ToldSeen g v book paged spelled b.next t
        → Sees (opening_go_on o b (reading.reading_take r groups ask server t).state (reading.reading_take r groups ask server t).next)
    answer_seen o b r groups ask server t f h more looks seen =
        let a = answered_shown g v book paged spelled b.next r groups ask server t looks.1 h.grouped (ap (λ (t : Target). t.seg.name) looks.0) seen in
        step_shown o b r (reading.reading_take r groups ask server t) (answered_fits r groups o.ask ask server t) f h more looks.0 a.shown a.reads

    confirmed_round : (e : End) (r : ReadingState) (ask : ℕ) (stage : rounds.Stage) → RoundShown g book v.booked e r.round
        → RoundShown g book v.booked e (reading.goes_on r ask stage).state.round
    confirmed_round e r ask Asking shown = shown
    confirmed_round e r ask Between shown = new_shown g book v.booked e r.round.n r.round.parity r.round.servers shown.is_round.cut shown.count shown.parity
    confirmed_round e r ask Doubted shown = shown
    confirmed_round e r ask done.Over shown = shown

    confirmed_shown : (e : End) (r : ReadingState) (ask : ℕ) → RoundShown g book v.booked e r.round
        → RoundShown g book v.booked e (reading.on_confirmed r ask).state.round
    unfolding reading.on_confirmed
    confirmed_shown e r ask shown = confirmed_round e r ask r.stage shown

    -- the reader's own question is answered
    pub confirm_seen : (o : Opening) (b : Backward) (r : ReadingState) → Framed o → ReadingShown g v book o b → is_bottom o.low b.next ≡ false
        → LooksFor g book v.booked b.next (Some r)
        → Sees (opening_go_on o b (reading.on_confirmed r (o.ask + 1)).state (reading.on_confirmed r (o.ask + 1)).next)
    confirm_seen o b r f h more looks =
        step_shown o b r (reading.on_confirmed r (o.ask + 1)) (confirmed_fits r o.ask) f h more looks.0 (confirmed_shown b.next r (o.ask + 1) looks.1)
        (λ t e. absurd (confirmed_reads_none r (o.ask + 1) t e))
