-- What an opening does at an input keeps what is known of it, and where it says that a segment is lost, that is earned.
use Rattle.std.proofs.Common.{◌≡◌, ℕ, ◌+◌, ◌<◌, ◌≤◌, ◌⊎◌, ◌==◌, ◌&&◌, true, false, nat_lt, nat_le, map, List, [], ◌∷◌, Option, Some, None, length, refl, sym, ap, subst, ◌∙◌, inl, inr, arith}
use Rattle.std.proofs.lemmas.Bool.{or_parts, eqb-true, ltb-true}
use Rattle.std.proofs.lemmas.Bool.Decides.{nat_tests}
use Rattle.xfs_base.specs.declared.news.SlotNews.{SlotNews}
use Rattle.xfs_base.specs.declared.segment.End.{End}
use Rattle.xfs_base.specs.declared.segment.SegName.{SegName}
use Rattle.xfs_base.specs.declared.segment.SegRef.{SegRef}
use Rattle.xfs_base.proofs.Booleans.{by_test}
use Rattle.xfs_base.specs.Segments.{names_none}
use Rattle.segment_format.specs.declared.segment.Segment.{Segment}
use Rattle.segment_format.specs.ReadingItems.{answer_of}
use Rattle.group_map.specs.declared.group.Group.{Group}
use Rattle.group_map.specs.GroupMapState.{GroupMapState}
use Rattle.segment_reading.specs.declared.reading.Next.TheVariants as next
use Rattle.segment_reading.specs.declared.reading.Stage as rounds
use Rattle.segment_reading.specs.declared.reading.Stage.TheVariants as stand
use Rattle.segment_reading.specs.declared.target.Target.{Target}
use Rattle.segment_reading.specs.Lost.{missing_twice, are_gone}
use Rattle.segment_reading.specs.Reading.{ReadingState, Step, counts, name_fits, is_asking, reading_unanswered}
use Rattle.segment_reading.specs.Reading as reading
use Rattle.stripe_code.specs.declared.round.RoundState.{RoundState}
use Rattle.stripe_code.specs.declared.round.RoundState.TheVariants as round
use Rattle.stripe_code.specs.declared.round.Told.{Told}
use Rattle.stripe_code.specs.Round.{RoundSoFar, asks, round_take, state_of, told_fits}
use Rattle.log_scan.specs.declared.listing.Listing.{Listing}
use Rattle.log_scan.specs.declared.opening.Opening.{Opening as OpeningState}
use Rattle.log_scan.specs.declared.output.Out.{Out}
use Rattle.log_scan.specs.declared.output.Out.TheVariants.{Hello, Fence, Fetch, Chain, Lost}
use Rattle.log_scan.specs.declared.stage.Backward.{Backward}
use Rattle.log_scan.specs.declared.stage.Stage.TheVariants.{Reads, Over}
use Rattle.log_scan.specs.Pick.{known_group, start_of}
use Rattle.log_scan.specs.ScanState.{IsRead, ScanState}
use Rattle.log_scan.specs.Transition as scan
use Rattle.log_scan.specs.Transition.{Done, goes, least_horizon}
use Rattle.log_protocol.specs.Tables.{In}
use Rattle.log_tie.specs.Setting.{Setting, Stripe}
use Rattle.log_law.specs.Net.{Net}
use Rattle.log_law.specs.Net.Packet.{HelloSent, WelcomeSent}
use Rattle.log_law.specs.Net.Owner.{Opening}
use Rattle.log_law.specs.Events.{Happens, Runs}
use Rattle.log_law.specs.Events.Runs.{Begun, On}
use Rattle.loss_law.specs.Losses.{Once, is_opening, has_drawn, LacksIn, IsTorn}
use Rattle.loss_law.proofs.Counting.{Apart, Each, servers_of, Among}
use Rattle.loss_law.proofs.Pairs.{ToldSo, AllSo, each_on, apart_missing, each_missing, among_missing}
use Rattle.loss_law.proofs.Growing.{AskedBy, AreNamed, Base, Grows, sent_then}
use Rattle.loss_law.proofs.Interval.{Before, Between, passed}
use Rattle.loss_law.proofs.Torn.{is_torn}
use Rattle.loss_law.proofs.Kept.{WasTorn, Middle, Asks_on, Doubts, RoundKept, ReadingKept, StageKept, once_keeps, middle_on, reading_on}
use Rattle.loss_law.proofs.Answering.{counted_parts, asks_still, RoundSo, round_take_so, short_pairs}

-- where a segment is said to be lost, this holds of its name
abbrev pub Loses : (SegName → Type 0) → List Out → Type 0
Loses P [] = Unit {0}
Loses P (Hello ask ∷ outs) = Loses P outs
Loses P (Fence server ∷ outs) = Loses P outs
Loses P (Fetch server name ask ∷ outs) = Loses P outs
Loses P (Chain segments end prior ∷ outs) = Loses P outs
Loses P (Lost name ∷ outs) = P name × Loses P outs

pub fetches_lose : (P : SegName → Type 0) (name : SegName) (ask : ℕ) (servers : List ℕ) → Loses P (map (λ server. Fetch server name ask) servers)
fetches_lose P name ask [] = tt
fetches_lose P name ask (s ∷ ss) = fetches_lose P name ask ss

pub fences_lose : (P : SegName → Type 0) (servers : List ℕ) → Loses P (map (λ server. Fence server) servers)
fences_lose P [] = tt
fences_lose P (s ∷ ss) = fences_lose P ss

not_drawn : (ask last : ℕ) → last < ask → nat_le ask last ≡ true → ⊥
not_drawn ask last less e = grind (arith, nat_tests)

no_lower : (low seq : ℕ) → nat_lt seq low ≡ false → low ≤ seq
no_lower low seq e = grind (arith, nat_tests)

-- where no round has ended yet, nothing was missing twice
none_twice : (now : List (ℕ × ℕ)) → length (missing_twice [] now) ≡ 0
none_twice [] = refl
none_twice (p ∷ ps) = none_twice ps

kept_some : (parity : ℕ) (now before : List (ℕ × ℕ)) → parity < length (missing_twice before now) → before ≡ [] → ⊥
kept_some parity now before many none =
    let a = ap (λ ps. length (missing_twice ps now)) none in let b = none_twice now in let c = many in omega arith

module _ (g : Setting) (Was Now : SegRef → Type 0) (start n o : Net) (run : Runs g start n) (e : Happens g n o) (grows : Grows g n o) (boot : o.inc ≡ n.inc)
    (base : Base g n) (s : ScanState) (fact : n.owner ≡ Opening s) (up : is_opening o.owner ≡ true → (seg : SegRef) → Was seg → Now seg)
    (torn_now : (seg : SegRef) → IsRead s.stage seg → IsTorn g seg n → Was seg) where
  -- what is to be shown of what it does: what is known of it stays so while it is an opening, and what it says is lost is earned
  pub record Goes (d : Done) : Type 0 where
    pub kept : is_opening o.owner ≡ true → StageKept g Now (On run e) d.state.opening.ask d.state.stage
    pub lost : Loses (WasTorn Was s) d.outs

  -- an opening with the same last question
  pub record Like (p : OpeningState) : Type 0 where
    pub ask : p.ask ≡ s.opening.ask
    pub log : p.log ≡ g.log
    pub groups : AreNamed g p.groups

  -- a question that is drawn now is of this moment
  drawn_now : (ask : ℕ) (P : Net → Type 0) → s.opening.ask < ask → Once (has_drawn ask) P (On run e) → P o
  drawn_now ask P less once = by once.1
    where
      by : P o ⊎ Once (has_drawn ask) P run → P o
      by (inl now) = now
      by (inr old) = absurd (not_drawn ask s.opening.ask less (subst (λ z. has_drawn ask z ≡ true) fact (once_keeps (has_drawn ask) P run old)))

  -- this moment
  now_middle : (seg : SegRef) (kept : List (ℕ × ℕ)) → Each (λ p. Before g seg.name n p.0 p.1) kept → ((kept ≡ [] → ⊥) → IsRead s.stage seg)
      → is_opening o.owner ≡ true → Middle g Now (On run e) seg kept
  now_middle seg kept all reads opens =
      record { net = n; base = base; later = On Begun e; pairs = all; known = λ some t. up opens seg (torn_now seg (reads some) t) }

  -- a round begins
  first_asked : (r : ReadingState) → Middle g Now (On run e) r.target.seg r.kept → s.opening.ask < r.ask → r.round.answers ≡ [] → Asks_on g Now (On run e) r
  first_asked r m less none = record {
    middle = m;
    drawn = λ v generation once.
        record { moment = o; first = m.later; later = Begun; lacks = drawn_now r.ask (LacksIn r.target.seg.name v generation) less once };
    told = subst (AllSo (Between g r.target.seg.name m.net o)) (sym none) tt;
  }

  -- ---- the next segment

  module _ (p : OpeningState) (b : Backward) (group : Group) (of : known_group p.groups b.next.group ≡ Some group) (like : Like p) where
    abbrev begun : ReadingState
    begun = reading.reading_start (scan.target_at p.log b.next) group (p.ask + 1)

    begun_kept : is_opening o.owner ≡ true → ReadingKept g Now (On run e) (p.ask + 1) b begun
    begun_kept opens = let named = like.groups b.next.group group of in record {
      of_log = like.log;
      next = refl;
      servers = ap (λ (z : Stripe). servers_of z.members) (sym named);
      parity = ap (λ (z : Stripe). z.parity) (sym named);
      single = tt;
      asked = tt;
      stage = first_asked begun (now_middle begun.target.seg [] tt (λ some. absurd (some refl)) opens) (let a = like.ask in omega arith) refl;
    }

  begins_goes : (p : OpeningState) (b : Backward) (group : Option Group) → known_group p.groups b.next.group ≡ group → Like p → Goes (scan.begins_in p b group)
  begins_goes p b None of like = record { kept = λ opens. tt; lost = tt }
  begins_goes p b (Some group) of like =
      record {
        kept = begun_kept p b group of like;
        lost = fetches_lose (WasTorn Was s) (scan.name_at p.log b.next) (p.ask + 1) (reading_unanswered (begun p b group of like));
      }

  pub round_goes : (p : OpeningState) (b : Backward) → Like p → Goes (scan.opening_begin_round p b)
  unfolding scan.opening_begin_round
  round_goes p b like = begins_goes p b (known_group p.groups b.next.group) refl like

  pub over_goes : (p : OpeningState) (b : Backward) → Goes (goes p Over (scan.backward_told b ∷ []))
  over_goes p b = record { kept = λ opens. tt; lost = tt }

  follows_goes : (p : OpeningState) (b : Backward) → Like p → Goes (scan.opening_follow p b)
  unfolding scan.opening_follow
  follows_goes p b like =
      by_test Goes (scan.is_bottom p.low b.next) (goes p Over (scan.backward_told b ∷ [])) (scan.opening_begin_round p b) (λ t. over_goes p b) (λ t. round_goes p b like)

  picks_at_goes : (p : OpeningState) (lists : List Listing) (at : Option End) → Like p → Goes (scan.picks_at p lists at)
  picks_at_goes p lists None like = record { kept = λ opens. tt; lost = tt }
  picks_at_goes p lists (Some at) like = follows_goes p (scan.backward_from at) like

  pub picks_goes : (p : OpeningState) (lists : List Listing) → Like p → Goes (scan.opening_pick p lists)
  unfolding scan.opening_pick
  picks_goes p lists like = picks_at_goes p lists (start_of p.groups lists p.low) like

  -- ---- the segment that is read

  module _ (b : Backward) (r : ReadingState) (at : s.stage ≡ Reads b (Some r)) (k : ReadingKept g Was run s.opening.ask b r) where
    -- the same reading, with what else is known of it, waits
    waits : (p : OpeningState) (q : ReadingState) → p.ask ≡ s.opening.ask → ReadingKept g Was run s.opening.ask b q → Goes (scan.opening_go_on p b q next.Wait)
    unfolding scan.opening_go_on
    waits p q same known =
        record {
          kept = λ opens. subst (λ ask. ReadingKept g Now (On run e) ask b q) (sym same)
              (reading_on g Was Now start n o run e grows boot (up opens) s.opening.ask b q known);
          lost = tt;
        }

    -- the next round
    module _ (p : OpeningState) (like : Like p) (m : Middle g Was run r.target.seg r.kept) where
      abbrev anew : ReadingState
      anew = (reading.goes_on r (p.ask + 1) stand.Between).state

      anew_kept : is_opening o.owner ≡ true → ReadingKept g Now (On run e) (p.ask + 1) b anew
      anew_kept opens = record {
        of_log = k.of_log;
        next = k.next;
        servers = k.servers;
        parity = k.parity;
        single = tt;
        asked = tt;
        stage = first_asked anew (middle_on g Was Now start n o run e grows boot (up opens) r.target.seg r.kept m) (let a = like.ask in omega arith) refl;
      }

      again : Goes (scan.opening_go_on p b anew next.Ask)
      unfolding scan.opening_go_on
      again = record { kept = anew_kept; lost = fetches_lose (WasTorn Was s) r.target.seg.name (p.ask + 1) (reading_unanswered anew) }

    loses : (p : OpeningState) (q : ReadingState) → q.target ≡ r.target → WasTorn Was s r.target.seg.name → Goes (scan.opening_go_on p b q next.Lost)
    unfolding scan.opening_go_on
    loses p q same earned = record { kept = λ opens. tt; lost = (subst (λ (t : Target). WasTorn Was s t.seg.name) (sym same) earned, tt) }

    -- the question of the reader is answered, by a horizon that doesn't pass the segment
    decided : (p : OpeningState) (stage : rounds.Stage) → Like p → ((d : Doubts g Was run s.opening.ask r.target.seg) → d.bound ≤ p.low) → p.low ≤ b.next.seq
        → RoundKept g Was run s.opening.ask r stage
        → Goes (scan.opening_go_on p b (reading.goes_on r (p.ask + 1) stage).state (reading.goes_on r (p.ask + 1) stage).next)
    decided p stand.Asking like reached above known = waits p r like.ask k
    decided p stand.Between like reached above known = again p like known
    decided p stand.Doubted like reached above known = loses p (record r { stage = stand.Over }) refl (record {
      segment = r.target.seg;
      named = refl;
      is_read = (b, r, at, refl);
      once = known.torn (let x = reached known in let y = above in let z = k.next in omega arith);
    })
    decided p stand.Over like reached above known = waits p r like.ask k

    pub confirmed : (p : OpeningState) → Like p → ((d : Doubts g Was run s.opening.ask r.target.seg) → d.bound ≤ p.low) → Goes (scan.opening_confirm p b (Some r))
    unfolding scan.opening_confirm reading.on_confirmed
    confirmed p like reached =
        by_test Goes (scan.is_bottom p.low b.next) (goes p Over (scan.backward_told b ∷ [])) (scan.confirms_by p b (Some r)) (λ t. over_goes p b)
        (λ t. decided p r.stage like reached (no_lower p.low b.next.seq (or_parts (nat_lt b.next.seq p.low) (names_none (scan.prior_at b.next)) t).0) k.stage)

    -- ---- an answer

    module _ (like : Like s.opening) (a : Asks_on g Was run r) (asking : r.stage ≡ stand.Asking) (now : RoundSoFar)
        (so : RoundSo (Between g r.target.seg.name a.middle.net n) r.round.servers r.round.parity now) where
      abbrev seg : SegRef
      seg = r.target.seg

      abbrev q : ReadingState
      q = record r { round = now }

      goes_further : ReadingKept g Was run s.opening.ask b q
      goes_further = record {
        of_log = k.of_log;
        next = k.next;
        servers = so.its_servers ∙ k.servers;
        parity = so.its_parity ∙ k.parity;
        single = so.single;
        asked = so.asked;
        stage = subst (RoundKept g Was run s.opening.ask q) (sym asking) (record { middle = a.middle; drawn = a.drawn; told = so.told });
      }

      -- it was so before the end of the round
      before_now : (p : ℕ × ℕ) → Between g seg.name a.middle.net n p.0 p.1 → Before g seg.name n p.0 p.1
      before_now p x = record { moment = x.moment; base = (passed g a.middle.net x.moment a.middle.base x.first).base; later = x.later; lacks = x.lacks }

      module _ (pairs : List (ℕ × ℕ)) (each : Each (λ p. Between g seg.name a.middle.net n p.0 p.1) pairs) (apart : Apart pairs)
          (among : Each (Among now.servers) pairs) where
        abbrev ended : ReadingState
        ended = (reading.ends q pairs).state

        -- whoever answers the question that is drawn now, it is by a horizon of this moment or of a later one
        heard : (news : List SlotNews) (m : GroupMapState) → In (WelcomeSent o.inc (s.opening.ask + 1) news m) o.sent → n.low ≤ least_horizon g.log.0 news
        heard news m in_ = by (sent_then g n o grows (WelcomeSent o.inc (s.opening.ask + 1) news m) in_)
          where
            none_before : (inc : ℕ) → inc ≡ n.inc → In (WelcomeSent inc (s.opening.ask + 1) news m) n.sent → ⊥
            none_before inc same old =
                let hello = base.packets (HelloSent inc (s.opening.ask + 1)) (base.packets (WelcomeSent inc (s.opening.ask + 1) news m) old) in
                let late : s.opening.ask + 1 ≤ s.opening.ask = subst (AskedBy (s.opening.ask + 1)) fact (hello.1 same) in
                omega arith

            by : (In (HelloSent o.inc (s.opening.ask + 1)) n.sent × (least_horizon g.log.0 news ≡ n.low))
                ⊎ In (WelcomeSent o.inc (s.opening.ask + 1) news m) n.sent → n.low ≤ least_horizon g.log.0 news
            by (inl new) = let z = new.1 in omega arith
            by (inr old) = absurd (none_before o.inc boot old)

        doubted : nat_lt now.parity (length (missing_twice r.kept pairs)) ≡ true → is_opening o.owner ≡ true → Doubts g Now (On run e) (s.opening.ask + 1) seg
        doubted t opens = record {
          bound = n.low;
          torn = λ above. up opens seg
              (a.middle.known (kept_some now.parity pairs r.kept (ltb-true now.parity (length (missing_twice r.kept pairs)) t))
              (is_torn g seg k.of_log a.middle.net n a.middle.base a.middle.later
              (λ dropped. (let z = base.below seg.name dropped in let y = above in absurd (omega arith))) r.kept pairs now.servers now.parity
              (so.its_servers ∙ k.servers) (so.its_parity ∙ k.parity) a.middle.pairs each apart among
              (ltb-true now.parity (length (missing_twice r.kept pairs)) t)));
          past = grows.low;
          heard = heard;
        }

        -- the segment that is read
        reads : IsRead s.stage seg
        reads = (b, r, at, refl)

        round_ends : Goes (scan.opening_go_on s.opening b ended next.Again)
        unfolding scan.opening_go_on
        round_ends = record { kept = kept; lost = tt }
          where
            kept : is_opening o.owner ≡ true → ReadingKept g Now (On run e) (s.opening.ask + 1) b ended
            kept opens = record {
              of_log = k.of_log;
              next = k.next;
              servers = so.its_servers ∙ k.servers;
              parity = so.its_parity ∙ k.parity;
              single = so.single;
              asked = so.asked;
              stage = by_test (RoundKept g Now (On run e) (s.opening.ask + 1) ended) (are_gone now.parity r.kept pairs) stand.Doubted stand.Between
                  (λ t. doubted t opens) (λ t. now_middle seg pairs (each_on _ _ before_now pairs each) (λ some. reads) opens);
            }

      found : (found_segment : Option Segment) → Goes (scan.opening_go_on s.opening b (reading.reading_reads q found_segment).state (reading.reading_reads q found_segment).next)
      unfolding scan.opening_go_on
      found (Some t) = follows_goes s.opening (scan.backward_with b t) like
      found None = round_ends [] tt tt tt

      judged : (groups : GroupMapState) (st : RoundState) → state_of now ≡ st
          → Goes (scan.opening_go_on s.opening b (reading.reading_judge q groups st).state (reading.reading_judge q groups st).next)
      judged groups (round.Read bytes) of = found (reading.segment_found q.target groups (answer_of bytes))
      judged groups (round.Short pairs) of = let same = short_pairs now pairs of in round_ends pairs
          (subst (Each (λ p. Between g seg.name a.middle.net n p.0 p.1)) (sym same) (each_missing (Between g seg.name a.middle.net n) now.answers so.told))
          (subst Apart (sym same) (apart_missing now.answers so.single))
          (subst (Each (Among now.servers)) (sym same) (among_missing now.servers now.answers so.asked))
      judged groups round.Waiting of = waits s.opening q refl goes_further

    -- what is told, where it counts, was so
    pub answered : (groups : GroupMapState) (ask server : ℕ) (t : Told) → Like s.opening
        → ((a : Asks_on g Was run r) → ask ≡ r.ask → ToldSo (Between g r.target.seg.name a.middle.net n) server t)
        → Goes (scan.opening_go_on s.opening b (reading.reading_take r groups ask server t).state (reading.reading_take r groups ask server t).next)
    unfolding reading.reading_take
    answered groups ask server t like true_then = by_test (λ (step : Step). Goes (scan.opening_go_on s.opening b step.state step.next)) (counts r ask server t)
        (reading.reading_judge (record r { round = round_take r.round server t }) groups (state_of (round_take r.round server t))) (record { state = r; next = next.Wait }) takes
        (λ other. waits s.opening r refl k)
      where
        takes : counts r ask server t ≡ true
            → Goes (scan.opening_go_on s.opening b (reading.reading_judge (record r { round = round_take r.round server t }) groups (state_of (round_take r.round server t))).state
            (reading.reading_judge (record r { round = round_take r.round server t }) groups (state_of (round_take r.round server t))).next)
        takes test =
            let c = counted_parts (is_asking r.stage) (ask == r.ask) (asks r.round server) (name_fits r.target t && told_fits r.round t) test in
            let asking : r.stage ≡ stand.Asking = asks_still r.stage c.first in
            let a : Asks_on g Was run r = subst (RoundKept g Was run s.opening.ask r) asking k.stage in
            judged like a asking (round_take r.round server t)
            (round_take_so (Between g r.target.seg.name a.middle.net n) r.round.servers r.round.parity r.round server t
            (record { its_servers = refl; its_parity = refl; single = k.single; asked = k.asked; told = a.told }) c.third
            (true_then a (eqb-true ask r.ask c.second)))
            groups (state_of (round_take r.round server t)) refl
