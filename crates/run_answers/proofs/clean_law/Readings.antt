-- What the reading of the segment in hand makes of what a server tells, and of a new question: it is lost only as two rounds missed it.
use Rattle.std.proofs.Common.{◌≡◌, ◌<◌, ◌≤◌, ◌+◌, ◌==◌, ◌&&◌, ℕ, Bool, true, List, [], ◌∷◌, ◌++◌, Option, Some, None, filter, length, nat_lt, not, inl, inr, refl, sym, ap, subst, ◌∙◌, arith}
use Rattle.std.proofs.lemmas.Bool.{eqb-true, ltb-false, ltb-true}
use Rattle.std.proofs.lemmas.List.Sums.{fold-append}
use Rattle.std.specs.List.{AllByRecursion, list_any}
use Rattle.core_world.specs.declared.any_node.AnyNode.{AnyNode}
use Rattle.group_map.specs.declared.group.Group.{Group}
use Rattle.group_map.specs.GroupMapState.{GroupMapState}
use Rattle.group_map.specs.Groups.{group_of}
use Rattle.node_base.specs.Asking.{draw, next_ask}
use Rattle.node_base.specs.declared.questions.Questions.{Questions}
use Rattle.segment_format.specs.declared.segment.Segment.{Segment}
use Rattle.segment_format.specs.ReadingItems.{answer_of}
use Rattle.segment_reading.specs.declared.reading.Next.{Next}
use Rattle.segment_reading.specs.declared.reading.Next.TheVariants as next
use Rattle.segment_reading.specs.declared.reading.Stage.{Stage}
use Rattle.segment_reading.specs.declared.reading.Stage.TheVariants.{Asking, Between, Doubted, Over}
use Rattle.segment_reading.specs.Lost.{are_gone, missing_twice}
use Rattle.segment_reading.specs.Reading.{ReadingState, Step, counts, ends, goes_on, is_asking, name_fits, on_confirmed, reading_judge, reading_reads, reading_start, reading_take, reading_unanswered, segment_found, servers_of}
use Rattle.stripe_code.specs.declared.round.Answer.{Answer as Reply}
use Rattle.stripe_code.specs.declared.round.RoundState.{RoundState}
use Rattle.stripe_code.specs.declared.round.RoundState.TheVariants.{Read, Short, Waiting}
use Rattle.stripe_code.specs.declared.round.Told.{Told}
use Rattle.stripe_code.specs.declared.round.Told.TheVariants as answered
use Rattle.stripe_code.specs.Round.{RoundSoFar, asks, has_answered, round_start, round_take, state_of, told_fits, unanswered}
use Rattle.token_protocol.specs.Basics.{In}
use Rattle.world_base.specs.declared.estate.Estate.{Estate}
use Rattle.xfs_base.proofs.Alls.{all_append}
use Rattle.xfs_base.proofs.Booleans.{and_first, and_second, by_test, contrary}
use Rattle.xfs_base.proofs.SegmentNames.{one_name}
use Rattle.xfs_base.specs.declared.node.NodeId.TheVariants as nodes
use Rattle.xfs_base.specs.declared.segment.SegRef.{SegRef}
use Rattle.xfs_base.specs.Limits.{u32_end}
use Rattle.run_answers.proofs.clean_law.Evidence.{FitsOf}
use Rattle.run_answers.proofs.clean_law.Standing.{AllAsked, OnceMissed, ReadingSo, RoundSo, StageSo}
use Rattle.run_answers.proofs.clean_law.Standing.OnceMissed.{Never, Once}
use Rattle.run_answers.proofs.number_law.Awaiting.{in_heard}
use Rattle.run_answers.proofs.number_law.Tellings.{Replied}
use Rattle.headline.specs.Cleanings.{IsLost, KnowsGroups, MissesUnder, round_with}
use Rattle.headline.specs.Tellings.{HasFetched, HasTold, IsOfSegment}

-- ---- a new question

past_end : (a b end : ℕ) → a < end → end ≤ b → a < b
past_end a b end below full = omega (arith, below, full)

pub next_newer : (last : ℕ) (q : Questions) → last ≤ q.last → last < u32_end → last < next_ask q
next_newer last q low room =
    by_test (λ (n : ℕ). last < n) (nat_lt q.last u32_end) (q.last + 1) q.last (λ _. omega (arith, low))
    (λ fact. past_end last q.last u32_end room (ltb-false q.last u32_end fact))

pub next_least : (q : Questions) → q.last ≤ next_ask q
next_least q = by_test (λ (n : ℕ). q.last ≤ n) (nat_lt q.last u32_end) (q.last + 1) q.last (λ _. omega arith) (λ _. omega arith)

none_twice : (pairs : List (ℕ × ℕ)) → missing_twice [] pairs ≡ []
none_twice [] = refl
none_twice (pair ∷ pairs) = none_twice pairs

-- a round with one more reply
with_more : (group : Group) (replies : List Reply) (server : ℕ) (t : Told)
    → round_with group (replies ++ record { server = server; told = t } ∷ []) ≡ round_take (round_with group replies) server t
with_more group replies server t =
    fold-append (λ (round : RoundSoFar) (r : Reply). round_take round r.server r.told) (round_start (length group.members) group.parity (servers_of group)) replies
    (record { server = server; told = t } ∷ [])

same_shape : (round : RoundSoFar) (server : ℕ) (t : Told) → record (round_take round server t) { answers = [] } ≡ record round { answers = [] }
unfolding round_take
same_shape round server t =
    by_test (λ (r : RoundSoFar). record r { answers = [] } ≡ record round { answers = [] }) (has_answered round.answers server) round
    (record round { answers = round.answers ++ record { server = server; told = t } ∷ [] }) (λ _. refl) (λ _. refl)

-- a server whose reply it awaits is one of the group's
among_servers : (r : ReadingState) (group : Group) (server : ℕ) → record r.round { answers = [] } ≡ round_with group [] → asks r.round server ≡ true
    → In server (servers_of group)
among_servers r group server shape awaits =
    in_heard server (servers_of group)
    (subst (λ (xs : List ℕ). list_any (λ s. s == server) xs ≡ true) (ap (λ (x : RoundSoFar). x.servers) shape) awaits)

module _ (e : Estate AnyNode) (begun end last : ℕ) (at_first : Option GroupMapState) (q : Questions) (segment : SegRef) where
  abbrev So : ReadingState → Type 0
  So r = ReadingSo e begun end last at_first q segment r

  -- ---- what a server tells

  module _ (r : ReadingState) (h : So r) (older : ℕ) (old : older < r.ask) (once : OnceMissed e begun end last at_first segment.name h.group older r.kept)
      (round : RoundSoFar) (now : RoundSo e begun end last at_first segment.name h.group r.ask round) (shape : record round { answers = [] } ≡ round_with h.group [])
      (asked : AllAsked e begun end last at_first segment.name h.group r.ask) where
    -- with another stage
    turned : (kept : List (ℕ × ℕ)) (stage : Stage)
        → StageSo e begun end last at_first h.group segment (record r { round = round; kept = kept; stage = stage }) stage
        → So (record r { round = round; kept = kept; stage = stage })
    turned kept stage so = record {
      groups = h.groups;
      known = h.known;
      group = h.group;
      its = h.its;
      target = h.target;
      newer = h.newer;
      asked = h.asked;
      shape = shape;
      stage = so;
    }

    parity_is : round.parity ≡ h.group.parity
    parity_is = ap (λ (x : RoundSoFar). x.parity) shape

    no_end : (n : ℕ) → nat_lt n 0 ≡ true → ⊥
    no_end n fact = (let low = ltb-true n 0 fact in absurd (omega (arith, low)))

    lost : (pairs : List (ℕ × ℕ)) → MissesUnder e begun end segment.name h.group r.ask pairs → are_gone round.parity r.kept pairs ≡ true
        → OnceMissed e begun end last at_first segment.name h.group older r.kept → IsLost e begun end last at_first segment
    lost pairs missed fact (Never none) =
        absurd (no_end round.parity
        (subst (λ (xs : List (ℕ × ℕ)). nat_lt round.parity (length xs) ≡ true)
        (ap (λ (kept : List (ℕ × ℕ)). missing_twice kept pairs) none ∙ none_twice pairs) fact))
    lost pairs missed fact (Once ask new low before) = record {
      groups = h.groups;
      known = h.known;
      group = h.group;
      its = h.its;
      ask = ask;
      again = r.ask;
      newer = new;
      later = omega (arith, low, old);
      before = r.kept;
      now = pairs;
      once = before;
      twice = missed;
      missed = subst (λ (n : ℕ). n < length (missing_twice r.kept pairs)) parity_is (ltb-true round.parity (length (missing_twice r.kept pairs)) fact);
    }

    missed_by : (pairs : List (ℕ × ℕ)) → state_of round ≡ Short pairs → MissesUnder e begun end segment.name h.group r.ask pairs
    missed_by pairs fact = record {
      replies = now.replies;
      come = now.come;
      fit = now.fit;
      among = now.among;
      is = ap state_of (sym now.is) ∙ fact;
    }

    ended : (pairs : List (ℕ × ℕ)) → state_of round ≡ Short pairs → So (ends (record r { round = round }) pairs).state
    ended pairs fact =
        by_test (λ (stage : Stage). So (record r { round = round; kept = pairs; stage = stage })) (are_gone round.parity r.kept pairs) Doubted Between
        (λ gone. turned pairs Doubted (lost pairs (missed_by pairs fact) gone once))
        (λ _. turned pairs Between (Once r.ask h.newer (omega arith) (missed_by pairs fact)))

    unread : So (ends (record r { round = round }) []).state
    unread =
        by_test (λ (stage : Stage). So (record r { round = round; kept = []; stage = stage })) (are_gone round.parity r.kept []) Doubted Between
        (λ gone. absurd (no_end round.parity gone)) (λ _. turned [] Between (Never refl))

    read_as : (o : Option Segment) → So (reading_reads (record r { round = round }) o).state
    read_as None = unread
    read_as (Some s) = turned r.kept Over tt

    judged : (groups : GroupMapState) → r.stage ≡ Asking → (st : RoundState) → state_of round ≡ st → So (reading_judge (record r { round = round }) groups st).state
    judged groups asking (Read bytes) fact = read_as (segment_found r.target groups (answer_of bytes))
    judged groups asking (Short pairs) fact = ended pairs fact
    judged groups asking Waiting fact =
        subst (λ (stage : Stage). So (record r { round = round; stage = stage })) (sym asking) (turned r.kept Asking (older, old, once, now, asked))

  -- a server whose reply it awaits was asked
  pub was_asked : (r : ReadingState) (server : ℕ) → So r → is_asking r.stage ≡ true → asks r.round server ≡ true
      → HasFetched e nodes.Cleaner begun end segment.name r.ask server
  was_asked r server h on awaits = by r.stage refl h.stage
    where
      by : (stage : Stage) → r.stage ≡ stage → StageSo e begun end last at_first h.group segment r stage
          → HasFetched e nodes.Cleaner begun end segment.name r.ask server
      by Asking same so = so.4 server (among_servers r h.group server h.shape awaits)
      by Between same so = contrary (sym (ap is_asking same) ∙ on)
      by Doubted same so = contrary (sym (ap is_asking same) ∙ on)
      by Over same so = contrary (sym (ap is_asking same) ∙ on)

  module _ (r : ReadingState) (groups : GroupMapState) (own server : ℕ) (t : Told)
      (told : own ≡ r.ask → is_asking r.stage ≡ true → asks r.round server ≡ true → HasTold e nodes.Cleaner begun end segment.name r.ask server t) (h : So r) where
    abbrev fits : Bool
    fits = name_fits r.target t && told_fits r.round t

    is_on : counts r own server t ≡ true → is_asking r.stage ≡ true
    is_on fact =
        and_first (is_asking r.stage) (own == r.ask)
        (and_first (is_asking r.stage && (own == r.ask)) (asks r.round server) (and_first (is_asking r.stage && (own == r.ask) && asks r.round server) fits fact))

    taken : counts r own server t ≡ true → (stage : Stage) → r.stage ≡ stage → StageSo e begun end last at_first h.group segment r stage
        → So (reading_judge (record r { round = round_take r.round server t }) groups (state_of (round_take r.round server t))).state
    taken fact Asking same so =
        judged r h so.0 so.1 so.2 (round_take r.round server t)
        (record {
          replies = so.3.replies ++ record { server = server; told = t } ∷ [];
          come = all_append (Replied e nodes.Cleaner begun end segment.name r.ask) so.3.replies (record { server = server; told = t } ∷ []) so.3.come
              (told (eqb-true own r.ask ours) (is_on fact) awaited, tt);
          fit = all_append (FitsOf segment.name) so.3.replies (record { server = server; told = t } ∷ []) so.3.fit (fitting t named, tt);
          among = all_append (λ (x : Reply). In x.server (servers_of h.group)) so.3.replies (record { server = server; told = t } ∷ []) so.3.among (there, tt);
          is = ap (λ (x : RoundSoFar). round_take x server t) so.3.is ∙ sym (with_more h.group so.3.replies server t);
        })
        (same_shape r.round server t ∙ h.shape) so.4 groups same (state_of (round_take r.round server t)) refl
      where
        heard : (is_asking r.stage && (own == r.ask) && asks r.round server) ≡ true
        heard = and_first (is_asking r.stage && (own == r.ask) && asks r.round server) fits fact

        ours : (own == r.ask) ≡ true
        ours = and_second (is_asking r.stage) (own == r.ask) (and_first (is_asking r.stage && (own == r.ask)) (asks r.round server) heard)

        named : name_fits r.target t ≡ true
        named =
            and_first (name_fits r.target t) (told_fits r.round t)
            (and_second (is_asking r.stage && (own == r.ask) && asks r.round server) fits fact)

        fitting : (x : Told) → name_fits r.target x ≡ true → IsOfSegment segment.name x
        fitting (answered.Held f) fact = one_name f.meta.name r.target.seg.name fact ∙ ap (λ (seg : SegRef). seg.name) h.target
        fitting (answered.Missing generation) fact = tt

        awaited : asks r.round server ≡ true
        awaited = and_second (is_asking r.stage && (own == r.ask)) (asks r.round server) heard

        there : In server (servers_of h.group)
        there = among_servers r h.group server h.shape awaited
    taken fact Between same so = contrary (sym (ap is_asking same) ∙ is_on fact)
    taken fact Doubted same so = contrary (sym (ap is_asking same) ∙ is_on fact)
    taken fact Over same so = contrary (sym (ap is_asking same) ∙ is_on fact)

    pub told_so : So (reading_take r groups own server t).state
    unfolding reading_take
    told_so =
        by_test (λ (d : Step). So d.state) (counts r own server t)
        (reading_judge (record r { round = round_take r.round server t }) groups (state_of (round_take r.round server t)))
        (record { state = r; next = next.Wait }) (λ fact. taken fact r.stage refl h.stage) (λ _. h)

-- ---- a new question

-- where nobody has answered all servers are asked
all_unanswered : (P : ℕ → Type 0) (servers : List ℕ) → AllByRecursion P (filter (λ server. not (has_answered [] server)) servers)
    → (server : ℕ) → In server servers → P server
all_unanswered P [] all server among = absurd among
all_unanswered P (x ∷ servers) all server (inl same) = subst P (sym same) all.0
all_unanswered P (x ∷ servers) all server (inr among) = all_unanswered P servers all.1 server among

module _ (e : Estate AnyNode) (begun end last : ℕ) (at_first : Option GroupMapState) (q : Questions) (segment : SegRef) where
  -- those that it is to ask now are asked
  abbrev pub AsksNow : ReadingState → Type 0
  AsksNow r = AllByRecursion (HasFetched e nodes.Cleaner begun end segment.name r.ask) (reading_unanswered r)

  abbrev pub AsksIn : Step → Type 0
  AsksIn d = d.next ≡ next.Ask → AsksNow d.state

  pub record Goes (d : Step) : Type 0 where
    pub state : ReadingSo e begun end last at_first (draw q) segment d.state
    pub lost : d.next ≡ next.Lost → IsLost e begun end last at_first segment

  module _ (r : ReadingState) (h : ReadingSo e begun end last at_first q segment r) (low : last ≤ q.last) (room : q.last < u32_end) where
    newer_than : q.last < next_ask q
    newer_than = next_newer q.last q (omega arith) room

    still_so : ReadingSo e begun end last at_first (draw q) segment r
    still_so =
        let a = h.asked in
        let b = next_least q in
        record {
          groups = h.groups;
          known = h.known;
          group = h.group;
          its = h.its;
          target = h.target;
          newer = h.newer;
          asked = omega (arith, a, b);
          shape = h.shape;
          stage = h.stage;
        }

    stage_so : (stage : Stage) → r.stage ≡ stage → StageSo e begun end last at_first h.group segment r stage → AsksIn (goes_on r (next_ask q) stage)
        → Goes (goes_on r (next_ask q) stage)
    stage_so Asking same so asks = record { state = still_so; lost = λ fact. absurd (no_loss fact) }
      where
        no_loss : next.Wait ≡ next.Lost → ⊥
        no_loss fact = cc
    stage_so Between same so asks =
        let a = h.asked in
        let b = newer_than in
        record {
          state = record {
            groups = h.groups;
            known = h.known;
            group = h.group;
            its = h.its;
            target = h.target;
            newer = omega (arith, low, b);
            asked = omega arith;
            shape = h.shape;
            stage = (
              r.ask,
              omega (arith, a, b),
              so,
              record { replies = []; come = tt; fit = tt; among = tt; is = h.shape },
              all_unanswered (HasFetched e nodes.Cleaner begun end segment.name (next_ask q)) (servers_of h.group)
                  (subst (λ (x : RoundSoFar). AllByRecursion (HasFetched e nodes.Cleaner begun end segment.name (next_ask q)) (unanswered x)) h.shape (asks refl)),
            );
          };
          lost = λ fact. absurd (no_loss fact);
        }
      where
        no_loss : next.Ask ≡ next.Lost → ⊥
        no_loss fact = cc
    stage_so Doubted same so asks =
        let a = h.asked in
        let b = next_least q in
        record {
          state = record {
            groups = h.groups;
            known = h.known;
            group = h.group;
            its = h.its;
            target = h.target;
            newer = h.newer;
            asked = omega (arith, a, b);
            shape = h.shape;
            stage = tt;
          };
          lost = λ _. so;
        }
    stage_so Over same so asks = record { state = still_so; lost = λ fact. absurd (no_loss fact) }
      where
        no_loss : next.Wait ≡ next.Lost → ⊥
        no_loss fact = cc

    pub confirmed_so : AsksIn (on_confirmed r (next_ask q)) → Goes (on_confirmed r (next_ask q))
    unfolding on_confirmed
    confirmed_so asks = stage_so r.stage refl h.stage asks

  -- a reading begins
  pub begins_so : (groups : GroupMapState) → KnowsGroups e begun end at_first groups → (group : Group) → group_of groups segment.group ≡ Some group
      → last ≤ q.last → last < u32_end → AsksNow (reading_start (record { seg = segment; block = None }) group (next_ask q))
      → ReadingSo e begun end last at_first (draw q) segment (reading_start (record { seg = segment; block = None }) group (next_ask q))
  begins_so groups known group its low room asks = record {
    groups = groups;
    known = known;
    group = group;
    its = its;
    target = refl;
    newer = next_newer last q low room;
    asked = omega arith;
    shape = refl;
    stage = (
      last,
      next_newer last q low room,
      Never refl,
      record { replies = []; come = tt; fit = tt; among = tt; is = refl },
      all_unanswered (HasFetched e nodes.Cleaner begun end segment.name (next_ask q)) (servers_of group) asks,
    );
  }

-- nothing that a server tells loses it
abbrev pub IsNoLoss : Next → Type 0
IsNoLoss next.Lost = ⊥
IsNoLoss _ = Unit {0}

pub tells_no_loss : (r : ReadingState) (groups : GroupMapState) (own server : ℕ) (t : Told) → IsNoLoss (reading_take r groups own server t).next
unfolding reading_take
tells_no_loss r groups own server t =
    by_test (λ (d : Step). IsNoLoss d.next) (counts r own server t)
    (reading_judge (record r { round = round_take r.round server t }) groups (state_of (round_take r.round server t)))
    (record { state = r; next = next.Wait }) (λ _. judged (record r { round = round_take r.round server t }) (state_of (round_take r.round server t))) (λ _. tt)
  where
    read : (x : ReadingState) (o : Option Segment) → IsNoLoss (reading_reads x o).next
    read x None = tt
    read x (Some s) = tt

    judged : (x : ReadingState) (st : RoundState) → IsNoLoss (reading_judge x groups st).next
    judged x (Read bytes) = read x (segment_found x.target groups (answer_of bytes))
    judged x (Short pairs) = tt
    judged x Waiting = tt
