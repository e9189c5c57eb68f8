-- What is true at each count of a run of what a client's open call reads: of which moments its answers tell, and that its call has read it since.
use Rattle.std.proofs.Common.{◌≡◌, ◌⊎◌, ⊎_elim, ℕ, suc, ◌<◌, ◌≤◌, Bool, true, false, List, [], ◌++◌, Option, Some, None, nat_lt, refl, sym, ap, subst, ◌∙◌, inl, inr, arith}
use Rattle.std.proofs.lemmas.Bool.Decides.{nat_tests}
use Rattle.node_slots.specs.client_law.Grouped.{KnowsSuch}
use Rattle.client_call.specs.Reads.{reading_in}
use Rattle.client_moves.specs.Moves.{Tells, heard_step}
use Rattle.client_moves.specs.Moves.Tells.{AbsenceCame, FragmentCame}
use Rattle.client_serving.specs.declared.serving.Serving.{Serving}
use Rattle.client_serving.specs.Reads.{group_in}
use Rattle.core_world.specs.AnyNode.{any_start, any_step}
use Rattle.core_world.specs.declared.any_node.AnyNode.{AnyNode}
use Rattle.group_map.specs.declared.group.Group.{Group}
use Rattle.group_map.specs.GroupMapState.{GroupMapState}
use Rattle.group_map.specs.Groups.{group_of}
use Rattle.log_tie.specs.Setting.{stripe_of_group}
use Rattle.loss_law.proofs.Pairs.{ToldSo}
use Rattle.run_losses.proofs.missing_law.Readings.{AsksOf, IsOut, ReadingTrue, RoundTrue, StageTrue, TornUnlessDeleted, answer_keeps_target, answered_true, begun_since, confirmed_true, number_then, out_fresh, out_next, reading_later, told_of}
use Rattle.run_losses.specs.missing_law.Missed.{Answers, FetchesDrawn, MissedIn, last_at}
use Rattle.segment_reading.specs.declared.reading.Stage as rounds
use Rattle.segment_reading.specs.declared.reading.Next.TheVariants.{Again, Wait}
use Rattle.segment_reading.specs.declared.reading.Stage.TheVariants.{Asking, Between, Doubted, Over}
use Rattle.segment_reading.specs.declared.target.BlockAt.{BlockAt}
use Rattle.segment_reading.specs.declared.target.Target.{Target}
use Rattle.segment_reading.specs.Reading.{ReadingState, Step, reading_start, counts, ends, goes_on, reading_judge, reading_take, on_confirmed, reading_reads, segment_found}
use Rattle.stripe_code.specs.declared.round.RoundState.{RoundState}
use Rattle.stripe_code.specs.declared.round.RoundState.TheVariants as round
use Rattle.stripe_code.specs.declared.round.Told.{Told as Answered}
use Rattle.stripe_code.specs.Round.{state_of, round_take}
use Rattle.segment_format.specs.declared.segment.Segment.{Segment}
use Rattle.segment_format.specs.ReadingItems.{answer_of}
use Rattle.token_client.specs.State.{epoch_of}
use Rattle.token_protocol.specs.Basics.{In}
use Rattle.wire_msg.specs.declared.body.Body.TheVariants as body
use Rattle.wire_msg.specs.declared.packet.Do.{Do}
use Rattle.wire_msg.specs.declared.packet.Do.TheVariants.{Deliver}
use Rattle.wire_msg.specs.declared.packet.Packet.{Packet}
use Rattle.wire_msg.specs.declared.storage.Missing.{Missing}
use Rattle.wire_msg.specs.declared.tokens.Grant.{Grant}
use Rattle.world_base.specs.declared.estate.Estate.{Estate}
use Rattle.world_base.specs.Runs.{IsRun}
use Rattle.headline.specs.Moments.{moment}
use Rattle.run_laws.specs.world_logs.Settings.{stripe_by}
use Rattle.headline.specs.Servers.{group_at}
use Rattle.xfs_base.proofs.Booleans.{by_test}
use Rattle.xfs_base.specs.Blocks.{slot_of}
use Rattle.xfs_base.specs.declared.block.BlockId.{BlockId}
use Rattle.xfs_base.specs.declared.node.NodeId.{NodeId}
use Rattle.xfs_base.specs.declared.node.NodeId.TheVariants as nodes
use Rattle.headline.specs.Reads.{ReadsAt, open_item, serving_at, what_is_read}
use Rattle.run_losses.proofs.fetching_law.Wants.{Anew, Lasts, Later}
use Rattle.run_losses.proofs.fetching_law.Turning.{Begins, Comes, Resumes, Told}

-- ---- small things

-- at most the next number is this one, or at most this one
pub last_or_before : (k count : ℕ) → k ≤ suc count → (k ≡ suc count) ⊎ (k ≤ count)
last_or_before k count limit = by (nat_lt count k) refl
  where
    by : (t : Bool) → nat_lt count k ≡ t → (k ≡ suc count) ⊎ (k ≤ count)
    by true more = inl (grind (arith, nat_tests))
    by false less = inr (grind (arith, nat_tests))

never_doubted : Asking ≡ Doubted → ⊥
never_doubted same = absurd (cc)

-- where what is told brings a reading into doubt, its place is to be asked for again
module _ (r : ReadingState) where
  abbrev Doubtful : Step → Type 0
  Doubtful step = step.state.stage ≡ Doubted → (r.stage ≡ Doubted) ⊎ (step.next ≡ Again)

  ends_so : (q : ReadingState) (pairs : List (ℕ × ℕ)) → Doubtful (ends q pairs)
  ends_so q pairs doubted = inr refl

  read_doubts : (q : ReadingState) (found : Option Segment) → Doubtful (reading_reads q found)
  read_doubts q None = ends_so q []
  read_doubts q (Some segment) = λ doubted. absurd (let clash : Over ≡ Doubted = doubted in cc)

  judged_doubts : (q : ReadingState) → q.stage ≡ r.stage → (groups : GroupMapState) (st : RoundState) → Doubtful (reading_judge q groups st)
  judged_doubts q same groups (round.Read bytes) = read_doubts q (segment_found q.target groups (answer_of bytes))
  judged_doubts q same groups (round.Short pairs) = ends_so q pairs
  judged_doubts q same groups round.Waiting = λ doubted. inl (sym same ∙ doubted)

  doubt_comes : (groups : GroupMapState) (ask server : ℕ) (told : Answered) → Doubtful (reading_take r groups ask server told)
  unfolding reading_take
  doubt_comes groups ask server told =
      by_test Doubtful (counts r ask server told) (reading_judge (record r { round = round_take r.round server told }) groups (state_of (round_take r.round server told)))
      (record { state = r; next = Wait })
      (λ _. judged_doubts (record r { round = round_take r.round server told }) refl groups (state_of (round_take r.round server told))) (λ _ doubted. inl doubted)

module _ (e : Estate AnyNode) (c : ℕ) where
  abbrev pub reader : NodeId
  reader = nodes.Client c

  -- a map of groups names stripes of the registry's map at the end of the run
  abbrev pub IsNamed : GroupMapState → Type 0
  IsNamed m = (id : ℕ) (group : Group) → group_of m id ≡ Some group → stripe_by (group_at e.world id) ≡ stripe_of_group group

  -- a Grant of the block that the client could take now was not sent yet at a moment
  pub record Renewed (at count : ℕ) (b : BlockId) : Type 0 where
    pub life : ℕ
    pub highest : ℕ
    pub epoch : ℕ
    pub later : (s : Serving) → serving_at e c count ≡ Some s → Later b life highest epoch s.tokens
    pub before : (p : Packet) (m : Grant) → In p (moment e at).sent → p.to ≡ reader → p.body ≡ body.Grant m → m.block ≡ b → m.inc ≡ life
        → epoch ≤ m.stamp.epoch → m.req ≤ highest

  -- two rounds have missed the segment, and the place of the block was asked for again since
  pub record Doubt (since count : ℕ) (target : Target) : Type 0 where
    pub when : ℕ
    pub until : when ≤ count
    pub torn : TornUnlessDeleted e since when target.seg
    pub renewed : (x : BlockAt) → target.block ≡ Some x → Renewed when count x.block

  -- what is known of the reading of the open call
  pub record Reads (count : ℕ) (r : ReadingState) : Type 0 where
    pub since : ℕ
    pub item : ℕ
    pub begins : since ≤ count
    pub reads : (k : ℕ) → since ≤ k → k ≤ count → ReadsAt e c k item r.target.seg
    pub block : BlockAt
    pub looks : r.target.block ≡ Some block
    pub so : ReadingTrue e reader since count r.ask r
    pub out : IsOut e reader count r.ask r.target.seg.name
    pub doubt : r.stage ≡ Doubted → Doubt since count r.target

  abbrev pub AllReads : ℕ → Type 0
  AllReads count = (r : ReadingState) → what_is_read (serving_at e c count) ≡ Some r → Reads count r

  module _ (count : ℕ) (new : List Packet) (sent : (moment e (suc count)).sent ≡ (moment e count).sent ++ new)
      (rises : last_at e reader count ≤ last_at e reader (suc count)) where
    -- wants that were renewed are so still
    abbrev WantsOn : Type 0
    WantsOn =
        (b : BlockId) (life highest epoch : ℕ) → ((s : Serving) → serving_at e c count ≡ Some s → Later b life highest epoch s.tokens)
        → (t : Serving) → serving_at e c (suc count) ≡ Some t → Later b life highest epoch t.tokens

    doubt_on : WantsOn → (since : ℕ) (target : Target) → Doubt since count target → Doubt since (suc count) target
    doubt_on on since target d = record {
      when = d.when;
      until = (let a = d.until in omega arith);
      torn = d.torn;
      renewed = λ x block. (let r = d.renewed x block in record {
        life = r.life;
        highest = r.highest;
        epoch = r.epoch;
        later = on x.block r.life r.highest r.epoch r.later;
        before = r.before;
      });
    }

    -- the same item's call reads the same segment
    reads_on : (r was : ReadingState) → r.target ≡ was.target → (h : Reads count was)
        → ((item : ℕ) → open_item (serving_at e c count) ≡ Some item → open_item (serving_at e c (suc count)) ≡ Some item)
        → what_is_read (serving_at e c (suc count)) ≡ Some r → ReadingTrue e reader h.since (suc count) r.ask r
        → IsOut e reader (suc count) r.ask r.target.seg.name → (r.stage ≡ Doubted → Doubt h.since (suc count) r.target)
        → Reads (suc count) r
    reads_on r was target h same fact so out doubt = record {
      since = h.since;
      item = h.item;
      begins = (let a = h.begins in omega arith);
      reads = λ k since limit.
          ⊎_elim (λ last. subst (λ n. ReadsAt e c n h.item r.target.seg) (sym last)
          (record { reading = r; reads = fact; of = refl; its_item = same h.item (h.reads count h.begins (omega arith)).its_item }))
          (λ before. subst (λ (x : Target). ReadsAt e c k h.item x.seg) (sym target) (h.reads k since before)) (last_or_before k count limit);
      block = h.block;
      looks = ap (λ (x : Target). x.block) target ∙ h.looks;
      so = so;
      out = out;
      doubt = doubt;
    }

    stays_so : WantsOn → (r : ReadingState) → Reads count r
        → ((item : ℕ) → open_item (serving_at e c count) ≡ Some item → open_item (serving_at e c (suc count)) ≡ Some item)
        → what_is_read (serving_at e c (suc count)) ≡ Some r → AsksOf e reader new r.ask r.target.seg.name → Reads (suc count) r
    stays_so on r h same fact asks =
        reads_on r r refl h same fact (reading_later e reader h.since count (suc count) r.ask r (omega arith) h.so)
        (out_next e reader count r.ask r.target.seg.name new sent rises asks h.out) (λ doubted. doubt_on on h.since r.target (h.doubt doubted))

    -- nothing happens to the client
    pub aside : serving_at e c (suc count) ≡ serving_at e c count → ((p : Packet) → In p new → p.from ≡ reader → ⊥) → AllReads count → AllReads (suc count)
    aside same others all r fact =
        let before : what_is_read (serving_at e c count) ≡ Some r = sym (ap what_is_read same) ∙ fact in
        stays_so (λ b life highest epoch was t there. was t (sym same ∙ there)) r (all r before) (λ item opens. ap open_item same ∙ opens) fact
        (λ p m late from asks number. absurd (others p late from))

    -- ---- its own event

    module _ (run : IsRun any_step any_start e.script e.events e.world) (drawn : FetchesDrawn e reader count)
        (answers : (v : ℕ) (p : Packet) (m : Missing) → In p (moment e count).sent → p.from ≡ nodes.Server v → p.to ≡ reader → p.body ≡ body.Missing m
        → Answers e reader count v m)
        (s t : Serving) (was_there : serving_at e c count ≡ Some s) (is_there : serving_at e c (suc count) ≡ Some t)
        (was_last : last_at e reader count ≡ s.lasting.questions.last) (now_last : last_at e reader (suc count) ≡ t.lasting.questions.last)
        (what : Do) (gets : (p : Packet) → what ≡ Deliver p → In p (moment e count).sent × (p.to ≡ reader))
        (known : KnowsSuch IsNamed s.maps.groups) (all : AllReads count) (wants : Lasts s.tokens t.tokens)
        (asked : (b : BlockId) (p : Packet) (m : Grant) → In p (moment e count).sent → p.to ≡ reader → p.body ≡ body.Grant m → m.block ≡ b
        → m.inc ≡ s.tokens.inc → epoch_of s.tokens.epochs (slot_of b.ino.0) ≤ m.stamp.epoch → m.req ≤ s.tokens.req) where
      one_serving : (x y : Serving) → Some x ≡ Some y → x ≡ y
      one_serving x y e = cc

      wants_on : WantsOn
      wants_on b life highest epoch was u there =
          subst (λ (x : Serving). Later b life highest epoch x.tokens) (one_serving t u (sym is_there ∙ there)) (wants b life highest epoch (was s was_there))

      read_before : (was : ReadingState) → reading_in s.call ≡ Some was → Reads count was
      read_before was fact = all was (ap what_is_read was_there ∙ fact)

      fresh_at : s.lasting.questions.last < t.lasting.questions.last → last_at e reader count < t.lasting.questions.last
      fresh_at fresh = subst (λ k. k < t.lasting.questions.last) (sym was_last) fresh

      drawn_at : t.lasting.questions.last ≤ last_at e reader (suc count)
      drawn_at = (let a = now_last in omega arith)

      -- what a server told was so since each moment at which the question was not drawn
      told_true : (was : ReadingState) (h : Reads count was) (server ask : ℕ) (p : Packet) → In p (moment e count).sent → p.from ≡ nodes.Server server
          → p.to ≡ reader → (x : Answered) → Tells p.body ask x → (on : RoundTrue e reader h.since count was.ask was) → ask ≡ was.ask
          → ToldSo (λ v generation. MissedIn e on.drawn count v generation was.target.seg.name) server x
      told_true was h server ask p among from to x (FragmentCame m says) on same = tt
      told_true was h server ask p among from to x (AbsenceCame m says) on same =
          told_of e reader count was.ask server was.target.seg.name m h.out (answers server p m among from to says) same on.drawn on.until on.fresh

      module _ (r : ReadingState) (read : reading_in t.call ≡ Some r) (item : ℕ) (now_open : t.lasting.items.unanswered ≡ Some item)
          (same : t.lasting.items.unanswered ≡ s.lasting.items.unanswered) (asks : AsksOf e reader new r.ask r.target.seg.name) where
        now_read : what_is_read (serving_at e c (suc count)) ≡ Some r
        now_read = ap what_is_read is_there ∙ read

        still_open : (i : ℕ) → open_item (serving_at e c count) ≡ Some i → open_item (serving_at e c (suc count)) ≡ Some i
        still_open i opens = ap open_item is_there ∙ (same ∙ (sym (ap open_item was_there) ∙ opens))

        -- a second round has ended by what was told
        doubts_now : (x : Told s what t.tokens r) (h : Reads count x.heard.was)
            → ReadingTrue e reader h.since count x.heard.was.ask (heard_step what s x.heard).state
            → (heard_step what s x.heard).state.stage ≡ Doubted → (heard_step what s x.heard).next ≡ Again → Doubt h.since (suc count) x.heard.was.target
        doubts_now x h so doubted again = record {
          when = count;
          until = omega arith;
          torn = subst (λ (y : Target). TornUnlessDeleted e h.since count y.seg) (answer_keeps_target x.heard.was x.heard.groups x.heard.ask x.heard.server x.heard.told).0
              (subst (StageTrue e reader h.since count x.heard.was.ask (heard_step what s x.heard).state) doubted so.stage);
          renewed = λ at block. record {
            life = s.tokens.inc;
            highest = s.tokens.req;
            epoch = epoch_of s.tokens.epochs (slot_of at.block.ino.0);
            later = λ u there.
                subst (λ (y : Serving). Anew s.tokens at.block y.tokens) (one_serving t u (sym is_there ∙ there)) (x.again again at block);
            before = asked at.block;
          };
        }

        -- a server told something
        told_so : Told s what t.tokens r → Reads (suc count) r
        told_so x =
            let h : Reads count x.heard.was = read_before x.heard.was x.heard.reads in
            let got = gets x.heard.packet x.heard.event in
            let kept = answer_keeps_target x.heard.was x.heard.groups x.heard.ask x.heard.server x.heard.told in
            let target : r.target ≡ x.heard.was.target = ap (λ (y : ReadingState). y.target) x.now ∙ kept.0 in
            let ask : r.ask ≡ x.heard.was.ask = ap (λ (y : ReadingState). y.ask) x.now ∙ kept.1 in
            let so : ReadingTrue e reader h.since count x.heard.was.ask (heard_step what s x.heard).state =
            answered_true e reader run h.since count x.heard.was.ask x.heard.was h.so x.heard.groups x.heard.ask x.heard.server x.heard.told
            (told_true x.heard.was h x.heard.server x.heard.ask x.heard.packet got.0 x.heard.from got.1 x.heard.told x.heard.tells) in
            reads_on r x.heard.was target h still_open now_read
            (reading_later e reader h.since count (suc count) r.ask r (omega arith)
            (subst (λ n. ReadingTrue e reader h.since count n r) (sym ask) (subst (ReadingTrue e reader h.since count x.heard.was.ask) (sym x.now) so)))
            (out_next e reader count r.ask r.target.seg.name new sent rises asks
            (subst (λ n. IsOut e reader count n r.target.seg.name) (sym ask)
            (subst (λ (y : Target). IsOut e reader count x.heard.was.ask y.seg.name) (sym target) h.out)))
            (λ doubted. subst (Doubt h.since (suc count)) (sym target)
            (⊎_elim (λ before. doubt_on wants_on h.since x.heard.was.target (h.doubt before))
            (λ again. doubts_now x h so (sym (ap (λ (y : ReadingState). y.stage) x.now) ∙ doubted) again)
            (doubt_comes x.heard.was x.heard.groups x.heard.ask x.heard.server x.heard.told (sym (ap (λ (y : ReadingState). y.stage) x.now) ∙ doubted))))

        -- a question is out that is drawn now
        out_now : s.lasting.questions.last < t.lasting.questions.last → r.ask ≡ t.lasting.questions.last → IsOut e reader (suc count) r.ask r.target.seg.name
        out_now fresh number =
            out_fresh e reader count r.ask r.target.seg.name new sent drawn (let a = fresh_at fresh in omega arith) (let a = drawn_at in omega arith) asks

        -- a further round begins
        resumes_so : Resumes s what t.lasting.questions.last r → Reads (suc count) r
        unfolding on_confirmed
        resumes_so x =
            let last : ℕ = t.lasting.questions.last in
            let h : Reads count x.was = read_before x.was x.reads in
            let confirmed : ReadingTrue e reader h.since count (number_then e reader run h.since count x.was.ask x.was h.so x.was.stage last)
            (goes_on x.was last x.was.stage).state =
            confirmed_true e reader run h.since count x.was.ask x.was h.so last last (λ between. fresh_at x.fresh) in
            let so : ReadingTrue e reader h.since count last (goes_on x.was last Between).state =
            subst (λ (st : rounds.Stage). ReadingTrue e reader h.since count (number_then e reader run h.since count x.was.ask x.was h.so st last)
            (goes_on x.was last st).state) x.between confirmed in
            let ask : r.ask ≡ last = ap (λ (y : ReadingState). y.ask) x.now in
            reads_on r x.was (ap (λ (y : ReadingState). y.target) x.now) h still_open now_read
            (reading_later e reader h.since count (suc count) r.ask r (omega arith)
            (subst (λ n. ReadingTrue e reader h.since count n r) (sym ask) (subst (ReadingTrue e reader h.since count last) (sym x.now) so)))
            (out_now x.fresh ask) (λ doubted. absurd (never_doubted (sym (ap (λ (y : ReadingState). y.stage) x.now) ∙ doubted)))

        named_group : (groups : Option GroupMapState) → KnowsSuch IsNamed groups → (id : ℕ) (group : Group) → group_in groups id ≡ Some group
            → stripe_by (group_at e.world id) ≡ stripe_of_group group
        named_group None h id group fact = absurd (let clash : None ≡ Some group = fact in cc)
        named_group (Some groups) h id group fact = h id group fact

        -- the first round begins
        begins_so : Begins s what t.lasting.questions.last r → Reads (suc count) r
        begins_so x =
            let last : ℕ = t.lasting.questions.last in
            let ask : r.ask ≡ last = ap (λ (y : ReadingState). y.ask) x.now in
            let so : ReadingTrue e reader (suc count) (suc count) last (reading_start x.target x.group last) =
            begun_since e reader (suc count) count (suc count) last x.target x.group last (omega arith) (omega arith)
            (named_group s.maps.groups known x.target.seg.group x.group x.known) (fresh_at x.fresh) in
            record {
              since = suc count;
              item = item;
              begins = omega arith;
              reads = λ k since limit.
                  let same : suc count ≡ k = omega arith in
                  subst (λ n. ReadsAt e c n item r.target.seg) same
                  (record { reading = r; reads = now_read; of = refl; its_item = ap open_item is_there ∙ now_open });
              block = x.block;
              looks = ap (λ (y : ReadingState). y.target.block) x.now ∙ x.looks;
              so = subst (λ n. ReadingTrue e reader (suc count) (suc count) n r) (sym ask)
                  (subst (ReadingTrue e reader (suc count) (suc count) last) (sym x.now) so);
              out = out_now x.fresh ask;
              doubt = λ doubted. absurd (never_doubted (sym (ap (λ (y : ReadingState). y.stage) x.now) ∙ doubted));
            }

        pub comes_so : Comes s what t.tokens t.lasting.questions.last r → Reads (suc count) r
        comes_so (inl before) = stays_so wants_on r (read_before r before) still_open now_read asks
        comes_so (inr (inl told)) = told_so told
        comes_so (inr (inr (inl resumes))) = resumes_so resumes
        comes_so (inr (inr (inr begins))) = begins_so begins
