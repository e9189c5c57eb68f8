-- Each input of an opening is a list of steps of the owner, from the restart until all is read back.
use Rattle.std.proofs.Common.{◌≡◌, ℕ, suc, ◌+◌, ◌-◌, ◌<◌, ◌≤◌, ◌==◌, ◌&&◌, ◌||◌, Bool, true, false, not, nat_le, max, List, [], ◌∷◌, ◌++◌, Option, Some, None, length, refl, sym, ap, subst, ◌∙◌, inl, inr, arith}
use Rattle.std.specs.List.{range_with_len}
use Rattle.std.specs.Option.{option_map}
use Rattle.std.proofs.lemmas.Bool.{eqb-true, le-leb, leb-true}
use Rattle.xfs_base.specs.declared.fragment.FragMeta.{FragMeta}
use Rattle.xfs_base.specs.declared.news.SlotNews.{SlotNews}
use Rattle.xfs_base.specs.declared.segment.End.{End}
use Rattle.xfs_base.specs.declared.segment.LogId.{LogId}
use Rattle.xfs_base.specs.declared.segment.SegName.{SegName}
use Rattle.xfs_base.proofs.Booleans.{contrary, by_test, and_first, and_second, not_true, equal_itself}
use Rattle.segment_format.specs.declared.segment.Segment.{Segment}
use Rattle.group_map.specs.declared.group.Group.{Group}
use Rattle.group_map.specs.GroupMapState.{GroupMapState}
use Rattle.group_map.specs.Groups.{group_of}
use Rattle.segment_reading.specs.Reading.{ReadingState, is_asking}
use Rattle.stripe_code.specs.declared.round.Told.{Told}
use Rattle.stripe_code.specs.declared.round.Told.TheVariants as told
use Rattle.log_scan.specs.declared.input.In.TheVariants.{Welcome, Fenced, Got, Missing, Maps, Tick}
use Rattle.log_scan.specs.declared.listing.Listing.{Listing}
use Rattle.log_scan.specs.declared.opening.Opening.{Opening}
use Rattle.log_scan.specs.declared.output.Out.TheVariants.{Hello}
use Rattle.log_scan.specs.declared.stage.Backward.{Backward}
use Rattle.log_scan.specs.declared.stage.Stage.{Stage}
use Rattle.log_scan.specs.declared.stage.Stage.TheVariants.{Hails, Gathers, Asks, Reads, Over}
use Rattle.log_scan.specs.Pick.{counting, newest, is_torn, has_list, start_in, start_from, end_at, end_before, end_of_none}
use Rattle.log_scan.specs.Transition.{Done, goes, stays, can_ask, asks_anew, least_horizon, opening_rise, name_at, is_bottom, backward_from, backward_told, backward_fetch, opening_follow, awaits_welcome, server_count, awaits, awaited, opening_gather, picks_at, opening_pick, confirms_by, opening_confirm, opening_welcome, on_welcome, with_list, opening_list, on_fenced, opening_read, opening_hear, on_told, on_tick}
use Rattle.log_protocol.specs.Phase
use Rattle.log_protocol.specs.LogLaws.{Reached}
use Rattle.log_protocol.specs.OpeningSteps.{begins, picks_none, picks_kept, picks_prior, cuts}
use Rattle.log_protocol.specs.Packets.{FencedPacket}
use Rattle.log_protocol.specs.ServerSteps.{learns, fences}
use Rattle.log_protocol.specs.State.{State}
use Rattle.log_protocol.specs.Step.{Steps}
use Rattle.log_protocol.specs.Step.Step.{Learns, Picks_none, Picks_kept, Picks_prior, Cuts, Begins, Fences}
use Rattle.log_protocol.specs.Step.Steps.{Done as Still, More}
use Rattle.log_protocol.specs.Tables.{In}
use Rattle.log_protocol.proofs.Induction.{always}
use Rattle.log_tie.specs.Setting.{Setting, present_at, point}
use Rattle.log_tie.specs.Seen.{Page, Book, Fixed, ByOwner, Goes}
use Rattle.log_tie.specs.Openings.{Chained}
use Rattle.log_tie.specs.Rounds.{IsSpelled, IsGrouped}
use Rattle.log_tie.specs.Scans.{Asked, WholeMap, Answered, FencedSeen, ListKept, AllListed, Phantom, Mapped, Gathering, Asking, LooksFor, ReadingShown, StageShown, ScanShown, Scanned, BooksNothing, PicksAtHorizon, ScanTakes, ScanStarts}
use Rattle.log_tie.proofs.Names.{one_number, coded, point_some}
use Rattle.log_tie.proofs.Listings.{range_has, none_filtered, has_more, torn_lacks}
use Rattle.log_tie.proofs.Picks.{list_of, picks_nothing, Best, the_best, keeps_it, discards_it, nothing_newest}
use Rattle.log_tie.proofs.Reading.{Sees, Framed, sees_still, sees_fences, sees_fetches, sees_again, asks_new, chain_told, round_shown, follows_shown, answer_seen, confirm_seen}
use Rattle.log_tie.proofs.Rounds.{ToldSeen}

-- a list more
all_more : (g : Setting) (w : State) (book : ℕ → Segment) (bound : ℕ) (ls : List Listing) (l : Listing) → AllListed g w book bound ls
    → ListKept g w book bound l [] → has_list l.server ls ≡ false → AllListed g w book bound (ls ++ l ∷ [])
all_more g w book bound [] l all k fresh = (k, tt)
all_more g w book bound (x ∷ xs) l all k fresh = (
  record { seen = all.0.seen; past = all.0.past; exists = all.0.exists; only = has_more xs l x.server all.0.only other },
  all_more g w book bound xs l all.1 k (rest (x.server == l.server) fresh),
)
  where
    rest : (t : Bool) → (t || has_list l.server xs) ≡ false → has_list l.server xs ≡ false
    rest true h = contrary (sym h)
    rest false h = h

    first : (t : Bool) → (t || has_list l.server xs) ≡ false → t ≡ false
    first true h = h
    first false h = refl

    other : l.server ≡ x.server → ⊥
    other e = contrary (sym (first (x.server == l.server) fresh) ∙ (ap (λ z. x.server == z) e ∙ equal_itself x.server))

module _ (g : Setting) (w : State) (book : ℕ → Segment) (hellos : List Asked) (fixed : Fixed g w) (reached : Reached w) (paged : Book g w book)
    (spelled : IsSpelled g book w.booked) where
  abbrev To : Done → Type 0
  To d = Goes g w book (λ v later. Scanned g v later hellos d.state d.outs × BooksNothing w v × PicksAtHorizon w v) []

  -- by these steps
  goes_by : (v : State) (d : Done) → Steps w v → ByOwner g w v book book → BooksNothing w v → PicksAtHorizon w v → Book g v book → v.end ≡ w.end
      → Sees g v book hellos d → To d
  goes_by v d steps by back picks pages same shows =
      record {
        world = v;
        later = book;
        steps = steps;
        frame = by;
        fresh = λ x fact. inl (back x fact);
        paged = pages;
        shows = (shows, back, picks);
        said = tt;
        end_follows = inl same;
      }

  -- nothing was picked
  no_pick : (v : State) → v.phase ≡ w.phase → v.pick_low ≡ w.pick_low → PicksAtHorizon w v
  no_pick v same low = record { begins = λ a b. absurd (clash a b same); stays = λ a. low }
    where
      clash : w.phase ≡ Phase.gathering → v.phase ≡ Phase.reading → v.phase ≡ w.phase → ⊥
      clash a b c = omega arith

  -- by none
  goes_still : (d : Done) → Sees g w book hellos d → To d
  goes_still d shows =
      goes_by w d Still (record {
        others = refl;
        booked = λ x fact. fact;
        segment = λ x fact. refl;
        stores = λ p fact. fact;
        filed = λ x fact. fact;
        calm = λ none c. c;
      })
      (λ x fact. fact) (no_pick _ refl refl) paged refl shows

  framed_of : (o : Opening) (stage : Stage) → ScanShown g w book hellos (record { opening = o; stage = stage }) → Framed g w book hellos o
  framed_of o stage h = record { log = h.log; inc = h.inc; horizon = h.horizon; asked = h.asked }

  -- ---- a map is learned

  module _ (m : GroupMapState) (whole : WholeMap g w.registry_generation m) where
    abbrev learned : State
    learned = learns w (present_at m)

    learning : Steps w learned
    learning = More Still (Learns (present_at m) (record { known = whole.seen.past }))

    goes_learned : (d : Done) → Sees g learned book hellos d → To d
    goes_learned d shows =
        goes_by learned d learning
        (record { others = refl; booked = λ x fact. fact; segment = λ x fact. refl; stores = λ p fact. fact; filed = λ x fact. fact; calm = λ none c. c })
        (λ x fact. fact)
        (no_pick _ refl refl) paged refl shows

    mapped_there : Mapped g learned (Some m)
    mapped_there = record { map = m; taken = refl; whole = whole; known = λ u. refl }

    phantom_there : Phantom w → Phantom learned
    phantom_there p = record { generation = p.generation; listed = p.listed; nothing = p.nothing; sent = p.sent }

    kept_there : (bound : ℕ) (ls : List Listing) → AllListed g w book bound ls → AllListed g learned book bound ls
    kept_there bound [] all = tt
    kept_there bound (l ∷ ls) all = (
      record {
        seen = record { low = all.0.seen.low; listed = all.0.seen.listed; sent = all.0.seen.sent; lists = all.0.seen.lists; whole = all.0.seen.whole };
        past = all.0.past;
        exists = all.0.exists;
        only = all.0.only;
      },
      kept_there bound ls all.1,
    )

    gathering_there : (o : Opening) (bound : ℕ) (ls : List Listing) → Gathering g w book o bound ls
        → Gathering g learned book (record o { groups = Some m }) bound ls
    gathering_there o bound ls k = record { phase = k.phase; phantom = phantom_there k.phantom; mapped = mapped_there; kept = kept_there bound ls k.kept }

    chained_there : (highest x : ℕ) (ts : List Segment) → Chained g w book highest x ts → Chained g learned book highest x ts
    chained_there highest x [] h = h
    chained_there highest x (t ∷ ts) h = (h.0, h.1, h.2, h.3, h.4, chained_there highest h.0 ts h.5)

    reading_there : (o : Opening) (b : Backward) → ReadingShown g w book o b → ReadingShown g learned book (record o { groups = Some m }) b
    reading_there o b h =
        record {
          phase = h.phase;
          mapped = mapped_there;
          base = h.base;
          begun = h.begun;
          opening = h.opening;
          low = h.low;
          past = h.past;
          from = h.from;
          chained = chained_there _ _ _ h.chained;
          seq = h.seq;
          grouped = h.grouped;
        }

    framed_there : (o : Opening) → Framed g w book hellos o → Framed g learned book hellos (record o { groups = Some m })
    framed_there o f = record { log = f.log; inc = f.inc; horizon = f.horizon; asked = f.asked }

    stage_there : (o : Opening) (stage : Stage) → StageShown g w book hellos o stage → StageShown g learned book hellos (record o { groups = Some m }) stage
    stage_there o Hails h = (h.0, phantom_there h.1)
    stage_there o (Gathers lists) h = gathering_there o w.low lists h
    stage_there o (Asks lists) h = record {
      bound = h.bound;
      gathering = gathering_there o h.bound lists h.gathering;
      every = h.every;
      past = h.past;
      begun = h.begun;
      no_older = h.no_older;
    }
    stage_there o (Reads b r) h = (reading_there o b h.0, h.1, h.2)
    stage_there o Over h = h

    maps_goes : (o : Opening) (stage : Stage) → ScanShown g w book hellos (record { opening = o; stage = stage })
        → To (stays (record o { groups = Some m }) stage)
    maps_goes o stage h =
        goes_learned (stays (record o { groups = Some m }) stage)
        (sees_still g learned book hellos (record o { groups = Some m }) stage (framed_there o (framed_of o stage h)) (stage_there o stage h.stage))

    -- ---- a Welcome

    module _ (o : Opening) (least : ℕ) (f : Framed g w book hellos o) (known : least ≤ w.low) where
      -- the horizon rises
      abbrev risen : Opening
      risen = opening_rise (record o { groups = Some m }) least

      risen_known : max o.low least ≤ w.low
      risen_known = let a = f.horizon in omega arith

      -- the first one
      gathers_goes : StageShown g w book hellos o Hails → To (opening_gather (record o { groups = Some m }))
      gathers_goes h =
          goes_learned (opening_gather (record o { groups = Some m }))
          (sees_fences g learned book hellos (record o { groups = Some m }) (Gathers []) (awaited (Some m) []) (framed_there o f)
          (record { phase = h.0; phantom = phantom_there h.1; mapped = mapped_there; kept = tt }))

      -- a later one: reading back is cut
      abbrev cut : State
      cut = cuts learned (max o.low least)

      module _ (b : Backward) (h : ReadingShown g w book o b) where
        cut_reading : ReadingShown g cut book risen b
        cut_reading = record {
          phase = h.phase;
          mapped = record { map = m; taken = refl; whole = whole; known = λ u. refl };
          base = h.base;
          begun = h.begun;
          opening = h.opening;
          low = refl;
          past = (let a = h.past in let c = h.low in omega arith);
          from = h.from;
          chained = chained_cut _ _ _ h.chained;
          seq = h.seq;
          grouped = h.grouped;
        }
          where
            chained_cut : (highest x : ℕ) (ts : List Segment) → Chained g w book highest x ts → Chained g cut book highest x ts
            chained_cut highest x [] h = h
            chained_cut highest x (t ∷ ts) h = (h.0, h.1, h.2, h.3, h.4, chained_cut highest h.0 ts h.5)

        cut_framed : Framed g cut book hellos risen
        cut_framed = record { log = f.log; inc = f.inc; horizon = risen_known; asked = f.asked }

        goes_cut : (d : Done) → Sees g cut book hellos d → To d
        goes_cut d shows = goes_by cut d (More learning (Cuts (max o.low least) (record { rises = (let a = h.low in omega arith); known = risen_known })))
            (record {
              others = refl;
              booked = λ x fact. fact;
              segment = λ x fact. refl;
              stores = λ p fact. fact;
              filed = λ x fact. fact;
              calm = λ none c. c;
            }) (λ x fact. fact)
            (no_pick _ refl refl) paged refl shows

        cut_fixed : Fixed g cut
        cut_fixed = record { servers = fixed.servers; seq_of = fixed.seq_of; incarnation_of = fixed.incarnation_of; attempt_of = fixed.attempt_of }

        cut_reached : Reached cut
        cut_reached =
            record {
              names = reached.names;
              run = More (More reached.run (Learns (present_at m) (record { known = whole.seen.past })))
                  (Cuts (max o.low least) (record { rises = (let a = h.low in omega arith); known = risen_known }));
            }

        confirms_shown : (r : Option ReadingState) → is_bottom risen.low b.next ≡ false → LooksFor g book w.booked b.next r
            → Sees g cut book hellos (confirms_by risen b r)
        confirms_shown None more looks = round_shown g cut book hellos risen b cut_framed cut_reading more
        confirms_shown (Some r) more looks = confirm_seen g cut book hellos cut_fixed paged cut_reached spelled risen b r cut_framed cut_reading more looks

        confirms_goes : (r : Option ReadingState) → LooksFor g book w.booked b.next r → To (opening_confirm risen b r)
        unfolding opening_confirm
        confirms_goes r looks = by_test To (is_bottom risen.low b.next) (goes risen Over (backward_told b ∷ [])) (confirms_by risen b r)
            (λ t. goes_cut (goes risen Over (backward_told b ∷ [])) (chain_told g cut book hellos risen b cut_framed cut_reading t))
            (λ t. goes_cut (confirms_by risen b r) (confirms_shown r t looks))

      -- the one that counts: it is picked where the log goes on
      module _ (lists : List Listing) (k : Asking g w book hellos o lists) (after : k.bound ≤ least) where
        learned_fixed : Fixed g learned
        learned_fixed = record { servers = fixed.servers; seq_of = fixed.seq_of; incarnation_of = fixed.incarnation_of; attempt_of = fixed.attempt_of }

        learned_reached : Reached learned
        learned_reached = record { names = reached.names; run = More reached.run (Learns (present_at m) (record { known = whole.seen.past })) }

        gathering : Gathering g learned book risen k.bound lists
        gathering = record {
          phase = k.gathering.phase;
          phantom = phantom_there k.gathering.phantom;
          mapped = mapped_there;
          kept = kept_there k.bound lists k.gathering.kept;
        }

        later : k.bound ≤ max o.low least
        later = let a = after in omega arith

        low_some : 1 ≤ max o.low least
        low_some = let a = (always w reached).shelf.horizons.begin_some in let b = k.begun in let c = later in omega arith

        abbrev lists_of : ℕ → FencedPacket
        lists_of = list_of g learned book learned_fixed paged learned_reached m whole k.bound
            (max o.low least) lists gathering.kept gathering.phantom k.every k.begun later risen_known

        abbrev BestOne : FragMeta → Type 0
        BestOne b = Best g learned book learned_fixed paged learned_reached m whole k.bound
            (max o.low least) lists gathering.kept gathering.phantom k.every k.begun later risen_known b

        -- from a start
        from_start : (v : State) (start : End) → Steps w v → ByOwner g w v book book → BooksNothing w v → Book g v book → v.end ≡ w.end → v.phase ≡ Phase.reading
            → Mapped g v (Some m) → v.base ≡ point g start.seq start.pass → v.opening_seq ≡ start.seq + 1 → v.read_low ≡ max o.low least
            → v.pick_low ≡ v.read_low
            → v.incarnation ≡ w.incarnation → v.low ≡ w.low → IsGrouped g book v.booked start → To (opening_follow risen (backward_from start))
        from_start v start steps by back pages end phase mapped base opening low picked inc horizon grouped =
            goes_by v (opening_follow risen (backward_from start)) steps by back
            (record { begins = λ a b. picked; stays = λ a. absurd (let p = k.gathering.phase in omega arith) }) pages end
            (follows_shown g v book hellos risen (backward_from start)
            (record { log = f.log; inc = f.inc ∙ sym inc; horizon = (let a = risen_known in omega arith); asked = λ a fact boot. f.asked a fact (boot ∙ inc) })
            (record {
              phase = phase;
              mapped = mapped;
              base = base;
              opening = opening;
              low = low;
              past = omega arith;
              from = tt;
              chained = sym base;
              seq = omega arith;
              grouped = grouped;
              begun = grouped;
            }))

        none_goes : counting (max o.low least) lists ≡ [] → To (opening_follow risen (backward_from (end_of_none (max o.low least - 1))))
        none_goes none = from_start (picks_none learned (max o.low least)) (end_of_none (max o.low least - 1))
            (More learning
            (Picks_none lists_of (max o.low least)
            (picks_nothing g learned book learned_fixed paged learned_reached m whole k.bound
            (max o.low least) lists gathering.kept gathering.phantom k.every k.begun later risen_known gathering.phase none)))
            (record { others = refl; booked = λ x fact. fact; segment = λ x fact. refl; stores = λ p fact. fact; filed = λ x fact. fact; calm = λ none c. c })
            (λ x fact. fact) paged refl refl (record { map = m; taken = refl; whole = whole; known = λ u. refl }) refl
            (let a = low_some in omega arith) refl refl refl refl none_named
          where
            none_named : IsGrouped g book w.booked (end_of_none (max o.low least - 1))
            none_named y fact named = let a = (paged y fact).boot in let b = ap (λ (n : SegName). n.pass.inc) named in absurd (omega arith)

        module _ (b : FragMeta) (one : BestOne b) (group : Group) (of : group_of m b.group ≡ Some group) where
          page : Page g one.number (book one.number) (w.text_of one.number) (w.member_count one.number) (w.member_server one.number)
              (w.member_generation one.number) (w.prior_of one.number) (w.content_of one.number)
          page = paged one.number one.booked

          some_inc : 0 < b.name.pass.inc
          some_inc = subst (λ (z : FragMeta). 0 < z.name.pass.inc) (sym one.describes) page.boot

          seq : w.seq_of one.number ≡ b.name.seq
          seq = ap (λ t. t one.number) fixed.seq_of ∙ sym (ap (λ (z : SegName). z.seq) one.named)

          kept_grouped : IsGrouped g book w.booked (end_at b)
          kept_grouped y fact named =
              let same : y ≡ one.number =
              one_number g y one.number
              (sym (paged y fact).named ∙ (named ∙ ap (λ (n : SegName). name_at g.log (record { seq = n.seq; pass = n.pass; group = b.group })) one.named)) in
              ap (λ z. (book z).group) same ∙ ap (λ (z : FragMeta). z.group) (sym one.describes)

          prior_grouped : IsGrouped g book w.booked (end_before b)
          prior_grouped y fact named =
              spelled.grouped one.number y one.booked fact (named ∙ ap (λ (z : FragMeta). name_at g.log (end_before z)) one.describes)
              ∙ ap (λ (z : FragMeta). z.prior.group) (sym one.describes)

          kept_goes : is_torn lists b.name group.members ≡ false → To (opening_follow risen (backward_from (end_at b)))
          kept_goes none = from_start (picks_kept learned (max o.low least) one.number) (end_at b)
              (More learning
              (Picks_kept lists_of (max o.low least) one.number
              (keeps_it g learned book learned_fixed paged learned_reached m whole k.bound
              (max o.low least) lists gathering.kept gathering.phantom k.every k.begun later risen_known b one group of gathering.phase none)))
              (record { others = refl; booked = λ x fact. fact; segment = λ x fact. refl; stores = λ p fact. fact; filed = λ x fact. fact; calm = λ none c. c })
              (λ x fact. fact) paged refl refl (record { map = m; taken = refl; whole = whole; known = λ u. refl })
              (sym (point_some g b.name.seq b.name.pass some_inc ∙ (ap (λ (z : SegName). g.code z.seq z.pass.inc z.pass.att) one.named ∙ coded g one.number)))
              (let a = seq in omega arith) refl refl refl refl kept_grouped

          prior_goes : is_torn lists b.name group.members ≡ true → To (opening_follow risen (backward_from (end_before b)))
          prior_goes torn = let l = torn_lacks lists b.name group.members torn in
              from_start (picks_prior learned (max o.low least) one.number) (end_before b)
              (More learning
              (Picks_prior lists_of (max o.low least) one.number l.place
              (discards_it g learned book learned_fixed paged learned_reached m whole k.bound
              (max o.low least) lists gathering.kept gathering.phantom k.every k.begun later risen_known b one group of gathering.phase l)))
              (record { others = refl; booked = λ x fact. fact; segment = λ x fact. refl; stores = λ p fact. fact; filed = λ x fact. fact; calm = λ none c. c })
              (λ x fact. fact) paged refl refl (record { map = m; taken = refl; whole = whole; known = λ u. refl })
              (page.follows ∙ ap (λ (z : FragMeta). point g (z.name.seq - 1) z.prior.pass) (sym one.describes))
              (let a = (always w reached).shelf.priors.seq_some one.number one.booked in let q = seq in omega arith) refl refl refl refl prior_grouped

          start_goes : To (opening_follow risen (backward_from (start_in lists b group)))
          start_goes = by_test (λ (e : End). To (opening_follow risen (backward_from e))) (is_torn lists b.name group.members) (end_before b)
              (end_at b) prior_goes kept_goes

        best_goes : (b : FragMeta) → BestOne b → (found : Option Group) → group_of m b.group ≡ found
            → To (picks_at risen lists (option_map (start_in lists b) found))
        best_goes b one None of =
            goes_learned (asks_anew risen (Asks lists))
            (asks_new g learned book hellos risen lists k.bound
            (record { log = f.log; inc = f.inc; horizon = risen_known; asked = f.asked }) gathering k.every k.past k.begun)
        best_goes b one (Some group) of = start_goes b one group of

        picks_goes : To (opening_pick risen lists)
        unfolding opening_pick
        picks_goes = by (newest (counting (max o.low least) lists)) refl
          where
            by : (n : Option FragMeta) → newest (counting (max o.low least) lists) ≡ n
                → To (picks_at risen lists (start_from (Some m) lists (max o.low least) n))
            by None e = none_goes (nothing_newest (counting (max o.low least) lists) e)
            by (Some b) e =
                best_goes b (the_best g learned book learned_fixed paged learned_reached m whole k.bound
                (max o.low least) lists gathering.kept gathering.phantom k.every k.begun later risen_known b e) (group_of m b.group) refl

    -- one that is awaited
    welcomed_goes : (o : Opening) (stage : Stage) (ask : ℕ) (news : List SlotNews) → ScanShown g w book hellos (record { opening = o; stage = stage })
        → Answered g w hellos ask news → ask ≡ o.ask → To (opening_welcome (record o { groups = Some m }) stage (least_horizon o.log.0 news))
    welcomed_goes o Hails ask news h a same = gathers_goes o 0 (framed_of o Hails h) (omega arith) h.stage
    welcomed_goes o (Gathers lists) ask news h a same = maps_goes o (Gathers lists) h
    welcomed_goes o (Asks lists) ask news h a same =
        let least : least_horizon o.log.0 news ≡ least_horizon g.log.0 news = ap (λ (l : LogId). least_horizon l.0 news) h.log in
        picks_goes o (least_horizon o.log.0 news) (framed_of o (Asks lists) h) (let k = a.known in omega arith) lists h.stage
        (let k = h.stage.no_older a.question a.sent a.own (a.answers ∙ same) in let l = a.later in omega arith)
    welcomed_goes o (Reads b r) ask news h a same =
        let least : least_horizon o.log.0 news ≡ least_horizon g.log.0 news = ap (λ (l : LogId). least_horizon l.0 news) h.log in
        confirms_goes o (least_horizon o.log.0 news) (framed_of o (Reads b r) h) (let k = a.known in omega arith) b h.stage.0 r h.stage.2
    welcomed_goes o Over ask news h a same = maps_goes o Over h

    welcome_goes : (o : Opening) (stage : Stage) (ask : ℕ) (news : List SlotNews) → ScanShown g w book hellos (record { opening = o; stage = stage })
        → Answered g w hellos ask news → To (on_welcome o stage ask news m)
    unfolding on_welcome
    welcome_goes o stage ask news h a =
        by_test To ((ask == o.ask) && (can_ask o && awaits_welcome stage)) (opening_welcome (record o { groups = Some m }) stage (least_horizon o.log.0 news))
        (stays o stage)
        (λ t. welcomed_goes o stage ask news h a (eqb-true ask o.ask (and_first (ask == o.ask) (can_ask o && awaits_welcome stage) t)))
        (λ t. goes_still (stays o stage) (sees_still g w book hellos o stage (framed_of o stage h) h.stage))

  -- ---- nothing happens

  rests_goes : (o : Opening) (stage : Stage) → ScanShown g w book hellos (record { opening = o; stage = stage }) → To (stays o stage)
  rests_goes o stage h = goes_still (stays o stage) (sees_still g w book hellos o stage (framed_of o stage h) h.stage)

  -- ---- a list comes

  module _ (o : Opening) (lists : List Listing) (l : Listing) (h : ScanShown g w book hellos (record { opening = o; stage = Gathers lists }))
      (seen : FencedSeen g w book l.server w.incarnation l.generation l.held) where
    count : server_count o.groups ≡ g.servers
    count = let a : server_count o.groups ≡ h.stage.mapped.map.servers = ap server_count h.stage.mapped.taken in let b =
        h.stage.mapped.whole.size in omega arith

    listed_then : (a b c : Bool) → a ≡ true → b ≡ true → (a && (b && not c)) ≡ false → c ≡ true
    listed_then a b true p q e = refl
    listed_then true true false p q e = contrary (sym e)
    listed_then true false false p q e = contrary q
    listed_then false b false p q e = contrary p

    module _ (awaited_now : awaits o.groups lists l.server ≡ true) where
      abbrev longer : List Listing
      longer = lists ++ l ∷ []

      second : (nat_le l.server (server_count o.groups) && not (has_list l.server lists)) ≡ true
      second = and_second (nat_le 1 l.server) (nat_le l.server (server_count o.groups) && not (has_list l.server lists)) awaited_now

      exists : l.server < suc g.servers
      exists = let a =
          leb-true l.server (server_count o.groups) (and_first (nat_le l.server (server_count o.groups)) (not (has_list l.server lists)) second) in let b =
          count in omega arith

      fresh : has_list l.server lists ≡ false
      fresh = not_true (has_list l.server lists) (and_second (nat_le l.server (server_count o.groups)) (not (has_list l.server lists)) second)

      gathering_more : Gathering g w book o w.low longer
      gathering_more = record {
        phase = h.stage.phase;
        phantom = h.stage.phantom;
        mapped = h.stage.mapped;
        kept = all_more g w book w.low lists l h.stage.kept
            (record { seen = seen; past = (always w reached).shelf.lists.fenced_low _ seen.sent; exists = exists; only = refl }) fresh;
      }

      every_one : length (awaited o.groups longer) ≡ 0 → (u : ℕ) → 0 < u → u < suc g.servers → has_list u longer ≡ true
      every_one none u some highest =
          listed_then (nat_le 1 u) (nat_le u (server_count o.groups)) (has_list u longer) (le-leb 1 u (omega arith))
          (le-leb u (server_count o.groups) (let b = count in omega arith))
          (none_filtered (awaits o.groups longer) (range_with_len 1 (server_count o.groups)) u none
          (range_has 1 (server_count o.groups) u (omega arith) (let b = count in omega arith)))

      with_list_goes : To (with_list o longer)
      unfolding with_list
      with_list_goes = by_test To (length (awaited o.groups longer) == 0) (asks_anew o (Asks longer)) (stays o (Gathers longer))
          (λ t. goes_still (asks_anew o (Asks longer))
          (asks_new g w book hellos o longer w.low (framed_of o (Gathers lists) h) gathering_more (every_one (eqb-true (length (awaited o.groups longer)) 0 t))
          (omega arith) (always w reached).shelf.horizons.begin_past))
          (λ t. goes_still (stays o (Gathers longer)) (sees_still g w book hellos o (Gathers longer) (framed_of o (Gathers lists) h) gathering_more))

    listed_goes : To (opening_list o lists l)
    listed_goes =
        by_test To (can_ask o && awaits o.groups lists l.server) (with_list o (lists ++ l ∷ [])) (stays o (Gathers lists))
        (λ t. with_list_goes (and_second (can_ask o) (awaits o.groups lists l.server) t)) (λ t. rests_goes o (Gathers lists) h)

  fenced_goes : (o : Opening) (stage : Stage) (l : Listing) → ScanShown g w book hellos (record { opening = o; stage = stage })
      → FencedSeen g w book l.server w.incarnation l.generation l.held → To (on_fenced o stage l)
  unfolding on_fenced
  fenced_goes o Hails l h seen = rests_goes o Hails h
  fenced_goes o (Gathers lists) l h seen = listed_goes o lists l h seen
  fenced_goes o (Asks lists) l h seen = rests_goes o (Asks lists) h
  fenced_goes o (Reads b r) l h seen = rests_goes o (Reads b r) h
  fenced_goes o Over l h seen = rests_goes o Over h

  -- ---- a server answers

  module _ (o : Opening) (b : Backward) (r : ReadingState) (ask server : ℕ) (t : Told)
      (h : ScanShown g w book hellos (record { opening = o; stage = Reads b (Some r) })) (seen : ToldSeen g w book paged spelled b.next t) where
    answered_goes : (groups : Option GroupMapState) → To (opening_read o b r groups ask server t)
    answered_goes None = rests_goes o (Reads b (Some r)) h
    answered_goes (Some m) =
        goes_still (opening_read o b r (Some m) ask server t)
        (answer_seen g w book hellos fixed paged reached spelled o b r m ask server t (framed_of o (Reads b (Some r)) h) h.stage.0 h.stage.1 h.stage.2 seen)

    heard_goes : To (opening_hear o b (Some r) ask server t)
    heard_goes = by_test To (can_ask o) (opening_read o b r o.groups ask server t) (stays o (Reads b (Some r))) (λ e. answered_goes o.groups)
        (λ e. rests_goes o (Reads b (Some r)) h)

  told_goes : (o : Opening) (stage : Stage) (ask server : ℕ) (t : Told) → ScanShown g w book hellos (record { opening = o; stage = stage })
      → ((e : End) → ToldSeen g w book paged spelled e t) → To (on_told o stage ask server t)
  unfolding on_told
  told_goes o Hails ask server t h seen = rests_goes o Hails h
  told_goes o (Gathers lists) ask server t h seen = rests_goes o (Gathers lists) h
  told_goes o (Asks lists) ask server t h seen = rests_goes o (Asks lists) h
  told_goes o (Reads b None) ask server t h seen = rests_goes o (Reads b None) h
  told_goes o (Reads b (Some r)) ask server t h seen = heard_goes o b r ask server t h (seen b.next)
  told_goes o Over ask server t h seen = rests_goes o Over h

  -- ---- time

  tick_goes : (o : Opening) (stage : Stage) → ScanShown g w book hellos (record { opening = o; stage = stage }) → To (goes o stage (on_tick o stage))
  unfolding on_tick
  tick_goes o Hails h = goes_still (goes o Hails (Hello o.ask ∷ [])) (sees_again g w book hellos o Hails (framed_of o Hails h) h.stage)
  tick_goes o (Gathers lists) h =
      goes_still (goes o (Gathers lists) (on_tick o (Gathers lists)))
      (sees_fences g w book hellos o (Gathers lists) (awaited o.groups lists) (framed_of o (Gathers lists) h) h.stage)
  tick_goes o (Asks lists) h =
      goes_still (goes o (Asks lists) (Hello o.ask ∷ [])) (sees_again g w book hellos o (Asks lists) (framed_of o (Asks lists) h) (record {
        bound = h.stage.bound;
        gathering = h.stage.gathering;
        every = h.stage.every;
        past = h.stage.past;
        begun = h.stage.begun;
        no_older = after;
      }))
    where
      after : (a : Asked) → In a (record { inc = w.incarnation; ask = o.ask; low = w.low } ∷ hellos) → a.inc ≡ w.incarnation → a.ask ≡ o.ask
          → h.stage.bound ≤ a.low
      after a (inl e) boot same = let k = ap (λ (z : Asked). z.low) e in let p = h.stage.past in omega arith
      after a (inr fact) boot same = h.stage.no_older a fact boot same
  tick_goes o (Reads b None) h =
      goes_still (goes o (Reads b None) (Hello o.ask ∷ [])) (sees_again g w book hellos o (Reads b None) (framed_of o (Reads b None) h) h.stage)
  tick_goes o (Reads b (Some r)) h = by_test (λ outs. To (goes o (Reads b (Some r)) outs)) (is_asking r.stage) (backward_fetch r) (Hello o.ask ∷ [])
      (λ t. goes_still (goes o (Reads b (Some r)) (backward_fetch r)) (sees_fetches g w book hellos o b r (framed_of o (Reads b (Some r)) h) h.stage))
      (λ t. goes_still (goes o (Reads b (Some r)) (Hello o.ask ∷ []))
      (sees_again g w book hellos o (Reads b (Some r)) (framed_of o (Reads b (Some r)) h) h.stage))
  tick_goes o Over h = rests_goes o Over h

pub scan_takes : ScanTakes
scan_takes g w book hellos s (Welcome ask news groups) fixed reached paged spelled h brings =
    welcome_goes g w book hellos fixed reached paged spelled groups brings.1 s.opening s.stage ask news h brings.0
scan_takes g w book hellos s (Fenced server generation held) fixed reached paged spelled h brings =
    fenced_goes g w book hellos fixed reached paged spelled s.opening s.stage (record { server = server; generation = generation; held = held }) h brings
scan_takes g w book hellos s (Got ask server generation fragment) fixed reached paged spelled h brings =
    told_goes g w book hellos fixed reached paged spelled s.opening s.stage ask server (told.Held fragment) h (λ e. brings)
scan_takes g w book hellos s (Missing ask server generation) fixed reached paged spelled h brings =
    told_goes g w book hellos fixed reached paged spelled s.opening s.stage ask server (told.Missing generation) h (λ e. tt)
scan_takes g w book hellos s (Maps groups) fixed reached paged spelled h brings =
    maps_goes g w book hellos fixed reached paged spelled groups brings s.opening s.stage h
scan_takes g w book hellos s Tick fixed reached paged spelled h brings = tick_goes g w book hellos fixed reached paged spelled s.opening s.stage h

pub scan_starts : ScanStarts
scan_starts g w book hellos fixed reached paged down nobody old = record {
  world = v;
  steps = More (More Still (Begins (record { down = down }))) (Fences 0 (suc w.incarnation) (record { begun = omega arith }));
  incarnation = refl;
  fixed = record { servers = fixed.servers; seq_of = fixed.seq_of; incarnation_of = fixed.incarnation_of; attempt_of = fixed.attempt_of };
  paged = paged;
  shown = record {
    log = refl;
    inc = refl;
    horizon = some;
    asked = asked;
    stage = (refl, record { generation = w.generation 0; listed = w.holds 0; nothing = nobody; sent = inl refl });
  };
}
  where
    v : State
    v = fences (begins w) 0 (suc w.incarnation)

    some : 1 ≤ w.low
    some = let a = (always w reached).shelf.horizons.begin_some in let b = (always w reached).shelf.horizons.begin_past in omega arith

    asked : (a : Asked) → In a hellos → a.inc ≡ suc w.incarnation → a.ask ≤ 1
    asked a fact boot = let k = old a fact in absurd (omega arith)
