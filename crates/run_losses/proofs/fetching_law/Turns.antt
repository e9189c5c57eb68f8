-- What each thing that comes of an event makes of what the open call of a client that serves reads, and what is said in it.
use Rattle.std.proofs.Common.{◌≡◌, ◌⊎◌, ◌<◌, true, false, List, [], Option, Some, None, is_none, refl, sym, ap, subst, ◌∙◌, inl, inr}
use Rattle.std.specs.Prelude.{nat_lt}
use Rattle.xfs_base.proofs.Booleans.{by_test, contrary}
use Rattle.client_call.specs.declared.call.Call.{Call}
use Rattle.client_call.specs.Reads.{fetch_again, fetches, is_fetched, kept_while, reading_in, set_reading, target_of}
use Rattle.client_moves.specs.Moves.{Accepts, Heard, Reads, Turn, asked_again, grant_taken, granted, heard, heard_step}
use Rattle.client_moves.specs.Moves.Reads.{Begins as StartsOver, Confirms, NoCall, Unknown}
use Rattle.client_moves.specs.Moves.Turn.{AsksForMaps, FetchesAgain, Goes, Grants, Hears, HearsShort, ReadsOn, Refused, Shows, Stays, TakesMaps}
use Rattle.client_serving.specs.declared.serving.Serving.{Serving}
use Rattle.client_serving.specs.Packets.{asks_for_maps, is_gone}
use Rattle.client_serving.specs.Reads.{ask_after, confirmed_by, drawn_after, draws, lose_at, loses, serving_confirm, with_reading}
use Rattle.client_serving.specs.Sends.{Done}
use Rattle.log_owner.specs.Sending.{fetch}
use Rattle.node_base.specs.Asking.{next_ask}
use Rattle.node_base.specs.declared.effects.Effect.{Effect}
use Rattle.node_moves.specs.server_moves.Moves.{Came}
use Rattle.run_laws.proofs.place_law.Aims.{target_exact}
use Rattle.run_losses.proofs.missing_law.Readings.{answer_keeps_target}
use Rattle.segment_reading.specs.declared.reading.Next.TheVariants.{Again}
use Rattle.segment_reading.specs.declared.reading.Stage.{Stage}
use Rattle.segment_reading.specs.declared.reading.Stage.TheVariants.{Asking, Between, Doubted, Over}
use Rattle.segment_reading.specs.declared.target.BlockAt.{BlockAt}
use Rattle.segment_reading.specs.declared.target.Target.{Target}
use Rattle.segment_reading.specs.Reading.{ReadingState, on_confirmed, reading_start, reading_unanswered}
use Rattle.segment_reading.specs.Reading as rounds
use Rattle.token_client.specs.declared.input.In.TheVariants as input
use Rattle.token_client.specs.State.{TokensState}
use Rattle.token_client.specs.Transition as client
use Rattle.version_model.specs.declared.answer.Answer.TheVariants as answer
use Rattle.wire_msg.specs.declared.body.Body.TheVariants as body
use Rattle.wire_msg.specs.declared.packet.Do.{Do}
use Rattle.wire_msg.specs.declared.packet.Packet.{Packet}
use Rattle.wire_msg.specs.declared.tokens.Gone.{Gone}
use Rattle.wire_msg.specs.declared.tokens.Grant.{Grant}
use Rattle.xfs_base.specs.declared.entry.Place.{Place}
use Rattle.xfs_base.specs.Limits.{u32_end}
use Rattle.xfs_base.proofs.Alls.{all_append, all_map}
use Rattle.run_losses.specs.fetching_law.Fetchings.{Confirms as Confirmation}
use Rattle.run_losses.proofs.fetching_law.Following.{Less, answered_quiet, call_less, kept_less, moves_follow, same_call}
use Rattle.run_losses.proofs.fetching_law.Turning.{AllSay, Begins, Comes, Resumes, Says, Turns, WaitsFor, all_quiet_say, all_say_less, read_before, turn_follows}
use Rattle.run_losses.proofs.fetching_law.Wants.{Anew, Lasts, asked_anew, granted_on, same_wants, takes_on}

-- ---- a call that reads this

one_reading : (x y : ReadingState) → Some x ≡ Some y → x ≡ y
one_reading x y fact = cc

call_reads : (call : Option Call) (o : Option ReadingState) (q : ReadingState) → reading_in (set_reading call o) ≡ Some q → o ≡ Some q
call_reads None o q fact = absurd (let clash : None ≡ Some q = fact in cc)
call_reads (Some call) o q fact = fact

is_that : (call : Option Call) (x r : ReadingState) → reading_in (set_reading call (Some x)) ≡ Some r → r ≡ x
is_that call x r fact = sym (one_reading x r (call_reads call (Some x) r fact))

no_reading : (call : Option Call) (r : ReadingState) → reading_in (set_reading call None) ≡ Some r → ⊥
no_reading call r fact = absurd (let clash : None ≡ Some r = call_reads call None r fact in cc)

-- it is read, where a call is open
read_then : (call : Option Call) (o : Option ReadingState) → Less o (reading_in (set_reading call o))
read_then None o = inr refl
read_then (Some call) o = inl refl

kept_fetched : (tokens : TokensState) (o : Option ReadingState) (q : ReadingState) → kept_while tokens o ≡ Some q → is_fetched tokens q.target.block ≡ true
kept_fetched tokens None q fact = absurd (let clash : None ≡ Some q = fact in cc)
kept_fetched tokens (Some r) q fact =
    by_test (λ (o : Option ReadingState). o ≡ Some q → is_fetched tokens q.target.block ≡ true) (is_fetched tokens r.target.block) (Some r) None
    (λ t same. subst (λ (x : ReadingState). is_fetched tokens x.target.block ≡ true) (one_reading r q same) t)
    (λ _ same. absurd (let clash : None ≡ Some q = same in cc)) fact

module _ (s : Serving) (what : Do) (waits : WaitsFor s) where
  -- fetches of what is read are of its segment
  fetches_say : (x : ReadingState) → AllSay s what (Some x) (fetches x)
  fetches_say x = all_map (Says s what (Some x)) (fetch x.target.seg.name x.ask) (λ server same. refl) (reading_unanswered x)

  fetched_again : (o : Option ReadingState) → AllSay s what o (fetch_again o)
  fetched_again None = tt
  fetched_again (Some r) = fetches_say r

  -- nothing is said, and this is open then, with these tokens
  read_turn : (tokens : TokensState) (call : Option Call) → Lasts s.tokens tokens → (is_none call ≡ false → is_none s.call ≡ false)
      → ((r : ReadingState) → reading_in call ≡ Some r → Comes s what tokens s.lasting.questions.last r)
      → Turns s what (record s { tokens = tokens; call = call }) []
  read_turn tokens call wants opens reading = record {
    draws = inl refl;
    maps = inl refl;
    wants = wants;
    waits = λ some. waits (opens some);
    reading = λ r read. (reading r read, refl);
    says = tt;
  }

  -- a question is drawn, and what is read then is fetched by it
  drawn_turn : (tokens : TokensState) (call : Option Call) (x : ReadingState) → Lasts s.tokens tokens
      → (is_none (set_reading call (Some x)) ≡ false → is_none s.call ≡ false)
      → Resumes s what (next_ask s.lasting.questions) x ⊎ Begins s what (next_ask s.lasting.questions) x
      → Turns s what (draws (record s { tokens = tokens; call = set_reading call (Some x) })) (fetches x)
  drawn_turn tokens call x wants opens comes = record {
    draws = inr refl;
    maps = inl refl;
    wants = wants;
    waits = λ some. waits (opens some);
    reading = λ r read. (subst (Comes s what tokens (next_ask s.lasting.questions)) (sym (is_that call x r read)) (inr (inr comes)), refl);
    says = all_say_less s what (Some x) (reading_in (set_reading call (Some x))) (read_then call (Some x)) (fetches x) (fetches_say x);
  }

  pub stays_turn : Turns s what s []
  stays_turn = read_turn s.tokens s.call (same_wants s.tokens) (λ some. some) (λ r read. inl read)

  maps_asked : Turns s what (asks_for_maps s).state (asks_for_maps s).outs
  unfolding asks_for_maps
  maps_asked = record {
    draws = inr refl;
    maps = inl refl;
    wants = same_wants s.tokens;
    waits = waits;
    reading = λ r read. (inl read, refl);
    says = (tt, tt);
  }

  refused : (packet : Packet) (m : Gone) → Came what packet (body.Gone m) → is_gone s m ≡ true
      → Turns s what (loses s m.block m.seg).state (loses s m.block m.seg).outs
  unfolding loses
  refused packet m came meant = record {
    draws = inl refl;
    maps = inl refl;
    wants = takes_on s.tokens (input.Quit m.block) tt;
    waits = λ some. contrary (sym some);
    reading = λ r read. absurd (let clash : None ≡ Some r = read in cc);
    says = (
      inl (record { packet = packet; delivers = came.event; gone = m; bears = came.says; names = refl; meant = meant }),
      all_quiet_say s what None _ (answered_quiet s.lasting.items.unanswered (answer.Lost m.seg)),
    );
  }

  reads_on : (x : ReadingState) → reading_in s.call ≡ Some x → Turns s what (with_reading s (Some x)) []
  reads_on x was =
      read_turn s.tokens (set_reading s.call (Some x)) (same_wants s.tokens) (λ some. sym (same_call s.call (Some x)) ∙ some)
      (λ r read. inl (was ∙ ap Some (sym (is_that s.call x r read))))

  -- ---- a grant

  module _ (packet : Packet) (m : Grant) (came : Came what packet (body.Grant m)) (accepted : Accepts s m) where
    abbrev g : Serving
    g = granted s m

    opened : is_none g.call ≡ false → is_none s.call ≡ false
    opened some = sym (same_call s.call (kept_while (grant_taken s m) (reading_in s.call))) ∙ some

    opened_by : (o : Option ReadingState) → is_none (set_reading g.call o) ≡ false → is_none s.call ≡ false
    opened_by o some = opened (sym (same_call g.call o) ∙ some)

    opened_then : (o : Option ReadingState) → is_none (set_reading (set_reading g.call None) o) ≡ false → is_none s.call ≡ false
    opened_then o some = opened_by None (sym (same_call (set_reading g.call None) o) ∙ some)

    was_read : (r : ReadingState) → reading_in g.call ≡ Some r → reading_in s.call ≡ Some r
    was_read =
        read_before s what (reading_in s.call) (reading_in g.call)
        (call_less s.call (kept_while (grant_taken s m) (reading_in s.call)) (kept_less (grant_taken s m) (reading_in s.call)))

    wanted : Lasts s.tokens (grant_taken s m)
    wanted = granted_on s.tokens m.block m.stamp m.mode m.entry

    grants : Turns s what g []
    grants = read_turn (grant_taken s m) g.call wanted opened (λ r read. inl (was_read r read))

    module _ (fresh : s.lasting.questions.last < next_ask s.lasting.questions) (place : Place) (lies : m.entry.place ≡ Some place) where
      -- a call without a reading
      abbrev unread : Serving
      unread = with_reading g None

      unknown : Turns s what unread []
      unknown = read_turn (grant_taken s m) unread.call wanted (opened_by None) (λ r read. absurd (no_reading g.call r read))

      module _ (x : ReadingState) (reads_it : reading_in g.call ≡ Some x) (same : x.target ≡ target_of m.block place) where
        abbrev Confirmed : Done → Type 0
        Confirmed d = Turns s what d.state d.outs

        abbrev confirmation : Confirmation what x
        confirmation = record { packet = packet; delivers = came.event; grant = m; bears = came.says; place = place; lies = lies; reads = same }

        -- it is read on as it was
        waits_on : Turns s what (with_reading unread (Some x)) []
        waits_on =
            read_turn (grant_taken s m) (set_reading unread.call (Some x)) wanted (opened_then (Some x))
            (λ r read. inl (was_read x reads_it ∙ ap Some (sym (is_that unread.call x r read))))

        resumes : x.stage ≡ Between → Confirmed (confirmed_by (draws unread) (rounds.goes_on x (next_ask s.lasting.questions) Between))
        resumes between =
            let y : ReadingState = (rounds.goes_on x (next_ask s.lasting.questions) Between).state in
            drawn_turn (grant_taken s m) unread.call y wanted (opened_then (Some y))
            (inl (record { was = x; reads = was_read x reads_it; between = between; confirms = confirmation; fresh = fresh; now = refl }))

        lost : x.stage ≡ Doubted → (at : Option BlockAt) → Confirmed (lose_at unread at x.target.seg.name)
        unfolding loses
        lost doubted None = unknown
        lost doubted (Some at) = record {
          draws = inl refl;
          maps = inl refl;
          wants = λ k inc highest epoch l. takes_on g.tokens (input.Quit at.block) tt k inc highest epoch (wanted k inc highest epoch l);
          waits = λ some. contrary (sym some);
          reading = λ r read. absurd (let clash : None ≡ Some r = read in cc);
          says = (
            inr (record {
              was = x;
              reads = was_read x reads_it;
              doubted = doubted;
              named = refl;
              confirms = confirmation;
              accepted = accepted;
            }),
            all_quiet_say s what None _ (answered_quiet s.lasting.items.unanswered (answer.Lost x.target.seg.name)),
          );
        }

        confirms_at : (stage : Stage) → x.stage ≡ stage
            → Confirmed (confirmed_by (drawn_after unread stage) (rounds.goes_on x (ask_after unread x.ask stage) stage))
        confirms_at Asking stands = waits_on
        confirms_at Between stands = resumes stands
        confirms_at Doubted stands = lost stands x.target.block
        confirms_at Over stands = waits_on

        confirms : Confirmed (serving_confirm unread x)
        unfolding serving_confirm on_confirmed
        confirms = confirms_at x.stage refl

      shows : (t : Serving) (o : List Effect) → Reads g (target_of m.block place) t o → Turns s what t o
      shows t o (NoCall none) = grants
      shows t o Unknown = unknown
      shows t o (StartsOver group known) =
          let x : ReadingState = reading_start (target_of m.block place) group (next_ask s.lasting.questions) in
          drawn_turn (grant_taken s m) unread.call x wanted (opened_then (Some x))
          (inr (record {
            target = target_of m.block place;
            block = record { item = place.item; block = m.block };
            looks = refl;
            group = group;
            known = known;
            fresh = fresh;
            now = refl;
          }))
      shows t o (Confirms r read same) = confirms r read (target_exact r.target m.block place same)

  -- ---- a server answers

  module _ (h : Heard what s) where
    abbrev now : ReadingState
    now = (heard_step what s h).state

    abbrev u : Serving
    u = heard what s h

    hears : ((heard_step what s h).next ≡ Again → ⊥) → Turns s what u []
    hears other =
        read_turn s.tokens u.call (same_wants s.tokens) (λ some. sym (same_call s.call (Some now)) ∙ some)
        (λ q read. inr (inl (record { heard = h; now = is_that s.call now q read; again = λ again. absurd (other again) })))

    -- its place is asked for again
    module _ (room : nat_lt s.tokens.req u32_end ≡ true) where
      abbrev asked : TokensState
      asked = (client.transition s.tokens (input.Reask h.at.block)).state

      abbrev v : Serving
      v = asked_again u h.at.block

      module _ (q : ReadingState) (read : reading_in v.call ≡ Some q) where
        kept_so : kept_while asked (reading_in u.call) ≡ Some q
        kept_so = call_reads u.call (kept_while asked (reading_in u.call)) q read

        that : q ≡ now
        that = is_that s.call now q (read_before s what (reading_in u.call) (kept_while asked (reading_in u.call)) (kept_less asked (reading_in u.call)) q kept_so)

        its_block : q.target.block ≡ Some h.at
        its_block =
            ap (λ (y : ReadingState). y.target.block) that
            ∙ (ap (λ (y : Target). y.block) (answer_keeps_target h.was h.groups h.ask h.server h.told).0 ∙ h.block)

        anew : Anew s.tokens h.at.block asked
        anew =
            asked_anew s.tokens h.at.block room
            (subst (λ (o : Option BlockAt). is_fetched asked o ≡ true) its_block (kept_fetched asked (reading_in u.call) q kept_so))

      one_at : (x y : BlockAt) → Some x ≡ Some y → x ≡ y
      one_at x y e = cc

      hears_short : Turns s what v []
      hears_short =
          read_turn asked v.call (takes_on s.tokens (input.Reask h.at.block) tt)
          (λ some. sym (same_call s.call (Some now)) ∙ (sym (same_call u.call (kept_while asked (reading_in u.call))) ∙ some))
          (λ q read.
          inr (inl (record {
            heard = h;
            now = that q read;
            again = λ again other its. subst (λ (y : BlockAt). Anew s.tokens y.block asked) (one_at h.at other (sym h.block ∙ its)) (anew q read);
          })))

  -- ---- all that comes of an event

  module _ (fresh : s.lasting.questions.last < next_ask s.lasting.questions) (room : nat_lt s.tokens.req u32_end ≡ true) where
    pub turns_so : (t : Serving) (o : List Effect) → Turn what s t o → Turns s what t o
    turns_so t o Stays = stays_turn
    turns_so t o (Goes {t = v} {o = first} {m = more} a m) = turn_follows s what v first (turns_so v first a) t more (moves_follow v t more m)
    turns_so t o (FetchesAgain {o = first} a) =
        let b = turns_so t first a in
        record {
          draws = b.draws;
          maps = b.maps;
          wants = b.wants;
          waits = b.waits;
          reading = b.reading;
          says = all_append (Says s what (reading_in t.call)) first (fetch_again (reading_in t.call)) b.says (fetched_again (reading_in t.call));
        }
    turns_so t o (AsksForMaps packet event) = maps_asked
    turns_so t o (TakesMaps packet news brought) = record {
      draws = inl refl;
      maps = inr (record { news = news; packet = packet; brought = brought; now = refl });
      wants = same_wants s.tokens;
      waits = waits;
      reading = λ r read. (inl read, refl);
      says = tt;
    }
    turns_so t o (Refused packet m came meant) = refused packet m came meant
    turns_so t o (Grants packet m came accepted) = grants packet m came accepted
    turns_so t o (Shows packet m place came accepted lies read) = shows packet m came accepted fresh place lies t o read
    turns_so t o (ReadsOn r read) = reads_on r read
    turns_so t o (Hears h other) = hears h other
    turns_so t o (HearsShort h again) = hears_short h room
