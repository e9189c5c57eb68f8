-- What a client does for its scan: its questions under the numbers of the node, its fences and fetches, and the chain that the log starts behind.
use Rattle.std.proofs.Common.{⊎_elim, ◌≡◌, ◌<◌, ◌≤◌, ℕ, ◌+◌, ◌==◌, Bool, true, false, cond, List, [], ◌∷◌, Option, Some, None, nat_lt, refl, sym, subst, ◌∙◌, inl, inr, arith}
use Rattle.std.specs.Prelude.{All, IfSome}
use Rattle.std.specs.List.{AllByRecursion}
use Rattle.std.proofs.lemmas.Bool.Decides.{nat_tests}
use Rattle.std.proofs.lemmas.List.Elements.{All-nil, All-cons, All-append}
use Rattle.std.proofs.lemmas.Bool.{eqb-true}
use Rattle.xfs_base.specs.declared.segment.End.{End}
use Rattle.xfs_base.specs.declared.segment.LogId.{LogId}
use Rattle.xfs_base.specs.declared.segment.Prior.{Prior}
use Rattle.xfs_base.specs.declared.segment.SegName.{SegName}
use Rattle.xfs_base.specs.Limits.{u32_end}
use Rattle.xfs_base.specs.Steps.{still, saying}
use Rattle.segment_format.specs.declared.segment.Segment.{Segment}
use Rattle.group_map.specs.GroupMapState.{GroupMapState}
use Rattle.client_log.specs.declared.input.In.TheVariants as log_in
use Rattle.client_log.specs.LogState.{log_start}
use Rattle.client_log.specs.Transition as log
use Rattle.log_scan.specs.declared.opening.Opening.{Opening}
use Rattle.log_scan.specs.declared.output.Out.{Out}
use Rattle.log_scan.specs.declared.output.Out.TheVariants.{Hello, Fence, Fetch, Chain, Lost}
use Rattle.log_scan.specs.declared.stage.Stage.{Stage}
use Rattle.log_scan.specs.declared.stage.Stage.TheVariants.{Over}
use Rattle.log_scan.specs.Transition as scan
use Rattle.log_owner.specs.declared.known.Known.{Known}
use Rattle.log_owner.specs.declared.opening.Scanning.{Scanning}
use Rattle.log_owner.specs.declared.opening.Settling.{Settling}
use Rattle.log_owner.specs.Opening.{asking, known_scanning, sent_send, scanned, logged, known_write, behind, start_log, settles_over, known_follow, stepped}
use Rattle.log_owner.specs.Sending.{hello, fence}
use Rattle.node_base.specs.Asking.{next_ask, draw, asked_as, drawn_for}
use Rattle.node_base.specs.declared.questions.Asked.{Asked}
use Rattle.node_base.specs.declared.questions.Questions.{Questions}
use Rattle.node_base.specs.Room.{has_room}
use Rattle.node_base.specs.Shape.{is_log}
use Rattle.log_protocol.specs.Tables.{In, put}
use Rattle.log_tie.specs.Seen.{log_filed}
use Rattle.log_tie.specs.Setting.{Setting}
use Rattle.log_law.specs.ReadBack.{ReadsDown}
use Rattle.log_law.specs.Net.{Packet, Told, log_packets, scan_packets, chain_in, first_write, scans_on, after_told, after_scan}
use Rattle.log_law.specs.Net.Packet.{HelloSent, FenceSent}
use Rattle.log_law.specs.Events.{Happens}
use Rattle.log_law.specs.Events.Runs.{Begun, On}
use Rattle.node_logs.specs.node_log_tie.Sight.{AskedBy, Question}
use Rattle.node_logs.specs.node_log_tie.Sight.Question.{Unasked, OfOpening}
use Rattle.node_logs.proofs.node_log_tie.OwnLogs.{own_log}
use Rattle.node_logs.specs.client_log_tie.Owner.{Scene, asker, AsksRegistry, AsksServers, AsksAt, MapCame, Lasts}
use Rattle.node_logs.specs.client_log_tie.Texts.{StaysWritten}
use Rattle.node_logs.proofs.client_log_tie.Texts.{ChainFits}
use Rattle.node_logs.specs.client_log_tie.ClientEvents.{Grown, IsOnce}
use Rattle.node_logs.proofs.client_log_tie.Frames.{ClientDoes}
use Rattle.node_logs.proofs.client_log_tie.Frames.{in_after, in_before}
use Rattle.node_logs.proofs.client_log_tie.Logs.{own_after, written_after}
use Rattle.node_logs.proofs.client_log_tie.OpeningLog.{WentTo, Flew, went_so}
use Rattle.node_logs.proofs.client_log_tie.OpeningTurns.{begins}
use Rattle.node_logs.proofs.client_log_tie.Questions.{ask_no_lower, ask_rises, put_here, put_keeps, put_fresh}

-- by the outcomes of a test that is made in several places
pub by_outcome : (P : Bool → Type 0) (t : Bool) → (t ≡ true → P true) → (t ≡ false → P false) → P t
by_outcome P true f g = f refl
by_outcome P false f g = g refl

-- a number that is drawn later is beyond one that had room
drawn_beyond : (a b : ℕ) → has_room a ≡ true → a ≤ b → a < cond (nat_lt b u32_end) (b + 1) b
drawn_beyond a b room le = grind (arith, nat_tests)

module _ (g : Setting) (c : ℕ) where
  map_more : (w v : Scene) → ((p : Packet) → In p w.net.sent → In p v.net.sent) → (m : Option GroupMapState) → MapCame g c w m → MapCame g c v m
  map_more w v sent None h = tt
  map_more w v sent (Some m) h = sent _ h

  -- an opening of this log in its owner's boot, whose node has room for a further question
  pub record Opens (w : Scene) (its life : ℕ) (k : Known) (q : Questions) (s : Scanning) : Type 0 where
    pub lasts : Lasts g c w its life q.last
    pub log : k.owner.log ≡ g.log
    pub inc : k.owner.inc ≡ w.net.inc
    pub small : is_log k.owner.log.0 ≡ true
    pub came : MapCame g c w k.maps.groups
    pub room : has_room q.last ≡ true
    pub number : s.asked.ask ≤ q.last

  module _ (w : Scene) (its life : ℕ) (k : Known) (q : Questions) (s : Scanning) (h : Opens w its life k q s) where
    -- where the small world takes this step of the scan, the client is seen after it
    abbrev pub Takes : scan.Done → Type 0
    Takes d = ChainFits g w.net d → Happens g w.net (after_scan g w.net s.scan d) → WentTo g c w its life (stepped k q s d)

    -- the small world, where the scan goes on, with what was asked then
    abbrev on : scan.Done → (ℕ → Question) → Scene
    on d t = record { net = scans_on w.net s.scan d; asked = t }

    on_grown : (d : scan.Done) (t : ℕ → Question) → ((j : ℕ) → (w.asked j ≡ Unasked → ⊥) → t j ≡ w.asked j) → Happens g w.net (scans_on w.net s.scan d)
        → Grown g w (on d t)
    on_grown d t keeps happens = record {
      runs = On Begun happens;
      sent = λ p among. in_after (scan_packets w.net.inc d.outs) w.net.sent p among;
      filed = λ name among. among;
      shelves = refl;
      registry = refl;
      low = refl;
      dropped = refl;
      asked = keeps;
    }

    on_once : (d : scan.Done) (t : ℕ → Question) (keeps : (j : ℕ) → (w.asked j ≡ Unasked → ⊥) → t j ≡ w.asked j)
        (happens : Happens g w.net (scans_on w.net s.scan d)) → IsOnce (on_grown d t keeps happens).runs
    unfolding on_grown
    on_once d t keeps happens = tt

    on_came : (d : scan.Done) (t : ℕ → Question) → MapCame g c (on d t) k.maps.groups
    on_came d t = map_more w (on d t) (λ p among. in_after (scan_packets w.net.inc d.outs) w.net.sent p among) k.maps.groups h.came

    -- ---- nothing is said

    pub quiet_goes : (o : Opening) (st : Stage) → k.maps.groups ≡ o.groups → AsksAt w.asked s.asked o.ask st → s.asked.own ≤ o.ask → 0 < o.ask
        → Takes (scan.goes o st [])
    unfolding known_follow
    quiet_goes o st groups asks past some fits happens = record {
      next = on (scan.goes o st []) w.asked;
      grown = on_grown (scan.goes o st []) w.asked (λ j some. refl) happens;
      lasts = record { number = h.lasts.number; inc = h.lasts.inc; fresh = h.lasts.fresh };
      shows = (
        record {
          owner = refl;
          log = h.log;
          inc = h.inc;
          groups = groups;
          came = on_came (scan.goes o st []) w.asked;
          asks = asks;
          past = past;
          some = some;
          number = h.number;
        },
        tt,
      );
      does = All-nil (ClientDoes g c (on (scan.goes o st []) w.asked));
      lost = λ l. (refl, (refl, refl));
      once = on_once (scan.goes o st []) w.asked (λ j some. refl) happens;
    }

    -- ---- servers are fenced or asked

    abbrev pub IsRest : ℕ → Out → Type 0
    IsRest limit (Fence server) = Unit {0}
    IsRest limit (Fetch server name own) = own ≤ limit
    IsRest limit _ = ⊥

    rest_tells_none : (limit : ℕ) (outs : List Out) → AllByRecursion (IsRest limit) outs → chain_in outs ≡ None
    rest_tells_none limit [] all = refl
    rest_tells_none limit (Hello own ∷ outs) all = absurd all.0
    rest_tells_none limit (Fence server ∷ outs) all = rest_tells_none limit outs all.1
    rest_tells_none limit (Fetch server name own ∷ outs) all = rest_tells_none limit outs all.1
    rest_tells_none limit (Chain segments end prior ∷ outs) all = absurd all.0
    rest_tells_none limit (Lost name ∷ outs) all = absurd all.0

    record Rests (limit : ℕ) (a : Asked) (p : Questions) : Type 0 where
      asks : AsksServers w.asked a limit
      past : a.own ≤ limit
      number : a.ask ≤ p.last
      more : q.last ≤ p.last

    numbered_rests : (limit : ℕ) (a : Asked) (p : Questions) (own : ℕ) → own ≤ limit → Rests limit a p → Rests limit (asked_as a p own) (drawn_for a p own)
    numbered_rests limit a p own small r =
        by_outcome (λ b. Rests limit (record { own = own; ask = cond b a.ask (next_ask p) }) (cond b p (draw p)))
        (own == a.own)
        (λ t. record {
          asks = ⊎_elim (λ e. inl (eqb-true own a.own t ∙ e)) (λ e. inr e) r.asks;
          past = small;
          number = r.number;
          more = r.more;
        })
        (λ t. record {
          asks = inr (h.lasts.fresh (next_ask p) (drawn_beyond q.last p.last h.room r.more));
          past = small;
          number = omega arith;
          more = (let x = ask_no_lower p in let y = r.more in omega arith);
        })

    -- and the end of the scan isn't told
    record Rested (limit low : ℕ) (a : Asked) (p : Questions) (outs : List Out) : Type 0 where
      none : (scanned k.owner low a p outs).state.ended ≡ None
      rests : Rests limit (scanned k.owner low a p outs).state.asked (scanned k.owner low a p outs).state.questions

    said_rests : (limit low : ℕ) (a : Asked) (p : Questions) (outs : List Out) → AllByRecursion (IsRest limit) outs → Rests limit a p
        → Rested limit low a p outs
    unfolding sent_send
    said_rests limit low a p [] all r = record { none = refl; rests = r }
    said_rests limit low a p (Hello own ∷ outs) all r = absurd all.0
    said_rests limit low a p (Fence server ∷ outs) all r = (let i = said_rests limit low a p outs all.1 r in record { none = i.none; rests = i.rests })
    said_rests limit low a p (Fetch server name own ∷ outs) all r =
        let i = said_rests limit low (asked_as a p own) (drawn_for a p own) outs all.1 (numbered_rests limit a p own all.0 r) in
        record { none = i.none; rests = i.rests }
    said_rests limit low a p (Chain segments end prior ∷ outs) all r = absurd all.0
    said_rests limit low a p (Lost name ∷ outs) all r = absurd all.0

    rest_seen : (v : Scene) (limit low : ℕ) (a : Asked) (p : Questions) (outs : List Out) → AllByRecursion (IsRest limit) outs
        → ((x : Packet) → In x (scan_packets w.net.inc outs) → In x v.net.sent) → All (ClientDoes g c v) (scanned k.owner low a p outs).outs
    unfolding sent_send
    rest_seen v limit low a p [] all sent = All-nil (ClientDoes g c v)
    rest_seen v limit low a p (Hello own ∷ outs) all sent = absurd all.0
    rest_seen v limit low a p (Fence server ∷ outs) all sent =
        All-cons (ClientDoes g c v) (fence k.owner server) (scanned k.owner low a p outs).outs
        (λ own. (refl, subst (λ inc. In (FenceSent server inc) v.net.sent) (sym h.inc) (sent _ (inl refl))), h.log)
        (rest_seen v limit low a p outs all.1 (λ x among. sent x (inr among)))
    rest_seen v limit low a p (Fetch server name own ∷ outs) all sent =
        All-cons (ClientDoes g c v) _ (scanned k.owner low (asked_as a p own) (drawn_for a p own) outs).outs tt
        (rest_seen v limit low (asked_as a p own) (drawn_for a p own) outs all.1 sent)
    rest_seen v limit low a p (Chain segments end prior ∷ outs) all sent = absurd all.0
    rest_seen v limit low a p (Lost name ∷ outs) all sent = absurd all.0

    pub rest_goes : (o : Opening) (st : Stage) (outs : List Out) → AllByRecursion (IsRest o.ask) outs → k.maps.groups ≡ o.groups
        → AsksServers w.asked s.asked o.ask
        → ((a : Asked) → AsksServers w.asked a o.ask → AsksAt w.asked a o.ask st) → s.asked.own ≤ o.ask → 0 < o.ask → Takes (scan.goes o st outs)
    unfolding known_follow
    rest_goes o st outs rest groups asks servers past some fits happens =
        let d : scan.Done = scan.goes o st outs in
        let r = scanned k.owner o.low s.asked q outs in
        let x : Rested o.ask o.low s.asked q outs =
        said_rests o.ask o.low s.asked q outs rest (record { asks = asks; past = past; number = h.number; more = omega arith }) in
        let v : Scene = on d w.asked in
        subst (λ e. WentTo g c w its life (asking r.state.questions (saying r.outs (known_follow k (record { scan = d.state; asked = r.state.asked }) e))))
        (sym x.none)
        (record {
          next = v;
          grown = on_grown d w.asked (λ j some. refl)
              (subst (λ (t : Option Told). Happens g w.net (after_told g w.net s.scan d t o.groups)) (rest_tells_none o.ask outs rest) happens);
          lasts = record { number = h.lasts.number; inc = h.lasts.inc; fresh = λ j later. h.lasts.fresh j (let y = x.rests.more in omega arith) };
          shows = (
            record {
              owner = refl;
              log = h.log;
              inc = h.inc;
              groups = groups;
              came = on_came d w.asked;
              asks = servers r.state.asked x.rests.asks;
              past = x.rests.past;
              some = some;
              number = x.rests.number;
            },
            tt,
          );
          does = All-append (ClientDoes g c v) r.outs []
              (rest_seen v o.ask o.low s.asked q outs rest (λ p among. in_before (scan_packets w.net.inc outs) w.net.sent p among))
              (All-nil (ClientDoes g c v));
          lost = λ l. (refl, (refl, refl));
          once = on_once d w.asked (λ j some. refl)
              (subst (λ (t : Option Told). Happens g w.net (after_told g w.net s.scan d t o.groups)) (rest_tells_none o.ask outs rest) happens);
        })

    -- ---- the registry is asked

    -- by this number, with what was asked then
    greets : (o : Opening) (st : Stage) (number : ℕ) (next : Questions) (t : ℕ → Question) → k.maps.groups ≡ o.groups → 0 < o.ask
        → AsksAt t (record { own = o.ask; ask = number }) o.ask st → ((j : ℕ) → (w.asked j ≡ Unasked → ⊥) → t j ≡ w.asked j) → t number ≡ OfOpening o.ask
        → ((j : ℕ) → next.last < j → t j ≡ Unasked) → number ≤ next.last → Happens g w.net (scans_on w.net s.scan (scan.goes o st (Hello o.ask ∷ [])))
        → WentTo g c w its life
        (asking next (saying (hello k.owner.inc number ∷ [])
        (still (known_scanning k (record { scan = record { opening = o; stage = st }; asked = record { own = o.ask; ask = number } })))))
    greets o st number next t groups some asks keeps here fresh low happens =
        let d : scan.Done = scan.goes o st (Hello o.ask ∷ []) in
        let v : Scene = on d t in
        record {
          next = v;
          grown = on_grown d t keeps happens;
          lasts = record { number = h.lasts.number; inc = h.lasts.inc; fresh = fresh };
          shows = (
            record {
              owner = refl;
              log = h.log;
              inc = h.inc;
              groups = groups;
              came = on_came d t;
              asks = asks;
              past = omega arith;
              some = some;
              number = low;
            },
            tt,
          );
          does = All-cons (ClientDoes g c v) (hello k.owner.inc number) []
              (record {
                own = λ e. subst (AskedBy g (asker c v) v.net k.owner.inc) (sym here)
                    (subst (λ inc. In (HelloSent inc o.ask) v.net.sent) (sym h.inc) (inl refl));
                reached = tt;
              })
              (All-nil (ClientDoes g c v));
          lost = λ l. (refl, (refl, refl));
          once = on_once d t keeps happens;
        }

    pub hello_goes : (o : Opening) (st : Stage) → k.maps.groups ≡ o.groups → 0 < o.ask → ((o.ask == s.asked.own) ≡ true → w.asked s.asked.ask ≡ OfOpening o.ask)
        → ((t : ℕ → Question) (a : Asked) → AsksRegistry t a o.ask → AsksAt t a o.ask st) → Takes (scan.goes o st (Hello o.ask ∷ []))
    unfolding known_follow sent_send
    hello_goes o st groups some again registry fits happens =
        by_outcome
        (λ b. WentTo g c w its life
        (asking (cond b q (draw q))
        (saying (hello k.owner.inc (cond b s.asked.ask (next_ask q)) ∷ [])
        (still (known_scanning k (record { scan = record { opening = o; stage = st }; asked = record { own = o.ask; ask = cond b s.asked.ask (next_ask q) } }))))))
        (o.ask == s.asked.own)
        (λ t. greets o st s.asked.ask q w.asked groups some
        (registry w.asked (record { own = o.ask; ask = s.asked.ask }) (record { own = refl; number = again t })) (λ j some. refl) (again t) h.lasts.fresh
        h.number happens)
        (λ t.
        let rises : q.last < next_ask q = ask_rises q h.room in
        let table : ℕ → Question = put w.asked (next_ask q) (OfOpening o.ask) in
        greets o st (next_ask q) (draw q) table groups some
        (registry table (record { own = o.ask; ask = next_ask q }) (record { own = refl; number = put_here w.asked (next_ask q) (OfOpening o.ask) }))
        (put_keeps w.asked (next_ask q) (OfOpening o.ask) (h.lasts.fresh (next_ask q) rises)) (put_here w.asked (next_ask q) (OfOpening o.ask))
        (put_fresh w.asked (next_ask q) (OfOpening o.ask) q.last rises h.lasts.fresh) (omega arith) happens)

    -- ---- the scan ends

    pub lost_goes : (o : Opening) (name : SegName) → Takes (scan.goes o Over (Lost name ∷ []))
    unfolding known_follow sent_send
    lost_goes o name fits happens =
        let d : scan.Done = scan.goes o Over (Lost name ∷ []) in
        record {
          next = on d w.asked;
          grown = on_grown d w.asked (λ j some. refl) happens;
          lasts = record { number = h.lasts.number; inc = h.lasts.inc; fresh = h.lasts.fresh };
          shows = tt;
          does = All-cons (ClientDoes g c (on d w.asked)) _ [] tt (All-nil (ClientDoes g c (on d w.asked)));
          lost = λ l. (refl, (refl, refl));
          once = on_once d w.asked (λ j some. refl) happens;
        }

    module _ (o : Opening) (segments : List Segment) (end : End) (prior : Prior) where
      abbrev d : scan.Done
      d = scan.goes o Over (Chain segments end prior ∷ [])

      abbrev told : Told
      told = record { segments = segments; end = end }

      -- the log starts behind it
      module _ (m : GroupMapState) (next : log.has_next end.seq ≡ true) (written : StaysWritten (log_start g.log w.net.inc end m))
          (reads : ReadsDown w.net o.low told)
          (happens : Happens g w.net (after_told g w.net s.scan d (Some told) (Some m))) where
        abbrev first : log.Done
        first = first_write g w.net.inc end m

        flew : Flew g c w segments o.low its life q.last first
        flew = record {
          next = record w { net = after_told g w.net s.scan d (Some told) (Some m) };
          grown = record {
            runs = On Begun happens;
            sent = λ p among. in_after (log_packets first.outs) w.net.sent p among;
            filed = λ name among. in_after (log_filed g.log first.outs) w.net.filed name among;
            shelves = refl;
            registry = refl;
            low = refl;
            dropped = refl;
            asked = λ j some. refl;
          };
          lasts = record { number = h.lasts.number; inc = h.lasts.inc; fresh = h.lasts.fresh };
          sent = λ p among. in_before (log_packets first.outs) w.net.sent p among;
          filed = λ name among. in_before (log_filed g.log first.outs) w.net.filed name among;
          mine = (own_log g.log (log_start g.log w.net.inc end m) (log_in.Parts []) (record { log = refl; flight = tt })).outs;
          own = own_after g (log_start g.log w.net.inc end m) (log_in.Parts []) (record { log = refl; flight = tt });
          written = written_after (log_start g.log w.net.inc end m) (log_in.Parts []) written refl;
          shows = inl (record {
            owner = refl;
            end = end;
            flies = begins (log_start g.log w.net.inc end m) refl refl next;
            reads = record { some = reads.some; past = reads.past; numbers = reads.numbers; down = reads.down };
          });
          once = tt;
        }

        abbrev begun : LogId → ℕ → Settling
        begun id inc = record { log = log_start id inc end m; chain = segments; low = o.low }

        abbrev Went_from : LogId → ℕ → Type 0
        Went_from id inc = WentTo g c w its life (asking q (logged k (begun id inc) (log.transition (log_start id inc end m) (log_in.Parts []))))

        starts : WentTo g c w its life (asking q (known_write k (behind k (record { segments = segments; end = end; low = o.low }) m) (log_in.Parts [])))
        unfolding known_write
        starts = subst (λ inc. Went_from k.owner.log inc) (sym h.inc)
            (subst (λ id. Went_from id w.net.inc) (sym h.log) (went_so g c w its life k q (begun g.log w.net.inc) h.log first flew))

        goes_behind : (x : Scanning) → WentTo g c w its life (asking q (start_log k x (record { segments = segments; end = end; low = o.low }) m))
        goes_behind x =
            subst (λ b. WentTo g c w its life
            (asking q (cond b (known_write k (behind k (record { segments = segments; end = end; low = o.low }) m) (log_in.Parts [])) (still (known_scanning k x)))))
            (sym h.small) starts

      -- no groups are known: the scan stands still
      rests_over : (x : Option GroupMapState) → k.maps.groups ≡ o.groups → AsksServers w.asked s.asked o.ask → s.asked.own ≤ o.ask → 0 < o.ask
          → Happens g w.net (scans_on w.net s.scan d)
          → WentTo g c w its life (asking q (still (known_scanning k (record { scan = d.state; asked = s.asked }))))
      rests_over x groups asks past some happens = record {
        next = on d w.asked;
        grown = on_grown d w.asked (λ j some. refl) happens;
        lasts = record { number = h.lasts.number; inc = h.lasts.inc; fresh = h.lasts.fresh };
        shows = (
          record {
            owner = refl;
            log = h.log;
            inc = h.inc;
            groups = groups;
            came = on_came d w.asked;
            asks = asks;
            past = past;
            some = some;
            number = h.number;
          },
          tt,
        );
        does = All-nil (ClientDoes g c (on d w.asked));
        lost = λ l. (refl, (refl, refl));
        once = on_once d w.asked (λ j some. refl) happens;
      }

      pub chain_goes : k.maps.groups ≡ o.groups → AsksServers w.asked s.asked o.ask → s.asked.own ≤ o.ask → 0 < o.ask → Takes d
      unfolding known_follow sent_send
      chain_goes groups asks past some fits happens = by_groups o.groups refl fits.0.1 happens
        where
          by_groups : (mo : Option GroupMapState) → o.groups ≡ mo → IfSome mo (λ m. StaysWritten (log_start g.log w.net.inc end m))
              → Happens g w.net (after_told g w.net s.scan d (Some told) mo)
              → WentTo g c w its life
              (asking q (settles_over k (record { scan = d.state; asked = s.asked }) (record { segments = segments; end = end; low = o.low }) k.maps.groups))
          by_groups None at written happens =
              subst (λ mo. WentTo g c w its life
              (asking q (settles_over k (record { scan = d.state; asked = s.asked }) (record { segments = segments; end = end; low = o.low }) mo)))
              (sym (groups ∙ at))
              (rests_over None groups asks past some happens)
          by_groups (Some m) at written happens =
              subst (λ mo. WentTo g c w its life
              (asking q (settles_over k (record { scan = d.state; asked = s.asked }) (record { segments = segments; end = end; low = o.low }) mo)))
              (sym (groups ∙ at))
              (goes_behind m fits.0.0 written fits.1 happens (record { scan = d.state; asked = s.asked }))
