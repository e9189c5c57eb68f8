-- A cleaner that opens its own log has no part in a client's log.
use Rattle.std.proofs.Common.{◌≡◌, ℕ, List, [], ◌∷◌, Option, Some, None, sym, ◌∙◌}
use Rattle.std.specs.List.{AllByRecursion}
use Rattle.std.proofs.lemmas.Bool.{eqb-true}
use Rattle.xfs_base.proofs.Alls.{all_append, all_map}
use Rattle.xfs_base.proofs.Booleans.{by_test}
use Rattle.xfs_base.specs.declared.node.NodeId.TheVariants.{Cleaner}
use Rattle.xfs_base.specs.declared.segment.End.{End}
use Rattle.xfs_base.specs.Steps.{steps, still}
use Rattle.segment_format.specs.declared.segment.Segment.{Segment}
use Rattle.group_map.specs.GroupMapState.{GroupMapState}
use Rattle.client_log.specs.declared.input.In.{In as LogIn}
use Rattle.client_log.specs.declared.input.In.TheVariants as log_in
use Rattle.client_log.specs.declared.output.Out.{Out as LogOut}
use Rattle.client_log.specs.declared.output.Out.TheVariants as log_out
use Rattle.client_log.specs.Transition as log
use Rattle.log_owner.specs.declared.ended.Owner.{Owner}
use Rattle.log_owner.specs.declared.known.Known.{Known}
use Rattle.log_owner.specs.declared.opened.Progress.{Progress}
use Rattle.log_owner.specs.declared.opened.Progress.TheVariants as progress
use Rattle.log_owner.specs.declared.opening.Opening as openings
use Rattle.log_owner.specs.declared.opening.Scanning.{Scanning}
use Rattle.log_owner.specs.declared.opening.Settling.{Settling}
use Rattle.log_owner.specs.declared.opening.Stage.{Stage}
use Rattle.log_owner.specs.Opened.{filed}
use Rattle.log_owner.specs.Opening.{Went, Moved, known_scanning, nothing_asked, scanned, send_one, stored, written, known_go_on, known_write, behind, settles_over, known_follow, scans_on, on_start, welcomed_with, welcomed, on_tick, opening_take}
use Rattle.log_owner.specs.Promised.{promised_of}
use Rattle.log_owner.specs.Sending.{fence, hello}
use Rattle.log_scan.specs.declared.input.In.{In}
use Rattle.log_scan.specs.declared.input.In.TheVariants as input
use Rattle.log_scan.specs.Transition as scan
use Rattle.node_base.specs.Asking.{next_ask}
use Rattle.node_base.specs.declared.effects.Effect.{Effect}
use Rattle.node_base.specs.declared.questions.Questions.{Questions}
use Rattle.node_base.specs.Maps.{maps_take}
use Rattle.node_base.specs.Shape.{is_log}
use Rattle.wire_msg.specs.declared.packet.Packet.{Packet}
use Rattle.wire_msg.specs.declared.registry.News.{News}
use Rattle.cleaner_job.specs.Starting.{cleaner_log}
use Rattle.log_tie.specs.Setting.{Setting}
use Rattle.log_law.specs.Net.{Net}
use Rattle.node_moves.proofs.OpeningSays.{known_follow_so, scan_says}
use Rattle.node_moves.proofs.OpeningWalk as walked
use Rattle.node_moves.proofs.OpeningWalk.{Any, Walk}
use Rattle.node_logs.specs.node_log_tie.Sight.{Asker}
use Rattle.node_logs.specs.node_log_tie.CleanerEvents.{IsOfLog, StageSeen, OpeningSeen}
use Rattle.node_logs.proofs.node_log_tie.Emptied.{not_ours, CleanerDoes}
use Rattle.node_logs.proofs.node_log_tie.OwnLogs.{SendsOwn, OwnDone, own_log}

-- an opening that goes on is the cleaner's, and so is a log that is open
abbrev pub ProgressSeen : Progress → Type 0
ProgressSeen (progress.Opening o) = OpeningSeen o
ProgressSeen (progress.Opened o) = IsOfLog cleaner_log o.log
ProgressSeen (progress.Lost seg) = Unit {0}

module _ (g : Setting) (owner : Asker) (other : g.log ≡ cleaner_log → ⊥) (away : owner.node ≡ Cleaner → ⊥) (n : Net) where
  abbrev Does_all : List Effect → Type 0
  Does_all outs = AllByRecursion (CleanerDoes g owner n) outs

  pub record On (p : Progress) (outs : List Effect) : Type 0 where
    pub seen : ProgressSeen p
    pub does : Does_all outs

  abbrev pub WentOn : Went → Type 0
  WentOn w = On w.progress w.effects

  abbrev MovedOn : Moved → Type 0
  MovedOn m = On m.state m.outs

  -- a Hello of the cleaner is none of the owner's
  pub hello_does : (inc ask : ℕ) → CleanerDoes g owner n (hello inc ask)
  hello_does inc ask = record { own = λ e. absurd (away (sym e)); reached = tt }

  -- ---- what the log says

  pub stored_so : (o : LogOut) → SendsOwn cleaner_log o → Does_all (stored o)
  stored_so (log_out.Send f member) own = ((λ e. absurd (not_ours g other f.meta.name own e), own), tt)
  stored_so (log_out.Settled end rows) own = tt

  all_wrote : (before : Option End) (outs : List LogOut) → AllByRecursion (SendsOwn cleaner_log) outs → Does_all (steps send_one before outs).outs
  unfolding send_one
  all_wrote before [] own = tt
  all_wrote before (o ∷ outs) own =
      all_append (CleanerDoes g owner n) (stored o) (steps send_one (send_one before o).state outs).outs (stored_so o own.0)
      (all_wrote (send_one before o).state outs own.1)

  module _ (k : Known) (its : k.owner.log ≡ cleaner_log) where
    opens_on : (s : Settling) → IsOfLog cleaner_log s.log → (o : Option End) → MovedOn (known_go_on k s o)
    opens_on s own None = record { seen = record { log = its; stage = own }; does = tt }
    opens_on s own (Some end) = record {
      seen = own;
      does = all_append (CleanerDoes g owner n) _ _ (all_map (CleanerDoes g owner n) filed (λ (segment : Segment). tt) s.chain) (tt, tt);
    }

    writes_on : (s : Settling) → IsOfLog cleaner_log s.log → (i : LogIn) → MovedOn (known_write k s i)
    unfolding known_write
    writes_on s own i =
        let d : OwnDone cleaner_log (log.transition s.log i) = own_log cleaner_log s.log i own in
        let w = written (log.transition s.log i).outs in
        let t : Settling = record s { log = (log.transition s.log i).state } in
        let o : MovedOn (known_go_on k t w.state) = opens_on t d.state w.state in
        record {
          seen = o.seen;
          does = all_append (CleanerDoes g owner n) w.outs (known_go_on k t w.state).outs (all_wrote None (log.transition s.log i).outs d.outs) o.does;
        }

    -- ---- what the scan says, and what is next behind it

    rests_on : (s : Scanning) → MovedOn (still (known_scanning k s))
    rests_on s = record { seen = record { log = its; stage = tt }; does = tt }

    settles_on : (s : Scanning) (chain : _) (groups : Option GroupMapState) → MovedOn (settles_over k s chain groups)
    settles_on s chain None = rests_on s
    settles_on s chain (Some groups) =
        by_test MovedOn (is_log k.owner.log.0) (known_write k (behind k chain groups) (log_in.Parts [])) (still (known_scanning k s))
        (λ t. writes_on (behind k chain groups) (record { log = its; flight = tt }) (log_in.Parts [])) (λ t. rests_on s)

    fence_does : (server : ℕ) → CleanerDoes g owner n (fence k.owner server)
    fence_does server = λ e. absurd (other ((λ i. record { 0 = sym (eqb-true k.owner.log.0 g.log.0 e) i }) ∙ its))

    scan_on : (q : Questions) (s : Scanning) (i : In) → WentOn (scans_on k q s i)
    unfolding scans_on
    scan_on q s i =
        let r = scan.transition s.scan i in
        let low : ℕ = r.state.opening.low in
        let t = scanned k.owner low s.asked q r.outs in
        let next : Scanning = record { scan = r.state; asked = t.state.asked } in
        let f : MovedOn (known_follow k next t.state.ended) =
        known_follow_so MovedOn k low rests_on (λ s segments end. settles_on s (record { segments = segments; end = end; low = low }) k.maps.groups)
        (λ name. record { seen = tt; does = (tt, tt) }) s.asked q r.outs next in
        record {
          seen = f.seen;
          does = all_append (CleanerDoes g owner n) t.outs (known_follow k next t.state.ended).outs
              (scan_says (CleanerDoes g owner n) k.owner (hello_does k.owner.inc) fence_does (λ name ask server. tt) low
              (record { asked = s.asked; questions = q; ended = None }) r.outs) f.does;
        }

  -- ---- the events

  welcome_with : (k : Known) → k.owner.log ≡ cleaner_log → (q : Questions) (s : Scanning) (news : News) (own : ℕ) (groups : Option GroupMapState)
      → WentOn (welcomed_with k q s news own groups)
  welcome_with k its q s news own None = rests_on k its s
  welcome_with k its q s news own (Some groups) =
      scan_on (record k { promised = promised_of news.slots }) its q (record s { asked = nothing_asked }) (input.Welcome own news.slots groups)

  welcome_on : (k : Known) → k.owner.log ≡ cleaner_log → (q : Questions) (s : Scanning) (news : News) (own : ℕ) → WentOn (welcomed k q s news own)
  unfolding welcomed
  welcome_on k its q s news own = welcome_with (record k { maps = maps_take k.maps news }) its q s news own (maps_take k.maps news).groups

  abbrev Holds : Known → Questions → Stage → Went → Type 0
  Holds k q at w = k.owner.log ≡ cleaner_log → StageSeen at → WentOn w

  walk : Walk Any Holds
  walk = record {
    rests = λ o q its seen. record { seen = record { log = its; stage = seen }; does = tt };
    asks = λ o q its seen. record { seen = record { log = its; stage = seen }; does = (hello_does o.known.owner.inc (next_ask q), tt) };
    scan = λ k q s i comes its seen. scan_on k its q s i;
    log = λ k q s i heard its seen. writes_on k its s seen i;
    welcome = λ from k q s m own said its seen. welcome_on k its q s m.news own;
    newer = λ from k news q at w said goes its seen. goes its seen;
  }

  pub tick_heard : (o : openings.Opening) (q : Questions) → OpeningSeen o → WentOn (on_tick o q)
  tick_heard o q seen = walked.tick_so Any Holds walk o q seen.log seen.stage

  pub packet_heard : (o : openings.Opening) (q : Questions) (packet : Packet) → OpeningSeen o → WentOn (opening_take o q packet)
  packet_heard o q packet seen = walked.packet_so Any Holds walk o q packet tt seen.log seen.stage

  pub begins : (its : Owner) (servers : ℕ) (q : Questions) → its.log ≡ cleaner_log → WentOn (on_start its servers q)
  begins its servers q fact = record { seen = record { log = fact; stage = tt }; does = (hello_does its.inc (next_ask q), tt) }
