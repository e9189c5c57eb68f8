-- What an opening of a log files last is the segment that is the end of the log that it leaves, which is in line.
use Rattle.std.proofs.Common.{◌≡◌, ⊎_elim, ℕ, List, [], ◌∷◌, ◌++◌, map, Option, Some, None, sym, ap, subst, ◌∙◌}
use Rattle.std.specs.List.{AllByRecursion}
use Rattle.client_log.specs.declared.input.In.{In as LogIn}
use Rattle.client_log.specs.declared.input.In.TheVariants as log_in
use Rattle.client_log.specs.declared.output.Out.{Out as LogOut}
use Rattle.client_log.specs.declared.output.Out.TheVariants as log_out
use Rattle.client_log.specs.LogState.{LogState}
use Rattle.client_log.specs.Transition as log
use Rattle.client_log.specs.Transition.{end_of}
use Rattle.group_map.specs.GroupMapState.{GroupMapState}
use Rattle.log_owner.specs.declared.ended.Owner.{Owner}
use Rattle.log_owner.specs.declared.known.Known.{Known}
use Rattle.log_owner.specs.declared.opened.Progress.{Progress}
use Rattle.log_owner.specs.declared.opened.Progress.TheVariants as progress
use Rattle.log_owner.specs.declared.opening.Opening.{Opening}
use Rattle.log_owner.specs.declared.opening.Scanning.{Scanning}
use Rattle.log_owner.specs.declared.opening.Settling.{Settling}
use Rattle.log_owner.specs.declared.opening.Stage.{Stage}
use Rattle.log_owner.specs.declared.opening.Stage.TheVariants as stage
use Rattle.log_owner.specs.Opened.{file_all, filed}
use Rattle.log_owner.specs.Opening.{Moved, Went, known_scanning, behind, known_follow, logged, opening_take, on_tick, known_go_on, sent_send, scanned, scans_on, settles_over, welcomed, welcomed_with, known_write, written, send_one}
use Rattle.log_owner.specs.Sending.{name_of}
use Rattle.log_scan.specs.declared.input.In.{In as ScanIn}
use Rattle.log_scan.specs.declared.input.In.TheVariants as input
use Rattle.log_scan.specs.declared.output.Out.{Out}
use Rattle.log_scan.specs.declared.output.Out.TheVariants as out
use Rattle.log_scan.specs.Transition as scan
use Rattle.node_base.specs.Asking.{asked_as, drawn_for}
use Rattle.node_base.specs.declared.effects.Effect.{Effect}
use Rattle.node_base.specs.declared.questions.Asked.{Asked}
use Rattle.node_base.specs.declared.questions.Questions.{Questions}
use Rattle.node_base.specs.Effects.{acts_of}
use Rattle.node_base.specs.Maps.{maps_take}
use Rattle.node_base.specs.Shape.{is_log}
use Rattle.node_moves.proofs.client_walk.LogTurns.{IsSend, Lands, Rests, log_turns}
use Rattle.node_moves.proofs.OpeningWalk as walks
use Rattle.node_moves.proofs.OpeningWalk.{Any, Walk}
use Rattle.segment_format.specs.declared.segment.Segment.{Segment}
use Rattle.segment_format.specs.Rows.{rows_of}
use Rattle.wire_msg.specs.declared.packet.Packet.{Packet}
use Rattle.wire_msg.specs.declared.registry.News.{News}
use Rattle.xfs_base.proofs.Booleans.{by_test}
use Rattle.xfs_base.specs.declared.node.NodeId.{NodeId}
use Rattle.xfs_base.specs.declared.segment.End.{End}
use Rattle.xfs_base.specs.Steps.{saying, steps, still}
use Rattle.run_answers.proofs.file_law.Acts.{effects_last, last_then_effects}
use Rattle.run_answers.proofs.file_law.Lines.{IsInLine, takes_keep}
use Rattle.headline.specs.Filings.{filed_last}

module _ (me : NodeId) (owner : Owner) where
  abbrev pub Line : LogState → Type 0
  Line s = IsInLine owner.log owner.inc s

  abbrev pub StageLine : Stage → Type 0
  StageLine (stage.Scanning s) = Unit {0}
  StageLine (stage.Settling s) = Line s.log

  -- it is an opening of this owner
  pub record Opens (o : Opening) : Type 0 where
    pub its : o.known.owner ≡ owner
    pub line : StageLine o.stage

  -- what these effects act to be filed last has this number
  abbrev pub Last : List Effect → ℕ → Type 0
  Last outs number = (before : ℕ) → filed_last before (acts_of me outs) ≡ number

  pub record IsOpened (s : LogState) (outs : List Effect) : Type 0 where
    pub line : Line s
    pub last : Last outs s.end.seq

  abbrev pub Says : Progress → List Effect → Type 0
  Says (progress.Opening o) outs = Opens o
  Says (progress.Opened o) outs = IsOpened o.log outs
  Says (progress.Lost name) outs = Unit {0}

  abbrev pub WentSo : Went → Type 0
  WentSo w = Says w.progress w.effects

  abbrev MovedSo : Moved → Type 0
  MovedSo m = Says m.state m.outs

  said_after : (outs : List Effect) (m : Moved) → MovedSo m → MovedSo (saying outs m)
  said_after outs m so = by m.state m.outs so
    where
      by : (p : Progress) (more : List Effect) → Says p more → Says p (outs ++ more)
      by (progress.Opening o) more h = h
      by (progress.Opened o) more h =
          record { line = h.line; last = λ before. last_then_effects me before outs more ∙ h.last (filed_last before (acts_of me outs)) }
      by (progress.Lost name) more h = tt

  -- ---- its log

  -- what is settled last is the end of the log
  abbrev Ends : LogState → Option End → Type 0
  Ends s None = Unit {0}
  Ends s (Some end) = end ≡ s.end

  sends_end : (s : LogState) (before : Option End) (outs : List LogOut) → Ends s before → AllByRecursion IsSend outs → Ends s (steps send_one before outs).state
  unfolding send_one
  sends_end s before [] h all = h
  sends_end s before (log_out.Send fragment member ∷ outs) h all = sends_end s before outs h all.1
  sends_end s before (log_out.Settled end rows ∷ outs) h all = absurd all.0

  lands_end : (s : LogState) (end : End) (rows : _) (outs : List LogOut) → s.end ≡ end → AllByRecursion IsSend outs
      → Ends s (steps send_one None (log_out.Settled end rows ∷ outs)).state
  unfolding send_one
  lands_end s end rows outs same all = sends_end s (Some end) outs (sym same) all

  chain_last : (chain : List Segment) (end : End) → Last (file_all owner.log chain end) end.seq
  chain_last chain end before = effects_last me before (map filed chain) (name_of owner.log end)

  known_go_on_so : (k : Known) (s : Settling) (settled : Option End) → k.owner ≡ owner → Line s.log → Ends s.log settled → MovedSo (known_go_on k s settled)
  known_go_on_so k s None its line ends = record { its = its; line = line }
  known_go_on_so k s (Some end) its line ends = record {
    line = line;
    last = subst (λ (o : Owner). Last (file_all o.log s.chain end) s.log.end.seq) (sym its)
        (subst (λ (x : End). Last (file_all owner.log s.chain end) x.seq) ends (chain_last s.chain end));
  }

  logged_so : (k : Known) (s : Settling) (r : log.Done) → k.owner ≡ owner → Line r.state → Ends r.state (written r.outs).state → MovedSo (logged k s r)
  logged_so k s r its line ends =
      said_after (written r.outs).outs (known_go_on k (record s { log = r.state }) (written r.outs).state)
      (known_go_on_so k (record s { log = r.state }) (written r.outs).state its line ends)

  known_write_so : (k : Known) (s : Settling) (i : LogIn) → k.owner ≡ owner → Line s.log → MovedSo (known_write k s i)
  unfolding known_write
  known_write_so k s i its line =
      let r : log.Done = log.transition s.log i in
      logged_so k s r its (takes_keep owner.log owner.inc s.log i line)
      (⊎_elim (λ (q : Rests s.log.end r). sends_end r.state None r.outs tt q.sends)
      (λ (q : Lands s.log.flight r). subst (λ (outs : List LogOut). Ends r.state (written outs).state) (sym q.outs)
      (lands_end r.state (end_of q.flight.segment) (rows_of q.flight.segment) q.rest q.ends q.sends))
      (log_turns s.log i))

  -- ---- its scan

  behind_line : (k : Known) (chain : _) (groups : GroupMapState) → k.owner ≡ owner → Line (behind k chain groups).log
  behind_line k chain groups its = record { its = ap (λ (o : Owner). o.log) its; boot = ap (λ (o : Owner). o.inc) its; flies = tt }

  settles_so : (k : Known) (s : Scanning) (chain : _) (groups : Option GroupMapState) → k.owner ≡ owner → MovedSo (settles_over k s chain groups)
  settles_so k s chain None its = record { its = its; line = tt }
  settles_so k s chain (Some groups) its =
      by_test MovedSo (is_log k.owner.log.0) (known_write k (behind k chain groups) (log_in.Parts [])) (still (known_scanning k s))
      (λ _. known_write_so k (behind k chain groups) (log_in.Parts []) its (behind_line k chain groups its)) (λ _. record { its = its; line = tt })

  none_ended : (k : Known) (s : Scanning) → k.owner ≡ owner → MovedSo (known_follow k s None)
  unfolding known_follow
  none_ended k s its = record { its = its; line = tt }

  -- whatever the scan said
  ended_so : (its : Owner) (low : ℕ) (a : Asked) (p : Questions) (e : _) (outs : List Out)
      → ((k : Known) (s : Scanning) → k.owner ≡ owner → MovedSo (known_follow k s e))
      → (k : Known) (s : Scanning) → k.owner ≡ owner
      → MovedSo (known_follow k s (steps (sent_send its low) (record { asked = a; questions = p; ended = e }) outs).state.ended)
  unfolding known_follow sent_send
  ended_so its low a p e [] ends = ends
  ended_so its low a p e (out.Hello own ∷ outs) ends = ended_so its low (asked_as a p own) (drawn_for a p own) e outs ends
  ended_so its low a p e (out.Fence server ∷ outs) ends = ended_so its low a p e outs ends
  ended_so its low a p e (out.Fetch server name own ∷ outs) ends = ended_so its low (asked_as a p own) (drawn_for a p own) e outs ends
  ended_so its low a p e (out.Chain segments end prior ∷ outs) ends = ended_so its low a p _ outs (λ k s same. settles_so k s _ k.maps.groups same)
  ended_so its low a p e (out.Lost name ∷ outs) ends = ended_so its low a p _ outs (λ k s same. tt)

  scans_on_so : (k : Known) (q : Questions) (s : Scanning) (i : ScanIn) → k.owner ≡ owner → WentSo (scans_on k q s i)
  unfolding scans_on
  scans_on_so k q s i same =
      let d = scan.transition s.scan i in
      let r = scanned k.owner d.state.opening.low s.asked q d.outs in
      let next : Scanning = record { scan = d.state; asked = r.state.asked } in
      said_after r.outs (known_follow k next r.state.ended) (ended_so k.owner d.state.opening.low s.asked q None d.outs none_ended k next same)

  -- ---- the events

  with_so : (k : Known) (q : Questions) (s : Scanning) (news : News) (own : ℕ) (groups : Option GroupMapState) → k.owner ≡ owner
      → WentSo (welcomed_with k q s news own groups)
  with_so k q s news own None same = record { its = same; line = tt }
  with_so k q s news own (Some groups) same = scans_on_so _ q _ (input.Welcome own news.slots groups) same

  welcomed_so : (k : Known) (q : Questions) (s : Scanning) (news : News) (own : ℕ) → k.owner ≡ owner → WentSo (welcomed k q s news own)
  unfolding welcomed
  welcomed_so k q s news own same = with_so (record k { maps = maps_take k.maps news }) q s news own (maps_take k.maps news).groups same

  abbrev Holds : Known → Questions → Stage → Went → Type 0
  Holds k q at w = k.owner ≡ owner → StageLine at → WentSo w

  walk : Walk Any Holds
  walk = record {
    rests = λ o q its line. record { its = its; line = line };
    asks = λ o q its line. record { its = its; line = line };
    scan = λ k q s i comes its line. scans_on_so k q s i its;
    log = λ k q s i heard its line. known_write_so k s i its line;
    welcome = λ from k q s m asked said its line. welcomed_so k q s m.news asked its;
    newer = λ from k news q at w said fact. fact;
  }

  pub tick_so : (o : Opening) (q : Questions) → Opens o → WentSo (on_tick o q)
  tick_so o q h = walks.tick_so Any Holds walk o q h.its h.line

  pub packet_so : (o : Opening) (q : Questions) (p : Packet) → Opens o → WentSo (opening_take o q p)
  packet_so o q p h = walks.packet_so Any Holds walk o q p tt h.its h.line
