-- What the log of an opening makes of its inputs: it files nothing until its opening segment is settled; then what was read back and that segment are
-- filed, and the log that is open has what is filed last as its end, and a feed that was told of it.
use Rattle.std.proofs.Common.{⊎_elim, ◌≡◌, ◌≤◌, ℕ, suc, ◌-◌, List, [], ◌∷◌, ◌++◌, map, Option, Some, None, refl, sym, ap, subst, ◌∙◌, arith}
use Rattle.std.specs.List.{AllByRecursion}
use Rattle.xfs_base.proofs.Booleans.{by_test}
use Rattle.xfs_base.specs.declared.segment.End.{End}
use Rattle.xfs_base.specs.Steps.{Stepped, still}
use Rattle.segment_format.specs.declared.segment.Segment.{Segment}
use Rattle.group_map.specs.GroupMapState.{GroupMapState}
use Rattle.client_log.specs.declared.input.In.{In as LogIn}
use Rattle.client_log.specs.declared.input.In.TheVariants as log_in
use Rattle.client_log.specs.declared.output.Out.{Out as LogOut}
use Rattle.client_log.specs.Transition as log_steps
use Rattle.log_owner.specs.declared.known.Known.{Known}
use Rattle.log_owner.specs.declared.opened.Progress.{Progress}
use Rattle.log_owner.specs.declared.opened.Progress.TheVariants as progress
use Rattle.log_owner.specs.declared.opening.Opening.{Opening}
use Rattle.log_owner.specs.declared.opening.Scanning.{Scanning}
use Rattle.log_owner.specs.declared.opening.Settling.{Settling}
use Rattle.log_owner.specs.declared.opening.Stage.{Stage}
use Rattle.log_owner.specs.declared.opening.Stage.TheVariants as stage
use Rattle.log_owner.specs.Opening.{Went, Moved, stays, drops, known_scanning, known_settling, scanned, send_one, written, known_go_on, logged, known_write, behind, start_log, settles_over, known_follow, stepped, scans_on, known_open, went}
use Rattle.log_scan.specs.declared.input.In.{In}
use Rattle.log_scan.specs.Transition as scan
use Rattle.node_base.specs.declared.effects.Effect.{Effect}
use Rattle.node_base.specs.declared.effects.Effect.TheVariants.{Lose}
use Rattle.node_base.specs.declared.questions.Questions.{Questions}
use Rattle.node_base.specs.Shape.{is_log}
use Rattle.delta_feed.specs.FeedState.{feed_start}
use Rattle.delta_feed.specs.Transition.{settled}
use Rattle.client_log.specs.LogState as log_state
use Rattle.headline.specs.Filed.{Filed, Texts}
use Rattle.index_tie.specs.Growth.{with_segment}
use Rattle.index_tie.specs.Net.{Net}
use Rattle.log_owner.specs.Opened.{filed, feed_all, feed_of}
use Rattle.log_owner.specs.Sending.{name_of}
use Rattle.node_base.specs.declared.effects.Effect.TheVariants.{Does}
use Rattle.node_slots.specs.node_index_tie.Pages.{FlightIsText}
use Rattle.node_slots.specs.node_index_tie.Sight.{RowsFit}
use Rattle.node_moves.proofs.client_walk.LogTurns.{IsSend}
use Rattle.node_moves.proofs.LogWalk.{IsHeard}
use Rattle.node_slots.proofs.node_index_tie.Flights.{GoesOn, Went as LogWent, log_went, parts_went}
use Rattle.node_slots.proofs.node_index_tie.Flights as flights
use Rattle.segment_format.specs.Rows.{row_of, rows_of}
use Rattle.std.specs.List.{filter_map}
use Rattle.version_model.specs.declared.act.Act.TheVariants.{Filed as ActsFiled}
use Rattle.xfs_base.specs.declared.segment.LogId.{LogId}
use Rattle.xfs_base.specs.declared.segment.SegName.{SegName}
use Rattle.xfs_base.proofs.Alls.{all_append, all_map}
use Rattle.node_moves.proofs.OpeningSays.{known_follow_so, log_says, scan_says, sends_end}
use Rattle.node_slots.specs.owner_index_tie.Acting.{AllSo, EffectSo}
use Rattle.node_slots.specs.owner_index_tie.Filing.{filing, with_name, filed_after, FilesOwed}
use Rattle.node_slots.specs.owner_index_tie.Owners.{LogNext, LogFits, SettlingSeen, OpeningSeen, ReadBack, EndOwed, OwnerDoes}
use Rattle.node_slots.proofs.owner_index_tie.Frames as frames
use Rattle.node_slots.proofs.owner_index_tie.Growing.{grown, next_files}
use Rattle.node_slots.proofs.owner_index_tie.Reopening.{reopened}
use Rattle.node_slots.proofs.owner_index_tie.Standing.{Stands}
use Rattle.node_slots.proofs.owner_index_tie.Turns.{Rests, Lands, Turns, none_next, parts_stay, log_turns}

-- what a segment without items says of blocks
says_nothing : (s : Segment) → s.items ≡ [] → rows_of s ≡ []
says_nothing s none = ap (filter_map (row_of s)) none

-- an opening goes on, or the log is open
abbrev pub ProgressSeen : ℕ → Net → ℕ → ℕ → Filed → Progress → Type 0
ProgressSeen part n l since f (progress.Opening o) = LogFits part (filing n f) l × OpeningSeen l o
ProgressSeen part n l since f (progress.Opened r) = Stands part n l since f l r.log r.feed
ProgressSeen part n l since f (progress.Lost seg) = LogFits part (filing n f) l

-- where the log is open then, what was read back is owed
abbrev pub EndGets : Texts → ℕ → Filed → Stage → Progress → Type 0
EndGets texts l f at (progress.Opening o) = Unit {0}
EndGets texts l f at (progress.Opened r) = EndOwed texts l f at
EndGets texts l f at (progress.Lost seg) = Unit {0}

-- what an opening that has this stage is owed is what is owed here
abbrev pub IsStage : Texts → ℕ → Filed → Stage → Stage → Type 0
IsStage texts l f at (stage.Scanning s) = Unit {0}
IsStage texts l f at (stage.Settling s) = FlightIsText texts s.log × (EndOwed texts l f at → ReadBack texts l f s.low s.log.end.seq s.chain)

module _ (New : Filed → Segment → Type 0) (part : ℕ) (texts : Texts) (n : Net) (l since : ℕ) (f : Filed) (at : Stage) where
  abbrev pub ProgressGoes : Stepped Progress Effect → Type 0
  ProgressGoes m = frames.Goes New part texts n l since (ProgressSeen part n l since) f m

  abbrev pub WentSo : Went → Type 0
  WentSo w = EndGets texts l f at w.progress → ProgressGoes (record { state = w.progress; outs = w.effects })

module _ (New : Filed → Segment → Type 0) (part : ℕ) (texts : Texts) (n : Net) (l since : ℕ) (f : Filed) (late : since ≤ f.head l)
    (sized : LogFits part (filing n f) l) (at : Stage) where
  abbrev Seen : Filed → Progress → Type 0
  Seen g p = ProgressSeen part n l since g p

  abbrev Moves : Moved → Type 0
  Moves m = ProgressGoes New part texts n l since f at m

  abbrev So : Went → Type 0
  So w = WentSo New part texts n l since f at w

  abbrev AllPlain : List Effect → Type 0
  AllPlain outs = frames.AllPlain part n l since f outs

  pub plain_so : (p : Progress) (outs : List Effect) → Seen f p → AllPlain outs → Moves (record { state = p; outs = outs })
  plain_so p outs h all = frames.goes_quiet New part texts n l since Seen f (record { state = p; outs = outs })
      (frames.quiet_plain part n l since f (Seen f) p outs h all)

  pub opening_so : (o : Opening) (q : Questions) → OpeningSeen l o → So (drops o q)
  opening_so o q h gets = plain_so (progress.Opening o) [] (sized, h) tt

  -- ---- the log of an opening

  module _ (k : Known) (own : k.owner.log ≡ record { 0 = l }) where
    known_scanning_so : (s : Scanning) → Seen f (known_scanning k s)
    known_scanning_so s = (sized, record { own = own; stage = tt })

    known_settling_so : (s : Settling) → SettlingSeen l s → Seen f (known_settling k s)
    known_settling_so s h = (sized, record { own = own; stage = h })

    pub written_plain : (outs : List LogOut) → AllPlain (written outs).outs
    written_plain outs = log_says (frames.Plain part n l since f) (λ fragment member. tt) None outs

    landed_at : (s : log_state.LogState) (r : log_steps.Done) (a : Lands s r) → (written r.outs).state ≡ Some (log_steps.end_of a.old.segment)
    unfolding send_one
    landed_at s r a = subst (λ outs. (written outs).state ≡ Some (log_steps.end_of a.old.segment)) (sym a.outs)
        (sends_end (Some (log_steps.end_of a.old.segment)) a.rest a.sends)

    -- the log is open: what was read back is filed, and the opening segment
    module _ (s : Settling) (h : SettlingSeen l s) (text : FlightIsText texts s.log) (r : log_steps.Done) (next : LogNext l r.state) (a : Lands s.log r)
        (back : ReadBack texts l f s.low s.log.end.seq s.chain) where
      abbrev old : Segment
      old = a.old.segment

      abbrev its_name : SegName
      its_name = name_of k.owner.log (log_steps.end_of old)

      name_is : its_name ≡ old.name
      name_is = ap (λ (x : LogId). record { log = x; seq = old.name.seq; pass = old.name.pass }) (own ∙ sym h.log.own ∙ sym (h.log.of a.old a.was))

      abbrev chained : List Effect
      chained = map filed s.chain

      abbrev g : Filed
      g = filed_after texts l f chained

      opens_at : FilesOwed New texts l f (chained ++ Does (ActsFiled its_name) ∷ [])
          → Stands part n l since (with_name texts l g its_name) l r.state (feed_of s.low s.chain (log_steps.end_of old))
      opens_at owed =
          let it = reopened New part texts n l f s.low s.log.end.seq s.chain back sized
          (frames.owed_before New texts l f chained (Does (ActsFiled its_name) ∷ []) owed) in
          let at_next : old.name.seq ≡ suc (g.head l) = h.log.next a.old a.was ∙ ap suc (sym it.head) in
          let text_is : texts its_name ≡ old = ap texts name_is ∙ text a.old a.was in
          let next_owed = (frames.owed_behind New texts l f chained (Does (ActsFiled its_name) ∷ []) owed).0 at_next in
          let rows : rows_of old ≡ [] = says_nothing old (h.empty a.old a.was) in
          let more = (frames.more_after texts l f chained).head l in let from = late in
          let feed = feed_all (feed_start (s.low - 1)) s.chain in
          subst (λ (x : Filed). Stands part n l since x l r.state (settled feed old.name.seq []))
          (sym (next_files texts l g its_name at_next ∙ ap (with_segment g l) text_is))
          (subst (λ rs. Stands part n l since (with_segment g l old) l r.state (settled feed old.name.seq rs)) rows
          (grown part texts n l since g l r.state feed old (omega arith) refl it.feed
          (subst (λ (x : Segment). RowsFit (rows_of x)) text_is next_owed.fits) next_owed.short next a.end at_next))

      filed_says : (x : Filed) (chain : List Segment) → AllByRecursion (OwnerDoes part (filing n x) l since) (map filed chain)
      filed_says x chain = all_map (OwnerDoes part (filing n x) l since) filed (λ s. tt) chain

      chain_named : (chain : List Segment) → AllByRecursion (λ s. s ≡ texts s.name) chain → AllSo (frames.IsNamed texts) (map filed chain)
      chain_named [] all = tt
      chain_named (x ∷ chain) all = (ap (λ (y : Segment). y.name) (sym all.0), chain_named chain all.1)

      its_named : frames.IsNamed texts its_name
      its_named = ap (λ (x : Segment). x.name) (ap texts name_is ∙ text a.old a.was) ∙ sym name_is

      opened_ends : FilesOwed New texts l f (chained ++ Does (ActsFiled its_name) ∷ [])
          → frames.Ends New part texts n l since Seen (filed_after texts l f (chained ++ Does (ActsFiled its_name) ∷ []))
          (progress.Opened (known_open k (record s { log = r.state }) (log_steps.end_of old))) (chained ++ Does (ActsFiled its_name) ∷ [])
      opened_ends owed =
          let x = with_name texts l g its_name in
          subst (λ y. frames.Ends New part texts n l since Seen y (progress.Opened (known_open k (record s { log = r.state }) (log_steps.end_of old)))
          (chained ++ Does (ActsFiled its_name) ∷ []))
          (sym (frames.after_both texts l f chained (Does (ActsFiled its_name) ∷ [])))
          (record {
            stands = opens_at owed;
            says = all_append (OwnerDoes part (filing n x) l since) chained (Does (ActsFiled its_name) ∷ []) (filed_says x s.chain) (tt, tt);
          })

      opened_goes : Moves (known_go_on k (record s { log = r.state }) (Some (log_steps.end_of old)))
      opened_goes = (
        opened_ends,
        λ may. all_append (EffectSo (frames.IsNamed texts)) chained (Does (ActsFiled its_name) ∷ []) (chain_named s.chain back.named) (its_named, tt),
      )

    -- the opening segment stays in flight
    rests_so : (s : Settling) (r : log_steps.Done) → Rests s.log r → SettlingSeen l (record s { log = r.state }) → Moves (logged k s r)
    rests_so s r rests h =
        let t : Settling = record s { log = r.state } in
        frames.goes_behind New part texts n l since Seen f (written r.outs).outs (known_go_on k t (written r.outs).state) (written_plain r.outs)
        (subst (λ o. Moves (known_go_on k t o)) (sym (sends_end None r.outs rests.sends)) (plain_so (known_settling k t) [] (known_settling_so t h) tt))

    seen_on : (s : Settling) (r : log_steps.Done) → SettlingSeen l s → LogNext l r.state → Rests s.log r → LogWent s.log r
        → SettlingSeen l (record s { log = r.state })
    seen_on s r h next rests went =
        ⊎_elim
        (λ (g : GoesOn s.log r). record {
          log = next;
          nothing_waits = g.dirty ∙ h.nothing_waits;
          empty = λ x fact. let b = g.flight x fact in b.items
              ∙ h.empty b.old b.was;
        })
        (λ (lands : flights.Lands s.log r). absurd (subst (AllByRecursion IsSend) lands.outs rests.sends).0)
        went

    pub logged_so : (s : Settling) (r : log_steps.Done) → SettlingSeen l s → FlightIsText texts s.log → Turns l s.log r → LogWent s.log r
        → (EndOwed texts l f at → ReadBack texts l f s.low s.log.end.seq s.chain) → EndGets texts l f at (logged k s r).state → Moves (logged k s r)
    logged_so s r h text turns went back gets =
        let t : Settling = record s { log = r.state } in
        ⊎_elim
        (λ (rests : Rests s.log r). rests_so s r rests (seen_on s r h turns.next rests went))
        (λ (lands : Lands s.log r). frames.goes_behind New part texts n l since Seen f (written r.outs).outs (known_go_on k t (written r.outs).state)
        (written_plain r.outs)
        (subst (λ o. Moves (known_go_on k t o)) (sym (landed_at s.log r lands))
        (opened_goes s h text r turns.next lands (back (subst (λ o. EndGets texts l f at (known_go_on k t o).state) (landed_at s.log r lands) gets)))))
        turns.went

    pub known_write_so : (s : Settling) (i : LogIn) → IsHeard i → SettlingSeen l s → FlightIsText texts s.log
        → (EndOwed texts l f at → ReadBack texts l f s.low s.log.end.seq s.chain) → EndGets texts l f at (known_write k s i).state → Moves (known_write k s i)
    unfolding known_write
    known_write_so s i bars h text back = logged_so s (log_steps.transition s.log i) h text (log_turns l s.log h.log i) (log_went s.log h.nothing_waits i bars) back

    -- ---- the end of the scan

    starts_so : (s : Scanning) (segments : List Segment) (end : End) (low : ℕ) (groups : GroupMapState)
        → Moves (start_log k s (record { segments = segments; end = end; low = low }) groups)
    unfolding known_write
    starts_so s segments end low groups =
        let t : Settling = behind k (record { segments = segments; end = end; low = low }) groups in
        let r : log_steps.Done = log_steps.on_parts t.log [] in
        let stays = parts_stay l t.log (none_next l t.log own refl) [] in
        let w = parts_went t.log refl [] in
        by_test Moves (is_log k.owner.log.0) (known_write k t (log_in.Parts [])) (still (known_scanning k s))
        (λ _. rests_so t r stays.rests (record { log = stays.next; nothing_waits = w.dirty; empty = w.items_are }))
        (λ _. plain_so (known_scanning k s) [] (known_scanning_so s) tt)

    settles_so : (s : Scanning) (segments : List Segment) (end : End) (low : ℕ) (groups : Option GroupMapState)
        → Moves (settles_over k s (record { segments = segments; end = end; low = low }) groups)
    settles_so s segments end low None = plain_so (known_scanning k s) [] (known_scanning_so s) tt
    settles_so s segments end low (Some groups) = starts_so s segments end low groups

    stepped_so : (q : Questions) (s : Scanning) (r : scan.Done) → So (stepped k q s r)
    stepped_so q s r gets =
        let low : ℕ = r.state.opening.low in
        let e = scanned k.owner low s.asked q r.outs in
        let next : Scanning = record { scan = r.state; asked = e.state.asked } in
        frames.goes_behind New part texts n l since Seen f e.outs (known_follow k next e.state.ended)
        (scan_says (frames.Plain part n l since f) k.owner (λ ask. tt) (λ server. tt) (λ name ask server. tt) low
        (record { asked = s.asked; questions = q; ended = None }) r.outs)
        (known_follow_so Moves k low (λ t. plain_so (known_scanning k t) [] (known_scanning_so t) tt) (λ t segments end. settles_so t segments end low k.maps.groups)
        (λ name. plain_so (progress.Lost name) (Lose name ∷ []) sized (tt, tt)) s.asked q r.outs next)

    pub scans_so : (q : Questions) (s : Scanning) (i : In) → So (scans_on k q s i)
    unfolding scans_on
    scans_so q s i = stepped_so q s (scan.transition s.scan i)

    pub rests_at : (q : Questions) (s : Scanning) → So (stays (known_scanning k s) q)
    rests_at q s gets = plain_so (known_scanning k s) [] (known_scanning_so s) tt

    pub log_rests : (q : Questions) (s : Settling) → SettlingSeen l s → So (stays (known_settling k s) q)
    log_rests q s h gets = plain_so (known_settling k s) [] (known_settling_so s h) tt
