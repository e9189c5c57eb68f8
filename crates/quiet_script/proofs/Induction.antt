-- The induction over the lines of a script: where each line ends with its item answered, the whole script is answered within the bounds.
use Rattle.std.proofs.Common.{◌≡◌, ◌*◌, ◌-◌, ◌≤◌, ◌<◌, ◌⊎◌, inl, inr, ℕ, suc, ◌+◌, cond, nat_le, List, [], ◌∷◌, ◌++◌, length, length-append, fold, Some, refl, sym, ap, subst, ◌∙◌, append_assoc, append-nil, arith}
use Rattle.std.specs.List.{count_by}
use Rattle.std.proofs.lemmas.Bool.Decides.{nat_tests}
use Rattle.std.proofs.lemmas.List.Sums.{count_by-le-length, fold-append}
use Rattle.node_base.specs.Setups.{IsSetup}
use Rattle.play.specs.declared.player.Player.{Player}
use Rattle.play.specs.Plays.{answers, estate_of, player_play, plays_line, player_start}
use Rattle.script_text.specs.declared.script.Line.{Line}
use Rattle.script_text.specs.declared.script.Script.{Script}
use Rattle.transcript.specs.Replies.{is_item}
use Rattle.transcript.specs.Replies as replies
use Rattle.version_model.specs.declared.work.Work.{Work}
use Rattle.wire_msg.specs.declared.packet.Do.{Do}
use Rattle.wire_msg.specs.NodeStep.{NodeStep}
use Rattle.world_base.specs.Cluster.{cluster_of, node_count}
use Rattle.world_base.specs.declared.event.Event.TheVariants.{Begin}
use Rattle.world_base.specs.Items.{actor_of, items_of}
use Rattle.world_base.specs.declared.world.World.{World}
use Rattle.world_base.specs.NextWorld.{start_world}
use Rattle.xfs_base.specs.declared.node.NodeId.{NodeId}
use Rattle.xfs_base.specs.declared.setup.Setup.{Setup}
use Rattle.xfs_base.specs.Limits.{max_lines}
use Rattle.quiet_flow.proofs.Counts.{count_both, count_miss}
use Rattle.quiet_flow.proofs.Lines.{line_ends, line_ends_after_round}
use Rattle.quiet_flow.specs.Flow.{Stage}
use Rattle.quiet_flow.specs.Follow.{IsBlind, LineEnds, Shows}
use Rattle.headline.specs.Bounds.{AnswersWithinBounds, EachInItsTurn, IsWithin, is_answer_of, is_delivery, most_deliveries, world_after}
use Rattle.headline.specs.InLine.{AnswerLines, answers_in}
use Rattle.quiet_script.specs.Lines.{AnswersOne, EndsLater, EndsSoon, LeadsOn, LinesLeadOn, start_stage}
use Rattle.quiet_script.proofs.Answered.{EachOnce, answers_more, each_once_more, same_answers}
use Rattle.quiet_script.proofs.InLine.{in_line_more}
use Rattle.quiet_script.proofs.InTurn.{in_turn_more, lines_run, none_in_turn, world_is}
use Rattle.quiet_script.proofs.Starting.{starts_shown}
use Rattle.quiet_script.proofs.Within.{none_within, within_more}

module _ {N : Type 0} (step : N → Do → NodeStep N) (first : NodeId → Setup → List Work → N) (is_blind : IsBlind step) (script : Script)
    (is_setup : IsSetup script.setup) (few_lines : length script.lines ≤ max_lines) (Between : List Line → Stage N → Type 0) where
  -- these lines are played: their items are begun and answered, and no line took more than it may
  pub record Reached (done : List Line) (p : Player N) : Type 0 where
    pub stage : Stage N
    pub shows : Shows script.setup p stage []
    pub settled : stage.unanswered ≡ 0
    pub between : Between done stage
    pub count : answers stage.acts ≡ length done
    pub each_once : EachOnce done stage.acts
    pub in_line : AnswerLines [] done (answers_in stage.acts)
    pub in_turn : EachInItsTurn step first script p.events
    pub are : p ≡ fold (plays_line step) (player_start first script) done
    pub within : IsWithin p.events
    pub few : length p.events ≤ 160 * length done
    pub all_delivered : count_by is_delivery p.events ≡ length p.world.sent

  few_nodes : node_count (cluster_of script.setup) ≤ 26
  few_nodes = let a = is_setup.clients.1 in let b = is_setup.managers.1 in let c = is_setup.servers.1 in omega arith

  module _ (done : List Line) (line : Line) (p : Player N) (reached : Reached done p) (room : length done < 20000) where
    -- a line that ends at a stage is played
    one_more : (node : NodeId) (most : ℕ) (end : Stage N) → actor_of line.work ≡ Some node → most ≤ most_deliveries
        → LineEnds step script.setup p node line most end
        → end.unanswered ≡ 0 → AnswersOne reached.stage.acts end.acts node (suc (length (items_of done node)))
        → EachOnce (done ++ line ∷ []) end.acts → Between (done ++ line ∷ []) end → Reached (done ++ line ∷ []) (plays_line step p line)
    one_more node most end actor low ends settled one each between =
        let after = plays_line step p line in
        let short = ends.short in
        let at_most = short.deliveries in
        let longer : length (done ++ line ∷ []) ≡ length done + 1 = length-append done (line ∷ []) in
        let long : length after.events ≡ length (p.events ++ Begin node ∷ ends.between) = ap length ends.are in
        let both = length-append p.events (Begin node ∷ ends.between) in
        let so_far = reached.few in
        let few = ends.few in
        let nodes = few_nodes in
        let more = answers_more reached.stage.acts end.acts node (suc (length (items_of done node))) one in
        let before = reached.count in
        let sent = ends.sends in
        let delivered = reached.all_delivered in
        let all : count_by is_delivery after.events ≡ count_by is_delivery (p.events ++ Begin node ∷ ends.between) = ap (count_by is_delivery) ends.are in
        let all_both = count_both is_delivery p.events (Begin node ∷ ends.between) in
        let all_next = count_miss is_delivery (Begin node) ends.between refl in
        let are : after ≡ fold (plays_line step) (player_start first script) (done ++ line ∷ []) =
        ap (λ q. plays_line step q line) reached.are ∙ sym (fold-append (plays_line step) (player_start first script) done (line ∷ [])) in
        let answered : answers after.world.acts ≡ answers end.acts = ap answers ends.shows_end.acts in
        let was : answers p.world.acts ≡ answers reached.stage.acts = ap answers reached.shows.acts in
        let was_all = reached.in_turn p.events [] (sym (append-nil p.events)) tt in
        let was_world : answers (world_after step first script p.events).acts ≡ answers p.world.acts =
        ap (λ (w : World N). answers w.acts) (world_is step first script p.events p.world (lines_run step first script done p reached.are)) in
        let now_world : answers (world_after step first script (p.events ++ Begin node ∷ ends.between)).acts ≡ answers after.world.acts =
        ap (λ es. answers (world_after step first script es).acts) (sym ends.are)
        ∙ ap (λ (w : World N). answers w.acts) (world_is step first script after.events after.world (lines_run step first script (done ++ line ∷ []) after are)) in
        record {
          stage = end;
          shows = ends.shows_end;
          settled = settled;
          between = between;
          count = omega arith;
          each_once = each;
          in_line = in_line_more done line reached.stage.acts end.acts node actor room one reached.in_line;
          in_turn = subst (EachInItsTurn step first script) (sym ends.are)
              (in_turn_more step first script p.events node ends.between reached.in_turn short.begins (omega arith));
          are = are;
          within = subst IsWithin (sym ends.are)
              (within_more p.events node ends.between reached.within
              (record { begins = short.begins; deliveries = omega arith; ticks = short.ticks }));
          few = omega arith;
          all_delivered = omega arith;
        }

    reaches : LeadsOn step script Between done line reached.stage → Reached (done ++ line ∷ []) (plays_line step p line)
    reaches leads = by_end leads.ends
      where
        by_end : EndsSoon step script.setup most_deliveries reached.stage leads.node (suc (length (items_of done leads.node))) (Between (done ++ line ∷ []))
            ⊎ EndsLater step script.setup 63 65 reached.stage leads.node (suc (length (items_of done leads.node))) (Between (done ++ line ∷ []))
            → Reached (done ++ line ∷ []) (plays_line step p line)
        by_end (inl e) =
            let few = e.few in
            let so_far = reached.few in
            one_more leads.node e.deliveries e.end leads.actor few
            (line_ends step is_blind script.setup p reached.stage reached.shows leads.node leads.has line leads.actor e.deliveries e.end (omega arith) (omega arith)
            e.drains e.settled)
            e.settled e.answers_it (each_once_more done line reached.stage.acts e.end.acts leads.node leads.actor e.answers_it reached.each_once) e.so_then
        by_end (inr e) =
            let few = e.first_few in
            let more = e.second_few in
            let nodes = few_nodes in
            let so_far = reached.few in
            one_more leads.node (e.first + e.second) e.end leads.actor (omega arith)
            (line_ends_after_round step is_blind script.setup p reached.stage reached.shows leads.node leads.has line leads.actor e.first e.second e.mid e.end
            (omega arith) (omega arith) e.first_drains e.waits e.second_drains e.settled)
            e.settled e.answers_it (each_once_more done line reached.stage.acts e.end.acts leads.node leads.actor e.answers_it reached.each_once) e.so_then

  starts_reached : Between [] (start_stage first script) → Reached [] (player_start first script)
  unfolding start_world
  starts_reached between = record {
    stage = start_stage first script;
    shows = starts_shown first script;
    settled = refl;
    between = between;
    count = refl;
    each_once = λ node item least. none_up item least;
    in_line = refl;
    in_turn = none_in_turn step first script;
    are = refl;
    within = none_within;
    few = omega arith;
    all_delivered = refl;
  }
    where
      none_up : (item : ℕ) → 1 ≤ item → ◌≡◌ {A = ℕ} 0 (cond (nat_le item 0) 1 0)
      none_up item least = grind (arith, nat_tests)

  module _ (leads_on : LinesLeadOn step script Between) where
    all_reach : (done rest : List Line) (p : Player N) → script.lines ≡ done ++ rest → Reached done p → Reached script.lines (fold (plays_line step) p rest)
    all_reach done [] p is reached = subst (λ lines. Reached lines p) (sym (is ∙ append-nil done)) reached
    all_reach done (line ∷ rest) p is reached =
        let long : length script.lines ≡ length (done ++ line ∷ rest) = ap length is in
        let both = length-append done (line ∷ rest) in
        all_reach (done ++ line ∷ []) rest (plays_line step p line) (is ∙ sym (append_assoc done (line ∷ []) rest))
        (reaches done line p reached (omega arith) (leads_on done rest line reached.stage is reached.between reached.settled))

    -- the whole script
    pub script_answers : Between [] (start_stage first script) → AnswersWithinBounds step first (estate_of step first script)
    unfolding player_play
    script_answers between =
        let reached = all_reach [] script.lines (player_start first script) refl (starts_reached between) in
        let end = fold (plays_line step) (player_start first script) script.lines in
        let acted : end.world.acts ≡ reached.stage.acts = reached.shows.acts in
        record {
          none_open = none_left end reached;
          answered = λ node item least most.
              ap (count_by (is_answer_of node item)) acted ∙ reached.each_once node item least ∙ it_is item (length (items_of script.lines node)) most;
          within = reached.within;
          in_turn = reached.in_turn;
          in_line = subst (λ xs. AnswerLines [] script.lines (answers_in xs)) (sym acted) reached.in_line;
          all_delivered = reached.all_delivered;
        }
      where
        it_is : (item last : ℕ) → item ≤ last → ◌≡◌ {A = ℕ} (cond (nat_le item last) 1 0) 1
        it_is item last most = grind (arith, nat_tests)

        none_left : (end : Player N) (reached : Reached script.lines end) → count_by is_item script.lines - count_by replies.is_answer end.world.acts ≡ 0
        none_left end reached =
            let few = count_by-le-length is_item script.lines in
            let acted : count_by replies.is_answer end.world.acts ≡ answers reached.stage.acts = ap (count_by replies.is_answer) reached.shows.acts ∙ same_answers reached.stage.acts in
            let count = reached.count in
            omega arith
