-- What a client that serves does once its log takes an input: it files nothing, or what was in flight first.
use Rattle.std.proofs.Common.{⊎_elim, ◌≡◌, ◌≤◌, ◌<◌, ℕ, suc, Bool, List, ◌∷◌, sym, ap, subst, ◌∙◌}
use Rattle.std.specs.List.{AllByRecursion, list_any}
use Rattle.client_log.specs.declared.input.In.{In as Input}
use Rattle.client_log.specs.declared.output.Out.{Out}
use Rattle.client_log.specs.declared.output.Out.TheVariants.{Settled}
use Rattle.client_log.specs.Transition as log
use Rattle.client_log.specs.Transition.{end_of}
use Rattle.client_serving.specs.declared.serving.Serving.{Serving}
use Rattle.client_serving.specs.Flights.{give_if_clean, feeds, settle_rows, serving_settle, write_one, seals_again, serving_write}
use Rattle.client_serving.specs.Lasting.{log_of}
use Rattle.client_serving.specs.Sends.{Done}
use Rattle.delta_feed.specs.Transition as feeding
use Rattle.headline.specs.Filed.{Filed, Texts}
use Rattle.index_tie.specs.Net.{Net}
use Rattle.log_owner.specs.Sealing.{is_settling}
use Rattle.log_owner.specs.Sending.{name_of, push_all}
use Rattle.node_moves.proofs.client_walk.Flights as logs
use Rattle.node_moves.proofs.client_walk.Frames as walk
use Rattle.node_moves.proofs.client_walk.Laws.{Walk}
use Rattle.node_moves.proofs.client_walk.LogTurns as turns
use Rattle.node_base.specs.declared.effects.Effect.{Effect}
use Rattle.node_slots.specs.node_index_tie.Pages.{FlightIsText}
use Rattle.segment_format.specs.Rows.{rows_of}
use Rattle.segment_format.specs.declared.segment.Segment.{Segment}
use Rattle.token_client.specs.State.{dirty_in}
use Rattle.version_model.specs.declared.act.Act.TheVariants.{Filed as ActsFiled}
use Rattle.xfs_base.specs.declared.block.BlockId.{BlockId}
use Rattle.xfs_base.specs.declared.segment.LogId.{LogId}
use Rattle.xfs_base.specs.declared.segment.SegName.{SegName}
use Rattle.xfs_base.specs.Steps.{saying, steps}
use Rattle.xfs_base.specs.Limits.{block_logs}
use Rattle.node_slots.specs.owner_index_tie.Filing.{with_name, OwedAct}
use Rattle.node_slots.specs.owner_index_tie.Owners.{LogNext}
use Rattle.node_slots.proofs.owner_index_tie.Caching as cache
use Rattle.node_slots.proofs.owner_index_tie.Frames as frames
use Rattle.node_slots.proofs.owner_index_tie.Growing.{filed_stands}
use Rattle.node_slots.proofs.owner_index_tie.ServingWalk as serving
use Rattle.node_slots.proofs.owner_index_tie.Standing.{Stands, rested, push_all_plain}
use Rattle.node_slots.proofs.owner_index_tie.Turns.{Rests, Lands, Turns, Stays, log_turns}

-- ---- what files nothing

module _ (part : ℕ) (n : Net) (l since : ℕ) (some : 0 < l) (limit : l ≤ block_logs) (f : Filed) where
  abbrev At : Serving → Type 0
  At s = serving.At part n l since some limit f s

  abbrev Goes : Done → Type 0
  Goes d = serving.Goes part n l since some limit f d

  abbrev Plain : Effect → Type 0
  Plain e = frames.Plain part n l since f e

  abbrev its_walk : Walk
  its_walk = serving.walk part n l since some limit f

  quiet : (d : Done) → walk.Goes Plain walk.Any At d → Goes d
  quiet d p = serving.quiet part n l since some limit f d p

  pub given_up : (s : Serving) (blocks : List BlockId) → At s → Goes (steps give_if_clean s blocks)
  given_up s blocks h = quiet (steps give_if_clean s blocks) (walk.goes_steps Plain walk.Any At give_if_clean (logs.give_if_clean_so its_walk) s blocks h)

  pub sends_so : (s : Serving) (outs : List Out) → At s → AllByRecursion turns.IsSend outs → Goes (steps write_one s outs)
  sends_so s outs h all = quiet (steps write_one s outs) (logs.sends_so its_walk s outs h all)

  pub seals_again_so : (s : Serving) (settling : Bool) → At s → Goes (seals_again s settling)
  seals_again_so s settling h = quiet (seals_again s settling) (logs.seals_again_so its_walk s settling h)

  -- what the log said is done
  abbrev pub said : Serving → List Out → Done
  said s outs = (let d : Done = steps write_one s outs in saying d.outs (seals_again d.state (list_any is_settling outs)))

  pub rests_so : (s : Serving) (r : log.Done) → At s → Stays l s.log r → Goes (said (record s { log = r.state }) r.outs)
  rests_so s r h k =
      let t : Serving = record s { log = r.state } in
      let d : Done = steps write_one t r.outs in
      frames.quiet_on part n l since f At d (seals_again d.state (list_any is_settling r.outs))
      (sends_so t r.outs (rested part n l since f s.lasting.number s.log r.state s.feed h k.next k.rests.same) k.rests.sends)
      (λ k. seals_again_so d.state (list_any is_settling r.outs) k)

-- ---- what files

module _ (New : Filed → Segment → Type 0) (part : ℕ) (texts : Texts) (n : Net) (l since : ℕ) (some : 0 < l) (limit : l ≤ block_logs) where
  abbrev Stood : Filed → Serving → Type 0
  Stood f s = Stands part n l since f s.lasting.number s.log s.feed

  abbrev pub Files : Filed → Done → Type 0
  Files f d = frames.Goes New part texts n l since Stood f d

  -- what was in flight is settled
  module _ (f : Filed) (s : Serving) (h : Stood f s) (text : FlightIsText texts s.log) (r : log.Done) (next : LogNext l r.state) (k : Lands s.log r) where
    abbrev old : Segment
    old = k.old.segment

    abbrev name : SegName
    name = name_of (log_of s.lasting) (end_of old)

    name_is : name ≡ old.name
    name_is = ap (λ (x : LogId). record { log = x; seq = old.name.seq; pass = old.name.pass })
        (ap (λ m. record { 0 = m }) h.seen.number_is ∙ sym h.seen.log.own ∙ sym (h.seen.log.of k.old k.was))

    at_next : old.name.seq ≡ suc (f.head l)
    at_next = h.seen.log.next k.old k.was ∙ ap suc h.seen.end.seq

    abbrev g : Filed
    g = with_name texts l f name

    abbrev t : Serving
    t = record s { log = r.state }

    abbrev fed : Serving
    fed = feeds (settle_rows t (rows_of old)) (end_of old) (rows_of old)

    fed_stands : OwedAct New texts l f (ActsFiled name) → Stood g fed
    fed_stands owed = cache.settle_rows_so (λ number log feed. Stands part n l since g number log (feeding.settled feed old.name.seq (rows_of old))) t
        (rows_of old)
        (filed_stands part texts n l since f s.lasting.number r.state s.feed old New s.log name h at_next (ap texts name_is ∙ text k.old k.was)
        (owed at_next) next
        k.end at_next)

    -- what comes after
    abbrev gone : Done
    gone = saying (push_all fed.managers fed.feed) (steps give_if_clean fed (dirty_in t.tokens.blocks))

    abbrev sent : Done
    sent = saying gone.outs (steps write_one gone.state k.rest)

    abbrev behind : Done
    behind = saying sent.outs (seals_again sent.state (list_any is_settling (Settled (end_of old) (rows_of old) ∷ k.rest)))

    behind_so : OwedAct New texts l f (ActsFiled name) → frames.Quiet part n l since g (Stood g) behind
    behind_so owed =
        let at = fed_stands owed in
        frames.quiet_on part n l since g (Stood g) sent (seals_again sent.state (list_any is_settling (Settled (end_of old) (rows_of old) ∷ k.rest)))
        (frames.quiet_on part n l since g (Stood g) gone (steps write_one gone.state k.rest)
        (frames.quiet_after part n l since g (Stood g) (push_all fed.managers fed.feed) (steps give_if_clean fed (dirty_in t.tokens.blocks))
        (push_all_plain part n l since g some limit fed.managers fed.feed at.seen.feed)
        (given_up part n l since some limit g fed (dirty_in t.tokens.blocks) at))
        (λ i. sends_so part n l since some limit g gone.state k.rest i k.sends))
        (λ i. seals_again_so part n l since some limit g sent.state (list_any is_settling (Settled (end_of old) (rows_of old) ∷ k.rest)) i)

    lands_so : Files f (said part n l since some limit f t (Settled (end_of old) (rows_of old) ∷ k.rest))
    unfolding write_one serving_settle
    lands_so = frames.goes_filed New part texts n l since Stood f name behind
        (ap (λ (x : Segment). x.name) (ap texts name_is ∙ text k.old k.was) ∙ sym name_is) behind_so

  turns_so : (f : Filed) (s : Serving) (r : log.Done) → Stood f s → FlightIsText texts s.log → Turns l s.log r
      → Files f (said part n l since some limit f (record s { log = r.state }) r.outs)
  turns_so f s r h text turns =
      ⊎_elim
      (λ (rests : Rests s.log r). frames.goes_quiet New part texts n l since Stood f (said part n l since some limit f (record s { log = r.state }) r.outs)
      (rests_so part n l since some limit f s r h (record { next = turns.next; rests = rests })))
      (λ (lands : Lands s.log r). subst (λ outs. Files f (said part n l since some limit f (record s { log = r.state }) outs)) (sym lands.outs)
      (lands_so f s h text r turns.next lands))
      turns.went

  -- any input
  pub serving_write_so : (f : Filed) (s : Serving) (i : Input) → Stood f s → FlightIsText texts s.log → Files f (serving_write s i)
  unfolding serving_write
  serving_write_so f s i h text = turns_so f s (log.transition s.log i) h text (log_turns l s.log h.seen.log i)
