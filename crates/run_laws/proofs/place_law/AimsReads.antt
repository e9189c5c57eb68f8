-- A client's reading stays that of its fetch, whatever its tokens, its cache and its log do, also while a call is put by; where a place is granted it is read.
use Rattle.std.proofs.Common.{◌≡◌, ℕ, Bool, true, List, [], ◌∷◌, Option, Some, None, is_none, unwrap_or, refl, sym, ap, ◌∙◌}
use Rattle.std.specs.List.{AllByRecursion}
use Rattle.std.specs.Prelude.{fold}
use Rattle.client_call.specs.Calls.{going_by, plan_answered, may_make, file_call, call_of}
use Rattle.client_call.specs.declared.call.Call.{Call}
use Rattle.client_call.specs.declared.call.Going.TheVariants.{On, Ends}
use Rattle.client_call.specs.declared.call.Going.{Going}
use Rattle.client_call.specs.declared.call.Plan.TheVariants.{One, File}
use Rattle.client_call.specs.declared.call.Plan.{Plan}
use Rattle.client_call.specs.Reads.{reading_in, set_reading, kept_while, target_of, same_target}
use Rattle.client_serving.specs.declared.serving.Serving.{Serving}
use Rattle.client_serving.specs.Follow.{evicts, note_clean, note_gone, note_copy, serving_seal, follow_one, serving_follow, hand, take_back}
use Rattle.client_serving.specs.Reads.{ends_reading, with_reading, draws, loses, lose_at, group_in, begins_over, begin_reading, go_on_reading, ask_after, drawn_after, serving_confirm, reads_over, serving_read}
use Rattle.client_serving.specs.Sends.{Done}
use Rattle.coop_cache.specs.declared.output.Out as cache_out
use Rattle.coop_cache.specs.declared.output.Out.TheVariants.{Victim}
use Rattle.coop_cache.specs.Transition.{cache_clean, cache_leave}
use Rattle.file_plan.specs.declared.block_call.BlockAnswer.{BlockAnswer}
use Rattle.file_plan.specs.declared.block_call.Next.{Next as Planned}
use Rattle.file_plan.specs.declared.block_call.Next.TheVariants.{Step as Steps, Reply}
use Rattle.file_plan.specs.declared.state.PlanState.{PlanState}
use Rattle.file_plan.specs.Plan as plans
use Rattle.group_map.specs.declared.group.Group.{Group}
use Rattle.node_base.specs.Asking.{next_ask}
use Rattle.segment_reading.specs.declared.reading.Next.{Next}
use Rattle.segment_reading.specs.declared.reading.Next.TheVariants as next
use Rattle.segment_reading.specs.declared.reading.Stage.{Stage}
use Rattle.segment_reading.specs.declared.reading.Stage.TheVariants.{Asking, Between, Doubted, Over}
use Rattle.segment_reading.specs.declared.target.BlockAt.{BlockAt}
use Rattle.segment_reading.specs.declared.target.Target.{Target}
use Rattle.segment_reading.specs.Reading.{ReadingState, Step, reading_start, on_confirmed}
use Rattle.token_client.specs.declared.input.In as inputs
use Rattle.token_client.specs.declared.input.In.TheVariants as input
use Rattle.token_client.specs.declared.output.Out as outputs
use Rattle.token_client.specs.declared.output.Out.TheVariants as output
use Rattle.token_client.specs.State.{TokensState, held_of, with_held}
use Rattle.token_client.specs.Transition as client
use Rattle.version_model.specs.declared.file_call.FileCall.{FileCall}
use Rattle.version_model.specs.declared.work.Work.{Work}
use Rattle.version_model.specs.declared.work.Work.TheVariants as work
use Rattle.xfs_base.proofs.Booleans.{by_test}
use Rattle.xfs_base.specs.declared.block.BlockId.{BlockId}
use Rattle.xfs_base.specs.declared.entry.Place.{Place}
use Rattle.xfs_base.specs.declared.segment.SegName.{SegName}
use Rattle.xfs_base.specs.declared.token.Mode.TheVariants.{Nothing, Copy, Own}
use Rattle.xfs_base.specs.declared.token.Stamp.{Stamp}
use Rattle.xfs_base.specs.Modes.{same_mode, is_nothing}
use Rattle.xfs_base.specs.declared.token.Mode.{Mode}
use Rattle.xfs_base.specs.declared.entry.Entry.{Entry}
use Rattle.xfs_base.specs.Steps.{still}
use Rattle.node_tellings.proofs.entry_tie.ClientReads.{OutTold}
use Rattle.run_laws.proofs.place_law.Aims.{Its, HasPlace, NoGrant, Nowhere, confirmed-target, its_kept, its_none, its_place, its_taken, reads_nothing, target_exact}
use Rattle.token_client.specs.declared.held.Fetch.{Fetch}
use Rattle.token_client.specs.declared.held.Held.{Held}
use Rattle.token_client.specs.Held.{fetch_from}
use Rattle.token_client.proofs.Tables.{held_of-put_itself}

-- the reading of the open call is of the fetch, and so is this one
pub record Aimed (r : Option ReadingState) (s : Serving) : Type 0 where
  pub other : Its r s.tokens
  pub own : Its (reading_in s.call) s.tokens

-- what each step of a fold keeps
pub fold_keeps : {S A : Type 0} (P : S → Type 0) (f : S → A → S) → ((s : S) (x : A) → P s → P (f s x)) → (s : S) (xs : List A) → P s → P (fold f s xs)
fold_keeps P f one s [] h = h
fold_keeps P f one s (x ∷ xs) h = fold_keeps P f one (f s x) xs (one s x h)

-- a call that goes on reads nothing yet
abbrev pub GoingNew : Going → Type 0
GoingNew (On call) = call.reading ≡ None
GoingNew (Ends answer) = Unit {0}

abbrev pub AnyGoingNew : Option Going → Type 0
AnyGoingNew None = Unit {0}
AnyGoingNew (Some g) = GoingNew g

going_new : (p : PlanState) (n : Planned) → GoingNew (going_by p n)
going_new p (Steps step) = refl
going_new p (Reply answer) = tt

pub next_new : (plan : Plan) (a : BlockAnswer) → GoingNew (plan_answered plan a)
next_new One a = tt
next_new (File p) a = going_new (plans.file_plan_answered p a) (plans.file_plan_next (plans.file_plan_answered p a))

file_new : (call : FileCall) (number self : ℕ) → AnyGoingNew (file_call call number self)
file_new call number self =
    by_test AnyGoingNew (may_make number self) _ None (λ _. going_new _ (plans.file_plan_next (plans.start call (plans.made_by number self)))) (λ _. tt)

pub begun_new : (w : Work) (number self : ℕ) → AnyGoingNew (call_of w number self)
begun_new (work.Bput client block value) number self = refl
begun_new (work.Bget client block) number self = refl
begun_new (work.Sync client) number self = refl
begun_new (work.File client call) number self = file_new call number self
begun_new _ number self = tt

-- the open call reads this
call_so : (call : Option Call) (r : Option ReadingState) (t : TokensState) → Its r t → Its (reading_in (set_reading call r)) t
call_so None r t fact = its_none t
call_so (Some call) r t fact = fact

-- without a call nothing is read
unread : (call : Option Call) (t : TokensState) → is_none call ≡ true → Its (reading_in call) t
unread None t none = its_none t
unread (Some call) t none = absurd (cc)

module _ (r : Option ReadingState) where
  abbrev At : Serving → Type 0
  At s = Aimed r s

  abbrev Goes : Done → Type 0
  Goes d = At d.state

  pub read_so : (s : Serving) (o : Option ReadingState) → Its o s.tokens → Aimed r s → Aimed r (with_reading s o)
  read_so s o fact h = record { other = h.other; own = call_so s.call o s.tokens fact }

  pub ends_so : (s : Serving) → Aimed r s → Aimed r (ends_reading s)
  ends_so s h = read_so s (kept_while s.tokens (reading_in s.call)) (its_kept s.tokens (reading_in s.call) s.tokens h.own) h

  -- the tokens take an input that is no grant of a place
  pub taken_so : (s : Serving) (i : inputs.In) → NoGrant i → Aimed r s → Aimed r (record s { tokens = (client.transition s.tokens i).state })
  taken_so s i none h = record { other = its_taken r s.tokens i none h.other; own = its_taken (reading_in s.call) s.tokens i none h.own }

  -- ---- the cache

  evicts_so : (s : Serving) (o : cache_out.Out) → At s → At (evicts s o)
  unfolding evicts
  evicts_so s (Victim block) h = taken_so s (input.Evict block) tt h

  pub note_clean_so : (s : Serving) (block : BlockId) → Aimed r s → Aimed r (note_clean s block)
  unfolding note_clean
  note_clean_so s block h =
      fold_keeps At evicts evicts_so (record s { cache = (cache_clean s.cache block).state }) (cache_clean s.cache block).outs
      (record { other = h.other; own = h.own })

  pub note_gone_so : (s : Serving) (block : BlockId) → Aimed r s → Aimed r (note_gone s block)
  unfolding note_gone
  note_gone_so s block h =
      by_test At (is_nothing (held_of s.tokens.blocks block).mode) (record s { cache = cache_leave s.cache block }) s
      (λ _. record { other = h.other; own = h.own }) (λ _. h)

  note_copy_so : (s : Serving) (block : BlockId) → At s → At (note_copy s block)
  unfolding note_copy
  note_copy_so s block h =
      by_test At (same_mode (held_of s.tokens.blocks block).mode Copy) (note_clean s block) s (λ _. note_clean_so s block h) (λ _. h)

  -- ---- the log

  pub serving_seal_so : (s : Serving) → Aimed r s → Aimed r (serving_seal s).state
  unfolding serving_seal
  serving_seal_so s h = record { other = h.other; own = h.own }

  -- ---- what the tokens say, where nothing is to be read

  follow_one_so : (s : Serving) (o : outputs.Out) → OutTold Nowhere o → At s → Goes (follow_one s o)
  unfolding follow_one
  follow_one_so s (output.Want block req again mode) fact h = h
  follow_one_so s (output.Gave block stamp) fact h = h
  follow_one_so s (output.Flush block) fact h = serving_seal_so s h
  follow_one_so s (output.Read block place) fact h = absurd (let e = fact.there.place_told in cc)
  follow_one_so s (output.Ready block) fact h = note_copy_so s block h
  follow_one_so s (output.Supply block ver value) fact h = h

  pub serving_follow_so : (s : Serving) (outs : List outputs.Out) → AllByRecursion (OutTold Nowhere) outs → Aimed r s → Aimed r (serving_follow s outs).state
  unfolding serving_follow
  serving_follow_so s [] all h = h
  serving_follow_so s (o ∷ outs) all h = serving_follow_so (follow_one s o).state outs all.1 (follow_one_so s o all.0 h)

  pub hand_so : (s : Serving) (i : inputs.In) → NoGrant i → Aimed r s → Aimed r (hand s i).state
  unfolding hand
  hand_so s i none h =
      let d : client.Done = client.transition s.tokens i in
      serving_follow_so (ends_reading (record s { tokens = d.state })) d.outs (reads_nothing s.tokens i none)
      (ends_so (record s { tokens = d.state }) (taken_so s i none h))

  pub take_back_so : (s : Serving) (block : BlockId) (stamp : Stamp) (keep : Bool) → Aimed r s → Aimed r (take_back s block stamp keep).state
  unfolding take_back
  take_back_so s block stamp keep h =
      note_gone_so (hand s (input.Recalled block stamp keep)).state block (hand_so s (input.Recalled block stamp keep) tt h)

  -- ---- a segment is lost

  pub loses_so : (s : Serving) (block : BlockId) (seg : SegName) → Aimed r s → Aimed r (loses s block seg).state
  unfolding loses
  loses_so s block seg h = record { other = its_taken r s.tokens (input.Quit block) tt h.other; own = its_none (client.on_quit s.tokens block).state }

-- ---- a place is granted

abbrev Alone : Serving → Type 0
Alone s = Aimed None s

abbrev AloneDone : Done → Type 0
AloneDone d = Alone d.state

alone_so : (s : Serving) → Its (reading_in s.call) s.tokens → Alone s
alone_so s h = record { other = its_none s.tokens; own = h }

module _ (block : BlockId) (place : Place) where
  abbrev target : Target
  target = target_of block place

  begins_over_so : (s : Serving) (group : Option Group) → HasPlace s.tokens block place → Alone s → AloneDone (begins_over s target group)
  begins_over_so s None has h = h
  begins_over_so s (Some group) has h =
      read_so None (draws s) (Some (reading_start target group (next_ask s.lasting.questions)))
      (its_place (reading_start target group (next_ask s.lasting.questions)) s.tokens block place refl has) (record { other = h.other; own = h.own })

  begin_reading_so : (s : Serving) → HasPlace s.tokens block place → Alone s → AloneDone (begin_reading s target)
  unfolding begin_reading
  begin_reading_so s has h = begins_over_so s (group_in s.maps.groups target.seg.group) has h

  lose_at_so : (s : Serving) (at : Option BlockAt) (seg : SegName) → Alone s → AloneDone (lose_at s at seg)
  lose_at_so s None seg h = h
  lose_at_so s (Some at) seg h = loses_so None s at.block seg h

  go_on_reading_so : (s : Serving) (x : ReadingState) (n : Next) → Its (Some x) s.tokens → Alone s → AloneDone (go_on_reading s x n)
  go_on_reading_so s x next.Lost fact h = lose_at_so s x.target.block x.target.seg.name h
  go_on_reading_so s x next.Ask fact h = read_so None s (Some x) fact h
  go_on_reading_so s x next.Wait fact h = read_so None s (Some x) fact h
  go_on_reading_so s x next.Again fact h = read_so None s (Some x) fact h
  go_on_reading_so s x (next.Read segment) fact h = read_so None s (Some x) fact h

  drawn_after_so : (s : Serving) (x : ReadingState) (n : Next) (stage : Stage) → Its (Some x) s.tokens → Alone s
      → AloneDone (go_on_reading (drawn_after s stage) x n)
  drawn_after_so s x n Between fact h = go_on_reading_so (draws s) x n fact (record { other = h.other; own = h.own })
  drawn_after_so s x n Asking fact h = go_on_reading_so s x n fact h
  drawn_after_so s x n Doubted fact h = go_on_reading_so s x n fact h
  drawn_after_so s x n Over fact h = go_on_reading_so s x n fact h

  serving_confirm_so : (s : Serving) (x : ReadingState) → x.target ≡ target → HasPlace s.tokens block place → Alone s → AloneDone (serving_confirm s x)
  unfolding serving_confirm
  serving_confirm_so s x fact has h =
      let step : Step = on_confirmed x (ask_after s x.ask x.stage) in
      drawn_after_so s step.state step.next x.stage
      (its_place step.state s.tokens block place (confirmed-target x (ask_after s x.ask x.stage) ∙ fact) has) h

  reads_over_so : (s : Serving) (reading : Option ReadingState) → HasPlace s.tokens block place → Alone s → AloneDone (reads_over s target reading)
  reads_over_so s None has h = begin_reading_so s has h
  reads_over_so s (Some x) has h =
      by_test AloneDone (same_target x.target target) (serving_confirm s x) (begin_reading s target)
      (λ t. serving_confirm_so s x (target_exact x.target block place t) has h) (λ _. begin_reading_so s has h)

  -- whatever was read before
  serving_read_so : (s : Serving) → HasPlace s.tokens block place → AloneDone (serving_read s block place)
  unfolding serving_read
  serving_read_so s has =
      by_test AloneDone (is_none s.call) (still s) (reads_over (with_reading s None) target (reading_in s.call))
      (λ t. alone_so s (unread s.call s.tokens t))
      (λ _. reads_over_so (with_reading s None) (reading_in s.call) has (alone_so (with_reading s None) (call_so s.call None s.tokens (its_none s.tokens))))

module _ (s : Serving) (h : Alone s) (block : BlockId) (stamp : Stamp) (inc req : ℕ) where
  -- a grant to own gives no place
  own_granted : (entry : Entry) → AloneDone (hand s (input.Granted block stamp inc req Own entry))
  unfolding hand client.on_granted
  own_granted entry = hand_so None s (input.Granted block stamp inc req Own (record entry { place = None })) refl h

  -- a copy that lies at a place is read there
  there : (ver : ℕ) (place : Place)
      → AloneDone (serving_follow (ends_reading (record s { tokens = with_held s.tokens block (fetch_from (held_of s.tokens.blocks block) stamp ver place) }))
      (output.Read block place ∷ []))
  unfolding serving_follow follow_one
  there ver place =
      let g : Held = fetch_from (held_of s.tokens.blocks block) stamp ver place in
      let t : TokensState = with_held s.tokens block g in
      let now : held_of t.blocks block ≡ g = held_of-put_itself block g s.tokens.blocks in
      serving_read_so block place (ends_reading (record s { tokens = t }))
      (λ f fact. ap (λ (o : Option Fetch). (unwrap_or o f).place) (sym fact ∙ ap (λ (x : Held). x.fetch) now))

  copied : (ver hop : ℕ) (place : Option Place) → AloneDone (hand s (input.Granted block stamp inc req Copy (record { ver = ver; hop = hop; place = place })))
  unfolding hand client.on_granted serving_follow
  copied ver hop None = hand_so None s (input.Granted block stamp inc req Copy (record { ver = ver; hop = hop; place = None })) refl h
  copied ver hop (Some place) =
      by_test (λ (d : client.Done). AloneDone (serving_follow (ends_reading (record s { tokens = d.state })) d.outs))
      (client.accepts s.tokens block stamp inc req Copy)
      (record { state = with_held s.tokens block (fetch_from (held_of s.tokens.blocks block) stamp ver place); outs = output.Read block place ∷ [] })
      (still s.tokens) (λ _. there ver place) (λ _. ends_so None s h)

  -- and so it is of one of nothing, which no manager grants
  nothing_granted : (ver hop : ℕ) (place : Option Place)
      → AloneDone (hand s (input.Granted block stamp inc req Nothing (record { ver = ver; hop = hop; place = place })))
  unfolding hand client.on_granted serving_follow
  nothing_granted ver hop None = hand_so None s (input.Granted block stamp inc req Nothing (record { ver = ver; hop = hop; place = None })) refl h
  nothing_granted ver hop (Some place) =
      by_test (λ (d : client.Done). AloneDone (serving_follow (ends_reading (record s { tokens = d.state })) d.outs))
      (client.accepts s.tokens block stamp inc req Nothing)
      (record { state = with_held s.tokens block (fetch_from (held_of s.tokens.blocks block) stamp ver place); outs = output.Read block place ∷ [] })
      (still s.tokens) (λ _. there ver place) (λ _. ends_so None s h)

  pub granted_so : (mode : Mode) (entry : Entry) → Aimed None (hand s (input.Granted block stamp inc req mode entry)).state
  granted_so Own entry = own_granted entry
  granted_so Copy entry = copied entry.ver entry.hop entry.place
  granted_so Nothing entry = nothing_granted entry.ver entry.hop entry.place
