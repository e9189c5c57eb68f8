-- A client that reads the block that its call needs, or loses it, asks for its call still.
use Rattle.std.proofs.Common.{◌≡◌, ℕ, Bool, true, ◌&&◌, ◌==◌, List, [], ◌∷◌, Option, Some, None, is_none, refl, sym, ap, subst, ◌∙◌}
use Rattle.xfs_base.specs.declared.block.BlockId.{BlockId}
use Rattle.xfs_base.specs.declared.entry.Entry.{Entry}
use Rattle.xfs_base.specs.declared.entry.Place.{Place}
use Rattle.xfs_base.specs.declared.segment.SegName.{SegName}
use Rattle.xfs_base.specs.declared.token.Mode.{Mode}
use Rattle.xfs_base.specs.declared.token.Mode.TheVariants.{Copy}
use Rattle.xfs_base.specs.declared.token.Stamp.{Stamp}
use Rattle.xfs_base.specs.Blocks.{same_block}
use Rattle.xfs_base.specs.Steps.{still}
use Rattle.xfs_base.proofs.BlockOrder.{same_block_exact}
use Rattle.xfs_base.proofs.Booleans.{by_test, and_second}
use Rattle.group_map.specs.declared.group.Group.{Group}
use Rattle.segment_reading.specs.declared.reading.Next.{Next}
use Rattle.segment_reading.specs.declared.reading.Next.TheVariants as next
use Rattle.segment_reading.specs.declared.reading.Stage.{Stage}
use Rattle.segment_reading.specs.declared.reading.Stage.TheVariants.{Asking, Between, Doubted, Over}
use Rattle.segment_reading.specs.declared.target.BlockAt.{BlockAt}
use Rattle.segment_reading.specs.declared.target.Target.{Target}
use Rattle.segment_reading.specs.Reading as reading
use Rattle.segment_reading.specs.Reading.{ReadingState, on_confirmed}
use Rattle.xfs_base.specs.Segments.{same_name}
use Rattle.token_client.specs.declared.input.In.TheVariants as input
use Rattle.token_client.specs.declared.output.Out.{Out}
use Rattle.token_client.specs.declared.output.Out.TheVariants.{Flush, Read, Ready}
use Rattle.token_client.specs.State.{TokensState}
use Rattle.token_client.specs.Transition.{on_granted, transition}
use Rattle.token_client.proofs.Readings.{quit_ends}
use Rattle.client_call.specs.Reads.{kept_while, reading_in, same_at, same_target, target_of}
use Rattle.client_serving.specs.declared.serving.Serving.{Serving}
use Rattle.client_serving.specs.Follow.{serving_follow, follow_one, hand}
use Rattle.client_serving.specs.Reads.{ask_after, begin_reading, begins_over, go_on_reading, serving_confirm, drawn_after, draws, ends_reading, group_in, loses, lose_at, serving_read, reads_over, with_reading}
use Rattle.client_serving.specs.Sends.{Done}
use Rattle.node_slots.specs.node_tie.Asks.{AsksForCall, needed}
use Rattle.node_slots.proofs.node_tie.AsksInputs.{AsksAs, OneRead, ReadSuits, granted-asks, granted-outs, nothing_asks, transition-asks}
use Rattle.node_slots.proofs.node_tie.AsksFrames.{asks_as, asks_for, asks_none, kept, needed_same}
use Rattle.node_slots.proofs.node_tie.AsksFollow.{set_reading-step, ends_reading-keeps, follow_one-keeps, with_reading-keeps}

-- the open call reads this block
pub record ReadsFor (block : BlockId) (s : Serving) : Type 0 where
  pub asks : AsksForCall s
  pub needs : needed s.call ≡ Some (block, Copy)

-- what is read is the block, or none
abbrev IsAt : BlockId → Option BlockAt → Type 0
IsAt block None = Unit {0}
IsAt block (Some at) = at.block ≡ block

is_at : (block : BlockId) (item : ℕ) (b : Option BlockAt) → same_at b (Some (record { item = item; block = block })) ≡ true → IsAt block b
is_at block item None h = tt
is_at block item (Some at) h = sym (same_block_exact at.block block (and_second (at.item == item) (same_block at.block block) h))

-- what was confirmed is read of the same target
confirmed-target : (r : ReadingState) (ask : ℕ) → (on_confirmed r ask).state.target ≡ r.target
unfolding on_confirmed
confirmed-target r ask = at_stage r.stage
  where
    at_stage : (stage : Stage) → (reading.goes_on r ask stage).state.target ≡ r.target
    at_stage Asking = refl
    at_stage Between = refl
    at_stage Doubted = refl
    at_stage Over = refl

-- a segment that the call needs is lost, and the call with it
pub loses-asks : (s : Serving) (block : BlockId) (mode : Mode) (seg : SegName) → AsksForCall s → needed s.call ≡ Some (block, mode)
    → AsksForCall (loses s block seg).state
unfolding loses
loses-asks s block mode seg p fact =
    let t : TokensState = (transition s.tokens (input.Quit block)).state in
    let a : AsksAs (needed s.call) t = transition-asks (needed s.call) s.tokens (asks_as s p) (input.Quit block) tt in
    asks_none (loses s block seg).state (nothing_asks (needed s.call) block mode fact t a (quit_ends s.tokens block)) (λ none. refl)

draws-asks : (s : Serving) → AsksForCall s → AsksForCall (draws s)
draws-asks s p = kept s (draws s) (λ a. record { asks = a; call = refl; item = refl }) p

with_reading-asks : (s : Serving) (r : Option ReadingState) → AsksForCall s → AsksForCall (with_reading s r)
with_reading-asks s r p = kept s (with_reading s r) (with_reading-keeps (needed s.call) s r) p

module _ (block : BlockId) where
  lose_at-asks : (s : Serving) (at : Option BlockAt) (seg : SegName) → IsAt block at → ReadsFor block s → AsksForCall (lose_at s at seg).state
  lose_at-asks s None seg here p = p.asks
  lose_at-asks s (Some at) seg here p = loses-asks s at.block Copy seg p.asks (p.needs ∙ ap (λ b. Some (b, Copy)) (sym here))

  go_on_reading-asks : (s : Serving) (r : ReadingState) (then_next : Next) → IsAt block r.target.block → ReadsFor block s
      → AsksForCall (go_on_reading s r then_next).state
  go_on_reading-asks s r next.Lost here p = lose_at-asks s r.target.block r.target.seg.name here p
  go_on_reading-asks s r _ here p = with_reading-asks s (Some r) p.asks

  drawn_after-reads : (s : Serving) (stage : Stage) → ReadsFor block s → ReadsFor block (drawn_after s stage)
  drawn_after-reads s Between p = record { asks = draws-asks s p.asks; needs = p.needs }
  drawn_after-reads s _ p = p

  serving_confirm-asks : (s : Serving) (r : ReadingState) → IsAt block r.target.block → ReadsFor block s → AsksForCall (serving_confirm s r).state
  unfolding serving_confirm
  serving_confirm-asks s r here p =
      let ask : ℕ = ask_after s r.ask r.stage in
      go_on_reading-asks (drawn_after s r.stage) (on_confirmed r ask).state (on_confirmed r ask).next
      (subst (λ (t : Target). IsAt block t.block) (sym (confirmed-target r ask)) here) (drawn_after-reads s r.stage p)

  begins_over-asks : (s : Serving) (target : Target) (group : Option Group) → AsksForCall s → AsksForCall (begins_over s target group).state
  begins_over-asks s target None p = p
  begins_over-asks s target (Some group) p = with_reading-asks (draws s) _ (draws-asks s p)

  begin_reading-asks : (s : Serving) (target : Target) → AsksForCall s → AsksForCall (begin_reading s target).state
  unfolding begin_reading
  begin_reading-asks s target p = begins_over-asks s target (group_in s.maps.groups target.seg.group) p

  reads_over-asks : (s : Serving) (place : Place) (r : Option ReadingState) → ReadsFor block s → AsksForCall (reads_over s (target_of block place) r).state
  reads_over-asks s place None p = begin_reading-asks s (target_of block place) p.asks
  reads_over-asks s place (Some r) p =
      let target : Target = target_of block place in
      let same_segment : Bool = same_name r.target.seg.name target.seg.name && (r.target.seg.group == target.seg.group) in
      by_test (λ (d : Done). AsksForCall d.state) (same_target r.target target) (serving_confirm s r) (begin_reading s target)
      (λ t. serving_confirm-asks s r (is_at block place.item r.target.block (and_second same_segment (same_at r.target.block target.block) t)) p)
      (λ t. begin_reading-asks s target p.asks)

  -- a block that the call needs is read
  pub serving_read-asks : (s : Serving) (place : Place) → ReadsFor block s → AsksForCall (serving_read s block place).state
  unfolding serving_read
  serving_read-asks s place p =
      let u : Serving = with_reading s None in
      let fact : needed u.call ≡ Some (block, Copy) = needed_same u.call s.call (set_reading-step s.call None) ∙ p.needs in
      by_test (λ (d : Done). AsksForCall d.state) (is_none s.call) (still s) (reads_over u (target_of block place) (reading_in s.call)) (λ t. p.asks)
      (λ t. reads_over-asks u place (reading_in s.call) (record { asks = with_reading-asks s None p.asks; needs = fact }))

-- ---- grants

follow_one-asks : (s : Serving) (o : Out) → AsksForCall s → ReadSuits (needed s.call) o → AsksForCall (follow_one s o).state
unfolding follow_one
follow_one-asks s (Flush block) p q = kept s (follow_one s (Flush block)).state (follow_one-keeps (needed s.call) s (Flush block) tt) p
follow_one-asks s (Read block place) p q = serving_read-asks block s place (record { asks = p; needs = q })
follow_one-asks s (Ready block) p q = kept s (follow_one s (Ready block)).state (follow_one-keeps (needed s.call) s (Ready block) tt) p
follow_one-asks s _ p q = p

serving_follow-asks : (s : Serving) (outs : List Out) → AsksForCall s → OneRead (needed s.call) outs → AsksForCall (serving_follow s outs).state
unfolding serving_follow
serving_follow-asks s [] p q = p
serving_follow-asks s (o ∷ []) p q = follow_one-asks s o p q
serving_follow-asks s (o ∷ o' ∷ outs) p q = absurd q

-- a grant is taken, and what is granted is read
pub grant-asks : (s : Serving) (block : BlockId) (stamp : Stamp) (inc req : ℕ) (mode : Mode) (entry : Entry) → AsksForCall s
    → AsksForCall (hand s (input.Granted block stamp inc req mode entry)).state
unfolding hand
grant-asks s block stamp inc req mode entry p =
    let t : Serving = record s { tokens = (on_granted s.tokens block stamp inc req mode entry).state } in
    let u : Serving = ends_reading t in
    let outs : List Out = (on_granted s.tokens block stamp inc req mode entry).outs in
    let same : needed u.call ≡ needed s.call = needed_same u.call s.call (set_reading-step s.call (kept_while t.tokens (reading_in t.call))) in
    let taken : AsksForCall t = asks_for t (granted-asks (needed s.call) s.tokens (asks_as s p) block stamp inc req mode entry) p.waits in
    serving_follow-asks u outs (kept t u (ends_reading-keeps (needed t.call) t) taken)
    (subst (λ n. OneRead n outs) (sym same) (granted-outs (needed s.call) s.tokens (asks_as s p) block stamp inc req mode entry))
