-- Each event of the registry is a list of things that happen in the small world of one slot's index.
use Rattle.std.proofs.Common.{◌≡◌, ℕ, zero, suc, ◌+◌, ◌-◌, ◌<◌, ◌≤◌, ◌==◌, ◌⊎◌, inl, inr, ⊎_elim, nat_lt, nat_le, Bool, true, false, cond, List, [], ◌∷◌, map, length, length-set, get_or, get_or-set_same, get_or-set_other, Option, Some, None, refl, sym, ap, subst, ◌∙◌, arith}
use Rattle.std.specs.Prelude.{unwrap_or, slice_index}
use Rattle.std.specs.List.{slice_get, slice_set, list_all}
use Rattle.std.proofs.lemmas.Bool.{eqb-true, eqb-false, leb-true, ltb-true, le-ltb, lt-ltb}
use Rattle.std.proofs.lemmas.Bool.Decides.{nat_tests}
use Rattle.std.proofs.lemmas.Option.{unwrap_or-slice_get}
use Rattle.xfs_base.proofs.Booleans.{contrary, and_first, and_second}
use Rattle.xfs_base.specs.Limits.{u32_end}
use Rattle.xfs_base.specs.declared.news.SlotNews.{SlotNews}
use Rattle.index_tie.specs.Net.{Net, Runs, ones}
use Rattle.index_tie.specs.Net.Happens.{Keeps, Moves}
use Rattle.index_tie.specs.Net.Packet.{CheckpointDone}
use Rattle.log_protocol.specs.Tables.{In}
use Rattle.index_tie.specs.Net.Runs.{Begun, On}
use Rattle.headline.specs.Indexes.{epoch_in, of_log}
use Rattle.index_tie.proofs.Tables.{first_of, second_of}
use Rattle.index_tie.proofs.Takeovers.{of_log_in, of_log_out, by_log}
use Rattle.node_moves.proofs.registry_moves.Keeping.{Keeps as Keeping, event_keeps}
use Rattle.node_moves.specs.server_moves.Moves.{Came}
use Rattle.index_tie.proofs.Runs.{one_at}
use Rattle.node_slots.specs.node_tie.RegistryEvents.{RegistrySound}
use Rattle.node_slots.proofs.node_tie.RegistryNode.{registry_goes, registry_begins}
use Rattle.registry.specs.Board.{manager_restarted, server_lost, moved, is_kept, checkpointed, slot_news, board_slots}
use Rattle.registry.specs.BoardState.{BoardState}
use Rattle.registry.specs.Checkpoints.{first_checkpoint, places, none_lower, no_lower, covers, covers_kept, parts_in, parts_at, horizon_in, horizon_at}
use Rattle.registry.specs.Slots.{all_slots, entry_of}
use Rattle.registry.specs.declared.checkpoint.Checkpoint.{Checkpoint}
use Rattle.registry_node.specs.Events.{registry_step}
use Rattle.registry_node.specs.declared.node.RegistryNode.{RegistryNode}
use Rattle.token_protocol.specs.Basics.{In as Among}
use Rattle.wire_msg.specs.declared.body.Body.TheVariants as body
use Rattle.wire_msg.specs.declared.packet.Do.{Do}
use Rattle.wire_msg.specs.declared.packet.Packet.{Packet}
use Rattle.wire_msg.specs.declared.registry.CkptDone.{CkptDone}
use Rattle.node_slots.specs.node_index_tie.RegistryEvents.{IsHorizon, RegistryAgrees, BodyGets, DoGets, RegistryOwed, NewsTold, RegistryGoes, RegistryEventGoes, RegistryStarts}
use Rattle.node_slots.specs.node_index_tie.Sight.{held_in}
use Rattle.headline.specs.Filed.{Texts}

-- ---- the checkpoints of the slots

-- what is read of a slot's checkpoint is read of the list
horizon_is : (cs : List Checkpoint) (slot : ℕ) → horizon_at cs slot ≡ (get_or cs slot (record { parts = []; horizon = [] })).horizon
horizon_is cs slot = by (slice_get cs slot) ∙ ap (λ (c : Checkpoint). c.horizon) (unwrap_or-slice_get cs slot (record { parts = []; horizon = [] }))
  where
    by : (o : Option Checkpoint) → horizon_in o ≡ (unwrap_or o (record { parts = []; horizon = [] })).horizon
    by None = refl
    by (Some c) = refl

parts_is : (cs : List Checkpoint) (slot : ℕ) → parts_at cs slot ≡ (get_or cs slot (record { parts = []; horizon = [] })).parts
parts_is cs slot = by (slice_get cs slot) ∙ ap (λ (c : Checkpoint). c.parts) (unwrap_or-slice_get cs slot (record { parts = []; horizon = [] }))
  where
    by : (o : Option Checkpoint) → parts_in o ≡ (unwrap_or o (record { parts = []; horizon = [] })).parts
    by None = refl
    by (Some c) = refl

-- ---- what an event makes of the checkpoint of the slot

-- a checkpoint of the slot's epoch came and was kept
record KeptOne (part : ℕ) (b next : BoardState) (what : Do) : Type 0 where
  m : CkptDone
  comes : (n : Net) → DoGets part n what → BodyGets part n (body.CkptDone m)
  slot : m.slot ≡ part
  epoch : epoch_in b part ≡ m.epoch
  covers : no_lower (horizon_at b.checkpoints part) m.horizon ≡ true
  next_horizon : horizon_at next.checkpoints part ≡ m.horizon
  next_parts : parts_at next.checkpoints part ≡ m.parts
  same_epoch : epoch_in next part ≡ epoch_in b part

-- or the slot's stays
record Kept_so (part : ℕ) (b next : BoardState) : Type 0 where
  horizon : horizon_at next.checkpoints part ≡ horizon_at b.checkpoints part
  parts : parts_at next.checkpoints part ≡ parts_at b.checkpoints part

record Went (part : ℕ) (b next : BoardState) (what : Do) : Type 0 where
  eight : length next.checkpoints ≡ 8
  goes : Kept_so part b next ⊎ KeptOne part b next what

module _ (part : ℕ) (below : part < 8) (b : BoardState) (eight : length b.checkpoints ≡ 8) where
  stays : (what : Do) (next : BoardState) → next.checkpoints ≡ b.checkpoints → Went part b next what
  stays what next same = record {
    eight = ap (λ (cs : List Checkpoint). length cs) same ∙ eight;
    goes = inl (record { horizon = ap (λ (cs : List Checkpoint). horizon_at cs part) same; parts = ap (λ (cs : List Checkpoint). parts_at cs part) same });
  }

  module _ (what : Do) (m : CkptDone) (comes : (n : Net) → DoGets part n what → BodyGets part n (body.CkptDone m)) where
    abbrev put_in : List Checkpoint
    put_in = slice_set b.checkpoints m.slot (record { parts = m.parts; horizon = m.horizon })

    covers_some : (o : Option Checkpoint) → covers o m.horizon ≡ true → no_lower (horizon_in o) m.horizon ≡ true
    covers_some None fact = contrary fact
    covers_some (Some c) fact = fact

    kept_here : m.slot ≡ part → is_kept b m.slot m.epoch m.horizon ≡ true → KeptOne part b (checkpointed b m.slot m.parts m.horizon) what
    kept_here same fact =
        let at : Checkpoint = record { parts = []; horizon = [] } in
        let within : part < length b.checkpoints = omega arith in
        let here : get_or put_in part at ≡ record { parts = m.parts; horizon = m.horizon } = ap
        (λ k. get_or (slice_set b.checkpoints k (record { parts = m.parts; horizon = m.horizon })) part at) same ∙ get_or-set_same b.checkpoints part
        (record { parts = m.parts; horizon = m.horizon }) at within in
        record {
          m = m;
          comes = comes;
          slot = same;
          epoch = subst (λ k. epoch_in b k ≡ m.epoch) same (eqb-true (entry_of b.entries m.slot).epoch m.epoch
              (and_first ((entry_of b.entries m.slot).epoch == m.epoch) (covers_kept b.checkpoints m.slot m.horizon) fact));
          covers = covers_some (slice_get b.checkpoints part) (subst (λ k. covers_kept b.checkpoints k m.horizon ≡ true) same
              (and_second ((entry_of b.entries m.slot).epoch == m.epoch) (covers_kept b.checkpoints m.slot m.horizon) fact));
          next_horizon = horizon_is put_in part ∙ ap (λ (c : Checkpoint). c.horizon) here;
          next_parts = parts_is put_in part ∙ ap (λ (c : Checkpoint). c.parts) here;
          same_epoch = refl;
        }

    kept_there : (m.slot ≡ part → ⊥) → Kept_so part b (checkpointed b m.slot m.parts m.horizon)
    kept_there other =
        let at : Checkpoint = record { parts = []; horizon = [] } in
        let there : get_or put_in part at ≡ get_or b.checkpoints part at = get_or-set_other b.checkpoints m.slot part
        (record { parts = m.parts; horizon = m.horizon }) at (λ e. other (sym e)) in
        record {
          horizon = horizon_is put_in part ∙ ap (λ (c : Checkpoint). c.horizon) there ∙ sym (horizon_is b.checkpoints part);
          parts = parts_is put_in part ∙ ap (λ (c : Checkpoint). c.parts) there ∙ sym (parts_is b.checkpoints part);
        }

    checkpoint_goes : is_kept b m.slot m.epoch m.horizon ≡ true → Went part b (checkpointed b m.slot m.parts m.horizon) what
    checkpoint_goes fact = record {
      eight = length-set b.checkpoints m.slot (record { parts = m.parts; horizon = m.horizon }) ∙ eight;
      goes = by_slot (m.slot == part) refl;
    }
      where
        by_slot : (t : Bool) → (m.slot == part) ≡ t
            → Kept_so part b (checkpointed b m.slot m.parts m.horizon) ⊎ KeptOne part b (checkpointed b m.slot m.parts m.horizon) what
        by_slot true same = inr (kept_here (eqb-true m.slot part same) fact)
        by_slot false other = inl (kept_there (eqb-false m.slot part other))

-- ---- the node

module _ (part : ℕ) (below : part < 8) (r : RegistryNode) (eight : length r.board.checkpoints ≡ 8) (what : Do) where
  came_gets : (packet : Packet) (m : CkptDone) → Came what packet (body.CkptDone m) → (n : Net) → DoGets part n what → BodyGets part n (body.CkptDone m)
  came_gets packet m came n gets = subst (BodyGets part n) came.says (subst (DoGets part n) came.event gets)

  keeps : Keeping r what (λ next. Went part r.board next what) (λ next e. Unit {0})
  keeps = record {
    restarts = λ packet m manager came from hears h. stays part below r.board eight what (manager_restarted r.board manager m.inc) refl;
    loses = λ packet m server came from hears h. stays part below r.board eight what (server_lost r.board server m.inc) refl;
    moves = λ slot manager can h. stays part below r.board eight what (moved r.board slot manager) refl;
    checkpoints = λ packet m came kept h. checkpoint_goes part below r.board eight what m (came_gets packet m came) kept;
    says = λ next e h said. tt;
  }

  step_went : Went part r.board (registry_step r what).node.board what
  step_went =
      (event_keeps r what (λ next. Went part r.board next what) (λ next e. Unit {0}) keeps (stays part below r.board eight what r.board refl)).state

-- ---- the small world

-- a list by log has of a log what stands at its place
of_log_at : (xs : List ℕ) (l : ℕ) → 0 < l → l ≤ 9 → of_log xs l ≡ slice_index xs (l - 1)
of_log_at xs l some limit = of_log_in xs l some limit

each_place : (P : ℕ → Bool) → list_all P places ≡ true → (k : ℕ) → k < 9 → P k ≡ true
each_place P h zero low = and_first (P 0) _ h
each_place P h (suc zero) low = and_first (P 1) _ (and_second (P 0) _ h)
each_place P h (suc (suc zero)) low = and_first (P 2) _ (and_second (P 1) _ (and_second (P 0) _ h))
each_place P h (suc (suc (suc zero))) low = and_first (P 3) _ (and_second (P 2) _ (and_second (P 1) _ (and_second (P 0) _ h)))
each_place P h (suc (suc (suc (suc zero)))) low = and_first (P 4) _ (and_second (P 3) _ (and_second (P 2) _ (and_second (P 1) _ (and_second (P 0) _ h))))
each_place P h (suc (suc (suc (suc (suc zero))))) low = and_first (P 5) _
    (and_second (P 4) _ (and_second (P 3) _ (and_second (P 2) _ (and_second (P 1) _ (and_second (P 0) _ h)))))
each_place P h (suc (suc (suc (suc (suc (suc zero)))))) low =
    and_first (P 6) _ (and_second (P 5) _ (and_second (P 4) _ (and_second (P 3) _ (and_second (P 2) _ (and_second (P 1) _ (and_second (P 0) _ h))))))
each_place P h (suc (suc (suc (suc (suc (suc (suc zero))))))) low =
    and_first (P 7) _
    (and_second (P 6) _ (and_second (P 5) _ (and_second (P 4) _ (and_second (P 3) _ (and_second (P 2) _ (and_second (P 1) _ (and_second (P 0) _ h)))))))
each_place P h (suc (suc (suc (suc (suc (suc (suc (suc zero)))))))) low =
    and_first (P 8) _
    (and_second (P 7) _
    (and_second (P 6) _ (and_second (P 5) _ (and_second (P 4) _ (and_second (P 3) _ (and_second (P 2) _ (and_second (P 1) _ (and_second (P 0) _ h))))))))
each_place P h (suc (suc (suc (suc (suc (suc (suc (suc (suc k))))))))) low = absurd (omega arith)

-- none of its numbers is lower
rises_by : (kept horizon : List ℕ) → no_lower kept horizon ≡ true → (l : ℕ) → 0 < l → l ≤ 9 → of_log kept l ≤ of_log horizon l
rises_by kept horizon fact l some limit =
    let all : none_lower kept horizon ≡ true = and_second (length horizon == 9) (none_lower kept horizon) fact in
    let one = each_place (λ place. nat_le (slice_index kept place) (slice_index horizon place)) all (l - 1) (omega arith) in
    let a = of_log_at kept l some limit in
    let b = of_log_at horizon l some limit in
    let c : slice_index kept (l - 1) ≤ slice_index horizon (l - 1) = leb-true (slice_index kept (l - 1)) (slice_index horizon (l - 1)) one in
    omega arith

module _ (part : ℕ) (below : part < 8) (texts : Texts) (n : Net) (r : RegistryNode) (what : Do) (sound : RegistrySound r) (agrees : RegistryAgrees part n r)
    (owed : RegistryOwed part n what) where
  abbrev later : RegistryNode
  later = (registry_step r what).node

  -- what the maps tell of the slot is what is kept
  told : (m : Net) → RegistryAgrees part m later → (news : SlotNews) → Among news (board_slots later.board) → news.slot ≡ part → NewsTold part m news
  told m k news there of = by all_slots there
    where
      by : (slots : List ℕ) → Among news (map (slot_news later.board) slots) → NewsTold part m news
      by [] fact = absurd fact
      by (x ∷ xs) (inl fact) =
          let ours : x ≡ part = sym (ap (λ (s : SlotNews). s.slot) fact) ∙ of in
          subst (NewsTold part m) (sym (fact ∙ ap (slot_news later.board) ours))
          (record { epoch = k.epoch; horizon = k.horizon; parts = k.parts; horizon_fits = subst IsHorizon (sym k.horizon) k.horizon_fits })
      by (x ∷ xs) (inr fact) = by xs fact

  -- the small world is as it was, but for the epoch of the slot
  goes_on : (epoch : ℕ) → n.epoch ≤ epoch → Runs part (held_in part texts) n (record n { epoch = epoch }) → RegistryAgrees part (record n { epoch = epoch }) later
      → RegistryGoes part texts n r what
  goes_on epoch up runs agreed = record {
    next = record n { epoch = epoch };
    runs = runs;
    agrees = agreed;
    slots = refl;
    sent = refl;
    filed = refl;
    promised = refl;
    job = refl;
    number = refl;
    deleted = refl;
    epoch = up;
    horizon = λ e _ _. refl;
    parts = λ e _ _. refl;
    tells = told (record n { epoch = epoch }) agreed;
  }

  -- nothing that is kept of the slot has changed
  same_goes : length later.board.checkpoints ≡ 8 → Kept_so part r.board later.board → epoch_in later.board part ≡ epoch_in r.board part
      → RegistryGoes part texts n r what
  same_goes eight kept same = goes_on n.epoch (omega arith) Begun (record {
    epoch = same ∙ agrees.epoch;
    horizon = kept.horizon ∙ agrees.horizon;
    parts = kept.parts ∙ agrees.parts;
    eight = eight;
    later_horizon = agrees.later_horizon;
    later_parts = agrees.later_parts;
    horizon_fits = agrees.horizon_fits;
  })

  -- the slot has its next epoch
  moved_goes : length later.board.checkpoints ≡ 8 → Kept_so part r.board later.board → epoch_in later.board part ≡ epoch_in r.board part + 1
      → RegistryGoes part texts n r what
  moved_goes eight kept up =
      let on : n.horizon (suc n.epoch) ≡ n.horizon n.epoch = agrees.later_horizon (suc n.epoch) (omega arith) in
      let on_parts : n.parts (suc n.epoch) ≡ n.parts n.epoch = agrees.later_parts (suc n.epoch) (omega arith) in
      goes_on (suc n.epoch) (omega arith) (On Begun Moves) (record {
        epoch = let was = agrees.epoch in omega arith;
        horizon = kept.horizon ∙ agrees.horizon ∙ sym on;
        parts = kept.parts ∙ agrees.parts ∙ sym on_parts;
        eight = eight;
        later_horizon = λ e from. agrees.later_horizon e (omega arith) ∙ sym on;
        later_parts = λ e from. agrees.later_parts e (omega arith) ∙ sym on_parts;
        horizon_fits = subst IsHorizon (sym on) agrees.horizon_fits;
      })

  -- a checkpoint of its epoch is kept
  kept_goes : length later.board.checkpoints ≡ 8 → KeptOne part r.board later.board what → RegistryGoes part texts n r what
  kept_goes eight one =
      let known = one.comes n owed.gets one.slot in
      let same : n.epoch ≡ one.m.epoch = sym agrees.epoch ∙ one.epoch in
      let h = one.m.horizon in
      let ps = one.m.parts in
      let sent = subst (λ e. In (CheckpointDone e h ps) n.sent) (sym same) known.sent in
      let rises : (l : ℕ) → 0 < l → l ≤ 9 → of_log (n.horizon n.epoch) l ≤ of_log h l = λ l some limit. subst (λ (k : List ℕ). of_log k l ≤ of_log h l)
      agrees.horizon (rises_by (horizon_at r.board.checkpoints part) h one.covers l some limit) in
      let m : Net = record n { horizon = λ e. cond (nat_lt e n.epoch) (n.horizon e) h; parts = λ e. cond (nat_lt e n.epoch) (n.parts e) ps } in
      let now : (e : ℕ) → n.epoch ≤ e → m.horizon e ≡ h = λ e from. second_of (nat_lt e n.epoch) (n.horizon e) h (le-ltb e n.epoch from) in
      let now_parts : (e : ℕ) → n.epoch ≤ e → m.parts e ≡ ps = λ e from. second_of (nat_lt e n.epoch) (n.parts e) ps (le-ltb e n.epoch from) in
      let at : m.horizon n.epoch ≡ h = now n.epoch (omega arith) in
      let at_parts : m.parts n.epoch ≡ ps = now_parts n.epoch (omega arith) in
      let k : RegistryAgrees part m later = record {
        epoch = one.same_epoch ∙ agrees.epoch;
        horizon = one.next_horizon ∙ sym at;
        parts = one.next_parts ∙ sym at_parts;
        eight = eight;
        later_horizon = λ e from. now e from ∙ sym at;
        later_parts = λ e from. now_parts e from ∙ sym at_parts;
        horizon_fits = subst IsHorizon (sym at) (record {
          from_one = λ l some limit. let low = agrees.horizon_fits.from_one l some limit in let up = rises l some limit in omega
              arith;
          short = known.short;
        });
      } in
      record {
        next = m;
        runs = On Begun (Keeps h ps sent rises);
        agrees = k;
        slots = refl;
        sent = refl;
        filed = refl;
        promised = refl;
        job = refl;
        number = refl;
        deleted = refl;
        epoch = omega arith;
        horizon = λ e none low. before e none low sent (λ past. first_of (nat_lt e n.epoch) (n.horizon e) h (lt-ltb e n.epoch past));
        parts = λ e none low. before e none low sent (λ past. first_of (nat_lt e n.epoch) (n.parts e) ps (lt-ltb e n.epoch past));
        tells = told m k;
      }
    where
      before : {X : Type 0} (e : ℕ) → n.slots e ≡ None → e ≤ n.epoch → In (CheckpointDone n.epoch one.m.horizon one.m.parts) n.sent → (e < n.epoch → X) → X
      before {X = X} e none low sent f = by (nat_lt e n.epoch) refl
        where
          not_less : (a b : ℕ) → nat_lt a b ≡ false → a ≤ b → a ≡ b
          not_less a b h low = grind (arith, nat_tests)

          by : (t : Bool) → nat_lt e n.epoch ≡ t → X
          by true past = f (ltb-true e n.epoch past)
          by false now = absurd (owed.managed one.m.horizon one.m.parts sent (sym (ap n.slots (not_less e n.epoch now low)) ∙ none))

  registry_event : RegistryGoes part texts n r what
  registry_event =
      let w = step_went part below r agrees.eight what in
      let slot = (registry_goes part below r sound what).board.slot in
      ⊎_elim (λ kept. ⊎_elim (λ stays_. same_goes w.eight kept stays_.0) (λ up. moved_goes w.eight kept up) slot) (λ one. kept_goes w.eight one) w.goes

pub registry_event_goes : RegistryEventGoes
registry_event_goes part texts n r what below sound agrees owed = registry_event part below texts n r what sound agrees owed

-- ---- the start

-- what holds of the first checkpoint holds of that of each slot
eight_at : (P : Option Checkpoint → Type 0) → P (Some first_checkpoint) → (k : ℕ) → k < 8 → P (slice_get (map (λ _. first_checkpoint) all_slots) k)
eight_at P fact zero low = fact
eight_at P fact (suc zero) low = fact
eight_at P fact (suc (suc zero)) low = fact
eight_at P fact (suc (suc (suc zero))) low = fact
eight_at P fact (suc (suc (suc (suc zero)))) low = fact
eight_at P fact (suc (suc (suc (suc (suc zero))))) low = fact
eight_at P fact (suc (suc (suc (suc (suc (suc zero)))))) low = fact
eight_at P fact (suc (suc (suc (suc (suc (suc (suc zero))))))) low = fact
eight_at P fact (suc (suc (suc (suc (suc (suc (suc (suc k)))))))) low = absurd (omega arith)

first_horizon : IsHorizon (1 ∷ 1 ∷ 1 ∷ 1 ∷ 1 ∷ 1 ∷ 1 ∷ 1 ∷ 1 ∷ [])
first_horizon = record {
  from_one = λ l some limit. let a = of_log_in ones l some limit in let b = one_at (l - 1) (omega arith) in omega arith;
  short = by_log (λ l. of_log ones l ≤ u32_end) (λ l some limit. let a = of_log_in ones l some limit in let b = one_at (l - 1) (omega arith) in omega
      arith) (λ l out. let a = of_log_out ones l out in omega arith);
}

pub registry_starts : RegistryStarts
registry_starts part any setup items below = record {
  epoch = (registry_begins part below setup items).epoch;
  horizon = first_at part below;
  parts = first_parts part below;
  eight = refl;
  later_horizon = λ e from. refl;
  later_parts = λ e from. refl;
  horizon_fits = first_horizon;
}
  where
    first_at : (k : ℕ) → k < 8 → horizon_at (map (λ _. first_checkpoint) all_slots) k ≡ 1 ∷ 1 ∷ 1 ∷ 1 ∷ 1 ∷ 1 ∷ 1 ∷ 1 ∷ 1 ∷ []
    first_at k low = eight_at (λ c. horizon_in c ≡ 1 ∷ 1 ∷ 1 ∷ 1 ∷ 1 ∷ 1 ∷ 1 ∷ 1 ∷ 1 ∷ []) refl k low

    first_parts : (k : ℕ) → k < 8 → parts_at (map (λ _. first_checkpoint) all_slots) k ≡ []
    first_parts k low = eight_at (λ c. parts_in c ≡ []) refl k low
