-- Answers of a slot's recalls.
use Rattle.std.proofs.Common.{◌≡◌, ℕ, ◌≤◌, ◌<◌, Bool, true, false, cond, ◌||◌, not, List, [], ◌∷◌, ◌⊎◌, inl, inr, ⊎_elim, Option, Some, None, is_some, refl, sym, ap, subst, ◌∙◌, arith, nat_lt, nat_le, min, max}
use Rattle.std.specs.Ordering.{eq_by_cmp}
use Rattle.std.specs.List.{list_any}
use Rattle.std.specs.Map.{set_value}
use Rattle.std.specs.BTreeMap.{is_at, insert_entry}
use Rattle.std.proofs.lemmas.Bool.{false≢true}
use Rattle.std.proofs.lemmas.Bool.Decides.{nat_tests}
use Rattle.std.proofs.lemmas.Map.Views.{tells_apart}
use Rattle.xfs_base.specs.declared.block.BlockId.{BlockId}
use Rattle.xfs_base.specs.declared.token.Stamp.{Stamp}
use Rattle.xfs_base.specs.Blocks.{block_cmp}
use Rattle.xfs_base.specs.Steps.{still}
use Rattle.xfs_base.proofs.BlockOrder.{block_cmp_total, block_cmp_exact, lookup-insert_entry}
use Rattle.slot_beliefs.specs.declared.job.Wanted.{Wanted}
use Rattle.slot_beliefs.specs.declared.job.Awaited.{Awaited}
use Rattle.slot_beliefs.specs.declared.job.Holder.{Holder}
use Rattle.slot_beliefs.specs.declared.job.Job.{Job}
use Rattle.slot_beliefs.specs.Beliefs.{holder_cmp, holder, give_way, share_of}
use Rattle.slot_beliefs.specs.Beliefs as manager
use Rattle.slot_beliefs.specs.Recalls.{recalls, applied_of, is_ready, is_applied, answers, noted, job_at}
use Rattle.slot_beliefs.specs.Recalls as recall
use Rattle.slot_beliefs.proofs.Shares.{belief, disowned, holder_laws}
use Rattle.token_manager.specs.Laws.{Awaits}
use Rattle.token_manager.specs.Recalls.{send_recalls}
use Rattle.token_manager.specs.SlotState.{SlotState}
use Rattle.token_manager.specs.Transition.{passers, slot_finish, given, gave_one, on_gave}
use Rattle.token_manager.proofs.Cases.{all_given, by_gave_both}
use Rattle.token_manager.proofs.Guarded.{Sound, LeavesRoom, leaves_room, awaits-given, awaits-noted, ready_none}
use Rattle.token_manager.proofs.AwaitsJust.{more_elsewhere, more_others, answered}
use Rattle.token_manager.proofs.JobsBarGrants.{block_laws, after_removal, gone}
use Rattle.token_protocol.specs.Basics.{put, In}
use Rattle.token_protocol.specs.Managing as steps
use Rattle.token_protocol.specs.Packets as packets
use Rattle.token_protocol.specs.Step.Steps.{Done as Ended, More}
use Rattle.token_protocol.specs.Step.Step.{Notes}
use Rattle.token_protocol.specs.World.{World}
use Rattle.token_protocol.proofs.Refining.{put_each}
use Rattle.token_tie.specs.Seen.{kept}
use Rattle.token_tie.specs.Managed.{want_seen, AwaitedShown, AllAwaited, Named, Idle, Waits, JobShown, Manages, ByManager, Runs}
use Rattle.token_protocol.proofs.Told.{steps_through}
use Rattle.token_tie.proofs.Frames.{put_there, both_quiet}
use Rattle.token_tie.proofs.Managing.{by_through, runs_nowhere, turns-runs, slot_finish-runs}
use Rattle.token_tie.proofs.Wanting.{by_block, answer_quiet, other_put}
use Rattle.xfs_base.specs.Modes.{is_nothing, is_own}
use Rattle.xfs_base.proofs.Booleans.{and_first, and_second, contrary}

-- ---- the recalls

one_stamp : (client : ℕ) (stamp : Stamp) (a : Awaited) → answers client stamp a ≡ true → a.stamp ≡ stamp
one_stamp client stamp a h =
    let e : a.stamp.epoch ≡ stamp.epoch = grind (arith, nat_tests) in
    let t : a.stamp.turn ≡ stamp.turn = grind (arith, nat_tests) in
    λ i. record { epoch = e i; turn = t i }

is_the_one : (client : ℕ) (stamp : Stamp) (a : Awaited) → a.client ≡ client → a.stamp ≡ stamp → a.end ≡ None → answers client stamp a ≡ true
is_the_one client stamp a c s n =
    let e : a.stamp.epoch ≡ stamp.epoch = ap (λ (x : Stamp). x.epoch) s in
    let t : a.stamp.turn ≡ stamp.turn = ap (λ (x : Stamp). x.turn) s in
    let o : is_some a.end ≡ false = ap is_some n in
    grind (arith, nat_tests)

pub no_end : {A : Type 0} (x : A) (o : Option A) → o ≡ None → o ≡ Some x → ⊥
no_end x o none some = let clash : None ≡ Some x = sym none ∙ some in absurd (cc)

module _ (leave : Bool) (epoch : ℕ) (awaited keep : ℕ → ℕ) (recalls : List packets.Recall) (client : ℕ) (stamp : Stamp) (end : ℕ) where
  abbrev All : List Awaited → Type 0
  All as_ = AllAwaited leave epoch awaited keep recalls as_

  -- an answered recall is the awaited one
  answered_shown : (rows : List Awaited) → All rows → list_any (answers client stamp) rows ≡ true
      → (stamp ≡ recall.stamp epoch (awaited client)) × (0 < awaited client) × (keep client ≡ kept leave)
  answered_shown [] all any = contrary any
  answered_shown (a ∷ rows) all any = at (answers client stamp a) refl any (answered_shown rows all.1)
    where
      at : (t : Bool) → answers client stamp a ≡ t → (t || list_any (answers client stamp) rows) ≡ true
          → (list_any (answers client stamp) rows ≡ true → (stamp ≡ recall.stamp epoch (awaited client)) × (0 < awaited client) × (keep client ≡ kept leave))
          → (stamp ≡ recall.stamp epoch (awaited client)) × (0 < awaited client) × (keep client ≡ kept leave)
      at true fact _ later =
          let a_is = answered client stamp a fact in
          let shown = all.0 a_is.1 in (
            sym (one_stamp client stamp a fact) ∙ shown.stamp
                ∙ ap (λ c. recall.stamp epoch (awaited c)) a_is.0,
            subst (λ c. 0 < awaited c) a_is.0 shown.some,
            sym (ap keep a_is.0) ∙ shown.keeps,
          )
      at false fact any later = later any

  -- once it is noted, the others are awaited as before
  noted_each : (rows : List Awaited) → stamp ≡ recall.stamp epoch (awaited client) → All rows
      → AllAwaited leave epoch (put awaited client 0) keep recalls (noted rows client stamp end)
  noted_each [] mine all = tt
  noted_each (a ∷ rows) mine all = (
    elim (answers client stamp a) as
        (λ t. answers client stamp a ≡ t → (cond t (record a { end = Some end }) a).end ≡ None
        → AwaitedShown leave epoch (put awaited client 0) keep recalls (cond t (record a { end = Some end }) a)) [
          | true ↦ λ fact none. absurd (no_end end (Some end) none refl)
          | false ↦ λ fact none.
              let shown = all.0 none in
              let other : a.client ≡ client → ⊥ =
              λ same. false≢true (sym fact ∙ is_the_one client stamp a same (shown.stamp ∙ ap (λ c. recall.stamp epoch (awaited c)) same ∙ sym mine) none) in
              let there : put awaited client 0 a.client ≡ awaited a.client = put_there awaited client 0 a.client other in
              record {
                stamp = shown.stamp ∙ ap (recall.stamp epoch) (sym there);
                some = subst (λ n. 0 < n) (sym there) shown.some;
                keeps = shown.keeps;
                sent = subst (λ n. In (record { client = a.client; stamp = n; keep = kept a.keep }) recalls) (sym there) shown.sent;
              }
        ] refl,
    noted_each rows mine all.1,
  )

  -- an end that was named stays named
  named_on : (rows : List Awaited) (d n : ℕ) → Named rows d n → Named (noted rows client stamp end) d n
  named_on [] d n named = named
  named_on (a ∷ rows) d n named =
      ⊎_elim
      (λ here. inl (elim (answers client stamp a) as
      (λ t. answers client stamp a ≡ t
      → ((cond t (record a { end = Some end }) a).client ≡ d) × ((e : ℕ) × ((cond t (record a { end = Some end }) a).end ≡ Some e) × (n ≤ e))) [
        | true ↦ λ fact. absurd (no_end here.1.0 a.end (answered client stamp a fact).1 here.1.1)
        | false ↦ λ _. here
      ] refl))
      (λ there. inr (named_on rows d n there)) named

  -- and the new one is
  named_new : (rows : List Awaited) (n : ℕ) → list_any (answers client stamp) rows ≡ true → n ≤ end → Named (noted rows client stamp end) client n
  named_new [] n any less = contrary any
  named_new (a ∷ rows) n any less = at (answers client stamp a) refl any (λ h. named_new rows n h less)
    where
      at : (t : Bool) → answers client stamp a ≡ t → (t || list_any (answers client stamp) rows) ≡ true
          → (list_any (answers client stamp) rows ≡ true → Named (noted rows client stamp end) client n)
          → (((cond t (record a { end = Some end }) a).client ≡ client) × ((e : ℕ) × ((cond t (record a { end = Some end }) a).end ≡ Some e) × (n ≤ e)))
          ⊎ Named (noted rows client stamp end) client n
      at true fact _ later = inl ((answered client stamp a fact).0, (end, refl, less))
      at false fact any later = inr (later any)

-- what was named is applied, once the want is ready
pub named_applied : (applied : List ℕ) (rows : List Awaited) (d n : ℕ) → is_ready applied rows ≡ true → Named rows d n → n ≤ applied_of applied d
named_applied applied [] d n ready named = absurd named
named_applied applied (a ∷ rows) d n ready named =
    ⊎_elim
    (λ here. covers here.1.0 here.1.2
    (subst (λ c. is_applied applied c (Some here.1.0) ≡ true) here.0
    (subst (λ o. is_applied applied a.client o ≡ true) here.1.1 (and_first (is_applied applied a.client a.end) (is_ready applied rows) ready))))
    (named_applied applied rows d n (and_second (is_applied applied a.client a.end) (is_ready applied rows) ready)) named
  where
    covers : (e : ℕ) → n ≤ e → nat_le e (applied_of applied d) ≡ true → n ≤ applied_of applied d
    covers e less h = grind (arith, nat_tests)

pub zero_is : (n : ℕ) → (0 < n → ⊥) → n ≡ 0
zero_is n none =
    elim (nat_lt 0 n) as (λ t. nat_lt 0 n ≡ t → n ≡ 0) [ true ↦ λ some. absurd (none (grind (arith, nat_tests))) | false ↦ λ _. grind (arith, nat_tests) ] refl

-- the giver is believed to have what it was let keep of what it had
giver_has : (bs : List (Holder × Bool)) (h : Holder) (keep : Bool) (n : ℕ) → n ≤ manager.share (belief bs h)
    → min n (kept keep) ≤ manager.share (belief (give_way bs h keep) h)
giver_has bs h true n less =
    elim (is_some (belief bs h)) as
    (λ t. is_some (belief bs h) ≡ t → min n 1 ≤ manager.share (belief (cond t (set_value (is_at (holder_cmp h)) bs false) bs) h)) [
      | true ↦ λ some. let one : manager.share (belief (set_value (is_at (holder_cmp h)) bs false) h) ≡ 1 =
          ap manager.share (disowned bs h h some ∙ ap (λ t. cond t (Some false) (belief bs h)) (holder_laws.refl h)) in at_most n 1 _ (omega arith)
      | false ↦ λ _. at_least n 1 _ less
    ] refl
  where
    at_most : (a b c : ℕ) → b ≤ c → min a b ≤ c
    at_most a b c p = grind (arith, nat_tests)

    at_least : (a b c : ℕ) → a ≤ c → min a b ≤ c
    at_least a b c p = grind (arith, nat_tests)
giver_has bs h false n less = nothing n _
  where
    nothing : (a c : ℕ) → min a 0 ≤ c
    nothing a c = grind (arith, nat_tests)

module _ (logs : Bool) where
  -- an answer under the job's own name for the block
  pub slot_finish-at : (b : BlockId) (w : World) (s : SlotState) (ask : Wanted) (end : ℕ) → ask.block ≡ b → Manages b s w → job_at s.jobs b ≡ None
      → is_nothing ask.mode ≡ false → LeavesRoom s.beliefs ask → In (want_seen ask end) w.wants → end ≤ w.applied ask.client → Runs logs b w (slot_finish s ask)
  slot_finish-at b w s ask end same m none something room asked asker =
      subst (λ k. Manages k s w → job_at s.jobs k ≡ None → Runs logs k w (slot_finish s ask)) same
      (λ m none. slot_finish-runs logs w s ask end m none something room asked asker) m none

  module _ (b : BlockId) (w : World) (s : SlotState) (client : ℕ) (stamp : Stamp) (end : ℕ) (job : Job) (sound : Sound s) (m : Manages b s w)
      (some : 0 < client) (fact : job_at s.jobs b ≡ Some job)
      (any : list_any (answers client stamp) job.awaited ≡ true)
      (sent : stamp.epoch ≡ w.epoch → In (record { client = client; stamp = stamp.turn; end = end }) w.gaves) where
    abbrev keeps : Bool
    keeps = not (is_own job.want.mode)

    abbrev x : packets.Gave
    x = record { client = client; stamp = stamp.turn; end = end }

    abbrev v : World
    v = steps.notes w x

    abbrev rows : List Awaited
    rows = noted job.awaited client stamp end

    waits : Waits job s.epoch w.awaited w.keep w.owed w.applied w.wants w.recalls
    waits = subst (λ o. JobShown o s.epoch w.awaited w.keep w.owed w.applied w.wants w.recalls) fact m.job

    found : (stamp ≡ recall.stamp s.epoch (w.awaited client)) × (0 < w.awaited client) × (w.keep client ≡ kept keeps)
    found = answered_shown keeps s.epoch w.awaited w.keep w.recalls client stamp end job.awaited waits.each any

    noting : steps.MayNote w x
    noting = record { sent = sent (ap (λ (z : Stamp). z.epoch) found.0 ∙ m.epoch); answers = sym (ap (λ (z : Stamp). z.turn) found.0) }

    believed : (d : ℕ) → v.belief d ≤ share_of (given s job.want client b).beliefs b d
    believed = put_each (λ d n. n ≤ share_of (given s job.want client b).beliefs b d) w.belief client (min (w.belief client) (w.keep client))
        (subst (λ k. min (w.belief client) k ≤ share_of (given s job.want client b).beliefs b client) (sym found.2)
        (giver_has s.beliefs (holder b client) keeps (w.belief client) (m.belief client)))
        (λ d other. let p = m.belief d in
        let q = more_others s.beliefs (holder b client) (holder b d) keeps sound.sorted (λ same. other (ap (λ (h : Holder). h.client) same)) in omega arith)

    paid : (d : ℕ) → (v.owed d ≤ w.applied d) ⊎ ((0 < d) × Named rows d (v.owed d))
    paid = put_each (λ d n. (n ≤ w.applied d) ⊎ ((0 < d) × Named rows d n)) w.owed client (max (w.owed client) end) (mine (nat_le (w.owed client) end) refl)
        (λ d other. ⊎_elim inl (λ h. inr (h.0, named_on keeps s.epoch w.awaited w.keep w.recalls client stamp end job.awaited d (w.owed d) h.1)) (waits.paid d))
      where
        limit : (a e : ℕ) → nat_le a e ≡ true → max a e ≤ e
        limit a e h = grind (arith, nat_tests)

        least : (a e : ℕ) → nat_le a e ≡ false → a ≡ max a e
        least a e h = grind (arith, nat_tests)

        mine : (t : Bool) → nat_le (w.owed client) end ≡ t
            → (max (w.owed client) end ≤ w.applied client) ⊎ ((0 < client) × Named rows client (max (w.owed client) end))
        mine true h =
            inr (
              some,
              named_new keeps s.epoch w.awaited w.keep w.recalls client stamp end job.awaited (max (w.owed client) end) any
                  (limit (w.owed client) end h),
            )
        mine false h = subst (λ n. (n ≤ w.applied client) ⊎ ((0 < client) × Named rows client n)) (least (w.owed client) end h)
            (⊎_elim inl (λ p. inr (some, named_on keeps s.epoch w.awaited w.keep w.recalls client stamp end job.awaited client (w.owed client) p.1))
            (waits.paid client))

    waiting_on : Waits (record { want = job.want; awaited = rows }) s.epoch v.awaited v.keep v.owed v.applied v.wants v.recalls
    waiting_on = record {
      end = waits.end;
      asked = waits.asked;
      asker = waits.asker;
      something = waits.something;
      only = put_each (λ d n. 0 < n → Awaits rows d) w.awaited client 0 (λ none. absurd (omega arith))
          (λ d other more. awaits-noted job.awaited client stamp end d other (waits.only d more));
      each = noted_each keeps s.epoch w.awaited w.keep w.recalls client stamp end job.awaited found.0 waits.each;
      paid = paid;
    }

    frame : ByManager w v
    frame = record { others = refl; offers = λ p fact. fact; recalls = λ r fact. fact }

    -- the want waits on
    gave_one-runs : Runs logs b w (still (gave_one s client b job.want rows))
    gave_one-runs =
        let on : Job = record { want = job.want; awaited = rows } in
        let mine : job_at (insert_entry block_cmp s.jobs b on) b ≡ Some on =
        lookup-insert_entry block_cmp_total b b on s.jobs ∙ ap (λ t. cond t (Some on) (job_at s.jobs b)) (block_laws.refl b) in
        record {
          world = v;
          steps = More Ended (Notes x noting);
          quiet = refl;
          frame = frame;
          told = tt;
          shows = record {
            epoch = m.epoch;
            turn = m.turn;
            belief = believed;
            applied = m.applied;
            index = m.index;
            job = subst (λ o. JobShown o s.epoch v.awaited v.keep v.owed v.applied v.wants v.recalls) (sym mine) waiting_on;
          };
        }

    -- the want waits no longer
    gave_last-runs : is_ready s.applied rows ≡ true → Runs logs b w (slot_finish (all_given s client b job.want) job.want)
    gave_last-runs ready =
        let u = all_given s client b job.want in
        let none : job_at u.jobs b ≡ None = gone s.jobs b sound.waiting.sorted in
        let idle : Idle v.awaited v.owed v.applied = record {
          nothing = λ d. zero_is (v.awaited d) (λ more. ready_none s.applied rows d ready (waiting_on.only d more));
          paid = λ d. ⊎_elim (λ h. h) (λ h. let a = m.applied d h.0 in let n = named_applied s.applied rows d (v.owed d) ready h.1 in omega arith) (paid d);
        } in
        let shown : Manages b u v =
        record {
          epoch = m.epoch;
          turn = m.turn;
          belief = believed;
          applied = m.applied;
          index = m.index;
          job = subst (λ o. JobShown o s.epoch v.awaited v.keep v.owed v.applied v.wants v.recalls) (sym none) idle;
        } in
        let t = slot_finish-at b v u job.want waits.end (sound.waiting.own b job fact) shown none waits.something
        (leaves_room (given s job.want client b).beliefs s.applied (record { want = job.want; awaited = rows })
        (awaits-given s job client b stamp end sound fact) ready) waits.asked waits.asker in
        record {
          world = t.world;
          steps = steps_through w v t.world (More Ended (Notes x noting)) t.steps;
          quiet = both_quiet logs w v t.world (More Ended (Notes x noting)) t.steps refl t.quiet;
          frame = by_through w v t.world frame t.frame;
          shows = t.shows;
          told = t.told;
        }

  -- a Gave of another block
  gave-there : (b : BlockId) (w : World) (s : SlotState) (client : ℕ) (block : BlockId) (stamp : Stamp) (end : ℕ) → Sound s → Manages b s w → (block ≡ b → ⊥)
      → Runs logs b w (on_gave s client block stamp end)
  gave-there b w s client block stamp end sound m other =
      let less = λ (job : Job) (c : ℕ). more_others s.beliefs (holder block client) (holder b c) (not (is_own job.want.mode)) sound.sorted
      (λ same. other (sym (ap (λ (h : Holder). h.block) same))) in
      by_gave_both (Runs logs b w) s client block stamp end (runs_nowhere logs b w s m)
      (λ job fact any ready.
      let mine = sound.waiting.own block job fact in
      let apart : job.want.block ≡ b → ⊥ = λ same. other (sym mine ∙ same) in
      let u = all_given s client block job.want in
      turns-runs logs b w s (slot_finish u job.want) 1 m refl refl
      (λ c. let p = less job c in let q = more_elsewhere u.beliefs job.want (holder b c) (λ same. apart (sym same)) in omega arith) refl refl
      (after_removal s.jobs block b sound.waiting.sorted
      ∙ elim (eq_by_cmp block_cmp block b) as (λ t. eq_by_cmp block_cmp block b ≡ t → cond t None (job_at s.jobs b) ≡ job_at s.jobs b)
      [ true ↦ λ same. absurd (other (tells_apart block_cmp_exact block b same)) | false ↦ λ _. refl ] refl)
      (λ v. answer_quiet logs b v u job.want (passers u job.want) apart))
      (λ job fact any. turns-runs logs b w s (still (gave_one s client block job.want (noted job.awaited client stamp end))) 0 m refl (omega arith)
      (less job) refl refl (other_put logs s b block _ other) (λ v. tt))

pub takes_gave : (logs : Bool) (b : BlockId) (w : World) (s : SlotState) (client : ℕ) (block : BlockId) (stamp : Stamp) (end : ℕ) → Sound s → Manages b s w
    → 0 < client
    → (block ≡ b → stamp.epoch ≡ w.epoch → In (record { client = client; stamp = stamp.turn; end = end }) w.gaves)
    → Runs logs b w (on_gave s client block stamp end)
takes_gave logs b w s client block stamp end sound m some sent =
    by_block b (λ k. (k ≡ b → stamp.epoch ≡ w.epoch → In (record { client = client; stamp = stamp.turn; end = end }) w.gaves)
    → Runs logs b w (on_gave s client k stamp end))
    (λ a. by_gave_both (Runs logs b w) s client b stamp end (runs_nowhere logs b w s m)
    (λ job fact any ready. gave_last-runs logs b w s client stamp end job sound m some fact any (a refl) ready)
    (λ job fact any. gave_one-runs logs b w s client stamp end job sound m some fact any (a refl)))
    (λ k other _. gave-there logs b w s client k stamp end sound m other) block sent
