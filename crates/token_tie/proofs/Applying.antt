-- Deltas and ticks of a slot.
use Rattle.xfs_base.proofs.Members.{contains_first, contains_rest}
use Rattle.std.proofs.Common.{◌≡◌, ℕ, ◌-◌, ◌≤◌, ◌<◌, Bool, true, false, cond, ◌&&◌, not, length, List, [], ◌∷◌, ◌++◌, inl, inr, ⊎_elim, Option, Some, None, is_some, refl, sym, ap, subst, ◌∙◌, arith, nat_le}
use Rattle.std.specs.Ordering.{eq_by_cmp}
use Rattle.std.proofs.lemmas.Bool.{false≢true}
use Rattle.std.proofs.lemmas.Bool.Decides.{nat_tests}
use Rattle.std.proofs.lemmas.Map.Views.{tells_apart}
use Rattle.xfs_base.specs.declared.block.BlockId.{BlockId}
use Rattle.xfs_base.specs.declared.token.Stamp.{Stamp}
use Rattle.xfs_base.specs.Blocks.{block_cmp}
use Rattle.xfs_base.specs.Steps.{still, saying, steps}
use Rattle.xfs_base.specs.declared.entry.Entry.{Entry}
use Rattle.xfs_base.specs.declared.entry.Place.{Place}
use Rattle.xfs_base.specs.declared.segment.LogId.{LogId}
use Rattle.delta_index.specs.Index.{entry_of}
use Rattle.std.specs.List.{AllByRecursion}
use Rattle.std.specs.List.Sorted.{IsStrictlySortedBy}
use Rattle.std.specs.Ordering.{is_eq}
use Rattle.std.specs.Map.{keys_of}
use Rattle.std.specs.declared.cmp.Ordering.TheVariants.{Less}
use Rattle.std.proofs.lemmas.List.{get_or-set_other, get_or-set_same}
use Rattle.slot_beliefs.specs.declared.job.Awaited.{Awaited}
use Rattle.slot_beliefs.specs.declared.job.Job.{Job}
use Rattle.slot_beliefs.specs.Index.{merge_all}
use Rattle.slot_beliefs.specs.Beliefs.{holder}
use Rattle.slot_beliefs.specs.Recalls.{recalls, applied_of, is_ready, ready_blocks, job_at, applied_upto, is_followed}
use Rattle.token_manager.specs.declared.input.In as inputs
use Rattle.token_manager.specs.declared.input.In.TheVariants.{Want, Gave, Deltas, Check, Tick}
use Rattle.token_protocol.specs.Premises.{Premise, IndexCovers}
use Rattle.xfs_base.proofs.BlockOrder.{block_cmp_exact}
use Rattle.token_manager.specs.declared.output.Out.{Out}
use Rattle.token_manager.specs.declared.output.Out.TheVariants.{Applied, Live, Dead}
use Rattle.token_manager.specs.Recalls.{send_recalls, recall_of, send_all}
use Rattle.token_manager.specs.SlotState.{SlotState}
use Rattle.token_manager.specs.Transition.{Done, entry_at, passers, slot_finish, finish_job, with_deltas, apply, can_apply, slot_apply, joins_on, told_applied, deltas_of, on_deltas, is_place, on_check, on_tick, transition}
use Rattle.token_manager.proofs.Cases.{let_go, by_finished_at}
use Rattle.token_manager.proofs.Guarded.{Sound, ReadyAt, ready_finds, sound-answered, jobs_fewer, leaves_room, ready_none}
use Rattle.token_manager.proofs.AwaitsJust.{more_elsewhere}
use Rattle.token_manager.proofs.JobsBarGrants.{block_laws, after_removal, gone}
use Rattle.token_protocol.specs.Basics.{put, In}
use Rattle.token_protocol.specs.Managing as manages
use Rattle.token_protocol.specs.Packets as packets
use Rattle.token_protocol.specs.Step.Steps.{Done as Ended, More}
use Rattle.token_protocol.specs.Step.Step.{Applies}
use Rattle.token_protocol.specs.World.{World}
use Rattle.token_protocol.proofs.Refining.{put_each}
use Rattle.token_tie.specs.Seen.{kept, entry_seen}
use Rattle.token_tie.specs.Managed.{AllAwaited, Idle, Waits, JobShown, Manages, AllTold, Runs}
use Rattle.token_tie.specs.SlotInputs.{Brings, SlotTakes}
use Rattle.token_protocol.proofs.Told.{steps_through}
use Rattle.token_tie.proofs.Frames.{both_quiet}
use Rattle.token_tie.proofs.Managing.{by_nothing, by_through, told_on, told_both, runs_nowhere, turns-runs}
use Rattle.token_tie.proofs.Wanting.{by_block, none_is, reached_sound, answer_quiet, takes_want}
use Rattle.token_tie.proofs.Gaving.{no_end, named_applied, zero_is, slot_finish-at, takes_gave}
use Rattle.xfs_base.specs.Modes.{is_own}
use Rattle.xfs_base.proofs.Booleans.{by_test}
use Rattle.xfs_base.specs.Limits.{block_logs}

-- what is applied of a log rises where its deltas are taken
rising : (applied : ℕ → ℕ) (c upto : ℕ) → applied c ≤ upto → (d : ℕ) → applied d ≤ put applied c upto d
rising applied c upto limit = put_each (λ d n. applied d ≤ n) applied c upto limit (λ d other. omega arith)

-- and is what the slot has applied
applied_put : (w : World) (s : SlotState) (b : BlockId) (log : LogId) (upto : ℕ) → Manages b s w → 0 < log.0 → log.0 - 1 < length s.applied → (d : ℕ) → 0 < d
    → put w.applied log.0 upto d ≡ applied_of (applied_upto s.applied log upto) d
applied_put w s b log upto m some known =
    put_each (λ d n. 0 < d → n ≡ applied_of (applied_upto s.applied log upto) d) w.applied log.0 upto
    (λ _. sym (get_or-set_same s.applied (log.0 - 1) upto 0 known))
    (λ d other more. m.applied d more ∙ sym (get_or-set_other s.applied (log.0 - 1) (d - 1) upto 0 (λ same. other (omega arith))))

joined : (applied first upto : ℕ) → joins_on applied first upto ≡ true → applied ≤ upto
joined applied first upto h = grind (arith, nat_tests)

followed : (n : ℕ) → (nat_le 1 n && nat_le n block_logs) ≡ true → 0 < n
followed n h = grind (arith, nat_tests)

-- deltas that join on, of a log that is followed
by_deltas_known : (Q : Done → Type 0) (s : SlotState) (log : LogId) (first upto : ℕ) (rows : List (BlockId × Entry)) → Q (still s) → Q (told_applied s log)
    → (0 < log.0 → applied_of s.applied log.0 ≤ upto → Q (apply s log upto rows)) → Q (on_deltas s log first upto rows)
by_deltas_known Q s log first upto rows same told done =
    by_test Q (is_followed log) (deltas_of s log first upto rows) (still s)
    (λ known. by_test Q (joins_on (applied_of s.applied log.0) first upto) (slot_apply s log upto rows) (told_applied s log)
    (λ joins. by_test Q (can_apply s log upto rows) (apply s log upto rows) (still s)
    (λ _. done (followed log.0 known) (joined (applied_of s.applied log.0) first upto joins)) (λ _. same))
    (λ _. told))
    (λ _. same)

module _ (logs : Bool) (b : BlockId) where
  raised : (o : Option Job) (epoch : ℕ) (awaited keep owed applied more : ℕ → ℕ) (wants : List packets.Want) (recalls : List packets.Recall)
      → ((d : ℕ) → applied d ≤ more d) → JobShown o epoch awaited keep owed applied wants recalls → JobShown o epoch awaited keep owed more wants recalls
  raised None epoch awaited keep owed applied more wants recalls rises j =
      record { nothing = j.nothing; paid = λ d. let p = j.paid d in let r = rises d in omega arith }
  raised (Some job) epoch awaited keep owed applied more wants recalls rises j = record {
    end = j.end;
    asked = j.asked;
    asker = let p = j.asker in let r = rises job.want.client in omega arith;
    something = j.something;
    only = j.only;
    each = j.each;
    paid = λ d. ⊎_elim (λ p. inl (let r = rises d in omega arith)) inr (j.paid d);
  }

  -- the want that waits for this block is answered
  let_go-runs : (w : World) (s : SlotState) (job : Job) → Sound s → Manages b s w → job_at s.jobs b ≡ Some job → is_ready s.applied job.awaited ≡ true
      → Runs logs b w (slot_finish (let_go s b) job.want)
  let_go-runs w s job sound m fact ready =
      let waits : Waits job s.epoch w.awaited w.keep w.owed w.applied w.wants w.recalls =
      subst (λ o. JobShown o s.epoch w.awaited w.keep w.owed w.applied w.wants w.recalls) fact m.job in
      let none : job_at (let_go s b).jobs b ≡ None = gone s.jobs b sound.waiting.sorted in
      let idle : Idle w.awaited w.owed w.applied = record {
        nothing = λ d. zero_is (w.awaited d) (λ more. ready_none s.applied job.awaited d ready (waits.only d more));
        paid = λ d. ⊎_elim (λ h. h) (λ h. let a = m.applied d h.0 in let n = named_applied s.applied job.awaited d (w.owed d) ready h.1 in omega arith)
            (waits.paid d);
      } in
      let shown : Manages b (let_go s b) w =
      record {
        epoch = m.epoch;
        turn = m.turn;
        belief = m.belief;
        applied = m.applied;
        index = m.index;
        job = subst (λ o. JobShown o s.epoch w.awaited w.keep w.owed w.applied w.wants w.recalls) (sym none) idle;
      } in
      slot_finish-at logs b w (let_go s b) job.want waits.end (sound.waiting.own b job fact) shown none waits.something
      (leaves_room s.beliefs s.applied job (sound.awaits b job fact) ready) waits.asked waits.asker

  -- a want for another block is answered
  let_go-there : (w : World) (s : SlotState) (block : BlockId) (job : Job) → Sound s → Manages b s w → (block ≡ b → ⊥) → job_at s.jobs block ≡ Some job
      → Runs logs b w (slot_finish (let_go s block) job.want)
  let_go-there w s block job sound m other fact =
      let apart : job.want.block ≡ b → ⊥ = λ same. other (sym (sound.waiting.own block job fact) ∙ same) in
      let u = let_go s block in
      turns-runs logs b w s (slot_finish u job.want) 1 m refl refl (λ c. more_elsewhere s.beliefs job.want (holder b c) (λ same. apart (sym same))) refl refl
      (after_removal s.jobs block b sound.waiting.sorted
      ∙ elim (eq_by_cmp block_cmp block b) as (λ t. eq_by_cmp block_cmp block b ≡ t → cond t None (job_at s.jobs b) ≡ job_at s.jobs b)
      [ true ↦ λ same. absurd (other (tells_apart block_cmp_exact block b same)) | false ↦ λ _. refl ] refl)
      (λ v. answer_quiet logs b v u job.want (passers u job.want) apart)

  one-runs : (w : World) (s : SlotState) (block : BlockId) → Sound s → Manages b s w
      → ((job : Job) → job_at s.jobs block ≡ Some job → is_ready s.applied job.awaited ≡ true) → Runs logs b w (finish_job s block)
  one-runs w s block sound m ready =
      by_block b (λ k. ((job : Job) → job_at s.jobs k ≡ Some job → is_ready s.applied job.awaited ≡ true) → Runs logs b w (finish_job s k))
      (λ r. by_finished_at (Runs logs b w) s b (runs_nowhere logs b w s m) (λ job fact. let_go-runs w s job sound m fact (r job fact)))
      (λ k other _. by_finished_at (Runs logs b w) s k (runs_nowhere logs b w s m) (λ job fact. let_go-there w s k job sound m other fact)) block ready

  runs_through : (w : World) (s : SlotState) (d e : Done) (t : Runs logs b w d) → Runs logs b t.world e → Runs logs b w (saying d.outs e)
  runs_through w s d e t u =
      record {
        world = u.world;
        steps = steps_through w t.world u.world t.steps u.steps;
        quiet = both_quiet logs w t.world u.world t.steps u.steps t.quiet u.quiet;
        frame = by_through w t.world u.world t.frame u.frame;
        shows = u.shows;
        told = told_both b u.world d.outs e.outs (told_on b t.world u.world d.outs u.frame t.told) u.told;
      }

  same_applied : (s : SlotState) (block : BlockId) → (finish_job s block).state.applied ≡ s.applied
  same_applied s block = by_finished_at (λ d. d.state.applied ≡ s.applied) s block refl (λ job fact. refl)

  many-run : (w : World) (s : SlotState) (applied : List ℕ) (blocks : List BlockId) → s.applied ≡ applied → Sound s → Manages b s w
      → ReadyAt s.jobs applied blocks → Runs logs b w (steps finish_job s blocks)
  many-run w s applied [] fact sound m ready = runs_nowhere logs b w s m
  many-run w s applied (k ∷ ks) fact sound m ready =
      let d = finish_job s k in
      let here : (job : Job) → job_at s.jobs k ≡ Some job → is_ready s.applied job.awaited ≡ true =
      λ job h. subst (λ a. is_ready a job.awaited ≡ true) (sym fact) (ready k (contains_first k ks) job h) in
      let t = one-runs w s k sound m here in
      let next : Sound d.state =
      by_finished_at (λ r. Sound r.state) s k sound (λ job h. sound-answered s applied k job sound h (ready k (contains_first k ks) job h)) in
      runs_through w s d (steps finish_job d.state ks) t
      (many-run t.world d.state applied ks (same_applied s k ∙ fact) next t.shows
      (λ block has job h. ready block (contains_rest k block ks has) job (jobs_fewer s k block job sound.waiting h)))

  pub takes_deltas : (w : World) (s : SlotState) (log : LogId) (first upto : ℕ) (rows : List (BlockId × Entry)) → Sound s → Manages b s w
      → log.0 - 1 < length s.applied → Premise logs (IndexCovers w log.0 upto (entry_seen (entry_of (merge_all s.index rows).rows b)))
      → Runs logs b w (on_deltas s log first upto rows)
  takes_deltas w s log first upto rows sound m known covers =
      by_deltas_known (Runs logs b w) s log first upto rows (runs_nowhere logs b w s m) (saying (Applied log (applied_of s.applied log.0) ∷ []) (tt, tt))
      (λ some limit.
      let e = entry_seen (entry_of (merge_all s.index rows).rows b) in
      let v = manages.applies w log.0 upto e in
      let u = with_deltas s log upto rows in
      let was = m.applied log.0 some in
      let less : w.applied log.0 ≤ upto = omega arith in
      let shown : Manages b u v = record {
        epoch = m.epoch;
        turn = m.turn;
        belief = m.belief;
        index = refl;
        applied = applied_put w s b log upto m some known;
        job = raised (job_at s.jobs b) s.epoch w.awaited w.keep w.owed w.applied v.applied w.wants w.recalls (rising w.applied log.0 upto less) m.job;
      } in
      let t = many-run v u (applied_upto s.applied log upto) (ready_blocks s.jobs (applied_upto s.applied log upto)) refl
      (record { sorted = sound.sorted; waiting = sound.waiting; alone = sound.alone; awaits = sound.awaits }) shown
      (ready_finds s.jobs (applied_upto s.applied log upto) sound.waiting.sorted) in
      record {
        world = t.world;
        steps = steps_through w v t.world (More Ended (Applies log.0 upto e (record { forward = less }) covers)) t.steps;
        quiet = both_quiet logs w v t.world (More Ended (Applies log.0 upto e (record { forward = less }) covers)) t.steps refl t.quiet;
        frame = by_through w v t.world (record { others = refl; offers = λ p fact. fact; recalls = λ r fact. fact }) t.frame;
        shows = t.shows;
        told = (tt, t.told);
      })
    where
      saying : (outs : List Out) → AllTold b w outs → Runs logs b w (record { state = s; outs = outs })
      saying outs told = record { world = w; steps = Ended; quiet = refl; frame = by_nothing w; shows = m; told = told }

  -- ---- ticks

  nobody_below : (k : BlockId) (es : List (BlockId × Job)) → AllByRecursion (λ y. block_cmp k y ≡ Less) (keys_of es) → job_at es k ≡ None
  nobody_below k [] below = refl
  nobody_below k (e ∷ es) below = ap (λ o. cond (is_eq o) (Some e.1) (job_at es k)) below.0 ∙ nobody_below k es below.1

  -- what waits for this block is shown by its recalls
  abbrev pub Resent : World → List (BlockId × Job) → Type 0
  Resent w es = (job : Job) → job_at es b ≡ Some job → AllTold b w (send_recalls b job.awaited)

  send_recalls-there : (w : World) (block : BlockId) (rows : List Awaited) → (block ≡ b → ⊥) → AllTold b w (send_recalls block rows)
  send_recalls-there w block [] other = tt
  send_recalls-there w block (a ∷ rows) other =
      elim (is_some a.end) as (λ t. AllTold b w (cond t (send_recalls block rows) (recall_of block a ∷ send_recalls block rows)))
      [ true ↦ send_recalls-there w block rows other | false ↦ (λ same. absurd (other same), send_recalls-there w block rows other) ]

  pub send_all-told : (w : World) (es : List (BlockId × Job)) → IsStrictlySortedBy block_cmp (keys_of es) → Resent w es → AllTold b w (send_all es)
  unfolding IsStrictlySortedBy
  send_all-told w [] sorted resent = tt
  send_all-told w (e ∷ es) sorted resent =
      let rest_ : ((job : Job) → job_at es b ≡ Some job → AllTold b w (send_recalls b job.awaited)) → AllTold b w (send_all es) = send_all-told w es sorted.1 in
      elim (eq_by_cmp block_cmp b e.0) as (λ t. eq_by_cmp block_cmp b e.0 ≡ t → AllTold b w (send_recalls e.0 e.1.awaited ++ send_all es)) [
        | true ↦ λ same.
            let one : b ≡ e.0 = tells_apart block_cmp_exact b e.0 same in
            told_both b w (send_recalls e.0 e.1.awaited) (send_all es)
            (subst (λ k. AllTold b w (send_recalls k e.1.awaited)) one (resent e.1 (ap (λ t. cond t (Some e.1) (job_at es b)) same)))
            (rest_ (λ job fact. absurd (no_end job (job_at es b) (subst (λ k. job_at es k ≡ None) (sym one) (nobody_below e.0 es sorted.0)) fact)))
        | false ↦ λ apart.
            told_both b w (send_recalls e.0 e.1.awaited) (send_all es)
            (send_recalls-there w e.0 e.1.awaited (λ same. false≢true (sym apart ∙ subst (λ k. eq_by_cmp block_cmp b k ≡ true) (sym same) (block_laws.refl b))))
            (rest_ (λ job fact. resent job (ap (λ t. cond t (Some e.1) (job_at es b)) apart ∙ fact)))
      ] refl

  send_recalls-here : (w : World) (leave : Bool) (epoch : ℕ) (rows : List Awaited) → epoch ≡ w.epoch → AllAwaited leave epoch w.awaited w.keep w.recalls rows
      → AllTold b w (send_recalls b rows)
  send_recalls-here w leave epoch [] reigns all = tt
  send_recalls-here w leave epoch (a ∷ rows) reigns all =
      elim (is_some a.end) as (λ t. is_some a.end ≡ t → AllTold b w (cond t (send_recalls b rows) (recall_of b a ∷ send_recalls b rows))) [
        | true ↦ λ _. send_recalls-here w leave epoch rows reigns all.1
        | false ↦ λ none.
            let shown = all.0 (none_is a.end none) in
            let turn = ap (λ (z : Stamp). z.turn) shown.stamp in let of_epoch = ap (λ (z : Stamp). z.epoch) shown.stamp in let some = shown.some in (
              λ same. record {
                low = omega arith;
                some = omega arith;
                recalled = λ _. subst (λ n. In (record { client = a.client; stamp = n; keep = kept a.keep }) w.recalls) (sym turn) shown.sent;
              },
              send_recalls-here w leave epoch rows reigns all.1,
            )
      ] refl

  pub takes_tick : (w : World) (s : SlotState) → Sound s → Manages b s w → Runs logs b w (on_tick s)
  takes_tick w s sound m = record {
    world = w;
    steps = Ended;
    quiet = refl;
    frame = by_nothing w;
    shows = m;
    told = send_all-told w s.jobs sound.waiting.sorted (λ job fact.
        send_recalls-here w (not (is_own job.want.mode)) s.epoch job.awaited m.epoch (waits job fact).each);
  }
    where
      waits : (job : Job) → job_at s.jobs b ≡ Some job → Waits job s.epoch w.awaited w.keep w.owed w.applied w.wants w.recalls
      waits job fact = subst (λ o. JobShown o s.epoch w.awaited w.keep w.owed w.applied w.wants w.recalls) fact m.job

  pub takes_check : (w : World) (s : SlotState) (block : BlockId) (place : Place) → Manages b s w → Runs logs b w (on_check s block place)
  takes_check w s block place m = record {
    world = w;
    steps = Ended;
    quiet = refl;
    frame = by_nothing w;
    shows = m;
    told = by_test (λ (o : Out). AllTold b w (o ∷ [])) (is_place (entry_at s block).place place) (Live (entry_at s block)) Dead (λ _. (tt, tt)) (λ _. (tt, tt));
  }

-- each input, of a sound slot
pub sound_takes : (logs : Bool) (b : BlockId) (w : World) (s : SlotState) (input : inputs.In) → Sound s → Manages b s w → Brings logs b w s input
    → Runs logs b w (transition s input)
sound_takes logs b w s (Want want end) sound m brings =
    takes_want logs b w s want.client want.inc want.req want.again want.block want.mode end sound m brings.0 brings.1
sound_takes logs b w s (Gave client block stamp end) sound m brings = takes_gave logs b w s client block stamp end sound m brings.0 brings.1
sound_takes logs b w s (Deltas log first upto rows) sound m brings = takes_deltas logs b w s log first upto rows sound m brings.0 brings.1
sound_takes logs b w s (Check block place) sound m brings = takes_check logs b w s block place m
sound_takes logs b w s Tick sound m brings = takes_tick logs b w s sound m

pub slot_takes : SlotTakes
slot_takes logs b w s input reached m brings = sound_takes logs b w s input (reached_sound s reached) m brings
