-- What a slot's changes are by steps of the abstract protocol.
use Rattle.xfs_base.proofs.Members.{contains_first, contains_rest}
use Rattle.std.proofs.Common.{◌≡◌, ℕ, zero, suc, ◌+◌, ◌==◌, ◌≤◌, ◌<◌, Bool, true, false, cond, ◌||◌, not, length, List, [], ◌∷◌, ◌++◌, ◌⊎◌, inl, inr, ⊎_elim, Option, Some, None, is_some, refl, sym, ap, subst, ◌∙◌, arith, max}
use Rattle.std.specs.Ordering.{eq_by_cmp}
use Rattle.std.specs.BTreeMap.{insert_entry}
use Rattle.std.proofs.lemmas.Bool.Decides.{nat_tests}
use Rattle.xfs_base.specs.declared.block.BlockId.{BlockId}
use Rattle.xfs_base.specs.declared.token.Mode.{Mode}
use Rattle.xfs_base.specs.declared.token.Mode.TheVariants.{Nothing, Copy, Own}
use Rattle.xfs_base.specs.declared.token.Stamp.{Stamp}
use Rattle.xfs_base.specs.Blocks.{block_cmp}
use Rattle.xfs_base.specs.Steps.{still}
use Rattle.xfs_base.proofs.BlockOrder.{block_cmp_total, lookup-insert_entry}
use Rattle.slot_beliefs.specs.declared.job.Wanted.{Wanted}
use Rattle.slot_beliefs.specs.declared.job.Holder.{Holder}
use Rattle.slot_beliefs.specs.declared.job.Job.{Job}
use Rattle.slot_beliefs.specs.Beliefs.{holder_cmp, holder, others, forget_block, beliefs_own, beliefs_hold, meet_want, share_of, wanted_share}
use Rattle.slot_beliefs.specs.Beliefs as manager
use Rattle.slot_beliefs.specs.Recalls.{recalls, applied_of, stamp, job_at}
use Rattle.slot_beliefs.proofs.Shares.{holder_cmp_total, holder_laws, belief, apart_test}
use Rattle.token_manager.specs.declared.output.Out.{Out}
use Rattle.token_manager.specs.declared.output.Out.TheVariants.{Grant, Forward, Recall, Applied, Live, Dead}
use Rattle.token_manager.specs.Laws.{Awaits}
use Rattle.token_manager.specs.Recalls.{send_recalls}
use Rattle.token_manager.specs.SlotState.{SlotState}
use Rattle.token_manager.specs.Transition.{Done, entry_at, passers, answer, slot_finish, recalled}
use Rattle.token_manager.proofs.Guarded.{LeavesRoom}
use Rattle.token_manager.proofs.AwaitsJust.{Once}
use Rattle.token_manager.proofs.JobsBarGrants.{block_laws}
use Rattle.token_protocol.specs.Basics.{put, In}
use Rattle.token_protocol.specs.Managing as steps
use Rattle.token_protocol.specs.Entry as abstract_entry
use Rattle.token_protocol.specs.Packets as packets
use Rattle.token_protocol.specs.Premises.{Premise, EndsApplied}
use Rattle.token_protocol.specs.Step.{Steps}
use Rattle.token_protocol.specs.Step.Steps.{Done as Ended, More}
use Rattle.token_protocol.specs.Step.Step.{Offers, Recalls, Turns}
use Rattle.token_protocol.specs.World.{World}
use Rattle.token_protocol.proofs.Refining.{put_each}
use Rattle.token_tie.specs.Seen.{kept, entry_seen, SentOffer, SentRecall}
use Rattle.xfs_base.specs.Modes.{is_nothing, is_own, mode_number}
use Rattle.token_tie.specs.Managed.{want_seen, AllAwaited, Idle, JobShown, Manages, ByManager, AllTold, Runs}
use Rattle.token_protocol.specs.Told.{told as acts_told}
use Rattle.token_protocol.proofs.Told.{steps_through}
use Rattle.token_tie.proofs.Frames.{put_here, put_there, both_quiet}
use Rattle.std.specs.Prelude.{Contains}
use Rattle.xfs_base.proofs.Booleans.{contrary}

-- ---- frames

pub by_nothing : (w : World) → ByManager w w
by_nothing w = record { others = refl; offers = λ p fact. fact; recalls = λ r fact. fact }

pub by_through : (w v u : World) → ByManager w v → ByManager v u → ByManager w u
by_through w v u p q =
    record { others = q.others ∙ p.others; offers = λ x fact. q.offers x (p.offers x fact); recalls = λ x fact. q.recalls x (p.recalls x fact) }

pub offer_on : (client : ℕ) (w v : World) (stamp : Stamp) (inc req : ℕ) (mode : Mode) (entry : abstract_entry.Entry) → v.epoch ≡ w.epoch
    → ((p : packets.Offer) → In p w.offers → In p v.offers) → SentOffer client w stamp inc req mode entry → SentOffer client v stamp inc req mode entry
offer_on client w v stamp inc req mode entry epoch grows s =
    record { low = let a = s.low in omega arith; some = s.some; offered = λ fact. grows _ (s.offered (fact ∙ epoch)) }

pub recall_on : (client : ℕ) (w v : World) (stamp : Stamp) (keep : Bool) → v.epoch ≡ w.epoch → ((p : packets.Recall) → In p w.recalls → In p v.recalls)
    → SentRecall client w stamp keep → SentRecall client v stamp keep
recall_on client w v stamp keep epoch grows s = record {
  low = let a = s.low in omega arith;
  some = s.some;
  recalled = λ fact. grows _ (s.recalled (fact
      ∙ epoch));
}

-- what was said stays said
pub told_on : (b : BlockId) (w v : World) (outs : List Out) → ByManager w v → AllTold b w outs → AllTold b v outs
told_on b w v [] by h = tt
told_on b w v (Grant client block stamp inc req mode entry ∷ os) by h =
    (λ fact. offer_on client w v stamp inc req mode _ (ap (λ (u : World). u.epoch) by.others) by.offers (h.0 fact), told_on b w v os by h.1)
told_on b w v (Forward passer block stamp client inc req ver ∷ os) by h = (
  λ fact. let t = h.0 fact in (t.0, t.1, offer_on client w v stamp inc req Copy _ (ap (λ (u : World). u.epoch) by.others) by.offers t.2),
  told_on b w v os by h.1,
)
told_on b w v (Recall client block stamp keep ∷ os) by h =
    (λ fact. recall_on client w v stamp keep (ap (λ (u : World). u.epoch) by.others) by.recalls (h.0 fact), told_on b w v os by h.1)
told_on b w v (Applied log upto ∷ os) by h = (tt, told_on b w v os by h.1)
told_on b w v (Live entry ∷ os) by h = (tt, told_on b w v os by h.1)
told_on b w v (Dead ∷ os) by h = (tt, told_on b w v os by h.1)

pub told_both : (b : BlockId) (w : World) (outs more : List Out) → AllTold b w outs → AllTold b w more → AllTold b w (outs ++ more)
told_both b w [] more h k = k
told_both b w (o ∷ os) more h k = (h.0, told_both b w os more h.1 k)

-- ---- ranks

rank_wanted : (mode : Mode) → is_nothing mode ≡ false → mode_number mode ≡ wanted_share mode
rank_wanted Nothing h = contrary (sym h)
rank_wanted Copy h = refl
rank_wanted Own h = refl

rank_copy : (mode : Mode) → is_nothing mode ≡ false → is_own mode ≡ false → mode_number mode ≡ 1
rank_copy Nothing h k = contrary (sym h)
rank_copy Copy h k = refl
rank_copy Own h k = contrary (sym k)

pub some_most : (o : Option Bool) → is_some o ≡ true → 1 ≤ manager.share o
some_most None h = contrary h
some_most (Some true) h = omega arith
some_most (Some false) h = omega arith

pub none_least : (o : Option Bool) → is_some o ≡ false → manager.share o ≡ 0
none_least None h = refl
none_least (Some x) h = contrary (sym h)

-- the asker is believed to have what it had and what it wants
asker_has : (bs : List (Holder × Bool)) (ask : Wanted) (n : ℕ) → is_nothing ask.mode ≡ false → n ≤ share_of bs ask.block ask.client
    → max n (mode_number ask.mode) ≤ share_of (meet_want bs ask) ask.block ask.client
asker_has bs ask n something less =
    let h = holder ask.block ask.client in
    let limit : manager.share (belief bs h) ≤ 2 = most_rank (belief bs h) in
    let named : mode_number ask.mode ≡ wanted_share ask.mode = rank_wanted ask.mode something in
    let itself = λ (t : Bool) (es : List (Holder × Bool)). lookup-insert_entry holder_cmp_total h h t es
    ∙ ap (λ c. cond c (Some t) (belief es h)) (holder_laws.refl h) in
    elim (is_own ask.mode) as (λ t. is_own ask.mode ≡ t → max n (mode_number ask.mode) ≤ manager.share (belief (cond t (beliefs_own bs h) (beliefs_hold bs h)) h)) [
      | true ↦ λ own. let two : manager.share (belief (beliefs_own bs h) h) ≡ 2 = ap manager.share (itself true (forget_block bs h.block)) in let one =
          rank_own ask.mode own in at_most n (mode_number ask.mode) _ (omega arith) (omega arith)
      | false ↦ λ copy. let one : mode_number ask.mode ≡ 1 = rank_copy ask.mode something copy in
          elim (is_some (belief bs h)) as
          (λ t. is_some (belief bs h) ≡ t → max n (mode_number ask.mode) ≤ manager.share (belief (cond t bs (insert_entry holder_cmp bs h false)) h)) [
            | true ↦ λ some. let there = some_most (belief bs h) some in at_most n (mode_number ask.mode) _ less (omega arith)
            | false ↦ λ none. let new : manager.share (belief (insert_entry holder_cmp bs h false) h) ≡ 1 = ap manager.share (itself false bs) in let old =
                none_least (belief bs h) none in at_most n (mode_number ask.mode) _ (omega arith) (omega arith)
          ] refl
    ] refl
  where
    most_rank : (o : Option Bool) → manager.share o ≤ 2
    most_rank None = omega arith
    most_rank (Some true) = omega arith
    most_rank (Some false) = omega arith

    rank_own : (mode : Mode) → is_own mode ≡ true → mode_number mode ≡ 2
    rank_own Nothing h = contrary h
    rank_own Copy h = contrary h
    rank_own Own h = refl

    at_most : (a b c : ℕ) → a ≤ c → b ≤ c → max a b ≤ c
    at_most a b c p q = grind (arith, nat_tests)

-- of the others nobody has less where the asker wants a copy
others_have : (bs : List (Holder × Bool)) (ask : Wanted) (d : ℕ) → (d ≡ ask.client → ⊥) → is_own ask.mode ≡ false
    → share_of bs ask.block d ≤ share_of (meet_want bs ask) ask.block d
others_have bs ask d other copy =
    let h = holder ask.block ask.client in
    let q = holder ask.block d in
    let apart : eq_by_cmp holder_cmp q h ≡ true → ⊥ = apart_test q h (λ p. other (ap (λ (x : Holder). x.client) p)) in
    subst (λ t. share_of bs ask.block d ≤ share_of (cond t (beliefs_own bs h) (beliefs_hold bs h)) ask.block d) (sym copy)
    (elim (is_some (belief bs h)) as (λ t. manager.share (belief bs q) ≤ manager.share (belief (cond t bs (insert_entry holder_cmp bs h false)) q)) [
      | true ↦ omega arith
      | false ↦ subst (λ o. manager.share (belief bs q) ≤ manager.share o) (sym (lookup-insert_entry holder_cmp_total q h false bs))
          (stays (eq_by_cmp holder_cmp q h) (belief bs q) apart)
    ])
  where
    stays : (t : Bool) (o : Option Bool) → (t ≡ true → ⊥) → manager.share o ≤ manager.share (cond t (Some false) o)
    stays true o apart = absurd (apart refl)
    stays false o apart = omega arith

module _ (logs : Bool) where
  pub runs_nowhere : (b : BlockId) (w : World) (s : SlotState) → Manages b s w → Runs logs b w (still s)
  runs_nowhere b w s m = record { world = w; steps = Ended; quiet = refl; frame = by_nothing w; shows = m; told = tt }

  -- ---- turns of other blocks

  -- steps to this turn that tell nothing
  abbrev Turning : World → ℕ → Type 0
  Turning w t = (steps : Steps logs w (record w { turn = t })) × (acts_told w (record w { turn = t }) steps ≡ [])

  turning : (w : World) (n : ℕ) → Turning w (w.turn + n)
  turning w zero = let e : w.turn ≡ w.turn + 0 = omega arith in subst (Turning w) e (Ended, refl)
  turning w (suc n) = let e : suc (w.turn + n) ≡ w.turn + suc n = omega arith in let t = turning w n in subst (Turning w) e (More t.0 Turns, λ i. t.1 i ++ [])

  -- the slot speaks of another block
  pub turns-runs : (b : BlockId) (w : World) (s : SlotState) (d : Done) (n : ℕ) → Manages b s w → d.state.epoch ≡ s.epoch → d.state.turn ≡ s.turn + n
      → ((c : ℕ) → share_of s.beliefs b c ≤ share_of d.state.beliefs b c)
      → d.state.applied ≡ s.applied → d.state.index ≡ s.index → job_at d.state.jobs b ≡ job_at s.jobs b → ((v : World) → AllTold b v d.outs) → Runs logs b w d
  turns-runs b w s d n m epoch turn belief_ applied index jobs told = record {
    world = record w { turn = w.turn + n };
    steps = (turning w n).0;
    quiet = (turning w n).1;
    frame = record { others = refl; offers = λ p fact. fact; recalls = λ r fact. fact };
    shows = record {
      epoch = epoch ∙ m.epoch;
      turn = let t = m.turn in omega arith;
      belief = λ c. let x = m.belief c in let y = belief_ c in omega arith;
      applied = λ c some. m.applied c some ∙ ap (λ xs. applied_of xs c) (sym applied);
      index = m.index ∙ ap (λ i. entry_seen (entry_at (record s { index = i }) b)) (sym index);
      job = subst (λ o. JobShown o d.state.epoch w.awaited w.keep w.owed w.applied w.wants w.recalls) (sym jobs)
          (subst (λ e. JobShown (job_at s.jobs b) e w.awaited w.keep w.owed w.applied w.wants w.recalls) (sym epoch) m.job);
    };
    told = told (record w { turn = w.turn + n });
  }

  -- ---- answers

  told-answer : (v : World) (s : SlotState) (ask : Wanted) (from : List ℕ) → (is_own ask.mode ≡ true → from ≡ []) → is_nothing ask.mode ≡ false
      → s.epoch ≡ v.epoch
      → In (record {
        client = ask.client;
        stamp = s.turn + 1;
        incarnation = ask.inc;
        request = ask.req;
        mode = mode_number ask.mode;
        entry = entry_seen (entry_at s ask.block);
      }) v.offers → AllTold ask.block v (answer s ask from ∷ [])
  told-answer v s ask [] none something epoch fact = (λ same. record { low = omega arith; some = omega arith; offered = λ _. fact }, tt)
  told-answer v s ask (c ∷ cs) none something epoch fact = (
    λ same. (
      entry_at s ask.block,
      refl,
      record {
        low = omega arith;
        some = omega arith;
        offered = λ _. subst
            (λ n. In (record {
              client = ask.client;
              stamp = s.turn + 1;
              incarnation = ask.inc;
              request = ask.req;
              mode = n;
              entry = entry_seen (entry_at s ask.block);
            }) v.offers) (rank_copy ask.mode something (copy (is_own ask.mode) none)) fact;
      },
    ),
    tt,
  )
    where
      copy : (t : Bool) → (t ≡ true → (c ∷ cs) ≡ []) → t ≡ false
      copy true h = absurd (let e : (c ∷ cs) ≡ [] = h refl in cc)
      copy false h = refl

  no_passers : (s : SlotState) (ask : Wanted) → is_own ask.mode ≡ true → passers s ask ≡ []
  no_passers s ask own = ap (λ t. cond (t || not (ask.again == 0)) [] (others s.beliefs ask.block ask.client false)) own

  -- a want that need not wait is answered
  pub slot_finish-runs : (w : World) (s : SlotState) (ask : Wanted) (end : ℕ) → Manages ask.block s w → job_at s.jobs ask.block ≡ None
      → is_nothing ask.mode ≡ false → LeavesRoom s.beliefs ask → In (want_seen ask end) w.wants → end ≤ w.applied ask.client
      → Runs logs ask.block w (slot_finish s ask)
  slot_finish-runs w s ask end m none something room asked asker =
      let p = want_seen ask end in
      let idle : Idle w.awaited w.owed w.applied = subst (λ o. JobShown o s.epoch w.awaited w.keep w.owed w.applied w.wants w.recalls) none m.job in
      let named : mode_number ask.mode ≡ wanted_share ask.mode = rank_wanted ask.mode something in
      let fits : (d : ℕ) → (d ≡ ask.client → ⊥)
      → w.belief d + mode_number ask.mode ≤ 2 = λ d other. (let x = m.belief d in let y = room d other in omega arith) in
      let turn : s.turn + 1 ≡ suc w.turn = let t = m.turn in omega arith in
      record {
        world = steps.offers w p;
        steps = More Ended
            (Offers p (record { sent = asked; settled = idle.nothing ask.client; fits = fits }) (ends logs (record { asker = asker; givers = idle.paid })));
        quiet = refl;
        frame = record { others = refl; offers = λ x fact. inr fact; recalls = λ x fact. fact };
        shows = record {
          epoch = m.epoch;
          turn = turn;
          belief = put_each (λ d n. n ≤ share_of (meet_want s.beliefs ask) ask.block d) w.belief ask.client (max (w.belief ask.client) (mode_number ask.mode))
              (asker_has s.beliefs ask (w.belief ask.client) something (m.belief ask.client))
              (λ d other. elsewhere d other (is_own ask.mode) refl (fits d other));
          applied = m.applied;
          index = m.index;
          job = m.job;
        };
        told = told-answer (steps.offers w p) s ask (passers s ask) (no_passers s ask) something m.epoch
            (inl (λ i. record {
              client = ask.client;
              stamp = turn i;
              incarnation = ask.inc;
              request = ask.req;
              mode = mode_number ask.mode;
              entry = sym m.index i;
            }));
      }
    where
      ends : (t : Bool) → EndsApplied w (want_seen ask end) → Premise t (EndsApplied w (want_seen ask end))
      ends true h = h
      ends false h = tt

      two : (mode : Mode) → is_own mode ≡ true → mode_number mode ≡ 2
      two Nothing h = contrary h
      two Copy h = contrary h
      two Own h = refl

      elsewhere : (d : ℕ) → (d ≡ ask.client → ⊥) → (t : Bool) → is_own ask.mode ≡ t → w.belief d + mode_number ask.mode ≤ 2
          → w.belief d ≤ share_of (meet_want s.beliefs ask) ask.block d
      elsewhere d other true own fits = let n = two ask.mode own in omega arith
      elsewhere d other false copy fits = let x = m.belief d in let y = others_have s.beliefs ask d other copy in omega arith

  -- ---- recalls

  -- what the recalls of a want lead to
  record Recalled (keeps : Bool) (b : BlockId) (epoch turn : ℕ) (w : World) (cs : List ℕ) : Type 0 where
    world : World
    steps : Steps logs w world
    quiet : acts_told w world steps ≡ []
    frame : ByManager w world
    same : record world { awaited = λ c. 0; keep = λ c. 0; turn = 0; recalls = [] } ≡ record w { awaited = λ c. 0; keep = λ c. 0; turn = 0; recalls = [] }
    turned : world.turn ≡ w.turn + length cs
    others : (d : ℕ) → (Contains cs d → ⊥) → (world.awaited d ≡ w.awaited d) × (world.keep d ≡ w.keep d)
    only : (d : ℕ) → 0 < world.awaited d → (0 < w.awaited d) ⊎ Awaits (recalls epoch turn keeps cs) d
    each : AllAwaited keeps epoch world.awaited world.keep world.recalls (recalls epoch turn keeps cs)
    told : AllTold b world (send_recalls b (recalls epoch turn keeps cs))

  recalling : (b : BlockId) (keeps : Bool) (epoch turn : ℕ) (w : World) (cs : List ℕ) → Once cs → turn ≡ w.turn → epoch ≡ w.epoch
      → Recalled keeps b epoch turn w cs
  recalling b keeps epoch turn w [] once fact reigns = record {
    world = w;
    steps = Ended;
    quiet = refl;
    frame = by_nothing w;
    same = refl;
    turned = omega arith;
    others = λ d no. (refl, refl);
    only = λ d some. inl some;
    each = tt;
    told = tt;
  }
  recalling b keeps epoch turn w (c ∷ cs) once fact reigns =
      let v = steps.recalls w c (kept keeps) in
      let next : turn + 1 ≡ v.turn = omega arith in
      let r = recalling b keeps epoch (turn + 1) v cs once.1 next reigns in
      let own = r.others c once.0 in
      let awaited : r.world.awaited c ≡ turn + 1 = own.0 ∙ put_here w.awaited c (suc w.turn) ∙ sym next in
      let sent_ : In (record { client = c; stamp = suc w.turn; keep = kept keeps }) r.world.recalls = r.frame.recalls _ (inl refl) in
      record {
        world = r.world;
        steps = steps_through w v r.world (More Ended (Recalls c (kept keeps) (record { less = least keeps }))) r.steps;
        quiet = both_quiet logs w v r.world (More Ended (Recalls c (kept keeps) (record { less = least keeps }))) r.steps refl r.quiet;
        frame = by_through w v r.world (record { others = refl; offers = λ x fact. fact; recalls = λ x fact. inr fact }) r.frame;
        same = r.same;
        turned = let t = r.turned in omega arith;
        others = λ d no.
            (let o = r.others d (λ h. no (contains_rest c d cs h)) in let other : d ≡ c
            → ⊥ = λ e. no (subst (Contains (c ∷ cs)) (sym e) (contains_first c cs)) in
            (o.0 ∙ put_there w.awaited c (suc w.turn) d other, o.1 ∙ put_there w.keep c (kept keeps) d other));
        only = λ d some. ⊎_elim (λ s. first d s) (λ a. inr (inr a)) (r.only d some);
        each = (
          (λ none. record {
            stamp = ap (stamp epoch) (sym awaited);
            some = omega arith;
            keeps = own.1 ∙ put_here w.keep c (kept keeps);
            sent = subst (λ n. In (record { client = c; stamp = n; keep = kept keeps }) r.world.recalls) (sym next ∙ sym awaited) sent_;
          }),
          r.each,
        );
        told = (
          λ same. record {
            low = let e : r.world.epoch ≡ w.epoch = ap (λ (u : World). u.epoch) r.same in omega arith;
            some = omega arith;
            recalled = λ _. subst (λ n. In (record { client = c; stamp = n; keep = kept keeps }) r.world.recalls) (sym next) sent_;
          },
          r.told,
        );
      }
    where
      least : (t : Bool) → kept t ≤ 1
      least true = omega arith
      least false = omega arith

      first : (d : ℕ) → 0 < put w.awaited c (suc w.turn) d → (0 < w.awaited d) ⊎ Awaits (recalls epoch turn keeps (c ∷ cs)) d
      first d = put_each (λ x n. 0 < n → (0 < w.awaited x) ⊎ Awaits (recalls epoch turn keeps (c ∷ cs)) x) w.awaited c (suc w.turn)
          (λ _. inr (inl (refl, refl))) (λ x other some. inl some) d

  -- a want that waits: a recall to each of these clients
  pub recalled-runs : (w : World) (s : SlotState) (ask : Wanted) (end : ℕ) (cs : List ℕ) → Manages ask.block s w → job_at s.jobs ask.block ≡ None
      → is_nothing ask.mode ≡ false → Once cs → In (want_seen ask end) w.wants → end ≤ w.applied ask.client
      → Runs logs ask.block w (recalled s ask cs)
  recalled-runs w s ask end cs m none something once asked asker =
      let b = ask.block in
      let keeps = not (is_own ask.mode) in
      let idle : Idle w.awaited w.owed w.applied = subst (λ o. JobShown o s.epoch w.awaited w.keep w.owed w.applied w.wants w.recalls) none m.job in
      let r = recalling b keeps s.epoch s.turn w cs once m.turn m.epoch in
      let v = r.world in
      let j : Job = record { want = ask; awaited = recalls s.epoch s.turn keeps cs } in
      let mine : job_at (insert_entry block_cmp s.jobs b j) b ≡ Some j =
      lookup-insert_entry block_cmp_total b b j s.jobs ∙ ap (λ t. cond t (Some j) (job_at s.jobs b)) (block_laws.refl b) in
      let owed : (d : ℕ) → v.owed d ≡ w.owed d = λ d. ap (λ (u : World). u.owed d) r.same in
      let applied : (d : ℕ) → v.applied d ≡ w.applied d = λ d. ap (λ (u : World). u.applied d) r.same in
      record {
        world = v;
        steps = r.steps;
        quiet = r.quiet;
        frame = r.frame;
        shows = record {
          epoch = m.epoch ∙ sym (ap (λ (u : World). u.epoch) r.same);
          turn = let t = m.turn in let q = r.turned in omega arith;
          belief = λ d. subst (λ n. n ≤ share_of s.beliefs b d) (sym (ap (λ (u : World). u.belief d) r.same)) (m.belief d);
          applied = λ d some. applied d ∙ m.applied d some;
          index = ap (λ (u : World). u.index) r.same ∙ m.index;
          job = subst (λ o. JobShown o s.epoch v.awaited v.keep v.owed v.applied v.wants v.recalls) (sym mine) (record {
            end = end;
            asked = subst (In (want_seen ask end)) (sym (ap (λ (u : World). u.wants) r.same)) asked;
            asker = let a = applied ask.client in omega arith;
            something = something;
            only = λ d some. ⊎_elim (λ was. absurd (let z = idle.nothing d in omega arith)) (λ a. a) (r.only d some);
            each = r.each;
            paid = λ d. inl (let o = owed d in let a = applied d in let p = idle.paid d in omega arith);
          });
        };
        told = r.told;
      }
