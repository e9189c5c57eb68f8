-- A want that waits awaits nobody but those who must give way, each of them once: every input keeps this.
use Rattle.std.proofs.Common.{Contains, ◌≡◌, ℕ, ◌+◌, ◌≤◌, ◌<◌, ◌==◌, ◌&&◌, ◌||◌, Bool, true, false, cond, not, length, List, [], ◌∷◌, inl, inr, ⊎_elim, Option, Some, None, is_some, unwrap_or, refl, sym, ap, subst, ◌∙◌, arith}
use Rattle.std.specs.declared.cmp.Ordering.TheVariants.{Less}
use Rattle.std.specs.Ordering.{eq_by_cmp, is_eq}
use Rattle.std.specs.List.{list_any, AllByRecursion}
use Rattle.std.specs.List.Sorted.{IsStrictlySortedBy}
use Rattle.std.specs.Map.{keys_of, set_value}
use Rattle.std.specs.BTreeMap.{is_at, insert_entry}
use Rattle.std.proofs.lemmas.Bool.{false≢true, eqb-true}
use Rattle.std.proofs.lemmas.Bool.Decides.{nat_tests}
use Rattle.std.proofs.lemmas.Map.Views.{tells_apart}
use Rattle.xfs_base.specs.declared.block.BlockId.{BlockId}
use Rattle.xfs_base.specs.declared.entry.Entry.{Entry}
use Rattle.xfs_base.specs.declared.token.Mode.{Mode}
use Rattle.xfs_base.specs.declared.token.Stamp.{Stamp}
use Rattle.xfs_base.specs.Blocks.{block_cmp, same_block}
use Rattle.xfs_base.specs.Steps.{steps}
use Rattle.xfs_base.proofs.BlockOrder.{block_cmp_total, lookup-insert_entry, same_block_exact}
use Rattle.xfs_base.proofs.Members.{contains_nothing, contains_first, contains_rest, contains_cases}
use Rattle.xfs_base.proofs.StepLoops.{steps_keep}
use Rattle.xfs_base.specs.Modes.{is_own}
use Rattle.slot_beliefs.specs.declared.job.Holder.{Holder}
use Rattle.slot_beliefs.specs.declared.job.Wanted.{Wanted}
use Rattle.slot_beliefs.specs.declared.job.Job.{Job}
use Rattle.slot_beliefs.specs.declared.job.Awaited.{Awaited}
use Rattle.slot_beliefs.specs.Beliefs.{holder_cmp, holder, others, forget_block, beliefs_own, beliefs_hold, meet_want, give_way, share, share_of, wanted_share}
use Rattle.slot_beliefs.specs.Recalls.{recalls, answers, noted, ready_blocks, job_at, without_job, applied_upto}
use Rattle.slot_beliefs.proofs.Shares.{holder_cmp_exact, holder_cmp_total, holder_laws, belief, belief-forget_block, apart_test, disowned, forgotten, gives_way}
use Rattle.token_manager.specs.declared.input.In.{In}
use Rattle.token_manager.specs.declared.input.In.TheVariants.{Want, Gave, Deltas, Check, Tick}
use Rattle.token_manager.specs.SlotState.{SlotState}
use Rattle.token_manager.specs.Transition.{slot_start, slot_finish, given, gave_one, with_deltas, finish_job, transition}
use Rattle.token_manager.specs.Laws.{OwnsAlone, Awaits, MustGiveWay, IsGuarded, state_after}
use Rattle.token_manager.proofs.Cases.{recalled_from, by_want, all_given, by_gave_both, by_deltas, let_go, by_finished_at}
use Rattle.token_manager.proofs.JobsBarGrants.{Waiting, block_laws, waiting-removed, after_removal, was_there, gone, not_waiting}
use Rattle.token_manager.proofs.Guarded.{Sound, sound-transition, sound-answered, sound-start, ReadyAt, ready_finds, jobs_fewer}

-- ---- what changes keep

kept_cond : (t of : Bool) (o : Option Bool) → (t ≡ true → ⊥) → (of ≡ true → ⊥) → share o ≤ share (cond t (Some true) (cond of None o))
kept_cond true of o apart other = absurd (apart refl)
kept_cond false true o apart other = absurd (other refl)
kept_cond false false o apart other = omega arith

kept_put : (t : Bool) (x o : Option Bool) → (t ≡ true → ⊥) → share o ≤ share (cond t x o)
kept_put true x o apart = absurd (apart refl)
kept_put false x o apart = omega arith

-- of other blocks nobody has less than before
pub more_elsewhere : (bs : List (Holder × Bool)) (want : Wanted) (q : Holder) → (q.block ≡ want.block → ⊥)
    → share (belief bs q) ≤ share (belief (meet_want bs want) q)
more_elsewhere bs want q other =
    let h = holder want.block want.client in
    let apart : eq_by_cmp holder_cmp q h ≡ true → ⊥ = apart_test q h (λ p. other (ap (λ (x : Holder). x.block) p)) in
    elim (is_own want.mode) as (λ t. share (belief bs q) ≤ share (belief (cond t (beliefs_own bs h) (beliefs_hold bs h)) q)) [
      | true ↦
          let fact : belief (beliefs_own bs h) q ≡ cond (eq_by_cmp holder_cmp q h) (Some true) (cond (same_block q.block h.block) None (belief bs q)) =
          lookup-insert_entry holder_cmp_total q h true (forget_block bs h.block)
          ∙ ap (cond (eq_by_cmp holder_cmp q h) (Some true)) (belief-forget_block q h.block bs) in
          subst (λ o. share (belief bs q) ≤ share o) (sym fact)
          (kept_cond (eq_by_cmp holder_cmp q h) (same_block q.block h.block) (belief bs q) apart (λ same. other (sym (same_block_exact q.block h.block same))))
      | false ↦ elim (is_some (belief bs h)) as (λ t. share (belief bs q) ≤ share (belief (cond t bs (insert_entry holder_cmp bs h false)) q)) [
        | true ↦ omega arith
        | false ↦ subst (λ o. share (belief bs q) ≤ share o) (sym (lookup-insert_entry holder_cmp_total q h false bs))
            (kept_put (eq_by_cmp holder_cmp q h) (Some false) (belief bs q) apart)
      ]
    ]

-- nobody but the giver has less than before
pub more_others : (bs : List (Holder × Bool)) (h q : Holder) (keep : Bool) → IsStrictlySortedBy holder_cmp (keys_of bs) → (q ≡ h → ⊥)
    → share (belief bs q) ≤ share (belief (give_way bs h keep) q)
more_others bs h q true sorted apart =
    elim (is_some (belief bs h)) as
    (λ t. is_some (belief bs h) ≡ t → share (belief bs q) ≤ share (belief (cond t (set_value (is_at (holder_cmp h)) bs false) bs) q)) [
      | true ↦ λ some. subst (λ o. share (belief bs q) ≤ share o) (sym (disowned bs h q some))
          (kept_put (is_at (holder_cmp h) q) (Some false) (belief bs q) (λ same. apart (sym (tells_apart holder_cmp_exact h q same))))
      | false ↦ λ _. omega arith
    ] refl
more_others bs h q false sorted apart =
    subst (λ o. share (belief bs q) ≤ share o) (sym (forgotten bs h q sorted))
    (kept_put (is_at (holder_cmp h) q) None (belief bs q) (λ same. apart (sym (tells_apart holder_cmp_exact h q same))))

-- ---- whom a want finds

nobody_below : (h : Holder) (es : List (Holder × Bool)) → AllByRecursion (λ y. holder_cmp h y ≡ Less) (keys_of es) → belief es h ≡ None
nobody_below h [] below = refl
nobody_below h (e ∷ es) below = ap (λ o. cond (is_eq o) (Some e.1) (belief es h)) below.0 ∙ nobody_below h es below.1

no_way : (owners : Bool) (o : Option Bool) → o ≡ None → gives_way owners o ≡ true → ⊥
no_way owners o none way = false≢true (sym (ap (gives_way owners) none) ∙ way)

-- what a test of the list of others says
abbrev Passes : Holder → Bool → BlockId → ℕ → Bool → Bool
Passes k owns block asking owners = same_block k.block block && not (k.client == asking) && (owns || not owners)

record Passed (k : Holder) (owns : Bool) (block : BlockId) (asking : ℕ) (owners : Bool) : Type 0 where
  here : same_block k.block block ≡ true
  other : (k.client == asking) ≡ false
  way : (owns || not owners) ≡ true

three : (x y z : Bool) → x && not y && z ≡ true → (x ≡ true) × ((y ≡ false) × (z ≡ true))
three true false true p = (refl, (refl, refl))
three true false false p = absurd (cc)
three true true z p = absurd (cc)
three false y z p = absurd (cc)

itself_not : (c : ℕ) → (c == c) ≡ false → ⊥
itself_not c h = let same : (c == c) ≡ true = grind (arith, nat_tests) in false≢true (sym h ∙ same)

others_from : (bs : List (Holder × Bool)) (block : BlockId) (asking c : ℕ) (owners : Bool) → IsStrictlySortedBy holder_cmp (keys_of bs)
    → Contains (others bs block asking owners) c → (c ≡ asking → ⊥) × (gives_way owners (belief bs (holder block c)) ≡ true)
unfolding IsStrictlySortedBy
others_from [] block asking c owners sorted has = absurd (contains_nothing c has)
others_from (e ∷ es) block asking c owners sorted has =
    at (Passes e.0 e.1 block asking owners) refl has (λ h. others_from es block asking c owners sorted.1 h)
  where
    later : (c ≡ asking → ⊥) × (gives_way owners (belief es (holder block c)) ≡ true)
        → (c ≡ asking → ⊥) × (gives_way owners (belief (e ∷ es) (holder block c)) ≡ true)
    later found = (
      found.0,
      elim (is_at (holder_cmp (holder block c)) e.0) as
          (λ t. is_at (holder_cmp (holder block c)) e.0 ≡ t → gives_way owners (cond t (Some e.1) (belief es (holder block c))) ≡ true) [
            | true ↦ λ same. absurd
                (no_way owners (belief es (holder block c))
                (subst (λ h. belief es h ≡ None) (sym (tells_apart holder_cmp_exact (holder block c) e.0 same)) (nobody_below e.0 es sorted.0)) found.1)
            | false ↦ λ _. found.1
          ] refl,
    )

    first : Passes e.0 e.1 block asking owners ≡ true → e.0.client ≡ c → (c ≡ asking → ⊥) × (gives_way owners (belief (e ∷ es) (holder block c)) ≡ true)
    first passes me =
        let parts = three (same_block e.0.block block) (e.0.client == asking) (e.1 || not owners) passes in
        let whole : holder block c ≡ e.0 = ap (λ b. holder b c) (same_block_exact e.0.block block parts.0) ∙ ap (holder e.0.block) (sym me) in
        let same : is_at (holder_cmp (holder block c)) e.0 ≡ true =
        subst (λ h. eq_by_cmp holder_cmp (holder block c) h ≡ true) whole (holder_laws.refl (holder block c)) in (
          (λ it. itself_not asking (subst (λ x. (x == asking) ≡ false) (me ∙ it) parts.1.0)),
          ap (λ t. gives_way owners (cond t (Some e.1) (belief es (holder block c)))) same ∙ parts.1.1,
        )

    at : (t : Bool) → Passes e.0 e.1 block asking owners ≡ t → Contains (cond t (e.0.client ∷ others es block asking owners) (others es block asking owners)) c
        → (Contains (others es block asking owners) c → (c ≡ asking → ⊥) × (gives_way owners (belief es (holder block c)) ≡ true))
        → (c ≡ asking → ⊥) × (gives_way owners (belief (e ∷ es) (holder block c)) ≡ true)
    at true passes h rest = ⊎_elim (first passes) (λ r. later (rest r)) (contains_cases e.0.client c (others es block asking owners) h)
    at false fails h rest = later (rest h)

-- no client twice
abbrev pub Once : List ℕ → Type 0
Once [] = Unit {0}
Once (x ∷ xs) = (Contains xs x → ⊥) × Once xs

pub others_once : (bs : List (Holder × Bool)) (block : BlockId) (asking : ℕ) (owners : Bool) → IsStrictlySortedBy holder_cmp (keys_of bs)
    → Once (others bs block asking owners)
unfolding IsStrictlySortedBy
others_once [] block asking owners sorted = tt
others_once (e ∷ es) block asking owners sorted =
    let rest = others_once es block asking owners sorted.1 in
    elim (Passes e.0 e.1 block asking owners) as
    (λ t. Passes e.0 e.1 block asking owners ≡ t → Once (cond t (e.0.client ∷ others es block asking owners) (others es block asking owners))) [
      | true ↦ λ passes.
          let parts = three (same_block e.0.block block) (e.0.client == asking) (e.1 || not owners) passes in (
            (λ has. no_way owners (belief es (holder block e.0.client))
                (subst (λ b. belief es (holder b e.0.client) ≡ None) (sym (same_block_exact e.0.block block parts.0)) (nobody_below e.0 es sorted.0))
                (others_from es block asking e.0.client owners sorted.1 has).1),
            rest,
          )
      | false ↦ λ _. rest
    ] refl

-- ---- the recalls

-- no client has two unanswered recalls
abbrev OneEach : List Awaited → Type 0
OneEach [] = Unit {0}
OneEach (a ∷ rest) = (a.end ≡ None → Awaits rest a.client → ⊥) × OneEach rest

recalls-await : (epoch turn : ℕ) (keep : Bool) (cs : List ℕ) (c : ℕ) → Awaits (recalls epoch turn keep cs) c → Contains cs c
recalls-await epoch turn keep [] c waits = absurd waits
recalls-await epoch turn keep (x ∷ xs) c waits =
    ⊎_elim (λ p. subst (Contains (x ∷ xs)) p.0 (contains_first x xs)) (λ r. contains_rest x c xs (recalls-await epoch (turn + 1) keep xs c r)) waits

recalls-once : (epoch turn : ℕ) (keep : Bool) (cs : List ℕ) → Once cs → OneEach (recalls epoch turn keep cs)
recalls-once epoch turn keep [] once = tt
recalls-once epoch turn keep (x ∷ xs) once =
    ((λ _ waits. once.0 (recalls-await epoch (turn + 1) keep xs x waits)), recalls-once epoch (turn + 1) keep xs once.1)

noted_head : (t : Bool) (a : Awaited) (end c : ℕ)
    → ((cond t (record a { end = Some end }) a).client ≡ c) × ((cond t (record a { end = Some end }) a).end ≡ None)
    → (t ≡ false) × ((a.client ≡ c) × (a.end ≡ None))
noted_head true a end c h = absurd (let e : Some end ≡ None = h.1 in cc)
noted_head false a end c h = (refl, h)

pub noted-awaits : (awaited : List Awaited) (client : ℕ) (stamp : Stamp) (end c : ℕ) → Awaits (noted awaited client stamp end) c → Awaits awaited c
noted-awaits [] client stamp end c waits = waits
noted-awaits (a ∷ rest) client stamp end c waits =
    ⊎_elim (λ h. inl (noted_head (answers client stamp a) a end c h).1) (λ r. inr (noted-awaits rest client stamp end c r)) waits

noted-once : (awaited : List Awaited) (client : ℕ) (stamp : Stamp) (end : ℕ) → OneEach awaited → OneEach (noted awaited client stamp end)
noted-once [] client stamp end once = tt
noted-once (a ∷ rest) client stamp end once = (
  (λ none waits. let h = noted_head (answers client stamp a) a end _ (refl, none) in
      once.0 h.1.1 (subst (Awaits rest) (sym h.1.0) (noted-awaits rest client stamp end _ waits))),
  noted-once rest client stamp end once.1,
)

-- an answer is to an unanswered recall of the client
pub answered : (client : ℕ) (stamp : Stamp) (a : Awaited) → answers client stamp a ≡ true → (a.client ≡ client) × (a.end ≡ None)
answered client stamp a h = (eqb-true a.client client (grind (arith, nat_tests)), unnamed a.end (grind (arith, nat_tests)))
  where
    unnamed : (o : Option ℕ) → is_some o ≡ false → o ≡ None
    unnamed None none = refl
    unnamed (Some x) none = absurd (cc)

pub any_awaits : (awaited : List Awaited) (client : ℕ) (stamp : Stamp) → list_any (answers client stamp) awaited ≡ true → Awaits awaited client
any_awaits [] client stamp any = absurd (cc)
any_awaits (a ∷ rest) client stamp any = at (answers client stamp a) refl any (any_awaits rest client stamp)
  where
    at : (t : Bool) → answers client stamp a ≡ t → t || list_any (answers client stamp) rest ≡ true
        → (list_any (answers client stamp) rest ≡ true → Awaits rest client) → Awaits (a ∷ rest) client
    at true fact _ later = inl (answered client stamp a fact)
    at false fact any later = inr (later any)

-- after its answer nothing is awaited of the client
no_longer : (awaited : List Awaited) (client : ℕ) (stamp : Stamp) (end : ℕ) → OneEach awaited → list_any (answers client stamp) awaited ≡ true
    → Awaits (noted awaited client stamp end) client → ⊥
no_longer [] client stamp end once any waits = waits
no_longer (a ∷ rest) client stamp end once any waits = at (answers client stamp a) refl any waits (no_longer rest client stamp end once.1)
  where
    at : (t : Bool) → answers client stamp a ≡ t → t || list_any (answers client stamp) rest ≡ true
        → Awaits (cond t (record a { end = Some end }) a ∷ noted rest client stamp end) client
        → (list_any (answers client stamp) rest ≡ true → Awaits (noted rest client stamp end) client → ⊥) → ⊥
    at true fact _ waits later =
        let a_is = answered client stamp a fact in
        ⊎_elim (λ h. let e : Some end ≡ None = h.1 in absurd (cc))
        (λ r. once.0 a_is.1 (subst (Awaits rest) (sym a_is.0) (noted-awaits rest client stamp end client r))) waits
    at false fact any waits later = ⊎_elim (λ h. once.0 h.1 (subst (Awaits rest) (sym h.0) (any_awaits rest client stamp any))) (later any) waits

-- ---- the state

record Exact (s : SlotState) : Type 0 where
  only : (block : BlockId) (job : Job) → job_at s.jobs block ≡ Some job → (c : ℕ) → Awaits job.awaited c → MustGiveWay s.beliefs job.want c
  once : (block : BlockId) (job : Job) → job_at s.jobs block ≡ Some job → OneEach job.awaited

more_after : (r r' w : ℕ) → r ≤ r' → 2 < r + w → 2 < r' + w
more_after r r' w less more = omega arith

must_kept : (bs bs' : List (Holder × Bool)) (want : Wanted) (c : ℕ) → share_of bs want.block c ≤ share_of bs' want.block c → MustGiveWay bs want c
    → MustGiveWay bs' want c
must_kept bs bs' want c less way = (way.0, more_after (share_of bs want.block c) (share_of bs' want.block c) (wanted_share want.mode) less way.1)

must_found : (t : Bool) (o : Option Bool) → gives_way (not t) o ≡ true → 2 < share o + cond t 2 1
must_found t None way = absurd (cc)
must_found true (Some true) way = omega arith
must_found true (Some false) way = omega arith
must_found false (Some true) way = omega arith
must_found false (Some false) way = absurd (cc)

other_holder : (h k : Holder) → (h.block ≡ k.block → ⊥) → h ≡ k → ⊥
other_holder h k other same = other (ap (λ (x : Holder). x.block) same)

-- a want that waits for one block, where none waits for the other, waits for another block
other_block : (jobs : List (BlockId × Job)) (block b : BlockId) (job : Job) → Waiting jobs → job_at jobs block ≡ None → job_at jobs b ≡ Some job
    → job.want.block ≡ block → ⊥
other_block jobs block b job w none fact same =
    let here : job_at jobs block ≡ Some job = subst (λ x. job_at jobs x ≡ Some job) (sym (w.own b job fact) ∙ same) fact in
    let clash : None ≡ Some job = sym none ∙ here in
    absurd (cc)

exact-slot_finish : (s : SlotState) (want : Wanted) → Waiting s.jobs → Exact s → job_at s.jobs want.block ≡ None → Exact (slot_finish s want).state
exact-slot_finish s want w exact none = record {
  only = λ block job fact c waits. must_kept s.beliefs (meet_want s.beliefs want) job.want c
      (more_elsewhere s.beliefs want (holder job.want.block c) (other_block s.jobs want.block block job w none fact)) (exact.only block job fact c waits);
  once = exact.once;
}

exact-recalled : (s : SlotState) (job : Job) (turn : ℕ) → ((c : ℕ) → Awaits job.awaited c → MustGiveWay s.beliefs job.want c) → OneEach job.awaited → Exact s
    → Exact (record s { jobs = insert_entry block_cmp s.jobs job.want.block job; turn = turn })
exact-recalled s job turn only once exact = record {
  only = λ b found fact. at (eq_by_cmp block_cmp b job.want.block) b found (sym (lookup-insert_entry block_cmp_total b job.want.block job s.jobs) ∙ fact);
  once = λ b found fact. each (eq_by_cmp block_cmp b job.want.block) b found (sym (lookup-insert_entry block_cmp_total b job.want.block job s.jobs) ∙ fact);
}
  where
    at : (t : Bool) (b : BlockId) (found : Job) → cond t (Some job) (job_at s.jobs b) ≡ Some found → (c : ℕ) → Awaits found.awaited c
        → MustGiveWay s.beliefs found.want c
    at true b found fact = subst (λ (j : Job). (c : ℕ) → Awaits j.awaited c
        → MustGiveWay s.beliefs j.want c) (ap (λ (o : Option Job). unwrap_or o job) fact) only
    at false b found fact = exact.only b found fact

    each : (t : Bool) (b : BlockId) (found : Job) → cond t (Some job) (job_at s.jobs b) ≡ Some found → OneEach found.awaited
    each true b found fact = subst (λ (j : Job). OneEach j.awaited) (ap (λ (o : Option Job). unwrap_or o job) fact) once
    each false b found fact = exact.once b found fact

exact-let_go : (s : SlotState) (block : BlockId) → Waiting s.jobs → Exact s → Exact (let_go s block)
exact-let_go s block w exact = record {
  only = λ b job fact. exact.only b job (was_there (eq_by_cmp block_cmp block b) (job_at s.jobs b) job (sym (after_removal s.jobs block b w.sorted) ∙ fact));
  once = λ b job fact. exact.once b job (was_there (eq_by_cmp block_cmp block b) (job_at s.jobs b) job (sym (after_removal s.jobs block b w.sorted) ∙ fact));
}

-- wants for other blocks lose nobody by an answer
kept_given : (s : SlotState) (want : Wanted) (client : ℕ) (block b : BlockId) (job : Job) → Sound s → Exact s → job_at s.jobs b ≡ Some job
    → (job.want.block ≡ block → ⊥) → (c : ℕ) → Awaits job.awaited c → MustGiveWay (given s want client block).beliefs job.want c
kept_given s want client block b job sound exact fact other c waits =
    must_kept s.beliefs (given s want client block).beliefs job.want c
    (more_others s.beliefs (holder block client) (holder job.want.block c) (not (is_own want.mode)) sound.sorted
    (other_holder (holder job.want.block c) (holder block client) other)) (exact.only b job fact c waits)

exact-all_given : (s : SlotState) (want : Wanted) (client : ℕ) (block : BlockId) → Sound s → Exact s → Exact (all_given s client block want)
exact-all_given s want client block sound exact =
    let w = sound.waiting in
    let removed = waiting-removed s.jobs block w in
    let was : (b : BlockId) (job : Job) → job_at (without_job s.jobs block) b ≡ Some job → job_at s.jobs b ≡ Some job =
    λ b job fact. was_there (eq_by_cmp block_cmp block b) (job_at s.jobs b) job (sym (after_removal s.jobs block b w.sorted) ∙ fact) in
    record {
      only = λ b job fact. kept_given s want client block b job sound exact (was b job fact)
          (other_block (without_job s.jobs block) block b job removed (gone s.jobs block w.sorted) fact);
      once = λ b job fact. exact.once b job (was b job fact);
    }

exact-gave_one : (s : SlotState) (job : Job) (client : ℕ) (block : BlockId) (stamp : Stamp) (end : ℕ) → Sound s → Exact s → job_at s.jobs block ≡ Some job
    → list_any (answers client stamp) job.awaited ≡ true
    → Exact (gave_one s client block job.want (noted job.awaited client stamp end))
exact-gave_one s job client block stamp end sound exact mine any = record {
  only = λ b found fact. at (eq_by_cmp block_cmp b block) b found refl (sym (lookup-insert_entry block_cmp_total b block waits_on s.jobs) ∙ fact);
  once = λ b found fact. each (eq_by_cmp block_cmp b block) b found (sym (lookup-insert_entry block_cmp_total b block waits_on s.jobs) ∙ fact);
}
  where
    waits_on : Job
    waits_on = record { want = job.want; awaited = noted job.awaited client stamp end }

    left : (c : ℕ) → Awaits (noted job.awaited client stamp end) c → MustGiveWay (given s job.want client block).beliefs job.want c
    left c waits =
        let other : holder job.want.block c ≡ holder block client → ⊥ =
        λ p. no_longer job.awaited client stamp end (exact.once block job mine) any
        (subst (Awaits (noted job.awaited client stamp end)) (ap (λ (h : Holder). h.client) p) waits) in
        must_kept s.beliefs (given s job.want client block).beliefs job.want c
        (more_others s.beliefs (holder block client) (holder job.want.block c) (not (is_own job.want.mode)) sound.sorted other)
        (exact.only block job mine c (noted-awaits job.awaited client stamp end c waits))

    at : (t : Bool) (b : BlockId) (found : Job) → eq_by_cmp block_cmp b block ≡ t → cond t (Some waits_on) (job_at s.jobs b) ≡ Some found → (c : ℕ)
        → Awaits found.awaited c → MustGiveWay (given s job.want client block).beliefs found.want c
    at true b found _ fact =
        subst (λ (j : Job). (c : ℕ) → Awaits j.awaited c → MustGiveWay (given s job.want client block).beliefs j.want c)
        (ap (λ (o : Option Job). unwrap_or o waits_on) fact) left
    at false b found apart fact = kept_given s job.want client block b found sound exact fact
        (λ same. false≢true (sym apart ∙ subst (λ x. eq_by_cmp block_cmp b x ≡ true) (sym (sound.waiting.own b found fact) ∙ same) (block_laws.refl b)))

    each : (t : Bool) (b : BlockId) (found : Job) → cond t (Some waits_on) (job_at s.jobs b) ≡ Some found → OneEach found.awaited
    each true b found fact =
        subst (λ (j : Job). OneEach j.awaited) (ap (λ (o : Option Job). unwrap_or o waits_on) fact)
        (noted-once job.awaited client stamp end (exact.once block job mine))
    each false b found fact = exact.once b found fact

exact-steps : (s : SlotState) (applied : List ℕ) (blocks : List BlockId) → Sound s → Exact s → ReadyAt s.jobs applied blocks
    → Exact (steps finish_job s blocks).state
exact-steps s applied [] sound exact ready = exact
exact-steps s applied (b ∷ bs) sound exact ready =
    let w = sound.waiting in
    let one : Exact (finish_job s b).state =
    by_finished_at (λ r. Exact r.state) s b exact
    (λ job fact. exact-slot_finish (let_go s b) job.want (waiting-removed s.jobs b w) (exact-let_go s b w exact)
    (subst (λ x. job_at (without_job s.jobs b) x ≡ None) (sym (w.own b job fact)) (gone s.jobs b w.sorted))) in
    let next : Sound (finish_job s b).state =
    by_finished_at (λ r. Sound r.state) s b sound (λ job fact. sound-answered s applied b job sound fact (ready b (contains_first b bs) job fact)) in
    exact-steps (finish_job s b).state applied bs next one (λ block has job fact. ready block (contains_rest b block bs has) job
    (jobs_fewer s b block job w fact))

-- ---- the inputs

exact-transition : (s : SlotState) (input : In) → Sound s → Exact s → Exact (transition s input).state
exact-transition s (Want want end) sound exact =
    let owners = not (is_own want.mode) in
    by_want (λ r. Exact r.state) s want end exact
    (λ going _. exact-slot_finish s want sound.waiting exact (not_waiting (job_at s.jobs want.block) _ _ going))
    (λ _. exact-recalled s (record { want = want; awaited = recalls s.epoch s.turn owners (recalled_from s want) }) (s.turn + length (recalled_from s want))
    (λ c waits. let found = others_from s.beliefs want.block want.client c owners sound.sorted (recalls-await s.epoch s.turn owners (recalled_from s want) c waits) in
    (found.0, must_found (is_own want.mode) (belief s.beliefs (holder want.block c)) found.1))
    (recalls-once s.epoch s.turn owners (recalled_from s want) (others_once s.beliefs want.block want.client owners sound.sorted)) exact)
exact-transition s (Gave client block stamp end) sound exact =
    let w = sound.waiting in
    by_gave_both (λ r. Exact r.state) s client block stamp end exact
    (λ job fact _ _. exact-slot_finish (all_given s client block job.want) job.want (waiting-removed s.jobs block w)
    (exact-all_given s job.want client block sound exact)
    (subst (λ x. job_at (without_job s.jobs block) x ≡ None) (sym (w.own block job fact)) (gone s.jobs block w.sorted)))
    (λ job fact any. exact-gave_one s job client block stamp end sound exact fact any)
exact-transition s (Deltas log first upto rows) sound exact =
    by_deltas (λ r. Exact r.state) s log first upto rows exact exact
    (λ _. exact-steps (with_deltas s log upto rows) (applied_upto s.applied log upto) (ready_blocks s.jobs (applied_upto s.applied log upto))
    (record { sorted = sound.sorted; waiting = sound.waiting; alone = sound.alone; awaits = sound.awaits })
    (record { only = exact.only; once = exact.once })
    (ready_finds s.jobs (applied_upto s.applied log upto) sound.waiting.sorted))
exact-transition s (Check block place) sound exact = exact
exact-transition s Tick sound exact = exact

pub guarded-all : (epoch : ℕ) (index : List (BlockId × Entry)) (beliefs : List (BlockId × ℕ × Mode)) (applied : List ℕ) (inputs : List In)
    → OwnsAlone (slot_start epoch index beliefs applied).beliefs → IsGuarded (state_after (slot_start epoch index beliefs applied) inputs)
guarded-all epoch index beliefs applied inputs alone =
    let first : Exact (slot_start epoch index beliefs applied) = record { only = λ block job fact. absurd (cc); once = λ block job fact. absurd (cc) } in
    let last : Sound (state_after (slot_start epoch index beliefs applied) inputs) × Exact (state_after (slot_start epoch index beliefs applied) inputs) =
    steps_keep transition (λ t. Sound t × Exact t) (λ t input both. (sound-transition t input both.0, exact-transition t input both.0 both.1))
    (slot_start epoch index beliefs applied) inputs (sound-start epoch index beliefs applied alone, first)
    in
    record {
      alone = last.0.alone;
      awaits = λ block job fact client. ((λ waits. last.1.only block job fact client waits), λ way. last.0.awaits block job fact client way.0 way.1);
    }
