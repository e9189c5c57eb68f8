-- Owners are alone, and each want that waits awaits all who must give way: every input keeps this.
-- Besides, the beliefs and the wants stand in order.
use Rattle.std.proofs.Common.{Contains, ◌≡◌, ℕ, ◌+◌, ◌≤◌, ◌<◌, ◌==◌, Bool, true, false, cond, not, nat_lt, length, List, [], ◌∷◌, ◌⊎◌, inl, inr, ⊎_elim, Option, Some, None, is_some, unwrap_or, refl, sym, ap, subst, ◌∙◌, arith}
use Rattle.std.specs.declared.cmp.Ordering.TheVariants.{Less}
use Rattle.std.specs.Ordering.{eq_by_cmp, is_eq}
use Rattle.std.specs.List.{filter, AllByRecursion}
use Rattle.std.specs.List.Sorted.{IsStrictlySortedBy}
use Rattle.std.specs.Map.{keys_of, set_value}
use Rattle.std.specs.BTreeMap.{is_at, insert_entry}
use Rattle.std.proofs.lemmas.Bool.{false≢true, eqb-true}
use Rattle.std.proofs.lemmas.Bool.Decides.{nat_tests}
use Rattle.std.proofs.lemmas.Map.{keys-set_value}
use Rattle.std.proofs.lemmas.Map.Views.{tells_apart}
use Rattle.xfs_base.specs.declared.block.BlockId.{BlockId}
use Rattle.xfs_base.specs.declared.entry.Entry.{Entry}
use Rattle.xfs_base.specs.declared.token.Mode.{Mode}
use Rattle.xfs_base.specs.declared.token.Stamp.{Stamp}
use Rattle.xfs_base.specs.Blocks.{block_cmp, same_block}
use Rattle.xfs_base.specs.Steps.{steps}
use Rattle.xfs_base.proofs.BlockOrder.{block_cmp_total, block_cmp_exact, lookup-insert_entry}
use Rattle.xfs_base.proofs.Sorted.{sorted_insert, sorted_remove}
use Rattle.xfs_base.specs.Modes.{is_own, is_nothing}
use Rattle.xfs_base.proofs.Booleans.{and_first, and_second}
use Rattle.xfs_base.proofs.Members.{contains_nothing, contains_first, contains_rest, contains_cases}
use Rattle.slot_beliefs.specs.declared.job.Holder.{Holder}
use Rattle.slot_beliefs.specs.declared.job.Wanted.{Wanted}
use Rattle.slot_beliefs.specs.declared.job.Job.{Job}
use Rattle.slot_beliefs.specs.declared.job.Awaited.{Awaited}
use Rattle.slot_beliefs.specs.Beliefs.{holder_cmp, holder, forget_block, beliefs_own, beliefs_hold, meet_want, give_way, believe, all_believed, share, share_of, wanted_share}
use Rattle.slot_beliefs.specs.Recalls.{recalls, answers, noted, is_applied, is_ready, ready_blocks, job_at, without_job, applied_upto}
use Rattle.slot_beliefs.proofs.Shares.{holder_cmp_exact, holder_cmp_total, holder_laws, belief, least, asker, less, kept, found_by}
use Rattle.token_manager.specs.declared.input.In.{In}
use Rattle.token_manager.specs.declared.input.In.TheVariants.{Want, Gave, Deltas, Check, Tick}
use Rattle.token_manager.specs.SlotState.{SlotState}
use Rattle.token_manager.specs.Transition.{slot_start, slot_finish, given, with_deltas, finish_job, transition}
use Rattle.token_manager.specs.Laws.{OwnsAlone, Awaits}
use Rattle.token_manager.proofs.Cases.{recalled_from, by_want, all_given, by_gave, by_deltas, let_go, by_finished_at}
use Rattle.token_manager.proofs.JobsBarGrants.{Waiting, block_laws, after_removal, was_there, gone, waiting-removed, waiting-put, nobody_waits, not_waiting}

-- ---- the beliefs stay in order

abbrev IsInOrder : List (Holder × Bool) → Type 0
IsInOrder bs = IsStrictlySortedBy holder_cmp (keys_of bs)

below_filter : (h : Holder) (p : Holder × Bool → Bool) (es : List (Holder × Bool)) → AllByRecursion (λ y. holder_cmp h y ≡ Less) (keys_of es)
    → AllByRecursion (λ y. holder_cmp h y ≡ Less) (keys_of (filter p es))
below_filter h p [] below = below
below_filter h p (e ∷ es) below =
    elim (p e) as (λ t. AllByRecursion (λ y. holder_cmp h y ≡ Less) (keys_of (cond t (e ∷ filter p es) (filter p es))))
    [ true ↦ (below.0, below_filter h p es below.1) | false ↦ below_filter h p es below.1 ]

sorted_filter : (p : Holder × Bool → Bool) (es : List (Holder × Bool)) → IsStrictlySortedBy holder_cmp (keys_of es)
    → IsStrictlySortedBy holder_cmp (keys_of (filter p es))
unfolding IsStrictlySortedBy
sorted_filter p [] sorted = sorted
sorted_filter p (e ∷ es) sorted =
    elim (p e) as (λ t. IsStrictlySortedBy holder_cmp (keys_of (cond t (e ∷ filter p es) (filter p es))))
    [ true ↦ (below_filter e.0 p es sorted.0, sorted_filter p es sorted.1) | false ↦ sorted_filter p es sorted.1 ]

sorted-put : (bs : List (Holder × Bool)) (h : Holder) (owns : Bool) → IsInOrder bs → IsInOrder (insert_entry holder_cmp bs h owns)
sorted-put bs h owns sorted = sorted_insert holder_cmp holder_cmp_total h owns bs sorted

sorted-meet_want : (bs : List (Holder × Bool)) (want : Wanted) → IsInOrder bs → IsInOrder (meet_want bs want)
sorted-meet_want bs want sorted =
    let h = holder want.block want.client in
    elim (is_own want.mode) as (λ t. IsInOrder (cond t (beliefs_own bs h) (beliefs_hold bs h))) [
      | true ↦ sorted-put (forget_block bs h.block) h true (sorted_filter (λ b. not (same_block b.0.block h.block)) bs sorted)
      | false ↦ elim (is_some (belief bs h)) as (λ t. IsInOrder (cond t bs (insert_entry holder_cmp bs h false)))
          [ true ↦ sorted | false ↦ sorted-put bs h false sorted ]
    ]

pub sorted-give_way : (bs : List (Holder × Bool)) (h : Holder) (keep : Bool) → IsInOrder bs → IsInOrder (give_way bs h keep)
sorted-give_way bs h true sorted =
    elim (is_some (belief bs h)) as (λ t. IsInOrder (cond t (set_value (is_at (holder_cmp h)) bs false) bs)) [
      | true ↦ subst (IsStrictlySortedBy holder_cmp) (sym (keys-set_value (is_at (holder_cmp h)) bs false)) sorted
      | false ↦ sorted
    ]
sorted-give_way bs h false sorted = sorted_remove holder_cmp (is_at (holder_cmp h)) bs sorted

sorted-all : (bs : List (Holder × Bool)) (list : List (BlockId × ℕ × Mode)) → IsInOrder bs → IsInOrder (all_believed bs list)
unfolding believe
sorted-all bs [] sorted = sorted
sorted-all bs (b ∷ list) sorted =
    sorted-all (believe bs b) list
    (elim (is_nothing b.2) as (λ t. IsInOrder (cond t bs (insert_entry holder_cmp bs (holder b.0 b.1) (is_own b.2))))
    [ true ↦ sorted | false ↦ sorted-put bs (holder b.0 b.1) (is_own b.2) sorted ])

-- ---- owners stay alone

decided : (q h : Holder) → (q ≡ h) ⊎ ((q ≡ h) → ⊥)
decided q h =
    elim (eq_by_cmp holder_cmp q h) as (λ t. eq_by_cmp holder_cmp q h ≡ t → (q ≡ h) ⊎ ((q ≡ h) → ⊥)) [
      | true ↦ λ same. inl (tells_apart holder_cmp_exact q h same)
      | false ↦ λ apart. inr (λ p. false≢true (sym apart ∙ subst (λ x. eq_by_cmp holder_cmp q x ≡ true) p (holder_laws.refl q)))
    ] refl

with_asker : (mine was other before want : ℕ) → (mine ≤ want) ⊎ (mine ≤ was) → other ≤ before → before + want ≤ 2 → was + before ≤ 2 → mine + other ≤ 2
with_asker mine was other before want (inl a) b c d = omega arith
with_asker mine was other before want (inr a) b c d = omega arith

-- the others leave the asker what it wants
abbrev pub LeavesRoom : List (Holder × Bool) → Wanted → Type 0
LeavesRoom bs want = (c : ℕ) → (c ≡ want.client → ⊥) → share_of bs want.block c + wanted_share want.mode ≤ 2

alone-asker : (bs : List (Holder × Bool)) (want : Wanted) (block : BlockId) (c d : ℕ) → OwnsAlone bs → LeavesRoom bs want → (c ≡ d → ⊥)
    → holder block c ≡ holder want.block want.client → share_of (meet_want bs want) block c + share_of (meet_want bs want) block d ≤ 2
alone-asker bs want block c d alone room apart p =
    let same : block ≡ want.block = ap (λ (h : Holder). h.block) p in
    let me : c ≡ want.client = ap (λ (h : Holder). h.client) p in
    let mine : (share_of (meet_want bs want) block c ≤ wanted_share want.mode) ⊎ (share_of (meet_want bs want) block c ≤ share_of bs block c) =
    subst (λ h. (share (belief (meet_want bs want) h) ≤ wanted_share want.mode) ⊎ (share (belief (meet_want bs want) h) ≤ share (belief bs h))) (sym p)
    (asker bs want) in
    with_asker (share_of (meet_want bs want) block c) (share_of bs block c) (share_of (meet_want bs want) block d) (share_of bs block d)
    (wanted_share want.mode) mine
    (least bs want (holder block d) (λ q. apart (me ∙ sym (ap (λ (h : Holder). h.client) q))))
    (subst (λ b. share_of bs b d + wanted_share want.mode ≤ 2) (sym same) (room d (λ e. apart (me ∙ sym e))))
    (alone block c d apart)

swapped : (m n : ℕ) → m + n ≤ 2 → n + m ≤ 2
swapped m n h = omega arith

both_less : (m' n' m n : ℕ) → m' ≤ m → n' ≤ n → m + n ≤ 2 → m' + n' ≤ 2
both_less m' n' m n a b c = omega arith

alone-meet_want : (bs : List (Holder × Bool)) (want : Wanted) → OwnsAlone bs → LeavesRoom bs want → OwnsAlone (meet_want bs want)
alone-meet_want bs want alone room block c d apart =
    let h = holder want.block want.client in
    ⊎_elim
    (λ p. alone-asker bs want block c d alone room apart p)
    (λ c_apart. ⊎_elim
    (λ q. swapped (share_of (meet_want bs want) block d) (share_of (meet_want bs want) block c) (alone-asker bs want block d c alone room (λ e. apart (sym e)) q))
    (λ d_apart. both_less _ _ (share_of bs block c) (share_of bs block d) (least bs want (holder block c) c_apart) (least bs want (holder block d) d_apart)
    (alone block c d apart))
    (decided (holder block d) h))
    (decided (holder block c) h)

-- ---- what is awaited

-- the want awaits all who must give way
abbrev pub AwaitsAll : List (Holder × Bool) → Job → Type 0
AwaitsAll beliefs job =
    (client : ℕ) → (client ≡ job.want.client → ⊥) → 2 < share_of beliefs job.want.block client + wanted_share job.want.mode → Awaits job.awaited client

awaits-recalls : (epoch turn : ℕ) (keep : Bool) (cs : List ℕ) (c : ℕ) → Contains cs c → Awaits (recalls epoch turn keep cs) c
awaits-recalls epoch turn keep [] c has = contains_nothing c has
awaits-recalls epoch turn keep (x ∷ xs) c has = ⊎_elim (λ p. inl (p, refl)) (λ r. inr (awaits-recalls epoch (turn + 1) keep xs c r)) (contains_cases x c xs has)

-- an answer notes no recall of another client
pub awaits-noted : (awaited : List Awaited) (client : ℕ) (stamp : Stamp) (end c : ℕ) → (c ≡ client → ⊥) → Awaits awaited c
    → Awaits (noted awaited client stamp end) c
awaits-noted [] client stamp end c apart waits = waits
awaits-noted (a ∷ rest) client stamp end c apart waits =
    ⊎_elim
    (λ here. inl (elim (answers client stamp a) as
    (λ t. answers client stamp a ≡ t → ((cond t (record a { end = Some end }) a).client ≡ c) × ((cond t (record a { end = Some end }) a).end ≡ None)) [
      | true ↦ λ answered. absurd (apart (sym here.0 ∙ eqb-true a.client client (of_client answered)))
      | false ↦ λ _. here
    ] refl))
    (λ there. inr (awaits-noted rest client stamp end c apart there))
    waits
  where
    of_client : answers client stamp a ≡ true → (a.client == client) ≡ true
    of_client answered = grind (arith, nat_tests)

-- nothing is awaited by a want that need wait no longer
pub ready_none : (applied : List ℕ) (awaited : List Awaited) (c : ℕ) → is_ready applied awaited ≡ true → Awaits awaited c → ⊥
ready_none applied [] c ready waits = waits
ready_none applied (a ∷ rest) c ready waits =
    ⊎_elim
    (λ here. false≢true
    (subst (λ e. is_applied applied a.client e ≡ true) here.1 (and_first (is_applied applied a.client a.end) (is_ready applied rest) ready)))
    (ready_none applied rest c (and_second (is_applied applied a.client a.end) (is_ready applied rest) ready))
    waits

pub not_more : (n : ℕ) → (2 < n → ⊥) → n ≤ 2
not_more n limit =
    elim (nat_lt 2 n) as (λ t. nat_lt 2 n ≡ t → n ≤ 2) [ true ↦ λ more. absurd (limit (grind (arith, nat_tests))) | false ↦ λ _. grind (arith, nat_tests) ] refl

pub no_first : (cs : List ℕ) (c : ℕ) → (length cs == 0) ≡ true → Contains cs c → ⊥
no_first [] c none has = contains_nothing c has
no_first (x ∷ xs) c none has = let zero_long : length (x ∷ xs) ≡ 0 = eqb-true (length (x ∷ xs)) 0 none in absurd (omega arith)

more_before : (r' r w : ℕ) → r' ≤ r → 2 < r' + w → 2 < r + w
more_before r' r w less more = omega arith

awaits-less : (bs bs' : List (Holder × Bool)) (job : Job) → ((c : ℕ) → share_of bs' job.want.block c ≤ share_of bs job.want.block c) → AwaitsAll bs job
    → AwaitsAll bs' job
awaits-less bs bs' job lower all c apart more =
    all c apart (more_before (share_of bs' job.want.block c) (share_of bs job.want.block c) (wanted_share job.want.mode) (lower c) more)

-- ---- the state

pub record Sound (s : SlotState) : Type 0 where
  pub sorted : IsStrictlySortedBy holder_cmp (keys_of s.beliefs)
  pub waiting : Waiting s.jobs
  pub alone : OwnsAlone s.beliefs
  pub awaits : (block : BlockId) (job : Job) → job_at s.jobs block ≡ Some job → AwaitsAll s.beliefs job

sound-slot_finish : (s : SlotState) (want : Wanted) → Sound s → job_at s.jobs want.block ≡ None → LeavesRoom s.beliefs want → Sound (slot_finish s want).state
sound-slot_finish s want sound none room = record {
  sorted = sorted-meet_want s.beliefs want sound.sorted;
  waiting = sound.waiting;
  alone = alone-meet_want s.beliefs want sound.alone room;
  awaits = λ block job fact. awaits-less s.beliefs (meet_want s.beliefs want) job
      (λ c. least s.beliefs want (holder job.want.block c) (λ p. other_block block job fact (ap (λ (h : Holder). h.block) p))) (sound.awaits block job fact);
}
  where
    other_block : (block : BlockId) (job : Job) → job_at s.jobs block ≡ Some job → job.want.block ≡ want.block → ⊥
    other_block block job fact same =
        let here : job_at s.jobs want.block ≡ Some job = subst (λ b. job_at s.jobs b ≡ Some job) (sym (sound.waiting.own block job fact) ∙ same) fact in
        let clash : None ≡ Some job = sym none ∙ here in
        absurd (cc)

-- a want comes to wait, or waits on
sound-put : (s : SlotState) (block : BlockId) (job : Job) (turn : ℕ) → job.want.block ≡ block → AwaitsAll s.beliefs job → Sound s
    → Sound (record s { jobs = insert_entry block_cmp s.jobs block job; turn = turn })
sound-put s block job turn mine all sound = record {
  sorted = sound.sorted;
  waiting = waiting-put s.jobs block job mine sound.waiting;
  alone = sound.alone;
  awaits = λ b found fact. at (eq_by_cmp block_cmp b block) b found (sym (lookup-insert_entry block_cmp_total b block job s.jobs) ∙ fact);
}
  where
    at : (t : Bool) (b : BlockId) (found : Job) → cond t (Some job) (job_at s.jobs b) ≡ Some found → AwaitsAll s.beliefs found
    at true b found fact = subst (AwaitsAll s.beliefs) (ap (λ (o : Option Job). unwrap_or o job) fact) all
    at false b found fact = sound.awaits b found fact

-- a want no longer waits
pub sound-let_go : (s : SlotState) (block : BlockId) → Sound s → Sound (let_go s block)
sound-let_go s block sound = record {
  sorted = sound.sorted;
  waiting = waiting-removed s.jobs block sound.waiting;
  alone = sound.alone;
  awaits = λ b job fact. sound.awaits b job
      (was_there (eq_by_cmp block_cmp block b) (job_at s.jobs b) job (sym (after_removal s.jobs block b sound.waiting.sorted) ∙ fact));
}

-- a client gave a block up
pub sound-given : (s : SlotState) (want : Wanted) (client : ℕ) (block : BlockId) → Sound s → Sound (given s want client block)
sound-given s want client block sound =
    let h = holder block client in
    let keep = not (is_own want.mode) in
    record {
      sorted = sorted-give_way s.beliefs h keep sound.sorted;
      waiting = sound.waiting;
      alone = λ b c d apart. both_less _ _ (share_of s.beliefs b c) (share_of s.beliefs b d) (less s.beliefs h (holder b c) keep sound.sorted)
          (less s.beliefs h (holder b d) keep sound.sorted) (sound.alone b c d apart);
      awaits = λ b job fact. awaits-less s.beliefs (give_way s.beliefs h keep) job (λ c. less s.beliefs h (holder job.want.block c) keep sound.sorted)
          (sound.awaits b job fact);
    }

-- after the answer the others are still awaited
pub awaits-given : (s : SlotState) (job : Job) (client : ℕ) (block : BlockId) (stamp : Stamp) (end : ℕ) → Sound s → job_at s.jobs block ≡ Some job
    → AwaitsAll (given s job.want client block).beliefs (record { want = job.want; awaited = noted job.awaited client stamp end })
awaits-given s job client block stamp end sound fact c apart more =
    let h = holder block client in
    let mine : job.want.block ≡ block = sound.waiting.own block job fact in
    let left : share_of (given s job.want client block).beliefs block client + wanted_share job.want.mode ≤ 2 = kept s.beliefs h job.want.mode sound.sorted in
    let other : c ≡ client → ⊥ =
    λ same. clash (share_of (given s job.want client block).beliefs job.want.block c + wanted_share job.want.mode) more
    (subst (λ b. share_of (given s job.want client block).beliefs b c + wanted_share job.want.mode ≤ 2) (sym mine)
    (subst (λ x. share_of (given s job.want client block).beliefs block x + wanted_share job.want.mode ≤ 2) (sym same) left)) in
    awaits-noted job.awaited client stamp end c other
    (awaits-less s.beliefs (given s job.want client block).beliefs job
    (λ x. less s.beliefs h (holder job.want.block x) (not (is_own job.want.mode)) sound.sorted) (sound.awaits block job fact) c apart more)
  where
    clash : (n : ℕ) → 2 < n → n ≤ 2 → ⊥
    clash n more limit = omega arith

-- who is not awaited leaves room
pub leaves_room : (bs : List (Holder × Bool)) (applied : List ℕ) (job : Job) → AwaitsAll bs job → is_ready applied job.awaited ≡ true → LeavesRoom bs job.want
leaves_room bs applied job all ready c apart = not_more _ (λ more. ready_none applied job.awaited c ready (all c apart more))

-- ---- deltas

-- each of these blocks for which a want waits has one that need wait no longer
abbrev pub ReadyAt : List (BlockId × Job) → List ℕ → List BlockId → Type 0
ReadyAt jobs applied blocks = (block : BlockId) → Contains blocks block → (job : Job) → job_at jobs block ≡ Some job → is_ready applied job.awaited ≡ true

has_key : (jobs : List (BlockId × Job)) (applied : List ℕ) (block : BlockId) → Contains (ready_blocks jobs applied) block → Contains (keys_of jobs) block
has_key [] applied block = λ has. has
has_key (e ∷ es) applied block =
    elim (is_ready applied e.1.awaited) as
    (λ t. Contains (cond t (e.0 ∷ ready_blocks es applied) (ready_blocks es applied)) block → Contains (keys_of (e ∷ es)) block) [
      | true ↦ λ has. ⊎_elim (λ p. subst (Contains (keys_of (e ∷ es))) p (contains_first e.0 (keys_of es)))
          (λ r. contains_rest e.0 block (keys_of es) (has_key es applied block r)) (contains_cases e.0 block (ready_blocks es applied) has)
      | false ↦ λ has. contains_rest e.0 block (keys_of es) (has_key es applied block has)
    ]

below_has : (first block : BlockId) (ks : List BlockId) → AllByRecursion (λ y. block_cmp first y ≡ Less) ks → Contains ks block → block_cmp first block ≡ Less
below_has first block [] below has = absurd (contains_nothing block has)
below_has first block (k ∷ ks) below has =
    ⊎_elim (λ p. subst (λ x. block_cmp first x ≡ Less) p below.0) (below_has first block ks below.1) (contains_cases k block ks has)

-- a block above the first is not the first
not_first : (first block : BlockId) → is_at (block_cmp block) first ≡ true → block_cmp first block ≡ Less → ⊥
not_first first block same below =
    let one : block ≡ first = tells_apart block_cmp_exact block first same in
    let itself : is_eq (block_cmp first block) ≡ true = subst (λ x. is_eq (block_cmp first x) ≡ true) (sym one) (block_laws.refl first) in
    false≢true (sym (ap is_eq below) ∙ itself)

pub ready_finds : (jobs : List (BlockId × Job)) (applied : List ℕ) → IsStrictlySortedBy block_cmp (keys_of jobs)
    → ReadyAt jobs applied (ready_blocks jobs applied)
unfolding IsStrictlySortedBy
ready_finds [] applied sorted block has job fact = absurd (contains_nothing block has)
ready_finds (e ∷ es) applied sorted block has job fact =
    at (is_at (block_cmp block) e.0) refl fact (is_ready applied e.1.awaited) refl has (λ h j. ready_finds es applied sorted.1 block h job j)
  where
    at : (t : Bool) → is_at (block_cmp block) e.0 ≡ t → cond t (Some e.1) (job_at es block) ≡ Some job → (r : Bool) → is_ready applied e.1.awaited ≡ r
        → Contains (cond r (e.0 ∷ ready_blocks es applied) (ready_blocks es applied)) block
        → (Contains (ready_blocks es applied) block → job_at es block ≡ Some job → is_ready applied job.awaited ≡ true) → is_ready applied job.awaited ≡ true
    at true same found true ready h rest = subst (λ (j : Job). is_ready applied j.awaited ≡ true) (ap (λ (o : Option Job). unwrap_or o job) found) ready
    at true same found false ready h rest = absurd (not_first e.0 block same (below_has e.0 block (keys_of es) sorted.0 (has_key es applied block h)))
    at false apart found true ready h rest =
        ⊎_elim (λ p. absurd (false≢true (sym apart ∙ subst (λ x. is_at (block_cmp block) x ≡ true) (sym p) (block_laws.refl block)))) (λ h. rest h found)
        (contains_cases e.0 block (ready_blocks es applied) h)
    at false apart found false ready h rest = rest h found

pub sound-answered : (s : SlotState) (applied : List ℕ) (block : BlockId) (job : Job) → Sound s → job_at s.jobs block ≡ Some job
    → is_ready applied job.awaited ≡ true → Sound (slot_finish (let_go s block) job.want).state
sound-answered s applied block job sound fact ready =
    sound-slot_finish (let_go s block) job.want (sound-let_go s block sound)
    (subst (λ x. job_at (without_job s.jobs block) x ≡ None) (sym (sound.waiting.own block job fact)) (gone s.jobs block sound.waiting.sorted))
    (leaves_room s.beliefs applied job (sound.awaits block job fact) ready)

pub jobs_fewer : (s : SlotState) (block b : BlockId) (job : Job) → Waiting s.jobs → job_at (finish_job s block).state.jobs b ≡ Some job
    → job_at s.jobs b ≡ Some job
jobs_fewer s block b job w = by_finished_at (λ r. job_at r.state.jobs b ≡ Some job → job_at s.jobs b ≡ Some job) s block (λ fact. fact)
    (λ _ _ fact. was_there (eq_by_cmp block_cmp block b) (job_at s.jobs b) job (sym (after_removal s.jobs block b w.sorted) ∙ fact))

pub sound-steps : (s : SlotState) (applied : List ℕ) (blocks : List BlockId) → Sound s → ReadyAt s.jobs applied blocks
    → Sound (steps finish_job s blocks).state
sound-steps s applied [] sound ready = sound
sound-steps s applied (b ∷ bs) sound ready =
    let one : Sound (finish_job s b).state =
    by_finished_at (λ r. Sound r.state) s b sound (λ job fact. sound-answered s applied b job sound fact (ready b (contains_first b bs) job fact)) in
    sound-steps (finish_job s b).state applied bs one
    (λ block has job fact. ready block (contains_rest b block bs has) job (jobs_fewer s b block job sound.waiting fact))

-- ---- the inputs

pub sound-transition : (s : SlotState) (input : In) → Sound s → Sound (transition s input).state
sound-transition s (Want want end) sound =
    by_want (λ r. Sound r.state) s want end sound
    (λ going none. sound-slot_finish s want sound (not_waiting (job_at s.jobs want.block) _ _ going)
    (λ c apart. not_more _ (λ more. no_first (recalled_from s want) c none (found_by s.beliefs want c apart more))))
    (λ _. sound-put s want.block (record { want = want; awaited = recalls s.epoch s.turn (not (is_own want.mode)) (recalled_from s want) })
    (s.turn + length (recalled_from s want)) refl
    (λ c apart more. awaits-recalls s.epoch s.turn (not (is_own want.mode)) (recalled_from s want) c (found_by s.beliefs want c apart more)) sound)
sound-transition s (Gave client block stamp end) sound =
    by_gave (λ r. Sound r.state) s client block stamp end sound
    (λ job fact ready. sound-slot_finish (all_given s client block job.want) job.want
    (sound-let_go (given s job.want client block) block (sound-given s job.want client block sound))
    (subst (λ x. job_at (without_job s.jobs block) x ≡ None) (sym (sound.waiting.own block job fact)) (gone s.jobs block sound.waiting.sorted))
    (leaves_room (given s job.want client block).beliefs s.applied (record { want = job.want; awaited = noted job.awaited client stamp end })
    (awaits-given s job client block stamp end sound fact) ready))
    (λ job fact. sound-put (given s job.want client block) block (record { want = job.want; awaited = noted job.awaited client stamp end }) s.turn
    (sound.waiting.own block job fact) (awaits-given s job client block stamp end sound fact) (sound-given s job.want client block sound))
sound-transition s (Deltas log first upto rows) sound =
    by_deltas (λ r. Sound r.state) s log first upto rows sound sound
    (λ _. sound-steps (with_deltas s log upto rows) (applied_upto s.applied log upto) (ready_blocks s.jobs (applied_upto s.applied log upto))
    (record { sorted = sound.sorted; waiting = sound.waiting; alone = sound.alone; awaits = sound.awaits })
    (ready_finds s.jobs (applied_upto s.applied log upto) sound.waiting.sorted))
sound-transition s (Check block place) sound = sound
sound-transition s Tick sound = sound

no_beliefs : IsStrictlySortedBy holder_cmp []
unfolding IsStrictlySortedBy
no_beliefs = tt

pub sound-start : (epoch : ℕ) (index : List (BlockId × Entry)) (beliefs : List (BlockId × ℕ × Mode)) (applied : List ℕ)
    → OwnsAlone (slot_start epoch index beliefs applied).beliefs → Sound (slot_start epoch index beliefs applied)
sound-start epoch index beliefs applied alone = record {
  sorted = sorted-all [] beliefs no_beliefs;
  waiting = nobody_waits;
  alone = alone;
  awaits = λ block job fact. absurd (cc);
}
