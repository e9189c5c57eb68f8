-- What is known of the present segment is carried through a job's turns, and what they give may be given, whatever it is that is known.
use Rattle.std.proofs.Common.{◌≡◌, ℕ, Bool, true, cond, List, [], ◌∷◌, Option, Some, None, length}
use Rattle.std.specs.Prelude.{◌==◌, ◌&&◌, not}
use Rattle.std.specs.List.{AllByRecursion, cons_option}
use Rattle.group_map.specs.GroupMapState.{GroupMapState}
use Rattle.xfs_base.specs.declared.block.BlockId.{BlockId}
use Rattle.xfs_base.specs.declared.entry.Place.{Place}
use Rattle.xfs_base.specs.declared.fragment.FragMeta.{FragMeta}
use Rattle.xfs_base.specs.declared.segment.SegName.{SegName}
use Rattle.xfs_base.specs.declared.segment.SegRef.{SegRef}
use Rattle.xfs_base.specs.Steps.{still}
use Rattle.xfs_base.proofs.Booleans.{by_test}
use Rattle.stripe_cleaner.specs.declared.checks.Check.{Check}
use Rattle.stripe_cleaner.specs.declared.output.Out.{Out}
use Rattle.stripe_cleaner.specs.declared.output.Out.TheVariants as out
use Rattle.stripe_cleaner.specs.declared.phase.Phase.{Phase}
use Rattle.stripe_cleaner.specs.declared.phase.Phase.TheVariants.{Greeting, Listing, Counting, Reading, Checking, Deleting, Over}
use Rattle.stripe_cleaner.specs.Checks.{is_awaited, any_asked, all_dead, place_in, questions, moves}
use Rattle.stripe_cleaner.specs.Counting.{CountingState, has_usage, is_counted, awaited_slots, all_slots, chosen}
use Rattle.stripe_cleaner.specs.Job.{Turn, next_of, next, deletes, servers_of, job_delete, counted, job_go_on, same_name, on_deleted, job_check, job_look}
use Rattle.stripe_cleaner.specs.Histories.{KnownOf, DeletesOf}
use Rattle.stripe_cleaner.specs.JobState.{JobState}
use Rattle.stripe_cleaner.specs.Listing.{ListingState, is_among, without}
use Rattle.stripe_cleaner.specs.Transition as step
use Rattle.stripe_cleaner.specs.Transition.{lists, usage_asks, forgotten, forgetting, mapped, listing_go_on, listing_hear, counting_hear, listed_in, counted_in, deleted_in, phase_asking}

-- ---- lists of packets of one kind

module _ (May : Out → Type 0) where
  abbrev Says : List Out → Type 0
  Says outs = AllByRecursion May outs

  pub says_deletes : (name : SegName) → ((server : ℕ) → May (out.Delete server name)) → (servers : List ℕ) → Says (deletes name servers)
  says_deletes name may [] = tt
  says_deletes name may (s ∷ ss) = (may s, says_deletes name may ss)

  pub says_lists : ((server : ℕ) → May (out.List server)) → (servers : List ℕ) → Says (lists servers)
  says_lists may [] = tt
  says_lists may (s ∷ ss) = (may s, says_lists may ss)

  pub says_usage_asks : ((slot : ℕ) → May (out.UsageAsk slot)) → (slots : List ℕ) → Says (usage_asks slots)
  says_usage_asks may [] = tt
  says_usage_asks may (s ∷ ss) = (may s, says_usage_asks may ss)

  pub says_questions : ((block : BlockId) (place : Place) → May (out.Check block place)) → (segment : SegRef) (checks : List Check)
      → Says (questions segment checks)
  says_questions may segment [] = tt
  says_questions may segment (c ∷ cs) =
      by_test (λ (o : Option Out). Says (cons_option o (questions segment cs))) (is_awaited c.fate) (Some (out.Check c.block (place_in segment c.item))) None
      (λ t. (may c.block (place_in segment c.item), says_questions may segment cs))
      (λ t. says_questions may segment cs)

-- ---- turns

-- It is known of the segment, and not of the job or of the servers.
module _ (Checked : SegName → List Check → Type 0) (Gone : SegName → Type 0) where
  abbrev Known : Phase → Type 0
  Known p = KnownOf Checked Gone p

  abbrev May : Out → Type 0
  May out = DeletesOf Gone out

  abbrev Fine : Turn → Type 0
  Fine turn = Known turn.state × AllByRecursion May turn.outs

  pub next_fine : (left : List SegRef) (j : JobState) → Fine (next_of left j)
  next_fine [] j = (tt, (tt, tt))
  next_fine (s ∷ left) j = (tt, (tt, tt))

  deleting_fine : (j : JobState) (segment : SegRef) → ((servers : List ℕ) → Known (Deleting j segment servers)) → Fine (job_delete j segment)
  deleting_fine j segment k =
      (k (servers_of j.groups segment), says_deletes May segment.name (λ server. k []) (servers_of j.groups segment))

  deleted_fine : (server : ℕ) (name : SegName) (j : JobState) (segment : SegRef) (servers : List ℕ) → Known (Deleting j segment servers)
      → Fine (on_deleted server name j segment servers)
  deleted_fine server name j segment servers k =
      by_test Fine (same_name name segment.name && is_among servers server) (job_go_on j segment (without servers server))
      (still (Deleting j segment servers))
      (λ t. by_test Fine (length (without servers server) == 0) (next (counted j)) (still (Deleting j segment (without servers server)))
      (λ u. next_fine j.left (counted j)) (λ u. (k, tt)))
      (λ t. (k, tt))

  pub checking_fine : (j : JobState) (segment : SegRef) (checks : List Check) → Known (Checking j segment checks)
      → (all_dead checks ≡ true → (servers : List ℕ) → Known (Deleting j segment servers)) → Fine (job_check j segment checks)
  unfolding job_check
  checking_fine j segment checks k ends =
      by_test Fine (all_dead checks) (job_delete j segment) (record { state = Checking j segment checks; outs = questions segment checks })
      (λ t. deleting_fine j segment (ends t))
      (λ t. (k, says_questions May (λ block place. tt) segment checks))

  pub looked_fine : (j : JobState) (segment : SegRef) (was_asked : Bool) (checks : List Check) → Known (Checking j segment checks)
      → (all_dead checks ≡ true → (servers : List ℕ) → Known (Deleting j segment servers)) → Fine (job_look j segment was_asked checks)
  unfolding job_look
  looked_fine j segment was_asked checks k ends =
      by_test Fine (all_dead checks) (job_delete j segment)
      (cond (was_asked && not (any_asked checks)) (record { state = Checking j segment checks; outs = out.Move (moves checks) ∷ [] })
      (still (Checking j segment checks)))
      (λ t. deleting_fine j segment (ends t))
      (λ t. by_test Fine (was_asked && not (any_asked checks)) (record { state = Checking j segment checks; outs = out.Move (moves checks) ∷ [] })
      (still (Checking j segment checks)) (λ u. (k, (tt, tt))) (λ u. (k, tt)))

  -- ---- inputs that are no answers

  listed_fine : (l : ListingState) → Fine (listing_go_on l)
  listed_fine l =
      by_test Fine (length l.awaited == 0)
      (record { state = Counting (record { groups = l.groups; candidates = l.candidates; usages = [] }); outs = usage_asks all_slots }) (still (Listing l))
      (λ t. (tt, says_usage_asks May (λ slot. tt) all_slots))
      (λ t. (tt, tt))

  pub listed_in_fine : (server : ℕ) (held : List FragMeta) (p : Phase) → Known p → Fine (listed_in server held p)
  listed_in_fine server held (Listing l) k =
      by_test Fine (is_among l.awaited server) (listing_go_on (listing_hear l server held)) (still (Listing l)) (λ t. listed_fine (listing_hear l server held)) (λ t. (k, tt))
  listed_in_fine server held p k = (k, tt)

  counted_fine : (count : ℕ) (s : CountingState) → Fine (step.counting_go_on count s)
  counted_fine count s =
      by_test Fine (is_counted s.usages) (next (record { groups = s.groups; left = chosen count s; deleted = 0 })) (still (Counting s))
      (λ t. next_fine (chosen count s) (record { groups = s.groups; left = chosen count s; deleted = 0 }))
      (λ t. (tt, tt))

  pub counted_in_fine : (count slot : ℕ) (counts : _) (p : Phase) → Known p → Fine (counted_in count slot counts p)
  counted_in_fine count slot counts (Counting s) k =
      by_test Fine (has_usage s.usages slot) (still (Counting s)) (step.counting_go_on count (counting_hear slot counts s)) (λ t. (k, tt))
      (λ t. counted_fine count (counting_hear slot counts s))
  counted_in_fine count slot counts p k = (k, tt)

  pub forgetting_fine : (slot : ℕ) (p : Phase) → Known p → Fine (forgetting slot p)
  forgetting_fine slot (Counting s) k =
      by_test Fine (has_usage s.usages slot) (record { state = Counting (forgotten slot s); outs = out.UsageAsk slot ∷ [] }) (still (Counting s))
      (λ t. (tt, (tt, tt))) (λ t. (k, tt))
  forgetting_fine slot p k = (k, tt)

  pub mapped_fine : (groups : GroupMapState) (p : Phase) → Known p → Known (mapped groups p)
  mapped_fine groups (Listing l) k = k
  mapped_fine groups p k = k

  pub deleted_in_fine : (server : ℕ) (name : SegName) (p : Phase) → Known p → Fine (deleted_in server name p)
  deleted_in_fine server name (Deleting j segment servers) k = deleted_fine server name j segment servers k
  deleted_in_fine server name p k = (k, tt)

  pub awaits_fine : (p : Phase) → Known p → AllByRecursion May (phase_asking p)
  awaits_fine Greeting k = (tt, tt)
  awaits_fine (Listing l) k = says_lists May (λ server. tt) l.awaited
  awaits_fine (Counting s) k = says_usage_asks May (λ slot. tt) (awaited_slots s.usages)
  awaits_fine (Reading j segment) k = (tt, tt)
  awaits_fine (Checking j segment checks) k = says_questions May (λ block place. tt) segment checks
  awaits_fine (Deleting j segment servers) k = says_deletes May segment.name (λ server. k) servers
  awaits_fine Over k = tt
