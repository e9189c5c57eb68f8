-- How many segments are dropped by what the cleaner does, and that a count that it answers is so many: one thing after the other.
use Rattle.std.proofs.Common.{◌≡◌, ◌+◌, cond, min, ℕ, Bool, true, false, List, [], ◌∷◌, ◌++◌, Option, Some, None, refl, sym, ap, subst, ◌∙◌, arith}
use Rattle.std.specs.List.{AllByRecursion}
use Rattle.cleaner_job.specs.declared.hand.Hand.{Hand}
use Rattle.cleaner_job.specs.declared.job.Job.{Job}
use Rattle.cleaner_serving.specs.declared.emptying.Emptying.{Emptying}
use Rattle.cleaner_serving.specs.Jobs.{Done}
use Rattle.node_base.specs.declared.effects.Effect.{Effect}
use Rattle.node_base.specs.declared.effects.Effect.TheVariants.{Answer as Answers, Does, Lose, Send}
use Rattle.stripe_cleaner.specs.declared.phase.Phase.{Phase}
use Rattle.stripe_cleaner.specs.declared.phase.Phase.TheVariants.{Checking, Counting, Deleting, Greeting, Listing, Over, Reading}
use Rattle.stripe_cleaner.specs.JobState.{JobState}
use Rattle.version_model.specs.declared.act.Act.{Act}
use Rattle.version_model.specs.declared.act.Act.TheVariants.{Answered, Dropped}
use Rattle.version_model.specs.declared.answer.Answer.{Answer}
use Rattle.version_model.specs.declared.answer.Answer.TheVariants.{Count}
use Rattle.xfs_base.specs.declared.segment.SegName.{SegName}
use Rattle.xfs_base.specs.declared.segment.SegRef.{SegRef}
use Rattle.xfs_base.specs.Limits.{u32_end}
use Rattle.xfs_base.specs.Steps.{saying, steps, still}
use Rattle.xfs_base.proofs.Booleans.{by_test}
use Rattle.run_answers.proofs.number_law.Choosing.{Apart}

-- ---- what is dropped

abbrev pub act_drops : Act → ℕ
act_drops (Dropped name) = 1
act_drops _ = 0

abbrev pub effect_drops : Effect → ℕ
effect_drops (Send to said) = 0
effect_drops (Answers n a) = 0
effect_drops (Lose seg) = 0
effect_drops (Does act) = act_drops act

abbrev pub drops : List Effect → ℕ
drops [] = 0
drops (x ∷ outs) = effect_drops x + drops outs

drops_then : (outs more : List Effect) → drops (outs ++ more) ≡ drops outs + drops more
drops_then [] more = omega arith
drops_then (x ∷ outs) more =
    (let rest = drops_then outs more in let a = effect_drops x in let b = drops outs in let c = drops more in ap (λ n. a + n) rest ∙ regroup a b c)
  where
    regroup : (a b c : ℕ) → a + (b + c) ≡ (a + b) + c
    regroup a b c = omega arith

pub nothing_more : (n : ℕ) → n ≡ n + 0
nothing_more n = omega arith

one_then : (n a b : ℕ) → n + (a + b) ≡ (n + a) + b
one_then n a b = omega arith

-- nothing is dropped, and no item is answered by a count
abbrev pub IsNoCount : Answer → Type 0
IsNoCount (Count count) = ⊥
IsNoCount _ = Unit {0}

abbrev pub IsNoAnswer : Act → Type 0
IsNoAnswer (Answered node number a) = ⊥
IsNoAnswer _ = Unit {0}

abbrev pub IsNoDrop : Act → Type 0
IsNoDrop (Dropped name) = ⊥
IsNoDrop (Answered node number a) = ⊥
IsNoDrop _ = Unit {0}

abbrev pub Quiet : Effect → Type 0
Quiet (Send to said) = Unit {0}
Quiet (Answers n a) = IsNoCount a
Quiet (Lose seg) = Unit {0}
Quiet (Does act) = IsNoDrop act

act_quiet : (act : Act) → IsNoDrop act → act_drops act ≡ 0
act_quiet (Dropped name) quiet = absurd quiet
act_quiet (Answered node number a) quiet = absurd quiet
act_quiet _ quiet = refl

pub act_silent : (act : Act) → IsNoDrop act → IsNoAnswer act
act_silent (Dropped name) quiet = absurd quiet
act_silent (Answered node number a) quiet = absurd quiet
act_silent _ quiet = tt

one_quiet : (x : Effect) → Quiet x → effect_drops x ≡ 0
one_quiet (Send to said) quiet = refl
one_quiet (Answers n a) quiet = refl
one_quiet (Lose seg) quiet = refl
one_quiet (Does act) quiet = act_quiet act quiet

pub from_none : (n : ℕ) → 0 + n ≡ n
from_none n = omega arith

pub none_dropped : (outs : List Effect) → AllByRecursion Quiet outs → drops outs ≡ 0
none_dropped [] quiet = refl
none_dropped (x ∷ outs) quiet =
    ap (λ n. n + drops outs) (one_quiet x quiet.0) ∙ (from_none (drops outs) ∙ none_dropped outs quiet.1)

-- ---- what is known of a job

-- the segment in hand, and whether it is dropped
abbrev pub seen_of : Option Hand → Option (SegName × Bool)
seen_of None = None
seen_of (Some hand) = Some (hand.seg.name, hand.dropped)

-- so many segments were dropped since the item began, before this one is read; no other will be that has its name
pub record AtSegment (n : ℕ) (j : JobState) (segment : SegRef) : Type 0 where
  pub counted : j.deleted ≡ min n u32_end
  pub apart : Apart (segment ∷ j.left)

-- none is in hand, or that of this name, which isn't dropped
abbrev pub IsWhole : Option (SegName × Bool) → SegName → Type 0
IsWhole None name = Unit {0}
IsWhole (Some seen) name = (seen.0 ≡ name) × (seen.1 ≡ false)

-- it is dropped, and will be counted; or no server is to delete it
pub data IsDeleted (n : ℕ) (seen : Option (SegName × Bool)) (j : JobState) (segment : SegRef) : List ℕ → Type 0 where
  Told : {servers : List ℕ} → seen ≡ Some (segment.name, true) → min (j.deleted + 1) u32_end ≡ min n u32_end → IsDeleted n seen j segment servers
  Untold : IsDeleted n seen j segment []

abbrev pub PhaseSo : ℕ → Option (SegName × Bool) → Phase → Type 0
PhaseSo n seen Greeting = (n ≡ 0) × (seen ≡ None)
PhaseSo n seen (Listing l) = (n ≡ 0) × (seen ≡ None)
PhaseSo n seen (Counting c) = (n ≡ 0) × (seen ≡ None)
PhaseSo n seen (Reading j segment) = AtSegment n j segment × IsWhole seen segment.name
PhaseSo n seen (Checking j segment checks) = AtSegment n j segment × (seen ≡ Some (segment.name, false))
PhaseSo n seen (Deleting j segment servers) = Apart (segment ∷ j.left) × IsDeleted n seen j segment servers
PhaseSo n seen Over = Unit {0}

module _ (item : ℕ) where
  -- ---- what is answered

  abbrev pub AnswerSo : ℕ → ℕ → Answer → Type 0
  AnswerSo n number (Count count) = (number ≡ item) × (count ≡ min n u32_end)
  AnswerSo n number _ = Unit {0}

  abbrev pub EffectSo : ℕ → Effect → Type 0
  EffectSo n (Send to said) = Unit {0}
  EffectSo n (Answers number a) = AnswerSo n number a
  EffectSo n (Lose seg) = Unit {0}
  EffectSo n (Does act) = IsNoAnswer act

  -- each count that is answered is the number of segments that are dropped before
  abbrev pub CountsSo : ℕ → List Effect → Type 0
  CountsSo n [] = Unit {0}
  CountsSo n (x ∷ outs) = EffectSo n x × CountsSo (n + effect_drops x) outs

  counts_then : (n : ℕ) (outs more : List Effect) → CountsSo n outs → CountsSo (n + drops outs) more → CountsSo n (outs ++ more)
  counts_then n [] more first rest = subst (λ m. CountsSo m more) (sym (nothing_more n)) rest
  counts_then n (x ∷ outs) more first rest = (
    first.0,
    counts_then (n + effect_drops x) outs more first.1 (subst (λ m. CountsSo m more) (one_then n (effect_drops x) (drops outs)) rest),
  )

  answer_quiet : (n number : ℕ) (a : Answer) → IsNoCount a → AnswerSo n number a
  answer_quiet n number (Count count) quiet = absurd quiet
  answer_quiet n number _ quiet = tt

  effect_quiet : (n : ℕ) (x : Effect) → Quiet x → EffectSo n x
  effect_quiet n (Send to said) quiet = tt
  effect_quiet n (Answers number a) quiet = answer_quiet n number a quiet
  effect_quiet n (Lose seg) quiet = tt
  effect_quiet n (Does act) quiet = act_silent act quiet

  pub counts_quiet : (n : ℕ) (outs : List Effect) → AllByRecursion Quiet outs → CountsSo n outs
  counts_quiet n [] quiet = tt
  counts_quiet n (x ∷ outs) quiet = (effect_quiet n x quiet.0, counts_quiet (n + effect_drops x) outs quiet.1)

  -- ---- a cleaner that serves, where so many were dropped since the item began

  abbrev pub JobSo : ℕ → Option ℕ → Option Job → Type 0
  JobSo n open_item None = Unit {0}
  JobSo n open_item (Some job) = (open_item ≡ Some item) × PhaseSo n (seen_of job.hand) job.cleaning.phase

  abbrev pub At : ℕ → Emptying → Type 0
  At n e = JobSo n e.lasting.items.unanswered e.job

  pub record Leads (n : ℕ) (d : Done) : Type 0 where
    pub state : At (n + drops d.outs) d.state
    pub counts : CountsSo n d.outs

  abbrev pub Goes : Emptying → Done → Type 0
  Goes e d = (n : ℕ) → At n e → Leads n d

  pub quiet_leads : (n : ℕ) (d : Done) → At n d.state → AllByRecursion Quiet d.outs → Leads n d
  quiet_leads n d h quiet = record {
    state = subst (λ m. At m d.state) (nothing_more n ∙ ap (λ m. n + m) (sym (none_dropped d.outs quiet))) h;
    counts = counts_quiet n d.outs quiet;
  }

  pub leads_on : (n : ℕ) (d f : Done) → Leads n d → Leads (n + drops d.outs) f → Leads n (saying d.outs f)
  leads_on n d f g h = record {
    state = subst (λ m. At m f.state) (sym (one_then n (drops d.outs) (drops f.outs)) ∙ ap (λ m. n + m) (sym (drops_then d.outs f.outs))) h.state;
    counts = counts_then n d.outs f.outs g.counts h.counts;
  }

  pub rests : (e : Emptying) → Goes e (still e)
  rests e n h = quiet_leads n (still e) h tt

  -- another state, of which as much is known
  pub from_goes : (e f : Emptying) (d : Done) → ((n : ℕ) → At n e → At n f) → Goes f d → Goes e d
  from_goes e f d same g n h = g n (same n h)

  pub plainly : (e : Emptying) (d : Done) → ((n : ℕ) → At n e → At n d.state) → AllByRecursion Quiet d.outs → Goes e d
  plainly e d same quiet n h = quiet_leads n d (same n h) quiet

  pub then_goes : (e : Emptying) (d f : Done) → Goes e d → Goes d.state f → Goes e (saying d.outs f)
  then_goes e d f g k n h = (let one = g n h in leads_on n d f one (k (n + drops d.outs) one.state))

  pub first_goes : (e : Emptying) (outs : List Effect) (f : Done) → AllByRecursion Quiet outs → Goes e f → Goes e (saying outs f)
  first_goes e outs f quiet g = then_goes e (record { state = e; outs = outs }) f (plainly e (record { state = e; outs = outs }) (λ n h. h) quiet) g

  pub if_goes : (t : Bool) (e : Emptying) (d : Done) → Goes e d → Goes e (cond t d (still e))
  if_goes t e d g = by_test (Goes e) t d (still e) (λ _. g) (λ _. rests e)

  pub steps_go : {A : Type 0} (step : Emptying → A → Done) → ((e : Emptying) (x : A) → Goes e (step e x)) → (e : Emptying) (xs : List A)
      → Goes e (steps step e xs)
  steps_go step each e [] = rests e
  steps_go step each e (x ∷ xs) = then_goes e (step e x) (steps step (step e x).state xs) (each e x) (steps_go step each (step e x).state xs)
