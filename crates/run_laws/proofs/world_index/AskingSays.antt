-- What of a job's sayings asks nothing, how one follows another, and that each Check is of the segment in hand, under a number that no other question has.
use Rattle.std.proofs.Common.{◌≡◌, ◌⊎◌, ◌+◌, ℕ, ◌≤◌, ◌<◌, Bool, true, false, cond, nat_lt, List, [], ◌∷◌, ◌++◌, Option, None, Some, unwrap_or, inl, inr, refl, sym, ap, subst, ◌∙◌, arith}
use Rattle.std.proofs.lemmas.Bool.Decides.{nat_tests}
use Rattle.std.specs.BTreeMap.{insert_entry, is_at}
use Rattle.std.specs.List.{AllByRecursion}
use Rattle.std.specs.Map.{lookup}
use Rattle.std.specs.Ordering.{match_ordering}
use Rattle.std.specs.declared.cmp.Ordering.{Ordering}
use Rattle.std.specs.declared.cmp.Ordering.TheVariants.{Less, Equal, Greater}
use Rattle.cleaner_serving.specs.declared.emptying.Emptying.{Emptying}
use Rattle.cleaner_serving.specs.Jobs.{Done, ask_check, ask_list, ask_maps, ask_usage, check_sent, checked_in, checked_with, emptying_check, says}
use Rattle.cleaner_job.specs.declared.hand.Hand.{Hand}
use Rattle.cleaner_job.specs.declared.job.Job.{Job}
use Rattle.cleaner_job.specs.Hands.{asked_of, checks_under, hand_check, kept_ask}
use Rattle.cleaner_job.specs.Jobs.{drawn_unless, hand_checks_in, job_checked, job_check, JobChecking}
use Rattle.node_base.specs.Asking.{draw, next_ask}
use Rattle.node_base.specs.declared.effects.Effect.{Effect}
use Rattle.node_base.specs.declared.effects.Effect.TheVariants.{Send, Answer, Lose, Does}
use Rattle.node_base.specs.declared.questions.Questions.{Questions}
use Rattle.stripe_cleaner.specs.declared.output.Out.{Out}
use Rattle.stripe_cleaner.specs.declared.output.Out.TheVariants as out
use Rattle.stripe_cleaner.specs.declared.phase.Phase.{Phase}
use Rattle.wire_msg.specs.declared.body.Body.{Body}
use Rattle.wire_msg.specs.declared.body.Body.TheVariants as body
use Rattle.run_laws.proofs.world_index.Asking.{AsksIn, BodyAsks, EffectAsks, book_with, drawn_fewer, drawn_more, job_more, so_fewer}
use Rattle.run_laws.specs.world_index.Asking.{AsksSo, Book, HandIn, HandSeen, IsDrawn}
use Rattle.run_laws.proofs.world_index.AskingJobs.{IsCheckOf}
use Rattle.xfs_base.proofs.Booleans.{by_test}
use Rattle.xfs_base.specs.Blocks.{block_cmp}
use Rattle.xfs_base.specs.Limits.{u32_end}
use Rattle.xfs_base.specs.declared.block.BlockId.{BlockId}
use Rattle.xfs_base.specs.declared.entry.Place.{Place}
use Rattle.xfs_base.specs.declared.segment.SegName.{SegName}
use Rattle.xfs_base.specs.declared.segment.SegRef.{SegRef}
use Rattle.xfs_base.specs.Steps.{saying, steps}

-- ---- what asks nothing

abbrev pub IsSilentBody : Body → Type 0
IsSilentBody (body.Check m) = ⊥
IsSilentBody _ = Unit {0}

abbrev pub IsSilent : Effect → Type 0
IsSilent (Send to m) = IsSilentBody m
IsSilent (Answer item answer) = Unit {0}
IsSilent (Lose seg) = Unit {0}
IsSilent (Does act) = Unit {0}

abbrev pub AllSilent : List Effect → Type 0
AllSilent es = AllByRecursion IsSilent es

silent_body : (m : Body) (ask : ℕ) (name : SegName) → IsSilentBody m → BodyAsks m ask name → ⊥
silent_body (body.Check m) ask name silent asks = silent
silent_body _ ask name silent asks = asks

silent_effect : (e : Effect) (ask : ℕ) (name : SegName) → IsSilent e → EffectAsks e ask name → ⊥
silent_effect (Send to m) ask name silent asks = silent_body m ask name silent asks
silent_effect (Answer item answer) ask name silent asks = asks
silent_effect (Lose seg) ask name silent asks = asks
silent_effect (Does act) ask name silent asks = asks

silent_all : (es : List Effect) (ask : ℕ) (name : SegName) → AllSilent es → AsksIn es ask name → ⊥
silent_all [] ask name silent asks = asks
silent_all (e ∷ es) ask name silent (inl asks) = silent_effect e ask name silent.0 asks
silent_all (e ∷ es) ask name silent (inr asks) = silent_all es ask name silent.1 asks

no_more : (book : Book) (es : List Effect) → AllSilent es → (ask : ℕ) (name : SegName) → book_with book es ask name → book ask name
no_more book es silent ask name (inl fact) = fact
no_more book es silent ask name (inr asks) = absurd (silent_all es ask name silent asks)

-- ---- one thing after another

asks_either : (xs ys : List Effect) (ask : ℕ) (name : SegName) → AsksIn (xs ++ ys) ask name → AsksIn xs ask name ⊎ AsksIn ys ask name
asks_either [] ys ask name asks = inr asks
asks_either (e ∷ xs) ys ask name (inl asks) = inl (inl asks)
asks_either (e ∷ xs) ys ask name (inr asks) = elim (asks_either xs ys ask name asks) [ inl x ↦ inl (inr x) | inr y ↦ inr y ]

pub both_books : (book : Book) (xs ys : List Effect) (ask : ℕ) (name : SegName) → book_with book (xs ++ ys) ask name → book_with (book_with book xs) ys ask name
both_books book xs ys ask name (inl fact) = inl (inl fact)
both_books book xs ys ask name (inr asks) = elim (asks_either xs ys ask name asks) [ inl x ↦ inl (inr x) | inr y ↦ inr y ]

-- what the cleaner awaits
abbrev pub At : Book → Emptying → Type 0
At book e = AsksSo book e.lasting.questions e.job

-- and after what was done
abbrev pub Kept : Book → Done → Type 0
Kept book d = At (book_with book d.outs) d.state

pub so_silent : (book : Book) (q : Questions) (o : Option Job) (es : List Effect) → AllSilent es → AsksSo book q o → AsksSo (book_with book es) q o
so_silent book q o es silent h = so_fewer book (book_with book es) (no_more book es silent) q o h

pub drawn_silent : (book : Book) (q : Questions) (es : List Effect) → AllSilent es → IsDrawn book q → IsDrawn (book_with book es) q
drawn_silent book q es silent h = drawn_fewer book (book_with book es) (no_more book es silent) q h

pub quiet : (book : Book) (e : Emptying) (es : List Effect) → AllSilent es → At book e → Kept book (record { state = e; outs = es })
quiet book e es silent h = so_silent book e.lasting.questions e.job es silent h

pub went_on : (book : Book) (d e : Done) → Kept book d → ((b : Book) → At b d.state → Kept b e) → Kept book (saying d.outs e)
went_on book d e one next =
    so_fewer (book_with (book_with book d.outs) e.outs) (book_with book (d.outs ++ e.outs))
    (both_books book d.outs e.outs) e.state.lasting.questions e.state.job
    (next (book_with book d.outs) one)

pub went_behind : (book : Book) (es : List Effect) (d : Done) → AllSilent es → Kept book d → Kept book (saying es d)
went_behind book es d silent h =
    so_fewer (book_with book d.outs) (book_with book (es ++ d.outs))
    (λ ask name fact. elim (both_books book es d.outs ask name fact) [ inl x ↦ inl (no_more book es silent ask name x) | inr y ↦ inr y ])
    d.state.lasting.questions d.state.job h

pub all_steps : {A : Type 0} (step : Emptying → A → Done) → ((book : Book) (e : Emptying) (x : A) → At book e → Kept book (step e x))
    → (book : Book) (e : Emptying)
    (xs : List A) → At book e → Kept book (steps step e xs)
all_steps step each book e [] h = quiet book e [] tt h
all_steps step each book e (x ∷ xs) h =
    went_on book (step e x) (steps step (step e x).state xs) (each book e x h) (λ b k. all_steps step each b (step e x).state xs k)

-- ---- more questions

pub below_next : (q : Questions) → q.last ≤ next_ask q
below_next q = by_test (λ (n : ℕ). q.last ≤ n) (nat_lt q.last u32_end) (q.last + 1) q.last (λ _. omega arith) (λ _. omega arith)

-- a new number is a greater one, unless numbers are at their end
past_last : (q : Questions) → next_ask q < u32_end → q.last < next_ask q
past_last q = by_test (λ (n : ℕ). n < u32_end → q.last < n) (nat_lt q.last u32_end) (q.last + 1) q.last (λ _ room. omega arith)
    (λ fact room. absurd (not_end q.last u32_end fact room))
  where
    not_end : (x end : ℕ) → nat_lt x end ≡ false → x < end → ⊥
    not_end x end fact less = grind (arith, nat_tests)

pub so_more : (book : Book) (q r : Questions) → q.last ≤ r.last → (o : Option Job) → AsksSo book q o → AsksSo book r o
so_more book q r more o h = record { drawn = drawn_more book q r more h.drawn; job = job_more book q r more o h.job }

pub so_drawn : (book : Book) (q : Questions) (o : Option Job) → AsksSo book q o → AsksSo book (draw q) o
so_drawn book q o h = so_more book q (draw q) (below_next q) o h

unless_more : (o : Option ℕ) (q : Questions) → q.last ≤ (drawn_unless o q).last
unless_more None q = below_next q
unless_more (Some ask) q = omega arith

-- ---- what it asks of others

module _ (book : Book) (e : Emptying) where
  -- the job, with the same segment in hand
  same_hand : (job : Job) → At book e → e.job ≡ Some job → AsksSo book e.lasting.questions (Some job)
  same_hand job h same = subst (AsksSo book e.lasting.questions) same h

  pub maps_so : (o : Option Job) → e.job ≡ o → At book e → Kept book (ask_maps e o)
  maps_so None same h = quiet book e [] tt h
  maps_so (Some job) same h =
      let k = so_more book e.lasting.questions (drawn_unless job.hello e.lasting.questions) (unless_more job.hello e.lasting.questions) (Some job)
      (same_hand job h same) in
      quiet book (ask_maps e (Some job)).state (ask_maps e (Some job)).outs (tt, tt) (record { drawn = k.drawn; job = k.job })

  pub list_so : (o : Option Job) (server : ℕ) → e.job ≡ o → At book e → Kept book (ask_list e o server)
  list_so None server same h = quiet book e [] tt h
  list_so (Some job) server same h =
      let k = so_more book e.lasting.questions (drawn_unless job.lists e.lasting.questions) (unless_more job.lists e.lasting.questions) (Some job)
      (same_hand job h same) in
      quiet book (ask_list e (Some job) server).state (ask_list e (Some job) server).outs (tt, tt) (record { drawn = k.drawn; job = k.job })

  pub usage_so : (o : Option Job) (slot : ℕ) → e.job ≡ o → At book e → Kept book (ask_usage e o slot)
  usage_so None slot same h = quiet book e [] tt h
  usage_so (Some job) slot same h =
      let k = so_more book e.lasting.questions (drawn_unless job.usages e.lasting.questions) (unless_more job.usages e.lasting.questions) (Some job)
      (same_hand job h same) in
      quiet book (ask_usage e (Some job) slot).state (ask_usage e (Some job) slot).outs (tt, tt) (record { drawn = k.drawn; job = k.job })

-- ---- its checks

-- the segment in hand is this one
abbrev pub SegIn : SegRef → Option Hand → Type 0
SegIn segment None = Unit {0}
SegIn segment (Some hand) = segment.name ≡ hand.seg.name

abbrev pub SegOf : SegRef → Option Job → Type 0
SegOf segment None = Unit {0}
SegOf segment (Some job) = SegIn segment job.hand

some_is : (a b : ℕ) → Some a ≡ Some b → a ≡ b
some_is a b same = ap (λ o. unwrap_or o a) same

none_some : (a : ℕ) → None ≡ Some a → ⊥
none_some a same = absurd (cc)

-- what is found among entries with one more is that one, or was there
module _ (block key : BlockId) (ask found : ℕ) where
  one_more : (here : Bool) (rest old : Option ℕ) → cond here (Some ask) rest ≡ Some found → (rest ≡ Some found → (found ≡ ask) ⊎ (old ≡ Some found))
      → (found ≡ ask) ⊎ (old ≡ Some found)
  one_more true rest old fact then = inl (sym (some_is ask found fact))
  one_more false rest old fact then = then fact

  abbrev Rest : List (BlockId × ℕ) → Type 0
  Rest es = lookup (is_at (block_cmp block)) (insert_entry block_cmp es key ask) ≡ Some found
      → (found ≡ ask) ⊎ (lookup (is_at (block_cmp block)) es ≡ Some found)

  looked_up : (es : List (BlockId × ℕ)) → lookup (is_at (block_cmp block)) (insert_entry block_cmp es key ask) ≡ Some found
      → (found ≡ ask) ⊎ (lookup (is_at (block_cmp block)) es ≡ Some found)
  looked_up [] fact = one_more (is_at (block_cmp block) key) None None fact (λ same. inr same)
  looked_up (e ∷ es) fact = by (block_cmp key e.0) (looked_up es) fact
    where
      keeps : Rest es → (t : Bool) → cond t (Some e.1) (lookup (is_at (block_cmp block)) (insert_entry block_cmp es key ask)) ≡ Some found
          → (found ≡ ask) ⊎ (cond t (Some e.1) (lookup (is_at (block_cmp block)) es) ≡ Some found)
      keeps rest true same = inr same
      keeps rest false same = rest same

      takes : (t : Bool) → cond t (Some ask) (lookup (is_at (block_cmp block)) es) ≡ Some found
          → (found ≡ ask) ⊎ (cond t (Some e.1) (lookup (is_at (block_cmp block)) es) ≡ Some found)
      takes true same = inl (sym (some_is ask found same))
      takes false same = inr same

      by : (o : Ordering) → Rest es
          → lookup (is_at (block_cmp block)) (match_ordering o ((key, ask) ∷ e ∷ es) ((e.0, ask) ∷ es) (e ∷ insert_entry block_cmp es key ask)) ≡ Some found
          → (found ≡ ask) ⊎ (lookup (is_at (block_cmp block)) (e ∷ es) ≡ Some found)
      by Less rest same = one_more (is_at (block_cmp block) key) (lookup (is_at (block_cmp block)) (e ∷ es)) (lookup (is_at (block_cmp block)) (e ∷ es)) same
          (λ old. inr old)
      by Equal rest same = takes (is_at (block_cmp block) e.0) same
      by Greater rest same = keeps rest (is_at (block_cmp block) e.0) same

-- a hand with one more question, which is asked of its segment
module _ (book : Book) (q : Questions) (phase : Phase) (hand : Hand) (h : HandSeen book q phase hand) (drawn_so : IsDrawn book q) (block : BlockId)
    (place : Place) (at : place.seg.name ≡ hand.seg.name) where
  -- under a new number
  abbrev new : ℕ
  new = next_ask q

  abbrev then_hand : Hand
  then_hand = record hand { checks = insert_entry block_cmp hand.checks block new }

  abbrev then_book : ℕ → Book
  then_book ask n name = book n name ⊎ (((ask ≡ n) × (place.seg.name ≡ name)) ⊎ ⊥)

  clash : (a b : ℕ) → a ≤ q.last → b ≡ a → q.last < b → ⊥
  clash a b low same past = omega arith

  was_room : new < u32_end → q.last < u32_end
  was_room room = let past = past_last q room in omega arith

  new_named : new < u32_end → (b : BlockId) (ask : ℕ) (name : SegName) → asked_of then_hand.checks b ≡ Some ask → then_book new ask name → hand.seg.name ≡ name
  new_named room b ask name awaited fact = elim (looked_up b block new ask hand.checks awaited) [
    | inl fresh ↦ of_new fresh fact
    | inr old ↦ of_old old fact
  ]
    where
      past : q.last < new
      past = past_last q room

      of_new : ask ≡ new → then_book new ask name → hand.seg.name ≡ name
      of_new fresh (inl was) = absurd (clash ask new (drawn_so (was_room room) ask name was) (sym fresh) past)
      of_new fresh (inr (inl asks)) = sym at ∙ asks.1
      of_new fresh (inr (inr none)) = absurd none

      of_old : asked_of hand.checks b ≡ Some ask → then_book new ask name → hand.seg.name ≡ name
      of_old old (inl was) = h.asks.named (was_room room) b ask name old was
      of_old old (inr (inl asks)) = absurd (clash ask new (h.asks.drawn (was_room room) b ask old) asks.0 past)
      of_old old (inr (inr none)) = absurd none

  new_drawn : new < u32_end → (b : BlockId) (ask : ℕ) → asked_of then_hand.checks b ≡ Some ask → ask ≤ new
  new_drawn room b ask awaited = elim (looked_up b block new ask hand.checks awaited) [
    | inl fresh ↦ (let same = fresh in omega arith)
    | inr old ↦ (let low = h.asks.drawn (was_room room) b ask old in let up = below_next q in omega arith)
  ]

  pub new_hand : HandSeen (then_book new) (draw q) phase then_hand
  new_hand = record { asks = record { drawn = new_drawn; named = new_named }; job = h.job }

  pub new_book : IsDrawn (then_book new) (draw q)
  new_book room ask name (inl was) = (let low = drawn_so (was_room room) ask name was in let up = below_next q in omega arith)
  new_book room ask name (inr (inl asks)) = (let same = asks.0 in omega arith)
  new_book room ask name (inr (inr none)) = absurd none

  -- under the number that it has
  module _ (ask : ℕ) (has : asked_of hand.checks block ≡ Some ask) where
    old_named : q.last < u32_end → (b : BlockId) (n : ℕ) (name : SegName) → asked_of hand.checks b ≡ Some n → then_book ask n name → hand.seg.name ≡ name
    old_named room b n name awaited (inl was) = h.asks.named room b n name awaited was
    old_named room b n name awaited (inr (inl asks)) = sym at ∙ asks.1
    old_named room b n name awaited (inr (inr none)) = absurd none

    pub old_hand : HandSeen (then_book ask) q phase hand
    old_hand = record { asks = record { drawn = h.asks.drawn; named = old_named }; job = h.job }

    pub old_book : IsDrawn (then_book ask) q
    old_book room n name (inl was) = drawn_so room n name was
    old_book room n name (inr (inl asks)) = (let low = h.asks.drawn room block ask has in let same = asks.0 in omega arith)
    old_book room n name (inr (inr none)) = absurd none

module _ (book : Book) (e : Emptying) (block : BlockId) (place : Place) where
  -- what is kept, and the segment in hand
  pub record ChecksOn (d : Done) : Type 0 where
    pub kept : Kept book d
    pub seg : SegOf place.seg d.state.job

  abbrev with_checks : JobChecking → Done
  with_checks c = check_sent (checked_with e c).state block place c.ask

  -- a block of the segment in hand is checked, under a number that it has, or a new one
  checks_hand : (job : Job) (hand : Hand) → HandSeen book e.lasting.questions job.cleaning.phase hand → IsDrawn book e.lasting.questions
      → place.seg.name ≡ hand.seg.name → ChecksOn (with_checks (job_checked job (hand_check hand e.lasting.questions block)))
  unfolding hand_check
  checks_hand job hand seen drawn_so at = by (kept_ask hand block) refl
    where
      q : Questions
      q = e.lasting.questions

      its : (o : Option ℕ) → kept_ask hand block ≡ o → (ask : ℕ) → o ≡ Some ask → asked_of hand.checks block ≡ Some ask
      its o known ask fact = by_test (λ (x : Option ℕ). x ≡ Some ask → asked_of hand.checks block ≡ Some ask) hand.moved None (asked_of hand.checks block)
          (λ _ none. absurd (none_some ask none)) (λ _ same. same) (known ∙ fact)

      by : (o : Option ℕ) → kept_ask hand block ≡ o → ChecksOn (with_checks (job_checked job (checks_under hand q block o)))
      by None known = record {
        kept = record {
          drawn = new_book book q job.cleaning.phase hand seen drawn_so block place at;
          job = new_hand book q job.cleaning.phase hand seen drawn_so block place at;
        };
        seg = at;
      }
      by (Some ask) known =
          let has = its (Some ask) known ask refl in
          record {
            kept = record {
              drawn = old_book book q job.cleaning.phase hand seen drawn_so block place at ask has;
              job = old_hand book q job.cleaning.phase hand seen drawn_so block place at ask has;
            };
            seg = at;
          }

  checks_in : (job : Job) (o : Option Hand) → job.hand ≡ o → At book e → e.job ≡ Some job → SegIn place.seg o
      → ChecksOn (with_checks (hand_checks_in job e.lasting.questions o block))
  checks_in job None fact h same seg = record {
    kept = quiet book (checked_with e (hand_checks_in job e.lasting.questions None block)).state [] tt (record {
      drawn = h.drawn;
      job = (subst (AsksSo book e.lasting.questions) same h).job;
    });
    seg = subst (SegIn place.seg) (sym fact) tt;
  }
  checks_in job (Some hand) fact h same seg =
      checks_hand job hand (subst (HandIn book e.lasting.questions job.cleaning.phase) fact (subst (AsksSo book e.lasting.questions) same h).job) h.drawn seg

  checks_by : (o : Option Job) → e.job ≡ o → At book e → SegOf place.seg o
      → ChecksOn (check_sent (checked_in e o block).state block place (checked_in e o block).ask)
  unfolding job_check
  checks_by None same h seg = record { kept = quiet book e [] tt h; seg = subst (SegOf place.seg) (sym same) tt }
  checks_by (Some job) same h seg = checks_in job job.hand refl h same seg

  pub check_so : At book e → SegOf place.seg e.job → ChecksOn (ask_check e block place)
  unfolding ask_check emptying_check
  check_so h seg = checks_by e.job refl h seg

-- all Checks of one segment
pub all_checks : (book : Book) (e : Emptying) (segment : SegRef) (outs : List Out) → AllByRecursion (IsCheckOf segment) outs → At book e → SegOf segment e.job
    → Kept book (steps says e outs)
unfolding says
all_checks book e segment [] of h seg = quiet book e [] tt h
all_checks book e segment (out.Check block place ∷ outs) of h seg =
    let c = check_so book e block place h (subst (λ s. SegOf s e.job) (sym of.0) seg) in
    went_on book (ask_check e block place) (steps says (ask_check e block place).state outs) c.kept
    (λ b k. all_checks b (ask_check e block place).state segment outs of.1 k (subst (λ s. SegOf s (ask_check e block place).state.job) of.0 c.seg))
all_checks book e segment (out.Hello ∷ outs) of h seg = absurd of.0
all_checks book e segment (out.List server ∷ outs) of h seg = absurd of.0
all_checks book e segment (out.UsageAsk slot ∷ outs) of h seg = absurd of.0
all_checks book e segment (out.Fetch seg_ ∷ outs) of h seg = absurd of.0
all_checks book e segment (out.Move blocks ∷ outs) of h seg = absurd of.0
all_checks book e segment (out.Delete server name ∷ outs) of h seg = absurd of.0
all_checks book e segment (out.Finished count ∷ outs) of h seg = absurd of.0
