-- As an item of the cleaner begins, none is answered by a count.
use Rattle.std.proofs.Common.{◌≡◌, ℕ, List, [], ◌∷◌, ◌++◌, Option, Some, None, is_some, refl, sym, ap, subst, ◌∙◌}
use Rattle.std.specs.List.{AllByRecursion, range_with_len}
use Rattle.cleaner_job.specs.declared.job.Job.{Job}
use Rattle.cleaner_job.specs.declared.lasting.Lasting.{Lasting}
use Rattle.cleaner_job.specs.Jobs.{ask_of}
use Rattle.cleaner_node.specs.CleanerEvents.{Went_to, begun_life, crash, down_at, down_wishes, happens, on_begin, opening_at, opening_wishes, phase_has_room, restart, serving_at, serving_wishes, takes, wish_at}
use Rattle.cleaner_node.specs.declared.cleaner.Cleaner.{Cleaner}
use Rattle.cleaner_node.specs.declared.cleaner.Phase.{Phase}
use Rattle.cleaner_node.specs.declared.cleaner.Phase.TheVariants as cleaner
use Rattle.cleaner_node.specs.declared.cleaner.Wish.{Wish}
use Rattle.cleaner_node.specs.declared.cleaner.Wish.TheVariants.{Clean, Crash, Restart}
use Rattle.cleaner_serving.specs.declared.emptying.Emptying.{Emptying}
use Rattle.cleaner_serving.specs.EmptyingEvents.{begin_job, on_clean, promise_all, promise_slot, with_new_job}
use Rattle.cleaner_serving.specs.Jobs.{Done, emptying_clean, emptying_take, says, takes_in}
use Rattle.log_owner.specs.declared.opening.Opening as openings
use Rattle.log_owner.specs.Promised.{epoch_of}
use Rattle.log_owner.specs.Sending.{hello}
use Rattle.node_base.specs.Beginning.{answers_unanswered, next_item}
use Rattle.node_base.specs.declared.effects.Effect.{Effect}
use Rattle.node_base.specs.declared.effects.Effect.TheVariants.{Answer as Answers, Does, Lose, Send}
use Rattle.stripe_cleaner.specs.CleaningState.{CleaningState}
use Rattle.stripe_cleaner.specs.declared.input.In.TheVariants as input
use Rattle.stripe_cleaner.specs.declared.phase.Phase.TheVariants.{Greeting}
use Rattle.stripe_cleaner.specs.Promises.{is_above, promised_with}
use Rattle.stripe_cleaner.specs.Transition as cleaning
use Rattle.version_model.specs.declared.answer.Answer.{Answer}
use Rattle.version_model.specs.declared.answer.Answer.TheVariants as answer
use Rattle.wire_msg.specs.declared.packet.Do.TheVariants.{Begin}
use Rattle.xfs_base.proofs.Alls.{all_append}
use Rattle.xfs_base.proofs.Booleans.{by_test}
use Rattle.xfs_base.specs.Steps.{steps, still}

abbrev pub IsNoCount : Answer → Type 0
IsNoCount (answer.Count count) = ⊥
IsNoCount _ = Unit {0}

-- nothing is answered by a count, nor acted but that
abbrev pub Uncounted : Effect → Type 0
Uncounted (Send to said) = Unit {0}
Uncounted (Answers item a) = IsNoCount a
Uncounted (Lose seg) = Unit {0}
Uncounted (Does act) = ⊥

abbrev So : List Effect → Type 0
So outs = AllByRecursion Uncounted outs

cut_so : (o : Option ℕ) → So (answers_unanswered o answer.Cut)
cut_so None = tt
cut_so (Some item) = (tt, tt)

crash_so : (l : Lasting) (number : ℕ) → So (crash l number).outs
unfolding crash
crash_so l number = all_append Uncounted (answers_unanswered l.items.unanswered answer.Cut) (Answers number answer.Done ∷ []) (cut_so l.items.unanswered) (tt, tt)

-- ---- a job that has just begun

-- it awaits its Welcome
abbrev IsNew : Option Job → Type 0
IsNew None = ⊥
IsNew (Some job) = job.cleaning.phase ≡ Greeting

record New (d : Done) : Type 0 where
  job : IsNew d.state.job
  outs : d.outs ≡ []

-- it is told what a slot is promised to
told_new : (s : CleaningState) (slot epoch : ℕ) → s.phase ≡ Greeting
    → ((cleaning.on_promise s slot epoch).state.phase ≡ Greeting) × ((cleaning.on_promise s slot epoch).outs ≡ [])
unfolding cleaning.on_promise
told_new s slot epoch same =
    by_test (λ (d : cleaning.Done). (d.state.phase ≡ Greeting) × (d.outs ≡ [])) (is_above s.promised slot epoch)
    (cleaning.turned (record s { promised = promised_with s.promised slot epoch }) (cleaning.forgetting slot s.phase)) (still s)
    (λ _. subst (λ p. ((cleaning.forgetting slot p).state ≡ Greeting) × ((cleaning.forgetting slot p).outs ≡ [])) (sym same) (refl, refl)) (λ _. (same, refl))

promise_in : (e : Emptying) (o : Option Job) (slot epoch : ℕ) → IsNew o
    → New (steps says (takes_in e o (input.Promise slot epoch)).state (takes_in e o (input.Promise slot epoch)).outs)
promise_in e None slot epoch new = absurd new
promise_in e (Some job) slot epoch new =
    let told = told_new job.cleaning slot epoch new in
    subst (λ outs. New (steps says (takes_in e (Some job) (input.Promise slot epoch)).state outs)) (sym told.1) (record { job = told.0; outs = refl })

promise_new : (e : Emptying) (slot : ℕ) → IsNew e.job → New (promise_slot e slot)
unfolding promise_slot emptying_clean emptying_take
promise_new e slot new = promise_in e e.job slot (epoch_of e.promised slot) new

promises_new : (slots : List ℕ) (e : Emptying) → IsNew e.job → New (steps promise_slot e slots)
promises_new [] e new = record { job = new; outs = refl }
promises_new (slot ∷ slots) e new =
    let one = promise_new e slot new in
    let more = promises_new slots (promise_slot e slot).state one.job in
    record { job = more.job; outs = ap (λ (outs : List Effect). outs ++ (steps promise_slot (promise_slot e slot).state slots).outs) one.outs ∙ more.outs }

-- it asks for the maps, and does nothing else
module _ (P : Effect → Type 0) (asks : (inc ask : ℕ) → P (hello inc ask)) where
  tick_in : (e : Emptying) (o : Option Job) → e.job ≡ o → IsNew o → AllByRecursion P (steps says (takes_in e o input.Tick).state (takes_in e o input.Tick).outs).outs
  unfolding says
  tick_in e None same new = absurd new
  tick_in e (Some job) same new =
      subst (λ p. AllByRecursion P (steps says (takes_in e (Some job) input.Tick).state (cleaning.phase_asking p)).outs) (sym new)
      (asks e.lasting.inc (ask_of job.hello e.lasting.questions), tt)

  tick_so : (e : Emptying) → IsNew e.job → AllByRecursion P (emptying_clean e input.Tick).outs
  unfolding emptying_clean emptying_take
  tick_so e new = tick_in e e.job refl new

  pub begins_asking : (e : Emptying) (number count : ℕ) → AllByRecursion P (begin_job e number count).outs
  unfolding begin_job promise_all
  begins_asking e number count =
      let new = promises_new (range_with_len 0 8) (with_new_job e number count) refl in
      all_append P (steps promise_slot (with_new_job e number count) (range_with_len 0 8)).outs _ (subst (AllByRecursion P) (sym new.outs) tt)
      (tick_so (steps promise_slot (with_new_job e number count) (range_with_len 0 8)).state new.job)

pub begins_so : (e : Emptying) (number count : ℕ) → So (begin_job e number count).outs
begins_so = begins_asking Uncounted (λ inc ask. tt)

clean_so : (e : Emptying) (number count : ℕ) → So (on_clean e number count).outs
unfolding on_clean
clean_so e number count =
    by_test (λ (d : Done). So d.outs) (is_some e.lasting.items.unanswered) (record { state = e; outs = Answers number answer.Busy ∷ [] }) (begin_job e number count)
    (λ _. (tt, tt)) (λ _. begins_so e number count)

-- ---- an item begins

down_so : (servers : ℕ) (l : Lasting) (number : ℕ) (w : Wish) → So (down_wishes servers l number w).outs
unfolding restart
down_so servers l number Restart = (tt, tt)
down_so servers l number Crash = (tt, tt)
down_so servers l number (Clean count) = (tt, tt)

opening_so : (l : Lasting) (o : openings.Opening) (number : ℕ) (w : Wish) → So (opening_wishes l o number w).outs
opening_so l o number Crash = crash_so l number
opening_so l o number Restart = (tt, tt)
opening_so l o number (Clean count) = (tt, tt)

serving_so : (e : Emptying) (number : ℕ) (w : Wish) → So (serving_wishes e number w).outs
serving_so e number Crash = crash_so e.lasting number
serving_so e number Restart = (tt, tt)
serving_so e number (Clean count) = clean_so e number count

down_begins : (servers : ℕ) (l : Lasting) (o : Option ℕ) → So (down_at servers l o).outs
down_begins servers l None = tt
down_begins servers l (Some number) = down_so servers l number (wish_at l.items number)

opening_begins : (l : Lasting) (opening : openings.Opening) (o : Option ℕ) → So (opening_at l opening o).outs
opening_begins l opening None = tt
opening_begins l opening (Some number) = opening_so l opening number (wish_at l.items number)

serving_begins : (e : Emptying) (o : Option ℕ) → So (serving_at e o).outs
serving_begins e None = tt
serving_begins e (Some number) = serving_so e number (wish_at e.lasting.items number)

begin_so : (servers : ℕ) (p : Phase) → So (on_begin servers p).outs
unfolding on_begin
begin_so servers (cleaner.Down l) = down_begins servers (begun_life l) (next_item l.items)
begin_so servers (cleaner.Opening l o) = opening_begins (begun_life l) o (next_item l.items)
begin_so servers (cleaner.Serving e) = serving_begins (record e { lasting = begun_life e.lasting }) (next_item e.lasting.items)

-- whatever the cleaner begins
pub begins_uncounted : (c : Cleaner) → So (takes c.peers c.phase Begin).outs
begins_uncounted c =
    by_test (λ (w : Went_to). So w.outs) (phase_has_room c.phase) (happens c.peers c.phase Begin) (still c.phase) (λ _. begin_so c.peers.servers c.phase) (λ _. tt)
