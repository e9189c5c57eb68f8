-- What a turn adds to what a node has begun and answered.
use Rattle.std.proofs.Common.{◌≡◌, refl, sym, ap, ◌∙◌, ℕ, ◌+◌, ◌≤◌, Bool, true, false, cond, nat_lt, List, [], ◌∷◌, ◌++◌, length, map, Option, Some, None, arith, append-nil, length-append}
use Rattle.std.specs.List.{count_by}
use Rattle.std.proofs.lemmas.Bool.Decides.{nat_tests}
use Rattle.std.proofs.lemmas.List.Elements.{filter-append}
use Rattle.script_text.specs.declared.script.Script.{Script}
use Rattle.version_model.specs.declared.act.Act.{Act}
use Rattle.version_model.specs.declared.work.Work.{Work}
use Rattle.wire_msg.specs.declared.packet.Do.{Do}
use Rattle.wire_msg.specs.declared.packet.Do.TheVariants.{Begin}
use Rattle.wire_msg.specs.Kinds.{is_begin, is_tick}
use Rattle.wire_msg.specs.NodeStep.{NodeStep}
use Rattle.xfs_base.specs.declared.node.NodeId.{NodeId}
use Rattle.xfs_base.specs.declared.setup.Setup.{Setup}
use Rattle.world_base.specs.NextWorld.{clock_after, sent_at}
use Rattle.journals.specs.declared.moment.Moment.{Moment}
use Rattle.journals.specs.Journals.{acts_in, begins, last_clock, replayed, whats}
use Rattle.live_links.specs.Acts.{ticks, turned, turned_at}
use Rattle.live_links.specs.Answered.{AnswersMore, answered_at, answers_by, is_answer_by, wait_after, waited_in}
use Rattle.live_links.specs.Facts.{first_at, name_at}
use Rattle.live_links.proofs.Turns.{acts_more, count_by-append, whats_more}

-- more are kept just where there are new answers
waits_on : (kept new : List Act) (what : Do) (k : ℕ) → cond (nat_lt (length kept) (length (kept ++ new))) 0 (k + ticks (what ∷ [])) ≡ wait_after new what k
waits_on kept [] what k =
    let none : nat_lt (length kept) (length (kept ++ [])) ≡ false = let e = ap length (append-nil kept) in grind (arith, nat_tests) in
    ap (λ b. cond b 0 (k + ticks (what ∷ []))) none
waits_on kept (a ∷ more) what k =
    let some : nat_lt (length kept) (length (kept ++ a ∷ more)) ≡ true = let e = length-append kept (a ∷ more) in grind (arith, nat_tests) in
    ap (λ b. cond b 0 (k + ticks (what ∷ []))) some

pub less_than : (a b : ℕ) (kept more : List Act) → a ≡ length kept → b ≡ length more → nat_lt a b ≡ nat_lt (length kept) (length more)
less_than a b kept more e f = rw (e, f) refl

module _ {N : Type 0} (step : N → Do → NodeStep N) (node : NodeId) (first : N) where
  -- the answers of one event more
  answers_then : (ms : List Moment) (m : Moment)
      → answers_by node (acts_in step first (whats (ms ++ m ∷ []))) ≡ answers_by node (acts_in step first (whats ms)) ++ answers_by node (step (replayed step first (whats ms)) m.what).acts
  answers_then ms m =
      ap (λ ds. answers_by node (acts_in step first ds)) (whats_more ms m)
      ∙ ap (answers_by node) (acts_more step first (whats ms) m.what)
      ∙ filter-append (is_answer_by node) (acts_in step first (whats ms)) (step (replayed step first (whats ms)) m.what).acts

  -- the answers that a journal keeps
  pub answers_next : (by : NodeId) (ms new : List Moment) (m : Moment) (n : N) (acts kept more : List Act) → by ≡ node → n ≡ replayed step first (whats ms)
      → acts ≡ (step n m.what).acts → new ≡ ms ++ m ∷ [] → kept ≡ answers_by node (acts_in step first (whats ms)) → more ≡ kept ++ answers_by by acts
      → more ≡ answers_by node (acts_in step first (whats new))
  answers_next by ms new m n acts kept more name is are e old grown =
      let same : acts ≡ (step (replayed step first (whats ms)) m.what).acts = are ∙ ap (λ x. (step x m.what).acts) is in
      grown ∙ ap (λ who. kept ++ answers_by who acts) name
      ∙ ap (λ xs. xs ++ answers_by node acts) old
      ∙ ap (λ xs. answers_by node (acts_in step first (whats ms)) ++ answers_by node xs) same
      ∙ sym (answers_then ms m)
      ∙ sym (ap (λ all. answers_by node (acts_in step first (whats all))) e)

  -- how often time passed since, with one event more
  waited_more : (k : ℕ) (n : N) (ds : List Do) (d : Do)
      → waited_in step node k n (ds ++ d ∷ []) ≡ wait_after (answers_by node (step (replayed step n ds) d).acts) d (waited_in step node k n ds)
  waited_more k n [] d = refl
  waited_more k n (e ∷ ds) d = waited_more (wait_after (answers_by node (step n e).acts) e k) (step n e).node ds d

  pub waits_next : (by : NodeId) (ms new : List Moment) (m : Moment) (n : N) (acts kept more : List Act) (waited longer : ℕ) → by ≡ node → n ≡ replayed step first (whats ms)
      → acts ≡ (step n m.what).acts → new ≡ ms ++ m ∷ [] → waited ≡ waited_in step node 0 first (whats ms) → more ≡ kept ++ answers_by by acts
      → longer ≡ cond (nat_lt (length kept) (length more)) 0 (waited + ticks (m.what ∷ [])) → longer ≡ waited_in step node 0 first (whats new)
  waits_next by ms new m n acts kept more waited longer name is are e old grown on =
      let same : answers_by by acts ≡ answers_by node (step (replayed step first (whats ms)) m.what).acts =
      ap (λ who. answers_by who acts) name ∙ ap (answers_by node) (are ∙ ap (λ x. (step x m.what).acts) is)
      in
      on ∙ ap (λ xs. cond (nat_lt (length kept) (length xs)) 0 (waited + ticks (m.what ∷ []))) grown ∙ waits_on kept (answers_by by acts) m.what waited
      ∙ ap (λ xs. wait_after xs m.what waited) same
      ∙ ap (wait_after (answers_by node (step (replayed step first (whats ms)) m.what).acts) m.what) old
      ∙ sym (waited_more 0 first (whats ms) m.what)
      ∙ sym (ap (λ ds. waited_in step node 0 first ds) (ap whats e ∙ whats_more ms m))

  -- the moment that a turn adds
  abbrev moment_at : Do → ℕ → ℕ → List Moment → ℕ → Moment
  moment_at what from number ms clock = record {
    clock = clock;
    what = what;
    from = from;
    number = number;
    packets = map (sent_at clock) (step (replayed step first (whats ms)) what).packets;
    acts = (step (replayed step first (whats ms)) what).acts;
  }

  -- what was answered stays answered
  more_at : (place : ℕ) (what : Do) (from number : ℕ) (ms : List Moment) (clock : Option ℕ)
      → (more : List Act)
      × (answers_by node (acts_in step first (whats (turned_at step first place what from number ms clock).moments)) ≡ answers_by node (acts_in step first (whats ms)) ++ more)
  more_at place what from number ms None = ([], sym (append-nil (answers_by node (acts_in step first (whats ms)))))
  more_at place what from number ms (Some clock) =
      let m : Moment = moment_at what from number ms clock in
      (answers_by node (step (replayed step first (whats ms)) what).acts, answers_then ms m)

  -- and in a turn nothing happens but what it is
  counted_at : (test : Do → Bool) (place : ℕ) (what : Do) (from number : ℕ) (ms : List Moment) (clock : Option ℕ)
      → count_by test (whats (turned_at step first place what from number ms clock).moments) ≤ count_by test (whats ms) + count_by test (what ∷ [])
  counted_at test place what from number ms None = omega arith
  counted_at test place what from number ms (Some clock) =
      let m : Moment = moment_at what from number ms clock in
      let e : count_by test (whats (ms ++ m ∷ [])) ≡ count_by test (whats ms) + count_by test (what ∷ []) = ap (count_by test) (whats_more ms m) ∙ count_by-append test (whats ms) (what ∷ []) in
      omega arith

  counted_then : (test : Do → Bool) (place : ℕ) (what : Do) (from number : ℕ) (ms new : List Moment) (bound : ℕ) → new ≡ (turned step first place what from number ms).moments
      → count_by test (what ∷ []) ≤ bound → count_by test (whats new) ≤ count_by test (whats ms) + bound
  counted_then test place what from number ms new bound is most =
      let one = counted_at test place what from number ms (clock_after (last_clock 0 ms) what) in
      let same = ap (λ all. count_by test (whats all)) is in
      omega arith

  -- and nothing that it is not
  still_at : (test : Do → Bool) (place : ℕ) (what : Do) (from number : ℕ) (ms : List Moment) (clock : Option ℕ) → count_by test (what ∷ []) ≡ 0
      → count_by test (whats (turned_at step first place what from number ms clock).moments) ≡ count_by test (whats ms)
  still_at test place what from number ms None none = refl
  still_at test place what from number ms (Some clock) none =
      let m : Moment = moment_at what from number ms clock in
      let e : count_by test (whats (ms ++ m ∷ [])) ≡ count_by test (whats ms) + count_by test (what ∷ []) = ap (count_by test) (whats_more ms m) ∙ count_by-append test (whats ms) (what ∷ []) in
      omega arith

  pub begun_then : (place : ℕ) (what : Do) (from number : ℕ) (ms new : List Moment) (bound : ℕ) → new ≡ (turned step first place what from number ms).moments
      → begins (what ∷ []) ≤ bound → begins (whats new) ≤ begins (whats ms) + bound
  begun_then = counted_then is_begin

  -- a turn of what a cell is after a packet was taken from its rings
  pub unticked_then : (place : ℕ) (what : Do) (from number : ℕ) (old ms new : List Moment) → ms ≡ old → new ≡ (turned step first place what from number ms).moments
      → ticks (what ∷ []) ≡ 0 → ticks (whats new) ≡ ticks (whats old)
  unticked_then place what from number old ms new same is none =
      ap (λ (all : List Moment). ticks (whats all)) is ∙ still_at is_tick place what from number ms (clock_after (last_clock 0 ms) what) none
      ∙ ap (λ (all : List Moment). ticks (whats all)) same

begin_is : begins (Begin ∷ []) ≤ 1
begin_is = omega arith

pub one_begun : (may : Bool) → may ≡ true → begins (Begin ∷ []) ≤ cond may 1 0
one_begun may is = rw is (omega arith)

module _ {N : Type 0} (step : N → Do → NodeStep N) (first : NodeId → Setup → List Work → N) (script : Script) where
  pub answered_then : (place other : ℕ) (what : Do) (from number : ℕ) (old ms new : List Moment) → other ≡ place → ms ≡ old
      → new ≡ (turned step (first_at first script other) other what from number ms).moments → AnswersMore step first script place old new
  answered_then place other what from number old ms new at same is =
      let there : new ≡ (turned step (first_at first script place) place what from number old).moments =
      is ∙ ap (λ (q : ℕ). (turned step (first_at first script q) q what from number ms).moments) at
      ∙ ap (λ (all : List Moment). (turned step (first_at first script place) place what from number all).moments) same
      in
      let one = more_at step (name_at script place) (first_at first script place) place what from number old (clock_after (last_clock 0 old) what) in
      (one.0, ap (answered_at step first script place) there ∙ one.1)

  pub answered_still : (place : ℕ) (old new : List Moment) → new ≡ old → AnswersMore step first script place old new
  answered_still place old new is = ([], ap (answered_at step first script place) is ∙ sym (append-nil (answered_at step first script place old)))
