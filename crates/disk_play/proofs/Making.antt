-- How a change ends under a stop.
use Rattle.std.proofs.Common.{◌≡◌, ◌≢◌, ◌⊎◌, inl, inr, ⊎_elim, ℕ, nat_le, nat_lt, not, ◌==◌, ◌&&◌, Bool, true, false, cond, List, Option, Some, None, Result, Ok, Err, refl, sym, ap, subst, ◌∙◌, arith}
use Rattle.std.specs.Prelude.{OnOk}
use Rattle.disk_shelf.specs.Asks.{after_ask, record_of}
use Rattle.disk_shelf.specs.declared.record.Record.{Record}
use Rattle.disk_shelf.specs.Drives.{reopened, with_record}
use Rattle.disk_shelf.specs.declared.ask.Ask.{Ask}
use Rattle.disk_shelf.specs.declared.ask.Ask.TheVariants as asks
use Rattle.disk_shelf.specs.Deeds.{images}
use Rattle.disk_shelf.specs.Kept.{Kept}
use Rattle.disk_shelf.specs.MemDisk.{Drive, MemState, disk_bytes, new_drive, started}
use Rattle.disk_shelf.specs.Records.{DiskState, StandsFor, new_state}
use Rattle.disk_shelf.specs.Records.StandsFor.{Blank}
use Rattle.disk_shelf.specs.Stops.{ChangesEndByPasses, MemTook, is_answered, is_there}
use Rattle.shelf_changes.specs.Changes.{shelf_after}
use Rattle.std.proofs.lemmas.Bool.Decides.{nat_tests}
use Rattle.disk_play.specs.declared.stop.Fate.{Fate}
use Rattle.disk_play.specs.declared.stop.Fate.TheVariants.{Answered, Unanswered, Lost}
use Rattle.disk_play.specs.declared.stop.Stop.{Stop}
use Rattle.disk_play.specs.Courses.{fate_by, passes_for}
use Rattle.disk_play.specs.Disks.{OnDisk, changed, on_disk, runs_again, to_stop, welcome_of, welcomed, welcomed_by}
use Rattle.disk_play.specs.Standing.{Runs, Took, arm}
use Rattle.wire_msg.specs.declared.packet.Do.{Do}
use Rattle.xfs_base.proofs.Booleans.{by_test, contrary, not_true}
use Rattle.std.proofs.lemmas.Bool.{eqb-false, eqb-true}

-- an image stands for one state
abbrev pub OneState : Type 0
OneState = (s t : DiskState) (image : List ℕ) → StandsFor s image → StandsFor t image → s ≡ t

-- an empty disk stands for the new state alone
pub opened_new : OneState → (s : DiskState) (m : MemState) → m.drive ≡ new_drive → StandsFor s (disk_bytes m) → s ≡ new_state
opened_new one s m new stands =
    one s new_state (images new_drive.deeds).read (subst (λ (d : Drive). StandsFor s (images d.deeds).read) new stands) (Blank (omega arith) refl)

-- what is answered is there
pub there_too : (p : Option ℕ) → is_answered p ≡ true → is_there p ≡ true
there_too None met = refl
there_too (Some n) met = enough n met
  where
    enough : (m : ℕ) → nat_le 4 m ≡ true → nat_le 2 m ≡ true
    enough m e = grind (arith, nat_tests)

pub state_armed : (shelf : Kept MemState) (passes : Option ℕ) → (arm shelf passes).state ≡ shelf.state
state_armed shelf None = refl
state_armed shelf (Some n) = refl

passes_armed : (shelf : Kept MemState) (passes : Option ℕ) → shelf.disk.drive.passes ≡ None → (arm shelf passes).disk.drive.passes ≡ passes
passes_armed shelf None waits = waits
passes_armed shelf (Some n) waits = refl

stopped_armed : (shelf : Kept MemState) (passes : Option ℕ) → (arm shelf passes).disk.drive.stopped ≡ shelf.disk.drive.stopped
stopped_armed shelf None = refl
stopped_armed shelf (Some n) = refl

module _ (law : ChangesEndByPasses) (shelf : Kept MemState) (passes : Option ℕ) (runs : Runs shelf) (t : DiskState) (r : Record) where
  -- a change that is made and answered is there
  pub made_there : (mid : Kept MemState) → t ≢ shelf.state → mid.state ≡ t
      → (mid ≡ arm shelf passes) ⊎ MemTook (arm shelf passes).disk (arm shelf passes).state t r true mid.disk
      → mid.state ≡ cond (is_there passes) t shelf.state
  made_there mid other made (inl same) = absurd (other (sym made ∙ ap (λ (k : Kept MemState). k.state) same ∙ state_armed shelf passes))
  made_there mid other made (inr took) =
      let ends = law (arm shelf passes).disk (arm shelf passes).state t r true mid.disk (stopped_armed shelf passes ∙ runs.runs) took in
      let met : is_answered passes ≡ true = sym (ends.answered ∙ ap is_answered (passes_armed shelf passes runs.waits)) in
      made ∙ ap (λ (b : Bool). cond b t shelf.state) (sym (there_too passes met))

  -- one that a stop cut stands or not, as so many passed
  pub cut_stands : OneState → (mid : MemState) → MemTook (arm shelf passes).disk (arm shelf passes).state t r false mid
      → (u : DiskState) → StandsFor u (disk_bytes mid) → u ≡ cond (is_there passes) t shelf.state
  cut_stands one mid took u stands =
      let ends = law (arm shelf passes).disk (arm shelf passes).state t r false mid (stopped_armed shelf passes ∙ runs.runs) took in
      let cut : StandsFor (cond (is_there passes) t shelf.state) (disk_bytes mid) =
      subst (λ (s : DiskState). StandsFor (cond (is_there passes) t s) (disk_bytes mid)) (state_armed shelf passes)
      (subst (λ (p : Option ℕ). StandsFor (cond (is_there p) t (arm shelf passes).state) (disk_bytes mid)) (passes_armed shelf passes runs.waits)
      (ends.cut refl)) in
      one u (cond (is_there passes) t shelf.state) (disk_bytes mid) stands cut

-- ---- the same, of a shelf that is equal to the armed one

drive_armed : (shelf : Kept MemState) (passes : Option ℕ) → (arm shelf passes).disk.drive ≡ to_stop passes shelf.disk.drive
drive_armed shelf None = refl
drive_armed shelf (Some n) = refl

-- a disk that stopped runs again as it is opened, and another as it is started
run_again : (d e : Drive) (ok : Bool) → e ≡ d → ok ≡ not e.stopped → cond ok (started e) (reopened e) ≡ runs_again d
run_again d e true same answered = sym (ap (λ (b : Bool). cond b (reopened e) (started e)) (not_true e.stopped (sym answered))) ∙ ap runs_again same
run_again d e false same answered = sym (ap (λ (b : Bool). cond b (reopened e) (started e)) (not_false e.stopped (sym answered))) ∙ ap runs_again same
  where
    not_false : (b : Bool) → not b ≡ false → b ≡ true
    not_false true met = refl
    not_false false met = contrary (sym met)

module _ (law : ChangesEndByPasses) (shelf : Kept MemState) (passes : Option ℕ) (runs : Runs shelf) (ask : Ask) (set : Kept MemState)
    (is : set ≡ arm shelf passes) where
  asked_armed : after_ask (arm shelf passes).state ask ≡ after_ask shelf.state ask
  asked_armed = ap (λ (s : DiskState). after_ask s ask) (state_armed shelf passes)

  abbrev said : Record
  said = record_of set.state.shelf ask

  took_armed : (ok : Bool) (mid : MemState) → MemTook set.disk set.state (after_ask set.state ask) said ok mid
      → MemTook (arm shelf passes).disk (arm shelf passes).state (after_ask shelf.state ask) said ok mid
  took_armed ok mid took =
      subst (λ (t : DiskState). MemTook (arm shelf passes).disk (arm shelf passes).state t said ok mid) asked_armed
      (subst (λ (k : Kept MemState). MemTook k.disk k.state (after_ask k.state ask) said ok mid) is took)

  -- the disk then, which is let run again
  ran_set : (ok : Bool) (mid : MemState) → MemTook set.disk set.state (after_ask set.state ask) said ok mid
      → cond ok (started mid.drive) (reopened mid.drive) ≡ (changed passes ask (on_disk shelf)).drive
  ran_set ok mid took =
      let ends = law (arm shelf passes).disk (arm shelf passes).state (after_ask shelf.state ask) said ok mid (stopped_armed shelf passes ∙ runs.runs)
      (took_armed ok mid took) in
      run_again (with_record (record_of shelf.state.shelf ask) (to_stop passes shelf.disk.drive)) mid.drive ok
      (ends.drive ∙ ap (with_record said) (drive_armed shelf passes)
      ∙ ap (λ (s : DiskState). with_record (record_of s.shelf ask) (to_stop passes shelf.disk.drive))
      (ap (λ (k : Kept MemState). k.state) is ∙ state_armed shelf passes))
      ends.runs

  pub made_set : (mid after : Kept MemState) → after_ask shelf.state ask ≢ shelf.state → mid.state ≡ after_ask set.state ask
      → (mid ≡ set) ⊎ MemTook set.disk set.state (after_ask set.state ask) said true mid.disk → after.disk.drive ≡ started mid.disk.drive
      → after.state ≡ mid.state → on_disk after ≡ changed passes ask (on_disk shelf)
  made_set mid after other made either drive state =
      let met : mid.state ≡ after_ask shelf.state ask = made ∙ ap (λ (k : Kept MemState). after_ask k.state ask) is ∙ asked_armed in
      let same =
      state
      ∙ made_there law shelf passes runs (after_ask shelf.state ask) said mid other met (⊎_elim (λ same. inl (same ∙ is)) (λ took. inr (took_armed true mid.disk took)) either)
      in
      let ran : started mid.disk.drive ≡ (changed passes ask (on_disk shelf)).drive =
      ⊎_elim
      (λ same. absurd (other (sym met ∙ ap (λ (k : Kept MemState). k.state) (same ∙ is) ∙ state_armed shelf passes)))
      (ran_set true mid.disk) either
      in
      λ i. record { drive = (drive ∙ ran) i; state = same i }

  pub cut_set : OneState → (mid : MemState) → MemTook set.disk set.state (after_ask set.state ask) said false mid → (after : Kept MemState)
      → StandsFor after.state (disk_bytes mid) → after.disk.drive ≡ reopened mid.drive → on_disk after ≡ changed passes ask (on_disk shelf)
  cut_set one mid took after stands drive =
      let same = cut_stands law shelf passes runs (after_ask shelf.state ask) said one mid (took_armed false mid took) after.state stands in
      λ i. record { drive = (drive ∙ ran_set false mid took) i; state = same i }

-- ---- a Welcome

module _ (law : ChangesEndByPasses) (shelf : Kept MemState) (runs : Runs shelf) (generation : ℕ) where
  abbrev call : Ask
  call = asks.Welcome generation

  -- a disk that runs is the same as it is started
  started_runs : (d : Drive) → d.stopped ≡ false → d.passes ≡ None → started d ≡ d
  started_runs d r w = λ i. record { deeds = d.deeds; passes = sym w i; stopped = sym r i; faults = d.faults }

  pub welcome_set : (mid after : Kept MemState) → mid.state ≡ after_ask shelf.state call → (shelf.state.welcomed ≡ generation → mid ≡ shelf)
      → (mid ≡ shelf) ⊎ MemTook shelf.disk shelf.state (after_ask shelf.state call) (record_of shelf.state.shelf call) true mid.disk
      → after.disk.drive ≡ started mid.disk.drive → after.state ≡ mid.state → on_disk after ≡ welcomed generation (on_disk shelf)
  welcome_set mid after made idle either drive state = by (shelf.state.welcomed == generation) refl
    where
      by : (t : Bool) → (shelf.state.welcomed == generation) ≡ t → on_disk after ≡ cond t (on_disk shelf) (changed None call (on_disk shelf))
      by true had =
          let same : mid ≡ shelf = idle (eqb-true shelf.state.welcomed generation had) in
          λ i. record {
            drive = (drive ∙ ap (λ (k : Kept MemState). started k.disk.drive) same ∙ started_runs shelf.disk.drive runs.runs runs.waits) i;
            state = (state ∙ ap (λ (k : Kept MemState). k.state) same) i;
          }
      by false had =
          made_set law shelf None runs call shelf refl mid after
          (λ same. eqb-false shelf.state.welcomed generation had (sym (ap (λ (s : DiskState). s.welcomed) same))) made either drive state

-- ---- by the fate of the event

shelf_is : (s : DiskState) (call : Ask) → (after_ask s call).shelf ≡ shelf_after s.shelf call
shelf_is s (asks.Store fragment generation) = refl
shelf_is s (asks.Fence log pass) = refl
shelf_is s (asks.Delete name) = refl
shelf_is s (asks.Fill fragment) = refl
shelf_is s asks.Lose = refl
shelf_is s (asks.Welcome generation) = refl

there_by : (answered there : Bool) → (answered ≡ true → there ≡ true) → fate_by answered there ≢ Lost → there ≡ true
there_by true there so counts = so refl
there_by false true so counts = refl
there_by false false so counts = absurd (counts refl)

abbrev is_counted : Fate → Type 0
is_counted Answered = Unit {0}
is_counted Unanswered = Unit {0}
is_counted Lost = ⊥

gone_by : (answered there : Bool) → fate_by answered there ≡ Lost → there ≡ false
gone_by true there e = absurd (subst is_counted e tt)
gone_by false true e = absurd (subst is_counted e tt)
gone_by false false e = refl

-- two facts of what succeeded
pub both_ok : {T E : Type 0} (P Q : Type 0) (r : Result T E) → OnOk r P → OnOk r Q → OnOk r (P × Q)
both_ok P Q (Ok x) p q = (p, q)
both_ok P Q (Err e) p q = tt

pub took_call : (stop : Stop) (what : Do) (call : Ask) (before after : Kept MemState) → Runs after
    → on_disk after ≡ changed (passes_for stop call) call (on_disk before) → Took stop what (Some call) before after
took_call stop what call before after runs disk =
    let p : Option ℕ = passes_for stop call in
    let state : after.state ≡ cond (is_there p) (after_ask before.state call) before.state = ap (λ (k : OnDisk). k.state) disk in
    record {
      runs = runs;
      disk = disk;
      there = λ counts.
          ap (λ (s : DiskState). s.shelf) (state ∙ ap (λ (b : Bool). cond b (after_ask before.state call) before.state)
          (there_by (is_answered p) (is_there p) (there_too p) counts)) ∙ shelf_is before.state call;
      lost = λ e.
          ap (λ (s : DiskState). s.shelf) (state ∙ ap (λ (b : Bool). cond b (after_ask before.state call) before.state) (gone_by (is_answered p) (is_there p) e));
    }

-- a Welcome changes no shelf
welcomed_shelf : (generation : ℕ) (k : OnDisk) → (welcomed generation k).state.shelf ≡ k.state.shelf
welcomed_shelf generation k =
    by_test (λ (x : OnDisk). x.state.shelf ≡ k.state.shelf) (k.state.welcomed == generation) k (changed None (asks.Welcome generation) k) (λ t. refl) (λ t. refl)

welcomed_same : (o : Option ℕ) (k : OnDisk) → (welcomed_by o k).state.shelf ≡ k.state.shelf
welcomed_same None k = refl
welcomed_same (Some generation) k =
    by_test (λ (x : OnDisk). x.state.shelf ≡ k.state.shelf) (nat_lt 1 generation && (generation == k.state.shelf.generation)) (welcomed generation k) k
    (λ t. welcomed_shelf generation k) (λ t. refl)

pub took_none : (stop : Stop) (what : Do) (before after : Kept MemState) → Runs after
    → on_disk after ≡ welcomed_by (welcome_of what) (on_disk before) → Took stop what None before after
took_none stop what before after runs disk =
    let same : after.state.shelf ≡ before.state.shelf = ap (λ (k : OnDisk). k.state.shelf) disk ∙ welcomed_same (welcome_of what) (on_disk before) in
    record { runs = runs; disk = disk; there = λ counts. same; lost = λ e. same }
