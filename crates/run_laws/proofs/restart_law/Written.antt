-- The span of a restart begins with a boot: the one that the owner is in, until it writes its opening segment; from then on that of the first boot that wrote
-- since the owner served last.
use Rattle.std.proofs.Common.{◌≡◌, Bool, ℕ, ◌≤◌, true, false, refl, sym, ap, ◌∙◌, arith, if◌then◌else◌}
use Rattle.log_law.specs.Events.{Happens, Runs}
use Rattle.log_law.specs.Events.Runs.{Begun, On}
use Rattle.log_law.specs.Net.{Net, Owner}
use Rattle.log_law.specs.Net.Owner.{Down, Opening, Serving, Writing}
use Rattle.log_law.specs.Restarts.{LackedInSpan, in_span, is_down, is_serving, is_writing, spans, writes_since, wrote_in}
use Rattle.log_law.specs.Tails.{then_on}
use Rattle.log_tie.specs.Setting.{Setting}
use Rattle.node_logs.proofs.client_log_tie.Straight.{boot_stays}
use Rattle.node_logs.specs.client_log_tie.ClientEvents.{IsOnce, NeverHasLog, NeverServes, has_log, has_picked}
use Rattle.xfs_base.proofs.Booleans.{contrary}
use Rattle.xfs_base.specs.declared.segment.SegName.{SegName}
use Rattle.run_laws.proofs.restart_law.Progress.{boot_rises, stage_serving, stage_writing}

-- the boot that the span begins with
abbrev pub span_boot : {g : Setting} {n o : Net} → Runs g n o → ℕ
span_boot (Begun {n = n}) = n.inc
span_boot (On {o = o} run happens) = if wrote_in run then span_boot run else o.inc

pub at_most : (a b c : ℕ) → a ≤ b → b ≤ c → a ≤ c
at_most a b c x y = omega arith

-- ---- owners

-- one that serves is in no span
pub no_span : (g : Setting) (a n : Net) (run : Runs g a n) → is_serving n.owner ≡ true → in_span run ≡ true → ⊥
no_span g a n Begun serves spanning = contrary spanning
no_span g a n (On run happens) serves spanning = contrary (sym (ended n.owner (wrote_in run) serves) ∙ spanning)
  where
    ended : (x : Owner) (t : Bool) → is_serving x ≡ true → spans x t ≡ false
    ended Down t fact = contrary fact
    ended (Opening s) t fact = contrary fact
    ended (Writing chain s) t fact = contrary fact
    ended (Serving s) t fact = refl

-- nor has it written since
pub serving_wrote : (g : Setting) (a n : Net) (run : Runs g a n) → is_serving n.owner ≡ true → wrote_in run ≡ false
serving_wrote g a n Begun serves = refl
serving_wrote g a n (On run happens) serves = ended n.owner (wrote_in run) serves
  where
    ended : (x : Owner) (t : Bool) → is_serving x ≡ true → writes_since x t ≡ false
    ended Down t fact = contrary fact
    ended (Opening s) t fact = contrary fact
    ended (Writing chain s) t fact = contrary fact
    ended (Serving s) t fact = refl

-- one that writes its opening segment has
pub writing_wrote : (g : Setting) (a n : Net) (run : Runs g a n) → is_serving a.owner ≡ true → is_writing n.owner ≡ true → wrote_in run ≡ true
writing_wrote g a n Begun serves writes = absurd (let b = stage_serving a.owner serves in let c = stage_writing a.owner writes in omega arith)
writing_wrote g a n (On run happens) serves writes = now n.owner (wrote_in run) writes
  where
    now : (x : Owner) (t : Bool) → is_writing x ≡ true → writes_since x t ≡ true
    now Down t fact = contrary fact
    now (Opening s) t fact = contrary fact
    now (Writing chain s) t fact = refl
    now (Serving s) t fact = contrary fact

-- and it has picked where its log goes on
pub writing_picked : (x : Owner) → is_writing x ≡ true → has_picked x ≡ true
writing_picked Down fact = contrary fact
writing_picked (Opening s) fact = contrary fact
writing_picked (Writing chain s) fact = refl
writing_picked (Serving s) fact = contrary fact

-- one with its log that doesn't serve writes its opening segment
pub log_writes : (x : Owner) → is_serving x ≡ false → has_log x ≡ true → is_writing x ≡ true
log_writes Down none fact = contrary fact
log_writes (Opening s) none fact = contrary fact
log_writes (Writing chain s) none fact = refl
log_writes (Serving s) none fact = contrary (sym none)

-- ---- one event

-- the span begins with no later boot than the owner's
pub span_boot_past : (g : Setting) (n o : Net) (run : Runs g n o) → span_boot run ≤ o.inc
span_boot_past g n o Begun = omega arith
span_boot_past g n o (On {m = m} run happens) = by (wrote_in run) (span_boot_past g n m run)
  where
    by : (t : Bool) → span_boot run ≤ m.inc → (if t then span_boot run else o.inc) ≤ o.inc
    by true before = at_most (span_boot run) m.inc o.inc before (boot_rises g m o (On Begun happens))
    by false before = omega arith

-- in a span in which nothing was written the owner opens its log, in the boot that the span begins with
opens_there : (g : Setting) (a n : Net) (run : Runs g a n) → in_span run ≡ true → wrote_in run ≡ false
    → (is_down n.owner ≡ false) × (n.inc ≤ span_boot run)
opens_there g a n Begun spanning none = contrary spanning
opens_there g a n (On run happens) spanning none = by n.owner (wrote_in run) spanning none
  where
    by : (x : Owner) (t : Bool) → spans x t ≡ true → writes_since x t ≡ false → (is_down x ≡ false) × (n.inc ≤ (if t then span_boot run else n.inc))
    by Down t spanning none = contrary (sym none ∙ spanning)
    by (Opening s) true spanning none = contrary (sym none)
    by (Opening s) false spanning none = (refl, omega arith)
    by (Writing chain s) t spanning none = contrary (sym none)
    by (Serving s) t spanning none = contrary spanning

-- while a span goes on, the boot that it begins with stays
pub span_boot_stays : (g : Setting) (a n o : Net) (run : Runs g a n) (happens : Happens g n o) → in_span run ≡ true → span_boot (On run happens) ≤ span_boot run
span_boot_stays g a n o run happens spanning = by (wrote_in run) refl
  where
    by : (t : Bool) → wrote_in run ≡ t → (if t then span_boot run else o.inc) ≤ span_boot run
    by true fact = omega arith
    by false none =
        let there = opens_there g a n run spanning none in
        at_most o.inc n.inc (span_boot run) (let e = boot_stays g n o happens there.0 in omega arith) there.1

-- what is lacked in a span is lacked while it stands
pub lacked_spans : (g : Setting) (a n : Net) (run : Runs g a n) (name : SegName) (v : ℕ) → LackedInSpan run name v → in_span run ≡ true
lacked_spans g a n Begun name v h = absurd h
lacked_spans g a n (On run happens) name v h = h.0

-- ---- a run

-- while the owner doesn't serve, what it wrote stays written, and the span begins where it began
pub wrote_on : (g : Setting) (a n o : Net) (run : Runs g a n) (more : Runs g n o) → NeverServes more → wrote_in run ≡ true
    → (wrote_in (then_on run more) ≡ true) × (span_boot (then_on run more) ≡ span_boot run)
wrote_on g a n o run Begun never wrote = (wrote, refl)
wrote_on g a n o run (On {m = m} more happens) never wrote =
    let before = wrote_on g a n m run more never.1 wrote in (
      still o.owner (wrote_in (then_on run more)) never.0 before.0,
      ap (λ t. if t then span_boot (then_on run more) else o.inc) before.0 ∙ before.1,
    )
  where
    still : (x : Owner) (t : Bool) → is_serving x ≡ false → t ≡ true → writes_since x t ≡ true
    still Down t none wrote = wrote
    still (Opening s) t none wrote = wrote
    still (Writing chain s) t none wrote = refl
    still (Serving s) t none wrote = contrary (sym none)

-- while it neither writes nor serves, nothing is written
pub none_wrote_on : (g : Setting) (a n o : Net) (run : Runs g a n) (more : Runs g n o) → NeverHasLog more → wrote_in run ≡ false
    → wrote_in (then_on run more) ≡ false
none_wrote_on g a n o run Begun never none = none
none_wrote_on g a n o run (On {m = m} more happens) never none =
    still o.owner (wrote_in (then_on run more)) never.0 (none_wrote_on g a n m run more never.1 none)
  where
    still : (x : Owner) (t : Bool) → has_log x ≡ false → t ≡ false → writes_since x t ≡ false
    still Down t without none = none
    still (Opening s) t without none = none
    still (Writing chain s) t without none = contrary (sym without)
    still (Serving s) t without none = refl

-- where it is written by one thing that happens, the span begins with the boot that writes
pub wrote_once : (g : Setting) (a n o : Net) (run : Runs g a n) (more : Runs g n o) → IsOnce more → wrote_in run ≡ false → wrote_in (then_on run more) ≡ true
    → o.inc ≤ span_boot (then_on run more)
wrote_once g a n o run Begun once none wrote = contrary (sym none ∙ wrote)
wrote_once g a n o run (On Begun happens) once none wrote = by (wrote_in run) none
  where
    by : (t : Bool) → t ≡ false → o.inc ≤ (if t then span_boot run else o.inc)
    by true fact = contrary (sym fact)
    by false fact = omega arith
wrote_once g a n o run (On (On more before) happens) once none wrote = absurd once
