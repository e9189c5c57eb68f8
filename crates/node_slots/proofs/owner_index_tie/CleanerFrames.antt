-- What the cleaner does step by step, in the small world: things that happen there, what it is told, and how steps follow one another.
use Rattle.headline.specs.Filed.{Filed, Texts}
use Rattle.std.proofs.Common.{◌≡◌, ◌≤◌, ◌<◌, ℕ, suc, List, [], ◌∷◌, ◌++◌, Option, Some, None, refl, sym, ap, subst, ◌∙◌, arith}
use Rattle.std.specs.List.{AllByRecursion}
use Rattle.cleaner_serving.specs.declared.emptying.Emptying.{Emptying}
use Rattle.cleaner_job.specs.declared.job.Job.{Job}
use Rattle.client_log.specs.LogState.{LogState}
use Rattle.delta_feed.specs.FeedState.{FeedState}
use Rattle.index_tie.specs.Cleaning.{IsWithin}
use Rattle.index_tie.specs.Growth.{IsMore, with_segment}
use Rattle.index_tie.specs.Net.Happens.{CleanerFiles}
use Rattle.index_tie.proofs.Growth.{row_stays, more_is_filed}
use Rattle.stripe_cleaner.specs.CleaningState.{CleaningState}
use Rattle.stripe_cleaner.specs.Job.{same_name}
use Rattle.stripe_cleaner.specs.Promises.{promised_at}
use Rattle.log_owner.specs.Promised.{epoch_of}
use Rattle.xfs_base.specs.declared.entry.Entry.{Entry}
use Rattle.index_tie.specs.Net.{Net, Packet, Runs}
use Rattle.index_tie.specs.Net.Runs.{Begun, On}
use Rattle.headline.specs.Indexes.{of_log}
use Rattle.log_owner.specs.declared.promised.Promised.{Promised}
use Rattle.log_protocol.specs.Tables.{In}
use Rattle.node_base.specs.declared.effects.Effect.{Effect}
use Rattle.node_base.specs.declared.effects.Effect.TheVariants.{Send, Answer as Answers, Lose, Does}
use Rattle.node_slots.specs.node_index_tie.Sight.{Questions, held_in, CheckKnown}
use Rattle.node_slots.proofs.node_index_tie.Moves.{runs_through}
use Rattle.segment_format.specs.declared.segment.Segment.{Segment}
use Rattle.version_model.specs.declared.act.Act.{Act}
use Rattle.version_model.specs.declared.act.Act.TheVariants.{Filed as ActsFiled, Dropped}
use Rattle.wire_msg.specs.declared.body.Body.{Body}
use Rattle.wire_msg.specs.declared.body.Body.TheVariants as body
use Rattle.wire_msg.specs.declared.cleaning.Check.{Check}
use Rattle.xfs_base.specs.Steps.{Stepped, saying, steps}
use Rattle.xfs_base.specs.declared.segment.SegName.{SegName}
use Rattle.xfs_base.proofs.Alls.{all_append, all_weaker}
use Rattle.node_moves.proofs.client_walk.Frames.{all_before, all_behind}
use Rattle.node_slots.specs.owner_index_tie.CleanerEvents.{JobAgrees, EmptyingSeen, IsMoved, MayAsk, SaysOwed, EffectOwed, CleanerSays, CleanerActs, CleanerDoes}
use Rattle.node_slots.specs.owner_index_tie.Acting.{ActSo, AllSo, EffectSo}
use Rattle.node_slots.specs.owner_index_tie.Filing.{IsSameLog, filing, after_act, after_effect, filed_after, FilesNext, FilesOwed}
use Rattle.node_slots.proofs.owner_index_tie.Feeds.{same_owner}
use Rattle.node_slots.proofs.owner_index_tie.Growing.{next_files}
use Rattle.node_slots.proofs.owner_index_tie.Frames.{says_on, more_itself, more_then, after_both, owed_before, owed_behind, AllMay, IsNamed, owed_named}

-- ---- the small world goes on

pub record Grows (n m : Net) : Type 0 where
  pub slots : m.slots ≡ n.slots
  pub epoch : m.epoch ≡ n.epoch
  pub horizon : m.horizon ≡ n.horizon
  pub parts : m.parts ≡ n.parts
  pub promised : n.promised ≤ m.promised
  pub filed : IsMore n.filed m.filed
  pub sent : (x : Packet) → In x n.sent → In x m.sent
  pub deleted : (name : SegName) → In name n.deleted → In name m.deleted

pub grows_itself : (n : Net) → Grows n n
grows_itself n = record {
  slots = refl;
  epoch = refl;
  horizon = refl;
  parts = refl;
  promised = let p = n.promised in omega arith;
  filed = more_itself n.filed;
  sent = λ x fact. fact;
  deleted = λ name fact. fact;
}

pub grows_then : (n m o : Net) → Grows n m → Grows m o → Grows n o
grows_then n m o g h = record {
  slots = h.slots ∙ g.slots;
  epoch = h.epoch ∙ g.epoch;
  horizon = h.horizon ∙ g.horizon;
  parts = h.parts ∙ g.parts;
  promised = let a = g.promised in let b = h.promised in omega arith;
  filed = more_then n.filed m.filed o.filed g.filed h.filed;
  sent = λ x fact. h.sent x (g.sent x fact);
  deleted = λ name fact. h.deleted name (g.deleted name fact);
}

-- more was asked
abbrev pub Asked_more : Questions → Questions → Type 0
Asked_more asked more = (x : ℕ × ℕ × SegName) → In x asked → In x more

module _ (part since : ℕ) (asked more : Questions) (kept : Asked_more asked more) (n m : Net) (g : Grows n m) where
  check_on : (c : Check) → CheckKnown part asked n c → CheckKnown part more m c
  check_on c k = record { number = k.number; below = k.below; sent = g.sent _ k.sent; question = kept _ k.question }

  says_later : (b : Body) → CleanerSays part asked n since b → CleanerSays part more m since b
  says_later (body.Report r) h = (says_on part n m 9 since g.filed g.horizon (body.Report r) h.0, λ inside. g.sent _ (h.1 inside))
  says_later (body.Check c) h = λ inside. check_on c (h inside)
  says_later (body.Delete d) h = g.deleted d.name h
  says_later (body.Deltas d) h = says_on part n m 9 since g.filed g.horizon (body.Deltas d) h
  says_later (body.Want w) h = says_on part n m 9 since g.filed g.horizon (body.Want w) h
  says_later (body.Gave w) h = says_on part n m 9 since g.filed g.horizon (body.Gave w) h
  says_later _ h = h

  acts_later : (a : Act) → CleanerActs part asked n since a → CleanerActs part more m since a
  acts_later (Dropped name) h = g.deleted name h
  acts_later _ h = h

  pub does_later : (e : Effect) → CleanerDoes part asked n since e → CleanerDoes part more m since e
  does_later (Send to b) h = says_later b h
  does_later (Answers item answer) h = tt
  does_later (Lose seg) h = tt
  does_later (Does act) h = acts_later act h

-- what may be asked may be asked later
module _ (part : ℕ) (n m : Net) (g : Grows n m) where
  within_on : (name : SegName) → IsWithin n.filed name → IsWithin m.filed name
  within_on name k = record { some = k.some; filed = let a = k.filed in let b = g.filed.head name.log.0 in omega arith }

  may_on : (c : Check) → MayAsk part n c → MayAsk part m c
  may_on c k =
      let name = c.place.seg.name in
      let within = k.within in
      let last = within.filed in
      record {
        epoch = k.epoch;
        promised = let a = k.promised in let b = g.promised in omega arith;
        within = within_on name within;
        below = subst (λ h. name.seq < of_log (h k.epoch) name.log.0) (sym g.horizon) k.below;
        lies = λ fact. ap (λ (e : Entry). e.place) (row_stays c.block n.filed m.filed name.log.0 name.seq g.filed last)
            ∙ k.lies (ap (λ (s : Segment). same_name name s.name) (sym (g.filed.segment name.log.0 name.seq within.some last)) ∙ fact);
      }

  sends_later : (b : Body) → SaysOwed part n b → SaysOwed part m b
  sends_later (body.Check c) h = λ inside. may_on c (h inside)
  sends_later _ h = h

  owed_later : (e : Effect) → EffectOwed part n e → EffectOwed part m e
  owed_later (Send to b) h = sends_later b h
  owed_later _ h = tt

  pub all_owed_later : (es : List Effect) → AllByRecursion (EffectOwed part n) es → AllByRecursion (EffectOwed part m) es
  all_owed_later es all = all_weaker (EffectOwed part n) (EffectOwed part m) owed_later es all

-- ---- steps

-- a job that is the small world's is so while that has it
pub same_job : (part : ℕ) (n m : Net) (epoch : ℕ) (o : Option Job) → m.job ≡ n.job → JobAgrees part n epoch o → JobAgrees part m epoch o
same_job part n m epoch None same k = ap (λ (x : CleaningState). promised_at x.promised part) same ∙ k
same_job part n m epoch (Some job) same k = record { same_job = same ∙ k.same_job; eight = k.eight; told = k.told }

module _ (New : Filed → Segment → Type 0) (part : ℕ) (texts : Texts) (since : ℕ) (answered : List Packet) where
  -- the cleaner stands so; no less is filed, and no less was answered, than from the start on
  pub record Stands (n : Net) (log : LogState) (feed : FeedState) (promised : Promised) (job : Option Job) : Type 0 where
    pub late : since ≤ n.filed.head 9
    pub heard : (x : Packet) → In x answered → In x n.sent
    pub seen : EmptyingSeen part n log feed promised job

  abbrev pub At : Net → Emptying → Type 0
  At n e = Stands n e.log e.feed e.promised e.job

  -- what others do leaves it standing
  pub moved_on : (n m : Net) (log : LogState) (feed : FeedState) (promised : Promised) (job : Option Job) → IsSameLog 9 n.filed m.filed
      → m.promised ≡ n.promised
      → m.job ≡ n.job → ((x : Packet) → In x n.sent → In x m.sent) → Stands n log feed promised job → Stands m log feed promised job
  moved_on n m log feed promised job same as_promised as_job sent h = record {
    late = let a = h.late in let b = same.head in omega arith;
    heard = λ x fact. sent x (h.heard x fact);
    seen = record {
      owner = same_owner part n m 9 9 log feed same h.seen.owner;
      eight = h.seen.eight;
      promised = as_promised ∙ h.seen.promised;
      job = same_job part n m (epoch_of promised part) job as_job h.seen.job;
    };
  }

  -- what is owed of what is done
  pub record Owed (n : Net) (outs : List Effect) : Type 0 where
    pub files : FilesOwed New texts 9 n.filed outs
    pub asks : AllByRecursion (EffectOwed part n) outs

  -- by things that happen there the small world comes to one where this holds, and what was told is so
  pub record Went (asked : Questions) (n : Net) {S : Type 0} (P : Net → S → Type 0) (s : S) (outs : List Effect) : Type 0 where
    pub next : Net
    pub runs : Runs part (held_in part texts) n next
    pub grows : Grows n next
    pub filed : next.filed ≡ filed_after texts 9 n.filed outs
    pub questions : Questions
    pub kept : Asked_more asked questions
    pub stands : P next s
    pub says : AllByRecursion (CleanerDoes part questions next since) outs

  -- where what is asked may be, and texts that bear their names may be filed, no others are
  abbrev pub NamedOnly : Net → List Effect → Type 0
  NamedOnly n outs = AllByRecursion (EffectOwed part n) outs → AllMay New texts 9 → AllSo (IsNamed texts) outs

  abbrev pub Goes_to : {S : Type 0} → (Net → S → Type 0) → Questions → Net → Stepped S Effect → Type 0
  Goes_to P asked n d = (Owed n d.outs → Went asked n P d.state d.outs) × NamedOnly n d.outs

  abbrev pub Goes : Questions → Net → Stepped Emptying Effect → Type 0
  Goes asked n d = Goes_to At asked n d

  module _ {S T : Type 0} (P : Net → S → Type 0) (Q : Net → T → Type 0) where
    -- one thing follows another
    pub went_through : (asked : Questions) (n : Net) (d : Stepped S Effect) (e : Stepped T Effect) → Goes_to P asked n d
        → ((w : Went asked n P d.state d.outs) → Goes_to Q w.questions w.next e) → Goes_to Q asked n (record { state = e.state; outs = d.outs ++ e.outs })
    went_through asked n d e p k = (λ owed. through owed, λ asks may. named asks may)
      where
        through : Owed n (d.outs ++ e.outs) → Went asked n Q e.state (d.outs ++ e.outs)
        through owed =
            let one = p.0 (record {
              files = owed_before New texts 9 n.filed d.outs e.outs owed.files;
              asks = all_before
                  (EffectOwed part n) d.outs e.outs owed.asks;
            }) in
            let two = (k one).0 (record {
              files = subst (λ f. FilesOwed New texts 9 f e.outs) (sym one.filed)
                  (owed_behind New texts 9 n.filed d.outs e.outs owed.files);
              asks = all_owed_later part n one.next one.grows e.outs (all_behind (EffectOwed part n) d.outs e.outs owed.asks);
            }) in
            record {
              next = two.next;
              runs = runs_through n one.next two.next one.runs two.runs;
              grows = grows_then n one.next two.next one.grows two.grows;
              filed = two.filed ∙ ap (λ f. filed_after texts 9 f e.outs) one.filed ∙ sym (after_both texts 9 n.filed d.outs e.outs);
              questions = two.questions;
              kept = λ x fact. two.kept x (one.kept x fact);
              stands = two.stands;
              says = all_append (CleanerDoes part two.questions two.next since) d.outs e.outs
                  (all_weaker (CleanerDoes part one.questions one.next since) (CleanerDoes part two.questions two.next since)
                  (does_later part since one.questions two.questions two.kept one.next two.next two.grows) d.outs one.says)
                  two.says;
            }

        named : NamedOnly n (d.outs ++ e.outs)
        named asks may =
            let first = all_before (EffectOwed part n) d.outs e.outs asks in
            let these = p.1 first may in
            let one = p.0 (record { files = owed_named New texts 9 may n.filed d.outs these; asks = first }) in
            all_append (EffectSo (IsNamed texts)) d.outs e.outs these
            ((k one).1 (all_owed_later part n one.next one.grows e.outs (all_behind (EffectOwed part n) d.outs e.outs asks)) may)

  pub went_on : (asked : Questions) (n : Net) (d e : Stepped Emptying Effect) → Goes asked n d
      → ((w : Went asked n At d.state d.outs) → Goes w.questions w.next e) → Goes asked n (saying d.outs e)
  went_on asked n d e p k = went_through At At asked n d e p k

  pub went_steps : {A : Type 0} (step : Emptying → A → Stepped Emptying Effect)
      → ((asked : Questions) (n : Net) (e : Emptying) (x : A) → At n e → Goes asked n (step e x))
      → (asked : Questions) (n : Net) (e : Emptying) (xs : List A) → At n e → Goes asked n (steps step e xs)
  went_steps step one asked n e [] h = (
    λ owed. record {
      next = n;
      runs = Begun;
      grows = grows_itself n;
      filed = refl;
      questions = asked;
      kept = λ x fact. fact;
      stands = h;
      says = tt;
    },
    λ asks may. tt,
  )
  went_steps step one asked n e (x ∷ xs) h =
      went_on asked n (step e x) (steps step (step e x).state xs) (one asked n e x h) (λ w. went_steps step one w.questions w.next (step e x).state xs w.stands)

  -- ---- steps that file nothing

  module _ (asked : Questions) (n : Net) where
    abbrev pub Quiets : Act → Type 0
    Quiets (ActsFiled name) = ⊥
    Quiets (Dropped name) = In name n.deleted
    Quiets _ = Unit {0}

    abbrev pub Plain : Effect → Type 0
    Plain (Send to b) = CleanerSays part asked n since b
    Plain (Answers item answer) = Unit {0}
    Plain (Lose seg) = Unit {0}
    Plain (Does act) = Quiets act

    abbrev pub AllPlain : List Effect → Type 0
    AllPlain outs = AllByRecursion Plain outs

    act_files : (a : Act) → Quiets a → after_act texts 9 n.filed a ≡ n.filed
    act_files (ActsFiled name) h = absurd h
    act_files _ h = refl

    effect_files : (e : Effect) → Plain e → after_effect texts 9 n.filed e ≡ n.filed
    effect_files (Does act) h = act_files act h
    effect_files _ h = refl

    pub plain_files : (es : List Effect) → AllPlain es → filed_after texts 9 n.filed es ≡ n.filed
    plain_files [] all = refl
    plain_files (e ∷ es) all = ap (λ f. filed_after texts 9 f es) (effect_files e all.0) ∙ plain_files es all.1

    plain_acts : (a : Act) → Quiets a → CleanerActs part asked n since a
    plain_acts (ActsFiled name) h = absurd h
    plain_acts (Dropped name) h = h
    plain_acts _ h = h

    plain_does : (e : Effect) → Plain e → CleanerDoes part asked n since e
    plain_does (Send to b) h = h
    plain_does (Answers item answer) h = tt
    plain_does (Lose seg) h = tt
    plain_does (Does act) h = plain_acts act h

    act_named : (a : Act) → Quiets a → ActSo (IsNamed texts) a
    act_named (ActsFiled name) h = absurd h
    act_named _ h = tt

    effect_named : (e : Effect) → Plain e → EffectSo (IsNamed texts) e
    effect_named (Does act) h = act_named act h
    effect_named _ h = tt

    plain_named : (outs : List Effect) → AllPlain outs → AllSo (IsNamed texts) outs
    plain_named outs all = all_weaker Plain (EffectSo (IsNamed texts)) effect_named outs all

    pub went_quiet : {S : Type 0} (P : Net → S → Type 0) (s : S) (outs : List Effect) → P n s → AllPlain outs
        → Goes_to P asked n (record { state = s; outs = outs })
    went_quiet P s outs h all = (
      λ owed. record {
        next = n;
        runs = Begun;
        grows = grows_itself n;
        filed = sym (plain_files outs all);
        questions = asked;
        kept = λ x fact. fact;
        stands = h;
        says = all_weaker Plain (CleanerDoes part asked n since) plain_does outs all;
      },
      λ asks may. plain_named outs all,
    )

  pub quiet : (asked : Questions) (n : Net) (e : Emptying) (outs : List Effect) → At n e → AllPlain asked n outs
      → Goes asked n (record { state = e; outs = outs })
  quiet asked n e outs h all = went_quiet asked n At e outs h all

  -- what files nothing is told before
  pub went_behind : (asked : Questions) (n : Net) (outs : List Effect) (d : Stepped Emptying Effect) → AllPlain asked n outs → Goes asked n d
      → Goes asked n (saying outs d)
  went_behind asked n outs d all p = (
    λ owed. behind owed,
    λ asks may. all_append (EffectSo (IsNamed texts)) outs d.outs (plain_named asked n outs all) (p.1 (all_behind (EffectOwed part n) outs d.outs asks) may),
  )
    where
      behind : Owed n (outs ++ d.outs) → Went asked n At d.state (outs ++ d.outs)
      behind owed =
          let same = plain_files asked n outs all in
          let w = p.0 (record {
            files = subst (λ f. FilesOwed New texts 9 f d.outs) same
                (owed_behind New texts 9 n.filed outs d.outs owed.files);
            asks = all_behind (EffectOwed part n) outs d.outs owed.asks;
          }) in
          record {
            next = w.next;
            runs = w.runs;
            grows = w.grows;
            filed = w.filed ∙ ap (λ f. filed_after texts 9 f d.outs) (sym same) ∙ sym (after_both texts 9 n.filed outs d.outs);
            questions = w.questions;
            kept = w.kept;
            stands = w.stands;
            says = all_append (CleanerDoes part w.questions w.next since) outs d.outs
                (all_weaker (Plain asked n) (CleanerDoes part w.questions w.next since)
                (λ e k. does_later part since asked w.questions w.kept n w.next w.grows e (plain_does asked n e k)) outs all)
                w.says;
          }

  -- ---- things that happen in the small world first

  -- that file nothing
  pub went_after : {S : Type 0} (P : Net → S → Type 0) (asked more : Questions) (n m : Net) (d : Stepped S Effect) → Runs part (held_in part texts) n m
      → Grows n m
      → m.filed ≡ n.filed → Asked_more asked more → Goes_to P more m d → Goes_to P asked n d
  went_after P asked more n m d runs grows same kept p = (λ owed. after_these owed, λ asks may. p.1 (all_owed_later part n m grows d.outs asks) may)
    where
      after_these : Owed n d.outs → Went asked n P d.state d.outs
      after_these owed =
          let w = p.0 (record {
            files = subst (λ f. FilesOwed New texts 9 f d.outs) (sym same) owed.files;
            asks = all_owed_later part n m grows d.outs owed.asks;
          }) in
          record {
            next = w.next;
            runs = runs_through n m w.next runs w.runs;
            grows = grows_then n m w.next grows w.grows;
            filed = w.filed ∙ ap (λ f. filed_after texts 9 f d.outs) same;
            questions = w.questions;
            kept = λ x fact. w.kept x (kept x fact);
            stands = w.stands;
            says = w.says;
          }

  -- the small world, where the log has filed the text of a name
  abbrev pub files_one : Net → SegName → Net
  files_one n name = filing n (with_segment n.filed 9 (texts name))

  grows_filing : (n : Net) (name : SegName) → Grows n (files_one n name)
  grows_filing n name = record {
    slots = refl;
    epoch = refl;
    horizon = refl;
    parts = refl;
    promised = let p = n.promised in omega arith;
    filed = more_is_filed n.filed 9 (texts name);
    sent = λ x fact. fact;
    deleted = λ x fact. fact;
  }

  -- a segment of the log
  pub went_filing : (asked : Questions) (n : Net) (name : SegName) (d : Stepped Emptying Effect) → IsNamed texts name → name.seq ≡ suc (n.filed.head 9)
      → IsMoved part n.sent n.filed (texts name) → (FilesNext New texts 9 n.filed name → Goes asked (files_one n name) d)
      → Goes asked n (saying (Does (ActsFiled name) ∷ []) d)
  went_filing asked n name d named at moved k = (
    λ owed. filing_it owed,
    λ asks may. (named, (k (may n.filed name named at)).1 (all_owed_later part n (files_one n name) (grows_filing n name) d.outs asks.1) may),
  )
    where
      filing_it : Owed n (Does (ActsFiled name) ∷ d.outs) → Went asked n At d.state (Does (ActsFiled name) ∷ d.outs)
      filing_it owed =
          let it = owed.files.0 at in
          let m = files_one n name in
          let same = next_files texts 9 n.filed name at in
          let w = (k it).0 (record {
            files = subst (λ f. FilesOwed New texts 9 f d.outs) same owed.files.1;
            asks = all_owed_later part n m (grows_filing n name) d.outs owed.asks.1;
          }) in
          record {
            next = w.next;
            runs = runs_through n m w.next (On Begun (CleanerFiles (texts name) it.segment moved)) w.runs;
            grows = grows_then n m w.next (grows_filing n name) w.grows;
            filed = w.filed ∙ ap (λ f. filed_after texts 9 f d.outs) (sym same);
            questions = w.questions;
            kept = w.kept;
            stands = w.stands;
            says = (tt, w.says);
          }
