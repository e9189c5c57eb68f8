-- What the cleaner does so that each segment that it tells a server to delete was dropped before, or is dropped in the same event: one thing after the other.
use Rattle.std.proofs.Common.{◌≡◌, ◌⊎◌, ◌++◌, true, List, [], ◌∷◌, Option, None, Some, inl, inr}
use Rattle.std.specs.List.{AllByRecursion}
use Rattle.cleaner_job.specs.declared.hand.Hand.{Hand}
use Rattle.cleaner_job.specs.declared.job.Job.{Job}
use Rattle.cleaner_node.specs.CleanerEvents.{Went_to}
use Rattle.cleaner_node.specs.declared.cleaner.Phase.{Phase}
use Rattle.cleaner_node.specs.declared.cleaner.Phase.TheVariants.{Down, Opening, Serving}
use Rattle.node_base.specs.declared.effects.Effect.{Effect}
use Rattle.node_base.specs.declared.effects.Effect.TheVariants.{Send, Answer as Answers, Lose, Does}
use Rattle.token_protocol.specs.Basics.{In}
use Rattle.version_model.specs.declared.act.Act.{Act}
use Rattle.version_model.specs.declared.act.Act.TheVariants.{Dropped}
use Rattle.wire_msg.specs.declared.body.Body.{Body}
use Rattle.wire_msg.specs.declared.body.Body.TheVariants as body
use Rattle.xfs_base.proofs.Alls.{all_append, all_weaker}
use Rattle.xfs_base.specs.declared.node.NodeId.{NodeId}
use Rattle.xfs_base.specs.declared.segment.SegName.{SegName}
use Rattle.xfs_base.specs.Steps.{saying}
use Rattle.run_drops.proofs.drop_law.Turns.{PhaseSo}

pub in_front : {X : Type 0} (xs ys : List X) (x : X) → In x xs → In x (xs ++ ys)
in_front [] ys x h = absurd h
in_front (y ∷ xs) ys x (inl same) = inl same
in_front (y ∷ xs) ys x (inr later) = inr (in_front xs ys x later)

pub in_back : {X : Type 0} (xs ys : List X) (x : X) → In x ys → In x (xs ++ ys)
in_back [] ys x h = h
in_back (y ∷ xs) ys x h = inr (in_back xs ys x h)

-- which segments were dropped
abbrev pub Acted : Type 1
Acted = SegName → Type 0

-- those, and what is dropped in these effects
abbrev pub Also : Acted → List Effect → Acted
Also acted outs name = acted name ⊎ In (Does (Dropped name)) outs

-- ---- what is told

abbrev pub BodySo : Acted → Body → Type 0
BodySo acted (body.Delete m) = acted m.name
BodySo acted _ = Unit {0}

abbrev pub EffectSo : Acted → Effect → Type 0
EffectSo acted (Send to m) = BodySo acted m
EffectSo acted (Answers item answer) = Unit {0}
EffectSo acted (Lose seg) = Unit {0}
EffectSo acted (Does act) = Unit {0}

-- it is said to a server that it is to delete the segment
pub record IsSaid (outs : List Effect) (name : SegName) : Type 0 where
  pub to : NodeId
  pub among : In (Send to (body.Delete (record { name = name }))) outs

abbrev pub ActSaid : List Effect → Act → Type 0
ActSaid outs (Dropped name) = IsSaid outs name
ActSaid outs _ = Unit {0}

abbrev pub EffectSaid : List Effect → Effect → Type 0
EffectSaid outs (Send to m) = Unit {0}
EffectSaid outs (Answers item answer) = Unit {0}
EffectSaid outs (Lose seg) = Unit {0}
EffectSaid outs (Does act) = ActSaid outs act

-- nothing is deleted or dropped
abbrev pub BodyQuiet : Body → Type 0
BodyQuiet (body.Delete m) = ⊥
BodyQuiet _ = Unit {0}

abbrev pub ActQuiet : Act → Type 0
ActQuiet (Dropped name) = ⊥
ActQuiet _ = Unit {0}

abbrev pub Quiet : Effect → Type 0
Quiet (Send to m) = BodyQuiet m
Quiet (Answers item answer) = Unit {0}
Quiet (Lose seg) = Unit {0}
Quiet (Does act) = ActQuiet act

body_quiet : (acted : Acted) (m : Body) → BodyQuiet m → BodySo acted m
body_quiet acted (body.Delete m) quiet = absurd quiet
body_quiet acted _ quiet = tt

effect_quiet : (acted : Acted) (e : Effect) → Quiet e → EffectSo acted e
effect_quiet acted (Send to m) quiet = body_quiet acted m quiet
effect_quiet acted (Answers item answer) quiet = tt
effect_quiet acted (Lose seg) quiet = tt
effect_quiet acted (Does act) quiet = tt

act_quiet : (outs : List Effect) (act : Act) → ActQuiet act → ActSaid outs act
act_quiet outs (Dropped name) quiet = absurd quiet
act_quiet outs _ quiet = tt

said_quiet : (outs : List Effect) (e : Effect) → Quiet e → EffectSaid outs e
said_quiet outs (Send to m) quiet = tt
said_quiet outs (Answers item answer) quiet = tt
said_quiet outs (Lose seg) quiet = tt
said_quiet outs (Does act) quiet = act_quiet outs act quiet

-- ---- more is dropped, and more is said

pub body_more : (acted more : Acted) → ((name : SegName) → acted name → more name) → (m : Body) → BodySo acted m → BodySo more m
body_more acted more sub (body.Delete m) h = sub m.name h
body_more acted more sub _ h = tt

effect_more : (acted more : Acted) → ((name : SegName) → acted name → more name) → (e : Effect) → EffectSo acted e → EffectSo more e
effect_more acted more sub (Send to m) h = body_more acted more sub m h
effect_more acted more sub (Answers item answer) h = tt
effect_more acted more sub (Lose seg) h = tt
effect_more acted more sub (Does act) h = tt

act_more : (outs more : List Effect) → ((name : SegName) → IsSaid outs name → IsSaid more name) → (act : Act) → ActSaid outs act → ActSaid more act
act_more outs more sub (Dropped name) h = sub name h
act_more outs more sub _ h = tt

said_more : (outs more : List Effect) → ((name : SegName) → IsSaid outs name → IsSaid more name) → (e : Effect) → EffectSaid outs e → EffectSaid more e
said_more outs more sub (Send to m) h = tt
said_more outs more sub (Answers item answer) h = tt
said_more outs more sub (Lose seg) h = tt
said_more outs more sub (Does act) h = act_more outs more sub act h

-- ---- the segment in hand

-- where it is dropped, that was acted
abbrev pub FlagSo : Acted → Option Hand → Type 0
FlagSo acted None = Unit {0}
FlagSo acted (Some hand) = hand.dropped ≡ true → acted hand.seg.name

pub record JobSo (acted : Acted) (job : Job) : Type 0 where
  pub flag : FlagSo acted job.hand
  pub phase : PhaseSo job.hand job.cleaning.phase

abbrev pub JobIn : Acted → Option Job → Type 0
JobIn acted None = Unit {0}
JobIn acted (Some job) = JobSo acted job

abbrev pub So : Acted → Phase → Type 0
So acted (Down l) = Unit {0}
So acted (Opening l o) = Unit {0}
So acted (Serving e) = JobIn acted e.job

pub flag_more : (acted more : Acted) → ((name : SegName) → acted name → more name) → (hand : Option Hand) → FlagSo acted hand → FlagSo more hand
flag_more acted more sub None h = tt
flag_more acted more sub (Some hand) h = λ dropped. sub hand.seg.name (h dropped)

job_more : (acted more : Acted) → ((name : SegName) → acted name → more name) → (job : Option Job) → JobIn acted job → JobIn more job
job_more acted more sub None h = tt
job_more acted more sub (Some job) h = record { flag = flag_more acted more sub job.hand h.flag; phase = h.phase }

pub so_more : (acted more : Acted) → ((name : SegName) → acted name → more name) → (p : Phase) → So acted p → So more p
so_more acted more sub (Down l) h = tt
so_more acted more sub (Opening l o) h = tt
so_more acted more sub (Serving e) h = job_more acted more sub e.job h

-- ---- what it does

-- what it tells servers to delete was dropped before, or is in what it does; and what it drops it tells them to delete
pub record Goes (acted : Acted) (d : Went_to) : Type 0 where
  pub state : So (Also acted d.outs) d.state
  pub effects : AllByRecursion (EffectSo (Also acted d.outs)) d.outs
  pub said : AllByRecursion (EffectSaid d.outs) d.outs

pub quiet_goes : (acted : Acted) (d : Went_to) → So acted d.state → AllByRecursion Quiet d.outs → Goes acted d
quiet_goes acted d h quiet = record {
  state = so_more acted (Also acted d.outs) (λ name a. inl a) d.state h;
  effects = all_weaker Quiet (EffectSo (Also acted d.outs)) (effect_quiet (Also acted d.outs)) d.outs quiet;
  said = all_weaker Quiet (EffectSaid d.outs) (said_quiet d.outs) d.outs quiet;
}

module _ (acted : Acted) (d e : Went_to) where
  abbrev both : List Effect
  both = d.outs ++ e.outs

  joined : (name : SegName) → Also (Also acted d.outs) e.outs name → Also acted both name
  joined name (inl (inl before)) = inl before
  joined name (inl (inr first)) = inr (in_front d.outs e.outs (Does (Dropped name)) first)
  joined name (inr later) = inr (in_back d.outs e.outs (Does (Dropped name)) later)

  first_said : (name : SegName) → IsSaid d.outs name → IsSaid both name
  first_said name h = record { to = h.to; among = in_front d.outs e.outs _ h.among }

  later_said : (name : SegName) → IsSaid e.outs name → IsSaid both name
  later_said name h = record { to = h.to; among = in_back d.outs e.outs _ h.among }

  pub goes_on : Goes acted d → Goes (Also acted d.outs) e → Goes acted (saying d.outs e)
  goes_on g h = record {
    state = so_more (Also (Also acted d.outs) e.outs) (Also acted both) joined e.state h.state;
    effects = all_append (EffectSo (Also acted both)) d.outs e.outs
        (all_weaker (EffectSo (Also acted d.outs)) (EffectSo (Also acted both))
        (effect_more (Also acted d.outs) (Also acted both) (λ name a. joined name (inl a))) d.outs g.effects)
        (all_weaker (EffectSo (Also (Also acted d.outs) e.outs)) (EffectSo (Also acted both))
        (effect_more (Also (Also acted d.outs) e.outs) (Also acted both) joined) e.outs h.effects);
    said = all_append (EffectSaid both) d.outs e.outs
        (all_weaker (EffectSaid d.outs) (EffectSaid both) (said_more d.outs both first_said) d.outs g.said)
        (all_weaker (EffectSaid e.outs) (EffectSaid both) (said_more e.outs both later_said) e.outs h.said);
  }
