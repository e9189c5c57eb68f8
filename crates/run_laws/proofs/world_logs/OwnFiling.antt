-- How far the log of one client is filed by that client itself: whoever tells nothing of that log tells of nothing further, whatever it acts to be filed.
use Rattle.std.proofs.Common.{◌≡◌, ℕ, ◌==◌, ◌≤◌, max, Bool, true, false, List, [], ◌∷◌, ◌++◌, Some, if◌then◌else◌, sym, ap, subst, arith}
use Rattle.std.proofs.lemmas.Bool.{eqb-true, ne_eqb}
use Rattle.cleaner_node.specs.declared.cleaner.Phase as cleaner_phases
use Rattle.cleaner_node.specs.declared.cleaner.Phase.TheVariants as cleaning
use Rattle.cleaner_job.specs.Starting.{cleaner_log}
use Rattle.client_node.specs.declared.phase.Phase.{Phase}
use Rattle.client_node.specs.declared.phase.Phase.TheVariants as clients
use Rattle.client_node.specs.Phases.{lasting_of}
use Rattle.run_laws.proofs.filed_law.Reaching.{acts_rise, filed_reached, filed_rises}
use Rattle.run_laws.specs.filed_law.FiledUpto.{filed_upto}
use Rattle.node_tellings.specs.filed_tie.CleanerReach as cleaner_reach
use Rattle.node_tellings.specs.filed_tie.ClientReach as client_reach
use Rattle.node_tellings.specs.filed_tie.OpeningReach.{OpeningReaches, StageReaches}
use Rattle.node_tellings.specs.filed_tie.Reach.{ActReached, ActsReach, BodyTells, LogReaches, Reach, Rises}
use Rattle.log_owner.specs.declared.opening.Opening.{Opening}
use Rattle.log_owner.specs.declared.opening.Stage.{Stage}
use Rattle.log_owner.specs.declared.opening.Stage.TheVariants as stage
use Rattle.manager_serving.specs.Serving.{fed_log}
use Rattle.version_model.specs.declared.act.Act.{Act}
use Rattle.version_model.specs.declared.act.Act.TheVariants.{Filed}
use Rattle.wire_msg.specs.declared.body.Body.{Body}
use Rattle.wire_msg.specs.declared.body.Body.TheVariants as body
use Rattle.xfs_base.proofs.Booleans.{by_test, equal_itself}
use Rattle.xfs_base.specs.declared.node.NodeId.{NodeId}
use Rattle.xfs_base.specs.declared.segment.LogId.{LogId}

through : (a b c : ℕ) → a ≤ b → b ≤ c → a ≤ c
through a b c h k = omega (arith, h, k)

first_most : (a b : ℕ) → a ≤ max a b
first_most a b = omega arith

second_most : (a b : ℕ) → b ≤ max a b
second_most a b = omega arith

itself_most : (a : ℕ) → max a a ≤ a
itself_most a = omega arith

-- of the client's log the number up to which the client filed it, by what it did; of each other log the one up to which it is filed by all acts
abbrev pub owned : ℕ → List Act → List Act → Reach
owned c told acts log = if log == c then filed_upto told c else filed_upto acts log

-- the further of that and what is filed by all acts
abbrev pub wide : ℕ → List Act → List Act → Reach
wide c told acts log = max (owned c told acts log) (filed_upto acts log)

module _ (c : ℕ) where
  pub owned_itself : (told acts : List Act) → owned c told acts c ≡ filed_upto told c
  owned_itself told acts = ap (λ t. if t then filed_upto told c else filed_upto acts c) (equal_itself c)

  other_log : (told acts : List Act) (log : ℕ) → (log ≡ c → ⊥) → owned c told acts log ≡ filed_upto acts log
  other_log told acts log other = ap (λ t. if t then filed_upto told c else filed_upto acts log) (ne_eqb log c other)

  pub owned_rises : (told more acts further : List Act) → Rises (owned c told acts) (owned c (told ++ more) (acts ++ further))
  owned_rises told more acts further log = both (log == c)
    where
      both : (t : Bool) → (if t then filed_upto told c else filed_upto acts log) ≤ (if t then filed_upto (told ++ more) c else filed_upto (acts ++ further) log)
      both true = filed_rises told more c
      both false = filed_rises acts further log

  -- ---- what the client does itself

  act_own : (told acts : List Act) (act : Act) → ActReached (filed_upto told) act → ActReached (filed_upto acts) act → ActReached (owned c told acts) act
  act_own told acts (Filed name) own all =
      by_test (λ (n : ℕ). name.seq ≤ n) (name.log.0 == c) (filed_upto told c) (filed_upto acts name.log.0)
      (λ t. subst (λ log. name.seq ≤ filed_upto told log) (eqb-true name.log.0 c t) own) (λ t. all)
  act_own told acts _ own all = tt

  acts_own : (told acts those : List Act) → ActsReach (filed_upto told) those → ActsReach (filed_upto acts) those → ActsReach (owned c told acts) those
  acts_own told acts [] own all = tt
  acts_own told acts (act ∷ those) own all = (act_own told acts act own.0 all.0, acts_own told acts those own.1 all.1)

  pub own_acts : (told acts more : List Act) → ActsReach (owned c (told ++ more) (acts ++ more)) more
  own_acts told acts more = acts_own (told ++ more) (acts ++ more) more (filed_reached told more) (filed_reached acts more)

  -- ---- what another does

  pub wide_rises : (told more acts further : List Act) → Rises (owned c told acts) (wide c (told ++ more) (acts ++ further))
  wide_rises told more acts further log =
      through (owned c told acts log) (owned c (told ++ more) (acts ++ further) log) (wide c (told ++ more) (acts ++ further) log)
      (owned_rises told more acts further log) (first_most (owned c (told ++ more) (acts ++ further) log) (filed_upto (acts ++ further) log))

  pub wide_acts : (told acts more : List Act) → ActsReach (wide c told (acts ++ more)) more
  wide_acts told acts more =
      acts_rise (filed_upto (acts ++ more)) (wide c told (acts ++ more))
      (λ log. second_most (owned c told (acts ++ more) log) (filed_upto (acts ++ more) log)) more
      (filed_reached acts more)

  -- of another log it is no further
  pub narrow : (told acts : List Act) (log : ℕ) → (log ≡ c → ⊥) → wide c told acts log ≤ owned c told acts log
  narrow told acts log other =
      subst (λ n. max n (filed_upto acts log) ≤ n) (sym (other_log told acts log other)) (itself_most (filed_upto acts log))

-- ---- who tells of one log alone

-- no horizon is in it
abbrev pub NoHorizon : Body → Type 0
NoHorizon (body.CkptDone m) = ⊥
NoHorizon (body.MapNews m) = ⊥
NoHorizon (body.Welcome m) = ⊥
NoHorizon _ = Unit {0}

module _ (high low : Reach) (log : ℕ) (less : high log ≤ low log) where
  abbrev one_log : LogId
  one_log = record { 0 = log }

  lower : (n m : ℕ) → m ≡ log → n ≤ high m → n ≤ low m
  lower n m fact h = subst (λ l. n ≤ low l) (sym fact) (through n (high log) (low log) (subst (λ l. n ≤ high l) fact h) less)

  from_lower : (from : NodeId) → fed_log from ≡ Some one_log → (n : ℕ) → LogReaches high (fed_log from) n → LogReaches low (fed_log from) n
  from_lower from fact n h =
      subst (λ l. LogReaches low l n) (sym fact) (through n (high log) (low log) (subst (λ l. LogReaches high l n) fact h) less)

  pub body_lower : (from : NodeId) → fed_log from ≡ Some one_log → (m : Body) → NoHorizon m → BodyTells high from m → BodyTells low from m
  body_lower from fact (body.Deltas m) none h = from_lower from fact m.upto h
  body_lower from fact (body.Report m) none h = from_lower from fact m.end.seq h
  body_lower from fact (body.CkptDone m) none h = absurd none
  body_lower from fact (body.MapNews m) none h = absurd none
  body_lower from fact (body.Welcome m) none h = absurd none
  body_lower from fact _ none h = tt

  stage_lower : (at : Stage) → StageReaches high log at → StageReaches low log at
  stage_lower (stage.Scanning s) h = record { own = h.own; low = λ some. (let a = h.low some in omega (arith, a, less)); chain = h.chain }
  stage_lower (stage.Settling s) h = record { low = (let a = h.low in omega (arith, a, less)); chain = h.chain }

  opening_lower : (o : Opening) → OpeningReaches high log o → OpeningReaches low log o
  opening_lower o h = record { own = h.own; stage = stage_lower o.stage h.stage }

  pub client_lower : (p : Phase) → (lasting_of p).number ≡ log → client_reach.PhaseReaches high p → client_reach.PhaseReaches low p
  client_lower (clients.Down l) fact h = tt
  client_lower (clients.Opening l o) fact h = subst (λ n. OpeningReaches low n o) (sym fact) (opening_lower o (subst (λ n. OpeningReaches high n o) fact h))
  client_lower (clients.Serving s) fact h =
      record { end = lower s.log.end.seq s.lasting.number fact h.end; feed = lower s.feed.end s.lasting.number fact h.feed }

  pub cleaner_lower : (p : cleaner_phases.Phase) → cleaner_log.0 ≡ log → cleaner_reach.PhaseReaches high p → cleaner_reach.PhaseReaches low p
  cleaner_lower (cleaning.Down l) fact h = tt
  cleaner_lower (cleaning.Opening l o) fact h = subst (λ n. OpeningReaches low n o) (sym fact) (opening_lower o (subst (λ n. OpeningReaches high n o) fact h))
  cleaner_lower (cleaning.Serving e) fact h =
      record { end = lower e.log.end.seq cleaner_log.0 fact h.end; feed = lower e.feed.end cleaner_log.0 fact h.feed }
