-- What is filed of a log tells of each block once, after an event as before it: what is new was in flight when its owner served last, or says nothing.
use Rattle.std.proofs.Common.{◌≡◌, ◌⊎◌, ◌≤◌, ◌<◌, ℕ, suc, Bool, true, false, List, [], Option, Some, nat_le, inl, inr, refl, sym, ap, subst, ◌∙◌, arith}
use Rattle.std.proofs.lemmas.Bool.Decides.{nat_tests}
use Rattle.std.specs.Prelude.{IfSome}
use Rattle.client_log.specs.LogState.{LogState}
use Rattle.headline.specs.Filed.{Filed}
use Rattle.index_tie.specs.Growth.{IsMore}
use Rattle.log_flight.specs.Flights.{FlightState}
use Rattle.log_law.specs.Events.Runs.{On}
use Rattle.log_law.specs.Laws.{IsAttemptOf, OneNameOneText, OneText}
use Rattle.log_law.specs.Net.{Net}
use Rattle.log_law.specs.Restarts.{EndsRestart, is_serving, is_writing, last_flight}
use Rattle.log_law.specs.Tails.{ARestartFilesTheTail, TellsOnlyTheTail}
use Rattle.log_protocol.specs.Tables.{In}
use Rattle.log_tie.specs.Setting.{Setting}
use Rattle.node_slots.proofs.owner_index_tie.Growing.{head_is, segment_is}
use Rattle.node_slots.specs.owner_index_tie.Filing.{IsSameLog}
use Rattle.run_laws.specs.reopening_law.Reopens.{Reopens}
use Rattle.segment_format.specs.declared.segment.Segment.{Segment}
use Rattle.run_laws.specs.segment_tie.Segments.{TellsOnce}
use Rattle.run_laws.specs.world_lines.Lines.{IsLine}
use Rattle.run_laws.specs.world_lines.Polls.{GoesOnByFlight}

-- what is filed of the log does so
abbrev pub AllTell : ℕ → Filed → Type 0
AllTell l f = (q : ℕ) → 0 < q → q ≤ f.head l → TellsOnce (f.segment l q)

pub tells_same : (l : ℕ) (f h : Filed) → IsSameLog l f h → AllTell l f → AllTell l h
tells_same l f h same old q some limit =
    let upto : q ≤ f.head l = (let e = same.head in omega arith) in subst TellsOnce (sym (same.segment q some upto)) (old q some upto)

-- while its owner serves
pub tells_serving : (l : ℕ) (s : LogState) (f h : Filed) → IsMore f h → GoesOnByFlight l s f h → IfSome s.flight (λ x. TellsOnce x.segment) → AllTell l f
    → AllTell l h
tells_serving l s f h more (inl same) flight old q some limit = subst (AllTell l) (sym same) old q some limit
tells_serving l s f h more (inr (x, flies, next)) flight old q some limit = by (nat_le q (f.head l)) refl
  where
    by : (b : Bool) → nat_le q (f.head l) ≡ b → TellsOnce (h.segment l q)
    by true upto =
        let u : q ≤ f.head l = grind (arith, nat_tests, upto) in subst TellsOnce (sym (more.segment l q some u)) (old q some u)
    by false past =
        let p : f.head l < q = grind (arith, nat_tests, past) in
        let high : h.head l ≡ suc (f.head l) = ap (λ (y : Filed). y.head l) next ∙ head_is l f x.segment in
        let at_next : suc (f.head l) ≡ q = omega arith in
        let fact : h.segment l (suc (f.head l)) ≡ x.segment = ap (λ (y : Filed). y.segment l (suc (f.head l))) next ∙ segment_is l f x.segment in
        subst (λ (y : ℕ). TellsOnce (h.segment l y)) at_next
        (subst TellsOnce (sym fact) (subst (λ (o : Option FlightState). IfSome o (λ x. TellsOnce x.segment)) flies flight))

-- where a restart ends: of this kind what was in flight is, and any other attempt of it
module _ (text : OneNameOneText) (only : ARestartFilesTheTail) (Kind : Segment → Type 0) (alike : (s t : Segment) → s.items ≡ t.items → Kind s → Kind t)
    (once : (s : Segment) → Kind s → TellsOnce s)
    (nothing : (s : Segment) → s.items ≡ [] → TellsOnce s) where
  pub tells_reopened : (g : Setting) (l : ℕ) (n o : Net) (chain : List Segment) (s r : LogState) (e : Reopens g n o chain s r) (f h : Filed) → IsMore f h
      → IsLine l n f → IsLine l o h → IfSome (last_flight e.moment.run) (λ x. Kind x.segment) → AllTell l f → AllTell l h
  tells_reopened g l n o chain s r e f h more line later flight old q some limit =
      by (only g n o e.sure e.moment e.happens e.calm ends it.name (later.lined.filed q some limit))
    where
      it : Segment
      it = h.segment l q

      ends : EndsRestart n o
      ends = (ap is_writing e.writes, ap is_serving e.serves)

      texts : OneText g o
      texts = text g o (record { map = e.moment.map; whole = e.moment.whole; run = On e.moment.run e.happens })

      told : (t : Segment) → In t o.flown → t.name ≡ it.name
          → (g.content t.items ≡ 0) ⊎ ((x : FlightState) × (last_flight e.moment.run ≡ Some x) × IsAttemptOf g x t)
          → TellsOnce it
      told t flown named (inl none) = subst TellsOnce (texts.one t it flown (later.lined.flown q some limit) named)
          (nothing t (e.apart t.items [] (none ∙ sym g.no_content)))
      told t flown named (inr (x, was, attempt)) = subst TellsOnce (texts.one t it flown (later.lined.flown q some limit) named)
          (once t (alike x.segment t (sym (e.apart t.items x.segment.items attempt.content))
          (subst (λ (y : Option FlightState). IfSome y (λ x. Kind x.segment)) was flight)))

      by : In it.name n.filed ⊎ TellsOnlyTheTail e.moment o it.name → TellsOnce it
      by (inl was) =
          let low = (line.all it.name was).1 in
          let seq = later.lined.seq q some limit in
          let upto : q ≤ f.head l = omega arith in
          subst TellsOnce (sym (more.segment l q some upto)) (old q some upto)
      by (inr (t, flown, named, which)) = told t flown named which
