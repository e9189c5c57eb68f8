use Rattle.std.proofs.Common.{[], ◌∷◌, get_or, take, sym, ap, subst, ◌∙◌}
use Rattle.std.proofs.lemmas.List.{take_more}
use Rattle.version_model.specs.Effects.{after_act, history_after}
use Rattle.version_model.specs.History.{nothing_yet}
use Rattle.version_model.specs.Legal.{AreLegal, IsLegalIn}
use Rattle.version_model.proofs.Onward.{history_through, legal_more}
use Rattle.version_model.proofs.judge.legal.Goals as goal

pub loop-place-preserved : goal.loop-place-preserved
loop-place-preserved c =
    let act = c.index-acts-place.result in
    let now = take_more c.args.acts.now c.loop-place.place act c.loop-place-test.true in
    let fact = c.index-acts-place.is in
    let here = get_or c.args.acts.now c.loop-place.place act in
    record {
      shows = c.in_ok-take.ensures ∙ ap (after_act act) c.loop-place.invariant.shows
          ∙ ap (λ a. after_act a (history_after (take c.loop-place.place c.args.acts.now) nothing_yet)) fact
          ∙ sym (history_through (take c.loop-place.place c.args.acts.now) (here ∷ []) nothing_yet) ∙ ap (λ acts. history_after acts nothing_yet) (sym now);
      legal = subst AreLegal (sym now)
          (legal_more nothing_yet _ here c.loop-place.invariant.legal
          (subst (λ a. IsLegalIn a (history_after (take c.loop-place.place c.args.acts.now) nothing_yet)) fact
          (subst (IsLegalIn act) c.loop-place.invariant.shows (c.is_legal.ensures.0 c.if-not-is_legal.false))));
    }
