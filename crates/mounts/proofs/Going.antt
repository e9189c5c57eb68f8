-- Applications that go on: they call where they may.
use Rattle.std.proofs.Common.{◌≡◌, refl, sym, ap, subst, ◌∙◌, ℕ, ◌<◌, Bool, true, false, ◌||◌, List, length, Some, None}
use Rattle.std.specs.Prelude.{slice_get}
use Rattle.std.proofs.lemmas.Option.{slice_get_within}
use Rattle.world_base.specs.declared.due.Due.{Due}
use Rattle.mounts.specs.declared.reply.Reply.{Reply}
use Rattle.mounts.specs.Turns.{GoesOn, Takes, application_call, may_call, may_call_it}

-- where an application may call there is an item that it hasn't called
more_to_call : (dues : List Due) (calls replies : ℕ) → may_call dues calls replies ≡ true → calls < length dues
more_to_call dues calls replies may =
    elim (slice_get dues calls) as (λ o. slice_get dues calls ≡ o → may_call_it o calls replies ≡ true → calls < length dues) [
      | None ↦ λ e h. absurd (cc)
      | Some due ↦ λ e h. slice_get_within dues calls due e
    ] refl may

or_itself : (t : Bool) → t ≡ (t || false)
or_itself true = refl
or_itself false = refl

or_called : (t : Bool) → true ≡ (t || true)
or_called true = refl
or_called false = refl

module _ (dues held : List Due) (are : held ≡ dues) (took : Bool) (calls mid : List ℕ) (replies new_replies : List Reply) (taken : Takes took replies new_replies) (same : mid ≡ calls) where
  may_is : (t : Bool) → may_call held (length mid) (length new_replies) ≡ t → may_call dues (length calls) (length new_replies) ≡ t
  may_is t is =
      subst (λ (ds : List Due). may_call ds (length calls) (length new_replies) ≡ t) are
      (subst (λ (cs : List ℕ). may_call held (length cs) (length new_replies) ≡ t) same is)

  -- it may not
  pub took_alone : may_call held (length mid) (length new_replies) ≡ false → GoesOn dues took calls mid replies new_replies
  took_alone not =
      let may = may_is false not in
      record {
        took = took;
        taken = taken;
        called = same ∙ sym (ap (λ t. application_call t calls) may);
        either = or_itself took ∙ sym (ap (λ t. took || t) may);
      }

  -- it may, and it does
  pub took_and_called : (new : List ℕ) → may_call held (length mid) (length new_replies) ≡ true → (length mid < length held → new ≡ application_call true mid)
      → GoesOn dues true calls new replies new_replies
  took_and_called new is calls_on =
      let may = may_is true is in
      record {
        took = took;
        taken = taken;
        called = calls_on (more_to_call held (length mid) (length new_replies) is) ∙ ap (application_call true) same ∙ sym (ap (λ t. application_call t calls) may);
        either = or_called took ∙ sym (ap (λ t. took || t) may);
      }
