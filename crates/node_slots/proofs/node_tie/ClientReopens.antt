-- A log that is opened again, in the books: nothing is in flight, and beyond its end nothing is said; and acts that change no history leave what its chain
-- adopts.
use Rattle.std.proofs.Common.{◌≡◌, ℕ, zero, suc, ◌<◌, ◌==◌, Bool, true, false, List, [], ◌∷◌, ◌++◌, Option, None, inl, refl, sym, ap, subst, ◌∙◌, arith}
use Rattle.std.specs.List.{AllByRecursion}
use Rattle.std.proofs.lemmas.Bool.Decides.{nat_tests}
use Rattle.std.proofs.lemmas.Bool.{eqb-true}
use Rattle.act_tie.specs.BlockActs.{is_adopted}
use Rattle.client_log.specs.LogState.{LogState}
use Rattle.log_flight.specs.declared.dirty.Change.{Change}
use Rattle.log_flight.specs.Flights.{FlightState}
use Rattle.token_client.specs.State.{tokens_start}
use Rattle.token_law.specs.Books.{Books, sealed, filed, discarded, reopened, with_empty}
use Rattle.token_law.specs.Owed.{IsNeutral, adopts}
use Rattle.token_protocol.specs.Basics.{put}
use Rattle.version_model.specs.declared.act.Act.{Act}
use Rattle.version_model.specs.declared.act.Act.TheVariants as act
use Rattle.version_model.specs.Effects.{after_act, history_after}
use Rattle.version_model.specs.History.{History, nothing_yet}
use Rattle.version_model.proofs.Onward.{history_through}
use Rattle.xfs_base.proofs.Booleans.{contrary}
use Rattle.xfs_base.specs.declared.block.BlockId.{BlockId}
use Rattle.xfs_base.specs.declared.segment.SegName.{SegName}
use Rattle.node_slots.specs.node_tie.ClientLogs.{LogAgrees, NothingBeyond}
use Rattle.node_slots.specs.node_tie.Sight.{SameLog}
use Rattle.node_slots.proofs.node_tie.ClientBooks.{put_here, put_there, same_log, same_log_on, said_still, filed_end, other_sealed, other_filed}
use Rattle.node_slots.proofs.node_tie.ClientRows.{Rows}

-- ---- the books

-- nothing of the log is in flight, and beyond its end nothing is said
pub record Rests (k : Books) (c : ℕ) : Type 0 where
  pub flying : k.flying c ≡ false
  pub blank : (q : ℕ) → k.end c < q → k.rows c q ≡ []

pub rests_beyond : (k : Books) (c : ℕ) → Rests k c → NothingBeyond k c
rests_beyond k c h q past = h.blank q (omega (arith, past))

filed_rests : (k : Books) (c : ℕ) → NothingBeyond k c → Rests (filed k c) c
filed_rests k c h = record {
  flying = put_here k.flying c false;
  blank = λ q past. h q (subst (λ e. e < q) (filed_end k c) past);
}

discarded_rests : (k : Books) (c : ℕ) → NothingBeyond k c → Rests (discarded k c) c
discarded_rests k c h = record { flying = put_here k.flying c false; blank = λ q past. by_next q past (q == suc (k.end c)) refl }
  where
    row : (q : ℕ) → (discarded k c).rows c q ≡ put (k.rows c) (suc (k.end c)) [] q
    row q = ap (λ (f : ℕ → Rows). f q) (put_here k.rows c (put (k.rows c) (suc (k.end c)) []))

    further : (q e : ℕ) → (q == suc e) ≡ false → e < q → suc e < q
    further q e t past = grind (arith, nat_tests)

    apart : (q e : ℕ) → suc e < q → q ≡ suc e → ⊥
    apart q e past same = omega (arith, past, same)

    by_next : (q : ℕ) → k.end c < q → (t : Bool) → (q == suc (k.end c)) ≡ t → (discarded k c).rows c q ≡ []
    by_next q past true t =
        row q ∙ ap (put (k.rows c) (suc (k.end c)) []) (eqb-true q (suc (k.end c)) t) ∙ put_here (k.rows c) (suc (k.end c)) []
    by_next q past false t =
        row q ∙ put_there (k.rows c) (suc (k.end c)) [] q (apart q (k.end c) (further q (k.end c) t past)) ∙ h q (further q (k.end c) t past)

pub reopened_rests : (k : Books) (c : ℕ) (adopted : Bool) → NothingBeyond k c → Rests (reopened k c adopted) c
reopened_rests k c true h = filed_rests k c h
reopened_rests k c false h = discarded_rests k c h

one_empty : (k : Books) (c : ℕ) → Rests k c → Rests (filed (sealed k c []) c) c
one_empty k c h = record {
  flying = put_here (sealed k c []).flying c false;
  blank = λ q past. rest q (subst (λ e. e < q) (filed_end (sealed k c []) c) past);
}
  where
    apart : (q e : ℕ) → suc e < q → q ≡ suc e → ⊥
    apart q e past same = omega (arith, past, same)

    past_end : (q e : ℕ) → suc e < q → e < q
    past_end q e past = omega (arith, past)

    rest : (q : ℕ) → suc (k.end c) < q → (sealed k c []).rows c q ≡ []
    rest q past = said_still k c [] q (apart q (k.end c) past) ∙ h.blank q (past_end q (k.end c) past)

pub with_empty_rests : (count : ℕ) (k : Books) (c : ℕ) → Rests k c → Rests (with_empty count k c) c
with_empty_rests zero k c h = h
with_empty_rests (suc count) k c h = with_empty_rests count (filed (sealed k c []) c) c (one_empty k c h)

pub other_reopened : (k : Books) (c : ℕ) (adopted : Bool) (l : ℕ) → (l ≡ c → ⊥) → SameLog k (reopened k c adopted) l
other_reopened k c true l other = other_filed k c l other
other_reopened k c false l other = record {
  end = refl;
  flying = put_there k.flying c false l other;
  rows = put_there k.rows c (put (k.rows c) (suc (k.end c)) []) l other;
}

pub other_with_empty : (count : ℕ) (k : Books) (c l : ℕ) → (l ≡ c → ⊥) → SameLog k (with_empty count k c) l
other_with_empty zero k c l other = same_log k l
other_with_empty (suc count) k c l other =
    let m : Books = filed (sealed k c []) c in
    same_log_on k m (with_empty count m c) l (same_log_on k (sealed k c []) m l (other_sealed k c [] l other) (other_filed (sealed k c []) c l other))
    (other_with_empty count m c l other)

-- ---- a log in which nothing waits or flies, beside tokens of which nothing is known

module _ (k : Books) (c inc : ℕ) (epochs : List ℕ) (rests : Rests k c) where
  empty_agrees : (l : LogState) → l.end.seq ≡ k.end c → LogAgrees k c (tokens_start inc epochs) (record l { dirty = []; flight = None })
  empty_agrees l end = record {
    seen = record { end = sym end; flying = rests.flying; flight = tt };
    said = rests.blank (suc (k.end c)) (next (k.end c));
    beyond = rests_beyond k c rests;
    unsettled = record {
      waits_once = tt;
      flies_once = tt;
      waits_some = tt;
      flies_some = tt;
      each = λ b. record { newest = inl refl; unflown = inl refl; flown = inl refl; all = λ dirty. contrary dirty };
    };
  }
    where
      next : (e : ℕ) → e < suc e
      next e = omega arith

  pub opened_agrees : (l : LogState) → l.dirty ≡ [] → l.flight ≡ None → l.end.seq ≡ k.end c → LogAgrees k c (tokens_start inc epochs) l
  opened_agrees l waits flies end =
      subst (λ (d : List (BlockId × Change)). LogAgrees k c (tokens_start inc epochs) (record l { dirty = d })) (sym waits)
      (subst (λ (o : Option FlightState). LogAgrees k c (tokens_start inc epochs) (record l { dirty = []; flight = o })) (sym flies) (empty_agrees l end))

-- ---- acts that change no history

neutral_after : (a : Act) → IsNeutral a → (h : History) → after_act a h ≡ h
neutral_after (act.Lost node seg) fact h = refl
neutral_after (act.Filed seg) fact h = refl
neutral_after (act.Dropped seg) fact h = refl
neutral_after (act.Answered node item answer) fact h = refl
neutral_after _ fact h = absurd fact

neutral_history : (done : List Act) → AllByRecursion IsNeutral done → (h : History) → history_after done h ≡ h
neutral_history [] all h = refl
neutral_history (a ∷ done) all h = ap (history_after done) (neutral_after a all.0 h) ∙ neutral_history done all.1 h

pub adopts_same : (acts done : List Act) → AllByRecursion IsNeutral done → (c : ℕ) (chain : List SegName) → adopts (acts ++ done) c chain ≡ adopts acts c chain
adopts_same acts done all c chain =
    ap (λ (h : History). is_adopted chain (h.told c)) (history_through acts done nothing_yet ∙ neutral_history done all (history_after acts nothing_yet))
