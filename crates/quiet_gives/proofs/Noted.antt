-- The recalls of a want, of which the first have been answered: the answer of the next client is noted, and only that of the last makes the want ready.
use Rattle.std.proofs.Common.{◌≡◌, ℕ, ◌+◌, ◌≤◌, ◌==◌, ◌&&◌, ◌||◌, Bool, true, false, cond, not, nat_le, List, [], ◌∷◌, ◌++◌, Option, Some, None, is_some, refl, sym, ap, ◌∙◌, append_assoc, arith}
use Rattle.std.specs.List.{list_any}
use Rattle.std.proofs.lemmas.Bool.{false≢true}
use Rattle.std.proofs.lemmas.List.Folds.{list_all-append, list_any-append}
use Rattle.slot_beliefs.specs.declared.job.Awaited.{Awaited}
use Rattle.slot_beliefs.specs.Recalls.{answers, applied_of, is_applied, is_ready, noted, recalls, stamp}
use Rattle.xfs_base.proofs.Booleans.{and_first, and_second}
use Rattle.xfs_base.specs.declared.token.Stamp.{Stamp}
use Rattle.quiet_nodes.proofs.Tests.{and_none, other_test, same_test}

-- ---- tests

never_ended : (x y w : Bool) → (x && y && w && not true) ≡ false
never_ended true true true = refl
never_ended true true false = refl
never_ended true false w = refl
never_ended false y w = refl

never_of_turn : (x y w : Bool) → (x && y && false && w) ≡ false
never_of_turn true true w = refl
never_of_turn true false w = refl
never_of_turn false y w = refl

or_true : (t : Bool) → (t || true) ≡ true
or_true true = refl
or_true false = refl

ended : (applied : List ℕ) (client : ℕ) (end : Option ℕ) → is_applied applied client end ≡ true → is_some end ≡ true
ended applied client None h = absurd (false≢true h)
ended applied client (Some end) h = refl

-- ---- what is noted

noted_both : (client : ℕ) (st : Stamp) (end : ℕ) (xs ys : List Awaited) → noted (xs ++ ys) client st end ≡ noted xs client st end ++ noted ys client st end
noted_both client st end [] ys = refl
noted_both client st end (a ∷ xs) ys = ap (λ rest. cond (answers client st a) (record a { end = Some end }) a ∷ rest) (noted_both client st end xs ys)

-- what has been answered is not answered again
noted_done : (applied : List ℕ) (client : ℕ) (st : Stamp) (end : ℕ) (done : List Awaited) → is_ready applied done ≡ true → noted done client st end ≡ done
noted_done applied client st end [] ready = refl
noted_done applied client st end (a ∷ done) ready =
    ap (λ t. cond t (record a { end = Some end }) a ∷ noted done client st end)
    (ap (λ t. (a.client == client) && (a.stamp.epoch == st.epoch) && (a.stamp.turn == st.turn) && not t)
    (ended applied a.client a.end (and_first (is_applied applied a.client a.end) (is_ready applied done) ready))
    ∙ never_ended (a.client == client) (a.stamp.epoch == st.epoch) (a.stamp.turn == st.turn))
    ∙ ap (λ rest. a ∷ rest) (noted_done applied client st end done (and_second (is_applied applied a.client a.end) (is_ready applied done) ready))

-- nor are recalls under later turns
noted_later : (keep : Bool) (client turn end from : ℕ) (ds : List ℕ) → turn ≤ from → noted (recalls 1 from keep ds) client (stamp 1 turn) end ≡ recalls 1 from keep ds
noted_later keep client turn end from [] before = refl
noted_later keep client turn end from (d ∷ ds) before =
    ap (λ t. cond t (record first { end = Some end }) first ∷ noted (recalls 1 (from + 1) keep ds) client (stamp 1 turn) end)
    (ap (λ t. (d == client) && true && t && true) (other_test (from + 1) turn (λ same. omega arith)) ∙ never_of_turn (d == client) true true)
    ∙ ap (λ rest. first ∷ rest) (noted_later keep client turn end (from + 1) ds (omega arith))
  where
    first : Awaited
    first = record { client = d; stamp = stamp 1 (from + 1); keep = keep; end = None }

module _ (applied : List ℕ) (keep : Bool) (turn d end : ℕ) where
  -- the recall of a client, answered
  abbrev pub named : Awaited
  named = record { client = d; stamp = stamp 1 (turn + 1); keep = keep; end = Some end }

  abbrev unnamed : Awaited
  unnamed = record { client = d; stamp = stamp 1 (turn + 1); keep = keep; end = None }

  answers_it : answers d (stamp 1 (turn + 1)) unnamed ≡ true
  answers_it = rw (same_test d, same_test (turn + 1)) refl

  pub answers_one : (done : List Awaited) (ds : List ℕ) → list_any (answers d (stamp 1 (turn + 1))) (done ++ recalls 1 turn keep (d ∷ ds)) ≡ true
  answers_one done ds =
      list_any-append (answers d (stamp 1 (turn + 1))) done (recalls 1 turn keep (d ∷ ds))
      ∙ ap (λ t. list_any (answers d (stamp 1 (turn + 1))) done || (t || list_any (answers d (stamp 1 (turn + 1))) (recalls 1 (turn + 1) keep ds))) answers_it
      ∙ or_true (list_any (answers d (stamp 1 (turn + 1))) done)

  pub noted_next : (done : List Awaited) (ds : List ℕ) → is_ready applied done ≡ true
      → noted (done ++ recalls 1 turn keep (d ∷ ds)) d (stamp 1 (turn + 1)) end ≡ (done ++ named ∷ []) ++ recalls 1 (turn + 1) keep ds
  noted_next done ds ready =
      noted_both d (stamp 1 (turn + 1)) end done (recalls 1 turn keep (d ∷ ds))
      ∙ ap (λ xs. xs ++ noted (recalls 1 turn keep (d ∷ ds)) d (stamp 1 (turn + 1)) end) (noted_done applied d (stamp 1 (turn + 1)) end done ready)
      ∙ ap (λ t. done ++ (cond t named unnamed ∷ noted (recalls 1 (turn + 1) keep ds) d (stamp 1 (turn + 1)) end)) answers_it
      ∙ ap (λ xs. done ++ (named ∷ xs)) (noted_later keep d (turn + 1) end (turn + 1) ds (omega arith))
      ∙ sym (append_assoc done (named ∷ []) (recalls 1 (turn + 1) keep ds))

  -- what is answered, and applied, is ready
  pub ready_next : (done : List Awaited) → is_ready applied done ≡ true → nat_le end (applied_of applied d) ≡ true → is_ready applied (done ++ named ∷ []) ≡ true
  ready_next done ready upto =
      list_all-append (λ (a : Awaited). is_applied applied a.client a.end) done (named ∷ [])
      ∙ ap (λ t. t && (nat_le end (applied_of applied d) && true)) ready
      ∙ ap (λ t. t && true) upto

-- what awaits one more is not
pub not_ready : (applied : List ℕ) (keep : Bool) (turn d : ℕ) (ds : List ℕ) (xs : List Awaited) → is_ready applied (xs ++ recalls 1 turn keep (d ∷ ds)) ≡ false
not_ready applied keep turn d ds xs =
    list_all-append (λ (a : Awaited). is_applied applied a.client a.end) xs (recalls 1 turn keep (d ∷ ds)) ∙ and_none (is_ready applied xs)
